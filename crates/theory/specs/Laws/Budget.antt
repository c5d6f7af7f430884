-- Costs on a list: every element can be had at some cost, and the costs add up to no more than a total.
use Rattle.std.specs.Prelude.{◌≡◌, refl, ◌⊎◌, ℕ, zero, suc, ◌+◌, ◌*◌, ◌≤◌, List, [], ◌∷◌, length}
use Rattle.std.proofs.Common.{sym, subst, inl, inr, le_refl, le_trans, arith}
use Rattle.std.proofs.Math.Decide.{dec_le}
use mathlib.Core.List.Memᴰ
use Rattle.theory.specs.Lists.{◌∈◌, At, Unrepeated}
use Rattle.theory.specs.Laws.Options.{some_inj, none≢some}
use Rattle.theory.specs.Laws.Lists.{drop_at, mem_drop_at, here, mem_at, at_equal}

module _ {X : Type 0} where
  -- C x n: the element x can be had at cost n
  abbrev pub Budget : (X → ℕ → Type 0) → List X → ℕ → Type 0
  Budget C [] total = Unit {0}
  Budget C (x ∷ xs) total = (n rest : ℕ) × C x n × (n + rest ≤ total) × Budget C xs rest

  pub budget_more : (C : X → ℕ → Type 0) (xs : List X) (m n : ℕ) → m ≤ n → Budget C xs m → Budget C xs n
  budget_more C [] m n l b = tt
  budget_more C (x ∷ xs) m n l (k, rest, c, h, b) = (k, rest, c, le_trans h l, b)

  pub budget_map : (C D : X → ℕ → Type 0) (xs : List X) (n : ℕ) → ((x : X) (k : ℕ) → x ∈ xs → C x k → D x k) → Budget C xs n → Budget D xs n
  budget_map C D [] n f b = tt
  budget_map C D (x ∷ xs) n f (k, rest, c, h, b) = (k, rest, f x k here c, h, budget_map C D xs rest (λ y j m. f y j (Memᴰ.tail m)) b)

  -- every element at one cost
  pub budget_all : (C : X → ℕ → Type 0) (n : ℕ) (xs : List X) → ((x : X) → x ∈ xs → C x n) → Budget C xs (length xs * n)
  budget_all C n [] f = tt
  budget_all C n (x ∷ xs) f = (n, length xs * n, f x here, omega arith, budget_all C n xs (λ y m. f y (Memᴰ.tail m)))

  -- one element taken out, with its cost
  take_out : (C : X → ℕ → Type 0) (xs : List X) (i : ℕ) {x : X} (total : ℕ) → At xs i x → Budget C xs total
      → (n rest : ℕ) × C x n × (n + rest ≤ total) × Budget C (drop_at xs i) rest
  take_out C [] i total e b = absurd (none≢some e)
  take_out C (y ∷ ys) zero total e (k, rest, c, h, b) = (k, rest, subst (λ w. C w k) (some_inj e) c, h, b)
  take_out C (y ∷ ys) (suc i) total e (k, rest, c, h, b) =
      let (n, rest', d, l, b') = take_out C ys i rest e b in (n, k + rest', d, omega arith, (k, rest', c, le_refl (k + rest'), b'))

  pub budget_at : (C : X → ℕ → Type 0) (xs : List X) {x : X} (total : ℕ) → x ∈ xs → Budget C xs total → (n : ℕ) × C x n
  budget_at C xs total m b = let (i, at) = mem_at m in let (n, rest, c, h, b') = take_out C xs i total at b in (n, c)

  -- and put back, perhaps at another cost
  pub put_back : (C : X → ℕ → Type 0) (xs : List X) (i : ℕ) {x : X} (n rest total : ℕ) → At xs i x → C x n → n + rest ≤ total
      → Budget C (drop_at xs i) rest → Budget C xs total
  put_back C [] i n rest total e c h b = tt
  put_back C (y ∷ ys) zero n rest total e c h b = (n, rest, subst (λ w. C w n) (sym (some_inj e)) c, h, b)
  put_back C (y ∷ ys) (suc i) n rest total e c h (k, rest', d, l, b) =
      (k, n + rest', d, omega arith, put_back C ys i n rest' (n + rest') e c (le_refl (n + rest')) b)

  -- an element of the greatest cost: no other costs more
  abbrev pub Greatest : (X → ℕ → Type 0) → List X → ℕ → Type 0
  Greatest C xs total =
      (i : ℕ) × (x : X) × (n rest : ℕ) × At xs i x × C x n × (n + rest ≤ total)
      × Budget (λ y k. C y k × (k ≤ n)) (drop_at xs i) rest

  greatest : (C : X → ℕ → Type 0) (x : X) (xs : List X) (total : ℕ) → Budget C (x ∷ xs) total → Greatest C (x ∷ xs) total
  greatest C x [] total (k, rest, c, h, b) = (zero, x, k, rest, refl, c, h, tt)
  greatest C x (y ∷ ys) total (k, rest, c, h, b) = go (greatest C y ys rest b)
    where
      go : Greatest C (y ∷ ys) rest → Greatest C (x ∷ y ∷ ys) total
      go (i, z, n, rest', at, d, l, others) = elim (dec_le n k) [
        | yes less ↦ (
          zero,
          x,
          k,
          rest,
          refl,
          c,
          h,
          put_back (λ w j. C w j × (j ≤ k)) (y ∷ ys) i n rest' rest at (d, less) l
              (budget_map (λ w j. C w j × (j ≤ n)) (λ w j. C w j × (j ≤ k)) (drop_at (y ∷ ys) i) rest'
              (λ w j m e. (e.0, le_trans e.1 less)) others),
        )
        | no more ↦ (suc i, z, n, k + rest', at, d, omega arith, (k, rest', (c, omega arith), le_refl (k + rest'), others))
      ]

  pub greatest_or_empty : (C : X → ℕ → Type 0) (xs : List X) (total : ℕ) → Budget C xs total → (xs ≡ []) ⊎ Greatest C xs total
  greatest_or_empty C [] total b = inl refl
  greatest_or_empty C (x ∷ xs) total b = inr (greatest C x xs total b)

-- A list without repeats costs no more than another one, where each of its elements comes from one of the other, at the same
-- cost, and no two come from one.
pub budget_transfer : {X Y : Type 0} (C : X → ℕ → Type 0) (D : Y → ℕ → Type 0) (From : X → Y → Type 0)
    → ((x : X) (y : Y) (n : ℕ) → From x y → C x n → D y n)
    → ((x : X) (y z : Y) → From x y → From x z → y ≡ z)
    → (xs : List X) (ys : List Y) (total : ℕ) → Unrepeated ys → ((y : Y) → y ∈ ys → (x : X) × (x ∈ xs) × From x y)
    → Budget C xs total → Budget D ys total
budget_transfer C D From cost one xs [] total u from b = tt
budget_transfer {X} {Y} C D From cost one xs (y ∷ ys) total u from b = (
  t.0,
  t.1,
  cost s.0 y t.0 s.2 t.2,
  t.3,
  budget_transfer C D From cost one (drop_at xs p.0) ys t.1 u.1 others t.4,
)
  where
    s : (x : X) × (x ∈ xs) × From x y
    s = from y here

    p : (i : ℕ) × At xs i s.0
    p = mem_at s.1

    t : (n rest : ℕ) × C s.0 n × (n + rest ≤ total) × Budget C (drop_at xs p.0) rest
    t = take_out C xs p.0 total p.1 b

    others : (z : Y) → z ∈ ys → (x : X) × (x ∈ drop_at xs p.0) × From x z
    others z m = let w = from z (Memᴰ.tail m) in let j = mem_at w.1 in (
      w.0,
      mem_drop_at xs p.0 j.0 j.1
          (λ e. u.0 (Memᴰ.cast (one s.0 y z s.2 (subst (λ x. From x z) (at_equal xs e j.1 p.1) w.2)) m)),
      w.2,
    )
