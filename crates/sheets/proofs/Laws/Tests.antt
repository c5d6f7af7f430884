-- What a test says when it passes and when it fails, from what its parts say; and the records of a sheet by their places.
use Rattle.std.specs.Prelude.{◌≡◌, ◌⊎◌, ◌↔◌, ℕ, suc, ◌≤◌, ◌<◌, Bool, true, false, not, ◌&&◌, ◌||◌, T, eqb, leb, ltb}
use Rattle.std.proofs.Common.{sym, arith, leb→le, le→leb}
use Rattle.std.proofs.Math.Logic.{inl, inr}
use Rattle.std.proofs.Math.Logic.Iff
use mathlib.Core.List.Memᴰ
use mathlib.Core.List.{List, [], ◌∷◌}
use Rattle.std.proofs.Math.Dec.{nleb→lt}
use Rattle.theory.specs.Lists.{◌∈◌, pick, any, all}
use Rattle.theory.specs.Laws.Options.{T_no, T_eqb, either, same_test}
use Rattle.theory.specs.Laws.Lists.{here, all_iff, any_same}

-- ---- sums

pub sum_iff : {A B C D : Type 0} → A ↔ C → B ↔ D → (A ⊎ B) ↔ (C ⊎ D)
sum_iff h k = (elim [ inl a ↦ inl (h.0 a) | inr b ↦ inr (k.0 b) ], elim [ inl c ↦ inl (h.1 c) | inr d ↦ inr (k.1 d) ])

pub sum_assoc : {A B C : Type 0} → ((A ⊎ B) ⊎ C) ↔ (A ⊎ (B ⊎ C))
sum_assoc = (
  elim [ inl (inl a) ↦ inl a | inl (inr b) ↦ inr (inl b) | inr c ↦ inr (inr c) ],
  elim [ inl a ↦ inl (inl a) | inr (inl b) ↦ inl (inr b) | inr (inr c) ↦ inr c ],
)

pub sum_crossed : {A B C D : Type 0} → ((A ⊎ B) ⊎ (C ⊎ D)) ↔ ((A ⊎ C) ⊎ (B ⊎ D))
sum_crossed = (
  elim [ inl (inl a) ↦ inl (inl a) | inl (inr b) ↦ inr (inl b) | inr (inl c) ↦ inl (inr c) | inr (inr d) ↦ inr (inr d) ],
  elim [ inl (inl a) ↦ inl (inl a) | inl (inr c) ↦ inr (inl c) | inr (inl b) ↦ inl (inr b) | inr (inr d) ↦ inr (inr d) ],
)

-- ---- tests

-- the test passes exactly where P holds, and fails exactly where N holds
pub record Tells (b : Bool) (P N : Type 0) : Type 0 where
  pub pass : T b ↔ P
  pub fail : T (not b) ↔ N

pub itself : (b : Bool) → Tells b (T b) (T (not b))
itself b = record { pass = Iff.rfl; fail = Iff.rfl }

-- the same in other words
pub in_words : {b : Bool} {P N P' N' : Type 0} → Tells b P N → P ↔ P' → N ↔ N' → Tells b P' N'
in_words h p n = record { pass = Iff.trans h.pass p; fail = Iff.trans h.fail n }

pub by_pass : {P : Type 0} (b : Bool) → T b ↔ P → Tells b P (¬ P)
by_pass b h = record { pass = h; fail = (λ t p. (T_no b).0 t (h.1 p), λ f. (T_no b).1 (λ t. f (h.0 t))) }

pub by_fail : {N : Type 0} (b : Bool) → T (not b) ↔ N → Tells b (¬ N) N
by_fail true h = record { pass = (λ t. h.1, λ f. tt); fail = h }
by_fail false h = record { pass = (λ t. absurd t, λ f. f (h.0 tt)); fail = h }

pub not_tells : {b : Bool} {P N : Type 0} → Tells b P N → Tells (not b) N P
not_tells {b = true} h = record { pass = h.fail; fail = h.pass }
not_tells {b = false} h = record { pass = h.fail; fail = h.pass }

pub and_tells : {a b : Bool} {P N Q M : Type 0} → Tells a P N → Tells b Q M → Tells (a && b) (P × Q) (N ⊎ M)
and_tells {a = true} h k = record {
  pass = (λ t. (h.pass.0 tt, k.pass.0 t), λ w. k.pass.1 w.1);
  fail = (λ t. inr (k.fail.0 t), elim [ inl n ↦ absurd (h.fail.1 n) | inr m ↦ k.fail.1 m ]);
}
and_tells {a = false} h k = record {
  pass = (λ t. absurd t, λ w. h.pass.1 w.0);
  fail = (λ t. inl (h.fail.0 tt), λ w. tt);
}

pub or_tells : {a b : Bool} {P N Q M : Type 0} → Tells a P N → Tells b Q M → Tells (a || b) (P ⊎ Q) (N × M)
or_tells {a = true} h k = record {
  pass = (λ t. inl (h.pass.0 tt), λ w. tt);
  fail = (λ t. absurd t, λ w. h.fail.1 w.0);
}
or_tells {a = false} h k = record {
  pass = (λ t. inr (k.pass.0 t), elim [ inl p ↦ absurd (h.pass.1 p) | inr q ↦ k.pass.1 q ]);
  fail = (λ t. (h.fail.0 tt, k.fail.0 t), λ w. k.fail.1 w.1);
}

pub pick_tells : {c a b : Bool} {C D P N Q M : Type 0} → Tells c C D → Tells a P N → Tells b Q M
    → Tells (pick c a b) ((C × P) ⊎ (D × Q)) ((C × N) ⊎ (D × M))
pick_tells {c = true} c h k = record {
  pass = (λ t. inl (c.pass.0 tt, h.pass.0 t), elim [ inl w ↦ h.pass.1 w.1 | inr w ↦ absurd (c.fail.1 w.0) ]);
  fail = (λ t. inl (c.pass.0 tt, h.fail.0 t), elim [ inl w ↦ h.fail.1 w.1 | inr w ↦ absurd (c.fail.1 w.0) ]);
}
pick_tells {c = false} c h k = record {
  pass = (λ t. inr (c.fail.0 tt, k.pass.0 t), elim [ inl w ↦ absurd (c.pass.1 w.0) | inr w ↦ k.pass.1 w.1 ]);
  fail = (λ t. inr (c.fail.0 tt, k.fail.0 t), elim [ inl w ↦ absurd (c.pass.1 w.0) | inr w ↦ k.fail.1 w.1 ]);
}

pub eqb_tells : (m n : ℕ) → Tells (eqb m n) (m ≡ n) (¬ (m ≡ n))
eqb_tells m n = by_pass (eqb m n) (T_eqb m n)

-- two numbers are compared either way round
pub eqb_comm : (m n : ℕ) → eqb m n ≡ eqb n m
eqb_comm m n = same_test (eqb m n) (eqb n m) (λ t. (T_eqb n m).1 (sym ((T_eqb m n).0 t)), λ t. (T_eqb m n).1 (sym ((T_eqb n m).0 t)))

pub leb_tells : (m n : ℕ) → Tells (leb m n) (m ≤ n) (n < m)
leb_tells m n = record {
  pass = (leb→le m n, le→leb m n);
  fail = (nleb→lt m n, λ l. (T_no (leb m n)).1 (λ t. let h : m ≤ n = leb→le m n t in omega arith));
}

pub ltb_tells : (m n : ℕ) → Tells (ltb m n) (m < n) (n ≤ m)
ltb_tells m n = in_words (leb_tells (suc m) n) (λ l. l, λ l. l) (λ l. omega arith, λ l. omega arith)

pub lt_or_le : (m n : ℕ) → (m < n) ⊎ (n ≤ m)
lt_or_le m n =
    elim (either (ltb m n)) [ inl t ↦ inl ((ltb_tells m n).pass.0 t) | inr f ↦ inr ((ltb_tells m n).fail.0 ((T_no (ltb m n)).1 f)) ]

-- ---- on lists

module _ {X : Type 0} {p : X → Bool} {P N : X → Type 0} (tells : (x : X) → Tells (p x) (P x) (N x)) where
  some_fails : (xs : List X) → T (not (all p xs)) → (x : X) × (x ∈ xs) × N x
  unfolding all
  some_fails [] t = absurd t
  some_fails (x ∷ xs) t =
      elim ((and_tells (tells x) (itself (all p xs))).fail.0 t) [
        | inl n ↦ (x, here, n)
        | inr f ↦ (let r = some_fails xs f in (r.0, Memᴰ.tail r.1, r.2))
      ]

  -- a test on every element fails exactly where it fails on one
  pub all_tells : (xs : List X) → Tells (all p xs) ((x : X) → x ∈ xs → P x) ((x : X) × (x ∈ xs) × N x)
  all_tells xs = record {
    pass = (λ t x m. (tells x).pass.0 ((all_iff p xs).0 t x m), λ f. (all_iff p xs).1 (λ x m. (tells x).pass.1 (f x m)));
    fail = (
      some_fails xs,
      λ w. (T_no (all p xs)).1 (λ t. (T_no (p w.0)).0 ((tells w.0).fail.1 w.2) ((all_iff p xs).0 t w.0 w.1)),
    );
  }

-- a search for x finds it exactly where x stands in the list
pub stands_tells : {X : Type 0} (same : X → X → Bool) → ((x y : X) → T (same x y) ↔ (x ≡ y)) → (x : X) (xs : List X)
    → Tells (any (same x) xs) (x ∈ xs) (¬ (x ∈ xs))
stands_tells same same-iff x xs = by_pass (any (same x) xs) (any_same same same-iff x xs)

-- an element of which one of two holds
pub some_either : {X : Type 0} {P Q : X → Type 0} (xs : List X) → ((x : X) × (x ∈ xs) × (P x ⊎ Q x))
    ↔ (((x : X) × (x ∈ xs) × P x) ⊎ ((x : X) × (x ∈ xs) × Q x))
some_either xs = (
  λ w. elim w.2 [ inl p ↦ inl (w.0, w.1, p) | inr q ↦ inr (w.0, w.1, q) ],
  elim [ inl w ↦ (w.0, w.1, inl w.2) | inr w ↦ (w.0, w.1, inr w.2) ],
)
