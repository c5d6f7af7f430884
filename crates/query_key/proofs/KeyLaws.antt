-- Alike queries have one key.
use Rattle.std.specs.Prelude.{◌≡◌, false}
use Rattle.std.proofs.Math.Path.{refl, sym, ap}
use Rattle.std.proofs.Common.{ap₂, ◌∙◌}
use Prim.Native.Nat.{ℕ, zero, suc, ◌+◌, ◌≤◌}
use Rattle.std.proofs.Math.Nat.{le_refl}
use native.Mathlib.Omega.{arith}
use mathlib.Core.List.Memᴰ
use mathlib.Core.List.{List, [], ◌∷◌, map}
use Rattle.theory.specs.Lists.{◌∈◌, Unrepeated, pick}
use Rattle.theory.specs.Syntax.{Term, var, const, Atom, concept, role, Query, args, terms, map_atom, rename, same_term}
use Rattle.theory.specs.Renaming.{Alike, alike}
use Rattle.theory.specs.Laws.Options.{is_false, same_test}
use Rattle.theory.specs.Laws.Lists.{here}
use Rattle.theory.specs.Laws.Counting.{total}
use Rattle.theory.specs.Laws.Budget.{Budget, budget_transfer}
use Rattle.theory.proofs.Laws.Syntax.{same_term_iff, terms_atoms, terms_answers}
use Rattle.theory.proofs.Laws.Equivalence.{rename_injective, image_injective}
use Rattle.theory.proofs.Laws.RenamingDecided.{alike_iff}
use Rattle.query_key.specs.Key.{along, mix_answer, mix_atom, given, given_by, colour_by, next, colours, key_by, key}

-- ---- on lists

module _ {X : Type 0} (w : X → ℕ) where
  -- a total is what the elements cost together
  total_budget : (xs : List X) → Budget (λ x n. w x ≡ n) xs (total w xs)
  unfolding total
  total_budget [] = tt
  total_budget (x ∷ xs) = (w x, total w xs, refl, le_refl (w x + total w xs), total_budget xs)

  budget_total : (xs : List X) (n : ℕ) → Budget (λ x n. w x ≡ n) xs n → total w xs ≤ n
  unfolding total
  budget_total [] n b = omega arith
  budget_total (x ∷ xs) n (k, rest, e, h, b) = let l : total w xs ≤ rest = budget_total xs rest b in omega arith

-- A list without repeats weighs no more than another one, where each of its elements comes from one of the other that weighs as
-- much, and no two come from one.
total_le : {X Y : Type 0} (w : X → ℕ) (v : Y → ℕ) (From : X → Y → Type 0)
    → ((x : X) (y : Y) → From x y → v y ≡ w x)
    → ((x : X) (y z : Y) → From x y → From x z → y ≡ z)
    → (xs : List X) (ys : List Y) → Unrepeated ys → ((y : Y) → y ∈ ys → (x : X) × (x ∈ xs) × From x y)
    → total v ys ≤ total w xs
total_le w v From weigh one xs ys u from =
    budget_total v ys (total w xs)
    (budget_transfer (λ x n. w x ≡ n) (λ y n. v y ≡ n) From (λ x y n f e. weigh x y f ∙ e) one xs ys (total w xs) u from
    (total_budget w xs))

-- what the images of the elements weigh at their indices
pub along_map : {X Y : Type 0} (f : X → Y) (w : ℕ → X → ℕ) (v : ℕ → Y → ℕ) (i : ℕ) (xs : List X)
    → ((i : ℕ) (x : X) → x ∈ xs → v i (f x) ≡ w i x) → along v i (map f xs) ≡ along w i xs
unfolding along
along_map f w v i [] h = refl
along_map f w v i (x ∷ xs) h = ap₂ ◌+◌ (h i x here) (along_map f w v (suc i) xs (λ i y m. h i y (Memᴰ.tail m)))

-- ---- an atom and its image, where colours and equalities are the same

module _ (f : Term → Term) (s s' : Term → ℕ) where
  pub mix_image : (a : Atom Term) → ((t : Term) → t ∈ args a → s' (f t) ≡ s t)
      → ((t u : Term) → t ∈ args a → u ∈ args a → same_term (f t) (f u) ≡ same_term t u) → mix_atom s' (map_atom f a) ≡ mix_atom s a
  unfolding mix_atom
  mix_image (concept A t) colour same = rw (colour t here)
  mix_image (role P t u) colour same = rw (colour t here, colour u (Memᴰ.tail here), same t u here (Memᴰ.tail here))

  pub given_image : (v v' : ℕ) (a : Atom Term) → ((t : Term) → t ∈ args a → same_term (f t) (var v') ≡ same_term t (var v))
      → mix_atom s' (map_atom f a) ≡ mix_atom s a → given_by s' (map_atom f a) v' ≡ given_by s a v
  unfolding given_by given
  given_image v v' (concept A t) same e = rw (e, same t here)
  given_image v v' (role P t u) same e = rw (e, same t here, same u (Memᴰ.tail here))

-- ---- alike queries

module _ (p q : Query) (r : Alike p q) where
  abbrev image : Term → Term
  image = rename r.to

  same_image : (t u : Term) → t ∈ terms p → u ∈ terms p → same_term (image t) (image u) ≡ same_term t u
  same_image t u m n =
      same_test (same_term (image t) (image u)) (same_term t u) (
        λ x. (same_term_iff t u).1 (rename_injective p q r t u m n ((same_term_iff (image t) (image u)).0 x)),
        λ x. (same_term_iff (image t) (image u)).1 (ap image ((same_term_iff t u).0 x)),
      )

  -- colours that the renaming leaves as they are, and then the numbers of answer terms and atoms are as they were
  abbrev Kept : (Term → ℕ) → (Term → ℕ) → Type 0
  Kept s s' = (t : Term) → t ∈ terms p → s' (image t) ≡ s t

  colour_kept : (h h' : ℕ → ℕ) → ((v : ℕ) → var v ∈ terms p → h' (r.to v) ≡ h v) → Kept (colour_by h) (colour_by h')
  colour_kept h h' e (var v) m = e v m
  colour_kept h h' e (const c) m = refl

  answers_kept : (w v : ℕ → Term → ℕ) → ((i : ℕ) (t : Term) → t ∈ terms p → v i (image t) ≡ w i t)
      → along v 0 q.answers ≡ along w 0 p.answers
  answers_kept w v h = ap (along v 0) (sym r.on_answers) ∙ along_map image w v 0 p.answers (λ i t m. h i t (terms_answers p m))

  atom_kept : (s s' : Term → ℕ) → Kept s s' → (a : Atom Term) → a ∈ p.atoms → mix_atom s' (map_atom image a) ≡ mix_atom s a
  atom_kept s s' k a m =
      mix_image image s s' a (λ t n. k t (terms_atoms p m n)) (λ t u n l. same_image t u (terms_atoms p m n) (terms_atoms p m l))

  module _ (up : Unrepeated p.atoms) (uq : Unrepeated q.atoms) where
    -- the atoms weigh the same where each weighs as much as its image
    total_image : (w v : Atom Term → ℕ) → ((a : Atom Term) → a ∈ p.atoms → v (map_atom image a) ≡ w a)
        → total v q.atoms ≡ total w p.atoms
    total_image w v h =
        let less : total v q.atoms ≤ total w p.atoms =
        total_le w v (λ a b. (a ∈ p.atoms) × (map_atom image a ≡ b)) (λ a b f. ap v (sym f.1) ∙ h a f.0) (λ a b c f g. sym f.1
        ∙ g.1) p.atoms q.atoms uq (λ b m. let a = r.onto b m in (a.0, a.1, (a.1, a.2))) in
        let more : total w p.atoms ≤ total v q.atoms =
        total_le v w (λ b a. (a ∈ p.atoms) × (map_atom image a ≡ b)) (λ b a f. sym (h a f.0)
        ∙ ap v f.1) (λ b a c f g. image_injective p q r a c f.0 g.0 (f.1 ∙ sym g.1)) q.atoms p.atoms up
        (λ a m. (map_atom image a, r.into a m, (m, refl))) in
        omega arith

    -- the colours after each round are kept, and so is the key
    colours_kept : (n v : ℕ) → var v ∈ terms p → colours n q (r.to v) ≡ colours n p v
    unfolding colours next given mix_answer
    colours_kept zero v m =
        answers_kept (λ i t. given t (mix_answer (λ u. 0) i t) v) (λ i t. given t (mix_answer (λ u. 0) i t) (r.to v))
        (λ i t n. ap (λ b. pick b (mix_answer (λ u. 0) i t) 0) (same_image t (var v) n m))
    colours_kept (suc n) v m =
        total_image (λ a. given_by (colour_by (colours n p)) a v) (λ a. given_by (colour_by (colours n q)) a (r.to v))
        (λ a k. given_image image (colour_by (colours n p)) (colour_by (colours n q)) v (r.to v) a
        (λ t l. same_image t (var v) (terms_atoms p k l) m)
        (atom_kept (colour_by (colours n p)) (colour_by (colours n q)) (colour_kept (colours n p) (colours n q) (colours_kept n)) a k))

    key_kept : (s s' : Term → ℕ) → Kept s s' → key_by p s ≡ key_by q s'
    unfolding key_by mix_answer
    key_kept s s' k =
        sym (ap₂ ◌+◌ (answers_kept (mix_answer s) (mix_answer s') (λ i t m. ap (λ x. mix_answer (λ u. x) i t) (k t m)))
        (total_image (mix_atom s) (mix_atom s') (atom_kept s s' k)))

-- the law
pub alike_key : (p q : Query) → Unrepeated p.atoms → Unrepeated q.atoms → Alike p q → key p ≡ key q
unfolding key
alike_key p q up uq r =
    key_kept p q r up uq (colour_by (colours 2 p)) (colour_by (colours 2 q))
    (colour_kept p q r (colours 2 p) (colours 2 q) (colours_kept p q r up uq 2))

-- so where two queries have two keys, the search for a renaming would find none
pub unlike_keys : (p q : Query) → Unrepeated p.atoms → Unrepeated q.atoms → (key p ≡ key q → ⊥) → alike p q ≡ false
unlike_keys p q up uq d = is_false (alike p q) (λ t. d (alike_key p q up uq ((alike_iff p q).0 t)))
