-- A list of numbered tests gives the number of the first of the conditions that the tests decide.
use Rattle.std.specs.Prelude.{◌≡◌, refl, ◌↔◌, ℕ, Bool, true, false, List, [], ◌∷◌, T}
use Rattle.std.proofs.Common.{sym, inl, inr}
use Rattle.std.proofs.Math.Option.{none, some}
use Rattle.theory.specs.Lists.{pick}
use Rattle.theory.specs.Refusals.{first_refusal, First, NoneHolds}
use Rattle.theory.specs.Laws.Options.{none≢some, some_inj}

-- the tests and the conditions are as many, with the same numbers, and each test decides its condition
abbrev pub Decides : List (ℕ × Bool) → List {1} (ℕ × Type 0) → Type 0
Decides [] [] = Unit {0}
Decides [] (c ∷ cs) = ⊥
Decides (e ∷ es) [] = ⊥
Decides (e ∷ es) (c ∷ cs) = (e.0 ≡ c.0) × (T e.1 ↔ c.1) × Decides es cs

-- the number given is that of the first condition that holds
pub first_refusal_iff : (tests : List (ℕ × Bool)) (conditions : List {1} (ℕ × Type 0)) → Decides tests conditions → (n : ℕ)
    → (first_refusal tests ≡ some n) ↔ First conditions n
unfolding first_refusal
first_refusal_iff [] [] d n = (λ e. none≢some e, λ f. absurd f)
first_refusal_iff [] (c ∷ cs) d n = absurd d
first_refusal_iff (e ∷ es) [] d n = absurd d
first_refusal_iff (e ∷ es) (c ∷ cs) d n = go e.1 d.1 (first_refusal_iff es cs d.2 n)
  where
    go : (b : Bool) → T b ↔ c.1 → (first_refusal es ≡ some n) ↔ First cs n → (pick b (some e.0) (first_refusal es) ≡ some n)
        ↔ First (c ∷ cs) n
    go true h below = (
      λ f. let g : e.0 ≡ n = some_inj f in let k = d.0 in inl (cc, h.0 tt),
      elim [ inl w ↦ (let k = d.0 in let g = w.0 in cc) | inr w ↦ absurd (w.0 (h.0 tt)) ],
    )
    go false h below = (
      λ f. inr (h.1, below.0 f),
      elim [ inl w ↦ absurd (h.1 w.1) | inr w ↦ below.1 w.1 ],
    )

-- no number is given exactly where no condition holds
pub no_refusal_iff : (tests : List (ℕ × Bool)) (conditions : List {1} (ℕ × Type 0)) → Decides tests conditions
    → (first_refusal tests ≡ none)
    ↔ NoneHolds conditions
unfolding first_refusal
no_refusal_iff [] [] d = (λ e. tt, λ u. refl)
no_refusal_iff [] (c ∷ cs) d = absurd d
no_refusal_iff (e ∷ es) [] d = absurd d
no_refusal_iff (e ∷ es) (c ∷ cs) d = go e.1 d.1 (no_refusal_iff es cs d.2)
  where
    go : (b : Bool) → T b ↔ c.1 → (first_refusal es ≡ none) ↔ NoneHolds cs → (pick b (some e.0) (first_refusal es) ≡ none)
        ↔ NoneHolds (c ∷ cs)
    go true h below = (λ f. absurd (none≢some (sym f)), λ w. absurd (w.0 (h.0 tt)))
    go false h below = (λ f. (h.1, below.0 f), λ w. below.1 w.1)
