-- The check of a union gives the first refusal whose condition holds, and none exactly where the union is accepted.
use Rattle.std.specs.Prelude.{◌≡◌, refl, ◌↔◌, ℕ, Bool, List, [], ◌∷◌}
use Rattle.std.proofs.Common.{subst, inl, inr}
use Rattle.std.proofs.Math.Option.{none, some}
use Rattle.theory.specs.Lists.{any}
use Rattle.theory.specs.Refusals.{First, NoneHolds}
use Rattle.theory.specs.Syntax.{Rule, Query, UCQ}
use Rattle.theory.specs.Renaming.{Alike, alike}
use Rattle.theory.specs.Union.{Accepted, conditions, refuses7, refuses8, refuses9, refuses10, refuses11, check}
use Rattle.theory.specs.Laws.Options.{either}
use Rattle.theory.specs.Laws.Lists.{at_lt}
use Rattle.theory.specs.Laws.Refusals.{Decides, first_refusal_iff, no_refusal_iff}
use Rattle.theory.proofs.Laws.RenamingDecided.{alike_iff}
use Rattle.theory.proofs.Laws.WrittenStep.{yields_unique, refused_or_yields, refused_not_yields}
use Rattle.theory.proofs.Laws.UnionTests.{meets7_or_start, meets7_not_start, some_alike_iff, refuses7_iff, refuses8_iff, refuses9_iff}
use Rattle.theory.proofs.Laws.UnionTests.{refuses10_iff, refuses11_iff}

-- the tests that the check makes, in order
abbrev tests : List Rule → Query → UCQ → List (ℕ × Bool)
tests rules q union =
    (7, refuses7 rules q union)
    ∷ (8, refuses8 rules q union)
    ∷ (9, refuses9 rules q union)
    ∷ (10, refuses10 rules q union)
    ∷ (11, refuses11 rules q union)
    ∷ []

decided : (rules : List Rule) (q : Query) (union : UCQ) → Decides (tests rules q union) (conditions rules q union)
decided rules q union = (
  refl,
  refuses7_iff rules q union,
  (
    refl,
    refuses8_iff rules q union,
    (
      refl,
      refuses9_iff rules q union,
      (refl, refuses10_iff rules q union, (refl, refuses11_iff rules q union, tt)),
    ),
  ),
)

-- each of 7 to 11 is given exactly where its condition holds and no earlier one does
pub check_first_lem : (rules : List Rule) (q : Query) (union : UCQ) (n : ℕ) → (check rules q union ≡ some n)
    ↔ First (conditions rules q union) n
unfolding check
check_first_lem rules q union n = first_refusal_iff (tests rules q union) (conditions rules q union) (decided rules q union) n

-- a union is accepted exactly where no condition holds
accepted : (rules : List Rule) (q : Query) (union : UCQ) → NoneHolds (conditions rules q union) → Accepted rules q union
accepted rules q union (not7, (not8, (not9, (not10, (not11, u))))) = record {
  first = elim (meets7_or_start q union) [ inl w ↦ absurd (not7 w) | inr e ↦ e ];
  later = λ k m l h.
      elim (refused_or_yields rules union k m.step (at_lt union k h)) [
        | inl w ↦ absurd (not8 (k, m, l, h, w))
        | inr y ↦ elim (either (alike y.0 m.query)) [
          | inl t ↦ (y.0, y.1, (alike_iff y.0 m.query).0 t)
          | inr f ↦ absurd (not9 (k, m, y.0, l, h, y.1, λ a. f ((alike_iff y.0 m.query).1 a)))
        ]
      ];
  unlike = λ i j m n l h h' a. not10 (i, j, m, n, l, h, h', a);
  closed = λ m r h s.
      elim (either (any (λ n. alike r n.query) union)) [
        | inl t ↦ (some_alike_iff r union).0 t
        | inr f ↦ absurd (not11 (m, r, h, s, λ n h' a. f ((some_alike_iff r union).1 (n, h', a))))
      ];
}

not_refused : (rules : List Rule) (q : Query) (union : UCQ) → Accepted rules q union → NoneHolds (conditions rules q union)
not_refused rules q union ok = (
  λ w. meets7_not_start q union w ok.first,
  (
    λ w. (let y = ok.later w.0 w.1 w.2 w.3 in refused_not_yields rules union w.0 w.1.step y.0 w.4 y.1),
    (
      λ w. (let y = ok.later w.0 w.1 w.3 w.4 in
          w.6 (subst (λ r. Alike r w.1.query) (yields_unique rules union w.0 w.1.step y.1 w.5) y.2)),
      (
        λ w. ok.unlike w.0 w.1 w.2 w.3 w.4 w.5 w.6 w.7,
        (λ w. (let n = ok.closed w.0 w.1 w.2 w.3 in w.4 n.0 n.1 n.2), tt),
      ),
    ),
  ),
)

-- none is given exactly where the union is accepted
pub check_accepts : (rules : List Rule) (q : Query) (union : UCQ) → (check rules q union ≡ none) ↔ Accepted rules q union
unfolding check
check_accepts rules q union =
    let none-holds = no_refusal_iff (tests rules q union) (conditions rules q union) (decided rules q union) in
    (λ e. accepted rules q union (none-holds.0 e), λ ok. none-holds.1 (not_refused rules q union ok))
