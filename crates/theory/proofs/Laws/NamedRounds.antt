-- The rounds in which only some of the rules conclude (02, T-06): they hold nothing that the rounds of all rules do not hold, and all of
-- it where every rule may conclude. So the second reader finds whatever some of the rules suffice for.
use Rattle.std.specs.Prelude.{◌≡◌, ℕ, zero, suc, ◌≤◌, List}
use Rattle.std.proofs.Common.{subst, inl, inr, eq-or-lt_of_le, le_of_suc-le-suc, arith}
use Rattle.theory.specs.Syntax.{Atom, Rule, Fact, Thing}
use Rattle.theory.specs.Chase.{Held, Round}
use Rattle.theory.specs.Qualified.{WrittenRule, PlacedRule}
use Rattle.theory.specs.QualifiedChase.{RoundAsWritten}
use Rattle.theory.specs.NamedRules.{RoundBy, RoundAsWrittenBy}
use Rattle.theory.proofs.Laws.QualifiedWritten.{concludes_more, written_more}

-- ---- rules as read

module _ (only : ℕ → Type 0) (rules : List Rule) (facts : List Fact) where
  -- what some of the rules conclude all of them do
  pub named_within : (n : ℕ) (a : Atom Thing) → RoundBy only rules facts n a → Round rules facts n a
  named_within zero a h = h
  named_within (suc n) a (inl h) = inl (named_within n a h)
  named_within (suc n) a (inr (i, r, may, at, c)) =
      inr (i, r, at, concludes_more (RoundBy only rules facts n) (Round rules facts n) (λ b h. named_within n b h) i r a c)

  -- and where each may conclude no less is held
  pub all_named : ((i : ℕ) → only i) → (n : ℕ) (a : Atom Thing) → Round rules facts n a → RoundBy only rules facts n a
  all_named may zero a h = h
  all_named may (suc n) a (inl h) = inl (all_named may n a h)
  all_named may (suc n) a (inr (i, r, at, c)) =
      inr (i, r, may i, at, concludes_more (Round rules facts n) (RoundBy only rules facts n) (λ b h. all_named may n b h) i r a c)

-- ---- rules as written

module _ (only : PlacedRule → Type 0) (ws : List WrittenRule) (facts : List Fact) where
  abbrev ByAll : ℕ → Held
  ByAll = RoundAsWritten ws facts

  abbrev BySome : ℕ → Held
  BySome = RoundAsWrittenBy only ws facts

  -- what some of the written rules conclude all of them do
  pub named_within_written : (n : ℕ) (a : Atom Thing) → RoundAsWrittenBy only ws facts n a → RoundAsWritten ws facts n a
  named_within_written zero a h = h
  named_within_written (suc n) a (inl h) = inl (named_within_written n a h)
  named_within_written (suc n) a (inr (p, may, m, c)) =
      inr (p, m, written_more (BySome n) (ByAll n) (λ b h. named_within_written n b h) p.index p.rule a c)

  -- and where each may conclude no less is held
  pub all_named_written : ((p : PlacedRule) → only p) → (n : ℕ) (a : Atom Thing) → RoundAsWritten ws facts n a
      → RoundAsWrittenBy only ws facts n a
  all_named_written may zero a h = h
  all_named_written may (suc n) a (inl h) = inl (all_named_written may n a h)
  all_named_written may (suc n) a (inr (p, m, c)) =
      inr (p, may p, m, written_more (ByAll n) (BySome n) (λ b h. all_named_written may n b h) p.index p.rule a c)

  -- what is held in a round is held in every later one
  pub written_later : (n m : ℕ) → n ≤ m → (a : Atom Thing) → RoundAsWrittenBy only ws facts n a → RoundAsWrittenBy only ws facts m a
  written_later n zero l a h = let e : n ≡ zero = omega arith in subst (λ k. BySome k a) e h
  written_later n (suc m) l a h =
      elim (eq-or-lt_of_le l) [
        | inl e ↦ subst (λ k. BySome k a) e h
        | inr k ↦ inl (written_later n m (le_of_suc-le-suc k) a h)
      ]
