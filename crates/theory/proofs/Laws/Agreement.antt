-- Demand 3: both readers agree. "For any sound rules and question, any union accepted for them and any sound fact sheet, they
-- find the same tuples of registered objects: the first finds one exactly when the second does after some finite number of
-- rounds." There is no bound on rounds, and nothing is asked of the rules: it holds where rounds never end. Of soundness only this is
-- used, that no member has an atom twice.
use Rattle.std.specs.Prelude.{◌↔◌, ℕ, List}
use Rattle.theory.specs.Lists.{◌∈◌, Unrepeated}
use Rattle.theory.specs.Syntax.{Rule, Query, Member, UCQ, Fact}
use Rattle.theory.specs.LostTags.{Answerable}
use Rattle.theory.specs.Chase.{Round, Answer, OfSomeMember, InSomeRound, FirstReader, SecondReader}
use Rattle.theory.specs.Union.{Accepted, depth}
use Rattle.theory.proofs.Laws.Depth.{first_by_depth}
use Rattle.theory.proofs.Laws.Completeness.{complete}

module _ (rules : List Rule) (q : Query) (union : UCQ) (distinct : (m : Member) → m ∈ union → Unrepeated m.query.atoms)
    (accepted : Accepted rules q union) (facts : List Fact) (tuple : List ℕ) where
  -- on all tuples, whatever objects they hold
  pub tuples_agree : OfSomeMember union facts tuple ↔ InSomeRound rules q facts tuple
  tuples_agree = (
    λ w. (depth union, first_by_depth rules q union accepted facts tuple w),
    λ w. complete rules facts union q accepted distinct tuple w.0 w.1,
  )

  -- the theorem
  pub readers_agree : FirstReader union facts tuple ↔ SecondReader rules q facts tuple
  readers_agree = (λ first. (first.0, tuples_agree.0 first.1), λ second. (second.0, tuples_agree.1 second.1))

  -- The largest number of rule steps behind any member is a round by which every answer is there.
  pub by_depth : SecondReader rules q facts tuple ↔ (Answerable tuple × Answer (Round rules facts (depth union)) q tuple)
  by_depth = (
    λ second. (second.0, first_by_depth rules q union accepted facts tuple (tuples_agree.1 second.1)),
    λ w. (w.0, (depth union, w.1)),
  )
