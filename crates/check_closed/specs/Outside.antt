-- 11: "A step from some member leads to no question alike to a member."
use Rattle.std.specs.Prelude.{ℕ, Bool, not, List}
use Rattle.std.proofs.Math.Option.{Option}
use Rattle.theory.specs.Lists.{any, to_list, numbers}
use Rattle.theory.specs.Syntax.{Rule, Query, UCQ}
use Rattle.theory.specs.Rewriting.{rule_step, merge_step}
use Rattle.theory.specs.Renaming.{alike}

-- the question is alike to no member
abbrev pub outside : UCQ → Query → Bool
outside union r = not (any (λ n. alike r n.query) union)

-- a step gives a question, and it is alike to no member
abbrev pub leads_outside : UCQ → Option Query → Bool
leads_outside union o = any (outside union) (to_list o)

module _ (union : UCQ) (q : Query) where
  -- atom i merged with atom j leads outside; some merge of atom i does
  abbrev pub merge_out : ℕ → ℕ → Bool
  merge_out i j = leads_outside union (merge_step q i j)

  abbrev pub merges_out : ℕ → ℕ → Bool
  merges_out size i = any (merge_out i) (numbers 0 size)

  module _ (rules : List Rule) where
    -- rule k on atom i leads outside; some of so many rules does
    abbrev pub rule_out : ℕ → ℕ → Bool
    rule_out i k = leads_outside union (rule_step rules q i k)

    abbrev pub rules_out : ℕ → ℕ → Bool
    rules_out count i = any (rule_out i) (numbers 0 count)
