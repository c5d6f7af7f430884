use borrow.Author.Rules.{rules}
use Rattle.check_closed.proofs.ClosureLaws.{rule_sound}
use Rattle.write_members.proofs.LoopLaws.{rule_tries}
use Rattle.write_members.proofs.append_by_rule.Goals as goal

pub returns-then-not-names : goal.returns-then-not-names
returns-then-not-names c = search rule_tries

pub returns-then-repeated : goal.returns-then-repeated
returns-then-repeated c = search rule_tries

pub append-requires : goal.append-requires
append-requires c = (search rules, rule_sound _ _ _ _ c.rule_step.ensures.step c.rule_step.ensures.small)

pub returns : goal.returns
returns c = search rule_tries
