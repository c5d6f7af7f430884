use Rattle.read_rules.proofs.RefusalLaws.{refusal_laws}
use Rattle.read_rules.proofs.read_rules.Goals as goal

pub returns-then-s-ne0-clause-rules : goal.returns-then-s-ne0-clause-rules
returns-then-s-ne0-clause-rules c = search refusal_laws

pub returns-then-s-gt-MOST_RULE_BYTES-clause-rules : goal.returns-then-s-gt-MOST_RULE_BYTES-clause-rules
returns-then-s-gt-MOST_RULE_BYTES-clause-rules c = search refusal_laws

pub returns-then-not-all_named-clause-rules : goal.returns-then-not-all_named-clause-rules
returns-then-not-all_named-clause-rules c = search refusal_laws

pub returns-then-not-pairs_sound-clause-rules : goal.returns-then-not-pairs_sound-clause-rules
returns-then-not-pairs_sound-clause-rules c = search refusal_laws

pub returns-clause-rules : goal.returns-clause-rules
returns-clause-rules c = search refusal_laws
