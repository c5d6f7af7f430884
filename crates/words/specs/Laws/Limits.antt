-- The limits in 01's own numbers: "2,048, 61, 33,282 and 60,000 bytes in that order", "objects 0 to 65,535".
use Rattle.std.specs.Prelude.{◌≡◌, refl}
use Rattle.words.specs.Limits.{sheet_width, object_bound, most_rule_bytes, most_question_bytes, most_union_bytes, most_fact_bytes}

pub rules_2048 : most_rule_bytes ≡ 2048
rules_2048 = refl

pub question_61 : most_question_bytes sheet_width ≡ 61
question_61 = refl

pub union_33282 : most_union_bytes sheet_width ≡ 33282
union_33282 = refl

pub facts_60000 : most_fact_bytes sheet_width ≡ 60000
facts_60000 = refl

pub objects_65536 : object_bound ≡ 65536
objects_65536 = refl
