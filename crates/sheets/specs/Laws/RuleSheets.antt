-- Records of a rule sheet.
use Rattle.std.specs.Prelude.{◌≡◌, ℕ, T}
use Rattle.words.specs.Records.{rule_kind, kind3_forms, kind4_forms}

-- a kind 3 and its kind 4, both as said
pub record Pair (x y : ℕ) : Type 0 where
  pub first : rule_kind x ≡ 3
  pub second : rule_kind y ≡ 4
  pub first_forms : T (kind3_forms x)
  pub second_forms : T (kind4_forms y)
