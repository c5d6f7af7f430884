-- The helpers in use are told by their number; and the roles of a sheet are those of its records.
use Rattle.std.specs.Prelude.{◌≡◌, Bool, ◌&&◌, T, length}
use Rattle.std.proofs.Math.Path.{refl, sym, ap₂}
use Rattle.std.proofs.Common.{ap, ◌∙◌}
use Rattle.std.proofs.Math.Logic.{inl, inr}
use Prim.Native.Nat.{ℕ, zero, suc, ◌+◌, ◌≤◌, ◌<◌}
use native.Mathlib.Omega.{arith}
use Rattle.std.proofs.Math.Bool.{true, false, ◌||◌, or_assoc}
use mathlib.Core.List.{List, [], ◌∷◌, ◌++◌, map, flat_map, append_assoc, append-nil}
use Rattle.std.proofs.Math.Dec.{eqb, ltb}
use Rattle.theory.specs.Lists.{pick, any, all}
use Rattle.theory.specs.Syntax.{has, has_inverse}
use Rattle.theory.specs.Qualified.{
  WrittenRule,
  plain,
  first_helper,
  rules_read,
  helpers_of,
  roles_of_basic,
  roles_of_written,
  roles_of_rules,
}
use Rattle.theory.specs.Qualified.{refuses18}
use Rattle.theory.specs.Laws.Options.{T_and, T_eqb, same_test}
use Rattle.theory.specs.Laws.Lists.{any_same}
use Rattle.theory.proofs.Laws.QualifiedPlaces.{helper_iff, helpers_few}
use Rattle.words.specs.Limits.{name_bound}
use Rattle.words.specs.Records.{left_form, left_name, right_form, right_name, is_rule, kind3_forms, basic_of, rule_in, qualified_in}
use Rattle.sheets.specs.Format.{rule_records, written_in, written_of}
use Rattle.sheets.specs.Partners.{is_higher, lower, basic_as_read, rule_as_read, written_as_read}
use Rattle.sheets.specs.Reading.{rules_as_written}
use Rattle.sheets.specs.Tests.{passes2, pairs_sound}
use Rattle.sheets.proofs.Laws.Tests.{ltb_tells}
use Rattle.sheets.specs.Laws.RuleSheets.{Pair}
use Rattle.sheets.proofs.Laws.RuleSheets.{rule_kind_lem, written_rule, written_pair, by_rules_lem}
use Rattle.read_helpers.specs.InUse.{is_helper, clashing, record_roles}

-- ---- one role

module _ (ws : List WrittenRule) (few : length (rules_read ws) ≤ 512) (k : ℕ) (are : k ≡ length (helpers_of ws)) where
  helper_test : (P : ℕ) → is_helper k P ≡ any (eqb P) (helpers_of ws)
  unfolding is_helper
  helper_test P =
      let third = helpers_few ws in
      let range = helper_iff ws few P in
      let stands = any_same eqb T_eqb P (helpers_of ws) in
      let both = T_and (ltb first_helper (P + k)) (ltb P name_bound) in
      same_test (is_helper k P) (any (eqb P) (helpers_of ws)) (
        λ t. let w = both.0 t in
            let a = (ltb_tells first_helper (P + k)).pass.0 w.0 in
            let b = (ltb_tells P name_bound).pass.0 w.1 in
            stands.1 (range.1 (omega arith, omega arith)),
        λ t. let w = range.0 (stands.0 t) in
            both.1 ((ltb_tells first_helper (P + k)).pass.1 (omega arith), (ltb_tells P name_bound).pass.1 (omega arith)),
      )

  any_alike : (roles : List ℕ) → any (is_helper k) roles ≡ any (λ P. any (eqb P) (helpers_of ws)) roles
  unfolding any
  any_alike [] = refl
  any_alike (P ∷ roles) = ap₂ ◌||◌ (helper_test P) (any_alike roles)

  -- 18's test, by how many helpers are in use
  pub clash_is : (roles : List ℕ) → clashing k roles ≡ refuses18 ws roles
  unfolding clashing refuses18
  clash_is roles = any_alike roles

-- ---- lists of roles

pub clashing_both : (k : ℕ) (xs ys : List ℕ) → clashing k (xs ++ ys) ≡ (clashing k xs || clashing k ys)
unfolding clashing any
clashing_both k [] ys = refl
clashing_both k (x ∷ xs) ys = ap (λ b. is_helper k x || b) (clashing_both k xs ys)
    ∙ sym (or_assoc (is_helper k x) (clashing k xs) (clashing k ys))

pub clashing_flat : {X : Type 0} (k : ℕ) (f : X → List ℕ) (xs : List X) → clashing k (flat_map f xs) ≡ any (λ x. clashing k (f x)) xs
unfolding any clashing flat_map
clashing_flat k f [] = refl
clashing_flat k f (x ∷ xs) = clashing_both k (f x) (flat_map f xs) ∙ ap (λ b. clashing k (f x) || b) (clashing_flat k f xs)

-- ---- the roles of a sheet

module _ (partners : List ℕ) where
  -- a role form names one role, the lower of two partners
  role_side : (f n : ℕ) → 0 < f → f < 3 → roles_of_basic (basic_as_read partners (basic_of f n)) ≡ lower partners n ∷ []
  unfolding basic_of basic_as_read
  role_side zero n a b = absurd (omega arith)
  role_side (suc zero) n a b = go (is_higher partners n)
    where
      go : (h : Bool) → roles_of_basic (pick h (has_inverse (lower partners n)) (has (lower partners n))) ≡ lower partners n ∷ []
      go true = refl
      go false = refl
  role_side (suc (suc zero)) n a b = go (is_higher partners n)
    where
      go : (h : Bool) → roles_of_basic (pick h (has (lower partners n)) (has_inverse (lower partners n))) ≡ lower partners n ∷ []
      go true = refl
      go false = refl
  role_side (suc (suc (suc f))) n a b = absurd (omega arith)

  one_roles : (x : ℕ) → T (is_rule x) → roles_of_written (written_as_read partners (plain (rule_in x))) ≡ record_roles partners x
  unfolding written_as_read record_roles rule_in rule_as_read
  one_roles x t = elim (rule_kind_lem x t) [ inl e ↦ rw e | inr e ↦ rw e ]

  pair_roles : (x y : ℕ) → Pair x y
      → roles_of_written (written_as_read partners (qualified_in x y)) ≡ record_roles partners x ++ record_roles partners y
  unfolding written_as_read record_roles qualified_in kind3_forms
  pair_roles x y p =
      let a = (T_and (ltb (left_form x) 3 && ltb 0 (right_form x)) (ltb (right_form x) 3)).0 p.first_forms in
      let b = (T_and (ltb (left_form x) 3) (ltb 0 (right_form x))).0 a.0 in
      let side = role_side (right_form x) (right_name x) ((ltb_tells 0 (right_form x)).pass.0 b.1)
      ((ltb_tells (right_form x) 3).pass.0 a.1) in
      let left : List ℕ = roles_of_basic (basic_as_read partners (basic_of (left_form x) (left_name x))) in
      rw (p.first, p.second) (ap (λ l. left ++ l) (sym side)
      ∙ sym (append-nil (left ++ roles_of_basic (basic_as_read partners (basic_of (right_form x) (right_name x))))))

  abbrev Alike : List ℕ → Type 0
  Alike rs = flat_map roles_of_written (map (written_as_read partners) (written_in rs)) ≡ flat_map (record_roles partners) rs

  roles_alike : (rs : List ℕ) → T (all passes2 rs) → T (pairs_sound false rs) → Alike rs
  unfolding written_in flat_map
  roles_alike =
      by_rules_lem Alike refl
      (λ x rest t h. rw (written_rule x rest t) (ap₂ (λ a b. a ++ b) (one_roles x t) h))
      (λ x y rest p h. rw (written_pair x y rest p.first p.second)
      (ap₂ (λ a b. a ++ b) (pair_roles x y p) h ∙ append_assoc (record_roles partners x) (record_roles partners y)
      (flat_map (record_roles partners) rest)))

  pub sheet_roles : (w : ℕ) (s : List ℕ) → T (all passes2 (rule_records s)) → T (pairs_sound false (rule_records s))
      → roles_of_rules (rules_as_written partners w s) ≡ flat_map (record_roles partners) (rule_records s)
  unfolding roles_of_rules rules_as_written written_of
  sheet_roles w s passed sound = roles_alike (rule_records s) passed sound
