-- The rules that a sheet is read as are in range, with roles as read: those of 01's kinds, and the three over a helper (02, T-04).
use Rattle.std.specs.Prelude.{◌≡◌, refl, Bool, not, ◌&&◌, T, eqb}
use Rattle.std.proofs.Common.{sym, ap, ap₂, arith}
use Rattle.std.proofs.Math.Path.{subst}
use Rattle.std.proofs.Math.Logic.{inl, inr}
use Rattle.std.proofs.Math.Logic.Iff
use Prim.Native.Nat.{ℕ, ◌+◌, ◌-◌, ◌*◌, ◌≤◌}
use Rattle.std.proofs.Math.Bool.{true, false}
use Rattle.std.proofs.Math.Option.{none}
use mathlib.Core.List.Memᴰ
use mathlib.Core.List.{List, [], ◌∷◌, flat_map}
use Rattle.std.proofs.Math.ListN.{length}
use Rattle.theory.specs.Lists.{◌∈◌, pick, to_list}
use Rattle.theory.specs.Refusals.{first_refusal}
use Rattle.theory.specs.Syntax.{Basic, named, has, has_inverse, Rule, concept_inclusion, role_inclusion}
use Rattle.theory.specs.Qualified.{
  WrittenRule,
  plain,
  qualified,
  some_role,
  read_as,
  helper_in,
  first_helper,
  placed_from,
  rules_read,
  helpers_of,
}
use Rattle.theory.specs.Laws.Options.{guard_some}
use Rattle.theory.specs.Laws.Lists.{here, mem_to_list}
use Rattle.theory.specs.Laws.Refusals.{no_refusal_iff}
use Rattle.theory.proofs.Laws.QualifiedPlaces.{helpers_from, rules_from, helpers_few, helper_iff}
use Rattle.words.specs.Limits.{most_rules}
use Rattle.words.specs.Records.{rule_kind, left_form, left_name, right_form, right_name, is_rule, basic_of, rule_in, rule_of, qualified_in}
use Rattle.sheets.specs.Format.{rule_records, said_alone, said_by, written_in, written_of}
use Rattle.sheets.specs.Partners.{is_higher, lower, basic_as_read, rule_as_read, written_as_read}
use Rattle.sheets.specs.Reading.{rules_as_written, rules_as_read}
use Rattle.sheets.specs.Tests.{refuses1, refuses2, refuses17}
use Rattle.sheets.specs.Refusals.{rule_refusals}
use Rattle.sheets.specs.Packing.{name_of, All, IsName, RuleInRange, RulesInRange, WrittenInRange}
use Rattle.sheets.proofs.Laws.Tests.{lt_or_le}
use Rattle.sheets.proofs.Laws.PairRefusals.{refuses17_iff}
use Rattle.sheets.proofs.Laws.PartnerLaws.{Involutive, Settled, no_partner, own_settled, lower_le, settled_has}
use Rattle.sheets.proofs.Laws.PartnerLaws.{settled_has_inverse, lower_own, settled_roles, written_as_read_again}
use Rattle.sheets.proofs.Laws.StepsInRange.{RuleStands}

-- ---- what a record says is in range, whatever bytes it has: names are fields of as many bits

basic_in : (form n : ℕ) → IsName n → IsName (name_of (basic_of form n))
unfolding basic_of
basic_in form n h =
    elim (eqb form 0) as (λ b. IsName (name_of (pick b (named n) (pick (eqb form 1) (has n) (has_inverse n))))) [
      | true ↦ h
      | false ↦ elim (eqb form 1) as (λ b. IsName (name_of (pick b (has n) (has_inverse n)))) [ true ↦ h | false ↦ h ]
    ]

rule_in_lem : (x : ℕ) → RuleInRange (rule_in x)
unfolding rule_in
rule_in_lem x =
    let left : IsName (left_name x) = omega arith in
    let right : IsName (right_name x) = omega arith in
    elim (eqb (rule_kind x) 1) as
    (λ b. RuleInRange (pick b (concept_inclusion (basic_of (left_form x) (left_name x)) (basic_of (right_form x) (right_name x)))
    (role_inclusion (left_name x) (eqb (right_form x) 1) (right_name x)))) [
      | true ↦ (basic_in (left_form x) (left_name x) left, basic_in (right_form x) (right_name x) right)
      | false ↦ (left, right)
    ]

alone_in : (x : ℕ) → All WrittenInRange (said_alone x)
unfolding said_alone rule_of
alone_in x w m =
    let (r, k, e) = Memᴰ.of_map plain (to_list (rule_of x)) m in
    subst WrittenInRange e (subst RuleInRange (guard_some (is_rule x) ((mem_to_list (rule_of x)).0 k)).1 (rule_in_lem x))

qualified_in_lem : (x y : ℕ) → WrittenInRange (qualified_in x y)
unfolding qualified_in
qualified_in_lem x y =
    let left : IsName (left_name x) = omega arith in
    let right : IsName (right_name x) = omega arith in
    let filler : IsName (left_name y) = omega arith in
    (basic_in (left_form x) (left_name x) left, right, filler)

said_in : (x : ℕ) (rest : List ℕ) → All WrittenInRange (said_by x rest)
unfolding said_by
said_in x [] w m = alone_in x w m
said_in x (y ∷ rest) w m = go (eqb (rule_kind x) 3 && eqb (rule_kind y) 4) m
  where
    go : (b : Bool) → w ∈ pick b (qualified_in x y ∷ []) (said_alone x) → WrittenInRange w
    go true k = subst WrittenInRange (sym (Memᴰ.eq_of_singleton k)) (qualified_in_lem x y)
    go false k = alone_in x w k

written_in_lem : (rs : List ℕ) → All WrittenInRange (written_in rs)
unfolding written_in
written_in_lem [] w m = absurd (Memᴰ.not-nil m)
written_in_lem (x ∷ rest) w m =
    elim (Memᴰ.append_cases (said_by x rest) m) [ inl k ↦ said_in x rest w k | inr k ↦ written_in_lem rest w k ]

-- ---- and so are the rules that it is read as

some_role_in : (b : Bool) (H : ℕ) → IsName H → IsName (name_of (some_role b H))
some_role_in true H h = h
some_role_in false H h = h

three_in : (H : ℕ) (w : WrittenRule) → IsName H → WrittenInRange w → All RuleInRange (read_as H w)
three_in H (plain rule) h k r m = subst RuleInRange (sym (Memᴰ.eq_of_singleton m)) k
three_in H (qualified left exchanged P filler) h k r (Memᴰ.head e) =
    subst RuleInRange (sym e) (k.0, some_role_in exchanged H h)
three_in H (qualified left exchanged P filler) h k r (Memᴰ.tail (Memᴰ.head e)) = subst RuleInRange (sym e) (h, k.1)
three_in H (qualified left exchanged P filler) h k r (Memᴰ.tail (Memᴰ.tail m)) =
    subst RuleInRange (sym (Memᴰ.eq_of_singleton m)) (some_role_in (not exchanged) H h, k.2)

all_three_in : (i H : ℕ) (ws : List WrittenRule) → H ≤ first_helper → All WrittenInRange ws → All RuleInRange (rules_from i H ws)
unfolding placed_from flat_map
all_three_in i H [] l h r m = absurd (Memᴰ.not-nil m)
all_three_in i H (w ∷ ws) l h r m =
    elim (Memᴰ.append_cases (read_as H w) m) [
      | inl k ↦ three_in H w (omega arith) (h w here) r k
      | inr k ↦ all_three_in (i + length (read_as H w)) (H - length (helper_in H w)) ws (omega arith) (λ v n. h v (Memᴰ.tail n)) r k
    ]

module _ (partners : List ℕ) where
  lower_name : (P : ℕ) → IsName P → IsName (lower partners P)
  lower_name P h = let l : lower partners P ≤ P = lower_le partners P in omega arith

  basic_read_in : (B : Basic) → IsName (name_of B) → IsName (name_of (basic_as_read partners B))
  unfolding basic_as_read
  basic_read_in (named A) h = h
  basic_read_in (has P) h =
      elim (is_higher partners P) as (λ b. IsName (name_of (pick b (has_inverse (lower partners P)) (has (lower partners P))))) [
        | true ↦ lower_name P h
        | false ↦ lower_name P h
      ]
  basic_read_in (has_inverse P) h =
      elim (is_higher partners P) as (λ b. IsName (name_of (pick b (has (lower partners P)) (has_inverse (lower partners P))))) [
        | true ↦ lower_name P h
        | false ↦ lower_name P h
      ]

  rule_read_in : (rule : Rule) → RuleInRange rule → RuleInRange (rule_as_read partners rule)
  unfolding rule_as_read
  rule_read_in (concept_inclusion left right) h = (basic_read_in left h.0, basic_read_in right h.1)
  rule_read_in (role_inclusion P exchanged Q) h = (lower_name P h.0, lower_name Q h.1)

  written_read_in : (w : WrittenRule) → WrittenInRange w → WrittenInRange (written_as_read partners w)
  unfolding written_as_read
  written_read_in (plain rule) h = rule_read_in rule h
  written_read_in (qualified left exchanged P filler) h = (basic_read_in left h.0, lower_name P h.1, h.2)

  pub as_written_in : (w : ℕ) (s : List ℕ) → All WrittenInRange (rules_as_written partners w s)
  unfolding rules_as_written written_of
  as_written_in w s v m =
      let (u, k, e) = Memᴰ.of_map (written_as_read partners) (written_in (rule_records s)) m in
      subst WrittenInRange e (written_read_in u (written_in_lem (rule_records s) u k))

  -- a sheet that does not meet 17 is read as at most 512 rules
  pub rules_read_few : (w : ℕ) (s : List ℕ) → ¬ T (refuses17 partners w s) → length (rules_as_read partners w s) ≤ most_rules
  rules_read_few w s not17 =
      elim (lt_or_le most_rules (length (rules_as_read partners w s))) [
        | inl l ↦ absurd (not17 ((refuses17_iff partners w s).1 (inr l)))
        | inr l ↦ l
      ]

  pub rules_read_in : (w : ℕ) (s : List ℕ) → ¬ T (refuses17 partners w s) → RulesInRange (rules_as_read partners w s)
  unfolding rules_as_read rules_read
  rules_read_in w s not17 =
      (rules_read_few w s not17, all_three_in 0 first_helper (rules_as_written partners w s) (omega arith) (as_written_in w s))

  -- ---- what was read reads as it stands, the helpers in use being no one's higher partner

  some_role_stands : (b : Bool) (H : ℕ) → Settled partners H → basic_as_read partners (some_role b H) ≡ some_role b H
  some_role_stands true H h = settled_has_inverse partners H h
  some_role_stands false H h = settled_has partners H h

  -- a written rule reads as it stands
  abbrev WrittenStands : WrittenRule → Type 0
  WrittenStands w = written_as_read partners w ≡ w

  plain_stands : (rule : Rule) → WrittenStands (plain rule) → RuleStands partners rule
  unfolding written_as_read
  plain_stands rule e = cc

  qualified_stands : (left : Basic) (exchanged : Bool) (P filler : ℕ) → WrittenStands (qualified left exchanged P filler)
      → (basic_as_read partners left ≡ left) × (lower partners P ≡ P)
  unfolding written_as_read
  qualified_stands left exchanged P filler e = (cc, cc)

  three_stand : (H : ℕ) (w : WrittenRule) → ((P : ℕ) → P ∈ helper_in H w → Settled partners P) → WrittenStands w
      → All (RuleStands partners) (read_as H w)
  unfolding rule_as_read basic_as_read
  three_stand H (plain rule) h e r m = subst (RuleStands partners) (sym (Memᴰ.eq_of_singleton m)) (plain_stands rule e)
  three_stand H (qualified left exchanged P filler) h e r m = go (h H here) (qualified_stands left exchanged P filler e) m
    where
      go : Settled partners H → (basic_as_read partners left ≡ left) × (lower partners P ≡ P)
          → r ∈ read_as H (qualified left exchanged P filler) → RuleStands partners r
      go s d (Memᴰ.head f) = subst (RuleStands partners) (sym f) (ap₂ concept_inclusion d.0 (some_role_stands exchanged H s))
      go s d (Memᴰ.tail (Memᴰ.head f)) = subst (RuleStands partners) (sym f)
          (settled_roles partners H P s (lower_own partners P d.1))
      go s d (Memᴰ.tail (Memᴰ.tail k)) =
          subst (RuleStands partners) (sym (Memᴰ.eq_of_singleton k))
          (ap (λ B. concept_inclusion B (named filler)) (some_role_stands (not exchanged) H s))

  all_three_stand : (i H : ℕ) (ws : List WrittenRule) → ((P : ℕ) → P ∈ helpers_from i H ws → Settled partners P) → All WrittenStands ws
      → All (RuleStands partners) (rules_from i H ws)
  unfolding placed_from flat_map
  all_three_stand i H [] s h r m = absurd (Memᴰ.not-nil m)
  all_three_stand i H (w ∷ ws) s h r m =
      let later : List ℕ = helpers_from (i + length (read_as H w)) (H - length (helper_in H w)) ws in
      elim (Memᴰ.append_cases (read_as H w) m) [
        | inl k ↦ three_stand H w (λ P n. s P (Memᴰ.append_left later n)) (h w here) r k
        | inr k ↦ all_three_stand (i + length (read_as H w)) (H - length (helper_in H w)) ws
            (λ P n. s P (Memᴰ.append_right (helper_in H w) n))
            (λ v n. h v (Memᴰ.tail n)) r k
      ]

  module _ (involutive : Involutive partners) (w : ℕ) (s : List ℕ) where
    pub as_written_stand : All WrittenStands (rules_as_written partners w s)
    unfolding rules_as_written
    as_written_stand v m =
        let (u, k, e) = Memᴰ.of_map (written_as_read partners) (written_of s) m in
        subst WrittenStands e (written_as_read_again partners involutive u)

    pub rules_read_stand : ((P : ℕ) → P ∈ helpers_of (rules_as_written partners w s) → Settled partners P)
        → All (RuleStands partners) (rules_as_read partners w s)
    unfolding rules_as_read rules_read helpers_of
    rules_read_stand settled = all_three_stand 0 first_helper (rules_as_written partners w s) settled as_written_stand

  -- a table with no role from 3,584 up has no partner for a helper: 512 rules as read use numbers above it
  pub helpers_settled : length partners ≤ 3584 → (w : ℕ) (s : List ℕ) → ¬ T (refuses17 partners w s) → (P : ℕ)
      → P ∈ helpers_of (rules_as_written partners w s) → Settled partners P
  unfolding rules_as_read
  helpers_settled short w s not17 P m =
      let ws : List WrittenRule = rules_as_written partners w s in
      let few : length (rules_read ws) ≤ 512 = rules_read_few w s not17 in
      let third : 3 * length (helpers_of ws) ≤ length (rules_read ws) = helpers_few ws in
      let range = (helper_iff ws few P).0 m in
      own_settled partners P (no_partner partners P (omega arith))

-- ---- a sheet that is not refused

pub rules_unrefused : (partners : List ℕ) (w : ℕ) (s : List ℕ) → first_refusal (rule_refusals partners w s) ≡ none
    → (¬ T (refuses1 s)) × (¬ T (refuses2 s)) × (¬ T (refuses17 partners w s))
unfolding rule_refusals
rules_unrefused partners w s e =
    let n = (no_refusal_iff (rule_refusals partners w s)
    ((1, T (refuses1 s)) ∷ (2, T (refuses2 s)) ∷ (17, T (refuses17 partners w s)) ∷ [])
    (refl, Iff.rfl, (refl, Iff.rfl, (refl, Iff.rfl, tt)))).0 e in
    (n.0, n.1.0, n.1.1.0)
