-- Rule sheets: rules as written that were packed in range are read again and meet neither 1, 2 nor 17, and a sheet that meets none of
-- these is the packing of what is read from it, which is in range (02, T-04).
use Rattle.std.specs.Prelude.{◌≡◌, refl, ◌↔◌, ℕ, zero, suc, ◌+◌, ◌-◌, ◌≤◌, ◌<◌, Bool, true, false, not, ◌&&◌, T, eqb, ltb, length}
use Rattle.std.proofs.Common.{sym, ap₂, ◌∙◌, subst, zero-le, arith, ltb→lt, lt→ltb, lit<}
use Rattle.std.proofs.Math.Path.{ap}
use mathlib.Core.List.Memᴰ
use mathlib.Core.List.{List, [], ◌∷◌, ◌++◌, map, flat_map, map-id}
use Rattle.theory.specs.Lists.{pick, all}
use Rattle.theory.specs.Syntax.{Basic}
use Rattle.theory.specs.Qualified.{WrittenRule, plain, qualified, placed_from, first_helper, rules_read}
use Rattle.theory.specs.Laws.Options.{T_and, T_eqb, is_true}
use Rattle.theory.specs.Laws.Lists.{here, forall_cons, all_iff}
use Rattle.theory.proofs.Laws.QualifiedPlaces.{rules_from}
use Rattle.words.specs.Limits.{rule_bound, most_rules, rule_bytes}
use Rattle.words.specs.Records.{
  left_form,
  left_name,
  right_form,
  right_name,
  is_rule,
  basic_of,
  is_paired,
  kind3_forms,
  kind4_forms,
  pair_forms,
}
use Rattle.words.specs.Records.{qualified_in}
use Rattle.sheets.specs.Format.{records_from, rule_records, written_in, written_of}
use Rattle.sheets.specs.Partners.{written_as_read}
use Rattle.sheets.specs.Reading.{rules_as_written, rules_as_read}
use Rattle.sheets.specs.Tests.{refuses1, passes2, refuses2, follows, pairs_sound, refuses17}
use Rattle.sheets.specs.Packing.{
  pack_records,
  fields_number,
  form_of,
  name_of,
  rule_number,
  qualified_fields,
  filler_fields,
  written_numbers,
}
use Rattle.sheets.specs.Packing.{pack_rules, All, IsByte, IsName, WrittenInRange, WrittenRulesInRange}
use Rattle.sheets.proofs.Laws.Tests.{itself, not_tells, or_tells, ltb_tells}
use Rattle.sheets.proofs.Laws.PackingNumbers.{Fit, Has, five, fields_read, fields_below, fields_again, fields_fit, basic_read}
use Rattle.sheets.proofs.Laws.PackingNumbers.{form_below, form_again, name_again, object_code, rule_code}
use Rattle.sheets.proofs.Laws.PackingSheets.{unmet, whole_read, whole_passes, whole_again}
use Rattle.sheets.specs.Laws.RuleSheets.{Pair}
use Rattle.sheets.proofs.Laws.RuleSheets.{rule_not, written_rule, written_pair, by_rules_lem}

-- a record of a rule sheet has 32 bits
abbrev IsRecord : ℕ → Type 0
IsRecord x = x < rule_bound

-- ---- a kind 3 and its kind 4

-- the right form of a kind 3 is one of three
direction_below : (exchanged : Bool) → pick exchanged 2 1 < 3
direction_below true = omega arith
direction_below false = omega arith

-- and form 1 or 2 is that of the direction read from it
form_direction : (f : ℕ) → 0 < f → f < 3 → f ≡ pick (eqb f 2) 2 1
form_direction zero l h = absurd (omega arith)
form_direction (suc zero) l h = refl
form_direction (suc (suc zero)) l h = refl
form_direction (suc (suc (suc f))) l h = absurd (omega arith)

-- what is in range fits the fields of a kind 3
three_fit : (left : Basic) (exchanged : Bool) (P : ℕ) → IsName (name_of left) → IsName P → Fit (qualified_fields left exchanged P)
three_fit left exchanged P h k =
    let l : form_of left < 3 = form_below left in
    let r : pick exchanged 2 1 < 3 = direction_below exchanged in
    five (lit< tt) (omega arith) h (omega arith) k

-- and those of a kind 4
four_fit : (filler : ℕ) → IsName filler → Fit (filler_fields filler)
four_fit filler h = five (lit< tt) (lit< tt) h (lit< tt) (lit< tt)

-- two numbers with the fields of a kind 3 and of its kind 4 are such a pair, and say what was put into them
pair_said : (left : Basic) (exchanged : Bool) (P filler x y : ℕ) → Has x (qualified_fields left exchanged P) → Has y (filler_fields filler)
    → Pair x y × (qualified_in x y ≡ qualified left exchanged P filler)
unfolding kind3_forms kind4_forms qualified_in
pair_said left exchanged P filler x y h k =
    let a : left_form x ≡ form_of left = h.1.0 in
    let b : left_name x ≡ name_of left = h.1.1.0 in
    let c : right_form x ≡ pick exchanged 2 1 = h.1.1.1.0 in
    let d : right_name x ≡ P = h.1.1.1.1.0 in
    let e : left_form y ≡ 0 = k.1.0 in
    let f : left_name y ≡ filler = k.1.1.0 in
    let g : right_form y ≡ 0 = k.1.1.1.0 in
    let i : right_name y ≡ 0 = k.1.1.1.1.0 in (
      record {
        first = h.0;
        second = k.0;
        first_forms = rw (a, c) (forms (ltb (form_of left) 3) exchanged (lt→ltb (form_of left) 3 (form_below left)));
        second_forms = rw (e, g, i) tt;
      },
      rw (a, b, c, d, f) (ap₂ (λ B b. qualified B b P filler) (basic_read left) (direction_again exchanged)),
    )
  where
    forms : (a b : Bool) → T a → T (a && ltb 0 (pick b 2 1) && ltb (pick b 2 1) 3)
    forms true true t = tt
    forms true false t = tt
    forms false b t = absurd t

    direction_again : (b : Bool) → eqb (pick b 2 1) 2 ≡ b
    direction_again true = refl
    direction_again false = refl

-- the fields of what a kind 3 says
abbrev three_fields : ℕ → List (ℕ × ℕ)
three_fields x = qualified_fields (basic_of (left_form x) (left_name x)) (eqb (right_form x) 2) (right_name x)

-- the first of a pair has them
three_has : (x y : ℕ) → Pair x y → Has x (three_fields x)
unfolding kind3_forms
three_has x y p =
    let s = (T_and (ltb (left_form x) 3 && ltb 0 (right_form x)) (ltb (right_form x) 3)).0 p.first_forms in
    let l = (T_and (ltb (left_form x) 3) (ltb 0 (right_form x))).0 s.0 in
    five p.first (sym (form_again (left_form x) (left_name x) (ltb→lt (left_form x) 3 l.0))) (sym (name_again (left_form x) (left_name x)))
    (form_direction (right_form x) (ltb→lt 0 (right_form x) l.1) (ltb→lt (right_form x) 3 s.1)) refl

-- the second of a pair has those of the filler that it says
four_has : (x y : ℕ) → Pair x y → Has y (filler_fields (left_name y))
unfolding kind4_forms
four_has x y p =
    let s = (T_and (eqb (left_form y) 0 && eqb (right_form y) 0) (eqb (right_name y) 0)).0 p.second_forms in
    let l = (T_and (eqb (left_form y) 0) (eqb (right_form y) 0)).0 s.0 in
    five p.second ((T_eqb (left_form y) 0).0 l.0) refl ((T_eqb (right_form y) 0).0 l.1) ((T_eqb (right_name y) 0).0 s.1)

-- so a pair is put together from what it says
pair_again : (x y : ℕ) → IsRecord x → IsRecord y → Pair x y → written_numbers (qualified_in x y) ≡ x ∷ y ∷ []
unfolding qualified_in
pair_again x y l m p =
    ap₂ (λ a b. a ∷ b ∷ []) (fields_again x (three_fields x) l (three_has x y p))
    (fields_again y (filler_fields (left_name y)) m (four_has x y p))

-- and that is in range
pair_within : (x y : ℕ) → Pair x y → WrittenInRange (qualified_in x y)
unfolding qualified_in
pair_within x y p =
    let a = fields_fit x (three_fields x) (three_has x y p) in
    let b = fields_fit y (filler_fields (left_name y)) (four_has x y p) in
    (a.1.1.0, a.1.1.1.1.0, b.1.1.0)

-- ---- records that pass

-- they meet neither 2 nor what 17 says of forms and pairs
abbrev Passing : List ℕ → Type 0
Passing rs = T (all passes2 rs) × T (pairs_sound false rs)

-- a rule before such records passes with them
rule_before : (x : ℕ) (rest : List ℕ) → T (is_rule x) → Passing rest → Passing (x ∷ rest)
unfolding all passes2 is_paired pairs_sound follows pair_forms
rule_before x rest t s = rw (rule_not x 3 t (omega arith), rule_not x 4 t (omega arith), is_true (is_rule x) t) s

-- and so does a pair
pair_before : (x y : ℕ) (rest : List ℕ) → Pair x y → Passing rest → Passing (x ∷ y ∷ rest)
unfolding all passes2 is_paired pairs_sound follows pair_forms
pair_before x y rest p s =
    rw (p.first, p.second, is_true (kind3_forms x) p.first_forms, is_true (kind4_forms y) p.second_forms) s

-- ---- the records of rules as written

-- the records of a rule, before others, say that rule before what the others say, and pass with them
written_first : (v : WrittenRule) (rest : List ℕ) → WrittenInRange v → Passing rest
    → (written_in (written_numbers v ++ rest) ≡ v ∷ written_in rest) × Passing (written_numbers v ++ rest)
written_first (plain rule) rest h s =
    let t : T (is_rule (rule_number rule)) = rule_code.passes rule h in (
      written_rule (rule_number rule) rest t ∙ ap (λ r. plain r ∷ written_in rest) (rule_code.read rule h),
      rule_before (rule_number rule) rest t s,
    )
written_first (qualified left exchanged P filler) rest h s =
    let x : ℕ = fields_number (qualified_fields left exchanged P) in
    let y : ℕ = fields_number (filler_fields filler) in
    let p = pair_said left exchanged P filler x y
    (fields_read (qualified_fields left exchanged P) (three_fit left exchanged P h.0 h.1))
    (fields_read (filler_fields filler) (four_fit filler h.2)) in (
      written_pair x y rest p.0.first p.0.second ∙ ap (λ v. v ∷ written_in rest) p.1,
      pair_before x y rest p.0 s,
    )

-- the records of rules say these rules, and pass
numbers_read : (ws : List WrittenRule) → All WrittenInRange ws
    → (written_in (flat_map written_numbers ws) ≡ ws) × Passing (flat_map written_numbers ws)
unfolding flat_map written_in all pairs_sound
numbers_read [] h = (refl, (tt, tt))
numbers_read (v ∷ ws) h =
    let r = numbers_read ws (λ u m. h u (Memᴰ.tail m)) in
    let f = written_first v (flat_map written_numbers ws) (h v here) r.1 in
    (f.0 ∙ ap (λ us. v ∷ us) r.0, f.1)

-- each of them has 32 bits
numbers_below : (ws : List WrittenRule) → All WrittenInRange ws → All IsRecord (flat_map written_numbers ws)
unfolding flat_map
numbers_below [] h = λ x m. absurd (Memᴰ.not-nil m)
numbers_below (plain rule ∷ ws) h =
    forall_cons (rule_code.below rule (h (plain rule) here)) (numbers_below ws (λ u m. h u (Memᴰ.tail m)))
numbers_below (qualified left exchanged P filler ∷ ws) h =
    let k = h (qualified left exchanged P filler) here in
    forall_cons (fields_below (qualified_fields left exchanged P) (three_fit left exchanged P k.0 k.1))
    (forall_cons (fields_below (filler_fields filler) (four_fit filler k.2)) (numbers_below ws (λ u m. h u (Memᴰ.tail m))))

-- records are those of what they say, which is in range
abbrev SaidAgain : List ℕ → Type 0
SaidAgain rs = (flat_map written_numbers (written_in rs) ≡ rs) × All WrittenInRange (written_in rs)

-- a rule before them keeps that
rule_kept : (x : ℕ) (rest : List ℕ) → T (is_rule x) → (All IsRecord rest → SaidAgain rest) → All IsRecord (x ∷ rest) → SaidAgain (x ∷ rest)
unfolding flat_map
rule_kept x rest t later h =
    let k = later (λ z m. h z (Memᴰ.tail m)) in
    rw (written_rule x rest t)
    (ap₂ ◌∷◌ (rule_code.again x (h x here) t) k.0, forall_cons (rule_code.within x (h x here) t) k.1)

-- and so does a pair
pair_kept : (x y : ℕ) (rest : List ℕ) → Pair x y → (All IsRecord rest → SaidAgain rest) → All IsRecord (x ∷ y ∷ rest)
    → SaidAgain (x ∷ y ∷ rest)
unfolding flat_map
pair_kept x y rest p later h =
    let k = later (λ z m. h z (Memᴰ.tail (Memᴰ.tail m))) in
    rw (written_pair x y rest p.first p.second)
    (ap₂ ◌++◌ (pair_again x y (h x here) (h y (Memᴰ.tail here)) p) k.0, forall_cons (pair_within x y p) k.1)

-- so it holds of all records of 32 bits that pass
numbers_again : (rs : List ℕ) → Passing rs → All IsRecord rs → SaidAgain rs
unfolding flat_map written_in
numbers_again rs s =
    by_rules_lem (λ rs. All IsRecord rs → SaidAgain rs) (λ h. (refl, λ v m. absurd (Memᴰ.not-nil m))) rule_kept pair_kept rs s.0 s.1

-- ---- how many

-- there are no more records than rules as read, from some index and helper on
records_from_lem : (i H : ℕ) (ws : List WrittenRule) → length (flat_map written_numbers ws) ≤ length (rules_from i H ws)
unfolding placed_from flat_map
records_from_lem i H [] = zero-le
records_from_lem i H (plain rule ∷ ws) =
    let h : length (flat_map written_numbers ws) ≤ length (rules_from (i + 1) (H - 0) ws) = records_from_lem (i + 1)
    (H - 0) ws in omega arith
records_from_lem i H (qualified left exchanged P filler ∷ ws) =
    let h : length (flat_map written_numbers ws) ≤ length (rules_from (i + 3) (H - 1) ws) = records_from_lem (i + 3)
    (H - 1) ws in omega arith

-- and so in a whole sheet
records_few : (ws : List WrittenRule) → length (flat_map written_numbers ws) ≤ length (rules_read ws)
unfolding rules_read
records_few ws = records_from_lem 0 first_helper ws

-- reciprocal names do not change how many rules are read, from some index and helper on
count_from : (partners : List ℕ) (i H : ℕ) (ws : List WrittenRule)
    → length (rules_from i H (map (written_as_read partners) ws)) ≡ length (rules_from i H ws)
unfolding placed_from flat_map written_as_read
count_from partners i H [] = refl
count_from partners i H (plain rule ∷ ws) = ap suc (count_from partners (i + 1) (H - 0) ws)
count_from partners i H (qualified left exchanged P filler ∷ ws) = ap (λ n. suc (suc (suc n))) (count_from partners (i + 3) (H - 1) ws)

-- nor in a whole sheet
pub count_as_read : (partners : List ℕ) (ws : List WrittenRule)
    → length (rules_read (map (written_as_read partners) ws)) ≡ length (rules_read ws)
unfolding rules_read
count_as_read partners ws = count_from partners 0 first_helper ws

-- ---- the bytes of records

-- numbers of 32 bits that were packed are the sheet's records
records_packed : (xs : List ℕ) → All IsRecord xs → rule_records (pack_records 4 xs) ≡ xs
unfolding records_from
records_packed xs h =
    let r = (whole_read rule_bytes (object_code 32) (lit< tt) xs h).0 in
    sym (map-id (rule_records (pack_records 4 xs))) ∙ (rw (map-id xs) at r)

-- a sheet of no more than 512 of them does not meet 1
records_pass : (xs : List ℕ) → length xs ≤ most_rules → All IsRecord xs → ¬ T (refuses1 (pack_records 4 xs))
unfolding refuses1
records_pass xs l h = let r = (whole_passes rule_bytes (object_code 32) most_rules xs (lit< tt) l h).0 in rw (map-id xs) at r

-- a sheet that does not meet 1 is the packing of its records, which have 32 bits
records_again : (s : List ℕ) → All IsByte s → ¬ T (refuses1 s) → (pack_records 4 (rule_records s) ≡ s) × All IsRecord (rule_records s)
unfolding records_from refuses1
records_again s bytes not1 =
    let free : ¬ T (not (all (λ x. true) (rule_records s))) =
    (unmet (not_tells (itself (all (λ x. true) (rule_records s))))).1 ((all_iff (λ x. true) (rule_records s)).1 (λ x m. tt)) in
    let r = whole_again rule_bytes (object_code 32) most_rules s bytes not1 free in
    let e : map (λ x. x) (rule_records s) ≡ rule_records s = map-id (rule_records s) in
    (rw e at (rw e at r.0), rw e at r.2)

-- ---- sheets

-- 2 is not met exactly where every record passes it
unmet2 : (s : List ℕ) → (¬ T (refuses2 s)) ↔ T (all passes2 (rule_records s))
unfolding refuses2
unmet2 s = unmet (not_tells (itself (all passes2 (rule_records s))))

-- 17 is not met exactly where the pairs are sound and no more than 512 rules are read
unmet17 : (partners : List ℕ) (w : ℕ) (s : List ℕ)
    → (¬ T (refuses17 partners w s)) ↔ (T (pairs_sound false (rule_records s)) × (length (rules_as_read partners w s) ≤ most_rules))
unfolding refuses17
unmet17 partners w s =
    unmet (or_tells (not_tells (itself (pairs_sound false (rule_records s)))) (ltb_tells most_rules (length (rules_as_read partners w s))))

-- a sheet is read as that many rules, whatever the partners are
read_count : (partners : List ℕ) (w : ℕ) (s : List ℕ) → length (rules_as_read partners w s) ≡ length (rules_read (written_of s))
unfolding rules_as_read rules_as_written
read_count partners w s = count_as_read partners (written_of s)

-- rules that were packed are read again
pub packed_rules_read : (ws : List WrittenRule) → All WrittenInRange ws → written_of (pack_rules ws) ≡ ws
unfolding written_of pack_rules
packed_rules_read ws h = ap written_in (records_packed (flat_map written_numbers ws) (numbers_below ws h)) ∙ (numbers_read ws h).0

-- and their sheet meets none of 1, 2 and 17
pub packed_rules_pass : (partners : List ℕ) (w : ℕ) (ws : List WrittenRule) → WrittenRulesInRange ws
    → (¬ T (refuses1 (pack_rules ws))) × (¬ T (refuses2 (pack_rules ws))) × (¬ T (refuses17 partners w (pack_rules ws)))
unfolding pack_rules
packed_rules_pass partners w ws h =
    let xs : List ℕ = flat_map written_numbers ws in
    let below : All IsRecord xs = numbers_below ws h.1 in
    let few : length xs ≤ length (rules_read ws) = records_few ws in
    let most : length (rules_read ws) ≤ most_rules = h.0 in
    let sound : Passing (rule_records (pack_rules ws)) = rw (records_packed xs below) (numbers_read ws h.1).1 in
    let count : length (rules_as_read partners w (pack_rules ws)) ≡ length (rules_read ws) =
    read_count partners w (pack_rules ws) ∙ ap (λ us. length (rules_read us)) (packed_rules_read ws h.1) in (
      records_pass xs (omega arith) below,
      (unmet2 (pack_rules ws)).1 sound.0,
      (unmet17 partners w (pack_rules ws)).1 (sound.1, omega arith),
    )

module _ (partners : List ℕ) (w : ℕ) (s : List ℕ) (bytes : All IsByte s) (not1 : ¬ T (refuses1 s)) (not2 : ¬ T (refuses2 s))
    (not17 : ¬ T (refuses17 partners w s)) where
  -- the records again, and the range of what they say
  said_again : (flat_map written_numbers (written_of s) ≡ rule_records s) × All WrittenInRange (written_of s)
  unfolding written_of
  said_again = numbers_again (rule_records s) ((unmet2 s).0 not2, ((unmet17 partners w s).0 not17).0) (records_again s bytes not1).1

  -- a sheet that meets none of 1, 2 and 17 is the packing of what it says
  pub read_rules_packed : pack_rules (written_of s) ≡ s
  unfolding pack_rules
  read_rules_packed = ap (pack_records 4) said_again.0 ∙ (records_again s bytes not1).0

  -- which is in range
  pub read_rules_in : WrittenRulesInRange (written_of s)
  read_rules_in = (subst (λ n. n ≤ most_rules) (read_count partners w s) ((unmet17 partners w s).0 not17).1, said_again.1)
