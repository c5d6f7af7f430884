-- Roles compared with the helpers in use: one role, the roles of a record, of an atom, of a fact, and loops over these.
use mathlib.Core.Path.{◌≡◌, refl, sym, ap, ap₂, ◌∙◌, subst}
use Prim.Native.Nat.{ℕ, ◌+◌, ◌-◌, ◌*◌, ◌/◌, ◌≤◌, ◌<◌}
use native.Mathlib.Nat.{zero-add}
use native.Mathlib.Decide.{dec_lt}
use native.Mathlib.Omega.{arith}
use mathlib.Core.Bool.{Bool, true, false, ◌&&◌, ◌||◌, and-true, or-false}
use mathlib.Core.List.{List, [], ◌∷◌, map}
use lib.Dec.{T, eqb, ltb}
use lib.ListN.{length, take}
use Rattle.std.specs.List.{list_any}
use borrow.Author.Rules.{rules}
use borrow.Author.Tests.{eq-eqb, ne_eqb, lt-ltb, le-ltb}
use Rattle.theory.specs.Lists.{pick, any, all, numbers}
use Rattle.theory.specs.Syntax.{Atom, has, has_inverse}
use Rattle.theory.specs.Qualified.{roles_of_basic, roles_of_atom, roles_of_rules, roles_of_atoms}
use Rattle.theory.specs.Laws.Lists.{map_agree}
use Rattle.theory.specs.Laws.Scans.{some_from, some_place, scans}
use Rattle.words.specs.Limits.{sheet_width, name_bound, rule_bytes}
use Rattle.words.specs.Records.{rule_kind, left_form, left_name, right_form, right_name, basic_of, atom_of, fact_of, fact_kind, fact_name}
use Rattle.words.specs.Words.{word_atom, word_fact, word_kind, word_name, query_of, Small, facts_in}
use Rattle.words.specs.declared.QueryWords.{QueryWords}
use Rattle.words.specs.Limits.{word_width}
use Rattle.sheets.specs.Bits.{number_at}
use Rattle.sheets.specs.Format.{records_from, rule_records}
use Rattle.sheets.specs.Partners.{is_higher, lower, basic_as_read}
use Rattle.sheets.specs.Reading.{rules_as_written}
use Rattle.sheets.specs.Tests.{passes2, pairs_sound}
use Rattle.read_helpers.specs.InUse.{is_helper, clashing, record_roles}
use Rattle.read_helpers.specs.InUseLaws.{clashing_both, clashing_flat, sheet_roles}

-- ---- one role

pub in_use : (P k : ℕ) (r : Bool) → P < name_bound → r ≡ ltb (4095 - P) k → r ≡ is_helper k P
unfolding is_helper
in_use P k r l e = e ∙ same ∙ sym (and-true (ltb 4095 (P + k))) ∙ ap (λ b. ltb 4095 (P + k) && b) (sym (lt-ltb P name_bound l))
  where
    same : ltb (4095 - P) k ≡ ltb 4095 (P + k)
    same = elim (dec_lt (4095 - P) k) [
      | yes h ↦ lt-ltb (4095 - P) k h ∙ sym (lt-ltb 4095 (P + k) (omega arith))
      | no h ↦ le-ltb (4095 - P) k (omega arith) ∙ sym (le-ltb 4095 (P + k) (omega arith))
    ]

one_role : (k P : ℕ) → clashing k (P ∷ []) ≡ is_helper k P
unfolding clashing any
one_role k P = or-false (is_helper k P)

no_role : (k : ℕ) → clashing k [] ≡ false
unfolding clashing any
no_role k = refl

-- ---- a description

-- any form but 0 names one role, the lower of two partners
role_form : (p : List ℕ) (f n : ℕ) → (f ≡ 0 → ⊥) → roles_of_basic (basic_as_read p (basic_of f n)) ≡ lower p n ∷ []
unfolding basic_of basic_as_read
role_form p f n g = rw (ne_eqb f 0 g) (by_form (eqb f 1))
  where
    by_form : (b : Bool) → roles_of_basic (basic_as_read p (pick b (has n) (has_inverse n))) ≡ lower p n ∷ []
    by_form true = elim (is_higher p n) as (λ h. roles_of_basic (pick h (has_inverse (lower p n)) (has (lower p n))) ≡ lower p n ∷ []) [
      | true ↦ refl
      | false ↦ refl
    ]
    by_form false = elim (is_higher p n) as (λ h. roles_of_basic (pick h (has (lower p n)) (has_inverse (lower p n))) ≡ lower p n ∷ []) [
      | true ↦ refl
      | false ↦ refl
    ]

module _ (p : List ℕ) (k f n : ℕ) where
  pub concept_clear : f ≡ 0 → false ≡ clashing k (roles_of_basic (basic_as_read p (basic_of f n)))
  unfolding basic_of basic_as_read clashing any
  concept_clear e = rw e

  pub side_clash : (f ≡ 0 → ⊥) → (low : ℕ) (r : Bool) → low ≡ lower p n → r ≡ is_helper k low
      → r ≡ clashing k (roles_of_basic (basic_as_read p (basic_of f n)))
  side_clash g low r e h =
      h ∙ ap (is_helper k) e ∙ sym (one_role k (lower p n)) ∙ ap (clashing k) (sym (role_form p f n g))

pub ruleset side_laws = (rules, in_use, concept_clear, side_clash)

-- ---- a record

module _ (p : List ℕ) (k x kind : ℕ) (is : kind ≡ rule_kind x) where
  two_roles : kind ≡ 2 → (l r a b : ℕ) (s t : Bool) → l ≡ left_name x → r ≡ right_name x → a ≡ lower p l → b ≡ lower p r
      → s ≡ is_helper k a → t ≡ is_helper k b → (s || t) ≡ clashing k (record_roles p x)
  unfolding record_roles clashing any
  two_roles two l r a b s t el er ea eb es et =
      ap₂ ◌||◌ (es ∙ ap (is_helper k) (ea ∙ ap (lower p) el)) (et ∙ ap (is_helper k) (eb ∙ ap (lower p) er))
      ∙ rw (eq-eqb (rule_kind x) 2 (sym is ∙ two)) (ap (λ b. is_helper k (lower p (left_name x)) || b)
      (sym (or-false (is_helper k (lower p (right_name x))))))

  -- the second is looked at where the first is none
  module _ (two : kind ≡ 2) (l a : ℕ) (s : Bool) (el : l ≡ left_name x) (ea : a ≡ lower p l) (es : s ≡ is_helper k a) where
    pub first_role : s ≡ true → s ≡ clashing k (record_roles p x)
    first_role t =
        let h = two_roles two l (right_name x) a (lower p (right_name x)) s (is_helper k (lower p
        (right_name x))) el refl ea refl es refl in
        t ∙ rw t at h

    pub second_role : s ≡ false → (r b : ℕ) (t : Bool) → r ≡ right_name x → b ≡ lower p r → t ≡ is_helper k b
        → t ≡ clashing k (record_roles p x)
    second_role f r b t er eb et = let h = two_roles two l r a b s t el er ea eb es et in rw f at h

  pub filler_clear : kind ≡ 4 → false ≡ clashing k (record_roles p x)
  unfolding record_roles clashing any
  filler_clear four = rw (sym is ∙ four)

  two_sides : (kind ≡ 2 → ⊥) → (kind ≡ 4 → ⊥) → (lf ln rf rn : ℕ) (s t : Bool) → lf ≡ left_form x → ln ≡ left_name x
      → rf ≡ right_form x → rn ≡ right_name x → s ≡ clashing k (roles_of_basic (basic_as_read p (basic_of lf ln)))
      → t ≡ clashing k (roles_of_basic (basic_as_read p (basic_of rf rn))) → (s || t) ≡ clashing k (record_roles p x)
  unfolding record_roles
  two_sides f g lf ln rf rn s t el en er em es et =
      let sides = clashing_both k (roles_of_basic (basic_as_read p (basic_of (left_form x) (left_name x))))
      (roles_of_basic (basic_as_read p (basic_of (right_form x) (right_name x)))) in
      let whole = ap₂ ◌||◌ (es ∙ ap₂ (λ f n. clashing k (roles_of_basic (basic_as_read p (basic_of f n)))) el en)
      (et ∙ ap₂ (λ f n. clashing k (roles_of_basic (basic_as_read p (basic_of f n)))) er em) in
      rw (ne_eqb (rule_kind x) 2 (λ e. f (is ∙ e)), ne_eqb (rule_kind x) 4 (λ e. g (is ∙ e))) (whole ∙ sym sides)

  module _ (f : kind ≡ 2 → ⊥) (g : kind ≡ 4 → ⊥) (lf ln : ℕ) (s : Bool) (el : lf ≡ left_form x) (en : ln ≡ left_name x)
      (es : s ≡ clashing k (roles_of_basic (basic_as_read p (basic_of lf ln))))
    where
      pub first_side : s ≡ true → s ≡ clashing k (record_roles p x)
      first_side t =
          let r : Bool = clashing k (roles_of_basic (basic_as_read p (basic_of (right_form x) (right_name x)))) in
          let h = two_sides f g lf ln (right_form x) (right_name x) s r el en refl refl es refl in
          t ∙ rw t at h

      pub second_side : s ≡ false → (rf rn : ℕ) (t : Bool) → rf ≡ right_form x → rn ≡ right_name x
          → t ≡ clashing k (roles_of_basic (basic_as_read p (basic_of rf rn))) → t ≡ clashing k (record_roles p x)
      second_side d rf rn t er em et = let h = two_sides f g lf ln rf rn s t el en er em es et in rw d at h

pub ruleset record_laws = (rules, first_role, second_role, filler_clear, first_side, second_side)

-- ---- an atom, a fact

module _ (k a kind : ℕ) (is : kind ≡ word_kind a) where
  pub atom_clear : kind ≡ 0 → false ≡ clashing k (roles_of_atom (word_atom a))
  unfolding atom_of clashing any
  atom_clear e = rw (sym is ∙ e)

  pub atom_clash : (kind ≡ 0 → ⊥) → (n : ℕ) (r : Bool) → n ≡ word_name a → r ≡ is_helper k n → r ≡ clashing k (roles_of_atom (word_atom a))
  unfolding atom_of
  atom_clash f n r e h = rw (ne_eqb (word_kind a) 0 (λ d. f (is ∙ d))) (h ∙ ap (is_helper k) e ∙ sym (one_role k (word_name a)))

module _ (k a kind : ℕ) (is : kind ≡ fact_kind word_width a) where
  pub fact_clear : kind ≡ 0 → false ≡ clashing k (roles_of_atom (word_fact a))
  unfolding fact_of clashing any
  fact_clear e = rw (sym is ∙ e)

  pub fact_clash_lem : (kind ≡ 0 → ⊥) → (n : ℕ) (r : Bool) → n ≡ fact_name word_width a → r ≡ is_helper k n
      → r ≡ clashing k (roles_of_atom (word_fact a))
  unfolding fact_of
  fact_clash_lem f n r e h =
      rw (ne_eqb (fact_kind word_width a) 0 (λ d. f (is ∙ d))) (h ∙ ap (is_helper k) e ∙ sym (one_role k (fact_name word_width a)))

pub ruleset atom_laws = (rules, atom_clear, atom_clash, fact_clear, fact_clash_lem)

-- ---- loops

-- whether the record of the sheet, the word of a table at place i has a helper among its roles
abbrev pub record_at : List ℕ → ℕ → List ℕ → ℕ → Bool
record_at p k s i = clashing k (record_roles p (number_at s (rule_bytes * i) 4))

module _ (p : List ℕ) (k : ℕ) (s : List ℕ) where
  pub record_here : (i x : ℕ) (r : Bool) → x ≡ number_at s (rule_bytes * i) 4 → r ≡ clashing k (record_roles p x) → r ≡ record_at p k s i
  record_here i x r e h = h ∙ ap (λ y. clashing k (record_roles p y)) e

  pub rules_scanned : all passes2 (rule_records s) ≡ true → pairs_sound false (rule_records s) ≡ true
      → some_from (record_at p k s) 0 (length s / rule_bytes) ≡ clashing k (roles_of_rules (rules_as_written p sheet_width s))
  unfolding records_from
  rules_scanned passed sound =
      let place : (i : ℕ) → rule_bytes * i ≡ 0 + rule_bytes * i = λ i. sym (zero-add (rule_bytes * i)) in
      some_place (λ i. number_at s (rule_bytes * i) 4) (length s / rule_bytes) (λ x. clashing k (record_roles p x))
      ∙ ap (any (λ x. clashing k (record_roles p x)))
      (map_agree (λ i. number_at s (rule_bytes * i) 4) (λ i. number_at s (0 + rule_bytes * i) 4) (numbers 0 (length s / rule_bytes))
      (λ i m. ap (λ at. number_at s at 4) (place i)))
      ∙ sym (clashing_flat k (record_roles p) (rule_records s))
      ∙ ap (clashing k) (sym (sheet_roles p sheet_width s (subst T (sym passed) tt) (subst T (sym sound) tt)))

pub ruleset rules_laws = (rules, scans, record_here, rules_scanned)

-- whether some word has one, by what a word says
listed : {X : Type 0} (of : ℕ → Atom X) (p : Atom X → Bool) (words : List ℕ) → list_any (λ a. p (of a)) words ≡ any p (map of words)
unfolding any
listed of p [] = refl
listed of p (a ∷ words) = ap (λ b. p (of a) || b) (listed of p words)

pub some_clash : {X : Type 0} (of : ℕ → Atom X) (k : ℕ) (words : List ℕ)
    → list_any (λ a. clashing k (roles_of_atom (of a))) words ≡ clashing k (roles_of_atoms (map of words))
unfolding roles_of_atoms
some_clash of k words =
    listed of (λ a. clashing k (roles_of_atom a)) words ∙ sym (clashing_flat k roles_of_atom (map of words))

-- a question has its atoms
pub question_clash : (k : ℕ) (q : QueryWords) → clashing k (roles_of_atoms (map word_atom (take q.size q.atoms)))
    ≡ clashing k (roles_of_atoms (query_of q).atoms)
unfolding query_of
question_clash k q = refl

pub few_atoms_there : (q : QueryWords) → Small q → q.size ≤ 8
few_atoms_there q h = h.few_atoms

pub ruleset question_laws = (rules, few_atoms_there)

-- a table has its facts
pub facts_there : (k : ℕ) (table : List ℕ) (count : ℕ) (r : Bool) → r ≡ clashing k (roles_of_atoms (map word_fact (take count table)))
    → r ≡ clashing k (roles_of_atoms (facts_in table count))
unfolding facts_in
facts_there k table count r e = e

-- no clash is known, and one was looked for
pub looked_for : (c x y : Bool) → c ≡ false → x ≡ y → x ≡ (c || y)
looked_for c x y f e = rw f e

pub ruleset either_laws = (rules, looked_for, facts_there)
