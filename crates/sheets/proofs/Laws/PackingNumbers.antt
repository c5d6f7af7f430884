-- Records as numbers: the fields that were put into a number are read from it, and a number that reads without refusal is put
-- together from what is read.
use Rattle.std.specs.Prelude.{
  ◌≡◌,
  refl,
  ◌↔◌,
  ◌≢◌,
  ℕ,
  zero,
  suc,
  ◌+◌,
  ◌*◌,
  ◌/◌,
  ◌%◌,
  ◌^◌,
  ◌≤◌,
  ◌<◌,
  Bool,
  ◌&&◌,
  ◌||◌,
  not,
  List,
  [],
  ◌∷◌,
  eqb,
}
use Rattle.std.proofs.Math.Path.{sym, ap₂, fun_ext}
use Rattle.std.proofs.Common.{
  ap,
  ◌∙◌,
  subst,
  add-zero,
  mul_comm,
  mul_assoc,
  pow-suc,
  div-one,
  mod-eq_of_lt,
  div-add-mod',
  div-lt_iff_lt-mul,
  lt→ltb,
  lit<,
}
use Rattle.std.proofs.Math.Nat.{
  one-le-pow,
  mod-lt,
  div-eq_of_lt,
  mul-add-div_right,
  mul-add-mod_self_right,
  div-div-eq-div-mul,
  lt-div-mul-add,
}
use native.Mathlib.Omega.{arith}
use Rattle.std.proofs.Math.Bool.{true, false}
use Rattle.std.proofs.Math.Dec.{T, ltb, ltb→lt}
use Rattle.theory.specs.Lists.{pick}
use Rattle.theory.specs.Syntax.{
  Term,
  var,
  const,
  Atom,
  concept,
  role,
  Basic,
  named,
  has,
  has_inverse,
  Rule,
  concept_inclusion,
  role_inclusion,
}
use Rattle.theory.specs.Laws.Options.{T_and, T_eqb}
use Rattle.words.specs.Laws.Fields.{field_below}
use Rattle.words.specs.Records.{field, is_rule, basic_of, rule_in, term_of, atom_of, fact_of, step_of}
use Rattle.words.specs.Limits.{sheet_width}
use Rattle.sheets.specs.Tests.{term_sound, atom_sound, fact_sound}
use Rattle.sheets.specs.Packing.{
  bits_after,
  fields_number,
  form_of,
  name_of,
  rule_fields,
  rule_number,
  term_fields,
  term_number,
  atom_number,
}
use Rattle.sheets.specs.Packing.{fact_number, step_fields, step_number, RuleInRange, TermInRange, AtomInRange, StepInRange, FactInRange}
use Rattle.sheets.specs.Packing.{atom_fields_by, AtomOver}

-- ---- powers

pub pow_pos : (n : ℕ) → 0 < 2 ^ n
pow_pos n = one-le-pow n 2 (omega arith)

pub pow_add : (m n : ℕ) → 2 ^ (m + n) ≡ 2 ^ m * 2 ^ n
pow_add m zero = ap (λ k. 2 ^ k) (add-zero m) ∙ omega arith
pow_add m (suc n) =
    ap (λ k. 2 ^ k) (omega arith) ∙ pow-suc 2 (m + n) ∙ ap (λ x. x * 2) (pow_add m n) ∙ mul_assoc (2 ^ m) (2 ^ n) 2
    ∙ ap (λ x. 2 ^ m * x) (sym (pow-suc 2 n))

-- ---- fields

-- the bits of the fields; each value fits its width; each field is read from x
abbrev pub bits : List (ℕ × ℕ) → ℕ
bits [] = 0
bits (f ∷ fs) = f.0 + bits fs

abbrev pub Fit : List (ℕ × ℕ) → Type 0
Fit [] = Unit {0}
Fit (f ∷ fs) = (f.1 < 2 ^ f.0) × Fit fs

abbrev pub Has : ℕ → List (ℕ × ℕ) → Type 0
Has x [] = Unit {0}
Has x (f ∷ fs) = (field (bits fs) f.0 x ≡ f.1) × Has x fs

-- what is asked of five fields, from five parts
pub five : {A B C D E : Type 0} → A → B → C → D → E → A × (B × (C × (D × (E × Unit {0}))))
five a b c d e = (a, (b, (c, (d, (e, tt)))))

-- what stands above the fields
above_read : (above : ℕ) (fs : List (ℕ × ℕ)) → Fit fs → bits_after above fs / 2 ^ bits fs ≡ above
unfolding bits_after
above_read above [] fit = div-one above
above_read above (f ∷ fs) fit =
    let x : ℕ = bits_after (above * 2 ^ f.0 + f.1) fs in
    ap (λ k. x / k) (pow_add f.0 (bits fs) ∙ mul_comm (2 ^ f.0) (2 ^ bits fs))
    ∙ sym (div-div-eq-div-mul x (2 ^ bits fs) (2 ^ f.0))
    ∙ ap (λ y. y / 2 ^ f.0) (above_read (above * 2 ^ f.0 + f.1) fs fit.1)
    ∙ mul-add-div_right (pow_pos f.0) above f.1
    ∙ ap (λ y. above + y) (div-eq_of_lt fit.0)
    ∙ add-zero above

fields_read_after : (above : ℕ) (fs : List (ℕ × ℕ)) → Fit fs → Has (bits_after above fs) fs
unfolding bits_after
fields_read_after above [] fit = tt
fields_read_after above (f ∷ fs) fit = (
  ap (λ y. y % 2 ^ f.0) (above_read (above * 2 ^ f.0 + f.1) fs fit.1)
      ∙ mul-add-mod_self_right above (2 ^ f.0) f.1
      ∙ mod-eq_of_lt fit.0,
  fields_read_after (above * 2 ^ f.0 + f.1) fs fit.1,
)

pub fields_read : (fs : List (ℕ × ℕ)) → Fit fs → Has (fields_number fs) fs
unfolding fields_number
fields_read fs fit = fields_read_after 0 fs fit

pub fields_below : (fs : List (ℕ × ℕ)) → Fit fs → fields_number fs < 2 ^ bits fs
unfolding fields_number
fields_below fs fit =
    let e : fields_number fs < fields_number fs / 2 ^ bits fs * 2 ^ bits fs + 2 ^ bits fs = lt-div-mul-add (pow_pos (bits fs)) in
    let d : fields_number fs < 0 * 2 ^ bits fs + 2 ^ bits fs = rw (above_read 0 fs fit) at e in
    omega arith

-- a number is put together from its fields
fields_after : (x : ℕ) (fs : List (ℕ × ℕ)) → Has x fs → bits_after (x / 2 ^ bits fs) fs ≡ x
unfolding bits_after
fields_after x [] h = div-one x
fields_after x (f ∷ fs) h =
    let y : ℕ = x / 2 ^ bits fs in
    let above : x / 2 ^ (f.0 + bits fs) ≡ y / 2 ^ f.0 =
    ap (λ k. x / k) (pow_add f.0 (bits fs) ∙ mul_comm (2 ^ f.0) (2 ^ bits fs))
    ∙ sym (div-div-eq-div-mul x (2 ^ bits fs) (2 ^ f.0)) in
    ap (λ z. bits_after z fs) (ap₂ (λ a v. a * 2 ^ f.0 + v) above (sym h.0) ∙ div-add-mod' y (2 ^ f.0))
    ∙ fields_after x fs h.1

pub fields_again : (x : ℕ) (fs : List (ℕ × ℕ)) → x < 2 ^ bits fs → Has x fs → fields_number fs ≡ x
unfolding fields_number
fields_again x fs l h = ap (λ a. bits_after a fs) (sym (div-eq_of_lt l)) ∙ fields_after x fs h

pub fields_fit : (x : ℕ) (fs : List (ℕ × ℕ)) → Has x fs → Fit fs
fields_fit x [] h = tt
fields_fit x (f ∷ fs) h = (subst (λ v. v < 2 ^ f.0) h.0 (field_below (bits fs) f.0 x), fields_fit x fs h.1)

-- ---- codes

-- A value in range is a number below the bound that passes the test, and such a number is a value in range: one to one.
pub record Code {X : Type 0} (bound : ℕ) (of : ℕ → X) (number : X → ℕ) (sound : ℕ → Bool) (InRange : X → Type 0) : Type 0 where
  pub below : (v : X) → InRange v → number v < bound
  pub passes : (v : X) → InRange v → T (sound (number v))
  pub read : (v : X) → InRange v → of (number v) ≡ v
  pub again : (x : ℕ) → x < bound → T (sound x) → number (of x) ≡ x
  pub within : (x : ℕ) → x < bound → T (sound x) → InRange (of x)

-- a code by fields: all have as many bits
module _ {X : Type 0} (size : ℕ) (fields : X → List (ℕ × ℕ)) (of : ℕ → X) (sound : ℕ → Bool) (InRange : X → Type 0) where
  pub by_fields : ((v : X) → bits (fields v) ≡ size)
      → ((v : X) → InRange v → Fit (fields v))
      → ((v : X) (x : ℕ) → InRange v → x < 2 ^ size → Has x (fields v) → T (sound x) × (of x ≡ v))
      → ((x : ℕ) → x < 2 ^ size → T (sound x) → Has x (fields (of x)) × InRange (of x))
      → Code (2 ^ size) of (λ v. fields_number (fields v)) sound InRange
  by_fields same fit fwd bwd = record {
    below = below;
    passes = λ v h. (fwd v (fields_number (fields v)) h (below v h) (fields_read (fields v) (fit v h))).0;
    read = λ v h. (fwd v (fields_number (fields v)) h (below v h) (fields_read (fields v) (fit v h))).1;
    again = λ x l s. fields_again x (fields (of x)) (subst (λ n. x < 2 ^ n) (sym (same (of x))) l) (bwd x l s).0;
    within = λ x l s. (bwd x l s).1;
  }
    where
      below : (v : X) → InRange v → fields_number (fields v) < 2 ^ size
      below v h = subst (λ n. fields_number (fields v) < 2 ^ n) (same v) (fields_below (fields v) (fit v h))

-- ---- rules

pub basic_read : (b : Basic) → basic_of (form_of b) (name_of b) ≡ b
unfolding basic_of
basic_read (named A) = refl
basic_read (has P) = refl
basic_read (has_inverse P) = refl

pub form_below : (b : Basic) → form_of b < 3
form_below (named A) = omega arith
form_below (has P) = omega arith
form_below (has_inverse P) = omega arith

pub form_again : (f n : ℕ) → f < 3 → form_of (basic_of f n) ≡ f
unfolding basic_of
form_again zero n l = refl
form_again (suc zero) n l = refl
form_again (suc (suc zero)) n l = refl
form_again (suc (suc (suc f))) n l = absurd (omega arith)

pub name_again : (f n : ℕ) → name_of (basic_of f n) ≡ n
unfolding basic_of
name_again f n = go (eqb f 0) (eqb f 1)
  where
    go : (a b : Bool) → name_of (pick a (named n) (pick b (has n) (has_inverse n))) ≡ n
    go true b = refl
    go false true = refl
    go false false = refl

form_bit : (f : ℕ) → f < 2 → f ≡ pick (eqb f 1) 1 0
form_bit zero l = refl
form_bit (suc zero) l = refl
form_bit (suc (suc f)) l = absurd (omega arith)

rule_bits : (r : Rule) → bits (rule_fields r) ≡ 32
rule_bits (concept_inclusion left right) = refl
rule_bits (role_inclusion P exchanged Q) = refl

rule_fit : (r : Rule) → RuleInRange r → Fit (rule_fields r)
rule_fit (concept_inclusion left right) h =
    let l : form_of left < 3 = form_below left in
    let r : form_of right < 3 = form_below right in
    omega arith
rule_fit (role_inclusion P true Q) h = omega arith
rule_fit (role_inclusion P false Q) h = omega arith

fit_rule : (r : Rule) → Fit (rule_fields r) → RuleInRange r
fit_rule (concept_inclusion left right) h = (h.1.1.0, h.1.1.1.1.0)
fit_rule (role_inclusion P exchanged Q) h = (h.1.1.0, h.1.1.1.1.0)

-- whether the fields are those of a rule, and the rule
abbrev named_fields : ℕ → ℕ → ℕ → Bool
named_fields k lf rf = pick (eqb k 1) (ltb lf 3 && ltb rf 3) (eqb k 2 && eqb lf 0 && ltb rf 2)

abbrev rule_by : ℕ → ℕ → ℕ → ℕ → ℕ → Rule
rule_by k lf ln rf rn = pick (eqb k 1) (concept_inclusion (basic_of lf ln) (basic_of rf rn)) (role_inclusion ln (eqb rf 1) rn)

rule_parts : (x k lf ln rf rn : ℕ) → Has x ((4, k) ∷ (2, lf) ∷ (12, ln) ∷ (2, rf) ∷ (12, rn) ∷ [])
    → (is_rule x ≡ named_fields k lf rf) × (rule_in x ≡ rule_by k lf ln rf rn)
unfolding is_rule rule_in
rule_parts x k lf ln rf rn h =
    let a : field 28 4 x ≡ k = h.0 in
    let b : field 26 2 x ≡ lf = h.1.0 in
    let c : field 14 12 x ≡ ln = h.1.1.0 in
    let d : field 12 2 x ≡ rf = h.1.1.1.0 in
    let e : field 0 12 x ≡ rn = h.1.1.1.1.0 in
    (cc, cc)

rule_read : (r : Rule) (x : ℕ) → Has x (rule_fields r) → T (is_rule x) × (rule_in x ≡ r)
rule_read (concept_inclusion left right) x h =
    let e = rule_parts x 1 (form_of left) (name_of left) (form_of right) (name_of right) h in
    let forms = (T_and (ltb (form_of left) 3) (ltb (form_of right) 3)).1 (
      lt→ltb (form_of left) 3 (form_below left),
      lt→ltb (form_of right) 3 (form_below right),
    ) in
    (rw e.0 forms, e.1 ∙ ap₂ concept_inclusion (basic_read left) (basic_read right))
rule_read (role_inclusion P true Q) x h = let e = rule_parts x 2 0 P 1 Q h in (rw e.0 tt, e.1)
rule_read (role_inclusion P false Q) x h = let e = rule_parts x 2 0 P 0 Q h in (rw e.0 tt, e.1)

rule_has : (x : ℕ) → T (is_rule x) → Has x (rule_fields (rule_in x))
unfolding is_rule rule_in
rule_has x t = go (eqb k 1) (T_eqb k 1).0 t
  where
    k : ℕ
    k = field 28 4 x

    lf : ℕ
    lf = field 26 2 x

    ln : ℕ
    ln = field 14 12 x

    rf : ℕ
    rf = field 12 2 x

    rn : ℕ
    rn = field 0 12 x

    go : (b : Bool) → (T b → k ≡ 1) → T (pick b (ltb lf 3 && ltb rf 3) (eqb k 2 && eqb lf 0 && ltb rf 2))
        → Has x (rule_fields (pick b (concept_inclusion (basic_of lf ln) (basic_of rf rn)) (role_inclusion ln (eqb rf 1) rn)))
    go true e u =
        let s = (T_and (ltb lf 3) (ltb rf 3)).0 u in
        five (e tt) (sym (form_again lf ln (ltb→lt lf 3 s.0))) (sym (name_again lf ln)) (sym (form_again rf rn (ltb→lt rf 3 s.1)))
        (sym (name_again rf rn))
    go false e u =
        let s = (T_and (eqb k 2 && eqb lf 0) (ltb rf 2)).0 u in
        let r = (T_and (eqb k 2) (eqb lf 0)).0 s.0 in
        five ((T_eqb k 2).0 r.0) ((T_eqb lf 0).0 r.1) refl (form_bit rf (ltb→lt rf 2 s.1)) refl

rule_again : (x : ℕ) → T (is_rule x) → Has x (rule_fields (rule_in x)) × RuleInRange (rule_in x)
rule_again x t = (rule_has x t, fit_rule (rule_in x) (fields_fit x (rule_fields (rule_in x)) (rule_has x t)))

pub rule_code : Code (2 ^ 32) rule_in rule_number is_rule RuleInRange
rule_code =
    by_fields 32 rule_fields rule_in is_rule RuleInRange rule_bits rule_fit (λ r x h l reads. rule_read r x reads) (λ x l t. rule_again x t)

-- ---- steps

pub step_code : Code (2 ^ 32) step_of step_number (λ x. true) StepInRange
unfolding step_of
step_code =
    by_fields 32 step_fields step_of (λ x. true) StepInRange (λ s. refl) (λ s h. omega arith)
    (λ s x h l reads. (tt, λ i. record { kind = reads.0 i; parent = reads.1.0 i; atom = reads.1.1.0 i; other = reads.1.1.1.0 i }))
    (λ x l t. (
      (refl, (refl, (refl, (refl, tt)))),
      (field_below 30 2 x, field_below 20 10 x, field_below sheet_width 4 x, field_below 0 16 x),
    ))

-- ---- terms, and objects

module _ (w : ℕ) (wide : 32 ≤ 2 ^ w) where
  -- the first bit of a term, and the others
  top_bit : (x : ℕ) → x < 2 ^ (w + 1) → (x / 2 ^ w < 2) × (field (w + 0) 1 x ≡ x / 2 ^ w)
  top_bit x l =
      let two : x / 2 ^ w < 2 = (div-lt_iff_lt-mul (pow_pos w)).1 (subst (λ y. x < y) (pow_add w 1 ∙ mul_comm (2 ^ w) 2) l) in
      (two, ap (λ k. x / 2 ^ k % 2) (add-zero w) ∙ mod-eq_of_lt two)

  low_bits : (x : ℕ) → field 0 w x ≡ x % 2 ^ w
  low_bits x = ap (λ y. y % 2 ^ w) (div-one x)

  term_fit : (t : Term) → TermInRange w t → Fit (term_fields w t)
  term_fit (var v) h = omega arith
  term_fit (const c) h = omega arith

  term_bits : (t : Term) → bits (term_fields w t) ≡ w + 1
  term_bits (var v) = omega arith
  term_bits (const c) = omega arith

  term_read : (t : Term) (x : ℕ) → TermInRange w t → x < 2 ^ (w + 1) → Has x (term_fields w t) → T (term_sound w x) × (term_of w x ≡ t)
  unfolding term_sound term_of
  term_read (var v) x h l reads =
      let a : x / 2 ^ w ≡ 0 = sym (top_bit x l).1 ∙ reads.0 in
      let b : x % 2 ^ w ≡ v = sym (low_bits x) ∙ reads.1.0 in
      (rw (a, b) (lt→ltb v 32 h), ap₂ (λ k n. pick (eqb k 0) (var n) (const n)) a b)
  term_read (const c) x h l reads =
      let a : x / 2 ^ w ≡ 1 = sym (top_bit x l).1 ∙ reads.0 in
      let b : x % 2 ^ w ≡ c = sym (low_bits x) ∙ reads.1.0 in
      (rw a tt, ap₂ (λ k n. pick (eqb k 0) (var n) (const n)) a b)

  term_again : (x : ℕ) → x < 2 ^ (w + 1) → T (term_sound w x) → Has x (term_fields w (term_of w x)) × TermInRange w (term_of w x)
  unfolding term_sound term_of
  term_again x l t = go (eqb (x / 2 ^ w) 0) (T_eqb (x / 2 ^ w) 0) t
    where
      go : (b : Bool) → T b ↔ (x / 2 ^ w ≡ 0) → T (not b || ltb (x % 2 ^ w) 32)
          → Has x (term_fields w (pick b (var (x % 2 ^ w)) (const (x % 2 ^ w))))
          × TermInRange w (pick b (var (x % 2 ^ w)) (const (x % 2 ^ w)))
      go true e u = (((top_bit x l).1 ∙ e.0 tt, (low_bits x, tt)), ltb→lt (x % 2 ^ w) 32 u)
      go false e u =
          let two : x / 2 ^ w < 2 = (top_bit x l).0 in
          let set : x / 2 ^ w ≢ 0 = e.1 in
          let one : x / 2 ^ w ≡ 1 = omega arith in
          (((top_bit x l).1 ∙ one, (low_bits x, tt)), mod-lt x (pow_pos w))

  pub term_code : Code (2 ^ (w + 1)) (term_of w) (term_number w) (term_sound w) (TermInRange w)
  term_code = by_fields (w + 1) (term_fields w) (term_of w) (term_sound w) (TermInRange w) term_bits term_fit term_read term_again

pub object_code : (w : ℕ) → Code (2 ^ w) (λ o. o) (λ o. o) (λ o. true) (λ o. o < 2 ^ w)
object_code w = record { below = λ o h. h; passes = λ o h. tt; read = λ o h. refl; again = λ x l t. refl; within = λ x l t. l }

-- ---- atoms and facts: kind, zero bits, number, and two arguments of a code that reads m bits

-- the same field, its place written otherwise
moved : (a b width x : ℕ) {v : ℕ} → a ≡ b → field a width x ≡ v → field b width x ≡ v
moved a b width x e h = ap (λ k. field k width x) (sym e) ∙ h

module _ {X : Type 0} (zeros m size a b c d : ℕ) (of : ℕ → X) (sound : ℕ → Bool) where
  -- how many bits there are, and where the first four fields begin, counted from the last bit
  abbrev Places : Type 0
  Places =
      (1 + (zeros + (12 + (m + (m + 0)))) ≡ size) × (zeros + (12 + (m + (m + 0))) ≡ a) × (12 + (m + (m + 0)) ≡ b) × (m + (m + 0) ≡ c)
      × (m + 0 ≡ d)

  abbrev arg_of : ℕ → Atom X
  arg_of x =
      pick (eqb (field a 1 x) 0) (concept (field c 12 x) (of (field d m x))) (role (field c 12 x) (of (field d m x)) (of (field 0 m x)))

  abbrev arg_sound : ℕ → Bool
  arg_sound x = eqb (field b zeros x) 0 && sound (field d m x) && pick (eqb (field a 1 x) 0) (eqb (field 0 m x) 0) (sound (field 0 m x))

  module _ (number : X → ℕ) (InRange : X → Type 0) (places : Places) (code : Code (2 ^ m) of number sound InRange) where
    abbrev arg_fields : Atom X → List (ℕ × ℕ)
    arg_fields = atom_fields_by zeros m number

    arg_bits : (f : Atom X) → bits (arg_fields f) ≡ size
    arg_bits (concept A s) = places.0
    arg_bits (role P s t) = places.0

    arg_fit : (f : Atom X) → AtomOver InRange f → Fit (arg_fields f)
    arg_fit (concept A s) h = five (lit< tt) (pow_pos zeros) h.0 (code.below s h.1) (pow_pos m)
    arg_fit (role P s t) h = five (lit< tt) (pow_pos zeros) h.0 (code.below s h.1) (code.below t h.2)

    arg_parts : (x k n s t : ℕ) → Has x ((1, k) ∷ (zeros, 0) ∷ (12, n) ∷ (m, s) ∷ (m, t) ∷ [])
        → (arg_of x ≡ pick (eqb k 0) (concept n (of s)) (role n (of s) (of t)))
        × (arg_sound x ≡ (sound s && pick (eqb k 0) (eqb t 0) (sound t)))
    arg_parts x k n s t h =
        let ek : field a 1 x ≡ k = moved _ a 1 x places.1 h.0 in
        let ez : field b zeros x ≡ 0 = moved _ b zeros x places.2 h.1.0 in
        let en : field c 12 x ≡ n = moved _ c 12 x places.3 h.1.1.0 in
        let es : field d m x ≡ s = moved _ d m x places.4 h.1.1.1.0 in
        let et : field 0 m x ≡ t = h.1.1.1.1.0 in
        let r : arg_sound x ≡ (eqb 0 0 && sound s && pick (eqb k 0) (eqb t 0) (sound t)) = cc in
        (cc, r)

    arg_read : (f : Atom X) (x : ℕ) → AtomOver InRange f → Has x (arg_fields f) → T (arg_sound x) × (arg_of x ≡ f)
    arg_read (concept A s) x h reads =
        let e = arg_parts x 0 A (number s) 0 reads in
        (rw e.1 ((T_and (sound (number s)) true).1 (code.passes s h.1, tt)), e.0 ∙ ap (concept A) (code.read s h.1))
    arg_read (role P s t) x h reads =
        let e = arg_parts x 1 P (number s) (number t) reads in (
          rw e.1 ((T_and (sound (number s)) (sound (number t))).1 (code.passes s h.1, code.passes t h.2)),
          e.0 ∙ ap₂ (role P) (code.read s h.1) (code.read t h.2),
        )

    arg_again : (x : ℕ) → T (arg_sound x) → Has x (arg_fields (arg_of x)) × AtomOver InRange (arg_of x)
    arg_again x u = go (eqb (field a 1 x) 0) (T_eqb (field a 1 x) 0) parts.1
      where
        n : ℕ
        n = field c 12 x

        s : ℕ
        s = field d m x

        t : ℕ
        t = field 0 m x

        parts : T (eqb (field b zeros x) 0 && sound s) × T (pick (eqb (field a 1 x) 0) (eqb t 0) (sound t))
        parts = (T_and (eqb (field b zeros x) 0 && sound s) (pick (eqb (field a 1 x) 0) (eqb t 0) (sound t))).0 u

        zeros_first : T (eqb (field b zeros x) 0) × T (sound s)
        zeros_first = (T_and (eqb (field b zeros x) 0) (sound s)).0 parts.0

        s_in : (field d m x ≡ number (of s)) × InRange (of s)
        s_in = (sym (code.again s (field_below d m x) zeros_first.1), code.within s (field_below d m x) zeros_first.1)

        reads : (k t' : ℕ) → field a 1 x ≡ k → t ≡ t' → Has x ((1, k) ∷ (zeros, 0) ∷ (12, n) ∷ (m, number (of s)) ∷ (m, t') ∷ [])
        reads k t' ek et =
            five (moved a _ 1 x (sym places.1) ek) (moved b _ zeros x (sym places.2) ((T_eqb (field b zeros x) 0).0 zeros_first.0))
            (moved c _ 12 x (sym places.3) refl) (moved d _ m x (sym places.4) s_in.0) et

        go : (q : Bool) → T q ↔ (field a 1 x ≡ 0) → T (pick q (eqb t 0) (sound t))
            → Has x (arg_fields (pick q (concept n (of s)) (role n (of s) (of t))))
            × AtomOver InRange (pick q (concept n (of s)) (role n (of s) (of t)))
        go true e v = (reads 0 0 (e.0 tt) ((T_eqb t 0).0 v), (field_below c 12 x, s_in.1))
        go false e v =
            let two : field a 1 x < 2 = field_below a 1 x in
            let set : field a 1 x ≢ 0 = e.1 in
            let one : field a 1 x ≡ 1 = omega arith in (
              reads 1 (number (of t)) one (sym (code.again t (field_below 0 m x) v)),
              (field_below c 12 x, s_in.1, code.within t (field_below 0 m x) v),
            )

    arg_code : Code (2 ^ size) arg_of (λ f. fields_number (arg_fields f)) arg_sound (AtomOver InRange)
    arg_code =
        by_fields size arg_fields arg_of arg_sound (AtomOver InRange) arg_bits arg_fit (λ f x h l reads. arg_read f x h reads)
        (λ x l t. arg_again x t)

pub atom_code : (w : ℕ) → 32 ≤ 2 ^ w → Code (2 ^ (2 * w + 16)) (atom_of w) (atom_number w) (atom_sound w) (AtomInRange w)
unfolding atom_of atom_sound
atom_code w wide =
    arg_code 1 (w + 1) (2 * w + 16) (2 * w + 15) (2 * w + 14) (2 * w + 2) (w + 1) (term_of w) (term_sound w) (term_number w) (TermInRange w)
    (omega arith) (term_code w wide)

pub fact_code : (w : ℕ) → Code (2 ^ (2 * w + 16)) (fact_of w) (fact_number w) (fact_sound w) (FactInRange w)
unfolding fact_of fact_sound
fact_code w =
    subst (λ sound. Code (2 ^ (2 * w + 16)) (fact_of w) (fact_number w) sound (FactInRange w)) (fun_ext same)
    (arg_code 3 w (2 * w + 16) (2 * w + 15) (2 * w + 12) (2 * w) w (λ o. o) (λ o. true) (λ o. o) (λ o. o < 2 ^ w) (omega arith)
    (object_code w))
  where
    drop_true : (p q : Bool) → (p && true && q) ≡ (p && q)
    drop_true true q = refl
    drop_true false q = refl

    same : (x : ℕ) → arg_sound 3 w (2 * w + 16) (2 * w + 15) (2 * w + 12) (2 * w) w (λ o. o) (λ o. true) x ≡ fact_sound w x
    same x = drop_true (eqb (field (2 * w + 12) 3 x) 0) (pick (eqb (field (2 * w + 15) 1 x) 0) (eqb (field 0 w x) 0) true)
