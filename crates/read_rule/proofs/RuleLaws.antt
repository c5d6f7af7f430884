-- Which records are rules, and what a rule's parts as read make of it.
use mathlib.Core.Path.{◌≡◌, refl, sym, ap, ◌∙◌}
use mathlib.Core.Logic.{◌⊎◌, inl, inr}
use Prim.Native.Nat.{ℕ, zero, suc, ◌+◌, ◌-◌, ◌*◌, ◌/◌, ◌%◌, ◌<◌, ◌≤◌}
use native.Mathlib.Decide.{ℕ_discrete}
use native.Mathlib.Omega.{arith}
use mathlib.Core.Bool.{Bool, true, false, not, ◌&&◌, ◌||◌, xor}
use mathlib.Core.List.{List}
use lib.Dec.{eqb, ltb}
use borrow.Author.Rules.{rules}
use borrow.Author.Tests.{lt-ltb, le-ltb, eq-eqb, ne_eqb, ltb-true}
use Rattle.theory.specs.Lists.{pick}
use Rattle.theory.specs.Syntax.{concept_inclusion, role_inclusion}
use Rattle.theory.specs.Laws.Options.{and_both}
use Rattle.words.specs.Records.{rule_kind, left_form, left_name, right_form, right_name, is_rule, is_paired, kind3_forms, kind4_forms}
use Rattle.words.specs.Records.{pair_forms, basic_of, rule_in}
use Rattle.words.specs.Limits.{name_bound}
use Rattle.sheets.specs.Partners.{is_higher, lower, basic_as_read, rule_as_read}
use Rattle.sheets.specs.Tests.{passes2, follows}
use Rattle.read_rule.specs.Described.{described, description_bound}

-- ---- kinds and forms

pub forms_both : (a b : ℕ) → a < 3 → b < 3 → true ≡ (ltb a 3 && ltb b 3)
forms_both a b p q = rw (lt-ltb a 3 p, lt-ltb b 3 q)

pub forms_not_right : (a b : ℕ) → a < 3 → 3 ≤ b → false ≡ (ltb a 3 && ltb b 3)
forms_not_right a b p q = rw (lt-ltb a 3 p, le-ltb b 3 q)

pub forms_not_left : (a b : ℕ) → 3 ≤ a → false ≡ (ltb a 3 && ltb b 3)
forms_not_left a b p = rw (le-ltb a 3 p)

pub direction_both : (a b : ℕ) → a ≡ 0 → b < 2 → true ≡ (eqb a 0 && ltb b 2)
direction_both a b p q = rw (eq-eqb a 0 p, lt-ltb b 2 q)

pub direction_not_right : (a b : ℕ) → a ≡ 0 → 2 ≤ b → false ≡ (eqb a 0 && ltb b 2)
direction_not_right a b p q = rw (eq-eqb a 0 p, le-ltb b 2 q)

pub direction_not_left : (a b : ℕ) → (a ≡ 0 → ⊥) → false ≡ (eqb a 0 && ltb b 2)
direction_not_left a b p = rw (ne_eqb a 0 p)

pub to_both : (a b : ℕ) → a < 3 → 1 ≤ b → b < 3 → true ≡ (ltb a 3 && ltb 0 b && ltb b 3)
to_both a b p q r = rw (lt-ltb a 3 p, lt-ltb 0 b q, lt-ltb b 3 r)

pub to_none : (a b : ℕ) → a < 3 → b < 1 → false ≡ (ltb a 3 && ltb 0 b && ltb b 3)
to_none a b p q = rw (lt-ltb a 3 p, le-ltb 0 b (omega arith))

pub to_not_right : (a b : ℕ) → a < 3 → 3 ≤ b → false ≡ (ltb a 3 && ltb 0 b && ltb b 3)
to_not_right a b p q = rw (lt-ltb a 3 p, lt-ltb 0 b (omega arith), le-ltb b 3 q)

pub to_not_left : (a b : ℕ) → 3 ≤ a → false ≡ (ltb a 3 && ltb 0 b && ltb b 3)
to_not_left a b p = rw (le-ltb a 3 p)

pub filler_both : (a b n : ℕ) (r : Bool) → a ≡ 0 → b ≡ 0 → r ≡ eqb n 0 → r ≡ (eqb a 0 && eqb b 0 && eqb n 0)
filler_both a b n r p q e = rw (eq-eqb a 0 p, eq-eqb b 0 q) e

pub filler_not_right : (a b n : ℕ) → a ≡ 0 → (b ≡ 0 → ⊥) → false ≡ (eqb a 0 && eqb b 0 && eqb n 0)
filler_not_right a b n p q = rw (eq-eqb a 0 p, ne_eqb b 0 q)

pub filler_not_left : (a b n : ℕ) → (a ≡ 0 → ⊥) → false ≡ (eqb a 0 && eqb b 0 && eqb n 0)
filler_not_left a b n p = rw (ne_eqb a 0 p)

-- kinds 3 and 4, or the test on kinds 1 and 2
module _ (k : ℕ) (x a b : Bool) where
  pub kind_one : (r : Bool) → k ≡ 1 → r ≡ x → r ≡ (eqb k 3 || eqb k 4 || pick (eqb k 1) x (eqb k 2 && a && b))
  kind_one r p e = rw p e

  pub kind_two : (r : Bool) → k ≡ 2 → r ≡ (a && b) → r ≡ (eqb k 3 || eqb k 4 || pick (eqb k 1) x (eqb k 2 && a && b))
  kind_two r p e = rw p e

  pub kind_paired : (k ≡ 1 → ⊥) → (k ≡ 2 → ⊥) → 1 ≤ k → k < 5
      → true ≡ (eqb k 3 || eqb k 4 || pick (eqb k 1) x (eqb k 2 && a && b))
  kind_paired one two p q = elim (ℕ_discrete k 3) [ yes e ↦ rw e | no f ↦ (let e : k ≡ 4 = omega arith in rw e) ]

  pub kind_none : k < 1 → false ≡ (eqb k 3 || eqb k 4 || pick (eqb k 1) x (eqb k 2 && a && b))
  kind_none l = let e : k ≡ 0 = omega arith in rw e

  pub kind_high : 5 ≤ k → false ≡ (eqb k 3 || eqb k 4 || pick (eqb k 1) x (eqb k 2 && a && b))
  kind_high l =
      rw (ne_eqb k 1 (λ e. omega arith), ne_eqb k 2 (λ e. omega arith), ne_eqb k 3 (λ e. omega arith), ne_eqb k 4 (λ e. omega arith))

-- the forms of a pair, by kind
module _ (k : ℕ) (x y : Bool) where
  pub pair_three : (r : Bool) → k ≡ 3 → r ≡ x → r ≡ pick (eqb k 3) x (pick (eqb k 4) y true)
  pair_three r p e = rw p e

  pub pair_four : (r : Bool) → k ≡ 4 → r ≡ y → r ≡ pick (eqb k 3) x (pick (eqb k 4) y true)
  pair_four r p e = rw p e

  pub pair_other : (k ≡ 3 → ⊥) → (k ≡ 4 → ⊥) → true ≡ pick (eqb k 3) x (pick (eqb k 4) y true)
  pair_other p q = rw (ne_eqb k 3 p, ne_eqb k 4 q)

pub is_named : (x k l r : ℕ) (b : Bool) → k ≡ rule_kind x → l ≡ left_form x → r ≡ right_form x
    → b ≡ (eqb k 3 || eqb k 4 || pick (eqb k 1) (ltb l 3 && ltb r 3) (eqb k 2 && eqb l 0 && ltb r 2)) → b ≡ passes2 x
unfolding passes2 is_paired is_rule
is_named x k l r b d e f g = rw (← d, ← e, ← f) g

pub pair_formed : (x k l r n : ℕ) (b : Bool) → k ≡ rule_kind x → l ≡ left_form x → r ≡ right_form x → n ≡ right_name x
    → b ≡ pick (eqb k 3) (ltb l 3 && ltb 0 r && ltb r 3) (pick (eqb k 4) (eqb l 0 && eqb r 0 && eqb n 0) true) → b ≡ pair_forms x
unfolding pair_forms kind3_forms kind4_forms
pair_formed x k l r n b d e f g h = rw (← d, ← e, ← f, ← g) h

pub stands_here : (x k : ℕ) (waits t four r : Bool) → k ≡ rule_kind x → four ≡ eqb k 4 → t ≡ pick waits four (not four) → t ≡ true
    → r ≡ pair_forms x → r ≡ follows waits x
unfolding follows
stands_here x k waits t four r d e f g h =
    both (pair_forms x) (sym g ∙ f ∙ ap (λ b. pick waits b (not b)) (e ∙ ap (λ n. eqb n 4) d)) h
  where
    both : {b : Bool} (P : Bool) → true ≡ b → r ≡ P → r ≡ (b && P)
    both P e h = rw (← e) h

pub stands_wrong : (x k : ℕ) (waits t four : Bool) → k ≡ rule_kind x → four ≡ eqb k 4 → t ≡ pick waits four (not four) → t ≡ false
    → false ≡ follows waits x
unfolding follows
stands_wrong x k waits t four d e f g =
    neither (pair_forms x) (sym g ∙ f ∙ ap (λ b. pick waits b (not b)) (e ∙ ap (λ n. eqb n 4) d))
  where
    neither : {b : Bool} (P : Bool) → false ≡ b → false ≡ (b && P)
    neither P e = rw (← e)

pub ruleset form_laws = (
  rules,
  forms_both,
  forms_not_right,
  forms_not_left,
  direction_both,
  direction_not_right,
  direction_not_left,
  to_both,
  to_none,
  to_not_right,
  to_not_left,
  filler_both,
  filler_not_right,
  filler_not_left,
  kind_one,
  kind_two,
  kind_paired,
  kind_none,
  kind_high,
  pair_three,
  pair_four,
  pair_other,
  is_named,
  pair_formed,
  stands_here,
  stands_wrong,
)

-- ---- a description as read

one_or_two : (f : ℕ) → f < 3 → (f ≡ 0 → ⊥) → (f ≡ 1) ⊎ (f ≡ 2)
one_or_two zero p q = absurd (q refl)
one_or_two (suc zero) p q = inl refl
one_or_two (suc (suc zero)) p q = inr refl
one_or_two (suc (suc (suc f))) p q = absurd (omega arith)

turned_form : (p : List ℕ) (f n : ℕ) → (f ≡ 1) ⊎ (f ≡ 2) → is_higher p n ≡ true → basic_of (3 - f) (lower p n)
    ≡ basic_as_read p (basic_of f n)
unfolding basic_of basic_as_read
turned_form p f n (inl e) h = rw (e, h)
turned_form p f n (inr e) h = rw (e, h)

kept_form : (p : List ℕ) (f n : ℕ) → (f ≡ 1) ⊎ (f ≡ 2) → is_higher p n ≡ false → basic_of f (lower p n) ≡ basic_as_read p (basic_of f n)
unfolding basic_of basic_as_read
kept_form p f n (inl e) h = rw (e, h)
kept_form p f n (inr e) h = rw (e, h)

same_basic_lem : {f g m n : ℕ} → f ≡ g → m ≡ n → basic_of f m ≡ basic_of g n
same_basic_lem d e = cc

pub name_as_read : (p : List ℕ) (form n : ℕ) → form ≡ 0 → n < name_bound → described n ≡ basic_as_read p (basic_of form n)
unfolding basic_of basic_as_read
name_as_read p form n e l =
    let none : n / name_bound ≡ 0 = omega arith in
    let same : n % name_bound ≡ n = omega arith in
    rw (e, none, same)

module _ (p : List ℕ) (form n low : ℕ) (h : Bool) (few : form < 3) (some : form ≡ 0 → ⊥) (is : low ≡ lower p n)
    (small : low < name_bound) (high : h ≡ is_higher p n) where
  pub turned_as_read : h ≡ true → described ((3 - form) * name_bound + low) ≡ basic_as_read p (basic_of form n)
  turned_as_read holds = same_basic_lem (omega arith) (omega arith) ∙ turned_form p form n (one_or_two form few some) (sym high ∙ holds)

  pub kept_as_read : h ≡ false → described (form * name_bound + low) ≡ basic_as_read p (basic_of form n)
  kept_as_read fails = same_basic_lem (omega arith) (omega arith) ∙ kept_form p form n (one_or_two form few some) (sym high ∙ fails)

-- ---- a direction as read

pub flip_on : (f : ℕ) (h : Bool) → f < 2 → h ≡ true → eqb (1 - f) 1 ≡ xor (eqb f 1) h
unfolding xor
flip_on zero h p e = ap (xor false) (sym e)
flip_on (suc zero) h p e = ap (xor true) (sym e)
flip_on (suc (suc f)) h p e = absurd (omega arith)

pub xor_false : (b : Bool) → b ≡ xor b false
unfolding xor
xor_false true = refl
xor_false false = refl

xor_assoc : (a b c : Bool) → xor (xor a b) c ≡ xor a (xor b c)
unfolding xor
xor_assoc true true true = refl
xor_assoc true true false = refl
xor_assoc true false true = refl
xor_assoc true false false = refl
xor_assoc false true true = refl
xor_assoc false true false = refl
xor_assoc false false true = refl
xor_assoc false false false = refl

pub flip_off : (f : ℕ) (h : Bool) → h ≡ false → eqb f 1 ≡ xor (eqb f 1) h
flip_off f h e = xor_false (eqb f 1) ∙ ap (xor (eqb f 1)) (sym e)

pub flip_twice : (f g k : ℕ) (h i a b : Bool) → eqb g 1 ≡ xor (eqb f 1) h → eqb k 1 ≡ xor (eqb g 1) i → h ≡ a → i ≡ b
    → eqb k 1 ≡ xor (eqb f 1) (xor a b)
flip_twice f g k h i a b p q d e = q ∙ ap (λ z. xor z i) p ∙ xor_assoc (eqb f 1) h i ∙ (cc)

pub ruleset read_laws = (rules, name_as_read, turned_as_read, kept_as_read, flip_on, flip_off, flip_twice)

-- ---- a rule as read

module _ (x : ℕ) (rule : is_rule x ≡ true) where
  concept_forms : rule_kind x ≡ 1 → (left_form x < 3) × (right_form x < 3)
  unfolding is_rule
  concept_forms k =
      let f : (ltb (left_form x) 3 && ltb (right_form x) 3) ≡ true = rw (eq-eqb (rule_kind x) 1 k) at rule in
      let g = and_both (ltb (left_form x) 3) (ltb (right_form x) 3) f in
      (ltb-true (left_form x) 3 g.0, ltb-true (right_form x) 3 g.1)

  -- a form that the code took of a rule of kind 1, or of kind 2
  pub left_named : (f : ℕ) → f ≡ left_form x → rule_kind x ≡ 1 → f < 3
  left_named f e k = rw e (concept_forms k).0

  pub right_named : (f : ℕ) → f ≡ right_form x → rule_kind x ≡ 1 → f < 3
  right_named f e k = rw e (concept_forms k).1

  pub right_direction : (f : ℕ) → f ≡ right_form x → (rule_kind x ≡ 1 → ⊥) → f < 2
  unfolding is_rule
  right_direction f e k =
      let g : (eqb (rule_kind x) 2 && eqb (left_form x) 0 && ltb (right_form x) 2) ≡ true = rw (ne_eqb (rule_kind x) 1 k) at rule in
      rw e (ltb-true (right_form x) 2 (and_both (eqb (rule_kind x) 2 && eqb (left_form x) 0) (ltb (right_form x) 2) g).1)

-- a rule's word by its two descriptions, and by its roles and right form
pub concept_word : (l r : ℕ) → l < description_bound → r < description_bound
    → rule_in (268435456 + l * 16384 + r) ≡ concept_inclusion (described l) (described r)
unfolding rule_in
concept_word l r bl br =
    let y : ℕ = 268435456 + l * 16384 + r in
    let one : y / 268435456 ≡ 1 = omega arith in
    let kind : rule_kind y ≡ 1 = ap (λ n. n % 16) one in
    let a : left_form y ≡ l / name_bound = omega arith in
    let b : left_name y ≡ l % name_bound = omega arith in
    let c : right_form y ≡ r / name_bound = omega arith in
    let d : right_name y ≡ r % name_bound = omega arith in
    rw (eq-eqb (rule_kind y) 1 kind, a, b, c, d)

pub role_word : (l d r : ℕ) → l < name_bound → d < 2 → r < name_bound
    → rule_in (536870912 + l * 16384 + d * 4096 + r) ≡ role_inclusion l (eqb d 1) r
unfolding rule_in
role_word l d r bl bd br =
    let y : ℕ = 536870912 + l * 16384 + d * 4096 + r in
    let two : y / 268435456 ≡ 2 = omega arith in
    let kind : rule_kind y ≡ 2 = ap (λ n. n % 16) two in
    let a : left_name y ≡ l = omega arith in
    let above : y / 4096 ≡ (32768 + l) * 4 + d = omega arith in
    let b : right_form y ≡ d = ap (λ n. n % 4) above ∙ remainder (32768 + l) d bd in
    let c : right_name y ≡ r = omega arith in
    rw (ne_eqb (rule_kind y) 1 (λ q. omega arith), a, b, c)
  where
    remainder : (u d : ℕ) → d < 2 → (u * 4 + d) % 4 ≡ d
    remainder u d b = omega arith

module _ (p : List ℕ) (x : ℕ) where
  pub concept_rule_as_read : (l r fl nl fr nr : ℕ) → rule_kind x ≡ 1 → l < description_bound → r < description_bound
      → described l ≡ basic_as_read p (basic_of fl nl) → fl ≡ left_form x → nl ≡ left_name x
      → described r ≡ basic_as_read p (basic_of fr nr) → fr ≡ right_form x → nr ≡ right_name x
      → rule_in (268435456 + l * 16384 + r) ≡ rule_as_read p (rule_in x)
  unfolding rule_in rule_as_read
  concept_rule_as_read l r fl nl fr nr k bl br el fl= nl= er fr= nr= =
      concept_word l r bl br ∙ rw (eq-eqb (rule_kind x) 1 k, ← fl=, ← nl=, ← fr=, ← nr=, el, er)

  pub role_rule_as_read : (f m n l d r : ℕ) → (rule_kind x ≡ 1 → ⊥) → f ≡ right_form x → m ≡ left_name x → n ≡ right_name x
      → l ≡ lower p m → l < name_bound → r ≡ lower p n → r < name_bound → eqb d 1 ≡ xor (eqb f 1) (xor (is_higher p m) (is_higher p n))
      → d < 2
      → rule_in (536870912 + l * 16384 + d * 4096 + r) ≡ rule_as_read p (rule_in x)
  unfolding rule_in rule_as_read
  role_rule_as_read f m n l d r k ef em en el bl er br ed bd =
      role_word l d r bl bd br ∙ rw (ne_eqb (rule_kind x) 1 k, ← ef, ← em, ← en, el, er, ed)

pub ruleset rule_laws = (rules, left_named, right_named, right_direction, concept_rule_as_read, role_rule_as_read)
