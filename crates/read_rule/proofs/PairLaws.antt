-- The words of the three rules that a pair is read as, and the table with them.
use mathlib.Core.Path.{◌≡◌, refl, sym, ap, ap₂, ◌∙◌}
use Prim.Native.Nat.{ℕ, zero, suc, ◌+◌, ◌-◌, ◌*◌, ◌/◌, ◌%◌, ◌<◌, ◌≤◌}
use native.Mathlib.Omega.{arith}
use mathlib.Core.Bool.{Bool, true, false, not, ◌&&◌, xor}
use mathlib.Core.List.{List, [], ◌∷◌, ◌++◌, map, map-append, append_assoc}
use lib.Dec.{eqb, ltb}
use lib.ListN.{length, take, set, length-set}
use lib.Seq.{take-suc-set}
use borrow.Author.Rules.{rules}
use borrow.Author.Tests.{ltb-true}
use Rattle.theory.specs.Syntax.{Rule, named, concept_inclusion, role_inclusion}
use Rattle.theory.specs.Qualified.{some_role, read_as}
use Rattle.theory.specs.Laws.Options.{and_both}
use Rattle.words.specs.Limits.{name_bound}
use Rattle.words.specs.Records.{left_form, left_name, right_form, right_name, kind3_forms, basic_of, rule_in, qualified_in}
use Rattle.sheets.specs.Partners.{is_higher, lower, basic_as_read, written_as_read}
use Rattle.read_rule.specs.Described.{described, description_bound}
use Rattle.read_rule.specs.PairPut.{PairPut}
use Rattle.read_rule.proofs.RuleLaws.{concept_word, role_word, xor_false}

-- ---- the direction as read

pub turn_on : (f : ℕ) (h : Bool) → 0 < f → f < 3 → h ≡ true → eqb (3 - f) 2 ≡ xor (eqb f 2) h
unfolding xor
turn_on zero h p q e = absurd (omega arith)
turn_on (suc zero) h p q e = ap (xor false) (sym e)
turn_on (suc (suc zero)) h p q e = ap (xor true) (sym e)
turn_on (suc (suc (suc f))) h p q e = absurd (omega arith)

pub turn_off : (f : ℕ) (h : Bool) → h ≡ false → eqb f 2 ≡ xor (eqb f 2) h
turn_off f h e = xor_false (eqb f 2) ∙ ap (xor (eqb f 2)) (sym e)

-- ---- words

-- a role form and a role
role_described : (f H : ℕ) → 0 < f → f < 3 → H < name_bound → described (f * 4096 + H) ≡ some_role (eqb f 2) H
unfolding basic_of
role_described zero H p q l = absurd (omega arith)
role_described (suc zero) H p q l =
    let a : (1 * 4096 + H) / 4096 ≡ 1 = omega arith in let b : (1 * 4096 + H) % 4096 ≡ H = omega arith in rw (a, b)
role_described (suc (suc zero)) H p q l =
    let a : (2 * 4096 + H) / 4096 ≡ 2 = omega arith in let b : (2 * 4096 + H) % 4096 ≡ H = omega arith in rw (a, b)
role_described (suc (suc (suc f))) H p q l = absurd (omega arith)

name_described : (n : ℕ) → n < name_bound → described n ≡ named n
unfolding basic_of
name_described n l = let a : n / 4096 ≡ 0 = omega arith in let b : n % 4096 ≡ n = omega arith in rw (a, b)

-- the far end's form is the other one
other_form : (f : ℕ) → 0 < f → f < 3 → eqb (3 - f) 2 ≡ not (eqb f 2)
other_form zero p q = absurd (omega arith)
other_form (suc zero) p q = refl
other_form (suc (suc zero)) p q = refl
other_form (suc (suc (suc f))) p q = absurd (omega arith)

pub helper_had : (l f H : ℕ) → l < description_bound → 0 < f → f < 3 → H < name_bound
    → rule_in (268435456 + l * 16384 + (f * 4096 + H)) ≡ concept_inclusion (described l) (some_role (eqb f 2) H)
helper_had l f H bl p q bh =
    concept_word l (f * 4096 + H) bl (omega arith) ∙ ap (concept_inclusion (described l)) (role_described f H p q bh)

pub role_implied : (H P : ℕ) → H < name_bound → P < name_bound → rule_in (536870912 + H * 16384 + P) ≡ role_inclusion H false P
role_implied H P bh bp =
    let e : 536870912 + H * 16384 + P ≡ 536870912 + H * 16384 + 0 * 4096 + P = omega arith in
    ap rule_in e ∙ role_word H 0 P bh (omega arith) bp

pub filler_borne : (f H filler : ℕ) → 0 < f → f < 3 → H < name_bound → filler < name_bound
    → rule_in (268435456 + ((3 - f) * 4096 + H) * 16384 + filler) ≡ concept_inclusion (some_role (not (eqb f 2)) H) (named filler)
filler_borne f H filler p q bh bf =
    concept_word ((3 - f) * 4096 + H) filler (omega arith) (omega arith)
    ∙ ap₂ concept_inclusion
    (role_described (3 - f) H (omega arith) (omega arith) bh ∙ ap (λ b. some_role b H) (other_form f p q))
    (name_described filler bf)

pub ruleset word_laws = (rules, turn_on, turn_off, helper_had, role_implied, filler_borne)

-- ---- a kind 3's forms

module _ (x : ℕ) (forms : kind3_forms x ≡ true) where
  parts : (left_form x < 3) × (0 < right_form x) × (right_form x < 3)
  unfolding kind3_forms
  parts =
      let a = and_both (ltb (left_form x) 3 && ltb 0 (right_form x)) (ltb (right_form x) 3) forms in
      let b = and_both (ltb (left_form x) 3) (ltb 0 (right_form x)) a.0 in
      (ltb-true (left_form x) 3 b.0, ltb-true 0 (right_form x) b.1, ltb-true (right_form x) 3 a.1)

  pub left_in : (f : ℕ) → f ≡ left_form x → f < 3
  left_in f e = rw e parts.0

  pub right_some : (f : ℕ) → f ≡ right_form x → 0 < f
  right_some f e = rw e parts.1

  pub right_in : (f : ℕ) → f ≡ right_form x → f < 3
  right_in f e = rw e parts.2

-- ---- the table

module _ (table : List ℕ) (at : ℕ) (room : at + 3 ≤ length table) where
  pub room_second : (a : ℕ) → at + 1 < length (set table at a)
  room_second a = rw (length-set table at a) (omega arith)

  pub room_third : (a b : ℕ) → at + 2 < length (set (set table at a) (at + 1) b)
  room_third a b = rw (length-set (set table at a) (at + 1) b, length-set table at a) (omega arith)

  three_put : (a b c : ℕ) → take (at + 3) (set (set (set table at a) (at + 1) b) (at + 2) c) ≡ take at table ++ (a ∷ b ∷ c ∷ [])
  three_put a b c =
      let t1 : List ℕ = set table at a in
      let t2 : List ℕ = set t1 (at + 1) b in
      let e3 : at + 3 ≡ suc (at + 2) = omega arith in
      let e2 : at + 2 ≡ suc (at + 1) = omega arith in
      let e1 : at + 1 ≡ suc at = omega arith in
      let first : take (at + 1) t1 ≡ take at table ++ (a ∷ []) =
      ap (λ k. take k t1) e1 ∙ take-suc-set table at a (omega arith) in
      let second : take (at + 2) t2 ≡ (take at table ++ (a ∷ [])) ++ (b ∷ []) =
      ap (λ k. take k t2) e2 ∙ take-suc-set t1 (at + 1) b (room_second a) ∙ ap (λ l. l ++ (b ∷ [])) first in
      let third : take (at + 3) (set t2 (at + 2) c) ≡ ((take at table ++ (a ∷ [])) ++ (b ∷ [])) ++ (c ∷ []) =
      ap (λ k. take k (set t2 (at + 2) c)) e3 ∙ take-suc-set t2 (at + 2) c (room_third a b) ∙ ap (λ l. l ++ (c ∷ [])) second in
      third
      ∙ append_assoc (take at table ++ (a ∷ [])) (b ∷ []) (c ∷ [])
      ∙ append_assoc (take at table) (a ∷ []) (b ∷ c ∷ [])

  module _ (p : List ℕ) (x y H : ℕ) where
    pub pair_put : (l lf ln role rf form low filler : ℕ) (h : Bool) (a b c : ℕ)
        → described l ≡ basic_as_read p (basic_of lf ln) → lf ≡ left_form x → ln ≡ left_name x → role ≡ right_name x → rf ≡ right_form x
        → h ≡ is_higher p role → eqb form 2 ≡ xor (eqb rf 2) h → low ≡ lower p role → filler ≡ left_name y
        → rule_in a ≡ concept_inclusion (described l) (some_role (eqb form 2) H) → rule_in b ≡ role_inclusion H false low
        → rule_in c ≡ concept_inclusion (some_role (not (eqb form 2)) H) (named filler)
        → PairPut p x y H at table (set (set (set table at a) (at + 1) b) (at + 2) c)
    unfolding written_as_read qualified_in
    pair_put l lf ln role rf form low filler h a b c dl el en er ef eh ed eo ey wa wb wc = record {
      put =
          ap (map rule_in) (three_put a b c)
          ∙ map-append rule_in (take at table) (a ∷ b ∷ c ∷ [])
          ∙ ap (λ (l : List Rule). map rule_in (take at table) ++ l) words;
    }
      where
        turned : eqb form 2 ≡ xor (eqb (right_form x) 2) (is_higher p (right_name x))
        turned = ed ∙ ap₂ (λ f g. xor (eqb f 2) g) ef (eh ∙ ap (is_higher p) er)

        left : described l ≡ basic_as_read p (basic_of (left_form x) (left_name x))
        left = dl ∙ ap₂ (λ f n. basic_as_read p (basic_of f n)) el en

        words : rule_in a ∷ rule_in b ∷ rule_in c ∷ []
            ≡ read_as H (written_as_read p (qualified_in x y))
        words =
            rw (wa, wb, wc, left, turned, ey, eo, er)

pub ruleset pair_laws = (rules, left_in, right_some, right_in, room_second, room_third, pair_put)
