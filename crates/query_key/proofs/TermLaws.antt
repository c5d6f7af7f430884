-- Numbers, terms and atoms: what the code computes of one word is what the definitions say.
use mathlib.Core.Path.{◌≡◌, refl, sym, ap, ◌∙◌, subst}
use Prim.Native.Nat.{ℕ, ◌+◌, ◌*◌, ◌%◌, ◌≤◌, ◌<◌}
use native.Mathlib.Nat.{add-zero, mul-le-mul_left, mul-le-mul_right}
use native.Mathlib.Decide.{ℕ_discrete}
use native.Mathlib.Omega.{arith}
use mathlib.Core.Bool.{Bool, true, false}
use mathlib.Core.List.{List}
use lib.Dec.{eqb}
use lib.ListN.{get_or, set, length-set}
use lib.Seq.{get_or-set_same, get_or-set_other}
use borrow.Author.Rules.{rules}
use borrow.Author.Tests.{eq-eqb, ne_eqb}
use Rattle.theory.specs.Lists.{pick}
use Rattle.theory.specs.Syntax.{Term, var, Atom, concept, role, same_term}
use Rattle.words.specs.Laws.LowVariables.{concept_atom, role_atom, first_low, second_low, object_high, object_term, low_word}
use Rattle.words.specs.Limits.{word_object_bound, word_term_bound}
use Rattle.words.specs.Words.{word_term, word_atom, word_kind, word_name, word_first, word_second, LowTerm}
use Rattle.query_key.specs.Key.{scramble, top, mix, mix_atom, given, given_by, colour_by}
use Rattle.query_key.specs.Colours.{colour_in, Plus, Upto}

-- ---- numbers

pub product_below : (m : ℕ) → (m % 536870909) * (m % 536870879) < top
product_below m =
    let a : m % 536870909 ≤ 536870908 = omega arith in
    let b : m % 536870879 ≤ 536870878 = omega arith in
    omega (arith, mul-le-mul_left (m % 536870909) b, mul-le-mul_right 536870878 a)

pub product_fits : (m : ℕ) → (m % 536870909) * (m % 536870879) < 18446744073709551616
product_fits m = omega (arith, product_below m)

pub scramble_made : (m : ℕ) → (m % 536870909) * (m % 536870879) ≡ scramble m
unfolding scramble
scramble_made m = refl

scramble_below : (m : ℕ) → scramble m < top
scramble_below m = subst (λ n. n < top) (scramble_made m) (product_below m)

pub mix_made : (code x y r : ℕ) → r ≡ scramble (code * 47615012787481 + x % 2147483647 * 1678998313 + y % 2147483647 * 1560889471)
    → r ≡ mix code x y
unfolding mix
mix_made code x y r e = e

-- ---- the term of a word

pub variable_colour : (l : List ℕ) (t : ℕ) → t < 32 → get_or l t 0 ≡ colour_by (colour_in l) (word_term t)
variable_colour l t h = sym (ap (colour_by (colour_in l)) (low_word t h))

pub object_colour : (h : ℕ → ℕ) (t : ℕ) → t < word_term_bound → LowTerm t → 32 ≤ t → t ≡ colour_by h (word_term t)
object_colour h t below low l =
    let e : t ≡ word_object_bound + t % word_object_bound = omega (arith, object_high t low l) in e
    ∙ sym (ap (colour_by h) (object_term t low l))

-- ---- the number of an atom

pub one_term : (b c : Bool) → b ≡ c → b ≡ true → ◌≡◌ {A = ℕ} 4 (pick c 4 3)
one_term b c e d = simp (sym e ∙ d)

pub two_terms : (b c : Bool) → b ≡ c → b ≡ false → ◌≡◌ {A = ℕ} 3 (pick c 4 3)
two_terms b c e d = simp (sym e ∙ d)

module _ (s : Term → ℕ) (a k n t x r : ℕ) (ka : k ≡ word_kind a) (na : n ≡ word_name a) (ta : t ≡ word_first a)
    (xt : x ≡ s (word_term t)) where
  pub concept_mixed : k ≡ 0 → r ≡ mix (4 * n + 2) x 0 → r ≡ mix_atom s (word_atom a)
  unfolding mix_atom
  concept_mixed z e = e ∙ sym (simp (concept_atom a (sym ka ∙ z), sym na, sym ta, sym xt))

  pub role_mixed : (u y c : ℕ) → (k ≡ 0 → ⊥) → u ≡ word_second a → y ≡ s (word_term u) → c
      ≡ pick (same_term (word_term t) (word_term u)) 4 3
      → r ≡ mix (4 * n + c) x y → r ≡ mix_atom s (word_atom a)
  unfolding mix_atom
  role_mixed u y c z ua yu cp e = e ∙ sym (simp (role_atom a (λ w. z (ka ∙ w)), sym na, sym ta, sym ua, sym xt, sym yu, sym cp))

-- ---- what a place gives

pub given_fits : (l : List ℕ) (t w : ℕ) → t < 32 → w < top → Upto 32 l → get_or l t 0 + w < 18446744073709551616
given_fits l t w h k b = omega (arith, b.upto t h)

given_low : (t w v : ℕ) → t < 32 → given (word_term t) w v ≡ pick (eqb t v) w 0
unfolding given same_term
given_low t w v h = simp (low_word t h)

pub given_variable : (l : List ℕ) (t w : ℕ) → Upto 32 l → t < 32 → Plus (given (word_term t) w) l (set l t (get_or l t 0 + w))
given_variable l t w b h = record {
  as_long = length-set l t (get_or l t 0 + w);
  plus = λ v k. elim (ℕ_discrete v t) [
    | yes e ↦
        ap (colour_in (set l t (get_or l t 0 + w))) e ∙ get_or-set_same l t (get_or l t 0 + w) 0 (omega (arith, b.long))
        ∙ ap (λ x. colour_in l x + w) (sym e) ∙ ap (λ x. colour_in l v + x) (sym (given_low t w v h ∙ simp (eq-eqb t v (sym e))))
    | no d ↦
        get_or-set_other l t v (get_or l t 0 + w) 0 d ∙ sym (add-zero (colour_in l v))
        ∙ ap (λ x. colour_in l v + x) (sym (given_low t w v h ∙ simp (ne_eqb t v (λ e. d (sym e)))))
  ];
}

pub given_object : (l : List ℕ) (t w : ℕ) → t < word_term_bound → LowTerm t → 32 ≤ t → Plus (given (word_term t) w) l l
unfolding given same_term
given_object l t w below low h = record { as_long = refl; plus = λ v k. sym (simp (object_term t low h, add-zero)) }

pub given_le : (t : Term) (w v : ℕ) → given t w v ≤ w
unfolding given
given_le t w v = elim (same_term t (var v)) as (λ b. pick b w 0 ≤ w) [ true ↦ omega arith | false ↦ omega arith ]

-- ---- what an atom gives

pub first_room : (l : List ℕ) → Upto 16 l → Upto 32 l
first_room l b = record { long = b.long; upto = λ v k. omega (arith, b.upto v k) }

pub second_room : (l m : List ℕ) (t w : ℕ) → Upto 16 l → w < top → Plus (given (word_term t) w) l m → Upto 32 m
second_room l m t w b h g = record {
  long = g.as_long ∙ b.long;
  upto =
      λ v k. omega (arith, b.upto v k, g.plus v k, given_le (word_term t) w v);
}

-- no more than two numbers
mix_below : (code x y : ℕ) → mix code x y < top
unfolding mix
mix_below code x y = scramble_below (code * 47615012787481 + x % 2147483647 * 1678998313 + y % 2147483647 * 1560889471)

pub given_by_le : (s : Term → ℕ) (a : Atom Term) (v : ℕ) → given_by s a v ≤ 2 * top
unfolding given_by mix_atom
given_by_le s (concept A t) v =
    let w = mix_atom s (concept A t) in
    let h : w < top = mix_below (4 * A + 2) (s t) 0 in
    omega (arith, given_le t w v)
given_by_le s (role P t u) v =
    let w = mix_atom s (role P t u) in
    let h : w < top = mix_below (4 * P + pick (same_term t u) 4 3) (s t) (s u) in
    omega (arith, given_le t w v, given_le u (scramble w) v, scramble_below w)

concept_gives : (s : Term → ℕ) (a v : ℕ) → word_kind a ≡ 0
    → given_by s (word_atom a) v ≡ given (word_term (word_first a)) (mix_atom s (word_atom a)) v
unfolding given_by
concept_gives s a v e = rw (concept_atom a e)

role_gives : (s : Term → ℕ) (a v : ℕ) → (word_kind a ≡ 0 → ⊥)
    → given_by s (word_atom a) v ≡ given (word_term (word_first a)) (mix_atom s (word_atom a)) v + given (word_term (word_second a))
    (scramble (mix_atom s (word_atom a))) v
unfolding given_by
role_gives s a v e = rw (role_atom a e)

module _ (s : Term → ℕ) (l m : List ℕ) (a k t w : ℕ) (ka : k ≡ word_kind a) (ta : t ≡ word_first a) (wa : w ≡ mix_atom s (word_atom a))
    (g : Plus (given (word_term t) w) l m) where
  pub concept_given : k ≡ 0 → Plus (given_by s (word_atom a)) l m
  concept_given z = record {
    as_long = g.as_long;
    plus = λ v h. g.plus v h
        ∙ ap (λ x. colour_in l v + x) (sym (concept_gives s a v (sym ka ∙ z) ∙ simp (sym ta, sym wa)));
  }

  pub role_given : (u x : ℕ) (n : List ℕ) → (k ≡ 0 → ⊥) → u ≡ word_second a → x ≡ scramble w → Plus (given (word_term u) x) m n
      → Plus (given_by s (word_atom a)) l n
  role_given u x n z ua xw h = record {
    as_long = h.as_long ∙ g.as_long;
    plus = λ v j.
        (let e : given_by s (word_atom a) v ≡ given (word_term t) w v + given (word_term u) x v = role_gives s a v (λ y. z (ka ∙ y))
        ∙ simp (sym ta, sym ua, sym wa, sym xw) in
        omega (arith, e, g.plus v j, h.plus v j));
  }

pub ruleset laws = (
  rules,
  product_below,
  product_fits,
  scramble_made,
  mix_made,
  variable_colour,
  object_colour,
  first_low,
  second_low,
  one_term,
  two_terms,
  concept_mixed,
  role_mixed,
  given_fits,
  given_variable,
  given_object,
  first_room,
  second_room,
  concept_given,
  role_given,
)
