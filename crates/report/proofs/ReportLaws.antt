-- How pieces add up: a byte, a copy, a number, an object, a line and its rest, the lines and their rest, and the whole text.
use mathlib.Core.Path.{◌≡◌, refl, sym, ap, ap₂, ◌∙◌, subst}
use Prim.Native.Nat.{ℕ, zero, suc, ◌+◌, ◌*◌, ◌-◌, ◌^◌, ◌≤◌, ◌<◌}
use native.Mathlib.Numerals.{add-one}
use native.Mathlib.Nat.{mul-suc}
use native.Mathlib.Decide.{ℕ_discrete}
use native.Mathlib.Omega.{arith}
use mathlib.Core.Bool.{Bool, cond}
use mathlib.Core.List.{List, [], ◌∷◌, ◌++◌, append_assoc, append-nil}
use lib.Dec.{eqb}
use lib.ListN.{length, take, drop, get_or, set, length-append, length-set, length-drop}
use lib.Seq.{take-suc-set, length-take-le, take_at}
use borrow.Rule.Slice.PartMut.{post_of, put_mid}
use borrow.Author.Rules.{rules}
use borrow.Author.Tests.{eq-eqb, ne_eqb}
use mir.Syntax.{w64}
use mir.Val.{Fits}
use Rattle.words.specs.Limits.{object_bound}
use Rattle.promises.specs.Report.{newline, space, refused_text, accepted_text, decimal_of, separator, object_at, objects_at, line, lines_at}
use Rattle.promises.specs.Report.{first_line, report}
use Rattle.promises.proofs.Laws.Printing.{refused_report, listed_report}
use Rattle.report.specs.Put.{Put}
use Rattle.report.specs.Laws.Decimal.{fewest_decimal, short_decimal}
use Rattle.promises.specs.Counts.{IsPrefixLen}
use Rattle.report.specs.Digits.{last_digits, IsDigitCount}

-- ---- one piece

pub byte_put : (out : List ℕ) (end byte : ℕ) → end < length out → Put out end (byte ∷ []) (set out end byte) (end + 1)
byte_put out end byte h = record {
  text = rw (add-one end) (take-suc-set out end byte h);
  ends = refl;
  within = simp length-set (omega arith);
  long = length-set out end byte;
}

-- a copy into the part from `end` on, which is as long as the piece
module _ (out piece part : List ℕ) (end w : ℕ) (h : end + length piece ≤ length out) (e : part ≡ piece) (f : w ≡ length piece) where
  rest : List ℕ
  rest = post_of end w out

  regrouped : put_mid end w out part ≡ (take end out ++ piece) ++ rest
  unfolding rest
  regrouped = ap (λ l. take end out ++ (l ++ post_of end w out)) e ∙ sym (append_assoc (take end out) piece (post_of end w out))

  length_so_far : length (take end out ++ piece) ≡ end + length piece
  length_so_far =
      let a : length (take end out ++ piece) ≡ length (take end out) + length piece = length-append (take end out) piece in
      let b : length (take end out) ≡ end = length-take-le end out (omega arith) in
      omega arith

  same_room : length (put_mid end w out part) ≡ length out
  unfolding rest
  same_room =
      let a : length ((take end out ++ piece) ++ rest) ≡ length (take end out ++ piece) + length rest
      = length-append (take end out ++ piece) rest in
      let b : length rest ≡ length (drop end out) - w = length-drop w (drop end out) in
      let g : length (drop end out) ≡ length out - end = length-drop end out in
      let k = length_so_far in
      ap length regrouped ∙ omega arith

  put_there : Put out end piece (put_mid end w out part) (end + length piece)
  put_there = record {
    text = ap (take (end + length piece)) regrouped ∙ take_at (take end out ++ piece) rest (end + length piece) length_so_far;
    ends = refl;
    within = (let k = same_room in omega arith);
    long = same_room;
  }

pub copy_put : (out piece part : List ℕ) (end : ℕ) → end + length piece ≤ length out → part ≡ piece
    → Put out end piece (put_mid end (end + length piece - end) out part) (end + length piece)
copy_put out piece part end h e = put_there out piece part end (end + length piece - end) h e (omega arith)

-- one piece behind the other
pub both_put : (a b c p q : List ℕ) (e r s : ℕ) → Put a e p b r → Put b r q c s → Put a e (p ++ q) c s
both_put a b c p q e r s f g = record {
  text = g.text ∙ ap (λ l. l ++ q) f.text ∙ append_assoc (take e a) p q;
  ends = (let n : length (p ++ q) ≡ length p + length q = length-append p q in let x = f.ends in let y = g.ends in omega arith);
  within = g.within;
  long = g.long ∙ f.long;
}

-- ---- a number

pub digits_fit : (out text : List ℕ) (end n k : ℕ) → end + length (decimal_of n) ≤ length out → IsDigitCount 10 1 n k → take k text
    ≡ last_digits 10 k n
    → end + length (take k text) ≤ length out
digits_fit out text end n k h f e =
    let d : length (take k text) ≡ length (decimal_of n) = ap length (e ∙ fewest_decimal n k f) in
    omega arith

pub decimal_put : (out after text : List ℕ) (end n k r : ℕ) → IsDigitCount 10 1 n k → take k text ≡ last_digits 10 k n
    → Put out end (take k text) after r → Put out end (decimal_of n) after r
decimal_put out after text end n k r f e p = subst (λ l. Put out end l after r) (e ∙ fewest_decimal n k f) p

-- ---- an object

object_short : (n : ℕ) → n < object_bound → length (decimal_of n) ≤ 5
object_short n h = short_decimal n 4 (omega arith)

pub object_fits : (out : List ℕ) (end x y : ℕ) → end + 6 ≤ length out → x < 256 → y < 256
    → end + length (decimal_of (256 * x + y)) ≤ length out
object_fits out end x y h f g = let l : length (decimal_of (256 * x + y)) ≤ 5 = object_short (256 * x + y) (omega arith) in omega arith

pub separator_fits : (out after : List ℕ) (end x y r : ℕ) → end + 6 ≤ length out → x < 256 → y < 256
    → Put out end (decimal_of (256 * x + y)) after r → r < length after
separator_fits out after end x y r h f g p =
    let l : length (decimal_of (256 * x + y)) ≤ 5 = object_short (256 * x + y) (omega arith) in
    let a = p.ends in
    let b = p.long in
    omega arith

pub object_put : (list out b c : List ℕ) (at end x y r s t : ℕ) (last : Bool)
    → x ≡ get_or list at 0 → y ≡ get_or list (at + 1) 0 → Put out end (decimal_of (256 * x + y)) b r
    → t ≡ cond last newline space → Put b r (t ∷ []) c s
    → Put out end (decimal_of (object_at list at) ++ (cond last newline space ∷ [])) c s
object_put list out b c at end x y r s t last xe ye p te q =
    let o : 256 * x + y ≡ object_at list at = ap₂ (λ u v. 256 * u + v) xe ye in
    subst (λ l. Put out end l c s) (ap₂ (λ u v. decimal_of u ++ (v ∷ [])) o te)
    (both_put out b c (decimal_of (256 * x + y)) (t ∷ []) end r s p q)

pub object_ends : (out b c : List ℕ) (end x y r s t : ℕ) → x < 256 → y < 256 → Put out end (decimal_of (256 * x + y)) b r
    → Put b r (t ∷ []) c s → s ≤ end + 6
object_ends out b c end x y r s t f g p q =
    let l : length (decimal_of (256 * x + y)) ≤ 5 = object_short (256 * x + y) (omega arith) in
    let a = p.ends in
    let d = q.ends in
    omega arith

-- ---- what is left of a text while a loop puts it

pub record Left (out : List ℕ) (end : ℕ) (whole : List ℕ) (now : List ℕ) (to : ℕ) (rest : List ℕ) : Type 0 where
  pub text : take to now ++ rest ≡ take end out ++ whole
  pub ends : to + length rest ≡ end + length whole
  pub within : to ≤ length now
  pub long : length now ≡ length out

all_left : (out whole : List ℕ) (end : ℕ) → end ≤ length out → Left out end whole out end whole
all_left out whole end h = record { text = refl; ends = refl; within = h; long = refl }

one_less : (a b c p whole rest : List ℕ) (e to r : ℕ) → Left a e whole b to (p ++ rest) → Put b to p c r → Left a e whole c r rest
one_less a b c p whole rest e to r f g = record {
  text = ap (λ l. l ++ rest) g.text ∙ append_assoc (take to b) p rest ∙ f.text;
  ends = (let n : length (p ++ rest) ≡ length p + length rest = length-append p rest in let x = f.ends in let y = g.ends in omega arith);
  within = g.within;
  long = g.long ∙ f.long;
}

none_left : (a b whole : List ℕ) (e to : ℕ) → Left a e whole b to [] → Put a e whole b to
none_left a b whole e to f = record {
  text = sym (append-nil (take to b)) ∙ f.text;
  ends = (let x : to + 0 ≡ e + length whole = f.ends in omega arith);
  within = f.within;
  long = f.long;
}

-- ---- a line

pub line_starts : (out list : List ℕ) (at terms end : ℕ) → end + 6 * terms ≤ length out
    → Left out end (line (objects_at list at terms)) out end (line (objects_at list at terms))
line_starts out list at terms end h = all_left out (line (objects_at list at terms)) end (omega arith)

separator_of : (list : List ℕ) (at k : ℕ) → separator (objects_at list at k) ≡ cond (eqb (suc k) 1) newline space
unfolding objects_at
separator_of list at zero = refl
separator_of list at (suc k) = ap (λ (b : Bool). cond b newline space) (sym (ne_eqb (suc (suc k)) 1 (λ e. omega arith)))

line_split : (list : List ℕ) (from left : ℕ) → 0 < left
    → line (objects_at list from left)
    ≡ (decimal_of (object_at list from) ++ (cond (eqb left 1) newline space ∷ [])) ++ line (objects_at list (from + 2) (left - 1))
unfolding objects_at line
line_split list from zero h = absurd (omega arith)
line_split list from (suc k) h =
    let e : suc k - 1 ≡ k = omega arith in
    ap (λ (t : ℕ). decimal_of (object_at list from) ++ (t ∷ line (objects_at list (from + 2) k))) (separator_of list (from + 2) k)
    ∙ sym (append_assoc (decimal_of (object_at list from)) (cond (eqb (suc k) 1) newline space ∷ []) (line (objects_at list (from + 2) k)))
    ∙ ap (λ n. (decimal_of (object_at list from) ++ (cond (eqb (suc k) 1) newline space ∷ [])) ++ line (objects_at list (from + 2) n))
    (sym e)

-- it is the last where one is left
one_left : (k terms : ℕ) → k < terms → eqb (terms - k) 1 ≡ eqb (k + 1) terms
one_left k terms h = elim (ℕ_discrete (k + 1) terms) [
  | yes e ↦ eq-eqb (terms - k) 1 (omega arith) ∙ sym (eq-eqb (k + 1) terms e)
  | no n ↦ ne_eqb (terms - k) 1 (λ e. n (omega arith)) ∙ sym (ne_eqb (k + 1) terms n)
]

pub line_goes_on : (list a b c whole : List ℕ) (at k terms e to r : ℕ) → k < terms
    → Left a e whole b to (line (objects_at list (at + 2 * k) (terms - k)))
    → Put b to (decimal_of (object_at list (at + 2 * k)) ++ (cond (eqb (k + 1) terms) newline space ∷ [])) c r
    → Left a e whole c r (line (objects_at list (at + 2 * (k + 1)) (terms - (k + 1))))
line_goes_on list a b c whole at k terms e to r h f g =
    let next : at + 2 * k + 2 ≡ at + 2 * (k + 1) = omega arith in
    let less : terms - k - 1 ≡ terms - (k + 1) = omega arith in
    subst (λ n. Left a e whole c r (line (objects_at list n (terms - (k + 1))))) next
    (subst (λ n. Left a e whole c r (line (objects_at list (at + 2 * k + 2) n))) less
    (one_less a b c (decimal_of (object_at list (at + 2 * k)) ++ (cond (eqb (k + 1) terms) newline space ∷ [])) whole
    (line (objects_at list (at + 2 * k + 2) (terms - k - 1))) e to r
    (subst (λ l. Left a e whole b to l)
    (line_split list (at + 2 * k) (terms - k) (omega arith)
    ∙ ap (λ (t : Bool). (decimal_of (object_at list (at + 2 * k)) ++ (cond t newline space ∷ []))
    ++ line (objects_at list (at + 2 * k + 2) (terms - k - 1))) (one_left k terms h)) f) g))

pub line_ends : (list a b whole : List ℕ) (from terms k e to : ℕ) → terms ≤ k
    → Left a e whole b to (line (objects_at list from (terms - k)))
    → Put a e whole b to
unfolding objects_at line
line_ends list a b whole from terms k e to h f =
    let none : terms - k ≡ 0 = omega arith in
    none_left a b whole e to (subst (λ n. Left a e whole b to (line (objects_at list from n))) none f)

-- ---- the lines

pub lines_start : (out list : List ℕ) (terms count end : ℕ) → end + 6 * terms * count ≤ length out
    → Left out end (lines_at list 0 terms count) out end (lines_at list 0 terms count)
lines_start out list terms count end h = all_left out (lines_at list 0 terms count) end (omega arith)

lines_split : (list : List ℕ) (from terms left : ℕ) → 0 < left
    → lines_at list from terms left ≡ line (objects_at list from terms) ++ lines_at list (from + 2 * terms) terms (left - 1)
unfolding lines_at
lines_split list from terms zero h = absurd (omega arith)
lines_split list from terms (suc k) h =
    let e : suc k - 1 ≡ k = omega arith in
    ap (λ n. line (objects_at list from terms) ++ lines_at list (from + 2 * terms) terms n) (sym e)

pub lines_go_on : (list a b c whole : List ℕ) (from terms count k e to r : ℕ) → k < count
    → Left a e whole b to (lines_at list from terms (count - k))
    → Put b to (line (objects_at list from terms)) c r → Left a e whole c r (lines_at list (from + 2 * terms) terms (count - (k + 1)))
lines_go_on list a b c whole from terms count k e to r h f g =
    let less : count - k - 1 ≡ count - (k + 1) = omega arith in
    subst (λ n. Left a e whole c r (lines_at list (from + 2 * terms) terms n)) less
    (one_less a b c (line (objects_at list from terms)) whole (lines_at list (from + 2 * terms) terms (count - k - 1)) e to r
    (subst (λ l. Left a e whole b to l) (lines_split list from terms (count - k) (omega arith)) f) g)

pub lines_end : (list a b whole : List ℕ) (from terms count k e to : ℕ) → count ≤ k
    → Left a e whole b to (lines_at list from terms (count - k))
    → Put a e whole b to
unfolding lines_at
lines_end list a b whole from terms count k e to h f =
    let none : count - k ≡ 0 = omega arith in
    none_left a b whole e to (subst (λ n. Left a e whole b to (lines_at list from terms n)) none f)

-- one tuple's part of what all that are left take
one_part : (m left : ℕ) → 0 < left → m * left ≡ m + m * (left - 1)
one_part m zero h = absurd (omega arith)
one_part m (suc k) h =
    let e : suc k - 1 ≡ k = omega arith in
    let d : m * suc k ≡ m * k + m = mul-suc m k in
    rw e (omega arith)

one_more : (m count k : ℕ) → k < count → m * (count - k) ≡ m + m * (count - (k + 1))
one_more m count k h =
    let less : count - k - 1 ≡ count - (k + 1) = omega arith in
    one_part m (count - k) (omega arith) ∙ ap (λ n. m + m * n) less

pub one_read : (from terms count k n : ℕ) → from + 2 * terms * (count - k) ≤ n → k < count → from + 2 * terms ≤ n
one_read from terms count k n h g = omega (arith, one_more (2 * terms) count k g)

-- and its end can be counted
pub step_fits : (from terms count k : ℕ) (list : List ℕ) → from + 2 * terms * (count - k) ≤ length list → k < count
    → length list * 1 < 2 ^ 63
    → Fits w64 (2 * terms)
step_fits from terms count k list h g f = let l : from + 2 * terms ≤ length list = one_read from terms count k
    (length list) h g in omega arith

pub from_fits : (from terms count k : ℕ) (list : List ℕ) → from + 2 * terms * (count - k) ≤ length list → k < count
    → length list * 1 < 2 ^ 63
    → Fits w64 (from + 2 * terms)
from_fits from terms count k list h g f = let l : from + 2 * terms ≤ length list = one_read from terms count k
    (length list) h g in omega arith

pub rest_read : (from terms count k n : ℕ) → from + 2 * terms * (count - k) ≤ n → k < count
    → from + 2 * terms + 2 * terms * (count - (k + 1)) ≤ n
rest_read from terms count k n h g = omega (arith, one_more (2 * terms) count k g)

pub one_fits : (a b whole rest : List ℕ) (e to terms count k : ℕ) → to + 6 * terms * (count - k) ≤ length a → k < count
    → Left a e whole b to rest → to + 6 * terms ≤ length b
one_fits a b whole rest e to terms count k h g f = let l = f.long in omega (arith, one_more (6 * terms) count k g)

pub rest_fits : (to r terms count k n : ℕ) → to + 6 * terms * (count - k) ≤ n → k < count → r ≤ to + 6 * terms
    → r + 6 * terms * (count - (k + 1)) ≤ n
rest_fits to r terms count k n h g d = omega (arith, one_more (6 * terms) count k g)

-- ---- the first line, and the whole text

number_short : (n : ℕ) → n < 18446744073709551616 → length (decimal_of n) ≤ 20
number_short n h = short_decimal n 19 (omega arith)

pub named_fits : (word out after : List ℕ) (n e r : ℕ) → length word ≤ 9 → e + 30 ≤ length out → n < 18446744073709551616
    → Put out e word after r
    → r + length (decimal_of n) ≤ length after
named_fits word out after n e r h g f p = let l = number_short n f in let a = p.ends in let b = p.long in omega arith

pub numbered_fits : (word out b c : List ℕ) (n e r s : ℕ) → length word ≤ 9 → e + 30 ≤ length out → n < 18446744073709551616
    → Put out e word b r
    → Put b r (decimal_of n) c s → s < length c
numbered_fits word out b c n e r s h g f p q =
    let l = number_short n f in
    let x = p.ends in
    let y = p.long in
    let z = q.ends in
    let w = q.long in
    omega arith

pub first_put : (word out b c d : List ℕ) (n e r s t : ℕ) → Put out e word b r → Put b r (decimal_of n) c s → Put c s (newline ∷ []) d t
    → Put out e (first_line word n) d t
first_put word out b c d n e r s t p q u =
    both_put out b d word (decimal_of n ++ (newline ∷ [])) e r t p (both_put b c d (decimal_of n) (newline ∷ []) r s t q u)

pub first_ends : (word out b c d : List ℕ) (n e r s t : ℕ) → length word ≤ 9 → n < 18446744073709551616 → Put out e word b r
    → Put b r (decimal_of n) c s → Put c s (newline ∷ []) d t → t ≤ e + 30
first_ends word out b c d n e r s t h f p q u =
    let l = number_short n f in
    let x = p.ends in
    let y = q.ends in
    let z = u.ends in
    omega arith

pub put_counts : (out piece after : List ℕ) (end r : ℕ) → Put out end piece after r → IsPrefixLen r after
put_counts out piece after end r p = (p.within, sym (length-take-le r after p.within))

pub refused_text_lem : (number count terms r : ℕ) (list out after : List ℕ) → (number ≡ 0 → ⊥)
    → Put out 0 (first_line refused_text number) after r → take r after ≡ report number count terms list
refused_text_lem number count terms r list out after not p = p.text ∙ sym (refused_report number count terms list not)

pub accepted_text_lem : (number count terms r s : ℕ) (list out b c : List ℕ) → number ≡ 0 → Put out 0 (first_line accepted_text count) b r
    → Put b r (lines_at list 0 terms count) c s → take s c ≡ report number count terms list
accepted_text_lem number count terms r s list out b c zeroed p q =
    (both_put out b c (first_line accepted_text count) (lines_at list 0 terms count) 0 r s p q).text
    ∙ sym (listed_report number count terms list zeroed)

pub ruleset laws = (
  rules,
  byte_put,
  copy_put,
  digits_fit,
  decimal_put,
  object_fits,
  separator_fits,
  object_put,
  object_ends,
  line_starts,
  line_goes_on,
  line_ends,
  lines_start,
  lines_go_on,
  lines_end,
  one_read,
  step_fits,
  from_fits,
  rest_read,
  one_fits,
  rest_fits,
  named_fits,
  numbered_fits,
  first_put,
  first_ends,
  put_counts,
  refused_text_lem,
  accepted_text_lem,
)
