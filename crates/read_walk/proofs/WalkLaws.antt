-- Which members of a union are sound, where each ends, and what refusal 6 comes to.
use mathlib.Core.Path.{◌≡◌, refl, sym, ap, ◌∙◌, subst}
use Prim.Native.Nat.{ℕ, suc, ◌+◌, ◌≤◌, ◌<◌}
use native.Mathlib.Numerals.{add-one}
use native.Mathlib.Omega.{arith}
use mathlib.Core.Bool.{Bool, true, false, not, ◌&&◌, ◌||◌}
use mathlib.Core.List.{List}
use lib.Dec.{T, eqb, leb, eqb→eq, leb→le, le→leb}
use lib.ListN.{length, get_or-eq_default}
use borrow.Author.Count.{below_more}
use borrow.Author.Rules.{rules}
use borrow.Author.Tests.{le-leb, leb-true}
use Rattle.theory.specs.Lists.{all, numbers}
use Rattle.theory.specs.Laws.Lists.{all_iff, numbers_iff}
use Rattle.theory.specs.Laws.Options.{T_and, is_false}
use Rattle.words.specs.Words.{query_of}
use Rattle.words.specs.declared.QueryWords.{QueryWords}
use Rattle.words.specs.Limits.{sheet_width, most_members, step_bytes}
use Rattle.sheets.specs.Format.{term_count, query_at, member_count, member_start}
use Rattle.sheets.proofs.Laws.UnionRefusals.{start_rises}
use Rattle.sheets.proofs.Laws.UnionLengths.{first_begins, next_start, accepted, refused, too_short, too_long}
use Rattle.sheets.specs.Partners.{query_as_read}
use Rattle.sheets.specs.Tests.{question_sound, refuses4, refuses5, member_sound_at, member_sound, refuses6}
use Rattle.read_walk.specs.Ends.{member_end, whole_and_sound}

-- ---- where members begin and end

pub end_past : (s : List ℕ) (at : ℕ) → length s ≤ at + step_bytes → at + step_bytes + 1 ≡ member_end s at
end_past s at h = omega (arith, get_or-eq_default s 0 {n = at + step_bytes} h)

-- ---- one member

-- a test that a callee made, passed
pub passed : (a b : Bool) → b ≡ a → b ≡ true → a ≡ true
passed a b e t = sym e ∙ t

module _ (p s : List ℕ) (arity at : ℕ) where
  tests : member_sound_at p sheet_width arity s at
      ≡ (question_sound sheet_width s at
      && not (refuses4 (query_as_read p (query_at sheet_width s at)))
      && not (refuses5 (query_as_read p (query_at sheet_width s at)))
      && eqb (term_count s at) arity)
  unfolding member_sound_at
  tests = refl

  pub question_unsound : (b : Bool) → b ≡ question_sound sheet_width s at → b ≡ false → false ≡ member_sound_at p sheet_width arity s at
  question_unsound b e f = rw (tests, ← e, f)

  module _ (q : QueryWords) (b : Bool) (e : b ≡ question_sound sheet_width s at) (t : b ≡ true)
      (r : query_of q ≡ query_as_read p (query_at sheet_width s at)) where
    pub answer_missing : (m : Bool) → m ≡ refuses4 (query_of q) → m ≡ true → false ≡ member_sound_at p sheet_width arity s at
    answer_missing m f u = rw (tests, ← e, t, ← r, ← f, u)

    module _ (m : Bool) (f : m ≡ refuses4 (query_of q)) (u : m ≡ false) (k : Bool) (d : k ≡ refuses5 (query_of q)) where
      pub atom_repeated : k ≡ true → false ≡ member_sound_at p sheet_width arity s at
      atom_repeated v = rw (tests, ← e, t, ← r, ← f, u, ← d, v)

      pub terms_compared : k ≡ false → q.terms ≡ term_count s at → eqb q.terms arity ≡ member_sound_at p sheet_width arity s at
      terms_compared v w = rw (tests, ← e, t, ← r, ← f, u, ← d, v, w)

-- ---- the loop over the members

-- the first n members are sound
abbrev pub SoundBelow : List ℕ → ℕ → List ℕ → ℕ → Type 0
SoundBelow p arity s n = (i : ℕ) → i < n → T (member_sound p sheet_width arity s i)

pub none_below : (p s : List ℕ) (arity : ℕ) → SoundBelow p arity s 0
none_below p s arity i h = absurd (omega arith)

module _ (p s : List ℕ) (arity count at j : ℕ) (begins : at ≡ member_start sheet_width s j) where
  ends_here : member_end s at ≡ member_start sheet_width s (suc j)
  ends_here = ap (λ a. member_end s a) begins ∙ next_start s j

  sound_here : member_sound_at p sheet_width arity s (at + step_bytes) ≡ member_sound p sheet_width arity s j
  unfolding member_sound
  sound_here = ap (λ a. member_sound_at p sheet_width arity s (a + step_bytes)) begins

  pub member_fails : whole_and_sound p arity s at ≡ false → j < count
      → false ≡ (eqb (member_start sheet_width s count) (length s) && all (member_sound p sheet_width arity s) (numbers 0 count))
  member_fails none h = sym (is_false _ (λ t.
      let a = (T_and (eqb (member_start sheet_width s count) (length s))
      (all (member_sound p sheet_width arity s) (numbers 0 count))).0 t in
      let ends_there : member_start sheet_width s count ≡ length s = eqb→eq (member_start sheet_width s count) (length s) a.0 in
      let whole = le→leb (member_end s at) (length s) (omega (arith, ends_here, start_rises sheet_width s (suc j) count h)) in
      let sound = (all_iff (member_sound p sheet_width arity s) (numbers 0 count)).0 a.1 j ((numbers_iff count j).1 h) in
      subst T none ((T_and (leb (member_end s at) (length s)) (member_sound_at p sheet_width arity s (at + step_bytes))).1
      (whole, subst T (sym sound_here) sound))))

  module _ (end : ℕ) (e : end ≡ member_end s at) (passes : whole_and_sound p arity s at ≡ true) where
    parts : T (leb (member_end s at) (length s)) × T (member_sound_at p sheet_width arity s (at + step_bytes))
    parts = (T_and (leb (member_end s at) (length s)) (member_sound_at p sheet_width arity s (at + step_bytes))).0 (subst T (sym passes) tt)

    pub next_begins : end ≡ member_start sheet_width s (j + 1)
    next_begins = rw (add-one j) (e ∙ ends_here)

    pub next_within : end ≤ length s
    next_within = rw e (leb→le (member_end s at) (length s) parts.0)

    pub next_sound : SoundBelow p arity s j → SoundBelow p arity s (j + 1)
    next_sound below = below_more (λ i. T (member_sound p sheet_width arity s i)) j below (subst T sound_here parts.1)

and_true : (a b : Bool) → T b → a ≡ a && b
and_true true true t = refl
and_true true false t = absurd t
and_true false b t = refl

pub all_sound : (p s : List ℕ) (arity count at j : ℕ) → at ≡ member_start sheet_width s j → SoundBelow p arity s j → j ≤ count → count ≤ j
    → eqb at (length s) ≡ (eqb (member_start sheet_width s count) (length s) && all (member_sound p sheet_width arity s) (numbers 0 count))
all_sound p s arity count at j e below h k =
    let d : j ≡ count = omega arith in
    ap (λ a. eqb a (length s)) (e ∙ ap (member_start sheet_width s) d)
    ∙ and_true (eqb (member_start sheet_width s count) (length s)) (all (member_sound p sheet_width arity s) (numbers 0 count))
    ((all_iff (member_sound p sheet_width arity s) (numbers 0 count)).1
    (λ i m. below i (let l : i < count = (numbers_iff count i).0 m in omega arith)))

-- ---- refusal 6

not_or : (a b c : Bool) → not (not a || not b || not c) ≡ a && b && c
not_or true true true = refl
not_or true true false = refl
not_or true false c = refl
not_or false b c = refl

module _ (p s : List ℕ) (arity : ℕ) where
  -- the count, in the range that the code names or out of it
  module _ (count : ℕ) (d : count ≡ member_count s) where
    pub too_few : count < 1 → false ≡ not (refuses6 p sheet_width arity s)
    too_few h = refused p s arity (λ e. let a = accepted p s arity e in omega arith)

    pub too_many : (n : ℕ) → n ≤ count → leb (most_members + 1) n ≡ true → false ≡ not (refuses6 p sheet_width arity s)
    too_many n h k = refused p s arity (λ e. let a = accepted p s arity e in omega (arith, leb-true (most_members + 1) n k))

    pub members_tell : 1 ≤ count → (n : ℕ) → count < n → leb n (most_members + 1) ≡ true → (r : Bool)
        → r ≡ (eqb (member_start sheet_width s count) (length s) && all (member_sound p sheet_width arity s) (numbers 0 count))
        → r ≡ not (refuses6 p sheet_width arity s)
    unfolding refuses6
    members_tell h n k l r e =
        let whole : Bool = eqb (member_start sheet_width s (member_count s)) (length s) in
        let sound : Bool = all (member_sound p sheet_width arity s) (numbers 0 (member_count s)) in
        e
        ∙ sym (not_or (leb 1 (member_count s) && leb (member_count s) most_members) whole sound
        ∙ rw (← d, le-leb 1 count h, le-leb count most_members (omega (arith, leb-true n (most_members + 1) l))))

pub ruleset laws = (
  rules,
  end_past,
  first_begins,
  passed,
  question_unsound,
  answer_missing,
  atom_repeated,
  terms_compared,
  none_below,
  member_fails,
  next_begins,
  next_within,
  next_sound,
  all_sound,
  too_short,
  too_long,
  too_few,
  too_many,
  members_tell,
)
