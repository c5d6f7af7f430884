-- A row put into a table: it is there, the rows before it are as they were, and the table has one member more.
use Rattle.std.specs.Prelude.{◌≡◌, ℕ, zero, suc, ◌+◌, ◌*◌, ◌≤◌, ◌<◌, length, get_or, drop}
use Rattle.std.proofs.Common.{
  sym,
  ◌∙◌,
  subst,
  zero-add,
  add-one,
  arith,
  take-append-drop,
  length-drop,
  take_at,
  drop_at,
  take_all,
  length-take-le,
  get_or-take,
  below_more,
}
use Rattle.std.proofs.Math.Path.{ap, ap₂}
use mathlib.Core.List.{List, [], ◌∷◌, ◌++◌, map, append_assoc, map-append}
use Rattle.std.proofs.Math.ListN.{take}
use Rattle.std.proofs.Math.Seq.{paste}
use Rattle.std.proofs.lemmas.List.Edits.{length-paste}
use Rattle.std.proofs.lemmas.List.{take-append-le, drop-append-le}
use Rattle.theory.specs.Lists.{◌∈◌, Unrepeated, numbers}
use Rattle.theory.specs.Syntax.{var, terms, Member}
use Rattle.theory.specs.Laws.Lists.{map_agree, numbers_iff}
use Rattle.theory.specs.Laws.Scans.{listed}
use Rattle.words.specs.Records.{step_of}
use Rattle.words.specs.Words.{word_term, word_atom, member_of, union_in, stride}
use Rattle.words.specs.Limits.{word_term_bound}
use Rattle.words.specs.Rows.{Row, Rows, row_at, member_in, RowOf}

-- sixteen words, in a list and with more after it
words_kept : (a : ℕ) (x y : List ℕ) → a + stride ≤ length x → take stride (drop a (x ++ y)) ≡ take stride (drop a x)
words_kept a x y h =
    ap (take stride) (drop-append-le a x y (omega arith)) ∙ take-append-le stride (drop a x) y (rw (length-drop a x) (omega arith))

module _ (t row : List ℕ) (b : ℕ) (full : length row ≡ stride) (room : b + stride ≤ length t) where
  pasted : paste t b row stride ≡ take b t ++ (row ++ drop (b + stride) t)
  pasted =
      ap (λ r. take b t ++ r ++ drop (b + stride) t) (take_all stride row (omega arith))
      ∙ append_assoc (take b t) row (drop (b + stride) t)

  before : length (take b t) ≡ b
  before = length-take-le b t (omega arith)

  pub pasted_there : take stride (drop b (paste t b row stride)) ≡ row
  pasted_there =
      ap (λ l. take stride (drop b l)) pasted ∙ ap (take stride) (drop_at (take b t) (row ++ drop (b + stride) t) b before)
      ∙ take_at row (drop (b + stride) t) stride full

  pub pasted_kept : (a : ℕ) → a + stride ≤ b → take stride (drop a (paste t b row stride)) ≡ take stride (drop a t)
  pasted_kept a h =
      ap (λ l. take stride (drop a l)) pasted ∙ words_kept a (take b t) (row ++ drop (b + stride) t) (omega (arith, before))
      ∙ sym (ap (λ l. take stride (drop a l)) (sym (take-append-drop b t)) ∙ words_kept a (take b t) (drop b t) (omega (arith, before)))

-- ---- rows that begin with the same sixteen words

module _ (l m : List ℕ) (long : stride ≤ length l) (as_long : stride ≤ length m) (same : take stride l ≡ take stride m) where
  word_same : (k : ℕ) → k < stride → get_or l k 0 ≡ get_or m k 0
  word_same k h = sym (get_or-take stride l k 0 h) ∙ ap (λ x. get_or x k 0) same ∙ get_or-take stride m k 0 h

  part_same : (d c : ℕ) → d + c ≤ stride → take c (drop d l) ≡ take c (drop d m)
  part_same d c h =
      listed l d c (omega arith)
      ∙ map_agree (λ i. get_or l (d + i) 0) (λ i. get_or m (d + i) 0) (numbers 0 c)
      (λ i n. let b = (numbers_iff c i).0 n in word_same (d + i) (omega arith))
      ∙ sym (listed m d c (omega arith))

  module _ (r : Row l) where
    member_same : member_of l ≡ member_of m
    unfolding member_of
    member_same =
        let terms = r.few_terms in
        let atoms = r.few_atoms in
        λ i. record {
          step = step_of (word_same 0 (omega arith) i);
          query = record {
            answers = map word_term ((part_same 2 (get_or l 1 0) (omega arith)
                ∙ ap (λ n. take n (drop 2 m)) (word_same 1 (omega arith))) i);
            atoms = map word_atom ((part_same 8 (get_or l 6 0) (omega arith)
                ∙ ap (λ n. take n (drop 8 m)) (word_same 6 (omega arith))) i);
          };
        }

    row_same : Row m
    row_same = record {
      few_terms = subst (λ n. n ≤ 4) (word_same 1 (omega arith)) r.few_terms;
      few_atoms = subst (λ n. n ≤ 8) (word_same 6 (omega arith)) r.few_atoms;
      answer_words = λ k h. subst (λ n. n < word_term_bound) (word_same (2 + k) (omega arith)) (r.answer_words k h);
      variables = subst (λ (x : Member). (v : ℕ) → var v ∈ terms x.query → v < 32) member_same r.variables;
      distinct = subst (λ (x : Member). Unrepeated x.query.atoms) member_same r.distinct;
    }

-- ---- one member more

-- the variables are below 32, and no atom stands twice
abbrev pub FitForRow : Member → Type 0
FitForRow m = ((v : ℕ) → var v ∈ terms m.query → v < 32) × Unrepeated m.query.atoms

module _ (m : Member) (row : List ℕ) (r : RowOf m row) (rest : List ℕ) (at : take stride rest ≡ row) where
  pub row_member : member_of rest ≡ m
  row_member = ap member_of (sym (take-append-drop stride rest) ∙ ap (λ x. x ++ drop stride rest) at) ∙ r.holds (drop stride rest)

  narrow_word : (k : ℕ) → k < stride → get_or row k 0 ≡ get_or rest k 0
  narrow_word k h = ap (λ x. get_or x k 0) (sym at) ∙ get_or-take stride rest k 0 h

  pub row_fits : FitForRow m → Row rest
  row_fits fit = record {
    few_terms = subst (λ n. n ≤ 4) (narrow_word 1 (omega arith)) r.narrow.few_terms;
    few_atoms = subst (λ n. n ≤ 8) (narrow_word 6 (omega arith)) r.narrow.few_atoms;
    answer_words = λ k h. subst (λ n. n < word_term_bound) (narrow_word (2 + k) (omega arith)) (r.narrow.answer_words k h);
    variables = subst (λ (x : Member). (v : ℕ) → var v ∈ terms x.query → v < 32) (sym row_member) fit.0;
    distinct = subst (λ (x : Member). Unrepeated x.query.atoms) (sym row_member) fit.1;
  }

-- the numbers up to and with n
numbers_last : (start n : ℕ) → numbers start (suc n) ≡ numbers start n ++ ((start + n) ∷ [])
unfolding numbers
numbers_last start zero = ap (λ k. k ∷ []) (omega arith)
numbers_last start (suc n) =
    ap (λ l. start ∷ l) (numbers_last (suc start) n ∙ ap (λ k. numbers (suc start) n ++ (k ∷ [])) (omega arith))

module _ (table row : List ℕ) (n : ℕ) (m : Member) (r : RowOf m row) (rows : Rows table n) (room : stride * n + stride ≤ length table) where
  abbrev longer : List ℕ
  longer = paste table (stride * n) row stride

  longer_length : length longer ≡ length table
  longer_length = length-paste table (stride * n) row stride (omega arith) (let f = r.full in omega arith)

  after_drop : (j : ℕ) → j < n → stride ≤ length (row_at longer j)
  after_drop j h = let e = longer_length in rw (length-drop (stride * j) longer) (omega arith)

  before_drop : (j : ℕ) → j < n → stride ≤ length (row_at table j)
  before_drop j h = rw (length-drop (stride * j) table) (omega arith)

  old_row : (j : ℕ) → j < n → take stride (row_at table j) ≡ take stride (row_at longer j)
  old_row j h = sym (pasted_kept table row (stride * n) r.full room (stride * j) (omega arith))

  new_row : take stride (row_at longer n) ≡ row
  new_row = pasted_there table row (stride * n) r.full room

  pub old_member : (j : ℕ) → j < n → member_in longer j ≡ member_in table j
  old_member j h =
      sym (member_same (row_at table j) (row_at longer j) (before_drop j h) (after_drop j h) (old_row j h) (rows.each j h))

  pub new_member : member_in longer n ≡ m
  new_member = row_member m row r (row_at longer n) new_row

  pub longer_union : union_in longer (n + 1) ≡ union_in table n ++ (m ∷ [])
  unfolding union_in
  longer_union =
      ap (λ k. map (member_in longer) (numbers 0 k)) (add-one n)
      ∙ ap (map (member_in longer)) (numbers_last 0 n ∙ ap (λ k. numbers 0 n ++ (k ∷ [])) (zero-add n))
      ∙ map-append (member_in longer) (numbers 0 n) (n ∷ [])
      ∙ ap₂ ◌++◌ (map_agree (member_in longer) (member_in table) (numbers 0 n) (λ j i. old_member j ((numbers_iff n j).0 i)))
      (ap (λ x. x ∷ []) new_member)

  pub longer_rows : FitForRow m → Rows longer (n + 1)
  longer_rows fit = record {
    long = let e = longer_length in omega arith;
    each = below_more (λ j. Row (row_at longer j)) n
        (λ j h. row_same (row_at table j) (row_at longer j) (before_drop j h) (after_drop j h) (old_row j h) (rows.each j h))
        (row_fits m row r (row_at longer n) new_row fit);
  }
