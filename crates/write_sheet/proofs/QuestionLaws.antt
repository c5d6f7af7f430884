-- A question put on a sheet: records of one size one after another, and the counts before them.
use mathlib.Core.Path.{◌≡◌, refl, sym, ap, ap₂, ◌∙◌}
use Prim.Native.Nat.{ℕ, ◌+◌, ◌*◌, ◌≤◌, ◌<◌}
use native.Mathlib.Nat.{mul-suc}
use native.Mathlib.Numerals.{add-one}
use native.Mathlib.Omega.{arith}
use mathlib.Core.List.{List, [], ◌∷◌, ◌++◌, map}
use lib.ListN.{length, get_or, take, drop, length-map}
use borrow.Author.Rules.{rules}
use Rattle.theory.specs.Laws.Scans.{records_length, records_cons, records_nil}
use Rattle.words.specs.Limits.{sheet_width, most_terms, most_atoms, answer_bytes, record_bytes, most_question_bytes}
use Rattle.words.specs.Laws.LowVariables.{word_below}
use Rattle.words.specs.Records.{term_of, atom_of}
use Rattle.words.specs.Words.{query_of, Small, word_term, word_atom}
use Rattle.words.specs.declared.QueryWords.{QueryWords}
use Rattle.sheets.specs.Packing.{bytes_of, pack_records, fields_number, term_number, atom_number, pack_query}
use Rattle.sheets.proofs.Laws.PackingBytes.{length_bytes_of, length_records}
use Rattle.sheets.proofs.Laws.PackingQueries.{length_question}
use Rattle.sheets.proofs.Laws.PackingSheets.{whole_sheet}
use Rattle.write_sheet.specs.PutAt.{put_at, answer_record, atom_record, answers_bytes, atoms_bytes}
use Rattle.write_sheet.proofs.PutLaws.{Remaining, put_length, put_then, remaining_next, remaining_done, remaining_same}
use Rattle.write_sheet.proofs.NumberLaws.{number_long}

-- ---- records of one size

no_records : (size : ℕ) → pack_records size [] ≡ []
unfolding pack_records
no_records size = refl

first_record : (size x : ℕ) (xs : List ℕ) → pack_records size (x ∷ xs) ≡ bytes_of size x ++ pack_records size xs
unfolding pack_records
first_record size x xs = refl

module _ {X : Type 0} (size : ℕ) (number : X → ℕ) (of : ℕ → X) (words : List ℕ) (n : ℕ) where
  -- the bytes of the records from number i on
  abbrev records_from : ℕ → List ℕ
  records_from i = pack_records size (map number (drop i (map of (take n words))))

  module _ (first : List ℕ) (start : ℕ) (whole sheet : List ℕ) (i : ℕ)
      (left : Remaining first start whole sheet (start + size * i) (records_from i)) where
    record_next : (later : List ℕ) → n ≤ length words → i < n → start + size * i + size ≤ length first
        → later ≡ put_at sheet (start + size * i) (bytes_of size (number (of (get_or words i 0))))
        → Remaining first start whole later (start + size * (i + 1)) (records_from (i + 1))
    record_next later few h room e =
        let x : ℕ = number (of (get_or words i 0)) in
        let l : length (bytes_of size x) ≡ size = length_bytes_of size x in
        let m : size * (i + 1) ≡ size * i + size = ap (λ k. size * k) (add-one i) ∙ mul-suc size i in
        let r : records_from i ≡ bytes_of size x ++ records_from (i + 1) =
        ap (λ l. pack_records size (map number l)) (records_cons of words n few i h)
        ∙ first_record size x (map number (drop (i + 1) (map of (take n words)))) in
        remaining_next first start whole sheet (start + size * i) (records_from i) left (bytes_of size x) later (records_from (i + 1))
        (start + size * (i + 1)) r (omega arith) (omega arith) e

    records_done : n ≤ i → sheet ≡ put_at first start whole
    records_done h =
        remaining_done first start whole sheet (start + size * i) (records_from i) left
        (ap (λ l. pack_records size (map number l)) (records_nil of words n i h) ∙ no_records size)

-- ---- the answer terms

-- the bytes of those from number i on
unfoldable pub answers_from : List ℕ → ℕ → ℕ → List ℕ
unfolding pack_records term_of fields_number
answers_from answers n i = answers_bytes sheet_width (drop i (map word_term (take n answers)))

abbrev answers_all : List ℕ → ℕ → List ℕ
answers_all answers n = answers_bytes sheet_width (map word_term (take n answers))

pub answers_begin : (s : List ℕ) (at : ℕ) (answers : List ℕ) (n : ℕ)
    → Remaining s at (answers_all answers n) s (at + answer_bytes sheet_width * 0) (answers_from answers n 0)
unfolding answers_from
answers_begin s at answers n =
    let z : at + answer_bytes sheet_width * 0 ≡ at = omega arith in
    record { same = refl; makes = ap (λ k. put_at s k (answers_all answers n)) z }

module _ (first : List ℕ) (at : ℕ) (answers : List ℕ) (n : ℕ) (sheet : List ℕ) (i : ℕ)
    (left : Remaining first at (answers_all answers n) sheet (at + answer_bytes sheet_width * i) (answers_from answers n i)) where
  pub answer_next : (later : List ℕ) → later ≡ put_at sheet (at + answer_bytes sheet_width * i) (answer_record (get_or answers i 0))
      → length answers ≡ 4 → n ≤ most_terms → at + answer_bytes sheet_width * n ≤ length first → i < n
      → Remaining first at (answers_all answers n) later (at + answer_bytes sheet_width * (i + 1)) (answers_from answers n (i + 1))
  unfolding answers_from answer_record
  answer_next later e full few room h =
      record_next (answer_bytes sheet_width) (term_number sheet_width) word_term answers n first at
      (answers_all answers n) sheet i left later
      (omega arith) h (omega arith) e

  pub answer_room : at + answer_bytes sheet_width * n ≤ length first → i < n
      → at + answer_bytes sheet_width * i + answer_bytes sheet_width ≤ length sheet
  answer_room room h = let s = left.same in omega arith

  pub answers_done : n ≤ i → sheet ≡ put_at first at (answers_all answers n)
  unfolding answers_from
  answers_done h =
      records_done (answer_bytes sheet_width) (term_number sheet_width) word_term answers n first at (answers_all answers n) sheet i left h

-- ---- the atoms

unfoldable pub atoms_from : List ℕ → ℕ → ℕ → List ℕ
unfolding pack_records atom_of fields_number
atoms_from atoms n i = atoms_bytes sheet_width (drop i (map word_atom (take n atoms)))

abbrev atoms_all : List ℕ → ℕ → List ℕ
atoms_all atoms n = atoms_bytes sheet_width (map word_atom (take n atoms))

pub atoms_begin : (s : List ℕ) (at : ℕ) (atoms : List ℕ) (n : ℕ)
    → Remaining s at (atoms_all atoms n) s (at + record_bytes sheet_width * 0) (atoms_from atoms n 0)
unfolding atoms_from
atoms_begin s at atoms n =
    let z : at + record_bytes sheet_width * 0 ≡ at = omega arith in
    record { same = refl; makes = ap (λ k. put_at s k (atoms_all atoms n)) z }

module _ (first : List ℕ) (at : ℕ) (atoms : List ℕ) (n : ℕ) (sheet : List ℕ) (i : ℕ)
    (left : Remaining first at (atoms_all atoms n) sheet (at + record_bytes sheet_width * i) (atoms_from atoms n i)) where
  pub atom_next : (later : List ℕ) → later ≡ put_at sheet (at + record_bytes sheet_width * i) (atom_record (get_or atoms i 0))
      → length atoms ≡ 8 → n ≤ most_atoms → at + record_bytes sheet_width * n ≤ length first → i < n
      → Remaining first at (atoms_all atoms n) later (at + record_bytes sheet_width * (i + 1)) (atoms_from atoms n (i + 1))
  unfolding atoms_from atom_record
  atom_next later e full few room h =
      record_next (record_bytes sheet_width) (atom_number sheet_width) word_atom atoms n first at (atoms_all atoms n) sheet i left later
      (omega arith) h (omega arith) e

  pub atom_room : at + record_bytes sheet_width * n ≤ length first → i < n
      → at + record_bytes sheet_width * i + record_bytes sheet_width ≤ length sheet
  atom_room room h = let s = left.same in omega arith

  pub atoms_done : n ≤ i → sheet ≡ put_at first at (atoms_all atoms n)
  unfolding atoms_from
  atoms_done h =
      records_done (record_bytes sheet_width) (atom_number sheet_width) word_atom atoms n first at (atoms_all atoms n) sheet i left h

-- ---- a question

module _ (q : QueryWords) (four : length q.answers ≡ 4) (eight : length q.atoms ≡ 8) (small : Small q) where
  terms_counted : length (query_of q).answers ≡ q.terms
  unfolding query_of
  terms_counted = let f = small.few_terms in records_length word_term q.answers q.terms (omega arith)

  atoms_counted : length (query_of q).atoms ≡ q.size
  unfolding query_of
  atoms_counted = let f = small.few_atoms in records_length word_atom q.atoms q.size (omega arith)

  pub question_long : 1 + 3 * q.terms + 6 * q.size ≡ length (pack_query sheet_width (query_of q))
  question_long =
      sym (length_question sheet_width whole_sheet (query_of q) ∙ ap₂ (λ j k. 1 + 3 * j + 6 * k) terms_counted atoms_counted)

  pub question_short : 1 + 3 * q.terms + 6 * q.size ≤ most_question_bytes sheet_width
  question_short =
      let f = small.few_terms in
      let g = small.few_atoms in
      omega arith

  answers_long : length (answers_all q.answers q.terms) ≡ 3 * q.terms
  answers_long =
      let f = small.few_terms in
      length_records 3 (map (term_number sheet_width) (map word_term (take q.terms q.answers)))
      ∙ ap (λ k. 3 * k) (length-map (map word_term (take q.terms q.answers)) (term_number sheet_width)
      ∙ records_length word_term q.answers q.terms (omega arith))

  atoms_long : length (atoms_all q.atoms q.size) ≡ 6 * q.size
  atoms_long =
      let f = small.few_atoms in
      length_records 6 (map (atom_number sheet_width) (map word_atom (take q.size q.atoms)))
      ∙ ap (λ k. 6 * k) (length-map (map word_atom (take q.size q.atoms)) (atom_number sheet_width)
      ∙ records_length word_atom q.atoms q.size (omega arith))

  counts_are : q.terms * 16 + q.size ≡ fields_number ((4, length (query_of q).answers) ∷ (4, length (query_of q).atoms) ∷ [])
  unfolding fields_number
  counts_are =
      let t : length (query_of q).answers ≡ q.terms = terms_counted in
      let a : length (query_of q).atoms ≡ q.size = atoms_counted in
      omega arith

  parts : bytes_of 1 (fields_number ((4, length (query_of q).answers) ∷ (4, length (query_of q).atoms) ∷ []))
      ++ (answers_all q.answers q.terms ++ atoms_all q.atoms q.size) ≡ pack_query sheet_width (query_of q)
  unfolding pack_query query_of
  parts = refl

  -- its parts, one after another
  packed : bytes_of 1 (q.terms * 16 + q.size) ++ (answers_all q.answers q.terms ++ atoms_all q.atoms q.size)
      ≡ pack_query sheet_width (query_of q)
  packed = ap (λ n. bytes_of 1 n ++ (answers_all q.answers q.terms ++ atoms_all q.atoms q.size)) counts_are ∙ parts

  module _ (first : List ℕ) (at : ℕ) (room : at + length (pack_query sheet_width (query_of q)) ≤ length first) where
    ends : at + 1 + 3 * q.terms + 6 * q.size ≤ length first
    ends = let l = question_long in omega arith

    pub counts_room : at + 1 ≤ length first
    counts_room = let l = ends in omega arith

    module _ (one : List ℕ) (x : ℕ) (e : one ≡ put_at first at (bytes_of 1 x)) where
      one_long : length one ≡ length first
      one_long = number_long first one at 1 x e counts_room

      pub answers_room : at + 1 + 3 * q.terms ≤ length one
      answers_room =
          let l = ends in
          let d = one_long in
          omega arith

      module _ (two : List ℕ) (g : two ≡ put_at one (at + 1) (answers_all q.answers q.terms)) where
        two_long : length two ≡ length first
        two_long =
            let l = answers_long in
            let r = answers_room in
            ap length g ∙ put_length one (at + 1) (answers_all q.answers q.terms) (omega arith) ∙ one_long

        pub atoms_room : at + 1 + 3 * q.terms + 6 * q.size ≤ length two
        atoms_room =
            let l = ends in
            let d = two_long in
            omega arith

        module _ (three : List ℕ) (h : three ≡ put_at two (at + 1 + 3 * q.terms) (atoms_all q.atoms q.size)) where
          parts_put : three ≡ put_at first at (bytes_of 1 x ++ (answers_all q.answers q.terms ++ atoms_all q.atoms q.size))
          parts_put =
              let c : List ℕ = bytes_of 1 x in
              let a : List ℕ = answers_all q.answers q.terms in
              let b : List ℕ = atoms_all q.atoms q.size in
              let la : length a ≡ 3 * q.terms = answers_long in
              let lc : length c ≡ 1 = length_bytes_of 1 x in
              let ra : at + 1 + 3 * q.terms ≤ length one = answers_room in
              let rc : at + 1 ≤ length first = counts_room in
              let ea : at + 1 + 3 * q.terms ≡ at + 1 + length a = omega arith in
              let ec : at + 1 ≡ at + length c = omega arith in
              h ∙ ap₂ (λ s k. put_at s k b) g ea ∙ put_then one (at + 1) a (omega arith) b
              ∙ ap₂ (λ s k. put_at s k (a ++ b)) e ec ∙ put_then first at c (omega arith) (a ++ b)

          pub question_put : x ≡ q.terms * 16 + q.size → three ≡ put_at first at (pack_query sheet_width (query_of q))
          question_put d =
              parts_put ∙ ap (λ n. put_at first at (bytes_of 1 n ++ (answers_all q.answers q.terms ++ atoms_all q.atoms q.size))) d
              ∙ ap (put_at first at) packed

          pub question_same : length three ≡ length first
          question_same =
              let l : length (atoms_all q.atoms q.size) ≡ 6 * q.size = atoms_long in
              let r : at + 1 + 3 * q.terms + 6 * q.size ≤ length two = atoms_room in
              ap length h ∙ put_length two (at + 1 + 3 * q.terms) (atoms_all q.atoms q.size) (omega arith) ∙ two_long

pub ruleset record_laws = (
  rules,
  remaining_same,
  word_below,
  answers_begin,
  answer_next,
  answer_room,
  answers_done,
  atoms_begin,
  atom_next,
  atom_room,
  atoms_done,
)

pub ruleset laws = (rules, question_long, question_short, counts_room, answers_room, atoms_room, question_put, question_same)
