-- Questions: what was packed in range is read again and meets no refusal of the format, and a sheet that meets none is
-- the packing of what is read from it, which is in range.
use Rattle.std.specs.Prelude.{◌≡◌, ◌↔◌, List, [], ◌∷◌, ◌++◌, T}
use Rattle.std.proofs.Math.Path.{sym, ap, ap₂, subst}
use Rattle.std.proofs.Common.{◌∙◌, zero-add, add_assoc, length-append}
use Prim.Native.Nat.{ℕ, ◌+◌, ◌*◌, ◌%◌, ◌^◌, ◌≤◌, ◌<◌}
use Rattle.std.proofs.Math.Nat.{lt_of_lt_of_le}
use native.Mathlib.Omega.{arith}
use Rattle.std.proofs.Math.ListN.{length, get_or, length-map}
use Rattle.theory.specs.Lists.{all}
use Rattle.theory.specs.Syntax.{Query}
use Rattle.theory.specs.Laws.Lists.{numbered_length}
use Rattle.words.specs.Limits.{answer_bytes, record_bytes}
use Rattle.words.specs.Records.{term_of, atom_of}
use Rattle.sheets.specs.Bits.{number_at}
use Rattle.sheets.specs.Format.{term_count, atom_count, question_length, answer_records, atom_records, query_at}
use Rattle.sheets.specs.Tests.{term_sound, answer_sound, atom_sound, question_sound, refuses3}
use Rattle.sheets.specs.Packing.{bytes_of, fields_number, term_number, atom_number, pack_query, All, IsByte, TermInRange, AtomInRange}
use Rattle.sheets.specs.Packing.{QueryInRange, WholeBytes}
use Rattle.sheets.proofs.Laws.Tests.{itself, not_tells, and_tells, or_tells, eqb_tells, leb_tells, ltb_tells}
use Rattle.sheets.proofs.Laws.PackingBytes.{Stands, stands_whole, stands_all, stands_first, stands_second, stands_append, stands_byte}
use Rattle.sheets.proofs.Laws.PackingBytes.{byte_stands, number_then, number_append, length_number, EvenPlaces, all_at}
use Rattle.sheets.proofs.Laws.PackingNumbers.{Code, term_code, atom_code}
use Rattle.sheets.proofs.Laws.PackingSheets.{unmet, pack, length_pack, list_read, list_again, record_bound, answer_bound, wide}

module _ (w : ℕ) (whole : WholeBytes w) where
  -- ---- the records of a question

  answer_code : Code (256 ^ answer_bytes w) (term_of w) (term_number w) (answer_sound w) (TermInRange w)
  unfolding answer_sound
  answer_code = record {
    below = λ t h. lt_of_lt_of_le (code.below t h) (answer_bound w whole);
    passes = λ t h. (tells (term_number w t)).1 (code.below t h, code.passes t h);
    read = λ t h. code.read t h;
    again = λ x l p. let r = (tells x).0 p in code.again x r.0 r.1;
    within = λ x l p. let r = (tells x).0 p in code.within x r.0 r.1;
  }
    where
      code : Code (2 ^ (w + 1)) (term_of w) (term_number w) (term_sound w) (TermInRange w)
      code = term_code w (wide w whole)

      tells : (x : ℕ) → T (answer_sound w x) ↔ ((x < 2 ^ (w + 1)) × T (term_sound w x))
      tells x = (and_tells (ltb_tells x (2 ^ (w + 1))) (itself (term_sound w x))).pass

  atom_record_code : Code (256 ^ record_bytes w) (atom_of w) (atom_number w) (atom_sound w) (AtomInRange w)
  atom_record_code = rw (← record_bound w whole) (atom_code w (wide w whole))

  -- their places in a question that begins at byte `at`
  abbrev answer_place : ℕ → ℕ → ℕ
  answer_place at i = at + 1 + answer_bytes w * i

  abbrev atoms_start : ℕ → ℕ → ℕ
  atoms_start at n = at + 1 + answer_bytes w * n

  abbrev atom_place : ℕ → ℕ → ℕ → ℕ
  atom_place at n i = atoms_start at n + record_bytes w * i

  answer_row : (at : ℕ) → EvenPlaces (answer_place at) (answer_bytes w) 0 (at + 1)
  answer_row at i = ap (answer_place at) (zero-add i)

  atom_row : (at n : ℕ) → EvenPlaces (atom_place at n) (record_bytes w) 0 (atoms_start at n)
  atom_row at n i = ap (atom_place at n) (zero-add i)

  -- ---- a packed question that stands in a sheet

  -- its parts
  abbrev counts_number : Query → ℕ
  counts_number q = fields_number ((4, length q.answers) ∷ (4, length q.atoms) ∷ [])

  abbrev counts : Query → List ℕ
  counts q = bytes_of 1 (counts_number q)

  abbrev pack_answers : Query → List ℕ
  pack_answers q = pack (answer_bytes w) answer_code q.answers

  abbrev pack_atoms : Query → List ℕ
  pack_atoms q = pack (record_bytes w) atom_record_code q.atoms

  pub length_question : (q : Query) → length (pack_query w q) ≡ 1 + answer_bytes w * length q.answers + record_bytes w * length q.atoms
  unfolding pack_query
  length_question q =
      length_number 1 (counts_number q) (pack_answers q ++ pack_atoms q)
      ∙ ap (λ n. 1 + n) (length-append (pack_answers q) (pack_atoms q)
      ∙ ap₂ ◌+◌ (length_pack (answer_bytes w) answer_code q.answers) (length_pack (record_bytes w) atom_record_code q.atoms))
      ∙ sym (add_assoc 1 (answer_bytes w * length q.answers) (record_bytes w * length q.atoms))

  question_iff : (s : List ℕ) (at : ℕ) → T (question_sound w s at)
      ↔ (((((term_count s at ≤ 4) × (1 ≤ atom_count s at)) × (atom_count s at ≤ 8)) × T (all (answer_sound w) (answer_records w s at)))
      × T (all (atom_sound w) (atom_records w s at)))
  unfolding question_sound
  question_iff s at =
      (and_tells (and_tells (and_tells (and_tells (leb_tells (term_count s at) 4) (leb_tells 1 (atom_count s at)))
      (leb_tells (atom_count s at) 8))
      (itself (all (answer_sound w) (answer_records w s at)))) (itself (all (atom_sound w) (atom_records w s at)))).pass

  counts_read : (q : Query) (s : List ℕ) (at : ℕ) → QueryInRange w q → Stands (counts q) at s
      → (term_count s at ≡ length q.answers) × (atom_count s at ≡ length q.atoms)
  unfolding bytes_of fields_number
  counts_read q s at h t =
      let e : get_or s at 0 ≡ ((0 + length q.answers) * 16 + length q.atoms) % 256 = stands_byte _ at s t in
      let a : length q.answers ≤ 4 = h.few_answers in
      let b : length q.atoms ≤ 8 = h.few_atoms in
      (omega arith, omega arith)

  pub question_read : (q : Query) (s : List ℕ) (at : ℕ) → QueryInRange w q → Stands (pack_query w q) at s
      → (query_at w s at ≡ q) × T (question_sound w s at) × (question_length w s at ≡ length (pack_query w q))
  unfolding pack_query query_at
  question_read q s at h t =
      let n = counts_read q s at h (stands_first (counts q) (pack_answers q ++ pack_atoms q) at s t) in
      let lists : Stands (pack_answers q ++ pack_atoms q) (at + 1) s = number_then 1 (counts_number q) at
      (pack_answers q ++ pack_atoms q) s t in
      let start : at + 1 + length (pack_answers q) ≡ atoms_start at (term_count s at) =
      ap (λ k. at + 1 + k) (length_pack (answer_bytes w) answer_code q.answers) ∙ ap (atoms_start at) (sym n.0) in
      let a = list_read (answer_bytes w) answer_code s (answer_place at) (at + 1) (answer_row at)
      (term_count s at) q.answers n.0 h.answers_in (stands_first (pack_answers q) (pack_atoms q) (at + 1) s lists) in
      let b = list_read (record_bytes w) atom_record_code s (atom_place at (term_count s at)) (atoms_start at (term_count s at))
      (atom_row at (term_count s at))
      (atom_count s at) q.atoms n.1 h.atoms_in
      (subst (λ k. Stands (pack_atoms q) k s) start (stands_second (pack_answers q) (pack_atoms q) (at + 1) s lists)) in (
        λ i. record { answers = a.0 i; atoms = b.0 i },
        (question_iff s at).1 ((((rw n.0 h.few_answers, rw n.1 h.some_atom), rw n.1 h.few_atoms), a.1), b.1),
        ap₂ (λ j k. 1 + answer_bytes w * j + record_bytes w * k) n.0 n.1 ∙ sym (length_question q),
      )

  -- ---- a sound question that a sheet has room for

  pub answers_count : (s : List ℕ) (at : ℕ) → length (query_at w s at).answers ≡ term_count s at
  unfolding query_at
  answers_count s at =
      length-map (answer_records w s at) (term_of w)
      ∙ numbered_length (λ i. number_at s (answer_place at i) (answer_bytes w)) (term_count s at)

  atoms_count : (s : List ℕ) (at : ℕ) → length (query_at w s at).atoms ≡ atom_count s at
  unfolding query_at
  atoms_count s at =
      length-map (atom_records w s at) (atom_of w)
      ∙ numbered_length (λ i. number_at s (atom_place at (term_count s at) i) (record_bytes w)) (atom_count s at)

  pub length_again : (s : List ℕ) (at : ℕ) → length (pack_query w (query_at w s at)) ≡ question_length w s at
  length_again s at =
      length_question (query_at w s at) ∙ ap₂ (λ j k. 1 + answer_bytes w * j + record_bytes w * k) (answers_count s at) (atoms_count s at)

  counts_again : (q : Query) (s : List ℕ) (at : ℕ) → All IsByte s → length q.answers ≡ term_count s at
      → length q.atoms ≡ atom_count s at
      → counts q ≡ get_or s at 0 ∷ []
  unfolding bytes_of fields_number
  counts_again q s at bytes a b =
      let below : get_or s at 0 < 256 = all_at {P = IsByte} s at 0 (omega arith) bytes in
      ap (λ c. c ∷ []) (ap₂ (λ j k. ((0 + j) * 16 + k) % 256) a b ∙ omega arith)

  module _ (s : List ℕ) (at : ℕ) (bytes : All IsByte s) (room : at + question_length w s at ≤ length s)
      (t : T (question_sound w s at)) where
    answers_again : Stands (pack_answers (query_at w s at)) (at + 1) s × All (TermInRange w) (query_at w s at).answers
    unfolding query_at
    answers_again =
        list_again (answer_bytes w) answer_code s (answer_place at) (at + 1) (answer_row at) (term_count s at) bytes (omega arith)
        ((question_iff s at).0 t).0.1

    atoms_again : Stands (pack_atoms (query_at w s at)) (atoms_start at (term_count s at)) s × All (AtomInRange w) (query_at w s at).atoms
    unfolding query_at
    atoms_again =
        list_again (record_bytes w) atom_record_code s (atom_place at (term_count s at)) (atoms_start at (term_count s at))
        (atom_row at (term_count s at))
        (atom_count s at) bytes (omega arith) ((question_iff s at).0 t).1

    pub question_again : Stands (pack_query w (query_at w s at)) at s
    unfolding pack_query
    question_again =
        let q : Query = query_at w s at in
        let header : Stands (counts q) at s =
        subst (λ xs. Stands xs at s) (sym (counts_again q s at bytes (answers_count s at) (atoms_count s at)))
        (byte_stands at s (omega arith)) in
        let start : atoms_start at (term_count s at) ≡ at + 1 + length (pack_answers q) =
        sym (ap (λ k. at + 1 + k) (length_pack (answer_bytes w) answer_code q.answers) ∙ ap (atoms_start at) (answers_count s at)) in
        number_append 1 (counts_number q) at (pack_answers q ++ pack_atoms q) s header
        (stands_append (pack_answers q) (pack_atoms q) (at + 1) s answers_again.0
        (subst (λ k. Stands (pack_atoms q) k s) start atoms_again.0))

    pub question_in : QueryInRange w (query_at w s at)
    question_in =
        let h = ((question_iff s at).0 t).0.0 in
        record {
          few_answers = rw (answers_count s at) h.0.0;
          some_atom = rw (atoms_count s at) h.0.1;
          few_atoms = rw (atoms_count s at) h.1;
          answers_in = answers_again.1;
          atoms_in = atoms_again.1;
        }

  -- ---- question sheets

  passes3 : (s : List ℕ) → (¬ T (refuses3 w s)) ↔ ((length s ≡ question_length w s 0) × T (question_sound w s 0))
  unfolding refuses3
  passes3 s = unmet (or_tells (not_tells (eqb_tells (length s) (question_length w s 0))) (not_tells (itself (question_sound w s 0))))

  pub packed_question_read : (q : Query) → QueryInRange w q → query_at w (pack_query w q) 0 ≡ q
  packed_question_read q h = (question_read q (pack_query w q) 0 h (stands_whole (pack_query w q))).0

  pub packed_question_passes : (q : Query) → QueryInRange w q → ¬ T (refuses3 w (pack_query w q))
  packed_question_passes q h =
      let r = question_read q (pack_query w q) 0 h (stands_whole (pack_query w q)) in
      (passes3 (pack_query w q)).1 (sym r.2, r.1)

  pub read_question_packed : (s : List ℕ) → All IsByte s → ¬ T (refuses3 w s) → pack_query w (query_at w s 0) ≡ s
  read_question_packed s bytes f =
      let p = (passes3 s).0 f in
      let e : length (pack_query w (query_at w s 0)) ≡ question_length w s 0 = length_again s 0 in
      stands_all (pack_query w (query_at w s 0)) s (question_again s 0 bytes (omega arith) p.1) (omega arith)

  pub read_question_in : (s : List ℕ) → All IsByte s → ¬ T (refuses3 w s) → QueryInRange w (query_at w s 0)
  read_question_in s bytes f = let p = (passes3 s).0 f in question_in s 0 bytes (omega arith) p.1
