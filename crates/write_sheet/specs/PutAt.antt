-- Bytes put into a sheet, and the parts of a packed union that are put one after another.
use Rattle.std.specs.Prelude.{ℕ, ◌+◌, length, take, drop}
use mathlib.Core.List.{List, ◌++◌, map, flat_map}
use Rattle.theory.specs.Syntax.{Term, Atom}
use Rattle.words.specs.Limits.{sheet_width, answer_bytes, record_bytes}
use Rattle.words.specs.Records.{term_of, atom_of}
use Rattle.words.specs.Words.{word_term, word_atom, union_in}
use Rattle.sheets.specs.Packing.{bytes_of, pack_records, fields_number, term_number, atom_number, pack_member}

-- the bytes stand from index `at` on, and all others are as they were
unfoldable pub put_at : List ℕ → ℕ → List ℕ → List ℕ
put_at s at bytes = take at s ++ (bytes ++ drop (at + length bytes) s)

-- the bytes of a word's answer term, and of a word's atom, on a sheet
unfoldable pub answer_record : ℕ → List ℕ
unfolding bytes_of fields_number term_of
answer_record t = bytes_of (answer_bytes sheet_width) (term_number sheet_width (word_term t))

unfoldable pub atom_record : ℕ → List ℕ
unfolding bytes_of fields_number atom_of
atom_record a = bytes_of (record_bytes sheet_width) (atom_number sheet_width (word_atom a))

-- a question's answer terms; its atoms; a union's members without their count
abbrev pub answers_bytes : ℕ → List Term → List ℕ
answers_bytes w answers = pack_records (answer_bytes w) (map (term_number w) answers)

abbrev pub atoms_bytes : ℕ → List (Atom Term) → List ℕ
atoms_bytes w atoms = pack_records (record_bytes w) (map (atom_number w) atoms)

abbrev pub members_bytes : List ℕ → ℕ → List ℕ
members_bytes table n = flat_map (pack_member sheet_width) (union_in table n)
