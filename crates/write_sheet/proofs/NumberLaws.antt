-- Terms and atoms as numbers of a sheet, and the bytes of a number put from the last to the first.
use mathlib.Core.Path.{◌≡◌, refl, sym, ap, ◌∙◌}
use Prim.Native.Nat.{ℕ, suc, ◌+◌, ◌-◌, ◌*◌, ◌/◌, ◌%◌, ◌^◌, ◌≤◌, ◌<◌}
use native.Mathlib.Omega.{arith}
use mathlib.Core.Bool.{Bool, true, false}
use mathlib.Core.List.{List, [], ◌∷◌, ◌++◌}
use lib.Dec.{eqb}
use lib.ListN.{length, set, length-set}
use borrow.Author.Rules.{rules}
use borrow.Author.Tests.{ne_eqb, eqb-true, eqb-false}
use Rattle.theory.specs.Lists.{pick}
use Rattle.theory.specs.Syntax.{var, const}
use Rattle.words.specs.Limits.{sheet_width, word_width, object_bound, word_object_bound, word_term_bound}
use Rattle.words.specs.Records.{term_of, atom_of}
use Rattle.words.specs.Words.{word_term, word_atom, word_kind, word_name, word_first, word_second}
use Rattle.sheets.specs.Packing.{bytes_of, bits_after, fields_number, term_number, atom_number}
use Rattle.sheets.proofs.Laws.PackingBytes.{length_bytes_of}
use Rattle.write_sheet.specs.PutAt.{put_at, answer_record, atom_record}
use Rattle.write_sheet.proofs.PutLaws.{put_nil, put_length, put_set}

-- ---- terms and atoms

-- a term's number of one width from that of another: its first bit is moved
term_moved : (w v t : ℕ) → t / 2 ^ v < 2 → term_number w (term_of v t) ≡ t / 2 ^ v * 2 ^ w + t % 2 ^ v
unfolding term_of fields_number bits_after
term_moved w v t h = go (eqb (t / 2 ^ v) 0) refl
  where
    n : ℕ
    n = t % 2 ^ v

    go : (b : Bool) → eqb (t / 2 ^ v) 0 ≡ b → term_number w (pick b (var n) (const n)) ≡ t / 2 ^ v * 2 ^ w + n
    go true e =
        let z : t / 2 ^ v ≡ 0 = eqb-true (t / 2 ^ v) 0 e in
        let d : 0 * 2 ^ 1 + 0 ≡ t / 2 ^ v = omega arith in
        ap (λ k. k * 2 ^ w + n) d
    go false e =
        let z : ¬ (t / 2 ^ v ≡ 0) = eqb-false (t / 2 ^ v) 0 e in
        let d : 0 * 2 ^ 1 + 1 ≡ t / 2 ^ v = omega arith in
        ap (λ k. k * 2 ^ w + n) d

pub narrowed : (t n : ℕ) → t < word_term_bound → n ≡ t % word_object_bound
    → t / word_object_bound * object_bound + n ≡ term_number sheet_width (word_term t)
narrowed t n h e = ap (λ k. t / word_object_bound * object_bound + k) e ∙ sym (term_moved sheet_width word_width t (omega arith))

module _ (a k n f x : ℕ) (d : n ≡ word_name a) (e : f ≡ word_first a) (g : x ≡ term_number sheet_width (word_term f))
    (h : k ≡ word_kind a) where
  pub concept_number : k ≡ 0 → n * 17179869184 + x * 131072 ≡ atom_number sheet_width (word_atom a)
  unfolding atom_of fields_number bits_after
  concept_number z = sym (rw (← h, z, ← d, ← e, ← g) (omega arith))

  pub role_number : (s y : ℕ) → (k ≡ 0 → ⊥) → s ≡ word_second a → y ≡ term_number sheet_width (word_term s)
      → 140737488355328 + n * 17179869184 + x * 131072 + y ≡ atom_number sheet_width (word_atom a)
  unfolding atom_of fields_number bits_after
  role_number s y z i j = sym (rw (← h, ne_eqb k 0 z, ← d, ← e, ← g, ← i, ← j) (omega arith))

-- ---- the bytes of a number

no_bytes : (n : ℕ) → bytes_of 0 n ≡ []
unfolding bytes_of
no_bytes n = refl

last_byte : (size n : ℕ) → bytes_of (suc size) n ≡ bytes_of size (n / 256) ++ (n % 256 ∷ [])
unfolding bytes_of
last_byte size n = refl

module _ (first sheet : List ℕ) (at size number k rest : ℕ) (room : at + size ≤ length first) (same : length sheet ≡ length first)
    (left : put_at sheet at (bytes_of k rest) ≡ put_at first at (bytes_of size number)) where
  pub byte_within : 0 < k → k ≤ size → at + (k - 1) < length sheet
  byte_within h g = omega arith

  pub byte_next : 0 < k → k ≤ size
      → put_at (set sheet (at + (k - 1)) (rest % 256)) at (bytes_of (k - 1) (rest / 256)) ≡ put_at first at (bytes_of size number)
  byte_next h g =
      let j : ℕ = k - 1 in
      let xs : List ℕ = bytes_of j (rest / 256) in
      let s : k ≡ suc j = omega arith in
      let l : length xs ≡ j = length_bytes_of j (rest / 256) in
      ap (λ i. put_at (set sheet (at + i) (rest % 256)) at xs) (sym l)
      ∙ put_set sheet at xs (rest % 256) (omega arith)
      ∙ ap (put_at sheet at) (sym (ap (λ i. bytes_of i rest) s ∙ last_byte j rest))
      ∙ left

  pub bytes_all : k ≤ 0 → sheet ≡ put_at first at (bytes_of size number)
  bytes_all h =
      let z : k ≡ 0 = omega arith in
      sym (put_nil sheet at) ∙ ap (put_at sheet at) (sym (ap (λ i. bytes_of i rest) z ∙ no_bytes rest)) ∙ left

-- ---- records

pub answer_put : (s later : List ℕ) (at t x : ℕ) → later ≡ put_at s at (bytes_of 3 x) → x ≡ term_number sheet_width (word_term t)
    → later ≡ put_at s at (answer_record t)
unfolding answer_record
answer_put s later at t x e d = e ∙ ap (λ n. put_at s at (bytes_of 3 n)) d

pub atom_put : (s later : List ℕ) (at a x : ℕ) → later ≡ put_at s at (bytes_of 6 x) → x ≡ atom_number sheet_width (word_atom a)
    → later ≡ put_at s at (atom_record a)
unfolding atom_record
atom_put s later at a x e d = e ∙ ap (λ n. put_at s at (bytes_of 6 n)) d

-- a number put: the sheet stays as long
pub number_long : (sheet later : List ℕ) (at size x : ℕ) → later ≡ put_at sheet at (bytes_of size x) → at + size ≤ length sheet
    → length later ≡ length sheet
number_long sheet later at size x e room =
    let l : length (bytes_of size x) ≡ size = length_bytes_of size x in
    ap length e ∙ put_length sheet at (bytes_of size x) (omega arith)

pub ruleset laws = (
  rules,
  narrowed,
  concept_number,
  role_number,
  length-set,
  byte_within,
  byte_next,
  bytes_all,
  answer_put,
  atom_put,
  number_long,
)
