-- The answer list's bytes: a tuple's bytes tell the tuple, and in the list they stand at the tuple's place.
-- Objects are below 65,536, as 16 bits hold them.
use Rattle.std.specs.Prelude.{◌≡◌, ◌↔◌, drop}
use Rattle.std.proofs.Math.Path.{sym, ap, ap₂}
use Rattle.std.proofs.Common.{◌∙◌, subst, inl, inr, mul-zero, not-suc-le-zero, le_of_suc-le-suc, drop-drop}
use Prim.Native.Nat.{ℕ, zero, suc, ◌+◌, ◌*◌, ◌-◌, ◌<◌}
use Rattle.std.proofs.Math.Nat.{mul-suc}
use native.Mathlib.Omega.{arith}
use mathlib.Core.List.Memᴰ
use mathlib.Core.List.{List, [], ◌∷◌, ◌++◌, flat_map, append_assoc}
use Rattle.std.proofs.Math.ListN.{length, take, replicate, length-append}
use Rattle.std.proofs.Math.Seq.{take_at, drop_at}
use Rattle.theory.specs.Lists.{◌∈◌, At}
use Rattle.theory.specs.Laws.Options.{none≢some, some_inj}
use Rattle.theory.specs.Laws.Lists.{here, at_mem, mem_at, at_lt, at_or_past}
use Rattle.theory.specs.Laws.Ascending.{Ascending}
use Rattle.theory.specs.Evaluation.{Before}
use Rattle.words.specs.Limits.{object_bound}
use Rattle.sheets.specs.Packing.{pack_records, All}
use Rattle.sheets.specs.AnswerList.{tuple_size, tuple_bytes, list_bytes}
use Rattle.sheets.proofs.Laws.PackingBytes.{stands_whole, length_records, records_at, records_read}

-- every object of the tuple is one that 16 bits hold
abbrev InRange : List ℕ → Type 0
InRange tuple = All (λ o. o < object_bound) tuple

-- ---- a tuple's bytes

pub length_tuple : (t : List ℕ) → length (tuple_bytes t) ≡ tuple_size (length t)
unfolding tuple_bytes
length_tuple t = length_records 2 t

-- what was packed is read again
read_again : (t : List ℕ) → InRange t → records_at (pack_records 2 t) (λ i. 2 * i) 2 0 (length t) ≡ t
read_again t h = records_read (pack_records 2 t) (λ i. 2 * i) 2 0 0 t (λ i. omega arith) h (stands_whole (pack_records 2 t))

pub tuple_unique : (t u : List ℕ) → InRange t → InRange u → tuple_bytes t ≡ tuple_bytes u → t ≡ u
unfolding tuple_bytes
tuple_unique t u h k e =
    let a : length (pack_records 2 t) ≡ 2 * length t = length_records 2 t in
    let b : length (pack_records 2 u) ≡ 2 * length u = length_records 2 u in
    let c : length (pack_records 2 t) ≡ length (pack_records 2 u) = ap length e in
    let l : length t ≡ length u = omega arith in
    sym (read_again t h) ∙ ap₂ (λ s n. records_at s (λ i. 2 * i) 2 0 n) e l ∙ read_again u k

-- ---- parts of one size, one after another

module _ {X : Type 0} (f : X → List ℕ) (size : ℕ) where
  pub length_parts : (xs : List X) → ((x : X) → x ∈ xs → length (f x) ≡ size) → length (flat_map f xs) ≡ size * length xs
  unfolding flat_map
  length_parts [] h = sym (mul-zero size)
  length_parts (x ∷ xs) h =
      let a : length (f x ++ flat_map f xs) ≡ length (f x) + length (flat_map f xs) = length-append (f x) (flat_map f xs) in
      let b : length (f x) ≡ size = h x here in
      let c : length (flat_map f xs) ≡ size * length xs = length_parts xs (λ y m. h y (Memᴰ.tail m)) in
      let d : size * suc (length xs) ≡ size * length xs + size = mul-suc size (length xs) in
      omega arith

  -- the part at place k is that of the element with index k
  pub part_at : (xs : List X) → ((x : X) → x ∈ xs → length (f x) ≡ size) → (rest : List ℕ) (k : ℕ) {x : X} → At xs k x
      → take size (drop (size * k) (flat_map f xs ++ rest)) ≡ f x
  unfolding flat_map
  part_at [] h rest k e = absurd (none≢some e)
  part_at (y ∷ ys) h rest zero {x} e =
      ap (λ n. take size (drop n ((f y ++ flat_map f ys) ++ rest))) (mul-zero size)
      ∙ ap (take size) (append_assoc (f y) (flat_map f ys) rest)
      ∙ take_at (f y) (flat_map f ys ++ rest) size (h y here)
      ∙ ap f (some_inj e)
  part_at (y ∷ ys) h rest (suc k) {x} e =
      let n : size * suc k ≡ size + size * k = mul-suc size k ∙ omega arith in
      ap₂ (λ n l. take size (drop n l)) n (append_assoc (f y) (flat_map f ys) rest)
      ∙ ap (take size) (sym (drop-drop (size * k) size (f y ++ (flat_map f ys ++ rest))))
      ∙ ap (λ l. take size (drop (size * k) l)) (drop_at (f y) (flat_map f ys ++ rest) size (h y here))
      ∙ part_at ys (λ z m. h z (Memᴰ.tail m)) rest k e

-- ---- the list of all answers

-- in an ascending list the earlier of two is less
ascending_at : {X : Type 0} (Less : X → X → Type 0) (xs : List X) → Ascending Less xs → (j k : ℕ) {x y : X} → j < k → At xs j x → At xs k y
    → Less x y
ascending_at Less [] a j k l d e = absurd (none≢some d)
ascending_at Less (z ∷ zs) a j zero l d e = absurd (not-suc-le-zero l)
ascending_at Less (z ∷ zs) a zero (suc k) {x} {y} l d e = subst (λ w. Less w y) (some_inj d) (a.0 y (at_mem zs k e))
ascending_at Less (z ∷ zs) a (suc j) (suc k) l d e = ascending_at Less zs a.1 j k (le_of_suc-le-suc l) d e

-- tuples of objects in range, all of one length
module _ (answers : List (List ℕ)) (terms room : ℕ) (known : (t : List ℕ) → t ∈ answers → InRange t × (length t ≡ terms)) where
  sizes : (t : List ℕ) → t ∈ answers → length (tuple_bytes t) ≡ tuple_size terms
  sizes t m = length_tuple t ∙ ap tuple_size (known t m).1

  pub length_answers : length (flat_map tuple_bytes answers) ≡ tuple_size terms * length answers
  length_answers = length_parts tuple_bytes (tuple_size terms) answers sizes

  -- the bytes at place k
  abbrev part : ℕ → List ℕ
  part k = take (tuple_size terms) (drop (tuple_size terms * k) (list_bytes room answers))

  pub part_of : (k : ℕ) {t : List ℕ} → At answers k t → part k ≡ tuple_bytes t
  unfolding list_bytes
  part_of k e = part_at tuple_bytes (tuple_size terms) answers sizes (replicate (room - length (flat_map tuple_bytes answers)) 0) k e

  -- what stands at place k is the answer with index k
  answer_at : (k : ℕ) → k < length answers → (t : List ℕ) → InRange t → part k ≡ tuple_bytes t → At answers k t
  answer_at k l t h e =
      elim (at_or_past answers k) [
        | inl (u, a) ↦ (let d : u ≡ t = tuple_unique u t (known u (at_mem answers k a)).0 h (sym (part_of k a) ∙ e) in
            subst (λ (v : List ℕ). At answers k v) d a)
        | inr m ↦ absurd (omega arith)
      ]

  pub listed_iff : (t : List ℕ) → InRange t → ((k : ℕ) × (k < length answers) × (part k ≡ tuple_bytes t)) ↔ (t ∈ answers)
  listed_iff t h = (
    λ w. at_mem answers w.0 (answer_at w.0 w.1 t h w.2),
    λ m. let (k, a) = mem_at m in (k, at_lt answers k a, part_of k a),
  )

  pub listed_ascending : Ascending Before answers → (j k : ℕ) (t u : List ℕ) → InRange t → InRange u → j < k → k < length answers
      → part j ≡ tuple_bytes t → part k ≡ tuple_bytes u → Before t u
  listed_ascending a j k t u h g l m d e = ascending_at Before answers a j k l (answer_at j (omega arith) t h d) (answer_at k m u g e)

  -- zeros after them
  pub listed_rest : drop (tuple_size terms * length answers) (list_bytes room answers)
      ≡ replicate (room - tuple_size terms * length answers) 0
  unfolding list_bytes
  listed_rest =
      drop_at (flat_map tuple_bytes answers) (replicate (room - length (flat_map tuple_bytes answers)) 0)
      (tuple_size terms * length answers) length_answers
      ∙ ap (λ n. replicate (room - n) 0) length_answers
