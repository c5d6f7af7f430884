-- Bytes put into a sheet: the sheet stays as long, and one part may be put after another.
use mathlib.Core.Path.{◌≡◌, refl, sym, ap, ap₂, ◌∙◌}
use Prim.Native.Nat.{ℕ, suc, ◌+◌, ◌≤◌, ◌<◌}
use native.Mathlib.Nat.{add-zero}
use native.Mathlib.Omega.{arith}
use mathlib.Core.List.{List, [], ◌∷◌, ◌++◌, append_assoc}
use lib.ListN.{length, take, drop, set, take-append-drop, length-append, length-drop}
use lib.Seq.{length-take-le, take_at, drop_at, drop-drop, append_snoc, set_split, take-set-le}
use Rattle.write_sheet.specs.PutAt.{put_at}

-- as it is defined
opens : (s : List ℕ) (at : ℕ) (xs : List ℕ) → put_at s at xs ≡ take at s ++ (xs ++ drop (at + length xs) s)
unfolding put_at
opens s at xs = refl

pub put_nil : (s : List ℕ) (at : ℕ) → put_at s at [] ≡ s
unfolding put_at
put_nil s at = ap (λ k. take at s ++ drop k s) (add-zero at) ∙ take-append-drop at s

module _ (s : List ℕ) (at : ℕ) (xs : List ℕ) (room : at + length xs ≤ length s) where
  front : length (take at s) ≡ at
  front = length-take-le at s (omega arith)

  end : length (take at s ++ xs) ≡ at + length xs
  end = length-append (take at s) xs ∙ ap (λ k. k + length xs) front

  regrouped : put_at s at xs ≡ take at s ++ xs ++ drop (at + length xs) s
  unfolding put_at
  regrouped = sym (append_assoc (take at s) xs (drop (at + length xs) s))

  pub put_length : length (put_at s at xs) ≡ length s
  put_length =
      ap length regrouped ∙ length-append (take at s ++ xs) (drop (at + length xs) s)
      ∙ ap₂ ◌+◌ end (length-drop (at + length xs) s) ∙ omega arith

  -- what stands before the end of the bytes, and what behind it
  pub put_before : take (at + length xs) (put_at s at xs) ≡ take at s ++ xs
  put_before =
      ap (take (at + length xs)) regrouped ∙ take_at (take at s ++ xs) (drop (at + length xs) s) (at + length xs) end

  pub put_behind : drop (at + length xs) (put_at s at xs) ≡ drop (at + length xs) s
  put_behind =
      ap (drop (at + length xs)) regrouped ∙ drop_at (take at s ++ xs) (drop (at + length xs) s) (at + length xs) end

  -- other bytes put behind them
  pub put_then : (ys : List ℕ) → put_at (put_at s at xs) (at + length xs) ys ≡ put_at s at (xs ++ ys)
  put_then ys =
      let i : ℕ = at + length xs in
      let later : drop (i + length ys) (put_at s at xs) ≡ drop (i + length ys) s =
      sym (drop-drop (length ys) i (put_at s at xs)) ∙ ap (drop (length ys)) put_behind ∙ drop-drop (length ys) i s in
      let e : length (xs ++ ys) ≡ length xs + length ys = length-append xs ys in
      let d : i + length ys ≡ at + length (xs ++ ys) = omega arith in
      opens (put_at s at xs) i ys ∙ ap₂ (λ a b. a ++ (ys ++ b)) put_before later
      ∙ append_assoc (take at s) xs (ys ++ drop (i + length ys) s)
      ∙ ap (λ l. take at s ++ l) (sym (append_assoc xs ys (drop (i + length ys) s)) ∙ ap (λ k. xs ++ ys ++ drop k s) d)
      ∙ sym (opens s at (xs ++ ys))

-- one byte put behind where they will stand
pub put_set : (s : List ℕ) (at : ℕ) (xs : List ℕ) (b : ℕ) → at + length xs < length s
    → put_at (set s (at + length xs) b) at xs ≡ put_at s at (xs ++ (b ∷ []))
unfolding put_at
put_set s at xs b room =
    let i : ℕ = at + length xs in
    let e : length (xs ++ (b ∷ [])) ≡ length xs + 1 = length-append xs (b ∷ []) in
    let d : suc i ≡ at + length (xs ++ (b ∷ [])) = omega arith in
    let behind : drop i (set s i b) ≡ b ∷ drop (suc i) s =
    ap (drop i) (set_split s i b room) ∙ drop_at (take i s) (b ∷ drop (suc i) s) i (length-take-le i s (omega arith)) in
    ap₂ (λ l r. l ++ (xs ++ r)) (take-set-le at s i b (omega arith)) behind
    ∙ ap (λ l. take at s ++ l) (sym (append_snoc xs b (drop (suc i) s)) ∙ ap (λ k. xs ++ (b ∷ []) ++ drop k s) d)

-- A loop that puts bytes: what is left, put where it belongs, makes the sheet that is promised, in which all of it stands from `start` on.
pub record Remaining (first : List ℕ) (start : ℕ) (whole sheet : List ℕ) (at : ℕ) (rest : List ℕ) : Type 0 where
  pub same : length sheet ≡ length first
  pub makes : put_at sheet at rest ≡ put_at first start whole

module _ (first : List ℕ) (start : ℕ) (whole sheet : List ℕ) (at : ℕ) (rest : List ℕ)
    (left : Remaining first start whole sheet at rest) where
  pub remaining_same : length sheet ≡ length first
  remaining_same = left.same

  -- the next bytes put
  pub remaining_next : (xs later ys : List ℕ) (to : ℕ) → rest ≡ xs ++ ys → to ≡ at + length xs → to ≤ length first
      → later ≡ put_at sheet at xs → Remaining first start whole later to ys
  remaining_next xs later ys to parts end room e =
      let s : length sheet ≡ length first = left.same in
      let r : at + length xs ≤ length sheet = omega arith in
      record {
        same = ap length e ∙ put_length sheet at xs r ∙ s;
        makes = ap₂ (λ l k. put_at l k ys) e end ∙ put_then sheet at xs r ys ∙ ap (put_at sheet at) (sym parts) ∙ left.makes;
      }

  pub remaining_done : rest ≡ [] → sheet ≡ put_at first start whole
  remaining_done e = sym (put_nil sheet at) ∙ ap (put_at sheet at) (sym e) ∙ left.makes
