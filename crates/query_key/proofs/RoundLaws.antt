-- Rounds: two maps that agree on the variables 0 to 31 give the same colours and the same key.
use mathlib.Core.Path.{◌≡◌, refl, sym, ap, ap₂, ◌∙◌}
use Prim.Native.Nat.{ℕ, suc, ◌+◌, ◌<◌}
use mathlib.Core.List.Memᴰ
use mathlib.Core.List.{List, [], ◌∷◌, map-id}
use borrow.Author.Rules.{rules}
use Rattle.theory.specs.Lists.{◌∈◌}
use Rattle.theory.specs.Syntax.{Term, var, const, Atom, Query, terms}
use Rattle.theory.specs.Laws.Lists.{here}
use Rattle.theory.specs.Laws.Counting.{total}
use Rattle.theory.proofs.Laws.Syntax.{map_atom_id, terms_answers, terms_atoms}
use Rattle.words.specs.Words.{query_of, Small}
use Rattle.words.specs.declared.QueryWords.{QueryWords}
use Rattle.query_key.specs.Key.{along, mix_answer, mix_atom, given_by, colour_by, next, colours, key_by, key}
use Rattle.query_key.proofs.KeyLaws.{along_map, mix_image, given_image}
use Rattle.query_key.specs.Colours.{colour_in, ColoursOf}

total_agrees : {X : Type 0} (w v : X → ℕ) (xs : List X) → ((x : X) → x ∈ xs → w x ≡ v x) → total w xs ≡ total v xs
unfolding total
total_agrees w v [] h = refl
total_agrees w v (x ∷ xs) h = ap₂ ◌+◌ (h x here) (total_agrees w v xs (λ y m. h y (Memᴰ.tail m)))

module _ (q : Query) (low : (v : ℕ) → var v ∈ terms q → v < 32) (h h' : ℕ → ℕ) (agree : (v : ℕ) → v < 32 → h v ≡ h' v) where
  colour_agrees : (t : Term) → t ∈ terms q → colour_by h t ≡ colour_by h' t
  colour_agrees (var v) m = agree v (low v m)
  colour_agrees (const c) m = refl

  atom_agrees : (a : Atom Term) → a ∈ q.atoms → mix_atom (colour_by h) a ≡ mix_atom (colour_by h') a
  atom_agrees a m =
      ap (mix_atom (colour_by h)) (sym (map_atom_id a))
      ∙ mix_image (λ t. t) (colour_by h') (colour_by h) a (λ t n. colour_agrees t (terms_atoms q m n)) (λ t u n k. refl)

  next_agrees : (v : ℕ) → next q h v ≡ next q h' v
  unfolding next
  next_agrees v =
      total_agrees (λ a. given_by (colour_by h) a v) (λ a. given_by (colour_by h') a v) q.atoms
      (λ a m. ap (λ x. given_by (colour_by h) x v) (sym (map_atom_id a))
      ∙ given_image (λ t. t) (colour_by h') (colour_by h) v v a (λ t n. refl)
      (ap (mix_atom (colour_by h)) (map_atom_id a) ∙ atom_agrees a m))

  key_agrees : key_by q (colour_by h) ≡ key_by q (colour_by h')
  unfolding key_by mix_answer
  key_agrees =
      ap₂ ◌+◌
      (ap (along (mix_answer (colour_by h)) 0) (sym (map-id q.answers))
      ∙ along_map (λ t. t) (mix_answer (colour_by h')) (mix_answer (colour_by h)) 0 q.answers
      (λ i t m. ap (λ x. mix_answer (λ u. x) i t) (colour_agrees t (terms_answers q m))))
      (total_agrees (mix_atom (colour_by h)) (mix_atom (colour_by h')) q.atoms atom_agrees)

-- one round more
round_listed : (q : QueryWords) (n : ℕ) (l m : List ℕ) → Small q → ColoursOf (colours n (query_of q)) l
    → ColoursOf (next (query_of q) (colour_in l)) m → ColoursOf (colours (suc n) (query_of q)) m
unfolding colours
round_listed q n l m s a b = record {
  says = λ v h. b.says v h
      ∙ next_agrees (query_of q) s.variables (colour_in l) (colours n (query_of q)) a.says v;
}

pub shapes_made : (q : QueryWords) (k l m : List ℕ) → Small q → ColoursOf (colours 0 (query_of q)) k
    → ColoursOf (next (query_of q) (colour_in k)) l → ColoursOf (next (query_of q) (colour_in l)) m → ColoursOf (colours 2 (query_of q)) m
shapes_made q k l m s a b c = round_listed q 1 l m s (round_listed q 0 k l s a b) c

pub key_made : (q : QueryWords) (m : List ℕ) (x y : ℕ) → Small q → ColoursOf (colours 2 (query_of q)) m
    → x ≡ along (mix_answer (colour_by (colour_in m))) 0 (query_of q).answers → y
    ≡ total (mix_atom (colour_by (colour_in m))) (query_of q).atoms
    → x + y ≡ key (query_of q)
unfolding key key_by
key_made q m x y s a d e = ap₂ ◌+◌ d e ∙ key_agrees (query_of q) s.variables (colour_in m) (colours 2 (query_of q)) a.says

pub ruleset laws = (rules, shapes_made, key_made)
