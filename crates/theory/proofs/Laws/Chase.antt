-- What the answers of a query depend on: more held, more answers; what holds of a query's image holds of the query; rounds grow.
use Rattle.std.specs.Prelude.{◌≡◌, ℕ, zero, suc, ◌≤◌, List, map}
use Rattle.std.proofs.Common.{sym, ap, ◌∙◌, subst, inl, inr, eq-or-lt_of_le, le_of_suc-le-suc, arith}
use Rattle.theory.specs.Lists.{◌∈◌}
use Rattle.theory.specs.Syntax.{Term, Atom, Rule, Query, Fact, Thing, object, map_atom, value, rename}
use Rattle.theory.specs.Chase.{Held, Round, Answer}
use Rattle.theory.specs.Renaming.{Alike}
use Rattle.theory.specs.Laws.Lists.{map_after}
use Rattle.theory.proofs.Laws.Syntax.{send_rename, map_atom_after}

-- where more is held, there are no fewer answers
pub answer_more : (H H' : Held) → ((a : Atom Thing) → H a → H' a) → (q : Query) (tuple : List ℕ) → Answer H q tuple → Answer H' q tuple
answer_more H H' more q tuple w = record {
  match = w.match;
  holds = λ a m. more (map_atom (value w.match) a) (w.holds a m);
  sends =
      w.sends;
}

-- what holds of a query's image under a map of terms holds of the query
pub answer_through : (H : Held) (p q : Query) (f : Term → Term) (h : ℕ → Thing) (tuple : List ℕ)
    → ((a : Atom Term) → a ∈ p.atoms → map_atom f a ∈ q.atoms) → map f p.answers ≡ q.answers
    → (w : Answer H q tuple) → ((t : Term) → value w.match (f t) ≡ value h t) → Answer H p tuple
answer_through H p q f h tuple into on w same = record {
  match = h;
  holds = λ a m. subst H (map_atom_after (value w.match) f (value h) a (λ t n. same t)) (w.holds (map_atom f a) (into a m));
  sends = sym (map_after (value w.match) f (value h) p.answers (λ t n. same t)) ∙ ap (map (value w.match)) on ∙ w.sends;
}

-- an answer of a query is one of every query that is alike to it
pub alike_answer : (H : Held) (p q : Query) (tuple : List ℕ) → Alike p q → Answer H q tuple → Answer H p tuple
alike_answer H p q tuple r w =
    answer_through H p q (rename r.to) (λ v. w.match (r.to v)) tuple r.into r.on_answers w
    (send_rename object w.match r.to)

-- what is held in a round is held in every later one
module _ (rules : List Rule) (facts : List Fact) where
  pub round_later : (n m : ℕ) → n ≤ m → (a : Atom Thing) → Round rules facts n a → Round rules facts m a
  round_later n zero l a h = let e : n ≡ zero = omega arith in subst (λ k. Round rules facts k a) e h
  round_later n (suc m) l a h =
      elim (eq-or-lt_of_le l) [
        | inl e ↦ subst (λ k. Round rules facts k a) e h
        | inr k ↦ inl (round_later n m (le_of_suc-le-suc k) a h)
      ]

  pub answer_later : (n m : ℕ) (q : Query) (tuple : List ℕ) → n ≤ m → Answer (Round rules facts n) q tuple
      → Answer (Round rules facts m) q tuple
  answer_later n m q tuple l = answer_more (Round rules facts n) (Round rules facts m) (round_later n m l) q tuple
