-- 01's worked examples (cards) K3 to K6 as values, and the proof that the definitions compute what 01 says of them.
use Rattle.std.specs.Prelude.{◌≡◌, refl, ℕ, Bool, true, false, ◌&&◌, List, [], ◌∷◌, eqb}
use Rattle.std.proofs.Math.Option.{Option, none, some}
use Rattle.theory.specs.Lists.{all, pairwise}
use Rattle.theory.specs.Syntax.{concept, role, named, has, has_inverse, Rule, concept_inclusion, Query, UCQ, Fact}
use Rattle.theory.specs.Rewriting.{steps}
use Rattle.theory.specs.Union.{same_query, check}
use Rattle.theory.specs.Evaluation.{answers_of}
use Rattle.examples.specs.Notation.{A, P, x, y, z, ask, first, by_rule, by_merge}

-- What is given, and what must come of it.
pub record Example : Type 0 where
  pub rules : List Rule
  pub question : Query
  pub union : UCQ
  pub facts : List Fact
  -- the results of all steps from the question, in the order of `steps`
  pub results : List Query
  -- what checking the union gives
  pub refusal : Option ℕ
  -- the tuples drawn: "A refusal returns its number and count 0", so none where the union is refused
  pub answers : List (List ℕ)

-- ---- the table

-- K3: "every A has a P; answer x of P(x,y), P(z,y). Members: itself, P(x,y), A(x). A(5) gives 5."
abbrev pub K3 : Example
K3 =
    let q : Query = ask (x ∷ []) (role P x y ∷ role P z y ∷ []) in
    let merged : Query = ask (x ∷ []) (role P x y ∷ []) in
    record {
      rules = concept_inclusion (named A) (has P) ∷ [];
      question = q;
      union = first q ∷ by_merge 0 0 1 merged ∷ by_rule 1 0 0 (ask (x ∷ []) (concept A x ∷ [])) ∷ [];
      facts = concept A 5 ∷ [];
      results = merged ∷ [];
      refusal = none;
      answers = (5 ∷ []) ∷ [];
    }

-- K4: "K3 with member 0 only, 11."
abbrev pub K4 : Example
K4 =
    record {
      rules = K3.rules;
      question = K3.question;
      union = first K3.question ∷ [];
      facts = K3.facts;
      results = K3.results;
      refusal = some 11;
      answers = [];
    }

-- K5: "A has a P, whoever is P-reached is A; no answer terms, P(x,y), P(y,z). Six members: itself; P(x,y), A(y); P(x,x);
-- P(x,y), P(w,y); P(x,y); A(x). A(5) gives count 1."
abbrev pub K5 : Example
K5 =
    let q : Query = ask [] (role P x y ∷ role P y z ∷ []) in
    let rewritten : Query = ask [] (role P x y ∷ concept A y ∷ []) in
    let merged : Query = ask [] (role P x x ∷ []) in
    record {
      rules = concept_inclusion (named A) (has P) ∷ concept_inclusion (has_inverse P) (named A) ∷ [];
      question = q;
      union =
          first q
          ∷ by_rule 0 1 0 rewritten
          ∷ by_merge 0 0 1 merged
          ∷ by_rule 1 1 1 (ask [] (role P x y ∷ role P z y ∷ []))
          ∷ by_merge 3 0 1 (ask [] (role P x y ∷ []))
          ∷ by_rule 4 0 0 (ask [] (concept A x ∷ []))
          ∷ [];
      facts = concept A 5 ∷ [];
      results = rewritten ∷ merged ∷ [];
      refusal = none;
      answers = [] ∷ [];
    }

-- K6: "every A has a P; answers x, y of P(x,y). One member; A(5) gives none."
abbrev pub K6 : Example
K6 =
    let q : Query = ask (x ∷ y ∷ []) (role P x y ∷ []) in
    record {
      rules = concept_inclusion (named A) (has P) ∷ [];
      question = q;
      union = first q ∷ [];
      facts = concept A 5 ∷ [];
      results = [];
      refusal = none;
      answers = [];
    }

unfoldable pub examples : List Example
examples = K3 ∷ K4 ∷ K5 ∷ K6 ∷ []

-- ---- the test

unfoldable pub same_refusal : Option ℕ → Option ℕ → Bool
same_refusal none none = true
same_refusal none (some n) = false
same_refusal (some m) none = false
same_refusal (some m) (some n) = eqb m n

-- the tuples to be drawn: the answers where nothing is refused, none on a refusal
unfoldable pub expected : Option ℕ → List (List ℕ) → List (List ℕ)
expected none tuples = tuples
expected (some n) tuples = []

-- what the definitions compute is what is written
unfoldable pub holds : Example → Bool
unfolding check answers_of steps same_refusal expected pairwise same_query
holds e =
    let refusal : Option ℕ = check e.rules e.question e.union in
    same_refusal refusal e.refusal
    && pairwise (pairwise eqb) (expected refusal (answers_of e.facts e.union)) e.answers
    && pairwise same_query (steps e.rules e.question) e.results

pub examples_hold : all holds examples ≡ true
unfolding all holds examples
examples_hold = refl
