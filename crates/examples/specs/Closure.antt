-- Examples of source documents 003 and 004, and two more: a question, and the members of its union by PerfectRef as 01 has it.
-- A test says whether a list of queries is exactly what the steps reach from the question, up to renaming.
use Rattle.std.specs.Prelude.{◌≡◌, refl, Bool, true, false, not, ◌&&◌, List, [], ◌∷◌, take}
use Rattle.theory.specs.Lists.{any, all}
use Rattle.theory.specs.Syntax.{concept, role, named, has, has_inverse, Rule, concept_inclusion, role_inclusion, Query}
use Rattle.theory.specs.Rewriting.{steps}
use Rattle.theory.specs.Renaming.{alike}
use Rattle.examples.specs.Notation.{A, B, P, R, S, x, y, z, ask}

-- What is given, and what the steps must reach. Each member but the first stands behind one that it comes from.
pub record Closure : Type 0 where
  pub rules : List Rule
  pub question : Query
  pub members : List Query

-- ---- the test

-- a step from one of the queries leads to one alike to m
unfoldable pub reaches : List Rule → List Query → Query → Bool
unfolding any steps alike
reaches rules from m = any (λ p. any (λ r. alike r m) (steps rules p)) from

-- each query is reached from those before it
unfoldable pub reached : List Rule → List Query → List Query → Bool
unfolding reaches
reached rules earlier [] = true
reached rules earlier (m ∷ ms) = reaches rules earlier m && reached rules (m ∷ earlier) ms

-- every step from a member leads to one alike to a member
unfoldable pub closed : List Rule → List Query → Bool
unfolding any all steps alike
closed rules members = all (λ m. all (λ r. any (alike r) members) (steps rules m)) members

-- no two are alike
unfoldable pub unlike : List Query → Bool
unfolding any alike
unlike [] = true
unlike (m ∷ ms) = not (any (alike m) ms) && unlike ms

-- the members are the question and what the steps reach from it, each once up to renaming
unfoldable pub is_closure : List Rule → Query → List Query → Bool
unfolding alike reached closed unlike
is_closure rules q [] = false
is_closure rules q (m ∷ ms) = alike q m && reached rules (m ∷ []) ms && closed rules (m ∷ ms) && unlike (m ∷ ms)

unfoldable pub holds : Closure → Bool
unfolding is_closure
holds c = is_closure c.rules c.question c.members

-- ---- the table

unfoldable pub closures : List Closure
closures =
    -- 003, section 3.1: Professor is A, Student B, teaches P
    record {
      rules = concept_inclusion (named A) (has P) ∷ concept_inclusion (has_inverse P) (named B) ∷ [];
      question = ask (x ∷ []) (role P x y ∷ concept B y ∷ []);
      members =
          ask (x ∷ []) (role P x y ∷ concept B y ∷ [])
          ∷ ask (x ∷ []) (role P x y ∷ role P z y ∷ [])
          ∷ ask (x ∷ []) (role P x y ∷ [])
          ∷ ask (x ∷ []) (concept A x ∷ [])
          ∷ [];
    }
    -- 003, section 2.4
    ∷ record {
      rules = concept_inclusion (named B) (has S) ∷ concept_inclusion (has_inverse S) (named B) ∷ [];
      question = ask (x ∷ []) (role S x y ∷ role S y z ∷ []);
      members =
          ask (x ∷ []) (role S x y ∷ role S y z ∷ [])
          ∷ ask (x ∷ []) (role S x y ∷ concept B y ∷ [])
          ∷ ask (x ∷ []) (role S x y ∷ role S z y ∷ [])
          ∷ ask (x ∷ []) (role S x y ∷ [])
          ∷ ask (x ∷ []) (role S x x ∷ [])
          ∷ ask (x ∷ []) (concept B x ∷ [])
          ∷ ask (x ∷ []) (role S z x ∷ [])
          ∷ [];
    }
    -- 004, example 1, with B ⊑ ∃S appended
    ∷ record {
      rules = role_inclusion S false P ∷ concept_inclusion (named A) (has S) ∷ concept_inclusion (named B) (has S) ∷ [];
      question = ask (x ∷ []) (role S x y ∷ role P x y ∷ []);
      members =
          ask (x ∷ []) (role S x y ∷ role P x y ∷ [])
          ∷ ask (x ∷ []) (role S x y ∷ [])
          ∷ ask (x ∷ []) (concept A x ∷ [])
          ∷ ask (x ∷ []) (concept B x ∷ [])
          ∷ [];
    }
    -- 004, example 1
    ∷ record {
      rules = role_inclusion S false P ∷ concept_inclusion (named A) (has S) ∷ [];
      question = ask (x ∷ []) (role S x y ∷ role P x y ∷ []);
      members =
          ask (x ∷ []) (role S x y ∷ role P x y ∷ [])
          ∷ ask (x ∷ []) (role S x y ∷ [])
          ∷ ask (x ∷ []) (concept A x ∷ [])
          ∷ [];
    }
    -- 004, example 2
    ∷ record {
      rules = role_inclusion S false P ∷ concept_inclusion (named A) (has S) ∷ [];
      question = ask (x ∷ []) (role R x y ∷ role P x y ∷ []);
      members =
          ask (x ∷ []) (role R x y ∷ role P x y ∷ [])
          ∷ ask (x ∷ []) (role R x y ∷ role S x y ∷ [])
          ∷ [];
    }
    -- 004, example 2, with P ⊑ R appended
    ∷ record {
      rules = role_inclusion S false P ∷ concept_inclusion (named A) (has S) ∷ role_inclusion P false R ∷ [];
      question = ask (x ∷ []) (role R x y ∷ role P x y ∷ []);
      members =
          ask (x ∷ []) (role R x y ∷ role P x y ∷ [])
          ∷ ask (x ∷ []) (role R x y ∷ role S x y ∷ [])
          ∷ ask (x ∷ []) (role P x y ∷ [])
          ∷ ask (x ∷ []) (role P x y ∷ role S x y ∷ [])
          ∷ ask (x ∷ []) (role S x y ∷ [])
          ∷ ask (x ∷ []) (concept A x ∷ [])
          ∷ [];
    }
    -- 003, example 1
    ∷ record {
      rules = concept_inclusion (named A) (has R) ∷ [];
      question = ask (x ∷ []) (role R x y ∷ role R z y ∷ concept B z ∷ []);
      members =
          ask (x ∷ []) (role R x y ∷ role R z y ∷ concept B z ∷ [])
          ∷ ask (x ∷ []) (role R x y ∷ concept B x ∷ [])
          ∷ ask (x ∷ []) (concept A x ∷ concept B x ∷ [])
          ∷ [];
    }
    -- 003, example 3: the rewritten atom is one that stands there already
    ∷ record {
      rules = concept_inclusion (named A) (has R) ∷ [];
      question = ask (x ∷ []) (concept A x ∷ role R x y ∷ []);
      members = ask (x ∷ []) (concept A x ∷ role R x y ∷ []) ∷ ask (x ∷ []) (concept A x ∷ []) ∷ [];
    }
    -- 003, example 3: y stands twice
    ∷ record {
      rules = concept_inclusion (named A) (has R) ∷ [];
      question = ask (x ∷ []) (concept A x ∷ role R x y ∷ concept B y ∷ []);
      members = ask (x ∷ []) (concept A x ∷ role R x y ∷ concept B y ∷ []) ∷ [];
    }
    -- a loop: x stands twice in one atom, so no step applies, and A(5) gives no answer
    ∷ record {
      rules = concept_inclusion (named A) (has P) ∷ [];
      question = ask [] (role P x x ∷ []);
      members = ask [] (role P x x ∷ []) ∷ [];
    }
    -- zero bits: variable 0 stands once, though a concept atom's second term has its code
    ∷ record {
      rules = concept_inclusion (named B) (has P) ∷ [];
      question = ask (y ∷ []) (role P y x ∷ concept A y ∷ []);
      members = ask (y ∷ []) (role P y x ∷ concept A y ∷ []) ∷ ask (y ∷ []) (concept B y ∷ concept A y ∷ []) ∷ [];
    }
    ∷ []

-- the first three; a program runs the others
pub closures_hold : all holds (take 3 closures) ≡ true
unfolding all holds closures
closures_hold = refl
