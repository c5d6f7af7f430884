-- A number that alike queries share (KeyLaws), so that two queries with two keys need no search for a renaming. It is made of what a
-- renaming leaves as it is: predicates, objects, answer positions, and which variables stand in which places of which atoms. A variable
-- gets a colour from the places that it stands in, and again from the colours around it: two rounds of colour refinement.
use Rattle.std.specs.Prelude.{ℕ, zero, suc, ◌+◌, ◌*◌, ◌%◌, List, [], ◌∷◌}
use Rattle.theory.specs.Lists.{pick}
use Rattle.theory.specs.Syntax.{Term, var, Atom, concept, role, Query, send, same_term}
use Rattle.theory.specs.Laws.Counting.{total}
use Rattle.words.specs.Limits.{word_object_bound}

-- ---- numbers

-- A number made of another, by the remainders of two primes: sums of such numbers rarely agree where those that they are made of do not.
unfoldable pub scramble : ℕ → ℕ
scramble m = (m % 536870909) * (m % 536870879)

-- 2 ^ 58: every such number is below it, so that 64 of them add up to less than 2 ^ 64
abbrev pub top : ℕ
top = 288230376151711744

-- one number made of a code and two numbers
unfoldable pub mix : ℕ → ℕ → ℕ → ℕ
mix code x y = scramble (code * 47615012787481 + x % 2147483647 * 1678998313 + y % 2147483647 * 1560889471)

-- what the elements of a list weigh together, each at its index
unfoldable pub along : {X : Type 0} → (ℕ → X → ℕ) → ℕ → List X → ℕ
along w i [] = zero
along w i (x ∷ xs) = w i x + along w (suc i) xs

-- ---- answer terms and atoms as numbers, where each term has a colour

-- an answer term at position i
unfoldable pub mix_answer : (Term → ℕ) → ℕ → Term → ℕ
mix_answer s i t = mix (4 * i + 1) (s t) 0

-- an atom, with its kind and number, and whether both its places hold one term
unfoldable pub mix_atom : (Term → ℕ) → Atom Term → ℕ
mix_atom s (concept A t) = mix (4 * A + 2) (s t) 0
mix_atom s (role P t u) = mix (4 * P + pick (same_term t u) 4 3) (s t) (s u)

-- ---- the colours

-- what a place that holds t gives to the variable v: w, if t is v
unfoldable pub given : Term → ℕ → ℕ → ℕ
given t w v = pick (same_term t (var v)) w 0

-- what an atom gives to v: its number for the first place, and for the second another one
unfoldable pub given_by : (Term → ℕ) → Atom Term → ℕ → ℕ
given_by s (concept A t) v = given t (mix_atom s (concept A t)) v
given_by s (role P t u) v = given t (mix_atom s (role P t u)) v + given u (scramble (mix_atom s (role P t u))) v

-- a term's colour: an object has its number, marked as an object's, and a variable what h says
abbrev pub colour_by : (ℕ → ℕ) → Term → ℕ
colour_by h = send (λ c. word_object_bound + c) h

-- the next colours of variables: what all atoms give
unfoldable pub next : Query → (ℕ → ℕ) → ℕ → ℕ
next q h v = total (λ a. given_by (colour_by h) a v) q.atoms

-- The colours of variables after so many rounds. At first only the answer positions count; each round looks one atom further.
unfoldable pub colours : ℕ → Query → ℕ → ℕ
colours zero q v = along (λ i t. given t (mix_answer (λ u. 0) i t) v) 0 q.answers
colours (suc n) q v = next q (colours n q) v

-- ---- the key: answer terms and atoms, with the colours after two rounds

unfoldable pub key_by : Query → (Term → ℕ) → ℕ
key_by q s = along (mix_answer s) 0 q.answers + total (mix_atom s) q.atoms

unfoldable pub key : Query → ℕ
key q = key_by q (colour_by (colours 2 q))
