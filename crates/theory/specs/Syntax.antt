-- What the sheets say once they are read (01, "Sheets" and "Reciprocal names"): terms, atoms, rules, queries, unions, facts,
-- and the things that a chase round speaks of.
use Rattle.std.specs.Prelude.{ℕ, Bool, true, false, ◌&&◌, List, [], ◌∷◌, ◌++◌, eqb}

-- 01: term, "0 for variable or 1 for object, then a 16-bit number"
pub data Term : Type 0 where
  var : ℕ → Term
  const : ℕ → Term

-- An atom over X: over terms in a query, over objects in a fact, over things in a chase round. A concept atom has one place:
-- the zero bits that follow its term on a sheet are no term.
pub data Atom (X : Type 0) : Type 0 where
  concept : ℕ → X → Atom X
  role : ℕ → X → X → Atom X

-- 01: description. "Form 0 is a concept name, form 1 'has the role to something', form 2 'something has the role to it'"
pub data Basic : Type 0 where
  named : ℕ → Basic
  has : ℕ → Basic
  has_inverse : ℕ → Basic

-- A rule as read. Kind 1 "says that each bearer of the left description bears the right one". Kind 2 "says that the left role
-- implies the right role"; the Boolean is true where the arguments are exchanged.
pub data Rule : Type 0 where
  concept_inclusion : Basic → Basic → Rule
  role_inclusion : ℕ → Bool → ℕ → Rule

-- 01: question. A conjunctive query: its answer terms in order, and its atoms.
pub record Query : Type 0 where
  pub answers : List Term
  pub atoms : List (Atom Term)

-- 01: step. "Step: kind 2, parent 10, atom 4, other 16. [..] All indices start at 0."
pub record Step : Type 0 where
  pub kind : ℕ
  pub parent : ℕ
  pub atom : ℕ
  pub other : ℕ

-- 01: member, "a step of 32 bits, then a question"; a union is a list of members
pub record Member : Type 0 where
  pub step : Step
  pub query : Query

abbrev pub UCQ : Type 0
UCQ = List Member

-- 01: fact
abbrev pub Fact : Type 0
Fact = Atom ℕ

-- 01: thing. An object, or "an unnamed thing fixed by rule index and bearer"; "unnamed things differ from all objects, and from
-- each other unless both rule and bearer agree", as constructors do.
pub data Thing : Type 0 where
  object : ℕ → Thing
  null : ℕ → Thing → Thing

-- ---- what stands where

module _ {X : Type 0} where
  -- the places of an atom, in order
  abbrev pub args : Atom X → List X
  args (concept A x) = x ∷ []
  args (role P x y) = x ∷ y ∷ []

  -- all places of a list of atoms
  abbrev pub places : List (Atom X) → List X
  places [] = []
  places (a ∷ rest) = args a ++ places rest

-- every term that stands in a query, in its answer terms or its atoms
abbrev pub terms : Query → List Term
terms q = q.answers ++ places q.atoms

-- ---- maps

module _ {X Y : Type 0} where
  abbrev pub map_atom : (X → Y) → Atom X → Atom Y
  map_atom f (concept A x) = concept A (f x)
  map_atom f (role P x y) = role P (f x) (f y)

-- Where a term goes: variables by a map, objects to themselves. X is Term for a substitution, Thing for a match.
abbrev pub send : {X : Type 0} → (ℕ → X) → (ℕ → X) → Term → X
send self h (var v) = h v
send self h (const c) = self c

-- a substitution of variables by terms, and a renaming of variables, on a term
abbrev pub subst_term : (ℕ → Term) → Term → Term
subst_term σ = send const σ

abbrev pub rename : (ℕ → ℕ) → Term → Term
rename f = send const (λ v. var (f v))

-- a match on a term
abbrev pub value : (ℕ → Thing) → Term → Thing
value h = send object h

-- The description B of x, with y where it says "something"; a concept name leaves y out.
abbrev pub instance : {X : Type 0} → Basic → X → X → Atom X
instance (named A) x y = concept A x
instance (has P) x y = role P x y
instance (has_inverse P) x y = role P y x

-- the role P from x to y, or from y to x where the arguments are exchanged
abbrev pub oriented : {X : Type 0} → Bool → ℕ → X → X → Atom X
oriented false P x y = role P x y
oriented true P x y = role P y x

-- ---- equality, as tests

unfoldable pub same_term : Term → Term → Bool
same_term (var u) (var v) = eqb u v
same_term (var u) (const d) = false
same_term (const c) (var v) = false
same_term (const c) (const d) = eqb c d

-- one predicate, and a test on the terms, place by place. A predicate is kind and number: concept 5 and role 5 are two.
unfoldable pub on_atoms : {X Y : Type 0} → (X → Y → Bool) → Atom X → Atom Y → Bool
on_atoms test (concept A x) (concept B y) = eqb A B && test x y
on_atoms test (concept A x) (role Q y y') = false
on_atoms test (role P x x') (concept B y) = false
on_atoms test (role P x x') (role Q y y') = eqb P Q && test x y && test x' y'

unfoldable pub same_atom : Atom Term → Atom Term → Bool
unfolding on_atoms same_term
same_atom = on_atoms same_term
