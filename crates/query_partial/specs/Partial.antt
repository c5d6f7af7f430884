-- A renaming in the making as the search keeps it: 32 entries, that of a variable being where it goes or 32, and the set of the
-- targets taken.
use Rattle.std.specs.Prelude.{◌≡◌, ℕ, ◌^◌, ◌<◌, Bool, true, false, not, ◌||◌, T, eqb, length, get_or, set}
use Rattle.theory.specs.Lists.{pick}
use Rattle.theory.specs.Syntax.{Term, var, const, Atom, on_atoms}
use Rattle.words.specs.Words.{word_atom}
use Rattle.query_sets.specs.Sets.{holds}
use Rattle.query_partial.specs.declared.Partial.{Partial}

-- where v goes; 32 is nowhere yet
abbrev pub entry : Partial → ℕ → ℕ
entry m v = get_or m.to v 0

-- a term of the first query may still become one of the second: v goes to w already, or neither is assigned; so partly assigned
-- atoms count
unfoldable pub may_become : Partial → Term → Term → Bool
unfolding holds
may_become m (var v) (var w) = pick (eqb (entry m v) 32) (not (holds m.taken w)) (eqb (entry m v) w)
may_become m (var v) (const d) = false
may_become m (const c) (var w) = false
may_become m (const c) (const d) = eqb c d

-- n is m with v, which has an entry, sent to w
pub record Sends (m : Partial) (v w : ℕ) (n : Partial) : Type 0 where
  pub within : v < length m.to
  pub low : w < 32
  pub entries : n.to ≡ set m.to v w
  pub targets : (u : ℕ) → holds n.taken u ≡ (eqb u w || holds m.taken u)

-- m sends no two variables to one target, and the targets are taken
pub record Apart (m : Partial) : Type 0 where
  pub long : length m.to ≡ 32
  pub apart : (u v : ℕ) → u < 32 → v < 32 → (entry m u ≡ 32 → ⊥) → entry m u ≡ entry m v → u ≡ v
  pub taken : (v : ℕ) → v < 32 → (entry m v ≡ 32 → ⊥) → T (holds m.taken (entry m v))

-- what a test on the words of atoms may answer is what the test on atoms says
abbrev pub Decides : (Atom Term → Bool) → (ℕ → Bool → Type 0) → Type 0
Decides passes answers = (a : ℕ) (b : Bool) → a < 2 ^ 64 → answers a b → b ≡ passes (word_atom a)

-- the atoms have one predicate, which is kind and number
unfoldable pub same_predicate : Atom Term → Atom Term → Bool
unfolding on_atoms
same_predicate = on_atoms (λ s t. true)
