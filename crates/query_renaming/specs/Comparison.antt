-- What the search for a renaming knows of its arguments, and what it has to do with renamings.
use Rattle.std.specs.Prelude.{◌≡◌, ℕ, ◌≤◌, ◌<◌, Bool, true, false, List, T, replicate}
use Rattle.theory.specs.Lists.{◌∈◌}
use Rattle.theory.specs.Syntax.{var, Query, terms}
use Rattle.theory.specs.Renaming.{Alike, promising}
use Rattle.theory.specs.Targets.{places, no_target, target_at, Targets}
use Rattle.theory.specs.Laws.Targets.{Precedes}
use Rattle.words.specs.Words.{query_of}
use Rattle.query_sets.specs.Sets.{holds}
use Rattle.query_partial.specs.Partial.{entry, may_become, Apart}
use Rattle.query_partial.specs.declared.Partial.{Partial}
use Rattle.query_renaming.specs.declared.compared.Compared.{Compared}

-- m sends the variables of p below n, no two to one target; what is no variable of p it does not send, and from n on nothing
pub record Begun (p : Query) (n : ℕ) (m : Partial) : Type 0 where
  pub sent : (v : ℕ) → v < n → var v ∈ terms p → entry m v ≡ 32 → ⊥
  pub unsent : (v : ℕ) → v < 32 → (var v ∈ terms p → ⊥) → entry m v ≡ 32
  pub left : (v : ℕ) → n ≤ v → v < 32 → entry m v ≡ 32
  pub one_to_one : Apart m

-- the renaming goes on from m: it sends each variable of p that is assigned to its entry, and one of these to each target taken
pub record Follows (p q : Query) (m : Partial) (r : Alike p q) : Type 0 where
  pub goes : (v : ℕ) → var v ∈ terms p → (entry m v ≡ 32 → ⊥) → r.to v ≡ entry m v
  pub comes : (w : ℕ) → T (holds m.taken w) → (v : ℕ) × (var v ∈ terms p) × (entry m v ≡ 32 → ⊥) × (r.to v ≡ w)

-- a renaming of the two queries
abbrev pub RenamingOf : Compared → Type 0
RenamingOf s = Alike (query_of s.p) (query_of s.q)

abbrev pub GoesOn : (s : Compared) → Partial → RenamingOf s → Type 0
GoesOn s m r = Follows (query_of s.p) (query_of s.q) m r

-- where a renaming that goes on from m sends v to w the answer is yes, and where it is yes w is not taken
pub record Offers (s : Compared) (m : Partial) (v w : ℕ) (b : Bool) : Type 0 where
  pub offers : (r : RenamingOf s) → GoesOn s m r → r.to v ≡ w → b ≡ true
  pub untaken : b ≡ true → holds m.taken w ≡ false

-- where a renaming goes on from m, the answer is yes
pub record Allows (s : Compared) (m : Partial) (b : Bool) : Type 0 where
  pub allows : (r : RenamingOf s) → GoesOn s m r → b ≡ true

-- and where it is yes, m is promising
pub record Judges (s : Compared) (m : Partial) (b : Bool) : Type 0 where
  pub promises : b ≡ true → promising (may_become m) (query_of s.p) (query_of s.q) ≡ true
  pub permits : Allows s m b

-- The targets that the search hands back, going on from m: where a renaming goes on from m there are some, and then they are those of a
-- renaming that goes on from m, than which none that does goes lower. Where there are none, every place holds 32.
pub record Completes (s : Compared) (m : Partial) (b : Bool) (targets : List ℕ) : Type 0 where
  pub complete : (r : RenamingOf s) → GoesOn s m r → b ≡ true
  pub fits : b ≡ true → Targets (query_of s.p) (query_of s.q) targets
  pub goes : b ≡ true → (v : ℕ) → var v ∈ terms (query_of s.p) → (entry m v ≡ 32 → ⊥) → target_at targets v ≡ entry m v
  pub least : b ≡ true → (r : RenamingOf s) → GoesOn s m r → Precedes (query_of s.p) (target_at targets) r.to
  pub no_targets : b ≡ false → targets ≡ replicate places no_target
