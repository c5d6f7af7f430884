-- What a rule makes of an atom, in words, and what is known of the atom that it makes.
use Rattle.std.specs.Prelude.{◌≡◌, refl, ℕ, Bool, false, eqb, Option, Some, None}
use Rattle.std.proofs.Common.{sym, inl, inr, arith}
use Rattle.std.proofs.Math.Option.{Option as Maybe, none, some}
use Rattle.theory.specs.Syntax.{
  Term,
  var,
  Atom,
  concept,
  role,
  Basic,
  named,
  has,
  has_inverse,
  Rule,
  concept_inclusion,
  role_inclusion,
  Query,
}
use Rattle.theory.specs.Rewriting.{fresh, rewrite_atom}
use Rattle.theory.specs.Laws.Rules.{Within}
use Rattle.theory.proofs.Laws.Rules.{rewrite_image}
use Rattle.words.specs.Records.{left_form, left_name, right_form, right_name, basic_of}
use Rattle.words.specs.Words.{query_of, Small, word_term, word_atom, LowAtom}
use Rattle.words.specs.declared.QueryWords.{QueryWords}
use Rattle.query_variables.specs.FreshVariable.{fresh_low}

-- the term of a word, and the atom of one, if one was found
abbrev pub term_found : Option ℕ → Maybe Term
term_found (Some t) = some (word_term t)
term_found None = none

abbrev pub atom_found : Option ℕ → Maybe (Atom Term)
atom_found (Some a) = some (word_atom a)
atom_found None = none

-- the descriptions of a rule of kind 1
abbrev pub left_of : ℕ → Basic
left_of rule = basic_of (left_form rule) (left_name rule)

abbrev pub right_of : ℕ → Basic
right_of rule = basic_of (right_form rule) (right_name rule)

-- whether the rule's right side has the atom's predicate, which is kind and number
unfoldable pub names : Rule → Atom Term → Bool
names (concept_inclusion left (named A)) (concept B t) = eqb A B
names (concept_inclusion left (named A)) (role Q t u) = false
names (concept_inclusion left (has P)) (concept B t) = false
names (concept_inclusion left (has P)) (role Q t u) = eqb P Q
names (concept_inclusion left (has_inverse P)) (concept B t) = false
names (concept_inclusion left (has_inverse P)) (role Q t u) = eqb P Q
names (role_inclusion left exchanged P) (concept B t) = false
names (role_inclusion left exchanged P) (role Q t u) = eqb P Q

-- a rule whose right side has another predicate does not fit
pub unnamed_none : (q : Query) (r : Rule) (a : Atom Term) → names r a ≡ false → none ≡ rewrite_atom q r a
unfolding names rewrite_atom
unnamed_none q (concept_inclusion left (named A)) (concept B t) e = rw e
unnamed_none q (concept_inclusion left (named A)) (role Q t u) e = refl
unnamed_none q (concept_inclusion left (has P)) (concept B t) e = refl
unnamed_none q (concept_inclusion left (has P)) (role Q t u) e = rw e
unnamed_none q (concept_inclusion left (has_inverse P)) (concept B t) e = refl
unnamed_none q (concept_inclusion left (has_inverse P)) (role Q t u) e = rw e
unnamed_none q (role_inclusion left exchanged P) (concept B t) e = refl
unnamed_none q (role_inclusion left exchanged P) (role Q t u) e = rw e

-- an atom that a rule makes has no other terms than the atom before and the fresh variable
pub made_within : (q : Query) (r : Rule) (a b : Atom Term) → some b ≡ rewrite_atom q r a → Within q a b
made_within q r a b e = (rewrite_image q q (λ t. t) (λ t. t) (λ t u. u) refl r a b (λ t m. refl) (sym e)).1

-- so its variables are 0 to 31 where those of the atom before are
pub made_low : (q : QueryWords) (r : Rule) (a w : ℕ) → Small q → some (word_atom w) ≡ rewrite_atom (query_of q) r (word_atom a)
    → LowAtom a → LowAtom w
made_low q r a w s e low v m =
    elim (made_within (query_of q) r (word_atom a) (word_atom w) e (var v) m) [
      | inl n ↦ low v n
      | inr d ↦ (let f : v ≡ fresh (query_of q) = cc in omega (arith, fresh_low q s))
    ]
