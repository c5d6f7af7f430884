-- What a replacement of variables in words holds. 01: "the most general such replacement is made in atoms and answer terms alike".
use Rattle.std.specs.Prelude.{ℕ, ◌<◌, ltb, get_or, Option, Some, None}
use Rattle.std.proofs.Math.Option.{Option as Maybe, none, some}
use Rattle.theory.specs.Lists.{pick}
use Rattle.theory.specs.Syntax.{Term, var}
use Rattle.words.specs.Records.{term_of}
use Rattle.words.specs.Limits.{word_term_bound}
use Rattle.words.specs.Words.{word_term, LowTerm}
use Rattle.query_substitution.specs.declared.Substitution.{Substitution}

-- the word of an object or of one of the variables 0 to 31
pub record SmallTerm (w : ℕ) : Type 0 where
  pub word : w < word_term_bound
  pub low : LowTerm w

-- where a replacement sends a variable: the word at its place is that of a term; from 32 on a variable is kept
unfoldable pub subst_of : Substitution → ℕ → Term
unfolding term_of
subst_of s v = pick (ltb v 32) (word_term (get_or s.to v 0)) (var v)

-- every place has the word of an object or of one of those variables
abbrev pub SmallTargets : Substitution → Type 0
SmallTargets s = (k : ℕ) → SmallTerm (get_or s.to k 0)

-- the replacement that makes the terms equal that were to be, if they could be
abbrev pub unifier_of : Option Substitution → Maybe (ℕ → Term)
unifier_of (Some s) = some (subst_of s)
unifier_of None = none
