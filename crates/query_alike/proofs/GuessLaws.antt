-- A guessed renaming that passes the test is one, the answer is that of the comparison, and queries with two keys have no renaming.
use mathlib.Core.Path.{◌≡◌, sym, ap, ◌∙◌, subst}
use Prim.Native.Nat.{ℕ, ◌+◌, ◌≤◌}
use native.Mathlib.Decide.{ℕ_discrete}
use native.Mathlib.Omega.{arith}
use mathlib.Core.Bool.{Bool, true, false, ◌&&◌}
use mathlib.Core.List.{List}
use lib.Dec.{T, eqb}
use lib.ListN.{replicate}
use borrow.Author.Rules.{rules}
use Rattle.theory.specs.Lists.{Unrepeated, any}
use Rattle.theory.specs.Syntax.{var, Query, terms, same_term}
use Rattle.theory.specs.Renaming.{Alike, promising, alike}
use Rattle.theory.specs.Targets.{places, no_target, HandedBack}
use Rattle.theory.specs.Laws.Options.{T_and, T_eqb, is_true}
use Rattle.theory.specs.Laws.Lists.{any_same}
use Rattle.theory.proofs.Laws.Spellings.{spellings}
use Rattle.theory.proofs.Laws.Syntax.{same_term_iff}
use Rattle.theory.proofs.Laws.RenamingDecided.{alike_iff}
use Rattle.theory.proofs.Laws.Targets.{found_alike, none_handed_back}
use Rattle.words.specs.Words.{query_of, Small}
use Rattle.words.specs.Laws.LowVariables.{atom_low}
use Rattle.words.specs.declared.QueryWords.{QueryWords}
use Rattle.query_sets.specs.Sets.{holds}
use Rattle.query_key.specs.Key.{key}
use Rattle.query_key.proofs.KeyLaws.{alike_key}
use Rattle.query_partial.specs.Partial.{entry, may_become, Sends, Apart}
use Rattle.query_partial.specs.SentLaws.{apart_next, apart_nothing, sent_renaming}
use Rattle.query_partial.specs.declared.Partial.{Partial}
use Rattle.query_alike.specs.Guess.{SentBelow, AllSent}

-- a no promises nothing
no_yes : {P : Type 0} → false ≡ true → P
no_yes e = absurd (subst T (sym e) tt)

pub no_targets : (p : Query) (m : Partial) → false ≡ true → AllSent p m
no_targets p m = no_yes

pub no_renaming : (p q : Query) → false ≡ true → Alike p q
no_renaming p q = no_yes

-- ---- a term is sent

pub apart_sent : (m n : Partial) (v w : ℕ) (b : Bool) → Apart m → b ≡ holds m.taken w → b ≡ false → Sends m v w n → Apart n
apart_sent m n v w b a e f s = apart_next m n v w s a (sym e ∙ f)

-- ---- every variable has a target

module _ (m : Partial) (set v : ℕ) (b : Bool) (e : b ≡ holds set v) where
  pub lacks_target : (c : Bool) → b ≡ true → c ≡ eqb (entry m v) 32 → c ≡ (holds set v && eqb (entry m v) 32)
  lacks_target c f h = simp (sym e, f, h)

  pub not_in_set : b ≡ false → false ≡ (holds set v && eqb (entry m v) 32)
  not_in_set f = simp (sym e, f)

pub sent_none : (m : Partial) (set : ℕ) → SentBelow set m 0
sent_none m set = record { sent_below = λ v h. absurd (omega arith) }

pub sent_more : (m : Partial) (set v : ℕ) (b : Bool) → b ≡ (holds set v && eqb (entry m v) 32) → b ≡ false → SentBelow set m v
    → SentBelow set m (v + 1)
sent_more m set v b e f s = record {
  sent_below = λ u l t z. elim (ℕ_discrete u v) [
    | yes d ↦ subst T (sym e ∙ f) ((T_and (holds set v) (eqb (entry m v) 32)).1
        (subst (λ k. T (holds set k)) d t, (T_eqb (entry m v) 32).1 (ap (entry m) (sym d) ∙ z)))
    | no d ↦ s.sent_below u (omega arith) t z
  ];
}

pub all_have_one : (p : QueryWords) (m : Partial) (set v : ℕ) → Small p
    → ((u : ℕ) → holds set u ≡ any (same_term (var u)) (terms (query_of p))) → 32 ≤ v → SentBelow set m v → AllSent (query_of p) m
all_have_one p m set v small h l s = record {
  all_sent = λ u i. s.sent_below u (let k = small.variables u i in omega arith)
      (subst T (sym (h u)) ((any_same same_term same_term_iff (var u) (terms (query_of p))).1 i));
}

-- ---- the test

pub is_renaming : (p q : QueryWords) (m : Partial) (a b : Bool) → Small p → Apart m → (a ≡ true → AllSent (query_of p) m) → a ≡ true
    → b ≡ promising (may_become m) (query_of p) (query_of q) → b ≡ true → Alike (query_of p) (query_of q)
is_renaming p q m a b small apart all e f g =
    (sent_renaming (query_of p) (query_of q) m small.variables apart
    (all e).all_sent (sym f ∙ g)).0

-- ---- the answer

pub yes_alike : (p q : Query) (b : Bool) → (b ≡ true → Alike p q) → b ≡ true → true ≡ alike p q
yes_alike p q b h e = sym (is_true (alike p q) ((alike_iff p q).1 (h e)))

-- ---- two keys

pub keys_differ : (p q : QueryWords) (x y : ℕ) (b : Bool) (t : List ℕ) → Unrepeated (query_of p).atoms → Unrepeated (query_of q).atoms
    → x ≡ key (query_of p) → y ≡ key (query_of q) → (x ≡ y → ⊥) → b ≡ false → t ≡ replicate places no_target
    → HandedBack (query_of p) (query_of q) b t
keys_differ p q x y b t up uq e f d =
    none_handed_back (query_of p) (query_of q) b t (λ r. d (e ∙ alike_key (query_of p) (query_of q) up uq r ∙ sym f))

pub ruleset laws = (
  rules,
  spellings,
  atom_low,
  no_targets,
  no_renaming,
  apart_sent,
  apart_nothing,
  lacks_target,
  not_in_set,
  sent_none,
  sent_more,
  all_have_one,
  is_renaming,
  yes_alike,
  found_alike,
  keys_differ,
)
