-- An answer of a step's result is one of the query: a round later for a rule, in the same round for a merge.
use Rattle.std.specs.Prelude.{◌≡◌, refl, List, set}
use Rattle.std.proofs.Common.{sym, ◌∙◌, subst, inl, inr}
use Prim.Native.Nat.{ℕ, suc}
use Rattle.std.proofs.Math.Decide.{ℕ_discrete}
use Rattle.std.proofs.Math.Option.{some}
use Rattle.theory.specs.Lists.{At}
use Rattle.theory.specs.Syntax.{Term, Atom, Rule, Query, Fact, Thing, object, map_atom, value, subst_term}
use Rattle.theory.specs.Chase.{Held, Concludes, Round, Answer}
use Rattle.theory.specs.Rewriting.{rewrite_atom, substitute, change_atom, rule_step, merge_step}
use Rattle.theory.specs.Laws.Lists.{mem_at, at_mem, at_equal, map_agree, set_at, set_elsewhere}
use Rattle.theory.proofs.Laws.Syntax.{send_subst, mem_keep_once, mem_substitute}
use Rattle.theory.proofs.Laws.Steps.{rule_step_iff, merge_step_iff}
use Rattle.theory.proofs.Laws.Rules.{rewrite_concludes, Concluded}
use Rattle.theory.proofs.Laws.Chase.{answer_through}

-- ---- merges

-- the match after the substitution
pub substitute_sound : (H : Held) (q : Query) (σ : ℕ → Term) (tuple : List ℕ) → Answer H (substitute σ q) tuple → Answer H q tuple
unfolding substitute
substitute_sound H q σ tuple w =
    answer_through H q (substitute σ q) (subst_term σ) (λ v. value w.match (σ v)) tuple (λ a m. mem_substitute σ q m) refl w
    (send_subst object w.match σ)

pub merge_sound : (H : Held) (q r : Query) (i j : ℕ) (tuple : List ℕ) → merge_step q i j ≡ some r → Answer H r tuple → Answer H q tuple
merge_sound H q r i j tuple e w =
    let s = (merge_step_iff q i j r).0 e in substitute_sound H q s.3 tuple (subst (λ p. Answer H p tuple) (sym s.7) w)

-- ---- rules

-- from one held set to another that has all of it, and what the rule concludes from it
module _ (H H' : Held) (more : (a : Atom Thing) → H a → H' a) (q : Query) where
  -- the atom at i is concluded, the others held already
  change_sound : (i k : ℕ) (ρ : Rule) (a b : Atom Term) (tuple : List ℕ) → ((c : Atom Thing) → Concludes H k ρ c → H' c)
      → At q.atoms i a → rewrite_atom q ρ a ≡ some b → Answer H (change_atom q i b) tuple → Answer H' q tuple
  unfolding change_atom
  change_sound i k ρ a b tuple concluded ati e w = record {
    match = c.0;
    holds = λ x m. let j = mem_at m in atom x j.0 j.1 (ℕ_discrete j.0 i);
    sends = map_agree (value c.0) (value h) q.answers c.2 ∙ w.sends;
  }
    where
      h : ℕ → Thing
      h = w.match

      c : Concluded q H i k ρ a h
      c =
          rewrite_concludes q H i k ρ a b h ati e
          (w.holds b (mem_keep_once (at_mem (set q.atoms i b) i (set_at q.atoms i b ati))))

      atom : (x : Atom Term) (j : ℕ) → At q.atoms j x → Dec (j ≡ i) → H' (map_atom (value c.0) x)
      atom x j atj (yes d) =
          concluded (map_atom (value c.0) x)
          (subst (λ y. Concludes H k ρ (map_atom (value c.0) y)) (at_equal q.atoms (sym d) ati atj) c.1)
      atom x j atj (no d) =
          more (map_atom (value c.0) x) (subst H (sym (c.3 j x atj d))
          (w.holds x (mem_keep_once (at_mem (set q.atoms i b) j (set_elsewhere q.atoms i j b d ∙ atj)))))

  -- an answer of the rule step's result from the one is an answer of the query from the other
  pub rule_sound_from : (rules : List Rule) (r : Query) (i k : ℕ) (tuple : List ℕ)
      → ((ρ : Rule) → At rules k ρ → (a : Atom Thing) → Concludes H k ρ a → H' a) → rule_step rules q i k ≡ some r
      → Answer H r tuple → Answer H' q tuple
  rule_sound_from rules r i k tuple concluded e w =
      let s = (rule_step_iff rules q i k r).0 e in
      change_sound i k s.0 s.1 s.2 tuple (concluded s.0 s.3) s.4 s.5 (subst (λ p. Answer H p tuple) (sym s.6) w)

-- from one round to the next
pub rule_sound : (rules : List Rule) (facts : List Fact) (n : ℕ) (q r : Query) (i k : ℕ) (tuple : List ℕ) → rule_step rules q i k ≡ some r
    → Answer (Round rules facts n) r tuple → Answer (Round rules facts (suc n)) q tuple
rule_sound rules facts n q r i k tuple =
    rule_sound_from (Round rules facts n) (Round rules facts (suc n)) (λ a h. inl h) q rules r i k tuple (λ ρ at a c. inr (k, ρ, at, c))
