-- The variables among terms: all of them, ascending, each once.
use Rattle.std.specs.Prelude.{◌≡◌, refl, ℕ, ◌<◌, List, [], ◌∷◌, eqb, ltb}
use Rattle.std.proofs.Common.{sym, ap, ◌∙◌, subst, inl, inr, arith, ltb→lt, lt→ltb}
use mathlib.Core.List.Memᴰ
use Rattle.theory.specs.Lists.{◌∈◌, Unrepeated}
use Rattle.theory.specs.Syntax.{Term, var, const}
use Rattle.theory.specs.Renaming.{insert_var, variables}
use Rattle.theory.specs.Laws.Options.{T_eqb, three_ways, pick_true, pick_false}
use Rattle.theory.specs.Laws.Ascending.{Ascending, Inserts, ascending_unrepeated, insert_mem, mem_insert, insert_ascending}

-- a variable is put in front, nowhere, or further back
insert_var_inserts : Inserts ◌<◌ insert_var
unfolding insert_var
insert_var_inserts = (
  λ v. refl,
  λ v u us P first later there. elim (three_ways v u) [
    | inl l ↦ subst P (sym (pick_true (ltb v u) _ _ (lt→ltb v u l))) (first l)
    | inr (inl e) ↦ subst P (sym (pick_false (ltb v u) _ _ (λ t. let h = ltb→lt v u t in omega arith)
        ∙ pick_true (eqb v u) _ _ ((T_eqb v u).1 e))) (there e)
    | inr (inr l) ↦ subst P (sym (pick_false (ltb v u) _ _ (λ t. let h = ltb→lt v u t in omega arith)
        ∙ pick_false (eqb v u) _ _ (λ t. let h = (T_eqb v u).0 t in omega arith))) (later l)
  ],
)

-- the variables of terms are ascending, and they are exactly those that stand among the terms
pub variables_ascending : (ts : List Term) → Ascending ◌<◌ (variables ts)
unfolding variables
variables_ascending [] = tt
variables_ascending (var v ∷ ts) =
    insert_ascending ◌<◌ insert_var insert_var_inserts (λ x y z l k. omega arith) v (variables ts) (variables_ascending ts)
variables_ascending (const c ∷ ts) = variables_ascending ts

pub variables_unrepeated : (ts : List Term) → Unrepeated (variables ts)
variables_unrepeated ts = ascending_unrepeated ◌<◌ (λ x l. omega arith) (variables ts) (variables_ascending ts)

pub variables_mem : (ts : List Term) {v : ℕ} → v ∈ variables ts → var v ∈ ts
unfolding variables
variables_mem [] m = absurd (Memᴰ.not-nil m)
variables_mem (var u ∷ ts) m =
    elim (Memᴰ.cases_cons (insert_mem ◌<◌ insert_var insert_var_inserts u (variables ts) m)) [
      | inl e ↦ Memᴰ.head (ap var e)
      | inr n ↦ Memᴰ.tail (variables_mem ts n)
    ]
variables_mem (const c ∷ ts) m = Memᴰ.tail (variables_mem ts m)

pub mem_variables : (ts : List Term) {v : ℕ} → var v ∈ ts → v ∈ variables ts
unfolding variables
mem_variables [] m = absurd (Memᴰ.not-nil m)
mem_variables (var u ∷ ts) m =
    mem_insert ◌<◌ insert_var insert_var_inserts u (variables ts)
    (elim (Memᴰ.cases_cons m) [ inl e ↦ Memᴰ.head (cc) | inr n ↦ Memᴰ.tail (mem_variables ts n) ])
mem_variables (const c ∷ ts) m =
    elim (Memᴰ.cases_cons m) [ inl e ↦ absurd (let z : ◌≡◌ {A = ℕ} 0 1 = cc in omega arith) | inr n ↦ mem_variables ts n ]
