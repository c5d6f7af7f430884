-- Words of facts, bit for bit: two of them are one fact exactly where they are one number.
use Rattle.std.specs.Prelude.{◌≡◌, ℕ, ◌/◌, ◌*◌, ◌+◌, ◌^◌, ◌<◌}
use Rattle.std.proofs.Common.{sym, ◌∙◌, arith, eq-eqb, ne_eqb}
use Rattle.std.proofs.Math.Decide.{ℕ_discrete}
use Rattle.theory.specs.Syntax.{concept, role}
use Rattle.words.specs.FactWords.{FactWord}
use Rattle.words.specs.Limits.{word_width}
use Rattle.words.specs.Records.{fact_kind, fact_zeros, fact_name, fact_first, fact_second, fact_of}
use Rattle.words.specs.Words.{word_fact}

-- the fact in a word, by its kind
concept_fact : (f : ℕ) → fact_kind word_width f ≡ 0 → word_fact f ≡ concept (fact_name word_width f) (fact_first word_width f)
unfolding fact_of
concept_fact f e = rw (eq-eqb (fact_kind word_width f) 0 e)

role_fact : (f : ℕ) → (fact_kind word_width f ≡ 0 → ⊥)
    → word_fact f ≡ role (fact_name word_width f) (fact_first word_width f) (fact_second word_width f)
unfolding fact_of
role_fact f e = rw (ne_eqb (fact_kind word_width f) 0 e)

-- a word by its fields, from the last to the first
by_fields : (f : ℕ) → f < 2 ^ 64
    → f ≡ fact_kind word_width f * 2 ^ 63 + fact_zeros word_width f * 2 ^ 60 + fact_name word_width f * 2 ^ 48
    + fact_first word_width f * 2 ^ 24 + fact_second word_width f
by_fields f h =
    together f (f / 2 ^ 24) (f / 2 ^ 48) (f / 2 ^ 60) (f / 2 ^ 63) (fact_kind word_width f) (fact_zeros word_width f)
    (fact_name word_width f)
    (fact_first word_width f) (fact_second word_width f) (omega arith) (omega arith) (omega arith) (omega arith) (omega arith)
  where
    together : (f a b c d k z n x y : ℕ) → f ≡ a * 2 ^ 24 + y → a ≡ b * 2 ^ 24 + x → b ≡ c * 2 ^ 12 + n → c ≡ d * 2 ^ 3 + z → d ≡ k
        → f ≡ k * 2 ^ 63 + z * 2 ^ 60 + n * 2 ^ 48 + x * 2 ^ 24 + y
    together f a b c d k z n x y e₁ e₂ e₃ e₄ e₅ = omega arith

module _ (f g : ℕ) (hf : f < 2 ^ 64) (hg : g < 2 ^ 64) (wf : FactWord f) (wg : FactWord g) where
  same_fields : fact_kind word_width f ≡ fact_kind word_width g → fact_name word_width f ≡ fact_name word_width g
      → fact_first word_width f ≡ fact_first word_width g → fact_second word_width f ≡ fact_second word_width g → f ≡ g
  same_fields k n a b =
      let z : fact_zeros word_width f ≡ fact_zeros word_width g = wf.zeros ∙ sym wg.zeros in
      by_fields f hf ∙ rw (k, z, n, a, b) (sym (by_fields g hg))

  pub one_word : word_fact f ≡ word_fact g → f ≡ g
  one_word e =
      elim (ℕ_discrete (fact_kind word_width f) 0) [
        | yes k ↦ elim (ℕ_discrete (fact_kind word_width g) 0) [
          | yes l ↦ (let d : concept (fact_name word_width f) (fact_first word_width f)
              ≡ concept (fact_name word_width g) (fact_first word_width g)
              = sym (concept_fact f k) ∙ e ∙ concept_fact g l in
              same_fields (k ∙ sym l) (cc) (cc) (wf.empty k ∙ sym (wg.empty l)))
          | no l ↦ absurd (let d = sym (concept_fact f k) ∙ e ∙ role_fact g l in let z : ◌≡◌ {A = ℕ} 0 1 = cc in omega arith)
        ]
        | no k ↦ elim (ℕ_discrete (fact_kind word_width g) 0) [
          | yes l ↦ absurd (let d = sym (role_fact f k) ∙ e ∙ concept_fact g l in let z : ◌≡◌ {A = ℕ} 0 1 = cc in omega arith)
          | no l ↦ (let d = sym (role_fact f k) ∙ e ∙ role_fact g l in
              same_fields (omega arith) (cc) (cc) (cc))
        ]
      ]
