-- 02, T-03: "Two words without their second objects are equal exactly when kind, number and first object all are." Over the width w of an
-- object's number, for words whose three zero bits are zero.
use Rattle.std.specs.Prelude.{◌≡◌, ◌↔◌, ℕ, ◌+◌, ◌*◌, ◌^◌, ◌<◌, List}
use Rattle.std.proofs.Common.{sym, ap, ◌∙◌, arith}
use Rattle.words.specs.FactWords.{fact_head, fact_predicate, predicate_of, head_of, without, FactWords, ZeroBits}
use Rattle.words.specs.Laws.Fields.{field_split, field_below, both_equal}
use Rattle.words.specs.Limits.{word_width, word_object_bound}
use Rattle.words.specs.Records.{field, fact_kind, fact_zeros, fact_name, fact_first}

-- ---- the head is predicate and first object, the predicate kind and number

module _ (w f : ℕ) where
  pub head_parts : head_of w (fact_predicate w f) (fact_first w f) ≡ fact_head w f
  head_parts = ap (λ b. head_of w (field b 16 f) (fact_first w f)) two ∙ sym (field_split w 16 w f)
    where
      two : 2 * w ≡ w + w
      two = omega arith

  pub head_is : (predicate first : ℕ) → first < 2 ^ w
      → (head_of w predicate first ≡ fact_head w f) ↔ ((predicate ≡ fact_predicate w f) × (first ≡ fact_first w f))
  head_is predicate first fits =
      rw (← head_parts) (both_equal w predicate first (fact_predicate w f) (fact_first w f) fits (field_below w w f))

  module _ (zeros : fact_zeros w f ≡ 0) where
    predicate_parts : predicate_of (fact_kind w f) (fact_name w f) ≡ fact_predicate w f
    predicate_parts = ap (λ n. predicate_of (fact_kind w f) n) name_alone ∙ sym (field_split (2 * w) 1 15 f)
      where
        name_alone : fact_name w f ≡ field (2 * w) 15 f
        name_alone = sym (field_split (2 * w) 3 12 f ∙ ap (λ z. z * 2 ^ 12 + fact_name w f) zeros ∙ omega arith)

    pub predicate_is : (kind name : ℕ) → name < 2 ^ 12
        → (predicate_of kind name ≡ fact_predicate w f) ↔ ((kind ≡ fact_kind w f) × (name ≡ fact_name w f))
    predicate_is kind name fits =
        rw (← predicate_parts)
        (both_equal 15 kind name (fact_kind w f) (fact_name w f) (omega arith) (omega (arith, field_below (2 * w) 12 f)))

-- ---- 02's law

module _ (w f g : ℕ) (zf : fact_zeros w f ≡ 0) (zg : fact_zeros w g ≡ 0) where
  pub predicates_equal : (fact_predicate w f ≡ fact_predicate w g) ↔ ((fact_kind w f ≡ fact_kind w g) × (fact_name w f ≡ fact_name w g))
  predicates_equal =
      rw (← predicate_parts w f zf) (predicate_is w g zg (fact_kind w f) (fact_name w f) (field_below (2 * w) 12 f))

  pub heads_equal : (fact_head w f ≡ fact_head w g)
      ↔ ((fact_kind w f ≡ fact_kind w g) × (fact_name w f ≡ fact_name w g) × (fact_first w f ≡ fact_first w g))
  heads_equal = (
    λ e. (let h = split.0 e in let p = predicates_equal.0 h.0 in (p.0, p.1, h.1)),
    λ e. split.1 (predicates_equal.1 (e.0, e.1), e.2),
  )
    where
      split : (fact_head w f ≡ fact_head w g) ↔ ((fact_predicate w f ≡ fact_predicate w g) × (fact_first w f ≡ fact_first w g))
      split = rw (← head_parts w f) (head_is w g (fact_predicate w f) (fact_first w f) (field_below w w f))

-- ---- in the words that the code works on

-- without its second object, and without both
pub without_second : (f : ℕ) → without word_object_bound f ≡ fact_head word_width f
without_second f = omega arith

pub without_objects : (f : ℕ) → without (word_object_bound * word_object_bound) f ≡ fact_predicate word_width f
without_objects f = omega arith

-- what the reader of facts promises says so much
pub zero_bits : (table : List ℕ) (n : ℕ) → FactWords table n → ZeroBits table n
zero_bits table n h = record { each = λ i l. (h.each i l).zeros }
