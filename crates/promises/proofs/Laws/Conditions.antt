-- One list of conditions after another, and one more at its end.
use Rattle.std.specs.Prelude.{◌≡◌, ◌⊎◌, ◌↔◌, ℕ, Bool, List, [], ◌∷◌, ◌++◌}
use Rattle.std.proofs.Math.Path.{refl, subst}
use Rattle.std.proofs.Common.{sym, ap, ◌∙◌}
use Rattle.std.proofs.Math.Logic.{inl, inr}
use Rattle.std.proofs.Math.Bool.{true, false}
use Rattle.std.proofs.Math.Option.{Option, none, some, or_else}
use Rattle.std.proofs.Math.Dec.{T}
use Rattle.theory.specs.Lists.{guard}
use Rattle.theory.specs.Refusals.{number_of, First, NoneHolds, DecidedBy}
use Rattle.theory.specs.Laws.Options.{none≢some, some_inj}

-- the first of two lists of conditions, one after the other
pub first_both : (cs ds : List {1} (ℕ × Type 0)) (n : ℕ) → First (cs ++ ds) n ↔ (First cs n ⊎ (NoneHolds cs × First ds n))
first_both [] ds n = (λ h. inr (tt, h), elim [ inl h ↦ absurd h | inr h ↦ h.1 ])
first_both (c ∷ cs) ds n =
    let rest = first_both cs ds n in (
      elim [
        | inl h ↦ inl (inl h)
        | inr h ↦ elim (rest.0 h.1) [ inl k ↦ inl (inr (h.0, k)) | inr k ↦ inr ((h.0, k.0), k.1) ]
      ],
      elim [
        | inl (inl h) ↦ inl h
        | inl (inr h) ↦ inr (h.0, rest.1 (inl h.1))
        | inr h ↦ inr (h.0.0, rest.1 (inr (h.0.1, h.1)))
      ],
    )

pub none_both : (cs ds : List {1} (ℕ × Type 0)) → NoneHolds (cs ++ ds) ↔ (NoneHolds cs × NoneHolds ds)
none_both [] ds = (λ h. (tt, h), λ h. h.1)
none_both (c ∷ cs) ds =
    let rest = none_both cs ds in (
      λ h. let k = rest.0 h.1 in ((h.0, k.0), k.1),
      λ h. (h.0.0, rest.1 (h.0.1, h.1)),
    )

-- one number at most is that of the first condition that holds
first_one : (cs : List {1} (ℕ × Type 0)) (m n : ℕ) → First cs m → First cs n → m ≡ n
first_one [] m n h k = absurd h
first_one (c ∷ cs) m n (inl h) (inl k) = sym h.0 ∙ k.0
first_one (c ∷ cs) m n (inl h) (inr k) = absurd (k.0 h.1)
first_one (c ∷ cs) m n (inr h) (inl k) = absurd (h.0 k.1)
first_one (c ∷ cs) m n (inr h) (inr k) = first_one cs m n h.1 k.1

-- and then some condition holds
first_holds : (cs : List {1} (ℕ × Type 0)) (n : ℕ) → First cs n → ¬ NoneHolds cs
first_holds [] n h f = h
first_holds (c ∷ cs) n (inl h) f = f.0 h.1
first_holds (c ∷ cs) n (inr h) f = first_holds cs n h.1 f.1

-- so one number is decided
pub decides_one : (cs : List {1} (ℕ × Type 0)) (m n : ℕ) → DecidedBy cs m → DecidedBy cs n → m ≡ n
decides_one cs m n (inl h) (inl k) = first_one cs m n h k
decides_one cs m n (inl h) (inr k) = absurd (first_holds cs m h k.1)
decides_one cs m n (inr h) (inl k) = absurd (first_holds cs n k h.1)
decides_one cs m n (inr h) (inr k) = h.0 ∙ sym k.0

-- a number that is a refusal's by one list of conditions, and where that refuses nothing one decided by another
pub decides_behind : (cs ds : List {1} (ℕ × Type 0)) (o : Option ℕ) → ((n : ℕ) → (o ≡ some n) ↔ First cs n) → (o ≡ none) ↔ NoneHolds cs
    → (number_of o ≡ 0) ↔ (o ≡ none) → (n : ℕ) → (¬ (number_of o ≡ 0) → n ≡ number_of o) → (number_of o ≡ 0 → DecidedBy ds n)
    → DecidedBy (cs ++ ds) n
unfolding number_of
decides_behind cs ds none refused passed zero n stops goes_on =
    elim (goes_on refl) [
      | inl h ↦ inl ((first_both cs ds n).1 (inr (passed.0 refl, h)))
      | inr h ↦ inr (h.0, (none_both cs ds).1 (passed.0 refl, h.1))
    ]
decides_behind cs ds (some m) refused passed zero n stops goes_on =
    let e : n ≡ m = stops (λ z. none≢some (sym (zero.0 z))) in inl ((first_both cs ds n).1 (inl ((refused n).0 (ap some (sym e)))))

-- a refusal by one list of conditions, and else by another
pub with_more : (cs ds : List {1} (ℕ × Type 0)) (o o' : Option ℕ) → ((n : ℕ) → (o ≡ some n) ↔ First cs n) → (o ≡ none) ↔ NoneHolds cs
    → ((n : ℕ) → (o' ≡ some n) ↔ First ds n) → (n : ℕ) → (or_else o o' ≡ some n) ↔ First (cs ++ ds) n
unfolding or_else
with_more cs ds none o' refused passed later n = (
  λ e. (first_both cs ds n).1 (inr (passed.0 refl, (later n).0 e)),
  λ h. elim ((first_both cs ds n).0 h) [ inl k ↦ absurd (none≢some ((refused n).1 k)) | inr k ↦ (later n).1 k.1 ],
)
with_more cs ds (some m) o' refused passed later n = (
  λ e. (first_both cs ds n).1 (inl ((refused n).0 e)),
  λ h. elim ((first_both cs ds n).0 h) [ inl k ↦ (refused n).1 k | inr k ↦ absurd (none≢some (sym (passed.1 k.0))) ],
)

-- A refusal by a list of conditions, and else one more by a test: what it says of the list with the last condition behind it. The test need
-- decide its condition only where the list's refusals do not apply.
module _ (conditions : List {1} (ℕ × Type 0)) (o : Option ℕ) (refused : (n : ℕ) → (o ≡ some n) ↔ First conditions n) (passed : (o ≡ none)
    ↔ NoneHolds conditions)
    (last : ℕ) (b : Bool) (Last : Type 0) (decides : o ≡ none → T b ↔ Last) where
  pub with_last : (n : ℕ) → (or_else o (guard b last) ≡ some n) ↔ First (conditions ++ ((last, Last) ∷ [])) n
  unfolding or_else
  with_last n = (
    λ e. (first_both conditions ((last, Last) ∷ []) n).1 (to o refl b refl e),
    λ h. from ((first_both conditions ((last, Last) ∷ []) n).0 h),
  )
    where
      to : (p : Option ℕ) → p ≡ o → (c : Bool) → c ≡ b → or_else p (guard c last) ≡ some n
          → First conditions n ⊎ (NoneHolds conditions × First ((last, Last) ∷ []) n)
      to (some m) d c k e = inl ((refused n).0 (sym d ∙ e))
      to none d true k e = inr (passed.0 (sym d), inl (some_inj e, (decides (sym d)).0 (rw (← k) tt)))
      to none d false k e = absurd (none≢some e)

      from : (First conditions n ⊎ (NoneHolds conditions × First ((last, Last) ∷ []) n)) → or_else o (guard b last) ≡ some n
      from (inl h) = ap (λ p. or_else p (guard b last)) ((refused n).1 h)
      from (inr (h, inl (e, k))) = ap (λ p. or_else p (guard b last)) (passed.1 h) ∙ holds b ((decides (passed.1 h)).1 k) ∙ ap some e
        where
          holds : (c : Bool) → T c → guard c last ≡ some last
          holds true t = refl
          holds false t = absurd t
      from (inr (h, inr (k, f))) = absurd f

  pub none_with_last : (or_else o (guard b last) ≡ none) ↔ NoneHolds (conditions ++ ((last, Last) ∷ []))
  unfolding or_else
  none_with_last =
      (λ e. (none_both conditions ((last, Last) ∷ [])).1 (to o refl b refl e), λ h. from ((none_both conditions ((last, Last) ∷ [])).0 h))
    where
      to : (p : Option ℕ) → p ≡ o → (c : Bool) → c ≡ b → or_else p (guard c last) ≡ none
          → NoneHolds conditions × NoneHolds ((last, Last) ∷ [])
      to (some m) d c k e = absurd (none≢some (sym e))
      to none d true k e = absurd (none≢some (sym e))
      to none d false k e = (passed.0 (sym d), (λ h. subst T (sym k) ((decides (sym d)).1 h), tt))

      from : NoneHolds conditions × NoneHolds ((last, Last) ∷ []) → or_else o (guard b last) ≡ none
      from (h, (k, u)) = ap (λ p. or_else p (guard b last)) (passed.1 h) ∙ fails b (λ t. k ((decides (passed.1 h)).0 t))
        where
          fails : (c : Bool) → ¬ T c → ◌≡◌ {A = Option ℕ} (guard c last) none
          fails true t = absurd (t tt)
          fails false t = refl
