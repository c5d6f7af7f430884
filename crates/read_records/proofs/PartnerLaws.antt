-- What the code finds in the table of partners is what the definitions say.
use mathlib.Core.Path.{◌≡◌, refl, sym, ap, ◌∙◌, subst}
use Prim.Native.Nat.{ℕ, ◌<◌, ◌≤◌}
use mathlib.Core.List.{List, [], ◌∷◌}
use lib.Dec.{ltb}
use lib.ListN.{get_or}
use borrow.Author.Rules.{rules}
use borrow.Author.Tests.{lt-ltb, le-ltb}
use Rattle.theory.specs.Lists.{pick}
use Rattle.sheets.specs.Partners.{is_higher, lower, partners01}

pub is_higher_lem : (p : List ℕ) (role x : ℕ) → x ≡ get_or p role role → ltb x role ≡ is_higher p role
unfolding is_higher
is_higher_lem p role x e = ap (λ y. ltb y role) e

pub lower_partner : (p : List ℕ) (role x : ℕ) → x ≡ get_or p role role → x < role → x ≡ lower p role
unfolding lower
lower_partner p role x e h = e ∙ sym (ap (λ b. pick b (get_or p role role) role)
    (lt-ltb (get_or p role role) role (subst (λ y. y < role) e h)))

pub lower_itself : (p : List ℕ) (role x : ℕ) → x ≡ get_or p role role → role ≤ x → role ≡ lower p role
unfolding lower
lower_itself p role x e h = sym (ap (λ b. pick b (get_or p role role) role) (le-ltb (get_or p role role) role (subst (λ y. role ≤ y) e h)))

pub table01 : ◌≡◌ {A = List ℕ} (1 ∷ 0 ∷ 3 ∷ 2 ∷ 5 ∷ 4 ∷ 7 ∷ 6 ∷ 8 ∷ 9 ∷ 10 ∷ 11 ∷ 12 ∷ 13 ∷ 14 ∷ 15 ∷ []) partners01
unfolding partners01
table01 = refl

pub ruleset laws = (rules, is_higher_lem, lower_partner, lower_itself, table01)
