-- Whatever the question finds in some round, a member finds in round 0. A matched member whose atoms cost their rounds is
-- traded for one that costs less, by the steps under which the union is closed, until every atom costs nothing.
use Rattle.std.specs.Prelude.{◌≡◌, refl, ◌⊎◌, ◌≢◌, List, map, length, set}
use Rattle.std.proofs.Common.{sym, ap, ◌∙◌, inl, inr, le_refl, arith}
use Rattle.std.proofs.Math.Path.{subst}
use Prim.Native.Nat.{ℕ, zero, suc, ◌+◌, ◌*◌, ◌≤◌, ◌<◌}
use Rattle.std.proofs.Math.Decide.{ℕ_discrete}
use Rattle.std.proofs.Math.Option.{some}
use mathlib.Core.List.Memᴰ
use Rattle.theory.specs.Lists.{◌∈◌, At, Unrepeated}
use Rattle.theory.specs.Syntax.{Term, var, Atom, Rule, Query, Member, UCQ, Fact, Thing, object, null, map_atom, value, subst_term}
use Rattle.theory.specs.Syntax.{rename}
use Rattle.theory.specs.Chase.{Round, Answer, OfSomeMember}
use Rattle.theory.specs.Rewriting.{substitute, change_atom, merge_step, StepTo}
use Rattle.theory.specs.Renaming.{Alike}
use Rattle.theory.specs.Union.{Accepted, no_step}
use Rattle.theory.specs.Laws.Lists.{mem_at, at_mem, at_equal, at_unique, map_after, map_agree, set_at, drop_at, mem_drop_at, drop_at_mem}
use Rattle.theory.specs.Laws.Lists.{drop_at_set}
use Rattle.theory.proofs.Laws.Syntax.{map_atom_id, map_atom_agree, keep_once_mem, terms_atoms, terms_answers, map_args, substitute_mem}
use Rattle.theory.proofs.Laws.Syntax.{map_atom_after}
use Rattle.theory.proofs.Laws.Unbound.{bound_elsewhere}
use Rattle.theory.proofs.Laws.Unifier.{through_term, Unifies, unifies_equal, unifies_factors}
use Rattle.theory.proofs.Laws.Steps.{rule_step_iff, merge_step_either}
use Rattle.theory.proofs.Laws.Equivalence.{undo, term_undone, atom_undone}
use Rattle.theory.proofs.Laws.Rules.{concludes_rewritten, Rewritten, AtBound, Makes, makes_unique}
use Rattle.theory.proofs.Laws.Birth.{birth}
use Rattle.theory.specs.Laws.Budget.{Budget, Greatest, greatest_or_empty, budget_more, budget_map, budget_all, budget_at}
use Rattle.theory.specs.Laws.Budget.{budget_transfer, put_back}

module _ (rules : List Rule) (facts : List Fact) where
  -- the image of an atom under h holds in round n
  abbrev HoldsIn : (ℕ → Thing) → Atom Term → ℕ → Type 0
  HoldsIn h a n = Round rules facts n (map_atom (value h) a)

  -- a match of p that gives the tuple, and whose atoms' rounds add up to at most so many
  record Matched (p : Query) (tuple : List ℕ) (total : ℕ) : Type 0 where
    match : ℕ → Thing
    sends : map (value match) p.answers ≡ map object tuple
    cost : Budget (HoldsIn match) p.atoms total

  -- A query r alike to q: a match of r carries over, and costs no more. The atoms of r come from a list that has a budget.
  matched_alike : (r q : Query) (a : Alike r q) (tuple : List ℕ) (total : ℕ) (h : ℕ → Thing) (xs : List (Atom Term)) (s : Term → Term)
      → Unrepeated q.atoms → map (value h) r.answers ≡ map object tuple
      → ((b : Atom Term) → b ∈ r.atoms → (x : Atom Term) × (x ∈ xs) × (map_atom s x ≡ b))
      → Budget (λ x n. HoldsIn h (map_atom s x) n) xs total → Matched q tuple total
  matched_alike r q a tuple total h xs s u sends from b = record {
    match = h';
    sends = ap (map (value h')) (sym a.on_answers)
        ∙ map_after (value h') (rename a.to) (value h) r.answers (λ t m. term_undone r q a object h t (terms_answers r m)) ∙ sends;
    cost = budget_transfer (λ x n. HoldsIn h (map_atom s x) n) (HoldsIn h') From
        (λ x y n w held. subst (Round rules facts n) (image x y w) held)
        (λ x y z v w. sym v.3 ∙ ap (map_atom (rename a.to)) (sym v.2 ∙ w.2) ∙ w.3)
        xs q.atoms total u source b;
  }
    where
      h' : ℕ → Thing
      h' w = h (undo r q a w)

      -- the atom y of q is the renamed image of x
      From : Atom Term → Atom Term → Type 0
      From x y = (c : Atom Term) × (c ∈ r.atoms) × (map_atom s x ≡ c) × (map_atom (rename a.to) c ≡ y)

      image : (x y : Atom Term) → From x y → map_atom (value h) (map_atom s x) ≡ map_atom (value h') y
      image x y (c, m, e, f) =
          ap (map_atom (value h)) e
          ∙ sym (atom_undone r q a object h c m)
          ∙ ap (map_atom (value h')) f

      source : (y : Atom Term) → y ∈ q.atoms → (x : Atom Term) × (x ∈ xs) × From x y
      source y m = let (c, n, e) = a.onto y m in let (x, k, f) = from c n in (x, k, (c, n, f, e))

  -- ---- one trade

  module _ (union : UCQ) (q₀ : Query) (accepted : Accepted rules q₀ union) (distinct : (m : Member) → m ∈ union
      → Unrepeated m.query.atoms) (tuple : List ℕ) where
    -- some member is matched at this cost
    abbrev MemberMatched : ℕ → Type 0
    MemberMatched total = (m : Member) × (m ∈ union) × Matched m.query tuple total

    more : (n k : ℕ) → n ≤ k → MemberMatched n → MemberMatched k
    more n k l (m, i, w) =
        (m, i, record { match = w.match; sends = w.sends; cost = budget_more (HoldsIn w.match) m.query.atoms n k l w.cost })

    -- the result of a step from a member, with a match and a budget for what it comes from
    through_step : (m : Member) (r : Query) (total : ℕ) (h : ℕ → Thing) (xs : List (Atom Term)) (s : Term → Term) → m ∈ union
        → StepTo rules m.query r
        → map (value h) r.answers ≡ map object tuple
        → ((b : Atom Term) → b ∈ r.atoms → (x : Atom Term) × (x ∈ xs) × (map_atom s x ≡ b))
        → Budget (λ x n. HoldsIn h (map_atom s x) n) xs total → MemberMatched total
    through_step m r total h xs s i step sends from b =
        let (n, j, a) = accepted.closed m r i step in
        (n, j, matched_alike r n.query a tuple total h xs s (distinct n j) sends from b)

    module _ (m : Member) (i : m ∈ union) (h : ℕ → Thing) (sends : map (value h) m.query.answers ≡ map object tuple) where
      -- the rule that concluded the atom's image rewrites the atom: what it makes holds a round earlier
      by_rule_lem : (l k : ℕ) (ρ : Rule) (a : Atom Term) (n rest : ℕ) → At m.query.atoms l a → At rules k ρ
          → Rewritten m.query (Round rules facts n) ρ a h → Budget (HoldsIn h) (drop_at m.query.atoms l) rest
          → MemberMatched (n + rest)
      unfolding change_atom
      by_rule_lem l k ρ a n rest at atk (b, h', e, held, agree) budget =
          through_step m (change_atom m.query l b) (n + rest) h' (set m.query.atoms l b) (λ t. t) i
          (inl (l, k, (rule_step_iff rules m.query l k (change_atom m.query l b)).1 (ρ, a, b, atk, at, e, refl)))
          (map_agree (value h') (value h) m.query.answers (λ t j. agree t (terms_answers m.query j)) ∙ sends)
          (λ c j. (c, keep_once_mem (set m.query.atoms l b) j, map_atom_id c))
          (put_back (λ x j. HoldsIn h' (map_atom (λ t. t) x) j) (set m.query.atoms l b) l n rest (n + rest)
          (set_at m.query.atoms l b at)
          (same b n held) (le_refl (n + rest))
          (subst (λ ys. Budget (λ x j. HoldsIn h' (map_atom (λ t. t) x) j) ys rest) (sym (drop_at_set m.query.atoms l b))
          (budget_map (HoldsIn h) (λ x j. HoldsIn h' (map_atom (λ t. t) x) j) (drop_at m.query.atoms l) rest
          (λ x j n' w. same x j (subst (Round rules facts j)
          (sym (map_atom_agree (value h') (value h) x (λ t k'. agree t (terms_atoms m.query (drop_at_mem m.query.atoms l n') k')))) w))
          budget)))
        where
          same : (x : Atom Term) (j : ℕ) → HoldsIn h' x j → HoldsIn h' (map_atom (λ t. t) x) j
          same x j w = subst (λ c. HoldsIn h' c j) (sym (map_atom_id x)) w

      -- the atom's null stands in another atom too, whose image is the same fact: the two are merged
      by_merge_lem : (l j : ℕ) (a b : Atom Term) (rest : ℕ) → At m.query.atoms l a → At m.query.atoms j b → j ≢ l
          → map_atom (value h) a ≡ map_atom (value h) b → Budget (HoldsIn h) (drop_at m.query.atoms l) rest → MemberMatched rest
      unfolding substitute
      by_merge_lem l j a b rest at atj d same budget =
          through_step m (substitute σ m.query) rest h (drop_at m.query.atoms l) (subst_term σ) i (inr (u.2, u.3, u.4))
          (sent ∙ sends) from
          (budget_map (HoldsIn h) (λ x k. HoldsIn h (map_atom (subst_term σ) x) k) (drop_at m.query.atoms l) rest
          (λ x k n w. subst (Round rules facts k) (sym (map_atom_after (value h) (subst_term σ) (value h) x (λ t p. kept t))) w) budget)
        where
          u : (σ : ℕ → Term) × Unifies a b σ × (k l : ℕ) × (merge_step m.query k l ≡ some (substitute σ m.query))
          u = merge_step_either object (λ c d f. cc) m.query l j a b h (λ e. d (sym e)) at atj same

          σ : ℕ → Term
          σ = u.0

          kept : (t : Term) → value h (subst_term σ t) ≡ value h t
          kept = through_term object h σ (unifies_factors object a b u.1 h same)

          sent : map (value h) (substitute σ m.query).answers ≡ map (value h) m.query.answers
          sent = map_after (value h) (subst_term σ) (value h) m.query.answers (λ t n. kept t)

          from : (c : Atom Term) → c ∈ (substitute σ m.query).atoms → (x : Atom Term) × (x ∈ drop_at m.query.atoms l)
              × (map_atom (subst_term σ) x ≡ c)
          from c n = let (x, k, e) = substitute_mem σ m.query n in let (w, atw) = mem_at k in elim (ℕ_discrete w l) [
            | yes f ↦ (
              b,
              mem_drop_at m.query.atoms l j atj d,
              sym (unifies_equal a b u.1) ∙ ap (map_atom (subst_term σ)) (at_equal m.query.atoms (sym f) at atw) ∙ e,
            )
            | no f ↦ (x, mem_drop_at m.query.atoms l w atw f, e)
          ]

      -- the atom at l alone held one round too late
      lowered : (l : ℕ) (a : Atom Term) (k n rest : ℕ) → At m.query.atoms l a → HoldsIn h a k → k ≤ n
          → Budget (HoldsIn h) (drop_at m.query.atoms l) rest → MemberMatched (n + rest)
      lowered l a k n rest at held le budget = (
        m,
        i,
        record {
          match = h;
          sends = sends;
          cost =
              put_back (HoldsIn h) m.query.atoms l k rest (n + rest) at held (omega arith) budget;
        },
      )

      -- an answer term's value is an object
      answer_object : (t : Term) → t ∈ m.query.answers → (o : ℕ) × (value h t ≡ object o)
      answer_object t j =
          let (o, n, e) = Memᴰ.of_map object tuple (subst (λ ts. value h t ∈ ts) sends (Memᴰ.map (value h) j)) in (o, sym e)

      -- no answer variable goes to a null
      not_answer : (u k : ℕ) (c : Thing) → h u ≡ null k c → ¬ (var u ∈ m.query.answers)
      not_answer u k c e j = let (o, f) = answer_object (var u) j in let z : ◌≡◌ {A = ℕ} 0 1 = cc in omega arith

      -- the budget, without the bound
      plain : (l n rest : ℕ) → Budget (λ b j. HoldsIn h b j × (j ≤ n)) (drop_at m.query.atoms l) rest
          → Budget (HoldsIn h) (drop_at m.query.atoms l) rest
      plain l n rest b = budget_map (λ b j. HoldsIn h b j × (j ≤ n)) (HoldsIn h) (drop_at m.query.atoms l) rest (λ x j m' w. w.0) b

      -- The atom at l costs most, n + 1 rounds, and its null stands at a bound variable, so in another atom too. Either that
      -- atom's image is the same fact, or the fact stood in an earlier round.
      at_bound : (l k : ℕ) (ρ : Rule) (a : Atom Term) (n rest : ℕ) → At m.query.atoms l a → At rules k ρ → AtBound m.query k ρ a h
          → Budget (λ b j. HoldsIn h b j × (j ≤ suc n)) (drop_at m.query.atoms l) rest → MemberMatched (n + rest)
      at_bound l k ρ a n rest at atk (u, c, e, makes, once, bound) budget =
          let (j, b, atj, d, stands) = bound_elsewhere m.query u l a at bound once (not_answer u k c e) in
          let (cost, w₀) = budget_at (λ b j. HoldsIn h b j × (j ≤ suc n)) (drop_at m.query.atoms l) rest
          (mem_drop_at m.query.atoms l j atj d) budget in
          let (ρ', f, at', makes', w) = birth rules facts cost (map_atom (value h) b) k c w₀.0
          (Memᴰ.cast (sym e) (map_args (value h) b stands)) in
          let same : map_atom (value h) a ≡ f =
          makes_unique k ρ c (map_atom (value h) a) f makes (subst (λ r. Makes k r c f) (at_unique rules k at' atk) makes') in
          elim w [
            | inl eq ↦ more rest (n + rest) (omega arith) (by_merge_lem l j a b rest at atj d (same ∙ sym eq) (plain l (suc n) rest budget))
            | inr v ↦ lowered l a v.0 n rest at (subst (Round rules facts v.0) (sym same) v.2) (omega (arith, v.1, w₀.1))
                (plain l (suc n) rest budget)
          ]

      -- The atom at l costs most, n + 1 rounds: some member is matched at a lower cost.
      trade : (l : ℕ) (a : Atom Term) (n rest : ℕ) → At m.query.atoms l a → HoldsIn h a (suc n)
          → Budget (λ b j. HoldsIn h b j × (j ≤ suc n)) (drop_at m.query.atoms l) rest → MemberMatched (n + rest)
      trade l a n rest at (inl held) budget = lowered l a n n rest at held (le_refl n) (plain l (suc n) rest budget)
      trade l a n rest at (inr (k, ρ, atk, concl)) budget =
          elim (concludes_rewritten m.query (Round rules facts n) l k ρ a h at concl) [
            | inl w ↦ by_rule_lem l k ρ a n rest at atk w (plain l (suc n) rest budget)
            | inr w ↦ at_bound l k ρ a n rest at atk w budget
          ]

      -- the greatest cost is none: the facts alone hold every atom
      free : (l : ℕ) (a : Atom Term) (rest : ℕ) → At m.query.atoms l a → HoldsIn h a zero
          → Budget (λ b j. HoldsIn h b j × (j ≤ zero)) (drop_at m.query.atoms l) rest → (x : Atom Term) → x ∈ m.query.atoms
          → HoldsIn h x zero
      free l a rest at held budget x j =
          let (w, atw) = mem_at j in elim (ℕ_discrete w l) [
            | yes e ↦ subst (λ y. HoldsIn h y zero) (at_equal m.query.atoms (sym e) at atw) held
            | no d ↦ (let (n, w₀) = budget_at (λ b j. HoldsIn h b j × (j ≤ zero)) (drop_at m.query.atoms l) rest
                (mem_drop_at m.query.atoms l w atw d) budget in
                let z : n ≡ zero = omega (arith, w₀.1) in subst (λ k. HoldsIn h x k) z w₀.0)
          ]

      found : ((x : Atom Term) → x ∈ m.query.atoms → HoldsIn h x zero) → OfSomeMember union facts tuple
      found all = (m, i, record { match = h; holds = all; sends = sends })

      -- nothing left to pay, or a lower cost
      next : (total : ℕ) → Budget (HoldsIn h) m.query.atoms total
          → OfSomeMember union facts tuple ⊎ ((k : ℕ) × (k < total) × MemberMatched k)
      next total budget = elim (greatest_or_empty (HoldsIn h) m.query.atoms total budget) [
        | inl e ↦ inl (found (λ x j. absurd (Memᴰ.not-nil (subst (λ xs. x ∈ xs) e j))))
        | inr g ↦ from g
      ]
        where
          from : Greatest (HoldsIn h) m.query.atoms total → OfSomeMember union facts tuple ⊎ ((k : ℕ) × (k < total) × MemberMatched k)
          from (l, a, zero, rest, at, held, le, others) = inl (found (free l a rest at held others))
          from (l, a, suc n, rest, at, held, le, others) = inr (n + rest, omega arith, trade l a n rest at held others)

    -- paid down to nothing, in at most `limit` trades
    pay : (limit total : ℕ) → total ≤ limit → MemberMatched total → OfSomeMember union facts tuple
    pay zero total le (m, i, w) =
        elim (next m i w.match w.sends total w.cost) [ inl found ↦ found | inr r ↦ absurd (omega (arith, r.1)) ]
    pay (suc limit) total le (m, i, w) =
        elim (next m i w.match w.sends total w.cost) [
          | inl found ↦ found
          | inr r ↦ pay limit r.0 (omega (arith, r.1)) r.2
        ]

    -- an answer of the question in some round is one of some member in round 0
    pub complete : (n : ℕ) → Answer (Round rules facts n) q₀ tuple → OfSomeMember union facts tuple
    complete n w =
        let total = length q₀.atoms * n in
        pay total total (le_refl total) (
          record { step = no_step; query = q₀ },
          at_mem union 0 accepted.first,
          record { match = w.match; sends = w.sends; cost = budget_all (HoldsIn w.match) n q₀.atoms w.holds },
        )
