-- The objects of facts and of answer terms are numbers that 16 bits hold, for they come from 16-bit fields.
use Rattle.std.specs.Prelude.{◌≡◌, ℕ, ◌/◌, ◌%◌, ◌^◌, ◌<◌, Bool, true, false, List, eqb}
use Rattle.std.proofs.Common.{sym, subst, inl, inr, arith}
use mathlib.Core.List.Memᴰ
use Rattle.theory.specs.Lists.{◌∈◌, pick}
use Rattle.theory.specs.Syntax.{var, const, concept, role, Member, Fact, args}
use Rattle.words.specs.Records.{field, term_of, fact_of}
use Rattle.words.specs.Limits.{sheet_width, object_bound}
use Rattle.sheets.specs.Format.{fact_records, facts_of, answer_records, query_at, member_at}
use Rattle.sheets.specs.Partners.{atom_as_read, query_as_read, member_as_read}
use Rattle.sheets.specs.Reading.{facts_as_read, union_as_read}
use Rattle.sheets.proofs.Laws.PartnerLaws.{args_as_read}
use Rattle.sheets.proofs.Laws.UnionRefusals.{member_numbered}

-- ---- facts

one_of : (b : Bool) (A o x y : ℕ) → o ∈ args (pick b (concept A x) (role A x y)) → x < object_bound → y < object_bound → o < object_bound
one_of true A o x y m h k =
    elim (Memᴰ.cases_cons m) [ inl e ↦ subst (λ n. n < object_bound) (sym e) h | inr n ↦ absurd (Memᴰ.not-nil n) ]
one_of false A o x y m h k =
    elim (Memᴰ.cases_cons m) [
      | inl e ↦ subst (λ n. n < object_bound) (sym e) h
      | inr n ↦ elim (Memᴰ.cases_cons n) [ inl e ↦ subst (λ n. n < object_bound) (sym e) k | inr l ↦ absurd (Memᴰ.not-nil l) ]
    ]

fact_in_range : (x o : ℕ) → o ∈ args (fact_of sheet_width x) → o < object_bound
unfolding fact_of
fact_in_range x o m = one_of (eqb (field 47 1 x) 0) (field 32 12 x) o (field 16 16 x) (field 0 16 x) m (omega arith) (omega arith)

pub facts_in_range : (p s : List ℕ) (f : Fact) → f ∈ facts_as_read p sheet_width s → (o : ℕ) → o ∈ args f → o < object_bound
unfolding facts_as_read facts_of
facts_in_range p s f m o k =
    let (g, n, e) = Memᴰ.of_map (atom_as_read p) (facts_of sheet_width s) m in
    let (x, l, d) = Memᴰ.of_map (fact_of sheet_width) (fact_records sheet_width s) n in
    fact_in_range x o (subst (λ (a : Fact). o ∈ args a) (sym d) ((args_as_read p g).0 (subst (λ (a : Fact). o ∈ args a) (sym e) k)))

-- ---- answer terms

term_in_range : (b : Bool) (n c : ℕ) → n < object_bound → pick b (var n) (const n) ≡ const c → c < object_bound
term_in_range true n c h e = absurd (let z : ◌≡◌ {A = ℕ} 0 1 = cc in omega arith)
term_in_range false n c h e = let d : n ≡ c = cc in omega arith

query_in_range : (p s : List ℕ) (at c : ℕ) → const c ∈ (query_as_read p (query_at sheet_width s at)).answers → c < object_bound
unfolding query_as_read query_at term_of
query_in_range p s at c m =
    let (x, l, e) = Memᴰ.of_map (term_of sheet_width) (answer_records sheet_width s at) m in
    term_in_range (eqb (x / 2 ^ 16) 0) (x % 2 ^ 16) c (omega arith) e

pub constants_in_range : (p s : List ℕ) (m : Member) → m ∈ union_as_read p sheet_width s → (c : ℕ) → const c ∈ m.query.answers
    → c < object_bound
unfolding member_as_read member_at
constants_in_range p s m k c n =
    let (j, l, e) = member_numbered p sheet_width s m k in
    query_in_range p s _ c (subst (λ (x : Member). const c ∈ x.query.answers) (sym e) n)
