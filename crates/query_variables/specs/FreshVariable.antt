-- 01: "Variables are 0 to 31". This holds of the fresh variable too: a query has at most 20 places.
use Rattle.std.specs.Prelude.{◌<◌, length}
use Rattle.std.proofs.Common.{arith, length-take}
use Rattle.std.proofs.lemmas.List.{length-map}
use Rattle.theory.specs.Rewriting.{fresh}
use Rattle.theory.proofs.Laws.Pigeonhole.{fresh_small, terms_few}
use Rattle.words.specs.Words.{query_of, Small}
use Rattle.words.specs.declared.QueryWords.{QueryWords}

pub fresh_low : (q : QueryWords) → Small q → fresh (query_of q) < 32
unfolding query_of
fresh_low q s =
    let few = fresh_small (query_of q) in
    let places = terms_few (query_of q) in
    let h : length (query_of q).answers < 5 = simp (length-map, length-take) (omega (arith, s.few_terms)) in
    let g : length (query_of q).atoms < 9 = simp (length-map, length-take) (omega (arith, s.few_atoms)) in
    omega arith
