use Rattle.std.specs.Prelude.{◌≡◌, ◌+◌, ◌*◌, ◌≤◌}
use Rattle.theory.specs.Laws.Scans.{total_from}
use Rattle.query_variables.proofs.UnboundLaws.{places_at}
use Rattle.query_variables.proofs.unbound.count_places.Given as goal

abbrev pub invariant-loop-i : goal.invariant-loop-i
invariant-loop-i l =
    (l.found ≤ 2 * l.i)
    × (l.found + total_from (places_at l.t l.q.atoms) l.i l.q.size ≡ total_from (places_at l.t l.q.atoms) 0 l.q.size)
