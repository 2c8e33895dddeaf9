use Rattle.blink_map.specs.{GoesOn}
use Rattle.blink_map_laws.proofs.calls.advance.Given as goal

abbrev pub invariant-loop : goal.invariant-loop
invariant-loop g l = record {
  turns : (goal.iterator-loop g).can_next l.iterator' × (goal.iterator-loop g).is_finite l.iterator';
  goes_on : GoesOn l.map l.fn.pending l.pending;
}
