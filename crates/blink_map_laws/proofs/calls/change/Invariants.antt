use Rattle.blink_map.specs.{IsSameBesideSeen}
use Rattle.blink_map_laws.proofs.calls.change.Given as goal

abbrev pub invariant-loop : goal.invariant-loop
invariant-loop g l = record {
  turns : (goal.iterator-loop g).can_next l.iterator' × (goal.iterator-loop g).is_finite l.iterator';
  same : IsSameBesideSeen l.fn.session l.session;
}
