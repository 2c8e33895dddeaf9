-- The parts of the law of a step, each proved.
use Rattle.blink_machine.specs.StepLaw.{StepLaw}
use Rattle.blink_machine.proofs.tree.TreeLaws.{tree_laws}
use Rattle.blink_machine.proofs.tree_state.StepsDecide.{step_decides}
use Rattle.blink_machine.proofs.tree_state.StepsKeepInvariant.{opening_has_invariant, step_keeps_invariant}
use Rattle.blink_machine.proofs.law.AllIdleIsAtRest.{all_idle_is_at_rest}
use Rattle.blink_machine.proofs.law.AllowanceIsUsedUp.{allowance_is_used_up}
use Rattle.blink_machine.proofs.law.IdleWorkers.{idle_workers_dont_matter}
use Rattle.blink_machine.proofs.law.PlacesStay.{places_stay}
use Rattle.blink_machine.proofs.law.InvariantGivesOneMap.{invariant_gives_one_map}
use Rattle.blink_machine.proofs.law.InvariantGivesOrder.{invariant_gives_order}

pub step_law : StepLaw
step_law = record {
  opening_has_invariant = opening_has_invariant tree_laws;
  invariant_gives_order = invariant_gives_order tree_laws;
  invariant_gives_one_map = invariant_gives_one_map;
  idle_workers_dont_matter = idle_workers_dont_matter;
  step_keeps_invariant = step_keeps_invariant tree_laws;
  step_decides = step_decides tree_laws;
  all_idle_is_at_rest = all_idle_is_at_rest tree_laws;
  places_stay = places_stay tree_laws;
  allowance_is_used_up = allowance_is_used_up tree_laws;
}
