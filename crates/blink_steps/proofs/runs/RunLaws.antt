-- The laws of runs, each proved.
use Rattle.blink_steps.proofs.runs.RunStatements.{RunLaws}
use Rattle.blink_machine.proofs.Offered.{tree_laws, step_law}
use Rattle.blink_steps.proofs.runs.TurnsKeepRunInvariant.{turn_keeps_run_invariant}
use Rattle.blink_steps.proofs.runs.OpeningRunHasInvariant.{opening_run_has_invariant}
use Rattle.blink_steps.proofs.runs.TurnIsReady.{turn_is_ready}
use Rattle.blink_steps.proofs.runs.DecidedAtEnd.{prefixes_are_decided, each_has_its_turn, each_is_decided_once, ended_run_is_whole, one_latch_each}
use Rattle.blink_steps.proofs.runs.HistoryKeepsRunInvariant.{ended_run_is_answered}
use Rattle.blink_steps.proofs.bounds.NumbersAreLeft.{history_is_bounded, number_is_left}
use Rattle.blink_steps.proofs.bounds.KeptCounts.{counts_are_kept}
use Rattle.blink_steps.proofs.bounds.HistoryWithinStepBound.{short_along}
use Rattle.blink_steps.proofs.runs.WhatRunsPromise.{writes_are_own, next_is_unanswered, present_is_reached}

pub run_laws : RunLaws
run_laws = record {
  opening_run_has_invariant = opening_run_has_invariant step_law;
  turn_keeps_run_invariant = turn_keeps_run_invariant step_law;
  turn_is_ready = turn_is_ready step_law;
  history_is_bounded = history_is_bounded (opening_run_has_invariant step_law) (turn_keeps_run_invariant step_law);
  number_is_left = number_is_left (opening_run_has_invariant step_law) (turn_keeps_run_invariant step_law);
  counts_are_kept = counts_are_kept;
  one_latch_each = one_latch_each;
  each_is_decided_once = each_is_decided_once;
  prefixes_are_decided = prefixes_are_decided;
  each_has_its_turn = each_has_its_turn;
  ended_run_is_whole = ended_run_is_whole step_law;
  ended_run_is_answered = ended_run_is_answered;
  writes_are_own = writes_are_own step_law;
  next_is_unanswered = next_is_unanswered;
  present_is_reached = present_is_reached tree_laws;
  history_is_short = short_along tree_laws (opening_run_has_invariant step_law) (turn_keeps_run_invariant step_law)
      (history_is_bounded (opening_run_has_invariant step_law) (turn_keeps_run_invariant step_law));
}
