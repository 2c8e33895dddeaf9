-- A spent seat has nothing, and knows what it was told.
use Rattle.std.proofs.Common.{◌≡◌, ◌≤◌, ℕ, suc, None, List, refl, arith}
use mathlib.Core.List.{IsPrefix}
use Rattle.blink_machine.specs.TreeState.{TreeState}
use Rattle.blink_live.specs.declared.view.Change.{Change}
use Rattle.blink_live.specs.declared.view.Plan.{Plan}
use Rattle.blink_live.specs.Rule.{Owners, Knows}
use Rattle.blink_live.specs.Views.{span, spent}
use Rattle.blink_live.proofs.table.CallsOfSeats.{nothing_for_call}
use Rattle.blink_live.proofs.table.LooksStay.{nothing_noted}
use Rattle.blink_live.proofs.table.SparesOfSeats.{no_spare}

pub spent_knows : (plan : Plan) (owners : Owners) (words : List ℕ) (tree_state : TreeState) (log : List Change) (seat : ℕ) (told : List Change) → 1 ≤ plan.counts.numbers → tree_state.machines seat ≡ None → IsPrefix told log
    → Knows plan owners words tree_state log seat (record (spent plan) { told = told })
spent_knows plan owners words tree_state log seat told some_number idle heard = record {
  same_plan = refl;
  operation = idle;
  bounded = λ m is. absurd (cc);
  reads = (tt, nothing_noted plan owners.row words tree_state.fan tree_state.prime tree_state.pages);
  appends = tt;
  rows = record {
    in_range = (omega arith, omega arith);
    own = λ row low high. absurd (omega (arith, low, high));
  };
  numbers = record {
    in_range = (omega arith, some_number);
    own = λ number low high. absurd (omega (arith, low, high));
    free = λ number low high. absurd (omega (arith, low, high));
  };
  for_call = nothing_for_call plan owners words tree_state (suc seat) 1 1 (omega arith) (omega arith) some_number;
  spare = no_spare plan owners tree_state (suc seat) 1 (span 1 1) some_number;
  share = λ key has. absurd (let inside = has.1 in omega (arith, inside));
  saw = (log, refl);
  heard = heard;
  in_role = refl;
  placed = λ common is. absurd (cc);
  places_left = λ dealt back is. absurd (cc);
  nothing = λ common dealt back is. absurd (cc);
}
