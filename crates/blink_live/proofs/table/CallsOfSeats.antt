-- What a seat has for its call stays its own.
use Rattle.std.proofs.Common.{◌≡◌, ℕ, ◌<◌, ◌≤◌, None, List, arith}
use Rattle.blink_machine.specs.TreeState.{TreeState}
use Rattle.blink_live.specs.declared.view.Call.{Call}
use Rattle.blink_live.specs.declared.view.Plan.{Plan}
use Rattle.blink_live.specs.Rule.{Owners, HasForCall}
use Rattle.blink_live.specs.Views.{no_call}

-- a seat that has made no call has nothing for one
pub nothing_for_call : (plan : Plan) (owners : Owners) (words : List ℕ) (tree_state : TreeState) (owner row page : ℕ) → 1 ≤ row → 1 ≤ page → 1 ≤ plan.counts.numbers
    → HasForCall plan owners words tree_state owner no_call row page
nothing_for_call plan owners words tree_state owner row page some_row some_page some_number = record {
  before = (some_row, some_page);
  first_own = λ some. absurd (omega (arith, some));
  staged = λ some. absurd (omega (arith, some));
  others = record { in_range = (omega arith, omega arith); own = λ r low high. absurd (omega (arith, low, high)) };
  numbers = record { in_range = (omega arith, some_number); own = λ number low high. absurd (omega (arith, low, high)); free = λ number low high. absurd (omega (arith, low, high)) };
}

-- it has the same rows and page numbers where other things get other owners
pub call_still : (plan : Plan) (old new : Owners) (words : List ℕ) (tree_state then : TreeState) (owner : ℕ) (call : Call) (row page later later_page : ℕ) → HasForCall plan old words tree_state owner call row page
    → (row ≤ later) × (page ≤ later_page) → ((r : ℕ) → r < row → old.row r ≡ owner → new.row r ≡ owner) → ((number : ℕ) → number < page → old.page number ≡ owner → new.page number ≡ owner)
    → ((number : ℕ) → tree_state.pages number ≡ None → then.pages number ≡ None) → HasForCall plan new words then owner call later later_page
call_still plan old new words tree_state then owner call row page later later_page has less rows pages free =
    let before = has.before in record {
      before = (omega (arith, before, less), omega (arith, before, less));
      first_own = λ some. let own = has.first_own some in (own.0, rows call.rows.next (omega (arith, before, some)) own.1);
      staged = has.staged;
      others = record {
        in_range = has.others.in_range;
        own = λ r low high. rows r (omega (arith, before, high)) (has.others.own r low high);
      };
      numbers = record {
        in_range = has.numbers.in_range;
        own = λ number low high. pages number (omega (arith, before, high)) (has.numbers.own number low high);
        free = λ number low high. free number (has.numbers.free number low high);
      };
    }
