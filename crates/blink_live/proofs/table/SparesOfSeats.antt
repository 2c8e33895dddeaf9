-- A seat's spare page numbers stay its own.
use Rattle.std.proofs.Common.{◌≡◌, ℕ, ◌≤◌, None, arith}
use Rattle.blink_rows.specs.declared.span.Span.{Span}
use Rattle.blink_machine.specs.TreeState.{TreeState}
use Rattle.blink_live.specs.declared.view.Plan.{Plan}
use Rattle.blink_live.specs.Reuse.{IsWithin}
use Rattle.blink_live.specs.Rule.{Owners, HasSpare}
use Rattle.blink_live.specs.Views.{span}

-- a seat that has drawn no numbers has none beside
pub no_spare : (plan : Plan) (owners : Owners) (tree_state : TreeState) (owner page : ℕ) (call : Span) → 1 ≤ plan.counts.numbers → HasSpare plan owners tree_state owner (span 1 1) page call
no_spare plan owners tree_state owner page call some_number = record {
  numbers = record { in_range = (omega arith, some_number); own = λ number low high. absurd (omega (arith, low, high)); free = λ number low high. absurd (omega (arith, low, high)) };
  sessions = λ some. absurd (omega (arith, some));
  before = λ some. absurd (omega (arith, some));
  apart = λ number within. absurd (omega (arith, within));
}

module _ (plan : Plan) (old new : Owners) (tree_state then : TreeState) (owner : ℕ) (spare : Span) (page : ℕ) (call : Span) (has : HasSpare plan old tree_state owner spare page call) where
  -- where its own numbers come after them, and its call's are others
  pub spare_beside : (later : ℕ) (calls : Span) → page ≤ later → ((number : ℕ) → IsWithin spare number → IsWithin calls number → IsWithin call number)
      → ((number : ℕ) → IsWithin spare number → old.page number ≡ owner → new.page number ≡ owner)
      → ((number : ℕ) → IsWithin spare number → old.page number ≡ owner → tree_state.pages number ≡ None → then.pages number ≡ None) → HasSpare plan new then owner spare later calls
  spare_beside later calls after fewer owns free = record {
    numbers = record {
      in_range = has.numbers.in_range;
      own = λ number low high. owns number (low, high) (has.numbers.own number low high);
      free = λ number low high. free number (low, high) (has.numbers.own number low high) (has.numbers.free number low high);
    };
    sessions = has.sessions;
    before = λ some. let ends = has.before some in omega (arith, ends, after);
    apart = λ number within calls_too. has.apart number within (fewer number within calls_too);
  }

  -- where other things get other owners
  pub spare_still : ((number : ℕ) → old.page number ≡ owner → new.page number ≡ owner) → ((number : ℕ) → tree_state.pages number ≡ None → then.pages number ≡ None) → HasSpare plan new then owner spare page call
  spare_still owns free = spare_beside page call (omega arith) (λ number within is. is) (λ number within. owns number) (λ number within own. free number)
