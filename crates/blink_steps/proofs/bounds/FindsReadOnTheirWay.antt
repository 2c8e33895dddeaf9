-- A find reads pages on its way down only.
use Rattle.std.proofs.Common.{◌≡◌, ℕ, ◌+◌, ◌≤◌, ◌∙◌, false, List, length, refl, ap, subst, arith}
use Rattle.std.specs.List.{cons_option}
use Rattle.blink_batch.specs.declared.Op.{Op}
use Rattle.blink_batch.specs.declared.Op.TheVariants.{Find}
use Rattle.blink_machine.specs.declared.machine.Job.{Job}
use Rattle.blink_machine.specs.declared.machine.Job.TheVariants.{Leaf, Parent}
use Rattle.blink_machine.specs.declared.machine.State.{State}
use Rattle.blink_machine.specs.declared.machine.State.TheVariants.{Start, Going, Want, Held, Change, SplitNew, SplitOld, AskPrime, Root, NewPrime, Leave, Posting, Ended}
use Rattle.blink_machine.specs.declared.step.Kind.{Kind}
use Rattle.blink_machine.specs.declared.step.Step.TheVariants.{Moved}
use Rattle.blink_steps.specs.Acts.{PlainShared, ActsOn, Acts}
use Rattle.blink_machine.specs.{primes_for, primes_left, one_if, is_page_read, PlainMachine, need_at, MayChange, IsPlaced, Levels}
use Rattle.blink_steps.specs.StepBounds.{page_on_way}
use Rattle.blink_machine.specs.TreeState.{TreeState}
use Rattle.blink_machine.proofs.Offered.{placed_at}

-- a find doesn't latch: it posts nothing, since it may never write the prime block
find_changes_none : (m : PlainMachine) (key : ℕ) → primes_left m ≤ primes_for Leaf m.op → m.op ≡ Find key → (number : ℕ) → m.state ≡ Held number → MayChange m.op m.job → ⊥
find_changes_none m key few is_find number is_state may = by_job m.job refl (rw is_find at may)
  where
    by_job : (job : Job) → m.job ≡ job → MayChange (Find key) job → ⊥
    by_job Leaf is_job may = may
    by_job (Parent debt) is_job may =
        let none : primes_left m ≤ 0 = subst (λ (op : Op). primes_left m ≤ primes_for Leaf op) is_find few in
        let some : 1 ≤ primes_left m = rw (is_state, is_job) (omega arith) in
        absurd (omega arith)

-- so it reads pages on its way down only
pub find_reads_on_way : (old new : PlainShared) (tree_state : TreeState) (levels : Levels) (worker : ℕ) (m after : PlainMachine) (kind : Kind) (key : ℕ) (reads : List ℕ)
    → IsPlaced tree_state levels m → primes_left m ≤ primes_for Leaf m.op → m.op ≡ Find key → Acts old worker m (Moved kind) after new
    → one_if (is_page_read kind) + length reads ≤ length (cons_option (page_on_way m.state) reads)
find_reads_on_way old new tree_state levels worker m after kind key reads placed few is_find acts = by_state m.state refl acts
  where
    reads_none : (like : Kind) → kind ≡ like → is_page_read like ≡ false → one_if (is_page_read kind) + length reads ≤ length reads
    reads_none like is_like none = let no_read : is_page_read kind ≡ false = ap is_page_read is_like ∙ none in rw no_read (omega arith)

    by_state : (state : State) → m.state ≡ state → ActsOn (need_at state) old worker m (Moved kind) after new
        → one_if (is_page_read kind) + length reads ≤ length (cons_option (page_on_way state) reads)
    by_state Start is_state acts = reads_none _ acts.0 refl
    by_state (Going page level) is_state acts = rw (acts.0) (omega arith)
    by_state (Want page) is_state acts = reads_none _ acts.0 refl
    by_state (Held page) is_state acts = absurd (find_changes_none m key few is_find page is_state (placed_at tree_state levels m (Held page) placed is_state).0.may_change)
    by_state (Change page changed kept) is_state acts = reads_none _ acts.0 refl
    by_state (SplitNew page before) is_state acts = reads_none _ acts.0 refl
    by_state (SplitOld page lower debt) is_state acts = reads_none _ acts.0 refl
    by_state (AskPrime page debt) is_state acts = reads_none _ acts.0 refl
    by_state (Root page debt prime) is_state acts = reads_none _ acts.0 refl
    by_state (NewPrime page debt root prime) is_state acts = reads_none _ acts.0 refl
    by_state (Leave page next) is_state acts = reads_none _ acts.0 refl
    by_state Posting is_state acts = reads_none _ acts.0 refl
    by_state Ended is_state acts = absurd acts
