-- Tree states that tell the same of each number and each worker are one.
use Rattle.std.proofs.Common.{◌≡◌, sym, subst}
use Rattle.blink_machine.specs.TreeState.{TreeState}
use Rattle.blink_machine.specs.Invariant.{Invariant}
use Rattle.blink_machine.specs.StepLaw.{TellTheSame, IdleWorkersDontMatter}

-- field by field
same_tree_state : (tree_state other : TreeState) → TellTheSame tree_state other → other ≡ tree_state
same_tree_state tree_state other same = λ i. record {
  fan = same.same_fan i;
  prime = same.same_prime i;
  pages = λ number. same.same_pages number i;
  holder = λ number. same.same_holder number i;
  machines = λ worker. same.same_machines worker i;
}

-- so one idle worker more or less is all the same
pub idle_workers_dont_matter : IdleWorkersDontMatter
idle_workers_dont_matter tree_state other same invariant = subst Invariant (sym (same_tree_state tree_state other same)) invariant
