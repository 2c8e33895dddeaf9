-- What a worker does to the store and the latches is a step of the tree state that they make.
use Rattle.std.proofs.Common.{◌≡◌, ℕ, ◌+◌, Option, Some, None, List, length, add-one, refl, ap, arith}
use Rattle.std.proofs.lemmas.Option.{slice_get_past}
use Rattle.blink_page.specs.{PlainPage}
use Rattle.blink_store.specs.{holder_of, ChangesHolder, PlainStore, page_of, WritesPage}
use Rattle.blink_machine.specs.declared.machine.Need.{Need}
use Rattle.blink_machine.specs.declared.machine.Need.TheVariants.{ReadPrime, ReadPage, Latch, WriteNew, WritePage, WritePrime, Unlatch, End}
use Rattle.blink_machine.specs.declared.step.Kind.{Kind}
use Rattle.blink_machine.specs.declared.step.Step.TheVariants.{Moved, Waited}
use Rattle.blink_steps.specs.Acts.{PlainShared, Acts, ActsOn}
use Rattle.blink_machine.specs.{PlainMachine, need_at, Leaves, WritesOne, LatchPasses, IsWorkersNow, Steps, reads_prime, waits_for_level, reads_page, latches, waits_for_latch, writes_new, writes_page, writes_prime, unlatches}
use Rattle.blink_steps.specs.Run.{tree_state_with}
use Rattle.blink_machine.proofs.Offered.{some_value}

-- where nothing shared changes, the tree state keeps all but its operations
same_leaves : (old new : PlainShared) (machines after_machines : ℕ → Option PlainMachine) → new ≡ old → Leaves (tree_state_with old machines) (tree_state_with new after_machines)
same_leaves old new machines after_machines same = record {
  same_fan = ap (λ (shared : PlainShared). shared.store.fan) same;
  same_prime = ap (λ (shared : PlainShared). shared.store.prime) same;
  same_pages = ap (λ (shared : PlainShared). page_of shared.store) same;
  same_holder = ap (λ (shared : PlainShared). holder_of shared.latches) same;
}

-- the number after the last is free
pub none_after_last : (store : PlainStore) → page_of store (length store.pages + 1) ≡ None
none_after_last store = rw add-one (slice_get_past store.pages (length store.pages) (omega arith))

-- a written page, in the words of a tree state
one_written : (old new : PlainStore) (number : ℕ) (page : PlainPage) → WritesPage old new number page → WritesOne (page_of old) (page_of new) number page
one_written old new number page writes = record { written = writes.written; others = writes.others }

-- a latch that changed hands, likewise
latch_passed : (old new : List (Option ℕ)) (page : ℕ) (holder : Option ℕ) → ChangesHolder old new page holder → LatchPasses (holder_of old) (holder_of new) page holder
latch_passed old new page holder changes = record { changed = changes.changed; others = changes.others }

module _ (old new : PlainShared) (machines after_machines : ℕ → Option PlainMachine) (worker : ℕ) (m after : PlainMachine) (kind : Kind) where
  -- a move, for each need
  moves_at_need : (need : Need) → need_at m.state ≡ need → ActsOn need old worker m (Moved kind) after new → IsWorkersNow machines after_machines worker after
      → Steps (tree_state_with old machines) worker m (Moved kind) after (tree_state_with new after_machines)
  moves_at_need ReadPrime needs acts now = reads_prime needs acts.1 (ap Moved acts.0) (same_leaves old new machines after_machines acts.2) now
  moves_at_need (ReadPage number) needs acts now =
      reads_page number acts.1.0 needs acts.1.1 acts.1.2 (ap Moved acts.0) (same_leaves old new machines after_machines acts.2) now
  moves_at_need (Latch number) needs acts now =
      latches number needs acts.1 acts.2 (ap Moved acts.0) (ap (λ (store : PlainStore). store.fan) acts.3) (ap (λ (store : PlainStore). store.prime) acts.3)
      (ap page_of acts.3) (latch_passed old.latches new.latches number (Some worker) acts.4) now
  moves_at_need WriteNew needs acts now =
      let written = acts.3 in
      writes_new (length old.store.pages + 1) needs acts.1 (none_after_last old.store) acts.2 (ap Moved acts.0) written.same_fan written.same_prime
      (one_written old.store new.store _ _ written) (ap holder_of acts.5) now
  moves_at_need (WritePage number) needs acts now =
      let written = acts.2 in
      writes_page number needs acts.1 (ap Moved acts.0) written.same_fan written.same_prime
      (one_written old.store new.store _ _ written) (ap holder_of acts.4) now
  moves_at_need WritePrime needs acts now =
      writes_prime needs acts.2 acts.1 (ap Moved acts.0) (ap (λ (store : PlainStore). store.fan) acts.3) (ap page_of acts.3) (ap holder_of acts.4) now
  moves_at_need (Unlatch number) needs acts now =
      unlatches number needs acts.1 (ap Moved acts.0) (ap (λ (store : PlainStore). store.fan) acts.2) (ap (λ (store : PlainStore). store.prime) acts.2)
      (ap page_of acts.2) (latch_passed old.latches new.latches number None acts.3) now
  moves_at_need End needs acts now = absurd acts

  -- a move of an operation is a step of the tree state
  pub acts_are_steps : Acts old worker m (Moved kind) after new → IsWorkersNow machines after_machines worker after
      → Steps (tree_state_with old machines) worker m (Moved kind) after (tree_state_with new after_machines)
  acts_are_steps acts now = moves_at_need (need_at m.state) refl acts now

module _ (old new : PlainShared) (machines : ℕ → Option PlainMachine) (worker : ℕ) (m after : PlainMachine) where
  -- where nothing shared changes, the tree state doesn't either
  same_tree_state : new ≡ old → tree_state_with new machines ≡ tree_state_with old machines
  same_tree_state same = ap (λ (shared : PlainShared). tree_state_with shared machines) same

  -- a wait, for each need
  waits_at_need : (need : Need) → need_at m.state ≡ need → ActsOn need old worker m Waited after new → Steps (tree_state_with old machines) worker m Waited after (tree_state_with new machines)
  waits_at_need ReadPrime needs acts = waits_for_level needs acts.0 refl (same_tree_state acts.2) acts.1
  waits_at_need (ReadPage number) needs acts = absurd acts
  waits_at_need (Latch number) needs acts =
      let held = some_value (holder_of old.latches number) acts.0 in
      waits_for_latch number held.0 needs held.1 refl (same_tree_state acts.2) acts.1
  waits_at_need WriteNew needs acts = absurd acts
  waits_at_need (WritePage number) needs acts = absurd acts
  waits_at_need WritePrime needs acts = absurd acts
  waits_at_need (Unlatch number) needs acts = absurd acts
  waits_at_need End needs acts = absurd acts

  -- and a wait is one too, in which no operation changes
  pub waits_are_steps : Acts old worker m Waited after new → Steps (tree_state_with old machines) worker m Waited after (tree_state_with new machines)
  waits_are_steps acts = waits_at_need (need_at m.state) refl acts
