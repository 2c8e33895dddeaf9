-- While operations are left some worker would move, and so a run in which none would has ended.
use Rattle.std.proofs.Common.{◌≡◌, ℕ, ◌<◌, List, Option, Some, None, length, get_or, refl, ap, sym, subst, arith}
use Rattle.std.proofs.lemmas.Option.{slice_get-get_or, slice_get_within}
use Rattle.std.specs.List.{slice_get}
use Rattle.std.specs.Prelude.{IfSome, IsNone, IsSome}
use Rattle.blink_batch.specs.declared.Entry.{Entry}
use Rattle.blink_store.specs.{holder_of}
use Rattle.blink_machine.specs.declared.machine.Need.{Need}
use Rattle.blink_machine.specs.declared.machine.Need.TheVariants.{ReadPrime, ReadPage, Latch, WriteNew, WritePage, WritePrime, Unlatch, End}
use Rattle.blink_steps.specs.declared.seat.WorkerState.{WorkerState}
use Rattle.blink_steps.specs.declared.seat.Working.{Working}
use Rattle.blink_machine.specs.declared.step.Step.TheVariants.{Waited}
use Rattle.blink_steps.specs.Acts.{ActsOn}
use Rattle.blink_machine.specs.{PlainMachine, need_at}
use Rattle.blink_steps.specs.Pick.{IsFirstMover, WouldMove}
use Rattle.blink_steps.specs.Run.{PlainRun, busy_seat, idle_seat, machine_of_seat, tree_state_of}
use Rattle.blink_steps.specs.RunInvariant.{RunInvariant}
use Rattle.blink_steps.specs.World.{HasEnded}
use Rattle.blink_machine.proofs.Offered.{never_stuck, IsWaiting, tree_laws}
use Rattle.blink_steps.proofs.worlds.WorkersBySeat.{idle_never_waits, one_seat, only_next}

module _ (run : PlainRun) where
  -- a step that is a wait waits for a latch that another holds, or for a level that isn't there
  waits_for : (need : Need) (worker : ℕ) (m : PlainMachine) → need_at m.state ≡ need → ActsOn need run.shared worker m Waited m run.shared → IsWaiting (tree_state_of run) m
  waits_for ReadPrime worker m needs acts = IsWaiting.for_level acts.0
  waits_for (ReadPage number) worker m needs acts = absurd acts
  waits_for (Latch number) worker m needs acts = held_by (holder_of run.shared.latches number) refl acts.0
    where
      held_by : (holder : Option ℕ) → holder_of run.shared.latches number ≡ holder → IsSome holder → IsWaiting (tree_state_of run) m
      held_by None held some = absurd (cc)
      held_by (Some holder) held some = IsWaiting.for_latch number holder needs held
  waits_for WriteNew worker m needs acts = absurd acts
  waits_for (WritePage number) worker m needs acts = absurd acts
  waits_for WritePrime worker m needs acts = absurd acts
  waits_for (Unlatch number) worker m needs acts = absurd acts
  waits_for End worker m needs acts = absurd acts

  -- a worker whose operation isn't waiting would move
  busy_moves : (worker place : ℕ) (m : PlainMachine) (next : Option ℕ) → slice_get run.seats worker ≡ Some (busy_seat place m next) → ¬ IsWaiting (tree_state_of run) m → WouldMove run worker
  busy_moves worker place m next seated moves =
      let working : Working = record { place = place; machine = m } in
      record {
        not_waiting = λ wait.
            let same : wait.m ≡ m = only_next run worker (busy_seat place m next) seated working wait.place wait.m wait.next refl wait.is_next in
            moves (subst (λ (n : PlainMachine). IsWaiting (tree_state_of run) n) same (waits_for (need_at wait.m.state) worker wait.m refl wait.waits));
        not_at_end = λ at_end. let same = one_seat run worker (busy_seat place m next) (idle_seat None) seated at_end in cc;
      }

  -- the seat of an operation under way
  under_way_moves : (worker : ℕ) (m : PlainMachine) (found : Option WorkerState) → slice_get run.seats worker ≡ found → machine_of_seat found ≡ Some m → ¬ IsWaiting (tree_state_of run) m
      → (worker < length run.seats) × WouldMove run worker
  under_way_moves worker m None found is moves = absurd (cc)
  under_way_moves worker m (Some seat) found is moves = (slice_get_within run.seats worker seat found, in_seat seat.working seat.next found is)
    where
      in_seat : (working : Option Working) (next : Option ℕ) → slice_get run.seats worker ≡ Some (record { working = working; next = next })
          → machine_of_seat (Some (record { working = working; next = next })) ≡ Some m → WouldMove run worker
      in_seat None next seated is = absurd (cc)
      in_seat (Some working) next seated is =
          let same : working.machine ≡ m = cc in
          busy_moves worker working.place working.machine next seated (subst (λ (n : PlainMachine). ¬ IsWaiting (tree_state_of run) n) (sym same) moves)

  -- an idle worker whose lane goes on would move
  pub idle_moves : (worker place : ℕ) → slice_get run.seats worker ≡ Some (idle_seat (Some place)) → WouldMove run worker
  idle_moves worker place seated = record {
    not_waiting = idle_never_waits run worker (idle_seat (Some place)) seated refl;
    not_at_end = λ at_end. let same : idle_seat (Some place) ≡ idle_seat None = cc in let next : Some place ≡ None = ap (λ (s : WorkerState). s.next) same in cc;
  }

  -- where no worker would move, each is idle at its lane's end
  pub nobody_moves : (entries : List Entry) → RunInvariant entries run → ((worker : ℕ) → worker < run.assignment.workers → ¬ WouldMove run worker) → HasEnded run
  nobody_moves entries invariant none worker within =
      let seat : WorkerState = get_or run.seats worker (idle_seat None) in
      let seats : length run.seats ≡ run.assignment.workers = invariant.shaped.a_seat_each in
      at_end seat.working seat.next (slice_get-get_or run.seats worker (idle_seat None) (omega arith))
    where
      at_end : (working : Option Working) (next : Option ℕ) → slice_get run.seats worker ≡ Some (record { working = working; next = next })
          → slice_get run.seats worker ≡ Some (idle_seat None)
      at_end None None seated = seated
      at_end None (Some place) seated = absurd (none worker within (idle_moves worker place seated))
      at_end (Some working) next seated =
          let other = never_stuck tree_laws (tree_state_of run) worker working.machine invariant.invariant (ap machine_of_seat seated) in
          let moves = under_way_moves other.worker other.m (slice_get run.seats other.worker) refl other.under_way other.moves in
          let a_worker : other.worker < run.assignment.workers = omega (arith, moves.0, invariant.shaped.a_seat_each) in
          absurd (none other.worker a_worker moves.1)

-- and after its end none would
pub ended_picks_none : (run : PlainRun) (picked : Option ℕ) → HasEnded run → IfSome picked (λ worker. IsFirstMover run worker) → IsNone picked
ended_picks_none run None ended first = refl
ended_picks_none run (Some worker) ended first = absurd (first.would_move.not_at_end (ended worker first.a_worker))
