-- From a worker's seat: whether it is idle, whether it waits, and whether it would move.
use Rattle.std.proofs.Common.{◌≡◌, ℕ, Bool, true, false, not, Option, Some, None, slice_get, refl, ap, ◌∙◌, subst}
use Rattle.std.specs.Option.{is_some}
use Rattle.blink_batch.specs.declared.Op.{Op}
use Rattle.blink_machine.specs.declared.machine.State.TheVariants.{Start, Posting}
use Rattle.blink_steps.specs.declared.seat.WorkerState.{WorkerState}
use Rattle.blink_steps.specs.declared.seat.Working.{Working}
use Rattle.blink_machine.specs.declared.step.Step.TheVariants.{Waited}
use Rattle.blink_steps.specs.Acts.{Acts}
use Rattle.blink_machine.specs.{PlainMachine, fresh}
use Rattle.blink_steps.specs.Pick.{IsIdleWorker, WouldWait}
use Rattle.blink_steps.specs.Run.{PlainRun, IsNextOf, idle_seat, busy_seat}
use Rattle.blink_steps.proofs.runs.TurnFromItsParts.{seat_with}

-- an operation that no step has taken doesn't wait
pub fresh_moves : (run : PlainRun) (worker : ℕ) (op : Op) (m : PlainMachine) → m ≡ fresh run.shared.store.fan op → Acts run.shared worker m Waited m run.shared → ⊥
fresh_moves run worker op m is waits =
    let start = subst (λ (n : PlainMachine). Acts run.shared worker n Waited n run.shared) is waits in
    let none : Start ≡ Posting = start.0.posting in
    cc

-- a seat has one content
pub one_seat : (run : PlainRun) (worker : ℕ) (seat other : WorkerState) → slice_get run.seats worker ≡ Some seat → slice_get run.seats worker ≡ Some other → seat.working ≡ other.working
one_seat run worker seat other seated also = let same : seat ≡ other = cc in ap (λ (s : WorkerState). s.working) same

module _ (run : PlainRun) (worker : ℕ) (seat : WorkerState) (seated : slice_get run.seats worker ≡ Some seat) where
  -- a worker is idle where its seat has nothing under way
  pub idle_from : (working : Option Working) (answer : Bool) → seat.working ≡ working → is_some working ≡ not answer
      → (answer ≡ true → IsIdleWorker run worker) × (IsIdleWorker run worker → answer ≡ true)
  idle_from None true is some = (λ yes. record { next = seat.next; seated = seated ∙ ap Some (seat_with seat None is) }, λ idle. refl)
  idle_from None false is some = absurd (cc)
  idle_from (Some working) true is some = absurd (cc)
  idle_from (Some working) false is some = (λ yes. absurd (cc), λ idle. let same = one_seat run worker seat (idle_seat idle.next) seated idle.seated in absurd (cc))

  -- the operation under way is the worker's next
  pub next_of_busy : (working : Working) → seat.working ≡ Some working → IsNextOf run worker working.place working.machine seat.next
  next_of_busy working is = IsNextOf.under_way (seated ∙ ap Some (seat_with seat (Some working) is))

  -- and it has no other
  pub only_next : (working : Working) (place : ℕ) (m : PlainMachine) (next : Option ℕ) → seat.working ≡ Some working → IsNextOf run worker place m next → m ≡ working.machine
  only_next working place m next is (IsNextOf.under_way busy) =
      let same = one_seat run worker seat (busy_seat place m next) seated busy in
      let one : record { place = place; machine = m } ≡ working = cc in
      ap (λ (w : Working). w.machine) one
  only_next working place m next is (IsNextOf.taken_on op idle there fresh after) = let same = one_seat run worker seat (idle_seat (Some place)) seated idle in absurd (cc)

  -- so it waits where its operation does
  pub waits_busy : (working : Working) (answer : Bool) → seat.working ≡ Some working
      → (answer ≡ true → Acts run.shared worker working.machine Waited working.machine run.shared) × (Acts run.shared worker working.machine Waited working.machine run.shared → answer ≡ true)
      → (answer ≡ true → WouldWait run worker) × (WouldWait run worker → answer ≡ true)
  waits_busy working answer is exact = (
    λ yes. record { place = working.place; m = working.machine; next = seat.next; is_next = next_of_busy working is; waits = exact.0 yes },
    λ wait. exact.1 (subst (λ (m : PlainMachine). Acts run.shared worker m Waited m run.shared) (only_next working wait.place wait.m wait.next is wait.is_next) wait.waits),
  )

  -- an idle worker doesn't wait
  pub idle_never_waits : seat.working ≡ None → WouldWait run worker → ⊥
  idle_never_waits is wait = next_waits wait.place wait.m wait.next wait.is_next wait.waits
    where
      next_waits : (place : ℕ) (m : PlainMachine) (next : Option ℕ) → IsNextOf run worker place m next → Acts run.shared worker m Waited m run.shared → ⊥
      next_waits place m next (IsNextOf.under_way busy) waits = let same = one_seat run worker seat (busy_seat place m next) seated busy in cc
      next_waits place m next (IsNextOf.taken_on op idle there is_fresh after) waits = fresh_moves run worker op m is_fresh waits
