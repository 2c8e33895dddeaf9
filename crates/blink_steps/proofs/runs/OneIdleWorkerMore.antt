-- A tree state is the same with one idle worker more.
use Rattle.std.proofs.Common.{◌≡◌, ℕ, ◌≤◌, Option, List, [], ◌∷◌, ◌++◌, length, slice_get, refl, ap, sym, inl, inr, ◌∙◌, arith}
use Rattle.std.proofs.lemmas.Bool.{cases_eq}
use Rattle.std.proofs.lemmas.Option.{slice_get_past}
use Rattle.blink_store.proofs.Offered.{slice_get-push_same, slice_get-push_other}
use Rattle.blink_machine.specs.{TellTheSame}
use Rattle.blink_machine.proofs.Offered.{step_law}
use Rattle.blink_steps.specs.declared.seat.WorkerState.{WorkerState}
use Rattle.blink_steps.specs.Laws.{IdleWorkersDontMatter, with_idle_worker}
use Rattle.blink_steps.specs.Run.{PlainRun, idle_seat, machine_of_seat, tree_state_of}

-- nobody has another operation
same_machine : (seats : List WorkerState) (next : Option ℕ) (worker : ℕ)
    → machine_of_seat (slice_get (seats ++ idle_seat next ∷ []) worker) ≡ machine_of_seat (slice_get seats worker)
same_machine seats next worker = elim (cases_eq worker (length seats)) [
  | inl same ↦
      let past : length seats ≤ worker = omega (arith, same) in
      ap (λ (at : ℕ). machine_of_seat (slice_get (seats ++ idle_seat next ∷ []) at)) same
      ∙ ap machine_of_seat (slice_get-push_same seats (idle_seat next))
      ∙ sym (ap machine_of_seat (slice_get_past seats worker past))
  | inr other ↦ ap machine_of_seat (slice_get-push_other seats worker (idle_seat next) other)
]

tell_the_same : (run : PlainRun) (next : Option ℕ) → TellTheSame (tree_state_of run) (tree_state_of (with_idle_worker run next))
tell_the_same run next = record {
  same_fan = refl;
  same_prime = refl;
  same_pages = λ number. refl;
  same_holder = λ number. refl;
  same_machines = same_machine run.seats next;
}

tell_the_same_without : (run : PlainRun) (next : Option ℕ) → TellTheSame (tree_state_of (with_idle_worker run next)) (tree_state_of run)
tell_the_same_without run next = record {
  same_fan = refl;
  same_prime = refl;
  same_pages = λ number. refl;
  same_holder = λ number. refl;
  same_machines = λ worker. sym (same_machine run.seats next worker);
}

pub idle_workers_dont_matter : IdleWorkersDontMatter
idle_workers_dont_matter run next = (
  step_law.idle_workers_dont_matter _ _ (tell_the_same_without run next),
  step_law.idle_workers_dont_matter _ _ (tell_the_same run next),
)
