use Rattle.std.proofs.Common.{◌≡◌, ◌≢◌, ℕ, ◌+◌, ◌<◌, List, [], ◌∷◌, ◌++◌, length, get_or, option_map, Option, Some, None, inl, inr, ap, ◌∙◌, refl, arith}
use Rattle.std.specs.List.{slice_get}
use Rattle.std.proofs.lemmas.Bool.{cases_eq}
use Rattle.std.proofs.lemmas.List.{get_or_default, length_push}
use Rattle.std.proofs.lemmas.Option.{slice_get_read}
use Rattle.blink_store.proofs.Offered.{slice_get-push_other, slice_get-push_same}
use Rattle.blink_steps.specs.Run.{idle_seat}
use Rattle.blink_steps.specs.declared.seat.WorkerState.{WorkerState}
use Rattle.blink_steps.proofs.run.idle_seats.Goals as goal

-- one seat more
one_more : (firsts : List (Option ℕ)) (seats : List WorkerState) (worker : ℕ) → worker < length firsts → length seats ≡ worker
    → ((other : ℕ) → other < worker → slice_get seats other ≡ option_map idle_seat (slice_get firsts other))
    → (other : ℕ) → other < worker + 1 → slice_get (seats ++ idle_seat (get_or firsts worker None) ∷ []) other ≡ option_map idle_seat (slice_get firsts other)
one_more firsts seats worker within as_many idle other below = elim (cases_eq other worker) [
  | inl same ↦
      let first : slice_get firsts worker ≡ Some (get_or firsts worker None) = slice_get_read firsts (length firsts) worker (get_or firsts worker None) refl within (get_or_default firsts worker None (get_or firsts worker None) within) in
      rw (same, first, ← as_many) (slice_get-push_same seats (idle_seat (get_or firsts (length seats) None)))
  | inr different ↦
      let past : other ≢ length seats = λ at_end. different (at_end ∙ as_many) in
      let below_worker : other < worker = omega arith in
      slice_get-push_other seats other (idle_seat (get_or firsts worker None)) past ∙ idle other below_worker
]

pub loop-worker-init : goal.loop-worker-init
loop-worker-init c = record {
  reserved = c.in_ok-seats.ensures.capacity;
  a_seat_each = ap length c.in_ok-seats.ensures.items;
  all_idle = λ other below. absurd (omega arith);
}

pub loop-worker-preserved : goal.loop-worker-preserved
loop-worker-preserved c =
    let kept = c.loop-worker.invariant in
    let worker = c.loop-worker.worker in
    let within : worker < length c.args.firsts.now = omega (arith, c.told-firsts) in
    record {
      reserved = rw c.push_reserved.ensures.capacity kept.reserved;
      a_seat_each = rw c.push_reserved.ensures.items (length_push _ _ ∙ ap (λ (n : ℕ). n + 1) kept.a_seat_each);
      all_idle = rw c.push_reserved.ensures.items (one_more c.args.firsts.now c.loop-worker.seats.items worker within kept.a_seat_each kept.all_idle);
    }
