-- Lanes as links: at the lanes' end, and from one place further down.
use Rattle.std.proofs.Common.{◌≡◌, ℕ, ◌+◌, ◌<◌, ◌≤◌, List, length, set, get_or, replicate, Option, Some, None, ap, sym, ◌∙◌, inl, inr, arith}
use Rattle.std.proofs.lemmas.Bool.{cases_eq}
use Rattle.std.proofs.lemmas.List.{get_or-replicate}
use Rattle.std.proofs.lemmas.Option.{slice_get-get_or, slice_get_within, get_or_from_slice_get}
use Rattle.std.specs.List.{slice_get}
use Rattle.blink_batch.proofs.Offered.{next_place-end, next_place-further, next_place-here}
use Rattle.blink_batch.specs.declared.cut.TheConstants.{WORKER_LIMIT}
use Rattle.blink_batch.specs.{next_place}
use Rattle.blink_store.proofs.Offered.{slice_get-set_other, slice_get-set_same}
use Rattle.blink_steps.specs.LaneQueues.{NextInLane, FirstInLane}

-- at the lanes' end no place is left
pub NextInLane-end : (lanes : List ℕ) (following : List (Option ℕ)) → NextInLane lanes following (length lanes)
NextInLane-end lanes following place worker past own = absurd (omega (arith, slice_get_within lanes place worker own))

pub FirstInLane-end : (lanes : List ℕ) → FirstInLane lanes (replicate WORKER_LIMIT None) (length lanes)
FirstInLane-end lanes worker within =
    let past : length lanes ≤ length lanes = omega arith in
    rw (next_place-end lanes worker (length lanes) past)
    (slice_get-get_or (replicate WORKER_LIMIT None) worker None within ∙ ap Some (get_or-replicate WORKER_LIMIT worker None None within))

-- one place further down, where `from` is the place after it
module _ (lanes : List ℕ) (firsts : List (Option ℕ)) (from place lane : ℕ) (after : from ≡ place + 1) (within : place < length lanes) (is_lane : get_or lanes place 0 ≡ lane) (worker_lane : lane < WORKER_LIMIT) (are_firsts : FirstInLane lanes firsts from) where
  pub NextInLane-more : (following : List (Option ℕ)) → length following ≡ length lanes → NextInLane lanes following from → NextInLane lanes (set following place (get_or firsts lane None)) place
  NextInLane-more following as_many next_in_lane other worker above own = elim (cases_eq other place) [
    | inl same ↦
        let here : slice_get lanes place ≡ Some (get_or lanes place 0) = slice_get-get_or lanes place 0 within in
        let worker_is : worker ≡ lane = cc in
        let in_following : place < length following = omega arith in
        let first : slice_get firsts lane ≡ Some (next_place lanes lane from) = are_firsts lane worker_lane in
        let next : get_or firsts lane None ≡ next_place lanes lane (place + 1) =
        get_or_from_slice_get firsts lane (next_place lanes lane from) None first ∙ ap (λ (n : ℕ). next_place lanes lane n) after in
        rw (same, worker_is, ← next) (slice_get-set_same following place (get_or firsts lane None) in_following)
    | inr different ↦
        let above_too : from ≤ other = omega arith in
        rw (slice_get-set_other following place other (get_or firsts lane None) different) (next_in_lane other worker above_too own)
  ]

  pub FirstInLane-more : FirstInLane lanes (set firsts lane (Some place)) place
  FirstInLane-more worker a_worker = elim (cases_eq worker lane) [
    | inl same ↦
        let in_firsts : lane < length firsts = slice_get_within firsts lane (next_place lanes lane from) (are_firsts lane worker_lane) in
        rw (same, next_place-here lanes lane place within is_lane) (slice_get-set_same firsts lane (Some place) in_firsts)
    | inr different ↦
        let others : get_or lanes place 0 ≡ worker → ⊥ = λ own. different (sym own ∙ is_lane) in
        rw (slice_get-set_other firsts lane worker (Some place) different, next_place-further lanes worker place within others, ← after) (are_firsts worker a_worker)
  ]
