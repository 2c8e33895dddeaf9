use Rattle.std.proofs.Common.{◌≡◌, ℕ, set, Result, Option, Some, None, Ok, Err, IfOk, OnErr, refl, sym, ap, subst, ◌∙◌, arith}
use Rattle.std.proofs.lemmas.Result.{err_from_is_err_and}
use Rattle.std.specs.List.{slice_get}
use Rattle.blink_batch.specs.declared.Answer.{Answer}
use Rattle.blink_steps.proofs.runs.TurnFromItsParts.{decides_now-before, seat_found, seat_with, seats-same, working_kept, IsLinked-with_seat, turn_moves, turn_waits}
use Rattle.blink_batch.specs.declared.step_error.StepError.{StepError}
use Rattle.blink_steps.specs.declared.seat.WorkerState.{WorkerState}
use Rattle.blink_machine.specs.declared.step.Step.{Step}
use Rattle.blink_steps.specs.Acts.{Acts}
use Rattle.blink_steps.specs.Outcome.{recorded}
use Rattle.blink_machine.specs.{PlainMachine, goes_on}
use Rattle.blink_steps.specs.Run.{IsNextOf}
use Rattle.blink_steps.specs.RunView.{plain}
use Rattle.blink_steps.specs.Seats.{working_after, left_in_seat, answer_in_seat}
use Rattle.blink_steps.specs.RunInvariant.{CanTakeTurn}
use Rattle.blink_steps.proofs.run.Run.go_on.Goals as goal
use Rattle.blink_steps.proofs.run.Run.go_on.Goals.{In-Some, After-answer-before, After-forget_ended}

ready_of : (c : In-Some) → CanTakeTurn (plain c.self.inside) c.args.worker
ready_of c = rw (← c.self.view_is) at c.requires.ready

found : (c : In-Some) → slice_get c.self.inside.seats.items c.args.worker ≡ Some c.index_mut-seat.result.now
found c = seat_found c.self.inside.seats.items c.from.result c.args.worker c.index_mut-seat.result.now c.from.ensures (ready_of c).seated c.index_mut-seat.ensures.value

next_of : (c : In-Some) → IsNextOf (plain c.self.inside) c.args.worker c.in-Some.working.place c.in-Some.working.machine c.index_mut-seat.result.now.next
next_of c = IsNextOf.under_way (found c ∙ ap Some (seat_with c.index_mut-seat.result.now (Some c.in-Some.working) c.in-Some.is))

before_is : (c : After-answer-before) → c.answer-before.result ≡ c.in-Some.working.machine.answer
before_is c = c.answer-before.ensures ∙ ap answer_in_seat (seat_with c.index_mut-seat.result.now (Some c.in-Some.working) c.in-Some.is)

pub act-acted-requires : goal.act-acted-requires
act-acted-requires c =
    let some = (goal.at.act-acted-requires c).In-Some in
    let able = (ready_of some).can_act c.in-Some.working.place c.in-Some.working.machine c.index_mut-seat.result.now.next (next_of some) in
    (c.in-Some.working, c.in-Some.is, able)

pub note-requires-clause-place : goal.note-requires-clause-place
note-requires-clause-place c =
    let some = (goal.at.note-requires-clause-place c).In-Some in
    (ready_of some).place_of_batch c.in-Some.working.place c.in-Some.working.machine c.index_mut-seat.result.now.next (next_of some)

pub note-requires-clause-room : goal.note-requires-clause-room
note-requires-clause-room c decides =
    let some = (goal.at.note-requires-clause-room c).In-Some in
    let read = (goal.at.note-requires-clause-room c).After-answer-before in
    let before : some.in-Some.working.machine.answer ≡ None = sym (before_is read) ∙ decides_now-before c.answer-before.result c.answer-after.result decides in
    (ready_of some).room some.in-Some.working.place some.in-Some.working.machine some.index_mut-seat.result.now.next (next_of some) before

pub note-requires-clause-reads : goal.note-requires-clause-reads
note-requires-clause-reads c =
    let some = (goal.at.note-requires-clause-reads c).In-Some in
    let countable = (ready_of some).countable some.in-Some.working.place some.in-Some.working.machine some.index_mut-seat.result.now.next (next_of some) in
    omega (arith, countable.0)

pub note-requires-clause-moves : goal.note-requires-clause-moves
note-requires-clause-moves c =
    let some = (goal.at.note-requires-clause-moves c).In-Some in
    let countable = (ready_of some).countable some.in-Some.working.place some.in-Some.working.machine some.index_mut-seat.result.now.next (next_of some) in
    omega (arith, countable.1)

-- what the operation is after the step, in its seat
acted : (c : After-forget_ended) → (m : PlainMachine)
    × (c.act-acted.new.self ≡ record { working = Some (record { place = c.in-Some.working.place; machine = m }); next = c.index_mut-seat.result.now.next })
    × IfOk c.act-acted.result (λ step. Acts c.self.inside.shared c.args.worker c.in-Some.working.machine step m c.act-acted.new.shared)
    × OnErr c.act-acted.result ((m ≡ c.in-Some.working.machine) × (c.act-acted.new.shared ≡ c.self.inside.shared))
acted c = c.act-acted.ensures.acted c.in-Some.working c.in-Some.is

-- so it is of a step that was taken, and of one that was refused
taken : (P : Step → Type 0) (result : Result Step StepError) (step : Step) → result ≡ Ok step → IfOk result P → P step
taken P result step is holds = subst (λ (r : Result Step StepError). IfOk r P) is holds

refused : (P : Type 0) (result : Result Step StepError) (error : StepError) → result ≡ Err error → OnErr result P → P
refused P result error is holds = subst (λ (r : Result Step StepError). OnErr r P) is holds

after_is : (c : After-forget_ended) → c.answer-after.result ≡ (acted c).0.answer
after_is c = c.answer-after.ensures ∙ ap answer_in_seat (acted c).1

-- what is left in the seat
left : (c : After-forget_ended)
    → c.forget_ended.new.self ≡ record { working = working_after (goes_on (acted c).0 (acted c).0.state) c.in-Some.working.place; next = c.index_mut-seat.result.now.next }
left c = c.forget_ended.ensures ∙ ap left_in_seat (acted c).1

-- the seat's next place is as it was
of_lane : (c : After-forget_ended) → (place : ℕ) → c.forget_ended.new.self.next ≡ Some place → slice_get c.self.inside.lanes.lanes place ≡ Some c.from.result
of_lane c place next =
    let some = (goal.at.After-forget_ended c).In-Some in
    let was : c.index_mut-seat.result.now.next ≡ Some place = sym (ap (λ (seat : WorkerState). seat.next) (left c)) ∙ next in
    c.self.invariant.of_lanes c.from.result place c.index_mut-seat.result.now (rw c.from.ensures (found some)) was

pub invariant_of-self : goal.invariant_of-self
invariant_of-self c =
    let after = (goal.at.invariant_of-self c).After-forget_ended in
    IsLinked-with_seat c.self.inside c.act-acted.new.shared c.self.inside.outcome c.from.result c.forget_ended.new.self c.self.invariant (of_lane after)

pub invariant_of-self-in-Moved : goal.invariant_of-self-in-Moved
invariant_of-self-in-Moved c =
    let after = (goal.at.invariant_of-self-in-Moved c).After-forget_ended in
    IsLinked-with_seat c.self.inside c.act-acted.new.shared c.note.new.self c.from.result c.forget_ended.new.self c.self.invariant (of_lane after)

pub invariant_of-self-in_default-step : goal.invariant_of-self-in_default-step
invariant_of-self-in_default-step c =
    let after = (goal.at.invariant_of-self-in_default-step c).After-forget_ended in
    IsLinked-with_seat c.self.inside c.act-acted.new.shared c.self.inside.outcome c.from.result c.forget_ended.new.self c.self.invariant (of_lane after)

-- where the operation is as it was, the seats are
kept : (c : After-forget_ended) → (acted c).0 ≡ c.in-Some.working.machine → set c.self.inside.seats.items c.from.result c.forget_ended.new.self ≡ c.self.inside.seats.items
kept c unchanged =
    let some = (goal.at.After-forget_ended c).In-Some in
    let seat = c.index_mut-seat.result.now in
    let working = c.in-Some.working in
    let m = (acted c).0 in
    let ready = (ready_of some).can_act working.place working.machine seat.next (next_of some) in
    let goes : working_after (goes_on m m.state) working.place ≡ Some working = working_kept c.self.inside.shared c.args.worker working m _ ready refl unchanged in
    let same : c.forget_ended.new.self ≡ seat = left c ∙ rw goes (sym (seat_with seat (Some working) c.in-Some.is)) in
    rw (same, c.from.ensures) (seats-same c.self.inside.seats.items c.args.worker seat (found some))

pub returns-in_err-step-clause-unchanged : goal.returns-in_err-step-clause-unchanged
returns-in_err-step-clause-unchanged c =
    let after = (goal.at.returns-in_err-step-clause-unchanged c).After-forget_ended in
    let unchanged = refused _ c.act-acted.result _ c.in_err-step.was (acted after).3 in
    let seats = kept after unchanged.0 in
    let p = err_from_is_err_and c.from_residual.result c.from_residual.ensures.1 in
    rw (p.1, ← c.self.view_is, seats, unchanged.1) refl

pub returns-in-Moved-clause-turn : goal.returns-in-Moved-clause-turn
returns-in-Moved-clause-turn c =
    let some = (goal.at.returns-in-Moved-clause-turn c).In-Some in
    let read = (goal.at.returns-in-Moved-clause-turn c).After-answer-before in
    let after = (goal.at.returns-in-Moved-clause-turn c).After-forget_ended in
    let seat = c.index_mut-seat.result.now in
    let working = c.in-Some.working in
    let seats = set c.self.inside.seats.items c.from.result c.forget_ended.new.self in
    let took = taken (λ step. Acts c.self.inside.shared c.args.worker working.machine step (acted after).0 c.act-acted.new.shared) c.act-acted.result c.in_ok-step.step c.in_ok-step.was (acted after).2 in
    let acts = rw c.in-Moved.is at took in
    let seats_are = ap (λ (n : ℕ). set c.self.inside.seats.items n c.forget_ended.new.self) c.from.ensures ∙ ap (λ (s : WorkerState). set c.self.inside.seats.items c.args.worker s) (left after) in
    let recorded_is = c.note.ensures ∙ ap (λ (answer : Option Answer). recorded c.self.inside.outcome working.place c.in-Moved.kind answer c.answer-after.result) (before_is read)
    ∙ ap (λ (answer : Option Answer). recorded c.self.inside.outcome working.place c.in-Moved.kind working.machine.answer answer) (after_is after) in
    rw (← c.self.view_is) (turn_moves (plain c.self.inside) c.args.worker working.place working.machine (acted after).0 seat.next c.act-acted.new.shared (next_of some) c.in-Moved.kind seats c.note.new.self acts seats_are recorded_is)

pub returns-in_default-step : goal.returns-in_default-step
returns-in_default-step c =
    let after = (goal.at.returns-in_default-step c).After-forget_ended in
    let some = (goal.at.returns-in_default-step c).In-Some in
    let working = c.in-Some.working in
    let acts = taken (λ step. Acts c.self.inside.shared c.args.worker working.machine step (acted after).0 c.act-acted.new.shared) c.act-acted.result c.in_ok-step.step c.in_ok-step.was (acted after).2 in
    let waits = turn_waits (plain c.self.inside) c.args.worker working.place working.machine (acted after).0 c.index_mut-seat.result.now.next c.act-acted.new.shared (next_of some) c.in_ok-step.step c.in_default-step.not-Moved acts in
    let seats = kept after waits.1 in
    rw (← c.self.view_is, seats, waits.2) (record { turn = waits.0; refused = tt; unchanged = tt })
