use Rattle.std.proofs.Common.{◌≡◌, ◌+◌, ◌<◌, ◌≤◌, length, get_or, Some, refl, sym, ap, ◌∙◌, subst, arith}
use Rattle.std.proofs.lemmas.Option.{slice_get-get_or, get_or_from_slice_get}
use Rattle.std.specs.List.{slice_get}
use Rattle.std.specs.Vec.{with_item}
use Rattle.blink_batch.proofs.Offered.{next_place_is}
use Rattle.blink_batch.specs.declared.Op.TheVariants.{Find}
use Rattle.blink_batch.specs.{next_place}
use Rattle.blink_steps.proofs.runs.TurnFromItsParts.{IsLinked-with_seat}
use Rattle.blink_steps.specs.declared.seat.WorkerState.{WorkerState}
use Rattle.blink_machine.specs.{PlainMachine, fresh}
use Rattle.blink_steps.specs.Run.{PlainRun, IsNextOf, idle_seat, busy_seat}
use Rattle.blink_steps.specs.RunView.{plain}
use Rattle.blink_steps.specs.RunInvariant.{CanTakeTurn}
use Rattle.blink_steps.specs.Seats.{SeatsNext}
use Rattle.blink_steps.proofs.run.Run.seat_next.Goals as goal
use Rattle.blink_steps.proofs.run.Run.seat_next.Goals.{After-begin}

ready_of : (c : After-begin) → CanTakeTurn (plain c.self.inside) c.args.worker
ready_of c = rw (← c.self.view_is) at c.requires.ready

idle : (c : After-begin) → slice_get c.self.inside.seats.items c.args.worker ≡ Some (idle_seat (Some c.args.place))
idle c = rw (← c.self.view_is) at c.requires.idle

own : (c : After-begin) → slice_get c.self.inside.lanes.lanes c.args.place ≡ Some c.args.worker
own c = c.self.invariant.of_lanes c.args.worker c.args.place (idle_seat (Some c.args.place)) (idle c) refl

-- the link of the place leads to the next of its lane
linked : (c : After-begin) → c.index-next.result.now ≡ next_place c.self.inside.lanes.lanes c.args.worker (c.args.place + 1)
linked c =
    let lanes = c.self.inside.lanes.lanes in
    let from : 0 ≤ c.args.place = omega arith in
    c.index-next.ensures ∙ get_or_from_slice_get c.self.inside.following.items c.args.place (next_place lanes c.args.worker (c.args.place + 1)) c.index-next.result.now (c.self.invariant.links c.args.place c.args.worker from (own c))

pub invariant_of-self : goal.invariant_of-self
invariant_of-self c =
    let seated = (goal.at.invariant_of-self c).After-begin in
    let lanes = c.self.inside.lanes.lanes in
    IsLinked-with_seat c.self.inside c.self.inside.shared c.self.inside.outcome c.from.result c.begin.new.self c.self.invariant
    (λ place found. let next : c.index-next.result.now ≡ Some place = sym (ap (λ (seat : WorkerState). seat.next) c.begin.ensures) ∙ found in
    rw c.from.ensures ((next_place_is lanes c.args.worker (c.args.place + 1) place (sym (linked seated) ∙ next)).2))

pub returns : goal.returns
returns c =
    let seated = (goal.at.returns c).After-begin in
    let ops = c.self.inside.batch in
    let op = get_or ops c.args.place (Find 0) in
    let within : c.args.place < length ops = (ready_of seated).next_of_batch c.args.place (idle seated) in
    let there : slice_get ops c.args.place ≡ Some op = slice_get-get_or ops c.args.place (Find 0) within in
    let m : PlainMachine = fresh c.self.inside.shared.store.fan op in
    let next = c.index-next.result.now in
    let seat : c.begin.new.self ≡ busy_seat c.args.place m next = rw (← c.fan-fan.ensures.fan, ← c.ops.ensures.ops) c.begin.ensures in
    let P : PlainRun → Type 0 = λ old. SeatsNext old c.args.worker c.args.place (plain (record c.self.inside { seats = with_item c.self.inside.seats c.from.result c.begin.new.self })) in
    subst P c.self.view_is
    (record {
      op = op;
      m = m;
      next = next;
      same_machine = refl;
      was_next = IsNextOf.taken_on op (idle seated) there refl (linked seated);
      its_own = own seated;
      seated = rw (c.from.ensures, seat) refl;
    })
