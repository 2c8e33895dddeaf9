use Rattle.std.proofs.Common.{◌≡◌, ℕ, Option, Some, None, true, false, refl, sym, ap, ◌∙◌}
use Rattle.std.specs.List.{slice_get}
use Rattle.std.specs.Option.{is_some}
use Rattle.blink_steps.proofs.runs.TurnFromItsParts.{seat_found, seat_with, turn_idles}
use Rattle.blink_steps.specs.declared.seat.Working.{Working}
use Rattle.blink_steps.specs.Run.{idle_seat}
use Rattle.blink_steps.specs.RunView.{plain}
use Rattle.blink_steps.specs.Seats.{HasOperation}
use Rattle.blink_steps.specs.RunInvariant.{CanTakeTurn}
use Rattle.blink_steps.proofs.run.Run.turn.Goals as goal
use Rattle.blink_steps.proofs.run.Run.turn.Goals.{After-is_some}

found : (c : After-is_some) → slice_get c.self.inside.seats.items c.args.worker ≡ Some c.index-seat.result.now
found c =
    let ready : CanTakeTurn (plain c.self.inside) c.args.worker = rw (← c.self.view_is) at c.requires in
    seat_found c.self.inside.seats.items c.from.result c.args.worker c.index-seat.result.now c.from.ensures ready.seated c.index-seat.ensures

busy : (c : After-is_some) (working : Option Working) → c.index-seat.result.now.working ≡ working → is_some working ≡ true → HasOperation (plain c.self.inside) c.args.worker
busy c None is some = absurd (cc)
busy c (Some working) is some = record {
  place = working.place;
  m = working.machine;
  next = c.index-seat.result.now.next;
  seated = found c ∙ ap Some (seat_with c.index-seat.result.now (Some working) is);
}

idle : (c : After-is_some) (working : Option Working) (next : Option ℕ) → c.index-seat.result.now.working ≡ working → is_some working ≡ false → c.index-seat.result.now.next ≡ next
    → slice_get c.self.inside.seats.items c.args.worker ≡ Some (idle_seat next)
idle c (Some working) next is some next_is = absurd (cc)
idle c None next is some next_is = found c ∙ ap Some (seat_with c.index-seat.result.now None is ∙ ap idle_seat next_is)

pub go_on-requires-clause-busy : goal.go_on-requires-clause-busy
go_on-requires-clause-busy c =
    let seen = (goal.at.go_on-requires-clause-busy c).After-is_some in
    rw (← c.self.view_is) (busy seen c.index-seat.result.now.working refl (sym c.is_some.ensures ∙ c.if-is_some.true))

pub begin-requires-clause-idle : goal.begin-requires-clause-idle
begin-requires-clause-idle c =
    let seen = (goal.at.begin-requires-clause-idle c).After-is_some in
    rw (← c.self.view_is) (idle seen c.index-seat.result.now.working (Some c.in-Some.place) refl (sym c.is_some.ensures ∙ c.if-is_some.false) c.in-Some.is)

pub returns-in-None-clause-turn : goal.returns-in-None-clause-turn
returns-in-None-clause-turn c =
    let seen = (goal.at.returns-in-None-clause-turn c).After-is_some in
    rw (← c.self.view_is) (turn_idles (plain c.self.inside) c.args.worker (idle seen c.index-seat.result.now.working None refl (sym c.is_some.ensures ∙ c.if-is_some.false) c.in-None.is))
