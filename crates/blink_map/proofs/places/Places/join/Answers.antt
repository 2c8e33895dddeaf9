use Rattle.std.proofs.Common.{None, Some, ap, ◌∙◌, arith}
use Rattle.blink_map.specs.Joining.{map_at}
use Rattle.blink_map.specs.Resting.{PlaceSeat}
use Rattle.blink_map.proofs.PlacesKept.{only_slot, slot_then, space_is_given}
use Rattle.blink_map.proofs.places.Places.join.Goals as goal

pub exchange-requires : goal.exchange-requires
exchange-requires c =
    let got = c.take_session.ensures.got c.if-take_session.true in
    (c.take_session.ensures.table, (Some got.0, only_slot c.loop-place.place (Some got.0) c.take_session.new.seat.me.1 got.2))

pub store-requires : goal.store-requires
store-requires c =
    let places = c.args.self.now in
    let got = c.take_session.ensures.got c.if-take_session.true in
    let inside = c.take_session.ensures.in_range in
    let held = ap (λ (me : PlaceSeat). me.1) c.exchange.ensures.3 ∙ slot_then c.loop-place.place (Some got.0) None c.take_session.new.seat.me.1 got.2 in (
      c.exchange.ensures.0 ∙ c.take_session.ensures.table,
      omega (arith, places.words, inside),
      space_is_given (map_at places) places.table.shared.table_id.slots c.exchange.new.seat.id c.loop-place.place c.exchange.new.seat.me None held inside,
    )
