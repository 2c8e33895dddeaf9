use Rattle.std.proofs.Common.{Some, refl, ap, ◌∙◌, arith}
use Rattle.blink_map.specs.Joining.{map_at}
use Rattle.blink_map.specs.Resting.{PlaceSeat}
use Rattle.blink_map.proofs.PlacesKept.{session_is_given, slot_then}
use Rattle.blink_map.proofs.places.Places.leave.Goals as goal

pub store-requires : goal.store-requires
store-requires c =
    let places = c.args.self.now in
    let session = c.args.session in
    let got = c.take_space.ensures.got c.if-take_space.true in
    let inside = c.take_space.ensures.in_range in
    let held = ap (λ (me : PlaceSeat). me.1) c.exchange.ensures.3 ∙ slot_then c.args.session.slot got.0 (Some session) c.take_space.new.seat.me.1 got.1 in (
      c.exchange.ensures.0 ∙ c.take_space.ensures.table,
      omega (arith, places.words, inside),
      session_is_given (map_at places) places.table.shared.table_id.slots c.exchange.new.seat.id c.args.session.slot c.exchange.new.seat.me (Some session) held inside session refl c.requires.its_own,
    )
