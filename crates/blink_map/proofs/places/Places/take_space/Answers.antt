use Rattle.std.proofs.Common.{ℕ, Option, List, ◌∷◌, ap, ◌∙◌, arith}
use Rattle.std.proofs.lemmas.Bool.{eqb-true}
use Rattle.blink_map.specs.declared.growing.Session.{Session}
use Rattle.blink_map.specs.Resting.{PlaceSeat}
use Rattle.blink_map.proofs.PlacesKept.{space_is_taken}
use Rattle.blink_map.proofs.places.Places.take_space.Goals as goal

pub compare_exchange-requires : goal.compare_exchange-requires
compare_exchange-requires c =
    let places = c.args.self.now in
    let inside = c.requires.in_range in (
      c.requires.table,
      omega (arith, places.words, inside),
      space_is_taken places.table.shared.key.map.value places.table.shared.table_id.slots c.args.seat.now.id c.args.place c.args.seat.now.me inside,
    )

pub returns-clause-got : goal.returns-clause-got
returns-clause-got c is =
    let got = c.compare_exchange.ensures.2.got (eqb-true c.compare_exchange.result 0 is) in
    (got.0, ap (λ (me : PlaceSeat). me.1) got.1 ∙ ap (λ (slots : List (ℕ × Option Session)). (c.args.place, got.0) ∷ slots) c.requires.none)
