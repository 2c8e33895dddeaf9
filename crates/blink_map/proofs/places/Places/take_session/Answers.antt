use Rattle.std.proofs.Common.{ℕ, Option, Some, List, ◌∷◌, ap, ◌∙◌, arith}
use Rattle.std.proofs.lemmas.Bool.{eqb-true}
use Rattle.blink_map.specs.declared.growing.Session.{Session}
use Rattle.blink_map.specs.Resting.{PlaceSeat}
use Rattle.blink_map.proofs.PlacesKept.{session_is_taken}
use Rattle.blink_map.proofs.places.Places.take_session.Goals as goal

pub compare_exchange-requires : goal.compare_exchange-requires
compare_exchange-requires g c =
    let places = c.args.self.now in
    let picked = c.requires.picked in
    let inside = c.requires.in_range in (
      c.requires.table,
      omega (arith, places.words, inside),
      session_is_taken places.table.shared.key.map.value places.table.shared.table_id.slots c.args.seat.now.id c.args.place c.args.seat.now.me g.B.Belongs.table g.B.Belongs.first picked.0 picked.1 inside,
    )

pub returns-clause-got : goal.returns-clause-got
returns-clause-got g c is =
    let picked = c.requires.picked in
    let got = c.compare_exchange.ensures.2.got (eqb-true c.compare_exchange.result 1 is) in (
      got.0,
      record { same_table = got.1.same_table ∙ picked.0; same_first = got.1.same_first ∙ picked.1 },
      ap (λ (me : PlaceSeat). me.1) got.2 ∙ ap (λ (slots : List (ℕ × Option Session)). (c.args.place, Some got.0) ∷ slots) c.requires.none,
    )
