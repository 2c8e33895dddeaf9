use Rattle.std.proofs.Common.{refl, ap, arith, eqb-true}
use Rattle.std.proofs.lemmas.Bool.{eqb-false}
use Rattle.atomic_table.specs.Seated.{TableId}
use Rattle.blink_index.specs.{map_of}
use Rattle.blink_map.proofs.SlotIsTaken.{slot_is_taken}
use Rattle.blink_map.proofs.growing.GrowingMap.try_take_slot.Goals as goal

pub compare_exchange-found-requires : goal.compare_exchange-found-requires
compare_exchange-found-requires c =
    let map = c.args.self.now in
    let inside = c.requires.in_range in
    let same = ap (λ (t : TableId). t.slots) c.requires.its_own in
    let words = map.words in (
      c.requires.its_own,
      omega (arith, words, inside, same),
      slot_is_taken (map_of map.table.shared.key.index.value) map.table.shared.table_id.slots c.args.seat.now.id c.args.slot c.args.seat.now.me c.requires.some_slot (omega (arith, inside, same)),
    )

pub returns-clause-taken : goal.returns-clause-taken
returns-clause-taken c is = (c.compare_exchange-found.ensures.2 c.args.slot refl).got (eqb-true _ _ is)

pub returns-clause-lost : goal.returns-clause-lost
returns-clause-lost c is = (c.compare_exchange-found.ensures.2 c.args.slot refl).lost (eqb-false _ _ is)
