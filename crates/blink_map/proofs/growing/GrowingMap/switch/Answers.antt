use Rattle.std.proofs.Common.{arith}
use Rattle.blink_index.specs.{map_of}
use Rattle.blink_map.proofs.MapSwitches.{map_switches}
use Rattle.blink_map.proofs.growing.GrowingMap.switch.Goals as goal

pub compare_exchange_with-requires : goal.compare_exchange_with-requires
compare_exchange_with-requires c =
    let map = c.args.self.now in
    let words = map.words in
    let some_slot = map.some_slot in
    let me = c.args.seat.now.me in (
      c.requires.its_own,
      omega (arith, words, some_slot),
      map_switches (map_of map.table.shared.key.index.value) map.table.shared.table_id.slots c.args.seat.now.id 0 me.0 me.1 c.args.held c.requires.follows.0 c.requires.some_slot c.requires.all c.requires.follows.1,
    )
