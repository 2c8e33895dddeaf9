use Rattle.std.proofs.Common.{◌<◌, ◌≤◌, ◌+◌, ◌*◌, subst, arith}
use Rattle.blink_rows.specs.declared.limits.TheConstants.{HEAD_WORDS, MAX_RECORDS, ROW_WORDS}
use Rattle.blink_rows.specs.declared.naming.Records.{Records}
use Rattle.blink_live.proofs.live.Live.write_record.Goals as goal

pub has_room-requires : goal.has_room-requires
has_room-requires c =
    let to = c.requires.changes.1 in
    let base = to.base in
    let few = (to.version.version.logged to.version.lawful).lawful.at_most_fan in
    omega (arith, base, few)

pub append_leaf-requires-clause-few : goal.append_leaf-requires-clause-few
append_leaf-requires-clause-few c = subst (λ (told : Records). told.count < MAX_RECORDS) c.records_in.ensures.records (c.has_room.ensures.0 c.if-has_room.true).0

pub append_leaf-requires-clause-inside : goal.append_leaf-requires-clause-inside
append_leaf-requires-clause-inside c = subst (λ (told : Records). HEAD_WORDS + 2 * (c.args.spot.now.base + told.count + 1) ≤ ROW_WORDS) c.records_in.ensures.records (c.has_room.ensures.0 c.if-has_room.true).1
