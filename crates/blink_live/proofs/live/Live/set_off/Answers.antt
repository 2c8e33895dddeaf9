use Rattle.blink_live.specs.Straight.{wanting}
use Rattle.blink_live.proofs.changed.UpdatesBegin.{can_update, is_under_way, some_latch_for}
use Rattle.blink_live.proofs.live.Live.set_off.Goals as goal

pub returns : goal.returns
returns c =
    let came = c.come_to_change.ensures in
    is_under_way c.args.self.now c.args.op c.args.seat.now c.come_to_change.new.seat (wanting c.args.self.now.fan c.args.op c.come_to_change.new.descent) c.args._room.now
    (can_update c.args.self.now c.args.op c.args.seat.now c.requires.seat c.requires.updates c.requires.fits c.requires.may c.requires.can_begin came.rows came.pages (some_latch_for c.args.op c.args.seat.now.me.0 c.args._room.now.shelf c.requires.updates c.requires.enough c.requires.shelved c.requires.can_begin.rows came.rows.0))
    came.same_table came.read came.at_leaf c.requires.room c.requires.shelved c.requires.enough
