use Rattle.std.proofs.Common.{take}
use Rattle.blink_live.proofs.scanned.LeavesAreGiven.{first_is_further, given_first}
use Rattle.blink_live.proofs.live.Live.copy_changed.Goals as goal

pub returns-clause-copied : goal.returns-clause-copied
returns-clause-copied c =
    let leaf = c.requires.leaf in
    let edited = c.copy_edited-copied in
    let given = c.give.ensures in
    given_first leaf c.args.range.hi edited.result.next (take edited.result.filled edited.new.leaf) (edited.ensures.copied leaf.leaf leaf.reads) (edited.ensures.ends leaf.leaf leaf.reads)
    c.args.into.now c.give.new.into c.give.result.filled c.give.result.next given.filled given.within given.all given.some

pub returns-clause-further : goal.returns-clause-further
returns-clause-further c =
    let leaf = c.requires.leaf in
    let edited = c.copy_edited-copied in
    let given = c.give.ensures in
    first_is_further leaf c.args.range.hi edited.result.next (take edited.result.filled edited.new.leaf) (edited.ensures.copied leaf.leaf leaf.reads) (edited.ensures.ends leaf.leaf leaf.reads)
    c.args.into.now c.give.new.into c.give.result.filled c.give.result.next given.filled given.within given.all given.some c.requires.some_place
