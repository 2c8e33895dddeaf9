use Rattle.std.proofs.Common.{◌≡◌, length, set, get_or, length-set}
use Rattle.std.specs.List.{refill}
use Rattle.blink_page.specs.Place.{place_of}
use Rattle.blink_page.proofs.ChangedEntries.{refill-all}
use Rattle.blink_page.proofs.WhereSearchesEnd.{posted-place}
use Rattle.blink_page.proofs.entries.post_at.Goals as goal

pub returns-clause-entries : goal.returns-clause-entries
returns-clause-entries g c =
    let placed = posted-place c.args.separator c.args.new (0, 0) c.args.items.now.items c.requires.below_last in
    let at : c.args.at ≡ place_of c.args.separator c.args.items.now.items = c.requires.place in
    let written = set c.deref_mut.result.now c.args.at ((get_or c.deref.result.now c.args.at (0, 0)).0, c.args.new) in
    let kept : refill (length c.args.items.now.items) c.args.items.now.items written ≡ written =
    refill-all c.args.items.now.items written (rw (length-set, c.deref_mut.ensures.value)) in
    cc
