use Rattle.std.proofs.Common.{◌≡◌, length, set, length-set}
use Rattle.std.specs.List.{refill}
use Rattle.blink_page.specs.Place.{place_of}
use Rattle.blink_page.proofs.ChangedEntries.{refill-all}
use Rattle.blink_page.proofs.entries.set_at.Goals as goal

pub returns : goal.returns
returns g c =
    let at : c.args.at ≡ place_of c.args.key c.args.items.now.items = c.requires.place in
    let written = set c.deref_mut.result.now c.args.at (c.args.key, c.args.value) in
    let kept : refill (length c.args.items.now.items) c.args.items.now.items written ≡ written =
    refill-all c.args.items.now.items written (rw (length-set, c.deref_mut.ensures.value)) in
    cc
