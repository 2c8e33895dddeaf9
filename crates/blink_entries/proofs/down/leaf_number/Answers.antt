use Rattle.std.proofs.Common.{◌≡◌, ◌-◌, ◌<◌, ◌≤◌, length, ap, ◌∙◌, arith}
use Rattle.std.proofs.lemmas.Option.{slice_get-get_or}
use Rattle.blink_page.specs.declared.limits.TheConstants.{GREATEST_KEY}
use Rattle.blink_entries.proofs.WayDown.{begins_at_root, page_on_the_way, goes_down, falls, key_on_the_way, never_right}
use Rattle.blink_entries.proofs.down.leaf_number.Goals as goal

pub way-init : goal.way-init
way-init c =
    let own : c.behind-store.inside.leftmost.items ≡ c.args.store.now.prime = c.behind-store.view_is ∙ c.prime.ensures.prime in
    let read : c.deref.result.now ≡ c.args.store.now.prime = c.deref.ensures.0 ∙ own in
    let count : c.len.result ≡ length c.args.store.now.prime = c.len.ensures.value ∙ ap length own in
    let inside : length c.args.store.now.prime - 1 < length c.args.store.now.prime = omega (arith, c.prime.ensures.some_level) in
    let in_range : c.args.key ≤ GREATEST_KEY = omega (arith, c.ranges.key.fits) in
    rw (read, count) (begins_at_root c.args.store.now c.requires c.args.key in_range _ (slice_get-get_or c.args.store.now.prime (length c.args.store.now.prime - 1) 0 inside))

pub read-page-requires : goal.read-page-requires
read-page-requires c =
    let in_range : c.args.key ≤ GREATEST_KEY = omega (arith, c.ranges.key.fits) in
    page_on_the_way c.args.store.now c.requires c.args.key in_range c.way.number c.way.invariant

pub way-smaller-in-Right : goal.way-smaller-in-Right
way-smaller-in-Right c =
    let in_range : c.args.key ≤ GREATEST_KEY = omega (arith, c.ranges.key.fits) in
    absurd (never_right c.args.store.now c.requires c.args.key in_range c.way.number c.way.invariant c.read-page.result.now c.read-page.ensures.page c.in-Right.ensures.0)

pub way-preserved-in-Right : goal.way-preserved-in-Right
way-preserved-in-Right c =
    let in_range : c.args.key ≤ GREATEST_KEY = omega (arith, c.ranges.key.fits) in
    absurd (never_right c.args.store.now c.requires c.args.key in_range c.way.number c.way.invariant c.read-page.result.now c.read-page.ensures.page c.in-Right.ensures.0)

pub way-smaller : goal.way-smaller
way-smaller c =
    let in_range : c.args.key ≤ GREATEST_KEY = omega (arith, c.ranges.key.fits) in
    falls c.args.store.now c.requires c.args.key in_range c.way.number c.way.invariant c.read-page.result.now c.read-page.ensures.page c.in-Down.child c.in-Down.ensures.1 c.in-Down.ensures.2

pub way-preserved : goal.way-preserved
way-preserved c =
    let in_range : c.args.key ≤ GREATEST_KEY = omega (arith, c.ranges.key.fits) in
    goes_down c.args.store.now c.requires c.args.key in_range c.way.number c.way.invariant c.read-page.result.now c.read-page.ensures.page c.in-Down.child c.in-Down.ensures.1 c.in-Down.ensures.0 c.in-Down.ensures.2

pub returns-in-Here : goal.returns-in-Here
returns-in-Here c =
    let in_range : c.args.key ≤ GREATEST_KEY = omega (arith, c.ranges.key.fits) in
    record {
      leaf = c.read-page.result.now;
      there = c.read-page.ensures.page;
      is_leaf = c.in-Here.ensures.1;
      belongs = key_on_the_way c.args.store.now c.requires c.args.key in_range c.way.number c.way.invariant c.read-page.result.now c.read-page.ensures.page;
    }
