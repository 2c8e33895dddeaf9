use Rattle.std.proofs.Common.{◌≡◌, ◌+◌, sym, subst, arith}
use Rattle.blink_live.specs.Editing.{IsPlace, lesser}
use Rattle.blink_live.proofs.scanned.EntriesAreEdited.{lesser_is_place, lesser_within}
use Rattle.blink_live.proofs.edit.place_in.Goals as goal

pub returns-clause-place : goal.returns-clause-place
returns-clause-place c ascends =
    let lines = c.lines_below.ensures.lines ascends in
    let one = c.one_if_below.ensures.one ascends in
    let two = c.one_if_below-2.ensures.one ascends in
    let three = c.one_if_below-3.ensures.one ascends in
    let four = c.one_if_below-4.ensures.one ascends in
    let all : c.min-first.result + c.one_if_below.result + c.one_if_below-2.result + c.one_if_below-3.result + c.one_if_below-4.result ≡ lesser c.args.key c.args.entries.now =
    grind (arith, lesser_within c.args.key c.args.entries.now, lines, c.if-entries-lt-LINE.false, c.min-first.ensures, one, two, three, four) in
    subst (IsPlace c.args.key c.args.entries.now) (sym all) (lesser_is_place c.args.key c.args.entries.now ascends)

pub returns-then-entries-lt-LINE-clause-place : goal.returns-then-entries-lt-LINE-clause-place
returns-then-entries-lt-LINE-clause-place c ascends =
    subst (IsPlace c.args.key c.args.entries.now) (sym c.count_below.ensures.count) (lesser_is_place c.args.key c.args.entries.now ascends)

pub returns-then-entries-lt-LINE-clause-within : goal.returns-then-entries-lt-LINE-clause-within
returns-then-entries-lt-LINE-clause-within c =
    let all = c.count_below.ensures.count in
    let within = lesser_within c.args.key c.args.entries.now in
    omega (arith, all, within)
