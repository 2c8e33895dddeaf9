use Rattle.std.proofs.Common.{ℕ, ◌+◌, ◌-◌, ◌<◌, ◌≤◌, List, length, take, sym, subst, arith}
use Rattle.std.proofs.lemmas.List.{length-take-le}
use Rattle.std.specs.Prelude.{set}
use Rattle.blink_batch.specs.declared.Entry.{Entry}
use Rattle.blink_live.proofs.scanned.EntriesAreEdited.{HasClosed, closed_more, closed_none, removed_outside, removed_there}
use Rattle.blink_live.proofs.edit.remove_one.Goals as goal

place_within : (filled : ℕ) (leaf : List Entry) (at : ℕ) → filled ≤ length leaf → at ≤ length (take filled leaf) → at ≤ filled
place_within filled leaf at room within = let long = length-take-le filled leaf room in omega (arith, long, within)

pub returns-then-at-filled-clause-copied : goal.returns-then-at-filled-clause-copied
returns-then-at-filled-clause-copied c known later is from stop low high was =
    absurd (removed_outside c.args.key from stop known later c.args.filled c.place_in-at.result c.args.leaf.now c.requires.within is low high c.place_in-at.ensures.place was c.if-at-filled.true)

pub loop-next-init : goal.loop-next-init
loop-next-init c =
    let room = c.requires.within in
    let within = place_within c.args.filled c.args.leaf.now c.place_in-at.result room c.place_in-at.ensures.within in
    let apart = c.if-at-filled.false in
    closed_none c.place_in-at.result c.args.leaf.now (omega (arith, room, within, apart))

pub loop-next-preserved : goal.loop-next-preserved
loop-next-preserved c =
    let room = c.requires.within in
    let inside = c.loop-next-test.true in
    subst (λ (e : Entry). HasClosed c.place_in-at.result (c.loop-next.next + 1) c.args.leaf.now (set c.loop-next.leaf (c.loop-next.next - 1) e)) (sym c.set_entry.ensures)
    (closed_more c.place_in-at.result c.loop-next.next c.args.leaf.now c.loop-next.leaf c.loop-next.auto.next (omega (arith, room, inside)) c.loop-next.auto.leaf c.loop-next.invariant)

pub returns-clause-copied : goal.returns-clause-copied
returns-clause-copied c known later is from stop low high was =
    let room = c.requires.within in
    let within = place_within c.args.filled c.args.leaf.now c.place_in-at.result room c.place_in-at.ensures.within in
    let apart = c.if-at-filled.false in
    let inside : c.place_in-at.result < c.args.filled = omega (arith, within, apart) in
    let ends = c.loop-next.auto.next-end (omega (arith, inside)) in
    let over = c.loop-next-test.false in
    removed_there c.args.key from stop known later c.args.filled c.place_in-at.result c.args.leaf.now room is low high c.place_in-at.ensures.place was c.loop-next.next c.loop-next.leaf inside
    (omega (arith, ends, over)) c.loop-next.invariant
