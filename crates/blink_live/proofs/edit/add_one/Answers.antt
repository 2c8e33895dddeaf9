use Rattle.std.proofs.Common.{◌-◌, sym, subst, arith}
use Rattle.std.specs.Prelude.{set}
use Rattle.blink_batch.specs.declared.Entry.{Entry}
use Rattle.blink_live.proofs.scanned.EntriesAreEdited.{HasMoved, added_there, lesser_before, lesser_none, moved_more, moved_none}
use Rattle.blink_live.proofs.edit.add_one.Goals.{else-loop-at-test, then-loop-at-test+then-before-key}
use Rattle.blink_live.proofs.edit.add_one.Goals as goal

pub loop-at-init : goal.loop-at-init
loop-at-init c = moved_none c.args.key c.args.filled c.args.leaf.now c.requires.room

pub loop-at-preserved : goal.loop-at-preserved
loop-at-preserved c =
    let some = c.loop-at-test.true in
    subst (λ (e : Entry). HasMoved c.args.key c.args.filled (c.loop-at.at - 1) c.args.leaf.now (set c.loop-at.leaf c.loop-at.at e)) (sym c.set_entry.ensures)
    (moved_more c.args.key c.args.filled c.loop-at.at c.args.leaf.now c.loop-at.leaf c.requires.room c.loop-at.auto.leaf c.loop-at.invariant (c.loop-at.at - 1) (omega (arith, some)) c.if-before-key.false)

pub returns-clause-copied : goal.returns-clause-copied
returns-clause-copied c known later is from stop low high was =
    added_there c.args.key c.args.filled c.loop-at.at c.args.leaf.now c.loop-at.leaf c.requires.room c.loop-at.auto.leaf c.loop-at.invariant c.args.pointer from stop known later is low high
    (elim c.loop-at-test.branch [
      | else-loop-at-test w ↦ lesser_none c.args.key c.args.filled c.loop-at.at c.args.leaf.now c.loop-at.leaf c.requires.room c.loop-at.auto.leaf c.loop-at.invariant w.loop-at-test.false
      | then-loop-at-test+then-before-key w ↦
          let some = w.loop-at-test.true in
          lesser_before c.args.key c.args.filled c.loop-at.at c.args.leaf.now c.loop-at.leaf c.requires.room c.loop-at.auto.leaf c.loop-at.invariant (c.loop-at.at - 1) (omega (arith, some))
          was.ascending w.if-before-key.true
    ])
    was
