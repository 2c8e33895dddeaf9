use Rattle.std.proofs.Common.{ℕ, sym, subst, arith}
use Rattle.std.specs.Prelude.{set}
use Rattle.blink_batch.specs.{entry}
use Rattle.blink_live.specs.Scanning.{IsCopied}
use Rattle.blink_live.proofs.scanned.EntriesAreEdited.{replaced_outside, replaced_there}
use Rattle.blink_live.proofs.edit.replace_one.Goals.{else-at-copied-via-then-at-copied+else-copied-at, else-at-copied-via-else-at-copied}
use Rattle.blink_live.proofs.edit.replace_one.Goals as goal

pub returns-then-copied-at-clause-copied : goal.returns-then-copied-at-clause-copied
returns-then-copied-at-clause-copied c known later is from stop was =
    let its_key = c.if-copied-at.true in
    subst (λ (key : ℕ). IsCopied later from stop (set c.args.copied.now c.place_in-at.result (entry key c.args.pointer))) (sym its_key)
    (replaced_there c.args.key c.args.pointer from stop known later c.args.copied.now c.place_in-at.result is c.place_in-at.ensures.place was c.if-at-copied.true its_key)

pub returns-else-at-copied-clause-copied : goal.returns-else-at-copied-clause-copied
returns-else-at-copied-clause-copied c known later is from stop was =
    replaced_outside c.args.key c.args.pointer from stop known later c.args.copied.now c.place_in-at.result is c.place_in-at.ensures.place was
    (elim c.else-at-copied.branch [
      | else-at-copied-via-then-at-copied+else-copied-at w ↦ λ inside. w.if-copied-at.false
      | else-at-copied-via-else-at-copied w ↦ λ inside. let outside = w.if-at-copied.false in absurd (omega (arith, inside, outside))
    ])
