use Rattle.std.proofs.Common.{Some, None, refl, sym, subst}
use Rattle.blink_batch.specs.declared.Answer.{Answer}
use Rattle.blink_machine.specs.declared.machine.Next.TheVariants.{MoveRight}
use Rattle.blink_machine.specs.declared.machine.State.TheVariants.{Ended, Leave}
use Rattle.blink_live.specs.Straight.{HasMet, at_leaf, leaving}
use Rattle.blink_live.specs.Updating.{IsUnderWay}
use Rattle.blink_live.proofs.changed.UpdatesGoOn as on
use Rattle.blink_live.proofs.live.Live.change_leaf.Goals as goal

pub returns-in-Right : goal.returns-in-Right
returns-in-Right c = λ first is.
    let live = c.args.self.now in
    let leaf = c.args.descent.now.leaf in
    let held = c.latch_leaf.ensures.got c.if-not-latch_leaf.false first is in
    let met = subst (HasMet live c.args.op c.args.descent.now first c.read_leaf.new.seat c.args.room.now) c.in-Right.is (c.read_leaf.ensures first held) in
    let goes = c.free_latch.ensures.gone (at_leaf live.fan c.args.op c.args.descent.now (Leave leaf (MoveRight c.in-Right.next)) None) (on.is_its_operation met (λ ends. absurd (cc))) refl in
    on.after_unlatch met c.free_latch.ensures.same leaf refl refl goes

pub returns-in-Answers : goal.returns-in-Answers
returns-in-Answers c = λ first is.
    let live = c.args.self.now in
    let leaf = c.args.descent.now.leaf in
    let held = c.latch_leaf.ensures.got c.if-not-latch_leaf.false first is in
    let met = subst (HasMet live c.args.op c.args.descent.now first c.read_leaf.new.seat c.args.room.now) c.in-Answers.is (c.read_leaf.ensures first held) in
    let goes = c.free_latch-in-Answers.ensures.gone (leaving live.fan c.args.op c.args.descent.now c.in-Answers.kept) (on.is_its_operation met (λ ends. absurd (cc))) refl in
    subst (λ (a : Answer). IsUnderWay live c.args.op first c.free_latch-in-Answers.new.seat (at_leaf live.fan c.args.op c.args.descent.now Ended (Some a)) c.args.room.now) (sym c.answer.ensures)
    (on.after_unlatch met c.free_latch-in-Answers.ensures.same leaf refl refl goes)

pub returns-in-Write : goal.returns-in-Write
returns-in-Write c = λ first is.
    let live = c.args.self.now in
    let leaf = c.args.descent.now.leaf in
    let held = c.latch_leaf.ensures.got c.if-not-latch_leaf.false first is in
    let met = subst (HasMet live c.args.op c.args.descent.now first c.read_leaf.new.seat c.args.room.now) c.in-Write.is (c.read_leaf.ensures first held) in
    let written = c.write_record.ensures first met in
    let goes = c.free_latch-in-Write.ensures.gone (leaving live.fan c.args.op c.args.descent.now c.in-Write.spot.kept) (on.is_its_operation written (λ ends. absurd (cc))) refl in
    subst (λ (a : Answer). IsUnderWay live c.args.op first c.free_latch-in-Write.new.seat (at_leaf live.fan c.args.op c.args.descent.now Ended (Some a)) c.write_record.new.room) (sym c.answer-in-Write.ensures)
    (on.after_unlatch written c.free_latch-in-Write.ensures.same leaf refl refl goes)
