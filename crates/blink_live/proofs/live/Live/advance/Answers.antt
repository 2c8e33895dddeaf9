use Rattle.std.proofs.Common.{sym, subst, refl}
use Rattle.std.specs.List.Sorted.{IsStrictlyIncreasing}
use Rattle.blink_batch.specs.declared.Op.{Op}
use Rattle.blink_batch.specs.{key_of}
use Rattle.blink_live.specs.Pendings.{HasRest, op_of, pass_of}
use Rattle.blink_live.specs.Straight.{HasCome}
use Rattle.blink_live.specs.Updating.{IsUnderWay}
use Rattle.blink_live.proofs.changed.PassesComeBack.{answers_by_share, is_changed, is_whole, knows_its_keys, own_of_may}
use Rattle.blink_live.proofs.changed.LatchesAreLeft.{no_latch_waiting}
use Rattle.blink_live.proofs.changed.UpdatesGoOn.{at_end}
use Rattle.blink_live.proofs.live.Live.advance.Goals as goal

pub invariant_of-pass : goal.invariant_of-pass
invariant_of-pass c =
    let pending = c.args.pending in
    let its_own = c.requires.its_own in
    let rest = its_own.rest in
    let came = subst (HasCome c.args.self.now (op_of pending) (pass_of pending).seat c.resume.new.seat c.resume.new.room) c.in-Ended.is (c.resume.ensures (op_of pending) (pass_of pending).seat its_own.under_way) in
    let ended = at_end c.args.self.now (op_of pending) (pass_of pending).seat c.resume.new.seat came.0 c.resume.new.room c.in-Ended.answer came.1 came.2 came.3 in
    let whole = is_whole (op_of pending) (pass_of pending) c.resume.new.seat c.in-Ended.answer pending.now.keys.items pending.now.rows pending.now.pages its_own.under_way.can.updates rest.some_left ended rest.same_keys rest.rows_are rest.pages_are in record {
      keys_are = whole.keys_are;
      ascending = subst IsStrictlyIncreasing (sym rest.same_keys) (pass_of pending).ascending;
      rows_are = whole.rows_are;
      pages_are = whole.pages_are;
      in_order = whole.in_order;
      for_changes = whole.for_changes;
      role_is = whole.role_is;
      owned = whole.owned;
      own_seen = ended.knows_own.changes;
      none_told = whole.none_told;
      idle = ended.idle;
      no_slot = whole.no_slot;
    }

pub returns-in-Ended-clause-answer : goal.returns-in-Ended-clause-answer
returns-in-Ended-clause-answer c =
    let pending = c.args.pending in
    let its_own = c.requires.its_own in
    let rest = its_own.rest in
    let came = subst (HasCome c.args.self.now (op_of pending) (pass_of pending).seat c.resume.new.seat c.resume.new.room) c.in-Ended.is (c.resume.ensures (op_of pending) (pass_of pending).seat its_own.under_way) in
    let ended = at_end c.args.self.now (op_of pending) (pass_of pending).seat c.resume.new.seat came.0 c.resume.new.room c.in-Ended.answer came.1 came.2 came.3 in
    (answers_by_share (op_of pending) (pass_of pending) c.resume.new.seat c.in-Ended.answer (own_of_may (pass_of pending) (key_of (op_of pending)) its_own.under_way.can.may_change) ended).0

pub returns-in-Ended-clause-changed : goal.returns-in-Ended-clause-changed
returns-in-Ended-clause-changed c =
    let pending = c.args.pending in
    let its_own = c.requires.its_own in
    let rest = its_own.rest in
    let came = subst (HasCome c.args.self.now (op_of pending) (pass_of pending).seat c.resume.new.seat c.resume.new.room) c.in-Ended.is (c.resume.ensures (op_of pending) (pass_of pending).seat its_own.under_way) in
    let ended = at_end c.args.self.now (op_of pending) (pass_of pending).seat c.resume.new.seat came.0 c.resume.new.room c.in-Ended.answer came.1 came.2 came.3 in
    is_changed (op_of pending) (pass_of pending) _ c.in-Ended.answer (own_of_may (pass_of pending) (key_of (op_of pending)) its_own.under_way.can.may_change) ended rest.same_keys rest.rows_are rest.pages_are

pub returns-in-Ended-clause-knows : goal.returns-in-Ended-clause-knows
returns-in-Ended-clause-knows c =
    let pending = c.args.pending in
    let its_own = c.requires.its_own in
    let rest = its_own.rest in
    let came = subst (HasCome c.args.self.now (op_of pending) (pass_of pending).seat c.resume.new.seat c.resume.new.room) c.in-Ended.is (c.resume.ensures (op_of pending) (pass_of pending).seat its_own.under_way) in
    let ended = at_end c.args.self.now (op_of pending) (pass_of pending).seat c.resume.new.seat came.0 c.resume.new.room c.in-Ended.answer came.1 came.2 came.3 in
    knows_its_keys (op_of pending) (pass_of pending) _ c.in-Ended.answer (own_of_may (pass_of pending) (key_of (op_of pending)) its_own.under_way.can.may_change) ended c.args.self.now its_own.its_own

pub returns-in-Rests-clause-goes_on : goal.returns-in-Rests-clause-goes_on
returns-in-Rests-clause-goes_on c =
    let pending = c.args.pending in
    let its_own = c.requires.its_own in
    let came = subst (HasCome c.args.self.now (op_of pending) (pass_of pending).seat c.resume.new.seat c.resume.new.room) c.in-Rests.is (c.resume.ensures (op_of pending) (pass_of pending).seat its_own.under_way) in
    let now = came.0 in
    let waits = came.1 in
    let same_op = now.updating.same_op in record {
      its_own = record {
        its_own = its_own.its_own;
        under_way = subst (λ (op : Op). IsUnderWay c.args.self.now op (pass_of pending).seat c.resume.new.seat c.in-Rests.resting c.resume.new.room) (sym same_op) now;
        rest = subst (λ (op : Op). HasRest op (pass_of pending) pending.now.keys.items pending.now.rows pending.now.pages) (sym same_op) its_own.rest;
        waits = waits;
        no_latch = no_latch_waiting c.in-Rests.resting waits;
      };
      same_op = same_op;
      same_pass = refl;
    }

pub returns-in-Rests-clause-waits : goal.returns-in-Rests-clause-waits
returns-in-Rests-clause-waits c =
    let pending = c.args.pending in
    let its_own = c.requires.its_own in
    let came = subst (HasCome c.args.self.now (op_of pending) (pass_of pending).seat c.resume.new.seat c.resume.new.room) c.in-Rests.is (c.resume.ensures (op_of pending) (pass_of pending).seat its_own.under_way) in
    came.1
