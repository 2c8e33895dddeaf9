use Rattle.std.proofs.Common.{◌++◌}
use Rattle.std.proofs.lemmas.Result.{IfErr-weaker, err_from_is_err_and, on_ok_weaker}
use Rattle.blink_replay.specs.{OutputFails, Writes, replay_text}
use Rattle.blink_replay.proofs.WritersTake.{breaks_after, breaks_before, breaks_unflushed, writes_all_of_both}
use Rattle.blink_replay.proofs.replay.write_replay.Goals as goal

-- the trace breaks off
pub returns-in_err-write_out-clause-broken_off : goal.returns-in_err-write_out-clause-broken_off
returns-in_err-write_out-clause-broken_off g c =
    let passed = err_from_is_err_and c.from_residual.result c.from_residual.ensures.1 in
    let broken = c.in_err-write_out.ensures.broken_off in
    rw (passed.1, passed.2) (broken.0, breaks_before g.O.TrackedWriter.offered g.O.TrackedWriter.settled _ _ c.args.trace.now (c.args.text.now ++ c.args.pages.now) broken.1)

-- the text does
pub returns-in_err-write_out-2-clause-broken_off : goal.returns-in_err-write_out-2-clause-broken_off
returns-in_err-write_out-2-clause-broken_off g c =
    let passed = err_from_is_err_and c.from_residual-in_err-write_out-2.result c.from_residual-in_err-write_out-2.ensures.1 in
    let broken = c.in_err-write_out-2.ensures.broken_off in
    rw (passed.1, passed.2)
    (broken.0, breaks_after g.O.TrackedWriter.offered g.O.TrackedWriter.settled _ _ _ c.args.trace.now _ c.in_ok-write_out.ensures.written (breaks_before g.O.TrackedWriter.offered g.O.TrackedWriter.settled _ _ c.args.text.now c.args.pages.now broken.1))

-- the pages do
pub returns-in_err-write_out-3-clause-broken_off : goal.returns-in_err-write_out-3-clause-broken_off
returns-in_err-write_out-3-clause-broken_off g c =
    let passed = err_from_is_err_and c.from_residual-in_err-write_out-3.result c.from_residual-in_err-write_out-3.ensures.1 in
    let broken = c.in_err-write_out-3.ensures.broken_off in
    rw (passed.1, passed.2) (
      broken.0,
      breaks_after g.O.TrackedWriter.offered g.O.TrackedWriter.settled _ _ _ c.args.trace.now _ c.in_ok-write_out.ensures.written
          (breaks_after g.O.TrackedWriter.offered g.O.TrackedWriter.settled _ _ _ c.args.text.now c.args.pages.now c.in_ok-write_out-2.ensures.written broken.1),
    )

-- all three go out, and are flushed
pub returns-clause-written : goal.returns-clause-written
returns-clause-written g c =
    let all_written = writes_all_of_both g.O.TrackedWriter.offered _ _ _ c.args.trace.now _ c.in_ok-write_out.ensures.written (writes_all_of_both g.O.TrackedWriter.offered _ _ _ c.args.text.now c.args.pages.now c.in_ok-write_out-2.ensures.written c.in_ok-write_out-3.ensures.written) in
    on_ok_weaker {Q = Writes g.O.TrackedWriter.offered g.O.TrackedWriter.settled c.args.tracked_writer.now (replay_text c.args.trace.now c.args.text.now c.args.pages.now) c.flush_out.new.tracked_writer} c.flush_out.result
    (λ flushed. record { between = c.write_out-3.new.tracked_writer; all_written = all_written; flushed = flushed }) c.flush_out.ensures.flushed

-- and aren't
pub returns-clause-broken_off : goal.returns-clause-broken_off
returns-clause-broken_off g c =
    let all_written = writes_all_of_both g.O.TrackedWriter.offered _ _ _ c.args.trace.now _ c.in_ok-write_out.ensures.written (writes_all_of_both g.O.TrackedWriter.offered _ _ _ c.args.text.now c.args.pages.now c.in_ok-write_out-2.ensures.written c.in_ok-write_out-3.ensures.written) in
    IfErr-weaker c.flush_out.result _ (λ error. OutputFails g.O.TrackedWriter.offered g.O.TrackedWriter.settled c.args.tracked_writer.now (replay_text c.args.trace.now c.args.text.now c.args.pages.now) error c.flush_out.new.tracked_writer)
    (λ error wrong. (wrong.0, breaks_unflushed g.O.TrackedWriter.offered g.O.TrackedWriter.settled _ _ _ _ all_written wrong.1)) c.flush_out.ensures.unflushed
