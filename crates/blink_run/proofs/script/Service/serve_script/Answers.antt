use Rattle.std.proofs.Common.{◌≡◌, ◌∙◌, Bool, Err, refl, true, false}
use Rattle.std.proofs.lemmas.Result.{err_from_is_err_and}
use Rattle.blink_index.specs.{map_of}
use Rattle.blink_settings.specs.declared.error.ServeError.TheVariants as serve
use Rattle.blink_replay.proofs.Offered.{unflushed}
use Rattle.blink_run.proofs.script.Service.serve_script.Goals as goal

never_both : (flag : Bool) → flag ≡ true → flag ≡ false → ⊥
never_both flag is other = absurd (cc)

-- what was written isn't flushed
pub returns-in_err-flush_out-clause-left : goal.returns-in_err-flush_out-clause-left
returns-in_err-flush_out-clause-left g c =
    let passed = err_from_is_err_and c.from_residual.result c.from_residual.ensures.1 in
    let not_output : c.serve_parts-outcome.result ≡ Err serve.Output → ⊥ = λ same. let is_so : c.eq.result ≡ true = c.eq.ensures ∙ rw same refl in never_both c.eq.result is_so c.if-eq.false in
    rw (passed.1, passed.2, c.in_err-flush_out.ensures.unflushed.0)
    (unflushed g.O.TrackedWriter.offered g.O.TrackedWriter.settled (map_of c.args.index.now) c.args.parts.now c.args.tracked_writer.now c.serve_parts-outcome.new.tracked_writer c.flush_out.new.tracked_writer c.in_err-flush_out.ensures.unflushed.1
    c.serve_parts-outcome.result c.serve_parts-outcome.ensures.served c.serve_parts-outcome.ensures.left not_output)
