use Rattle.std.proofs.Common.{◌≡◌, ◌∙◌, ◌++◌, ◌∷◌, ◌+◌, [], ℕ, List, ap, sym, refl, subst, take, count_by, arith}
use Rattle.std.proofs.lemmas.List.{take_more}
use Rattle.std.proofs.lemmas.Result.{err_from_is_err_and}
use Rattle.blink_batch.specs.declared.Part.{Part}
use Rattle.blink_index.specs.{map_of}
use Rattle.blink_run.specs.BySettings.{RunsPartsBy}
use Rattle.blink_replay.specs.{nothing}
use Rattle.blink_replay.specs.{is_batch}
use Rattle.blink_replay.proofs.Offered.{HasServed, prefix_output_after_error, serves_more}
use Rattle.blink_run.proofs.PartsRunBySettings.{runs_one_more, stops_at}
use Rattle.blink_run.proofs.script.Service.serve_parts.Goals as goal

-- no part is served yet
pub loop-part-init : goal.loop-part-init
loop-part-init g c = (record { written = nothing; same_map = refl; counted = refl }, refl)

-- one part more is served
pub loop-part-preserved : goal.loop-part-preserved
loop-part-preserved g c =
    let offered = g.O.TrackedWriter.offered in
    let prefix : List Part = take c.loop-part.part-index c.args.parts.now in
    let more : prefix ++ c.part-item.result ∷ [] ≡ take (c.loop-part.part-index + 1) c.args.parts.now =
    ap (λ (p : Part). prefix ++ p ∷ []) c.part-item.is ∙ sym (take_more c.args.parts.now c.loop-part.part-index c.part-item.result (omega (arith, c.loop-part-test.true))) in
    let counted : c.batches_with-batches.result ≡ c.loop-part.batches + count_by is_batch (c.part-item.result ∷ []) = c.batches_with-batches.ensures in (
      subst (λ (n : ℕ). HasServed offered (map_of c.args.index.now) (take (c.loop-part.part-index + 1) c.args.parts.now) c.args.tracked_writer.now c.serve_part.new.tracked_writer (map_of c.serve_part.new.index) n) (sym counted)
          (subst (λ (parts : List Part). HasServed offered (map_of c.args.index.now) parts c.args.tracked_writer.now c.serve_part.new.tracked_writer (map_of c.serve_part.new.index) (c.loop-part.batches + count_by is_batch (c.part-item.result ∷ []))) more
          (serves_more offered (map_of c.args.index.now) prefix c.part-item.result _ c.loop-part.tracked_writer _ (map_of c.loop-part.index) _ c.loop-part.batches c.loop-part.invariant.0 c.in_ok-serve_part.ensures.served c.in_ok-serve_part.ensures.map)),
      subst (λ (parts : List Part). RunsPartsBy c.args.self.now.settings.now c.args.index.now parts c.serve_part.new.index) more
          (runs_one_more c.args.self.now.settings.now c.args.index.now c.loop-part.index c.serve_part.new.index prefix c.part-item.result c.loop-part.invariant.1 c.in_ok-serve_part.ensures.by_settings),
    )

-- a part that isn't served
pub returns-in_err-serve_part-clause-left : goal.returns-in_err-serve_part-clause-left
returns-in_err-serve_part-clause-left g c =
    let passed = err_from_is_err_and c.from_residual.result c.from_residual.ensures.1 in
    rw (passed.1, passed.2)
    (prefix_output_after_error g.O.TrackedWriter.offered g.O.TrackedWriter.settled (map_of c.args.index.now) c.args.parts.now c.loop-part.part-index c.batches_with-batches.result c.part-item.result (omega (arith, c.loop-part-test.true)) c.args.tracked_writer.now c.loop-part.tracked_writer _
    (map_of c.loop-part.index) c.loop-part.batches c.loop-part.invariant.0 c.in_err-serve_part.field-0.0 (sym c.part-item.is) c.batches_with-batches.ensures c.in_err-serve_part.ensures.fault c.in_err-serve_part.ensures.left)

-- its refusal is one of its run
pub returns-in_err-serve_part-clause-not_run : goal.returns-in_err-serve_part-clause-not_run
returns-in_err-serve_part-clause-not_run g c =
    let passed = err_from_is_err_and c.from_residual.result c.from_residual.ensures.1 in
    rw (passed.1, passed.2)
    (stops_at c.args.self.now.settings.now c.args.index.now c.loop-part.index c.args.parts.now c.loop-part.part-index c.part-item.result (omega (arith, c.loop-part-test.true)) (sym c.part-item.is)
    c.loop-part.invariant.1 c.batches_with-batches.result c.loop-part.batches c.loop-part.invariant.0.counted c.batches_with-batches.ensures c.in_err-serve_part.field-0.0 c.in_err-serve_part.ensures.fault c.in_err-serve_part.ensures.not_run)
