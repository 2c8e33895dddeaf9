use Rattle.std.proofs.Common.{ℕ, ◌+◌, List, length, get_or, ap, sym, ◌∙◌, arith}
use Rattle.std.specs.Prelude.{slice_set}
use Rattle.blink_batch.specs.{entry}
use Rattle.blink_rest.specs.{entries_from}
use Rattle.blink_handles.specs.declared.raw.RawEntry.{RawEntry}
use Rattle.blink_handles.specs.Raw.{raw_entry}
use Rattle.blink_handles.proofs.Overlays.{overlaid-full, length-overlaid}
use Rattle.blink_handles.proofs.RunsShown.{run_more, run_whole}
use Rattle.blink_handles.proofs.reads.set_run.Goals as goal

pub returns-then-first-entries : goal.returns-then-first-entries
returns-then-first-entries c shown places so_far counted =
    let many = ap (λ (xs : List RawEntry). length xs) so_far ∙ length-overlaid shown places in
    so_far ∙ sym (overlaid-full shown (entries_from c.args.run.now) places (omega (arith, many, counted, c.if-first-entries.true)))

pub loop-place-preserved : goal.loop-place-preserved
loop-place-preserved c shown places so_far counted =
    let many = ap (λ (xs : List RawEntry). length xs) so_far ∙ length-overlaid shown places in
    let run = c.args.run.now in
    let place = c.loop-place.place in
    let raw : RawEntry = raw_entry (entry (get_or run place (0, 0)).0 (get_or run place (0, 0)).1) in
    ap (λ (n : ℕ). slice_set c.loop-place.entries (n + place) raw) counted
    ∙ run_more shown run place places c.loop-place.entries (omega (arith, c.min-count.ensures, c.loop-place-test.true)) (omega (arith, many, counted, c.min-count.ensures, c.loop-place-test.true, c.if-first-entries.false)) (c.loop-place.invariant shown places so_far counted)

pub returns : goal.returns
returns c shown places so_far counted =
    let many = ap (λ (xs : List RawEntry). length xs) so_far ∙ length-overlaid shown places in
    let end = c.loop-place.auto.place-end in
    run_whole shown c.args.run.now c.loop-place.place places c.loop-place.entries (omega (arith, c.min-count.ensures, end))
    (λ left. omega (arith, left, many, counted, c.min-count.ensures, c.loop-place-test.false, c.if-first-entries.false)) (c.loop-place.invariant shown places so_far counted)
