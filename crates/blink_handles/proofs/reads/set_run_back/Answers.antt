use Rattle.std.proofs.Common.{◌≡◌, ℕ, ◌+◌, ◌<◌, ◌++◌, List, length, ap, sym, ◌∙◌, arith}
use Rattle.std.proofs.lemmas.List.{get_or-reverse, length-reverse}
use Rattle.std.specs.Prelude.{reverse, slice_set}
use Rattle.blink_batch.specs.declared.Entry.{Entry}
use Rattle.blink_batch.specs.{entry}
use Rattle.blink_rest.specs.{entries_from}
use Rattle.blink_handles.specs.declared.raw.RawEntry.{RawEntry}
use Rattle.blink_handles.specs.Filled.{overlaid}
use Rattle.blink_handles.specs.Raw.{raw_entry}
use Rattle.blink_handles.proofs.Overlays.{overlaid-full, length-overlaid}
use Rattle.blink_handles.proofs.RunsShown.{entries_of_reverse, run_more, run_whole}
use Rattle.blink_handles.proofs.reads.set_run_back.Goals as goal

pub returns-then-first-entries : goal.returns-then-first-entries
returns-then-first-entries c shown places so_far counted =
    let many = ap (λ (xs : List RawEntry). length xs) so_far ∙ length-overlaid shown places in
    so_far ∙ sym (overlaid-full shown (reverse (entries_from c.args.run.now)) places (omega (arith, many, counted, c.if-first-entries.true)))

pub loop-place-preserved : goal.loop-place-preserved
loop-place-preserved c shown places so_far counted =
    let many = ap (λ (xs : List RawEntry). length xs) so_far ∙ length-overlaid shown places in
    let run = c.args.run.now in
    let back = reverse run in
    let long : length back ≡ length run = length-reverse run in
    let place = c.loop-place.place in
    let inside : place < length run = omega (arith, c.min-count.ensures, c.loop-place-test.true) in
    let there = get_or-reverse run place (0, 0) inside in
    let raw : ℕ × ℕ → RawEntry = λ x. raw_entry (entry x.0 x.1) in
    (λ i. slice_set c.loop-place.entries (counted i + place) (raw (sym there i)))
    ∙ run_more shown back place places c.loop-place.entries (omega (arith, inside, long)) (omega (arith, many, counted, c.min-count.ensures, c.loop-place-test.true, c.if-first-entries.false)) (c.loop-place.invariant shown places so_far counted)

pub returns : goal.returns
returns c shown places so_far counted =
    let many = ap (λ (xs : List RawEntry). length xs) so_far ∙ length-overlaid shown places in
    let end = c.loop-place.auto.place-end in
    let run = c.args.run.now in
    let long : length (reverse run) ≡ length run = length-reverse run in
    run_whole shown (reverse run) c.loop-place.place places c.loop-place.entries (omega (arith, c.min-count.ensures, end, long))
    (λ left. omega (arith, left, long, many, counted, c.min-count.ensures, c.loop-place-test.false, c.if-first-entries.false)) (c.loop-place.invariant shown places so_far counted)
    ∙ ap (λ (es : List Entry). overlaid (shown ++ es) places) (entries_of_reverse run)
