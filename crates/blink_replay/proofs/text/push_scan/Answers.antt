use Rattle.std.proofs.Common.{◌≡◌, ◌+◌, ◌∙◌, ◌++◌, ◌∷◌, [], ℕ, List, length, length-append, string_bytes, append_assoc, ap, sym, arith}
use Rattle.std.specs.List.{flat_map}
use Rattle.blink_batch.specs.declared.Entry.{Entry}
use Rattle.blink_replay.specs.Text.{entry_line}
use Rattle.blink_replay.proofs.LinesOfEntries.{line_more, shown_few}
use Rattle.blink_replay.proofs.text.push_scan.Goals as goal

-- the lines so far, and one more
told_more : (c : goal.In_ok-push_entry) → string_bytes c.push_entry.new.text ≡ string_bytes c.args.text.now ++ flat_map entry_line (c.loop-entry.invariant.shown ++ c.in-Some.entry ∷ [])
told_more c =
    let so_far = c.loop-entry.invariant in
    c.in_ok-push_entry.ensures ∙ rw (so_far.told, line_more so_far.shown c.in-Some.entry) (append_assoc (string_bytes c.args.text.now) (flat_map entry_line so_far.shown) (entry_line c.in-Some.entry))

pub overflow_add-shown : goal.overflow_add-shown
overflow_add-shown c =
    let so_far = c.loop-entry.invariant in
    let few = shown_few (so_far.shown ++ c.in-Some.entry ∷ []) in
    let more = length-append so_far.shown (c.in-Some.entry ∷ []) in
    let long : length (string_bytes c.push_entry.new.text) ≡ length (string_bytes c.args.text.now) + length (flat_map entry_line (so_far.shown ++ c.in-Some.entry ∷ [])) =
    ap (λ (bytes : List ℕ). length bytes) (told_more c) ∙ length-append (string_bytes c.args.text.now) (flat_map entry_line (so_far.shown ++ c.in-Some.entry ∷ [])) in
    omega (arith, so_far.counted, c.push_entry.new.text.bytes.ok.0, c.push_entry.new.text.bytes.ok.1, c.push_entry.new.text.bytes.small)

-- one entry more is shown
pub loop-entry-preserved : goal.loop-entry-preserved
loop-entry-preserved c =
    let so_far = c.loop-entry.invariant in
    record {
      can_next = tt;
      is_finite = tt;
      shown = so_far.shown ++ c.in-Some.entry ∷ [];
      in_order = so_far.in_order ∙ ap (λ (rest : List Entry). so_far.shown ++ rest) c.in-Some.ensures.steps ∙ sym (append_assoc so_far.shown (c.in-Some.entry ∷ []) c.next.new.self);
      told = told_more c;
      counted = omega (arith, length-append so_far.shown (c.in-Some.entry ∷ []), so_far.counted);
    }
