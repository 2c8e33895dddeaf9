use Rattle.std.proofs.Common.{◌≡◌, ◌++◌, ◌∙◌, List, ℕ, Option, Some, map, ap, sym, subst, slice_get, string_bytes, arith}
use Rattle.std.specs.List.{flat_map}
use Rattle.blink_show.specs.Frames.{unless_same}
use Rattle.blink_show.proofs.OneMore.{range_more, text_more}
use Rattle.blink_show.proofs.WhatIsGot.{got_mapped, read_mapped}
use Rattle.blink_show.proofs.frame.push_changed.Goals as goal

pub loop-place-preserved : goal.loop-place-preserved
loop-place-preserved c =
    let line : ℕ → List ℕ = λ place. unless_same (slice_get (map string_bytes c.args.old.now) place) (slice_get (map string_bytes c.args.new.now) place) in
    let before = got_mapped string_bytes c.args.old.now c.loop-place.place _ c.get.result c.get.ensures.lookup.1 c.get.ensures.lookup.3 in
    let after = read_mapped string_bytes c.args.new.now c.loop-place.place c.index-new-place.result (omega (arith, c.loop-place-test.true)) c.index-new-place.is in
    let same_line =
    ap (λ (found : Option (List ℕ)). unless_same found (Some (string_bytes c.index-new-place.result))) before
    ∙ ap (λ (found : Option (List ℕ)). unless_same (slice_get (map string_bytes c.args.old.now) c.loop-place.place) found) after in
    let more = text_more line (string_bytes c.args.text.now) (string_bytes c.loop-place.text) (string_bytes c.push_unless_same.new.text) _ c.loop-place.place c.loop-place.invariant (c.in_ok-push_unless_same.ensures ∙ ap (λ (added : List ℕ). string_bytes c.loop-place.text ++ added) same_line) in
    subst (λ (places : List ℕ). string_bytes c.push_unless_same.new.text ≡ string_bytes c.args.text.now ++ flat_map line places) (sym (range_more 0 c.loop-place.place c.loop-place.place (omega arith))) more
