use Rattle.std.proofs.Common.{◌≡◌, ◌++◌, ◌∙◌, List, ℕ, refl, sym, subst, get_or, string_bytes, arith}
use Rattle.std.specs.List.{flat_map}
use Rattle.std.proofs.lemmas.List.{take_more}
use Rattle.blink_show.specs.Lines.{decided_line}
use Rattle.blink_show.proofs.OneMore.{text_more}
use Rattle.blink_show.proofs.WhatIsGot.{got}
use Rattle.blink_show.proofs.line.push_decided.Goals as goal

pub loop-place-preserved : goal.loop-place-preserved
loop-place-preserved c =
    let line = decided_line c.args.answers.now in
    let place = get_or c.args.places.now c.loop-place.place-index 0 in
    let given = got c.args.answers.now place _ c.get.result c.get.ensures.lookup.1 c.get.ensures.lookup.3 in
    let more = text_more line (string_bytes c.args.text.now) (string_bytes c.loop-place.text) (string_bytes c.writeln.new.self) _ place c.loop-place.invariant (c.in_ok-writeln.ensures.bytes ∙ rw (c.copied-answer.ensures, given) refl) in
    subst (λ (places : List ℕ). string_bytes c.writeln.new.self ≡ string_bytes c.args.text.now ++ flat_map line places) (sym (take_more c.args.places.now c.loop-place.place-index 0 (omega (arith, c.loop-place-test.true)))) more
