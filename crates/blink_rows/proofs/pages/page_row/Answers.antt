use Rattle.std.proofs.Common.{◌≡◌, ◌+◌, ◌*◌, ◌<◌, ◌≤◌, ◌∷◌, length, take, ap, arith}
use Rattle.std.specs.Prelude.{unwrap_or}
use Rattle.std.proofs.lemmas.List.{length-take-le}
use Rattle.blink_page.specs.declared.limits.TheConstants.{MAX_FAN}
use Rattle.blink_page.specs.{PlainPage}
use Rattle.blink_rows.specs.Row.{flag, flat}
use Rattle.blink_rows.proofs.RowsOfContent.{row_with_two_more}
use Rattle.blink_rows.proofs.EntriesAsWords.{length-flat, flat_more}
use Rattle.blink_rows.proofs.pages.page_row.Goals as goal

pub loop-i-preserved : goal.loop-i-preserved
loop-i-preserved c =
    let page = c.args.page.now in
    let own : c.page.inside.items.items ≡ page.entries = ap (λ (p : PlainPage). p.entries) c.page.view_is in
    let read : c.deref-key-items.result.now ≡ page.entries = cc in
    let inside : c.loop-i.i < length page.entries = omega (arith, ap length read) in
    let prefix : length (take c.loop-i.i page.entries) ≡ c.loop-i.i = length-take-le c.loop-i.i page.entries (omega arith) in
    let written : length (flat (take c.loop-i.i page.entries)) ≡ 2 * c.loop-i.i = omega (arith, length-flat (take c.loop-i.i page.entries)) in
    let room : length page.entries ≤ MAX_FAN = omega (arith, ap length own, c.page.invariant.at_most_fan) in
    rw (read, flat_more page.entries c.loop-i.i (0, 0) inside)
    (row_with_two_more c.loop-i.words
    (page.level ∷ flag page.floor ∷ unwrap_or page.floor 0 ∷ page.high ∷ unwrap_or page.right 0 ∷ length page.entries ∷ flat (take c.loop-i.i page.entries))
    (6 + 2 * c.loop-i.i) _ _ c.loop-i.invariant (omega arith) (omega arith))
