use Rattle.std.proofs.Common.{◌≡◌, ℕ, ◌+◌, ◌-◌, ◌<◌, length, get_or, ◌∙◌, arith, refl}
use Rattle.blink_page.specs.{least_above}
use Rattle.blink_rows.specs.{page_words}
use Rattle.blink_live.proofs.found.EntriesInRow.{key_inside, key_word, stands_behind}
use Rattle.blink_live.proofs.live.Live.first_place.Goals as goal

pub returns-then-load_word-key-clause-place : goal.returns-then-load_word-key-clause-place
returns-then-load_word-key-clause-place c row page begins reads many =
    let before : ℕ = c.args.hint - 1 in
    let less = c.if-load_word-key.true in
    let some = c.if-hint-eq0.false in
    let few = c.if-hint-count.false in
    let inside : before < length page.entries = omega (arith, many, some, few) in
    let key : c.load_word.result ≡ (get_or page.entries before (0, 0)).0 = c.load_word.ensures.word row (page_words page) begins reads.reads (key_inside page before inside) ∙ key_word page before _ refl in
    let behind = stands_behind c.args.key page.entries before (least_above page.floor) (page.high + 1) reads.lawful.keys_rise inside (omega (arith, key, less)) in
    omega (arith, behind, some)
