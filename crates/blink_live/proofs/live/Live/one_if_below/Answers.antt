use Rattle.std.proofs.Common.{◌≡◌, suc, ◌+◌, ◌<◌, ◌≤◌, get_or, refl, ◌∙◌, arith}
use Rattle.std.proofs.lemmas.Bool.Decides.{nat_tests}
use Rattle.blink_page.specs.{least_above, place_of}
use Rattle.blink_rows.specs.{page_words}
use Rattle.blink_live.proofs.found.EntriesInRow.{key_inside, key_word, not_behind, stands_behind}
use Rattle.blink_live.proofs.live.Live.one_if_below.Goals as goal

pub returns-clause-one : goal.returns-clause-one
returns-clause-one c row page begins reads inside =
    let place = c.args.place in
    let key = c.args.key in
    let found : c.load_word-found.result ≡ (get_or page.entries place (0, 0)).0 = c.load_word-found.ensures.word row (page_words page) begins reads.reads (key_inside page place inside) ∙ key_word page place _ refl in
    let is = c.from.ensures in
    let below : (get_or page.entries place (0, 0)).0 < key → suc place ≤ place_of key page.entries = stands_behind key page.entries place (least_above page.floor) (page.high + 1) reads.lawful.keys_rise inside in
    let above : key ≤ (get_or page.entries place (0, 0)).0 → place_of key page.entries ≤ place = not_behind key page.entries place inside in
    (λ before. grind (arith, nat_tests, found, is, above, before), λ reached. grind (arith, nat_tests, found, is, below, reached))
