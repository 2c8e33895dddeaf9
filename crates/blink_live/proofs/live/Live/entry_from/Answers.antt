use Rattle.std.proofs.Common.{◌≡◌, ◌≢◌, ℕ, suc, ◌<◌, ◌≤◌, Some, None, List, length, get_or, refl, sym, ap, ◌∙◌, arith, zero, [], ◌∷◌}
use Rattle.std.specs.Prelude.{slice_get}
use Rattle.std.proofs.lemmas.Option.{slice_get-get_or}
use Rattle.blink_page.specs.{PlainPage, place_of}
use Rattle.blink_page.specs.declared.limits.TheConstants.{MAX_FAN}
use Rattle.blink_page.proofs.Offered.{place_at_most}
use Rattle.blink_rows.specs.{page_words}
use Rattle.blink_live.specs.Seats.{ReadsPage}
use Rattle.blink_live.specs.Views.{SeatState}
use Rattle.blink_live.proofs.found.EntriesInRow.{key_inside, key_word, value_inside, value_word}
use Rattle.blink_live.proofs.found.VersionsAreRead.{page_still}
use Rattle.blink_live.proofs.live.Live.entry_from.Goals as goal

none_past : (entries : List (ℕ × ℕ)) (n : ℕ) → length entries ≤ n → slice_get entries n ≡ None
none_past [] n past = refl
none_past (e ∷ rest) zero past = absurd (omega (arith, past))
none_past (e ∷ rest) (suc n) past = none_past rest n (omega (arith, past))

pub place_in_row-place-requires-clause-page : goal.place_in_row-place-requires-clause-page
place_in_row-place-requires-clause-page c =
    let row = c.requires.page.0 in
    let page = c.requires.page.1 in
    let begins = c.requires.page.2 in
    let reads : ReadsPage c.args.seat.now.me row page = c.requires.page.3 in
    (row, page, begins, page_still c.load_word-count.ensures.same.2 reads, c.load_word-count.ensures.word row (page_words page) begins reads.reads (omega arith))

-- the place is one of the page's, and the row has room for its words
place_fits : (page : PlainPage) (key count place : ℕ) → length page.entries ≤ MAX_FAN → count ≡ length page.entries → place ≡ place_of key page.entries → place ≢ count → place < MAX_FAN
place_fits page key count place few many is apart = let most = place_at_most key page.entries in omega (arith, few, many, is, apart, most)

pub overflow_mul-at : goal.overflow_mul-at
overflow_mul-at c =
    let reads : ReadsPage c.args.seat.now.me c.requires.page.0 c.requires.page.1 = c.requires.page.3 in
    let many = c.load_word-count.ensures.word c.requires.page.0 (page_words c.requires.page.1) c.requires.page.2 reads.reads (omega arith) in
    let place = c.place_in_row-place.ensures.place c.requires.page.0 c.requires.page.1 c.requires.page.2 (page_still c.load_word-count.ensures.same.2 reads) many in
    let fits = place_fits c.requires.page.1 c.args.key c.load_word-count.result c.place_in_row-place.result reads.lawful.at_most_fan many place c.if-place-count.false in
    omega (arith, fits)

pub overflow_add-at : goal.overflow_add-at
overflow_add-at c =
    let reads : ReadsPage c.args.seat.now.me c.requires.page.0 c.requires.page.1 = c.requires.page.3 in
    let many = c.load_word-count.ensures.word c.requires.page.0 (page_words c.requires.page.1) c.requires.page.2 reads.reads (omega arith) in
    let place = c.place_in_row-place.ensures.place c.requires.page.0 c.requires.page.1 c.requires.page.2 (page_still c.load_word-count.ensures.same.2 reads) many in
    let fits = place_fits c.requires.page.1 c.args.key c.load_word-count.result c.place_in_row-place.result reads.lawful.at_most_fan many place c.if-place-count.false in
    omega (arith, fits)

pub load_word-found-requires-clause-place : goal.load_word-found-requires-clause-place
load_word-found-requires-clause-place c =
    let reads : ReadsPage c.args.seat.now.me c.requires.page.0 c.requires.page.1 = c.requires.page.3 in
    let many = c.load_word-count.ensures.word c.requires.page.0 (page_words c.requires.page.1) c.requires.page.2 reads.reads (omega arith) in
    let place = c.place_in_row-place.ensures.place c.requires.page.0 c.requires.page.1 c.requires.page.2 (page_still c.load_word-count.ensures.same.2 reads) many in
    let fits = place_fits c.requires.page.1 c.args.key c.load_word-count.result c.place_in_row-place.result reads.lawful.at_most_fan many place c.if-place-count.false in
    omega (arith, fits)

pub overflow_add-at-2 : goal.overflow_add-at-2
overflow_add-at-2 c =
    let reads : ReadsPage c.args.seat.now.me c.requires.page.0 c.requires.page.1 = c.requires.page.3 in
    let many = c.load_word-count.ensures.word c.requires.page.0 (page_words c.requires.page.1) c.requires.page.2 reads.reads (omega arith) in
    let place = c.place_in_row-place.ensures.place c.requires.page.0 c.requires.page.1 c.requires.page.2 (page_still c.load_word-count.ensures.same.2 reads) many in
    let fits = place_fits c.requires.page.1 c.args.key c.load_word-count.result c.place_in_row-place.result reads.lawful.at_most_fan many place c.if-place-count.false in
    omega (arith, fits)

pub load_word-requires-clause-place : goal.load_word-requires-clause-place
load_word-requires-clause-place c =
    let reads : ReadsPage c.args.seat.now.me c.requires.page.0 c.requires.page.1 = c.requires.page.3 in
    let many = c.load_word-count.ensures.word c.requires.page.0 (page_words c.requires.page.1) c.requires.page.2 reads.reads (omega arith) in
    let place = c.place_in_row-place.ensures.place c.requires.page.0 c.requires.page.1 c.requires.page.2 (page_still c.load_word-count.ensures.same.2 reads) many in
    let fits = place_fits c.requires.page.1 c.args.key c.load_word-count.result c.place_in_row-place.result reads.lawful.at_most_fan many place c.if-place-count.false in
    omega (arith, fits)

pub returns-then-place-count-clause-entry : goal.returns-then-place-count-clause-entry
returns-then-place-count-clause-entry c row page begins reads =
    let many : c.load_word-count.result ≡ length page.entries = c.load_word-count.ensures.word row (page_words page) begins reads.reads (omega arith) in
    let place = c.place_in_row-place.ensures.place row page begins (page_still c.load_word-count.ensures.same.2 reads) many in
    sym (none_past page.entries (place_of c.args.key page.entries) (omega (arith, many, place, c.if-place-count.true)))

pub returns-clause-entry : goal.returns-clause-entry
returns-clause-entry c row page begins reads =
    let first = c.load_word-count.ensures.same.2 in
    let many : c.load_word-count.result ≡ length page.entries = c.load_word-count.ensures.word row (page_words page) begins reads.reads (omega arith) in
    let place = c.place_in_row-place.result in
    let is : place ≡ place_of c.args.key page.entries = c.place_in_row-place.ensures.place row page begins (page_still first reads) many in
    let most = place_at_most c.args.key page.entries in
    let inside : place < length page.entries = omega (arith, many, is, most, c.if-place-count.false) in
    let before = c.place_in_row-place.ensures.same.2 ∙ first in
    let then = c.load_word-found.ensures.same.2 ∙ before in
    let key : c.load_word-found.result ≡ (get_or page.entries place (0, 0)).0 = c.load_word-found.ensures.word row (page_words page) begins (ap (λ (x : SeatState). x.0.reads) before ∙ reads.reads) (key_inside page place inside) ∙ key_word page place _ refl in
    let value : c.load_word.result ≡ (get_or page.entries place (0, 0)).1 = c.load_word.ensures.word row (page_words page) begins (ap (λ (x : SeatState). x.0.reads) then ∙ reads.reads) (value_inside page place inside) ∙ value_word page place _ refl in
    sym (ap (slice_get page.entries) (sym is) ∙ (slice_get-get_or page.entries place (0, 0) inside ∙ (λ i. let e : ℕ × ℕ = (sym key i, sym value i) in Some e)))
