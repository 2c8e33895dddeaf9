use Rattle.std.proofs.Common.{◌≡◌, ℕ, zero, suc, ◌<◌, ◌≤◌, None, refl, ap, sym, ◌∙◌, arith}
use Rattle.std.specs.Prelude.{unwrap_or, slice_get}
use Rattle.blink_page.specs.{PlainPage, place_of}
use Rattle.blink_rows.specs.{page_words}
use Rattle.blink_live.specs.Seats.{ReadsPage}
use Rattle.blink_live.specs.Views.{SeatState}
use Rattle.blink_live.proofs.found.WaysFromRow.{HasLink, has_link, leads_right, child_there, some_child, leads_down, ends_here, none_kept, not_right_of}
use Rattle.blink_live.proofs.live.Live.way_from.Goals as goal

-- ---- at an entry

pub overflow_cast-result : goal.overflow_cast-result
overflow_cast-result c =
    let page = c.requires.page.0 in
    let reads = c.requires.page.1 in
    let entry = sym c.in-Some.is ∙ c.entry_from.ensures.entry c.args.row page c.row_place-start.ensures.start reads in
    let not_right = not_right_of page c.args.key c.in-Some.found c.in-Some.value reads.lawful entry in
    let inner = c.if-level-gt0.true in
    let level = c.requires.page.2 in
    let child = (child_there page c.args.key c.in-Some.found c.in-Some.value reads.lawful (omega (arith, level, inner)) not_right entry).1 in
    omega (arith, child)

pub returns-then-level-gt0-clause-way : goal.returns-then-level-gt0-clause-way
returns-then-level-gt0-clause-way c page reads level =
    let entry = sym c.in-Some.is ∙ c.entry_from.ensures.entry c.args.row page c.row_place-start.ensures.start reads in
    let not_right = not_right_of page c.args.key c.in-Some.found c.in-Some.value reads.lawful entry in
    let inner = c.if-level-gt0.true in
    let above : 0 < page.level = omega (arith, level, inner) in
    let child = (child_there page c.args.key c.in-Some.found c.in-Some.value reads.lawful above not_right entry).0 in
    leads_down page c.args.key c.in-Some.value not_right above child

pub returns-in-Some-clause-way : goal.returns-in-Some-clause-way
returns-in-Some-clause-way c page reads level =
    let entry = sym c.in-Some.is ∙ c.entry_from.ensures.entry c.args.row page c.row_place-start.ensures.start reads in
    let not_right = not_right_of page c.args.key c.in-Some.found c.in-Some.value reads.lawful entry in
    let leaf = c.if-level-gt0.false in
    ends_here page c.args.key c.kept_under.result not_right (omega (arith, level, leaf)) (c.kept_under.ensures _ _ page.entries reads.lawful.keys_rise entry)

-- ---- behind the last entry

its_link : (c : goal.After-load_word-right) (page : PlainPage) → ReadsPage c.args.seat.now.me c.args.row page → HasLink page c.load_word-right.result
its_link c page reads =
    let start = c.row_place-start.ensures.start in
    let first = ap (λ (x : SeatState). x.0.reads) c.entry_from.ensures.same.2 ∙ reads.reads in
    let high : c.load_word.result ≡ page.high = c.load_word.ensures.word c.args.row (page_words page) start first (omega arith) in
    let word : c.load_word-right.result ≡ unwrap_or page.right 0 = c.load_word-right.ensures.word c.args.row (page_words page) start (ap (λ (x : SeatState). x.0.reads) c.load_word.ensures.same.2 ∙ first) (omega arith) in
    has_link page c.args.key c.load_word-right.result reads.lawful (let fits = c.ranges.key.fits in omega (arith, fits)) (let above = c.if-key-load_word.true in omega (arith, high, above)) word

pub overflow_cast-result-then-key-load_word : goal.overflow_cast-result-then-key-load_word
overflow_cast-result-then-key-load_word c = let has = (its_link c c.requires.page.0 c.requires.page.1).number in omega (arith, has)

pub returns-then-key-load_word-clause-way : goal.returns-then-key-load_word-clause-way
returns-then-key-load_word-clause-way c page reads level =
    let high : c.load_word.result ≡ page.high = c.load_word.ensures.word c.args.row (page_words page) c.row_place-start.ensures.start (ap (λ (x : SeatState). x.0.reads) c.entry_from.ensures.same.2 ∙ reads.reads) (omega arith) in
    let above = c.if-key-load_word.true in
    leads_right page c.args.key c.load_word-right.result (omega (arith, high, above)) (its_link c page reads)

pub returns-clause-way : goal.returns-clause-way
returns-clause-way c page reads level =
    let high : c.load_word.result ≡ page.high = c.load_word.ensures.word c.args.row (page_words page) c.row_place-start.ensures.start (ap (λ (x : SeatState). x.0.reads) c.entry_from.ensures.same.2 ∙ reads.reads) (omega arith) in
    let test = c.if-key-load_word.false in
    let not_right : c.args.key ≤ page.high = omega (arith, high, test) in
    let entry : None ≡ slice_get page.entries (place_of c.args.key page.entries) = sym c.in_default.is ∙ c.entry_from.ensures.entry c.args.row page c.row_place-start.ensures.start reads in
    ends_here page c.args.key None not_right (leaf page c.args.key reads not_right entry) (none_kept c.args.key page.entries entry)
  where
    leaf : {row : ℕ} {me : SeatState} (page : PlainPage) (key : ℕ) → ReadsPage me row page → key ≤ page.high → None ≡ slice_get page.entries (place_of key page.entries) → page.level ≡ 0
    leaf page key reads not_right entry = inner page.level refl
      where
        inner : (level : ℕ) → page.level ≡ level → page.level ≡ 0
        inner zero is = is
        inner (suc level) is = absurd (some_child page key reads.lawful (omega (arith, is)) not_right entry)
