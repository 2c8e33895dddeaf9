use Rattle.std.proofs.Common.{◌≡◌, ap, ◌∙◌, arith}
use Rattle.std.specs.Prelude.{unwrap_or}
use Rattle.blink_page.specs.{PlainPage}
use Rattle.blink_page.specs.declared.search.Way.TheVariants.{Right}
use Rattle.blink_rows.specs.{page_words}
use Rattle.blink_live.specs.Seats.{ReadsVersion}
use Rattle.blink_live.specs.Views.{SeatState}
use Rattle.blink_live.proofs.found.VersionsAreRead.{base_in, leads_by_base}
use Rattle.blink_live.proofs.found.WaysFromRow.{HasLink, has_link}
use Rattle.blink_live.proofs.table.VersionsOfPages.{same_head}
use Rattle.blink_live.proofs.live.Live.side_of.Goals as goal

its_link : (c : goal.After-load_word-right) {page : PlainPage} → (is : ReadsVersion c.args.seat.now.me c.args.word page) → HasLink is.base c.load_word-right.result
its_link c is =
    let reads = base_in is c.row_in.ensures.row in
    let start = c.row_place-start.ensures.start in
    let high : c.load_word.result ≡ is.base.high = c.load_word.ensures.word c.row_in.result (page_words is.base) start reads.reads (omega arith) in
    let word : c.load_word-right.result ≡ unwrap_or is.base.right 0 = c.load_word-right.ensures.word c.row_in.result (page_words is.base) start (ap (λ (x : SeatState). x.0.reads) c.load_word.ensures.same.2 ∙ reads.reads) (omega arith) in
    has_link is.base c.args.key c.load_word-right.result reads.lawful (let fits = c.ranges.key.fits in omega (arith, fits)) (let above = c.if-key-load_word.true in omega (arith, high, above)) word

pub overflow_cast-result : goal.overflow_cast-result
overflow_cast-result c = let has = (its_link c c.requires.page.1).number in omega (arith, has)

pub returns-then-key-load_word-clause-way : goal.returns-then-key-load_word-clause-way
returns-then-key-load_word-clause-way c page is level =
    let high : c.load_word.result ≡ is.base.high = c.load_word.ensures.word c.row_in.result (page_words is.base) c.row_place-start.ensures.start (base_in is c.row_in.ensures.row).reads (omega arith) in
    let above = c.if-key-load_word.true in
    leads_by_base c.args.key (Right c.load_word-right.result) is (omega (arith, high, above), (its_link c is).link)

pub returns-clause-way : goal.returns-clause-way
returns-clause-way c page is level =
    let high : c.load_word.result ≡ is.base.high = c.load_word.ensures.word c.row_in.result (page_words is.base) c.row_place-start.ensures.start (base_in is c.row_in.ensures.row).reads (omega arith) in
    let test = c.if-key-load_word.false in
    let same = (same_head is.version).high in
    (omega (arith, high, test, same), level)
