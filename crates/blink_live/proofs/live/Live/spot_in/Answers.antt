use Rattle.std.proofs.Common.{length, sym, ap, ◌∙◌, arith}
use Rattle.blink_page.specs.{PlainPage}
use Rattle.blink_page.specs.declared.limits.TheConstants.{MAX_FAN}
use Rattle.blink_live.proofs.found.RecordsInRow.{base_counted, few_entries, few_records}
use Rattle.blink_live.proofs.live.Live.spot_in.Goals as goal

pub live-requires : goal.live-requires
live-requires c =
    let is = c.requires.page.1 in
    let base = base_counted c.args.self.now.counts is c.row_place-start.ensures.start c.row_in.ensures.row c.load_word-base.ensures.word in
    let few = few_entries is in
    omega (arith, base, few)

pub returns-clause-base : goal.returns-clause-base
returns-clause-base c page is = base_counted c.args.self.now.counts is c.row_place-start.ensures.start c.row_in.ensures.row c.load_word-base.ensures.word

pub returns-clause-count : goal.returns-clause-count
returns-clause-count c page is =
    let base = base_counted c.args.self.now.counts is c.row_place-start.ensures.start c.row_in.ensures.row c.load_word-base.ensures.word in
    c.live.ensures MAX_FAN is.base is.version.records (is.version.logged is.lawful).all_fit (few_records is) (is.version.counts ∙ sym c.records_in.ensures.records) base ∙ ap (λ (p : PlainPage). length p.entries) (sym is.version.is)
