use Rattle.std.proofs.Common.{◌≡◌, ℕ, ◌+◌, ◌*◌, ◌<◌, ◌≤◌, length, take, sym, ap, ◌∙◌, subst, arith, rules}
use Rattle.std.proofs.lemmas.List.{take_all}
use Rattle.blink_page.specs.{PlainPage}
use Rattle.blink_page.specs.declared.limits.TheConstants.{MAX_FAN}
use Rattle.blink_rows.specs.{Fits, page_after, page_with}
use Rattle.blink_rows.specs.declared.limits.TheConstants.{ROW_WORDS}
use Rattle.blink_rows.specs.declared.log.Record.{Record}
use Rattle.blink_rows.specs.declared.naming.Records.{Records}
use Rattle.blink_live.proofs.found.RecordsInRow.{all_inside, count_is, counted_there, fits_there, key_loaded, one_applied, pointer_loaded, record_at, same_record}
use Rattle.blink_live.proofs.found.VersionsAreRead.{base_in}
use Rattle.blink_live.proofs.live.Live.page_in_row.Goals as goal

-- the words of a record stand in the row
place_inside : (loaded_base from older count base many : ℕ) → loaded_base ≡ base → count ≡ many → from ≡ older → older < count → 6 + 2 * (base + many) ≤ ROW_WORDS → 6 + 2 * (loaded_base + from) + 1 < ROW_WORDS
place_inside loaded_base from older count base many base_is count_is from_is one room = omega (arith, base_is, count_is, from_is, one, room)

pub load_word-key-requires-clause-place : goal.load_word-key-requires-clause-place
load_word-key-requires-clause-place c =
    let is = c.requires.page.1 in
    let inside = place_inside c.len-base.result c.from.result c.loop-older.older c.records_in-records.result.count _ _ (c.len-base.ensures.value ∙ ap (λ (p : PlainPage). length p.entries) (c.page.view_is ∙ c.base_in_row-page.ensures.page is.base (base_in is c.row_in-row.ensures.row)))
    (ap (λ (r : Records). r.count) c.records_in-records.ensures.records ∙ sym (count_is is)) c.from.ensures c.loop-older-test.true (all_inside is) in
    omega (arith, inside)

pub load_word-pointer-requires-clause-place : goal.load_word-pointer-requires-clause-place
load_word-pointer-requires-clause-place c =
    let is = c.requires.page.1 in
    let inside = place_inside c.len-base.result c.from.result c.loop-older.older c.records_in-records.result.count _ _ (c.len-base.ensures.value ∙ ap (λ (p : PlainPage). length p.entries) (c.page.view_is ∙ c.base_in_row-page.ensures.page is.base (base_in is c.row_in-row.ensures.row)))
    (ap (λ (r : Records). r.count) c.records_in-records.ensures.records ∙ sym (count_is is)) c.from.ensures c.loop-older-test.true (all_inside is) in
    omega (arith, inside)

pub apply-requires : goal.apply-requires
apply-requires c =
    let page = c.requires.page.0 in
    let is = c.requires.page.1 in
    let older = c.loop-older.older in
    let many : c.records_in-records.result.count ≡ length is.version.records = ap (λ (r : Records). r.count) c.records_in-records.ensures.records ∙ sym (count_is is) in
    let inside : older < length is.version.records = let test = c.loop-older-test.true in omega (arith, many, test) in
    let at = record_at is.version.records older inside in
    let base : c.len-base.result ≡ length is.base.entries = c.len-base.ensures.value ∙ ap (λ (p : PlainPage). length p.entries) (c.page.view_is ∙ c.base_in_row-page.ensures.page is.base (base_in is c.row_in-row.ensures.row)) in
    let from = c.from.ensures in
    let same = c.loop-older.invariant.same.2 in
    let key : c.load_word-key.result ≡ at.0.key = key_loaded c.args.self.now.counts is same c.row_place-start.ensures.start c.row_in-row.ensures.row older at.0 at.1 _ c.load_word-key.result (omega (arith, base, from)) c.load_word-key.ensures.behind in
    let pointer : c.load_word-pointer.result ≡ at.0.pointer = pointer_loaded c.args.self.now.counts is (c.load_word-key.ensures.same.2 ∙ same) c.row_place-start.ensures.start c.row_in-row.ensures.row older at.0 at.1 _ c.load_word-pointer.result (omega (arith, base, from)) c.load_word-pointer.ensures.behind in
    let kind = c.kind-kind.ensures at.1.older at.0 at.1.newer (counted_there is older at.0 at.1 ∙ sym c.records_in-records.ensures.records) at.1.many in
    let it = same_record c.kind-kind.result c.load_word-key.result c.load_word-pointer.result at.0 kind key pointer in
    let applied = c.loop-older.invariant.applied page is in
    subst (λ (x : PlainPage × Record). Fits MAX_FAN x.0 x.1) (λ i. (sym applied i, sym it i)) (fits_there is older inside)

pub loop-older-preserved : goal.loop-older-preserved
loop-older-preserved c =
    let same = c.loop-older.invariant.same in
    let first = c.load_word-key.ensures.same in
    let second = c.load_word-pointer.ensures.same in record {
      same = (second.0 ∙ first.0 ∙ same.0, second.1 ∙ first.1 ∙ same.1, second.2 ∙ first.2 ∙ same.2);
      applied = λ page is.
          let older = c.loop-older.older in
          let many : c.records_in-records.result.count ≡ length is.version.records = ap (λ (r : Records). r.count) c.records_in-records.ensures.records ∙ sym (count_is is) in
          let inside : older < length is.version.records = let test = c.loop-older-test.true in omega (arith, many, test) in
          let at = record_at is.version.records older inside in
          let base : c.len-base.result ≡ length is.base.entries = c.len-base.ensures.value ∙ ap (λ (p : PlainPage). length p.entries) (c.page.view_is ∙ c.base_in_row-page.ensures.page is.base (base_in is c.row_in-row.ensures.row)) in
          let from = c.from.ensures in
          let key : c.load_word-key.result ≡ at.0.key = key_loaded c.args.self.now.counts is same.2 c.row_place-start.ensures.start c.row_in-row.ensures.row older at.0 at.1 _ c.load_word-key.result (omega (arith, base, from)) c.load_word-key.ensures.behind in
          let pointer : c.load_word-pointer.result ≡ at.0.pointer = pointer_loaded c.args.self.now.counts is (first.2 ∙ same.2) c.row_place-start.ensures.start c.row_in-row.ensures.row older at.0 at.1 _ c.load_word-pointer.result (omega (arith, base, from)) c.load_word-pointer.ensures.behind in
          let kind = c.kind-kind.ensures at.1.older at.0 at.1.newer (counted_there is older at.0 at.1 ∙ sym c.records_in-records.ensures.records) at.1.many in
          let it = same_record c.kind-kind.result c.load_word-key.result c.load_word-pointer.result at.0 kind key pointer in
          c.apply.ensures ∙ ((λ i. page_after (c.loop-older.invariant.applied page is i) (it i)) ∙ one_applied is older inside);
    }

pub returns-clause-page : goal.returns-clause-page
returns-clause-page c page is =
    let many : c.records_in-records.result.count ≡ length is.version.records = ap (λ (r : Records). r.count) c.records_in-records.ensures.records ∙ sym (count_is is) in
    let all : c.loop-older.older ≡ length is.version.records = omega (arith, many, c.loop-older-test.false, c.loop-older.auto.older-end) in
    c.loop-older.invariant.applied page is
    ∙ (ap (λ (n : ℕ). page_with is.base (take n is.version.records)) all
    ∙ (ap (page_with is.base) (take_all (length is.version.records) is.version.records (omega arith)) ∙ sym is.version.is))

pub loop-older-init : goal.loop-older-init
loop-older-init c = search rules
