use Rattle.std.proofs.Common.{◌≡◌, ℕ, suc, ◌+◌, ◌*◌, ◌-◌, ◌<◌, ◌≤◌, List, sym, ap, ◌∙◌, subst, arith}
use Rattle.blink_page.specs.{PlainPage, value_at}
use Rattle.blink_rows.specs.{pointer_after}
use Rattle.blink_rows.specs.declared.limits.TheConstants.{ROW_WORDS}
use Rattle.blink_rows.specs.declared.log.Record.{Record}
use Rattle.blink_rows.specs.declared.naming.Records.{Records}
use Rattle.blink_rows.proofs.Offered.{HasNext, IsLeft, next_left, none_left, passes_next}
use Rattle.blink_live.specs.Seats.{IsSaid, ReadsVersion}
use Rattle.blink_live.specs.Views.{SeatState}
use Rattle.blink_live.proofs.found.RecordsInRow.{IsItsRecord, all_inside, base_counted, count_is, counted_there, key_loaded, pointer_loaded, same_record, says_newest}
use Rattle.blink_live.proofs.live.Live.newest.Goals as goal

-- the words of the next record stand in the row
place_inside : (loaded_base from left count base many : ℕ) → loaded_base ≡ base → count ≡ many → from ≡ left - 1 → 0 < left → left ≤ count → 6 + 2 * (base + many) ≤ ROW_WORDS → 6 + 2 * (loaded_base + from) + 1 < ROW_WORDS
place_inside loaded_base from left count base many base_is count_is from_is some few room = omega (arith, base_is, count_is, from_is, some, few, room)

pub overflow_add-at : goal.overflow_add-at
overflow_add-at c =
    let is = c.requires.page.1 in
    let inside = place_inside c.load_word-base.result c.from.result c.loop-left.left c.records_in-records.result.count _ _ (base_counted c.args.self.now.counts is c.row_place-start.ensures.start c.row_in.ensures.row c.load_word-base.ensures.word)
    (ap (λ (r : Records). r.count) c.records_in-records.ensures.records ∙ sym (count_is is)) c.from.ensures c.loop-left-test.true c.loop-left.invariant.few (all_inside is) in
    omega (arith, inside)

pub overflow_mul-at : goal.overflow_mul-at
overflow_mul-at c =
    let is = c.requires.page.1 in
    let inside = place_inside c.load_word-base.result c.from.result c.loop-left.left c.records_in-records.result.count _ _ (base_counted c.args.self.now.counts is c.row_place-start.ensures.start c.row_in.ensures.row c.load_word-base.ensures.word)
    (ap (λ (r : Records). r.count) c.records_in-records.ensures.records ∙ sym (count_is is)) c.from.ensures c.loop-left-test.true c.loop-left.invariant.few (all_inside is) in
    omega (arith, inside)

pub overflow_add-at-in-loop-left : goal.overflow_add-at-in-loop-left
overflow_add-at-in-loop-left c =
    let is = c.requires.page.1 in
    let inside = place_inside c.load_word-base.result c.from.result c.loop-left.left c.records_in-records.result.count _ _ (base_counted c.args.self.now.counts is c.row_place-start.ensures.start c.row_in.ensures.row c.load_word-base.ensures.word)
    (ap (λ (r : Records). r.count) c.records_in-records.ensures.records ∙ sym (count_is is)) c.from.ensures c.loop-left-test.true c.loop-left.invariant.few (all_inside is) in
    omega (arith, inside)

pub load_word-requires-clause-place : goal.load_word-requires-clause-place
load_word-requires-clause-place c =
    let is = c.requires.page.1 in
    let inside = place_inside c.load_word-base.result c.from.result c.loop-left.left c.records_in-records.result.count _ _ (base_counted c.args.self.now.counts is c.row_place-start.ensures.start c.row_in.ensures.row c.load_word-base.ensures.word)
    (ap (λ (r : Records). r.count) c.records_in-records.ensures.records ∙ sym (count_is is)) c.from.ensures c.loop-left-test.true c.loop-left.invariant.few (all_inside is) in
    omega (arith, inside)

pub overflow_add-at-then-load_word-key : goal.overflow_add-at-then-load_word-key
overflow_add-at-then-load_word-key c =
    let is = c.requires.page.1 in
    let inside = place_inside c.load_word-base.result c.from.result c.loop-left.left c.records_in-records.result.count _ _ (base_counted c.args.self.now.counts is c.row_place-start.ensures.start c.row_in.ensures.row c.load_word-base.ensures.word)
    (ap (λ (r : Records). r.count) c.records_in-records.ensures.records ∙ sym (count_is is)) c.from.ensures c.loop-left-test.true c.loop-left.invariant.few (all_inside is) in
    omega (arith, inside)

pub load_word-pointer-requires-clause-place : goal.load_word-pointer-requires-clause-place
load_word-pointer-requires-clause-place c =
    let is = c.requires.page.1 in
    let inside = place_inside c.load_word-base.result c.from.result c.loop-left.left c.records_in-records.result.count _ _ (base_counted c.args.self.now.counts is c.row_place-start.ensures.start c.row_in.ensures.row c.load_word-base.ensures.word)
    (ap (λ (r : Records). r.count) c.records_in-records.ensures.records ∙ sym (count_is is)) c.from.ensures c.loop-left-test.true c.loop-left.invariant.few (all_inside is) in
    omega (arith, inside)

-- the next record, from the newest on
its_next : (key left : ℕ) {me : SeatState} {word : ℕ} {page : PlainPage} (is : ReadsVersion me word page) → 0 < left → IsLeft key is.version.records left → HasNext key is.version.records (left - 1)
its_next key left is some at = next_left key is.version.records (left - 1) (subst (IsLeft key is.version.records) (let e : left ≡ suc (left - 1) = omega (arith, some) in e) at)

abbrev as_one : {key : ℕ} {records : List Record} {left : ℕ} → (next : HasNext key records left) → IsItsRecord records left next.r
as_one next = record { older = next.older; newer = next.newer; whole = next.whole; many = next.many }

pub returns-clause-silent : goal.returns-clause-silent
returns-clause-silent c page is =
    let none : c.loop-left.left ≡ 0 = let ends = c.loop-left-test.false in omega (arith, ends) in
    ap (λ (p : PlainPage). value_at c.args.key p.entries) is.version.is ∙ none_left c.args.key is.base.entries is.version.records (subst (IsLeft c.args.key is.version.records) none (c.loop-left.invariant.left page is))

-- the loads tell the record
pub loop-left-preserved : goal.loop-left-preserved
loop-left-preserved c =
    let same = c.loop-left.invariant.same in
    let load = c.load_word.ensures.same in
    let some = c.loop-left-test.true in
    let few = c.loop-left.invariant.few in record {
      same = (load.0 ∙ same.0, load.1 ∙ same.1, load.2 ∙ same.2);
      few = omega (arith, few);
      left = λ page is.
          let next = its_next c.args.key c.loop-left.left is some (c.loop-left.invariant.left page is) in
          let base = base_counted c.args.self.now.counts is c.row_place-start.ensures.start c.row_in.ensures.row c.load_word-base.ensures.word in
          let from = c.from.ensures in
          let key : c.load_word.result ≡ next.r.key = key_loaded c.args.self.now.counts is (same.2 ∙ c.load_word-base.ensures.same.2) c.row_place-start.ensures.start c.row_in.ensures.row (c.loop-left.left - 1) next.r (as_one next) _ c.load_word.result (omega (arith, base, from)) c.load_word.ensures.behind in
          passes_next c.args.key is.version.records (c.loop-left.left - 1) next (λ its. c.if-load_word-key.false (key ∙ its));
    }

pub returns-then-load_word-key-clause-said : goal.returns-then-load_word-key-clause-said
returns-then-load_word-key-clause-said c page is =
    let same = c.loop-left.invariant.same in
    let next = its_next c.args.key c.loop-left.left is c.loop-left-test.true (c.loop-left.invariant.left page is) in
    let base = base_counted c.args.self.now.counts is c.row_place-start.ensures.start c.row_in.ensures.row c.load_word-base.ensures.word in
    let from = c.from.ensures in
    let here = same.2 ∙ c.load_word-base.ensures.same.2 in
    let key : c.load_word.result ≡ next.r.key = key_loaded c.args.self.now.counts is here c.row_place-start.ensures.start c.row_in.ensures.row (c.loop-left.left - 1) next.r (as_one next) _ c.load_word.result (omega (arith, base, from)) c.load_word.ensures.behind in
    let pointer : c.load_word-pointer.result ≡ next.r.pointer = pointer_loaded c.args.self.now.counts is (c.load_word.ensures.same.2 ∙ here) c.row_place-start.ensures.start c.row_in.ensures.row (c.loop-left.left - 1) next.r (as_one next) _ c.load_word-pointer.result (omega (arith, base, from)) c.load_word-pointer.ensures.behind in
    let kind = c.kind-kind.ensures next.older next.r next.newer (counted_there is (c.loop-left.left - 1) next.r (as_one next) ∙ sym c.records_in-records.ensures.records) next.many in
    let its : next.r.key ≡ c.args.key = sym key ∙ c.if-load_word-key.true in
    subst (IsSaid c.args.key page) (sym (c.pointer_after.ensures ∙ ap pointer_after (same_record c.kind-kind.result c.args.key c.load_word-pointer.result next.r kind (sym its) pointer)))
    (says_newest is c.args.key (c.loop-left.left - 1) next its)
