use Rattle.std.proofs.Common.{ℕ, ◌+◌, ◌*◌, [], ◌∷◌, refl, sym, ap, ◌∙◌, subst, arith}
use Rattle.blink_rows.specs.{page_word}
use Rattle.blink_rows.specs.declared.naming.Records.{Records}
use Rattle.blink_machine.specs.{page_out}
use Rattle.blink_live.specs.Additions.{CountsAdded, IsNextWord}
use Rattle.blink_live.specs.Seats.{HasSameNumber}
use Rattle.blink_live.specs.Straight.{added_nothing, changing}
use Rattle.blink_live.proofs.added.RecordsAreAppended.{key_added, key_next, pointer_next, record_counted, told_in_range, under_way_keyed, under_way_then}
use Rattle.blink_live.proofs.changed.UpdatesGoOn as on
use Rattle.blink_live.proofs.live.Live.append_leaf.Goals as goal

pub add_word-requires-clause-next : goal.add_word-requires-clause-next
add_word-requires-clause-next c =
    let counts = ap (λ (r : Records). r.count) c.records_in-records.ensures.records in
    let from = c.from.ensures in
    subst (λ (row : ℕ). IsNextWord row (6 + 2 * (c.args.spot.now.base + c.from.result)) c.args.seat.now.me) (sym c.row_in-row.ensures.row) (key_next c.requires.changes.1 c.requires.few c.requires.inside (6 + 2 * (c.args.spot.now.base + c.from.result)) (omega (arith, counts, from)))

pub add_word-requires-2-clause-seat : goal.add_word-requires-2-clause-seat
add_word-requires-2-clause-seat c =
    let to = c.requires.changes.1 in
    let key = c.add_word.ensures.added (added_nothing c.args.descent.now.leaf c.args.spot.now.word) to.appends in
    on.is_its_seat (under_way_keyed to c.requires.few c.requires.inside c.add_word.new.seat key c.add_word.ensures.same)

pub add_word-requires-2-clause-next : goal.add_word-requires-2-clause-next
add_word-requires-2-clause-next c =
    let to = c.requires.changes.1 in
    let key = c.add_word.ensures.added (added_nothing c.args.descent.now.leaf c.args.spot.now.word) to.appends in
    let counts = ap (λ (r : Records). r.count) c.records_in-records.ensures.records in
    let from = c.from.ensures in
    subst (λ (row : ℕ). IsNextWord row (6 + 2 * (c.args.spot.now.base + c.from.result) + 1) c.add_word.new.seat.me) (sym c.row_in-row.ensures.row) (pointer_next to c.requires.few c.requires.inside c.add_word.new.seat key (6 + 2 * (c.args.spot.now.base + c.from.result) + 1) (omega (arith, counts, from)))

pub page_word-word-requires-clause-count : goal.page_word-word-requires-clause-count
page_word-word-requires-clause-count c =
    let to = c.requires.changes.1 in
    let told = c.with.ensures to.version.version.records c.args.change.now (to.version.version.counts ∙ sym c.records_in-records.ensures.records) refl in
    (told_in_range to c.requires.few c.requires.inside c.with.result told).0

pub page_word-word-requires-clause-kinds : goal.page_word-word-requires-clause-kinds
page_word-word-requires-clause-kinds c =
    let to = c.requires.changes.1 in
    let told = c.with.ensures to.version.version.records c.args.change.now (to.version.version.counts ∙ sym c.records_in-records.ensures.records) refl in
    (told_in_range to c.requires.few c.requires.inside c.with.result told).1

pub count_added-requires-clause-seat : goal.count_added-requires-clause-seat
count_added-requires-clause-seat c =
    let to = c.requires.changes.1 in
    let key = c.add_word.ensures.added (added_nothing c.args.descent.now.leaf c.args.spot.now.word) to.appends in
    let pointer = c.add_word-2.ensures.added (record { number = c.args.descent.now.leaf; word = c.args.spot.now.word; words = c.args.change.now.key ∷ [] }) (key_added to c.requires.few c.requires.inside c.add_word.new.seat key) in
    let same : HasSameNumber c.args.seat.now c.add_word-2.new.seat = (c.add_word-2.ensures.same.0 ∙ c.add_word.ensures.same.0, c.add_word-2.ensures.same.1 ∙ c.add_word.ensures.same.1) in
    let is = under_way_then to c.requires.few c.requires.inside c.add_word.new.seat key c.add_word-2.new.seat pointer same in
    on.is_its_seat is

pub count_added-requires-clause-at : goal.count_added-requires-clause-at
count_added-requires-clause-at c =
    let to = c.requires.changes.1 in
    let key = c.add_word.ensures.added (added_nothing c.args.descent.now.leaf c.args.spot.now.word) to.appends in
    let pointer = c.add_word-2.ensures.added (record { number = c.args.descent.now.leaf; word = c.args.spot.now.word; words = c.args.change.now.key ∷ [] }) (key_added to c.requires.few c.requires.inside c.add_word.new.seat key) in
    let same : HasSameNumber c.args.seat.now c.add_word-2.new.seat = (c.add_word-2.ensures.same.0 ∙ c.add_word.ensures.same.0, c.add_word-2.ensures.same.1 ∙ c.add_word.ensures.same.1) in
    let is = under_way_then to c.requires.few c.requires.inside c.add_word.new.seat key c.add_word-2.new.seat pointer same in
    let told = c.with.ensures to.version.version.records c.args.change.now (to.version.version.counts ∙ sym c.records_in-records.ensures.records) refl in
    let counts = record_counted to c.requires.few c.requires.inside c.add_word.new.seat key c.add_word-2.new.seat pointer c.with.result told in (
      changing c.args.self.now.fan c.args._op c.args.descent.now c.args.spot.now to.page c.args.change.now,
      on.is_its_operation is (λ ends. absurd (cc)),
      on.its_words_fit is,
      refl,
      on.may_change is,
      subst (λ (word : ℕ). CountsAdded c.args.descent.now.leaf word c.add_word-2.new.seat.me (page_out (changing c.args.self.now.fan c.args._op c.args.descent.now c.args.spot.now to.page c.args.change.now) 0)) (sym (c.page_word-word.ensures.word ∙ ap (λ (row : ℕ). page_word row c.with.result) c.row_in-row.ensures.row)) counts,
    )

pub returns : goal.returns
returns c = λ first to.
    let key = c.add_word.ensures.added (added_nothing c.args.descent.now.leaf c.args.spot.now.word) to.appends in
    let pointer = c.add_word-2.ensures.added (record { number = c.args.descent.now.leaf; word = c.args.spot.now.word; words = c.args.change.now.key ∷ [] }) (key_added to c.requires.few c.requires.inside c.add_word.new.seat key) in
    let same : HasSameNumber c.args.seat.now c.add_word-2.new.seat = (c.add_word-2.ensures.same.0 ∙ c.add_word.ensures.same.0, c.add_word-2.ensures.same.1 ∙ c.add_word.ensures.same.1) in
    let is = under_way_then to c.requires.few c.requires.inside c.add_word.new.seat key c.add_word-2.new.seat pointer same in
    let counted = c.count_added.ensures.counted (changing c.args.self.now.fan c.args._op c.args.descent.now c.args.spot.now to.page c.args.change.now) (on.is_its_operation is (λ ends. absurd (cc))) refl in
    on.after_append is c.count_added.ensures.same c.args.descent.now.leaf refl counted
