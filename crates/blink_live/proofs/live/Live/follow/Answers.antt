use Rattle.std.proofs.Common.{◌≡◌, ℕ, ◌<◌, Option, Some, List, length, ap, ◌∙◌, sym, subst, arith}
use Rattle.std.specs.Prelude.{slice_index, unwrap_or}
use Rattle.blink_rows.specs.{PlainCounts, page_words, row_in}
use Rattle.blink_live.specs.Along.{GoesAlong}
use Rattle.blink_live.specs.Finding.{HasSearched}
use Rattle.blink_live.specs.Seats.{ReadsLeaf, ReadsPage}
use Rattle.blink_live.specs.Views.{SeatState}
use Rattle.blink_live.specs.Words.{IsRowNumber, row_start}
use Rattle.blink_live.proofs.found.FindsOfSeveral.{searched_seat}
use Rattle.blink_live.proofs.found.VersionsAreRead.{base_of, key_of_version}
use Rattle.blink_live.proofs.table.VersionsOfPages.{same_head}
use Rattle.blink_live.proofs.looked.SeatsGoAlong.{leaf_along, plan_counts, reads_along, right_along, searched_along}
use Rattle.blink_live.proofs.live.Live.follow.Goals as goal

-- the seat reads the base in the row that was decoded
base_there : {word row : ℕ} {me new : SeatState} (along : GoesAlong me word new) → row ≡ row_in word → ReadsPage new row along.base
base_there {word} {row} {me} {new} along names = subst (λ (r : ℕ). ReadsPage new r along.base) (sym names) (base_of (reads_along word me new along))

-- the right link stands in the base, and is the page's
link_word : (counts : PlainCounts) {word row start loaded : ℕ} {me new now : SeatState} (along : GoesAlong me word new) → row ≡ row_in word → start ≡ row_start counts row → now ≡ new
    → ((content : List ℕ) → start ≡ row_start counts row → now.0.reads ≡ Some (row, content) → 4 < length content → loaded ≡ slice_index content 4) → loaded ≡ unwrap_or along.page.right 0
link_word counts along names begins same loads =
    loads (page_words along.base) begins (ap (λ (x : SeatState). x.0.reads) same ∙ (base_there along names).reads) (omega arith) ∙ ap (λ (o : Option ℕ). unwrap_or o 0) (sym (same_head along.version).right)

pub has_key-requires : goal.has_key-requires
has_key-requires c =
    let along = c.go_along-word.ensures in
    let searched = searched_along c.go_along-word.result c.args.seat.now.me c.go_along-word.new.seat.me c.requires.idle along.along in record {
      seat = searched_seat c.args.self.now c.args.seat.now.table_id c.go_along-word.new.seat.table_id c.args.seat.now.me c.go_along-word.new.seat.me along.same_table.0 searched c.requires.seat;
      row = subst (λ (r : ℕ). IsRowNumber c.args.self.now.counts r) (sym c.row_in-row.ensures.row) (subst (λ (n : PlainCounts). IsRowNumber n (row_in c.go_along-word.result)) (plan_counts c.args.self.now c.args.seat.now.table_id c.args.seat.now.me c.requires.seat) along.along.row_in_range);
    }

pub link_of-right-requires : goal.link_of-right-requires
link_of-right-requires c =
    let along = c.go_along-word.ensures.along in
    (along.page, along.lawful, link_word c.args.self.now.counts along c.row_in-row.ensures.row c.row_place-start.ensures.start c.has_key.ensures.same (c.load_word.ensures.word c.row_in-row.result))

pub returns-clause-searched : goal.returns-clause-searched
returns-clause-searched c =
    let along = c.go_along-word.ensures.along in
    subst (HasSearched c.args.seat.now.me) (sym (c.load_word.ensures.same.2 ∙ c.has_key.ensures.same)) (searched_along c.go_along-word.result c.args.seat.now.me c.go_along-word.new.seat.me c.requires.idle along)

pub returns-clause-leaf : goal.returns-clause-leaf
returns-clause-leaf c =
    let along = c.go_along-word.ensures.along in
    subst (ReadsLeaf c.args.key c.go_along-word.result) (sym (c.load_word.ensures.same.2 ∙ c.has_key.ensures.same))
    (leaf_along c.go_along-word.result c.args.key c.args.seat.now.me c.go_along-word.new.seat.me along
    (key_of_version (reads_along c.go_along-word.result c.args.seat.now.me c.go_along-word.new.seat.me along) (c.has_key.ensures.has c.if-not-has_key.false along.base (base_there along c.row_in-row.ensures.row))))

pub returns-clause-right : goal.returns-clause-right
returns-clause-right c =
    let along = c.go_along-word.ensures.along in
    let word = link_word c.args.self.now.counts along c.row_in-row.ensures.row c.row_place-start.ensures.start c.has_key.ensures.same (c.load_word.ensures.word c.row_in-row.result) in
    right_along c.args.self.now.counts c.go_along-word.result c.args.seat.now.me c.go_along-word.new.seat.me c.load_word.new.seat.me c.link_of-right.result along (plan_counts c.args.self.now c.args.seat.now.table_id c.args.seat.now.me c.requires.seat)
    (c.load_word.ensures.same.2 ∙ c.has_key.ensures.same) (c.link_of-right.ensures along.page along.lawful word)
