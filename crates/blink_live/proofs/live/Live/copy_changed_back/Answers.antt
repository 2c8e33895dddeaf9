use Rattle.std.proofs.Common.{◌≡◌, ℕ, Option, take, sym, ◌∙◌, subst}
use Rattle.blink_page.specs.{PlainPage}
use Rattle.blink_rows.specs.{row_in}
use Rattle.blink_live.specs.Seats.{ReadsLeaf, ReadsPage}
use Rattle.blink_live.specs.Views.{SeatState}
use Rattle.blink_live.proofs.found.VersionsAreRead.{base_in}
use Rattle.blink_live.proofs.scanned.LeavesAreGiven.{given_last, last_is_before}
use Rattle.blink_live.proofs.table.VersionsOfPages.{same_head}
use Rattle.blink_live.proofs.live.Live.copy_changed_back.Goals as goal

-- the floor that is loaded after the copy is the leaf's
its_floor : {me now : SeatState} {word from : ℕ} (is : ReadsLeaf from word me) (row : ℕ) (floor : Option ℕ) → row ≡ row_in word → now ≡ me → ((page : PlainPage) → ReadsPage now row page → floor ≡ page.floor) → floor ≡ is.leaf.floor
its_floor is row floor names same loads =
    loads is.reads.base (subst (λ (x : SeatState). ReadsPage x row is.reads.base) (sym same) (base_in is.reads names)) ∙ sym (same_head is.reads.version).floor

pub returns-clause-copied : goal.returns-clause-copied
returns-clause-copied c =
    let leaf = c.requires.leaf in
    let edited = c.copy_edited-copied in
    let given = c.give.ensures in
    given_last leaf c.args.lo edited.result.next (take edited.result.filled edited.new.leaf) (edited.ensures.copied leaf.leaf leaf.reads) (edited.ensures.ends leaf.leaf leaf.reads)
    c.load_floor-floor.result c.not_below-next.result
    (its_floor leaf c.row_in.result c.load_floor-floor.result c.row_in.ensures.row edited.ensures.same.2 (λ page. c.load_floor-floor.ensures.floor c.row_in.result page c.row_place-start.ensures.start))
    c.not_below-next.ensures.some c.not_below-next.ensures.none
    c.reverse.new.self c.args.into.now c.give.new.into c.reverse.ensures.after c.give.result.filled c.give.result.next given.filled given.within given.all given.some

pub returns-clause-further : goal.returns-clause-further
returns-clause-further c =
    let leaf = c.requires.leaf in
    let edited = c.copy_edited-copied in
    let given = c.give.ensures in
    last_is_before leaf c.args.lo edited.result.next (take edited.result.filled edited.new.leaf) (edited.ensures.copied leaf.leaf leaf.reads) (edited.ensures.ends leaf.leaf leaf.reads)
    c.load_floor-floor.result c.not_below-next.result
    (its_floor leaf c.row_in.result c.load_floor-floor.result c.row_in.ensures.row edited.ensures.same.2 (λ page. c.load_floor-floor.ensures.floor c.row_in.result page c.row_place-start.ensures.start))
    c.not_below-next.ensures.some c.not_below-next.ensures.none
    c.reverse.new.self c.args.into.now c.give.new.into c.reverse.ensures.after c.give.result.filled c.give.result.next given.filled given.within given.all given.some c.requires.some_place
