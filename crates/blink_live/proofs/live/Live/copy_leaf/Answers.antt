use Rattle.std.proofs.Common.{ℕ, sym, ap, ◌∙◌, subst, arith}
use Rattle.std.proofs.lemmas.List.{length-take-le}
use Rattle.blink_rows.specs.declared.naming.Records.{Records}
use Rattle.blink_live.specs.Scanning.{stop_of}
use Rattle.blink_live.specs.Seats.{ReadsPage}
use Rattle.blink_live.specs.Views.{known_of}
use Rattle.blink_live.proofs.found.VersionsAreRead.{base_in, page_alone}
use Rattle.blink_live.proofs.scanned.LeavesOfReplacements.{first_copied, leaf_copied, no_more, version_still}
use Rattle.blink_live.proofs.live.Live.copy_leaf.Goals as goal

pub returns-then-records-eq0-clause-copied : goal.returns-then-records-eq0-clause-copied
returns-then-records-eq0-clause-copied c =
    let leaf = c.requires.leaf in
    let none = ap (λ (r : Records). r.count) (sym c.records_in-records.ensures.records) ∙ c.if-records-eq0.true in
    c.copy_row.ensures.copied leaf.leaf (known_of c.args.seat.now.me.0)
    (subst (λ (row : ℕ). ReadsPage c.args.seat.now.me row leaf.leaf) (sym c.row_in.ensures.row) (page_alone leaf.reads none))
    (record { reaches = leaf.reaches; states = leaf.states })

-- ---- all records are replacements

pub slice_bounds-replace_in-end : goal.slice_bounds-replace_in-end
slice_bounds-replace_in-end c =
    let more = no_more c.requires.leaf c.row_in-then-records-eq0-2.ensures.row c.args.into.now c.copy_row-copied.new.into c.copy_row-copied.result.filled (stop_of c.args.hi c.copy_row-copied.result.next) c.copy_row-copied.ensures.copied in
    let long = c.copy_row-copied.auto.into in
    omega (arith, more, long)

pub slice_bounds-replace_in-end-then-records-eq0-2 : goal.slice_bounds-replace_in-end-then-records-eq0-2
slice_bounds-replace_in-end-then-records-eq0-2 c =
    let more = no_more c.requires.leaf c.row_in-then-records-eq0-2.ensures.row c.args.into.now c.copy_row-copied.new.into c.copy_row-copied.result.filled (stop_of c.args.hi c.copy_row-copied.result.next) c.copy_row-copied.ensures.copied in
    let long = c.copy_row-copied.auto.into in
    sym (length-take-le c.copy_row-copied.result.filled c.copy_row-copied.new.into (omega (arith, more, long)))

pub returns-then-records-eq0-2-clause-copied : goal.returns-then-records-eq0-2-clause-copied
returns-then-records-eq0-2-clause-copied c =
    let leaf = c.requires.leaf in
    let row = c.row_in-then-records-eq0-2.ensures.row in
    let stop = stop_of c.args.hi c.copy_row-copied.result.next in
    let filled = c.copy_row-copied.result.filled in
    let more = no_more leaf row c.args.into.now c.copy_row-copied.new.into filled stop c.copy_row-copied.ensures.copied in
    let long = c.copy_row-copied.auto.into in
    leaf_copied leaf row c.args.into.now c.copy_row-copied.new.into filled stop c.copy_row-copied.ensures.copied c.replace_in.new.copied
    (c.replace_in.ensures.width ∙ length-take-le filled c.copy_row-copied.new.into (omega (arith, more, long)))
    (c.copy_row-copied.ensures.within leaf.reads.base (base_in leaf.reads row))
    (c.replace_in.ensures.copied leaf.leaf (version_still c.copy_row-copied.ensures.same.2 leaf.reads) c.args.from stop
    (first_copied leaf row c.args.into.now c.copy_row-copied.new.into filled stop c.copy_row-copied.ensures.copied))
