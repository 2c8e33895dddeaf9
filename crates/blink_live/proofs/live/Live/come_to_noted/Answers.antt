use Rattle.std.proofs.Common.{◌≡◌, ◌<◌, ℕ, Contains, refl, ap, sym, ◌∙◌, subst}
use Rattle.blink_batch.specs.declared.Op.TheVariants.{Find}
use Rattle.blink_machine.specs.{need_at}
use Rattle.blink_live.specs.declared.view.Look.{Look}
use Rattle.blink_live.specs.declared.view.Plan.{Plan}
use Rattle.blink_live.specs.Snapshots.{NotesMore}
use Rattle.blink_live.specs.Views.{SeatState, for_call}
use Rattle.blink_live.proofs.found.DescentsGoOn.{comes_down, comes_nearer_by_way, comes_right, comes_to_root, find_ends, is_above_child, reads_leaf}
use Rattle.blink_live.proofs.found.OperationsOnTheirWay.{is_its_seat, page_in_range}
use Rattle.blink_live.proofs.looked.SnapshotsGoOn.{comes_noted, searched_noted}
use Rattle.blink_live.proofs.live.Live.come_to_noted.Goals as goal

-- the seat that looks up a key, with the look that it has come to
abbrev looking : SeatState → ℕ → Look → SeatState
looking me key look = (record (for_call me.0 (Find key)) { look = look }, me.1)

-- the notes of a seat that has read a page are those that it had
noted_by_then : (old middle new : SeatState) → NotesMore old.0.look middle.0.look → new.0.look ≡ middle.0.look → NotesMore old.0.look new.0.look
noted_by_then old middle new more same number row has = subst (λ (l : Look). Contains l.leaves (number, row)) (sym same) (more number row has)

noted_on : (old middle new : SeatState) → NotesMore old.0.look middle.0.look → NotesMore middle.0.look new.0.look → NotesMore old.0.look new.0.look
noted_on old middle new one two number row has = two number row (one number row has)

pub loop-next-init : goal.loop-next-init
loop-next-init c = record {
  same_table = c.root-number.ensures.same;
  come = (c.args.seat.now.me.0.look, comes_to_root (Find c.args.key) c.root-number.result.0 c.root-number.result.1 c.args.seat.now.me c.root-number.new.seat.me c.ranges.key.fits c.root-number.ensures.begun);
  more = noted_by_then c.args.seat.now.me c.args.seat.now.me c.root-number.new.seat.me (λ number row has. has) (ap (λ (x : SeatState). x.0.look) c.root-number.ensures.begun.begins.is);
}

pub note_word-noted-requires : goal.note_word-noted-requires
note_word-noted-requires c =
    let first : SeatState = looking c.args.seat.now.me c.args.key c.loop-next.invariant.come.0 in
    let come = c.loop-next.invariant.come.1 in
    let needs = ap need_at come.at.state in
    let same_counts : c.args.seat.now.me.0.plan.counts ≡ c.args.self.now.counts = ap (λ (p : Plan). p.counts) c.requires.seat.same_plan ∙ sym c.args.self.now.counts_are in record {
      seat = is_its_seat {first = first} come.read c.args.self.now c.args.seat.now.table_id c.loop-next.seat.table_id c.loop-next.invariant.same_table.0
          record { same_table = c.requires.seat.same_table; same_plan = c.requires.seat.same_plan; role = c.requires.seat.role };
      at = come.at;
      in_range = page_in_range {first = first} come.read c.args.self.now.counts c.loop-next.number needs same_counts;
    }

pub read_page-requires : goal.read_page-requires
read_page-requires c =
    let noted = c.note_word-noted.ensures in
    let come = comes_noted (Find c.args.key) (looking c.args.seat.now.me c.args.key c.loop-next.invariant.come.0) c.loop-next.seat.me c.note_word-noted.new.seat.me c.loop-next.number c.loop-next.level noted.same c.loop-next.invariant.come.1 in
    let needs = ap need_at come.at.state in
    let same_counts : c.args.seat.now.me.0.plan.counts ≡ c.args.self.now.counts = ap (λ (p : Plan). p.counts) c.requires.seat.same_plan ∙ sym c.args.self.now.counts_are in record {
      seat = is_its_seat come.read c.args.self.now c.args.seat.now.table_id c.note_word-noted.new.seat.table_id (noted.same_table.0 ∙ c.loop-next.invariant.same_table.0)
          record { same_table = c.requires.seat.same_table; same_plan = c.requires.seat.same_plan; role = c.requires.seat.role };
      at = come.at;
      in_range = page_in_range come.read c.args.self.now.counts c.loop-next.number needs same_counts;
    }

pub loop-next-preserved-in-Right-default-default : goal.loop-next-preserved-in-Right-default-default
loop-next-preserved-in-Right-default-default c =
    let before = c.loop-next.invariant in
    let noted = c.note_word-noted.ensures in
    let middle : SeatState = c.note_word-noted.new.seat.me in
    let come = comes_noted (Find c.args.key) (looking c.args.seat.now.me c.args.key before.come.0) c.loop-next.seat.me middle c.loop-next.number c.loop-next.level noted.same before.come.1 in
    let reads = c.read_page.ensures.way come.at in record {
      same_table = (c.read_page.ensures.same.0 ∙ (noted.same_table.0 ∙ before.same_table.0), c.read_page.ensures.same.1 ∙ (noted.same_table.1 ∙ before.same_table.1));
      come = (middle.0.look, comes_right (Find c.args.key) c.loop-next.number c.loop-next.level _ _ middle c.read_page.new.seat.me c.read_page.result.0 c.read_page.result.1 come reads c.in-Right-default-default.next c.in-Right-default-default.is-0);
      more = noted_by_then c.args.seat.now.me middle c.read_page.new.seat.me (noted_on c.args.seat.now.me c.loop-next.seat.me middle before.more noted.more) (ap (λ (x : SeatState). x.0.look) reads.loads.is);
    }

pub loop-next-smaller-in-Right-default-default : goal.loop-next-smaller-in-Right-default-default
loop-next-smaller-in-Right-default-default c =
    let noted = c.note_word-noted.ensures in
    let middle : SeatState = c.note_word-noted.new.seat.me in
    let come = comes_noted (Find c.args.key) (looking c.args.seat.now.me c.args.key c.loop-next.invariant.come.0) c.loop-next.seat.me middle c.loop-next.number c.loop-next.level noted.same c.loop-next.invariant.come.1 in
    let reads = c.read_page.ensures.way come.at in
    subst (λ (n : ℕ). c.read_page.new.seat.me.0.descent_bound < n) (ap (λ (x : SeatState). x.0.descent_bound) noted.same)
    (comes_nearer_by_way (Find c.args.key) c.loop-next.number c.loop-next.level _ _ middle c.read_page.new.seat.me c.read_page.result.0 c.read_page.result.1 come reads)

pub loop-next-preserved : goal.loop-next-preserved
loop-next-preserved c =
    let before = c.loop-next.invariant in
    let noted = c.note_word-noted.ensures in
    let middle : SeatState = c.note_word-noted.new.seat.me in
    let come = comes_noted (Find c.args.key) (looking c.args.seat.now.me c.args.key before.come.0) c.loop-next.seat.me middle c.loop-next.number c.loop-next.level noted.same before.come.1 in
    let reads = c.read_page.ensures.way come.at in record {
      same_table = (c.read_page.ensures.same.0 ∙ (noted.same_table.0 ∙ before.same_table.0), c.read_page.ensures.same.1 ∙ (noted.same_table.1 ∙ before.same_table.1));
      come = (middle.0.look, comes_down (Find c.args.key) c.loop-next.number c.loop-next.level _ _ middle c.read_page.new.seat.me c.read_page.result.0 c.read_page.result.1 come reads c.in-Down-default-default.child c.in-Down-default-default.is-0);
      more = noted_by_then c.args.seat.now.me middle c.read_page.new.seat.me (noted_on c.args.seat.now.me c.loop-next.seat.me middle before.more noted.more) (ap (λ (x : SeatState). x.0.look) reads.loads.is);
    }

pub loop-next-smaller : goal.loop-next-smaller
loop-next-smaller c =
    let noted = c.note_word-noted.ensures in
    let middle : SeatState = c.note_word-noted.new.seat.me in
    let come = comes_noted (Find c.args.key) (looking c.args.seat.now.me c.args.key c.loop-next.invariant.come.0) c.loop-next.seat.me middle c.loop-next.number c.loop-next.level noted.same c.loop-next.invariant.come.1 in
    let reads = c.read_page.ensures.way come.at in
    subst (λ (n : ℕ). c.read_page.new.seat.me.0.descent_bound < n) (ap (λ (x : SeatState). x.0.descent_bound) noted.same)
    (comes_nearer_by_way (Find c.args.key) c.loop-next.number c.loop-next.level _ _ middle c.read_page.new.seat.me c.read_page.result.0 c.read_page.result.1 come reads)

pub overflow_sub-level : goal.overflow_sub-level
overflow_sub-level c =
    let noted = c.note_word-noted.ensures in
    let middle : SeatState = c.note_word-noted.new.seat.me in
    let come = comes_noted (Find c.args.key) (looking c.args.seat.now.me c.args.key c.loop-next.invariant.come.0) c.loop-next.seat.me middle c.loop-next.number c.loop-next.level noted.same c.loop-next.invariant.come.1 in
    let reads = c.read_page.ensures.way come.at in
    is_above_child (Find c.args.key) c.loop-next.number c.loop-next.level _ _ middle c.read_page.new.seat.me c.read_page.result.0 c.read_page.result.1 come reads c.in-Down-default-default.child c.in-Down-default-default.is-0

pub returns-in-Here-default-default : goal.returns-in-Here-default-default
returns-in-Here-default-default c =
    let before = c.loop-next.invariant in
    let noted = c.note_word-noted.ensures in
    let middle : SeatState = c.note_word-noted.new.seat.me in
    let come = comes_noted (Find c.args.key) (looking c.args.seat.now.me c.args.key before.come.0) c.loop-next.seat.me middle c.loop-next.number c.loop-next.level noted.same before.come.1 in
    let reads = c.read_page.ensures.way come.at in
    let same_look = ap (λ (x : SeatState). x.0.look) reads.loads.is in
    let needs = ap need_at come.at.state in
    let same_counts : c.args.seat.now.me.0.plan.counts ≡ c.args.self.now.counts = ap (λ (p : Plan). p.counts) c.requires.seat.same_plan ∙ sym c.args.self.now.counts_are in
    let ends = find_ends (Find c.args.key) c.loop-next.number c.loop-next.level _ _ middle c.read_page.new.seat.me c.read_page.result.0 c.read_page.result.1 come reads c.args.key refl c.in-Here-default-default.is-0 in record {
      same_table = (c.read_page.ensures.same.0 ∙ (noted.same_table.0 ∙ before.same_table.0), c.read_page.ensures.same.1 ∙ (noted.same_table.1 ∙ before.same_table.1));
      searched = searched_noted c.args.key c.args.seat.now.me c.read_page.new.seat.me middle.0.look reads.machine c.requires.idle ends.0 ends.1;
      noted = record {
        in_range = page_in_range come.read c.args.self.now.counts c.loop-next.number needs same_counts;
        noted = λ named. subst (λ (l : Look). Contains l.leaves (c.loop-next.number, c.note_word-noted.result)) (sym same_look) (noted.noted named);
      };
      more = noted_by_then c.args.seat.now.me middle c.read_page.new.seat.me (noted_on c.args.seat.now.me c.loop-next.seat.me middle before.more noted.more) same_look;
      row = c.read_page.ensures.row;
      leaf = reads_leaf (Find c.args.key) c.loop-next.number c.loop-next.level _ _ middle c.read_page.new.seat.me c.read_page.result.0 c.read_page.result.1 come reads c.args.key refl c.in-Here-default-default.is-0;
    }
