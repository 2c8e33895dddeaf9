use Rattle.std.proofs.Common.{◌≡◌, refl, ap, sym, ◌∙◌}
use Rattle.blink_batch.specs.declared.Op.TheVariants.{Find}
use Rattle.blink_machine.specs.{goes_on, need_at}
use Rattle.blink_live.specs.declared.view.Plan.{Plan}
use Rattle.blink_live.proofs.found.DescentsGoOn.{comes_down, comes_nearer_by_way, comes_right, comes_to_root, find_ends, is_above_child, kept_as_known, reads_leaf}
use Rattle.blink_live.proofs.found.OperationsOnTheirWay.{is_its_seat, page_in_range}
use Rattle.blink_live.proofs.live.Live.come_to_leaf.Goals as goal

pub loop-next-init : goal.loop-next-init
loop-next-init c = record {
  same_table = c.root-number.ensures.same;
  come = comes_to_root (Find c.args.key) c.root-number.result.0 c.root-number.result.1 c.args.seat.now.me c.root-number.new.seat.me c.ranges.key.fits c.root-number.ensures.begun;
}

pub read_page-requires : goal.read_page-requires
read_page-requires c =
    let come = c.loop-next.invariant.come in
    let needs = ap need_at come.at.state in
    let same_counts : c.args.seat.now.me.0.plan.counts ≡ c.args.self.now.counts = ap (λ (p : Plan). p.counts) c.requires.seat.same_plan ∙ sym c.args.self.now.counts_are in record {
      seat = is_its_seat come.read c.args.self.now c.args.seat.now.table_id c.loop-next.seat.table_id c.loop-next.invariant.same_table.0 record { same_table = c.requires.seat.same_table; same_plan = c.requires.seat.same_plan; role = c.requires.seat.role };
      at = come.at;
      in_range = page_in_range come.read c.args.self.now.counts c.loop-next.number needs same_counts;
    }

pub loop-next-preserved-in-Right-default-default : goal.loop-next-preserved-in-Right-default-default
loop-next-preserved-in-Right-default-default c =
    let come = c.loop-next.invariant.come in
    let reads = c.read_page.ensures.way come.at in record {
      same_table = (c.read_page.ensures.same.0 ∙ c.loop-next.invariant.same_table.0, c.read_page.ensures.same.1 ∙ c.loop-next.invariant.same_table.1);
      come = comes_right (Find c.args.key) c.loop-next.number c.loop-next.level _ _ c.loop-next.seat.me c.read_page.new.seat.me c.read_page.result.0 c.read_page.result.1 come reads c.in-Right-default-default.next c.in-Right-default-default.is-0;
    }

pub loop-next-smaller-in-Right-default-default : goal.loop-next-smaller-in-Right-default-default
loop-next-smaller-in-Right-default-default c =
    let come = c.loop-next.invariant.come in
    let reads = c.read_page.ensures.way come.at in
    comes_nearer_by_way (Find c.args.key) c.loop-next.number c.loop-next.level _ _ c.loop-next.seat.me c.read_page.new.seat.me c.read_page.result.0 c.read_page.result.1 come reads

pub loop-next-preserved : goal.loop-next-preserved
loop-next-preserved c =
    let come = c.loop-next.invariant.come in
    let reads = c.read_page.ensures.way come.at in record {
      same_table = (c.read_page.ensures.same.0 ∙ c.loop-next.invariant.same_table.0, c.read_page.ensures.same.1 ∙ c.loop-next.invariant.same_table.1);
      come = comes_down (Find c.args.key) c.loop-next.number c.loop-next.level _ _ c.loop-next.seat.me c.read_page.new.seat.me c.read_page.result.0 c.read_page.result.1 come reads c.in-Down-default-default.child c.in-Down-default-default.is-0;
    }

pub loop-next-smaller : goal.loop-next-smaller
loop-next-smaller c =
    let come = c.loop-next.invariant.come in
    let reads = c.read_page.ensures.way come.at in
    comes_nearer_by_way (Find c.args.key) c.loop-next.number c.loop-next.level _ _ c.loop-next.seat.me c.read_page.new.seat.me c.read_page.result.0 c.read_page.result.1 come reads

pub overflow_sub-level : goal.overflow_sub-level
overflow_sub-level c =
    let come = c.loop-next.invariant.come in
    let reads = c.read_page.ensures.way come.at in
    is_above_child (Find c.args.key) c.loop-next.number c.loop-next.level _ _ c.loop-next.seat.me c.read_page.new.seat.me c.read_page.result.0 c.read_page.result.1 come reads c.in-Down-default-default.child c.in-Down-default-default.is-0

pub returns-in-Here-default-default : goal.returns-in-Here-default-default
returns-in-Here-default-default c =
    let come = c.loop-next.invariant.come in
    let reads = c.read_page.ensures.way come.at in
    let ends = find_ends (Find c.args.key) c.loop-next.number c.loop-next.level _ _ c.loop-next.seat.me c.read_page.new.seat.me c.read_page.result.0 c.read_page.result.1 come reads c.args.key refl c.in-Here-default-default.is-0 in record {
      kept = kept_as_known (Find c.args.key) c.loop-next.number c.loop-next.level _ _ c.loop-next.seat.me c.read_page.new.seat.me c.read_page.result.0 c.read_page.result.1 come reads c.args.key refl c.in-Here-default-default.is-0;
      row = c.read_page.ensures.row;
      leaf = reads_leaf (Find c.args.key) c.loop-next.number c.loop-next.level _ _ c.loop-next.seat.me c.read_page.new.seat.me c.read_page.result.0 c.read_page.result.1 come reads c.args.key refl c.in-Here-default-default.is-0;
      own = ends.0.knows_own;
      saw = ends.0.saw;
      idle = ends.0.operation ∙ ap (goes_on reads.machine) ends.1;
      same_table = (c.read_page.ensures.same.0 ∙ c.loop-next.invariant.same_table.0, c.read_page.ensures.same.1 ∙ c.loop-next.invariant.same_table.1);
      same = ends.0.same.0;
      same_slots = ends.0.same.1;
    }
