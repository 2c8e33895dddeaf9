use Rattle.std.proofs.Common.{◌≡◌, ℕ, ◌-◌, Option, List, refl, ap, sym, ◌∙◌, subst}
use Rattle.blink_live.specs.declared.view.Plan.{Plan}
use Rattle.blink_live.specs.Seats.{IsAtPage, ReadsWay}
use Rattle.blink_live.specs.Views.{SeatState, for_call}
use Rattle.blink_live.proofs.found.DescentsOfChanges.{HasComeBy, above_child, at_this, by_down, by_here, by_right, comes_by_root, nearer_by}
use Rattle.blink_live.proofs.found.OperationsOnTheirWay.{is_its_seat, page_in_range}
use Rattle.blink_live.proofs.live.Live.come_to_change.Goals as goal

pub loop-next-init : goal.loop-next-init
loop-next-init c =
    let me : SeatState = c.args.seat.now.me in
    let same_fan : me.0.plan.fan ≡ c.args.self.now.fan = ap (λ (p : Plan). p.fan) c.requires.seat.same_plan ∙ sym c.args.self.now.fan_is.0 in
    record {
      same_table = c.root-number.ensures.same;
      come = subst (λ (xs : List ℕ). HasComeBy c.args.self.now.fan c.args.op (for_call me.0 c.args.op, me.1) c.root-number.new.seat.me xs c.root-number.result.0 c.root-number.result.1) (sym c.clear.ensures)
          (comes_by_root c.args.self.now.fan c.args.op c.root-number.result.0 c.root-number.result.1 me c.root-number.new.seat.me same_fan c.root-number.ensures.begun);
    }

pub way_of_change-requires : goal.way_of_change-requires
way_of_change-requires c =
    let come = c.loop-next.invariant.come in
    let at = at_this come c.requires.fits in
    let same_counts : c.args.seat.now.me.0.plan.counts ≡ c.args.self.now.counts = ap (λ (p : Plan). p.counts) c.requires.seat.same_plan ∙ sym c.args.self.now.counts_are in record {
      seat = is_its_seat come.read c.args.self.now c.args.seat.now.table_id c.loop-next.seat.table_id c.loop-next.invariant.same_table.0 record { same_table = c.requires.seat.same_table; same_plan = c.requires.seat.same_plan; role = c.requires.seat.role };
      at = subst (λ (k : ℕ). IsAtPage c.loop-next.seat.me k c.loop-next.number c.loop-next.level) (sym c.key.ensures) at;
      in_range = page_in_range come.read c.args.self.now.counts c.loop-next.number refl same_counts;
    }

pub loop-next-smaller-in-Right : goal.loop-next-smaller-in-Right
loop-next-smaller-in-Right c =
    let come = c.loop-next.invariant.come in
    let way = subst (λ (k : ℕ). (at : IsAtPage c.loop-next.seat.me k c.loop-next.number c.loop-next.level) → (word : ℕ) × (kept : Option ℕ) × ReadsWay at.machine k c.loop-next.number word c.loop-next.seat.me c.way_of_change.result kept c.way_of_change.new.seat.me) c.key.ensures c.way_of_change.ensures.way in
    nearer_by come c.requires.fits (way (at_this come c.requires.fits)).2

pub loop-next-preserved-in-Right : goal.loop-next-preserved-in-Right
loop-next-preserved-in-Right c =
    let come = c.loop-next.invariant.come in
    let way = subst (λ (k : ℕ). (at : IsAtPage c.loop-next.seat.me k c.loop-next.number c.loop-next.level) → (word : ℕ) × (kept : Option ℕ) × ReadsWay at.machine k c.loop-next.number word c.loop-next.seat.me c.way_of_change.result kept c.way_of_change.new.seat.me) c.key.ensures c.way_of_change.ensures.way in
    record {
      same_table = (c.way_of_change.ensures.same.0 ∙ c.loop-next.invariant.same_table.0, c.way_of_change.ensures.same.1 ∙ c.loop-next.invariant.same_table.1);
      come = by_right come c.requires.fits (way (at_this come c.requires.fits)).2 c.in-Right.next c.in-Right.is;
    }

pub overflow_sub-level : goal.overflow_sub-level
overflow_sub-level c =
    let come = c.loop-next.invariant.come in
    let way = subst (λ (k : ℕ). (at : IsAtPage c.loop-next.seat.me k c.loop-next.number c.loop-next.level) → (word : ℕ) × (kept : Option ℕ) × ReadsWay at.machine k c.loop-next.number word c.loop-next.seat.me c.way_of_change.result kept c.way_of_change.new.seat.me) c.key.ensures c.way_of_change.ensures.way in
    above_child come c.requires.fits (way (at_this come c.requires.fits)).2 c.in-Down.child c.in-Down.is

pub loop-next-smaller : goal.loop-next-smaller
loop-next-smaller c =
    let come = c.loop-next.invariant.come in
    let way = subst (λ (k : ℕ). (at : IsAtPage c.loop-next.seat.me k c.loop-next.number c.loop-next.level) → (word : ℕ) × (kept : Option ℕ) × ReadsWay at.machine k c.loop-next.number word c.loop-next.seat.me c.way_of_change.result kept c.way_of_change.new.seat.me) c.key.ensures c.way_of_change.ensures.way in
    nearer_by come c.requires.fits (way (at_this come c.requires.fits)).2

pub loop-next-preserved : goal.loop-next-preserved
loop-next-preserved c =
    let me : SeatState = c.args.seat.now.me in
    let come = c.loop-next.invariant.come in
    let way = subst (λ (k : ℕ). (at : IsAtPage c.loop-next.seat.me k c.loop-next.number c.loop-next.level) → (word : ℕ) × (kept : Option ℕ) × ReadsWay at.machine k c.loop-next.number word c.loop-next.seat.me c.way_of_change.result kept c.way_of_change.new.seat.me) c.key.ensures c.way_of_change.ensures.way in
    record {
      same_table = (c.way_of_change.ensures.same.0 ∙ c.loop-next.invariant.same_table.0, c.way_of_change.ensures.same.1 ∙ c.loop-next.invariant.same_table.1);
      come = subst (λ (xs : List ℕ). HasComeBy c.args.self.now.fan c.args.op (for_call me.0 c.args.op, me.1) c.way_of_change.new.seat.me xs c.in-Down.child (c.loop-next.level - 1)) (sym c.push.ensures.items)
          (by_down come c.requires.fits (way (at_this come c.requires.fits)).2 c.in-Down.child c.in-Down.is);
    }

pub returns-in-Here-clause-read : goal.returns-in-Here-clause-read
returns-in-Here-clause-read c =
    let come = c.loop-next.invariant.come in
    let way = subst (λ (k : ℕ). (at : IsAtPage c.loop-next.seat.me k c.loop-next.number c.loop-next.level) → (word : ℕ) × (kept : Option ℕ) × ReadsWay at.machine k c.loop-next.number word c.loop-next.seat.me c.way_of_change.result kept c.way_of_change.new.seat.me) c.key.ensures c.way_of_change.ensures.way in
    (by_here come c.requires.fits (way (at_this come c.requires.fits)).2 c.in-Here.is c.requires.updates).0

pub returns-in-Here-clause-at_leaf : goal.returns-in-Here-clause-at_leaf
returns-in-Here-clause-at_leaf c =
    let come = c.loop-next.invariant.come in
    let way = subst (λ (k : ℕ). (at : IsAtPage c.loop-next.seat.me k c.loop-next.number c.loop-next.level) → (word : ℕ) × (kept : Option ℕ) × ReadsWay at.machine k c.loop-next.number word c.loop-next.seat.me c.way_of_change.result kept c.way_of_change.new.seat.me) c.key.ensures c.way_of_change.ensures.way in
    (by_here come c.requires.fits (way (at_this come c.requires.fits)).2 c.in-Here.is c.requires.updates).1
