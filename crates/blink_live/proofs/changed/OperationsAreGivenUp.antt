-- An operation that owes nothing is given up: that is no step of the tree, and keeps the rule.
use Rattle.std.proofs.Common.{◌≡◌, ℕ, ◌+◌, ◌<◌, Some, None, [], append-nil, refl, sym, ap, ◌∙◌, subst}
use mathlib.Core.Option.{none}
use Rattle.atomic_table.specs.Table.{step, keeps, Allows}
use Rattle.atomic_table.specs.declared.Seat.{Seat}
use Rattle.blink_batch.specs.declared.Op.{Op}
use Rattle.blink_machine.specs.declared.machine.State.TheVariants.{Ended, SplitNew}
use Rattle.blink_machine.specs.{PlainMachine}
use Rattle.blink_machine.specs.TreeState.{TreeState}
use Rattle.blink_live.specs.declared.live.Live.{Live}
use Rattle.blink_live.specs.declared.descent.Descent.{Descent}
use Rattle.blink_live.specs.declared.room.Room.{Room}
use Rattle.blink_live.specs.declared.view.Plan.{Plan}
use Rattle.blink_live.specs.declared.view.Role.TheVariants.{Pass}
use Rattle.blink_live.specs.declared.view.View.{View}
use Rattle.blink_live.specs.GivingUp.{HasGivenUp, MayGiveUp, gives_up, giving_up}
use Rattle.blink_live.specs.Rule.{IsTable, IsTableAt}
use Rattle.blink_live.specs.Seats.{HasSameNumber}
use Rattle.blink_live.specs.Straight.{NeedsWhole, at_leaf, wanting}
use Rattle.blink_live.specs.Updating.{IsUnderWay}
use Rattle.blink_live.specs.Views.{SeatState}
use Rattle.blink_live.proofs.changed.LatchesKeepTable.{passes_latch}
use Rattle.blink_live.proofs.changed.UpdatesGoOn as on
use Rattle.blink_live.proofs.reuse.ReuseStaysSafe.{same_reads}
use Rattle.blink_live.proofs.table.LoadsKeepTable.{load_keeps}
use Rattle.blink_live.proofs.table.WithoutAnOperation.{invariant_without, loses_its, loses_none}

-- without a latch
pub operation_is_given_up : (plan : Plan) (slots id : ℕ) (me : SeatState) → me.0.role ≡ Pass → MayGiveUp me.0 None
    → Allows (IsTable plan) slots id me 0 (λ k. k) (giving_up (step slots 0 0 0 none) me)
operation_is_given_up plan slots id me role may s table homes at small =
    let tree_state : TreeState = table.0 in
    let h : IsTableAt plan s tree_state = table.1 in
    let known = h.views id me.0 at in
    let under : tree_state.machines id ≡ Some may.m = known.operation ∙ may.at in
    let invariant = invariant_without tree_state tree_state.holder id may.m under may.owes (loses_none tree_state id may.m h.invariant under may.latch) h.invariant in (
      gives_up me.0,
      keeps,
      tt,
      load_keeps plan s tree_state h id 0 me.0 (gives_up me.0) at role (may.m, may.at) invariant refl (λ m is. absurd (cc)) known.reads.0 tt known.saw ([], append-nil me.0.seen)
          (λ common. same_reads plan h.owners.row s.words s.views id me.0 (gives_up me.0) at (h.reuse common) refl refl refl refl refl),
      refl,
    )

-- with the latch that it holds
pub latch_is_given_up : (plan : Plan) (slots id number : ℕ) (me : SeatState) → me.0.role ≡ Pass → MayGiveUp me.0 (Some number) → number < plan.counts.numbers
    → Allows (IsTable plan) slots id me (plan.counts.numbers + number) (λ n. 0) (λ n. giving_up (step slots (plan.counts.numbers + number) 0 0 none) me 0)
latch_is_given_up plan slots id number me role may in_range s table homes at small =
    let tree_state : TreeState = table.0 in
    let h : IsTableAt plan s tree_state = table.1 in
    let known = h.views id me.0 at in
    let under : tree_state.machines id ≡ Some may.m = known.operation ∙ may.at in
    let held : tree_state.holder number ≡ Some id = h.invariant.1.latches.by_state id number may.m under may.latch in
    let ended : PlainMachine = record may.m { state = Ended } in
    let invariant = invariant_without tree_state _ id may.m under may.owes (loses_its tree_state id number may.m h.invariant under may.latch) h.invariant in (
      gives_up me.0,
      keeps,
      tt,
      passes_latch plan s tree_state h id number 0 0 me.0 ended None at role (may.m, may.at) in_range (λ seat other holds. other (let is : Some seat ≡ Some id = sym holds ∙ held in cc)) invariant (λ m is. absurd (cc)) refl (λ seat is. absurd (cc)),
      refl,
    )

-- an operation that wants its leaf's latch may be given up, and one that has to split its leaf
module _ {live : Live} {op : Op} (descent : Descent) {first seat : Seat ℕ View} {room : Room} where
  pub may_where_it_waits : IsUnderWay live op first seat (wanting live.fan op descent) room → MayGiveUp seat.me.0 None
  may_where_it_waits is = record {
    m = wanting live.fan op descent;
    at = on.is_its_operation is (λ ends. absurd (cc));
    owes = record { no_debt = refl; no_page = refl; no_split = refl };
    latch = refl;
  }

  pub given_up_where_it_waits : IsUnderWay live op first seat (wanting live.fan op descent) room → (next : Seat ℕ View) → HasSameNumber seat next → next.me ≡ (gives_up seat.me.0, seat.me.1) → HasGivenUp live op first next room
  given_up_where_it_waits is next same idle = record {
    m = wanting live.fan op descent;
    last = seat;
    under_way = is;
    no_answer = refl;
    same_number = same;
    idle = idle;
  }

  pub may_where_full : {word : ℕ} → NeedsWhole live op descent first seat room word → MayGiveUp seat.me.0 (Some descent.leaf)
  may_where_full whole =
      let is = subst (λ (m : PlainMachine). IsUnderWay live op first seat m room) whole.splits whole.under_way in record {
        m = at_leaf live.fan op descent (SplitNew descent.leaf whole.page) None;
        at = on.is_its_operation is (λ ends. absurd (cc));
        owes = record { no_debt = refl; no_page = refl; no_split = refl };
        latch = refl;
      }

  pub given_up_where_full : {word : ℕ} → NeedsWhole live op descent first seat room word → (next : Seat ℕ View) → HasSameNumber seat next → next.me ≡ (gives_up seat.me.0, seat.me.1) → HasGivenUp live op first next room
  given_up_where_full whole next same idle = record {
    m = whole.after;
    last = seat;
    under_way = whole.under_way;
    no_answer = ap (λ (m : PlainMachine). m.answer) whole.splits;
    same_number = same;
    idle = idle;
  }
