-- A pass whose seat has looked up and then searched.
use Rattle.std.proofs.Common.{◌≡◌, ℕ, List, Contains, sym, ap, ◌∙◌, subst, ◌≤◌, arith}
use mathlib.Core.List.{IsPrefix}
use Rattle.blink_batch.specs.{pointer_of}
use Rattle.blink_rows.specs.declared.span.Span.{Span}
use Rattle.blink_live.specs.declared.live.Live.{Live}
use Rattle.blink_live.specs.declared.live.Pass.{Pass}
use Rattle.blink_live.specs.declared.view.Change.{Change}
use Rattle.blink_live.specs.declared.view.Plan.{Plan}
use Rattle.blink_live.specs.declared.view.Share.{Share}
use Rattle.blink_live.specs.AtomicSteps.{LooksUp}
use Rattle.blink_live.specs.Changes.{after}
use Rattle.blink_live.specs.Finding.{HasSearched, IsIdle}
use Rattle.blink_live.specs.Handles.{IsPassOf, IsSameBesideSeen, KnowsItsKeys, keys_of}
use Rattle.blink_live.specs.Views.{SeatState}
use Rattle.blink_live.proofs.told.PrefixesOfOneList.{prefix_of_prefix}

-- a pass that has looked up can search
pub idle_pass : (pass : Pass) (looked : SeatState) → LooksUp pass.seat.me looked → IsIdle looked.0
idle_pass pass looked up = record {
  idle = ap (λ (x : SeatState). x.0.operation) up.is ∙ pass.idle;
  rows = subst (λ (s : Span). s.next ≤ s.stop) (pass.rows_are ∙ sym (ap (λ (x : SeatState). x.0.rows) up.is)) pass.in_order.0;
  pages = subst (λ (s : Span). s.next ≤ s.stop) (pass.pages_are ∙ sym (ap (λ (x : SeatState). x.0.pages) up.is)) pass.in_order.1;
  knows_own = up.knows_own;
  announced = λ common. absurd (let none : looked.0.plan.places ≡ 0 = ap (λ (x : SeatState). x.0.plan.places) up.is ∙ pass.owned in omega (arith, none, common));
}

-- after the searches the pass is as it was, except that it may have seen more, and it knows its keys
module _ (pass new : Pass) (looked : SeatState) (up : LooksUp pass.seat.me looked) (searched : HasSearched looked new.seat.me) where
  pub is_same : new.seat.table_id ≡ pass.seat.table_id → keys_of new ≡ keys_of pass → new.rows ≡ pass.rows → new.pages ≡ pass.pages → IsSameBesideSeen pass new
  is_same same_table same_keys same_rows same_pages =
      let share = searched.same_share ∙ ap (λ (x : SeatState). x.0.share) up.is in record {
        saw = prefix_of_prefix pass.seat.me.0.seen looked.0.seen new.seat.me.0.seen (subst (λ (seen : List Change). IsPrefix pass.seat.me.0.seen seen) (sym (ap (λ (x : SeatState). x.0.seen) up.is)) up.learns.saw) searched.saw;
        same_table = same_table;
        same_plan = searched.same_plan ∙ ap (λ (x : SeatState). x.0.plan) up.is;
        same_keys = same_keys;
        same_share = share;
        same_changes = ap (λ (s : Share). s.changes) share;
        same_rows = same_rows;
        same_pages = same_pages;
      }

  pub knows : (live : Live) → IsPassOf live pass → KnowsItsKeys live new
  knows live its_own =
      let same_plan = searched.same_plan ∙ (ap (λ (x : SeatState). x.0.plan) up.is ∙ its_own.1) in
      let own = searched.idle.knows_own in record {
        state = λ key among.
            ap (λ (p : Plan). after (pointer_of p.opening) new.seat.me.0.seen key) (sym same_plan) ∙ own.state key (subst (λ (keys : List ℕ). Contains keys key) new.keys_are among);
        changes = λ key among. own.changes key (subst (λ (keys : List ℕ). Contains keys key) new.keys_are among);
      }
