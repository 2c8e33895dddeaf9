-- A session's call exchanges its page numbers and the spare ones: all are the seat's as before.
use Rattle.std.proofs.Common.{◌≡◌, ℕ, ◌+◌, ◌≤◌, get_or, set, refl, sym, ◌∙◌, subst}
use mathlib.Core.Option.{some, none}
use lib.ListN.{get_elem?}
use Rattle.atomic_table.specs.Table.{State, step, keeps, Allows}
use Rattle.blink_page.specs.declared.limits.TheConstants.{MAX_PAGE}
use Rattle.blink_machine.specs.TreeState.{TreeState}
use Rattle.blink_machine.proofs.Offered.{step_law}
use Rattle.blink_live.specs.declared.view.Plan.{Plan}
use Rattle.blink_live.specs.declared.view.Role.TheVariants.{Keeper, Pass}
use Rattle.blink_live.specs.declared.view.View.{View}
use Rattle.blink_live.specs.Rule.{IsInRole, IsTable, IsTableAt, Knows}
use Rattle.blink_live.specs.Spares.{HasAny, exchanges, exchanges_numbers}
use Rattle.blink_live.specs.Views.{SeatState}
use Rattle.blink_live.specs.Words.{AreNumbersIn}
use Rattle.blink_live.proofs.reuse.ReuseStaysSafe.{hand_stays, reuse_beside, same_reads}
use Rattle.blink_live.proofs.table.LoadsKeepTable.{moved, load_keeps_with}
use Rattle.blink_live.proofs.table.MapsWithOneChange.{put_here, put_same}

module _ (plan : Plan) (s : State ℕ View) (tree_state : TreeState) (h : IsTableAt plan s tree_state) (id : ℕ) (v : View) (at : get_elem? s.views id ≡ some v) (role : v.role ≡ Pass) (some_spare : HasAny v.stock.spare) where
  known : Knows plan h.owners s.words tree_state h.log id v
  known = h.views id v at

  knows : Knows plan h.owners s.words (moved tree_state id v.operation) h.log id (exchanges v)
  knows =
      let kept = subst (IsInRole plan h.owners h.log id v) role known.in_role in
      let call = known.for_call in
      let spare = known.spare in record {
        same_plan = known.same_plan;
        operation = put_here tree_state.machines id v.operation;
        bounded = known.bounded;
        reads = known.reads;
        appends = known.appends;
        rows = known.rows;
        numbers = record { in_range = known.numbers.in_range; own = known.numbers.own; free = known.numbers.free };
        for_call = record {
          before = (call.before.0, spare.before some_spare);
          first_own = call.first_own;
          staged = call.staged;
          others = call.others;
          numbers = record { in_range = spare.numbers.in_range; own = spare.numbers.own; free = spare.numbers.free };
        };
        spare = record {
          numbers = record { in_range = call.numbers.in_range; own = call.numbers.own; free = call.numbers.free };
          sessions = λ some. spare.sessions some_spare;
          before = λ some. call.before.1;
          apart = λ number within within_spare. spare.apart number within_spare within;
        };
        share = known.share;
        saw = known.saw;
        heard = known.heard;
        in_role = subst (IsInRole plan h.owners h.log id (exchanges v)) (sym role) kept;
        placed = λ common is. let p = known.placed common is in record { in_range = p.in_range; own = p.own; word = p.word; busy = p.busy };
        places_left = λ dealt back is. absurd (let e : Pass ≡ Keeper dealt back = sym role ∙ is in cc);
        nothing = λ common dealt back is. absurd (let e : Pass ≡ Keeper dealt back = sym role ∙ is in cc);
      }

  numbers_exchanged : IsTable plan record { words = set s.words 0 (get_or s.words 0 0); homes = s.homes; views = set s.views id (exchanges v) }
  numbers_exchanged =
      let still = step_law.idle_workers_dont_matter tree_state (moved tree_state id v.operation) (record {
        same_fan = refl;
        same_prime = refl;
        same_pages = λ number. refl;
        same_holder = λ number. refl;
        same_machines = put_same tree_state.machines id v.operation known.operation;
      }) h.invariant in
      load_keeps_with plan s tree_state h id 0 v (exchanges v) at still refl refl refl (λ common. (h.accounted common).saw_own id v at)
      (λ common. reuse_beside plan h.owners.row s.words s.views id v (exchanges v) at (h.reuse common) h.owners.row s.words (λ row is. is) (λ seat r later is apart. is) (λ n few. refl) v.call.pages refl (hand_stays h.owners.row id v (exchanges v) refl refl)
      (same_reads plan h.owners.row s.words s.views id v (exchanges v) at (h.reuse common) refl refl refl refl refl)) knows

pub exchanges_numbers_at : (plan : Plan) (slots id : ℕ) (me : SeatState) → me.0.role ≡ Pass → HasAny me.0.stock.spare → Allows (IsTable plan) slots id me 0 (λ k. k) (exchanges_numbers (step slots 0 0 0 none) me)
exchanges_numbers_at plan slots id me role some_spare s table homes at small =
    let known = table.1.views id me.0 at in
    let range = known.spare.numbers.in_range in
    let few : plan.counts.numbers ≤ MAX_PAGE + 1 = table.1.bounded.numbers_bounded in (
      exchanges me.0,
      keeps,
      tt,
      numbers_exchanged plan s table.0 table.1 id me.0 at role some_spare,
      λ some. record { is = refl; in_range = subst (λ (p : Plan). AreNumbersIn p.counts me.0.stock.spare) (sym known.same_plan) (range.0, range.1, few) },
    )
