-- A load after which a session's stock alone is another keeps the rule, where the stock is right and agrees with what the seats read.
use Rattle.std.proofs.Common.{◌≡◌, ℕ, suc, List, get_or, set, refl, sym, ap, ◌∙◌, subst, inl, arith}
use Rattle.std.specs.Prelude.{Contains, slice_index}
use mathlib.Core.Option.{some}
use lib.ListN.{get_elem?}
use Rattle.atomic_table.specs.Table.{State}
use Rattle.blink_machine.specs.TreeState.{TreeState}
use Rattle.blink_machine.proofs.Offered.{step_law}
use Rattle.blink_rows.specs.declared.span.Span.{Span}
use Rattle.blink_live.specs.declared.view.Plan.{Plan}
use Rattle.blink_live.specs.declared.view.Role.TheVariants.{Keeper, Pass}
use Rattle.blink_live.specs.declared.view.Stock.{Stock}
use Rattle.blink_live.specs.declared.view.View.{View}
use Rattle.blink_live.specs.ComingBack.{with_stock}
use Rattle.blink_live.specs.Reuse.{AgreesWith, HasRowsOnce, IsReuseSafe, IsTakenOut}
use Rattle.blink_live.specs.Rule.{HasSpare, IsInRole, Knows, IsTable, IsTableAt}
use Rattle.blink_live.proofs.reuse.ReuseStaysSafe.{aside_kept, holds_same, safe_then}
use Rattle.blink_live.proofs.table.LoadsKeepTable.{moved, load_keeps_with}
use Rattle.blink_live.proofs.table.MapsWithOneChange.{put_here, put_same}
use Rattle.blink_live.proofs.table.SparesOfSeats.{spare_still}

-- a seat that reads the same agrees with the same stocks
pub same_reader : (stock : Stock) (v w : View) → w.reads ≡ v.reads → w.look.leaves ≡ v.look.leaves → w.place ≡ v.place → w.busy ≡ v.busy → AgreesWith stock v → AgreesWith stock w
same_reader stock v w reads look place busy agrees row content is =
    let besides = agrees row content (holds_same v w reads look row content is) in record {
      not_free = besides.not_free;
      not_past = λ waits.
          let held = besides.not_past waits in
          let later = held.later in
          record { later = omega (arith, later, place); same = λ few. busy ∙ (held.same (omega (arith, few, place)) ∙ ap (slice_index stock.before) (sym place)) };
    }

-- the rows of a stock were taken out by its seat
pub record AreTakenOut (plan : Plan) (whose : ℕ → ℕ) (words : List ℕ) (claim : ℕ → ℕ) (seat : ℕ) (stock : Stock) : Type 0 where
  pub once : HasRowsOnce stock
  pub free : (row : ℕ) → Contains stock.free row → IsTakenOut plan whose words claim seat row
  pub retired : (row : ℕ) → Contains stock.retired row → IsTakenOut plan whose words claim seat row
  pub waiting : (row : ℕ) → Contains stock.waiting row → IsTakenOut plan whose words claim seat row

pub reuse_moves : (plan : Plan) (whose : ℕ → ℕ) (words : List ℕ) (views : List View) (id : ℕ) (v : View) (stock : Stock) (at : get_elem? views id ≡ some v) (safe : IsReuseSafe plan whose words views) → stock.aside ≡ v.stock.aside → AreTakenOut plan whose words safe.claim id stock
    → ((seat : ℕ) (u : View) → get_elem? views seat ≡ some u → AgreesWith stock u) → IsReuseSafe plan whose words (set views id (with_stock v stock))
reuse_moves plan whose words views id v stock at safe same_aside out agree =
    let its = safe.stocks id v at in
    let w : View = with_stock v stock in
    safe_then plan whose whose words words views id w safe record {
      claim = safe.claim;
      named_once = safe.named_once;
      own = record {
        awake = its.awake;
        once = out.once;
        free = out.free;
        retired = out.retired;
        waiting = out.waiting;
        aside = aside_kept plan whose whose id v w same_aside (λ row later is apart. is) (λ row hand. inl hand) its.aside;
      };
      others = λ seat u differ there. safe.stocks seat u there;
      own_reads = same_reader stock v w refl refl refl refl (agree id v at);
      others_read = λ seat u differ there. agree seat u there;
      reads_theirs = λ seat u differ there. same_reader u.stock v w refl refl refl refl (safe.agree seat id u v there at);
    }

module _ (plan : Plan) (s : State ℕ View) (tree_state : TreeState) (h : IsTableAt plan s tree_state) (id word : ℕ) (v : View) (stock : Stock) (at : get_elem? s.views id ≡ some v) (role : v.role ≡ Pass) (same_spare : stock.spare ≡ v.stock.spare) where
  abbrev w : View
  w = with_stock v stock

  knows : Knows plan h.owners s.words (moved tree_state id v.operation) h.log id w
  knows =
      let known = h.views id v at in record {
        same_plan = known.same_plan;
        operation = put_here tree_state.machines id v.operation;
        bounded = known.bounded;
        reads = known.reads;
        appends = known.appends;
        rows = known.rows;
        numbers = record { in_range = known.numbers.in_range; own = known.numbers.own; free = known.numbers.free };
        for_call = record {
          before = known.for_call.before;
          first_own = known.for_call.first_own;
          staged = known.for_call.staged;
          others = known.for_call.others;
          numbers = record { in_range = known.for_call.numbers.in_range; own = known.for_call.numbers.own; free = known.for_call.numbers.free };
        };
        spare = subst (λ (spare : Span). HasSpare plan h.owners (moved tree_state id v.operation) (suc id) spare v.pages.next v.call.pages) (sym same_spare) (spare_still plan h.owners h.owners tree_state (moved tree_state id v.operation) (suc id) v.stock.spare v.pages.next v.call.pages known.spare (λ n own. own) (λ n none. none));
        share = known.share;
        saw = known.saw;
        heard = known.heard;
        in_role = let kept = subst (IsInRole plan h.owners h.log id v) role known.in_role in subst (IsInRole plan h.owners h.log id w) (sym role) kept;
        placed = λ common is. let p = known.placed common is in record { in_range = p.in_range; own = p.own; word = p.word; busy = p.busy };
        places_left = λ dealt back is. absurd (let e : Pass ≡ Keeper dealt back = sym role ∙ is in cc);
        nothing = λ common dealt back is. absurd (let e : Pass ≡ Keeper dealt back = sym role ∙ is in cc);
      }

  pub stock_keeps : IsReuseSafe plan h.owners.row s.words (set s.views id (with_stock v stock)) → IsTable plan record { words = set s.words word (get_or s.words word 0); homes = s.homes; views = set s.views id (with_stock v stock) }
  stock_keeps safe =
      let known = h.views id v at in
      let still = step_law.idle_workers_dont_matter tree_state (moved tree_state id v.operation) (record {
        same_fan = refl;
        same_prime = refl;
        same_pages = λ number. refl;
        same_holder = λ number. refl;
        same_machines = put_same tree_state.machines id v.operation known.operation;
      }) h.invariant in
      load_keeps_with plan s tree_state h id word v w at still refl refl refl (λ common. (h.accounted common).saw_own id v at) (λ common. safe) knows
