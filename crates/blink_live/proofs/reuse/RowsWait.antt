-- Rows wait, until each place's session is idle or has begun anew since: then nobody reads them, and they are free.
use Rattle.std.proofs.Common.{◌≡◌, ◌≢◌, ⊎_elim, ℕ, suc, ◌+◌, ◌<◌, ◌≤◌, List, [], ◌∷◌, ◌++◌, length, set, refl, sym, ap, ◌∙◌, subst, inl, inr, length-append, arith}
use Rattle.std.specs.Prelude.{Contains, slice_index}
use Rattle.std.proofs.Math.Decide.{dec_le}
use Rattle.std.proofs.lemmas.List.Elements.{Contains-append_cases}
use mathlib.Core.Option.{some, none}
use mathlib.Core.Logic.{dite}
use native.Mathlib.Decide.{ℕ_discrete}
use lib.ListN.{get_elem?}
use lib.Seq.{set-get_or}
use Rattle.atomic_table.specs.Table.{State, step, keeps, Allows}
use Rattle.atomic_table.proofs.Lists.{set_again}
use Rattle.blink_machine.specs.TreeState.{TreeState}
use Rattle.blink_live.specs.declared.view.Plan.{Plan}
use Rattle.blink_live.specs.declared.view.Role.TheVariants.{Pass}
use Rattle.blink_live.specs.declared.view.Stock.{Stock}
use Rattle.blink_live.specs.declared.view.View.{View}
use Rattle.blink_live.specs.ComingBack.{IsPast, begins_to_wait, begins_wait, checks_place, collects, finds_past, gets_waiting, sees_mark, sees_place, with_stock}
use Rattle.blink_live.specs.Reuse.{HasEachOnce, HasStock, HaveNoneInCommon, HoldsRow, IsReuseSafe}
use Rattle.blink_live.specs.Rule.{HasPlace, IsTable, IsTableAt}
use Rattle.blink_live.specs.Views.{IsCommon, SeatState}
use Rattle.blink_live.specs.Words.{place_word}
use Rattle.blink_live.proofs.changed.StagingKeepsTable.{at_the_end, before_the_end}
use Rattle.blink_live.proofs.reuse.StocksChange.{reuse_moves, stock_keeps}

none_in_empty : (row : ℕ) → ¬ Contains [] row
none_in_empty row has = let inside = has.1 in omega (arith, inside)

-- two lists in one
each_once : (xs ys : List ℕ) → HasEachOnce xs → HasEachOnce ys → HaveNoneInCommon xs ys → HasEachOnce (xs ++ ys)
each_once [] ys one two apart = two
each_once (x ∷ xs) ys one two apart = (
  λ has. ⊎_elim (λ (t : Contains xs x). one.0 t) (λ (t : Contains ys x). apart x (0, omega arith, refl) t) (Contains-append_cases xs ys x has),
  each_once xs ys one.1 two (λ row has. apart row (suc has.0, let inside = has.1 in omega (arith, inside), has.2)),
)

module _ (plan : Plan) (s : State ℕ View) (tree_state : TreeState) (h : IsTableAt plan s tree_state) (id : ℕ) (v : View) (at : get_elem? s.views id ≡ some v) (common : IsCommon plan) where
  safe : IsReuseSafe plan h.owners.row s.words s.views
  safe = h.reuse common

  its : HasStock plan h.owners.row s.words safe.claim id v
  its = safe.stocks id v at

  -- whoever reads has a place, with its mark
  reader_has_place : (seat : ℕ) (u : View) (row : ℕ) (content : List ℕ) → get_elem? s.views seat ≡ some u → HoldsRow u row content → HasPlace plan h.owners s.words seat u
  reader_has_place seat u row content there is = (h.views seat u there).placed common ((safe.stocks seat u there).awake row content is).0

  pub wait_begins : v.stock.waiting ≡ [] → IsReuseSafe plan h.owners.row s.words (set s.views id (with_stock v (begins_to_wait v.stock)))
  wait_begins none_waits = reuse_moves plan h.owners.row s.words s.views id v (begins_to_wait v.stock) at safe refl
      record {
        once = record {
          free = its.once.free;
          retired = tt;
          waiting = its.once.retired;
          free_retired = λ row has none_there. none_in_empty row none_there;
          free_waiting = its.once.free_retired;
          retired_waiting = λ row has. absurd (none_in_empty row has);
        };
        free = its.free;
        retired = λ row has. absurd (none_in_empty row has);
        waiting = its.retired;
      }
      (λ seat u there row content is.
      let besides = safe.agree id seat v u at there row content is in
      record { not_free = besides.not_free; not_past = λ waits. record { later = omega arith; same = λ few. absurd (omega (arith, few)) } })

  pub mark_is_seen : length v.stock.before < plan.places → IsReuseSafe plan h.owners.row s.words (set s.views id (with_stock v (sees_mark (slice_index s.words (place_word plan.counts (length v.stock.before))) v.stock)))
  mark_is_seen more =
      let mark : ℕ = slice_index s.words (place_word plan.counts (length v.stock.before)) in
      let longer : length (v.stock.before ++ mark ∷ []) ≡ length v.stock.before + 1 = length-append v.stock.before (mark ∷ []) in
      reuse_moves plan h.owners.row s.words s.views id v (sees_mark mark v.stock) at safe refl
      record { once = record { free = its.once.free; retired = its.once.retired; waiting = its.once.waiting; free_retired = its.once.free_retired; free_waiting = its.once.free_waiting; retired_waiting = its.once.retired_waiting }; free = its.free; retired = its.retired; waiting = its.waiting }
      (λ seat u there row content is.
      let besides = safe.agree id seat v u at there row content is in
      record {
        not_free = besides.not_free;
        not_past = λ waits.
            let held = besides.not_past waits in record {
              later = held.later;
              same = λ few. dite (ℕ_discrete u.place (length v.stock.before))
                  (λ last. sym (reader_has_place seat u row content there is).word ∙ (ap (λ (n : ℕ). slice_index s.words (place_word plan.counts n)) last ∙ sym (at_the_end v.stock.before mark u.place last)))
                  (λ differ. held.same (omega (arith, few, longer, differ)) ∙ sym (before_the_end v.stock.before mark u.place (omega (arith, few, longer, differ))));
            };
      })

  pub place_is_past : v.stock.passed < length v.stock.before → IsPast v.stock (slice_index s.words (place_word plan.counts v.stock.passed)) → IsReuseSafe plan h.owners.row s.words (set s.views id (with_stock v (finds_past v.stock)))
  place_is_past looked past = reuse_moves plan h.owners.row s.words s.views id v (finds_past v.stock) at safe refl
      record { once = record { free = its.once.free; retired = its.once.retired; waiting = its.once.waiting; free_retired = its.once.free_retired; free_waiting = its.once.free_waiting; retired_waiting = its.once.retired_waiting }; free = its.free; retired = its.retired; waiting = its.waiting }
      (λ seat u there row content is.
      let besides = safe.agree id seat v u at there row content is in
      record {
        not_free = besides.not_free;
        not_past = λ waits.
            let held = besides.not_past waits in
            let later = held.later in
            let not_here : u.place ≢ v.stock.passed =
            λ e.
            let found : u.busy ≡ slice_index s.words (place_word plan.counts v.stock.passed) = sym (reader_has_place seat u row content there is).word ∙ ap (λ (n : ℕ). slice_index s.words (place_word plan.counts n)) e in
            ⊎_elim
            (λ (idle : slice_index s.words (place_word plan.counts v.stock.passed) ≤ 1). let awake = ((safe.stocks seat u there).awake row content is).1 in omega (arith, awake, found, idle))
            (λ (differs : slice_index s.words (place_word plan.counts v.stock.passed) ≢ slice_index v.stock.before v.stock.passed). differs (sym found ∙ (held.same (omega (arith, e, looked)) ∙ ap (slice_index v.stock.before) e)))
            past in
            record { later = omega (arith, later, not_here); same = held.same };
      })

  pub rows_are_free : plan.places ≤ v.stock.passed → IsReuseSafe plan h.owners.row s.words (set s.views id (with_stock v (gets_waiting v.stock)))
  rows_are_free all = reuse_moves plan h.owners.row s.words s.views id v (gets_waiting v.stock) at safe refl
      record {
        once = record {
          free = each_once v.stock.waiting v.stock.free its.once.waiting its.once.free (λ row waits is_free. its.once.free_waiting row is_free waits);
          retired = its.once.retired;
          waiting = tt;
          free_retired = λ row has is_retired. ⊎_elim (λ (t : Contains v.stock.waiting row). its.once.retired_waiting row is_retired t) (λ (t : Contains v.stock.free row). its.once.free_retired row t is_retired) (Contains-append_cases v.stock.waiting v.stock.free row has);
          free_waiting = λ row has none_there. none_in_empty row none_there;
          retired_waiting = λ row has none_there. none_in_empty row none_there;
        };
        free = λ row has. ⊎_elim (λ (t : Contains v.stock.waiting row). its.waiting row t) (λ (t : Contains v.stock.free row). its.free row t) (Contains-append_cases v.stock.waiting v.stock.free row has);
        retired = its.retired;
        waiting = λ row has. absurd (none_in_empty row has);
      }
      (λ seat u there row content is.
      let besides = safe.agree id seat v u at there row content is in
      record {
        not_free = λ has. ⊎_elim
            (λ (t : Contains v.stock.waiting row). let later = (besides.not_past t).later in let inside = (reader_has_place seat u row content there is).in_range in omega (arith, later, inside, all))
            (λ (t : Contains v.stock.free row). besides.not_free t)
            (Contains-append_cases v.stock.waiting v.stock.free row has);
        not_past = λ waits. absurd (none_in_empty row waits);
      })

-- ---- the steps

pub begins_wait_at : (plan : Plan) (slots id : ℕ) (me : SeatState) → me.0.role ≡ Pass → IsCommon plan → me.0.stock.waiting ≡ []
    → Allows (IsTable plan) slots id me 0 (λ k. k) (begins_wait (step slots 0 0 0 none) me)
begins_wait_at plan slots id me role common none_waits s table homes at small =
    (with_stock me.0 (begins_to_wait me.0.stock), keeps, tt, stock_keeps plan s table.0 table.1 id 0 me.0 (begins_to_wait me.0.stock) at role refl (wait_begins plan s table.0 table.1 id me.0 at common none_waits), refl)

pub sees_place_at : (plan : Plan) (slots id place : ℕ) (me : SeatState) → me.0.role ≡ Pass → IsCommon plan → place ≡ length me.0.stock.before → place < plan.places
    → Allows (IsTable plan) slots id me (place_word plan.counts place) (λ k. k) (sees_place (step slots (place_word plan.counts place) 0 0 none) me)
sees_place_at plan slots id place me role common next more s table homes at small =
    let word : ℕ = place_word plan.counts place in
    let stock : Stock = sees_mark (slice_index s.words word) me.0.stock in (
      with_stock me.0 stock,
      keeps,
      tt,
      stock_keeps plan s table.0 table.1 id word me.0 stock at role refl
          (subst (λ (n : ℕ). IsReuseSafe plan table.1.owners.row s.words (set s.views id (with_stock me.0 (sees_mark (slice_index s.words (place_word plan.counts n)) me.0.stock)))) (sym next)
          (mark_is_seen plan s table.0 table.1 id me.0 at common (omega (arith, next, more)))),
      refl,
    )

past_or_not : (stock : Stock) (mark : ℕ) → Dec (IsPast stock mark)
past_or_not stock mark = elim (dec_le mark 1) [
  | yes idle ↦ yes (inl idle)
  | no busy ↦ elim (ℕ_discrete mark (slice_index stock.before stock.passed)) [
    | yes same ↦ no (λ past. ⊎_elim (λ (idle : mark ≤ 1). busy idle) (λ (differs : mark ≢ slice_index stock.before stock.passed). differs same) past)
    | no differs ↦ yes (inr differs)
  ]
]

pub checks_place_at : (plan : Plan) (slots id place : ℕ) (me : SeatState) → me.0.role ≡ Pass → IsCommon plan → place ≡ me.0.stock.passed → place < length me.0.stock.before
    → Allows (IsTable plan) slots id me (place_word plan.counts place) (λ k. k) (checks_place (step slots (place_word plan.counts place) 0 0 none) me)
checks_place_at plan slots id place me role common next looked s table homes at small =
    let word : ℕ = place_word plan.counts place in
    let mark : ℕ = slice_index s.words word in
    dite (past_or_not me.0.stock mark)
    (λ past. (
      with_stock me.0 (finds_past me.0.stock),
      keeps,
      tt,
      stock_keeps plan s table.0 table.1 id word me.0 (finds_past me.0.stock) at role refl
          (place_is_past plan s table.0 table.1 id me.0 at common (omega (arith, next, looked)) (subst (λ (n : ℕ). IsPast me.0.stock (slice_index s.words (place_word plan.counts n))) next past)),
      record { past = λ again. refl; not_yet = λ never. absurd (never past) },
    ))
    (λ not_yet. (
      me.0,
      keeps,
      tt,
      subst (λ (t : List ℕ × List View). IsTable plan record { words = t.0; homes = s.homes; views = t.1 }) (λ i. (sym (set-get_or s.words word 0) i, sym (set_again s.views id me.0 at) i)) table,
      record { past = λ past. absurd (not_yet past); not_yet = λ again. refl },
    ))

pub collects_at : (plan : Plan) (slots id : ℕ) (me : SeatState) → me.0.role ≡ Pass → IsCommon plan → plan.places ≤ me.0.stock.passed
    → Allows (IsTable plan) slots id me 0 (λ k. k) (collects (step slots 0 0 0 none) me)
collects_at plan slots id me role common all s table homes at small =
    (with_stock me.0 (gets_waiting me.0.stock), keeps, tt, stock_keeps plan s table.0 table.1 id 0 me.0 (gets_waiting me.0.stock) at role refl (rows_are_free plan s table.0 table.1 id me.0 at common all), refl)
