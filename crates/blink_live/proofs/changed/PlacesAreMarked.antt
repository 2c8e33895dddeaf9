-- A session that marks its place as busy, or as idle, takes no step of the tree, and keeps the rule.
use Rattle.std.proofs.Common.{◌≡◌, ◌⊎◌, ⊎_elim, ℕ, suc, ◌+◌, ◌*◌, ◌<◌, ◌≤◌, Some, None, List, set, refl, sym, ap, ◌∙◌, subst, get_or-set_same, get_or-set_other, arith}
use Rattle.std.specs.Prelude.{slice_index}
use mathlib.Core.Option.{some, none}
use lib.ListN.{get_elem?}
use Rattle.atomic_table.specs.Table.{State, step, keeps, Allows}
use Rattle.blink_rows.specs.{row_in}
use Rattle.blink_machine.specs.{PlainMachine}
use Rattle.blink_machine.specs.TreeState.{TreeState}
use Rattle.blink_live.specs.declared.view.Plan.{Plan}
use Rattle.blink_live.specs.declared.view.Role.TheVariants.{Keeper, Pass}
use Rattle.blink_live.specs.declared.view.View.{View}
use Rattle.blink_live.specs.Accounts.{HaveAuthors}
use Rattle.blink_live.specs.AtomicSteps.{marks_place}
use Rattle.blink_live.specs.Looks.{IsSince}
use Rattle.blink_live.specs.Rule.{HasPlace, PageWordIs, IsInRole, Knows, IsTableAt, IsTable}
use Rattle.blink_live.specs.Views.{IsCommon, SeatState, is_busy}
use Rattle.blink_live.specs.Words.{named_row, place_word, row_start, word_count}
use Rattle.blink_live.proofs.table.PoolStays.{pool_stays}
use Rattle.blink_live.proofs.reuse.ReuseStaysSafe.{hand_stays, holds_nothing, reuse_stays}
use Rattle.blink_live.proofs.table.LooksStay.{nothing_noted}
use Rattle.blink_live.proofs.table.AccountsStay.{accounts_stay, authors_of_prefix}
use Rattle.blink_live.proofs.table.OthersKnowTheSame.{LeavesOthers, RowStays, page_word_still}
use Rattle.blink_live.proofs.table.RowsAreNamed.{same_names}
use Rattle.blink_live.proofs.table.StoresKeepTable.{call_kept, prime_still, store_keeps}
use Rattle.blink_live.proofs.table.SparesOfSeats.{spare_still}

module _ (plan : Plan) (s : State ℕ View) (tree_state : TreeState) (h : IsTableAt plan s tree_state) (id x : ℕ) (v : View) (at : get_elem? s.views id ≡ some v) (role : v.role ≡ Pass) (common : IsCommon plan) (some_number : 1 ≤ plan.counts.numbers)
    (idle_or_busy : (m : PlainMachine) → v.operation ≡ Some m → 1 ≤ x) where
  abbrev place : ℕ
  place = place_word plan.counts v.place

  abbrev pub words : List ℕ
  words = set s.words (place_word plan.counts v.place) x

  abbrev pub w : View
  w = is_busy v x

  known : Knows plan h.owners s.words tree_state h.log id v
  known = h.views id v at

  kept : IsInRole plan h.owners h.log id v Pass
  kept = subst (IsInRole plan h.owners h.log id v) role known.in_role

  its : HasPlace plan h.owners s.words id v
  its = known.placed common role

  stays : (row : ℕ) → 1 ≤ row → row ≤ plan.counts.rows → RowStays plan s.words words row
  stays row least most i inside = get_or-set_other s.words place (row_start plan.counts row + i) x 0 (λ e. omega (arith, e, least, most, inside))

  before : (n : ℕ) → n < 2 * plan.counts.numbers → slice_index words n ≡ slice_index s.words n
  before n below = get_or-set_other s.words place n x 0 (λ e. omega (arith, e, below))

  -- the pool's words stand in a place's line, behind its mark
  behind : (n : ℕ) → 1 ≤ n → n < 8 → slice_index words (word_count plan.counts + n) ≡ slice_index s.words (word_count plan.counts + n)
  behind n least most = get_or-set_other s.words place (word_count plan.counts + n) x 0 (λ e. omega (arith, e, least, most))

  leaves : LeavesOthers plan s tree_state tree_state h id words h.owners h.log
  leaves = record {
    machines = λ seat other. refl;
    ways = λ seat m other is. refl;
    rows = λ row least most apart shared. (refl, λ i inside few. stays row least most i inside);
    fixed = λ row unowned. omega arith;
    latched = λ seat n other holds least few published. (holds, before n (omega (arith, few)), stays (named_row s.words n) published.0.0 published.0.1);
    latched_fixed = λ seat n other holds least few published. refl;
    numbers = λ n apart shared. (refl, λ free. free);
    keys = λ owned key apart. (refl, refl, refl);
    nobodys = h.nobodys;
    pool = λ common_too. pool_stays plan h.owners h.owners s.words words tree_state tree_state (behind 1 (omega arith) (omega arith)) (behind 2 (omega arith) (omega arith)) (λ row least most its. (its, stays row least most)) (λ n its. (its, λ free. free)) (h.pool common_too);
    places = λ other. refl;
    place_words = λ other inside apart.
        get_or-set_other s.words place (place_word plan.counts other) x 0 (λ e. let same : v.place ≡ other = omega (arith, e) in apart (ap h.owners.place (sym same) ∙ its.own));
    latch_numbers = λ seat. refl;
    longer = λ seen is. is;
    in_chain = λ n is. is;
    named = λ n row least few unowned since. (subst (IsSince row) (sym (before n (omega (arith, few)))) since, λ is. (sym (before n (omega (arith, few))) ∙ is, refl));
  }

  knows : Knows plan h.owners words tree_state h.log id w
  knows = record {
    same_plan = known.same_plan;
    operation = known.operation;
    bounded = known.bounded;
    reads = (tt, nothing_noted plan h.owners.row words tree_state.fan tree_state.prime tree_state.pages);
    appends = tt;
    rows = known.rows;
    numbers = record { in_range = known.numbers.in_range; own = known.numbers.own; free = known.numbers.free };
    for_call = call_kept plan h.owners s.words words stays tree_state tree_state (suc id) v.call v.rows.next v.pages.next (λ n own free. free) known.for_call;
    spare = spare_still plan h.owners h.owners tree_state tree_state (suc id) v.stock.spare v.pages.next v.call.pages known.spare (λ n own. own) (λ n none. none);
    share = known.share;
    saw = known.saw;
    heard = known.heard;
    in_role = subst (IsInRole plan h.owners h.log id w) (sym role) kept;
    placed = λ is_common is. record {
      in_range = its.in_range;
      own = its.own;
      word = let wide = h.width in let inside = its.in_range in get_or-set_same s.words place x 0 (omega (arith, wide, inside));
      busy = idle_or_busy;
    };
    places_left = λ dealt back is. absurd (let e : Pass ≡ Keeper dealt back = sym role ∙ is in cc);
    nothing = λ common dealt back is. absurd (let e : Pass ≡ Keeper dealt back = sym role ∙ is in cc);
  }

  pub mark_keeps : IsTable plan record { words = words; homes = s.homes; views = set s.views id w }
  mark_keeps = store_keeps plan s tree_state tree_state h id place x kept.0 v w at h.owners h.log h.now leaves record {
    same_fan = refl;
    invariant = h.invariant;
    prime_numbers = h.prime_numbers;
    prime = prime_still plan s tree_state tree_state h id kept.0 words h.owners h.log leaves (before 0 (omega (arith, some_number))) (λ unowned. refl) refl;
    pages = λ n least below. subst (λ (word : ℕ). PageWordIs plan h.owners words word (tree_state.pages n)) (sym (before n (omega (arith, below))))
        (page_word_still plan s tree_state tree_state h id kept.0 words h.owners h.log leaves (slice_index s.words n) (tree_state.pages n) (λ unowned. refl) (h.pages n least below));
    named_by = same_names plan.counts h.owners.named_by s.words words (λ n few. before n (omega (arith, few))) h.named_by;
    no_other_page = h.no_other_page;
    no_other_latch = h.no_other_latch;
    latches = λ n below. before (plan.counts.numbers + n) (omega (arith, below)) ∙ h.latches n below;
    holders = h.holders;
    is_map = h.is_map;
    kept = h.kept;
  } refl refl (λ is_common. accounts_stay plan h.owners.place h.log s.views id v w at (h.accounted is_common) refl ((h.accounted is_common).saw_own id v at))
      (λ is_common. reuse_stays plan h.owners.row s.words s.views id v w at (h.reuse is_common) h.owners.row words (λ row is. is) (λ seat r later is apart. is) (λ n few. ap row_in (before n (omega (arith, few)))) refl (hand_stays h.owners.row id v w refl refl) (λ row content is. absurd (holds_nothing w refl refl row content is))) knows

-- each change that a seat has seen was made at one of the places
authors_seen : (plan : Plan) (s : State ℕ View) (tree_state : TreeState) (h : IsTableAt plan s tree_state) (id : ℕ) (v : View) → get_elem? s.views id ≡ some v → IsCommon plan → HaveAuthors v.plan.places v.seen
authors_seen plan s tree_state h id v at common =
    let known = h.views id v at in
    subst (λ (p : Plan). HaveAuthors p.places v.seen) (sym known.same_plan) (authors_of_prefix plan.places v.seen h.log known.saw (h.accounted common).authors)

pub place_is_marked : (plan : Plan) (slots id x : ℕ) (me : SeatState) → me.0.role ≡ Pass → IsCommon plan → 1 ≤ plan.counts.numbers → (me.0.operation ≡ None) ⊎ (1 ≤ x)
    → Allows (IsTable plan) slots id me (place_word plan.counts me.0.place) (λ n. x) (λ n. marks_place (step slots (place_word plan.counts me.0.place) x 0 none) me x)
place_is_marked plan slots id x me role common some_number idle s table homes at small = (
  is_busy me.0 x,
  keeps,
  tt,
  mark_keeps plan s table.0 table.1 id x me.0 at role common some_number (λ m goes. ⊎_elim (λ (none : me.0.operation ≡ None). absurd (cc)) (λ (some_x : 1 ≤ x). some_x) idle),
  record { is = refl; authors = ((table.1.accounted common).saw_own id me.0 at role, authors_seen plan s table.0 table.1 id me.0 at common) },
)
