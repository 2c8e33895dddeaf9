-- A latch that is got is the tree's step, and keeps the rule.
use Rattle.std.proofs.Common.{◌≡◌, ◌≢◌, ℕ, suc, ◌+◌, ◌<◌, ◌≤◌, Option, Some, None, List, set, refl, sym, ap, ◌∙◌, subst, get_or-set_same, get_or-set_other, arith}
use Rattle.std.specs.Prelude.{slice_index}
use mathlib.Core.Option.{some, none}
use mathlib.Core.Logic.{dite}
use native.Mathlib.Decide.{ℕ_discrete}
use lib.ListN.{get_elem?}
use prog.Atomic.{either}
use Rattle.std.proofs.Common.{eqb}
use Rattle.atomic_table.specs.Table.{State, Act, Valid, stepped, carried_after, step, keeps, Allows}
use Rattle.atomic_table.proofs.Lists.{exchanged, set_again}
use lib.Seq.{set-get_or}
use Rattle.blink_batch.specs.{FitsWords}
use Rattle.blink_rows.specs.{PlainCounts, row_in}
use Rattle.blink_machine.specs.declared.machine.Need.TheVariants.{Latch, Unlatch}
use Rattle.blink_machine.specs.declared.step.Step.TheVariants.{Moved}
use Rattle.blink_machine.specs.declared.step.Kind.TheVariants as kind
use Rattle.blink_machine.specs.{latch, unlatch, PlainMachine, NeedsLatch, NeedsUnlatch, need_at, goes_on, Steps, latches, unlatches, IsItsOperation, under_way, descent_bound, done}
use Rattle.blink_machine.specs.TreeState.{TreeState}
use Rattle.blink_machine.specs.Invariant.{Invariant}
use Rattle.blink_machine.proofs.Offered.{step_law, has_answer_at_end}
use Rattle.blink_live.specs.declared.view.Plan.{Plan}
use Rattle.blink_live.specs.declared.view.Role.TheVariants.{Keeper, Pass}
use Rattle.blink_live.specs.declared.view.View.{View}
use Rattle.blink_live.specs.Changes.{put}
use Rattle.blink_live.specs.Looks.{IsSince}
use Rattle.blink_live.specs.Rule.{Owners, PageWordIs, latch_word, IsInRole, IsBoundedWay, Knows, IsTableAt, IsTable}
use Rattle.blink_live.specs.AtomicSteps.{GoesOn, CanGoOn, tries_latch, lets_go}
use Rattle.blink_live.specs.Views.{SeatState, going_on, latch_number_by}
use Rattle.blink_live.specs.Words.{named_row, place_word, word_count}
use Rattle.blink_live.proofs.found.OperationBegins.{goes_on_as}
use Rattle.blink_live.proofs.table.PoolStays.{pool_stays}
use Rattle.blink_live.proofs.table.MapsWithOneChange.{put_here, put_else}
use Rattle.blink_live.proofs.table.NextPageIsThere.{next_page_is_there}
use Rattle.blink_live.proofs.reuse.ReuseStaysSafe.{hand_stays, reuse_stays, same_reads}
use Rattle.blink_live.proofs.table.AccountsStay.{accounts_stay}
use Rattle.blink_live.proofs.table.OthersKnowTheSame.{LeavesOthers, RowStays, page_word_still, seat_reads_still}
use Rattle.blink_live.proofs.table.RowsAreNamed.{same_names}
use Rattle.blink_live.proofs.table.StoresKeepTable.{row_stays, call_kept, IsStored, prime_still, store_keeps}
use Rattle.blink_live.proofs.table.SparesOfSeats.{spare_still}

-- where a page's latch word stands, by the same counts
pub at_place : (number place : ℕ) (counts other : PlainCounts) → counts ≡ other → place ≡ counts.numbers + number → other.numbers + number ≡ place
at_place number place counts other same is = ap (λ (k : PlainCounts). k.numbers + number) (sym same) ∙ sym is

-- a latch word of 0 says that nobody has the latch
pub nobody_has : (owners : Owners) (holder : Option ℕ) → ((seat : ℕ) → holder ≡ Some seat → 1 ≤ owners.latch_number seat) → latch_word owners holder ≡ 0 → holder ≡ None
nobody_has owners None some_number zero_is = refl
nobody_has owners (Some seat) some_number zero_is = absurd (let least = some_number seat refl in omega (arith, least, zero_is))

-- the tree state in which a page's latch has this holder, and a worker has another operation
abbrev pub passed : TreeState → ℕ → Option ℕ → ℕ → Option PlainMachine → TreeState
passed tree_state number holder worker operation = record tree_state { holder = put tree_state.holder number holder; machines = put tree_state.machines worker operation }

module _ (plan : Plan) (s : State ℕ View) (tree_state : TreeState) (h : IsTableAt plan s tree_state) (id number x way : ℕ) (v : View) (after : PlainMachine) (holder : Option ℕ) (at : get_elem? s.views id ≡ some v) (role : v.role ≡ Pass) (under : (m : PlainMachine) × (v.operation ≡ Some m))
    (in_range : number < plan.counts.numbers) (nobody_elses : (seat : ℕ) → seat ≢ id → tree_state.holder number ≢ Some seat) where
  abbrev pub then : TreeState
  then = passed tree_state number holder id (goes_on after after.state)

  abbrev pub words : List ℕ
  words = set s.words (plan.counts.numbers + number) x

  abbrev pub w : View
  w = going_on v after way

  behind : (n : ℕ) → slice_index words (word_count plan.counts + n) ≡ slice_index s.words (word_count plan.counts + n)
  behind n = get_or-set_other s.words (plan.counts.numbers + number) (word_count plan.counts + n) x 0 (λ e. omega (arith, e, in_range))

  -- the words of places stand behind
  other_place : (place : ℕ) → slice_index words (place_word plan.counts place) ≡ slice_index s.words (place_word plan.counts place)
  other_place place = get_or-set_other s.words (plan.counts.numbers + number) (place_word plan.counts place) x 0 (λ e. omega (arith, e, in_range))

  leaves : LeavesOthers plan s tree_state then h id words h.owners h.log
  leaves = record {
    machines = λ seat other. put_else tree_state.machines id seat (goes_on after after.state) other;
    ways = λ seat m other is. refl;
    rows = λ row least most apart shared. (refl, λ i inside few. row_stays plan s.words (plan.counts.numbers + number) x row (omega (arith, in_range)) i inside);
    fixed = λ row unowned. omega arith;
    latched = λ seat n other holds least few published. (
      put_else tree_state.holder number n holder (λ same. nobody_elses seat other (ap tree_state.holder (sym same) ∙ holds)) ∙ holds,
      get_or-set_other s.words (plan.counts.numbers + number) n x 0 (λ e. omega (arith, e, few)),
      row_stays plan s.words (plan.counts.numbers + number) x (named_row s.words n) (omega (arith, in_range)),
    );
    latched_fixed = λ seat n other holds least few published. refl;
    numbers = λ n apart shared. (refl, λ free. free);
    keys = λ owned key apart. (refl, refl, refl);
    nobodys = h.nobodys;
    pool = λ common. pool_stays plan h.owners h.owners s.words words tree_state then (behind 1) (behind 2) (λ row least most own. (own, row_stays plan s.words (plan.counts.numbers + number) x row (omega (arith, in_range)))) (λ n own. (own, λ free. free)) (h.pool common);
    places = λ place. refl;
    place_words = λ place inside apart. other_place place;
    latch_numbers = λ seat. refl;
    longer = λ seen is. is;
    in_chain = λ n is. is;
    named = λ n row least few unowned since. (subst (IsSince row) (sym (get_or-set_other s.words (plan.counts.numbers + number) n x 0 (λ e. omega (arith, e, few)))) since, λ is. (sym (get_or-set_other s.words (plan.counts.numbers + number) n x 0 (λ e. omega (arith, e, few))) ∙ is, refl));
  }

  -- the seat knows what it knew, but for its operation
  knows : IsBoundedWay then w → Knows plan h.owners words then h.log id w
  knows bounded =
      let known = h.views id v at in
      let kept = subst (IsInRole plan h.owners h.log id v) role known.in_role in
      let stays : (row : ℕ) → 1 ≤ row → row ≤ plan.counts.rows → RowStays plan s.words words row = λ row least most. row_stays plan s.words (plan.counts.numbers + number) x row (omega (arith, in_range)) in record {
        same_plan = known.same_plan;
        operation = put_here tree_state.machines id (goes_on after after.state);
        bounded = bounded;
        reads = seat_reads_still plan s tree_state then h id kept.0 words h.owners h.log leaves v known.reads;
        appends = tt;
        rows = known.rows;
        numbers = record { in_range = known.numbers.in_range; own = known.numbers.own; free = known.numbers.free };
        for_call = call_kept plan h.owners s.words words stays tree_state then (suc id) v.call v.rows.next v.pages.next (λ n own free. free) known.for_call;
        spare = spare_still plan h.owners h.owners tree_state then (suc id) v.stock.spare v.pages.next v.call.pages known.spare (λ n own. own) (λ n free. free);
        share = known.share;
        saw = known.saw;
        heard = known.heard;
        in_role = subst (IsInRole plan h.owners h.log id w) (sym role) kept;
        placed = λ common is. let p = known.placed common is in record { in_range = p.in_range; own = p.own; word = other_place v.place ∙ p.word; busy = λ m goes. p.busy under.0 under.1 };
        places_left = λ dealt back is. absurd (let e : Pass ≡ Keeper dealt back = sym role ∙ is in cc);
        nothing = λ common dealt back is. absurd (let e : Pass ≡ Keeper dealt back = sym role ∙ is in cc);
      }

  -- the words and the tree afterwards
  stored : Invariant then → x ≡ latch_word h.owners holder → ((seat : ℕ) → holder ≡ Some seat → 1 ≤ h.owners.latch_number seat) → IsStored plan s tree_state then h words h.owners h.log h.now
  stored invariant is some_number =
      let place = plan.counts.numbers + number in
      let wide = h.width in
      let here : slice_index words place ≡ x = get_or-set_same s.words place x 0 (omega (arith, wide, in_range)) in record {
        same_fan = refl;
        invariant = invariant;
        prime_numbers = h.prime_numbers;
        prime = prime_still plan s tree_state then h id (subst (IsInRole plan h.owners h.log id v) role (h.views id v at).in_role).0 words h.owners h.log leaves (get_or-set_other s.words place 0 x 0 (λ e. omega (arith, e, in_range))) (λ unowned. refl) refl;
        pages = λ n least below.
            let other : slice_index words n ≡ slice_index s.words n = get_or-set_other s.words place n x 0 (λ e. omega (arith, e, below)) in
            subst (λ (word : ℕ). PageWordIs plan h.owners words word (tree_state.pages n)) (sym other)
            (page_word_still plan s tree_state then h id (subst (IsInRole plan h.owners h.log id v) role (h.views id v at).in_role).0 words h.owners h.log leaves (slice_index s.words n) (tree_state.pages n) (λ unowned. refl) (h.pages n least below));
        named_by = same_names plan.counts h.owners.named_by s.words words (λ n few. get_or-set_other s.words place n x 0 (λ e. omega (arith, e, few))) h.named_by;
        no_other_page = h.no_other_page;
        no_other_latch = λ n beyond. put_else tree_state.holder number n holder (λ same. omega (arith, same, beyond, in_range)) ∙ h.no_other_latch n beyond;
        latches = λ n below. dite (ℕ_discrete n number)
            (λ same. ap (λ (k : ℕ). slice_index words (plan.counts.numbers + k)) same ∙ (here ∙ (is ∙ (ap (latch_word h.owners) (sym (put_here tree_state.holder number holder)) ∙ ap (λ (k : ℕ). latch_word h.owners (put tree_state.holder number holder k)) (sym same)))))
            (λ differ.
            get_or-set_other s.words place (plan.counts.numbers + n) x 0 (λ e. differ (omega (arith, e)))
            ∙ (h.latches n below ∙ ap (latch_word h.owners) (sym (put_else tree_state.holder number n holder differ))));
        holders = λ n seat has. dite (ℕ_discrete n number)
            (λ same. some_number seat (sym (put_here tree_state.holder number holder) ∙ (ap (put tree_state.holder number holder) (sym same) ∙ has)))
            (λ differ. h.holders n seat (sym (put_else tree_state.holder number n holder differ) ∙ has));
        is_map = record { ascending = h.is_map.ascending; kept = h.is_map.kept };
        kept = h.kept;
      }

  -- and the page that it needs next
  pub next_there : Invariant then → CanGoOn v.plan after
  next_there invariant = next_page_is_there plan then (record { no_page = h.no_other_page; no_latch = λ n beyond. put_else tree_state.holder number n holder (λ same. omega (arith, same, beyond, in_range)) ∙ h.no_other_latch n beyond }) v.plan id after
      (h.views id v at).same_plan invariant (put_here tree_state.machines id (goes_on after after.state))

  pub passes_latch : Invariant then → IsBoundedWay then w → x ≡ latch_word h.owners holder → ((seat : ℕ) → holder ≡ Some seat → 1 ≤ h.owners.latch_number seat)
      → IsTable plan record { words = words; homes = s.homes; views = set s.views id w }
  passes_latch invariant bounded is some_number =
      let kept = subst (IsInRole plan h.owners h.log id v) role (h.views id v at).in_role in
      store_keeps plan s tree_state then h id (plan.counts.numbers + number) x kept.0 v w at h.owners h.log h.now leaves (stored invariant is some_number) refl refl (λ common. accounts_stay plan h.owners.place h.log s.views id v w at (h.accounted common) refl ((h.accounted common).saw_own id v at))
      (λ common. reuse_stays plan h.owners.row s.words s.views id v w at (h.reuse common) h.owners.row words (λ row is. is) (λ seat r later is apart. is) (λ n few. ap row_in (get_or-set_other s.words (plan.counts.numbers + number) n x 0 (λ e. omega (arith, e, few)))) refl (hand_stays h.owners.row id v w refl refl) (same_reads plan h.owners.row s.words s.views id v w at (h.reuse common) refl refl refl refl refl)) (knows bounded)

-- ---- the latch is got, or not

pub latch_is_tried : (plan : Plan) (slots id number : ℕ) (me : SeatState) (m : PlainMachine) → me.0.role ≡ Pass → me.0.operation ≡ Some m → FitsWords m.op → NeedsLatch m number → number < plan.counts.numbers → 1 ≤ latch_number_by me.0
    → Allows (IsTable plan) slots id me (plan.counts.numbers + number) (λ n. either (eqb n 0) (latch_number_by me.0) n)
    (tries_latch (step slots (plan.counts.numbers + number) 0 (latch_number_by me.0) none) me)
latch_is_tried plan slots id number me m role at_m fits needs in_range some_latch s table homes at small =
    let tree_state : TreeState = table.0 in
    let h : IsTableAt plan s tree_state = table.1 in
    let known = h.views id me.0 at in
    let place : ℕ = plan.counts.numbers + number in
    let x : ℕ = latch_number_by me.0 in
    let found : ℕ = slice_index s.words place in
    let after : PlainMachine = done m 0 in
    let under : tree_state.machines id ≡ Some m = known.operation ∙ at_m in
    let its : IsItsOperation tree_state id m = under_way under in
    let new : TreeState = passed tree_state number (Some id) id (goes_on after after.state) in
    let way : ℕ = descent_bound tree_state.pages after in
    let kept = subst (IsInRole plan h.owners h.log id me.0) role known.in_role in
    exchanged found 0 x (λ (k : ℕ). (w : View) × (a : Act ℕ) × Valid s.homes me.1 a × IsTable plan (stepped s place k id me.1 w a) × tries_latch (step slots place 0 x none) me found (w, carried_after me.1 a))
    (λ free.
    let nobody : tree_state.holder number ≡ None = nobody_has h.owners (tree_state.holder number) (λ seat has. h.holders number seat has) (sym (h.latches number in_range) ∙ free) in
    let stepped_so : Steps tree_state id m (Moved (kind.Latch number)) after new = latches number needs nobody refl refl refl refl refl
    (record { changed = put_here tree_state.holder number (Some id); others = λ other ne. put_else tree_state.holder number other (Some id) ne })
    (record { own = put_here tree_state.machines id (goes_on after after.state); others = λ other ne. put_else tree_state.machines id other (goes_on after after.state) ne }) in
    let invariant = step_law.step_keeps_invariant tree_state new id m after (Moved (kind.Latch number)) h.invariant fits its stepped_so in (
      going_on me.0 after way,
      keeps,
      tt,
      passes_latch plan s tree_state h id number x way me.0 after (Some id) at role (m, at_m) in_range (λ seat other holds. let is : None ≡ Some seat = sym nobody ∙ holds in cc) invariant (λ other is. ap (descent_bound tree_state.pages) (sym (goes_on_as after after.state other is))) (sym kept.1)
          (λ seat is. let same : id ≡ seat = cc in subst (λ (j : ℕ). 1 ≤ h.owners.latch_number j) same (subst (λ (n : ℕ). 1 ≤ n) (sym kept.1) some_latch)),
      λ k n at_k needs_k is. record {
        got = λ none_found.
            let same : m ≡ k = cc in
            let one : Latch number ≡ Latch n = sym needs ∙ (ap (λ (j : PlainMachine). need_at j.state) same ∙ needs_k) in
            let same_number : number ≡ n = cc in
            subst (λ (t : PlainMachine × ℕ). GoesOn (latch t.1) t.0 me (going_on me.0 after way, me.1)) (λ i. (same i, same_number i))
            (record {
              way = way;
              is = refl;
              next = next_there plan s tree_state h id number x way me.0 after (Some id) at role (m, at_m) in_range (λ seat other holds. let is : None ≡ Some seat = sym nobody ∙ holds in cc) invariant;
              uses = step_law.allowance_is_used_up.by_step tree_state new id m after (Moved (kind.Latch number)) h.invariant fits its stepped_so;
              answers_at_end = λ ends. has_answer_at_end tree_state h.invariant id m after its ends (Moved (kind.Latch number)) new stepped_so;
            });
        lost = λ other. absurd (other free);
      },
    ))
    (λ other. (
      me.0,
      keeps,
      tt,
      subst (λ (t : List ℕ × List View). IsTable plan record { words = t.0; homes = s.homes; views = t.1 }) (λ i. (sym (set-get_or s.words place 0) i, sym (set_again s.views id me.0 at) i)) table,
      λ k n at_k needs_k is. record { got = λ none_found. absurd (other none_found); lost = λ differ. refl },
    ))

-- ---- the latch is let go

pub latch_is_let_go : (plan : Plan) (slots id number : ℕ) (me : SeatState) (m : PlainMachine) → me.0.role ≡ Pass → me.0.operation ≡ Some m → FitsWords m.op → NeedsUnlatch m number → number < plan.counts.numbers
    → Allows (IsTable plan) slots id me (plan.counts.numbers + number) (λ n. 0) (λ n. lets_go (step slots (plan.counts.numbers + number) 0 0 none) me 0)
latch_is_let_go plan slots id number me m role at_m fits needs in_range s table homes at small =
    let tree_state : TreeState = table.0 in
    let h : IsTableAt plan s tree_state = table.1 in
    let known = h.views id me.0 at in
    let after : PlainMachine = done m 0 in
    let under : tree_state.machines id ≡ Some m = known.operation ∙ at_m in
    let its : IsItsOperation tree_state id m = under_way under in
    let held : tree_state.holder number ≡ Some id = (step_law.invariant_gives_order tree_state h.invariant).unlatches id number m its needs in
    let new : TreeState = passed tree_state number None id (goes_on after after.state) in
    let way : ℕ = descent_bound tree_state.pages after in
    let stepped_so : Steps tree_state id m (Moved (kind.Unlatch number)) after new = unlatches number needs refl refl refl refl refl
    (record { changed = put_here tree_state.holder number None; others = λ other ne. put_else tree_state.holder number other None ne })
    (record { own = put_here tree_state.machines id (goes_on after after.state); others = λ other ne. put_else tree_state.machines id other (goes_on after after.state) ne }) in
    let invariant = step_law.step_keeps_invariant tree_state new id m after (Moved (kind.Unlatch number)) h.invariant fits its stepped_so in (
      going_on me.0 after way,
      keeps,
      tt,
      passes_latch plan s tree_state h id number 0 way me.0 after None at role (m, at_m) in_range (λ seat other holds. other (let is : Some seat ≡ Some id = sym holds ∙ held in cc)) invariant (λ other is. ap (descent_bound tree_state.pages) (sym (goes_on_as after after.state other is))) refl (λ seat is. absurd (cc)),
      λ k n at_k needs_k is.
          let same : m ≡ k = cc in
          let one : Unlatch number ≡ Unlatch n = sym needs ∙ (ap (λ (j : PlainMachine). need_at j.state) same ∙ needs_k) in
          let same_number : number ≡ n = cc in
          subst (λ (t : PlainMachine × ℕ). GoesOn (unlatch t.1) t.0 me (going_on me.0 after way, me.1)) (λ i. (same i, same_number i))
          (record {
            way = way;
            is = refl;
            next = next_there plan s tree_state h id number 0 way me.0 after None at role (m, at_m) in_range (λ seat other holds. other (let is : Some seat ≡ Some id = sym holds ∙ held in cc)) invariant;
            uses = step_law.allowance_is_used_up.by_step tree_state new id m after (Moved (kind.Unlatch number)) h.invariant fits its stepped_so;
            answers_at_end = λ ends. has_answer_at_end tree_state h.invariant id m after its ends (Moved (kind.Unlatch number)) new stepped_so;
          }),
    )
