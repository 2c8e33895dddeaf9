-- A session that draws rows or page numbers from the pool takes no step of the tree, and keeps the rule.
use Rattle.std.proofs.Common.{◌≡◌, ◌≢◌, ℕ, zero, suc, ◌+◌, ◌*◌, ◌<◌, ◌≤◌, Option, Some, None, List, set, refl, sym, ap, ◌∙◌, subst, inl, inr, ⊎_elim, ◌⊎◌, get_or-set_same, get_or-set_other, eqb, arith}
use Rattle.std.specs.Prelude.{slice_index}
use mathlib.Core.Option.{some, none}
use mathlib.Core.Logic.{dite}
use native.Mathlib.Decide.{dec_le}
use lib.ListN.{get_elem?}
use lib.Seq.{set-get_or}
use prog.Atomic.{either}
use Rattle.atomic_table.specs.Table.{State, Act, Valid, stepped, carried_after, step, keeps, Allows}
use Rattle.atomic_table.proofs.Lists.{exchanged, set_again}
use Rattle.blink_rows.specs.{row_in}
use Rattle.blink_machine.specs.TreeState.{TreeState}
use Rattle.blink_rows.specs.declared.span.Span.{Span}
use Rattle.blink_live.specs.declared.view.Plan.{Plan}
use Rattle.blink_live.specs.declared.view.Role.TheVariants.{Keeper, Pass}
use Rattle.blink_live.specs.declared.view.View.{View}
use Rattle.blink_live.specs.AtomicSteps.{Draws, draws_pages, draws_rows}
use Rattle.blink_live.specs.Looks.{IsSince}
use Rattle.blink_live.specs.Reuse.{IsAtHand, IsReuseSafe}
use Rattle.blink_live.specs.Accounts.{AreAccounts}
use Rattle.blink_live.specs.Rule.{AreNamedBy, latch_word, HasNumbers, HasRows, HasSpare, Owners, PageWordIs, IsInRole, Knows, IsTableAt, IsTable}
use Rattle.blink_live.specs.Views.{IsCommon, SeatState, has_pages, has_rows, latch_in, no_call, span}
use Rattle.blink_live.specs.Words.{named_row, place_word, pool_page, pool_row, row_start, word_count}
use Rattle.blink_live.proofs.table.CallsOfSeats.{nothing_for_call}
use Rattle.blink_live.proofs.reuse.ReuseStaysSafe.{reuse_beside, reuse_stays, same_reads}
use Rattle.blink_live.proofs.table.AccountsStay.{accounts_stay}
use Rattle.blink_live.proofs.table.OthersKnowTheSame.{LeavesOthers, appends_stay, RowStays, page_word_still, seat_reads_still}
use Rattle.blink_live.proofs.table.OwnersInRange.{ranged, ranged_in, ranged_out}
use Rattle.blink_live.proofs.table.RowsAreNamed.{same_names}
use Rattle.blink_live.proofs.table.StoresKeepTable.{prime_still, store_keeps}
use Rattle.blink_live.proofs.table.SparesOfSeats.{spare_beside}

-- in a common table a latch number doesn't depend on rows
-- the latch words are those of the same numbers
latch_word_still : (new old : Owners) (holder : Option ℕ) → new.latch_number ≡ old.latch_number → latch_word old holder ≡ latch_word new holder
latch_word_still new old None same = refl
latch_word_still new old (Some seat) same = ap (λ (f : ℕ → ℕ). f seat) (sym same)

pub latch_still : (places one other : ℕ) → 1 ≤ places → latch_in places one ≡ latch_in places other
latch_still zero one other some_place = absurd (omega (arith, some_place))
latch_still (suc places) one other some_place = refl

module _ (plan : Plan) (s : State ℕ View) (tree_state : TreeState) (h : IsTableAt plan s tree_state) (id old new : ℕ) (v : View) (at : get_elem? s.views id ≡ some v) (role : v.role ≡ Pass) (common : IsCommon plan) (some_number : 1 ≤ plan.counts.numbers)
    (further : old ≤ new) where
  known : Knows plan h.owners s.words tree_state h.log id v
  known = h.views id v at

  kept : IsInRole plan h.owners h.log id v Pass
  kept = subst (IsInRole plan h.owners h.log id v) role known.in_role

  module _ (n : ℕ) (inside : 1 ≤ n) (early : n < 3) where
    abbrev words : List ℕ
    words = set s.words (word_count plan.counts + n) new

    stays : (row : ℕ) → 1 ≤ row → row ≤ plan.counts.rows → RowStays plan s.words words row
    stays row least most i below = get_or-set_other s.words (word_count plan.counts + n) (row_start plan.counts row + i) new 0 (λ e. omega (arith, e, least, most, below))

    before : (k : ℕ) → k < 2 * plan.counts.numbers → slice_index words k ≡ slice_index s.words k
    before k below = get_or-set_other s.words (word_count plan.counts + n) k new 0 (λ e. omega (arith, e, below))

    other_place : (place : ℕ) → slice_index words (place_word plan.counts place) ≡ slice_index s.words (place_word plan.counts place)
    other_place place = get_or-set_other s.words (word_count plan.counts + n) (place_word plan.counts place) new 0 (λ e. omega (arith, e, inside, early))

    other_pool : (k : ℕ) → k ≢ n → slice_index words (word_count plan.counts + k) ≡ slice_index s.words (word_count plan.counts + k)
    other_pool k differ = get_or-set_other s.words (word_count plan.counts + n) (word_count plan.counts + k) new 0 (λ e. differ (omega (arith, e)))

    here : slice_index words (word_count plan.counts + n) ≡ new
    here = let wide = h.width in get_or-set_same s.words (word_count plan.counts + n) new 0 (omega (arith, wide, common, early))

    -- the seat's new view, and the owners: the pool alone has other rows or page numbers
    module _ (owners : Owners) (w : View) (leaves : LeavesOthers plan s tree_state tree_state h id words owners h.log) (same_latch : owners.latch_number ≡ h.owners.latch_number) (same_named : owners.named_by ≡ h.owners.named_by) (same_fixed : owners.fixed ≡ h.owners.fixed) (same_role : w.role ≡ v.role) (same_plan : w.plan ≡ v.plan)
        (accounted : AreAccounts plan owners.place h.log (set s.views id w)) (reuse : IsReuseSafe plan owners.row words (set s.views id w)) (knows : Knows plan owners words tree_state h.log id w) where
      draw_keeps : IsTable plan record { words = words; homes = s.homes; views = set s.views id w }
      draw_keeps = store_keeps plan s tree_state tree_state h id (word_count plan.counts + n) new kept.0 v w at owners h.log h.now leaves record {
        same_fan = refl;
        invariant = h.invariant;
        prime_numbers = h.prime_numbers;
        prime = prime_still plan s tree_state tree_state h id kept.0 words owners h.log leaves (before 0 (omega (arith, some_number))) (λ unowned. ap (λ (f : ℕ → ℕ). f (named_row s.words 0)) same_fixed) refl;
        pages = λ number least below. subst (λ (word : ℕ). PageWordIs plan owners words word (tree_state.pages number)) (sym (before number (omega (arith, below))))
            (page_word_still plan s tree_state tree_state h id kept.0 words owners h.log leaves (slice_index s.words number) (tree_state.pages number) (λ unowned. ap (λ (f : ℕ → ℕ). f (named_row s.words number)) same_fixed) (h.pages number least below));
        named_by = subst (λ (f : ℕ → ℕ). AreNamedBy plan.counts f words) (sym same_named) (same_names plan.counts h.owners.named_by s.words words (λ k few. before k (omega (arith, few))) h.named_by);
        no_other_page = h.no_other_page;
        no_other_latch = h.no_other_latch;
        latches = λ number below. before (plan.counts.numbers + number) (omega (arith, below)) ∙ (h.latches number below ∙ latch_word_still owners h.owners (tree_state.holder number) same_latch);
        holders = λ number seat holds. subst (λ (f : ℕ → ℕ). 1 ≤ f seat) (sym same_latch) (h.holders number seat holds);
        is_map = h.is_map;
        kept = h.kept;
      } same_role same_plan (λ is_common. accounted) (λ is_common. reuse) knows

  -- ---- rows

  module _ (found : slice_index s.words (pool_row plan.counts) ≡ old) (end : new ≤ plan.counts.rows + 1) where
    pool_rows : HasRows plan h.owners (suc 0) (span old (plan.counts.rows + 1))
    pool_rows = subst (λ (n : ℕ). HasRows plan h.owners (suc 0) (span n (plan.counts.rows + 1))) found (h.pool common).rows

    abbrev row_owners : Owners
    row_owners = record h.owners { row = ranged old new (suc id) h.owners.row }

    row_else : (row : ℕ) → h.owners.row row ≢ suc 0 → row_owners.row row ≡ h.owners.row row
    row_else row other = ranged_out old new (suc id) h.owners.row row (λ low high. other (pool_rows.own row low (omega (arith, high, end))))

    rows_leave : LeavesOthers plan s tree_state tree_state h id (words 1 (omega arith) (omega arith)) row_owners h.log
    rows_leave = record {
      machines = λ seat other. refl;
      ways = λ seat m other is. refl;
      rows = λ row least most apart shared. (row_else row (shared common), λ i inside few. stays 1 (omega arith) (omega arith) row least most i inside);
      fixed = λ row unowned. omega arith;
      latched = λ seat n other holds least few published. (holds, before 1 (omega arith) (omega arith) n (omega (arith, few)), stays 1 (omega arith) (omega arith) (named_row s.words n) published.0.0 published.0.1);
      latched_fixed = λ seat n other holds least few published. refl;
      numbers = λ number apart shared. (refl, λ free. free);
      keys = λ owned key apart. (refl, refl, refl);
      nobodys = h.nobodys;
      pool = λ is_common. record {
        rows = subst (λ (n : ℕ). HasRows plan row_owners (suc 0) (span n (plan.counts.rows + 1))) (sym (here 1 (omega arith) (omega arith))) record {
          in_range = (let low = pool_rows.in_range.0 in omega (arith, low, further), pool_rows.in_range.1);
          own = λ row low high. ranged_out old new (suc id) h.owners.row row (λ a c. omega (arith, low, c)) ∙ pool_rows.own row (omega (arith, low, further)) high;
        };
        pages = let pages = (h.pool common).pages in
            subst (λ (n : ℕ). HasNumbers plan row_owners tree_state (suc 0) (span n plan.counts.numbers)) (sym (other_pool 1 (omega arith) (omega arith) 2 (λ e. omega (arith, e)))) record { in_range = pages.in_range; own = pages.own; free = pages.free };
      };
      places = λ place. refl;
      place_words = λ place within apart. other_place 1 (omega arith) (omega arith) place;
      latch_numbers = λ seat. refl;
      longer = λ seen is. is;
      in_chain = λ n is. is;
      named = λ n row least few unowned since. (subst (IsSince row) (sym (before 1 (omega arith) (omega arith) n (omega (arith, few)))) since, λ is. (sym (before 1 (omega arith) (omega arith) n (omega (arith, few))) ∙ is, refl));
    }

    rows_knows : Knows plan row_owners (words 1 (omega arith) (omega arith)) tree_state h.log id (has_rows v (span old new))
    rows_knows = record {
      same_plan = known.same_plan;
      operation = known.operation;
      bounded = known.bounded;
      reads = seat_reads_still plan s tree_state tree_state h id kept.0 (words 1 (omega arith) (omega arith)) row_owners h.log rows_leave v known.reads;
      appends = appends_stay plan h.owners row_owners s.words (words 1 (omega arith) (omega arith)) tree_state.holder tree_state.holder id v.reads v.behind v.appends
          (λ n holds least few published. (holds, before 1 (omega arith) (omega arith) n (omega (arith, few)), stays 1 (omega arith) (omega arith) (named_row s.words n) published.0.0 published.0.1, refl)) known.reads.0 known.appends;
      rows = record {
        in_range = (pool_rows.in_range.0, end);
        own = λ row low high. ranged_in old new (suc id) h.owners.row row low high;
      };
      numbers = record { in_range = known.numbers.in_range; own = known.numbers.own; free = known.numbers.free };
      for_call = nothing_for_call plan row_owners (words 1 (omega arith) (omega arith)) tree_state (suc id) old v.pages.next pool_rows.in_range.0 known.numbers.in_range.0 some_number;
      spare = spare_beside plan h.owners row_owners tree_state tree_state (suc id) v.stock.spare v.pages.next v.call.pages known.spare v.pages.next (span 1 1) (omega arith) (λ n within is. absurd (omega (arith, is))) (λ n within own. own) (λ n within own none. none);
      share = λ key has. let own = known.share key has in record { own = own.own; kept = own.kept; changes = own.changes };
      saw = known.saw;
      heard = known.heard;
      in_role = subst (IsInRole plan row_owners h.log id (has_rows v (span old new))) (sym role)
          (kept.0, kept.1 ∙ latch_still v.plan.places v.rows.stop new (subst IsCommon (sym known.same_plan) common));
      placed = λ is_common is. let p = known.placed is_common is in record { in_range = p.in_range; own = p.own; word = other_place 1 (omega arith) (omega arith) v.place ∙ p.word; busy = p.busy };
      nothing = λ is_common dealt back is. absurd (let e : Pass ≡ Keeper dealt back = sym role ∙ is in cc);
      places_left = λ dealt back is. absurd (let e : Pass ≡ Keeper dealt back = sym role ∙ is in cc);
    }

    -- they were the pool's
    drawn_rows : (row : ℕ) → IsAtHand (has_rows v (span old new)) row → IsAtHand v row ⊎ (h.owners.row row ≢ suc id)
    drawn_rows row hand = ⊎_elim
        (λ (t : (old ≤ row) × (row < new)). let later = kept.0 in inr (λ e. let one : suc 0 ≡ suc id = sym (pool_rows.own row t.0 (omega (arith, t, end))) ∙ e in omega (arith, one, later)))
        (λ (t : (1 ≤ row) × (row < 1)). absurd (omega (arith, t))) hand

    rows_drawn : IsTable plan record { words = words 1 (omega arith) (omega arith); homes = s.homes; views = set s.views id (has_rows v (span old new)) }
    rows_drawn = draw_keeps 1 (omega arith) (omega arith) row_owners (has_rows v (span old new)) rows_leave refl refl refl refl refl (accounts_stay plan h.owners.place h.log s.views id v (has_rows v (span old new)) at (h.accounted common) refl ((h.accounted common).saw_own id v at))
        (reuse_stays plan h.owners.row s.words s.views id v (has_rows v (span old new)) at (h.reuse common) row_owners.row (words 1 (omega arith) (omega arith)) (λ row is. row_else row (λ e. let one : 0 ≡ suc 0 = sym is ∙ e in omega (arith, one)) ∙ is)
        (λ seat row later is apart. row_else row (λ e. let one : suc seat ≡ suc 0 = sym is ∙ e in omega (arith, one, later)) ∙ is)
        (λ n few. ap row_in (before 1 (omega arith) (omega arith) n (omega (arith, few)))) refl drawn_rows (same_reads plan h.owners.row s.words s.views id v (has_rows v (span old new)) at (h.reuse common) refl refl refl refl refl)) rows_knows

  -- ---- page numbers

  module _ (found : slice_index s.words (pool_page plan.counts) ≡ old) (end : new ≤ plan.counts.numbers) where
    pool_pages : HasNumbers plan h.owners tree_state (suc 0) (span old plan.counts.numbers)
    pool_pages = subst (λ (n : ℕ). HasNumbers plan h.owners tree_state (suc 0) (span n plan.counts.numbers)) found (h.pool common).pages

    abbrev page_owners : Owners
    page_owners = record h.owners { page = ranged old new (suc id) h.owners.page }

    page_else : (number : ℕ) → h.owners.page number ≢ suc 0 → page_owners.page number ≡ h.owners.page number
    page_else number other = ranged_out old new (suc id) h.owners.page number (λ low high. other (pool_pages.own number low (omega (arith, high, end))))

    pages_leave : LeavesOthers plan s tree_state tree_state h id (words 2 (omega arith) (omega arith)) page_owners h.log
    pages_leave = record {
      machines = λ seat other. refl;
      ways = λ seat m other is. refl;
      rows = λ row least most apart shared. (refl, λ i inside few. stays 2 (omega arith) (omega arith) row least most i inside);
      fixed = λ row unowned. omega arith;
      latched = λ seat n other holds least few published. (holds, before 2 (omega arith) (omega arith) n (omega (arith, few)), stays 2 (omega arith) (omega arith) (named_row s.words n) published.0.0 published.0.1);
      latched_fixed = λ seat n other holds least few published. refl;
      numbers = λ number apart shared. (page_else number (shared common), λ free. free);
      keys = λ owned key apart. (refl, refl, refl);
      nobodys = h.nobodys;
      pool = λ is_common. record {
        rows = let rows = (h.pool common).rows in
            let least = rows.in_range.0 in
            subst (λ (n : ℕ). HasRows plan page_owners (suc 0) (span n (plan.counts.rows + 1))) (sym (other_pool 2 (omega arith) (omega arith) 1 (λ e. omega (arith, e)))) record {
              in_range = rows.in_range;
              own = rows.own;
            };
        pages = subst (λ (n : ℕ). HasNumbers plan page_owners tree_state (suc 0) (span n plan.counts.numbers)) (sym (here 2 (omega arith) (omega arith))) record {
          in_range = (let low = pool_pages.in_range.0 in omega (arith, low, further), pool_pages.in_range.1);
          own = λ number low high. ranged_out old new (suc id) h.owners.page number (λ a c. omega (arith, low, c)) ∙ pool_pages.own number (omega (arith, low, further)) high;
          free = λ number low high. pool_pages.free number (omega (arith, low, further)) high;
        };
      };
      places = λ place. refl;
      place_words = λ place within apart. other_place 2 (omega arith) (omega arith) place;
      latch_numbers = λ seat. refl;
      longer = λ seen is. is;
      in_chain = λ n is. is;
      named = λ n row least few unowned since. (subst (IsSince row) (sym (before 2 (omega arith) (omega arith) n (omega (arith, few)))) since, λ is. (sym (before 2 (omega arith) (omega arith) n (omega (arith, few))) ∙ is, refl));
    }

    no_call_rows : (seat : ℕ) (u : View) (pages spare : Span) (row : ℕ) → IsAtHand (has_pages u pages spare) row → IsAtHand u row ⊎ (h.owners.row row ≢ suc seat)
    no_call_rows seat u pages spare row hand = ⊎_elim (λ (t : (u.rows.next ≤ row) × (row < u.rows.stop)). inl (inl t)) (λ (t : (1 ≤ row) × (row < 1)). absurd (omega (arith, t))) hand

    -- what the seat had it has
    own_still : (number : ℕ) → h.owners.page number ≡ suc id → page_owners.page number ≡ suc id
    own_still number its = let later = kept.0 in page_else number (λ e. let one : suc id ≡ suc 0 = sym its ∙ e in omega (arith, one, later)) ∙ its

    -- those that it had stand before the pool's
    beside : HasSpare plan page_owners tree_state (suc id) v.pages old no_call.pages
    beside = record {
      numbers = record { in_range = known.numbers.in_range; own = λ number low high. own_still number (known.numbers.own number low high); free = known.numbers.free };
      sessions = λ some. let later = kept.0 in omega (arith, later);
      before = λ some. dite (dec_le v.pages.stop old) (λ before. before) (λ after.
          let range = known.numbers.in_range.1 in
          let later = kept.0 in
          dite (dec_le old v.pages.next)
          (λ inside. let one : suc id ≡ suc 0 = sym (known.numbers.own v.pages.next (omega arith) some) ∙ pool_pages.own v.pages.next inside (omega (arith, some, range)) in absurd (omega (arith, one, later)))
          (λ across. let one : suc id ≡ suc 0 = sym (known.numbers.own old (omega (arith, across)) (omega (arith, after))) ∙ pool_pages.own old (omega arith) (omega (arith, after, range)) in absurd (omega (arith, one, later))));
      apart = λ number within within_call. absurd (omega (arith, within_call));
    }

    -- and those that were beside are still
    still_beside : HasSpare plan page_owners tree_state (suc id) v.stock.spare v.pages.next no_call.pages
    still_beside = spare_beside plan h.owners page_owners tree_state tree_state (suc id) v.stock.spare v.pages.next v.call.pages known.spare v.pages.next no_call.pages (omega arith) (λ n within is. absurd (omega (arith, is))) (λ n within. own_still n) (λ n within own none. none)

    -- the seat has these numbers then: those from the pool on, and before them those that it had; and these are beside
    module _ (low : ℕ) (least : 1 ≤ low) (has : (number : ℕ) → low ≤ number → number < old → (h.owners.page number ≡ suc id) × (tree_state.pages number ≡ None)) (spare : Span) (its_spare : HasSpare plan page_owners tree_state (suc id) spare low no_call.pages) where
      pages_knows : Knows plan page_owners (words 2 (omega arith) (omega arith)) tree_state h.log id (has_pages v (span low new) spare)
      pages_knows = record {
        same_plan = known.same_plan;
        operation = known.operation;
        bounded = known.bounded;
        reads = seat_reads_still plan s tree_state tree_state h id kept.0 (words 2 (omega arith) (omega arith)) page_owners h.log pages_leave v known.reads;
        appends = appends_stay plan h.owners page_owners s.words (words 2 (omega arith) (omega arith)) tree_state.holder tree_state.holder id v.reads v.behind v.appends
            (λ n holds least few published. (holds, before 2 (omega arith) (omega arith) n (omega (arith, few)), stays 2 (omega arith) (omega arith) (named_row s.words n) published.0.0 published.0.1, refl)) known.reads.0 known.appends;
        rows = record { in_range = known.rows.in_range; own = known.rows.own };
        numbers = record {
          in_range = (least, end);
          own = λ number from high. dite (dec_le old number) (λ drawn. ranged_in old new (suc id) h.owners.page number drawn high)
              (λ had. own_still number (has number from (omega (arith, had))).0);
          free = λ number from high. dite (dec_le old number) (λ drawn. pool_pages.free number drawn (omega (arith, high, end))) (λ had. (has number from (omega (arith, had))).1);
        };
        for_call = nothing_for_call plan page_owners (words 2 (omega arith) (omega arith)) tree_state (suc id) v.rows.next low known.rows.in_range.0 least some_number;
        spare = its_spare;
        share = λ key has. let own = known.share key has in record { own = own.own; kept = own.kept; changes = own.changes };
        saw = known.saw;
        heard = known.heard;
        in_role = subst (IsInRole plan page_owners h.log id (has_pages v (span low new) spare)) (sym role) kept;
        placed = λ is_common is. let p = known.placed is_common is in record { in_range = p.in_range; own = p.own; word = other_place 2 (omega arith) (omega arith) v.place ∙ p.word; busy = p.busy };
        nothing = λ is_common dealt back is. absurd (let e : Pass ≡ Keeper dealt back = sym role ∙ is in cc);
        places_left = λ dealt back is. absurd (let e : Pass ≡ Keeper dealt back = sym role ∙ is in cc);
      }

      pages_drawn : IsTable plan record { words = words 2 (omega arith) (omega arith); homes = s.homes; views = set s.views id (has_pages v (span low new) spare) }
      pages_drawn = draw_keeps 2 (omega arith) (omega arith) page_owners (has_pages v (span low new) spare) pages_leave refl refl refl refl refl (accounts_stay plan h.owners.place h.log s.views id v (has_pages v (span low new) spare) at (h.accounted common) refl ((h.accounted common).saw_own id v at))
          (reuse_beside plan h.owners.row s.words s.views id v (has_pages v (span low new) spare) at (h.reuse common) page_owners.row (words 2 (omega arith) (omega arith)) (λ row is. is) (λ seat r later is apart. is)
          (λ n few. ap row_in (before 2 (omega arith) (omega arith) n (omega (arith, few)))) spare refl (no_call_rows id v (span low new) spare) (same_reads plan h.owners.row s.words s.views id v (has_pages v (span low new) spare) at (h.reuse common) refl refl refl refl refl)) pages_knows

-- ---- the steps

pub rows_are_drawn : (plan : Plan) (slots id old new : ℕ) (me : SeatState) → me.0.role ≡ Pass → IsCommon plan → 1 ≤ plan.counts.numbers → old ≤ new → new ≤ plan.counts.rows + 1
    → Allows (IsTable plan) slots id me (pool_row plan.counts) (λ n. either (eqb n old) new n) (draws_rows (step slots (pool_row plan.counts) old new none) me)
rows_are_drawn plan slots id old new me role common some_number further end s table homes at small =
    let found : ℕ = slice_index s.words (pool_row plan.counts) in
    exchanged found old new (λ (k : ℕ). (w : View) × (a : Act ℕ) × Valid s.homes me.1 a × IsTable plan (stepped s (pool_row plan.counts) k id me.1 w a) × draws_rows (step slots (pool_row plan.counts) old new none) me found (w, carried_after me.1 a))
    (λ hit. (
      has_rows me.0 (span old new),
      keeps,
      tt,
      rows_drawn plan s table.0 table.1 id old new me.0 at role common some_number further hit end,
      record { got = λ is. refl; lost = λ other. absurd (other hit) },
    ))
    (λ miss. (
      me.0,
      keeps,
      tt,
      subst (λ (t : List ℕ × List View). IsTable plan record { words = t.0; homes = s.homes; views = t.1 }) (λ i. (sym (set-get_or s.words (pool_row plan.counts) 0) i, sym (set_again s.views id me.0 at) i)) table,
      record { got = λ is. absurd (miss is); lost = λ other. refl },
    ))

pub pages_are_drawn : (plan : Plan) (slots id old new : ℕ) (me : SeatState) → me.0.role ≡ Pass → IsCommon plan → 1 ≤ plan.counts.numbers → old ≤ new → new ≤ plan.counts.numbers
    → Allows (IsTable plan) slots id me (pool_page plan.counts) (λ n. either (eqb n old) new n) (draws_pages (step slots (pool_page plan.counts) old new none) me)
pages_are_drawn plan slots id old new me role common some_number further end s table homes at small =
    let found : ℕ = slice_index s.words (pool_page plan.counts) in
    exchanged found old new (λ (k : ℕ). (w : View) × (a : Act ℕ) × Valid s.homes me.1 a × IsTable plan (stepped s (pool_page plan.counts) k id me.1 w a) × draws_pages (step slots (pool_page plan.counts) old new none) me found (w, carried_after me.1 a))
    (λ hit. (
      has_pages me.0 (span old new) me.0.pages,
      keeps,
      tt,
      pages_drawn plan s table.0 table.1 id old new me.0 at role common some_number further hit end old (subst (λ (n : ℕ). 1 ≤ n) hit (table.1.pool common).pages.in_range.0) (λ number from below. absurd (omega (arith, from, below))) me.0.pages
          (beside plan s table.0 table.1 id old new me.0 at role common some_number further hit end),
      record { got = λ is. refl; lost = λ other. absurd (other hit) },
    ))
    (λ miss. (
      me.0,
      keeps,
      tt,
      subst (λ (t : List ℕ × List View). IsTable plan record { words = t.0; homes = s.homes; views = t.1 }) (λ i. (sym (set-get_or s.words (pool_page plan.counts) 0) i, sym (set_again s.views id me.0 at) i)) table,
      record { got = λ is. absurd (miss is); lost = λ other. refl },
    ))

-- the numbers drawn follow those that the seat has
pub pages_are_joined : (plan : Plan) (slots id old new : ℕ) (me : SeatState) → me.0.role ≡ Pass → IsCommon plan → 1 ≤ plan.counts.numbers → old ≤ new → new ≤ plan.counts.numbers → me.0.pages.stop ≡ old
    → Allows (IsTable plan) slots id me (pool_page plan.counts) (λ n. either (eqb n old) new n) (Draws (has_pages me.0 (span me.0.pages.next new) me.0.stock.spare) old me)
pages_are_joined plan slots id old new me role common some_number further end follows s table homes at small =
    let found : ℕ = slice_index s.words (pool_page plan.counts) in
    let known : Knows plan table.1.owners s.words table.0 table.1.log id me.0 = table.1.views id me.0 at in
    exchanged found old new (λ (k : ℕ). (w : View) × (a : Act ℕ) × Valid s.homes me.1 a × IsTable plan (stepped s (pool_page plan.counts) k id me.1 w a) × Draws (has_pages me.0 (span me.0.pages.next new) me.0.stock.spare) old me found (w, carried_after me.1 a))
    (λ hit. (
      has_pages me.0 (span me.0.pages.next new) me.0.stock.spare,
      keeps,
      tt,
      pages_drawn plan s table.0 table.1 id old new me.0 at role common some_number further hit end me.0.pages.next known.numbers.in_range.0
          (λ number from below. (known.numbers.own number from (omega (arith, below, follows)), known.numbers.free number from (omega (arith, below, follows)))) me.0.stock.spare
          (still_beside plan s table.0 table.1 id old new me.0 at role common some_number further hit end),
      record { got = λ is. refl; lost = λ other. absurd (other hit) },
    ))
    (λ miss. (
      me.0,
      keeps,
      tt,
      subst (λ (t : List ℕ × List View). IsTable plan record { words = t.0; homes = s.homes; views = t.1 }) (λ i. (sym (set-get_or s.words (pool_page plan.counts) 0) i, sym (set_again s.views id me.0 at) i)) table,
      record { got = λ is. absurd (miss is); lost = λ other. refl },
    ))
