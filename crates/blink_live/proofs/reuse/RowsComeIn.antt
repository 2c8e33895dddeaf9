-- A free row is its session's own again: nobody reads it, and no page word names it.
use Rattle.std.proofs.Common.{◌≡◌, ◌≢◌, ⊎_elim, ℕ, suc, ◌<◌, ◌≤◌, Option, Some, None, List, [], ◌∷◌, length, get_or, set, refl, sym, ap, ◌∙◌, subst, inl, inr, length-set, arith}
use Rattle.std.specs.Prelude.{Contains, slice_index}
use mathlib.Core.Option.{some, none}
use mathlib.Core.Logic.{dite}
use native.Mathlib.Decide.{ℕ_discrete}
use lib.ListN.{get_elem?}
use lib.Seq.{set-get_or}
use Rattle.atomic_table.specs.Table.{State, step, keeps, Allows}
use Rattle.blink_page.specs.{PlainPage}
use Rattle.blink_rows.specs.{prime_words, row_in}
use Rattle.blink_machine.specs.TreeState.{TreeState}
use Rattle.blink_machine.proofs.Offered.{step_law}
use Rattle.blink_live.specs.declared.view.Change.{Change}
use Rattle.blink_live.specs.declared.view.Plan.{Plan}
use Rattle.blink_live.specs.declared.view.Role.{Role}
use Rattle.blink_live.specs.declared.view.Role.TheVariants.{Keeper, Pass, Spent}
use Rattle.blink_live.specs.declared.view.Share.{Share}
use Rattle.blink_live.specs.declared.view.View.{View}
use Rattle.blink_live.specs.Changes.{put}
use Rattle.blink_live.specs.ComingBack.{puts_back, puts_rows_back, takes_in, takes_row_in}
use Rattle.blink_live.specs.Looks.{HasLooked}
use Rattle.blink_live.specs.Reuse.{AgreesWith, HasAside, HasEachOnce, HasStock, IsAside, IsReuseSafe, IsTakenOut}
use Rattle.blink_live.specs.Rule.{IsInRole, IsShare, IsTable, IsTableAt, Knows, Owners, PageWordIs, Reads, ReadsRow, latch_word}
use Rattle.blink_live.specs.Views.{IsCommon, SeatState}
use Rattle.blink_live.specs.Words.{IsRowNumber, named_row}
use Rattle.blink_live.proofs.changed.PoolIsDrawn.{latch_still}
use Rattle.blink_live.proofs.reuse.ReuseStaysSafe.{empty_aside, safe_then, stock_kept}
use Rattle.blink_live.proofs.reuse.StocksChange.{same_reader}
use Rattle.blink_live.proofs.table.AccountsStay.{accounts_stay}
use Rattle.blink_live.proofs.table.CallsOfSeats.{call_still}
use Rattle.blink_live.proofs.table.LoadsKeepTable.{moved, load_keeps_with}
use Rattle.blink_live.proofs.table.LooksStay.{looks_stay}
use Rattle.blink_live.proofs.table.RowsAreNamed.{names_still, page_still_named}
use Rattle.blink_live.proofs.table.MapsWithOneChange.{put_here, put_else, put_same}
use Rattle.blink_live.proofs.table.SeatsThatStay.{views_stay, counted_stays}
use Rattle.blink_live.proofs.table.SparesOfSeats.{spare_still}

-- ---- rows with other owners

abbrev pub with_row : Owners → (ℕ → ℕ) → Owners
with_row old row = record old { row = row }

module _ (plan : Plan) (old : Owners) (row : ℕ → ℕ) (words : List ℕ) (tree_state : TreeState) (log : List Change) where
  pub share_same : (owner : ℕ) (share : Share) → IsShare plan old log owner share → IsShare plan (with_row old row) log owner share
  share_same owner share is key has = let own = is key has in record { own = own.own; kept = own.kept; changes = own.changes }

  role_same : (seat : ℕ) (v : View) (role : Role) → IsInRole plan old log seat v role → IsInRole plan (with_row old row) log seat v role
  role_same seat v (Keeper dealt back) is = (is.0, is.1, (λ key untaken. let free = is.2 key untaken in record { own = free.own; saw_all = free.saw_all }), λ share has. share_same 1 share (is.3 share has))
  role_same seat v Pass is = is
  role_same seat v Spent is = is

  -- a seat that owns what it did, and whose row is published still, knows what it knew
  pub row_owners_knows : (seat : ℕ) (v : View) → ((r : ℕ) → old.row r ≡ suc seat → row r ≡ suc seat) → Reads plan (with_row old row) words tree_state v → Knows plan old words tree_state log seat v → Knows plan (with_row old row) words tree_state log seat v
  row_owners_knows seat v owns reads known = record {
    same_plan = known.same_plan;
    operation = known.operation;
    bounded = known.bounded;
    reads = reads;
    appends = known.appends;
    rows = record { in_range = known.rows.in_range; own = λ r low high. owns r (known.rows.own r low high) };
    numbers = record { in_range = known.numbers.in_range; own = known.numbers.own; free = known.numbers.free };
    for_call = call_still plan old (with_row old row) words tree_state tree_state (suc seat) v.call v.rows.next v.pages.next v.rows.next v.pages.next known.for_call (omega arith, omega arith) (λ r below. owns r) (λ n below own. own) (λ n free. free);
    spare = spare_still plan old (with_row old row) tree_state tree_state (suc seat) v.stock.spare v.pages.next v.call.pages known.spare (λ n own. own) (λ n none. none);
    share = share_same (suc seat) v.share known.share;
    saw = known.saw;
    heard = known.heard;
    in_role = role_same seat v v.role known.in_role;
    placed = λ common is. let p = known.placed common is in record { in_range = p.in_range; own = p.own; word = p.word; busy = p.busy };
    places_left = known.places_left;
    nothing = known.nothing;
  }

-- ---- a free row is taken in

module _ (plan : Plan) (s : State ℕ View) (tree_state : TreeState) (h : IsTableAt plan s tree_state) (id row : ℕ) (rest : List ℕ) (v : View) (at : get_elem? s.views id ≡ some v) (role : v.role ≡ Pass) (common : IsCommon plan) (some_number : 1 ≤ plan.counts.numbers) (first : v.stock.free ≡ row ∷ rest) where
  known : Knows plan h.owners s.words tree_state h.log id v
  known = h.views id v at

  kept : IsInRole plan h.owners h.log id v Pass
  kept = subst (IsInRole plan h.owners h.log id v) role known.in_role

  safe : IsReuseSafe plan h.owners.row s.words s.views
  safe = h.reuse common

  its : HasStock plan h.owners.row s.words safe.claim id v
  its = safe.stocks id v at

  row_is_free : Contains v.stock.free row
  row_is_free = subst (λ (l : List ℕ). Contains l row) (sym first) (0, omega arith, refl)

  rest_is_free : (r : ℕ) → Contains rest r → Contains v.stock.free r
  rest_is_free r has = subst (λ (l : List ℕ). Contains l r) (sym first) (suc has.0, let inside = has.1 in omega (arith, inside), has.2)

  free_once : HasEachOnce (row ∷ rest)
  free_once = subst HasEachOnce first its.once.free

  is_out : IsTakenOut plan h.owners.row s.words safe.claim id row
  is_out = its.free row row_is_free

  abbrev whose : ℕ → ℕ
  whose = put h.owners.row row (suc id)

  abbrev new : Owners
  new = with_row h.owners (put h.owners.row row (suc id))

  abbrev w : View
  w = takes_in v row rest

  else_same : (r : ℕ) → r ≢ row → whose r ≡ h.owners.row r
  else_same r differ = put_else h.owners.row row r (suc id) differ

  -- whoever owns a row owns it still
  owns : (owner r : ℕ) → h.owners.row r ≡ suc owner → whose r ≡ suc owner
  owns owner r is = else_same r (λ e. let one : suc owner ≡ 0 = sym is ∙ (ap h.owners.row e ∙ is_out.unowned) in omega (arith, one)) ∙ is

  named_still : (number : ℕ) → number < plan.counts.numbers → h.owners.row (named_row s.words number) ≡ 0 → whose (named_row s.words number) ≡ 0
  named_still number few is = else_same (named_row s.words number) (is_out.not_named number few) ∙ is

  page_still : (number : ℕ) → number < plan.counts.numbers → (page : Option PlainPage) → PageWordIs plan h.owners s.words (slice_index s.words number) page → PageWordIs plan new s.words (slice_index s.words number) page
  page_still number few None is = is
  page_still number few (Some page) is = page_still_named plan h.owners new s.words (slice_index s.words number) page (named_still number few is.published.1) refl is

  -- nobody reads it
  reads_then : (seat : ℕ) (u : View) → get_elem? s.views seat ≡ some u → (reads : Option (ℕ × List ℕ)) (behind : List ℕ) → u.reads ≡ reads → ReadsRow plan h.owners s.words reads behind → ReadsRow plan new s.words reads behind
  reads_then seat u there None behind same is = is
  reads_then seat u there (Some (r, content)) behind same is =
      ((is.0.0, else_same r (λ e. (safe.agree id seat v u at there r content (inl same)).not_free (subst (Contains v.stock.free) (sym e) row_is_free)) ∙ is.0.1), is.1, is.2)

  -- nor has anybody noted it
  looks_then : (seat : ℕ) (u : View) → get_elem? s.views seat ≡ some u → HasLooked plan h.owners.row s.words tree_state.fan tree_state.prime tree_state.pages u.look → HasLooked plan whose s.words tree_state.fan tree_state.prime tree_state.pages u.look
  looks_then seat u there = looks_stay plan h.owners.row whose s.words s.words tree_state.fan tree_state.fan tree_state.prime tree_state.prime tree_state.pages tree_state.pages u.look
      (λ number word has in_range unowned. else_same (row_in word) (λ e. (safe.agree id seat v u at there (row_in word) [] (inr (number, word, has, refl))).not_free (subst (Contains v.stock.free) (sym e) row_is_free)) ∙ unowned) (λ number in_chain. in_chain)
      (λ number word least few unowned since. (since, λ is. (is, refl)))

  reads_all : (seat : ℕ) (u : View) → get_elem? s.views seat ≡ some u → Reads plan h.owners s.words tree_state u → Reads plan new s.words tree_state u
  reads_all seat u there is = (reads_then seat u there u.reads u.behind refl is.0, looks_then seat u there is.1)

  others_know : (seat : ℕ) (u : View) → get_elem? s.views seat ≡ some u → Knows plan new s.words tree_state h.log seat u
  others_know seat u there = let was = h.views seat u there in row_owners_knows plan h.owners whose s.words tree_state h.log seat u (owns seat) (reads_all seat u there was.reads) was

  own_knows : Knows plan new s.words tree_state h.log id w
  own_knows = record {
    same_plan = known.same_plan;
    operation = known.operation;
    bounded = known.bounded;
    reads = reads_all id v at known.reads;
    appends = known.appends;
    rows = record { in_range = let range = is_out.in_range in (omega arith, omega (arith, range)); own = λ r low high. absurd (omega (arith, low, high)) };
    numbers = record { in_range = known.numbers.in_range; own = known.numbers.own; free = known.numbers.free };
    for_call = record {
      before = (omega arith, known.for_call.before.1);
      first_own = λ more. (is_out.in_range.0, put_here h.owners.row row (suc id));
      staged = λ more i inside few. absurd (omega (arith, few));
      others = record { in_range = let range = is_out.in_range in (omega arith, omega (arith, range)); own = λ r low high. absurd (omega (arith, low, high)) };
      numbers = record { in_range = known.for_call.numbers.in_range; own = known.for_call.numbers.own; free = known.for_call.numbers.free };
    };
    spare = spare_still plan h.owners new tree_state tree_state (suc id) v.stock.spare v.pages.next v.call.pages known.spare (λ n own. own) (λ n none. none);
    share = share_same plan h.owners whose s.words tree_state h.log (suc id) v.share known.share;
    saw = known.saw;
    heard = known.heard;
    in_role = subst (IsInRole plan new h.log id w) (sym role) (kept.0, kept.1 ∙ latch_still v.plan.places v.rows.stop (suc row) (subst IsCommon (sym known.same_plan) common));
    placed = λ is_common is. let p = known.placed is_common is in record { in_range = p.in_range; own = p.own; word = p.word; busy = p.busy };
    places_left = λ dealt back is. absurd (let e : Pass ≡ Keeper dealt back = sym role ∙ is in cc);
    nothing = λ is_common dealt back is. absurd (let e : Pass ≡ Keeper dealt back = sym role ∙ is in cc);
  }

  -- ---- what is aside, and the rest of the stock

  was_own : (r : ℕ) → IsAside w.stock.aside r → (1 ≤ r) × (h.owners.row r ≡ suc id)
  was_own r has = ⊎_elim
      (λ (t : (v.rows.next ≤ r) × (r < v.rows.stop)). let least = known.rows.in_range.0 in (omega (arith, least, t), known.rows.own r t.0 t.1))
      (λ (t : (v.call.rows.next ≤ r) × (r < v.call.rows.stop)).
      let own = known.for_call.first_own (omega (arith, t)) in
      let least = own.0 in
      (omega (arith, least, t), dite (ℕ_discrete r v.call.rows.next) (λ e. ap h.owners.row e ∙ own.1) (λ differ. known.for_call.others.own r (omega (arith, t, differ)) t.1)))
      has

  aside_then : HasAside plan whose id w
  aside_then = record {
    in_range = (known.rows.in_range.0, known.rows.in_range.1, known.for_call.others.in_range.1);
    in_order = known.for_call.before.0;
    sessions = λ r has. kept.0;
    some_row = λ r has. (was_own r has).0;
    own = λ r has. owns id r (was_own r has).1;
    apart = λ r has hand.
        let own = (was_own r has).1 in
        ⊎_elim (λ (t : (suc row ≤ r) × (r < suc row)). omega (arith, t))
        (λ (t : (row ≤ r) × (r < suc row)). let same : r ≡ row = omega (arith, t) in let one : suc id ≡ 0 = sym own ∙ (ap h.owners.row same ∙ is_out.unowned) in omega (arith, one))
        hand;
  }

  out_still : (seat r : ℕ) → r ≢ row → IsTakenOut plan h.owners.row s.words safe.claim seat r → IsTakenOut plan whose s.words safe.claim seat r
  out_still seat r differ is = record { in_range = is.in_range; unowned = else_same r differ ∙ is.unowned; claimed = is.claimed; not_named = is.not_named }

  -- another seat hasn't taken it out
  others_row : (seat r : ℕ) → seat ≢ id → IsTakenOut plan h.owners.row s.words safe.claim seat r → r ≢ row
  others_row seat r apart is e = let one : suc seat ≡ suc id = sym is.claimed ∙ (ap safe.claim e ∙ is_out.claimed) in apart (omega (arith, one))

  agrees_then : (u : View) → AgreesWith v.stock u → AgreesWith w.stock u
  agrees_then u agrees r content is =
      let besides = agrees r content is in
      record { not_free = λ has. besides.not_free (rest_is_free r has); not_past = λ waits. let held = besides.not_past waits in record { later = held.later; same = held.same } }

  reuse_then : IsReuseSafe plan whose s.words (set s.views id w)
  reuse_then = safe_then plan h.owners.row whose s.words s.words s.views id w safe record {
    claim = safe.claim;
    named_once = safe.named_once;
    own = record {
      awake = its.awake;
      once = record {
        free = free_once.1;
        retired = its.once.retired;
        waiting = its.once.waiting;
        free_retired = λ r has. its.once.free_retired r (rest_is_free r has);
        free_waiting = λ r has. its.once.free_waiting r (rest_is_free r has);
        retired_waiting = its.once.retired_waiting;
      };
      free = λ r has. out_still id r (λ e. free_once.0 (subst (Contains rest) e has)) (its.free r (rest_is_free r has));
      retired = λ r has. out_still id r (λ e. its.once.free_retired row row_is_free (subst (Contains v.stock.retired) e has)) (its.retired r has);
      waiting = λ r has. out_still id r (λ e. its.once.free_waiting row row_is_free (subst (Contains v.stock.waiting) e has)) (its.waiting r has);
      aside = aside_then;
    };
    others = λ seat u apart there.
        let was = safe.stocks seat u there in
        stock_kept plan h.owners.row whose s.words s.words safe.claim safe.claim seat u (λ r is. out_still seat r (others_row seat r apart is) is) (λ r later is not_there. owns seat r is) was;
    own_reads = agrees_then w (same_reader v.stock v w refl refl refl refl (safe.agree id id v v at at));
    others_read = λ seat u apart there. agrees_then u (safe.agree id seat v u at there);
    reads_theirs = λ seat u apart there. same_reader u.stock v w refl refl refl refl (safe.agree seat id u v there at);
  }

  same_latch_word : (holder : Option ℕ) → latch_word h.owners holder ≡ latch_word new holder
  same_latch_word None = refl
  same_latch_word (Some seat) = refl

  pub row_comes_in : IsTable plan record { words = s.words; homes = s.homes; views = set s.views id (takes_in v row rest) }
  row_comes_in =
      let pool = h.pool common in (
        tree_state,
        record {
          owners = new;
          log = h.log;
          now = h.now;
          same_fan = h.same_fan;
          invariant = h.invariant;
          prime_numbers = h.prime_numbers;
          bounded = h.bounded;
          width = h.width;
          prime = names_still plan h.owners new s.words (slice_index s.words 0) (prime_words tree_state.prime) (named_still 0 (omega (arith, some_number)) h.prime.published.1) refl h.prime;
          pages = λ number least few. page_still number few (tree_state.pages number) (h.pages number least few);
          named_by = h.named_by;
          no_other_page = h.no_other_page;
          no_other_latch = h.no_other_latch;
          latches = λ number few. h.latches number few ∙ same_latch_word (tree_state.holder number);
          holders = h.holders;
          is_map = record { ascending = h.is_map.ascending; kept = h.is_map.kept };
          kept = h.kept;
          nobodys = h.nobodys;
          pool = λ is_common. record {
            rows = record { in_range = pool.rows.in_range; own = λ r low high. owns 0 r (pool.rows.own r low high) };
            pages = record { in_range = pool.pages.in_range; own = pool.pages.own; free = pool.pages.free };
          };
          accounted = λ is_common. accounts_stay plan h.owners.place h.log s.views id v w at (h.accounted is_common) refl ((h.accounted is_common).saw_own id v at);
          reuse = λ is_common. reuse_then;
          views = views_stay (Knows plan new s.words tree_state h.log) s.views id w own_knows (λ seat u apart there. others_know seat u there);
          others_idle = λ seat beyond. let longer : length (set s.views id w) ≡ length s.views = length-set s.views id w in h.others_idle seat (omega (arith, beyond, longer));
          counted = counted_stays s.views id v w at refl refl h.counted;
        },
      )

pub takes_row_in_at : (plan : Plan) (slots id : ℕ) (me : SeatState) (row : ℕ) (rest : List ℕ) → me.0.role ≡ Pass → IsCommon plan → 1 ≤ plan.counts.numbers → me.0.stock.free ≡ row ∷ rest
    → Allows (IsTable plan) slots id me 0 (λ k. k) (takes_row_in (step slots 0 0 0 none) me)
takes_row_in_at plan slots id me row rest role common some_number first s table homes at small = (
  takes_in me.0 row rest,
  keeps,
  tt,
  subst (λ (words : List ℕ). IsTable plan record { words = words; homes = s.homes; views = set s.views id (takes_in me.0 row rest) }) (sym (set-get_or s.words 0 0))
      (row_comes_in plan s table.0 table.1 id row rest me.0 at role common some_number first),
  λ other others is.
      let same : ◌≡◌ {A = List ℕ} (row ∷ rest) (other ∷ others) = sym first ∙ is in
      let same_row : row ≡ other = cc in
      let same_rest : rest ≡ others = cc in
      (λ i. (takes_in me.0 (same_row i) (same_rest i), me.1), subst (λ (x : ℕ × Plan). IsRowNumber x.1.counts x.0) (λ i. (same_row i, sym (table.1.views id me.0 at).same_plan i)) (((table.1.reuse common).stocks id me.0 at).free row (subst (λ (l : List ℕ). Contains l row) (sym first) (0, omega arith, refl))).in_range),
)

-- ---- the rows that were set aside are put back

module _ (plan : Plan) (s : State ℕ View) (tree_state : TreeState) (h : IsTableAt plan s tree_state) (id : ℕ) (v : View) (at : get_elem? s.views id ≡ some v) (role : v.role ≡ Pass) (common : IsCommon plan) where
  has_aside : HasAside plan h.owners.row id v
  has_aside = ((h.reuse common).stocks id v at).aside

  abbrev back : View
  back = puts_back v

  back_knows : Knows plan h.owners s.words (moved tree_state id v.operation) h.log id back
  back_knows =
      let was = h.views id v at in
      let kept = subst (IsInRole plan h.owners h.log id v) role was.in_role in record {
        same_plan = was.same_plan;
        operation = put_here tree_state.machines id v.operation;
        bounded = was.bounded;
        reads = was.reads;
        appends = was.appends;
        rows = record { in_range = (has_aside.in_range.0, has_aside.in_range.1); own = λ r low high. has_aside.own r (inl (low, high)) };
        numbers = record { in_range = was.numbers.in_range; own = was.numbers.own; free = was.numbers.free };
        for_call = record {
          before = (has_aside.in_order, was.for_call.before.1);
          first_own = λ more. (has_aside.some_row v.stock.aside.call.next (inr (omega arith, more)), has_aside.own v.stock.aside.call.next (inr (omega arith, more)));
          staged = λ more i inside few. absurd (omega (arith, few));
          others = record { in_range = (omega arith, has_aside.in_range.2); own = λ r low high. has_aside.own r (inr (omega (arith, low), high)) };
          numbers = record { in_range = was.for_call.numbers.in_range; own = was.for_call.numbers.own; free = was.for_call.numbers.free };
        };
        spare = spare_still plan h.owners h.owners tree_state (moved tree_state id v.operation) (suc id) v.stock.spare v.pages.next v.call.pages was.spare (λ n own. own) (λ n none. none);
        share = was.share;
        saw = was.saw;
        heard = was.heard;
        in_role = subst (IsInRole plan h.owners h.log id back) (sym role) (kept.0, kept.1 ∙ latch_still v.plan.places v.rows.stop v.stock.aside.rows.stop (subst IsCommon (sym was.same_plan) common));
        placed = λ is_common is. let p = was.placed is_common is in record { in_range = p.in_range; own = p.own; word = p.word; busy = p.busy };
        places_left = λ dealt came is. absurd (let e : Pass ≡ Keeper dealt came = sym role ∙ is in cc);
        nothing = λ is_common dealt came is. absurd (let e : Pass ≡ Keeper dealt came = sym role ∙ is in cc);
      }

  agrees_back : (u : View) → AgreesWith v.stock u → AgreesWith back.stock u
  agrees_back u agrees r content is =
      let besides = agrees r content is in
      record { not_free = besides.not_free; not_past = λ waits. let held = besides.not_past waits in record { later = held.later; same = held.same } }

  back_is_safe : IsReuseSafe plan h.owners.row s.words (set s.views id back)
  back_is_safe =
      let before = h.reuse common in
      let mine = before.stocks id v at in
      safe_then plan h.owners.row h.owners.row s.words s.words s.views id back before record {
        claim = before.claim;
        named_once = before.named_once;
        own = record {
          awake = mine.awake;
          once = record { free = mine.once.free; retired = mine.once.retired; waiting = mine.once.waiting; free_retired = mine.once.free_retired; free_waiting = mine.once.free_waiting; retired_waiting = mine.once.retired_waiting };
          free = mine.free;
          retired = mine.retired;
          waiting = mine.waiting;
          aside = empty_aside plan h.owners.row id back refl;
        };
        others = λ seat u apart there. before.stocks seat u there;
        own_reads = agrees_back back (same_reader v.stock v back refl refl refl refl (before.agree id id v v at at));
        others_read = λ seat u apart there. agrees_back u (before.agree id seat v u at there);
        reads_theirs = λ seat u apart there. same_reader u.stock v back refl refl refl refl (before.agree seat id u v there at);
      }

  pub rows_are_back : IsTable plan record { words = set s.words 0 (get_or s.words 0 0); homes = s.homes; views = set s.views id (puts_back v) }
  rows_are_back =
      let was = h.views id v at in
      let still = step_law.idle_workers_dont_matter tree_state (moved tree_state id v.operation) (record {
        same_fan = refl;
        same_prime = refl;
        same_pages = λ number. refl;
        same_holder = λ number. refl;
        same_machines = put_same tree_state.machines id v.operation was.operation;
      }) h.invariant in
      load_keeps_with plan s tree_state h id 0 v back at still refl refl refl (λ is_common. (h.accounted is_common).saw_own id v at) (λ is_common. back_is_safe) back_knows

pub puts_rows_back_at : (plan : Plan) (slots id : ℕ) (me : SeatState) → me.0.role ≡ Pass → IsCommon plan → Allows (IsTable plan) slots id me 0 (λ k. k) (puts_rows_back (step slots 0 0 0 none) me)
puts_rows_back_at plan slots id me role common s table homes at small = (puts_back me.0, keeps, tt, rows_are_back plan s table.0 table.1 id me.0 at role common, refl)
