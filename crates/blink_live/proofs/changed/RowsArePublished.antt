-- A word that names a row of one's own publishes it: where the tree takes the step, the rule is kept.
use Rattle.std.proofs.Common.{◌≡◌, ◌≢◌, ◌⊎◌, ℕ, zero, suc, ◌+◌, ◌<◌, ◌≤◌, Option, Some, None, List, [], ◌++◌, set, refl, sym, ap, ◌∙◌, subst, get_or-set_same, get_or-set_other, append_assoc, arith, length, ⊎_elim}
use Rattle.std.specs.Prelude.{slice_index, All}
use mathlib.Core.Option.{some}
use mathlib.Core.List.{append-nil}
use mathlib.Core.Logic.{dite}
use native.Mathlib.Decide.{ℕ_discrete}
use lib.ListN.{get_elem?}
use Rattle.atomic_table.specs.Table.{State}
use Rattle.blink_batch.specs.declared.Entry.{Entry}
use Rattle.blink_batch.specs.{pointer_of}
use Rattle.blink_page.specs.{IsPageNumber, PlainPage}
use Rattle.blink_rest.specs.{Pages}
use Rattle.blink_rows.specs.{page_words, prime_words, row_in}
use Rattle.blink_rows.specs.declared.span.Span.{Span}
use Rattle.blink_machine.specs.declared.machine.State.{State as MachineState}
use Rattle.blink_machine.specs.declared.machine.State.TheVariants.{Going}
use Rattle.blink_machine.specs.{PlainMachine, need_at, target, goes_on, under_way, KeepsPlaces, descent_bound, descent_bound_at, IsMapAt}
use Rattle.blink_machine.specs.TreeState.{TreeState}
use Rattle.blink_machine.specs.Invariant.{Invariant}
use Rattle.blink_machine.proofs.Offered.{step_law, descent_bound_stays}
use Rattle.blink_live.specs.declared.view.Change.{Change}
use Rattle.blink_live.specs.declared.view.Plan.{Plan}
use Rattle.blink_live.specs.declared.view.Role.TheVariants.{Keeper, Pass}
use Rattle.blink_live.specs.declared.view.Share.{Share}
use Rattle.blink_live.specs.declared.view.Stock.{Stock}
use Rattle.blink_live.specs.declared.view.View.{View}
use Rattle.blink_live.specs.Changes.{put, after, states_of}
use Rattle.blink_live.specs.Accounts.{AreAccounts}
use Rattle.blink_live.specs.Reuse.{IsReuseSafe}
use Rattle.blink_live.specs.Looks.{IsLeafInChain, IsSince}
use Rattle.blink_live.specs.Rule.{AreNamedBy, Owners, IsPublished, PageWordIs, latch_word, HasRows, HasNumbers, HasSpare, IsShare, IsInRole, IsBoundedWay, Knows, IsTableAt, IsTable, Names, NamesPage}
use Rattle.blink_live.specs.Views.{IsCommon, IsOwned, span, publishes}
use Rattle.blink_live.specs.Words.{place_word, word_count, BeginWith, RowBegins, named_row}
use Rattle.blink_live.proofs.reuse.RowsAreTakenOut.{word_is_published}
use Rattle.blink_live.proofs.changed.ChangesAreTheMaps.{after-append, states_of-append}
use Rattle.blink_live.proofs.table.PoolStays.{pool_stays}
use Rattle.blink_live.proofs.table.MapsWithOneChange.{put_here, put_else}
use Rattle.blink_live.proofs.table.RowsAreNamed.{no_row_in_0, names_its_page, names_its_row, row_names_itself}
use Rattle.blink_live.proofs.table.OthersKnowTheSame.{LeavesOthers, RowStays, page_word_still, seat_reads_still}
use Rattle.blink_live.proofs.table.AccountsStay.{AreBy, accounts_grow}
use Rattle.blink_live.proofs.table.StoresKeepTable.{row_stays, IsStored, prime_still, store_keeps}
use Rattle.blink_live.proofs.table.SparesOfSeats.{spare_still}

-- a step that keeps pages in their places leaves the ways of operations as they are
pub ways_stay : (tree_state : TreeState) (new : Pages) (seat : ℕ) (m : PlainMachine) → Invariant tree_state → KeepsPlaces tree_state.pages new → tree_state.machines seat ≡ Some m → descent_bound new m ≡ descent_bound tree_state.pages m
ways_stay tree_state new seat m invariant stay under = go m.state refl
  where
    go : (state : MachineState) → m.state ≡ state → descent_bound new m ≡ descent_bound tree_state.pages m
    go (Going number level) at =
        let reads = (step_law.invariant_gives_order tree_state invariant).reads_page seat number m (under_way under) (ap need_at at) in
        descent_bound_stays tree_state.pages new m number level reads.page stay at reads.there
    go state at = ap (descent_bound_at new (target m)) at ∙ sym (ap (descent_bound_at tree_state.pages (target m)) at)

-- the row is nobody's any more: the word of this page names it, and so many of its words are fixed
abbrev pub gives_row : Owners → ℕ → ℕ → ℕ → Owners
gives_row owners row number many = record owners { row = put owners.row row 0; fixed = put owners.fixed row many; named_by = put owners.named_by row number }

-- what a write of this seat changes of keys: its own alone
pub record ChangesOwn (plan : Plan) (s : State ℕ View) (tree_state then : TreeState) (h : IsTableAt plan s tree_state) (id : ℕ) (v : View) (new : Owners) (made : List Change) (now : List Entry) (share : Share) : Type 0 where
  pub other_changes : IsOwned plan → (key : ℕ) → h.owners.key key ≢ suc id → states_of key made ≡ []
  pub other_kept : IsOwned plan → (key : ℕ) → h.owners.key key ≢ suc id → after (after (pointer_of plan.opening) h.log) made key ≡ after (pointer_of plan.opening) h.log key
  pub own_share : IsShare plan new (h.log ++ made) (suc id) share
  pub is_map : IsMapAt then now
  pub kept_now : (key : ℕ) → pointer_of now key ≡ after (pointer_of plan.opening) (h.log ++ made) key
  pub its_account : (share.changes ≡ v.share.changes ++ made) × AreBy v.place made

module _ (plan : Plan) (s : State ℕ View) (tree_state then : TreeState) (h : IsTableAt plan s tree_state) (id number way : ℕ) (v : View) (after_it : PlainMachine) (content : List ℕ) (pages : Span) (stock : Stock) (at : get_elem? s.views id ≡ some v) (role : v.role ≡ Pass) where
  -- the tree's step: what the row holds is the page of this number now, or for number 0 the prime block, and else all is as it was
  pub record IsStepOfTree : Type 0 where
    pub same_fan : then.fan ≡ tree_state.fan
    pub same_holder : (n : ℕ) → then.holder n ≡ tree_state.holder n
    pub its_to_write : 1 ≤ number → (tree_state.holder number ≡ Some id) ⊎ (tree_state.pages number ≡ None)
    pub own : then.machines id ≡ goes_on after_it after_it.state
    pub others : (seat : ℕ) → seat ≢ id → then.machines seat ≡ tree_state.machines seat
    pub invariant : Invariant then
    pub places : KeepsPlaces tree_state.pages then.pages
    pub page_here : 1 ≤ number → (page : PlainPage) × (then.pages number ≡ Some page) × (content ≡ page_words page)
    pub other_pages : (n : ℕ) → 1 ≤ n → n ≢ number → then.pages n ≡ tree_state.pages n
    pub prime_here : number ≡ 0 → content ≡ prime_words then.prime
    pub other_prime : 1 ≤ number → then.prime ≡ tree_state.prime
    pub prime_numbers : All IsPageNumber then.prime
    pub others_free : (n : ℕ) → h.owners.page n ≢ suc id → tree_state.pages n ≡ None → then.pages n ≡ None
    pub own_free : HasNumbers plan h.owners then (suc id) v.pages
    pub call_free : HasNumbers plan h.owners then (suc id) pages
    pub call_before : pages.stop ≤ v.pages.next
    pub same_spare : stock.spare ≡ v.stock.spare
    pub spare_free : HasSpare plan h.owners then (suc id) v.stock.spare v.pages.next pages
    pub no_other_page : (n : ℕ) → plan.counts.numbers ≤ n → then.pages n ≡ None
    pub in_chain : (n : ℕ) → IsLeafInChain tree_state.fan tree_state.prime tree_state.pages n → IsLeafInChain then.fan then.prime then.pages n

  module _ (under : (m : PlainMachine) × (v.operation ≡ Some m)) (step : IsStepOfTree) (in_range : number < plan.counts.numbers) (room : v.call.rows.next < v.call.rows.stop) (is_row : BeginWith v.call.staged content) (made : List Change) (now : List Entry) (share : Share) where
    abbrev pub words : List ℕ
    words = set s.words number v.call.rows.next

    abbrev pub log : List Change
    log = h.log ++ made

    abbrev pub new : Owners
    new = gives_row h.owners v.call.rows.next number (length content)

    abbrev pub w : View
    w = publishes v after_it way pages share log stock

    known : Knows plan h.owners s.words tree_state h.log id v
    known = h.views id v at

    kept : IsInRole plan h.owners h.log id v Pass
    kept = subst (IsInRole plan h.owners h.log id v) role known.in_role

    stays : (row : ℕ) → RowStays plan s.words words row
    stays row = row_stays plan s.words number v.call.rows.next row (omega (arith, in_range))

    -- the pool has another owner
    apart_from_pool : suc 0 ≢ suc id
    apart_from_pool e = let later = kept.0 in omega (arith, e, later)

    behind : (n : ℕ) → slice_index words (word_count plan.counts + n) ≡ slice_index s.words (word_count plan.counts + n)
    behind n = get_or-set_other s.words number (word_count plan.counts + n) v.call.rows.next 0 (λ e. omega (arith, e, in_range))

    -- the words of places stand behind
    other_place : (place : ℕ) → slice_index words (place_word plan.counts place) ≡ slice_index s.words (place_word plan.counts place)
    other_place place = get_or-set_other s.words number (place_word plan.counts place) v.call.rows.next 0 (λ e. omega (arith, e, in_range))

    row_inside : v.call.rows.next ≤ plan.counts.rows
    row_inside = let last = known.for_call.others.in_range.1 in omega (arith, last, room)

    module _ (own : ChangesOwn plan s tree_state then h id v new made now share) (bounded : IsBoundedWay then w) (reuse : IsCommon plan → IsReuseSafe plan new.row words (set s.views id w)) where
      -- a published row is another
      not_its_row : (row : ℕ) → h.owners.row row ≡ 0 → row ≢ v.call.rows.next
      not_its_row row unowned same = let one : 0 ≡ suc id = sym unowned ∙ (ap h.owners.row same ∙ (known.for_call.first_own room).1) in omega (arith, one)

      fixed_else : (row : ℕ) → h.owners.row row ≡ 0 → new.fixed row ≡ h.owners.fixed row
      fixed_else row unowned = put_else h.owners.fixed v.call.rows.next row (length content) (not_its_row row unowned)

      -- nobody else holds the latch of the page
      not_anothers : (seat : ℕ) → seat ≢ id → tree_state.holder number ≡ Some seat → 1 ≤ number → ¬ IsPublished plan h.owners (named_row s.words number)
      not_anothers seat other holds least is = ⊎_elim
          (λ (own : tree_state.holder number ≡ Some id). other (let same : Some seat ≡ Some id = sym holds ∙ own in cc))
          (λ (free : tree_state.pages number ≡ None).
          let none : slice_index s.words number ≡ 0 = subst (PageWordIs plan h.owners s.words (slice_index s.words number)) free (h.pages number least in_range) in
          let some : 1 ≤ row_in (slice_index s.words number) = is.0.0 in
          let zero_is : row_in (slice_index s.words number) ≡ 0 = ap row_in none ∙ no_row_in_0 in
          omega (arith, some, zero_is)) (step.its_to_write least)

      leaves : LeavesOthers plan s tree_state then h id words new log
      leaves = record {
        machines = step.others;
        ways = λ seat m apart is. ways_stay tree_state then.pages seat m h.invariant step.places is;
        rows = λ row least most apart shared. (put_else h.owners.row v.call.rows.next row 0 (λ same. apart (ap h.owners.row same ∙ (known.for_call.first_own room).1)), λ i inside few. stays row i inside);
        fixed = λ row unowned. let same = fixed_else row unowned in omega (arith, same);
        latched = λ seat n other holds least few is. (
          step.same_holder n ∙ holds,
          get_or-set_other s.words number n v.call.rows.next 0 (λ same. not_anothers seat other (ap tree_state.holder (sym same) ∙ holds) (subst (λ (k : ℕ). 1 ≤ k) same least) (subst (λ (k : ℕ). IsPublished plan h.owners (named_row s.words k)) same is)),
          stays (named_row s.words n),
        );
        latched_fixed = λ seat n other holds least few published. fixed_else (named_row s.words n) published.1;
        numbers = λ n apart shared. (refl, step.others_free n apart);
        keys = λ owned key apart. (
          refl,
          states_of-append key h.log made ∙ (ap (λ (l : List (Option ℕ)). states_of key h.log ++ l) (own.other_changes owned key apart) ∙ append-nil (states_of key h.log)),
          after-append (pointer_of plan.opening) h.log made key ∙ own.other_kept owned key apart,
        );
        nobodys = h.nobodys;
        pool = λ common. pool_stays plan h.owners new s.words words tree_state then (behind 1) (behind 2)
            (λ row least most its. (put_else h.owners.row v.call.rows.next row 0 (λ same. apart_from_pool (sym its ∙ (ap h.owners.row same ∙ (known.for_call.first_own room).1))) ∙ its, stays row))
            (λ n its. (its, step.others_free n (λ e. apart_from_pool (sym its ∙ e)))) (h.pool common);
        places = λ place. refl;
        place_words = λ place inside apart. other_place place;
        latch_numbers = λ seat. refl;
        longer = λ seen is. (is.0 ++ made, sym (append_assoc seen is.0 made) ∙ ap (λ (l : List Change). l ++ made) is.1);
        in_chain = step.in_chain;
        named = λ n word least few unowned since. dite (ℕ_discrete n number)
            (λ same.
            let wide = h.width in
            let here : slice_index words number ≡ v.call.rows.next = get_or-set_same s.words number v.call.rows.next 0 (omega (arith, wide, in_range)) in
            let its : row_in (slice_index words n) ≡ v.call.rows.next = ap row_in (ap (slice_index words) same ∙ here) ∙ row_names_itself plan v.call.rows.next h.bounded row_inside in
            let other : row_in word ≢ v.call.rows.next = not_its_row (row_in word) unowned in
            (λ names. absurd (other (sym names ∙ its)), λ is. absurd (other (ap row_in (sym is) ∙ its))))
            (λ differ.
            let still : slice_index words n ≡ slice_index s.words n = get_or-set_other s.words number n v.call.rows.next 0 differ in
            (subst (IsSince word) (sym still) since, λ is. (sym still ∙ is, step.other_pages n least differ)));
      }

      row_number : 1 ≤ v.call.rows.next
      row_number = (known.for_call.first_own room).0

      later_rows : (rows : Span) → v.call.rows.next < rows.next → HasRows plan h.owners (suc id) rows → HasRows plan new (suc id) rows
      later_rows rows later has = record {
        in_range = has.in_range;
        own = λ row low high. put_else h.owners.row v.call.rows.next row 0 (λ same. omega (arith, same, low, later)) ∙ has.own row low high;
      }

      still_numbers : (numbers : Span) → HasNumbers plan h.owners then (suc id) numbers → HasNumbers plan new then (suc id) numbers
      still_numbers numbers has = record { in_range = has.in_range; own = has.own; free = has.free }

      knows : Knows plan new words then log id w
      knows =
          let others = known.for_call.others in record {
            same_plan = known.same_plan;
            operation = step.own;
            bounded = bounded;
            reads = seat_reads_still plan s tree_state then h id kept.0 words new log leaves v known.reads;
            appends = tt;
            rows = later_rows v.rows (let before_rows = known.for_call.before.0 in omega (arith, before_rows, room)) known.rows;
            numbers = still_numbers v.pages step.own_free;
            for_call = record {
              before = (known.for_call.before.0, step.call_before);
              first_own = λ more. (
                omega arith,
                put_else h.owners.row v.call.rows.next (suc v.call.rows.next) 0 (λ same. omega (arith, same)) ∙ others.own (suc v.call.rows.next) (omega arith) more,
              );
              staged = λ more i inside few. absurd (omega (arith, few));
              others = later_rows (span (suc (suc v.call.rows.next)) v.call.rows.stop) (omega arith) record {
                in_range = (omega arith, others.in_range.1);
                own = λ row low high. others.own row (omega (arith, low)) high;
              };
              numbers = still_numbers pages step.call_free;
            };
            spare = subst (λ (spare : Span). HasSpare plan new then (suc id) spare v.pages.next pages) (sym step.same_spare) (spare_still plan h.owners new then then (suc id) v.stock.spare v.pages.next pages step.spare_free (λ n its. its) (λ n none. none));
            share = own.own_share;
            saw = ([], append-nil log);
            heard = leaves.longer v.told known.heard;
            in_role = subst (IsInRole plan new log id w) (sym role) kept;
            placed = λ common is. let p = known.placed common is in record { in_range = p.in_range; own = p.own; word = other_place v.place ∙ p.word; busy = λ m goes. p.busy under.0 under.1 };
            places_left = λ dealt back is. absurd (let e : Pass ≡ Keeper dealt back = sym role ∙ is in cc);
            nothing = λ common dealt back is. absurd (let e : Pass ≡ Keeper dealt back = sym role ∙ is in cc);
          }

      -- the row is published, and has the words
      is_published : IsPublished plan new v.call.rows.next × RowBegins plan.counts words v.call.rows.next content
      is_published = (
        ((row_number, row_inside), put_here h.owners.row v.call.rows.next 0),
        λ i inside few. stays v.call.rows.next i inside ∙ (known.for_call.staged room i inside (let all = is_row.all in omega (arith, all, few)) ∙ is_row.filled i few),
      )

      -- a word that is its number names it
      word_names_it : Names plan new words v.call.rows.next content
      word_names_it = names_its_row plan new words v.call.rows.next content h.bounded is_published.0 is_published.1 (put_here h.owners.fixed v.call.rows.next (length content))

      word_here : slice_index words number ≡ v.call.rows.next
      word_here = let wide = h.width in get_or-set_same s.words number v.call.rows.next 0 (omega (arith, wide, in_range))

      word_else : (n : ℕ) → n ≢ number → slice_index words n ≡ slice_index s.words n
      word_else n differ = get_or-set_other s.words number n v.call.rows.next 0 differ

      -- the page word names the row now, and the row is the page's
      names_row : (n : ℕ) → 1 ≤ n → n ≡ number → PageWordIs plan new words (slice_index words n) (then.pages n)
      names_row n least same =
          let here = step.page_here (omega (arith, least, same)) in
          let its_words : RowBegins plan.counts words v.call.rows.next (page_words here.0) = subst (RowBegins plan.counts words v.call.rows.next) here.2 is_published.1 in
          let names : NamesPage plan new words v.call.rows.next here.0 = names_its_page plan new words v.call.rows.next here.0 h.bounded is_published.0 its_words (put_here h.owners.fixed v.call.rows.next (length content) ∙ ap (λ (ws : List ℕ). length ws) here.2) in
          let word : slice_index words n ≡ v.call.rows.next = ap (slice_index words) same ∙ word_here in
          let is_page : then.pages n ≡ Some here.0 = ap then.pages same ∙ here.1 in
          subst (λ (t : ℕ × Option PlainPage). PageWordIs plan new words t.0 t.1) (λ i. (sym word i, sym is_page i)) names

      -- and no other word does
      named_row_is_published : (n : ℕ) → n < plan.counts.numbers → 1 ≤ named_row s.words n → IsPublished plan h.owners (named_row s.words n)
      named_row_is_published n few least = dite (ℕ_discrete n 0)
          (λ first. subst (λ (k : ℕ). IsPublished plan h.owners (named_row s.words k)) (sym first) h.prime.published)
          (λ later. word_is_published plan h.owners s.words (slice_index s.words n) (tree_state.pages n) least (h.pages n (omega (arith, later)) few))

      names_now : AreNamedBy plan.counts new.named_by words
      names_now n few least = dite (ℕ_discrete n number)
          (λ same.
          let row : named_row words n ≡ v.call.rows.next = ap row_in (ap (slice_index words) same ∙ word_here) ∙ row_names_itself plan v.call.rows.next h.bounded row_inside in
          ap new.named_by row ∙ (put_here h.owners.named_by v.call.rows.next number ∙ sym same))
          (λ differ.
          let row : named_row words n ≡ named_row s.words n = ap row_in (word_else n differ) in
          let was : 1 ≤ named_row s.words n = omega (arith, least, row) in
          ap new.named_by row ∙ (put_else h.owners.named_by v.call.rows.next (named_row s.words n) number (not_its_row (named_row s.words n) (named_row_is_published n few was).1) ∙ h.named_by n few was))

      prime_now : (n : ℕ) → number ≡ n → Names plan new words (slice_index words 0) (prime_words then.prime)
      prime_now zero is =
          let word : slice_index words 0 ≡ v.call.rows.next = ap (slice_index words) (sym is) ∙ word_here in
          subst (λ (t : ℕ × List ℕ). Names plan new words t.0 t.1) (λ i. (sym word i, step.prime_here is i)) word_names_it
      prime_now (suc n) is = prime_still plan s tree_state then h id kept.0 words new log leaves (word_else 0 (λ e. omega (arith, e, is))) (fixed_else (named_row s.words 0)) (step.other_prime (omega (arith, is)))

      same_latch_word : (holder : Option ℕ) → latch_word h.owners holder ≡ latch_word new holder
      same_latch_word None = refl
      same_latch_word (Some seat) = refl

      stored : IsStored plan s tree_state then h words new log now
      stored = record {
        same_fan = step.same_fan;
        invariant = step.invariant;
        prime_numbers = step.prime_numbers;
        prime = prime_now number refl;
        pages = λ n least below. dite (ℕ_discrete n number) (names_row n least) (λ differ.
            subst (λ (t : ℕ × Option PlainPage). PageWordIs plan new words t.0 t.1) (λ i. (sym (word_else n differ) i, sym (step.other_pages n least differ) i))
            (page_word_still plan s tree_state then h id kept.0 words new log leaves (slice_index s.words n) (tree_state.pages n) (fixed_else (named_row s.words n)) (h.pages n least below)));
        named_by = names_now;
        no_other_page = step.no_other_page;
        no_other_latch = λ n beyond. step.same_holder n ∙ h.no_other_latch n beyond;
        latches = λ n below. word_else (plan.counts.numbers + n) (λ e. omega (arith, e, in_range)) ∙ (h.latches n below ∙ (same_latch_word (tree_state.holder n) ∙ ap (latch_word new) (sym (step.same_holder n))));
        holders = λ n seat holds. h.holders n seat (sym (step.same_holder n) ∙ holds);
        is_map = own.is_map;
        kept = own.kept_now;
      }

      accounted : IsCommon plan → AreAccounts plan new.place log (set s.views id w)
      accounted common =
          let placed = known.placed common role in
          accounts_grow plan h.owners.place h.log s.views id v w at (h.accounted common) made role placed.own placed.in_range own.its_account.1 refl refl own.its_account.0 refl

      pub publish_keeps : IsTable plan record { words = words; homes = s.homes; views = set s.views id w }
      publish_keeps = store_keeps plan s tree_state then h id number v.call.rows.next kept.0 v w at new log now leaves stored refl refl accounted reuse knows
