-- A page word that counts more records of the row that it names is stored by the seat that holds the page's latch: the page is what base
-- and records make now, the row stays the page's, and the rule holds.
use Rattle.std.proofs.Common.{◌≡◌, ◌≢◌, ℕ, suc, ◌+◌, ◌<◌, ◌≤◌, Option, Some, None, List, [], ◌++◌, length-append, set, refl, sym, ap, ◌∙◌, subst, get_or-set_same, get_or-set_other, append_assoc, arith, length}
use Rattle.std.specs.Prelude.{slice_index}
use mathlib.Core.Option.{some, none}
use mathlib.Core.List.{append-nil}
use mathlib.Core.Logic.{dite}
use native.Mathlib.Decide.{ℕ_discrete}
use lib.ListN.{get_elem?}
use Rattle.atomic_table.specs.Table.{State, step, keeps, Allows}
use Rattle.blink_batch.specs.declared.Entry.{Entry}
use Rattle.blink_batch.specs.{FitsWords, key_of, pointer_of}
use Rattle.blink_page.specs.{PlainPage}
use Rattle.blink_rows.specs.{page_words, records_in, row_in}
use Rattle.blink_rows.specs.declared.span.Span.{Span}
use Rattle.blink_machine.specs.declared.step.Kind.TheVariants as kinds
use Rattle.blink_machine.specs.{PlainMachine, NeedsWrite, descent_bound, done, page_out, write_page}
use Rattle.blink_machine.specs.TreeState.{TreeState}
use Rattle.blink_live.specs.declared.view.Appending.{Appending}
use Rattle.blink_live.specs.declared.view.Change.{Change}
use Rattle.blink_live.specs.declared.view.Plan.{Plan}
use Rattle.blink_live.specs.declared.view.Role.TheVariants.{Keeper, Pass}
use Rattle.blink_live.specs.declared.view.Share.{Share}
use Rattle.blink_live.specs.declared.view.View.{View}
use Rattle.blink_live.specs.Changes.{put, states_of}
use Rattle.blink_live.specs.Accounts.{AreAccounts}
use Rattle.blink_live.specs.Additions.{CountsAdded}
use Rattle.blink_live.specs.AtomicSteps.{AppendsRecord, appends_record}
use Rattle.blink_live.specs.Looks.{IsSince}
use Rattle.blink_live.specs.Reuse.{IsReuseSafe}
use Rattle.blink_live.specs.Rule.{Appends, IsAppending, ReadsRow, AreNamedBy, Owners, IsPublished, PageWordIs, latch_word, HasRows, HasNumbers, IsInRole, IsBoundedWay, Knows, IsTableAt, IsTable, NamesPage}
use Rattle.blink_live.specs.Views.{IsCommon, MayChange, SeatState, publishes_from, span}
use Rattle.blink_live.specs.Words.{place_word, word_count, RowBegins, named_row, IsVersion}
use Rattle.blink_live.proofs.changed.ChangesAreTheMaps.{after-append, states_of-append}
use Rattle.blink_live.proofs.changed.PublishesKeepTable.{BecomesWritten, becomes_written, page_its, page_stepped, page_then, page_tree, page_well}
use Rattle.blink_live.proofs.changed.RowsArePublished.{ChangesOwn, IsStepOfTree, ways_stay}
use Rattle.blink_live.proofs.added.WordsAreAdded.{content_is}
use Rattle.blink_live.proofs.reuse.ReuseStaysSafe.{hand_stays, reuse_stays, same_reads}
use Rattle.blink_live.proofs.table.PoolStays.{pool_stays}
use Rattle.blink_live.proofs.table.MapsWithOneChange.{put_here, put_else}
use Rattle.blink_live.proofs.table.OthersKnowTheSame.{LeavesOthers, RowStays, page_word_still, seat_reads_still}
use Rattle.blink_live.proofs.table.AccountsStay.{accounts_grow}
use Rattle.blink_live.proofs.table.StoresKeepTable.{row_stays, IsStored, prime_still, store_keeps}
use Rattle.blink_live.proofs.table.SparesOfSeats.{spare_still}

module _ (plan : Plan) (s : State ℕ View) (tree_state then : TreeState) (h : IsTableAt plan s tree_state) (id number word way : ℕ) (v : View) (after_it : PlainMachine) (page base : PlainPage) (behind : List ℕ) (at : get_elem? s.views id ≡ some v) (role : v.role ≡ Pass) (under : (m : PlainMachine) × (v.operation ≡ Some m))
    (step : IsStepOfTree plan s tree_state then h id number way v after_it (page_words page) v.call.pages v.stock at role) (there : then.pages number ≡ Some page) (some_number : 1 ≤ number) (in_range : number < plan.counts.numbers) (latched : tree_state.holder number ≡ Some id)
    (same_row : row_in word ≡ named_row s.words number) (more : (records_in (slice_index s.words number)).count < (records_in word).count) (version : IsVersion word base behind page)
    (published : IsPublished plan h.owners (named_row s.words number)) (grows : h.owners.fixed (named_row s.words number) ≤ length (page_words base ++ behind)) (begins : RowBegins plan.counts s.words (named_row s.words number) (page_words base ++ behind))
    (made : List Change) (now : List Entry) (share : Share) where
  abbrev row : ℕ
  row = named_row s.words number

  abbrev pub words : List ℕ
  words = set s.words number word

  abbrev pub log : List Change
  log = h.log ++ made

  abbrev pub new : Owners
  new = record h.owners { fixed = put h.owners.fixed (named_row s.words number) (length (page_words base ++ behind)) }

  abbrev pub w : View
  w = publishes_from v after_it way v.call.rows v.call.pages share log v.stock

  known : Knows plan h.owners s.words tree_state h.log id v
  known = h.views id v at

  kept : IsInRole plan h.owners h.log id v Pass
  kept = subst (IsInRole plan h.owners h.log id v) role known.in_role

  stays : (r : ℕ) → RowStays plan s.words words r
  stays r = row_stays plan s.words number word r (omega (arith, in_range))

  -- the pool has another owner
  apart_from_pool : suc 0 ≢ suc id
  apart_from_pool e = let later = kept.0 in omega (arith, e, later)

  behind_rows : (n : ℕ) → slice_index words (word_count plan.counts + n) ≡ slice_index s.words (word_count plan.counts + n)
  behind_rows n = get_or-set_other s.words number (word_count plan.counts + n) word 0 (λ e. omega (arith, e, in_range))

  other_place : (place : ℕ) → slice_index words (place_word plan.counts place) ≡ slice_index s.words (place_word plan.counts place)
  other_place place = get_or-set_other s.words number (place_word plan.counts place) word 0 (λ e. omega (arith, e, in_range))

  word_here : slice_index words number ≡ word
  word_here = let wide = h.width in get_or-set_same s.words number word 0 (omega (arith, wide, in_range))

  word_else : (n : ℕ) → n ≢ number → slice_index words n ≡ slice_index s.words n
  word_else n differ = get_or-set_other s.words number n word 0 differ

  -- no other page word names the row
  row_else : (n : ℕ) → n < plan.counts.numbers → n ≢ number → named_row s.words n ≢ row
  row_else n few differ same = differ (sym (h.named_by n few (let least = published.0.0 in omega (arith, least, same))) ∙ (ap h.owners.named_by same ∙ h.named_by number in_range published.0.0))

  fixed_else : (r : ℕ) → r ≢ row → new.fixed r ≡ h.owners.fixed r
  fixed_else r differ = put_else h.owners.fixed row r (length (page_words base ++ behind)) differ

  fixed_here : new.fixed row ≡ length (page_words base ++ behind)
  fixed_here = put_here h.owners.fixed row (length (page_words base ++ behind))

  no_fewer : (r : ℕ) → h.owners.fixed r ≤ new.fixed r
  no_fewer r = dite (ℕ_discrete r row)
      (λ same.
      let now_fixed : new.fixed r ≡ length (page_words base ++ behind) = ap new.fixed same ∙ fixed_here in
      let was_fixed : h.owners.fixed r ≡ h.owners.fixed row = ap h.owners.fixed same in
      omega (arith, now_fixed, was_fixed, grows))
      (λ differ. let still = fixed_else r differ in omega (arith, still))

  module _ (own : ChangesOwn plan s tree_state then h id v new made now share) (bounded : IsBoundedWay then w) (reuse : IsCommon plan → IsReuseSafe plan new.row words (set s.views id w)) where
    leaves : LeavesOthers plan s tree_state then h id words new log
    leaves = record {
      machines = step.others;
      ways = λ seat m apart is. ways_stay tree_state then.pages seat m h.invariant step.places is;
      rows = λ r least most apart shared. (refl, λ i inside few. stays r i inside);
      fixed = λ r unowned. no_fewer r;
      latched = λ seat n other holds least few is. (
        step.same_holder n ∙ holds,
        word_else n (λ same. other (let e : Some seat ≡ Some id = sym holds ∙ (ap tree_state.holder same ∙ latched) in cc)),
        stays (named_row s.words n),
      );
      latched_fixed = λ seat n other holds least few published. fixed_else (named_row s.words n) (row_else n few (λ same. other (let e : Some seat ≡ Some id = sym holds ∙ (ap tree_state.holder same ∙ latched) in cc)));
      numbers = λ n apart shared. (refl, step.others_free n apart);
      keys = λ owned key apart. (
        refl,
        states_of-append key h.log made ∙ (ap (λ (l : List (Option ℕ)). states_of key h.log ++ l) (own.other_changes owned key apart) ∙ append-nil (states_of key h.log)),
        after-append (pointer_of plan.opening) h.log made key ∙ own.other_kept owned key apart,
      );
      nobodys = h.nobodys;
      pool = λ common. pool_stays plan h.owners new s.words words tree_state then (behind_rows 1) (behind_rows 2)
          (λ r least most its. (its, stays r))
          (λ n its. (its, step.others_free n (λ e. apart_from_pool (sym its ∙ e)))) (h.pool common);
      places = λ place. refl;
      place_words = λ place inside apart. other_place place;
      latch_numbers = λ seat. refl;
      longer = λ seen is. (is.0 ++ made, sym (append_assoc seen is.0 made) ∙ ap (λ (l : List Change). l ++ made) is.1);
      in_chain = step.in_chain;
      named = λ n noted least few unowned since. dite (ℕ_discrete n number)
          (λ same.
          let here : slice_index words n ≡ word = ap (slice_index words) same ∙ word_here in
          let was : slice_index s.words n ≡ slice_index s.words number = ap (slice_index s.words) same in
          -- where the noted word names the row, it counts fewer records
          let fewer : row_in word ≡ row_in noted → (records_in noted).count < (records_in word).count =
          λ names.
          let counted = since (ap row_in was ∙ (sym same_row ∙ names)) in
          let same_count : (records_in (slice_index s.words n)).count ≡ (records_in (slice_index s.words number)).count = ap (λ (k : ℕ). (records_in k).count) was in
          omega (arith, counted, same_count, more) in (
            subst (IsSince noted) (sym here) (λ names. let less = fewer names in omega (arith, less)),
            λ is. absurd (
                let same_word : word ≡ noted = sym here ∙ is in
                let less = fewer (ap row_in same_word) in
                let same_count : (records_in word).count ≡ (records_in noted).count = ap (λ (k : ℕ). (records_in k).count) same_word in
                omega (arith, less, same_count)),
          ))
          (λ differ. (subst (IsSince noted) (sym (word_else n differ)) since, λ is. (sym (word_else n differ) ∙ is, step.other_pages n least differ)));
    }

    same_rows : (rows : Span) → HasRows plan h.owners (suc id) rows → HasRows plan new (suc id) rows
    same_rows rows has = record { in_range = has.in_range; own = has.own }

    same_numbers : (numbers : Span) → HasNumbers plan h.owners then (suc id) numbers → HasNumbers plan new then (suc id) numbers
    same_numbers numbers has = record { in_range = has.in_range; own = has.own; free = has.free }

    knows : Knows plan new words then log id w
    knows = record {
      same_plan = known.same_plan;
      operation = step.own;
      bounded = bounded;
      reads = seat_reads_still plan s tree_state then h id kept.0 words new log leaves v known.reads;
      appends = tt;
      rows = same_rows v.rows known.rows;
      numbers = same_numbers v.pages step.own_free;
      for_call = record {
        before = (known.for_call.before.0, step.call_before);
        first_own = known.for_call.first_own;
        staged = λ room i inside few. absurd (omega (arith, few));
        others = same_rows (span (suc v.call.rows.next) v.call.rows.stop) known.for_call.others;
        numbers = same_numbers v.call.pages step.call_free;
      };
      spare = spare_still plan h.owners new then then (suc id) v.stock.spare v.pages.next v.call.pages step.spare_free (λ n its. its) (λ n none. none);
      share = own.own_share;
      saw = ([], append-nil log);
      heard = leaves.longer v.told known.heard;
      in_role = subst (IsInRole plan new log id w) (sym role) kept;
      placed = λ common is. let p = known.placed common is in record { in_range = p.in_range; own = p.own; word = other_place v.place ∙ p.word; busy = λ m goes. p.busy under.0 under.1 };
      places_left = λ dealt back is. absurd (let e : Pass ≡ Keeper dealt back = sym role ∙ is in cc);
      nothing = λ common dealt back is. absurd (let e : Pass ≡ Keeper dealt back = sym role ∙ is in cc);
    }

    -- the page word names the row with the page
    names : NamesPage plan new words word page
    names = record {
      base = base;
      behind = behind;
      published = subst (IsPublished plan h.owners) (sym same_row) published;
      begins = subst (λ (r : ℕ). RowBegins plan.counts words r (page_words base ++ behind)) (sym same_row) (λ i inside few. stays row i inside ∙ begins i inside few);
      fixed = ap new.fixed same_row ∙ fixed_here;
      version = version;
    }

    names_here : (n : ℕ) → n ≡ number → PageWordIs plan new words (slice_index words n) (then.pages n)
    names_here n same =
        let here : slice_index words n ≡ word = ap (slice_index words) same ∙ word_here in
        let is_page : then.pages n ≡ Some page = ap then.pages same ∙ there in
        subst (λ (t : ℕ × Option PlainPage). PageWordIs plan new words t.0 t.1) (λ i. (sym here i, sym is_page i)) names

    names_now : AreNamedBy plan.counts new.named_by words
    names_now n few least = dite (ℕ_discrete n number)
        (λ same. ap h.owners.named_by (ap row_in (ap (slice_index words) same ∙ word_here) ∙ same_row) ∙ (h.named_by number in_range published.0.0 ∙ sym same))
        (λ differ.
        let still : named_row words n ≡ named_row s.words n = ap row_in (word_else n differ) in
        ap h.owners.named_by still ∙ h.named_by n few (omega (arith, least, still)))

    same_latch_word : (holder : Option ℕ) → latch_word h.owners holder ≡ latch_word new holder
    same_latch_word None = refl
    same_latch_word (Some seat) = refl

    stored : IsStored plan s tree_state then h words new log now
    stored = record {
      same_fan = step.same_fan;
      invariant = step.invariant;
      prime_numbers = step.prime_numbers;
      prime = prime_still plan s tree_state then h id kept.0 words new log leaves (word_else 0 (λ e. omega (arith, e, some_number))) (λ unowned. fixed_else (named_row s.words 0) (row_else 0 (omega (arith, in_range)) (λ e. omega (arith, e, some_number)))) (step.other_prime some_number);
      pages = λ n least below. dite (ℕ_discrete n number) (names_here n) (λ differ.
          subst (λ (t : ℕ × Option PlainPage). PageWordIs plan new words t.0 t.1) (λ i. (sym (word_else n differ) i, sym (step.other_pages n least differ) i))
          (page_word_still plan s tree_state then h id kept.0 words new log leaves (slice_index s.words n) (tree_state.pages n) (λ unowned. fixed_else (named_row s.words n) (row_else n below differ)) (h.pages n least below)));
      named_by = names_now;
      no_other_page = step.no_other_page;
      no_other_latch = λ n beyond. step.same_holder n ∙ h.no_other_latch n beyond;
      latches = λ n below. word_else (plan.counts.numbers + n) (λ e. omega (arith, e, in_range)) ∙ (h.latches n below ∙ (same_latch_word (tree_state.holder n) ∙ ap (latch_word new) (sym (step.same_holder n))));
      holders = λ n seat holds. h.holders n seat (sym (step.same_holder n) ∙ holds);
      is_map = own.is_map;
      kept = own.kept_now;
    }

    accounted : IsCommon plan → AreAccounts plan new.place log (set s.views id w)
    accounted common =
        let placed = known.placed common role in
        accounts_grow plan h.owners.place h.log s.views id v w at (h.accounted common) made role placed.own placed.in_range own.its_account.1 refl refl own.its_account.0 refl

    pub count_keeps : IsTable plan record { words = words; homes = s.homes; views = set s.views id w }
    count_keeps = store_keeps plan s tree_state then h id number word kept.0 v w at new log now leaves stored refl refl accounted reuse knows

-- ---- the page word counts what the seat has added

module _ (plan : Plan) (s : State ℕ View) (table : IsTable plan s) (id number word : ℕ) (me : SeatState) (m : PlainMachine) (at : get_elem? s.views id ≡ some me.0) (role : me.0.role ≡ Pass) (at_m : me.0.operation ≡ Some m) (fits : FitsWords m.op)
    (needs : NeedsWrite m number) (may : MayChange me.0 (key_of m.op)) (adds : CountsAdded number word me (page_out m 0)) where
  abbrev now_state : TreeState
  now_state = table.0

  abbrev rule : IsTableAt plan s now_state
  rule = table.1

  abbrev a : Appending
  a = adds.a

  now_known : Knows plan rule.owners s.words now_state rule.log id me.0
  now_known = rule.views id me.0 at

  has_added : Appends plan.counts rule.owners.fixed now_state.holder s.words id me.0.reads me.0.behind a
  has_added = subst (IsAppending plan.counts rule.owners.fixed now_state.holder s.words id me.0.reads me.0.behind) adds.appends now_known.appends

  of_number : (1 ≤ number) × (number < plan.counts.numbers) × (slice_index s.words number ≡ a.word)
  of_number = subst (λ (k : ℕ). (1 ≤ k) × (k < plan.counts.numbers) × (slice_index s.words k ≡ a.word)) adds.same_number (has_added.in_range.0, has_added.in_range.1, has_added.named)

  its_row : row_in a.word ≡ named_row s.words number
  its_row = ap row_in (sym of_number.2)

  row_is_published : IsPublished plan rule.owners (named_row s.words number)
  row_is_published = subst (IsPublished plan rule.owners) its_row (subst (λ (r : Option (ℕ × List ℕ)). ReadsRow plan rule.owners s.words r me.0.behind) has_added.row now_known.reads.0).0

  same_content : has_added.content ≡ page_words adds.base
  same_content = content_is (row_in a.word) has_added.content (page_words adds.base) (sym has_added.row ∙ adds.reads)

  begins_so : RowBegins plan.counts s.words (named_row s.words number) (page_words adds.base ++ (me.0.behind ++ a.words))
  begins_so = subst (λ (ws : List ℕ). RowBegins plan.counts s.words (named_row s.words number) ws) (append_assoc (page_words adds.base) me.0.behind a.words)
      (subst (λ (t : ℕ × List ℕ). RowBegins plan.counts s.words t.0 ((t.1 ++ me.0.behind) ++ a.words)) (λ i. (its_row i, same_content i)) has_added.begins)

  no_fewer_fixed : rule.owners.fixed (named_row s.words number) ≤ length (page_words adds.base ++ (me.0.behind ++ a.words))
  no_fewer_fixed =
      let all : rule.owners.fixed (named_row s.words number) ≡ length (page_words adds.base ++ me.0.behind) = ap rule.owners.fixed (sym its_row) ∙ (has_added.all_fixed ∙ ap (λ (ws : List ℕ). length (ws ++ me.0.behind)) same_content) in
      let apart : length ((page_words adds.base ++ me.0.behind) ++ a.words) ≡ length (page_words adds.base ++ me.0.behind) + length a.words = length-append (page_words adds.base ++ me.0.behind) a.words in
      let together : length ((page_words adds.base ++ me.0.behind) ++ a.words) ≡ length (page_words adds.base ++ (me.0.behind ++ a.words)) = ap (λ (ws : List ℕ). length ws) (append_assoc (page_words adds.base) me.0.behind a.words) in
      omega (arith, all, apart, together)

  counts_more : (records_in (slice_index s.words number)).count < (records_in word).count
  counts_more = subst (λ (k : ℕ). (records_in k).count < (records_in word).count) (sym of_number.2) adds.more

  named_then : (n : ℕ) → n < plan.counts.numbers → named_row (set s.words number word) n ≡ named_row s.words n
  named_then n few = dite (ℕ_discrete n number)
      (λ same.
      let wide = rule.width in
      let here : slice_index (set s.words number word) number ≡ word = let in_range = of_number.1 in get_or-set_same s.words number word 0 (omega (arith, wide, in_range)) in
      ap row_in (ap (slice_index (set s.words number word)) same ∙ here) ∙ (adds.same_row ∙ (its_row ∙ ap (named_row s.words) (sym same))))
      (λ differ. ap row_in (get_or-set_other s.words number n word 0 differ))

  abbrev state_then : TreeState
  state_then = page_then plan s table id number me m at role at_m fits needs of_number.0 of_number.1 me.0.stock refl

  its_tree : IsStepOfTree plan s now_state state_then rule id number (descent_bound state_then.pages (done m 0)) me.0 (done m 0) (page_words (page_out m 0)) me.0.call.pages me.0.stock at role
  its_tree = page_tree plan s table id number me m at role at_m fits needs of_number.0 of_number.1 me.0.stock refl

  pub becomes_counted : BecomesWritten plan s id number word (write_page number) me.0.call.rows me.0.call.pages me.0.stock me m (done m 0)
  becomes_counted = becomes_written plan s now_state state_then rule id number word (kinds.WritePage number) me.0.call.rows me.0.call.pages me.0.stock me m (done m 0) (page_words (page_out m 0)) at role
      (page_its plan s table id number me m at role at_m fits needs of_number.0 of_number.1 me.0.stock refl) fits (page_stepped plan s table id number me m at role at_m fits needs of_number.0 of_number.1 me.0.stock refl) its_tree may
      (record rule.owners { fixed = put rule.owners.fixed (named_row s.words number) (length (page_words adds.base ++ (me.0.behind ++ a.words))) }) (λ key. refl)
      (λ made entries share own bounded.
      let w : View = publishes_from me.0 (done m 0) (descent_bound state_then.pages (done m 0)) me.0.call.rows me.0.call.pages share (rule.log ++ made) me.0.stock in
      count_keeps plan s now_state state_then rule id number word (descent_bound state_then.pages (done m 0)) me.0 (done m 0) (page_out m 0) adds.base (me.0.behind ++ a.words) at role (m, at_m) its_tree (put_here now_state.pages number (Some (page_out m 0))) of_number.0 of_number.1
      (page_well plan s table id number me m at role at_m fits needs of_number.0 of_number.1 me.0.stock refl).latched (adds.same_row ∙ its_row) counts_more adds.version row_is_published no_fewer_fixed begins_so made entries share own bounded
      (λ common. reuse_stays plan rule.owners.row s.words s.views id me.0 w at (rule.reuse common) rule.owners.row (set s.words number word) (λ r is. is) (λ seat r later is apart. is) named_then refl (hand_stays rule.owners.row id me.0 w refl refl)
      (same_reads plan rule.owners.row s.words s.views id me.0 w at (rule.reuse common) refl refl refl refl refl)))

pub record_is_counted : (plan : Plan) (slots id number word : ℕ) (me : SeatState) (m : PlainMachine) → me.0.role ≡ Pass → me.0.operation ≡ Some m → FitsWords m.op → NeedsWrite m number → MayChange me.0 (key_of m.op) → CountsAdded number word me (page_out m 0)
    → Allows (IsTable plan) slots id me number (λ n. word) (λ n. appends_record (step slots number word 0 none) me n)
record_is_counted plan slots id number word me m role at_m fits needs may adds s table homes at small =
    let to = becomes_counted plan s table id number word me m at role at_m fits needs may adds in
    let then : SeatState = (publishes_from me.0 (done m 0) to.way me.0.call.rows me.0.call.pages to.share to.seen me.0.stock, me.1) in (
      then.0,
      keeps,
      tt,
      to.table,
      λ k at_k needs_k.
          let same : m ≡ k = cc in
          subst (λ (j : PlainMachine). AppendsRecord number j me then) same
          record { way = to.way; share = to.share; seen = to.seen; is = refl; learns = to.learns; decided = to.decided; next = to.next; uses = to.uses; answers_at_end = to.answers_at_end; knows_own = to.knows_own; ends_with_own = to.ends_with_own },
    )
