-- A step of one seat leaves what the others know.
use Rattle.std.proofs.Common.{subst, ◌≡◌, ◌≢◌, ℕ, suc, ◌+◌, ◌<◌, ◌≤◌, Option, Some, None, List, ◌++◌, inl, inr, sym, ap, ◌∙◌, arith}
use Rattle.std.specs.Prelude.{slice_index}
use Rattle.std.proofs.lemmas.Bool.{cases_lt}
use mathlib.Core.Option.{some, some-injective}
use native.Mathlib.Decide.{dec_le}
use mathlib.Core.List.{IsPrefix}
use lib.ListN.{get_elem?}
use Rattle.atomic_table.specs.Table.{State}
use Rattle.blink_batch.specs.{pointer_of}
use Rattle.blink_page.specs.{PlainPage}
use Rattle.blink_rows.specs.{row_in}
use Rattle.blink_rows.specs.declared.limits.TheConstants.{ROW_WORDS}
use Rattle.blink_rows.specs.declared.span.Span.{Span}
use Rattle.blink_machine.specs.{PlainMachine, descent_bound}
use Rattle.blink_machine.specs.TreeState.{TreeState}
use Rattle.blink_live.specs.declared.view.Appending.{Appending}
use Rattle.blink_live.specs.declared.view.Change.{Change}
use Rattle.blink_live.specs.declared.view.Plan.{Plan}
use Rattle.blink_live.specs.declared.view.Role.{Role}
use Rattle.blink_live.specs.declared.view.Role.TheVariants.{Keeper, Pass, Spent}
use Rattle.blink_live.specs.declared.view.Share.{Share}
use Rattle.blink_live.specs.declared.view.View.{View}
use Rattle.blink_live.specs.Changes.{after, states_of}
use Rattle.blink_live.specs.Looks.{IsLeafInChain, IsSince}
use Rattle.blink_live.specs.Rule.{HasNothing, IsAppending, HasPool, Owners, IsPublished, PageWordIs, Reads, ReadsRow, HasRows, HasNumbers, HasForCall, HasSpare, IsShare, IsInRole, Knows, IsTableAt, Names}
use Rattle.blink_live.specs.Views.{IsCommon, IsOwned, span}
use Rattle.blink_live.specs.Words.{named_row, place_word, row_start, RowBegins}
use Rattle.blink_live.proofs.table.LooksStay.{looks_stay}

-- the words of a row stay
abbrev pub RowStays : Plan → List ℕ → List ℕ → ℕ → Type 0
RowStays plan old new row = (i : ℕ) → i < ROW_WORDS → slice_index new (row_start plan.counts row + i) ≡ slice_index old (row_start plan.counts row + i)

pub row_begins_still : (plan : Plan) (old new : List ℕ) (row : ℕ) (content : List ℕ) → RowStays plan old new row → RowBegins plan.counts old row content → RowBegins plan.counts new row content
row_begins_still plan old new row content stays is i inside few = stays i inside ∙ is i inside few

-- the words of a row that nobody may store to stay: of a published row those that are fixed
abbrev pub FixedStay : Plan → Owners → List ℕ → List ℕ → ℕ → Type 0
FixedStay plan owners old new row = (i : ℕ) → i < ROW_WORDS → (owners.row row ≡ 0 → i < owners.fixed row) → slice_index new (row_start plan.counts row + i) ≡ slice_index old (row_start plan.counts row + i)

-- what a seat has added to the row of a page stays so where the page's latch, its word, all words of its row and the fixed ones stay
pub appends_stay : (plan : Plan) (owners new : Owners) (words then : List ℕ) (holder now : ℕ → Option ℕ) (seat : ℕ) (reads : Option (ℕ × List ℕ)) (behind : List ℕ) (appends : Option Appending)
    → ((number : ℕ) → holder number ≡ Some seat → 1 ≤ number → number < plan.counts.numbers → IsPublished plan owners (named_row words number)
    → (now number ≡ Some seat) × (slice_index then number ≡ slice_index words number) × RowStays plan words then (named_row words number) × (new.fixed (named_row words number) ≡ owners.fixed (named_row words number)))
    → ReadsRow plan owners words reads behind → IsAppending plan.counts owners.fixed holder words seat reads behind appends → IsAppending plan.counts new.fixed now then seat reads behind appends
appends_stay plan owners new words then holder now seat reads behind None stays is_read is = tt
appends_stay plan owners new words then holder now seat reads behind (Some a) stays is_read is =
    let published : IsPublished plan owners (row_in a.word) = (subst (λ (x : Option (ℕ × List ℕ)). ReadsRow plan owners words x behind) is.row is_read).0 in
    let same : row_in a.word ≡ named_row words a.number = ap row_in (sym is.named) in
    let t = stays a.number is.latched is.in_range.0 is.in_range.1 (subst (IsPublished plan owners) same published) in record {
      content = is.content;
      in_range = is.in_range;
      latched = t.0;
      named = t.1 ∙ is.named;
      row = is.row;
      all_fixed = ap new.fixed same ∙ (t.3 ∙ (ap owners.fixed (sym same) ∙ is.all_fixed));
      begins = row_begins_still plan words then (row_in a.word) ((is.content ++ behind) ++ a.words) (subst (RowStays plan words then) (sym same) t.2) is.begins;
    }

-- a step of the seat `id` after which words, tree state, owners and changes are these touches nothing that another seat has
pub record LeavesOthers (plan : Plan) (s : State ℕ View) (tree_state then : TreeState) (h : IsTableAt plan s tree_state) (id : ℕ) (words : List ℕ) (new : Owners) (log : List Change) : Type 0 where
  pub machines : (seat : ℕ) → seat ≢ id → then.machines seat ≡ tree_state.machines seat
  pub ways : (seat : ℕ) (m : PlainMachine) → seat ≢ id → tree_state.machines seat ≡ Some m → descent_bound then.pages m ≡ descent_bound tree_state.pages m
  pub rows : (row : ℕ) → 1 ≤ row → row ≤ plan.counts.rows → h.owners.row row ≢ suc id → (IsCommon plan → h.owners.row row ≢ suc 0) → (new.row row ≡ h.owners.row row) × FixedStay plan h.owners s.words words row
  -- no fewer words are fixed
  pub fixed : (row : ℕ) → h.owners.row row ≡ 0 → h.owners.fixed row ≤ new.fixed row
  -- a page whose latch another seat holds stays latched, its word names the same row, and all words of this row stay
  pub latched : (seat number : ℕ) → seat ≢ id → tree_state.holder number ≡ Some seat → 1 ≤ number → number < plan.counts.numbers → IsPublished plan h.owners (named_row s.words number)
      → (then.holder number ≡ Some seat) × (slice_index words number ≡ slice_index s.words number) × RowStays plan s.words words (named_row s.words number)
  -- and the same of them are fixed
  pub latched_fixed : (seat number : ℕ) → seat ≢ id → tree_state.holder number ≡ Some seat → 1 ≤ number → number < plan.counts.numbers → IsPublished plan h.owners (named_row s.words number)
      → new.fixed (named_row s.words number) ≡ h.owners.fixed (named_row s.words number)
  pub numbers : (number : ℕ) → h.owners.page number ≢ suc id → (IsCommon plan → h.owners.page number ≢ suc 0) → (new.page number ≡ h.owners.page number) × (tree_state.pages number ≡ None → then.pages number ≡ None)
  pub keys : IsOwned plan → (key : ℕ) → h.owners.key key ≢ suc id
      → (new.key key ≡ h.owners.key key) × (states_of key log ≡ states_of key h.log) × (after (pointer_of plan.opening) log key ≡ after (pointer_of plan.opening) h.log key)
  pub nobodys : IsCommon plan → (key : ℕ) → new.key key ≡ 0
  pub pool : IsCommon plan → HasPool plan new words then
  pub places : (place : ℕ) → new.place place ≡ h.owners.place place
  pub place_words : (place : ℕ) → place < plan.places → h.owners.place place ≢ suc id → slice_index words (place_word plan.counts place) ≡ slice_index s.words (place_word plan.counts place)
  pub latch_numbers : (seat : ℕ) → new.latch_number seat ≡ h.owners.latch_number seat
  pub longer : (seen : List Change) → IsPrefix seen h.log → IsPrefix seen log
  pub in_chain : (number : ℕ) → IsLeafInChain tree_state.fan tree_state.prime tree_state.pages number → IsLeafInChain then.fan then.prime then.pages number
  pub named : (number word : ℕ) → 1 ≤ number → number < plan.counts.numbers → h.owners.row (row_in word) ≡ 0 → IsSince word (slice_index s.words number)
      → IsSince word (slice_index words number) × (slice_index words number ≡ word → (slice_index s.words number ≡ word) × (then.pages number ≡ tree_state.pages number))

module _ (plan : Plan) (s : State ℕ View) (tree_state then : TreeState) (h : IsTableAt plan s tree_state) (id : ℕ) (some_pass : 1 ≤ id) (words : List ℕ) (new : Owners) (log : List Change)
    (leaves : LeavesOthers plan s tree_state then h id words new log) where
  pub still_published : (row : ℕ) → IsPublished plan h.owners row → IsPublished plan new row × FixedStay plan h.owners s.words words row
  still_published row is =
      let t = leaves.rows row is.0.0 is.0.1 (λ e. let zero_is : 0 ≡ suc id = sym is.1 ∙ e in absurd (omega (arith, zero_is))) (λ common e. let zero_is : 0 ≡ suc 0 = sym is.1 ∙ e in absurd (omega (arith, zero_is))) in
      ((is.0, t.0 ∙ is.1), t.1)

  -- a word that names a row names it still, if the same words are fixed
  pub word_names_still : (word : ℕ) (content : List ℕ) → (h.owners.row (row_in word) ≡ 0 → new.fixed (row_in word) ≡ h.owners.fixed (row_in word)) → Names plan h.owners s.words word content → Names plan new words word content
  word_names_still word content same is =
      let t = still_published (row_in word) is.published in record { published = t.0; begins = λ i inside few. t.1 i inside (λ unowned. let all = is.fixed in omega (arith, all, few)) ∙ is.begins i inside few; fixed = same is.published.1 ∙ is.fixed }

  pub page_word_still : (word : ℕ) (page : Option PlainPage) → (h.owners.row (row_in word) ≡ 0 → new.fixed (row_in word) ≡ h.owners.fixed (row_in word)) → PageWordIs plan h.owners s.words word page → PageWordIs plan new words word page
  page_word_still word None same is = is
  page_word_still word (Some page) same is =
      let t = still_published (row_in word) is.published in record {
        base = is.base;
        behind = is.behind;
        published = t.0;
        begins = λ i inside few. t.1 i inside (λ unowned. let all = is.fixed in omega (arith, all, few)) ∙ is.begins i inside few;
        fixed = same is.published.1 ∙ is.fixed;
        version = is.version;
      }

  pub reads_still : (reads : Option (ℕ × List ℕ)) (behind : List ℕ) → ReadsRow plan h.owners s.words reads behind → ReadsRow plan new words reads behind
  reads_still None behind is = tt
  reads_still (Some (row, content)) behind is = let t = still_published row is.0 in (t.0, (λ i inside few. t.1 i inside (λ unowned. let all = is.2 in omega (arith, all, few)) ∙ is.1 i inside few), (let more = leaves.fixed row is.0.1 in let all = is.2 in omega (arith, more, all)))

  pub seat_reads_still : (v : View) → Reads plan h.owners s.words tree_state v → Reads plan new words then v
  seat_reads_still v is = (
    reads_still v.reads v.behind is.0,
    looks_stay plan h.owners.row new.row s.words words tree_state.fan then.fan tree_state.prime then.prime tree_state.pages then.pages v.look (λ number word has in_range unowned. (still_published (row_in word) (in_range, unowned)).0.1) leaves.in_chain leaves.named is.1,
  )

  module _ (seat : ℕ) (other : seat ≢ id) where
    apart : suc seat ≢ suc id
    apart e = other (omega (arith, e))

    -- the pool is nobody's
    not_pools : (low high n whose : ℕ) → (IsCommon plan → seat ≡ 0 → high ≤ low) → low ≤ n → n < high → whose ≡ suc seat → IsCommon plan → whose ≢ suc 0
    not_pools low high n whose none from to is common pools = let empty = none common (let one : suc seat ≡ suc 0 = sym is ∙ pools in omega (arith, one)) in omega (arith, empty, from, to)

    rows_still : (rows : Span) → (IsCommon plan → seat ≡ 0 → rows.stop ≤ rows.next) → HasRows plan h.owners (suc seat) rows → HasRows plan new (suc seat) rows
    rows_still rows none has = record {
      in_range = has.in_range;
      own = λ row low high. let least = has.in_range.0 in let most = has.in_range.1 in (leaves.rows row (omega (arith, least, low)) (omega (arith, high, most)) (λ e. apart (sym (has.own row low high) ∙ e)) (not_pools rows.next rows.stop row (h.owners.row row) none low high (has.own row low high))).0 ∙ has.own row low high;
    }

    numbers_still : (pages : Span) → (IsCommon plan → seat ≡ 0 → pages.stop ≤ pages.next) → HasNumbers plan h.owners tree_state (suc seat) pages → HasNumbers plan new then (suc seat) pages
    numbers_still pages none has = record {
      in_range = has.in_range;
      own = λ number low high. (leaves.numbers number (λ e. apart (sym (has.own number low high) ∙ e)) (not_pools pages.next pages.stop number (h.owners.page number) none low high (has.own number low high))).0 ∙ has.own number low high;
      free = λ number low high. (leaves.numbers number (λ e. apart (sym (has.own number low high) ∙ e)) (not_pools pages.next pages.stop number (h.owners.page number) none low high (has.own number low high))).1 (has.free number low high);
    }

    call_stays : (v : View) → (IsCommon plan → seat ≡ 0 → HasNothing v) → HasForCall plan h.owners s.words tree_state (suc seat) v.call v.rows.next v.pages.next → HasForCall plan new words then (suc seat) v.call v.rows.next v.pages.next
    call_stays v none has = record {
      before = has.before;
      first_own = λ some_row. let own = has.first_own some_row in let most = has.others.in_range.1 in (own.0, (leaves.rows v.call.rows.next own.0 (omega (arith, some_row, most)) (λ e. apart (sym own.1 ∙ e)) (not_pools v.call.rows.next v.call.rows.stop v.call.rows.next (h.owners.row v.call.rows.next) (λ common first. (none common first).2) (omega arith) some_row own.1)).0 ∙ own.1);
      staged = λ some_row.
          let own = has.first_own some_row in
          let most = has.others.in_range.1 in
          row_begins_still plan s.words words v.call.rows.next v.call.staged (λ i inside. (leaves.rows v.call.rows.next own.0 (omega (arith, some_row, most)) (λ e. apart (sym own.1 ∙ e)) (not_pools v.call.rows.next v.call.rows.stop v.call.rows.next (h.owners.row v.call.rows.next) (λ common first. (none common first).2) (omega arith) some_row own.1)).1 i inside (λ unowned. let zero_is : 0 ≡ suc seat = sym unowned ∙ own.1 in absurd (omega (arith, zero_is)))) (has.staged some_row);
      others = rows_still (span (suc v.call.rows.next) v.call.rows.stop) (λ common first. let empty = (none common first).2 in omega (arith, empty)) has.others;
      numbers = numbers_still v.call.pages (λ common first. (none common first).3) has.numbers;
    }

    -- the host has no spare numbers
    spare_stays : (v : View) → HasSpare plan h.owners tree_state (suc seat) v.stock.spare v.pages.next v.call.pages → HasSpare plan new then (suc seat) v.stock.spare v.pages.next v.call.pages
    spare_stays v has = record {
      numbers = numbers_still v.stock.spare (λ common first. elim (cases_lt v.stock.spare.next v.stock.spare.stop) [
        | inl less ↦ let later = has.sessions less in absurd (omega (arith, later, first))
        | inr none ↦ omega (arith, none)
      ]) has.numbers;
      sessions = has.sessions;
      before = has.before;
      apart = has.apart;
    }

  -- where a seat owns a key, passes own the keys
  owned : (owner key : ℕ) → 1 ≤ owner → h.owners.key key ≡ owner → IsOwned plan
  owned owner key some_owner own = elim (dec_le 1 plan.places) [
    | yes common ↦ let zero_is : 0 ≡ owner = sym (h.nobodys common key) ∙ own in absurd (omega (arith, zero_is, some_owner))
    | no none ↦ omega (arith, none)
  ]

  share_still : (owner : ℕ) (share : Share) → 1 ≤ owner → owner ≢ suc id → IsShare plan h.owners h.log owner share → IsShare plan new log owner share
  share_still owner share some_owner apart has key among =
      let own = has key among in
      let t = leaves.keys (owned owner key some_owner own.own) key (λ e. apart (sym own.own ∙ e)) in
      record { own = t.0 ∙ own.own; kept = own.kept ∙ sym t.2; changes = t.1 ∙ own.changes }

  -- a key that nobody owned is nobody's
  still_free : (key : ℕ) → h.owners.key key ≡ 0 → h.owners.key key ≢ suc id → new.key key ≡ 0
  still_free key none not_own = elim (dec_le 1 plan.places) [
    | yes common ↦ leaves.nobodys common key
    | no passes ↦ (leaves.keys (omega (arith, passes)) key not_own).0 ∙ none
  ]

  role_still : (seat : ℕ) (v : View) (role : Role) → v.plan ≡ plan → IsInRole plan h.owners h.log seat v role → IsInRole plan new log seat v role
  role_still seat v (Keeper dealt back) same_plan is = (
    is.0,
    is.1,
    λ key untaken.
        let free = is.2 key untaken in
        let not_own : h.owners.key key ≢ suc id = λ e. let zero_is : 0 ≡ suc id = sym free.own ∙ e in absurd (omega (arith, zero_is)) in
        record {
          own = still_free key free.own not_own;
          saw_all = λ passes. free.saw_all passes ∙ sym (leaves.keys (sym (ap (λ (p : Plan). p.places) same_plan) ∙ passes) key not_own).1;
        },
    λ share came. share_still 1 share (omega arith) (λ e. omega (arith, e, some_pass)) (is.3 share came),
  )
  role_still seat v Pass same_plan is = (is.0, leaves.latch_numbers seat ∙ is.1)
  role_still seat v Spent same_plan is = is

  pub other_knows : (seat : ℕ) (v : View) → seat ≢ id → get_elem? s.views seat ≡ some v → Knows plan new words then log seat v
  other_knows seat v other at =
      let known = h.views seat v at in
      -- the first seat is the host's
      let none : IsCommon plan → seat ≡ 0 → HasNothing v =
      λ common first.
      let is : v ≡ h.counted.keeper = some-injective v h.counted.keeper (sym at ∙ (ap (get_elem? s.views) first ∙ h.counted.first)) in
      known.nothing common h.counted.dealt h.counted.back (ap (λ (y : View). y.role) is ∙ h.counted.role) in
      record {
        same_plan = known.same_plan;
        operation = leaves.machines seat other ∙ known.operation;
        bounded = λ m is. leaves.ways seat m other (known.operation ∙ is) ∙ known.bounded m is;
        reads = seat_reads_still v known.reads;
        appends = appends_stay plan h.owners new s.words words tree_state.holder then.holder seat v.reads v.behind v.appends
            (λ n holds least few is.
            let t = leaves.latched seat n other holds least few is in
            (t.0, t.1, t.2, leaves.latched_fixed seat n other holds least few is)) known.reads.0 known.appends;
        rows = rows_still seat other v.rows (λ common first. (none common first).0) known.rows;
        numbers = numbers_still seat other v.pages (λ common first. (none common first).1) known.numbers;
        for_call = call_stays seat other v none known.for_call;
        spare = spare_stays seat other v known.spare;
        share = share_still (suc seat) v.share (omega arith) (λ e. other (omega (arith, e))) known.share;
        saw = leaves.longer v.seen known.saw;
        heard = leaves.longer v.told known.heard;
        in_role = role_still seat v v.role known.same_plan known.in_role;
        placed = λ common role. let p = known.placed common role in record {
          in_range = p.in_range;
          own = leaves.places v.place ∙ p.own;
          word = leaves.place_words v.place p.in_range (λ e. let one : suc seat ≡ suc id = sym p.own ∙ e in other (omega (arith, one))) ∙ p.word;
          busy = p.busy;
        };
        nothing = known.nothing;
        places_left = λ dealt back role place from. let left = known.places_left dealt back role place from in (
          leaves.places place ∙ left.0,
          λ inside. leaves.place_words place inside (λ e. let zero_is : 0 ≡ suc id = sym left.0 ∙ e in absurd (omega (arith, zero_is))) ∙ left.1 inside,
        );
      }
