-- The views of seats: how they begin, and what each kind of step makes of them.
use Rattle.std.specs.Prelude.{Option, ◌≡◌, ◌⊎◌, ℕ, zero, suc, ◌+◌, ◌-◌, ◌≤◌, min, List, [], ◌∷◌, ◌++◌, length, slice_set, Some, None, ◌||◌, ◌==◌, Bool, false, filter, Contains}
use mathlib.Core.List.{IsPrefix}
use Rattle.atomic_table.specs.Table.{Me}
use Rattle.blink_batch.specs.declared.Entry.{Entry}
use Rattle.blink_batch.specs.declared.Op.{Op}
use Rattle.blink_batch.specs.declared.Op.TheVariants.{Find, Insert}
use Rattle.blink_batch.specs.{key_of, map_after, pointer_of}
use Rattle.blink_index.specs.{map_of}
use Rattle.blink_rows.specs.declared.limits.TheConstants.{MAX_ROWS_PER_INSERT}
use Rattle.blink_page.specs.declared.limits.TheConstants.{MAX_NEW_PAGES_PER_INSERT}
use Rattle.blink_rows.specs.declared.span.Span.{Span}
use Rattle.blink_rows.specs.{row_in}
use Rattle.blink_machine.specs.declared.machine.State.{State}
use Rattle.blink_machine.specs.declared.machine.State.TheVariants.{Change as ToChange}
use Rattle.blink_machine.specs.{PlainMachine, goes_on}
use Rattle.blink_live.specs.declared.view.Appending.{Appending}
use Rattle.blink_live.specs.declared.view.Aside.{Aside}
use Rattle.blink_live.specs.declared.view.Call.{Call}
use Rattle.blink_live.specs.declared.view.Change.{Change}
use Rattle.blink_live.specs.declared.view.Look.{Look}
use Rattle.blink_live.specs.declared.view.Opened.{Opened}
use Rattle.blink_live.specs.declared.view.Plan.{Plan}
use Rattle.blink_live.specs.declared.view.Role.{Role}
use Rattle.blink_live.specs.declared.view.Role.TheVariants.{Keeper, Pass, Spent}
use Rattle.blink_live.specs.declared.view.Share.{Share}
use Rattle.blink_live.specs.declared.view.Stock.{Stock}
use Rattle.blink_live.specs.declared.view.View.{View}
use Rattle.blink_live.specs.Changes.{after, entries_after, states_of, changes_made}

-- a seat's view, with the slots that it has taken; this table has no slots
abbrev pub SeatState : Type 0
SeatState = Me ℕ View

abbrev pub plan_of : Opened → Plan
plan_of opened = record { fan = opened.index.value.fan; counts = opened.counts; places = opened.places; opening = map_of opened.index.value }

abbrev pub span : ℕ → ℕ → Span
span next stop = record { next = next; stop = stop }

abbrev pub no_share : Share
no_share = record { keys = []; entries = []; changes = [] }

-- a row of which no word is known
abbrev pub no_words : List ℕ
no_words = []

-- the call of a seat that hasn't made a call
abbrev pub no_call : Call
no_call = record { rows = span 1 1; pages = span 1 1; staged = no_words }

-- nothing is set aside
abbrev pub no_aside : Aside
no_aside = record { rows = span 1 1; call = span 1 1 }

-- the stock of a seat that has taken out no row, and has no spare page number
abbrev pub no_stock : Stock
no_stock = record { free = []; retired = []; waiting = []; before = []; passed = 0; aside = no_aside; spare = span 1 1 }

-- nothing is noted for a snapshot
abbrev pub no_look : Look
no_look = record { leaves = []; marked = None }

-- a seat without an operation that has seen nothing
abbrev pub seat_for : Plan → Role → Span → Span → Share → View
seat_for plan role rows pages share = record {
  plan = plan;
  role = role;
  rows = rows;
  pages = pages;
  place = 0;
  busy = 0;
  stock = no_stock;
  call = no_call;
  share = share;
  taken = [];
  back = [];
  accounts = [];
  operation = None;
  descent_bound = 0;
  reads = None;
  behind = [];
  appends = None;
  seen = [];
  told = [];
  look = no_look;
}

-- the keeper's first rows or page numbers: none in a common table, where they are the pool's
abbrev pub first_span : ℕ → ℕ → ℕ → Span
first_span zero next stop = span next stop
first_span (suc places) next stop = span 1 1

-- the keeper of a table that was opened over this many pages
abbrev pub first_view : ℕ → Plan → View
first_view count plan = seat_for plan (Keeper 0 0) (first_span plan.places (count + 2) (plan.counts.rows + 1)) (first_span plan.places (count + 1) plan.counts.numbers) no_share

-- the plan of no table
abbrev pub no_plan : Plan
no_plan = record { fan = 0; counts = record { numbers = 0; rows = 0 }; places = 0; opening = [] }

-- a seat whose view another seat has taken
abbrev pub spent : Plan → View
spent plan = seat_for plan Spent (span 1 1) (span 1 1) no_share

-- in a table without places passes own the keys; in one with places any session changes any key
abbrev pub IsOwned : Plan → Type 0
IsOwned plan = plan.places ≡ 0

abbrev pub IsCommon : Plan → Type 0
IsCommon plan = 1 ≤ plan.places

-- the number that a seat puts into latch words: a pass that of its last row, and a session 1
abbrev pub latch_in : ℕ → ℕ → ℕ
latch_in zero stop = stop - 1
latch_in (suc places) stop = 1

abbrev pub latch_number_by : View → ℕ
latch_number_by v = latch_in v.plan.places v.rows.stop

-- the seat may change the key: its share has the key, or the table is common
abbrev pub MayChange : View → ℕ → Type 0
MayChange v key = Contains v.share.keys key ⊎ IsCommon v.plan

-- ---- what it has seen

-- the seat's knowledge of a key: the key's state after the changes that the seat has seen
abbrev pub known_of : View → ℕ → Option ℕ
known_of v key = after (pointer_of v.plan.opening) v.seen key

-- of its own keys the seat has seen exactly the changes of its share
abbrev pub SawItsOwn : View → Type 0
SawItsOwn v = (key : ℕ) → Contains v.share.keys key → states_of key v.seen ≡ states_of key v.share.changes

-- of the share's keys these changes show only the share's, from the first on
abbrev pub ShowsNoMore : List Change → Share → Type 0
ShowsNoMore seen share = (key : ℕ) → Contains share.keys key → IsPrefix (states_of key seen) (states_of key share.changes)

-- of its own keys the seat knows what its share says of them
pub record KnowsItsOwn (v : View) : Type 0 where
  pub state : (key : ℕ) → Contains v.share.keys key → known_of v key ≡ pointer_of v.share.entries key
  pub changes : SawItsOwn v

-- ---- reads

-- an operation in this state is to change the page whose word was loaded, and has added nothing to its row yet; or to change none
abbrev pub appending_at : ℕ → State → Option Appending
appending_at word (ToChange number changed kept) = Some (record { number = number; word = word; words = no_words })
appending_at word state = None

-- the prime block's page word was loaded, which names this row with these words: the operation is `after` now
abbrev pub reading : View → PlainMachine → ℕ → ℕ → List ℕ → List ℕ → List Change → View
reading v after way row words behind seen = record v { operation = goes_on after after.state; descent_bound = way; reads = Some (row, words); behind = behind; appends = None; seen = seen }

-- the page word of a page was loaded, which names a row with these words, and records behind them
abbrev pub reading_page : View → PlainMachine → ℕ → ℕ → List ℕ → List ℕ → List Change → View
reading_page v after way word words behind seen = record (reading v after way (row_in word) words behind seen) { appends = appending_at word after.state }

-- the number of the pass's rows that an operation takes when it begins, and of its page numbers
abbrev pub rows_of : Op → ℕ
rows_of (Find key) = 0
rows_of (Insert key pointer) = MAX_ROWS_PER_INSERT
rows_of op = 1

-- of a seat that has fewer it takes all
abbrev pub rows_taken : Op → Span → ℕ
rows_taken (Find key) rows = 0
rows_taken op rows = min (rows_of op) (rows.stop - rows.next)

abbrev pub pages_of : Op → ℕ
pages_of (Insert key pointer) = MAX_NEW_PAGES_PER_INSERT
pages_of op = 0

-- of a session: its mark says that it reads. At 0 it is idle, and at 1 it has an operation that rests
abbrev pub IsAnnounced : View → Type 0
IsAnnounced v = IsCommon v.plan → 2 ≤ v.busy

-- the seat has these rows and page numbers, and a session has announced that it begins
pub record CanBegin (v : View) (op : Op) : Type 0 where
  pub rows : v.rows.next + rows_taken op v.rows ≤ v.rows.stop
  pub pages : v.pages.next + pages_of op ≤ v.pages.stop
  pub announced : IsAnnounced v

-- the first of them go to the call that begins
abbrev pub for_call : View → Op → View
for_call v op = record v {
  rows = span (v.rows.next + rows_taken op v.rows) v.rows.stop;
  pages = span (v.pages.next + pages_of op) v.pages.stop;
  call = record { rows = span v.rows.next (v.rows.next + rows_taken op v.rows); pages = span v.pages.next (v.pages.next + pages_of op); staged = no_words };
}

-- w is v, except for its operation, and for what it reads and has seen
abbrev pub SameBesideReads : View → View → Type 0
SameBesideReads v w = w ≡ record v { operation = w.operation; descent_bound = w.descent_bound; reads = w.reads; behind = w.behind; appends = w.appends; seen = w.seen }

-- ---- steps that read nothing

-- the operation is `after` now
abbrev pub going_on : View → PlainMachine → ℕ → View
going_on v after way = record v { operation = goes_on after after.state; descent_bound = way; appends = None }

-- other page numbers are beside
abbrev pub with_spare : Span → Stock → Stock
with_spare spare stock = record stock { spare = spare }

-- the seat has these rows now, or these page numbers and those beside, and nothing for its last call
abbrev pub has_rows : View → Span → View
has_rows v rows = record v { rows = rows; call = no_call }

abbrev pub has_pages : View → Span → Span → View
has_pages v pages spare = record v { pages = pages; call = no_call; stock = with_spare spare v.stock }

-- the place's word is this now, and the seat reads no row and has noted none
abbrev pub is_busy : View → ℕ → View
is_busy v busy = record v { busy = busy; reads = None; appends = None; look = no_look }

-- these are the first words of the call's first row
abbrev pub is_staged : View → List ℕ → View
is_staged v words = record v { call = record { rows = v.call.rows; pages = v.call.pages; staged = words } }

-- one more of them was loaded
abbrev pub knows_word : View → ℕ → View
knows_word v word = is_staged v (v.call.staged ++ word ∷ [])

-- one of them was stored
abbrev pub stage_word : View → ℕ → ℕ → View
stage_word v place word = is_staged v (slice_set v.call.staged place word)

-- one more word was stored behind the fixed ones of the row of the page that the operation is to change
abbrev pub adds_one : View → Appending → ℕ → View
adds_one v a word = record v { appends = Some (record a { words = a.words ++ word ∷ [] }) }

-- a session's operation has made this change, or none
abbrev pub adds : List Change → Share → Share
adds made share = record { keys = share.keys; entries = share.entries; changes = share.changes ++ made }

-- the share is changed as the operation of this author changes a map
abbrev pub changed_by : ℕ → Op → Share → Share
changed_by author op share = record {
  keys = share.keys;
  entries = map_after share.entries op;
  changes = share.changes ++ changes_made author op (pointer_of share.entries (key_of op));
}

-- one more row is taken out
abbrev pub takes_out : ℕ → Stock → Stock
takes_out row stock = record stock { retired = row ∷ stock.retired }

-- the seat has published a row, its call may still use these rows and page numbers, and its operation is `after` now
abbrev pub publishes_from : View → PlainMachine → ℕ → Span → Span → Share → List Change → Stock → View
publishes_from v after way rows pages share seen stock = record v {
  call = record { rows = rows; pages = pages; staged = no_words };
  operation = goes_on after after.state;
  descent_bound = way;
  appends = None;
  share = share;
  seen = seen;
  stock = stock;
}

-- and the row was the first of the call's
abbrev pub publishes : View → PlainMachine → ℕ → Span → Share → List Change → Stock → View
publishes v after way pages share seen stock = publishes_from v after way (span (suc v.call.rows.next) v.call.rows.stop) pages share seen stock

-- ---- deals

-- the list contains the key
abbrev pub is_among : List ℕ → ℕ → Bool
is_among [] key = false
is_among (first ∷ rest) key = (first == key) || is_among rest key

-- the entries of these keys
abbrev pub entries_of : List ℕ → List Entry → List Entry
entries_of keys entries = filter (λ (e : Entry). is_among keys e.key) entries

-- the changes of these keys
abbrev pub changes_of : List ℕ → List Change → List Change
changes_of keys changes = filter (λ (change : Change). is_among keys change.key) changes

-- the share of these keys after these changes
abbrev pub share_of_keys : List ℕ → List Entry → List Change → Share
share_of_keys keys opening seen = record { keys = keys; entries = entries_of keys (entries_after opening seen); changes = changes_of keys seen }

-- the keeper has dealt one more pass, or has taken one back
abbrev pub deals_one : Role → Role
deals_one (Keeper dealt back) = Keeper (suc dealt) back
deals_one role = role

abbrev pub takes_one : Role → Role
takes_one (Keeper dealt back) = Keeper dealt (suc back)
takes_one role = role

-- the number of passes dealt, or of sessions, whose places are taken in this order
abbrev pub dealt_in : Role → ℕ
dealt_in (Keeper dealt back) = dealt
dealt_in role = 0

-- the number of passes that came back
abbrev pub back_in : Role → ℕ
back_in (Keeper dealt back) = back
back_in role = 0

-- the keeper without the first rows and page numbers; these keys are taken now
abbrev pub keeps_rest : View → ℕ → ℕ → List ℕ → View
keeps_rest v rows pages taken = record v {
  role = deals_one v.role;
  rows = span (v.rows.next + rows) v.rows.stop;
  pages = span (v.pages.next + pages) v.pages.stop;
  taken = taken;
}

-- a pass with these rows and page numbers, and with these keys; it has seen what the keeper has seen
abbrev pub gets_first : View → ℕ → ℕ → List ℕ → View
gets_first v rows pages keys =
    record (seat_for v.plan Pass (span v.rows.next (v.rows.next + rows)) (span v.pages.next (v.pages.next + pages)) (share_of_keys keys v.plan.opening v.seen)) { place = dealt_in v.role; seen = v.seen }

-- the keeper after a pass has come back while the table lives: these keys are still taken, and it has seen what the pass had seen
abbrev pub retires : View → List ℕ → View → View
retires v taken w = record v { role = takes_one v.role; taken = taken; seen = w.seen }

-- the keeper after a pass's share has come back, when the table closes
abbrev pub takes_back : View → View → View
takes_back v w = record v { role = takes_one v.role; back = w.share ∷ v.back }

-- the keeper after all these shares have come back
abbrev pub takes_more : Role → ℕ → Role
takes_more (Keeper dealt back) more = Keeper dealt (back + more)
takes_more role more = role

abbrev pub takes_all_back : View → List Share → View
takes_all_back v shares = record v { role = takes_more v.role (length shares); back = shares ++ v.back }

-- the keeper's seat has taken all these shares back
abbrev pub TakesAllBack : List Share → SeatState → SeatState → Type 0
TakesAllBack shares me then = then ≡ (takes_all_back me.0 shares, me.1)

-- ---- telling

-- the note of what a pass has seen: a seat for another pass to take, of no other use
abbrev pub note_of : View → View
note_of v = record (spent v.plan) { told = v.seen }

-- a pass that holds such a note
abbrev pub hears : View → View → View
hears v w = record v { told = w.told }

-- a host that has a session's account, and is told what the session has seen
abbrev pub takes_account : View → View → View
takes_account v w = record v { accounts = record { place = w.place; changes = w.share.changes } ∷ v.accounts; told = w.seen }

-- the seat has seen these changes now, and its note is used up
abbrev pub learns_of_others : View → List Change → View
learns_of_others v seen = record v { seen = seen; told = [] }

-- the seat has seen no more, and its note is used up
abbrev pub forgets_told : View → View
forgets_told v = record v { told = [] }
