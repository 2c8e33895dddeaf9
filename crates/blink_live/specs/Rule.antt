-- The rule of the table: between any two atomic steps the words and the views of the seats together represent a tree state for
-- which the invariant holds.
use Rattle.std.specs.Prelude.{◌≡◌, ℕ, suc, ◌+◌, ◌*◌, ◌<◌, ◌≤◌, Option, Some, None, List, [], ◌∷◌, ◌++◌, length, All, Contains, slice_index, ⊤}
use mathlib.Core.Option.{some}
use mathlib.Core.List.{IsPrefix}
use lib.ListN.{get_elem?}
use Rattle.atomic_table.specs.Table.{State}
use Rattle.blink_batch.specs.declared.Entry.{Entry}
use Rattle.blink_batch.specs.{pointer_of}
use Rattle.blink_page.specs.{IsPageNumber, PlainPage}
use Rattle.blink_rows.specs.{AreBounded, PlainCounts, page_words, prime_words, row_in}
use Rattle.blink_rows.specs.declared.span.Span.{Span}
use Rattle.blink_machine.specs.{PlainMachine, descent_bound, IsMapAt}
use Rattle.blink_machine.specs.TreeState.{TreeState}
use Rattle.blink_machine.specs.Invariant.{Invariant}
use Rattle.blink_live.specs.declared.view.Appending.{Appending}
use Rattle.blink_live.specs.declared.view.Call.{Call}
use Rattle.blink_live.specs.declared.view.Change.{Change}
use Rattle.blink_live.specs.declared.view.Plan.{Plan}
use Rattle.blink_live.specs.declared.view.Role.{Role}
use Rattle.blink_live.specs.declared.view.Role.TheVariants.{Keeper, Pass, Spent}
use Rattle.blink_live.specs.declared.view.Share.{Share}
use Rattle.blink_live.specs.declared.view.View.{View}
use Rattle.blink_live.specs.Changes.{after, states_of}
use Rattle.blink_live.specs.Accounts.{AreAccounts}
use Rattle.blink_live.specs.Looks.{HasLooked}
use Rattle.blink_live.specs.Reuse.{IsReuseSafe, IsWithin}
use Rattle.blink_live.specs.Views.{IsCommon, IsOwned, latch_number_by, span}
use Rattle.blink_live.specs.Words.{word_count, place_word, pool_page, pool_row, IsRowNumber, RowBegins, IsVersion, named_row}

-- ---- owners: 0 for nobody, and else a seat's number plus 1

pub record Owners : Type 0 where
  -- of rows that aren't published
  pub row : ℕ → ℕ
  -- of page numbers that no page has
  pub page : ℕ → ℕ
  -- of keys: nobody owns those that can be dealt, and the keeper owns those whose pass came back when the table closes
  pub key : ℕ → ℕ
  -- the number that a seat puts into a latch word
  pub latch_number : ℕ → ℕ
  -- of the places of sessions
  pub place : ℕ → ℕ
  -- of published rows: the number of words to which nobody stores any more, and the page whose word named the row last
  pub fixed : ℕ → ℕ
  pub named_by : ℕ → ℕ

-- the row is published: nobody stores to its fixed words any more
abbrev pub IsPublished : Plan → Owners → ℕ → Type 0
IsPublished plan owners row = IsRowNumber plan.counts row × (owners.row row ≡ 0)

-- ---- page words and latch words

-- the word names a row: the row is published, and begins with these words, which are just those that are fixed
pub record Names (plan : Plan) (owners : Owners) (words : List ℕ) (word : ℕ) (content : List ℕ) : Type 0 where
  pub published : IsPublished plan owners (row_in word)
  pub begins : RowBegins plan.counts words (row_in word) content
  pub fixed : owners.fixed (row_in word) ≡ length content

-- the word names a row with the page: the row begins with a base, and behind it stand the records that make the page of it
pub record NamesPage (plan : Plan) (owners : Owners) (words : List ℕ) (word : ℕ) (page : PlainPage) : Type 0 where
  pub base : PlainPage
  pub behind : List ℕ
  pub published : IsPublished plan owners (row_in word)
  pub begins : RowBegins plan.counts words (row_in word) (page_words base ++ behind)
  pub fixed : owners.fixed (row_in word) ≡ length (page_words base ++ behind)
  pub version : IsVersion word base behind page

-- the page word is 0 if the page doesn't exist; else it names a row with the page
abbrev pub PageWordIs : Plan → Owners → List ℕ → ℕ → Option PlainPage → Type 0
PageWordIs plan owners words word None = word ≡ 0
PageWordIs plan owners words word (Some page) = NamesPage plan owners words word page

-- a row is named by the word of one page
abbrev pub AreNamedBy : PlainCounts → (ℕ → ℕ) → List ℕ → Type 0
AreNamedBy counts named_by words = (number : ℕ) → number < counts.numbers → 1 ≤ named_row words number → named_by (named_row words number) ≡ number

-- 0, or the latch number of the seat that holds the latch
abbrev pub latch_word : Owners → Option ℕ → ℕ
latch_word owners None = 0
latch_word owners (Some seat) = owners.latch_number seat

-- ---- what a seat knows

-- the row that the seat reads is published, and begins with these words; behind them stand those of the records. All are fixed
abbrev pub ReadsRow : Plan → Owners → List ℕ → Option (ℕ × List ℕ) → List ℕ → Type 0
ReadsRow plan owners words None behind = ⊤
ReadsRow plan owners words (Some (row, content)) behind = IsPublished plan owners row × RowBegins plan.counts words row (content ++ behind) × (length (content ++ behind) ≤ owners.fixed row)

-- the seat has held this page's latch since it loaded the page's word, which names the row that it reads. The words that it has
-- stored there since stand behind the fixed ones
pub record Appends (counts : PlainCounts) (fixed : ℕ → ℕ) (holder : ℕ → Option ℕ) (words : List ℕ) (seat : ℕ) (reads : Option (ℕ × List ℕ)) (behind : List ℕ) (a : Appending) : Type 0 where
  pub content : List ℕ
  pub in_range : (1 ≤ a.number) × (a.number < counts.numbers)
  pub latched : holder a.number ≡ Some seat
  pub named : slice_index words a.number ≡ a.word
  pub row : reads ≡ Some (row_in a.word, content)
  pub all_fixed : fixed (row_in a.word) ≡ length (content ++ behind)
  pub begins : RowBegins counts words (row_in a.word) ((content ++ behind) ++ a.words)

abbrev pub IsAppending : PlainCounts → (ℕ → ℕ) → (ℕ → Option ℕ) → List ℕ → ℕ → Option (ℕ × List ℕ) → List ℕ → Option Appending → Type 0
IsAppending counts fixed holder words seat reads behind None = ⊤
IsAppending counts fixed holder words seat reads behind (Some a) = Appends counts fixed holder words seat reads behind a

-- and so are the rows that it has noted
abbrev pub Reads : Plan → Owners → List ℕ → TreeState → View → Type 0
Reads plan owners words tree_state v = ReadsRow plan owners words v.reads v.behind × HasLooked plan owners.row words tree_state.fan tree_state.prime tree_state.pages v.look

-- these rows have this owner
pub record HasRows (plan : Plan) (owners : Owners) (owner : ℕ) (rows : Span) : Type 0 where
  pub in_range : (1 ≤ rows.next) × (rows.stop ≤ plan.counts.rows + 1)
  pub own : (row : ℕ) → rows.next ≤ row → row < rows.stop → owners.row row ≡ owner

-- these page numbers have this owner, and no page has them
pub record HasNumbers (plan : Plan) (owners : Owners) (tree_state : TreeState) (owner : ℕ) (pages : Span) : Type 0 where
  pub in_range : (1 ≤ pages.next) × (pages.stop ≤ plan.counts.numbers)
  pub own : (number : ℕ) → pages.next ≤ number → number < pages.stop → owners.page number ≡ owner
  pub free : (number : ℕ) → pages.next ≤ number → number < pages.stop → tree_state.pages number ≡ None

-- the call's rows and page numbers stand before those that its pass may still use; of the first row the call knows the first words
pub record HasForCall (plan : Plan) (owners : Owners) (words : List ℕ) (tree_state : TreeState) (owner : ℕ) (call : Call) (row page : ℕ) : Type 0 where
  pub before : (call.rows.stop ≤ row) × (call.pages.stop ≤ page)
  pub first_own : call.rows.next < call.rows.stop → (1 ≤ call.rows.next) × (owners.row call.rows.next ≡ owner)
  pub staged : call.rows.next < call.rows.stop → RowBegins plan.counts words call.rows.next call.staged
  pub others : HasRows plan owners owner (span (suc call.rows.next) call.rows.stop)
  pub numbers : HasNumbers plan owners tree_state owner call.pages

-- the spare page numbers have this owner, which isn't the host's; no page has them, they stand before those that the pass may still
-- use, and none is its call's
pub record HasSpare (plan : Plan) (owners : Owners) (tree_state : TreeState) (owner : ℕ) (spare : Span) (page : ℕ) (call : Span) : Type 0 where
  pub numbers : HasNumbers plan owners tree_state owner spare
  pub sessions : spare.next < spare.stop → 2 ≤ owner
  pub before : spare.next < spare.stop → spare.stop ≤ page
  pub apart : (number : ℕ) → IsWithin spare number → ¬ IsWithin call number

-- the share's statement of one of its keys: the key has this owner and the share's state, and its changes are the share's
pub record IsOwnKey (plan : Plan) (owners : Owners) (log : List Change) (owner : ℕ) (share : Share) (key : ℕ) : Type 0 where
  pub own : owners.key key ≡ owner
  pub kept : pointer_of share.entries key ≡ after (pointer_of plan.opening) log key
  pub changes : states_of key log ≡ states_of key share.changes

-- a share with this owner: what it says is true of each of its keys
abbrev pub IsShare : Plan → Owners → List Change → ℕ → Share → Type 0
IsShare plan owners log owner share = (key : ℕ) → Contains share.keys key → IsOwnKey plan owners log owner share key

-- nobody owns the key, and where passes own keys, the keeper has seen all its changes
pub record IsFree (owners : Owners) (log : List Change) (v : View) (key : ℕ) : Type 0 where
  pub own : owners.key key ≡ 0
  pub saw_all : IsOwned v.plan → states_of key v.seen ≡ states_of key log

-- a seat by its role: the keeper's seat is the first, the keys that it hasn't dealt to a pass that is out are free, and the shares
-- that it took back when the table closes are its own; only a pass has an operation
abbrev pub IsInRole : Plan → Owners → List Change → ℕ → View → Role → Type 0
IsInRole plan owners log seat v (Keeper dealt back) =
    (seat ≡ 0) × (v.operation ≡ None) × ((key : ℕ) → ¬ Contains v.taken key → IsFree owners log v key)
    × ((share : Share) → Contains v.back share → IsShare plan owners log 1 share)
IsInRole plan owners log seat v Pass = (1 ≤ seat) × (owners.latch_number seat ≡ latch_number_by v)
IsInRole plan owners log seat v Spent = v.operation ≡ None

-- in a common table a pass's seat is a session's, and has a place: the word of the place is as the session knows it, and isn't 0
-- while an operation is under way
pub record HasPlace (plan : Plan) (owners : Owners) (words : List ℕ) (seat : ℕ) (v : View) : Type 0 where
  pub in_range : v.place < plan.places
  pub own : owners.place v.place ≡ suc seat
  pub word : slice_index words (place_word plan.counts v.place) ≡ v.busy
  pub busy : (m : PlainMachine) → v.operation ≡ Some m → 1 ≤ v.busy

-- the seat has no rows and no page numbers
abbrev pub HasNothing : View → Type 0
HasNothing v = (v.rows.stop ≤ v.rows.next) × (v.pages.stop ≤ v.pages.next) × (v.call.rows.stop ≤ v.call.rows.next) × (v.call.pages.stop ≤ v.call.pages.next)

-- the rows and the page numbers from those on that the pool's words say are the pool's: they have the host's owner, and the host
-- has none of its own
pub record HasPool (plan : Plan) (owners : Owners) (words : List ℕ) (tree_state : TreeState) : Type 0 where
  pub rows : HasRows plan owners (suc 0) (span (slice_index words (pool_row plan.counts)) (plan.counts.rows + 1))
  pub pages : HasNumbers plan owners tree_state (suc 0) (span (slice_index words (pool_page plan.counts)) plan.counts.numbers)

-- nobody has the places from `first` on, and their words are 0
abbrev pub ArePlacesLeft : Plan → Owners → List ℕ → ℕ → Type 0
ArePlacesLeft plan owners words first = (place : ℕ) → first ≤ place → (owners.place place ≡ 0) × (place < plan.places → slice_index words (place_word plan.counts place) ≡ 0)

-- the descent bound of the seat's operation
abbrev pub IsBoundedWay : TreeState → View → Type 0
IsBoundedWay tree_state v = (m : PlainMachine) → v.operation ≡ Some m → descent_bound tree_state.pages m ≡ v.descent_bound

-- the view of the seat is true of the words, the tree state and the changes
pub record Knows (plan : Plan) (owners : Owners) (words : List ℕ) (tree_state : TreeState) (log : List Change) (seat : ℕ) (v : View) : Type 0 where
  pub same_plan : v.plan ≡ plan
  pub operation : tree_state.machines seat ≡ v.operation
  pub bounded : IsBoundedWay tree_state v
  pub reads : Reads plan owners words tree_state v
  pub appends : IsAppending plan.counts owners.fixed tree_state.holder words seat v.reads v.behind v.appends
  pub rows : HasRows plan owners (suc seat) v.rows
  pub numbers : HasNumbers plan owners tree_state (suc seat) v.pages
  pub for_call : HasForCall plan owners words tree_state (suc seat) v.call v.rows.next v.pages.next
  pub spare : HasSpare plan owners tree_state (suc seat) v.stock.spare v.pages.next v.call.pages
  pub share : IsShare plan owners log (suc seat) v.share
  pub saw : IsPrefix v.seen log
  pub heard : IsPrefix v.told log
  pub in_role : IsInRole plan owners log seat v v.role
  pub placed : IsCommon plan → v.role ≡ Pass → HasPlace plan owners words seat v
  pub nothing : IsCommon plan → (dealt back : ℕ) → v.role ≡ Keeper dealt back → HasNothing v
  pub places_left : (dealt back : ℕ) → v.role ≡ Keeper dealt back → ArePlacesLeft plan owners words dealt

-- ---- the number of passes out

abbrev pub pass_count : Role → ℕ
pass_count Pass = 1
pass_count role = 0

abbrev pub passes_in : List View → ℕ
passes_in [] = 0
passes_in (v ∷ rest) = pass_count v.role + passes_in rest

-- the first seat is the keeper's, and where passes own keys, its count of passes is right
pub record AreCounted (views : List View) : Type 0 where
  pub keeper : View
  pub dealt : ℕ
  pub back : ℕ
  pub first : get_elem? views 0 ≡ some keeper
  pub role : keeper.role ≡ Keeper dealt back
  pub counted : IsOwned keeper.plan → passes_in views + back ≡ dealt

-- ---- the whole

pub record IsTableAt (plan : Plan) (s : State ℕ View) (tree_state : TreeState) : Type 0 where
  pub owners : Owners
  pub log : List Change
  pub now : List Entry
  -- the tree state
  pub same_fan : tree_state.fan ≡ plan.fan
  pub invariant : Invariant tree_state
  pub prime_numbers : All IsPageNumber tree_state.prime
  -- the words
  pub bounded : AreBounded plan.counts
  pub width : length s.words ≡ word_count plan.counts + 8 * plan.places
  pub prime : Names plan owners s.words (slice_index s.words 0) (prime_words tree_state.prime)
  pub pages : (number : ℕ) → 1 ≤ number → number < plan.counts.numbers → PageWordIs plan owners s.words (slice_index s.words number) (tree_state.pages number)
  pub named_by : AreNamedBy plan.counts owners.named_by s.words
  pub no_other_page : (number : ℕ) → plan.counts.numbers ≤ number → tree_state.pages number ≡ None
  pub latches : (number : ℕ) → number < plan.counts.numbers → slice_index s.words (plan.counts.numbers + number) ≡ latch_word owners (tree_state.holder number)
  pub no_other_latch : (number : ℕ) → plan.counts.numbers ≤ number → tree_state.holder number ≡ None
  pub holders : (number seat : ℕ) → tree_state.holder number ≡ Some seat → 1 ≤ owners.latch_number seat
  -- the entries: the opening ones after the changes
  pub is_map : IsMapAt tree_state now
  pub kept : (key : ℕ) → pointer_of now key ≡ after (pointer_of plan.opening) log key
  -- nobody owns a key of a common table
  pub nobodys : IsCommon plan → (key : ℕ) → owners.key key ≡ 0
  -- and it has a pool
  pub pool : IsCommon plan → HasPool plan owners s.words tree_state
  -- and each change is in the account of a place
  pub accounted : IsCommon plan → AreAccounts plan owners.place log s.views
  -- and a row that a session has taken out is read by nobody who begins later
  pub reuse : IsCommon plan → IsReuseSafe plan owners.row s.words s.views
  -- the seats
  pub views : (seat : ℕ) (v : View) → get_elem? s.views seat ≡ some v → Knows plan owners s.words tree_state log seat v
  pub others_idle : (seat : ℕ) → length s.views ≤ seat → tree_state.machines seat ≡ None
  pub counted : AreCounted s.views

abbrev pub IsTable : Plan → State ℕ View → Type 0
IsTable plan s = (tree_state : TreeState) × IsTableAt plan s tree_state
