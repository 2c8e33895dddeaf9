-- A snapshot: a seat notes the page words of leaves, marks a tree state, and loads these page words once more.
use Rattle.std.specs.Prelude.{◌≡◌, ◌≢◌, ℕ, ◌+◌, ◌<◌, ◌≤◌, Some, None, List, ◌∷◌, All, Contains}
use mathlib.Core.List.{IsPrefix}
use Rattle.std.specs.List.{AllByRecursion}
use Rattle.atomic_table.specs.Table.{Step}
use Rattle.blink_batch.specs.declared.Entry.{Entry}
use Rattle.blink_batch.specs.{IsAscending, pointer_of}
use Rattle.blink_page.specs.{PlainPage, IsLawfulPage}
use Rattle.blink_page.specs.declared.limits.TheConstants.{MAX_FAN}
use Rattle.blink_rows.specs.{PlainCounts, page_words, row_in}
use Rattle.blink_live.specs.declared.snapshot.NotedLeaf.{NotedLeaf}
use Rattle.blink_live.specs.declared.view.Change.{Change}
use Rattle.blink_live.specs.declared.view.Look.{Look}
use Rattle.blink_live.specs.declared.view.View.{View}
use Rattle.blink_live.specs.Changes.{after}
use Rattle.blink_live.specs.Looks.{TellsAll}
use Rattle.blink_live.specs.Scanning.{IsBetween}
use Rattle.blink_live.specs.Views.{KnowsItsOwn, SeatState}
use Rattle.blink_live.specs.Words.{IsRowNumber, IsVersion}

-- these entries are those of one list of changes: of every key from `lo` to `hi` they say what these changes leave
pub record IsSnapshot (opening : List Entry) (changes : List Change) (lo hi : ℕ) (entries : List Entry) : Type 0 where
  pub exact : (key : ℕ) → lo ≤ key → key ≤ hi → pointer_of entries key ≡ after (pointer_of opening) changes key
  pub ascending : IsAscending entries
  pub between : AllByRecursion (IsBetween lo (hi + 1)) entries

-- ---- the load of the page word of a leaf to which an operation has come

-- the seat has noted the page word; it hasn't marked a tree state since
abbrev pub notes : View → ℕ → ℕ → View
notes v number word = record v { look = record { leaves = (number, word) ∷ v.look.leaves; marked = None } }

abbrev pub notes_leaf : Step ℕ → SeatState → ℕ → SeatState → Type 0
notes_leaf st me found then = then ≡ (notes me.0 st.word found, me.1)

-- ---- the load of the prime block's page word that marks a tree state

-- the seat has seen these changes, and they are those of the tree state that it has marked
abbrev pub marks : View → List Change → View
marks v seen = record v { seen = seen; look = record { leaves = v.look.leaves; marked = Some seen } }

pub record MarksState (me then : SeatState) : Type 0 where
  pub seen : List Change
  pub is : then ≡ (marks me.0 seen, me.1)
  pub saw : IsPrefix me.0.seen seen
  pub knows_own : KnowsItsOwn then.0

abbrev pub marks_state : Step ℕ → SeatState → ℕ → SeatState → Type 0
marks_state st me found then = MarksState me then

-- ---- the second load of a page word

abbrev pub reads_again : View → ℕ → List ℕ → List ℕ → View
reads_again v row words behind = record v { reads = Some (row, words); behind = behind; appends = None }

-- the seat reads the page. If it has noted this page word, the page tells of each of its keys what the changes of the marked tree
-- state leave
pub record ReadsAgain (number : ℕ) (me : SeatState) (word : ℕ) (then : SeatState) : Type 0 where
  pub page : PlainPage
  pub base : PlainPage
  pub behind : List ℕ
  pub is : then ≡ (reads_again me.0 (row_in word) (page_words base) behind, me.1)
  pub version : IsVersion word base behind page
  pub row_in_range : IsRowNumber me.0.plan.counts (row_in word)
  pub lawful : Contains me.0.look.leaves (number, word) → IsLawfulPage MAX_FAN page
  pub tells : (changes : List Change) → me.0.look.marked ≡ Some changes → Contains me.0.look.leaves (number, word) → TellsAll (after (pointer_of me.0.plan.opening) changes) page

pub record LooksAgain (number : ℕ) (me : SeatState) (found : ℕ) (then : SeatState) : Type 0 where
  pub some : found ≢ 0 → ReadsAgain number me found then
  pub none : found ≡ 0 → then ≡ me

abbrev pub looks_again : Step ℕ → SeatState → ℕ → SeatState → Type 0
looks_again st = LooksAgain st.word

-- ---- a seat that takes a snapshot

-- the leaf's number is one of a page, and the seat has noted its page word if that isn't 0
pub record IsNotedIn (counts : PlainCounts) (look : Look) (leaf : NotedLeaf) : Type 0 where
  pub in_range : (1 ≤ leaf.number) × (leaf.number < counts.numbers)
  pub noted : leaf.word ≢ 0 → Contains look.leaves (leaf.number, leaf.word)

abbrev pub AreNotedIn : PlainCounts → Look → List NotedLeaf → Type 0
AreNotedIn counts look leaves = All (IsNotedIn counts look) leaves

-- what was noted is noted still
abbrev pub NotesMore : Look → Look → Type 0
NotesMore old new = (number word : ℕ) → Contains old.leaves (number, word) → Contains new.leaves (number, word)

-- the seat knows what it knew, except for what it has noted
abbrev pub IsSameBesideLook : SeatState → SeatState → Type 0
IsSameBesideLook old new = new ≡ (record old.0 { look = new.0.look }, old.1)

-- the seat knows what it knew, except for the row that it reads
abbrev pub IsSameBesideRow : SeatState → SeatState → Type 0
IsSameBesideRow old new = new ≡ (record old.0 { reads = new.0.reads; behind = new.0.behind; appends = new.0.appends }, old.1)
