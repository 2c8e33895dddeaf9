-- The knowledge that each kind of atomic step gives whoever takes it.
use Rattle.std.specs.Prelude.{◌≡◌, ◌≢◌, ◌⊎◌, ℕ, suc, ◌+◌, ◌++◌, ◌<◌, ◌≤◌, Option, Some, None, IsSome, List, [], length, All, Contains, slice_index}
use mathlib.Core.List.{IsPrefix}
use Rattle.atomic_table.specs.Table.{Step}
use Rattle.blink_batch.specs.declared.Op.{Op}
use Rattle.blink_batch.specs.declared.Answer.{Answer}
use Rattle.blink_batch.specs.{answer_at, key_of, pointer_of}
use Rattle.blink_page.specs.{IsPageNumber, PlainPage, IsLawfulPage, least_above}
use Rattle.blink_page.specs.declared.limits.TheConstants.{LEVELS, MAX_FAN}
use Rattle.blink_rows.specs.{page_words, prime_words, row_in}
use Rattle.blink_rows.specs.declared.limits.TheConstants.{ROW_WORDS}
use Rattle.blink_rows.specs.declared.span.Span.{Span}
use Rattle.blink_machine.specs.declared.machine.State.TheVariants.{Going, Ended}
use Rattle.blink_machine.specs.declared.step.Kind.{Kind}
use Rattle.blink_machine.specs.declared.step.Step.TheVariants.{Moved}
use Rattle.blink_machine.specs.{HasEnough, UsesUp, numbers_left, writes_left, primes_left, read_page, latch, unlatch, write_page, write_prime, IsReadable, PlainMachine, NeedsPrime, NeedsPage, NeedsLatch, NeedsNew, NeedsWrite, NeedsPrimeWrite, NeedsUnlatch, fresh, SeesPrime, WaitsForLevel, SeesPage, done, target}
use Rattle.blink_live.specs.declared.view.Appending.{Appending}
use Rattle.blink_live.specs.declared.view.Change.{Change}
use Rattle.blink_live.specs.declared.view.Plan.{Plan}
use Rattle.blink_live.specs.declared.view.Role.TheVariants.{Keeper}
use Rattle.blink_live.specs.declared.view.Share.{Share}
use Rattle.blink_live.specs.declared.view.Stock.{Stock}
use Rattle.blink_live.specs.declared.view.View.{View}
use Rattle.blink_live.specs.Changes.{after, changes_made, states_of, Learns}
use Rattle.blink_live.specs.Accounts.{KnowsAuthors}
use Rattle.blink_live.specs.Looks.{TellsAll}
use Rattle.blink_live.specs.Views.{SeatState, IsAnnounced, KnowsItsOwn, ShowsNoMore, adds_one, for_call, going_on, has_pages, has_rows, is_busy, knows_word, stage_word, changed_by, publishes_from, reading, reading_page, forgets_told, learns_of_others, span, takes_out, SawItsOwn}
use Rattle.blink_live.specs.Words.{AreNumbersIn, AreRowsIn, IsRowNumber, row_start, IsVersion}

-- the page of this number has a page word
abbrev pub IsNumberIn : Plan → ℕ → Type 0
IsNumberIn plan number = (1 ≤ number) × (number < plan.counts.numbers)

-- whatever the operation needs next exists: a page's words, and enough of the rows and page numbers
pub record CanGoOn (plan : Plan) (m : PlainMachine) : Type 0 where
  pub reads : (number : ℕ) → NeedsPage m number → IsNumberIn plan number
  pub latches : (number : ℕ) → NeedsLatch m number → IsNumberIn plan number
  pub writes : (number : ℕ) → NeedsWrite m number → IsNumberIn plan number
  pub unlatches : (number : ℕ) → NeedsUnlatch m number → number < plan.counts.numbers
  pub enough : HasEnough m

-- ---- the load of the prime block's page word, which begins an operation

-- the operation is `machine` now, and its call has the rows and page numbers that it takes
pub record Begins (op : Op) (me : SeatState) (row : ℕ) (machine : PlainMachine) (then : SeatState) : Type 0 where
  pub prime : List ℕ
  pub way : ℕ
  pub seen : List Change
  pub is : then ≡ (reading (for_call me.0 op) machine way row (prime_words prime) [] seen, me.1)
  pub learns : Learns me.0 seen
  pub row_in_range : IsRowNumber me.0.plan.counts row
  pub some_level : 0 < length prime
  pub few_levels : length prime < LEVELS
  pub page_numbers : All IsPageNumber prime
  pub sees : SeesPrime (fresh me.0.plan.fan op) prime machine
  pub only : (other : PlainMachine) → SeesPrime (fresh me.0.plan.fan op) prime other → other ≡ machine
  pub rows_in_range : AreRowsIn me.0.plan.counts me.0.rows
  pub knows_own : KnowsItsOwn then.0
  pub announced : IsAnnounced then.0
  pub pages_in_range : AreNumbersIn me.0.plan.counts me.0.pages
  pub next : CanGoOn me.0.plan machine

abbrev pub begins : Op → Step ℕ → SeatState → ℕ → SeatState → Type 0
begins op st me word then = (machine : PlainMachine) × Begins op me (row_in word) machine then

-- ---- the load of a page word

-- the step gives the operation no new answer, or the answer by its key's state after all changes so far
abbrev pub AnswersAfter : (ℕ → Option ℕ) → PlainMachine → PlainMachine → Type 0
AnswersAfter kept m machine = (machine.answer ≡ m.answer) ⊎ ((m.answer ≡ None) × (machine.answer ≡ Some (answer_at m.op (kept (key_of m.op)))))

-- the operation's key is above the leaf's floor, and of each of its keys the leaf has the state after all changes so far
abbrev pub TellsStates : (ℕ → Option ℕ) → PlainMachine → PlainPage → Type 0
TellsStates kept m leaf = (least_above leaf.floor ≤ target m) × TellsAll kept leaf

-- the operation is `machine` now. The row has the page as a base with records behind it
pub record LoadsPage (m : PlainMachine) (number : ℕ) (me : SeatState) (word : ℕ) (machine : PlainMachine) (then : SeatState) : Type 0 where
  pub page : PlainPage
  pub base : PlainPage
  pub behind : List ℕ
  pub way : ℕ
  pub seen : List Change
  pub is : then ≡ (reading_page me.0 machine way word (page_words base) behind seen, me.1)
  pub version : IsVersion word base behind page
  pub learns : Learns me.0 seen
  pub row_in_range : IsRowNumber me.0.plan.counts (row_in word)
  pub lawful : IsLawfulPage MAX_FAN page
  pub readable : IsReadable m page
  pub sees : SeesPage m number page machine
  pub only : (other : PlainMachine) → SeesPage m number page other → other ≡ machine
  pub next : CanGoOn me.0.plan machine
  pub uses : UsesUp m (Moved (read_page number)) machine
  pub answers_at_end : machine.state ≡ Ended → IsSome machine.answer
  pub nearer : (level : ℕ) → m.state ≡ Going number level → way < me.0.descent_bound
  pub answers : AnswersAfter (after (pointer_of me.0.plan.opening) seen) m machine
  pub tells : m.state ≡ Going number 0 → TellsStates (after (pointer_of me.0.plan.opening) seen) m page
  pub knows_own : KnowsItsOwn then.0

abbrev pub loads_page : Step ℕ → SeatState → ℕ → SeatState → Type 0
loads_page st me word then = (m : PlainMachine) → me.0.operation ≡ Some m → NeedsPage m st.word → (machine : PlainMachine) × LoadsPage m st.word me word machine then

-- ---- the load of the prime block's page word by an operation under way

-- the operation reads the prime block: exactly one machine comes of that, or it waits for a level that isn't there yet, and
-- stays as it is
pub data AsksPrime (m : PlainMachine) (prime : List ℕ) (machine : PlainMachine) : Type 0 where
  moves : SeesPrime m prime machine → ((other : PlainMachine) → SeesPrime m prime other → other ≡ machine) → ¬ WaitsForLevel m prime → AsksPrime m prime machine
  waits : WaitsForLevel m prime → ((other : PlainMachine) → ¬ SeesPrime m prime other) → machine ≡ m → AsksPrime m prime machine

-- the operation may need no more afterwards than before
pub record NeedsNoMore (m machine : PlainMachine) : Type 0 where
  pub same_op : machine.op ≡ m.op
  pub numbers : numbers_left machine ≤ numbers_left m
  pub page_writes : writes_left machine ≤ writes_left m
  pub prime_writes : primes_left machine ≤ primes_left m

-- the operation is `machine` now
pub record LoadsPrime (m : PlainMachine) (me : SeatState) (row : ℕ) (machine : PlainMachine) (then : SeatState) : Type 0 where
  pub prime : List ℕ
  pub way : ℕ
  pub seen : List Change
  pub is : then ≡ (reading me.0 machine way row (prime_words prime) [] seen, me.1)
  pub learns : Learns me.0 seen
  pub row_in_range : IsRowNumber me.0.plan.counts row
  pub some_level : 0 < length prime
  pub few_levels : length prime < LEVELS
  pub page_numbers : All IsPageNumber prime
  pub knows_own : KnowsItsOwn then.0
  pub asks : AsksPrime m prime machine
  pub next : CanGoOn me.0.plan machine
  pub uses : NeedsNoMore m machine

abbrev pub loads_prime : Step ℕ → SeatState → ℕ → SeatState → Type 0
loads_prime st me word then = (m : PlainMachine) → me.0.operation ≡ Some m → NeedsPrime m → (machine : PlainMachine) × LoadsPrime m me (row_in word) machine then

-- ---- the load of the prime block's page word by a pass that holds a note

-- the seat has seen more now, and the note's changes are among them
pub record LooksUp (me then : SeatState) : Type 0 where
  pub seen : List Change
  pub is : then ≡ (learns_of_others me.0 seen, me.1)
  pub learns : Learns me.0 seen
  pub knows_own : KnowsItsOwn then.0

abbrev pub looks_up : Step ℕ → SeatState → ℕ → SeatState → Type 0
looks_up st me row then = LooksUp me then

-- or the seat has seen no more, and of its own keys the note shows only changes that its own operations made; where it has seen
-- these, it knows what its share says
pub record LooksBack (me then : SeatState) : Type 0 where
  pub is : then ≡ (forgets_told me.0, me.1)
  pub no_more : ShowsNoMore me.0.told me.0.share
  pub knows_own : SawItsOwn me.0 → KnowsItsOwn then.0

abbrev pub looks_back : Step ℕ → SeatState → ℕ → SeatState → Type 0
looks_back st me row then = LooksBack me then

-- the same of the keeper: of the keys that it can deal the note shows no more than it has seen; and no more passes are back than
-- were dealt
pub record LooksAround (me then : SeatState) : Type 0 where
  pub is : then ≡ (forgets_told me.0, me.1)
  pub no_more : (key : ℕ) → ¬ Contains me.0.taken key → IsPrefix (states_of key me.0.told) (states_of key me.0.seen)
  pub counted : (dealt back : ℕ) → me.0.role ≡ Keeper dealt back → back ≤ dealt

abbrev pub looks_around : Step ℕ → SeatState → ℕ → SeatState → Type 0
looks_around st me row then = LooksAround me then

-- ---- the load of a row's word

pub record LoadsWord (word : ℕ) (me : SeatState) (found : ℕ) (then : SeatState) : Type 0 where
  pub same : then ≡ me
  pub is_its : (row i : ℕ) (content : List ℕ) → me.0.reads ≡ Some (row, content) → i < ROW_WORDS → i < length content → word ≡ row_start me.0.plan.counts row + i → found ≡ slice_index content i
  pub is_behind : (row i : ℕ) (content : List ℕ) → me.0.reads ≡ Some (row, content) → length content + i < ROW_WORDS → i < length me.0.behind → word ≡ row_start me.0.plan.counts row + (length content + i) → found ≡ slice_index me.0.behind i

abbrev pub loads_word : Step ℕ → SeatState → ℕ → SeatState → Type 0
loads_word st = LoadsWord st.word

-- ---- a latch word, where 0 becomes the seat's own number

-- the operation has taken a step of this kind
pub record GoesOn (kind : Kind) (m : PlainMachine) (me then : SeatState) : Type 0 where
  pub way : ℕ
  pub is : then ≡ (going_on me.0 (done m 0) way, me.1)
  pub next : CanGoOn me.0.plan (done m 0)
  pub uses : UsesUp m (Moved kind) (done m 0)
  pub answers_at_end : (done m 0).state ≡ Ended → IsSome (done m 0).answer

-- if 0 was found, the seat has the latch, and its operation goes on; otherwise nothing changes
pub record TriesLatch (number : ℕ) (m : PlainMachine) (me : SeatState) (found : ℕ) (then : SeatState) : Type 0 where
  pub got : found ≡ 0 → GoesOn (latch number) m me then
  pub lost : found ≢ 0 → then ≡ me

abbrev pub tries_latch : Step ℕ → SeatState → ℕ → SeatState → Type 0
tries_latch st me found then = (m : PlainMachine) (number : ℕ) → me.0.operation ≡ Some m → NeedsLatch m number → st.word ≡ me.0.plan.counts.numbers + number → TriesLatch number m me found then

-- ---- 0 in the latch word of a page that the seat has latched

abbrev pub lets_go : Step ℕ → SeatState → ℕ → SeatState → Type 0
lets_go st me found then = (m : PlainMachine) (number : ℕ) → me.0.operation ≡ Some m → NeedsUnlatch m number → st.word ≡ me.0.plan.counts.numbers + number → GoesOn (unlatch number) m me then

-- ---- the word of a session's place

-- the session knows by it whose the changes are that it has seen
pub record MarksPlace (busy : ℕ) (me then : SeatState) : Type 0 where
  pub is : then ≡ (is_busy me.0 busy, me.1)
  pub authors : KnowsAuthors me.0

abbrev pub marks_place : Step ℕ → SeatState → ℕ → SeatState → Type 0
marks_place st me found then = MarksPlace st.first me then

-- ---- a word of the pool, where a number of it becomes a greater one: the seat has the rows, or page numbers, between; the page
-- ---- numbers that it had stand beside

pub record Draws (drawn : View) (old : ℕ) (me : SeatState) (found : ℕ) (then : SeatState) : Type 0 where
  pub got : found ≡ old → then ≡ (drawn, me.1)
  pub lost : found ≢ old → then ≡ me

abbrev pub draws_rows : Step ℕ → SeatState → ℕ → SeatState → Type 0
draws_rows st me found then = Draws (has_rows me.0 (span st.first st.second)) st.first me found then

abbrev pub draws_pages : Step ℕ → SeatState → ℕ → SeatState → Type 0
draws_pages st me found then = Draws (has_pages me.0 (span st.first st.second) me.0.pages) st.first me found then

-- ---- a word of the first row that the seat's call may use

-- the load of the first of its words that the call doesn't know
abbrev pub knows_more : Step ℕ → SeatState → ℕ → SeatState → Type 0
knows_more st me found then = then ≡ (knows_word me.0 found, me.1)

-- and the store of a word

abbrev pub stores_word : Step ℕ → SeatState → ℕ → SeatState → Type 0
stores_word st me found then = (place : ℕ) → place < ROW_WORDS → st.word ≡ row_start me.0.plan.counts me.0.call.rows.next + place → then ≡ (stage_word me.0 place st.first, me.1)

-- ---- a word behind the fixed ones of the row of a page that the operation is to change

abbrev pub adds_word : Step ℕ → SeatState → ℕ → SeatState → Type 0
adds_word st me found then = (a : Appending) → me.0.appends ≡ Some a → then ≡ (adds_one me.0 a st.first, me.1)

-- ---- a page word, which names the first row that the seat's call may use

-- a key's state after these changes
abbrev pub state_after : View → List Change → ℕ → Option ℕ
state_after v changes key = after (pointer_of v.plan.opening) changes key

-- an operation of this seat has this answer, by what some changes leave of its key. They go on from all that the seat had seen.
-- The operation's own change follows them at once, and the seat has seen both now. If the key is one of the seat's own, its share
-- says what they leave, and changes as the operation changes a map
pub record AnswersInOrder (op : Op) (v : View) (answer : Option Answer) (share : Share) (seen : List Change) : Type 0 where
  pub before : List Change
  pub saw : IsPrefix v.seen before
  pub answers : answer ≡ Some (answer_at op (state_after v before (key_of op)))
  pub goes_on : IsPrefix (before ++ changes_made v.place op (state_after v before (key_of op))) seen
  pub keys : share.keys ≡ v.share.keys
  pub changes : share.changes ≡ v.share.changes ++ changes_made v.place op (state_after v before (key_of op))
  pub own : Contains v.share.keys (key_of op) → (state_after v before (key_of op) ≡ pointer_of v.share.entries (key_of op)) × (share ≡ changed_by v.place op v.share)

-- the step decides the operation; or the operation was decided before, and the share stays
pub data Decided (m after : PlainMachine) (v : View) (share : Share) (seen : List Change) : Type 0 where
  deciding : m.answer ≡ None → AnswersInOrder m.op v after.answer share seen → Decided m after v share seen
  other : after.answer ≡ m.answer → share ≡ v.share → Decided m after v share seen

-- the seat has seen all changes so far, and then the change that the step makes of the share, if it makes one
pub record EndsWithOwn (v : View) (share : Share) (seen : List Change) : Type 0 where
  pub before : List Change
  pub made : List Change
  pub learns : Learns v before
  pub own : share.changes ≡ v.share.changes ++ made
  pub last : seen ≡ before ++ made

-- a step of this kind publishes a row: the operation is `after` now, the call may still use these rows and page numbers, and this is
-- the seat's stock
pub record PublishesFrom (kind : Kind) (rows pages : Span) (stock : Stock) (m after : PlainMachine) (me then : SeatState) : Type 0 where
  pub way : ℕ
  pub share : Share
  pub seen : List Change
  pub is : then ≡ (publishes_from me.0 after way rows pages share seen stock, me.1)
  pub learns : Learns me.0 seen
  pub decided : Decided m after me.0 share seen
  pub next : CanGoOn me.0.plan after
  pub uses : UsesUp m (Moved kind) after
  pub answers_at_end : after.state ≡ Ended → IsSome after.answer
  pub knows_own : KnowsItsOwn then.0
  pub ends_with_own : EndsWithOwn me.0 share seen

-- and the row was the first of the call's
abbrev pub Publishes : Kind → Span → Stock → PlainMachine → PlainMachine → SeatState → SeatState → Type 0
Publishes kind pages stock m after me then = PublishesFrom kind (span (suc me.0.call.rows.next) me.0.call.rows.stop) pages stock m after me then

-- in the place of a page, whose row is taken out
abbrev pub PublishesPage : ℕ → ℕ → PlainMachine → SeatState → SeatState → Type 0
PublishesPage number out m me then = Publishes (write_page number) me.0.call.pages (takes_out out me.0.stock) m (done m 0) me then

abbrev pub publishes_page : Step ℕ → SeatState → ℕ → SeatState → Type 0
publishes_page st me found then = (m : PlainMachine) → me.0.operation ≡ Some m → NeedsWrite m st.word → PublishesPage st.word (row_in found) m me then

-- which names its row still, and counts one record more of it
abbrev pub AppendsRecord : ℕ → PlainMachine → SeatState → SeatState → Type 0
AppendsRecord number m me then = PublishesFrom (write_page number) me.0.call.rows me.0.call.pages me.0.stock m (done m 0) me then

abbrev pub appends_record : Step ℕ → SeatState → ℕ → SeatState → Type 0
appends_record st me found then = (m : PlainMachine) → me.0.operation ≡ Some m → NeedsWrite m st.word → AppendsRecord st.word m me then

-- as a new page, with the first page number that the call may use
abbrev pub PublishesNew : PlainMachine → SeatState → SeatState → Type 0
PublishesNew m me then = Publishes (write_page me.0.call.pages.next) (span (suc me.0.call.pages.next) me.0.call.pages.stop) me.0.stock m (done m me.0.call.pages.next) me then

abbrev pub publishes_new : Step ℕ → SeatState → ℕ → SeatState → Type 0
publishes_new st me found then = (m : PlainMachine) → me.0.operation ≡ Some m → NeedsNew m → PublishesNew m me then

-- as the prime block, whose row is taken out
abbrev pub PublishesPrime : ℕ → PlainMachine → SeatState → SeatState → Type 0
PublishesPrime out m me then = Publishes write_prime me.0.call.pages (takes_out out me.0.stock) m (done m 0) me then

abbrev pub publishes_prime : Step ℕ → SeatState → ℕ → SeatState → Type 0
publishes_prime st me found then = (m : PlainMachine) → me.0.operation ≡ Some m → NeedsPrimeWrite m → PublishesPrime (row_in found) m me then
