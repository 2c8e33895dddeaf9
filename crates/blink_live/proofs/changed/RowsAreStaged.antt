-- A row is staged word by word: once a word has been loaded, and stored if it differs, the call knows one word more.
use Rattle.std.proofs.Common.{◌≡◌, ℕ, zero, suc, ◌+◌, ◌<◌, ◌≤◌, List, [], ◌∷◌, ◌++◌, length, get_or, set, take, refl, sym, ap, ◌∙◌, arith}
use Rattle.std.proofs.lemmas.List.{get_or-take, length-take-le}
use Rattle.atomic_table.specs.Seated.{TableId}
use Rattle.blink_rows.specs.{IsRowOf}
use Rattle.blink_rows.specs.declared.limits.TheConstants.{ROW_WORDS}
use Rattle.blink_machine.specs.{PlainMachine, done}
use Rattle.blink_live.specs.declared.live.Live.{Live}
use Rattle.blink_live.specs.declared.view.Change.{Change}
use Rattle.blink_live.specs.declared.view.Share.{Share}
use Rattle.blink_live.specs.declared.view.View.{View}
use Rattle.blink_live.specs.AtomicSteps.{Decided, PublishesPage, deciding, other}
use Rattle.blink_live.specs.Seats.{IsPassSeat}
use Rattle.blink_live.specs.Views.{SeatState, knows_word, stage_word, is_staged}
use Rattle.blink_live.specs.Words.{BeginWith}

-- the first n of these words
abbrev pub first_words : List ℕ → ℕ → List ℕ
first_words [] n = []
first_words (word ∷ rest) zero = []
first_words (word ∷ rest) (suc n) = word ∷ first_words rest n

pub no_first : (words : List ℕ) → first_words words 0 ≡ []
no_first [] = refl
no_first (word ∷ rest) = refl

pub first_length : (words : List ℕ) (n : ℕ) → n < length words → n ≡ length (first_words words n)
first_length [] n inside = absurd (omega (arith, inside))
first_length (word ∷ rest) zero inside = refl
first_length (word ∷ rest) (suc n) inside = ap suc (first_length rest n (omega (arith, inside)))

one_more : (words : List ℕ) (n : ℕ) → n < length words → first_words words n ++ get_or words n 0 ∷ [] ≡ first_words words (suc n)
one_more [] n inside = absurd (omega (arith, inside))
one_more (word ∷ rest) zero inside = ap (λ (ws : List ℕ). word ∷ ws) (sym (no_first rest))
one_more (word ∷ rest) (suc n) inside = ap (λ (ws : List ℕ). word ∷ ws) (one_more rest n (omega (arith, inside)))

set_last : (words : List ℕ) (n x word : ℕ) → n < length words → set (first_words words n ++ x ∷ []) n word ≡ first_words words n ++ word ∷ []
set_last [] n x word inside = absurd (omega (arith, inside))
set_last (first ∷ rest) zero x word inside = refl
set_last (first ∷ rest) (suc n) x word inside = ap (λ (ws : List ℕ). first ∷ ws) (set_last rest n x word (omega (arith, inside)))

pub all_words : (words : List ℕ) → first_words words (length words) ≡ words
all_words [] = refl
all_words (word ∷ rest) = ap (λ (ws : List ℕ). word ∷ ws) (all_words rest)

-- the seat, where its call knows these words
abbrev pub seat_staged : SeatState → List ℕ → SeatState
seat_staged me words = (is_staged me.0 words, me.1)

-- a seat whose call knows none
pub nothing_staged : (me : SeatState) (words : List ℕ) → me.0.call.staged ≡ [] → me ≡ seat_staged me (first_words words 0)
nothing_staged me words blank = ap (seat_staged me) (blank ∙ sym (no_first words))

-- a word is loaded
abbrev pub with_word : SeatState → ℕ → SeatState
with_word me word = (knows_word me.0 word, me.1)

-- it is right
pub one_more_known : (me now then : SeatState) (words : List ℕ) (n : ℕ) → n < length words → now ≡ seat_staged me (first_words words n) → then ≡ with_word now (get_or words n 0) → then ≡ seat_staged me (first_words words (n + 1))
one_more_known me now then words n inside before is =
    let next : suc n ≡ n + 1 = omega arith in
    is
    ∙ ap (λ (x : SeatState). with_word x (get_or words n 0)) before
    ∙ ap (seat_staged me) (one_more words n inside ∙ ap (first_words words) next)

-- or another is stored in its place
pub one_more_staged : (me now loaded then : SeatState) (words : List ℕ) (n found : ℕ) → n < length words → now ≡ seat_staged me (first_words words n) → loaded ≡ with_word now found → then ≡ (stage_word loaded.0 n (get_or words n 0), loaded.1)
    → then ≡ seat_staged me (first_words words (n + 1))
one_more_staged me now loaded then words n found inside before load is =
    let next : suc n ≡ n + 1 = omega arith in
    is
    ∙ ap (λ (x : SeatState). let y : SeatState = (stage_word x.0 n (get_or words n 0), x.1) in y) (load ∙ ap (λ (x : SeatState). with_word x found) before)
    ∙ ap (seat_staged me) (set_last words n found (get_or words n 0) inside ∙ one_more words n inside ∙ ap (first_words words) next)

-- it is a pass's as before
pub still_pass : (live : Live) (table : TableId) (me : SeatState) (words : List ℕ) → IsPassSeat live table me → IsPassSeat live table (seat_staged me words)
still_pass live table me words seat = record { same_table = seat.same_table; same_plan = seat.same_plan; role = seat.role }

-- the first words of a row are those of what it holds
pub words_of_row : (row content : List ℕ) (count : ℕ) → IsRowOf row content → count ≡ length content → count ≤ ROW_WORDS → BeginWith (take count row) content
words_of_row row content count is ends fits =
    let long = length-take-le count row (omega (arith, is.width, fits)) in record {
      all = omega (arith, long, ends);
      filled = λ i few. get_or-take count row i 0 (omega (arith, few, ends)) ∙ is.filled i (omega (arith, few, ends, fits));
    }

-- ---- the row is published

decided_before : (m after : PlainMachine) (v : View) (words : List ℕ) (share : Share) (seen : List Change) → Decided m after (is_staged v words) share seen → Decided m after v share seen
decided_before m after v stored share seen (deciding none_yet answers) = Decided.deciding none_yet (record {
  before = answers.before;
  saw = answers.saw;
  answers = answers.answers;
  goes_on = answers.goes_on;
  keys = answers.keys;
  changes = answers.changes;
  own = answers.own;
})
decided_before m after v stored share seen (other same same_share) = Decided.other same same_share

-- what the call had stored is of no matter then
pub published_staged : (number out : ℕ) (m : PlainMachine) (me then : SeatState) (words : List ℕ) → PublishesPage number out m (is_staged me.0 words, me.1) then → PublishesPage number out m me then
published_staged number out m me then words does = record {
  way = does.way;
  share = does.share;
  seen = does.seen;
  is = does.is;
  learns = record { saw = does.learns.saw; heard = does.learns.heard };
  decided = decided_before m (done m 0) me.0 words does.share does.seen does.decided;
  next = does.next;
  uses = does.uses;
  answers_at_end = does.answers_at_end;
  knows_own = does.knows_own;
  ends_with_own = let ends = does.ends_with_own in record { before = ends.before; made = ends.made; learns = record { saw = ends.learns.saw; heard = ends.learns.heard }; own = ends.own; last = ends.last };
}
