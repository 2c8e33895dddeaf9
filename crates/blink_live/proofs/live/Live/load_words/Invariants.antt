use Rattle.std.proofs.Common.{◌≡◌, ℕ, ◌<◌, ◌≤◌, Some, List, length, slice_index}
use Rattle.blink_rows.specs.declared.limits.TheConstants.{ROW_WORDS}
use Rattle.blink_live.specs.Words.{IsSameOutside, row_start}
use Rattle.blink_live.proofs.live.Live.load_words.Given as goal

abbrev pub invariant-loop-n : goal.invariant-loop-n
invariant-loop-n l = record {
  seat : (l.seat.table_id ≡ l.initial.seat.table_id) × (l.seat.id ≡ l.initial.seat.id) × (l.seat.me ≡ l.initial.seat.me);
  width : length l.words ≡ ROW_WORDS;
  loaded : (row : ℕ) (content : List ℕ) → l.start ≡ row_start l.self.counts row → l.initial.seat.me.0.reads ≡ Some (row, content) → (n : ℕ) → l.from ≤ n → n < l.n → n < length content → slice_index l.words n ≡ slice_index content n;
  others : IsSameOutside l.from l.n l.initial.words l.words;
}
