use Rattle.std.proofs.Common.{◌≡◌, ◌+◌, ◌<◌, ◌≤◌, ℕ, get_or, length}
use Rattle.blink_rows.specs.declared.limits.TheConstants.{ROW_WORDS}
use Rattle.std.specs.Mem.Slots.{slots_items}
use Rattle.blink_live.proofs.close.row_words.Given as goal

-- so many words were read, and the others are 0
abbrev pub invariant-loop-i : goal.invariant-loop-i
invariant-loop-i l = record {
  width : length l.words ≡ ROW_WORDS;
  read : (k : ℕ) → k < l.i → get_or l.words k 0 ≡ get_or (slots_items l.closed.words) (l.start + k) 0;
  rest : (k : ℕ) → l.i ≤ k → get_or l.words k 0 ≡ 0;
}
