use Rattle.std.proofs.Common.{◌≡◌, ℕ, ◌<◌, ◌≤◌, length}
use Rattle.std.specs.Prelude.{slice_index}
use Rattle.blink_rows.specs.declared.limits.TheConstants.{ROW_WORDS}
use Rattle.blink_rows.proofs.logged.base_row.Given as goal

-- the words up to here are copied, and all others are 0
abbrev pub invariant-loop-n : goal.invariant-loop-n
invariant-loop-n l = record {
  width : length l.row ≡ ROW_WORDS;
  copied : (n : ℕ) → n < l.n → slice_index l.row n ≡ slice_index l.words n;
  rest : (n : ℕ) → l.n ≤ n → slice_index l.row n ≡ 0;
}
