-- The size of a table as plain data.
use Rattle.std.specs.Prelude.{ℕ, ◌+◌, ◌*◌, ◌^◌, ◌≤◌}
use Rattle.blink_page.specs.declared.limits.TheConstants.{MAX_PAGE}

-- the number of page numbers, with number 0, and the number of rows
pub record PlainCounts : Type 0 where
  pub numbers : ℕ
  pub rows : ℕ

-- a bound of every table: an insertion takes twice as many rows as numbers, and a deletion one row
pub record AreBounded (counts : PlainCounts) : Type 0 where
  pub numbers_bounded : counts.numbers ≤ MAX_PAGE + 1
  pub rows_bounded : counts.rows ≤ 2 * (MAX_PAGE + 1) + 2 ^ 32
