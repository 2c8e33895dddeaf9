-- The bounds of the operations of a history and of a run: page numbers, writes, and levels.
use Rattle.std.specs.Prelude.{ℕ, ◌+◌, ◌*◌, ◌<◌, ◌≤◌, List, length}
use Rattle.blink_page.specs.declared.limits.TheConstants.{LEVELS}
use Rattle.blink_store.specs.{PlainStore}
use Rattle.blink_page.specs.declared.limits.TheConstants.{MAX_NEW_PAGES_PER_INSERT, MAX_PAGE_WRITES_PER_INSERT}
use Rattle.blink_steps.specs.Counts.{begun_inserts, numbers_in, page_writes_in, prime_writes_in}
use Rattle.blink_steps.specs.Run.{PlainRun, Event}

-- no operation takes more page numbers than this, or writes more pages, or writes the prime block more often
pub record IsBounded (start : PlainStore) (history : List Event) (run : PlainRun) : Type 0 where
  pub numbers : (place : ℕ) → numbers_in history place ≤ MAX_NEW_PAGES_PER_INSERT
  pub page_writes : (place : ℕ) → page_writes_in history place ≤ MAX_PAGE_WRITES_PER_INSERT
  pub prime_writes : (place : ℕ) → prime_writes_in history place ≤ 1
  pub pages : length run.shared.store.pages ≤ length start.pages + MAX_NEW_PAGES_PER_INSERT * begun_inserts run.ops run.outcome.moves
  pub levels : length run.shared.store.prime < LEVELS
