-- Which worker holds which page's latch.
use Rattle.std.specs.Prelude.{◌≡◌, ◌≢◌, ◌≤◌, ◌<◌, ℕ, ◌==◌, Bool, false, suc, if◌then◌else◌, Option, Some, None, List, [], ◌∷◌, length, slice_get}
use Rattle.blink_store.specs.declared.latches.TheConstants.{WORKERS}

-- the worker holds the page's latch, in the list of the pages that the workers hold
abbrev pub Holds : List (Option ℕ) → ℕ → ℕ → Type 0
Holds held worker page = slice_get held worker ≡ Some (Some page)

-- one entry for each worker, and no page with two of them
pub record IsHeldByOne (held : List (Option ℕ)) : Type 0 where
  pub workers : length held ≡ WORKERS
  pub one_each : (first second page : ℕ) → Holds held first page → Holds held second page → first ≡ second

-- no worker from `reach` on holds a latch, and `reach` is at most the number of workers
pub record IsHeldBelow (held : List (Option ℕ)) (reach : ℕ) : Type 0 where
  pub inside : reach ≤ WORKERS
  pub below : (worker page : ℕ) → Holds held worker page → worker < reach

-- this page is what the worker holds
abbrev pub is_page : ℕ → Option ℕ → Bool
is_page page None = false
is_page page (Some held) = held == page

-- the worker that holds the page's latch, in a list that begins with the worker `first`
abbrev pub holder_from : ℕ → List (Option ℕ) → ℕ → Option ℕ
holder_from first [] page = None
holder_from first (held ∷ rest) page = if is_page page held then Some first else holder_from (suc first) rest page

-- the worker that holds the page's latch, if one does
abbrev pub holder_of : List (Option ℕ) → ℕ → Option ℕ
holder_of held page = holder_from 0 held page

-- the worker holds no latch
abbrev pub HoldsNone : List (Option ℕ) → ℕ → Type 0
HoldsNone held worker = (page : ℕ) → holder_of held page ≢ Some worker

-- the latch of exactly this page changed its holder
pub record ChangesHolder (old new : List (Option ℕ)) (page : ℕ) (holder : Option ℕ) : Type 0 where
  pub changed : holder_of new page ≡ holder
  pub others : (other : ℕ) → other ≢ page → holder_of new other ≡ holder_of old other
