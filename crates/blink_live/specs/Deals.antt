-- What a deal gives, and the refusals of a deal.
use Rattle.std.specs.Prelude.{◌≡◌, ◌⊎◌, ◌↔◌, ℕ, ◌+◌, ◌*◌, ◌<◌, Some, List, take, slice_get, Contains, IsPermutation}
use mathlib.Core.List.{IsPrefix}
use Rattle.blink_batch.specs.{pointer_of}
use Rattle.blink_rows.specs.declared.limits.TheConstants.{MAX_ROWS_PER_INSERT}
use Rattle.blink_page.specs.declared.limits.TheConstants.{MAX_NEW_PAGES_PER_INSERT}
use Rattle.blink_live.specs.declared.error.LiveError.{LiveError}
use Rattle.blink_live.specs.declared.error.LiveError.TheVariants.{Taken, NoAllowance, DealOutOfMemory}
use Rattle.blink_live.specs.declared.live.Keeper.{Keeper}
use Rattle.blink_live.specs.declared.live.Live.{Live}
use Rattle.blink_live.specs.declared.live.Pass.{Pass}
use Rattle.blink_live.specs.Allowed.{inserts_left, deletes_left}
use Rattle.blink_live.specs.Changes.{states_of}
use Rattle.blink_live.specs.Handles.{IsPassOf, keys_of, share_of, seen_of, changes_by, own_changes_of, IsKeeperOf, taken_of, seen_by, known_entries, passes_dealt, passes_out}
use Rattle.blink_live.specs.Views.{span, entries_of, changes_of}

-- ---- keys that are taken

-- the key at this place of the list is taken, or stands earlier in the list
pub record IsTakenAt (taken keys : List ℕ) (place key : ℕ) : Type 0 where
  pub at : slice_get keys place ≡ Some key
  pub again : Contains taken key ⊎ Contains (take place keys) key

-- this key is the first taken key of the list
pub record IsFirstTaken (taken keys : List ℕ) (key : ℕ) : Type 0 where
  pub place : ℕ
  pub is_taken : IsTakenAt taken keys place key
  pub none_before : (earlier other : ℕ) → earlier < place → ¬ IsTakenAt taken keys earlier other

abbrev pub NoneIsTaken : List ℕ → List ℕ → Type 0
NoneIsTaken taken keys = (place key : ℕ) → ¬ IsTakenAt taken keys place key

-- ---- allowances

-- the greatest number of passes that a keeper deals
abbrev pub MAX_PASSES : ℕ
MAX_PASSES = 4294967295

-- the keeper has fewer insertions or deletions left, or has dealt as many passes as it may
abbrev pub LacksAllowance : Keeper → ℕ → ℕ → Type 0
LacksAllowance keeper inserts deletes = (inserts_left keeper.pages < inserts) ⊎ (deletes_left keeper.pages keeper.rows < deletes) ⊎ (keeper.dealt ≡ MAX_PASSES)

abbrev pub rows_for : ℕ → ℕ → ℕ
rows_for inserts deletes = MAX_ROWS_PER_INSERT * inserts + deletes

-- ---- what is dealt

-- the pass has these keys with their entries as the keeper knows them, and the keeper's first rows and page numbers. It has seen
-- what the keeper has seen, and the changes of its keys among these are counted as its own
pub record IsDealt (live : Live) (old : Keeper) (keys : List ℕ) (inserts deletes : ℕ) (pass : Pass) : Type 0 where
  pub its_own : IsPassOf live pass
  pub same_keys : IsPermutation keys (keys_of pass)
  pub share : share_of pass ≡ entries_of keys (known_entries live old)
  pub saw : seen_of pass ≡ seen_by old
  pub changes : changes_by pass ≡ changes_of keys (seen_by old)
  pub rows : pass.rows ≡ span old.rows.next (old.rows.next + rows_for inserts deletes)
  pub pages : pass.pages ≡ span old.pages.next (old.pages.next + MAX_NEW_PAGES_PER_INSERT * inserts)

-- the keeper has the rest
pub record HasDealt (live : Live) (old new : Keeper) (keys : List ℕ) (inserts deletes : ℕ) : Type 0 where
  pub its_own : IsKeeperOf live new
  pub taken : (key : ℕ) → Contains (taken_of new) key ↔ (Contains (taken_of old) key ⊎ Contains keys key)
  pub one_more : new.dealt ≡ old.dealt + 1
  pub one_more_out : passes_out new ≡ passes_out old + 1
  pub same_seen : seen_by new ≡ seen_by old
  pub rows : new.rows ≡ span (old.rows.next + rows_for inserts deletes) old.rows.stop
  pub pages : new.pages ≡ span (old.pages.next + MAX_NEW_PAGES_PER_INSERT * inserts) old.pages.stop

-- ---- what comes back

-- the pass is back, and its keys are free. Of them the keeper knows what the pass's share says, and the changes that are counted as
-- the pass's; of the other free keys it knows what it knew
pub record HasRetired (live : Live) (old : Keeper) (pass : Pass) (new : Keeper) : Type 0 where
  pub its_own : IsKeeperOf live new
  pub taken : (key : ℕ) → Contains (taken_of new) key ↔ (Contains (taken_of old) key × ¬ Contains (keys_of pass) key)
  pub saw : IsPrefix (seen_by old) (seen_by new) × IsPrefix (seen_of pass) (seen_by new)
  pub state : (key : ℕ) → Contains (keys_of pass) key → pointer_of (known_entries live new) key ≡ pointer_of (share_of pass) key
  pub changes : (key : ℕ) → Contains (keys_of pass) key → states_of key (seen_by new) ≡ own_changes_of pass key
  pub others : (key : ℕ) → ¬ Contains (taken_of old) key → pointer_of (known_entries live new) key ≡ pointer_of (known_entries live old) key
  pub no_other_change : (key : ℕ) → ¬ Contains (taken_of old) key → states_of key (seen_by new) ≡ states_of key (seen_by old)
  pub same_dealt : passes_dealt new ≡ passes_dealt old
  pub one_less_out : passes_out new + 1 ≡ passes_out old
  pub same_rows : new.rows ≡ old.rows
  pub same_pages : new.pages ≡ old.pages

-- the refusals of a deal
pub data IsDealRefusal (refusal : LiveError) : Type 0 where
  taken : (key : ℕ) → refusal ≡ Taken key → IsDealRefusal refusal
  no_allowance : refusal ≡ NoAllowance → IsDealRefusal refusal
  no_memory : refusal ≡ DealOutOfMemory → IsDealRefusal refusal
