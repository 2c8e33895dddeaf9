-- What becomes of two passes between which keys change hands, and the refusals of that.
use Rattle.std.specs.Prelude.{◌≡◌, ◌⊎◌, ◌↔◌, ℕ, ◌<◌, Some, List, take, slice_get, Contains}
use mathlib.Core.List.{IsPrefix}
use Rattle.blink_batch.specs.{pointer_of}
use Rattle.blink_live.specs.declared.error.HandError.{HandError}
use Rattle.blink_live.specs.declared.error.HandError.TheVariants.{NotYours, OutOfMemory}
use Rattle.blink_live.specs.declared.live.Live.{Live}
use Rattle.blink_live.specs.declared.live.Pass.{Pass}
use Rattle.blink_live.specs.Handles.{IsPassOf, KnowsItsKeys, SawAllOf, SawPrefixOf, keys_of, share_of, seen_of, changes_by, own_changes_of}
use Rattle.blink_live.specs.Views.{changes_of, entries_of}

-- ---- keys that a pass can't hand over

-- the key at this place of the list isn't among the pass's own, or stands earlier in the list
pub record IsForeignAt (own keys : List ℕ) (place key : ℕ) : Type 0 where
  pub at : slice_get keys place ≡ Some key
  pub foreign : (¬ Contains own key) ⊎ Contains (take place keys) key

-- this key is the first such key of the list
pub record IsFirstForeign (own keys : List ℕ) (key : ℕ) : Type 0 where
  pub place : ℕ
  pub is_foreign : IsForeignAt own keys place key
  pub none_before : (earlier other : ℕ) → earlier < place → ¬ IsForeignAt own keys earlier other

abbrev pub AllAreYours : List ℕ → List ℕ → Type 0
AllAreYours own keys = (place key : ℕ) → ¬ IsForeignAt own keys place key

-- ---- what becomes of the passes

-- the pass has lost these keys, and the rest of its share is as it was. It has seen all changes of its keys, and no other
pub record HasGiven (live : Live) (keys : List ℕ) (old new : Pass) : Type 0 where
  pub its_own : IsPassOf live new
  pub its_keys : (key : ℕ) → Contains (keys_of new) key ↔ (Contains (keys_of old) key × ¬ Contains keys key)
  pub share : share_of new ≡ entries_of (keys_of new) (share_of old)
  pub changes : changes_by new ≡ changes_of (keys_of new) (changes_by old)
  pub same_seen : seen_of new ≡ seen_of old
  pub knows : KnowsItsKeys live new
  pub same_rows : new.rows ≡ old.rows
  pub same_pages : new.pages ≡ old.pages

-- the pass has these keys too. Of them its share says what the share of the pass said that had them, and the changes that were
-- counted as that pass's are counted as its own. Of its other keys its share says what it said. It has seen all that both had
-- seen
pub record HasReceived (live : Live) (from : Pass) (keys : List ℕ) (old new : Pass) : Type 0 where
  pub its_own : IsPassOf live new
  pub its_keys : (key : ℕ) → Contains (keys_of new) key ↔ (Contains (keys_of old) key ⊎ Contains keys key)
  pub state : (key : ℕ) → Contains keys key → pointer_of (share_of new) key ≡ pointer_of (share_of from) key
  pub changes : (key : ℕ) → Contains keys key → own_changes_of new key ≡ own_changes_of from key
  pub others : (key : ℕ) → ¬ Contains keys key → pointer_of (share_of new) key ≡ pointer_of (share_of old) key
  pub no_other_change : (key : ℕ) → ¬ Contains keys key → own_changes_of new key ≡ own_changes_of old key
  pub saw : IsPrefix (seen_of old) (seen_of new) × IsPrefix (seen_of from) (seen_of new)
  pub knows : KnowsItsKeys live new
  pub same_rows : new.rows ≡ old.rows
  pub same_pages : new.pages ≡ old.pages

-- these keys have changed hands. Of the keys that the first pass has left, the second has seen exactly the first one's changes; of
-- the second one's keys the first has seen the second one's changes from the first on, and no other
pub record IsHanded (live : Live) (old_from old_to : Pass) (keys : List ℕ) (new_from new_to : Pass) : Type 0 where
  pub given : HasGiven live keys old_from new_from
  pub received : HasReceived live old_from keys old_to new_to
  pub saw_all : SawAllOf new_from new_to
  pub saw_prefix : SawPrefixOf new_to new_from

-- the refusals
pub data IsHandRefusal (own keys : List ℕ) (refusal : HandError) : Type 0 where
  not_yours : (key : ℕ) → refusal ≡ NotYours key → IsFirstForeign own keys key → IsHandRefusal own keys refusal
  no_memory : refusal ≡ OutOfMemory → AllAreYours own keys → IsHandRefusal own keys refusal
