-- The entries of a closed table: each key of a pass as its share maps it, and each other key as the keeper knows it.
use Rattle.std.proofs.Common.{◌≡◌, ℕ, Some, List, ◌∙◌}
use Rattle.std.specs.Prelude.{Contains, slice_get}
use Rattle.blink_batch.specs.declared.Entry.{Entry}
use Rattle.blink_batch.specs.{entry, pointer_of}
use Rattle.blink_index.proofs.Offered.{entry-from_pointer}
use Rattle.blink_live.specs.declared.live.Keeper.{Keeper}
use Rattle.blink_live.specs.declared.live.Live.{Live}
use Rattle.blink_live.specs.declared.live.Pass.{Pass}
use Rattle.blink_live.specs.Handles.{keys_of, known_entries, share_of, taken_of}
use Rattle.blink_live.specs.Merge.{IsMerge}

pub entry-of_share : (live : Live) (keeper : Keeper) (passes : List Pass) (entries : List Entry) → IsMerge live keeper passes entries
    → (place key pointer : ℕ) (pass : Pass) → slice_get passes place ≡ Some pass → Contains (keys_of pass) key → pointer_of (share_of pass) key ≡ Some pointer → Contains entries (entry key pointer)
entry-of_share live keeper passes entries merge place key pointer pass at mine kept = entry-from_pointer entries key pointer (merge.dealt place key pass at mine ∙ kept)

pub entry-of_opening : (live : Live) (keeper : Keeper) (passes : List Pass) (entries : List Entry) → IsMerge live keeper passes entries
    → (key pointer : ℕ) → ¬ Contains (taken_of keeper) key → pointer_of (known_entries live keeper) key ≡ Some pointer → Contains entries (entry key pointer)
entry-of_opening live keeper passes entries merge key pointer free kept = entry-from_pointer entries key pointer (merge.others key free ∙ kept)
