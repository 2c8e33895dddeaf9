-- A keeper to which no pass has come back: it deals the opening entries, and no change.
use Rattle.std.proofs.Common.{◌≡◌, ℕ, List, [], ap, ◌∙◌}
use Rattle.blink_live.specs.declared.live.Keeper.{Keeper}
use Rattle.blink_live.specs.declared.live.Live.{Live}
use Rattle.blink_live.specs.declared.live.Pass.{Pass}
use Rattle.blink_live.specs.Changes.{entries_after}
use Rattle.blink_live.specs.Deals.{IsDealt}
use Rattle.blink_live.specs.Handles.{changes_by, known_entries, opening_of, seen_by}
use Rattle.blink_live.specs.Views.{changes_of}

pub known_entries-opening : (live : Live) (keeper : Keeper) → seen_by keeper ≡ [] → known_entries live keeper ≡ opening_of live
known_entries-opening live keeper none = ap (entries_after (opening_of live)) none

pub no_changes-new : (live : Live) (old : Keeper) (keys : List ℕ) (inserts deletes : ℕ) (pass : Pass) → IsDealt live old keys inserts deletes pass → seen_by old ≡ [] → changes_by pass ≡ []
no_changes-new live old keys inserts deletes pass dealt none = dealt.changes ∙ ap (changes_of keys) none
