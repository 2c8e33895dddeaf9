-- Keys that change hands: the pass that had them parts with its share of them, and another pass takes it.
use Rattle.std.specs.Prelude.{◌≡◌, ℕ, List, [], ◌∷◌, ◌++◌, filter, not}
use mathlib.Core.List.{IsPrefix}
use Rattle.blink_batch.specs.declared.Entry.{Entry}
use Rattle.blink_batch.specs.{pointer_of}
use Rattle.blink_live.specs.declared.view.Change.{Change}
use Rattle.blink_live.specs.declared.view.Share.{Share}
use Rattle.blink_live.specs.declared.view.View.{View}
use Rattle.blink_live.specs.Changes.{with_pointer}
use Rattle.blink_live.specs.Retiring.{without}
use Rattle.blink_live.specs.Views.{SeatState, KnowsItsOwn, SawItsOwn, ShowsNoMore, changes_of, entries_of, forgets_told, is_among, learns_of_others, spent}

-- these keys' part of a share
abbrev pub part_of : List ℕ → Share → Share
part_of keys share = record { keys = keys; entries = entries_of keys share.entries; changes = changes_of keys share.changes }

-- the pass without these keys
abbrev pub parts_with : View → List ℕ → View
parts_with v keys = record v { share = part_of (without keys v.share.keys) v.share }

-- the keys on their way, with their part of the share, and with what their pass has seen
abbrev pub parcel_of : View → List ℕ → View
parcel_of v keys = record (spent v.plan) { share = part_of keys v.share; told = v.seen }

-- the entries where these keys map to what they map to in the others
abbrev pub with_those : List ℕ → List Entry → List Entry → List Entry
with_those [] others entries = entries
with_those (key ∷ rest) others entries = with_pointer (with_those rest others entries) key (pointer_of others key)

-- the changes of all keys but these
abbrev pub changes_but : List ℕ → List Change → List Change
changes_but keys changes = filter (λ (change : Change). not (is_among keys change.key)) changes

-- the share with all keys of another, which has these keys then
abbrev pub with_share : Share → List ℕ → Share → Share
with_share mine keys theirs = record {
  keys = keys;
  entries = with_those theirs.keys theirs.entries mine.entries;
  changes = changes_of theirs.keys theirs.changes ++ changes_but theirs.keys mine.changes;
}

-- the pass that takes them: it has these keys then, and it is told what their pass has seen
abbrev pub receives : View → List ℕ → View → View
receives v keys w = record v { share = with_share v.share keys w.share; told = w.told }

-- these keys have gone from one pass's seat to another's, which has all these keys then. The second has seen all that both had
-- seen, and of the keys that the first has left no change but the first one's. The first knows what its share says, if it had
-- seen its own changes
pub record HaveMoved (keys all : List ℕ) (giver taker giver_then taker_then : SeatState) : Type 0 where
  pub seen : List Change
  pub gave : giver_then ≡ (forgets_told (parts_with giver.0 keys), giver.1)
  pub took : taker_then ≡ (learns_of_others (receives taker.0 all (parcel_of giver.0 keys)) seen, taker.1)
  pub saw : IsPrefix taker.0.seen seen
  pub heard : IsPrefix giver.0.seen seen
  pub knows_own : KnowsItsOwn taker_then.0
  pub no_more : ShowsNoMore seen giver_then.0.share
  pub giver_knows : SawItsOwn (parts_with giver.0 keys) → KnowsItsOwn giver_then.0
