-- A growing map that nobody changes, or whose sessions all come to its close.
use Rattle.std.specs.Prelude.{◌≡◌, ◌<◌, ◌^◌, ℕ, List, All, Any}
use Rattle.blink_batch.specs.declared.Entry.{Entry}
use Rattle.blink_batch.specs.{pointer_of}
use Rattle.blink_live.specs.declared.view.Change.{Change}
use Rattle.blink_live.specs.{after, made_at}
use Rattle.blink_map.specs.declared.growing.GrowingMap.{GrowingMap}
use Rattle.blink_map.specs.declared.growing.Session.{Session}
use Rattle.blink_map.specs.{made_by, opening_of, place_of}

-- each key has the same pointer in both
abbrev pub HaveSameEntries : List Entry → List Entry → Type 0
HaveSameEntries one other = (key : ℕ) → key < 2 ^ 64 → pointer_of other key ≡ pointer_of one key

-- the entries are the opening ones after one list of changes. Each change was made at the place of one of these sessions, and at their
-- places exactly what is counted as theirs: nobody else has changed the map
pub record AreOnlyTheirs (growing : GrowingMap) (sessions : List Session) (entries : List Entry) : Type 0 where
  pub final : List Change
  pub theirs : All (λ (change : Change). Any (λ (session : Session). place_of session ≡ change.author) sessions) final
  pub made : All (λ (session : Session). made_at (place_of session) final ≡ made_by session) sessions
  pub kept : (key : ℕ) → key < 2 ^ 64 → pointer_of entries key ≡ after (pointer_of (opening_of growing)) final key
