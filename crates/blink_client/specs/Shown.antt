-- What was shown.
use Rattle.std.specs.Prelude.{◌≡◌, ◌⊎◌, ℕ, Option, Some, None, [], Contains}
use Rattle.blink_batch.specs.declared.Answer.{Answer}
use Rattle.blink_batch.specs.declared.Answer.TheVariants.{Found}
use Rattle.blink_batch.specs.{pointer_of}
use Rattle.blink_live.specs.declared.live.Live.{Live}
use Rattle.blink_live.specs.declared.live.Pass.{Pass}
use Rattle.blink_live.specs.{IsPassOf, keys_of, opening_of, own_changes_of, share_of}
use Rattle.blink_client.specs.declared.Glances.{Glances}

-- nothing, since the insertion was refused, or the pointer
abbrev pub IsShown : ℕ → Option (Option ℕ) → Type 0
IsShown pointer None = Unit {0}
IsShown pointer (Some shown) = shown ≡ Some pointer

-- nothing, since the insertion was refused; or first nothing or the pointer, and then the pointer
abbrev pub IsShownTwice : ℕ → Option Glances → Type 0
IsShownTwice pointer None = Unit {0}
IsShownTwice pointer (Some glances) = ((glances.meanwhile ≡ None) ⊎ (glances.meanwhile ≡ Some pointer)) × (glances.told ≡ Some pointer)

-- nothing, since the insertion was refused, or the entry's pointer
abbrev pub IsFound : ℕ → Option Answer → Type 0
IsFound pointer None = Unit {0}
IsFound pointer (Some answer) = answer ≡ Found pointer

-- the pass has the key, with its opening state, and has made no change of it
pub record IsNewWith (live : Live) (key : ℕ) (pass : Pass) : Type 0 where
  pub its_own : IsPassOf live pass
  pub own_key : Contains (keys_of pass) key
  pub state : pointer_of (share_of pass) key ≡ pointer_of (opening_of live) key
  pub none_made : own_changes_of pass key ≡ []
