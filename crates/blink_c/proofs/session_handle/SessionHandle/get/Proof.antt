-- `get` lends what the handle owns.
use Rattle.blink_c.proofs.HandleGet.{lends}
use Rattle.blink_c.proofs.SessionKind.{session}
use Rattle.blink_c.specs.contracts.session_handle.SessionHandle.get.Key.{name}
use Rattle.blink_c.proofs.session_handle.SessionHandle.get.Statement.{statement}
use Rattle.blink_c.proofs.session_handle.SessionHandle.get.Code.{unfolded}

pub get_spec : {M : Type 1} → statement M
get_spec 𝓤 𝓛 𝓜 𝓡 wired = lends session 𝓛 𝓜 𝓡 name (unfolded 𝓤 𝓛.H 𝓜 𝓡 wired)
