-- `get` lends what the handle owns.
use Rattle.blink_c.proofs.HandleGet.{lends}
use Rattle.blink_c.proofs.MapKind.{map}
use Rattle.blink_c.specs.contracts.map_handle.MapHandle.get.Key.{name}
use Rattle.blink_c.proofs.map_handle.MapHandle.get.Statement.{statement}
use Rattle.blink_c.proofs.map_handle.MapHandle.get.Code.{unfolded}

pub get_spec : {M : Type 1} → statement M
get_spec 𝓤 𝓛 𝓜 𝓡 wired = lends map 𝓛 𝓜 𝓡 name (unfolded 𝓤 𝓛.H 𝓜 𝓡 wired)
