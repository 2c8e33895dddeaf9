-- `get` lends what the handle owns.
use Rattle.blink_c.proofs.HandleGet.{lends}
use Rattle.blink_c.proofs.IndexKind.{index}
use Rattle.blink_c.specs.contracts.index_handle.IndexHandle.get.Key.{name}
use Rattle.blink_c.proofs.index_handle.IndexHandle.get.Statement.{statement}
use Rattle.blink_c.proofs.index_handle.IndexHandle.get.Code.{unfolded}

pub get_spec : {M : Type 1} → statement M
get_spec 𝓤 𝓛 𝓜 𝓡 wired = lends index 𝓛 𝓜 𝓡 name (unfolded 𝓤 𝓛.H 𝓜 𝓡 wired)
