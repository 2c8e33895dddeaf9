-- `get` lends what the handle owns.
use Rattle.blink_c.proofs.HandleGet.{lends}
use Rattle.blink_c.proofs.ReaderKind.{reader}
use Rattle.blink_c.specs.contracts.reader_handle.ReaderHandle.get.Key.{name}
use Rattle.blink_c.proofs.reader_handle.ReaderHandle.get.Statement.{statement}
use Rattle.blink_c.proofs.reader_handle.ReaderHandle.get.Code.{unfolded}

pub get_spec : {M : Type 1} → statement M
get_spec 𝓤 𝓛 𝓜 𝓡 wired = lends reader 𝓛 𝓜 𝓡 name (unfolded 𝓤 𝓛.H 𝓜 𝓡 wired)
