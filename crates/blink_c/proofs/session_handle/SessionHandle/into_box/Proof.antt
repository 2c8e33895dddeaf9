-- `into_box` makes the box of the handle's pointer again.
use Rattle.blink_c.proofs.HandleIntoBox.{takes}
use Rattle.blink_c.proofs.SessionKind.{session}
use Rattle.blink_c.specs.contracts.session_handle.SessionHandle.into_box.Key.{name}
use Rattle.blink_c.proofs.session_handle.SessionHandle.into_box.Statement.{statement}
use Rattle.blink_c.proofs.session_handle.SessionHandle.into_box.Code.{code, unfolded}

pub into_box_spec : {M : Type 1} → statement M
unfolding code
into_box_spec 𝓤 𝓛 𝓜 𝓡 wired = takes session 𝓛 𝓜 𝓡 name (unfolded 𝓤 𝓛.H 𝓜 𝓡 wired) wired.2
