-- `into_handle` moves what the slot owns to a handle.
use Rattle.blink_c.proofs.SlotIntoHandle.{hands}
use Rattle.blink_c.proofs.IndexKind.{index, index_slot, index_taking}
use Rattle.blink_c.specs.contracts.index_slot.IndexSlot.into_handle.Key.{name}
use Rattle.blink_c.proofs.index_slot.IndexSlot.into_handle.Statement.{statement}
use Rattle.blink_c.proofs.index_slot.IndexSlot.into_handle.Code.{unfolded}

pub into_handle_spec : {M : Type 1} → statement M
into_handle_spec 𝓤 𝓛 𝓜 𝓡 wired = hands index index_slot index_taking 𝓛 𝓜 𝓡 name (unfolded 𝓤 𝓛.H 𝓜 𝓡 wired)
