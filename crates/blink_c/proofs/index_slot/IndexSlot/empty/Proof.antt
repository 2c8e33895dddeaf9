-- `empty` puts nothing in the slot.
use Rattle.blink_c.proofs.SlotEmpty.{empties}
use Rattle.blink_c.proofs.IndexKind.{index, index_slot, index_taking}
use Rattle.blink_c.specs.contracts.index_slot.IndexSlot.empty.Key.{name}
use Rattle.blink_c.proofs.index_slot.IndexSlot.empty.Statement.{statement}
use Rattle.blink_c.proofs.index_slot.IndexSlot.empty.Code.{unfolded}

pub empty_spec : {M : Type 1} → statement M
empty_spec 𝓤 𝓛 𝓜 𝓡 wired = empties index index_slot index_taking 𝓛 𝓜 𝓡 name (unfolded 𝓤 𝓛.H 𝓜 𝓡 wired)
