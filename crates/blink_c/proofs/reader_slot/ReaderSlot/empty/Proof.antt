-- `empty` puts nothing in the slot.
use Rattle.blink_c.proofs.SlotEmpty.{empties}
use Rattle.blink_c.proofs.ReaderKind.{reader, reader_slot, reader_taking}
use Rattle.blink_c.specs.contracts.reader_slot.ReaderSlot.empty.Key.{name}
use Rattle.blink_c.proofs.reader_slot.ReaderSlot.empty.Statement.{statement}
use Rattle.blink_c.proofs.reader_slot.ReaderSlot.empty.Code.{unfolded}

pub empty_spec : {M : Type 1} → statement M
empty_spec 𝓤 𝓛 𝓜 𝓡 wired = empties reader reader_slot reader_taking 𝓛 𝓜 𝓡 name (unfolded 𝓤 𝓛.H 𝓜 𝓡 wired)
