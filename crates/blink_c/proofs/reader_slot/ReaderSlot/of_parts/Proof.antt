-- `of_parts` fills the slot with what the parts own.
use Rattle.blink_c.proofs.SlotOfParts.{fills}
use Rattle.blink_c.proofs.ReaderKind.{reader, reader_slot}
use Rattle.blink_c.specs.contracts.reader_slot.ReaderSlot.of_parts.Key.{name}
use Rattle.blink_c.proofs.reader_slot.ReaderSlot.of_parts.Statement.{statement}
use Rattle.blink_c.proofs.reader_slot.ReaderSlot.of_parts.Code.{unfolded}

pub of_parts_spec : {M : Type 1} → statement M
of_parts_spec 𝓤 𝓛 𝓜 𝓡 wired = fills reader reader_slot 𝓛 𝓜 𝓡 name (unfolded 𝓤 𝓛.H 𝓜 𝓡 wired)
