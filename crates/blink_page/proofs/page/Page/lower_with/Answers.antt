use Rattle.std.proofs.Common.{sym}
use Rattle.blink_page.proofs.page.Page.lower_with.Goals as goal

pub lower_of-requires-clause-lawful : goal.lower_of-requires-clause-lawful
lower_of-requires-clause-lawful c = rw (c.deref.ensures.0, sym c.requires.full) c.overfull_with-whole.ensures.lawful
