use Rattle.std.proofs.Common.{sym}
use Rattle.blink_page.proofs.page.Page.upper_with.Goals as goal

pub upper_of-requires-clause-lawful : goal.upper_of-requires-clause-lawful
upper_of-requires-clause-lawful c = rw (c.deref.ensures.0, sym c.requires.full) c.overfull_with-whole.ensures.lawful
