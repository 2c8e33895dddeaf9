use Rattle.blink_page.proofs.RisingKeys.{rising_rises}
use Rattle.blink_page.proofs.page.Page.look.Goals as goal

-- a page's keys rise
pub place-requires : goal.place-requires
place-requires c = record { rise = rw c.deref.ensures.0 (rising_rises _ c.self.inside.items.items _ c.self.invariant.keys_rise) }
