use Rattle.std.proofs.Common.{◌≡◌, ◌-◌, ◌++◌, ℕ, Option, List, suc, length}
use Rattle.std.specs.Mem.Slots.{slots_items}
use Rattle.blink_page.specs.declared.limits.TheConstants.{MAX_PAGE}
use Rattle.blink_rest.specs.Chain.{Cell}
use Rattle.blink_live.specs.ToCome.{AreToCome}
use Rattle.blink_live.specs.Renumbered.{cells_anew, pages_in}
use Rattle.blink_live.proofs.gathered.PagesAreAdded.{LeftToAdd}
use Rattle.blink_live.proofs.close.add_pages.Given as goal

-- with the pages from the link on, all would be added
abbrev pub invariant-loop-link : goal.invariant-loop-link
invariant-loop-link l = record {
  same_fan : l.store.fan ≡ l.fn.store.fan;
  left : (level : ℕ) (floor : Option ℕ) (cells : List Cell)
      → AreToCome l.counts (slots_items l.closed.words) l.fn.store.fan level floor l.fn.from (length l.fn.store.pages) l.fn.first_child cells
      → LeftToAdd l.counts (slots_items l.closed.words) l.fn.store.fan level l.link l.child l.store.pages
      (l.fn.store.pages ++ pages_in (cells_anew (suc (length l.fn.store.pages)) l.fn.first_child cells));
}

-- fewer numbers are left each time
abbrev pub decreases-loop-link : goal.decreases-loop-link
decreases-loop-link l = MAX_PAGE - length l.store.pages
