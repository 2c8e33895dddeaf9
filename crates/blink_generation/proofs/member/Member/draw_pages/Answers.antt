use Rattle.std.proofs.Common.{Option, subst}
use Rattle.blink_live.specs.declared.shelf.Shelf.{Shelf}
use Rattle.blink_live.specs.{spare_on}
use Rattle.blink_generation.specs.Drawing.{KeepsNumbers}
use Rattle.blink_generation.proofs.member.Member.draw_pages.Goals as goal

pub returns-in-Some-drawn-clause-none_lost : goal.returns-in-Some-drawn-clause-none_lost
returns-in-Some-drawn-clause-none_lost c =
    subst (λ (x : Option Shelf). KeepsNumbers c.args.self.now.pages (spare_on x) c.in-Some-drawn.drawn c.in-Some-drawn.left) c.in-Some.ensures.value c.in-Some-drawn.ensures.none_lost
