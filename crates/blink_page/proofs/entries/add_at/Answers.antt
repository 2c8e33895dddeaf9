use Rattle.blink_page.proofs.WhereSearchesEnd.{added-place}
use Rattle.blink_page.proofs.entries.add_at.Goals as goal

pub returns-clause-entries : goal.returns-clause-entries
returns-clause-entries g c = let placed = added-place c.args.key c.args.value c.args.items.now.items in cc
