use Rattle.std.proofs.Common.{◌∙◌, sym}
use Rattle.blink_index.proofs.CountsOfMaps.{replacement_counts}
use Rattle.blink_index.proofs.index.Index.replace.Goals as goal

-- a replacement adds no entry
pub invariant_of-self : goal.invariant_of-self
invariant_of-self c = c.self.invariant ∙ sym (replacement_counts c.self.inside.rest c.swap-before.new.rest c.args.key c.args.pointer c.swap-before.result c.swap-before.ensures.edited)
