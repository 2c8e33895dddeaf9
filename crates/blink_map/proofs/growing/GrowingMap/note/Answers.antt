use Rattle.std.proofs.Common.{ap, ◌∙◌}
use Rattle.blink_map.specs.Counts.{changes_of}
use Rattle.blink_map.proofs.Copies.{is_noted}
use Rattle.blink_map.proofs.growing.GrowingMap.note.Goals as goal

pub returns-clause-noted : goal.returns-clause-noted
returns-clause-noted c =
    is_noted c.args.self.now c.gather.new.seat c.args.copier c.gather.new.lead c.gather.new.others.items c.gather.ensures.renewing c.count_all-changes.result c.gather.ensures.heard (c.gather.ensures.all c.if-not-gather.false)
    (λ few. c.count_all-changes.ensures few ∙ ap changes_of c.deref.ensures.value)
