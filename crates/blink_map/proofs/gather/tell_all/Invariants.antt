use Rattle.std.proofs.Common.{◌≡◌, List, ◌++◌, length}
use Rattle.std.specs.Arc.{arc_value}
use Rattle.blink_generation.specs.{IsSessionOf, seen_by}
use Rattle.blink_map.specs.declared.slots.Current.{Current}
use Rattle.blink_map.specs.Renewing.{HaveSeenOwn}
use Rattle.blink_map.proofs.gather.tell_all.Given as goal

-- those that are gone from the end of the list were told
abbrev pub invariant-loop-held : goal.invariant-loop-held
invariant-loop-held l = record {
  its_own : IsSessionOf (arc_value l.lead.map) l.lead.session;
  same_map : arc_value l.lead.map ≡ arc_value l.initial.lead.map;
  seen : seen_by l.lead.session ≡ seen_by l.initial.lead.session;
  told : (last : List Current) × (l.initial.others.items ≡ l.others.items ++ last) × HaveSeenOwn l.initial.lead last;
}

abbrev pub decreases-loop-held : goal.decreases-loop-held
decreases-loop-held l = length l.others.items
