use Rattle.std.proofs.Common.{Bool, sym, subst}
use Rattle.blink_live.proofs.Offered.{prefix_of_prefix}
use Rattle.blink_generation.specs.{IsSessionOf as IsSessionIn, seen_by}
use Rattle.blink_generation.specs.declared.map.Map.{Map}
use Rattle.blink_map.specs.Telling.{IsTold}
use Rattle.blink_map.proofs.tell.tell_one.Goals as goal

pub returns-then-upwards-clause-told : goal.returns-then-upwards-clause-told
returns-then-upwards-clause-told c = subst (λ (up : Bool). IsTold up c.args.low c.args.high c.hear-low.result c.hear-low.new.lead) (sym c.if-upwards.true)
    (prefix_of_prefix (seen_by c.args.low.session) (seen_by c.hear-low.result.session) (seen_by c.hear-low.new.lead.session) c.hear-low.ensures.held.saw c.hear-low.ensures.heard)

pub returns-else-upwards-clause-told : goal.returns-else-upwards-clause-told
returns-else-upwards-clause-told c = subst (λ (up : Bool). IsTold up c.args.low c.args.high c.hear-high.new.lead c.hear-high.result) (sym c.if-upwards.false)
    (prefix_of_prefix (seen_by c.args.high.session) (seen_by c.hear-high.result.session) (seen_by c.hear-high.new.lead.session) c.hear-high.ensures.held.saw c.hear-high.ensures.heard)

-- both sessions are of one map, by either's name of it
pub hear-low-requires-clause-its_own : goal.hear-low-requires-clause-its_own
hear-low-requires-clause-its_own c = subst (λ (map : Map). IsSessionIn map c.args.high.session) (sym c.requires.same_map) c.requires.high

pub hear-low-requires-clause-one_map : goal.hear-low-requires-clause-one_map
hear-low-requires-clause-one_map c = subst (λ (map : Map). IsSessionIn map c.args.low.session) (sym c.requires.same_map) c.requires.low
