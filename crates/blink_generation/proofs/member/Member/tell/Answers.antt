use Rattle.std.proofs.Common.{ap, subst, List}
use mathlib.Core.List.{IsPrefix}
use Rattle.blink_live.specs.declared.view.Change.{Change}
use Rattle.blink_live.specs.{SeatState}
use Rattle.blink_live.proofs.Offered.{prefixes_of_one_list}
use Rattle.blink_generation.specs.Sessions.{seen_of_member}
use Rattle.blink_generation.proofs.member.Member.tell.Goals as goal

pub returns-clause-prefixes : goal.returns-clause-prefixes
returns-clause-prefixes c =
    let learns = c.look_up.ensures.up.learns in
    let whole = c.look_up.ensures.up.seen in
    let saw = subst (λ (seen : List Change). IsPrefix seen whole) (ap (λ (x : SeatState). x.0.seen) c.pass_on.ensures.told) learns.saw in
    let heard = subst (λ (seen : List Change). IsPrefix seen whole) (ap (λ (x : SeatState). x.0.told) c.pass_on.ensures.told) learns.heard in
    prefixes_of_one_list (seen_of_member c.args.self.now) (seen_of_member c.args.other.now) whole heard saw
