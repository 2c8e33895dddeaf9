use Rattle.std.proofs.Common.{◌+◌, List, sym, subst}
use Rattle.blink_generation.specs.declared.map.Session.{Session}
use Rattle.blink_generation.specs.Opening.{AreFirst}
use Rattle.blink_generation.proofs.MembersDealt.{one_more_session}
use Rattle.blink_generation.proofs.open.sessions.Goals as goal

pub loop-place-preserved : goal.loop-place-preserved
loop-place-preserved c = record {
  host = c.admit-member.ensures.host;
  sessions = subst (λ (items : List Session). AreFirst c.args.live.now (c.loop-place.place + 1) items) (sym c.in-Ok.ensures)
      (one_more_session c.args.live.now c.loop-place.place c.loop-place.sessions.items (record { member = c.admit-member.result }) c.loop-place.invariant.sessions c.admit-member.ensures.member);
}
