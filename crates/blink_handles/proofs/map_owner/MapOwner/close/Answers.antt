use Rattle.std.proofs.Common.{subst}
use Rattle.blink_handles.specs.Maps.{CanClose}
use Rattle.blink_handles.proofs.MapsEnd.{close_fault, never_closed}
use Rattle.blink_handles.proofs.map_owner.MapOwner.close.Goals as goal

pub returns-in-Ok-try_unwrap-clause-closed : goal.returns-in-Ok-try_unwrap-clause-closed
returns-in-Ok-try_unwrap-clause-closed c = never_closed c.give.result c.args.self.now.state (subst CanClose c.in-Open.ensures.value tt) c.give.ensures.refused

pub returns-in-Ok-try_unwrap-clause-refused : goal.returns-in-Ok-try_unwrap-clause-refused
returns-in-Ok-try_unwrap-clause-refused c = close_fault c.give.result c.give.ensures.refused

pub returns-in-Unclosed-clause-closed : goal.returns-in-Unclosed-clause-closed
returns-in-Unclosed-clause-closed c = never_closed c.give-in-Unclosed.result c.args.self.now.state (subst CanClose c.in-Unclosed.ensures.value tt) c.give-in-Unclosed.ensures.refused

pub returns-in-Unclosed-clause-refused : goal.returns-in-Unclosed-clause-refused
returns-in-Unclosed-clause-refused c = close_fault c.give-in-Unclosed.result c.give-in-Unclosed.ensures.refused
