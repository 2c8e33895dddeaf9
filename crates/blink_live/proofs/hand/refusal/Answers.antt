use Rattle.std.proofs.Common.{refl}
use Rattle.blink_live.specs.Handing.{IsHandRefusal}
use Rattle.blink_live.proofs.handed.KeysInList.{tells_first}
use Rattle.blink_live.proofs.hand.refusal.Goals as goal

pub returns-in-Some-clause-not_yours : goal.returns-in-Some-clause-not_yours
returns-in-Some-clause-not_yours c = tells_first c.args.own.now c.args.keys.now c.in-Some.key c.in-Some.ensures.first

pub returns-in-Some-clause-refused : goal.returns-in-Some-clause-refused
returns-in-Some-clause-refused c = IsHandRefusal.not_yours c.in-Some.key refl c.in-Some.ensures.first
