use Rattle.std.proofs.Common.{sym, subst}
use Rattle.blink_batch.specs.declared.Answer.TheVariants.{Exists}
use Rattle.blink_batch.specs.declared.Op.{Op}
use Rattle.blink_generation.specs.Putting.{IsUnchangedBy, LacksKeyOf}
use Rattle.blink_generation.specs.Sessions.{IsAnswered}
use Rattle.blink_generation.proofs.PutsAreChanges.{found_absent, found_there, is_unchanged, looked_in_vain, still_lacks}
use Rattle.blink_generation.proofs.map.Map.answer_with_no_room.Goals as goal

pub returns-in-Some-clause-answered : goal.returns-in-Some-clause-answered
returns-in-Some-clause-answered c before room =
    subst (λ (op : Op). IsAnswered c.args.self.now op before c.find.new.session (Exists c.in-Some.there)) (sym c.in-Insert.is)
    (found_there c.args.self.now before c.args.session.now c.find.new.session room c.find.ensures.same c.in-Insert.key c.in-Insert._pointer c.in-Some.there c.in-Some.ensures.state)

pub returns-in-Some-clause-full : goal.returns-in-Some-clause-full
returns-in-Some-clause-full c before lacks = still_lacks c.args.op before c.args.session.now c.find.new.session c.find.ensures.same lacks

pub returns-in-None-clause-refused : goal.returns-in-None-clause-refused
returns-in-None-clause-refused c none before room =
    subst (λ (op : Op). LacksKeyOf c.args.self.now op before c.find.new.session × IsUnchangedBy op before c.find.new.session) (sym c.in-Insert.is) (
      found_absent c.args.self.now before c.args.session.now c.find.new.session room c.find.ensures.same c.in-Insert.key c.in-Insert._pointer c.in-None.ensures.state,
      looked_in_vain c.args.self.now before c.args.session.now c.find.new.session room c.find.ensures.same c.in-Insert.key c.in-Insert._pointer,
    )

pub returns-in-None-clause-full : goal.returns-in-None-clause-full
returns-in-None-clause-full c before lacks = still_lacks c.args.op before c.args.session.now c.find.new.session c.find.ensures.same lacks

pub returns-in_default-clause-refused : goal.returns-in_default-clause-refused
returns-in_default-clause-refused c none before room = is_unchanged c.args.self.now c.args.op before c.args.session.now c.in_default.not-Insert room
