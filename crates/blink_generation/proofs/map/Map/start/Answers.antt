use Rattle.std.proofs.Common.{◌∙◌, IfOk, Result, Ok, Err}
use Rattle.blink_batch.specs.declared.Answer.{Answer}
use Rattle.blink_batch.specs.declared.Op.{Op}
use Rattle.blink_generation.specs.declared.map.Map.{Map}
use Rattle.blink_generation.specs.declared.map.Session.{Session}
use Rattle.blink_generation.specs.declared.map.Stopped.{Stopped}
use Rattle.blink_generation.specs.Sessions.{IsAnswered, IsSameBesideRoom}
use Rattle.blink_generation.proofs.PendingsGoOn.{answered, changed_then, has_begun, its_member}
use Rattle.blink_generation.proofs.map.Map.start.Goals as goal

answered_before : (map : Map) (op : Op) (before drawn : Session) (outcome : Result (Session × Answer) Stopped) → IsSameBesideRoom before drawn
    → IfOk outcome (λ ended. (first : Session) → IsSameBesideRoom first drawn → IsAnswered map op first ended.0 ended.1) → IfOk outcome (λ ended. IsAnswered map op before ended.0 ended.1)
answered_before map op before drawn (Ok ended) same all = all before same
answered_before map op before drawn (Err stopped) same all = tt

pub returns-then-not-draw-clause-answered : goal.returns-then-not-draw-clause-answered
returns-then-not-draw-clause-answered c =
    let drawn = c.draw.ensures.drawn in
    answered_before c.args.self.now c.args.op c.args.session (record { member = c.draw.new.self }) c.stop_for_room.result (record { seen = drawn.seen; made = drawn.made; same_member = drawn.same_member }) c.stop_for_room.ensures.answered

pub recycle-requires : goal.recycle-requires
recycle-requires c =
    let its = its_member c.args.self.now.live c.args.session.member c.draw.new.self c.requires.its_own.member c.draw.ensures.drawn in
    let changed = c.in-Ok.ensures.changed in
    record { its_own = record { same_table = changed.same_member.same_table ∙ its.same_table; same_plan = changed.same_member.same_plan ∙ its.same_plan } }

pub returns-in-Ok-clause-answered : goal.returns-in-Ok-clause-answered
returns-in-Ok-clause-answered c =
    let last = changed_then c.args.self.now.live c.args.op c.draw.new.self c.in-Ok.member c.recycle.new.self c.in-Ok.answer c.in-Ok.ensures.changed c.recycle.ensures.drawn c.recycle.ensures.rows c.recycle.ensures.pages in
    answered c.args.self.now c.args.op c.args.session _ c.draw.new.self c.in-Ok.answer c.draw.ensures.drawn last

pub returns-in-Err-clause-stopped : goal.returns-in-Err-clause-stopped
returns-in-Err-clause-stopped c = has_begun c.args.self.now c.args.op c.args.session c.draw.new.self _ c.requires.its_own c.of-begun.ensures c.draw.ensures.drawn c.in-Err.ensures.at_rest c.in-Err.ensures.waits
