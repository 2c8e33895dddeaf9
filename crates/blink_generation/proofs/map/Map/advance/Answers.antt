use Rattle.std.proofs.Common.{refl, sym, ◌∙◌, subst}
use Rattle.blink_live.specs.{IsWaiting}
use Rattle.blink_generation.specs.Changing.{HasComeOut}
use Rattle.blink_generation.specs.Pendings.{op_of, session_of}
use Rattle.blink_generation.proofs.OperationsStart.{comes_on}
use Rattle.blink_generation.proofs.PendingsGoOn.{answered, changed_then, has_begun, its_member}
use Rattle.blink_generation.proofs.map.Map.advance.Goals as goal

pub wake-requires : goal.wake-requires
wake-requires c =
    let its_own = c.requires.its_own in
    record { at_rest = (op_of c.args.pending, its_own.drawn, its_member c.args.self.now.live (session_of c.args.pending).member its_own.drawn its_own.its_own.member its_own.has_drawn, its_own.at_rest) }

pub resume-requires : goal.resume-requires
resume-requires c =
    let its_own = c.requires.its_own in
    let pending = c.args.pending in
    let live = c.args.self.now.live in
    let its = its_member live (session_of pending).member its_own.drawn its_own.its_own.member its_own.has_drawn in
    let work = c.wake.ensures.at_work (op_of pending) its_own.drawn its its_own.at_rest in
    record { under_way = (op_of pending, work.set_out.first, work.set_out.under_way); waits = subst IsWaiting (sym c.wake.ensures.machine) its_own.waits }

pub end-member-requires : goal.end-member-requires
end-member-requires c =
    let its_own = c.requires.its_own in
    let pending = c.args.pending in
    let live = c.args.self.now.live in
    let its = its_member live (session_of pending).member its_own.drawn its_own.its_own.member its_own.has_drawn in
    let work = c.wake.ensures.at_work (op_of pending) its_own.drawn its its_own.at_rest in
    let came = comes_on work.set_out c.resume.new.seat c.resume.new.room c.resume.result (c.resume.ensures (op_of pending) work.set_out.first work.set_out.under_way) in
    let ended = subst (HasComeOut live (op_of pending) its_own.drawn c.resume.new.seat c.resume.new.room) c.in-Ended.is came in
    record { ended = (op_of pending, its_own.drawn, c.in-Ended.answer, its, ended, record { rows = work.beside.rows; pages = work.beside.pages; place = work.beside.place }) }

pub recycle-requires : goal.recycle-requires
recycle-requires c =
    let its_own = c.requires.its_own in
    let pending = c.args.pending in
    let live = c.args.self.now.live in
    let its = its_member live (session_of pending).member its_own.drawn its_own.its_own.member its_own.has_drawn in
    let work = c.wake.ensures.at_work (op_of pending) its_own.drawn its its_own.at_rest in
    let came = comes_on work.set_out c.resume.new.seat c.resume.new.room c.resume.result (c.resume.ensures (op_of pending) work.set_out.first work.set_out.under_way) in
    let ended = subst (HasComeOut live (op_of pending) its_own.drawn c.resume.new.seat c.resume.new.room) c.in-Ended.is came in
    let changed = c.end-member.ensures (op_of pending) its_own.drawn c.in-Ended.answer its ended (record { rows = work.beside.rows; pages = work.beside.pages; place = work.beside.place }) in
    record { its_own = record { same_table = changed.same_member.same_table ∙ its.same_table; same_plan = changed.same_member.same_plan ∙ its.same_plan } }

pub returns-in-Ended-clause-answered : goal.returns-in-Ended-clause-answered
returns-in-Ended-clause-answered c =
    let its_own = c.requires.its_own in
    let pending = c.args.pending in
    let live = c.args.self.now.live in
    let its = its_member live (session_of pending).member its_own.drawn its_own.its_own.member its_own.has_drawn in
    let work = c.wake.ensures.at_work (op_of pending) its_own.drawn its its_own.at_rest in
    let came = comes_on work.set_out c.resume.new.seat c.resume.new.room c.resume.result (c.resume.ensures (op_of pending) work.set_out.first work.set_out.under_way) in
    let ended = subst (HasComeOut live (op_of pending) its_own.drawn c.resume.new.seat c.resume.new.room) c.in-Ended.is came in
    let changed = c.end-member.ensures (op_of pending) its_own.drawn c.in-Ended.answer its ended (record { rows = work.beside.rows; pages = work.beside.pages; place = work.beside.place }) in
    let last = changed_then live (op_of pending) its_own.drawn c.end-member.result c.recycle.new.self c.in-Ended.answer changed c.recycle.ensures.drawn c.recycle.ensures.rows c.recycle.ensures.pages in
    answered c.args.self.now (op_of pending) (session_of pending) _ its_own.drawn c.in-Ended.answer its_own.has_drawn last

pub rest-requires : goal.rest-requires
rest-requires c =
    let its_own = c.requires.its_own in
    let pending = c.args.pending in
    let live = c.args.self.now.live in
    let its = its_member live (session_of pending).member its_own.drawn its_own.its_own.member its_own.has_drawn in
    let work = c.wake.ensures.at_work (op_of pending) its_own.drawn its its_own.at_rest in
    let came = comes_on work.set_out c.resume.new.seat c.resume.new.room c.resume.result (c.resume.ensures (op_of pending) work.set_out.first work.set_out.under_way) in
    let rests = subst (HasComeOut live (op_of pending) its_own.drawn c.resume.new.seat c.resume.new.room) c.in-Rests.is came in
    record { at_work = (op_of pending, its_own.drawn, its, record { set_out = rests.0; beside = record { rows = work.beside.rows; pages = work.beside.pages; place = work.beside.place } }) }

pub returns-in-Rests-clause-goes_on : goal.returns-in-Rests-clause-goes_on
returns-in-Rests-clause-goes_on c =
    let its_own = c.requires.its_own in
    let pending = c.args.pending in
    let live = c.args.self.now.live in
    let its = its_member live (session_of pending).member its_own.drawn its_own.its_own.member its_own.has_drawn in
    let work = c.wake.ensures.at_work (op_of pending) its_own.drawn its its_own.at_rest in
    let came = comes_on work.set_out c.resume.new.seat c.resume.new.room c.resume.result (c.resume.ensures (op_of pending) work.set_out.first work.set_out.under_way) in
    let rests = subst (HasComeOut live (op_of pending) its_own.drawn c.resume.new.seat c.resume.new.room) c.in-Rests.is came in
    let then = c.rest.ensures.at_rest (op_of pending) its_own.drawn its (record { set_out = rests.0; beside = record { rows = work.beside.rows; pages = work.beside.pages; place = work.beside.place } }) in
    has_begun c.args.self.now (op_of pending) (session_of pending) its_own.drawn _ its_own.its_own refl its_own.has_drawn then (subst IsWaiting (sym c.rest.ensures.machine) rests.1)

pub returns-in-Rests-clause-waits : goal.returns-in-Rests-clause-waits
returns-in-Rests-clause-waits c =
    let its_own = c.requires.its_own in
    let pending = c.args.pending in
    let live = c.args.self.now.live in
    let its = its_member live (session_of pending).member its_own.drawn its_own.its_own.member its_own.has_drawn in
    let work = c.wake.ensures.at_work (op_of pending) its_own.drawn its its_own.at_rest in
    let came = comes_on work.set_out c.resume.new.seat c.resume.new.room c.resume.result (c.resume.ensures (op_of pending) work.set_out.first work.set_out.under_way) in
    let rests = subst (HasComeOut live (op_of pending) its_own.drawn c.resume.new.seat c.resume.new.room) c.in-Rests.is came in
    subst IsWaiting (sym c.rest.ensures.machine) rests.1
