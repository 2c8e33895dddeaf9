use Rattle.std.proofs.Common.{IfOk, List, subst, sym}
use Rattle.blink_batch.specs.declared.Op.{Op}
use Rattle.blink_batch.specs.{Assignment, IsLawfulCut}
use Rattle.blink_store.specs.{PlainStore}
use Rattle.blink_locked.specs.Run.{IsSettled}
use Rattle.blink_locked.proofs.run.run_book.Goals as goal

pub settle-requires : goal.settle-requires
settle-requires g c =
    let picked = c.requires.picked in
    subst (λ (ops : List Op). IsLawfulCut ops g.B.Origin.assignment.workers g.B.Origin.assignment.lanes) (sym picked.1)
    (subst (λ (a : Assignment). IsLawfulCut c.args.batch.now a.workers a.lanes) (sym picked.2) c.requires.cut)

pub returns-clause-settled : goal.returns-clause-settled
returns-clause-settled g c =
    let picked = c.requires.picked in
    subst (λ (start : PlainStore). IfOk c.settle.result (λ done. IsSettled start c.args.batch.now c.args.cut.now done.0 done.1.items)) picked.0
    (subst (λ (ops : List Op). IfOk c.settle.result (λ done. IsSettled g.B.Origin.start ops c.args.cut.now done.0 done.1.items)) picked.1
    (subst (λ (a : Assignment). IfOk c.settle.result (λ done. IsSettled g.B.Origin.start g.B.Origin.ops a done.0 done.1.items)) picked.2 c.settle.ensures.settled))
