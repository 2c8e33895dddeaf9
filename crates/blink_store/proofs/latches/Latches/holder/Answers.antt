use Rattle.std.proofs.Common.{◌∙◌, ℕ, inl, inr, sym, subst, arith}
use Rattle.std.proofs.lemmas.Bool.{cases_eq}
use Rattle.blink_store.specs.Latches.{Holds}
use Rattle.blink_store.proofs.HoldersOfPages.{holder_of-holds, nobody, read_holds, read_other}
use Rattle.blink_store.proofs.latches.Latches.holder.Goals as goal

pub returns-then-eq-clause-holder : goal.returns-then-eq-clause-holder
returns-then-eq-clause-holder c =
    rw (← c.self.view_is)
    (sym (holder_of-holds c.self.inside.held c.self.invariant.0 c.args.page c.loop-worker.worker
    (read_holds c.self.inside.held c.loop-worker.worker c.args.page (omega (arith, c.self.invariant.0.workers, c.self.invariant.1.inside)) (sym c.eq.ensures ∙ c.if-eq.true))))

pub loop-worker-preserved : goal.loop-worker-preserved
loop-worker-preserved c = λ before below holds. elim (cases_eq before c.loop-worker.worker) [
  | inl same ↦ read_other c.self.inside.held c.loop-worker.worker c.args.page (omega (arith, c.self.invariant.0.workers, c.self.invariant.1.inside)) (sym c.eq.ensures ∙ c.if-eq.false)
      (subst (λ (w : ℕ). Holds c.self.inside.held w c.args.page) same holds)
  | inr other ↦ c.loop-worker.invariant before (omega arith) holds
]

pub returns-clause-holder : goal.returns-clause-holder
returns-clause-holder c =
    rw (← c.self.view_is)
    (sym (nobody c.self.inside.held c.args.page c.self.invariant.0 (λ worker inside holds. c.loop-worker.invariant worker (omega (arith, c.self.invariant.1.below worker c.args.page holds)) holds)))
