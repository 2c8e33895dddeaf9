use Rattle.std.proofs.Common.{◌∙◌, arith, ap, sym}
use Rattle.blink_locked.specs.declared.run.IsOf.{IsOf}
use Rattle.blink_locked.proofs.EachPlace.{each_more}
use Rattle.blink_locked.proofs.run.start_all.Goals as goal

-- the thread's handle is put where its worker stands
pub loop-worker-preserved : goal.loop-worker-preserved
loop-worker-preserved g c = record {
  as_many = omega (arith, c.loop-worker.invariant.as_many, c.push_reserved.ensures.len);
  room = omega (arith, c.loop-worker.invariant.room, c.push_reserved.ensures.capacity);
  its_own = rw c.push_reserved.ensures.items (each_more _ c.loop-worker.handles.items c.in-Ok.handle c.loop-worker.invariant.its_own (ap (λ (promise : IsOf). promise.worker) c.in-Ok.ensures.ok ∙ sym c.loop-worker.invariant.as_many));
}
