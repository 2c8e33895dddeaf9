use Rattle.index_main.proofs.FirstBytesStay.{stays_kept}
use Rattle.index_main.proofs.appending.AppendingWrite.flush.Goals as goal

pub invariant_of-self : goal.invariant_of-self
invariant_of-self g c = record { begins = stays_kept g.B.Before.before (g.W.Write.contents c.args.self.now.inner) (g.W.Write.contents c.flush.new.self) c.args.self.now.begins c.flush.ensures.bytes }
