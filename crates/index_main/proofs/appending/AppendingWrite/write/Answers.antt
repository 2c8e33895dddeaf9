use Rattle.index_main.proofs.FirstBytesStay.{stays_by_write}
use Rattle.index_main.proofs.appending.AppendingWrite.write.Goals as goal

pub invariant_of-self : goal.invariant_of-self
invariant_of-self g c = record { begins = stays_by_write g.B.Before.before (g.W.Write.contents c.args.self.now.inner) (g.W.Write.contents c.write.new.self) c.write.result c.args.bytes.now c.args.self.now.begins c.write.ensures.bytes }
