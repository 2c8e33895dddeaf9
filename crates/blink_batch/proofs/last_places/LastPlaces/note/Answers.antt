use Rattle.std.proofs.Common.{◌≡◌, ◌∙◌, ap, subst, ◌<◌, ℕ, arith}
use Rattle.blink_batch.specs.declared.last_places.TheConstants.{BUCKETS}
use Rattle.blink_batch.specs.Cut.{key_at}
use Rattle.blink_batch.specs.LastPlaces.{bucket_of}
use Rattle.blink_batch.proofs.LastPlaces.{one_more_recorded}
use Rattle.blink_batch.proofs.last_places.LastPlaces.note.Goals as goal

pub returns : goal.returns
returns c =
    let own : c.bucket-bucket.result ≡ bucket_of (key_at c.args.ops.now c.args.place) = c.bucket-bucket.ensures.value ∙ ap bucket_of c.key.ensures in
    let inside : bucket_of (key_at c.args.ops.now c.args.place) < BUCKETS = subst (λ (n : ℕ). n < BUCKETS) own c.bucket-bucket.ensures.below in
    rw own (one_more_recorded c.args.ops.now c.args.place c.args.self.now (omega arith) (omega arith) inside c.requires.table)
