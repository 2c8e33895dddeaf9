use Rattle.std.proofs.Common.{arith}
use Rattle.blink_batch.specs.declared.last_places.TheConstants.{BUCKETS}
use Rattle.blink_batch.specs.LastPlaces.{IsInBucket}
use Rattle.blink_batch.proofs.LastPlaces.{IsLastBefore-first}
use Rattle.blink_batch.proofs.last_places.LastPlaces.new.Goals as goal

pub returns : goal.returns
returns c = λ ops. record {
  of_buckets = λ bucket within. IsLastBefore-first (IsInBucket ops bucket) BUCKETS bucket within;
  of_places = λ place below. absurd (omega arith);
}
