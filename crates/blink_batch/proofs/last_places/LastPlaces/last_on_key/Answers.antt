use Rattle.std.proofs.Common.{◌<◌, ℕ, get_or, Option, None, Some, sym, subst, arith}
use Rattle.blink_batch.specs.Cut.{key_at}
use Rattle.blink_batch.specs.LastPlaces.{IsInBucket, IsLastBefore, bucket_of}
use Rattle.blink_batch.proofs.LastPlaces.{places_left, places_left-fewer}
use Rattle.blink_batch.proofs.last_places.LastPlaces.last_on_key.Goals as goal

pub loop-next-smaller : goal.loop-next-smaller
loop-next-smaller c =
    let ops = c.args.ops.now in
    let candidate = c.in-Some.candidate in
    let walk = c.loop-next.invariant in
    let IsInIt = IsInBucket ops (bucket_of (key_at ops c.args.place)) in
    let found : IsLastBefore IsInIt walk.end (Some candidate) = subst (λ (n : Option ℕ). IsLastBefore IsInIt walk.end n) c.in-Some.is walk.is_next in
    let here : candidate < walk.end = found.below in
    let further = get_or c.args.self.now.earlier candidate None in
    let fewer : places_left further < places_left (Some candidate) = places_left-fewer _ candidate further (c.requires.table.of_places candidate (omega (arith, walk.within))) in
    let fewer_than : places_left further < places_left c.loop-next.next = subst (λ (n : Option ℕ). places_left further < places_left n) (sym c.in-Some.is) fewer in
    subst (λ (n : ℕ). places_left (get_or c.args.self.now.earlier n None) < places_left c.loop-next.next) (sym c.from-candidate.ensures) fewer_than
