use Rattle.blink_batch.proofs.LastPlaces.{IsWalk, places_left}
use Rattle.blink_batch.proofs.last_places.LastPlaces.last_on_key.Given as goal

-- the places passed so far aren't on the key
abbrev pub invariant-loop-next : goal.invariant-loop-next
invariant-loop-next l = IsWalk l.ops l.place l.next

-- each place is before the one that led to it
abbrev pub decreases-loop-next : goal.decreases-loop-next
decreases-loop-next l = places_left l.next
