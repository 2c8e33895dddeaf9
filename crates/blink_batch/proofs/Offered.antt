-- What this crate offers to the proofs of the crates above: operations at places, workers' lanes, what one thread does, and what lanes do apart.

-- the operations at places of a batch, their answers, and one more at the end
pub use Rattle.blink_batch.proofs.OperationsAtPlaces.{zip-push, length-places_from, get_or-places_from, length-operations_at, operations_at-push, length-answers, answers-push, map_after_all-push, part_of-push_own, part_of-push_other}
-- a worker's next place, and the part of its lane before it
pub use Rattle.blink_batch.proofs.NextPlaces.{next_place-here, next_place-further, next_place-end, next_place_is}
pub use Rattle.blink_batch.proofs.PartsOfLanes.{part_of_first-own, part_of_first-other, part_of_first-end, part_of-next_place, part_of-no_next_place, part_of-nobody, fresh_from_part}
-- what an operation and a run leave of a map, and that a lawfully cut batch does what one thread does
pub use Rattle.blink_batch.proofs.RunsByKey.{IsAscending-map_after, IsAscending-map_after_all, pointer_of-map_after_own, pointer_of-map_after_other}
pub use Rattle.blink_batch.proofs.OneThread.{one_thread_answers, one_thread_map}
-- that a lawful cut gives the operations on one key to one worker
pub use Rattle.blink_batch.proofs.OneThread.{same_worker_from_key}
-- what a worker's lane answers and leaves apart, over its share of the map, and that ascending maps that map every key alike are one
pub use Rattle.blink_batch.proofs.LanesApart.{IsKeyOfLane, IsShareFor, lane_at_place, lane_place, lane_within, lane_rank, lane_answers, lane_answers-at_place, lane_map, untouched_by_batch}
pub use Rattle.blink_batch.proofs.RunsByKey.{same_map_from_pointers}
