use Rattle.std.proofs.Common.{rules}
use Rattle.std.proofs.lemmas.List.Sorted.{answers_always}
use Rattle.blink_batch.proofs.SearchByHalves.{searched}
use Rattle.blink_batch.proofs.plain.Plain.place.Goals as goal

-- the closure gives an entry's key, and the slice is the map
pub returns : goal.returns
returns c =
    let facts = c.binary_search_by_key.ensures in
    let by_key = facts.position (λ e. e.key) (answers_always _ _ _ (λ f a r g called. search rules)) in
    rw (← c.self.view_is, ← c.deref.ensures.value) (searched _ (rw c.deref.ensures.value c.self.invariant) c.args.key _ facts.bound by_key)
