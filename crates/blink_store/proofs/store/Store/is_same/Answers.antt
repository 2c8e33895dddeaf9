use Rattle.std.proofs.lemmas.Slice.Eq.{slice_eq-Decides}
use Rattle.blink_store.proofs.ComparedStores.{same_page, same_numbers, same_store}
use Rattle.blink_store.proofs.store.Store.is_same.Goals as goal

pub returns : goal.returns
returns c =
    let pages = slice_eq-Decides same_page c.self.inside.pages.items c.other.inside.pages.items c.eq.result c.eq.ensures in
    let primes = same_numbers c.self.inside.prime c.other.inside.prime c.ne.result c.ne.ensures c.if-ne.false in
    rw (← c.self.view_is, ← c.other.view_is) (same_store _ _ c.if-self-other.false primes c.eq.result pages)
