use Rattle.std.proofs.Common.{Global, List, ap, ◌∙◌, subst, arith}
use Rattle.std.specs.Prelude.{IfSome, Option, Vec}
use Rattle.blink_batch.specs.declared.Entry.{Entry}
use Rattle.blink_batch.specs.{pointer_of}
use Rattle.blink_live.specs.{IsSnapshot, after}
use Rattle.blink_generation.specs.declared.map.Map.{Map}
use Rattle.blink_generation.specs.declared.map.Session.{Session as MapSession}
use Rattle.blink_generation.specs.{opening_of, seen_by}
use Rattle.blink_map.proofs.next.index_of.Goals as goal

pub returns-in-Ok-from_sorted-clause-entries : goal.returns-in-Ok-from_sorted-clause-entries
returns-in-Ok-from_sorted-clause-entries c key inside =
    let session : MapSession = c.snapshot.new.session in
    let snapshot = subst (λ (found : Option (Vec Entry Global)). IfSome found (λ entries. IsSnapshot (opening_of c.deref.result.now) (seen_by session) 0 18446744073709551615 entries.items)) c.in-Some.is c.in-Ok.ensures.snapshot in
    ap (λ (l : List Entry). pointer_of l key) (c.in-Ok-from_sorted.ensures.map ∙ c.deref-2.ensures.value)
    ∙ (snapshot.exact key (omega arith) (omega (arith, inside))
    ∙ ap (λ (m : Map). after (pointer_of (opening_of m)) (seen_by session) key) c.deref.ensures)
