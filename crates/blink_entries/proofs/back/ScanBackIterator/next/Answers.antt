use Rattle.std.proofs.Common.{rules, ◌≡◌, ◌++◌, [], ◌∷◌, ℕ, List, Option, Some, eqb-true, length, sym, subst, ap, ◌∙◌}
use Rattle.std.specs.Prelude.{reverse}
use Rattle.std.specs.Iterator.{MakesProgress, item_count}
use Rattle.std.specs.declared.iter.Iterator.{can_next-default}
use Rattle.blink_operation.specs.declared.Entry.{Entry}
use Rattle.blink_operation.specs.{entry}
use Rattle.blink_rest.specs.{IsStoreAtRest, entries_from}
use Rattle.blink_entries.specs.Back.{entries_within}
use Rattle.blink_entries.specs.Index.{map_of}
use Rattle.blink_entries.specs.Scan.{at_most, one_fewer}
use Rattle.blink_entries.specs.declared.back.ScanBack.{ScanBack}
use Rattle.blink_entries.specs.declared.back.ScanBack.TheInside.{Inside}
use Rattle.blink_entries.proofs.StretchBefore.{last_brought, next_brought}
use Rattle.blink_entries.proofs.StretchOfScan.{one_brought}
use Rattle.blink_entries.proofs.WhereLinksLead.{empty_of}
use Rattle.blink_entries.proofs.back.ScanBackIterator.next.Goals as goal
use Rattle.blink_entries.proofs.back.ScanBackIterator.next.Goals.{then-is_empty+in_ok-entries, else-is_empty}

-- an entry is brought, and one fewer may come after it
pub returns-clause-steps : goal.returns-clause-steps
returns-clause-steps c =
    let old = c.self.inside in
    let new = c.if-is_empty.self-inside in
    let key = c.in_ok-key.field-0-0.now.0 in
    let pointer = c.in_ok-key.field-0-0.now.1 in
    let left : List (ℕ × ℕ) = c.in_ok-key.rest.now in
    let first : Entry = entry key pointer in
    let rest : List Entry = reverse (entries_within new.lo new.hi (map_of new.store.now) ++ entries_from left) in
    let last : new.entries.now ≡ left ++ (key, pointer) ∷ [] = c.in_ok-key.ensures.cases.0 in
    let brought : reverse (entries_within old.lo old.hi (map_of old.store.now) ++ entries_from old.entries.now) ≡ first ∷ rest = elim c.if-is_empty.branch [
      | then-is_empty+in_ok-entries w ↦
          let empty : old.entries.now ≡ [] = empty_of old.entries.now (eqb-true (length old.entries.now) 0 (sym c.is_empty.ensures ∙ w.if-is_empty.true)) in
          let part : w.in_ok-entries.entries.now ≡ left ++ (key, pointer) ∷ [] = sym (ap (λ (scan : Inside). scan.entries.now) w.self-inside-is) ∙ last in
          next_brought old.lo old.hi w.in_ok-entries.floor (map_of old.store.now) old.entries.now w.in_ok-entries.entries.now left key pointer empty w.in_ok-entries.ensures.entries part
          ∙ ap (λ (scan : Inside). first ∷ reverse (entries_within scan.lo scan.hi (map_of scan.store.now) ++ entries_from left)) (sym w.self-inside-is)
      | else-is_empty w ↦
          ap (λ (scan : Inside). reverse (entries_within scan.lo scan.hi (map_of scan.store.now) ++ entries_from scan.entries.now)) (sym w.self-inside-is)
          ∙ ap (λ (es : List (ℕ × ℕ)). reverse (entries_within new.lo new.hi (map_of new.store.now) ++ entries_from es)) last
          ∙ last_brought (entries_within new.lo new.hi (map_of new.store.now)) left key pointer
    ] in
    let fewer : c.one_fewer-self-inside.result ≡ one_fewer old.most = search rules in
    let more : old.most ≡ Some 0 → ⊥ = search rules in
    sym c.self.view_is ∙ ap (at_most old.most) brought ∙ one_brought old.most first rest more ∙ ap (λ (most : Option ℕ). first ∷ at_most most rest) (sym fewer)

progress : (first : Entry) (rest : List Entry) → MakesProgress {S = ScanBack} {A = Entry} (can_next-default ScanBack Entry) (item_count {S = List Entry} {A = Entry} (λ entries. entries)) (first ∷ rest) (Some first) rest
progress first rest = search rules

pub returns-clause-goes : goal.returns-clause-goes
returns-clause-goes c =
    let new = c.if-is_empty.self-inside in
    let first : Entry = entry c.in_ok-key.field-0-0.now.0 c.in_ok-key.field-0-0.now.1 in
    let rest : List Entry = at_most c.one_fewer-self-inside.result (reverse (entries_within new.lo new.hi (map_of new.store.now) ++ entries_from c.in_ok-key.rest.now)) in
    subst (λ (entries : List Entry). MakesProgress {S = ScanBack} {A = Entry} (can_next-default ScanBack Entry) (item_count {S = List Entry} {A = Entry} (λ entries. entries)) entries (Some first) rest) (sym (returns-clause-steps c)) (progress first rest)

-- the scan reads the same tree
pub invariant_of-self-2 : goal.invariant_of-self-2
invariant_of-self-2 c = elim c.if-is_empty.branch [
  | then-is_empty+in_ok-entries w ↦ subst (λ (scan : Inside). IsStoreAtRest scan.store.now) (sym w.self-inside-is) c.self.invariant
  | else-is_empty w ↦ subst (λ (scan : Inside). IsStoreAtRest scan.store.now) (sym w.self-inside-is) c.self.invariant
]
