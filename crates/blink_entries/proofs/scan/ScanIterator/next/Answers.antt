use Rattle.std.proofs.Common.{arith, rules, ◌≡◌, ◌++◌, ◌∷◌, ℕ, List, [], Option, Some, length, eqb-true, sym, subst, ap, ◌∙◌}
use Rattle.std.specs.Iterator.{MakesProgress, item_count}
use Rattle.std.specs.declared.iter.Iterator.{can_next-default}
use Rattle.std.proofs.lemmas.Grind.{common_steps}
use Rattle.blink_operation.specs.declared.Entry.{Entry}
use Rattle.blink_operation.specs.{entry}
use Rattle.blink_rest.specs.{entries_from}
use Rattle.blink_entries.specs.Scan.{IsLinkOf, at_most, entries_after, entries_to, one_fewer}
use Rattle.blink_entries.specs.declared.scan.Scan.{Scan}
use Rattle.blink_entries.specs.declared.scan.Scan.TheInside.{Inside}
use Rattle.blink_entries.specs.ScanView.{to_come}
use Rattle.blink_entries.proofs.StretchOfScan.{one_brought}
use Rattle.blink_entries.proofs.WhereLinksLead.{empty_of}
use Rattle.blink_entries.proofs.scan.ScanIterator.next.Goals as goal
use Rattle.blink_entries.proofs.scan.ScanIterator.next.Goals.{then-is_empty+in_ok-entries, else-is_empty}

-- an entry is brought, and one fewer may come after it
pub returns-clause-steps : goal.returns-clause-steps
returns-clause-steps c =
    let old = c.self.inside in
    let new = c.if-is_empty.self-inside in
    let same : to_come old ≡ to_come new = elim c.if-is_empty.branch [
      | then-is_empty+in_ok-entries w ↦ (let none : old.entries.now ≡ [] = empty_of old.entries.now (eqb-true (length old.entries.now) 0 (sym c.is_empty.ensures ∙ w.if-is_empty.true)) in
          ap (λ (es : List (ℕ × ℕ)). at_most old.most (entries_from es ++ entries_to old.hi (entries_after old.store.now old.link))) none
          ∙ (ap (at_most old.most) w.in_ok-entries.ensures.entries ∙ ap to_come (sym w.self-inside-is)))
      | else-is_empty w ↦ ap to_come (sym w.self-inside-is)
    ] in
    let first : Entry = entry c.in_ok-key.field-0-0.now.0 c.in_ok-key.field-0-0.now.1 in
    let tail : List Entry = entries_to new.hi (entries_after new.store.now new.link) in
    let rest : List Entry = entries_from c.in_ok-key.rest.now ++ tail in
    let parts : new.entries.now ≡ c.in_ok-key.field-0-0.now ∷ c.in_ok-key.rest.now = grind (arith, common_steps, c.split_first.ensures, c.in_ok-key.was, c.in_ok-key.is) in
    let fewer : c.one_fewer-self-inside.result ≡ one_fewer new.most = c.one_fewer-self-inside.ensures in
    let most : new.most ≡ c.self.inside.most = elim c.if-is_empty.branch [
      | then-is_empty+in_ok-entries w ↦ ap (λ (s : Inside). s.most) w.self-inside-is
      | else-is_empty w ↦ ap (λ (s : Inside). s.most) w.self-inside-is
    ] in
    let none_left : c.self.inside.most ≡ Some 0 → ⊥ = search rules in
    let more : new.most ≡ Some 0 → ⊥ = λ zero. none_left (sym most ∙ zero) in
    sym c.self.view_is ∙ (same ∙ (ap (λ (es : List (ℕ × ℕ)). at_most new.most (entries_from es ++ tail)) parts
    ∙ (one_brought new.most first rest more ∙ ap (λ (m : Option ℕ). first ∷ at_most m rest) (sym fewer))))

progress : (first : Entry) (rest : List Entry) → MakesProgress {S = Scan} {A = Entry} (can_next-default Scan Entry) (item_count {S = List Entry} {A = Entry} (λ entries. entries)) (first ∷ rest) (Some first) rest
progress first rest = search rules

pub returns-clause-goes : goal.returns-clause-goes
returns-clause-goes c =
    let new = c.if-is_empty.self-inside in
    let first : Entry = entry c.in_ok-key.field-0-0.now.0 c.in_ok-key.field-0-0.now.1 in
    let rest : List Entry = at_most c.one_fewer-self-inside.result (entries_from c.in_ok-key.rest.now ++ entries_to new.hi (entries_after new.store.now new.link)) in
    subst (λ (entries : List Entry). MakesProgress {S = Scan} {A = Entry} (can_next-default Scan Entry) (item_count {S = List Entry} {A = Entry} (λ entries. entries)) entries (Some first) rest) (sym (returns-clause-steps c)) (progress first rest)

-- the link leads along the level still
pub invariant_of-self : goal.invariant_of-self
invariant_of-self c = elim c.if-is_empty.branch [
  | then-is_empty+in_ok-entries w ↦ subst (λ (scan : Inside). IsLinkOf scan.store.now scan.link) (sym w.self-inside-is) w.in_ok-entries.ensures.link
  | else-is_empty w ↦ subst (λ (scan : Inside). IsLinkOf scan.store.now scan.link) (sym w.self-inside-is) c.self.invariant
]

pub invariant_of-self-2 : goal.invariant_of-self-2
invariant_of-self-2 c = elim c.if-is_empty.branch [
  | then-is_empty+in_ok-entries w ↦ subst (λ (scan : Inside). IsLinkOf scan.store.now scan.link) (sym w.self-inside-is) w.in_ok-entries.ensures.link
  | else-is_empty w ↦ subst (λ (scan : Inside). IsLinkOf scan.store.now scan.link) (sym w.self-inside-is) c.self.invariant
]
