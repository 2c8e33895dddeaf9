use Rattle.std.proofs.Common.{◌≡◌, ◌++◌, ℕ, List, [], length, take, drop, eqb-true, ap, sym, ◌∙◌}
use Rattle.blink_operation.specs.declared.Entry.{Entry}
use Rattle.blink_rest.specs.{entries_from}
use Rattle.blink_entries.specs.Scan.{at_most, entries_after, entries_to, fewer}
use Rattle.blink_entries.specs.ScanView.{to_come}
use Rattle.blink_entries.proofs.StretchOfScan.{run_brought}
use Rattle.blink_entries.proofs.WhereLinksLead.{empty_of}
use Rattle.blink_entries.proofs.scan.Scan.next_run.Goals as goal
use Rattle.blink_entries.proofs.scan.Scan.next_run.Goals.{then-is_empty+in_ok-entries, else-is_empty}

pub returns-clause-run : goal.returns-clause-run
returns-clause-run c =
    let old = c.self.inside in
    let new = c.if-is_empty.self-inside in
    let rest : List Entry = entries_to new.hi (entries_after new.store.now new.link) in
    let same : to_come old ≡ to_come new = elim c.if-is_empty.branch [
      | then-is_empty+in_ok-entries w ↦ (let none : old.entries.now ≡ [] = empty_of old.entries.now (eqb-true (length old.entries.now) 0 (sym c.is_empty.ensures ∙ w.if-is_empty.true)) in
          ap (λ (es : List (ℕ × ℕ)). at_most old.most (entries_from es ++ entries_to old.hi (entries_after old.store.now old.link))) none
          ∙ (ap (at_most old.most) w.in_ok-entries.ensures.entries ∙ ap to_come (sym w.self-inside-is)))
      | else-is_empty w ↦ ap to_come (sym w.self-inside-is)
    ] in
    let count = sym c.first_of-count.ensures in
    let front = ap (λ (n : ℕ). take n new.entries.now) count ∙ sym c.split_at.ensures.front in
    let back = ap (λ (n : ℕ). drop n new.entries.now) count ∙ sym c.split_at.ensures.back in
    let most = ap (fewer new.most) count ∙ sym c.fewer-self-inside.ensures in
    sym c.self.view_is ∙ (same ∙ (run_brought new.most new.entries.now rest ∙ (λ i. entries_from (front i) ++ at_most (most i) (entries_from (back i) ++ rest))))
