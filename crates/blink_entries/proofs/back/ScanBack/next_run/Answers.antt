use Rattle.std.proofs.Common.{◌≡◌, ◌++◌, ◌≤◌, ℕ, Option, Some, None, List, [], length, append-nil, eqb-true, refl, ap, sym, subst, ◌∙◌, arith}
use Rattle.std.specs.Prelude.{reverse}
use Rattle.blink_operation.specs.declared.Entry.{Entry}
use Rattle.blink_rest.specs.{IsStoreAtRest, entries_from}
use Rattle.blink_entries.specs.Back.{entries_within}
use Rattle.blink_entries.specs.BackView.{to_come}
use Rattle.blink_entries.specs.Index.{map_of}
use Rattle.blink_entries.specs.Scan.{at_most, fewer, first_of}
use Rattle.blink_entries.specs.declared.back.ScanBack.TheInside.{Inside}
use Rattle.blink_entries.proofs.StretchBefore.{run_brought_back}
use Rattle.blink_entries.proofs.WhereLinksLead.{empty_of}
use Rattle.blink_entries.proofs.back.ScanBack.next_run.Goals as goal
use Rattle.blink_entries.proofs.back.ScanBack.next_run.Goals.{then-is_empty+in_ok-entries, else-is_empty}

first_of-at_most : (count : ℕ) (most : Option ℕ) → first_of count most ≤ count
first_of-at_most count None = omega arith
first_of-at_most count (Some n) = omega arith

first_of-twice : (count : ℕ) (most : Option ℕ) → first_of (first_of count most) most ≡ first_of count most
first_of-twice count None = refl
first_of-twice count (Some n) = omega arith

pub invariant_of-self : goal.invariant_of-self
invariant_of-self c = elim c.if-is_empty.branch [
  | then-is_empty+in_ok-entries w ↦ subst (λ (scan : Inside). IsStoreAtRest scan.store.now) (sym w.self-inside-is) c.self.invariant
  | else-is_empty w ↦ subst (λ (scan : Inside). IsStoreAtRest scan.store.now) (sym w.self-inside-is) c.self.invariant
]

pub returns-clause-run : goal.returns-clause-run
returns-clause-run c =
    let old = c.self.inside in
    let new = c.if-is_empty.self-inside in
    let before : List Entry = entries_within new.lo new.hi (map_of new.store.now) in
    let same : to_come old ≡ to_come new = elim c.if-is_empty.branch [
      | then-is_empty+in_ok-entries w ↦ (let none : old.entries.now ≡ [] = empty_of old.entries.now (eqb-true (length old.entries.now) 0 (sym c.is_empty.ensures ∙ w.if-is_empty.true)) in
          ap (λ (es : List (ℕ × ℕ)). at_most old.most (reverse (entries_within old.lo old.hi (map_of old.store.now) ++ entries_from es))) none
          ∙ (ap (λ (es : List Entry). at_most old.most (reverse es)) (append-nil (entries_within old.lo old.hi (map_of old.store.now)) ∙ w.in_ok-entries.ensures.entries) ∙ ap to_come (sym w.self-inside-is)))
      | else-is_empty w ↦ ap to_come (sym w.self-inside-is)
    ] in
    let rest = c.split_at.result.0.now in
    let run = c.split_at.result.1.now in
    let whole = length new.entries.now in
    let most_of = first_of-at_most whole new.most in
    let long : length run ≡ first_of whole new.most = omega (arith, c.split_at.ensures.back_len, c.first_of-count.ensures, most_of) in
    let within : first_of (length run) new.most ≡ length run = ap (λ (n : ℕ). first_of n new.most) long ∙ (first_of-twice whole new.most ∙ sym long) in
    let most : fewer new.most (length run) ≡ c.fewer-self-inside.result = ap (fewer new.most) (long ∙ sym c.first_of-count.ensures) ∙ sym c.fewer-self-inside.ensures in
    sym c.self.view_is ∙ (same ∙ (ap (λ (es : List (ℕ × ℕ)). at_most new.most (reverse (before ++ entries_from es))) c.split_at.ensures.by_index.0
    ∙ (run_brought_back new.most before rest run within ∙ ap (λ (m : Option ℕ). reverse (entries_from run) ++ at_most m (reverse (before ++ entries_from rest))) most)))
