use Rattle.std.proofs.Common.{◌≡◌, ◌++◌, ◌≤◌, ℕ, List, [], ◌∷◌, get_or, length, take, ap, sym, subst, ◌∙◌, arith}
use Rattle.std.proofs.lemmas.List.{length-take-le, take_all}
use Rattle.std.proofs.lemmas.Result.{IfOk-weaker}
use Rattle.blink_operation.specs.{entry}
use Rattle.blink_page.specs.{IsRising}
use Rattle.blink_rest.specs.{entries_from, pairs_of}
use Rattle.blink_rest.proofs.Offered.{entries_from-pairs_of}
use Rattle.blink_entries.specs.Index.{map_of}
use Rattle.blink_entries.specs.{entries_in}
use Rattle.blink_entries.proofs.Offered.{length-pairs_of, no_more_pages, number_for_entry, numbers_above, pairs_more, rising_at}
use Rattle.blink_index.proofs.index.sorted.packed.Goals as goal

pub loop-entry-init : goal.loop-entry-init
loop-entry-init c = record { leaves = c.in_ok-pages.ensures.leaves c.args.fan c.requires.fan; so_far = c.in_ok-pages.ensures.none }

pub add_entry-requires-clause-leaves : goal.add_entry-requires-clause-leaves
add_entry-requires-clause-leaves c = c.loop-entry.invariant.leaves

pub add_entry-requires-clause-above : goal.add_entry-requires-clause-above
add_entry-requires-clause-above c =
    let i = c.loop-entry.entry-index in let entries = c.args.entries.now in
    subst (λ (es : List (ℕ × ℕ)). IsRising 0 es (get_or entries i (entry 0 0)).key) (sym c.loop-entry.invariant.so_far)
    (rising_at 0 entries i (entry 0 0) _ c.loop-entry-test.true c.requires.rising)

pub add_entry-requires-clause-number : goal.add_entry-requires-clause-number
add_entry-requires-clause-number c =
    let i = c.loop-entry.entry-index in let entries = c.args.entries.now in
    let inside = c.loop-entry-test.true in
    let so_far = ap length c.loop-entry.invariant.so_far ∙ length-pairs_of (take i entries) ∙ length-take-le i entries (omega (arith, inside)) in
    number_for_entry c.args.fan (length entries) c.args.count c.requires.needs c.requires.numbers c.loop-entry.pages.items c.loop-entry.invariant.leaves (omega (arith, so_far, inside))

pub loop-entry-preserved : goal.loop-entry-preserved
loop-entry-preserved c =
    let i = c.loop-entry.entry-index in let entries = c.args.entries.now in
    let e = get_or entries i (entry 0 0) in
    record {
      leaves = c.in_ok-add_entry.ensures.leaves;
      so_far = c.in_ok-add_entry.ensures.entries ∙ ap (λ (es : List (ℕ × ℕ)). es ++ (e.key, e.pointer) ∷ []) c.loop-entry.invariant.so_far ∙ sym (pairs_more entries i (entry 0 0) c.loop-entry-test.true);
    }

pub tree_over-requires-clause-numbers : goal.tree_over-requires-clause-numbers
tree_over-requires-clause-numbers c =
    let all = c.loop-entry.invariant.so_far ∙ ap pairs_of (take_all c.loop-entry.entry-index c.args.entries.now c.loop-entry-test.false) in
    numbers_above c.args.fan (length c.args.entries.now) c.args.count c.requires.needs c.requires.numbers c.loop-entry.pages.items c.loop-entry.invariant.leaves
    (ap length all ∙ length-pairs_of c.args.entries.now)

pub returns-clause-map : goal.returns-clause-map
returns-clause-map c =
    let all = c.loop-entry.invariant.so_far ∙ ap pairs_of (take_all c.loop-entry.entry-index c.args.entries.now c.loop-entry-test.false) in
    IfOk-weaker c.tree_over.result (λ rest. map_of rest ≡ entries_from (entries_in c.loop-entry.pages.items)) (λ rest. map_of rest ≡ c.args.entries.now)
    (λ rest is. is ∙ ap entries_from all ∙ entries_from-pairs_of c.args.entries.now) c.tree_over.ensures.map

pub returns-clause-few : goal.returns-clause-few
returns-clause-few c =
    let all = c.loop-entry.invariant.so_far ∙ ap pairs_of (take_all c.loop-entry.entry-index c.args.entries.now c.loop-entry-test.false) in
    IfOk-weaker c.tree_over.result _ (λ rest. length rest.pages ≤ c.args.count)
    (λ rest few. no_more_pages c.args.fan (length c.args.entries.now) c.args.count c.requires.needs c.requires.numbers c.loop-entry.pages.items c.loop-entry.invariant.leaves
    (ap length all ∙ length-pairs_of c.args.entries.now) (length rest.pages) few) c.tree_over.ensures.few
