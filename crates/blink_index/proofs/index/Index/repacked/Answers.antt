use Rattle.std.proofs.Common.{◌≡◌, ◌+◌, ◌++◌, ◌≤◌, ℕ, List, length, Result, Ok, Err, ap, sym, subst, ◌∙◌, arith}
use Rattle.std.specs.Prelude.{IfOk}
use Rattle.std.specs.List.{sum}
use Rattle.std.proofs.lemmas.Result.{IfOk-weaker}
use Rattle.blink_operation.specs.declared.Entry.{Entry}
use Rattle.blink_page.specs.declared.limits.TheConstants.{MAX_PAGE}
use Rattle.blink_rest.specs.{IsMapOf, IsStoreAtRest, entries_from}
use Rattle.blink_store.specs.{PlainStore}
use Rattle.blink_entries.specs.Index.{map_of}
use Rattle.blink_entries.specs.Packed.{IsInOrder, NeedsPages}
use Rattle.blink_entries.specs.{AreEnough, AreLeaves, entries_in}
use Rattle.blink_entries.proofs.Offered.{all_given, fewer_so_far, length-entries_from, needs_no_more, next_above, no_more_pages, number_for_entry, numbers_above, parts_more, scan_of_all, the_map_is_kept}
use Rattle.blink_index.proofs.index.Index.repacked.Goals as goal

pub entries-init : goal.entries-init
entries-init c = record {
  leaves = c.in_ok-pages.ensures.leaves c.fan-fan.result c.fan-fan.ensures.in_range;
  parts = ap (λ (es : List (ℕ × ℕ)). entries_from es ++ c.scan-scan.result) c.in_ok-pages.ensures.none ∙ c.scan-scan.ensures.entries ∙ scan_of_all c.args.self.now c.scan-scan.ensures.map;
}

-- the number of pages that are needed, of the store's own fan
module _ (store : PlainStore) (fan entries count : ℕ) (at_rest : IsStoreAtRest store) (map : IsMapOf store (map_of store)) (same_fan : fan ≡ store.fan) (same_count : entries ≡ length (map_of store))
    (needs : NeedsPages fan entries count) where
  pub its_needs : NeedsPages store.fan (length (map_of store)) count
  its_needs = subst (λ (f : ℕ). NeedsPages f (length (map_of store)) count) same_fan (subst (λ (n : ℕ). NeedsPages fan n count) same_count needs)

  pub own_needs : NeedsPages fan (length (map_of store)) count
  own_needs = subst (λ (n : ℕ). NeedsPages fan n count) same_count needs

  pub no_more : count ≤ length store.pages
  no_more = needs_no_more store (map_of store) count at_rest map its_needs

pub add_entry-requires-clause-above : goal.add_entry-requires-clause-above
add_entry-requires-clause-above c =
    let parts = ap (λ (es : List Entry). entries_from (entries_in c.entries.pages.items) ++ es) (sym c.in-Some.ensures.steps) ∙ c.entries.invariant.parts in
    next_above c.args.self.now (map_of c.args.self.now) c.scan-scan.ensures.map (entries_in c.entries.pages.items) c.in-Some.entry c.next.new.self parts

pub add_entry-requires-clause-number : goal.add_entry-requires-clause-number
add_entry-requires-clause-number c =
    let store = c.args.self.now in
    let parts = ap (λ (es : List Entry). entries_from (entries_in c.entries.pages.items) ++ es) (sym c.in-Some.ensures.steps) ∙ c.entries.invariant.parts in
    let own = own_needs store c.fan-fan.result c.len.result c.pages_needed-count.result c.store.ensures.at_rest c.scan-scan.ensures.map (c.fan-fan.ensures.fan ∙ ap (λ (s : PlainStore). s.fan) c.store.ensures.store) c.len.ensures c.pages_needed-count.ensures in
    let few = no_more store c.fan-fan.result c.len.result c.pages_needed-count.result c.store.ensures.at_rest c.scan-scan.ensures.map (c.fan-fan.ensures.fan ∙ ap (λ (s : PlainStore). s.fan) c.store.ensures.store) c.len.ensures c.pages_needed-count.ensures in
    let count = c.page_count-pages.ensures.count in let range = c.page_count-pages.ensures.in_range.1 in
    number_for_entry c.fan-fan.result (length (map_of store)) c.pages_needed-count.result own (omega (arith, few, count, range)) c.entries.pages.items c.entries.invariant.leaves
    (fewer_so_far store (map_of store) c.scan-scan.ensures.map (entries_in c.entries.pages.items) c.in-Some.entry c.next.new.self parts)

pub entries-preserved : goal.entries-preserved
entries-preserved c =
    let parts = ap (λ (es : List Entry). entries_from (entries_in c.entries.pages.items) ++ es) (sym c.in-Some.ensures.steps) ∙ c.entries.invariant.parts in
    record {
      leaves = c.in_ok-add_entry.ensures.leaves;
      parts = ap (λ (es : List (ℕ × ℕ)). entries_from es ++ c.next.new.self) c.in_ok-add_entry.ensures.entries
          ∙ parts_more (entries_in c.entries.pages.items) c.in-Some.entry c.next.new.self (map_of c.args.self.now) parts;
    }

pub tree_over-requires-clause-numbers : goal.tree_over-requires-clause-numbers
tree_over-requires-clause-numbers c =
    let store = c.args.self.now in
    let all = all_given (entries_in c.entries.pages.items) c.entries.scan (map_of store) c.in_default.ensures.steps.0 c.entries.invariant.parts in
    let own = own_needs store c.fan-fan.result c.len.result c.pages_needed-count.result c.store.ensures.at_rest c.scan-scan.ensures.map (c.fan-fan.ensures.fan ∙ ap (λ (s : PlainStore). s.fan) c.store.ensures.store) c.len.ensures c.pages_needed-count.ensures in
    let few = no_more store c.fan-fan.result c.len.result c.pages_needed-count.result c.store.ensures.at_rest c.scan-scan.ensures.map (c.fan-fan.ensures.fan ∙ ap (λ (s : PlainStore). s.fan) c.store.ensures.store) c.len.ensures c.pages_needed-count.ensures in
    let count = c.page_count-pages.ensures.count in let range = c.page_count-pages.ensures.in_range.1 in
    numbers_above c.fan-fan.result (length (map_of store)) c.pages_needed-count.result own (omega (arith, few, count, range)) c.entries.pages.items c.entries.invariant.leaves
    (sym (length-entries_from (entries_in c.entries.pages.items)) ∙ ap length all)

pub returns-clause-fan : goal.returns-clause-fan
returns-clause-fan c =
    IfOk-weaker c.tree_over.result (λ rest. rest.fan ≡ c.fan-fan.result) (λ rest. rest.fan ≡ c.args.self.now.fan)
    (λ rest is. is ∙ (c.fan-fan.ensures.fan ∙ ap (λ (s : PlainStore). s.fan) c.store.ensures.store)) c.tree_over.ensures.fan

pub returns-clause-map : goal.returns-clause-map
returns-clause-map c =
    let all = all_given (entries_in c.entries.pages.items) c.entries.scan (map_of c.args.self.now) c.in_default.ensures.steps.0 c.entries.invariant.parts in
    IfOk-weaker c.tree_over.result (λ rest. map_of rest ≡ entries_from (entries_in c.entries.pages.items)) (λ rest. map_of rest ≡ map_of c.args.self.now) (λ rest is. is ∙ all) c.tree_over.ensures.map

-- at most so many pages, as the entries need
pub few_pages : (store rest : PlainStore) (fan count : ℕ) (leaves : _) → NeedsPages fan (length (map_of store)) count → count ≤ MAX_PAGE → AreLeaves fan leaves → entries_from (entries_in leaves) ≡ map_of store
    → ((above : List ℕ) → AreEnough fan (length leaves) above → length rest.pages ≤ length leaves + sum above) → length rest.pages ≤ count
few_pages store rest fan count leaves needs within are all few =
    no_more_pages fan (length (map_of store)) count needs within leaves are (sym (length-entries_from (entries_in leaves)) ∙ ap length all) (length rest.pages) few

pub returns-clause-no_more : goal.returns-clause-no_more
returns-clause-no_more c =
    let store = c.args.self.now in
    let all = all_given (entries_in c.entries.pages.items) c.entries.scan (map_of store) c.in_default.ensures.steps.0 c.entries.invariant.parts in
    let own = own_needs store c.fan-fan.result c.len.result c.pages_needed-count.result c.store.ensures.at_rest c.scan-scan.ensures.map (c.fan-fan.ensures.fan ∙ ap (λ (s : PlainStore). s.fan) c.store.ensures.store) c.len.ensures c.pages_needed-count.ensures in
    let few = no_more store c.fan-fan.result c.len.result c.pages_needed-count.result c.store.ensures.at_rest c.scan-scan.ensures.map (c.fan-fan.ensures.fan ∙ ap (λ (s : PlainStore). s.fan) c.store.ensures.store) c.len.ensures c.pages_needed-count.ensures in
    let count = c.page_count-pages.ensures.count in let range = c.page_count-pages.ensures.in_range.1 in
    IfOk-weaker c.tree_over.result _ (λ rest. length rest.pages ≤ length store.pages)
    (λ rest bound. let at_most = few_pages store rest c.fan-fan.result c.pages_needed-count.result c.entries.pages.items own (omega (arith, few, count, range)) c.entries.invariant.leaves all bound in
    omega (arith, at_most, few)) c.tree_over.ensures.few

pub returns-clause-pages : goal.returns-clause-pages
returns-clause-pages c = both c.tree_over.result c.tree_over.ensures.in_order (returns-clause-map c) (returns-clause-fan c) c.tree_over.ensures.few
  where
    own : NeedsPages c.fan-fan.result (length (map_of c.args.self.now)) c.pages_needed-count.result
    own = let store = c.args.self.now in own_needs store c.fan-fan.result c.len.result c.pages_needed-count.result c.store.ensures.at_rest c.scan-scan.ensures.map (c.fan-fan.ensures.fan ∙ ap (λ (s : PlainStore). s.fan) c.store.ensures.store) c.len.ensures c.pages_needed-count.ensures

    few : c.pages_needed-count.result ≤ MAX_PAGE
    few =
        let store = c.args.self.now in
        let most = no_more store c.fan-fan.result c.len.result c.pages_needed-count.result c.store.ensures.at_rest c.scan-scan.ensures.map (c.fan-fan.ensures.fan ∙ ap (λ (s : PlainStore). s.fan) c.store.ensures.store) c.len.ensures c.pages_needed-count.ensures in
        let count = c.page_count-pages.ensures.count in let range = c.page_count-pages.ensures.in_range.1 in
        omega (arith, most, count, range)

    one : (rest : PlainStore) → IsInOrder rest → map_of rest ≡ map_of c.args.self.now → rest.fan ≡ c.args.self.now.fan
        → ((above : List ℕ) → AreEnough c.fan-fan.result (length c.entries.pages.items) above → length rest.pages ≤ length c.entries.pages.items + sum above)
        → NeedsPages c.args.self.now.fan (length (map_of c.args.self.now)) (length rest.pages)
    one rest order map fan bound =
        let store = c.args.self.now in
        let all = all_given (entries_in c.entries.pages.items) c.entries.scan (map_of store) c.in_default.ensures.steps.0 c.entries.invariant.parts in
        let most = few_pages store rest c.fan-fan.result c.pages_needed-count.result c.entries.pages.items own few c.entries.invariant.leaves all bound in
        let its : NeedsPages store.fan (length (map_of store)) c.pages_needed-count.result = subst (λ (f : ℕ). NeedsPages f (length (map_of store)) c.pages_needed-count.result) (c.fan-fan.ensures.fan ∙ ap (λ (s : PlainStore). s.fan) c.store.ensures.store) own in
        let same : NeedsPages rest.fan (length (map_of rest)) c.pages_needed-count.result
        = subst (λ (f : ℕ). NeedsPages f (length (map_of rest)) c.pages_needed-count.result) (sym fan) (subst (λ (es : List Entry). NeedsPages store.fan (length es) c.pages_needed-count.result) (sym map) its) in
        let least = needs_no_more rest (map_of rest) c.pages_needed-count.result (order.levels, order.are) (the_map_is_kept rest (order.levels, order.are)) same in
        let is : c.pages_needed-count.result ≡ length rest.pages = omega (arith, most, least) in
        subst (NeedsPages store.fan (length (map_of store))) is its

    both : {E : Type 0} (result : Result PlainStore E) → IfOk result IsInOrder → IfOk result (λ rest. map_of rest ≡ map_of c.args.self.now) → IfOk result (λ rest. rest.fan ≡ c.args.self.now.fan)
        → IfOk result (λ rest. (above : List ℕ) → AreEnough c.fan-fan.result (length c.entries.pages.items) above → length rest.pages ≤ length c.entries.pages.items + sum above)
        → IfOk result (λ rest. NeedsPages c.args.self.now.fan (length (map_of c.args.self.now)) (length rest.pages))
    both (Ok rest) order map fan bound = one rest order map fan bound
    both (Err e) order map fan bound = order
