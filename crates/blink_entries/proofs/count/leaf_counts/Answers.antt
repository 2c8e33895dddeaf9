use Rattle.std.proofs.Common.{◌≡◌, ℕ, ◌+◌, Option, Some, List, length, get_or, zero-add, ap, sym, subst, ◌∙◌, length-append, arith}
use Rattle.std.proofs.lemmas.Option.{slice_get-get_or}
use Rattle.blink_page.specs.{PlainPage}
use Rattle.blink_rest.specs.{entries_along}
use Rattle.blink_entries.specs.Index.{level_of, map_of}
use Rattle.blink_entries.specs.Scan.{IsLinkOf, entries_after}
use Rattle.blink_entries.proofs.LevelsAsLines.{level_link}
use Rattle.blink_entries.proofs.MapOfStore.{the_map_is_kept}
use Rattle.blink_entries.proofs.WhereLinksLead.{link_page, leads_on, no_link_no_entry}
use Rattle.blink_entries.proofs.packed.EntriesOfScan.{counted, length-entries_from}
use Rattle.blink_entries.proofs.count.leaf_counts.Goals as goal

pub leaves-init : goal.leaves-init
leaves-init c =
    let store = c.args.store.now in
    let read : c.deref.result.now ≡ store.prime = c.deref.ensures.0 ∙ c.behind-store.view_is ∙ c.prime.ensures.prime in
    let inside = c.prime.ensures.some_level in record {
      is_link = subst (λ (ns : List ℕ). IsLinkOf store (Some (get_or ns 0 0))) (sym read) (level_link store 0 inside c.requires);
      parts = zero-add (length (entries_after store (Some (get_or c.deref.result.now 0 0))))
          ∙ (ap (λ (ns : List ℕ). length (entries_after store (Some (get_or ns 0 0)))) read
          ∙ (sym (ap (λ (link : Option ℕ). length (entries_after store link)) (slice_get-get_or store.prime 0 0 inside))
          ∙ sym (length-entries_from (entries_along (level_of store 0)))));
    }

pub read-leaf-requires : goal.read-leaf-requires
read-leaf-requires c = link_page c.args.store.now c.leaves.link c.in-Some.number c.in-Some.is c.leaves.invariant.is_link

pub overflow_add-count : goal.overflow_add-count
overflow_add-count c =
    let store = c.args.store.now in
    let on = leads_on store c.leaves.link c.in-Some.number c.in-Some.is c.leaves.invariant.is_link c.read-leaf.result.now c.read-leaf.ensures.page in
    let own : length c.leaf.inside.items.items ≡ length c.read-leaf.result.now.entries = ap (λ (p : PlainPage). length p.entries) c.leaf.view_is in
    let parts : length (entries_after store c.leaves.link) ≡ length c.read-leaf.result.now.entries + length (entries_after store c.read-leaf.result.now.right) = ap length on.entries ∙ length-append c.read-leaf.result.now.entries (entries_after store c.read-leaf.result.now.right) in
    let few = counted store (map_of store) c.requires (the_map_is_kept store c.requires) (let count = c.pages-pages.ensures.count in let range = c.pages-pages.ensures.in_range.1 in omega (arith, count, range)) (let fan = c.fan-fan.ensures.fan in let range = c.fan-fan.ensures.in_range.1 in omega (arith, fan, range)) in
    omega (arith, few, parts, own, c.leaves.invariant.parts, c.len-count.ensures.value)

pub leaves-preserved : goal.leaves-preserved
leaves-preserved c =
    let store = c.args.store.now in
    let on = leads_on store c.leaves.link c.in-Some.number c.in-Some.is c.leaves.invariant.is_link c.read-leaf.result.now c.read-leaf.ensures.page in
    let own : length c.leaf.inside.items.items ≡ length c.read-leaf.result.now.entries = ap (λ (p : PlainPage). length p.entries) c.leaf.view_is in
    let parts : length (entries_after store c.leaves.link) ≡ length c.read-leaf.result.now.entries + length (entries_after store c.read-leaf.result.now.right) = ap length on.entries ∙ length-append c.read-leaf.result.now.entries (entries_after store c.read-leaf.result.now.right) in
    let all : c.leaves.count + c.len-count.result + length (entries_after store c.read-leaf.result.now.right) ≡ length (map_of store) = omega (arith, parts, own, c.leaves.invariant.parts, c.len-count.ensures.value) in
    rw (ap (λ (p : PlainPage). p.right) c.leaf.view_is) (record { is_link = on.onward; parts = all })

pub leaves-smaller : goal.leaves-smaller
leaves-smaller c =
    let on = leads_on c.args.store.now c.leaves.link c.in-Some.number c.in-Some.is c.leaves.invariant.is_link c.read-leaf.result.now c.read-leaf.ensures.page in
    rw (ap (λ (p : PlainPage). p.right) c.leaf.view_is) on.falls

pub returns : goal.returns
returns c =
    let store = c.args.store.now in
    let none : length (entries_after store c.leaves.link) ≡ 0 = ap (λ (link : Option ℕ). length (entries_after store link)) c.in_default.is ∙ ap length (no_link_no_entry store) in
    omega (arith, none, c.leaves.invariant.parts)
