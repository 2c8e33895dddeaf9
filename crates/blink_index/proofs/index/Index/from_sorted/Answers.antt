use Rattle.std.proofs.Common.{◌≡◌, ◌≤◌, ℕ, List, inl, inr, length, sym, subst, arith}
use Rattle.blink_operation.specs.declared.Entry.{Entry}
use Rattle.blink_page.specs.{IsBadFan}
use Rattle.blink_page.specs.declared.limits.TheConstants.{MAX_FAN, MAX_PAGE, MIN_FAN}
use Rattle.blink_rest.specs.{IsMapOf, pairs_of}
use Rattle.blink_store.specs.{PlainStore}
use Rattle.blink_entries.specs.Index.{map_of}
use Rattle.blink_entries.specs.Packed.{ExceedsNumbers, IsInOrder, NeedsPages}
use Rattle.blink_entries.proofs.Offered.{length-pairs_of, no_tree_has_fewer, same_needs, the_map_is_kept}
use Rattle.blink_index.proofs.index.Index.from_sorted.Goals as goal

-- a fan between the bounds is none that is bad
good : (fan from : ℕ) → MIN_FAN ≤ fan → from ≤ MAX_FAN → from ≡ fan → ¬ IsBadFan fan
good fan from least most is = λ bad. elim bad [ inl low ↦ omega (arith, low, least) | inr high ↦ omega (arith, high, most, is) ]

-- pages that have numbers are no more than there are
has_numbers : (fan entries count : ℕ) → NeedsPages fan entries count → count ≤ MAX_PAGE → ¬ ExceedsNumbers fan entries
has_numbers fan entries count needs within = λ exceeds. let same = same_needs fan entries exceeds.0 count exceeds.1 needs in let more = exceeds.2 in omega (arith, same, more, within)

-- a tree of these entries
is_kept : (store : PlainStore) (entries : List Entry) → IsInOrder store → map_of store ≡ entries → IsMapOf store entries
is_kept store entries order is = subst (IsMapOf store) is (the_map_is_kept store (order.levels, order.are))

pub returns-in-Ok-clause-kept : goal.returns-in-Ok-clause-kept
returns-in-Ok-clause-kept c = is_kept c.in-Ok.rest c.args.entries.now c.in-Ok.ensures.in_order c.in-Ok.ensures.map

pub returns-in-Ok-clause-pages : goal.returns-in-Ok-clause-pages
returns-in-Ok-clause-pages c =
    let store = c.in-Ok.rest in let entries = c.args.entries.now in let count = c.pages_needed-count.result in
    let kept = is_kept store entries c.in-Ok.ensures.in_order c.in-Ok.ensures.map in
    let needs : NeedsPages store.fan (length (pairs_of entries)) count
    = subst (λ (f : ℕ). NeedsPages f (length (pairs_of entries)) count) (sym c.in-Ok.ensures.fan) (subst (λ (n : ℕ). NeedsPages c.args.fan n count) (sym (length-pairs_of entries)) c.pages_needed-count.ensures) in
    let least = no_tree_has_fewer store (pairs_of entries) count (c.in-Ok.ensures.in_order.levels, c.in-Ok.ensures.in_order.are) kept.kept needs in
    let most = c.in-Ok.ensures.few in
    let same : count ≡ length store.pages = omega (arith, least, most) in
    subst (NeedsPages c.args.fan (length entries)) same c.pages_needed-count.ensures

pub returns-in-Ok-clause-accepted : goal.returns-in-Ok-clause-accepted
returns-in-Ok-clause-accepted c = record {
  good_fan = good c.args.fan c.from.result c.if-fan-lt-MIN_FAN.false c.if-from-gt-MAX_FAN.false c.from.ensures;
  ascending = c.in_default.ensures.ascending;
  has_numbers = has_numbers c.args.fan (length c.args.entries.now) c.pages_needed-count.result c.pages_needed-count.ensures c.if-count.false;
}

pub returns-in-Err-clause-refused : goal.returns-in-Err-clause-refused
returns-in-Err-clause-refused c = record {
  good_fan = good c.args.fan c.from.result c.if-fan-lt-MIN_FAN.false c.if-from-gt-MAX_FAN.false c.from.ensures;
  ascending = c.in_default.ensures.ascending;
  has_numbers = has_numbers c.args.fan (length c.args.entries.now) c.pages_needed-count.result c.pages_needed-count.ensures c.if-count.false;
}
