-- A leaf that was changed in place.
use Rattle.std.proofs.Common.{◌≡◌, ℕ, ◌+◌, ◌-◌, ◌<◌, ◌≤◌, suc, zero, Some, None, get_or, length, sym, ap, subst, ◌∙◌, arith}
use Rattle.std.proofs.lemmas.Option.{get_or_from_slice_get}
use Rattle.blink_page.specs.declared.limits.TheConstants.{GREATEST_KEY}
use Rattle.blink_page.specs.declared.put.Put.{Put}
use Rattle.blink_page.specs.declared.put.Put.TheVariants.{Done, Present, Full}
use Rattle.blink_page.specs.{PlainPage, IsKeyOf, IsLawfulPage, added, value_at, with_entries}
use Rattle.blink_page.specs.Put.{OnDone, UnlessDone, UnlessPresent}
use Rattle.blink_page.proofs.Offered.{entries_with-leaf, lawful_entries_with, lawful_with_room, length-entries_with}
use Rattle.blink_store.specs.Store.{PlainStore, page_of, IsLawfulStore, WritesPage}
use Rattle.blink_store.proofs.PagesAfterChange.{with_page, lawful-write, writes-write}
use Rattle.blink_store.proofs.PagesByNumber.{has_page}

-- the page that stands at a number's place is that number's
pub page_at_place : (store : PlainStore) (n : ℕ) (page read : PlainPage) → page_of store n ≡ Some page → read ≡ get_or store.pages (n - 1) read → read ≡ page
page_at_place store zero page read there is = cc
page_at_place store (suc n) page read there is =
    let place : suc n - 1 ≡ n = omega arith in
    is ∙ ap (λ (k : ℕ). get_or store.pages k read) place ∙ get_or_from_slice_get store.pages n page read there

module _ (store : PlainStore) (n : ℕ) (before : PlainPage) (there : page_of store n ≡ Some before) (page : PlainPage) where
  -- the store with another lawful page at that place
  pub lawful_in_place : IsLawfulStore store → IsLawfulPage store.fan page → IsLawfulStore (with_page store page (n - 1))
  lawful_in_place lawful fits = lawful-write store page (n - 1) lawful fits

  pub writes_in_place : WritesPage store (with_page store page (n - 1)) n page
  writes_in_place = writes-write store page n (has_page store n before there)

  -- a put that is done has written the page that it was to write
  pub written_if_done : (result : Put) (wanted : PlainPage) → OnDone result (page ≡ wanted) → OnDone result (WritesPage store (with_page store page (n - 1)) n wanted)
  written_if_done Done wanted is = subst (WritesPage store (with_page store page (n - 1)) n) is writes_in_place
  written_if_done (Present found) wanted is = tt
  written_if_done Full wanted is = tt

module _ (fan : ℕ) (leaf : PlainPage) (lawful : IsLawfulPage fan leaf) (key value : ℕ) (own : IsKeyOf leaf key) (is_leaf : leaf.level ≡ 0) (fits : value ≤ GREATEST_KEY) (after : PlainPage) where
  -- a leaf that has gained an entry
  gained_lawful : value_at key leaf.entries ≡ None → length leaf.entries < fan → IsLawfulPage fan (with_entries leaf (added (key, value) leaf.entries))
  gained_lawful absent room =
      let more = lawful_entries_with fan leaf lawful key value own absent fits (λ above. absurd (omega arith)) in
      let few = length-entries_with fan leaf lawful key value own in
      let same = ap (with_entries leaf) (entries_with-leaf leaf (key, value) is_leaf) in
      subst (IsLawfulPage fan) same (lawful_with_room (fan + 1) fan _ more (omega (arith, few)))

  -- whatever a put makes of it, it stays lawful
  pub put_lawful : (result : Put) → UnlessPresent result (value_at key leaf.entries ≡ None) → OnDone result (length leaf.entries < fan)
      → OnDone result (after ≡ with_entries leaf (added (key, value) leaf.entries)) → UnlessDone result (after ≡ leaf) → IsLawfulPage fan after
  put_lawful Done absent room done same = subst (IsLawfulPage fan) (sym done) (gained_lawful absent room)
  put_lawful (Present found) absent room done same = subst (IsLawfulPage fan) (sym same) lawful
  put_lawful Full absent room done same = subst (IsLawfulPage fan) (sym same) lawful
