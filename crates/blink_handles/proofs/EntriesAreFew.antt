-- An index has few pages, and a page has few entries.
use Rattle.std.proofs.Common.{◌≡◌, ℕ, zero, suc, ◌*◌, ◌<◌, ◌≤◌, ◌^◌, Option, Some, None, [], ◌∷◌, length, refl, subst, arith}
use Rattle.std.proofs.lemmas.List.{length-map}
use Rattle.std.proofs.Common.{length-append}
use Rattle.blink_batch.specs.{entry}
use Rattle.blink_index.specs.{map_of}
use Rattle.blink_index.specs.Index.{cells_from, level_of}
use Rattle.blink_page.specs.{PlainPage}
use Rattle.blink_rest.specs.{Pages, entries_along}
use Rattle.blink_store.specs.{IsLawfulStore, PlainStore, page_of}
use Rattle.std.specs.Prelude.{slice_get}
use Rattle.std.proofs.lemmas.Option.{slice_get_within, get_or_from_slice_get}
use Rattle.blink_page.specs.{IsLawfulPage}

-- a page that a number leads to is lawful
page_lawful : (store : PlainStore) (n : ℕ) (page : PlainPage) → IsLawfulStore store → page_of store n ≡ Some page → IsLawfulPage store.fan page
page_lawful store zero page lawful there = cc
page_lawful store (suc n) page lawful there =
    subst (IsLawfulPage store.fan) (get_or_from_slice_get store.pages n page page there) (lawful.lawful_pages n page (slice_get_within store.pages n page there))

module _ (pages : Pages) (each : (n : ℕ) (page : PlainPage) → pages n ≡ Some page → length page.entries ≤ 32) where
  -- so many pages along links have at most 32 times as many entries
  few_along : (most : ℕ) (link : Option ℕ) → length (entries_along (cells_from pages most link)) ≤ 32 * most
  few_along zero link = omega arith
  few_along (suc most) None = omega arith
  few_along (suc most) (Some number) =
      (elim (pages number) as (λ (found : Option PlainPage). pages number ≡ found
      → length (entries_along (elim found [ None ↦ [] | Some page ↦ record { number = number; page = page } ∷ cells_from pages most page.right ])) ≤ 32 * suc most) [
        | None ↦ λ is. omega arith
        | Some page ↦ λ is.
            let here = each number page is in
            let after = few_along most page.right in
            let both = length-append page.entries (entries_along (cells_from pages most page.right)) in
            omega (arith, here, after, both)
      ]) refl

pub few_in : (store : PlainStore) → IsLawfulStore store → length (map_of store) < 2 ^ 63
few_in store lawful =
    let fan = lawful.fan_in_range in
    let count = lawful.count_in_range in
    let few = few_along (page_of store) (λ n page there. let lawful_page = page_lawful store n page lawful there in omega (arith, lawful_page.at_most_fan, fan.1)) (length store.pages) (slice_get store.prime 0) in
    let same = length-map (entries_along (level_of store 0)) (λ (pair : ℕ × ℕ). entry pair.0 pair.1) in
    omega (arith, few, same, count.1)
