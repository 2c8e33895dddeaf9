-- A store after one of its pages was written, or after a page was added.
use Rattle.std.proofs.Common.{◌≡◌, ◌≢◌, ℕ, Bool, true, false, ◌-◌, ◌+◌, ◌<◌, ◌≤◌, zero, suc, [], ◌∷◌, ◌++◌, length, set, refl, ap, sym, subst, arith, length-append}
use Rattle.std.specs.Prelude.{if◌then◌else◌}
use Rattle.std.proofs.lemmas.List.{length-set}
use Rattle.std.proofs.lemmas.List.Elements.{All-set, All-push}
use Rattle.blink_page.specs.{IsPageNumber, PlainPage, IsLawfulPage}
use Rattle.blink_page.specs.declared.limits.TheConstants.{MAX_FAN, MAX_PAGE}
use Rattle.blink_store.specs.Store.{PlainStore, page_of, HasPage, IsLawfulStore, WritesPage, KeepsFloorsAndLevels}
use Rattle.blink_store.proofs.ChangedLists.{slice_get-set_same, slice_get-set_other, slice_get-push_same, slice_get-push_other}
use Rattle.blink_store.proofs.PagesByNumber.{has_page, keeps_all, keeps_by_write}

-- a lawful page with at most `fan` entries
pub lawful_for : (fan : ℕ) (page : PlainPage) → IsLawfulPage MAX_FAN page → length page.entries ≤ fan → IsLawfulPage fan page
lawful_for fan page lawful few = record {
  level_in_range = lawful.level_in_range;
  high_in_range = lawful.high_in_range;
  floor_below_high = lawful.floor_below_high;
  right_unless_last = lawful.right_unless_last;
  right_is_number = lawful.right_is_number;
  at_most_fan = few;
  keys_rise = lawful.keys_rise;
  values_in_range = lawful.values_in_range;
  inner = lawful.inner;
}

module _ (store : PlainStore) (page : PlainPage) where
  -- the store after a write at this place of the list
  abbrev pub with_page : ℕ → PlainStore
  with_page i = record { fan = store.fan; prime = store.prime; pages = set store.pages i page }

  pub lawful-write : (i : ℕ) → IsLawfulStore store → IsLawfulPage store.fan page → IsLawfulStore (with_page i)
  lawful-write i lawful fits = record {
    fan_in_range = lawful.fan_in_range;
    some_level = lawful.some_level;
    prime_numbers = lawful.prime_numbers;
    lawful_pages = All-set (IsLawfulPage store.fan) store.pages i page fits lawful.lawful_pages;
    count_in_range = subst IsPageNumber (sym (length-set store.pages i page)) lawful.count_in_range;
  }

  other_pages : (i other : ℕ) → other ≢ suc i → page_of (with_page i) other ≡ page_of store other
  other_pages i zero apart = refl
  other_pages i (suc j) apart = slice_get-set_other store.pages i j page (λ same. apart (ap suc same))

  writes_after : (i : ℕ) → i < length store.pages → WritesPage store (with_page i) (suc i) page
  writes_after i inside = record {
    same_fan = refl;
    same_prime = refl;
    written = slice_get-set_same store.pages i page inside;
    others = other_pages i;
  }

  -- it wrote page n
  pub writes-write : (n : ℕ) → HasPage store n → WritesPage store (with_page (n - 1)) n page
  writes-write n has =
      let next : suc (n - 1) ≡ n = omega (arith, has.0) in
      let inside : n - 1 < length store.pages = omega (arith, has.0, has.1) in
      subst (λ (k : ℕ). WritesPage store (with_page (n - 1)) k page) next (writes_after (n - 1) inside)

  -- the store after a page was added, or after there was no memory for it
  abbrev pub with_page_if : Bool → PlainStore
  with_page_if added = record { fan = store.fan; prime = store.prime; pages = if added then store.pages ++ page ∷ [] else store.pages }

  -- a page number that is left makes room for one page more
  pub lawful-add : (added : Bool) → IsLawfulStore store → IsLawfulPage store.fan page → length store.pages ≢ MAX_PAGE
      → IsLawfulStore (with_page_if added)
  lawful-add false lawful fits room = lawful
  lawful-add true lawful fits room = record {
    fan_in_range = lawful.fan_in_range;
    some_level = lawful.some_level;
    prime_numbers = lawful.prime_numbers;
    lawful_pages = All-push (IsLawfulPage store.fan) store.pages page lawful.lawful_pages fits;
    count_in_range =
        let more = length-append store.pages (page ∷ []) in
        (omega (arith, more), omega (arith, more, room, lawful.count_in_range.1));
  }

  earlier_pages : (other : ℕ) → other ≢ length store.pages + 1 → page_of (with_page_if true) other ≡ page_of store other
  earlier_pages zero apart = refl
  earlier_pages (suc j) apart = slice_get-push_other store.pages j page (λ same. apart (omega arith))

  -- it wrote the page after the last
  pub writes-add : (n : ℕ) → length store.pages + 1 ≡ n → WritesPage store (with_page_if true) n page
  writes-add n last = subst (λ (k : ℕ). WritesPage store (with_page_if true) k page) last (record {
    same_fan = refl;
    same_prime = refl;
    written =
        let next : length store.pages + 1 ≡ suc (length store.pages) = omega arith in
        rw next (slice_get-push_same store.pages page);
    others = earlier_pages;
  })

  -- either way floors and levels stay
  pub keeps-add : (added : Bool) → KeepsFloorsAndLevels store (with_page_if added)
  keeps-add false = keeps_all store
  keeps-add true = keeps_by_write store (with_page_if true) page (length store.pages + 1) (writes-add _ refl)
      (λ before there. absurd (omega (arith, has_page store (length store.pages + 1) before there)))
