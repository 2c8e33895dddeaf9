-- What a page's number leads to, and what a write says of the list of the pages.
use Rattle.std.proofs.Common.{◌≡◌, ℕ, ◌<◌, inl, inr, zero, suc, Some, [], ◌∷◌, ◌++◌, length, get_or, set, refl, sym, ◌∙◌, subst, arith}
use Rattle.std.specs.Prelude.{slice_get}
use Rattle.std.proofs.lemmas.Bool.{cases_eq}
use Rattle.std.proofs.lemmas.Option.{slice_get_within, slice_get-get_or, get_or_from_slice_get}
use Rattle.blink_page.specs.{PlainPage, IsLawfulPage, empty_leaf}
use Rattle.blink_store.specs.Store.{PlainStore, page_of, HasPage, IsLawfulStore, WritesPage, SameFloorAndLevel, KeepsFloorsAndLevels}
use Rattle.blink_store.proofs.ChangedLists.{slice_get-set_same, slice_get-set_other, slice_get-push_same, slice_get-push_other, same_at_each}

-- a number with a page is that of a page that exists
pub has_page : (store : PlainStore) (n : ℕ) (page : PlainPage) → page_of store n ≡ Some page → HasPage store n
has_page store zero page there = cc
has_page store (suc n) page there = let inside : n < length store.pages = slice_get_within store.pages n page there in (omega arith, omega arith)

-- and each number from 1 to the last has a page
pub page_there : (store : PlainStore) (n : ℕ) → HasPage store n → (page : PlainPage) × (page_of store n ≡ Some page)
page_there store zero has = absurd (omega (arith, has.0))
page_there store (suc n) has = (get_or store.pages n empty_leaf, slice_get-get_or store.pages n empty_leaf (omega (arith, has.1)))

-- which is lawful
pub page_lawful : (store : PlainStore) (n : ℕ) (page : PlainPage) → IsLawfulStore store → page_of store n ≡ Some page → IsLawfulPage store.fan page
page_lawful store zero page lawful there = cc
page_lawful store (suc n) page lawful there =
    subst (IsLawfulPage store.fan) (get_or_from_slice_get store.pages n page page there)
    (lawful.lawful_pages n page (slice_get_within store.pages n page there))

-- two stores with the same page at each number have the same list of pages
pub same_pages : (old new : PlainStore) → ((n : ℕ) → page_of new n ≡ page_of old n) → new.pages ≡ old.pages
same_pages old new same = same_at_each new.pages old.pages (λ i. same (suc i))

module _ (old new : PlainStore) (page : PlainPage) where
  -- a write of a page that exists, in the list of the pages
  pub pages-write : (n : ℕ) → n < length old.pages → WritesPage old new (suc n) page → new.pages ≡ set old.pages n page
  pages-write n inside writes = same_at_each new.pages (set old.pages n page) (λ i. elim (cases_eq i n) [
    | inl same ↦ subst (λ (k : ℕ). slice_get new.pages k ≡ slice_get (set old.pages n page) k) (sym same)
        (writes.written ∙ sym (slice_get-set_same old.pages n page inside))
    | inr other ↦ writes.others (suc i) (λ same. other (omega arith)) ∙ sym (slice_get-set_other old.pages n i page other)
  ])

  -- a write at the number after the last
  pub pages-add : WritesPage old new (suc (length old.pages)) page → new.pages ≡ old.pages ++ page ∷ []
  pages-add writes = same_at_each new.pages (old.pages ++ page ∷ []) (λ i. elim (cases_eq i (length old.pages)) [
    | inl same ↦ subst (λ (k : ℕ). slice_get new.pages k ≡ slice_get (old.pages ++ page ∷ []) k) (sym same)
        (writes.written ∙ sym (slice_get-push_same old.pages page))
    | inr other ↦ writes.others (suc i) (λ same. other (omega arith)) ∙ sym (slice_get-push_other old.pages i page other)
  ])

  -- a write keeps floors and levels, where the page written has those of the page before it, if there was one
  pub keeps_by_write : (n : ℕ) → WritesPage old new n page → ((before : PlainPage) → page_of old n ≡ Some before → SameFloorAndLevel before page) → KeepsFloorsAndLevels old new
  keeps_by_write n writes same m before there = elim (cases_eq m n) [
    | inl here ↦ (
      page,
      subst (λ (k : ℕ). page_of new k ≡ Some page) (sym here) writes.written,
      same before (subst (λ (k : ℕ). page_of old k ≡ Some before) here there),
    )
    | inr other ↦ (before, writes.others m other ∙ there, (refl, refl))
  ]

-- floors and levels stay where nothing happens, and over one change after another
pub keeps_all : (store : PlainStore) → KeepsFloorsAndLevels store store
keeps_all store n page there = (page, there, (refl, refl))

pub keeps_over_both : (first second third : PlainStore) → KeepsFloorsAndLevels first second → KeepsFloorsAndLevels second third → KeepsFloorsAndLevels first third
keeps_over_both first second third before after n page there =
    let one = before n page there in
    let two = after n one.0 one.1 in
    (two.0, two.1, (two.2.0 ∙ one.2.0, two.2.1 ∙ one.2.1))
