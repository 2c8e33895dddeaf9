-- Pages that an operation has met, by where they stand: no page's level or floor changes, and so they tell pages apart.
use Rattle.std.proofs.Common.{◌≡◌, ℕ, zero, suc, ◌<◌, ◌≤◌, Some, List, [], ◌∷◌, length, ap, ◌∙◌, arith}
use Rattle.std.specs.Prelude.{⊤}
use Rattle.std.proofs.lemmas.Option.{slice_get_within}
use Rattle.blink_page.specs.{PlainPage, least_above}
use Rattle.blink_rest.specs.{Pages, AllDiffer, AreWithin, Avoids}
use Rattle.blink_store.specs.{PlainStore, page_of}
use Rattle.blink_machine.specs.{KeepsPlaces}
use Rattle.blink_rest.proofs.Offered.{at_most_n}

-- the page of this number has such a level and such a least key
pub record IsPageWith (pages : Pages) (kind : ℕ → ℕ → Type 0) (number : ℕ) : Type 0 where
  pub page : PlainPage
  pub there : pages number ≡ Some page
  pub is_so : kind page.level (least_above page.floor)

-- so has each page of these numbers
abbrev pub ArePagesWith : Pages → (ℕ → ℕ → Type 0) → List ℕ → Type 0
ArePagesWith pages kind [] = ⊤
ArePagesWith pages kind (number ∷ numbers) = IsPageWith pages kind number × ArePagesWith pages kind numbers

-- any page
abbrev pub IsAny : ℕ → ℕ → Type 0
IsAny level least = ⊤

-- on the way down a page comes after those on levels above it and those before it on its level
abbrev pub IsPassed : ℕ → ℕ → ℕ → ℕ → Type 0
IsPassed level least other first = (level ≤ other) × (other ≡ level → first < least)

-- with latches a page comes after those on levels below it and those before it on its level
abbrev pub IsBelow : ℕ → ℕ → ℕ → ℕ → Type 0
IsBelow level least other first = (other ≤ level) × (other ≡ level → first < least)

-- or it is one of them itself
abbrev pub IsUpTo : ℕ → ℕ → ℕ → ℕ → Type 0
IsUpTo level least other first = (other ≤ level) × (other ≡ level → first ≤ least)

-- the page is on this level or below
abbrev pub IsNotAbove : ℕ → ℕ → ℕ → Type 0
IsNotAbove level other first = other ≤ level

-- the page of this number comes after these
pub record ComesAfter (pages : Pages) (order : ℕ → ℕ → ℕ → ℕ → Type 0) (number : ℕ) (before : List ℕ) : Type 0 where
  pub page : PlainPage
  pub there : pages number ≡ Some page
  pub all_before : ArePagesWith pages (order page.level (least_above page.floor)) before

-- what is so of the pages by where they stand stays so
pub pages_stay : (old new : Pages) → KeepsPlaces old new → (kind : ℕ → ℕ → Type 0) (numbers : List ℕ) → ArePagesWith old kind numbers → ArePagesWith new kind numbers
pages_stay old new keeps kind [] are = tt
pages_stay old new keeps kind (number ∷ numbers) (is, are) =
    let it = keeps number is.page is.there in
    (record { page = it.0; there = it.1; is_so = rw (it.2.0, it.2.1) is.is_so }, pages_stay old new keeps kind numbers are)

-- and a page stays after others
pub after_stays : (old new : Pages) → KeepsPlaces old new → (order : ℕ → ℕ → ℕ → ℕ → Type 0) (number : ℕ) (before : List ℕ) → ComesAfter old order number before
    → ComesAfter new order number before
after_stays old new keeps order number before comes =
    let it = keeps number comes.page comes.there in
    let all = pages_stay old new keeps (order comes.page.level (least_above comes.page.floor)) before comes.all_before in
    record { page = it.0; there = it.1; all_before = rw (it.2.0, it.2.1) all }

-- pages of a kind are of every wider kind
pub pages_wider : (pages : Pages) (kind wider : ℕ → ℕ → Type 0) (numbers : List ℕ) → ((level least : ℕ) → kind level least → wider level least)
    → ArePagesWith pages kind numbers → ArePagesWith pages wider numbers
pages_wider pages kind wider [] implies are = tt
pages_wider pages kind wider (number ∷ numbers) implies (is, are) = (
  record { page = is.page; there = is.there; is_so = implies is.page.level (least_above is.page.floor) is.is_so },
  pages_wider pages kind wider numbers implies are,
)

-- a page that is not of the kind has another number than those that are
pub other_kind_avoids : (pages : Pages) (kind : ℕ → ℕ → Type 0) (number : ℕ) (page : PlainPage) (numbers : List ℕ) → pages number ≡ Some page
    → (kind page.level (least_above page.floor) → ⊥) → ArePagesWith pages kind numbers → Avoids number numbers
other_kind_avoids pages kind number page [] there unlike are = tt
other_kind_avoids pages kind number page (other ∷ numbers) there unlike (is, are) = (
  λ same.
      let also : pages number ≡ Some is.page = ap pages same ∙ is.there in
      let contents : is.page ≡ page = cc in
      unlike (rw contents at is.is_so),
  other_kind_avoids pages kind number page numbers there unlike are,
)

-- so a page has another number than those that it comes after, by an order in which none comes after itself
pub after_avoids : (pages : Pages) (order : ℕ → ℕ → ℕ → ℕ → Type 0) (number : ℕ) (before : List ℕ) → ((level least : ℕ) → order level least level least → ⊥)
    → ComesAfter pages order number before → Avoids number before
after_avoids pages order number before irreflexive comes =
    other_kind_avoids pages (order comes.page.level (least_above comes.page.floor)) number comes.page before comes.there
    (irreflexive comes.page.level (least_above comes.page.floor)) comes.all_before

-- the pages of a store have numbers from 1 to how many there are
numbers_within : (store : PlainStore) (kind : ℕ → ℕ → Type 0) (numbers : List ℕ) → ArePagesWith (page_of store) kind numbers → AreWithin (length store.pages) numbers
numbers_within store kind [] are = tt
numbers_within store kind (zero ∷ numbers) (is, are) = let there = is.there in absurd (cc)
numbers_within store kind (suc n ∷ numbers) (is, are) =
    let inside : n < length store.pages = slice_get_within store.pages n is.page is.there in
    (omega arith, omega arith, numbers_within store kind numbers are)

-- so different pages are no more than the store has
pub at_most_all : (store : PlainStore) (kind : ℕ → ℕ → Type 0) (numbers : List ℕ) → AllDiffer numbers → ArePagesWith (page_of store) kind numbers
    → length numbers ≤ length store.pages
at_most_all store kind numbers differ are = at_most_n (length store.pages) numbers differ (numbers_within store kind numbers are)
