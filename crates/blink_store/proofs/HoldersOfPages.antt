-- Who holds a page, in the list of what each worker holds.
use Rattle.std.proofs.Common.{◌≡◌, ℕ, ◌+◌, ◌<◌, true, false, cond, eqb, zero, suc, Option, Some, None, List, [], ◌∷◌, length, get_or, inl, inr, refl, sym, ◌∙◌, ap, subst, arith}
use Rattle.std.specs.Prelude.{◌⊎◌}
use Rattle.std.proofs.lemmas.Bool.Decides.{nat_tests}
use Rattle.std.specs.Option.{option_eq}
use Rattle.std.proofs.lemmas.Option.{slice_get_within, slice_get-get_or}
use Rattle.blink_store.specs.Latches.{Holds, IsHeldByOne, holder_from, holder_of, HoldsNone}
use Rattle.blink_store.specs.declared.latches.TheConstants.{WORKERS}

-- there is some value or none
pub some_or_none : (o : Option ℕ) → ((x : ℕ) × (o ≡ Some x)) ⊎ (o ≡ None)
some_or_none None = inr refl
some_or_none (Some x) = inl (x, refl)

module _ (page : ℕ) where
  -- the worker who is found holds the page
  pub found_from : (first : ℕ) (held : List (Option ℕ)) (worker : ℕ) → holder_from first held page ≡ Some worker
      → (at : ℕ) × (worker ≡ first + at) × Holds held at page
  found_from first [] worker found = cc
  found_from first (None ∷ rest) worker found =
      let r = found_from (suc first) rest worker found in (suc r.0, omega (arith, r.1), r.2)
  found_from first (Some h ∷ rest) worker found =
      (elim (eqb h page) as (λ b. eqb h page ≡ b → cond b (Some first) (holder_from (suc first) rest page) ≡ Some worker
      → (at : ℕ) × (worker ≡ first + at) × Holds (Some h ∷ rest) at page) [
        | true ↦ λ same is. (0, grind arith, (let e : h ≡ page = grind (arith, nat_tests) in ap (λ n. Some (Some n)) e))
        | false ↦ λ differ is. let r = found_from (suc first) rest worker is in (suc r.0, omega (arith, r.1), r.2)
      ]) refl found

  -- where none is found, no one holds it
  pub none_from : (first : ℕ) (held : List (Option ℕ)) (at : ℕ) → holder_from first held page ≡ None → Holds held at page → ⊥
  none_from first [] at none holds = let h : ◌≡◌ {A = Option (Option ℕ)} None (Some (Some page)) = holds in cc
  none_from first (None ∷ rest) zero none holds = let h : ◌≡◌ {A = Option (Option ℕ)} (Some None) (Some (Some page)) = holds in cc
  none_from first (None ∷ rest) (suc at) none holds = none_from (suc first) rest at none holds
  none_from first (Some h ∷ rest) zero none holds =
      let e : ◌≡◌ {A = Option (Option ℕ)} (Some (Some h)) (Some (Some page)) = holds in
      let same : h ≡ page = cc in
      (elim (eqb h page) as (λ b. eqb h page ≡ b → cond b (Some first) (holder_from (suc first) rest page) ≡ None → ⊥) [
        | true ↦ λ is found. cc
        | false ↦ λ differ is. grind (arith, nat_tests)
      ]) refl none
  none_from first (Some h ∷ rest) (suc at) none holds =
      (elim (eqb h page) as (λ b. cond b (Some first) (holder_from (suc first) rest page) ≡ None → ⊥) [
        | true ↦ λ found. cc
        | false ↦ λ is. none_from (suc first) rest at is holds
      ]) none

module _ (held : List (Option ℕ)) where
  -- the holder of a page holds it
  pub holder_holds : (page worker : ℕ) → holder_of held page ≡ Some worker → Holds held worker page
  holder_holds page worker found =
      let r = found_from page 0 held worker found in
      let same : r.0 ≡ worker = omega (arith, r.1) in
      subst (λ (w : ℕ). Holds held w page) same r.2

  -- a page without a holder is held by no worker
  pub none_holds : (page worker : ℕ) → holder_of held page ≡ None → Holds held worker page → ⊥
  none_holds page worker none holds = none_from page 0 held worker none holds

  module _ (one : IsHeldByOne held) where
    -- who holds a page is its holder
    pub holder_of-holds : (page worker : ℕ) → Holds held worker page → holder_of held page ≡ Some worker
    holder_of-holds page worker holds =
        elim (some_or_none (holder_of held page)) [
          | inl found ↦ found.1 ∙ ap Some (one.one_each found.0 worker page (holder_holds page found.0 found.1) holds)
          | inr none ↦ absurd (none_holds page worker none holds)
        ]

    -- a worker who holds no page has an empty entry
    pub empty_entry : (worker page : ℕ) → HoldsNone held worker → Holds held worker page → ⊥
    empty_entry worker page idle holds = idle page (holder_of-holds page worker holds)

-- a page that the same workers hold before and after has the same holder
pub same_holder : (old new : List (Option ℕ)) (page : ℕ) → IsHeldByOne new
    → ((worker : ℕ) → Holds old worker page → Holds new worker page)
    → ((worker : ℕ) → Holds new worker page → Holds old worker page)
    → holder_of new page ≡ holder_of old page
same_holder old new page one there back =
    elim (some_or_none (holder_of old page)) [
      | inl found ↦ holder_of-holds new one page found.0 (there found.0 (holder_holds old page found.0 found.1)) ∙ sym found.1
      | inr none ↦ elim (some_or_none (holder_of new page)) [
        | inl found ↦ absurd (none_holds old page found.0 none (back found.0 (holder_holds new page found.0 found.1)))
        | inr still ↦ still ∙ sym none
      ]
    ]

-- a worker who holds a page is one of the workers
pub holder_inside : (held : List (Option ℕ)) → IsHeldByOne held → (worker page : ℕ) → holder_of held page ≡ Some worker → worker < WORKERS
holder_inside held one worker page holds = omega (arith, one.workers, slice_get_within held worker (Some page) (holder_holds held page worker holds))

-- a page that no worker holds has no holder
pub nobody : (held : List (Option ℕ)) (page : ℕ) → IsHeldByOne held → ((worker : ℕ) → worker < WORKERS → Holds held worker page → ⊥) → holder_of held page ≡ None
nobody held page one free =
    elim (some_or_none (holder_of held page)) [
      | inl found ↦ absurd (free found.0 (holder_inside held one found.0 page found.1) (holder_holds held page found.0 found.1))
      | inr none ↦ none
    ]

-- a worker holds at most one page
pub one_page_each : (held : List (Option ℕ)) (first second worker : ℕ) → holder_of held first ≡ Some worker → holder_of held second ≡ Some worker → first ≡ second
one_page_each held first second worker of_first of_second =
    let a : Holds held worker first = holder_holds held first worker of_first in
    let b : Holds held worker second = holder_holds held second worker of_second in
    cc

-- what a read of an entry tells
is_same : (entry : Option ℕ) (page : ℕ) → option_eq eqb entry (Some page) ≡ true → entry ≡ Some page
is_same None page same = cc
is_same (Some h) page same = let e : h ≡ page = grind (arith, nat_tests) in ap (λ n. Some n) e

is_other : (entry : Option ℕ) (page : ℕ) → option_eq eqb entry (Some page) ≡ false → entry ≡ Some page → ⊥
is_other None page other same = cc
is_other (Some h) page other same = let e : h ≡ page = cc in grind (arith, nat_tests)

module _ (held : List (Option ℕ)) (at page : ℕ) (inside : at < length held) where
  pub read_holds : option_eq eqb (get_or held at None) (Some page) ≡ true → Holds held at page
  read_holds same = slice_get-get_or held at None inside ∙ ap (λ (o : Option ℕ). Some o) (is_same (get_or held at None) page same)

  pub read_other : option_eq eqb (get_or held at None) (Some page) ≡ false → Holds held at page → ⊥
  read_other other holds =
      let e : ◌≡◌ {A = Option (Option ℕ)} (Some (get_or held at None)) (Some (Some page)) = sym (slice_get-get_or held at None inside) ∙ holds in
      is_other (get_or held at None) page other cc
