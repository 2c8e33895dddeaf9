-- Entries in the caller's places, as far as there are places; and what a filter leaves is no longer.
use Rattle.std.proofs.Common.{◌≡◌, ℕ, suc, ◌<◌, ◌≤◌, Bool, List, [], ◌∷◌, ◌++◌, length, set, refl, ap, arith}
use Rattle.std.specs.Prelude.{filter}
use Rattle.std.proofs.lemmas.List.Sums.{count_by-le-length, length-filter}
use Rattle.blink_batch.specs.declared.Entry.{Entry}
use Rattle.blink_handles.specs.declared.raw.RawEntry.{RawEntry}
use Rattle.blink_handles.specs.Filled.{overlaid}
use Rattle.blink_handles.specs.Raw.{raw_entry}

pub overlaid-inside : (shown : List Entry) (e : Entry) (places : List RawEntry) → length shown < length places
    → overlaid (shown ++ e ∷ []) places ≡ set (overlaid shown places) (length shown) (raw_entry e)
overlaid-inside [] e [] inside = absurd (omega (arith, inside))
overlaid-inside [] e (place ∷ places) inside = refl
overlaid-inside (x ∷ shown) e [] inside = absurd (omega (arith, inside))
overlaid-inside (x ∷ shown) e (place ∷ places) inside = ap (λ (rest : List RawEntry). raw_entry x ∷ rest) (overlaid-inside shown e places (omega (arith, inside)))

-- where all places are taken, more entries change none
pub overlaid-full : (shown more : List Entry) (places : List RawEntry) → length places ≤ length shown → overlaid (shown ++ more) places ≡ overlaid shown places
overlaid-full [] [] [] full = refl
overlaid-full [] (e ∷ more) [] full = refl
overlaid-full [] more (place ∷ places) full = absurd (omega (arith, full))
overlaid-full (x ∷ shown) more [] full = refl
overlaid-full (x ∷ shown) more (place ∷ places) full = ap (λ (rest : List RawEntry). raw_entry x ∷ rest) (overlaid-full shown more places (omega (arith, full)))

-- there are as many places as before
pub length-overlaid : (shown : List Entry) (places : List RawEntry) → length (overlaid shown places) ≡ length places
length-overlaid [] places = refl
length-overlaid (x ∷ shown) [] = refl
length-overlaid (x ∷ shown) (place ∷ places) = ap suc (length-overlaid shown places)

-- ---- lists that are no longer

pub few_filtered : (p : Entry → Bool) (entries : List Entry) (most : ℕ) → length entries < most → length (filter p entries) < most
few_filtered p entries most few =
    let counted = length-filter p entries in
    let fewer = count_by-le-length p entries in
    omega (arith, few, counted, fewer)
