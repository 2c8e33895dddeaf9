-- Where no more changes are counted after a copy than before it, none was made meanwhile.
use Rattle.std.proofs.Common.{◌≡◌, ◌⊎◌, inl, inr, ℕ, zero, suc, ◌<◌, ◌≤◌, Bool, List, [], ◌∷◌, ◌++◌, length, length-append, append-nil, refl, sym, ap, ◌∙◌, subst, ⊎_elim, eq-eqb, arith}
use Rattle.std.specs.Prelude.{if◌then◌else◌}
use mathlib.Core.Option.{some}
use mathlib.Core.List.{IsPrefix}
use lib.ListN.{get_elem?}
use Rattle.blink_live.specs.declared.view.Change.{Change}
use Rattle.blink_live.specs.{HaveAuthors, made_at}
use Rattle.blink_live.proofs.Offered.{made_at-append, prefix_made}
use Rattle.blink_map.specs.declared.slots.Current.{Current}
use Rattle.blink_map.specs.Counts.{changes_of}
use Rattle.blink_map.specs.Laid.{slot_behind}
use Rattle.blink_map.specs.Renewing.{sum_of}

-- ---- the slots but one

pub behind_below : (copier k : ℕ) → k < copier → slot_behind copier k ≡ k
behind_below zero k below = absurd (omega (arith, below))
behind_below (suc copier) zero below = refl
behind_below (suc copier) (suc k) below = ap suc (behind_below copier k (omega (arith, below)))

pub behind_above : (copier k : ℕ) → copier ≤ k → slot_behind copier k ≡ suc k
behind_above zero k above = refl
behind_above (suc copier) zero above = absurd (omega (arith, above))
behind_above (suc copier) (suc k) above = ap suc (behind_above copier k (omega (arith, above)))

-- they are slots of the map
pub behind_inside : (copier k slots : ℕ) → suc k < slots → slot_behind copier k < slots
behind_inside zero k slots inside = inside
behind_inside (suc copier) zero slots inside = omega (arith, inside)
behind_inside (suc copier) (suc k) zero inside = absurd (omega (arith, inside))
behind_inside (suc copier) (suc k) (suc slots) inside = let less = behind_inside copier k slots (omega (arith, inside)) in omega (arith, less)

-- each slot is the one or among the others
abbrev pub IsBehind : ℕ → ℕ → ℕ → Type 0
IsBehind copier count slot = (k : ℕ) × (k < count) × (slot_behind copier k ≡ slot)

pub one_or_behind : (copier count slot : ℕ) → copier < suc count → slot < suc count → (slot ≡ copier) ⊎ IsBehind copier count slot
one_or_behind zero count zero one other = inl refl
one_or_behind zero count (suc slot) one other = inr (slot, omega (arith, other), refl)
one_or_behind (suc copier) zero slot one other = absurd (omega (arith, one))
one_or_behind (suc copier) (suc count) zero one other = inr (0, omega arith, refl)
one_or_behind (suc copier) (suc count) (suc slot) one other = ⊎_elim
    (λ (same : slot ≡ copier). inl (ap suc same))
    (λ (is : IsBehind copier count slot). let inside = is.1 in inr (suc is.0, omega (arith, inside), ap suc is.2))
    (one_or_behind copier count slot (omega (arith, one)) (omega (arith, other)))

-- ---- sums

-- each count is at most this value
pub counted_at_most : (others : List Current) (f : ℕ → ℕ) → ((k : ℕ) (held : Current) → get_elem? others k ≡ some held → held.changes ≤ f k) → changes_of others ≤ sum_of (length others) f
counted_at_most [] f each = omega arith
counted_at_most (held ∷ others) f each =
    let first = each 0 held refl in
    let more = counted_at_most others (λ (k : ℕ). f (suc k)) (λ k other is. each (suc k) other is) in
    omega (arith, first, more)

-- each count is at least this value
pub counted_at_least : (others : List Current) (f : ℕ → ℕ) → ((k : ℕ) (held : Current) → get_elem? others k ≡ some held → f k ≤ held.changes) → sum_of (length others) f ≤ changes_of others
counted_at_least [] f each = omega arith
counted_at_least (held ∷ others) f each =
    let first = each 0 held refl in
    let more = counted_at_least others (λ (k : ℕ). f (suc k)) (λ k other is. each (suc k) other is) in
    omega (arith, first, more)

-- one of them is at most all of them
pub one_of_counted : (others : List Current) (k : ℕ) (held : Current) → get_elem? others k ≡ some held → held.changes ≤ changes_of others
one_of_counted [] k held is = absurd (cc)
one_of_counted (first ∷ others) zero held is =
    let same : first.changes ≡ held.changes = ap (λ (c : Current). c.changes) (mathlib.Core.Option.some-injective first held is) in
    omega (arith, same)
one_of_counted (first ∷ others) (suc k) held is = let more = one_of_counted others k held is in omega (arith, more)

pub sum_at_most : (count : ℕ) (f g : ℕ → ℕ) → ((k : ℕ) → f k ≤ g k) → sum_of count f ≤ sum_of count g
sum_at_most zero f g each = omega arith
sum_at_most (suc count) f g each = let first = each 0 in let more = sum_at_most count (λ (k : ℕ). f (suc k)) (λ (k : ℕ). g (suc k)) (λ k. each (suc k)) in omega (arith, first, more)

-- no value has grown, if their sum hasn't
pub none_greater : (count : ℕ) (f g : ℕ → ℕ) → ((k : ℕ) → f k ≤ g k) → sum_of count g ≤ sum_of count f → (k : ℕ) → k < count → g k ≤ f k
none_greater zero f g each sum k inside = absurd (omega (arith, inside))
none_greater (suc count) f g each sum zero inside = let more = sum_at_most count (λ (k : ℕ). f (suc k)) (λ (k : ℕ). g (suc k)) (λ k. each (suc k)) in omega (arith, sum, more)
none_greater (suc count) f g each sum (suc k) inside =
    let first = each 0 in
    none_greater count (λ (j : ℕ). f (suc j)) (λ (j : ℕ). g (suc j)) (λ j. each (suc j)) (omega (arith, first, sum)) k (omega (arith, inside))

-- ---- lists

-- a longer list has no fewer changes at each place
pub made_more : (place : ℕ) (old new : List Change) → IsPrefix old new → length (made_at place old) ≤ length (made_at place new)
made_more place old new more =
    let made = prefix_made place old new more in
    let long = length-append (made_at place old) made.0 in
    let whole = ap (λ (l : List Change). length l) made.1 in
    omega (arith, long, whole)

-- the author of a change has made it
made_first : (change : Change) (more : List Change) → made_at change.author (change ∷ more) ≡ change ∷ made_at change.author more
made_first change more = ap (λ (b : Bool). if b then change ∷ made_at change.author more else made_at change.author more) (eq-eqb change.author change.author refl)

author_here : (slots : ℕ) (old : List Change) (change : Change) (more : List Change) → HaveAuthors slots (old ++ change ∷ more) → change.author < slots
author_here slots [] change more authors = authors 0 change (omega arith)
author_here slots (x ∷ old) change more authors = author_here slots old change more (λ k d inside. authors (suc k) d (omega (arith, inside)))

-- with no change more at any place a list is the same
pub no_change_more : (slots : ℕ) (old new : List Change) → IsPrefix old new → HaveAuthors slots new → ((slot : ℕ) → slot < slots → length (made_at slot new) ≤ length (made_at slot old)) → old ≡ new
no_change_more slots old new more authors none = go more.0 more.1
  where
    go : (rest : List Change) → old ++ rest ≡ new → old ≡ new
    go [] is = sym (append-nil old) ∙ is
    go (change ∷ rest) is =
        let inside = author_here slots old change rest (subst (HaveAuthors slots) (sym is) authors) in
        let at_most : length (made_at change.author new) ≤ length (made_at change.author old) = none change.author inside in
        let whole : length (made_at change.author new) ≡ length (made_at change.author old ++ made_at change.author (change ∷ rest)) = ap (λ (l : List Change). length l) (ap (made_at change.author) (sym is) ∙ made_at-append change.author old (change ∷ rest)) in
        let long = length-append (made_at change.author old) (made_at change.author (change ∷ rest)) in
        let one : length (made_at change.author (change ∷ rest)) ≡ suc (length (made_at change.author rest)) = ap (λ (l : List Change). length l) (made_first change rest) in
        absurd (omega (arith, at_most, whole, long, one))
