-- What parts make a lawful page.
use Rattle.std.proofs.Common.{◌≡◌, ℕ, ◌+◌, ◌<◌, ◌≤◌, zero, suc, List, [], ◌∷◌, ◌++◌, length, get_or, drop, refl, subst, arith}
use Rattle.std.proofs.lemmas.List.{drop_more}
use Rattle.blink_page.proofs.Offered.{from_at_most_to}
use Rattle.blink_page.specs.declared.limits.TheConstants.{MAX_PAGE}
use Rattle.blink_page.specs.{IsPageNumber, least_above, IsRising, Covers, ValuesWithin, last_key, last_key_or, PlainPage, HasChildren}

-- keys that rise to the last one cover all up to it
covers_to_last : (from key : ℕ) (xs : List (ℕ × ℕ)) (high : ℕ) → IsRising from xs (high + 1) → 0 < length xs → last_key_or key xs ≡ high → Covers from xs (high + 1)
covers_to_last from key [] high rises some last = absurd (omega arith)
covers_to_last from key ((k, v) ∷ []) high rises some last = (rises.0, omega arith)
covers_to_last from key ((k, v) ∷ y ∷ rest) high rises some last = (rises.0, covers_to_last (k + 1) k (y ∷ rest) high rises.1 (omega arith) last)

last_of_covers : (from key : ℕ) (xs : List (ℕ × ℕ)) (high : ℕ) → Covers from xs (high + 1) → 0 < length xs → last_key_or key xs ≡ high
last_of_covers from key [] high covers some = absurd (omega arith)
last_of_covers from key ((k, v) ∷ []) high covers some = omega (arith, covers.1)
last_of_covers from key ((k, v) ∷ y ∷ rest) high covers some = last_of_covers (k + 1) k (y ∷ rest) high covers.1 (omega arith)

-- the last key by its place
last_key_or-place : (key : ℕ) (xs : List (ℕ × ℕ)) (n : ℕ) → length xs ≡ suc n → last_key_or key xs ≡ (get_or xs n (0, 0)).0
last_key_or-place key [] n long = absurd (omega arith)
last_key_or-place key (x ∷ []) zero long = refl
last_key_or-place key (x ∷ []) (suc n) long = absurd (omega arith)
last_key_or-place key (x ∷ y ∷ rest) zero long = absurd (omega arith)
last_key_or-place key (x ∷ y ∷ rest) (suc n) long = last_key_or-place x.0 (y ∷ rest) n (omega arith)

pub last_key-place : (xs : List (ℕ × ℕ)) (n : ℕ) → length xs ≡ n + 1 → last_key xs ≡ (get_or xs n (0, 0)).0
last_key-place xs n long = last_key_or-place 0 xs n (omega arith)

-- the values by their places
pub values_from_places : (xs : List (ℕ × ℕ)) → ((n : ℕ) → n < length xs → IsPageNumber (get_or xs n (0, 0)).1) → ValuesWithin 1 MAX_PAGE xs
values_from_places [] each = tt
values_from_places ((k, v) ∷ rest) each =
    let here : IsPageNumber v = each zero (omega arith) in
    (here.0, here.1, values_from_places rest (λ n below. each (suc n) (omega arith)))

pub places_from_values : (xs : List (ℕ × ℕ)) → ValuesWithin 1 MAX_PAGE xs → (n : ℕ) → n < length xs → IsPageNumber (get_or xs n (0, 0)).1
places_from_values [] values n below = absurd (omega arith)
places_from_values ((k, v) ∷ rest) values zero below = (values.0, values.1)
places_from_values ((k, v) ∷ rest) values (suc n) below = places_from_values rest values.2 n (omega arith)

module _ (p : PlainPage) where
  -- what leads down from an inner page
  pub children_from_parts : IsRising (least_above p.floor) p.entries (p.high + 1) → 2 ≤ length p.entries → last_key p.entries ≡ p.high → ValuesWithin 1 MAX_PAGE p.entries → HasChildren p
  children_from_parts rises two last values = record {
    two_at_least = two;
    last_is_high = covers_to_last _ 0 p.entries p.high rises (omega arith) last;
    children = values;
  }

  pub last_key_of_children : HasChildren p → last_key p.entries ≡ p.high
  last_key_of_children has = last_of_covers _ 0 p.entries p.high has.last_is_high (omega (arith, has.two_at_least))

-- keys that rise do so at each place, above what is before it and up to the high key
pub rises_at : (from : ℕ) (xs : List (ℕ × ℕ)) (i high : ℕ) (d : ℕ × ℕ) → i < length xs → IsRising from (drop i xs) (high + 1) → (from ≤ (get_or xs i d).0) × ((get_or xs i d).0 ≤ high)
rises_at from xs i high d inside rises =
    let first = drop_more xs i d inside in
    let split : IsRising from (get_or xs i d ∷ drop (i + 1) xs) (high + 1) = subst (λ ys. IsRising from ys (high + 1)) first rises in
    (split.0, omega (arith, from_at_most_to ((get_or xs i d).0 + 1) (drop (i + 1) xs) (high + 1) split.1))

-- each value of a list that is one longer
pub values_push : (least greatest : ℕ) (xs : List (ℕ × ℕ)) (k v : ℕ) → ValuesWithin least greatest xs → least ≤ v → v ≤ greatest → ValuesWithin least greatest (xs ++ (k, v) ∷ [])
values_push least greatest [] k v values low high = (low, high, tt)
values_push least greatest ((l, w) ∷ rest) k v values low high = (values.0, values.1, values_push least greatest rest k v values.2 low high)
