-- What is got from a list by its place.
use Rattle.std.proofs.Common.{◌≡◌, ◌<◌, ◌≤◌, ℕ, List, Option, Some, None, Bor, IfSome, MatchOption, get_or, length, map, option_map, ap, sym, ◌∙◌, slice_get}
use Rattle.std.proofs.lemmas.List.{map-id}
use Rattle.std.proofs.lemmas.Option.{slice_get-get_or, slice_get-map, slice_get_past}

-- an element that is read at its place, seen by a function
pub read_mapped : {X Y : Type 0} (f : X → Y) (xs : List X) (i : ℕ) (x : X) → i < length xs → x ≡ get_or xs i x → Some (f x) ≡ slice_get (map f xs) i
read_mapped {X = X} f xs i x inside same =
    sym (slice_get-map f xs i ∙ ap (λ (found : Option X). option_map f found) (slice_get-get_or xs i x inside) ∙ ap (λ (y : X). Some (f y)) (sym same))

-- the element at the place, seen by a function, if there is one
pub got_mapped : {X Y : Type 0} (f : X → Y) (xs : List X) (i : ℕ) (Q : Bor X → Type 0) (found : Option (Bor X)) → IfSome found (λ x. x.now ≡ get_or xs i x.now) → MatchOption found (length xs ≤ i) (λ x. (i < length xs) × Q x)
    → option_map (λ (x : Bor X). f x.now) found ≡ slice_get (map f xs) i
got_mapped {X = X} {Y = Y} f xs i Q None same past = sym (slice_get-map f xs i ∙ ap (λ (x : Option X). option_map f x) (slice_get_past xs i past))
got_mapped {X = X} {Y = Y} f xs i Q (Some x) same inside = read_mapped f xs i x.now inside.0 same

pub got : {X : Type 0} (xs : List X) (i : ℕ) (Q : Bor X → Type 0) (found : Option (Bor X)) → IfSome found (λ x. x.now ≡ get_or xs i x.now) → MatchOption found (length xs ≤ i) (λ x. (i < length xs) × Q x)
    → option_map (λ (x : Bor X). x.now) found ≡ slice_get xs i
got {X = X} xs i Q found same inside = got_mapped (λ (x : X). x) xs i Q found same inside ∙ ap (λ (all : List X). slice_get all i) (map-id xs)
