-- The first bytes of a writer stay, whatever it is given.
use Rattle.std.proofs.Common.{◌≡◌, ℕ, ◌≤◌, List, Option, Some, None, Result, Ok, Err, length, take, ap, ◌∙◌, arith}
use Rattle.std.proofs.lemmas.List.{length-take, take-append-le}
use Rattle.std.specs.Io.KnownBytes.{Appends, Keeps, WriteAppends}
use Rattle.index_main.specs.Appending.{BeginsWith}

-- where a list is cut at its beginning it is long enough
long_enough : (bytes all : List ℕ) → take (length bytes) all ≡ bytes → length bytes ≤ length all
long_enough bytes all same = let cut = length-take (length bytes) all in let as_long = ap (λ (xs : List ℕ). length xs) same in omega arith

pub stays_by_append : (before old new : Option (List ℕ)) (more : List ℕ) → BeginsWith before old → Appends old new more → BeginsWith before new
stays_by_append before None new more begins appends = λ bytes known. absurd (let none = begins bytes known in cc)
stays_by_append before (Some old) None more begins appends = absurd appends
stays_by_append before (Some old) (Some new) more begins appends = λ bytes known.
    let front : take (length bytes) old ≡ bytes = (let some = begins bytes known in cc) in
    ap (λ (all : List ℕ). Some (take (length bytes) all)) appends ∙ ap (λ (all : List ℕ). Some all) (take-append-le (length bytes) old more (long_enough bytes old front) ∙ front)

pub stays_kept : (before old new : Option (List ℕ)) → BeginsWith before old → Keeps old new → BeginsWith before new
stays_kept before None new begins keeps = λ bytes known. absurd (let none = begins bytes known in cc)
stays_kept before (Some old) None begins keeps = absurd keeps
stays_kept before (Some old) (Some new) begins keeps = λ bytes known. ap (λ (all : List ℕ). Some (take (length bytes) all)) keeps ∙ begins bytes known

pub stays_by_write : {E : Type 0} (before old new : Option (List ℕ)) (result : Result ℕ E) (given : List ℕ) → BeginsWith before old → WriteAppends old new result given → BeginsWith before new
stays_by_write before old new (Ok n) given begins appends = stays_by_append before old new (take n given) begins appends
stays_by_write before old new (Err error) given begins keeps = stays_kept before old new begins keeps
