-- Lists of different numbers: by recursion, in std's words, and joined.
use Rattle.std.proofs.Common.{◌≡◌, ◌≢◌, ℕ, ◌<◌, List, [], ◌∷◌, ◌++◌, length, zero, suc, ◌⊎◌, inl, inr, refl, sym, arith}
use Rattle.std.specs.List.{AllPairs, Contains, slice_index_or}
use Rattle.std.proofs.lemmas.List.Elements.{All-from_recursion, Contains-append_right}
use Rattle.std.proofs.lemmas.List.Kept.{AllPairs-cons}
use Rattle.blink_rest.specs.Numbers.{IsMember, Avoids, AllDiffer}

-- what is among them is not avoided
pub among_not_avoided : (n : ℕ) (ms : List ℕ) → IsMember n ms → Avoids n ms → ⊥
among_not_avoided n [] among avoids = among
among_not_avoided n (m ∷ ms) (inl same) avoids = avoids.0 same
among_not_avoided n (m ∷ ms) (inr later) avoids = among_not_avoided n ms later avoids.1

-- a number is avoided by two lists joined, if by both
pub Avoids-append : (n : ℕ) (xs ys : List ℕ) → Avoids n xs → Avoids n ys → Avoids n (xs ++ ys)
Avoids-append n [] ys before after = after
Avoids-append n (x ∷ xs) ys before after = (before.0, Avoids-append n xs ys before.1 after)

-- two lists of different numbers joined, if the second avoids each of the first
pub AllDiffer-append : (xs ys : List ℕ) → AllDiffer xs → AllDiffer ys → ((n : ℕ) → IsMember n xs → Avoids n ys) → AllDiffer (xs ++ ys)
AllDiffer-append [] ys before after apart = after
AllDiffer-append (x ∷ xs) ys before after apart =
    (Avoids-append x xs ys before.0 (apart x (inl refl)), AllDiffer-append xs ys before.1 after (λ n among. apart n (inr among)))

-- in std's word: no two places have the same number
pub AllPairs-from_differ : (ns : List ℕ) → AllDiffer ns → AllPairs (λ a b. a ≢ b) ns
AllPairs-from_differ [] differ = λ i j d before inside. absurd (omega arith)
AllPairs-from_differ (n ∷ ns) differ =
    AllPairs-cons (λ (a b : ℕ). a ≢ b) n ns (All-from_recursion (λ (m : ℕ). n ≢ m) ns differ.0) (AllPairs-from_differ ns differ.1)

-- in std's word: one of them
pub Contains-from_among : (ns : List ℕ) (n : ℕ) → IsMember n ns → Contains ns n
Contains-from_among [] n among = absurd among
Contains-from_among (m ∷ ms) n (inl same) = (0, omega arith, sym same)
Contains-from_among (m ∷ ms) n (inr later) = Contains-append_right (m ∷ []) ms n (Contains-from_among ms n later)

among_at : (ns : List ℕ) (n k : ℕ) → k < length ns → slice_index_or ns k n ≡ n → IsMember n ns
among_at [] n k inside here = absurd (omega arith)
among_at (m ∷ ms) n zero inside here = inl (sym here)
among_at (m ∷ ms) n (suc k) inside here = inr (among_at ms n k (omega arith) here)

-- and back from std's word
pub among_from_Contains : (ns : List ℕ) (n : ℕ) → Contains ns n → IsMember n ns
among_from_Contains ns n there = among_at ns n there.0 there.1 there.2

-- what is among two lists joined is among one of them
pub among_append : (n : ℕ) (xs ys : List ℕ) → IsMember n (xs ++ ys) → IsMember n xs ⊎ IsMember n ys
among_append n [] ys among = inr among
among_append n (x ∷ xs) ys (inl same) = inl (inl same)
among_append n (x ∷ xs) ys (inr later) = elim (among_append n xs ys later) [ inl before ↦ inl (inr before) | inr after ↦ inr after ]
