-- Counting: how many different numbers from 1 to n there are.
use Rattle.std.proofs.Common.{◌≡◌, ◌≢◌, ℕ, ◌+◌, ◌≤◌, cond, eqb, List, [], ◌∷◌, length, zero, suc, ◌⊎◌, inl, inr, sym, subst, ◌∙◌, arith}
use Rattle.std.proofs.lemmas.Bool.{cases_eq, cond_both}
use Rattle.std.proofs.lemmas.Bool.Decides.{nat_tests}
use Rattle.blink_rest.specs.Numbers.{IsMember, Avoids, AllDiffer, AreWithin}

-- a number is among them or not
pub among_or_avoided : (n : ℕ) (ms : List ℕ) → IsMember n ms ⊎ Avoids n ms
among_or_avoided n [] = inr tt
among_or_avoided n (m ∷ ms) = elim (cases_eq n m) [
  | inl same ↦ inl (inl same)
  | inr other ↦ elim (among_or_avoided n ms) [ inl later ↦ inl (inr later) | inr avoids ↦ inr (other, avoids) ]
]

-- the numbers without the first that is m
without : ℕ → List ℕ → List ℕ
without m [] = []
without m (k ∷ ks) = cond (eqb k m) ks (k ∷ without m ks)

module _ (m : ℕ) where
  -- at most one goes
  length-without : (ks : List ℕ) → length ks ≤ length (without m ks) + 1
  unfolding without
  length-without [] = omega arith
  length-without (k ∷ ks) = cond_both (eqb k m) ks (k ∷ without m ks) (λ zs. length (k ∷ ks) ≤ length zs + 1)
      (λ same. omega arith) (λ other. omega (arith, length-without ks))

  -- one goes that was there
  length-without_among : (ks : List ℕ) → IsMember m ks → length (without m ks) + 1 ≡ length ks
  unfolding without
  length-without_among [] among = absurd among
  length-without_among (k ∷ ks) (inl same) = cond_both (eqb k m) ks (k ∷ without m ks) (λ zs. length zs + 1 ≡ length (k ∷ ks))
      (λ here. omega arith) (λ other. absurd (grind (arith, nat_tests)))
  length-without_among (k ∷ ks) (inr later) = cond_both (eqb k m) ks (k ∷ without m ks) (λ zs. length zs + 1 ≡ length (k ∷ ks))
      (λ here. omega arith) (λ other. omega (arith, length-without_among ks later))

  -- the others stay
  among_without : (n : ℕ) (ks : List ℕ) → n ≢ m → IsMember n ks → IsMember n (without m ks)
  unfolding without
  among_without n [] differ among = among
  among_without n (k ∷ ks) differ (inl same) = cond_both (eqb k m) ks (k ∷ without m ks) (IsMember n)
      (λ here. absurd (differ (same ∙ grind (arith, nat_tests)))) (λ other. inl same)
  among_without n (k ∷ ks) differ (inr later) = cond_both (eqb k m) ks (k ∷ without m ks) (IsMember n)
      (λ here. later) (λ other. inr (among_without n ks differ later))

  -- none comes
  among_with : (n : ℕ) (ks : List ℕ) → IsMember n (without m ks) → IsMember n ks
  unfolding without
  among_with n [] among = among
  among_with n (k ∷ ks) among = cond_both (eqb k m) ks (k ∷ without m ks) (λ zs. IsMember n zs → IsMember n (k ∷ ks))
      (λ here later. inr later) (λ other found. elim found [ inl same ↦ inl same | inr later ↦ inr (among_with n ks later) ]) among

  avoids_without : (n : ℕ) (ks : List ℕ) → Avoids n ks → Avoids n (without m ks)
  unfolding without
  avoids_without n [] avoids = avoids
  avoids_without n (k ∷ ks) avoids = cond_both (eqb k m) ks (k ∷ without m ks) (Avoids n)
      (λ here. avoids.1) (λ other. (avoids.0, avoids_without n ks avoids.1))

  -- different numbers stay different
  differ_without : (ks : List ℕ) → AllDiffer ks → AllDiffer (without m ks)
  unfolding without
  differ_without [] differ = differ
  differ_without (k ∷ ks) differ = cond_both (eqb k m) ks (k ∷ without m ks) AllDiffer
      (λ here. differ.1) (λ other. (avoids_without k ks differ.0, differ_without ks differ.1))

-- numbers up to suc n without suc n are up to n
within_less : (n : ℕ) (ks : List ℕ) → Avoids (suc n) ks → AreWithin (suc n) ks → AreWithin n ks
within_less n [] avoids within = tt
within_less n (k ∷ ks) avoids within =
    let least = within.0 in let most = within.1 in
    elim (cases_eq (suc n) k) [ inl same ↦ absurd (avoids.0 same) | inr other ↦ (least, omega arith, within_less n ks avoids.1 within.2) ]

within_without : (n : ℕ) (ks : List ℕ) → AllDiffer ks → AreWithin (suc n) ks → AreWithin n (without (suc n) ks)
unfolding without
within_without n [] differ within = tt
within_without n (k ∷ ks) differ within = cond_both (eqb k (suc n)) ks (k ∷ without (suc n) ks) (AreWithin n)
    (λ here. let same : k ≡ suc n = grind (arith, nat_tests) in let P : ℕ → Type 0 = λ x. Avoids x ks in within_less n ks (subst P same differ.0) within.2)
    (λ other. let least = within.0 in let most = within.1 in let apart : k ≢ suc n = grind (arith, nat_tests) in
    (least, omega arith, within_without n ks differ.1 within.2))

-- different numbers from 1 to n are at most n
pub at_most_n : (n : ℕ) (ns : List ℕ) → AllDiffer ns → AreWithin n ns → length ns ≤ n
at_most_n zero [] differ within = omega arith
at_most_n zero (k ∷ ks) differ within = absurd (omega (arith, within.0, within.1))
at_most_n (suc n) ns differ within =
    omega (arith, length-without (suc n) ns, at_most_n n (without (suc n) ns) (differ_without (suc n) ns differ) (within_without n ns differ within))

-- and if they are n, each number from 1 to n is among them
pub all_n_among : (n : ℕ) (ns : List ℕ) → AllDiffer ns → AreWithin n ns → length ns ≡ n → (k : ℕ) → 1 ≤ k → k ≤ n → IsMember k ns
all_n_among zero ns differ within full k least most = absurd (omega arith)
all_n_among (suc n) ns differ within full k least most =
    let fewer = without (suc n) ns in
    let bound = at_most_n n fewer (differ_without (suc n) ns differ) (within_without n ns differ within) in
    elim (among_or_avoided (suc n) ns) [
      | inr avoids ↦ absurd (omega (arith, at_most_n n ns differ (within_less n ns avoids within)))
      | inl there ↦ elim (cases_eq k (suc n)) [
        | inl same ↦ (let P : ℕ → Type 0 = λ x. IsMember x ns in subst P (sym same) there)
        | inr other ↦ among_with (suc n) k ns
            (all_n_among n fewer (differ_without (suc n) ns differ) (within_without n ns differ within)
            (omega (arith, length-without_among (suc n) ns there)) k least (omega arith))
      ]
    ]

-- numbers with each from 1 to n among them are at least n
pub at_least_n : (n : ℕ) (ns : List ℕ) → ((k : ℕ) → 1 ≤ k → k ≤ n → IsMember k ns) → n ≤ length ns
at_least_n zero ns all = omega arith
at_least_n (suc n) ns all =
    omega (
      arith,
      length-without_among (suc n) ns (all (suc n) (omega arith) (omega arith)),
      at_least_n n (without (suc n) ns) (λ k least most. among_without (suc n) k ns (λ same. absurd (omega arith)) (all k least (omega arith))),
    )
