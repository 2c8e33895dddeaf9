-- The turns of a kind in a history are those of the places of the batch, added up.
use Rattle.std.proofs.Common.{◌≡◌, ℕ, ◌+◌, ◌*◌, ◌<◌, ◌≤◌, ◌&&◌, Bool, true, false, List, [], ◌∷◌, length, count_by, refl, ap, inl, inr, arith}
use Rattle.std.specs.List.{zip}
use Rattle.std.proofs.lemmas.Bool.{cases_Bool, cases_eq}
use Rattle.blink_steps.specs.Counts.{turns_of}
use Rattle.blink_steps.specs.Run.{Event}
use Rattle.blink_machine.specs.{one_if}
use Rattle.blink_steps.proofs.bounds.CountedTurns.{count_by-cons, turns_of-own, turns_of-other}

-- the turns of a kind at some places, from one on, as many as the list is long
abbrev pub turns_from : {X : Type 0} → (Event → Bool) → List Event → ℕ → List X → ℕ
turns_from of_kind history place [] = 0
turns_from of_kind history place (x ∷ xs) = turns_of place of_kind history + turns_from of_kind history (place + 1) xs

-- one more turn takes none away at a place
turns_of-grow : (of_kind : Event → Bool) (taken : Event) (history : List Event) (place : ℕ) → turns_of place of_kind history ≤ turns_of place of_kind (taken ∷ history)
turns_of-grow of_kind taken history place = elim (cases_eq taken.place place) [
  | inl same ↦ rw (turns_of-own place of_kind taken history same) (omega arith)
  | inr other ↦ rw (turns_of-other place of_kind taken history other) (omega arith)
]

-- nor at any places
turns_grow : {X : Type 0} (of_kind : Event → Bool) (taken : Event) (history : List Event) (place : ℕ) (xs : List X)
    → turns_from of_kind history place xs ≤ turns_from of_kind (taken ∷ history) place xs
turns_grow of_kind taken history place [] = omega arith
turns_grow of_kind taken history place (x ∷ xs) =
    let here = turns_of-grow of_kind taken history place in
    let rest = turns_grow of_kind taken history (place + 1) xs in
    omega arith

-- and a turn at one of the places adds its own
turns_more : {X : Type 0} (of_kind : Event → Bool) (taken : Event) (history : List Event) (place : ℕ) (xs : List X) → place ≤ taken.place → taken.place < place + length xs
    → turns_from of_kind history place xs + one_if (of_kind taken) ≤ turns_from of_kind (taken ∷ history) place xs
turns_more of_kind taken history place [] from to = absurd (omega arith)
turns_more of_kind taken history place (x ∷ xs) from to = elim (cases_eq taken.place place) [
  | inl same ↦
      let here = turns_of-own place of_kind taken history same in
      let rest = turns_grow of_kind taken history (place + 1) xs in
      omega arith
  | inr other ↦
      let here = turns_of-grow of_kind taken history place in
      let rest = turns_more of_kind taken history (place + 1) xs (omega arith) (omega arith) in
      omega arith
]

-- so all turns of a kind are of the places of a list, if none is of another
pub turns_are_of_places : {X : Type 0} (of_kind : Event → Bool) (history : List Event) (xs : List X)
    → ((place : ℕ) → 0 < turns_of place of_kind history → place < length xs) → count_by of_kind history ≤ turns_from of_kind history 0 xs
turns_are_of_places of_kind [] xs within = omega arith
turns_are_of_places of_kind (taken ∷ history) xs within =
    let earlier = turns_are_of_places of_kind history xs (λ place some. let more = turns_of-grow of_kind taken history place in within place (omega arith)) in
    let count = count_by-cons of_kind taken history in
    elim (cases_Bool (of_kind taken)) [
      | inr unlike ↦
          let count_none : one_if (of_kind taken) ≡ 0 = ap one_if unlike in
          let rest = turns_grow of_kind taken history 0 xs in
          omega arith
      | inl like ↦
          let count_one : one_if (of_kind taken) ≡ 1 = ap one_if like in
          let own = turns_of-own taken.place of_kind taken history refl in
          let inside : taken.place < length xs = within taken.place (omega arith) in
          let more = turns_more of_kind taken history 0 xs (omega arith) (omega arith) in
          omega arith
    ]

-- where each place has at most so many, all have at most so many times their number
pub turns_at_most : {X : Type 0} (of_kind : Event → Bool) (history : List Event) (place most : ℕ) (xs : List X) → ((at : ℕ) → turns_of at of_kind history ≤ most)
    → turns_from of_kind history place xs ≤ length xs * most
turns_at_most of_kind history place most [] each = omega arith
turns_at_most of_kind history place most (x ∷ xs) each =
    let here = each place in
    let rest = turns_at_most of_kind history (place + 1) most xs each in
    omega arith

-- of pairs no more pass a test of both halves than their first halves pass the test of theirs
pub count_of_pairs : {X Y : Type 0} (first : X → Bool) (second : Y → Bool) (xs : List X) (ys : List Y)
    → count_by (λ (pair : X × Y). first pair.0 && second pair.1) (zip xs ys) ≤ count_by first xs
count_of_pairs first second [] ys = omega arith
count_of_pairs first second (x ∷ xs) [] = omega arith
count_of_pairs {X} {Y} first second (x ∷ xs) (y ∷ ys) =
    let rest = count_of_pairs first second xs ys in
    let pairs = count_by-cons (λ (pair : X × Y). first pair.0 && second pair.1) (x, y) (zip xs ys) in
    let firsts = count_by-cons first x xs in
    let fewer = one_of_both (first x) (second y) in
    omega arith
  where
    one_of_both : (one two : Bool) → one_if (one && two) ≤ one_if one
    one_of_both true true = omega arith
    one_of_both true false = omega arith
    one_of_both false two = omega arith
