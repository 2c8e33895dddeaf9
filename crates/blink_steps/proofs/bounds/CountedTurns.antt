-- How many turns of an operation a history has, turn by turn.
use Rattle.std.proofs.Common.{◌≡◌, ℕ, ◌+◌, ◌≤◌, ◌==◌, ◌&&◌, ◌∙◌, Bool, true, false, List, [], ◌∷◌, length, count_by, refl, ap, inl, inr, arith}
use Rattle.std.proofs.lemmas.Bool.{cases_Bool, cases_eq, eq-eqb, ne_eqb}
use Rattle.std.proofs.lemmas.List.Sums.{count_by-le-length, sum_by-cons}
use Rattle.blink_machine.specs.{one_if, has_moved, moved_by}
use Rattle.blink_machine.specs.declared.step.Step.{Step}
use Rattle.blink_machine.specs.declared.step.Step.TheVariants.{Moved, Waited, Idle}
use Rattle.blink_machine.specs.declared.step.Kind.{Kind}
use Rattle.blink_steps.specs.Counts.{turns_of, takes_number, numbers_in, moves_in}
use Rattle.blink_steps.specs.Run.{Event}

-- a list with one more element has one more of a kind, where the element is of that kind
pub count_by-cons : {X : Type 0} (of_kind : X → Bool) (x : X) (xs : List X) → count_by of_kind (x ∷ xs) ≡ one_if (of_kind x) + count_by of_kind xs
count_by-cons of_kind x xs = sum_by-cons (λ y. one_if (of_kind y)) x xs

-- another operation's turn doesn't count
pub turns_of-other : (place : ℕ) (of_kind : Event → Bool) (taken : Event) (history : List Event) → (taken.place ≡ place → ⊥)
    → turns_of place of_kind (taken ∷ history) ≡ turns_of place of_kind history
turns_of-other place of_kind taken history other =
    let different : (taken.place == place) ≡ false = ne_eqb taken.place place other in
    count_by-cons (λ (turn : Event). turn.place == place && of_kind turn) taken history
    ∙ ap (λ (test : Bool). one_if (test && of_kind taken) + turns_of place of_kind history) different
    ∙ omega arith

-- a turn of the operation itself counts, where it is of the kind
pub turns_of-own : (place : ℕ) (of_kind : Event → Bool) (taken : Event) (history : List Event) → taken.place ≡ place
    → turns_of place of_kind (taken ∷ history) ≡ one_if (of_kind taken) + turns_of place of_kind history
turns_of-own place of_kind taken history same =
    let own : (taken.place == place) ≡ true = eq-eqb taken.place place same in
    count_by-cons (λ (turn : Event). turn.place == place && of_kind turn) taken history
    ∙ ap (λ (test : Bool). one_if (test && of_kind taken) + turns_of place of_kind history) own

-- a turn that isn't of the kind doesn't count
pub turns_of-unlike : (place : ℕ) (of_kind : Event → Bool) (taken : Event) (history : List Event) → of_kind taken ≡ false
    → turns_of place of_kind (taken ∷ history) ≡ turns_of place of_kind history
turns_of-unlike place of_kind taken history unlike = elim (cases_eq taken.place place) [
  | inl same ↦ turns_of-own place of_kind taken history same ∙ ap (λ (test : Bool). one_if test + turns_of place of_kind history) unlike ∙ omega arith
  | inr other ↦ turns_of-other place of_kind taken history other
]

-- no operation has more turns than the history
pub turns_of-few : (place : ℕ) (of_kind : Event → Bool) (history : List Event) → turns_of place of_kind history ≤ length history
turns_of-few place of_kind history = count_by-le-length (λ (taken : Event). taken.place == place && of_kind taken) history

-- an operation has no more turns of a kind than of a wider one
pub turns_of-wider : (place : ℕ) (of_kind wider : Event → Bool) (history : List Event) → ((taken : Event) → of_kind taken ≡ true → wider taken ≡ true)
    → turns_of place of_kind history ≤ turns_of place wider history
turns_of-wider place of_kind wider [] implies = omega arith
turns_of-wider place of_kind wider (taken ∷ history) implies =
    let rest : turns_of place of_kind history ≤ turns_of place wider history = turns_of-wider place of_kind wider history implies in
    elim (cases_eq taken.place place) [
      | inr other ↦ rw (turns_of-other place of_kind taken history other, turns_of-other place wider taken history other) rest
      | inl same ↦ rw (turns_of-own place of_kind taken history same, turns_of-own place wider taken history same) (elim (cases_Bool (of_kind taken)) [
        | inl here ↦ rw (here, implies taken here) (omega arith)
        | inr absent ↦ rw absent (omega arith)
      ])
    ]

-- what has moved by some kind has moved
has_moved_from : (of_kind : Kind → Bool) (step : Step) → moved_by of_kind step ≡ true → has_moved step ≡ true
has_moved_from of_kind (Moved kind) moved = refl
has_moved_from of_kind Waited moved = moved
has_moved_from of_kind Idle moved = moved

-- a turn that takes a number moves
moved_from_number : (moved writes : Bool) → (moved && writes) ≡ true → moved ≡ true
moved_from_number true writes both = refl
moved_from_number false writes both = both

-- so an operation takes no more numbers than steps
pub numbers_in-few : (history : List Event) (place : ℕ) → numbers_in history place ≤ moves_in history place
numbers_in-few history place = turns_of-wider place takes_number (λ (taken : Event). has_moved taken.step) history (λ taken takes. moved_from_number _ _ takes)

-- and has no more of its steps of one kind
pub moves_of-few : (of_kind : Kind → Bool) (history : List Event) (place : ℕ)
    → turns_of place (λ (taken : Event). moved_by of_kind taken.step) history ≤ moves_in history place
moves_of-few of_kind history place =
    turns_of-wider place (λ (taken : Event). moved_by of_kind taken.step) (λ (taken : Event). has_moved taken.step) history (λ taken moved. has_moved_from of_kind taken.step moved)
