-- The pages that an operation has read on its way and latched, turn by turn.
use Rattle.std.proofs.Common.{◌≡◌, ℕ, ◌+◌, ◌≤◌, ◌==◌, ◌&&◌, ◌∙◌, Bool, true, false, Option, Some, None, List, [], ◌∷◌, length, refl, ap, inl, inr, arith}
use Rattle.std.specs.Prelude.{if◌then◌else◌}
use Rattle.std.specs.List.{cons_option}
use Rattle.std.proofs.lemmas.Bool.{cases_Bool, cases_eq, eq-eqb, ne_eqb}
use Rattle.blink_machine.specs.declared.machine.State.{State}
use Rattle.blink_machine.specs.declared.step.Kind.{Kind}
use Rattle.blink_machine.specs.declared.step.Step.TheVariants.{Moved}
use Rattle.blink_steps.specs.StepBounds.{pages_of_turns}
use Rattle.blink_steps.specs.Counts.{moves_in}
use Rattle.blink_machine.specs.{has_moved}
use Rattle.blink_steps.specs.Run.{Event}
use Rattle.blink_steps.proofs.bounds.CountedTurns.{turns_of-own, turns_of-other, turns_of-unlike}

-- the page of a turn, where it is one of this place and moved
abbrev pub page_of_turn : (State → Option ℕ) → Event → Bool → Option ℕ
page_of_turn page_at taken counts = if counts then page_at taken.before.state else None

-- a turn that moves adds the page that its state says
pub pages_of-own : (page_at : State → Option ℕ) (taken : Event) (kind : Kind) (history : List Event) → taken.step ≡ Moved kind
    → pages_of_turns page_at (taken ∷ history) taken.place ≡ cons_option (page_at taken.before.state) (pages_of_turns page_at history taken.place)
pages_of-own page_at taken kind history moved =
    let own : (taken.place == taken.place) ≡ true = eq-eqb taken.place taken.place refl in
    let counts : (taken.place == taken.place && has_moved taken.step) ≡ true =
    ap (λ (test : Bool). test && has_moved taken.step) own ∙ ap has_moved moved in
    ap (λ (test : Bool). cons_option (page_of_turn page_at taken test) (pages_of_turns page_at history taken.place)) counts

-- another operation's turn adds none
pub pages_of-other : (page_at : State → Option ℕ) (taken : Event) (history : List Event) (place : ℕ) → (taken.place ≡ place → ⊥)
    → pages_of_turns page_at (taken ∷ history) place ≡ pages_of_turns page_at history place
pages_of-other page_at taken history place other =
    let different : (taken.place == place) ≡ false = ne_eqb taken.place place other in
    ap (λ (test : Bool). cons_option (page_of_turn page_at taken (test && has_moved taken.step)) (pages_of_turns page_at history place)) different

-- nor does one that doesn't move
pub pages_of-rest : (page_at : State → Option ℕ) (taken : Event) (history : List Event) (place : ℕ) → has_moved taken.step ≡ false
    → pages_of_turns page_at (taken ∷ history) place ≡ pages_of_turns page_at history place
pages_of-rest page_at taken history place rests = elim (cases_eq taken.place place) [
  | inr other ↦ pages_of-other page_at taken history place other
  | inl same ↦
      let own : (taken.place == place) ≡ true = eq-eqb taken.place place same in
      let counts : (taken.place == place && has_moved taken.step) ≡ false =
      ap (λ (test : Bool). test && has_moved taken.step) own ∙ rests in
      ap (λ (test : Bool). cons_option (page_of_turn page_at taken test) (pages_of_turns page_at history place)) counts
]

-- a page more makes a list longer by one at most
longer_by_one : (page : Option ℕ) (pages : List ℕ) → length (cons_option page pages) ≤ 1 + length pages
longer_by_one None pages = omega arith
longer_by_one (Some page) pages = omega arith

-- an operation has no more of these pages than steps
pub pages_of-few : (page_at : State → Option ℕ) (history : List Event) (place : ℕ) → length (pages_of_turns page_at history place) ≤ moves_in history place
pages_of-few page_at [] place = omega arith
pages_of-few page_at (taken ∷ history) place =
    let earlier = pages_of-few page_at history place in
    elim (cases_eq taken.place place) [
      | inr other ↦ rw (pages_of-other page_at taken history place other, turns_of-other place (λ (turn : Event). has_moved turn.step) taken history other) earlier
      | inl same ↦ elim (cases_Bool (has_moved taken.step)) [
        | inr rests ↦ rw (pages_of-rest page_at taken history place rests, turns_of-unlike place (λ (turn : Event). has_moved turn.step) taken history rests) earlier
        | inl moved ↦
            let count : moves_in (taken ∷ history) place ≡ 1 + moves_in history place =
            turns_of-own place (λ (turn : Event). has_moved turn.step) taken history same ∙ ap (λ (test : Bool). (if test then 1 else 0) + moves_in history place) moved in
            let more = longer_by_one (page_of_turn page_at taken (taken.place == place && has_moved taken.step)) (pages_of_turns page_at history place) in
            rw count (omega arith)
      ]
    ]

-- so one that has taken no step has none
pub no_pages : (page_at : State → Option ℕ) (history : List Event) (place : ℕ) → moves_in history place ≡ 0 → pages_of_turns page_at history place ≡ []
no_pages page_at history place none = is_empty (pages_of_turns page_at history place) (omega (arith, pages_of-few page_at history place))
  where
    is_empty : (pages : List ℕ) → length pages ≡ 0 → pages ≡ []
    is_empty [] empty = refl
    is_empty (page ∷ pages) empty = absurd (omega arith)
