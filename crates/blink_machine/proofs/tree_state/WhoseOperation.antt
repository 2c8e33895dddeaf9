-- Whose operation is whose before and after a worker's step.
use Rattle.std.proofs.Common.{◌≡◌, ◌≢◌, ℕ, ◌⊎◌, inl, inr, Option, Some, None, refl, sym, ap, ◌∙◌}
use Rattle.blink_machine.specs.declared.machine.State.{State}
use Rattle.blink_machine.specs.declared.machine.State.TheVariants.{Start, Going, Want, Held, Change, SplitNew, SplitOld, AskPrime, Root, NewPrime, Leave, Posting, Ended}
use Rattle.blink_machine.specs.Machine.{PlainMachine}
use Rattle.blink_machine.specs.TreeState.{TreeState, goes_on, IsWorkersNow, IsItsOperation, under_way, taken_on}

-- a worker's operation was `m` and is `after`, where it has one; one that has something for itself is under way
pub record Turns (old new : ℕ → Option PlainMachine) (worker : ℕ) (m after : PlainMachine) : Type 0 where
  pub was : (n : PlainMachine) → old worker ≡ Some n → n ≡ m
  pub had : (old worker ≡ Some m) ⊎ (m.state ≡ Start)
  pub is_now : (n : PlainMachine) → new worker ≡ Some n → n ≡ after
  pub has : (new worker ≡ Some after) ⊎ (after.state ≡ Ended)
  pub others : (other : ℕ) → other ≢ worker → new other ≡ old other

-- an operation goes on as it is, unless it has ended
goes_on_or_ends : (m : PlainMachine) (s : State) → (goes_on m s ≡ Some m) ⊎ (s ≡ Ended)
goes_on_or_ends m Start = inl refl
goes_on_or_ends m (Going page level) = inl refl
goes_on_or_ends m (Want page) = inl refl
goes_on_or_ends m (Held page) = inl refl
goes_on_or_ends m (Change page changed kept) = inl refl
goes_on_or_ends m (SplitNew page before) = inl refl
goes_on_or_ends m (SplitOld page lower debt) = inl refl
goes_on_or_ends m (AskPrime page debt) = inl refl
goes_on_or_ends m (Root page debt prime) = inl refl
goes_on_or_ends m (NewPrime page debt root prime) = inl refl
goes_on_or_ends m (Leave page next) = inl refl
goes_on_or_ends m Posting = inl refl
goes_on_or_ends m Ended = inr refl

-- one that goes on is the same
goes_on_same : (m n : PlainMachine) (s : State) → goes_on m s ≡ Some n → n ≡ m
goes_on_same m n s same = elim (goes_on_or_ends m s) [
  | inl goes ↦ let it : goes_on m s ≡ Some m = goes in cc
  | inr ends ↦ let none : goes_on m s ≡ None = ap (goes_on m) ends in absurd cc
]

-- the worker's operation before a step is the step's
was_its : (old : TreeState) (worker : ℕ) (m n : PlainMachine) → IsItsOperation old worker m → old.machines worker ≡ Some n → n ≡ m
was_its old worker m n (under_way here) same = cc
was_its old worker m n (taken_on op idle is_fresh) same = absurd cc

-- it was under way, or is at its beginning
had_its : (old : TreeState) (worker : ℕ) (m : PlainMachine) → IsItsOperation old worker m → (old.machines worker ≡ Some m) ⊎ (m.state ≡ Start)
had_its old worker m (under_way here) = inl here
had_its old worker m (taken_on op idle is_fresh) = inr (ap (λ (n : PlainMachine). n.state) is_fresh)

-- afterwards it is under way, or has ended
has_now : (new : ℕ → Option PlainMachine) (worker : ℕ) (after : PlainMachine) → new worker ≡ goes_on after after.state → (new worker ≡ Some after) ⊎ (after.state ≡ Ended)
has_now new worker after own = elim (goes_on_or_ends after after.state) [ inl goes ↦ inl (own ∙ goes) | inr ends ↦ inr ends ]

-- a step is such a turn
pub turns : (old new : TreeState) (worker : ℕ) (m after : PlainMachine) → IsItsOperation old worker m → IsWorkersNow old.machines new.machines worker after
    → Turns old.machines new.machines worker m after
turns old new worker m after its workers = record {
  was = λ n same. was_its old worker m n its same;
  had = had_its old worker m its;
  is_now = λ n same. goes_on_same after n after.state (sym workers.own ∙ same);
  has = has_now new.machines worker after workers.own;
  others = workers.others;
}

module _ (old new : ℕ → Option PlainMachine) (worker : ℕ) (m after : PlainMachine) (turn : Turns old new worker m after) where
  -- another worker's operation was what it is
  pub was_other : (other : ℕ) (n : PlainMachine) → other ≢ worker → new other ≡ Some n → old other ≡ Some n
  was_other other n differs here = sym (turn.others other differs) ∙ here

  -- and is what it was
  pub is_other : (other : ℕ) (n : PlainMachine) → other ≢ worker → old other ≡ Some n → new other ≡ Some n
  is_other other n differs here = turn.others other differs ∙ here

  module _ {A : Type 0} (f : PlainMachine → Option A) (x : A) where
    -- what had something before was under way
    pub had_under_way : (m.state ≡ Start → f m ≡ None) → f m ≡ Some x → old worker ≡ Some m
    had_under_way nothing holds = elim turn.had [ inl here ↦ here | inr starts ↦ let none : f m ≡ None = nothing starts in absurd cc ]

    -- and what has something afterwards is
    pub has_under_way : (after.state ≡ Ended → f after ≡ None) → f after ≡ Some x → new worker ≡ Some after
    has_under_way nothing holds = elim turn.has [ inl here ↦ here | inr ends ↦ let none : f after ≡ None = nothing ends in absurd cc ]

    -- what the worker had before its operation had
    pub had_by : (other : ℕ) (n : PlainMachine) → other ≡ worker → old other ≡ Some n → f n ≡ Some x → f m ≡ Some x
    had_by other n same here holds = ap f (sym (turn.was n (ap old (sym same) ∙ here))) ∙ holds

    -- and what it has afterwards its operation has
    pub has_by : (other : ℕ) (n : PlainMachine) → other ≡ worker → new other ≡ Some n → f n ≡ Some x → f after ≡ Some x
    has_by other n same here holds = ap f (sym (turn.is_now n (ap new (sym same) ∙ here))) ∙ holds
