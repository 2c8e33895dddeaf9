-- What a seat knows that has taken the slot of its session.
use Rattle.std.specs.Prelude.{◌≡◌, ℕ, Some, None, List, [], ◌∷◌, length, take}
use Rattle.std.specs.Arc.{arc_value}
use Rattle.blink_live.specs.declared.view.Change.{Change}
use Rattle.blink_map.specs.declared.slots.Current.{Current}
use Rattle.blink_map.specs.declared.slots.Generation.{Generation}
use Rattle.blink_map.specs.Own.{own_in, own_of}
use Rattle.blink_map.specs.Rule.{IsCurrentAt, IsGeneration, SlotSeat, generation_of, known_of}
use Rattle.blink_map.specs.Steps.{past_of}

-- the current map is that of the session, behind the changes of all maps before it
abbrev pub held_in : SlotSeat → Current → Generation
held_in me current = generation_of (arc_value current.map) (past_of me.0.now)

-- one list goes on from the other. It is a test of two lists, where `IsPrefix` is some rest
abbrev pub GoesOnFrom : List Change → List Change → Type 0
GoesOnFrom old new = take (length old) new ≡ old

-- the seat has the slot's session alone, and has taken that slot alone, which is empty. The session that lay there is this one of the
-- current map, which may have seen and made more since
pub record IsHeld (slot : ℕ) (me : SlotSeat) (current : Current) : Type 0 where
  pub alone : me.0.accounts ≡ (slot, own_of me.0) ∷ []
  pub is_now : me.0.now ≡ Some (held_in me current)
  pub is_generation : IsGeneration me.0.first me.0.slots (held_in me current)
  pub its : IsCurrentAt (held_in me current) slot current
  pub taken : me.0.taken ≡ (slot, own_in me.0.taken) ∷ []
  pub goes_on : GoesOnFrom (own_in me.0.taken).seen (known_of (past_of me.0.now) slot current).seen
  pub out : me.1 ≡ (slot, None) ∷ []
