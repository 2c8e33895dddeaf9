-- What a session's seat knows between two calls.
use Rattle.std.specs.Prelude.{◌≡◌, ℕ, None, List, [], ◌∷◌}
use Rattle.blink_live.specs.{HaveAuthors, made_at}
use Rattle.blink_map.specs.declared.slots.Known.{Known}
use Rattle.blink_map.specs.declared.slots.SlotView.{SlotView}
use Rattle.blink_map.specs.Rule.{Account, SlotSeat, nothing}

-- what the first session of a seat knows
abbrev pub own_in : List Account → Known
own_in [] = nothing
own_in (account ∷ more) = account.1

abbrev pub own_of : SlotView → Known
own_of v = own_in v.accounts

-- the seat has the slot's session alone, and has taken no slot
pub record IsIdle (slot : ℕ) (me : SlotSeat) : Type 0 where
  pub alone : me.0.accounts ≡ (slot, own_of me.0) ∷ []
  pub none_now : me.0.now ≡ None
  pub none_taken : me.0.taken ≡ []
  pub none_out : me.1 ≡ []

-- of the changes that it has seen those made at its slot are its own, and each was made at one of the slots
pub record KnowsAuthors (slot : ℕ) (v : SlotView) : Type 0 where
  pub own : made_at slot (own_of v).seen ≡ (own_of v).made
  pub all : HaveAuthors v.slots (own_of v).seen
