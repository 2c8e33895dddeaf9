-- How one session of a growing map tells another what it has seen.
use Rattle.std.specs.Prelude.{◌≡◌, ◌≢◌, ℕ, Bool, true, false, IsTrue, None, [], ◌∷◌}
use mathlib.Core.Option.{some}
use mathlib.Core.List.{IsPrefix}
use lib.ListN.{get_elem?}
use Rattle.blink_live.specs.{HaveAuthors, made_at}
use Rattle.blink_generation.specs.{seen_by}
use Rattle.blink_map.specs.declared.slots.Current.{Current}
use Rattle.blink_map.specs.declared.slots.Known.{Known}
use Rattle.blink_map.specs.Own.{IsIdle, KnowsAuthors, own_of}
use Rattle.blink_map.specs.Rule.{IsContinued, SlotSeat}
use Rattle.blink_map.specs.Steps.{with_known}

-- the seat has the sessions of these two slots, each in one account, and has taken no slot
pub record IsIdleWith (lower upper : ℕ) (low high : Known) (me : SlotSeat) : Type 0 where
  pub i : ℕ
  pub j : ℕ
  pub low_there : get_elem? me.0.accounts i ≡ some (lower, low)
  pub high_there : get_elem? me.0.accounts j ≡ some (upper, high)
  pub low_once : with_known lower low me.0.accounts ≡ me.0.accounts
  pub high_once : with_known upper high me.0.accounts ≡ me.0.accounts
  pub none_now : me.0.now ≡ None
  pub none_taken : me.0.taken ≡ []
  pub none_out : me.1 ≡ []

-- what a session knows of the authors of changes
pub record KnowsAuthorsOf (slots slot : ℕ) (known : Known) : Type 0 where
  pub own : made_at slot known.seen ≡ known.made
  pub all : HaveAuthors slots known.seen

-- the one, if it is told upwards, and otherwise the other
abbrev pub EitherWay : Bool → Type 0 → Type 0 → Type 0
EitherWay true up down = up
EitherWay false up down = down

-- each may have seen more. If it is done, the one has told the other: the lower one the upper one, or the other way round
pub record HasToldBetween (lower upper : ℕ) (upwards done : Bool) (low high : Known) (old new : SlotSeat) : Type 0 where
  pub low_then : Known
  pub high_then : Known
  pub accounts : new.0.accounts ≡ with_known lower low_then (with_known upper high_then old.0.accounts)
  pub same_first : new.0.first ≡ old.0.first
  pub same_slots : new.0.slots ≡ old.0.slots
  pub none_now : new.0.now ≡ None
  pub none_taken : new.0.taken ≡ []
  pub none_out : new.1 ≡ []
  pub low_more : IsContinued low low_then
  pub high_more : IsContinued high high_then
  pub low_authors : KnowsAuthorsOf old.0.slots lower low → KnowsAuthorsOf old.0.slots lower low_then
  pub high_authors : KnowsAuthorsOf old.0.slots upper high → KnowsAuthorsOf old.0.slots upper high_then
  pub told : IsTrue done → EitherWay upwards (IsPrefix low.seen high_then.seen) (IsPrefix high.seen low_then.seen)

-- the same of the sessions of one map
abbrev pub IsTold : Bool → Current → Current → Current → Current → Type 0
IsTold upwards low high low_then high_then = EitherWay upwards (IsPrefix (seen_by low.session) (seen_by high_then.session)) (IsPrefix (seen_by high.session) (seen_by low_then.session))

-- the seat has the sessions of two slots, first that of the one to be told
pub record HasBoth (from to : ℕ) (own theirs : Known) (me : SlotSeat) : Type 0 where
  pub accounts : me.0.accounts ≡ (to, theirs) ∷ (from, own) ∷ []
  pub differ : to ≢ from
  pub none_now : me.0.now ≡ None
  pub none_taken : me.0.taken ≡ []
  pub none_out : me.1 ≡ []

-- each may have seen more. If it is done, the one has told the other
pub record HasTold (from to : ℕ) (done : Bool) (own theirs : Known) (old new : SlotSeat) : Type 0 where
  pub own_then : Known
  pub theirs_then : Known
  pub both : HasBoth from to own_then theirs_then new
  pub same_first : new.0.first ≡ old.0.first
  pub same_slots : new.0.slots ≡ old.0.slots
  pub own_more : IsContinued own own_then
  pub theirs_more : IsContinued theirs theirs_then
  pub own_authors : KnowsAuthorsOf old.0.slots from own → KnowsAuthorsOf old.0.slots from own_then
  pub theirs_authors : KnowsAuthorsOf old.0.slots to theirs → KnowsAuthorsOf old.0.slots to theirs_then
  pub told : IsTrue done → IsPrefix own.seen theirs_then.seen

-- two seats are idle again, and the session of each may have seen more. If it is done, the one has told the other
pub record HasToldSeat (from to : ℕ) (done : Bool) (old other new told : SlotSeat) : Type 0 where
  pub idle : IsIdle from new
  pub told_idle : IsIdle to told
  pub same_first : (new.0.first ≡ old.0.first) × (told.0.first ≡ old.0.first)
  pub same_slots : (new.0.slots ≡ old.0.slots) × (told.0.slots ≡ old.0.slots)
  pub more : IsContinued (own_of old.0) (own_of new.0)
  pub told_more : IsContinued (own_of other.0) (own_of told.0)
  pub authors : KnowsAuthors from new.0
  pub told_authors : KnowsAuthors to told.0
  pub hears : IsTrue done → IsPrefix (own_of old.0).seen (own_of told.0).seen
