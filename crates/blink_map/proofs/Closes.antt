-- The sessions that come back at a close know no more than what the one list has.
use Rattle.std.proofs.Common.{◌≡◌, ◌≢◌, ℕ, zero, suc, ◌+◌, ◌<◌, Option, List, [], ◌∷◌, ◌++◌, length, length-append, append_assoc, get_or, refl, sym, ap, ◌∙◌, subst, arith}
use Rattle.std.specs.Prelude.{map, All, AllPairs}
use mathlib.Core.Option.{some, some-injective, some-ne-none}
use mathlib.Core.List.{IsPrefix}
use lib.ListN.{get_elem?}
use Rattle.atomic_table.specs.Seated.{TableId}
use Rattle.atomic_table.specs.declared.Seat.{Seat}
use Rattle.blink_batch.specs.declared.Entry.{Entry}
use Rattle.blink_live.specs.{made_at}
use Rattle.blink_live.proofs.Offered.{prefix_of_prefix}
use Rattle.blink_map.specs.declared.growing.GrowingMap.{GrowingMap}
use Rattle.blink_map.specs.declared.growing.Session.{Session}
use Rattle.blink_map.specs.declared.slots.Current.{Current}
use Rattle.blink_map.specs.declared.slots.Known.{Known}
use Rattle.blink_map.specs.declared.slots.SlotView.{SlotView}
use Rattle.blink_map.specs.Closing.{HasEnded, HasJoined, IsClosedWith, account_of}
use Rattle.blink_map.specs.Rule.{Account, IsContinued, SlotSeat}
use Rattle.blink_map.specs.Sessions.{IsSessionOf, made_by, place_of, places_of, seen_by}
use Rattle.blink_map.specs.Steps.{AreCompared, together}
use Rattle.blink_map.proofs.Basics.{some_or}

abbrev SlotsSeat : Type 0
SlotsSeat = Seat (Option Current) SlotView

account_at : (sessions : List Session) (k : ℕ) (session : Session) → get_elem? sessions k ≡ some session → get_elem? (map account_of sessions) k ≡ some (account_of session)
account_at [] k session is = absurd (some-ne-none session (sym is))
account_at (x ∷ xs) zero session is = ap (λ (s : Session). some (account_of s)) (some-injective x session is)
account_at (x ∷ xs) (suc k) session is = account_at xs k session is

-- ---- sessions are joined to the seat

pub none_joined : (seat : SlotsSeat) → seat.me.0.accounts ≡ [] → HasJoined [] seat seat
none_joined seat none = record { same_table = refl; taken = refl; accounts = none }

pub one_joined : (session : Session) (last : List Session) (old seat new : SlotsSeat) → HasJoined last old seat → new.table_id ≡ seat.table_id → new.me ≡ (together seat.me.0 session.seat.me.0, seat.me.1) → HasJoined (session ∷ last) old new
one_joined session last old seat new was same me = record {
  same_table = same ∙ was.same_table;
  taken = ap (λ (m : SlotSeat). m.0.taken) me ∙ was.taken;
  accounts = ap (λ (m : SlotSeat). m.0.accounts) me
      ∙ (ap (λ (l : List Account). l ++ seat.me.0.accounts) session.idle.alone
      ∙ ap (λ (l : List Account). account_of session ∷ l) was.accounts);
}

-- ---- what they know is in the list

module _ (growing : GrowingMap) (sessions : List Session) (old new : SlotsSeat) (entries : List Entry) (ended : HasEnded growing old entries) (joined : HasJoined sessions old new) (compared : AreCompared new.me.0) (own : All (IsSessionOf growing) sessions) where
  mine : (k : ℕ) (session : Session) → get_elem? sessions k ≡ some session → get_elem? new.me.0.accounts k ≡ some (account_of session)
  mine k session is = ap (λ (l : List Account). get_elem? l k) joined.accounts ∙ account_at sessions k session is

  module _ (k : ℕ) (d : Session) (inside : k < length sessions) where
    abbrev session : Session
    session = get_or sessions k d

    in_range : place_of session < places_of growing
    in_range = let is = own k d inside in let same = ap (λ (t : TableId). t.slots) is.same_table in let range = session.in_range in omega (arith, same, range)

    taken_there : (j : ℕ) × (known : Known) × (get_elem? old.me.0.taken j ≡ some (place_of session, known))
    taken_there = ended.all.each (place_of session) in_range

    continued : IsContinued (account_of session).1 taken_there.1
    continued = compared.continued k taken_there.0 (place_of session) (account_of session).1 taken_there.1 (mine k session (some_or sessions k d inside)) (ap (λ (l : List Account). get_elem? l taken_there.0) joined.taken ∙ taken_there.2)

    saw_of : IsPrefix (seen_by session) ended.final
    saw_of = prefix_of_prefix (seen_by session) taken_there.1.seen ended.final continued.saw (ended.saw taken_there.0 (place_of session, taken_there.1) taken_there.2)

    made_of : made_at (place_of session) ended.final ≡ made_by session
    made_of = sym (continued.made ∙ ended.made taken_there.0 (place_of session, taken_there.1) taken_there.2)

  apart_of : AllPairs (λ (one other : Session). place_of one ≢ place_of other) sessions
  apart_of i j d before inside same =
      let first = some_or sessions i d (omega (arith, before, inside)) in
      let second = some_or sessions j d inside in
      let e = compared.apart i j (account_of (get_or sessions i d)) (account_of (get_or sessions j d)) (mine i (get_or sessions i d) first) (mine j (get_or sessions j d) second) same in
      omega (arith, before, e)

  pub closed_with : IsClosedWith growing sessions entries
  closed_with = record {
    final = ended.final;
    is_list = record { saw = saw_of; authors = ended.authors; made = made_of; apart = apart_of };
    kept = ended.kept;
  }

-- ---- the session that is popped

at_middle : (xs ys : List Session) (x d : Session) → get_or (xs ++ x ∷ ys) (length xs) d ≡ x
at_middle [] ys x d = refl
at_middle (first ∷ xs) ys x d = at_middle xs ys x d

pub popped : (growing : GrowingMap) (all left before last : List Session) (session : Session) → all ≡ left ++ last → left ≡ before ++ session ∷ [] → All (IsSessionOf growing) all → IsSessionOf growing session
popped growing all left before last session whole is own =
    let parts : all ≡ before ++ (session ∷ last) = whole ∙ (ap (λ (l : List Session). l ++ last) is ∙ append_assoc before (session ∷ []) last) in
    let long : length (before ++ (session ∷ last)) ≡ length before + length (session ∷ last) = length-append before (session ∷ last) in
    let inside : length before < length all = subst (λ (l : List Session). length before < length l) (sym parts) (omega (arith, long)) in
    subst (IsSessionOf growing) (ap (λ (l : List Session). get_or l (length before) session) parts ∙ at_middle before last session session) (own (length before) session inside)
