use Rattle.std.proofs.Common.{◌≡◌, List, [], ◌∷◌, ◌++◌, length, append-nil, refl, sym, ap, ◌∙◌, subst, append_assoc, arith}
use Rattle.blink_index.specs.{map_of}
use Rattle.blink_map.specs.declared.growing.Session.{Session}
use Rattle.blink_map.specs.Closing.{HasJoined}
use Rattle.blink_map.specs.Own.{own_of}
use Rattle.blink_map.specs.Rule.{SlotSeat}
use Rattle.blink_map.specs.Steps.{AreCompared}
use Rattle.blink_map.proofs.Closes.{none_joined, one_joined, popped}
use Rattle.blink_map.proofs.SeatsChange.{seats_are_joined}
use Rattle.blink_map.proofs.SeatsCompare.{seat_compares}
use Rattle.blink_map.proofs.growing.GrowingMap.join_all.Goals as goal

none_left : (sessions : List Session) → length sessions ≡ 0 → sessions ≡ []
none_left [] empty = refl
none_left (session ∷ sessions) empty = absurd (omega (arith, empty))

pub join_seat-requires : goal.join_seat-requires
join_seat-requires c =
    let map = c.args.self.now in
    let joined = c.loop-session.invariant.joined in
    let session : Session = c.in-Some.session in
    let before : List Session = c.pop.new.self.items in
    let its = popped map c.args.sessions.items c.loop-session.sessions.items before joined.0 session joined.1 c.in-Some.ensures.items c.requires.its_own in
    let words = map.words in
    let some_slot = map.some_slot in (
      joined.2.same_table ∙ c.requires.table,
      its.same_table,
      session.idle.none_out,
      omega (arith, words, some_slot),
      seats_are_joined (map_of map.table.shared.key.index.value) c.loop-session.seat.id session.seat.id c.loop-session.seat.me.0 session.seat.me.0 (session.slot, own_of session.seat.me.0) session.idle.alone,
    )

pub loop-session-init : goal.loop-session-init
loop-session-init c = record { joined = ([], sym (append-nil c.args.sessions.items), none_joined c.args.seat.now c.requires.no_account) }

pub loop-session-preserved : goal.loop-session-preserved
loop-session-preserved c =
    let joined = c.loop-session.invariant.joined in
    let session : Session = c.in-Some.session in
    record {
      joined = (
        session ∷ joined.0,
        joined.1 ∙ (ap (λ (l : List Session). l ++ joined.0) c.in-Some.ensures.items ∙ append_assoc c.pop.new.self.items (session ∷ []) joined.0),
        one_joined session joined.0 c.args.seat.now c.loop-session.seat c.join_seat.new.seat joined.2 c.join_seat.ensures.0 c.join_seat.ensures.2,
      );
    }

pub load-requires : goal.load-requires
load-requires c =
    let map = c.args.self.now in
    let joined = c.loop-session.invariant.joined in
    let words = map.words in
    let some_slot = map.some_slot in (
      joined.2.same_table ∙ c.requires.table,
      omega (arith, words, some_slot),
      seat_compares (map_of map.table.shared.key.index.value) map.table.shared.table_id.slots c.loop-session.seat.id 0 c.loop-session.seat.me,
    )

pub returns-clause-joined : goal.returns-clause-joined
returns-clause-joined c =
    let joined = c.loop-session.invariant.joined in
    let empty : length c.loop-session.sessions.items ≡ 0 = let zero_long = c.in_default.ensures.cases.0 in let ok = c.loop-session.sessions.ok in omega (arith, zero_long, ok) in
    let all = joined.1 ∙ ap (λ (l : List Session). l ++ joined.0) (none_left c.loop-session.sessions.items empty) in
    let same = c.load.ensures.2.same in
    let was = subst (λ (l : List Session). HasJoined l c.args.seat.now c.loop-session.seat) (sym all) joined.2 in
    record {
      same_table = c.load.ensures.0 ∙ was.same_table;
      taken = ap (λ (m : SlotSeat). m.0.taken) same ∙ was.taken;
      accounts = ap (λ (m : SlotSeat). m.0.accounts) same ∙ was.accounts;
    }

pub returns-clause-compared : goal.returns-clause-compared
returns-clause-compared c = let told = c.load.ensures.2 in subst (λ (m : SlotSeat). AreCompared m.0) (sym told.same) told.compared
