-- A seat that has taken all slots makes another map the current one.
use Rattle.std.proofs.Common.{◌≡◌, ◌≢◌, ℕ, ◌<◌, Option, Some, List, [], length, set, refl, sym, ◌∙◌, subst, eqb, arith}
use Rattle.std.specs.Prelude.{slice_index}
use mathlib.Core.Option.{some}
use prog.Atomic.{either}
use lib.ListN.{get_elem?}
use lib.Seq.{set-get_or}
use Rattle.std.specs.Arc.{arc_value}
use Rattle.atomic_table.specs.Table.{Act, Valid, stepped, carried_after, keeps, step, Allows}
use Rattle.atomic_table.proofs.Lists.{exchanged}
use Rattle.blink_batch.specs.declared.Entry.{Entry}
use Rattle.blink_live.specs.declared.view.Change.{Change}
use Rattle.blink_map.specs.declared.slots.Current.{Current}
use Rattle.blink_map.specs.declared.slots.Generation.{Generation}
use Rattle.blink_map.specs.declared.slots.Known.{Known}
use Rattle.blink_map.specs.declared.slots.SlotView.{SlotView}
use Rattle.blink_map.specs.Rule.{Account, AreApart, HasAccount, HasTaken, IsGeneration, IsGrowing, IsSeatOf, RestsAt, SlotSeat, Slots, generation_of, word_of}
use Rattle.blink_map.specs.Steps.{AreAllTaken, Follows, Switched, switches}
use Rattle.blink_map.proofs.Basics.{each_set, no_first, not_none, there_is}

module _ (first : List Entry) (s : Slots) (rule : IsGrowing first s) (id : ℕ) (v : SlotView) (next : Generation) (at : get_elem? s.views id ≡ some v) (all : AreAllTaken (length s.homes) v.taken) (follows : Follows v next) (some_slot : 0 < v.slots) where
  abbrev v_switched : SlotView
  v_switched = record v { now = Some next }

  abbrev s_switched : Slots
  s_switched = record { words = s.words; homes = s.homes; views = set s.views id v_switched }

  its_seat : IsSeatOf first (length s.homes) v
  its_seat = rule.seats id v at some_slot

  taken_here : (slot : ℕ) → slot < length s.homes → (k : ℕ) × (known : Known) × (get_elem? v.taken k ≡ some (slot, known)) × HasTaken s rule.taker rule.level rule.had id k (slot, known)
  taken_here slot inside = let one = all.each slot inside in (one.0, one.1, one.2, rule.taken id v one.0 (slot, one.1) at one.2)

  rests_then : (slot : ℕ) → slot < length s.homes → slice_index s.words (word_of slot) ≡ 0 → RestsAt s_switched next slot (rule.had slot)
  rests_then slot inside is = absurd (let e : 1 ≡ 0 = sym (taken_here slot inside).3.word ∙ is in omega (arith, e))

  taken_then : (seat k : ℕ) (one : Account) → HasTaken s rule.taker rule.level rule.had seat k one → HasTaken s_switched rule.taker rule.level rule.had seat k one
  taken_then seat k one has = record { in_range = has.in_range; word = has.word; own = has.own; at_level = has.at_level; same = has.same }

  -- nobody else has a slot: all are here
  no_other : (seat : ℕ) (w : SlotView) (g : Generation) → seat ≢ id → get_elem? s.views seat ≡ some w → w.now ≡ Some g → ⊥
  no_other seat w g differ there is =
      let one = there_is w.taken 0 (no_first w.taken (rule.present seat w g there is).1) in
      let theirs = rule.taken seat w 0 one.0 there one.1 in
      let mine = (taken_here one.0.0 theirs.in_range).3 in
      differ (sym theirs.own ∙ mine.own)

  present_mine : (g : Generation) → v_switched.now ≡ Some g → (g ≡ next) × (v_switched.taken ≢ [])
  present_mine g is =
      let zero_inside : 0 < length s.homes = (let same = its_seat.same_slots in let some_there = some_slot in omega (arith, same, some_there)) in
      let here = taken_here 0 zero_inside in
      (let e : Some next ≡ Some g = is in cc, not_none v.taken here.0 (0, here.1) here.2)

  pub is_switched : IsGrowing first s_switched
  is_switched = record {
    now = next;
    owner = rule.owner;
    taker = rule.taker;
    level = rule.level;
    had = rule.had;
    is_generation = subst (λ (l : List Entry). IsGeneration l (length s.homes) next) its_seat.same_first (subst (λ (n : ℕ). IsGeneration v.first n next) its_seat.same_slots follows.is_generation);
    width = rule.width;
    rests = rests_then;
    seats = each_set s.views id v_switched (λ k w. 0 < w.slots → IsSeatOf first (length s.homes) w)
        (λ some. record { same_first = its_seat.same_first; same_slots = its_seat.same_slots }) (λ k w differ there some. rule.seats k w there some);
    accounts = λ seat w k account there. each_set s.views id v_switched (λ j x. get_elem? x.accounts k ≡ some account → HasAccount s_switched rule.owner rule.had j account)
        (λ is. let has = rule.accounts id v k account at is in record { in_range = has.in_range; own = has.own; is = has.is })
        (λ j x differ was is. let has = rule.accounts j x k account was is in record { in_range = has.in_range; own = has.own; is = has.is }) seat w there;
    apart = each_set s.views id v_switched (λ j x. AreApart x.accounts) (rule.apart id v at) (λ j x differ was. rule.apart j x was);
    present = λ seat w g there. each_set s.views id v_switched (λ j x. x.now ≡ Some g → (g ≡ next) × (x.taken ≢ []))
        (present_mine g) (λ j x differ was is. absurd (no_other j x g differ was is)) seat w there;
    taken = λ seat w k one there. each_set s.views id v_switched (λ j x. get_elem? x.taken k ≡ some one → HasTaken s_switched rule.taker rule.level rule.had j k one)
        (λ is. taken_then id k one (rule.taken id v k one at is)) (λ j x differ was is. taken_then j k one (rule.taken j x k one was is)) seat w there;
  }

pub map_switches : (first : List Entry) (slots id word : ℕ) (v : SlotView) (others : List (ℕ × Option Current)) (held : Current) (past : List Change) → 0 < v.slots → AreAllTaken slots v.taken → Follows v (generation_of (arc_value held.map) past)
    → Allows (IsGrowing first) slots id (v, others) word (λ n. either (eqb n 1) 1 n) (switches (step slots word 1 1 (some (Some held))) (v, others))
map_switches first slots id word v others held past some_slot all follows s rule homes at small =
    let next : Generation = generation_of (arc_value held.map) past in
    let me : SlotSeat = (v, others) in
    let then_v : SlotView = record v { now = Some next } in
    let found : ℕ = slice_index s.words word in
    let kept : IsGrowing first record { words = set s.words word found; homes = s.homes; views = set s.views id then_v } =
    subst (λ (words : List ℕ). IsGrowing first record { words = words; homes = s.homes; views = set s.views id then_v }) (sym (set-get_or s.words word 0))
    (is_switched first s rule id v next at (subst (λ (n : ℕ). AreAllTaken n v.taken) (sym homes) all) follows some_slot) in
    let tells : Switched (arc_value held.map) me (then_v, others) = record { past = past; follows = follows; is = refl } in
    exchanged found 1 1 (λ (k : ℕ). (w : SlotView) × (a : Act (Option Current)) × Valid s.homes others a × IsGrowing first (stepped s word k id others w a) × switches (step slots word 1 1 (some (Some held))) me found (w, carried_after others a))
    (λ one. (then_v, keeps, tt, subst (λ (k : ℕ). IsGrowing first record { words = set s.words word k; homes = s.homes; views = set s.views id then_v }) one kept, tells))
    (λ other. (then_v, keeps, tt, kept, tells))
