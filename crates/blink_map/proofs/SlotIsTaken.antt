-- A seat that takes a slot keeps the rule.
use Rattle.std.proofs.Common.{◌≡◌, ◌≢◌, ℕ, ◌<◌, Option, Some, List, [], ◌∷◌, length, set, refl, sym, ap, ◌∙◌, subst, ⊎_elim, length-set, eqb, arith}
use Rattle.std.specs.Prelude.{slice_index}
use mathlib.Core.Option.{some, none}
use mathlib.Core.Logic.{dite}
use native.Mathlib.Decide.{ℕ_discrete}
use prog.Atomic.{either}
use lib.ListN.{get_elem?}
use lib.Seq.{set-get_or}
use Rattle.atomic_table.specs.Table.{Act, Valid, stepped, carried_after, keeps, takes, step, Allows}
use Rattle.atomic_table.proofs.Lists.{set_else, set_again, exchanged}
use Rattle.blink_batch.specs.declared.Entry.{Entry}
use Rattle.blink_map.specs.declared.slots.Current.{Current}
use Rattle.blink_map.specs.declared.slots.Generation.{Generation}
use Rattle.blink_map.specs.declared.slots.Known.{Known}
use Rattle.blink_map.specs.declared.slots.SlotView.{SlotView}
use Rattle.blink_map.specs.Rule.{Account, AreApart, HasAccount, HasTaken, IsContinued, IsGeneration, IsGrowing, IsSeatOf, RestsAt, SlotSeat, Slots, word_of}
use Rattle.blink_map.specs.Steps.{Takes, has_taken, takes_slot}
use Rattle.blink_map.proofs.Basics.{at_else, at_end, at_here, each_set, some_end, with_at, word_else, word_here}

module _ (first : List Entry) (s : Slots) (rule : IsGrowing first s) (id slot : ℕ) (v : SlotView) (at : get_elem? s.views id ≡ some v) (inside : slot < length s.homes) (free : slice_index s.words (word_of slot) ≡ 0) where
  abbrev v_taken : SlotView
  v_taken = has_taken v rule.now (slot, rule.had slot)

  abbrev s_taken : Slots
  s_taken = record { words = set s.words (word_of slot) 1; homes = set s.homes slot none; views = set s.views id v_taken }

  abbrev taker_then : ℕ → ℕ
  taker_then = with_at rule.taker slot id

  abbrev level_then : ℕ → ℕ
  level_then = with_at rule.level slot (length v.taken)

  long_then : length s_taken.homes ≡ length s.homes
  long_then = length-set s.homes slot none

  inside_then : (other : ℕ) → other < length s.homes → other < length s_taken.homes
  inside_then other within = let long = long_then in omega (arith, long, within)

  one_here : slice_index s_taken.words (word_of slot) ≡ 1
  one_here = word_here s.words slot 1 (length s.homes) rule.width inside

  rests_then : (other : ℕ) → other < length s_taken.homes → slice_index s_taken.words (word_of other) ≡ 0 → RestsAt s_taken rule.now other (rule.had other)
  rests_then other within is = dite (ℕ_discrete other slot)
      (λ same. absurd (let one : 1 ≡ 0 = sym one_here ∙ (ap (λ (n : ℕ). slice_index (set s.words (word_of slot) 1) (word_of n)) (sym same) ∙ is) in omega (arith, one)))
      (λ differ.
      let was = rule.rests other (let long = long_then in omega (arith, long, within)) (sym (word_else s.words slot 1 other differ) ∙ is) in
      record { held = was.held; home = set_else s.homes slot other none differ ∙ was.home; its = was.its; is = was.is })

  has_account : (seat : ℕ) (account : Account) → HasAccount s rule.owner rule.had seat account → HasAccount s_taken rule.owner rule.had seat account
  has_account seat account has = record { in_range = (let long = long_then in let r = has.in_range in omega (arith, long, r)); own = has.own; is = has.is }

  other_taken : (seat k : ℕ) (one : Account) → HasTaken s rule.taker rule.level rule.had seat k one → HasTaken s_taken taker_then level_then rule.had seat k one
  other_taken seat k one has =
      let word_is = has.word in
      let differ : one.0 ≢ slot = λ (same : one.0 ≡ slot). let e : 1 ≡ 0 = sym word_is ∙ (ap (λ (n : ℕ). slice_index s.words (word_of n)) same ∙ free) in omega (arith, e) in
      record {
        in_range = inside_then one.0 has.in_range;
        word = word_else s.words slot 1 one.0 differ ∙ has.word;
        own = at_else rule.taker slot id one.0 differ ∙ has.own;
        at_level = at_else rule.level slot (length v.taken) one.0 differ ∙ has.at_level;
        same = has.same;
      }

  this_taken : HasTaken s_taken taker_then level_then rule.had id (length v.taken) (slot, rule.had slot)
  this_taken = record {
    in_range = (let long = long_then in omega (arith, long, inside));
    word = one_here;
    own = at_here rule.taker slot id;
    at_level = at_here rule.level slot (length v.taken);
    same = refl;
  }

  taken_mine : (k : ℕ) (one : Account) → get_elem? v_taken.taken k ≡ some one → HasTaken s_taken taker_then level_then rule.had id k one
  taken_mine k one is = ⊎_elim
      (λ (old : get_elem? v.taken k ≡ some one). other_taken id k one (rule.taken id v k one at old))
      (λ (new : (k ≡ length v.taken) × ((slot, rule.had slot) ≡ one)).
      subst (λ (j : ℕ). HasTaken s_taken taker_then level_then rule.had id j one) (sym new.0) (subst (HasTaken s_taken taker_then level_then rule.had id (length v.taken)) new.1 this_taken))
      (at_end v.taken (slot, rule.had slot) one k is)

  present_mine : (g : Generation) → v_taken.now ≡ Some g → (g ≡ rule.now) × (v_taken.taken ≢ [])
  present_mine g is = (let e : Some rule.now ≡ Some g = is in cc, some_end v.taken (slot, rule.had slot))

  pub is_taken : IsGrowing first s_taken
  is_taken = record {
    now = rule.now;
    owner = rule.owner;
    taker = taker_then;
    level = level_then;
    had = rule.had;
    is_generation = subst (λ (n : ℕ). IsGeneration first n rule.now) (sym long_then) rule.is_generation;
    width = length-set s.words (word_of slot) 1 ∙ (rule.width ∙ sym (ap word_of long_then));
    rests = rests_then;
    seats = each_set s.views id v_taken (λ k w. 0 < w.slots → IsSeatOf first (length s_taken.homes) w)
        (λ some. subst (λ (n : ℕ). IsSeatOf first n v_taken) (sym long_then) (let was = rule.seats id v at some in record { same_first = was.same_first; same_slots = was.same_slots }))
        (λ k w differ there some. subst (λ (n : ℕ). IsSeatOf first n w) (sym long_then) (rule.seats k w there some));
    accounts = λ seat w k account there. each_set s.views id v_taken (λ j x. get_elem? x.accounts k ≡ some account → HasAccount s_taken rule.owner rule.had j account)
        (λ is. has_account id account (rule.accounts id v k account at is)) (λ j x differ was is. has_account j account (rule.accounts j x k account was is)) seat w there;
    apart = each_set s.views id v_taken (λ j x. AreApart x.accounts) (rule.apart id v at) (λ j x differ was. rule.apart j x was);
    present = λ seat w g there. each_set s.views id v_taken (λ j x. x.now ≡ Some g → (g ≡ rule.now) × (x.taken ≢ []))
        (present_mine g) (λ j x differ was. rule.present j x g was) seat w there;
    taken = λ seat w k one there. each_set s.views id v_taken (λ j x. get_elem? x.taken k ≡ some one → HasTaken s_taken taker_then level_then rule.had j k one)
        (taken_mine k one) (λ j x differ was is. other_taken j k one (rule.taken j x k one was is)) seat w there;
  }

pub slot_is_taken : (first : List Entry) (slots id slot : ℕ) (me : SlotSeat) → 0 < me.0.slots → slot < slots
    → Allows (IsGrowing first) slots id me (word_of slot) (λ n. either (eqb n 0) 1 n) (takes_slot (step slots (word_of slot) 0 1 none) me)
slot_is_taken first slots id slot me some_slot inside s rule homes at small =
    let found : ℕ = slice_index s.words (word_of slot) in
    let only : (after : SlotSeat) → Takes slot me found after → takes_slot (step slots (word_of slot) 0 1 none) me found after = λ after tells other same. subst (λ (n : ℕ). Takes n me found after) (omega (arith, same)) tells in
    exchanged found 0 1 (λ (k : ℕ). (w : SlotView) × (a : Act (Option Current)) × Valid s.homes me.1 a × IsGrowing first (stepped s (word_of slot) k id me.1 w a) × takes_slot (step slots (word_of slot) 0 1 none) me found (w, carried_after me.1 a))
    (λ free.
    let within : slot < length s.homes = omega (arith, homes, inside) in
    let rests = rule.rests slot within free in
    let seat = rule.seats id me.0 at some_slot in (
      has_taken me.0 rule.now (slot, rule.had slot),
      takes slot (Some rests.held),
      rests.home,
      is_taken first s rule id slot me.0 at within free,
      only (has_taken me.0 rule.now (slot, rule.had slot), (slot, Some rests.held) ∷ me.1) record {
        got = λ none_found. (
          rests.held,
          record {
            now = rule.now;
            its = rests.its;
            is_generation = subst (λ (l : List Entry). IsGeneration l me.0.slots rule.now) (sym seat.same_first) (subst (λ (n : ℕ). IsGeneration first n rule.now) (sym seat.same_slots) rule.is_generation);
            same_now = λ g is. (rule.present id me.0 g at is).0;
            own = λ k known is. subst (IsContinued known) rests.is (rule.accounts id me.0 k (slot, known) at is).is;
            is = ap (λ (known : Known). let then : SlotSeat = (has_taken me.0 rule.now (slot, known), (slot, Some rests.held) ∷ me.1) in then) rests.is;
          },
        );
        lost = λ other. absurd (other free);
      },
    ))
    (λ other. (
      me.0,
      keeps,
      tt,
      subst (λ (t : List ℕ × List SlotView). IsGrowing first record { words = t.0; homes = s.homes; views = t.1 }) (λ i. (sym (set-get_or s.words (word_of slot) 0) i, sym (set_again s.views id me.0 at) i)) rule,
      only (me.0, me.1) record { got = λ none_found. absurd (other none_found); lost = λ differ. refl },
    ))
