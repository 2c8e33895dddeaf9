-- A seat that gives back the slot that it took last keeps the rule.
use Rattle.std.proofs.Common.{◌≡◌, ◌≢◌, ◌⊎◌, ℕ, suc, ◌<◌, Option, Some, None, List, [], ◌∷◌, length, set, refl, sym, ap, ◌∙◌, subst, ⊎_elim, length-set, arith}
use Rattle.std.specs.Prelude.{slice_index}
use mathlib.Core.Option.{some, none}
use mathlib.Core.List.{IsPrefix}
use mathlib.Core.Logic.{dite}
use native.Mathlib.Decide.{ℕ_discrete}
use lib.ListN.{get_elem?}
use Rattle.atomic_table.specs.Table.{gives, step, Allows}
use Rattle.atomic_table.proofs.Lists.{set_else, set_here}
use Rattle.blink_batch.specs.declared.Entry.{Entry}
use Rattle.blink_live.proofs.Offered.{prefix_of_prefix}
use Rattle.blink_map.specs.declared.slots.Current.{Current}
use Rattle.blink_map.specs.declared.slots.Generation.{Generation}
use Rattle.blink_map.specs.declared.slots.Known.{Known}
use Rattle.blink_map.specs.declared.slots.SlotView.{SlotView}
use Rattle.blink_map.specs.Rule.{Account, AreApart, HasAccount, HasTaken, IsContinued, IsCurrentAt, IsGeneration, IsGrowing, IsSeatOf, RestsAt, SlotSeat, Slots, known_of, word_of}
use Rattle.blink_map.specs.Steps.{CanGive, front_of, gives_back, has_given, past_of}
use Rattle.blink_map.proofs.Basics.{at_else, at_front, at_here, at_with, each_set, front_stays, prefix_refl, same_slot, with_at, word_else}

module _ (first : List Entry) (s : Slots) (rule : IsGrowing first s) (id slot level : ℕ) (v : SlotView) (now : Generation) (held : Current) (known : Known) (at : get_elem? s.views id ≡ some v) (last : length v.taken ≡ suc level)
    (is_taken : get_elem? v.taken level ≡ some (slot, known)) (is_now : v.now ≡ Some now) (its : IsCurrentAt now slot held) (saw : IsPrefix known.seen (known_of now.past slot held).seen)
    (made : (known.made ≡ (known_of now.past slot held).made) ⊎ ((k : ℕ) × (own : Known) × (get_elem? v.accounts k ≡ some (slot, own)))) where
  abbrev known_then : Known
  known_then = known_of now.past slot held

  abbrev v_given : SlotView
  v_given = has_given v slot known_then

  abbrev s_given : Slots
  s_given = record { words = set s.words (word_of slot) 0; homes = set s.homes slot (some (Some held)); views = set s.views id v_given }

  abbrev had_then : ℕ → Known
  had_then = with_at rule.had slot known_then

  now_same : now ≡ rule.now
  now_same = (rule.present id v now at is_now).0

  mine : HasTaken s rule.taker rule.level rule.had id level (slot, known)
  mine = rule.taken id v level (slot, known) at is_taken

  long_then : length s_given.homes ≡ length s.homes
  long_then = length-set s.homes slot (some (Some held))

  rests_then : (other : ℕ) → other < length s_given.homes → slice_index s_given.words (word_of other) ≡ 0 → RestsAt s_given rule.now other (had_then other)
  rests_then other within is = dite (ℕ_discrete other slot)
      (λ same. subst (λ (c : ℕ). RestsAt s_given rule.now c (had_then c)) (sym same) record {
        held = held;
        home = set_here s.homes slot (some (Some held)) mine.in_range;
        its = subst (λ (g : Generation). IsCurrentAt g slot held) now_same its;
        is = at_here rule.had slot known_then ∙ ap (λ (g : Generation). known_of g.past slot held) now_same;
      })
      (λ differ.
      let was = rule.rests other (let long = long_then in omega (arith, long, within)) (sym (word_else s.words slot 0 other differ) ∙ is) in
      record { held = was.held; home = set_else s.homes slot other (some (Some held)) differ ∙ was.home; its = was.its; is = at_else rule.had slot known_then other differ ∙ was.is })

  -- what another seat's account says of the slot
  continued : (seat : ℕ) (account : Account) → seat ≢ id → HasAccount s rule.owner rule.had seat account → account.0 ≡ slot → IsContinued account.1 known_then
  continued seat account differ has same =
      let old : IsContinued account.1 known = subst (IsContinued account.1) (ap rule.had same ∙ mine.same) has.is in
      record {
        saw = prefix_of_prefix account.1.seen known.seen known_then.seen old.saw saw;
        made = old.made ∙ ⊎_elim
            (λ (same_made : known.made ≡ known_then.made). same_made)
            (λ (own : (k : ℕ) × (own : Known) × (get_elem? v.accounts k ≡ some (slot, own))). absurd (differ (sym has.own ∙ (ap rule.owner same ∙ (rule.accounts id v own.0 (slot, own.1) at own.2).own))))
            made;
      }

  others_account : (seat : ℕ) (account : Account) → seat ≢ id → HasAccount s rule.owner rule.had seat account → HasAccount s_given rule.owner had_then seat account
  others_account seat account differ has = record {
    in_range = (let long = long_then in let r = has.in_range in omega (arith, long, r));
    own = has.own;
    is = dite (ℕ_discrete account.0 slot)
        (λ same. subst (IsContinued account.1) (sym (ap had_then same ∙ at_here rule.had slot known_then)) (continued seat account differ has same))
        (λ other. subst (IsContinued account.1) (sym (at_else rule.had slot known_then account.0 other)) has.is);
  }

  own_account : (k : ℕ) (account : Account) → get_elem? v_given.accounts k ≡ some account → HasAccount s_given rule.owner had_then id account
  own_account k account is =
      let from = at_with slot known_then v.accounts k account is in
      let has = rule.accounts id v k from.0 at from.1 in
      let long = long_then in
      let r = has.in_range in
      ⊎_elim
      (λ (t : (from.0.0 ≡ slot) × ((slot, known_then) ≡ account)). subst (HasAccount s_given rule.owner had_then id) t.1 record {
        in_range = (let same = t.0 in omega (arith, long, r, same));
        own = ap rule.owner (sym t.0) ∙ has.own;
        is = subst (IsContinued known_then) (sym (at_here rule.had slot known_then)) record { saw = prefix_refl known_then.seen; made = refl };
      })
      (λ (t : (from.0.0 ≢ slot) × (from.0 ≡ account)). subst (HasAccount s_given rule.owner had_then id) t.1 record {
        in_range = omega (arith, long, r);
        own = has.own;
        is = subst (IsContinued from.0.1) (sym (at_else rule.had slot known_then from.0.0 t.0)) has.is;
      })
      from.2

  own_apart : AreApart v_given.accounts
  own_apart k j one other is_one is_other same =
      let a = at_with slot known_then v.accounts k one is_one in
      let b = at_with slot known_then v.accounts j other is_other in
      rule.apart id v at k j a.0 b.0 a.1 b.1 (same_slot slot known_then a.0 one a.2 ∙ (same ∙ sym (same_slot slot known_then b.0 other b.2)))

  still_taken : (seat k : ℕ) (one : Account) → one.0 ≢ slot → HasTaken s rule.taker rule.level rule.had seat k one → HasTaken s_given rule.taker rule.level had_then seat k one
  still_taken seat k one differ has = record {
    in_range = (let long = long_then in let r = has.in_range in omega (arith, long, r));
    word = word_else s.words slot 0 one.0 differ ∙ has.word;
    own = has.own;
    at_level = has.at_level;
    same = at_else rule.had slot known_then one.0 differ ∙ has.same;
  }

  own_taken : (k : ℕ) (one : Account) → get_elem? v_given.taken k ≡ some one → HasTaken s_given rule.taker rule.level had_then id k one
  own_taken k one is =
      let old = at_front v.taken one k is in
      let has = rule.taken id v k one at old.0 in
      let early = old.1 in
      let whole = last in
      still_taken id k one (λ (same : one.0 ≡ slot). let levels : k ≡ level = sym has.at_level ∙ (ap rule.level same ∙ mine.at_level) in omega (arith, early, whole, levels)) has

  own_present : (g : Generation) → v_given.now ≡ Some g → (g ≡ rule.now) × (v_given.taken ≢ [])
  own_present g is = let kept = front_stays (front_of v.taken) v.now g is in ((rule.present id v g at kept.0).0, kept.1)

  pub is_given : IsGrowing first s_given
  is_given = record {
    now = rule.now;
    owner = rule.owner;
    taker = rule.taker;
    level = rule.level;
    had = had_then;
    is_generation = subst (λ (n : ℕ). IsGeneration first n rule.now) (sym long_then) rule.is_generation;
    width = length-set s.words (word_of slot) 0 ∙ (rule.width ∙ sym (ap word_of long_then));
    rests = rests_then;
    seats = each_set s.views id v_given (λ k w. 0 < w.slots → IsSeatOf first (length s_given.homes) w)
        (λ some. subst (λ (n : ℕ). IsSeatOf first n v_given) (sym long_then) (let was = rule.seats id v at some in record { same_first = was.same_first; same_slots = was.same_slots }))
        (λ k w differ there some. subst (λ (n : ℕ). IsSeatOf first n w) (sym long_then) (rule.seats k w there some));
    accounts = λ seat w k account there. each_set s.views id v_given (λ j x. get_elem? x.accounts k ≡ some account → HasAccount s_given rule.owner had_then j account)
        (own_account k account) (λ j x differ was is. others_account j account differ (rule.accounts j x k account was is)) seat w there;
    apart = each_set s.views id v_given (λ j x. AreApart x.accounts) own_apart (λ j x differ was. rule.apart j x was);
    present = λ seat w g there. each_set s.views id v_given (λ j x. x.now ≡ Some g → (g ≡ rule.now) × (x.taken ≢ []))
        (own_present g) (λ j x differ was. rule.present j x g was) seat w there;
    taken = λ seat w k one there. each_set s.views id v_given (λ j x. get_elem? x.taken k ≡ some one → HasTaken s_given rule.taker rule.level had_then j k one)
        (own_taken k one)
        (λ j x differ was is. let has = rule.taken j x k one was is in still_taken j k one (λ (same : one.0 ≡ slot). differ (sym has.own ∙ (ap rule.taker same ∙ mine.own))) has) seat w there;
  }

pub slot_is_given : (first : List Entry) (slots id slot : ℕ) (v : SlotView) (held : Current) (others : List (ℕ × Option Current)) → CanGive slot (v, (slot, None) ∷ others) held
    → Allows (IsGrowing first) slots id (v, (slot, Some held) ∷ others) (word_of slot) (λ n. 0) (λ n. gives_back (step slots (word_of slot) 0 0 none) (v, (slot, Some held) ∷ others) 0)
slot_is_given first slots id slot v held others can s rule homes at small = (
  has_given v slot (known_of can.now.past slot held),
  gives,
  tt,
  is_given first s rule id slot can.level v can.now held can.known at can.last can.taken can.is_now can.its can.saw can.made,
  ap (λ (n : Option Generation). let then : SlotSeat = (has_given v slot (known_of (past_of n) slot held), others) in then) (sym can.is_now),
)
