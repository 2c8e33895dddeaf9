-- Seats come, are cut, and are put together.
use Rattle.std.proofs.Common.{◌≡◌, ◌≢◌, ℕ, zero, suc, ◌<◌, Some, None, List, [], ◌∷◌, ◌++◌, length, set, refl, sym, ap, ◌∙◌, subst, arith}
use mathlib.Core.Option.{some, none, some-injective, some-ne-none}
use lib.ListN.{get_elem?}
use Rattle.atomic_table.specs.Table.{step, Enters, Joins, Splits}
use Rattle.atomic_table.proofs.Lists.{set_else}
use Rattle.blink_batch.specs.declared.Entry.{Entry}
use Rattle.blink_map.specs.declared.slots.Generation.{Generation}
use Rattle.blink_map.specs.declared.slots.Known.{Known}
use Rattle.blink_map.specs.declared.slots.SlotView.{SlotView}
use Rattle.blink_map.specs.Rule.{Account, AreApart, HasAccount, HasTaken, IsGrowing, IsSeatOf, RestsAt, Slots, opener}
use Rattle.blink_map.specs.Steps.{behind_first, enters, entrant, first_alone, first_in, nobody, together, without_first}
use Rattle.blink_map.proofs.Basics.{at_else, at_here, each_more, each_set, with_at}

-- ---- what holds of the slots holds with other views

module _ (s : Slots) (views : List SlotView) where
  abbrev s_with : Slots
  s_with = record { words = s.words; homes = s.homes; views = views }

  still_rests : (g : Generation) (slot : ℕ) (known : Known) → RestsAt s g slot known → RestsAt s_with g slot known
  still_rests g slot known was = record { held = was.held; home = was.home; its = was.its; is = was.is }

  still_account : (owner : ℕ → ℕ) (had : ℕ → Known) (seat : ℕ) (account : Account) → HasAccount s owner had seat account → HasAccount s_with owner had seat account
  still_account owner had seat account has = record { in_range = has.in_range; own = has.own; is = has.is }

  still_taken : (taker level : ℕ → ℕ) (had : ℕ → Known) (seat k : ℕ) (one : Account) → HasTaken s taker level had seat k one → HasTaken s_with taker level had seat k one
  still_taken taker level had seat k one has = record { in_range = has.in_range; word = has.word; own = has.own; at_level = has.at_level; same = has.same }

no_account : (k : ℕ) (account : Account) → get_elem? {A = Account} [] k ≡ some account → ⊥
no_account k account is = some-ne-none account (sym is)

-- ---- a seat comes

module _ (first : List Entry) (s : Slots) (rule : IsGrowing first s) (slots : ℕ) (homes : length s.homes ≡ slots) where
  abbrev v_entered : SlotView
  v_entered = entrant (opener first slots)

  abbrev views_entered : List SlotView
  views_entered = s.views ++ v_entered ∷ []

  is_entered : IsGrowing first (s_with s views_entered)
  is_entered = record {
    now = rule.now;
    owner = rule.owner;
    taker = rule.taker;
    level = rule.level;
    had = rule.had;
    is_generation = rule.is_generation;
    width = rule.width;
    rests = λ slot inside is. still_rests s views_entered rule.now slot (rule.had slot) (rule.rests slot inside is);
    seats = each_more s.views v_entered (λ k w. 0 < w.slots → IsSeatOf first (length s.homes) w) (λ some. record { same_first = refl; same_slots = sym homes }) rule.seats;
    accounts = λ seat w k account there. each_more s.views v_entered (λ j x. get_elem? x.accounts k ≡ some account → HasAccount (s_with s views_entered) rule.owner rule.had j account)
        (λ is. absurd (no_account k account is)) (λ j x was is. still_account s views_entered rule.owner rule.had j account (rule.accounts j x k account was is)) seat w there;
    apart = each_more s.views v_entered (λ j x. AreApart x.accounts) (λ k j one other is. absurd (no_account k one is)) rule.apart;
    present = λ seat w g there. each_more s.views v_entered (λ j x. x.now ≡ Some g → (g ≡ rule.now) × (x.taken ≢ [])) (λ (is : None ≡ Some g). absurd (cc)) (λ j x was. rule.present j x g was) seat w there;
    taken = λ seat w k one there. each_more s.views v_entered (λ j x. get_elem? x.taken k ≡ some one → HasTaken (s_with s views_entered) rule.taker rule.level rule.had j k one)
        (λ is. absurd (no_account k one is)) (λ j x was is. still_taken s views_entered rule.taker rule.level rule.had j k one (rule.taken j x k one was is)) seat w there;
  }

pub seat_enters : (first : List Entry) (slots : ℕ) → Enters (IsGrowing first) slots 0 (λ n w. enters (step slots 0 0 0 none) (opener first slots, []) n (w, []))
seat_enters first slots s rule homes small = (entrant (opener first slots), is_entered first s rule slots homes, refl)

-- ---- the first session gets a seat of its own

behind : (accounts more : List Account) (account : Account) → accounts ≡ account ∷ more → (k : ℕ) (one : Account) → get_elem? (behind_first accounts) k ≡ some one → get_elem? accounts (suc k) ≡ some one
behind accounts more account is k one e = ap (λ (l : List Account). get_elem? l (suc k)) is ∙ (ap (λ (l : List Account). get_elem? (behind_first l) k) (sym is) ∙ e)

module _ (first : List Entry) (s : Slots) (rule : IsGrowing first s) (id : ℕ) (v : SlotView) (account : Account) (more : List Account) (at : get_elem? s.views id ≡ some v) (is : v.accounts ≡ account ∷ more) where
  abbrev kept_views : List SlotView
  kept_views = set s.views id (without_first v)

  abbrev views_cut : List SlotView
  views_cut = kept_views ++ first_alone v ∷ []

  abbrev owner_then : ℕ → ℕ
  owner_then = with_at rule.owner account.0 (length kept_views)

  each_cut : (P : ℕ → SlotView → Type 0) → P id (without_first v) → ((seat : ℕ) (w : SlotView) → seat ≢ id → get_elem? s.views seat ≡ some w → P seat w) → P (length kept_views) (first_alone v)
      → (seat : ℕ) (w : SlotView) → get_elem? views_cut seat ≡ some w → P seat w
  each_cut P mine others last = each_more kept_views (first_alone v) P last (each_set s.views id (without_first v) P mine others)

  head_is : get_elem? v.accounts 0 ≡ some account
  head_is = ap (λ (l : List Account). get_elem? l 0) is

  has_head : HasAccount s rule.owner rule.had id account
  has_head = rule.accounts id v 0 account at head_is

  other_account : (seat : ℕ) (one : Account) → one.0 ≢ account.0 → HasAccount s rule.owner rule.had seat one → HasAccount (s_with s views_cut) owner_then rule.had seat one
  other_account seat one differ has = record { in_range = has.in_range; own = at_else rule.owner account.0 (length kept_views) one.0 differ ∙ has.own; is = has.is }

  left_accounts : (k : ℕ) (one : Account) → get_elem? (behind_first v.accounts) k ≡ some one → HasAccount (s_with s views_cut) owner_then rule.had id one
  left_accounts k one there =
      let whole = behind v.accounts more account is k one there in
      other_account id one (λ (same : one.0 ≡ account.0). let e = rule.apart id v at (suc k) 0 one account whole head_is same in omega (arith, e)) (rule.accounts id v (suc k) one at whole)

  -- the only one
  alone : (k : ℕ) (one : Account) → get_elem? (first_in v.accounts) k ≡ some one → (k ≡ 0) × (account ≡ one)
  alone k one there = go k (ap (λ (l : List Account). get_elem? (first_in l) k) (sym is) ∙ there)
    where
      go : (k : ℕ) → get_elem? (account ∷ []) k ≡ some one → (k ≡ 0) × (account ≡ one)
      go zero e = (refl, some-injective account one e)
      go (suc k) e = absurd (some-ne-none one (sym e))

  right_accounts : (k : ℕ) (one : Account) → get_elem? (first_in v.accounts) k ≡ some one → HasAccount (s_with s views_cut) owner_then rule.had (length kept_views) one
  right_accounts k one there = subst (HasAccount (s_with s views_cut) owner_then rule.had (length kept_views)) (alone k one there).1
      record { in_range = has_head.in_range; own = at_here rule.owner account.0 (length kept_views); is = has_head.is }

  left_apart : AreApart (behind_first v.accounts)
  left_apart k j one other is_one is_other same =
      let e = rule.apart id v at (suc k) (suc j) one other (behind v.accounts more account is k one is_one) (behind v.accounts more account is j other is_other) same in
      omega (arith, e)

  right_apart : AreApart (first_in v.accounts)
  right_apart k j one other is_one is_other same = (alone k one is_one).0 ∙ sym (alone j other is_other).0

  is_cut : IsGrowing first (s_with s views_cut)
  is_cut = record {
    now = rule.now;
    owner = owner_then;
    taker = rule.taker;
    level = rule.level;
    had = rule.had;
    is_generation = rule.is_generation;
    width = rule.width;
    rests = λ slot inside free. still_rests s views_cut rule.now slot (rule.had slot) (rule.rests slot inside free);
    seats = each_cut (λ k w. 0 < w.slots → IsSeatOf first (length s.homes) w)
        (λ some. let was = rule.seats id v at some in record { same_first = was.same_first; same_slots = was.same_slots }) (λ k w differ. rule.seats k w)
        (λ some. let was = rule.seats id v at some in record { same_first = was.same_first; same_slots = was.same_slots });
    accounts = λ seat w k one there. each_cut (λ j x. get_elem? x.accounts k ≡ some one → HasAccount (s_with s views_cut) owner_then rule.had j one)
        (left_accounts k one)
        (λ j x differ was e. let has = rule.accounts j x k one was e in other_account j one (λ (same : one.0 ≡ account.0). differ (sym has.own ∙ (ap rule.owner same ∙ has_head.own))) has)
        (right_accounts k one) seat w there;
    apart = each_cut (λ j x. AreApart x.accounts) left_apart (λ j x differ. rule.apart j x) right_apart;
    present = λ seat w g there. each_cut (λ j x. x.now ≡ Some g → (g ≡ rule.now) × (x.taken ≢ []))
        (rule.present id v g at) (λ j x differ was. rule.present j x g was) (λ (e : None ≡ Some g). absurd (cc)) seat w there;
    taken = λ seat w k one there. each_cut (λ j x. get_elem? x.taken k ≡ some one → HasTaken (s_with s views_cut) rule.taker rule.level rule.had j k one)
        (λ e. still_taken s views_cut rule.taker rule.level rule.had id k one (rule.taken id v k one at e))
        (λ j x differ was e. still_taken s views_cut rule.taker rule.level rule.had j k one (rule.taken j x k one was e))
        (λ e. absurd (no_account k one e)) seat w there;
  }

pub seat_is_cut : (first : List Entry) (id : ℕ) (v : SlotView) (account : Account) (more : List Account) → v.accounts ≡ account ∷ more → Splits (IsGrowing first) id v (without_first v) (first_alone v)
seat_is_cut first id v account more is s rule at = is_cut first s rule id v account more at is

-- ---- two seats become one

module _ (first : List Entry) (s : Slots) (rule : IsGrowing first s) (id other : ℕ) (v w : SlotView) (account : Account) (at : get_elem? s.views id ≡ some v) (differ : ¬ (other ≡ id)) (at_other : get_elem? (set s.views id (together v w)) other ≡ some w) (is : w.accounts ≡ account ∷ []) where
  abbrev v_both : SlotView
  v_both = together v w

  abbrev views_joined : List SlotView
  views_joined = set (set s.views id v_both) other nobody

  abbrev owner_both : ℕ → ℕ
  owner_both = with_at rule.owner account.0 id

  was_other : get_elem? s.views other ≡ some w
  was_other = sym (set_else s.views id other v_both differ) ∙ at_other

  theirs : HasAccount s rule.owner rule.had other account
  theirs = rule.accounts other w 0 account was_other (ap (λ (l : List Account). get_elem? l 0) is)

  each_joined : (P : ℕ → SlotView → Type 0) → P id v_both → ((seat : ℕ) (x : SlotView) → seat ≢ id → seat ≢ other → get_elem? s.views seat ≡ some x → P seat x) → P other nobody
      → (seat : ℕ) (x : SlotView) → get_elem? views_joined seat ≡ some x → P seat x
  each_joined P mine others last = each_set (set s.views id v_both) other nobody P last
      (λ seat x apart there. each_set s.views id v_both (λ k y. k ≢ other → P k y) (λ not_other. mine) (λ k y not_id was not_other. others k y not_id not_other was) seat x there apart)

  both_are : v_both.accounts ≡ account ∷ v.accounts
  both_are = ap (λ (l : List Account). l ++ v.accounts) is

  kept_account : (seat : ℕ) (one : Account) → one.0 ≢ account.0 → HasAccount s rule.owner rule.had seat one → HasAccount (s_with s views_joined) owner_both rule.had seat one
  kept_account seat one other_slot has = record { in_range = has.in_range; own = at_else rule.owner account.0 id one.0 other_slot ∙ has.own; is = has.is }

  -- an account of another seat than this one is of another slot
  other_slot : (seat : ℕ) (one : Account) → seat ≢ other → HasAccount s rule.owner rule.had seat one → one.0 ≢ account.0
  other_slot seat one apart has same = apart (sym has.own ∙ (ap rule.owner same ∙ theirs.own))

  not_other : id ≢ other
  not_other same = differ (sym same)

  joined_accounts : (k : ℕ) (one : Account) → get_elem? v_both.accounts k ≡ some one → HasAccount (s_with s views_joined) owner_both rule.had id one
  joined_accounts k one there = go k (ap (λ (l : List Account). get_elem? l k) (sym both_are) ∙ there)
    where
      go : (k : ℕ) → get_elem? (account ∷ v.accounts) k ≡ some one → HasAccount (s_with s views_joined) owner_both rule.had id one
      go zero e = subst (HasAccount (s_with s views_joined) owner_both rule.had id) (some-injective account one e) record { in_range = theirs.in_range; own = at_here rule.owner account.0 id; is = theirs.is }
      go (suc k) e = let has = rule.accounts id v k one at e in kept_account id one (other_slot id one not_other has) has

  joined_apart : AreApart v_both.accounts
  joined_apart k j one two is_one is_two same = go k j (ap (λ (l : List Account). get_elem? l k) (sym both_are) ∙ is_one) (ap (λ (l : List Account). get_elem? l j) (sym both_are) ∙ is_two)
    where
      go : (k j : ℕ) → get_elem? (account ∷ v.accounts) k ≡ some one → get_elem? (account ∷ v.accounts) j ≡ some two → k ≡ j
      go zero zero e f = refl
      go zero (suc j) e f = absurd (other_slot id two not_other (rule.accounts id v j two at f) (sym same ∙ ap (λ (a : Account). a.0) (sym (some-injective account one e))))
      go (suc k) zero e f = absurd (other_slot id one not_other (rule.accounts id v k one at e) (same ∙ ap (λ (a : Account). a.0) (sym (some-injective account two f))))
      go (suc k) (suc j) e f = ap suc (rule.apart id v at k j one two e f same)

  is_joined : IsGrowing first (s_with s views_joined)
  is_joined = record {
    now = rule.now;
    owner = owner_both;
    taker = rule.taker;
    level = rule.level;
    had = rule.had;
    is_generation = rule.is_generation;
    width = rule.width;
    rests = λ slot inside free. still_rests s views_joined rule.now slot (rule.had slot) (rule.rests slot inside free);
    seats = each_joined (λ k x. 0 < x.slots → IsSeatOf first (length s.homes) x)
        (λ some. let was = rule.seats id v at some in record { same_first = was.same_first; same_slots = was.same_slots })
        (λ k x not_id not_spent. rule.seats k x) (λ some. absurd (omega (arith, some)));
    accounts = λ seat x k one there. each_joined (λ j y. get_elem? y.accounts k ≡ some one → HasAccount (s_with s views_joined) owner_both rule.had j one)
        (joined_accounts k one)
        (λ j y not_id not_spent was e. let has = rule.accounts j y k one was e in kept_account j one (other_slot j one not_spent has) has)
        (λ e. absurd (no_account k one e)) seat x there;
    apart = each_joined (λ j y. AreApart y.accounts) joined_apart (λ j y not_id not_spent. rule.apart j y) (λ k j one two e. absurd (no_account k one e));
    present = λ seat x g there. each_joined (λ j y. y.now ≡ Some g → (g ≡ rule.now) × (y.taken ≢ []))
        (rule.present id v g at) (λ j y not_id not_spent was. rule.present j y g was) (λ (e : None ≡ Some g). absurd (cc)) seat x there;
    taken = λ seat x k one there. each_joined (λ j y. get_elem? y.taken k ≡ some one → HasTaken (s_with s views_joined) rule.taker rule.level rule.had j k one)
        (λ e. still_taken s views_joined rule.taker rule.level rule.had id k one (rule.taken id v k one at e))
        (λ j y not_id not_spent was e. still_taken s views_joined rule.taker rule.level rule.had j k one (rule.taken j y k one was e))
        (λ e. absurd (no_account k one e)) seat x there;
  }

pub seats_are_joined : (first : List Entry) (id other : ℕ) (v w : SlotView) (account : Account) → w.accounts ≡ account ∷ [] → Joins (IsGrowing first) id v other w (together v w) nobody
seats_are_joined first id other v w account is s rule at differ at_other = is_joined first s rule id other v w account at differ at_other is
