-- A deal keeps the rule: the keeper's first rows and page numbers, and keys that nobody has, become a new seat's.
use Rattle.std.proofs.Common.{◌≡◌, ◌≢◌, ◌⊎◌, ℕ, suc, ◌+◌, ◌<◌, ◌≤◌, Bool, true, false, Some, None, List, [], ◌∷◌, ◌++◌, length, set, refl, sym, ap, ◌∙◌, subst, inl, inr, ⊎_elim, length-set, length-append, arith}
use Rattle.std.specs.Prelude.{if◌then◌else◌, slice_index, Contains}
use mathlib.Core.Option.{some, some-injective}
use lib.ListN.{get_elem?}
use Rattle.atomic_table.specs.Table.{State, Splits}
use Rattle.atomic_table.proofs.Lists.{at_longer}
use Rattle.blink_batch.specs.{pointer_of}
use Rattle.blink_machine.specs.TreeState.{TreeState}
use Rattle.blink_live.specs.declared.view.Change.{Change}
use Rattle.blink_live.specs.declared.view.Plan.{Plan}
use Rattle.blink_live.specs.declared.view.Role.{Role}
use Rattle.blink_live.specs.declared.view.Role.TheVariants.{Keeper, Pass}
use Rattle.blink_live.specs.declared.view.View.{View}
use Rattle.blink_live.specs.Changes.{put, after, entries_after, states_of}
use Rattle.blink_live.specs.Dealing.{CanDeal}
use Rattle.blink_live.specs.Reuse.{IsAtHand, IsReuseSafe}
use Rattle.blink_live.specs.Accounts.{IsAccount, AreAccounts, made_at, account_of, accounts_in, accounts_of}
use Rattle.blink_live.specs.Rule.{HasPool, Owners, IsFree, IsShare, IsInRole, Knows, pass_count, passes_in, AreCounted, IsTableAt, IsTable}
use Rattle.blink_live.specs.Views.{is_among, changes_of, share_of_keys, deals_one, dealt_in, keeps_rest, gets_first, latch_in, IsCommon, span}
use Rattle.blink_live.specs.Words.{place_word}
use Rattle.blink_live.proofs.dealt.KeysOfShare.{among_from_contains, contains_from_among, entries_of_keep, changes_of_keep}
use Rattle.blink_live.proofs.told.EntriesAfterChanges.{after-same_states, entries_after-state}
use Rattle.blink_live.proofs.table.AccountsStay.{accounts_longer, accounts_stay, accounts_with_place, nothing_more, one_apart, only_account, prefix_made}
use Rattle.blink_live.proofs.table.MapsWithOneChange.{put_here, put_else}
use Rattle.blink_live.proofs.reuse.ReuseStaysSafe.{reuse_longer, reuse_stays}
use Rattle.blink_live.proofs.table.OwnersChange.{StaysPublished, StillOwns, seat_reads_still, share_still, knows_still, owners_change}
use Rattle.blink_live.proofs.table.OwnersInRange.{ranged, ranged_in, ranged_out}
use Rattle.blink_live.proofs.table.PassesOut.{at_end, passes_more, passes_role}
use Rattle.blink_live.proofs.table.SeatsThatStay.{at_inside, at_put, views_stay}
use Rattle.blink_live.proofs.table.CallsOfSeats.{call_still, nothing_for_call}
use Rattle.blink_live.proofs.table.LooksStay.{nothing_noted}
use Rattle.blink_live.proofs.table.SparesOfSeats.{no_spare, spare_beside}

-- whose is what after the deal
abbrev owners_after : Owners → ℕ → View → ℕ → ℕ → List ℕ → Owners
owners_after old seat v rows pages keys = record {
  row = ranged v.rows.next (v.rows.next + rows) (suc seat) old.row;
  page = ranged v.pages.next (v.pages.next + pages) (suc seat) old.page;
  key = λ key. if is_among keys key then suc seat else old.key key;
  latch_number = put old.latch_number seat (latch_in v.plan.places (v.rows.next + rows));
  place = put old.place (dealt_in v.role) (suc seat);
  fixed = old.fixed;
  named_by = old.named_by;
}

-- the changes of no key
none_of_these : (keys : List ℕ) (changes : List Change) → ((key : ℕ) → is_among keys key ≡ false) → changes_of keys changes ≡ []
none_of_these keys [] none = refl
none_of_these keys (change ∷ rest) none = ap (λ (b : Bool). if b then change ∷ changes_of keys rest else changes_of keys rest) (none change.key) ∙ none_of_these keys rest none

module _ (plan : Plan) (s : State ℕ View) (tree_state : TreeState) (h : IsTableAt plan s tree_state) (id : ℕ) (v : View) (at : get_elem? s.views id ≡ some v)
    (rows pages : ℕ) (keys taken : List ℕ) (can : CanDeal v rows pages keys taken) where
  abbrev new_seat : ℕ
  new_seat = length s.views

  abbrev old : Owners
  old = h.owners

  abbrev new : Owners
  new = owners_after h.owners new_seat v rows pages keys

  abbrev left : View
  left = keeps_rest v rows pages taken

  abbrev right : View
  right = gets_first v rows pages keys

  known : Knows plan old s.words tree_state h.log id v
  known = h.views id v at

  in_role : IsInRole plan old h.log id v (Keeper can.dealt can.back)
  in_role = subst (IsInRole plan old h.log id v) can.role known.in_role

  -- ---- what isn't dealt stays whose it was

  row_else : (row owner : ℕ) → old.row row ≡ owner → owner ≢ suc id → new.row row ≡ owner
  row_else row owner is other = ranged_out v.rows.next (v.rows.next + rows) (suc new_seat) old.row row
      (λ low high. other (sym is ∙ known.rows.own row low (let enough = can.enough_rows in omega (arith, enough, high)))) ∙ is

  page_else : (number owner : ℕ) → old.page number ≡ owner → owner ≢ suc id → new.page number ≡ owner
  page_else number owner is other = ranged_out v.pages.next (v.pages.next + pages) (suc new_seat) old.page number
      (λ low high. other (sym is ∙ known.numbers.own number low (let enough = can.enough_pages in omega (arith, enough, high)))) ∙ is

  dealt_key : (key : ℕ) → Contains keys key → old.key key ≡ 0
  dealt_key key has = (in_role.2 key (can.free_keys key has)).own

  key_else : (key owner : ℕ) → old.key key ≡ owner → owner ≢ 0 → new.key key ≡ owner
  key_else key owner is some_owner = go (is_among keys key) refl
    where
      go : (b : Bool) → is_among keys key ≡ b → (if b then suc new_seat else old.key key) ≡ owner
      go true has = absurd (some_owner (sym is ∙ dealt_key key (contains_from_among keys key has)))
      go false has = is

  published : StaysPublished old new
  published = record { rows = λ row is. row_else row 0 is (λ e. absurd (omega (arith, e))); fixed = refl; named_by = refl }

  latch_else : (seat : ℕ) → seat ≢ new_seat → new.latch_number seat ≡ old.latch_number seat
  latch_else seat other = put_else old.latch_number new_seat seat (latch_in v.plan.places (v.rows.next + rows)) other

  -- whoever holds a latch has an operation, and the new seat has none
  holder_else : (number seat : ℕ) → tree_state.holder number ≡ Some seat → new.latch_number seat ≡ old.latch_number seat
  holder_else number seat holds = latch_else seat (λ e.
      let its = h.invariant.1.latches.by_holder seat number holds in
      let idle : tree_state.machines seat ≡ None = h.others_idle seat (omega (arith, e)) in
      let under : tree_state.machines seat ≡ Some its.0 = its.1 in
      absurd (cc))

  -- the place is nobody's before
  place_left : (old.place (dealt_in v.role) ≡ 0) × (dealt_in v.role < plan.places → slice_index s.words (place_word plan.counts (dealt_in v.role)) ≡ 0)
  place_left =
      let same : can.dealt ≡ dealt_in v.role = ap dealt_in (sym can.role) in
      subst (λ (p : ℕ). (old.place p ≡ 0) × (p < plan.places → slice_index s.words (place_word plan.counts p) ≡ 0)) same (known.places_left can.dealt can.back can.role can.dealt (omega arith))

  place_else : (place : ℕ) → place ≢ dealt_in v.role → new.place place ≡ old.place place
  place_else place other = put_else old.place (dealt_in v.role) place (suc new_seat) other

  still_owns : (seat : ℕ) → seat ≢ id → seat < new_seat → StillOwns old new seat
  still_owns seat other inside = record {
    row = λ row is. row_else row (suc seat) is (λ e. other (omega (arith, e)));
    page = λ number is. page_else number (suc seat) is (λ e. other (omega (arith, e)));
    key = λ key is. key_else key (suc seat) is (λ e. absurd (omega (arith, e)));
    latch_number = latch_else seat (λ e. absurd (omega (arith, e, inside)));
    place = λ place is. place_else place (λ e. let zero_is : suc seat ≡ 0 = sym is ∙ (ap old.place e ∙ place_left.0) in absurd (omega (arith, zero_is))) ∙ is;
  }

  -- ---- the keeper

  untaken : (key : ℕ) → ¬ Contains taken key → IsFree new h.log left key
  untaken key none = record { own = go (is_among keys key) refl; saw_all = was_free.saw_all }
    where
      was_free : IsFree old h.log v key
      was_free = in_role.2 key (λ was. none ((can.taken_now key).1 (inl was)))

      go : (b : Bool) → is_among keys key ≡ b → (if b then suc new_seat else old.key key) ≡ 0
      go true has = absurd (none ((can.taken_now key).1 (inr (contains_from_among keys key has))))
      go false has = was_free.own

  left_role : left.role ≡ Keeper (suc can.dealt) can.back
  left_role = ap deals_one can.role

  left_in_role : IsInRole plan new h.log id left left.role
  left_in_role = subst (IsInRole plan new h.log id left) (sym left_role) (
    in_role.0,
    in_role.1,
    untaken,
    λ share has. share_still plan old new s.words h.log published 1 1 share (λ key is. key_else key 1 is (λ e. absurd (omega (arith, e)))) (in_role.3 share has),
  )

  left_knows : Knows plan new s.words tree_state h.log id left
  left_knows = record {
    same_plan = known.same_plan;
    operation = known.operation;
    bounded = known.bounded;
    reads = seat_reads_still plan old new s.words h.log published tree_state v known.reads;
    appends = known.appends;
    rows = record {
      in_range = (let low = known.rows.in_range.0 in omega (arith, low), known.rows.in_range.1);
      own = λ row low high. ranged_out v.rows.next (v.rows.next + rows) (suc new_seat) old.row row (λ a b. omega (arith, low, b)) ∙ known.rows.own row (omega (arith, low)) high;
    };
    numbers = record {
      in_range = (let low = known.numbers.in_range.0 in omega (arith, low), known.numbers.in_range.1);
      own = λ number low high. ranged_out v.pages.next (v.pages.next + pages) (suc new_seat) old.page number (λ a b. omega (arith, low, b)) ∙ known.numbers.own number (omega (arith, low)) high;
      free = λ number low high. known.numbers.free number (omega (arith, low)) high;
    };
    for_call = call_still plan old new s.words tree_state tree_state (suc id) v.call v.rows.next v.pages.next (v.rows.next + rows) (v.pages.next + pages) known.for_call (omega arith, omega arith)
        (λ r below own. ranged_out v.rows.next (v.rows.next + rows) (suc new_seat) old.row r (λ a b. omega (arith, a, below)) ∙ own)
        (λ n below own. ranged_out v.pages.next (v.pages.next + pages) (suc new_seat) old.page n (λ a b. omega (arith, a, below)) ∙ own) (λ n none. none);
    spare = spare_beside plan old new tree_state tree_state (suc id) v.stock.spare v.pages.next v.call.pages known.spare (v.pages.next + pages) v.call.pages (omega arith) (λ n within is. is)
        (λ n within own. ranged_out v.pages.next (v.pages.next + pages) (suc new_seat) old.page n (λ a b. let ends = known.spare.before (omega (arith, within)) in omega (arith, a, ends, within)) ∙ own) (λ n within own none. none);
    share = share_still plan old new s.words h.log published (suc id) (suc id) v.share (λ key is. key_else key (suc id) is (λ e. absurd (omega (arith, e)))) known.share;
    saw = known.saw;
    heard = known.heard;
    in_role = left_in_role;
    placed = λ common is. absurd (let e : Keeper (suc can.dealt) can.back ≡ Pass = sym left_role ∙ is in cc);
    nothing = λ common d b is. let none = known.nothing common can.dealt can.back can.role in (omega (arith, none), omega (arith, none), none.2, none.3);
    places_left = λ d b is place from.
        let e : Keeper (suc can.dealt) can.back ≡ Keeper d b = sym left_role ∙ is in
        let same : suc can.dealt ≡ d = cc in
        let first : can.dealt ≡ dealt_in v.role = ap dealt_in (sym can.role) in
        let was = known.places_left can.dealt can.back can.role place (omega (arith, same, from)) in
        (place_else place (λ here. omega (arith, here, first, same, from)) ∙ was.0, was.1);
  }

  -- ---- the new pass

  new_key : (key : ℕ) → Contains keys key → new.key key ≡ suc new_seat
  new_key key has = ap (λ (b : Bool). if b then suc new_seat else old.key key) (among_from_contains keys key has)

  new_share : IsShare plan new h.log (suc new_seat) (share_of_keys keys v.plan.opening v.seen)
  new_share key has =
      let saw_all : states_of key v.seen ≡ states_of key h.log = (in_role.2 key (can.free_keys key has)).saw_all (can.owned key has) in
      let among : is_among keys key ≡ true = among_from_contains keys key has in
      record {
        own = new_key key has;
        kept = entries_of_keep keys (entries_after v.plan.opening v.seen) key among
            ∙ (entries_after-state v.plan.opening v.seen key
            ∙ (ap (λ (p : Plan). after (pointer_of p.opening) v.seen key) known.same_plan ∙ after-same_states (pointer_of plan.opening) v.seen h.log key saw_all));
        changes = sym (changes_of_keep keys v.seen key among ∙ saw_all);
      }

  right_knows : Knows plan new s.words tree_state h.log new_seat right
  right_knows = record {
    same_plan = known.same_plan;
    operation = h.others_idle new_seat (omega arith);
    bounded = λ m is. absurd (cc);
    reads = (tt, nothing_noted plan new.row s.words tree_state.fan tree_state.prime tree_state.pages);
    appends = tt;
    rows = record {
      in_range = (known.rows.in_range.0, let enough = can.enough_rows in let high = known.rows.in_range.1 in omega (arith, enough, high));
      own = λ row low high. ranged_in v.rows.next (v.rows.next + rows) (suc new_seat) old.row row low high;
    };
    numbers = record {
      in_range = (known.numbers.in_range.0, let enough = can.enough_pages in let high = known.numbers.in_range.1 in omega (arith, enough, high));
      own = λ number low high. ranged_in v.pages.next (v.pages.next + pages) (suc new_seat) old.page number low high;
      free = λ number low high. known.numbers.free number low (let enough = can.enough_pages in omega (arith, enough, high));
    };
    for_call = nothing_for_call plan new s.words tree_state (suc new_seat) v.rows.next v.pages.next known.rows.in_range.0 known.numbers.in_range.0 (let low = known.numbers.in_range in let enough = can.enough_pages in omega (arith, low, enough));
    spare = no_spare plan new tree_state (suc new_seat) v.pages.next (span 1 1) (let low = known.numbers.in_range in let enough = can.enough_pages in omega (arith, low, enough));
    share = new_share;
    saw = known.saw;
    heard = (h.log, refl);
    in_role = (let inside : id < new_seat = at_inside s.views id v at in omega (arith, inside), put_here old.latch_number new_seat (latch_in v.plan.places (v.rows.next + rows)));
    placed = λ common is.
        let in_range : dealt_in v.role < plan.places =
        let there : can.dealt < v.plan.places = can.place_left (subst IsCommon (sym known.same_plan) common) in
        let same_places : v.plan.places ≡ plan.places = ap (λ (p : Plan). p.places) known.same_plan in
        let first : can.dealt ≡ dealt_in v.role = ap dealt_in (sym can.role) in
        omega (arith, there, same_places, first) in
        record { in_range = in_range; own = put_here old.place (dealt_in v.role) (suc new_seat); word = place_left.1 in_range; busy = λ m goes. absurd (cc) };
    places_left = λ d b is. absurd (cc);
    nothing = λ common d b is. absurd (cc);
  }

  -- ---- all seats

  abbrev views_then : List View
  views_then = set s.views id left ++ right ∷ []

  older_knows : (seat : ℕ) (u : View) → get_elem? (set s.views id left) seat ≡ some u → Knows plan new s.words tree_state h.log seat u
  older_knows = views_stay (Knows plan new s.words tree_state h.log) s.views id left left_knows
      (λ seat u other there. knows_still plan old new s.words h.log published tree_state seat u
      (let first : id ≡ 0 = in_role.0 in omega (arith, first, other))
      (still_owns seat other (at_inside s.views seat u there)) (h.views seat u there))

  all_know : (seat : ℕ) (u : View) → get_elem? views_then seat ≡ some u → Knows plan new s.words tree_state h.log seat u
  all_know seat u there = ⊎_elim (λ (t : get_elem? (set s.views id left) seat ≡ some u). older_knows seat u t)
      (λ (t : (seat ≡ length (set s.views id left)) × (right ≡ u)). subst (λ (x : ℕ × View). Knows plan new s.words tree_state h.log x.0 x.1)
      (λ i. (sym (t.0 ∙ length-set s.views id left) i, t.1 i)) right_knows)
      (at_end (set s.views id left) right u seat there)

  counted_then : AreCounted views_then
  counted_then =
      let was = h.counted in
      let first : id ≡ 0 = in_role.0 in
      let is : v ≡ was.keeper = some-injective v was.keeper (sym at ∙ (ap (get_elem? s.views) first ∙ was.first)) in
      let role : v.role ≡ Keeper was.dealt was.back = ap (λ (y : View). y.role) is ∙ was.role in
      let role_then : left.role ≡ Keeper (suc was.dealt) was.back = ap deals_one role in
      let changed : passes_in (set s.views id left) + pass_count v.role ≡ passes_in s.views + pass_count left.role = passes_role s.views id v left at in
      let no_pass : pass_count v.role ≡ 0 = ap pass_count role in
      let no_pass_then : pass_count left.role ≡ 0 = ap pass_count role_then in
      let more : passes_in views_then ≡ passes_in (set s.views id left) + 1 = passes_more (set s.views id left) right in
      let counted = was.counted in
      record {
        keeper = left;
        dealt = suc was.dealt;
        back = was.back;
        first = at_longer (set s.views id left) (right ∷ []) 0 left (subst (λ (i : ℕ). get_elem? (set s.views id left) i ≡ some left) first (at_put s.views id v left at));
        role = role_then;
        counted = λ owned. let count = counted (ap (λ (y : View). y.plan.places) (sym is) ∙ owned) in omega (arith, changed, no_pass, no_pass_then, more, count);
      }

  -- in a common table no key is dealt
  nobodys_then : IsCommon plan → (key : ℕ) → new.key key ≡ 0
  nobodys_then common key = go (is_among keys key) refl
    where
      go : (b : Bool) → is_among keys key ≡ b → (if b then suc new_seat else old.key key) ≡ 0
      go true has = absurd (let none : plan.places ≡ 0 = ap (λ (p : Plan). p.places) (sym known.same_plan) ∙ can.owned key (contains_from_among keys key has) in omega (arith, none, common))
      go false has = h.nobodys common key

  -- nor does anything come from the pool
  pool_then : IsCommon plan → HasPool plan new s.words tree_state
  pool_then common =
      let pool = h.pool common in
      let none = known.nothing common can.dealt can.back can.role in
      let enough_rows = can.enough_rows in
      let enough_pages = can.enough_pages in record {
        rows = record {
          in_range = pool.rows.in_range;
          own = λ row low high. ranged_out v.rows.next (v.rows.next + rows) (suc new_seat) old.row row (λ a c. absurd (omega (arith, a, c, none, enough_rows))) ∙ pool.rows.own row low high;
        };
        pages = record {
          in_range = pool.pages.in_range;
          own = λ number low high. ranged_out v.pages.next (v.pages.next + pages) (suc new_seat) old.page number (λ a c. absurd (omega (arith, a, c, none, enough_pages))) ∙ pool.pages.own number low high;
          free = pool.pages.free;
        };
      }

  -- the new seat's place was nobody's, and its account is empty
  accounts_then : IsCommon plan → AreAccounts plan new.place h.log views_then
  accounts_then common =
      let accounted = h.accounted common in
      let place : ℕ = dealt_in v.role in
      let same : length (set s.views id left) ≡ length s.views = length-set s.views id left in
      let back : AreAccounts plan old.place h.log (set s.views id left) = accounts_stay plan old.place h.log s.views id v left at accounted host_accounts (λ is. absurd (let e : Keeper (suc can.dealt) can.back ≡ Pass = sym left_role ∙ is in cc)) in
      let with_place : AreAccounts plan new.place h.log (set s.views id left) =
      accounts_with_place plan old.place new.place h.log (set s.views id left) place new_seat place_left.0 (put_here old.place place (suc new_seat)) place_else back in
      let right_account : IsAccount new.place h.log (suc (length (set s.views id left))) (account_of right) = record {
        own = put_here old.place place (suc new_seat) ∙ ap suc (sym same);
        all = accounted.nobodys place place_left.0 ∙ sym (no_changes common);
      } in
      accounts_longer plan new.place h.log (set s.views id left) right
      (λ account has. subst (IsAccount new.place h.log (suc (length (set s.views id left)))) (only_account (account_of right) account has) right_account)
      (one_apart (account_of right)) (λ is. none_seen (accounted.nobodys place place_left.0) ∙ sym (no_changes common)) with_place
    where
      host_accounts : accounts_of left ≡ accounts_of v
      host_accounts =
          ap (λ (r : Role). accounts_in r (account_of left) left.accounts) left_role
          ∙ sym (ap (λ (r : Role). accounts_in r (account_of v) v.accounts) can.role)

      -- no key is dealt, so no change of one comes along
      none_among : IsCommon plan → (key : ℕ) → is_among keys key ≡ false
      none_among common key = go (is_among keys key) refl
        where
          go : (b : Bool) → is_among keys key ≡ b → b ≡ false
          go true has = absurd (let none : plan.places ≡ 0 = ap (λ (p : Plan). p.places) (sym known.same_plan) ∙ can.owned key (contains_from_among keys key has) in omega (arith, none, common))
          go false has = refl

      -- nor has the host seen a change at the place
      none_seen : made_at (dealt_in v.role) h.log ≡ [] → made_at (dealt_in v.role) v.seen ≡ []
      none_seen none = let seen = prefix_made (dealt_in v.role) v.seen h.log known.saw in nothing_more (made_at (dealt_in v.role) v.seen) seen.0 (seen.1 ∙ none)

      no_changes : IsCommon plan → changes_of keys v.seen ≡ []
      no_changes common = none_of_these keys v.seen (none_among common)

  -- the host has fewer rows
  fewer_rows : (row : ℕ) → IsAtHand left row → IsAtHand v row ⊎ (old.row row ≢ suc id)
  fewer_rows row hand = ⊎_elim (λ (t : (v.rows.next + rows ≤ row) × (row < v.rows.stop)). inl (inl (omega (arith, t), t.1))) (λ (t : (v.call.rows.next ≤ row) × (row < v.call.rows.stop)). inl (inr t)) hand

  reuse_then : IsCommon plan → IsReuseSafe plan new.row s.words views_then
  reuse_then common = reuse_longer plan new.row s.words (set s.views id left) right refl refl refl
      (reuse_stays plan old.row s.words s.views id v left at (h.reuse common) new.row s.words published.rows
      (λ seat row later is apart. ranged_out v.rows.next (v.rows.next + rows) (suc new_seat) old.row row (λ low high. let enough = can.enough_rows in let mine = known.rows.own row low (omega (arith, high, enough)) in let first = in_role.0 in let one : suc seat ≡ suc id = sym is ∙ mine in omega (arith, one, first, later)) ∙ is)
      (λ n few. refl) refl fewer_rows
      (λ row content is. absurd (let e : Keeper can.dealt can.back ≡ Pass = sym can.role ∙ (((h.reuse common).stocks id v at).awake row content is).0 in cc)))

  deals_at : IsTableAt plan record { words = s.words; homes = s.homes; views = views_then } tree_state
  deals_at = owners_change plan s tree_state h new views_then published holder_else all_know
      (let same : length (set s.views id left) ≡ length s.views = length-set s.views id left in
      let longer : length views_then ≡ length (set s.views id left) + 1 = length-append (set s.views id left) (right ∷ []) in
      omega (arith, same, longer))
      nobodys_then pool_then accounts_then reuse_then counted_then

pub deals_keep_table : (plan : Plan) (id : ℕ) (v : View) (rows pages : ℕ) (keys taken : List ℕ) → CanDeal v rows pages keys taken
    → Splits (IsTable plan) id v (keeps_rest v rows pages taken) (gets_first v rows pages keys)
deals_keep_table plan id v rows pages keys taken can s table at = (table.0, deals_at plan s table.0 table.1 id v at rows pages keys taken can)
