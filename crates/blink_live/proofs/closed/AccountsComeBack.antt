-- A host that takes a session's account keeps the rule: the session's place is the host's then, so nobody adds to the account.
use Rattle.std.proofs.Common.{◌≡◌, ◌≢◌, ℕ, suc, ◌≤◌, None, List, [], ◌∷◌, get_or, length, set, refl, sym, ap, ◌∙◌, subst, ⊎_elim, length-set, arith}
use Rattle.std.specs.Prelude.{Contains}
use Rattle.std.proofs.lemmas.List.Elements.{Contains-get_or}
use Rattle.std.proofs.lemmas.List.Kept.{AllPairs-cons}
use mathlib.Core.Option.{some}
use lib.ListN.{get_elem?}
use Rattle.atomic_table.specs.Table.{State, Joins}
use Rattle.atomic_table.proofs.Lists.{at_set, set_else}
use Rattle.blink_machine.specs.TreeState.{TreeState}
use Rattle.blink_live.specs.declared.view.Account.{Account}
use Rattle.blink_live.specs.declared.view.Plan.{Plan}
use Rattle.blink_live.specs.declared.view.Role.{Role}
use Rattle.blink_live.specs.declared.view.Role.TheVariants.{Keeper, Pass}
use Rattle.blink_live.specs.declared.view.View.{View}
use Rattle.blink_live.specs.Changes.{put}
use Rattle.blink_live.specs.Accounts.{AreApart, HasSeenItsOwn, IsAccount, AreAccounts, account_of, accounts_in, accounts_of}
use Rattle.blink_live.specs.Rule.{ArePlacesLeft, HasPlace, HasPool, Owners, IsInRole, Knows, AreCounted, IsTableAt, IsTable}
use Rattle.blink_live.specs.Views.{IsCommon, spent, takes_account}
use Rattle.blink_live.proofs.dealt.FirstOrOneOfRest.{contains_case}
use Rattle.blink_live.proofs.table.CallsOfSeats.{call_still}
use Rattle.blink_live.proofs.table.AccountsStay.{none_apart}
use Rattle.blink_live.proofs.table.MapsWithOneChange.{put_here, put_else}
use Rattle.blink_live.proofs.reuse.ReuseStaysSafe.{hand_stays, reuse_stays, reuse_without, same_reads}
use Rattle.blink_live.proofs.table.OwnersChange.{StillOwns, seat_reads_still, share_still, knows_still, owners_change}
use Rattle.blink_live.proofs.table.SeatsThatStay.{at_put, views_stay}
use Rattle.blink_live.proofs.table.SpentSeats.{spent_knows}
use Rattle.blink_live.proofs.table.SparesOfSeats.{spare_still}

-- whose is what after the place has come back
abbrev owners_after : Owners → ℕ → ℕ → Owners
owners_after old place host = record {
  row = old.row;
  page = old.page;
  key = old.key;
  latch_number = old.latch_number;
  place = put old.place place (suc host);
  fixed = old.fixed;
  named_by = old.named_by;
}

module _ (plan : Plan) (some_number : 1 ≤ plan.counts.numbers) (s : State ℕ View) (tree_state : TreeState) (h : IsTableAt plan s tree_state) (id other : ℕ) (v w : View)
    (at : get_elem? s.views id ≡ some v) (apart : ¬ (other ≡ id)) (there : get_elem? (set s.views id (takes_account v w)) other ≡ some w)
    (dealt back : ℕ) (role : v.role ≡ Keeper dealt back) (common : IsCommon plan) (its_role : w.role ≡ Pass) (idle : w.operation ≡ None) where
  abbrev old : Owners
  old = h.owners

  abbrev new : Owners
  new = owners_after old w.place id

  abbrev both : View
  both = takes_account v w

  known : Knows plan old s.words tree_state h.log id v
  known = h.views id v at

  was_there : get_elem? s.views other ≡ some w
  was_there = sym (set_else s.views id other both apart) ∙ there

  its : Knows plan old s.words tree_state h.log other w
  its = h.views other w was_there

  its_place : HasPlace plan old s.words other w
  its_place = its.placed common its_role

  in_role : IsInRole plan old h.log id v (Keeper dealt back)
  in_role = subst (IsInRole plan old h.log id v) role known.in_role

  -- a place of another owner stays whose it was
  place_else : (place owner : ℕ) → old.place place ≡ owner → owner ≢ suc other → new.place place ≡ owner
  place_else place owner is differ = put_else old.place w.place place (suc id) (λ e. differ (sym is ∙ (ap old.place e ∙ its_place.own))) ∙ is

  still_owns : (seat : ℕ) → seat ≢ other → StillOwns old new seat
  still_owns seat ne = record {
    row = λ row is. is;
    page = λ number is. is;
    key = λ key is. is;
    latch_number = refl;
    place = λ place is. place_else place (suc seat) is (λ e. ne (omega (arith, e)));
  }

  -- ---- the host

  left : ArePlacesLeft plan new s.words dealt
  left place from = let was = known.places_left dealt back role place from in (place_else place 0 was.0 (λ e. absurd (omega (arith, e))), was.1)

  host_in_role : IsInRole plan new h.log id both (Keeper dealt back)
  host_in_role = (
    in_role.0,
    in_role.1,
    (λ key untaken. let free = in_role.2 key untaken in record { own = free.own; saw_all = free.saw_all }),
    λ share has. share_still plan old new s.words h.log (record { rows = λ row is. is; fixed = refl; named_by = refl }) 1 1 share (λ key is. is) (in_role.3 share has),
  )

  host_knows : Knows plan new s.words tree_state h.log id both
  host_knows = record {
    same_plan = known.same_plan;
    operation = known.operation;
    bounded = known.bounded;
    reads = seat_reads_still plan old new s.words h.log (record { rows = λ row is. is; fixed = refl; named_by = refl }) tree_state v known.reads;
    appends = known.appends;
    rows = record { in_range = known.rows.in_range; own = known.rows.own };
    numbers = record { in_range = known.numbers.in_range; own = known.numbers.own; free = known.numbers.free };
    for_call = call_still plan old new s.words tree_state tree_state (suc id) v.call v.rows.next v.pages.next v.rows.next v.pages.next known.for_call (omega arith, omega arith) (λ r below own. own) (λ n below own. own) (λ n none. none);
    spare = spare_still plan old new tree_state tree_state (suc id) v.stock.spare v.pages.next v.call.pages known.spare (λ n own. own) (λ n none. none);
    share = share_still plan old new s.words h.log (record { rows = λ row is. is; fixed = refl; named_by = refl }) (suc id) (suc id) v.share (λ key is. is) known.share;
    saw = known.saw;
    heard = its.saw;
    in_role = subst (IsInRole plan new h.log id both) (sym role) host_in_role;
    placed = λ is_common is. absurd (let e : Keeper dealt back ≡ Pass = sym role ∙ is in cc);
    places_left = λ d b is. let e : Keeper dealt back ≡ Keeper d b = sym role ∙ is in let same : dealt ≡ d = cc in subst (ArePlacesLeft plan new s.words) same left;
    nothing = known.nothing;
  }

  -- ---- all seats

  abbrev views_then : List View
  views_then = set (set s.views id both) other (spent plan)

  -- what holds of the host, of the spent seat and of all others holds of all
  all_seats : (K : ℕ → View → Type 0) → K id both → K other (spent plan) → ((seat : ℕ) (u : View) → seat ≢ other → seat ≢ id → get_elem? s.views seat ≡ some u → K seat u)
      → (seat : ℕ) (u : View) → get_elem? views_then seat ≡ some u → K seat u
  all_seats K of_host of_spent others = views_stay K (set s.views id both) other (spent plan) of_spent
      (λ seat u not_spent at_seat. ⊎_elim
      (λ (t : (seat ≡ id) × (both ≡ u)). subst (λ (x : ℕ × View). K x.0 x.1) (λ i. (sym t.0 i, t.1 i)) of_host)
      (λ (t : (seat ≢ id) × (get_elem? s.views seat ≡ some u)). others seat u not_spent t.0 t.1)
      (at_set s.views id seat both u at_seat))

  all_know : (seat : ℕ) (u : View) → get_elem? views_then seat ≡ some u → Knows plan new s.words tree_state h.log seat u
  all_know = all_seats (Knows plan new s.words tree_state h.log) host_knows (spent_knows plan new s.words tree_state h.log other [] some_number (its.operation ∙ idle) (h.log, refl))
      (λ seat u not_spent not_host there_it. knows_still plan old new s.words h.log (record { rows = λ row is. is; fixed = refl; named_by = refl }) tree_state seat u (let first : id ≡ 0 = in_role.0 in omega (arith, first, not_host)) (still_owns seat not_spent) (h.views seat u there_it))

  -- ---- the accounts

  abbrev before : AreAccounts plan old.place h.log s.views
  before = h.accounted common

  host_accounts : (account : Account) → Contains v.accounts account → IsAccount old.place h.log (suc id) account
  host_accounts account has = before.accounts id v at account (subst (λ (r : Role). Contains (accounts_in r (account_of v) v.accounts) account) (sym role) has)

  its_account : IsAccount old.place h.log (suc other) (account_of w)
  its_account = before.accounts other w was_there (account_of w) (subst (λ (r : Role). Contains (accounts_in r (account_of w) w.accounts) (account_of w)) (sym its_role) (0, omega arith, refl))

  others_place : (account : Account) → Contains v.accounts account → w.place ≢ account.place
  others_place account has e = apart (let one : suc other ≡ suc id = sym its_account.own ∙ (ap old.place e ∙ (host_accounts account has).own) in omega (arith, one))

  abbrev host_has : accounts_of both ≡ account_of w ∷ v.accounts
  host_has = ap (λ (r : Role). accounts_in r (account_of both) (account_of w ∷ v.accounts)) role

  of_host : (account : Account) → Contains (account_of w ∷ v.accounts) account → IsAccount new.place h.log (suc id) account
  of_host account has = contains_case (account_of w) v.accounts account has
      (λ is. subst (IsAccount new.place h.log (suc id)) is record { own = put_here old.place w.place (suc id); all = its_account.all })
      (λ came. let was = host_accounts account came in record { own = place_else account.place (suc id) was.own (λ e. apart (omega (arith, e))); all = was.all })

  accounts_then : AreAccounts plan new.place h.log views_then
  accounts_then = record {
    authors = before.authors;
    nobodys = λ place none.
        let differ : place ≢ w.place = λ e. let one : suc id ≡ 0 = sym (put_here old.place w.place (suc id)) ∙ (ap new.place (sym e) ∙ none) in absurd (omega (arith, one)) in
        before.nobodys place (sym (put_else old.place w.place place (suc id) differ) ∙ none);
    accounts = all_seats (λ seat u. (account : Account) → Contains (accounts_of u) account → IsAccount new.place h.log (suc seat) account)
        (subst (λ (l : List Account). (account : Account) → Contains l account → IsAccount new.place h.log (suc id) account) (sym host_has) of_host)
        (λ account has. let inside = has.1 in absurd (omega (arith, inside)))
        (λ seat u not_spent not_host there_it account has.
        let was = before.accounts seat u there_it account has in
        record { own = place_else account.place (suc seat) was.own (λ e. not_spent (omega (arith, e))); all = was.all });
    apart = all_seats (λ seat u. AreApart (accounts_of u))
        (subst AreApart (sym host_has)
        (AllPairs-cons (λ (one two : Account). one.place ≢ two.place) (account_of w) v.accounts (λ k d inside. others_place (get_or v.accounts k d) (Contains-get_or v.accounts k d inside))
        (subst (λ (r : Role). AreApart (accounts_in r (account_of v) v.accounts)) role (before.apart id v at))))
        none_apart
        (λ seat u not_spent not_host there_it. before.apart seat u there_it);
    saw_own = all_seats (λ seat u. u.role ≡ Pass → HasSeenItsOwn u) (λ is. absurd (let e : Keeper dealt back ≡ Pass = sym role ∙ is in cc)) (λ is. absurd (cc)) (λ seat u not_spent not_host there_it. before.saw_own seat u there_it);
  }

  pool_then : HasPool plan new s.words tree_state
  pool_then = let pool = h.pool common in record {
    rows = record { in_range = pool.rows.in_range; own = pool.rows.own };
    pages = record { in_range = pool.pages.in_range; own = pool.pages.own; free = pool.pages.free };
  }

  counted_then : AreCounted views_then
  counted_then =
      let first : id ≡ 0 = in_role.0 in record {
        keeper = both;
        dealt = dealt;
        back = back;
        first = set_else (set s.views id both) other 0 (spent plan) (λ e. apart (sym e ∙ sym first))
            ∙ subst (λ (i : ℕ). get_elem? (set s.views id both) i ≡ some both) first (at_put s.views id v both at);
        role = role;
        counted = λ owned. absurd (let none : plan.places ≡ 0 = ap (λ (p : Plan). p.places) (sym known.same_plan) ∙ owned in omega (arith, none, common));
      }

  takes_account_at : IsTableAt plan record { words = s.words; homes = s.homes; views = views_then } tree_state
  takes_account_at = owners_change plan s tree_state h new views_then (record { rows = λ row is. is; fixed = refl; named_by = refl }) (λ number seat holds. refl) all_know
      (let one : length (set s.views id both) ≡ length s.views = length-set s.views id both in
      let two : length views_then ≡ length (set s.views id both) = length-set (set s.views id both) other (spent plan) in
      omega (arith, one, two))
      h.nobodys (λ is_common. pool_then) (λ is_common. accounts_then)
      (λ is_common. reuse_without plan old.row s.words (set s.views id both) other w (spent plan) there
      (reuse_stays plan old.row s.words s.views id v both at (h.reuse is_common) old.row s.words (λ row is. is) (λ seat r later is apart. is) (λ n few. refl) refl (hand_stays old.row id v both refl refl) (same_reads plan old.row s.words s.views id v both at (h.reuse is_common) refl refl refl refl refl))
      new.row s.words (λ row is. is) (λ seat r later is apart. is) (λ n few. refl) refl refl refl) counted_then

pub taking_account_keeps_table : (plan : Plan) (id other : ℕ) (v w : View) (dealt back : ℕ) → 1 ≤ plan.counts.numbers → v.role ≡ Keeper dealt back → IsCommon plan → w.role ≡ Pass → w.operation ≡ None
    → Joins (IsTable plan) id v other w (takes_account v w) (spent plan)
taking_account_keeps_table plan id other v w dealt back some_number role common its_role idle s table at apart there =
    (table.0, takes_account_at plan some_number s table.0 table.1 id other v w at apart there dealt back role common its_role idle)
