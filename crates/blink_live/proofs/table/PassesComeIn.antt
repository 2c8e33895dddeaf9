-- The keeper takes the view of a pass: its keys get another owner, and its seat is spent.
use Rattle.std.proofs.Common.{◌≡◌, ◌≢◌, ℕ, suc, ◌+◌, ◌≤◌, Bool, None, List, [], length, set, refl, sym, ap, ◌∙◌, subst, ⊎_elim, length-set, eq-eqb, ne_eqb, arith}
use Rattle.std.specs.Prelude.{if◌then◌else◌, ◌==◌, Contains}
use mathlib.Core.Option.{some, some-injective}
use lib.ListN.{get_elem?}
use mathlib.Core.List.{IsPrefix}
use Rattle.atomic_table.specs.Table.{State}
use Rattle.atomic_table.proofs.Lists.{at_set, set_else}
use Rattle.blink_machine.specs.TreeState.{TreeState}
use Rattle.blink_live.specs.declared.view.Change.{Change}
use Rattle.blink_live.specs.declared.view.Plan.{Plan}
use Rattle.blink_live.specs.declared.view.Role.TheVariants.{Keeper, Pass}
use Rattle.blink_live.specs.declared.view.Share.{Share}
use Rattle.blink_live.specs.declared.view.View.{View}
use Rattle.blink_live.specs.Rule.{ArePlacesLeft, Owners, IsFree, IsShare, IsInRole, Knows, pass_count, passes_in, AreCounted, IsTableAt}
use Rattle.blink_live.specs.Views.{IsOwned, spent, takes_one}
use Rattle.blink_live.proofs.table.OwnersChange.{StaysPublished, StillOwns, seat_reads_still, share_still, knows_still, owners_change}
use Rattle.blink_live.proofs.table.PassesOut.{passes_role}
use Rattle.blink_live.proofs.table.SeatsThatStay.{at_put, views_stay}
use Rattle.blink_live.proofs.table.CallsOfSeats.{call_still}
use Rattle.blink_live.proofs.table.SpentSeats.{spent_knows}
use Rattle.blink_live.proofs.table.SparesOfSeats.{spare_still}

-- the keeper with one more pass back, and with these keys taken, these shares and these changes seen
abbrev pub takes_in : View → List ℕ → List Share → List Change → View
takes_in v taken shares seen = record v { role = takes_one v.role; taken = taken; back = shares; seen = seen }

-- whose is what after the pass came back, and its keys are this owner's
abbrev pub owners_after : Owners → ℕ → ℕ → Owners
owners_after old other owner = record {
  row = old.row;
  page = old.page;
  key = λ key. if old.key key == suc other then owner else old.key key;
  latch_number = old.latch_number;
  place = old.place;
  fixed = old.fixed;
  named_by = old.named_by;
}

module _ (plan : Plan) (some_number : 1 ≤ plan.counts.numbers) (s : State ℕ View) (tree_state : TreeState) (h : IsTableAt plan s tree_state) (id other : ℕ) (v w : View) (taken : List ℕ) (shares : List Share) (seen : List Change) (owner : ℕ)
    (at : get_elem? s.views id ≡ some v) (apart : ¬ (other ≡ id)) (there : get_elem? (set s.views id (takes_in v taken shares seen)) other ≡ some w)
    (dealt back : ℕ) (role : v.role ≡ Keeper dealt back) (owned : IsOwned v.plan) (its_role : w.role ≡ Pass) (idle : w.operation ≡ None) where
  abbrev old : Owners
  old = h.owners

  abbrev pub new : Owners
  new = owners_after h.owners other owner

  abbrev both : View
  both = takes_in v taken shares seen

  known : Knows plan old s.words tree_state h.log id v
  known = h.views id v at

  pub in_role : IsInRole plan old h.log id v (Keeper dealt back)
  in_role = subst (IsInRole plan old h.log id v) role known.in_role

  pub its : Knows plan old s.words tree_state h.log other w
  its = h.views other w (sym (set_else s.views id other both apart) ∙ there)

  -- ---- keys

  pub key_back : (key : ℕ) → old.key key ≡ suc other → new.key key ≡ owner
  key_back key is = ap (λ (b : Bool). if b then owner else old.key key) (eq-eqb (old.key key) (suc other) is)

  pub key_else : (key whose : ℕ) → old.key key ≡ whose → whose ≢ suc other → new.key key ≡ whose
  key_else key whose is ne = ap (λ (b : Bool). if b then owner else old.key key) (ne_eqb (old.key key) (suc other) (λ e. ne (sym is ∙ e))) ∙ is

  -- what is the keeper's stays so
  pub key_kept : (key : ℕ) → old.key key ≡ 1 → new.key key ≡ 1
  key_kept key is = key_else key 1 is (λ e. let first : id ≡ 0 = in_role.0 in apart (omega (arith, e, first)))

  pub published : StaysPublished old new
  published = record { rows = λ row is. is; fixed = refl; named_by = refl }

  -- ---- the keeper

  both_role : both.role ≡ Keeper dealt (suc back)
  both_role = ap takes_one role

  -- ---- the seat that is left

  left_knows : Knows plan new s.words tree_state h.log other (spent plan)
  left_knows = spent_knows plan new s.words tree_state h.log other [] some_number (its.operation ∙ idle) (h.log, refl)

  -- ---- all seats

  still_owns : (seat : ℕ) → seat ≢ other → StillOwns old new seat
  still_owns seat ne = record {
    row = λ row is. is;
    page = λ number is. is;
    key = λ key is. key_else key (suc seat) is (λ e. ne (omega (arith, e)));
    latch_number = refl;
    place = λ place is. is;
  }

  abbrev views_then : List View
  views_then = set (set s.views id both) other (spent plan)

  counted_then : AreCounted views_then
  counted_then =
      let was = h.counted in
      let first : id ≡ 0 = in_role.0 in
      let is : v ≡ was.keeper = some-injective v was.keeper (sym at ∙ (ap (get_elem? s.views) first ∙ was.first)) in
      let role_was : v.role ≡ Keeper was.dealt was.back = ap (λ (y : View). y.role) is ∙ was.role in
      let role_then : both.role ≡ Keeper was.dealt (suc was.back) = ap takes_one role_was in
      let one : passes_in (set s.views id both) + pass_count v.role ≡ passes_in s.views + pass_count both.role = passes_role s.views id v both at in
      let two : passes_in views_then + pass_count w.role ≡ passes_in (set s.views id both) + 0 = passes_role (set s.views id both) other w (spent plan) there in
      let no_pass : pass_count v.role ≡ 0 = ap pass_count role_was in
      let no_pass_then : pass_count both.role ≡ 0 = ap pass_count role_then in
      let a_pass : pass_count w.role ≡ 1 = ap pass_count its_role in
      let counted = was.counted in
      record {
        keeper = both;
        dealt = was.dealt;
        back = suc was.back;
        first = set_else (set s.views id both) other 0 (spent plan) (λ e. apart (sym e ∙ sym first))
            ∙ subst (λ (i : ℕ). get_elem? (set s.views id both) i ≡ some both) first (at_put s.views id v both at);
        role = role_then;
        counted = λ passes. let count = counted (ap (λ (y : View). y.plan.places) (sym is) ∙ passes) in omega (arith, one, two, no_pass, no_pass_then, a_pass, count);
      }

  module _ (saw : IsPrefix seen h.log) (free : (key : ℕ) → ¬ Contains taken key → IsFree new h.log both key) (came : (share : Share) → Contains shares share → IsShare plan new h.log 1 share) where
    both_knows : Knows plan new s.words tree_state h.log id both
    both_knows = record {
      same_plan = known.same_plan;
      operation = known.operation;
      bounded = known.bounded;
      reads = seat_reads_still plan old new s.words h.log published tree_state v known.reads;
      appends = known.appends;
      rows = record { in_range = known.rows.in_range; own = known.rows.own };
      numbers = record { in_range = known.numbers.in_range; own = known.numbers.own; free = known.numbers.free };
      for_call = call_still plan old new s.words tree_state tree_state (suc id) v.call v.rows.next v.pages.next v.rows.next v.pages.next known.for_call (omega arith, omega arith) (λ r below own. own) (λ n below own. own) (λ n none. none);
      spare = spare_still plan old new tree_state tree_state (suc id) v.stock.spare v.pages.next v.call.pages known.spare (λ n own. own) (λ n none. none);
      share = share_still plan old new s.words h.log published (suc id) (suc id) v.share
          (λ key is. key_else key (suc id) is (λ e. apart (omega (arith, e)))) known.share;
      saw = saw;
      heard = known.heard;
      in_role = subst (IsInRole plan new h.log id both) (sym both_role) (in_role.0, in_role.1, free, came);
      placed = λ common is. absurd (let e : Keeper dealt (suc back) ≡ Pass = sym both_role ∙ is in cc);
      places_left = λ d b is. let e : Keeper dealt (suc back) ≡ Keeper d b = sym both_role ∙ is in let same : dealt ≡ d = cc in subst (ArePlacesLeft plan new s.words) same (known.places_left dealt back role);
      nothing = λ common d b is. known.nothing common dealt back role;
    }

    all_know : (seat : ℕ) (u : View) → get_elem? views_then seat ≡ some u → Knows plan new s.words tree_state h.log seat u
    all_know = views_stay (Knows plan new s.words tree_state h.log) (set s.views id both) other (spent plan) left_knows
        (λ seat u not_spent at_seat. ⊎_elim
        (λ (t : (seat ≡ id) × (both ≡ u)). subst (λ (x : ℕ × View). Knows plan new s.words tree_state h.log x.0 x.1) (λ i. (sym t.0 i, t.1 i)) both_knows)
        (λ (t : (seat ≢ id) × (get_elem? s.views seat ≡ some u)). knows_still plan old new s.words h.log published tree_state seat u
        (let first : id ≡ 0 = in_role.0 in let ne = t.0 in omega (arith, first, ne))
        (still_owns seat not_spent) (h.views seat u t.1))
        (at_set s.views id seat both u at_seat))

    pub takes_in_at : IsTableAt plan record { words = s.words; homes = s.homes; views = views_then } tree_state
    takes_in_at = owners_change plan s tree_state h new views_then published (λ number seat holds. refl) all_know
        (let one : length (set s.views id both) ≡ length s.views = length-set s.views id both in
        let two : length views_then ≡ length (set s.views id both) = length-set (set s.views id both) other (spent plan) in
        omega (arith, one, two))
        (λ common. absurd (let none : plan.places ≡ 0 = ap (λ (p : Plan). p.places) (sym known.same_plan) ∙ owned in omega (arith, none, common)))
        (λ common. absurd (let none : plan.places ≡ 0 = ap (λ (p : Plan). p.places) (sym known.same_plan) ∙ owned in omega (arith, none, common)))
        (λ common. absurd (let none : plan.places ≡ 0 = ap (λ (p : Plan). p.places) (sym known.same_plan) ∙ owned in omega (arith, none, common)))
        (λ common. absurd (let none : plan.places ≡ 0 = ap (λ (p : Plan). p.places) (sym known.same_plan) ∙ owned in omega (arith, none, common))) counted_then
