-- A pass comes back from an operation that has ended: it is whole again, and is changed as the operation says.
use Rattle.std.proofs.Common.{◌≡◌, ◌≢◌, ℕ, ◌+◌, ◌≤◌, List, [], ap, sym, ◌∙◌, subst, ⊎_elim, arith}
use Rattle.std.specs.Prelude.{Contains}
use Rattle.atomic_table.specs.declared.Seat.{Seat}
use Rattle.blink_batch.specs.{answer_of, key_of, pointer_of}
use Rattle.blink_batch.specs.declared.Answer.{Answer}
use Rattle.blink_batch.specs.declared.Op.{Op}
use Rattle.blink_machine.specs.{IsUpdate}
use Rattle.blink_rows.specs.declared.span.Span.{Span}
use Rattle.blink_live.specs.declared.live.Live.{Live}
use Rattle.blink_live.specs.declared.live.Pass.{Pass}
use Rattle.blink_live.specs.declared.view.Plan.{Plan}
use Rattle.blink_live.specs.declared.view.Role.TheVariants.{Pass as PassRole}
use Rattle.blink_live.specs.declared.view.Share.{Share}
use Rattle.blink_live.specs.declared.view.View.{View}
use Rattle.blink_live.specs.Allowed.{AreForChanges, changes_left}
use Rattle.blink_live.specs.Changes.{after}
use Rattle.blink_live.specs.Handles.{IsChangedBy, IsPassOf, KnowsItsKeys, keys_of, place_of, share_of}
use Rattle.blink_live.specs.Updating.{HasEnded}
use Rattle.blink_live.specs.Views.{IsCommon, IsOwned, MayChange, changed_by, span, rows_of, pages_of}
use Rattle.blink_live.proofs.changed.RowsTaken.{all_taken}
use Rattle.blink_live.proofs.changed.UpdatesGoOn.{after_call, of_own_key}
use Rattle.blink_live.proofs.dealt.ChangesLeft.{takes_some}

-- a pass may change its own keys alone
pub own_of_may : (pass : Pass) (key : ℕ) → MayChange pass.seat.me.0 key → Contains (keys_of pass) key
own_of_may pass key may = ⊎_elim
    (λ (own : Contains pass.seat.me.0.share.keys key). subst (λ (keys : List ℕ). Contains keys key) (sym pass.keys_are) own)
    (λ (common : IsCommon pass.seat.me.0.plan). absurd (let none = pass.owned in omega (arith, common, none))) may

-- what a pass with this seat and these rows and page numbers has
pub record IsWhole (seat : Seat ℕ View) (keys : List ℕ) (rows pages : Span) : Type 0 where
  pub keys_are : keys ≡ seat.me.0.share.keys
  pub rows_are : rows ≡ seat.me.0.rows
  pub pages_are : pages ≡ seat.me.0.pages
  pub in_order : (rows.next ≤ rows.stop) × (pages.next ≤ pages.stop)
  pub for_changes : AreForChanges pages rows
  pub role_is : seat.me.0.role ≡ PassRole
  pub owned : IsOwned seat.me.0.plan
  pub none_told : seat.me.0.told ≡ []
  pub no_slot : seat.me.1 ≡ []

pub is_whole : (op : Op) (pass : Pass) (seat : Seat ℕ View) (answer : Answer) (keys : List ℕ) (rows pages : Span) → IsUpdate op → changes_left op pass.pages pass.rows ≢ 0 → HasEnded op pass.seat seat answer → keys ≡ keys_of pass
    → rows ≡ span (pass.rows.next + rows_of op) pass.rows.stop → pages ≡ span (pass.pages.next + pages_of op) pass.pages.stop → IsWhole seat keys rows pages
is_whole op pass seat answer keys rows pages updates some ended same_keys rows_are pages_are =
    let takes = takes_some pass.pages pass.rows pass.for_changes pass.in_order op updates some in
    let all = all_taken op pass.seat.me.0.rows (subst (λ (s : Span). s.next + rows_of op ≤ s.stop) pass.rows_are takes.enough_rows) in
    let after = after_call op pass.seat.me.0 seat.me.0 ended.same in record {
      keys_are = same_keys ∙ (pass.keys_are ∙ sym ended.answers.keys);
      rows_are = rows_are ∙ (ap (λ (s : Span). span (s.next + rows_of op) s.stop) pass.rows_are ∙ (ap (λ (n : ℕ). span (pass.seat.me.0.rows.next + n) pass.seat.me.0.rows.stop) (sym all) ∙ sym after.rows));
      pages_are = pages_are ∙ (ap (λ (s : Span). span (s.next + pages_of op) s.stop) pass.pages_are ∙ sym after.pages);
      in_order = (subst (λ (s : Span). s.next ≤ s.stop) (sym rows_are) takes.enough_rows, subst (λ (s : Span). s.next ≤ s.stop) (sym pages_are) takes.enough_pages);
      for_changes = subst (λ (s : Span × Span). AreForChanges s.0 s.1) (λ i. (sym pages_are i, sym rows_are i)) takes.rest;
      role_is = after.role ∙ pass.role_is;
      owned = ap (λ (v : View). v.plan.places) ended.same ∙ pass.owned;
      none_told = after.told ∙ pass.none_told;
      no_slot = ended.same_slots ∙ pass.no_slot;
    }

pub answers_by_share : (op : Op) (pass : Pass) (seat : Seat ℕ View) (answer : Answer) → Contains (keys_of pass) (key_of op) → HasEnded op pass.seat seat answer
    → (answer ≡ answer_of (share_of pass) op) × (seat.me.0.share ≡ changed_by (place_of pass) op pass.seat.me.0.share)
answers_by_share op pass seat answer own ended = of_own_key op pass.seat seat answer ended (subst (λ (keys : List ℕ). Contains keys (key_of op)) pass.keys_are own)

module _ (op : Op) (pass new : Pass) (answer : Answer) (own : Contains (keys_of pass) (key_of op)) (ended : HasEnded op pass.seat new.seat answer) where
  by_share : (answer ≡ answer_of (share_of pass) op) × (new.seat.me.0.share ≡ changed_by (place_of pass) op pass.seat.me.0.share)
  by_share = answers_by_share op pass new.seat answer own ended

  pub is_changed : keys_of new ≡ keys_of pass → new.rows ≡ span (pass.rows.next + rows_of op) pass.rows.stop → new.pages ≡ span (pass.pages.next + pages_of op) pass.pages.stop → IsChangedBy op pass new
  is_changed same_keys rows_are pages_are = record {
    saw = ended.saw;
    same_table = ended.same_number.0;
    same_plan = ap (λ (v : View). v.plan) ended.same;
    same_keys = same_keys;
    share = ap (λ (s : Share). s.entries) by_share.1;
    changes = ap (λ (s : Share). s.changes) by_share.1;
    rows = rows_are;
    pages = pages_are;
  }

  pub knows_its_keys : (live : Live) → IsPassOf live pass → KnowsItsKeys live new
  knows_its_keys live its_own =
      let same_plan = ap (λ (v : View). v.plan) ended.same ∙ its_own.1 in record {
        state = λ key among.
            ap (λ (p : Plan). after (pointer_of p.opening) new.seat.me.0.seen key) (sym same_plan) ∙ ended.knows_own.state key (subst (λ (keys : List ℕ). Contains keys key) new.keys_are among);
        changes = λ key among. ended.knows_own.changes key (subst (λ (keys : List ℕ). Contains keys key) new.keys_are among);
      }
