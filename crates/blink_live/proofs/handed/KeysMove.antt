-- Some keys of one seat get another owner. All other things stay whose they were.
use Rattle.std.proofs.Common.{◌≡◌, ◌≢◌, ℕ, suc, ◌≤◌, Bool, true, false, List, refl, sym, ap, ◌∙◌, arith}
use Rattle.std.specs.Prelude.{if◌then◌else◌}
use mathlib.Core.List.{IsPrefix}
use Rattle.blink_machine.specs.TreeState.{TreeState}
use Rattle.blink_live.specs.declared.view.Change.{Change}
use Rattle.blink_live.specs.declared.view.Plan.{Plan}
use Rattle.blink_live.specs.declared.view.Role.{Role}
use Rattle.blink_live.specs.declared.view.Role.TheVariants.{Keeper, Pass, Spent}
use Rattle.blink_live.specs.declared.view.Share.{Share}
use Rattle.blink_live.specs.declared.view.View.{View}
use Rattle.blink_live.specs.Rule.{Owners, IsShare, IsInRole, Knows}
use Rattle.blink_live.proofs.table.OwnersChange.{seat_reads_still, share_still}
use Rattle.blink_live.proofs.table.CallsOfSeats.{call_still}
use Rattle.blink_live.proofs.table.SparesOfSeats.{spare_still}

-- whose is what after these keys have got this owner
abbrev pub keys_moved : Owners → (ℕ → Bool) → ℕ → Owners
keys_moved old moved owner = record {
  row = old.row;
  page = old.page;
  key = λ key. if moved key then owner else old.key key;
  latch_number = old.latch_number;
  place = old.place;
  fixed = old.fixed;
  named_by = old.named_by;
}

module _ (plan : Plan) (old : Owners) (words : List ℕ) (tree_state : TreeState) (log : List Change) (moved : ℕ → Bool) (owner giver : ℕ) (some_pass : 1 ≤ giver) (only : (key : ℕ) → moved key ≡ true → old.key key ≡ suc giver) where
  abbrev new : Owners
  new = keys_moved old moved owner

  pub key_moved : (key : ℕ) → moved key ≡ true → new.key key ≡ owner
  key_moved key is = ap (λ (b : Bool). if b then owner else old.key key) is

  pub key_stays : (key whose : ℕ) → old.key key ≡ whose → moved key ≡ false → new.key key ≡ whose
  key_stays key whose is unmoved = ap (λ (b : Bool). if b then owner else old.key key) unmoved ∙ is

  key_else : (key whose : ℕ) → old.key key ≡ whose → whose ≢ suc giver → new.key key ≡ whose
  key_else key whose is ne = go (moved key) refl
    where
      go : (b : Bool) → moved key ≡ b → (if b then owner else old.key key) ≡ whose
      go true is_moved = absurd (ne (sym is ∙ only key is_moved))
      go false unmoved = is

  -- a seat's role says nothing of its share, nor of the note that it holds
  role_then : (seat : ℕ) (v : View) (share : Share) (told : List Change) (role : Role) → IsInRole plan old log seat v role → IsInRole plan new log seat (record v { share = share; told = told }) role
  role_then seat v share told (Keeper dealt back) is = (
    is.0,
    is.1,
    λ key untaken. let free = is.2 key untaken in record { own = key_else key 0 free.own (λ e. absurd (omega (arith, e))); saw_all = free.saw_all },
    λ returned came. share_still plan old new words log (record { rows = λ row is. is; fixed = refl; named_by = refl }) 1 1 returned (λ key was. key_else key 1 was (λ e. omega (arith, e, some_pass))) (is.3 returned came),
  )
  role_then seat v share told Pass is = is
  role_then seat v share told Spent is = is

  -- a seat with another share, and another note
  pub knows_then : (seat : ℕ) (v : View) (share : Share) (told : List Change) → IsShare plan new log (suc seat) share → IsPrefix told log
      → Knows plan old words tree_state log seat v → Knows plan new words tree_state log seat (record v { share = share; told = told })
  knows_then seat v share told its heard known = record {
    same_plan = known.same_plan;
    operation = known.operation;
    bounded = known.bounded;
    reads = seat_reads_still plan old new words log (record { rows = λ row is. is; fixed = refl; named_by = refl }) tree_state v known.reads;
    appends = known.appends;
    rows = record { in_range = known.rows.in_range; own = known.rows.own };
    numbers = record { in_range = known.numbers.in_range; own = known.numbers.own; free = known.numbers.free };
    for_call = call_still plan old new words tree_state tree_state (suc seat) v.call v.rows.next v.pages.next v.rows.next v.pages.next known.for_call (omega arith, omega arith) (λ r below own. own) (λ n below own. own) (λ n none. none);
    spare = spare_still plan old new tree_state tree_state (suc seat) v.stock.spare v.pages.next v.call.pages known.spare (λ n own. own) (λ n none. none);
    share = its;
    saw = known.saw;
    heard = heard;
    in_role = role_then seat v share told v.role known.in_role;
    placed = λ common is. let p = known.placed common is in record { in_range = p.in_range; own = p.own; word = p.word; busy = p.busy };
    places_left = known.places_left;
    nothing = known.nothing;
  }

  -- any other seat
  pub others_know : (seat : ℕ) (v : View) → seat ≢ giver → Knows plan old words tree_state log seat v → Knows plan new words tree_state log seat v
  others_know seat v other known = knows_then seat v v.share v.told
      (share_still plan old new words log (record { rows = λ row is. is; fixed = refl; named_by = refl }) (suc seat) (suc seat) v.share (λ key was. key_else key (suc seat) was (λ e. other (omega (arith, e)))) known.share) known.heard known
