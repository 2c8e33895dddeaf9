use Rattle.std.proofs.Common.{◌≡◌, ◌↔◌, ◌+◌, ◌-◌, ◌≤◌, ℕ, suc, List, inl, inr, refl, ap, sym, ◌∙◌, subst, ⊎_elim, arith}
use Rattle.std.specs.Prelude.{Contains}
use mathlib.Core.List.{IsPrefix}
use Rattle.blink_batch.specs.{pointer_of}
use Rattle.blink_live.specs.declared.view.Change.{Change}
use Rattle.blink_live.specs.Changes.{entries_after, states_of}
use Rattle.blink_live.specs.Handles.{opening_of}
use Rattle.blink_live.specs.Retiring.{without}
use Rattle.blink_live.specs.Views.{SeatState, takes_one}
use Rattle.blink_live.proofs.retired.KeeperKnowsThen.{comes_to, free_changes, free_state, its_changes, its_state}
use Rattle.blink_live.proofs.retired.KeysWithout.{left_out, stays}
use Rattle.blink_live.proofs.live.Live.retire.Goals as goal

pub tell_each_other-requires-clause-keeper : goal.tell_each_other-requires-clause-keeper
tell_each_other-requires-clause-keeper c = (c.args.keeper.now.dealt, c.args.keeper.now.back, c.args.keeper.now.role_is)

pub tell_each_other-requires-clause-pass : goal.tell_each_other-requires-clause-pass
tell_each_other-requires-clause-pass c = record { same_table = c.requires.its_pass.0; same_plan = c.requires.its_pass.1; role = c.args.pass.role_is }

pub take_in-requires-clause-tables : goal.take_in-requires-clause-tables
take_in-requires-clause-tables c = let same = c.tell_each_other.ensures.same in (same.0.0 ∙ c.requires.its_keeper.0, same.1.0 ∙ c.requires.its_pass.0)

pub take_in-requires-clause-owned : goal.take_in-requires-clause-owned
take_in-requires-clause-owned c = ap (λ (x : SeatState). x.0.plan.places) c.tell_each_other.ensures.told.same_keeper ∙ c.args.keeper.now.owned

pub take_in-requires-clause-pass : goal.take_in-requires-clause-pass
take_in-requires-clause-pass c =
    let is = c.tell_each_other.ensures.told.is in
    let pass = c.args.pass in (ap (λ (x : SeatState). x.0.role) is ∙ pass.role_is, ap (λ (x : SeatState). x.0.operation) is ∙ pass.idle, ap (λ (x : SeatState). x.1) is ∙ pass.no_slot)

pub take_in-requires-clause-saw : goal.take_in-requires-clause-saw
take_in-requires-clause-saw c =
    let told = c.tell_each_other.ensures.told in
    let keeper = ap (λ (x : SeatState). x.0.seen) told.same_keeper in
    let pass = ap (λ (x : SeatState). x.0.seen) told.is in
    (told.knows_own.changes, subst (λ (seen : List Change × List Change). IsPrefix seen.0 seen.1) (λ i. (sym keeper i, sym pass i)) told.heard)

pub look_around-requires-clause-table : goal.look_around-requires-clause-table
look_around-requires-clause-table c = c.take_in.ensures.same.0 ∙ (c.tell_each_other.ensures.same.0.0 ∙ c.requires.its_keeper.0)

pub look_around-requires-clause-owned : goal.look_around-requires-clause-owned
look_around-requires-clause-owned c =
    ap (λ (x : SeatState). x.0.plan.places) c.take_in.ensures.back ∙ (ap (λ (x : SeatState). x.0.plan.places) c.tell_each_other.ensures.told.same_keeper ∙ c.args.keeper.now.owned)

pub take_in-requires-clause-picked : goal.take_in-requires-clause-picked
take_in-requires-clause-picked c = (refl, refl)

pub take_in-requires-clause-keeper : goal.take_in-requires-clause-keeper
take_in-requires-clause-keeper c =
    (c.args.keeper.now.dealt, c.args.keeper.now.back, ap (λ (x : SeatState). x.0.role) c.tell_each_other.ensures.told.same_keeper ∙ c.args.keeper.now.role_is)

pub take_in-requires-clause-free : goal.take_in-requires-clause-free
take_in-requires-clause-free c key gone =
    let told = c.tell_each_other.ensures.told in
    let keys : List ℕ = c.args.pass.keys.items in
    let taken : List ℕ = c.args.keeper.now.taken.items in
    let rest : c.deref-2.result.now ≡ without keys taken = c.deref-2.ensures.value ∙ (c.remove_all.ensures.rest ∙ ap (λ (l : List ℕ). without l taken) c.deref.ensures.value) in
    ⊎_elim
    (λ (before : ¬ Contains taken key). inl (subst (λ (l : List ℕ). ¬ Contains l key) (c.args.keeper.now.taken_are ∙ sym (ap (λ (x : SeatState). x.0.taken) told.same_keeper)) before))
    (λ (has : Contains keys key). inr (subst (λ (l : List ℕ). Contains l key) (c.args.pass.keys_are ∙ sym (ap (λ (x : SeatState). x.0.share.keys) told.is)) has))
    (left_out keys taken key (subst (λ (l : List ℕ). ¬ Contains l key) rest gone))

pub look_around-requires-clause-keeper : goal.look_around-requires-clause-keeper
look_around-requires-clause-keeper c = (
  c.args.keeper.now.dealt,
  suc c.args.keeper.now.back,
  ap (λ (x : SeatState). x.0.role) c.take_in.ensures.back ∙ (ap (λ (x : SeatState). takes_one x.0.role) c.tell_each_other.ensures.told.same_keeper ∙ ap takes_one c.args.keeper.now.role_is),
)

one_less : (dealt back : ℕ) → suc back ≤ dealt → (dealt - (back + 1)) + 1 ≡ dealt - back
one_less dealt back enough = omega (arith, enough)

pub returns : goal.returns
returns c =
    let told = c.tell_each_other.ensures.told in
    let live = c.args.self.now in
    let keeper = c.args.keeper.now in
    let pass = c.args.pass in
    let keys : List ℕ = c.args.pass.keys.items in
    let taken : List ℕ = c.args.keeper.now.taken.items in
    let its_pass = c.requires.its_pass in
    let keeper_then = c.tell_each_other.new.seat.me in
    let pass_then = c.tell_each_other.new.other.me in
    let end = comes_to keeper.seat.me pass.seat.me keeper_then pass_then c.take_in.new.seat.me c.look_around.new.seat.me c.deref-2.result.now told c.take_in.ensures.back c.look_around.ensures.around.is in
    let seen_is : c.look_around.new.seat.me.0.seen ≡ told.seen = ap (λ (x : SeatState). x.0.seen) end in
    let rest : c.remove_all.new.from.items ≡ without keys taken = c.remove_all.ensures.rest ∙ ap (λ (l : List ℕ). without l taken) c.deref.ensures.value in
    let role = ap (λ (x : SeatState). x.0.role) c.take_in.ensures.back ∙ (ap (λ (x : SeatState). takes_one x.0.role) told.same_keeper ∙ ap takes_one keeper.role_is) in
    record {
      its_own = (
        c.look_around.ensures.same.0 ∙ (c.take_in.ensures.same.0 ∙ (c.tell_each_other.ensures.same.0.0 ∙ c.requires.its_keeper.0)),
        ap (λ (x : SeatState). x.0.plan) end ∙ c.requires.its_keeper.1,
      );
      taken = λ key. subst (λ (l : List ℕ). Contains l key ↔ (Contains taken key × ¬ Contains keys key)) (sym rest) (stays keys taken key);
      saw = (
        subst (λ (l : List Change). IsPrefix keeper.seat.me.0.seen l) (sym seen_is) told.heard,
        subst (λ (l : List Change). IsPrefix pass.seat.me.0.seen l) (sym seen_is) told.saw,
      );
      state = λ key has. ap (λ (l : List Change). pointer_of (entries_after (opening_of live) l) key) seen_is ∙ its_state live keeper pass its_pass keeper_then pass_then told key has;
      changes = λ key has. ap (states_of key) seen_is ∙ its_changes live keeper pass its_pass keeper_then pass_then told key has;
      others = λ key free. ap (λ (l : List Change). pointer_of (entries_after (opening_of live) l) key) seen_is ∙ free_state live keeper pass its_pass keeper_then pass_then told key free;
      no_other_change = λ key free. ap (states_of key) seen_is ∙ free_changes live keeper pass its_pass keeper_then pass_then told key free;
      same_dealt = refl;
      one_less_out = one_less keeper.dealt keeper.back (c.look_around.ensures.around.counted keeper.dealt (suc keeper.back) role);
      same_rows = refl;
      same_pages = refl;
    }
