use Rattle.std.proofs.Common.{◌≡◌, List, ap, sym, ◌∙◌, subst}
use mathlib.Core.List.{IsPrefix}
use Rattle.blink_live.specs.declared.view.Change.{Change}
use Rattle.blink_live.specs.declared.view.View.{View}
use Rattle.blink_live.specs.Changes.{states_of}
use Rattle.blink_live.specs.Handles.{seen_of}
use Rattle.blink_live.specs.Views.{SawItsOwn, SeatState, forgets_told, hears, learns_of_others, note_of}
use Rattle.blink_live.proofs.told.PrefixesOfOneList.{prefixes_of_one_list}
use Rattle.blink_live.proofs.told.OwnersAreSeen.{all_that_was_made, prefix_of_made, no_more_of, no_more_of_own}
use Rattle.blink_live.proofs.live.Live.tell.Goals as goal

pub look_up-requires : goal.look_up-requires
look_up-requires c =
    let to = c.args.to.now in
    let told = c.pass_on.ensures.told in record {
      seat = record {
        same_table = c.pass_on.ensures.to.0 ∙ c.requires.to_its_own.0;
        same_plan = ap (λ (x : SeatState). x.0.plan) told ∙ c.requires.to_its_own.1;
        role = ap (λ (x : SeatState). x.0.role) told ∙ to.role_is;
      };
    }

pub look_back-requires : goal.look_back-requires
look_back-requires c =
    let from = c.args.from.now in
    let told = c.pass_on-2.ensures.told in
    let kept = c.pass_on.ensures.from in record {
      seat = record {
        same_table = c.pass_on-2.ensures.to.0 ∙ (kept.0 ∙ c.requires.from_its_own.0);
        same_plan = ap (λ (x : SeatState). x.0.plan) told ∙ (ap (λ (x : SeatState). x.0.plan) kept.2 ∙ c.requires.from_its_own.1);
        role = ap (λ (x : SeatState). x.0.role) told ∙ (ap (λ (x : SeatState). x.0.role) kept.2 ∙ from.role_is);
      };
    }

pub invariant_of-to : goal.invariant_of-to
invariant_of-to c =
    let to = c.args.to.now in
    let up = c.look_up.ensures.up in
    let seen : List Change = up.seen in
    let is : c.pass_on-2.new.from.me ≡ (learns_of_others to.seat.me.0 seen, to.seat.me.1) =
    c.pass_on-2.ensures.from.2 ∙ (up.is ∙ ap (λ (x : SeatState). let y : SeatState = (learns_of_others x.0 seen, x.1) in y) c.pass_on.ensures.told) in record {
      keys_are = to.keys_are ∙ sym (ap (λ (x : SeatState). x.0.share.keys) is);
      ascending = to.ascending;
      rows_are = to.rows_are ∙ sym (ap (λ (x : SeatState). x.0.rows) is);
      pages_are = to.pages_are ∙ sym (ap (λ (x : SeatState). x.0.pages) is);
      in_order = to.in_order;
      for_changes = to.for_changes;
      role_is = ap (λ (x : SeatState). x.0.role) is ∙ to.role_is;
      owned = ap (λ (x : SeatState). x.0.plan.places) is ∙ to.owned;
      own_seen = subst (λ (x : SeatState). SawItsOwn x.0) (sym c.pass_on-2.ensures.from.2) up.knows_own.changes;
      none_told = ap (λ (x : SeatState). x.0.told) is;
      idle = ap (λ (x : SeatState). x.0.operation) is ∙ to.idle;
      no_slot = ap (λ (x : SeatState). x.1) is ∙ to.no_slot;
    }

pub invariant_of-from : goal.invariant_of-from
invariant_of-from c =
    let from = c.args.from.now in
    let is : c.look_back.new.seat.me ≡ (forgets_told from.seat.me.0, from.seat.me.1) =
    c.look_back.ensures.back.is ∙ ap (λ (x : SeatState). let y : SeatState = (forgets_told x.0, x.1) in y) (c.pass_on-2.ensures.told ∙ ap (λ (x : SeatState). let y : SeatState = (hears x.0 (note_of c.look_up.new.seat.me.0), x.1) in y) c.pass_on.ensures.from.2) in record {
      keys_are = from.keys_are ∙ sym (ap (λ (x : SeatState). x.0.share.keys) is);
      ascending = from.ascending;
      rows_are = from.rows_are ∙ sym (ap (λ (x : SeatState). x.0.rows) is);
      pages_are = from.pages_are ∙ sym (ap (λ (x : SeatState). x.0.pages) is);
      in_order = from.in_order;
      for_changes = from.for_changes;
      role_is = ap (λ (x : SeatState). x.0.role) is ∙ from.role_is;
      owned = ap (λ (x : SeatState). x.0.plan.places) is ∙ from.owned;
      own_seen = subst (λ (x : SeatState). SawItsOwn x.0) (sym is) from.own_seen;
      none_told = ap (λ (x : SeatState). x.0.told) is;
      idle = ap (λ (x : SeatState). x.0.operation) is ∙ from.idle;
      no_slot = ap (λ (x : SeatState). x.1) is ∙ from.no_slot;
    }

pub returns-clause-prefixes : goal.returns-clause-prefixes
returns-clause-prefixes c =
    let learns = c.look_up.ensures.up.learns in
    let whole = c.look_up.ensures.up.seen in
    let saw = subst (λ (seen : List Change). IsPrefix seen whole) (ap (λ (x : SeatState). x.0.seen) c.pass_on.ensures.told) learns.saw in
    let heard = subst (λ (seen : List Change). IsPrefix seen whole) (ap (λ (x : SeatState). x.0.told) c.pass_on.ensures.told) learns.heard in
    prefixes_of_one_list (seen_of c.args.from.now) (seen_of c.args.to.now) whole heard saw

pub returns-clause-own_before : goal.returns-clause-own_before
returns-clause-own_before c =
    let v : View = c.args.from.now.seat.me.0 in
    let w : View = c.look_up.new.seat.me.0 in
    let whole : List Change = c.look_up.ensures.up.seen in
    let now_seen : w.seen ≡ whole = ap (λ (x : SeatState). x.0.seen) c.look_up.ensures.up.is in
    let same_share : w.share ≡ c.args.to.now.seat.me.0.share = ap (λ (x : SeatState). x.0.share) c.look_up.ensures.up.is ∙ ap (λ (x : SeatState). x.0.share) c.pass_on.ensures.told in
    let saw = subst (λ (seen : List Change). IsPrefix seen whole) (ap (λ (x : SeatState). x.0.seen) c.pass_on.ensures.told) c.look_up.ensures.up.learns.saw in
    let heard = subst (λ (seen : List Change). IsPrefix seen whole) (ap (λ (x : SeatState). x.0.told) c.pass_on.ensures.told) c.look_up.ensures.up.learns.heard in
    let told : c.pass_on-2.new.to.me.0.told ≡ whole = ap (λ (x : SeatState). x.0.told) c.pass_on-2.ensures.told ∙ now_seen in
    let tellers_share : c.pass_on-2.new.to.me.0.share ≡ v.share = ap (λ (x : SeatState). x.0.share) c.pass_on-2.ensures.told ∙ ap (λ (x : SeatState). x.0.share) c.pass_on.ensures.from.2 in (
      prefix_of_made whole v.share c.args.from.now.keys.items (seen_of c.args.to.now) c.args.from.now.keys_are (no_more_of whole v.share c.pass_on-2.new.to.me.0 told tellers_share c.look_back.ensures.back.no_more) saw,
      prefix_of_made whole c.args.to.now.seat.me.0.share c.args.to.now.keys.items (seen_of c.args.from.now) c.args.to.now.keys_are (no_more_of_own whole c.args.to.now.seat.me.0.share w now_seen same_share c.look_up.ensures.up.knows_own.changes) heard,
    )

pub returns-clause-own_after : goal.returns-clause-own_after
returns-clause-own_after c key mine =
    let v : View = c.args.from.now.seat.me.0 in
    let whole : List Change = c.look_up.ensures.up.seen in
    let now_seen : c.look_up.new.seat.me.0.seen ≡ whole = ap (λ (x : SeatState). x.0.seen) c.look_up.ensures.up.is in
    let heard = subst (λ (seen : List Change). IsPrefix seen whole) (ap (λ (x : SeatState). x.0.told) c.pass_on.ensures.told) c.look_up.ensures.up.learns.heard in
    let told : c.pass_on-2.new.to.me.0.told ≡ whole = ap (λ (x : SeatState). x.0.told) c.pass_on-2.ensures.told ∙ now_seen in
    let tellers_share : c.pass_on-2.new.to.me.0.share ≡ v.share = ap (λ (x : SeatState). x.0.share) c.pass_on-2.ensures.told ∙ ap (λ (x : SeatState). x.0.share) c.pass_on.ensures.from.2 in
    let no_more = no_more_of whole v.share c.pass_on-2.new.to.me.0 told tellers_share c.look_back.ensures.back.no_more in
    ap (λ (x : SeatState). states_of key x.0.seen) c.pass_on-2.ensures.from.2 ∙ (ap (states_of key) now_seen ∙ all_that_was_made whole v c.args.from.now.keys.items c.args.from.now.keys_are c.args.from.now.own_seen heard no_more key mine)
