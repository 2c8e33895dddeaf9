use Rattle.std.proofs.Common.{sym, ap, ◌∙◌, rules}
use Rattle.blink_live.specs.declared.view.View.{View}
use Rattle.blink_live.proofs.found.FindsOfSeveral.{pass_can_find, takes_none}
use Rattle.blink_live.proofs.live.Live.glance.Goals as goal

pub search-requires-clause-seat : goal.search-requires-clause-seat
search-requires-clause-seat c = record { same_table = c.requires.its_own.0; same_plan = c.requires.its_own.1; role = c.args.pass.now.role_is }

pub search-requires-clause-can_begin : goal.search-requires-clause-can_begin
search-requires-clause-can_begin c = pass_can_find c.args.pass.now _

pub invariant_of-pass : goal.invariant_of-pass
invariant_of-pass c =
    let pass = c.args.pass.now in
    let same = c.search.ensures.same in record {
      keys_are = pass.keys_are ∙ sym (ap (λ (v : View). v.share.keys) same);
      ascending = pass.ascending;
      rows_are = pass.rows_are ∙ sym (ap (λ (v : View). v.rows) same ∙ takes_none pass.seat.me.0.rows);
      pages_are = pass.pages_are ∙ sym (ap (λ (v : View). v.pages) same ∙ takes_none pass.seat.me.0.pages);
      in_order = pass.in_order;
      for_changes = pass.for_changes;
      role_is = ap (λ (v : View). v.role) same ∙ pass.role_is;
      owned = ap (λ (v : View). v.plan.places) same ∙ pass.owned;
      own_seen = c.search.ensures.own.changes;
      none_told = ap (λ (v : View). v.told) same ∙ pass.none_told;
      idle = c.search.ensures.idle;
      no_slot = c.search.ensures.same_slots ∙ pass.no_slot;
    }

pub returns-in-Found-clause-state : goal.returns-in-Found-clause-state
returns-in-Found-clause-state c = search rules

pub returns-in_default : goal.returns-in_default
returns-in_default c = search rules
