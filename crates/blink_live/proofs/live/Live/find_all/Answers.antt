use Rattle.std.proofs.Common.{ℕ, List, map, refl, sym, ap, ◌∙◌, subst}
use Rattle.blink_batch.specs.{pointer_of}
use Rattle.blink_live.specs.declared.view.Plan.{Plan}
use Rattle.blink_live.specs.declared.view.Share.{Share}
use Rattle.blink_live.specs.Finding.{AllAreOwn}
use Rattle.blink_live.specs.Handles.{keys_of}
use Rattle.blink_live.specs.Views.{SeatState}
use Rattle.blink_live.proofs.found.FindsOfSeveral.{own_found}
use Rattle.blink_live.proofs.found.PassesAfterSearches.{idle_pass, is_same, knows}
use Rattle.blink_live.proofs.table.RefusalsTold.{no_refusal}
use Rattle.blink_live.proofs.live.Live.find_all.Goals as goal

pub search_all-requires-clause-idle : goal.search_all-requires-clause-idle
search_all-requires-clause-idle c = idle_pass c.args.pass.now c.look_up.new.seat.me c.look_up.ensures.up

pub invariant_of-pass : goal.invariant_of-pass
invariant_of-pass c =
    let pass = c.args.pass.now in
    let up = c.look_up.ensures.up in
    let searched = c.search_all.ensures.searched in record {
      keys_are = pass.keys_are ∙ sym (ap (λ (s : Share). s.keys) (searched.same_share ∙ ap (λ (x : SeatState). x.0.share) up.is));
      ascending = pass.ascending;
      rows_are = pass.rows_are ∙ sym (searched.same_rows ∙ ap (λ (x : SeatState). x.0.rows) up.is);
      pages_are = pass.pages_are ∙ sym (searched.same_pages ∙ ap (λ (x : SeatState). x.0.pages) up.is);
      in_order = pass.in_order;
      for_changes = pass.for_changes;
      role_is = searched.same_role ∙ (ap (λ (x : SeatState). x.0.role) up.is ∙ pass.role_is);
      owned = ap (λ (p : Plan). p.places) (searched.same_plan ∙ ap (λ (x : SeatState). x.0.plan) up.is) ∙ pass.owned;
      own_seen = searched.idle.knows_own.changes;
      none_told = searched.same_told ∙ ap (λ (x : SeatState). x.0.told) up.is;
      idle = searched.idle.idle;
      no_slot = searched.same_slots ∙ (ap (λ (x : SeatState). x.1) up.is ∙ pass.no_slot);
    }

pub returns-clause-answers : goal.returns-clause-answers
returns-clause-answers c =
    let share = ap (λ (x : SeatState). x.0.share) c.look_up.ensures.up.is in
    let all : AllAreOwn (keys_of c.args.pass.now) c.args.keys.now = subst (λ (own : List ℕ). AllAreOwn own c.args.keys.now) c.deref.ensures.value (c.are_among.ensures.all c.if-not-are_among.false) in
    let own : AllAreOwn c.look_up.new.seat.me.0.share.keys c.args.keys.now = subst (λ (keys : List ℕ). AllAreOwn keys c.args.keys.now) (c.args.pass.now.keys_are ∙ sym (ap (λ (s : Share). s.keys) share)) all in
    own_found c.args.keys.now _ c.look_up.new.seat.me _ own c.search_all.ensures.found ∙ ap (λ (s : Share). map (pointer_of s.entries) c.args.keys.now) share

pub returns-clause-knows : goal.returns-clause-knows
returns-clause-knows c = knows c.args.pass.now _ c.look_up.new.seat.me c.look_up.ensures.up c.search_all.ensures.searched c.args.self.now c.requires.its_own

pub returns-clause-same : goal.returns-clause-same
returns-clause-same c =
    is_same c.args.pass.now _ c.look_up.new.seat.me c.look_up.ensures.up c.search_all.ensures.searched (c.search_all.ensures.same_table.0 ∙ c.look_up.ensures.same.0) refl refl refl

pub returns-clause-not_yours : goal.returns-clause-not_yours
returns-clause-not_yours c =
    let all : AllAreOwn (keys_of c.args.pass.now) c.args.keys.now = subst (λ (own : List ℕ). AllAreOwn own c.args.keys.now) c.deref.ensures.value (c.are_among.ensures.all c.if-not-are_among.false) in
    no_refusal _ _ (λ foreign. foreign.2 (all foreign.0 foreign.1))
