use Rattle.std.proofs.Common.{List, refl, sym, ap, ◌∙◌, subst}
use Rattle.std.specs.Prelude.{IfOk, IfSome}
use Rattle.blink_batch.specs.declared.Entry.{Entry}
use Rattle.blink_live.specs.declared.view.Plan.{Plan}
use Rattle.blink_live.specs.declared.view.Share.{Share}
use Rattle.blink_live.specs.Snapshots.{IsSnapshot}
use Rattle.blink_live.specs.Views.{SeatState}
use Rattle.blink_live.proofs.found.PassesAfterSearches.{idle_pass, is_same, knows}
use Rattle.blink_live.proofs.live.Live.snapshot.Goals as goal

pub snapshot_by-requires-clause-seat : goal.snapshot_by-requires-clause-seat
snapshot_by-requires-clause-seat c =
    let is = c.look_up.ensures.up.is in record {
      same_table = c.look_up.ensures.same.0 ∙ c.requires.its_own.0;
      same_plan = ap (λ (x : SeatState). x.0.plan) is ∙ c.requires.its_own.1;
      role = ap (λ (x : SeatState). x.0.role) is ∙ c.args.pass.now.role_is;
    }

pub snapshot_by-requires-clause-idle : goal.snapshot_by-requires-clause-idle
snapshot_by-requires-clause-idle c = idle_pass c.args.pass.now c.look_up.new.seat.me c.look_up.ensures.up

pub invariant_of-pass : goal.invariant_of-pass
invariant_of-pass c =
    let pass = c.args.pass.now in
    let up = c.look_up.ensures.up in
    let searched = c.snapshot_by.ensures.searched in record {
      keys_are = pass.keys_are ∙ sym (ap (λ (s : Share). s.keys) (searched.same_share ∙ ap (λ (x : SeatState). x.0.share) up.is));
      ascending = pass.ascending;
      rows_are = pass.rows_are ∙ sym (searched.same_rows ∙ ap (λ (x : SeatState). x.0.rows) up.is);
      pages_are = pass.pages_are ∙ sym (searched.same_pages ∙ ap (λ (x : SeatState). x.0.pages) up.is);
      in_order = pass.in_order;
      for_changes = pass.for_changes;
      role_is = searched.same_role ∙ (ap (λ (x : SeatState). x.0.role) up.is ∙ pass.role_is);
      owned = ap (λ (p : Plan). p.places) (searched.same_plan ∙ ap (λ (x : SeatState). x.0.plan) up.is) ∙ pass.owned;
      own_seen = searched.idle.knows_own.changes;
      none_told = searched.same_told ∙ ap (λ (x : SeatState). x.0.told) up.is;
      idle = searched.idle.idle;
      no_slot = searched.same_slots ∙ (ap (λ (x : SeatState). x.1) up.is ∙ pass.no_slot);
    }

pub returns-clause-snapshot : goal.returns-clause-snapshot
returns-clause-snapshot c =
    let plan = c.snapshot_by.ensures.searched.same_plan ∙ (ap (λ (x : SeatState). x.0.plan) c.look_up.ensures.up.is ∙ c.requires.its_own.1) in
    subst (λ (opening : List Entry). IfOk c.snapshot_by.result (λ found. IfSome found (λ entries. IsSnapshot opening c.snapshot_by.new.seat.me.0.seen c.args.lo c.args.hi entries.items))) (ap (λ (p : Plan). p.opening) plan) c.snapshot_by.ensures.snapshot

pub returns-clause-knows : goal.returns-clause-knows
returns-clause-knows c = knows c.args.pass.now _ c.look_up.new.seat.me c.look_up.ensures.up c.snapshot_by.ensures.searched c.args.self.now c.requires.its_own

pub returns-clause-same : goal.returns-clause-same
returns-clause-same c = is_same c.args.pass.now _ c.look_up.new.seat.me c.look_up.ensures.up c.snapshot_by.ensures.searched (c.snapshot_by.ensures.same_table.0 ∙ c.look_up.ensures.same.0) refl refl refl
