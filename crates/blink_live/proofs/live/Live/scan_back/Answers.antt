use Rattle.std.proofs.Common.{◌≡◌, ℕ, ◌+◌, List, refl, sym, ap, ◌∙◌, subst, arith, take}
use mathlib.Core.List.{IsPrefix}
use Rattle.blink_batch.specs.declared.Entry.{Entry}
use Rattle.blink_live.specs.declared.view.Plan.{Plan}
use Rattle.blink_live.specs.declared.view.Share.{Share}
use Rattle.blink_live.specs.Scanning.{SaysOfKeys}
use Rattle.blink_live.specs.ScanningBack.{IsReportBack, start_of}
use Rattle.blink_live.specs.Handles.{opening_of}
use Rattle.blink_live.specs.Views.{SeatState}
use Rattle.blink_live.proofs.found.PassesAfterSearches.{idle_pass, is_same, knows}
use Rattle.blink_live.proofs.scanned.PlacesAreFilled.{first_places, other_places}
use Rattle.blink_live.proofs.scanned.ReportsGoBack.{report_back_from}
use Rattle.blink_live.proofs.live.Live.scan_back.Goals as goal

pub scan_back_by-requires-clause-idle : goal.scan_back_by-requires-clause-idle
scan_back_by-requires-clause-idle c = idle_pass c.args.pass.now c.look_up.new.seat.me c.look_up.ensures.up

pub invariant_of-pass : goal.invariant_of-pass
invariant_of-pass c =
    let pass = c.args.pass.now in
    let up = c.look_up.ensures.up in
    let searched = c.scan_back_by.ensures.scanned.3.searched in record {
      keys_are = pass.keys_are ∙ sym (ap (λ (s : Share). s.keys) (searched.same_share ∙ ap (λ (x : SeatState). x.0.share) up.is));
      ascending = pass.ascending;
      rows_are = pass.rows_are ∙ sym (searched.same_rows ∙ ap (λ (x : SeatState). x.0.rows) up.is);
      pages_are = pass.pages_are ∙ sym (searched.same_pages ∙ ap (λ (x : SeatState). x.0.pages) up.is);
      in_order = pass.in_order;
      for_changes = pass.for_changes;
      role_is = searched.same_role ∙ (ap (λ (x : SeatState). x.0.role) up.is ∙ pass.role_is);
      owned = ap (λ (p : Plan). p.places) (searched.same_plan ∙ ap (λ (x : SeatState). x.0.plan) up.is) ∙ pass.owned;
      own_seen = searched.idle.knows_own.changes;
      none_told = searched.same_told ∙ ap (λ (x : SeatState). x.0.told) up.is;
      idle = searched.idle.idle;
      no_slot = searched.same_slots ∙ (ap (λ (x : SeatState). x.1) up.is ∙ pass.no_slot);
    }

pub returns-clause-report : goal.returns-clause-report
returns-clause-report c =
    let up = c.look_up.ensures.up in
    let scanned = c.scan_back_by.ensures.scanned in
    let start : ℕ = start_of c.args.lo c.scan_back_by.result.next in
    let opening = ap (λ (p : Plan). p.opening) (ap (λ (x : SeatState). x.0.plan) up.is ∙ c.requires.its_own.1) in
    let filled : List Entry = take c.scan_back_by.result.filled c.scan_back_by.new.into in
    let same : filled ≡ scanned.0 = first_places scanned.0 c.args.into.now c.scan_back_by.new.into c.scan_back_by.result.filled scanned.1 scanned.2 in
    let saw : IsPrefix c.args.pass.now.seat.me.0.seen c.look_up.new.seat.me.0.seen = subst (λ (x : SeatState). IsPrefix c.args.pass.now.seat.me.0.seen x.0.seen) (sym up.is) up.learns.saw in
    let report : IsReportBack c.look_up.new.seat.me.0.plan.opening c.look_up.new.seat.me.0.seen c.scan_back_by.new.seat.me.0.seen start c.args.hi filled = subst (IsReportBack c.look_up.new.seat.me.0.plan.opening c.look_up.new.seat.me.0.seen c.scan_back_by.new.seat.me.0.seen start c.args.hi) (sym same) scanned.3.report in
    report_back_from (opening_of c.args.self.now) c.args.pass.now.seat.me.0.seen c.look_up.new.seat.me.0.seen c.scan_back_by.new.seat.me.0.seen start c.args.hi filled saw
    (subst (λ (es : List Entry). IsReportBack es c.look_up.new.seat.me.0.seen c.scan_back_by.new.seat.me.0.seen start c.args.hi filled) opening report)

pub returns-clause-own : goal.returns-clause-own
returns-clause-own c =
    let scanned = c.scan_back_by.ensures.scanned in
    let share : c.look_up.new.seat.me.0.share ≡ c.args.pass.now.seat.me.0.share = ap (λ (x : SeatState). x.0.share) c.look_up.ensures.up.is in
    let start : ℕ = start_of c.args.lo c.scan_back_by.result.next in
    let same = first_places scanned.0 c.args.into.now c.scan_back_by.new.into c.scan_back_by.result.filled scanned.1 scanned.2 in
    let own = subst (λ (s : Share). SaysOfKeys s.keys s.entries start (c.args.hi + 1) scanned.0) share scanned.3.own in
    let of_keys = subst (λ (keys : List ℕ). SaysOfKeys keys c.args.pass.now.seat.me.0.share.entries start (c.args.hi + 1) scanned.0) (sym c.args.pass.now.keys_are) own in
    subst (SaysOfKeys c.args.pass.now.keys.items c.args.pass.now.seat.me.0.share.entries start (c.args.hi + 1)) (sym same) of_keys

pub returns-clause-filled : goal.returns-clause-filled
returns-clause-filled c = let scanned = c.scan_back_by.ensures.scanned in let fits = scanned.1.fits in let count = scanned.2 in omega (arith, fits, count)

pub returns-clause-others : goal.returns-clause-others
returns-clause-others c = let scanned = c.scan_back_by.ensures.scanned in other_places scanned.0 c.args.into.now c.scan_back_by.new.into c.scan_back_by.result.filled scanned.1 scanned.2

pub returns-clause-knows : goal.returns-clause-knows
returns-clause-knows c = knows c.args.pass.now _ c.look_up.new.seat.me c.look_up.ensures.up c.scan_back_by.ensures.scanned.3.searched c.args.self.now c.requires.its_own

pub returns-clause-same : goal.returns-clause-same
returns-clause-same c =
    is_same c.args.pass.now _ c.look_up.new.seat.me c.look_up.ensures.up c.scan_back_by.ensures.scanned.3.searched (c.scan_back_by.ensures.same_table.0 ∙ c.look_up.ensures.same.0) refl refl refl
