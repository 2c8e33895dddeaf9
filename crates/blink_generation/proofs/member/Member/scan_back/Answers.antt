use Rattle.std.proofs.Common.{◌≡◌, ℕ, List, take, inl, refl, sym, ap, ◌∙◌, subst, arith}
use Rattle.blink_batch.specs.declared.Entry.{Entry}
use Rattle.blink_live.specs.declared.view.Change.{Change}
use Rattle.blink_live.specs.declared.view.Plan.{Plan}
use Rattle.blink_live.specs.declared.view.Share.{Share}
use Rattle.blink_live.specs.{IsReportBack, KnowsAuthors, SeatState, start_of}
use Rattle.blink_live.proofs.Offered.{first_places, other_places, shelved_so}
use Rattle.blink_generation.proofs.LooksOver.{can_look, has_looked, is_still_its_seat}
use Rattle.blink_generation.proofs.member.Member.scan_back.Goals as goal

pub scan_back_by-scanned-requires-clause-idle : goal.scan_back_by-scanned-requires-clause-idle
scan_back_by-scanned-requires-clause-idle c = can_look c.args.self.now c.next_mark.result c.mark_place.new.seat.me c.next_mark.ensures.works c.mark_place.ensures.marked

pub mark_place-requires-2 : goal.mark_place-requires-2
mark_place-requires-2 c =
    let old = c.args.self.now in
    let live = c.args.live.now in
    let marked = c.mark_place.ensures.marked in
    let found = c.scan_back_by-scanned.ensures.scanned.3.searched in
    let inside = old.place_is.1 in
    let same : old.seat.me.0.plan.places ≡ live.places = ap (λ (p : Plan). p.places) c.requires.its_own.same_plan ∙ sym live.places_are in record {
      seat = is_still_its_seat old c.next_mark.result c.mark_place.new.seat.me c.scan_back_by-scanned.new.seat.me marked found live _ (c.scan_back_by-scanned.ensures.same_table.0 ∙ c.mark_place.ensures.same.0) c.requires.its_own;
      place = (old.place_is.0 ∙ sym (found.same_place ∙ ap (λ (x : SeatState). x.0.place) marked), omega (arith, inside, same));
      idle = inl found.idle.idle;
    }

pub invariant_of-self : goal.invariant_of-self
invariant_of-self c =
    let old = c.args.self.now in
    let marked = c.mark_place.ensures.marked in
    let found = c.scan_back_by-scanned.ensures.scanned.3.searched in
    let now = c.mark_place-2.ensures.marked in
    let plan = ap (λ (x : SeatState). x.0.plan) now ∙ (found.same_plan ∙ ap (λ (x : SeatState). x.0.plan) marked) in
    let inside = old.place_is.1 in
    let common = old.common in
    let same : c.mark_place-2.new.seat.me.0.plan.places ≡ old.seat.me.0.plan.places = ap (λ (p : Plan). p.places) plan in record {
      rows_are = old.rows_are ∙ sym (ap (λ (x : SeatState). x.0.rows) now ∙ (found.same_rows ∙ ap (λ (x : SeatState). x.0.rows) marked));
      pages_are = old.pages_are ∙ sym (ap (λ (x : SeatState). x.0.pages) now ∙ (found.same_pages ∙ ap (λ (x : SeatState). x.0.pages) marked));
      place_is = (old.place_is.0 ∙ sym (ap (λ (x : SeatState). x.0.place) now ∙ (found.same_place ∙ ap (λ (x : SeatState). x.0.place) marked)), omega (arith, inside, same));
      in_order = old.in_order;
      role_is = ap (λ (x : SeatState). x.0.role) now ∙ (found.same_role ∙ (ap (λ (x : SeatState). x.0.role) marked ∙ old.role_is));
      common = omega (arith, common, same);
      no_key = ap (λ (x : SeatState). x.0.share.keys) now ∙ (ap (λ (s : Share). s.keys) (found.same_share ∙ ap (λ (x : SeatState). x.0.share) marked) ∙ old.no_key);
      none_told = ap (λ (x : SeatState). x.0.told) now ∙ (found.same_told ∙ (ap (λ (x : SeatState). x.0.told) marked ∙ old.none_told));
      idle = ap (λ (x : SeatState). x.0.operation) now ∙ found.idle.idle;
      rests = ap (λ (x : SeatState). x.0.busy) now;
      authors = subst KnowsAuthors (sym (ap (λ (x : SeatState). x.0) now)) c.mark_place-2.ensures.authors;
      no_slot = ap (λ (x : SeatState). x.1) now ∙ (found.same_slots ∙ (ap (λ (x : SeatState). x.1) marked ∙ old.no_slot));
      shelved = shelved_so old.room.shelf old.seat.me.0 c.mark_place-2.new.seat.me.0 plan (ap (λ (x : SeatState). x.0.stock) now ∙ (found.same_stock ∙ ap (λ (x : SeatState). x.0.stock) marked)) old.shelved;
    }

pub returns-clause-report : goal.returns-clause-report
returns-clause-report c =
    let marked = c.mark_place.ensures.marked in
    let scanned = c.scan_back_by-scanned.ensures.scanned in
    let start : ℕ = start_of c.args.lo c.scan_back_by-scanned.result.next in
    let filled : List Entry = take c.scan_back_by-scanned.result.filled c.scan_back_by-scanned.new.into in
    let same : filled ≡ scanned.0 = first_places scanned.0 c.args.into.now c.scan_back_by-scanned.new.into c.scan_back_by-scanned.result.filled scanned.1 scanned.2 in
    let opening = ap (λ (x : SeatState). x.0.plan.opening) marked ∙ ap (λ (p : Plan). p.opening) c.requires.its_own.same_plan in
    subst (λ (x : List Entry × List Change × List Change × List Entry). IsReportBack x.0 x.1 x.2 start c.args.hi x.3)
    (λ i. (opening i, ap (λ (x : SeatState). x.0.seen) marked i, sym (ap (λ (x : SeatState). x.0.seen) c.mark_place-2.ensures.marked) i, sym same i)) scanned.3.report

pub returns-clause-filled : goal.returns-clause-filled
returns-clause-filled c = let scanned = c.scan_back_by-scanned.ensures.scanned in let fits = scanned.1.fits in let count = scanned.2 in omega (arith, fits, count)

pub returns-clause-others : goal.returns-clause-others
returns-clause-others c = let scanned = c.scan_back_by-scanned.ensures.scanned in other_places scanned.0 c.args.into.now c.scan_back_by-scanned.new.into c.scan_back_by-scanned.result.filled scanned.1 scanned.2

pub returns-clause-looked : goal.returns-clause-looked
returns-clause-looked c =
    has_looked c.args.self.now c.next_mark.result c.mark_place.new.seat.me c.scan_back_by-scanned.new.seat.me c.mark_place.ensures.marked c.scan_back_by-scanned.ensures.scanned.3.searched _ c.mark_place-2.ensures.marked (c.mark_place-2.ensures.same.0 ∙ (c.scan_back_by-scanned.ensures.same_table.0 ∙ c.mark_place.ensures.same.0)) refl refl refl
