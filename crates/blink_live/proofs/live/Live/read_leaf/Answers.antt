use Rattle.std.proofs.Common.{◌≡◌, ◌<◌, ℕ, Option, refl, sym, ◌∙◌, subst, arith}
use Rattle.blink_page.specs.{PlainPage, Leads}
use Rattle.blink_page.specs.declared.search.Way.{Way}
use Rattle.blink_page.specs.declared.search.Way.TheVariants.{Down, Here, Right}
use Rattle.blink_live.specs.Seats.{TellsWayFor}
use Rattle.blink_live.specs.Straight.{IsSpot, holding}
use Rattle.blink_live.proofs.changed.LeavesAreChanged.{meets, meets_right, row_there, stays, under_latch, version_still}
use Rattle.blink_live.proofs.changed.UpdatesGoOn as on
use Rattle.blink_live.proofs.found.VersionsAreRead.{version_loaded}
use Rattle.blink_live.proofs.live.Live.read_leaf.Goals as goal

pub way_in-requires : goal.way_in-requires
way_in-requires c =
    let first = c.requires.holds.0 in
    let is = c.requires.holds.1 in
    let read = c.load_page-word.ensures.read (holding c.args.self.now.fan c.args.op c.args.descent.now) (on.is_its_operation is (λ ends. absurd (cc))) refl in record {
      seat = on.is_its_seat (under_latch c.args.self.now c.args.op c.args.descent.now first c.args.seat.now c.load_page-word.new.seat c.load_page-word.new.seat c.args._room.now c.load_page-word.result is c.load_page-word.ensures.same read.0 read.1);
      row = row_there c.args.self.now c.args.op c.args.descent.now first c.args.seat.now c.load_page-word.new.seat c.load_page-word.new.seat c.args._room.now c.load_page-word.result is c.load_page-word.ensures.same read.0 read.1;
      page = (read.1.page, version_loaded read.1, read.1.readable.has_level);
    }

pub spot_in-requires : goal.spot_in-requires
spot_in-requires c =
    let first = c.requires.holds.0 in
    let is = c.requires.holds.1 in
    let read = c.load_page-word.ensures.read (holding c.args.self.now.fan c.args.op c.args.descent.now) (on.is_its_operation is (λ ends. absurd (cc))) refl in record {
      seat = on.is_its_seat (stays (under_latch c.args.self.now c.args.op c.args.descent.now first c.args.seat.now c.load_page-word.new.seat c.way_in.new.seat c.args._room.now c.load_page-word.result is c.load_page-word.ensures.same read.0 read.1) c.way_in.new.seat c.way_in.ensures.same);
      row = row_there c.args.self.now c.args.op c.args.descent.now first c.args.seat.now c.load_page-word.new.seat c.way_in.new.seat c.args._room.now c.load_page-word.result is c.load_page-word.ensures.same read.0 read.1;
      page = (read.1.page, version_still c.args.self.now c.args.op c.args.descent.now first c.args.seat.now c.load_page-word.new.seat c.way_in.new.seat c.args._room.now c.load_page-word.result is c.load_page-word.ensures.same read.0 read.1 c.way_in.ensures.same c.load_page-word.result refl);
    }

pub edit_of-requires-clause-fits : goal.edit_of-requires-clause-fits
edit_of-requires-clause-fits c = c.requires.holds.1.can.fits

-- the way is this one
leads_this : {key : ℕ} {page : PlainPage} {way : Way} {kept : Option ℕ} (this : Way) → way ≡ this → TellsWayFor key page way kept → Leads page key this
leads_this {key} {page} this is tells = subst (Leads page key) is tells.leads

pub unreachable-requires : goal.unreachable-requires
unreachable-requires c =
    let is = c.requires.holds.1 in
    let read = c.load_page-word.ensures.read (holding c.args.self.now.fan c.args.op c.args.descent.now) (on.is_its_operation is (λ ends. absurd (cc))) refl in
    let leads = leads_this (Down c.in-Down-default.field-0-0) c.in-Down-default.is-0 (c.way_in.ensures.way read.1.page (version_loaded read.1) read.1.readable.has_level) in
    let above = leads.1 in
    let level : read.1.page.level ≡ 0 = read.1.readable.has_level in
    omega (arith, above, level)

pub returns-in-Right-default : goal.returns-in-Right-default
returns-in-Right-default c = λ first is.
    let read = c.load_page-word.ensures.read (holding c.args.self.now.fan c.args.op c.args.descent.now) (on.is_its_operation is (λ ends. absurd (cc))) refl in
    let leads = leads_this (Right c.in-Right-default.next) c.in-Right-default.is-0 (c.way_in.ensures.way read.1.page (version_loaded read.1) read.1.readable.has_level) in
    let over = subst (λ (k : ℕ). read.1.page.high < k) c.key.ensures leads.0 in
    meets_right c.args.self.now c.args.op c.args.descent.now first c.args.seat.now c.load_page-word.new.seat c.way_in.new.seat c.args._room.now c.load_page-word.result is c.load_page-word.ensures.same read.0 read.1 c.way_in.ensures.same c.in-Right-default.next over leads.1

pub returns-in-Here-default : goal.returns-in-Here-default
returns-in-Here-default c = λ first is.
    let live = c.args.self.now in
    let loaded = c.load_page-word.new.seat in
    let read = c.load_page-word.ensures.read (holding live.fan c.args.op c.args.descent.now) (on.is_its_operation is (λ ends. absurd (cc))) refl in
    let way = c.way_in.ensures.same in
    let tells = c.way_in.ensures.way read.1.page (version_loaded read.1) read.1.readable.has_level in
    let leads = leads_this Here c.in-Here-default.is-0 tells in
    let version = version_still live c.args.op c.args.descent.now first c.args.seat.now loaded c.way_in.new.seat c.args._room.now c.load_page-word.result is c.load_page-word.ensures.same read.0 read.1 way c.load_page-word.result refl in
    let spot = c.spot_in.ensures in
    let at = subst (λ (k : ℕ). IsSpot k read.1.page c.spot_in.result) c.key.ensures (record {
      count = spot.count read.1.page version;
      kept = spot.kept ∙ sym (tells.maps c.in-Here-default.is-0);
      below = leads.0;
    }) in
    meets live c.args.op c.args.descent.now first c.args.seat.now loaded c.spot_in.new.seat c.args._room.now c.load_page-word.result is c.load_page-word.ensures.same read.0 read.1
    (spot.same.0 ∙ way.0, spot.same.1 ∙ way.1, spot.same.2 ∙ way.2) c.edit_of.result c.spot_in.result spot.word (spot.base read.1.page version) at c.edit_of.ensures
