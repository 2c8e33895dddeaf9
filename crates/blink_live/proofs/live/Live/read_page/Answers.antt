use Rattle.std.proofs.Common.{ap, sym, ◌∙◌, subst}
use Rattle.blink_rows.specs.{PlainCounts, row_in}
use Rattle.blink_machine.specs.{need_at}
use Rattle.blink_live.specs.declared.view.Plan.{Plan}
use Rattle.blink_live.specs.declared.view.View.{View}
use Rattle.blink_live.specs.Seats.{ReadsWay}
use Rattle.blink_live.specs.Views.{SeatState}
use Rattle.blink_live.specs.Words.{IsRowNumber}
use Rattle.blink_live.proofs.found.VersionsAreRead.{its_level, version_loaded}
use Rattle.blink_live.proofs.live.Live.read_page.Goals as goal

pub load_page-word-requires-clause-at : goal.load_page-word-requires-clause-at
load_page-word-requires-clause-at c = let at = c.requires.at in (at.machine, at.operation, at.fits, ap need_at at.state)

pub load_page-word-requires-clause-announced : goal.load_page-word-requires-clause-announced
load_page-word-requires-clause-announced c = c.requires.at.announced

pub way_in-way-requires : goal.way_in-way-requires
way_in-way-requires c =
    let at = c.requires.at in
    let loads = (c.load_page-word.ensures.read at.machine at.operation (ap need_at at.state)).1 in
    let same = ap (λ (x : SeatState). x.0) loads.is in record {
      seat = record {
        same_table = c.load_page-word.ensures.same.0 ∙ c.requires.seat.same_table;
        same_plan = ap (λ (v : View). v.plan) same ∙ c.requires.seat.same_plan;
        role = ap (λ (v : View). v.role) same ∙ c.requires.seat.role;
      };
      row = subst (λ (counts : PlainCounts). IsRowNumber counts (row_in c.load_page-word.result)) (ap (λ (p : Plan). p.counts) c.requires.seat.same_plan ∙ sym c.args.self.now.counts_are) loads.row_in_range;
      page = (loads.page, version_loaded loads, its_level at loads);
    }

pub returns-clause-row : goal.returns-clause-row
returns-clause-row c =
    let at = c.requires.at in
    let loads = (c.load_page-word.ensures.read at.machine at.operation (ap need_at at.state)).1 in
    subst (λ (counts : PlainCounts). IsRowNumber counts (row_in c.load_page-word.result)) (ap (λ (p : Plan). p.counts) c.requires.seat.same_plan ∙ sym c.args.self.now.counts_are) loads.row_in_range

pub returns-clause-way : goal.returns-clause-way
returns-clause-way c at =
    let loads = c.load_page-word.ensures.read at.machine at.operation (ap need_at at.state) in
    subst (ReadsWay at.machine c.args.key c.args.number c.load_page-word.result c.args.seat.now.me c.way_in-way.result.0 c.way_in-way.result.1) (sym c.way_in-way.ensures.same.2)
    (record { machine = loads.0; loads = loads.1; tells = c.way_in-way.ensures.way loads.1.page (version_loaded loads.1) (its_level at loads.1) })
