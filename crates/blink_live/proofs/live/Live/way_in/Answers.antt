use Rattle.std.proofs.Common.{◌≡◌, ℕ, sym, ◌∙◌, subst}
use Rattle.blink_page.specs.{PlainPage}
use Rattle.blink_rows.specs.{row_in}
use Rattle.blink_live.specs.Seats.{ReadsPage, ReadsVersion}
use Rattle.blink_live.specs.Views.{SeatState}
use Rattle.blink_live.proofs.found.VersionsAreRead.{base_of, said_here, way_from_base}
use Rattle.blink_live.proofs.table.VersionsOfPages.{same_head}
use Rattle.blink_live.proofs.live.Live.way_in.Goals as goal

-- a record of the key says what the leaf has for it
pub returns-in-Some-clause-way : goal.returns-in-Some-clause-way
returns-in-Some-clause-way c page is level = said_here c.args.key c.in-Some.said (c.in-Some.ensures.said page is)

-- the base is read in this row
base_read : {word row : ℕ} {me now : SeatState} {page : PlainPage} (is : ReadsVersion me word page) → now ≡ me → row ≡ row_in word → ReadsPage now row is.base
base_read is same names = subst (λ (x : SeatState × ℕ). ReadsPage x.0 x.1 is.base) (λ i. (sym same i, sym names i)) (base_of is)

pub returns-clause-way : goal.returns-clause-way
returns-clause-way c page is level =
    way_from_base c.args.key c.way_from.result.0 c.way_from.result.1 is (c.in_default.ensures.silent page is)
    (c.way_from.ensures.way is.base (base_read is c.newest.ensures.same.2 c.row_in.ensures.row) (sym (same_head is.version).level ∙ level))
