use Rattle.std.proofs.Common.{◌≡◌, ℕ, sym, subst}
use Rattle.blink_page.specs.{PlainPage}
use Rattle.blink_machine.specs.{IsReadable, PlainMachine, SeesPage}
use Rattle.blink_live.specs.AtomicSteps.{LoadsPage}
use Rattle.blink_live.specs.Views.{SeatState}
use Rattle.blink_live.proofs.found.VersionsAreRead.{version_loaded}
use Rattle.blink_live.proofs.live.Live.read_latched.Goals as goal

readable : {m machine : PlainMachine} {number word : ℕ} {me then : SeatState} {page : PlainPage} → (loads : LoadsPage m number me word machine then) → page ≡ loads.page → IsReadable m page
readable {m} loads same = subst (IsReadable m) (sym same) loads.readable

pub saw_own_page-requires-clause-level : goal.saw_own_page-requires-clause-level
saw_own_page-requires-clause-level c =
    let loads = (c.load_page-word.ensures.read c.args.machine.now c.requires.at c.requires.needs).1 in
    (readable loads (c.page_in_row-page.ensures.page loads.page (version_loaded loads))).has_level

pub saw_own_page-requires-clause-below : goal.saw_own_page-requires-clause-below
saw_own_page-requires-clause-below c =
    let loads = (c.load_page-word.ensures.read c.args.machine.now c.requires.at c.requires.needs).1 in
    (readable loads (c.page_in_row-page.ensures.page loads.page (version_loaded loads))).floor_below

pub saw_own_page-requires-clause-at_most_fan : goal.saw_own_page-requires-clause-at_most_fan
saw_own_page-requires-clause-at_most_fan c =
    let loads = (c.load_page-word.ensures.read c.args.machine.now c.requires.at c.requires.needs).1 in
    (readable loads (c.page_in_row-page.ensures.page loads.page (version_loaded loads))).at_most_fan

pub returns-clause-read : goal.returns-clause-read
returns-clause-read c =
    let m : PlainMachine = c.args.machine.now in
    let me : SeatState = c.args.seat.now.me in
    let word = c.load_page-word.result in
    let after : PlainMachine = c.saw_own_page.new.self in
    let loads = c.load_page-word.ensures.read m c.requires.at c.requires.needs in
    let page_is = sym (c.page_in_row-page.ensures.page loads.1.page (version_loaded loads.1)) in
    let sees : SeesPage m c.args.number loads.1.page after = subst (λ (page : PlainPage). SeesPage m c.args.number page after) (sym page_is) (c.saw_own_page.ensures c.args.number c.requires.needs) in
    let same : after ≡ loads.0 = loads.1.only after sees in
    (word, subst (λ (x : PlainMachine × SeatState). LoadsPage m c.args.number me word x.0 x.1) (λ i. (sym same i, sym c.page_in_row-page.ensures.same.2 i)) loads.1)
