-- The version of a page that a page word names: the base at the begin of its row, and the records behind it.
use Rattle.std.proofs.Common.{◌≡◌, ℕ, ◌<◌, ◌≤◌, Option, Some, List, sym, ap, ◌∙◌, subst, arith}
use Rattle.blink_page.specs.{IsKeyOf, Leads, PlainPage, least_above, value_at}
use Rattle.blink_page.specs.declared.search.Way.{Way}
use Rattle.blink_page.specs.declared.search.Way.TheVariants.{Right, Down, Here}
use Rattle.blink_rows.specs.{page_words, records_in, row_in}
use Rattle.blink_rows.proofs.Offered.{row_of_row}
use Rattle.blink_machine.specs.declared.machine.State.{State}
use Rattle.blink_machine.specs.{PlainMachine, at_state, level_read}
use Rattle.blink_live.specs.AtomicSteps.{LoadsPage}
use Rattle.blink_live.specs.Seats.{IsAtPage, IsSaid, ReadsPage, ReadsVersion, TellsWayFor}
use Rattle.blink_live.specs.Views.{SeatState}
use Rattle.blink_live.specs.Words.{IsVersion}
use Rattle.blink_live.proofs.table.VersionsOfPages.{SameHead, alone_if_none, inner_alone, row_is_below, same_head, unlogged}

-- a page word was loaded
abbrev pub version_loaded : {m machine : PlainMachine} {number word : ℕ} {me then : SeatState} → (loads : LoadsPage m number me word machine then) → ReadsVersion then word loads.page
version_loaded {m} {machine} {number} {word} loads = record {
  base = loads.base;
  reads = ap (λ (x : SeatState). x.0.reads) loads.is;
  version = subst (λ (x : SeatState). IsVersion word loads.base x.0.behind loads.page) (sym loads.is) loads.version;
  lawful = loads.lawful;
}

-- the seat reads its base
pub base_of : {me : SeatState} {word : ℕ} {page : PlainPage} → (is : ReadsVersion me word page) → ReadsPage me (row_in word) is.base
base_of is = record { reads = is.reads; lawful = (is.version.logged is.lawful).lawful }

-- and still reads a page after a load that changed nothing
pub page_still : {me now : SeatState} {row : ℕ} {page : PlainPage} → now ≡ me → ReadsPage me row page → ReadsPage now row page
page_still {me} {now} {row} {page} same reads = subst (λ (x : SeatState). ReadsPage x row page) (sym same) reads

-- the page has the level at which the operation is
pub its_level : {machine : PlainMachine} {key number level word : ℕ} {me then : SeatState} (at : IsAtPage me key number level) → (loads : LoadsPage at.machine number me word machine then) → loads.page.level ≡ level
its_level at loads = loads.readable.has_level ∙ ap (λ (state : State). level_read (at_state at.machine state)) at.state

-- ---- a page without records

pub page_alone : {me : SeatState} {word : ℕ} {page : PlainPage} → ReadsVersion me word page → (records_in word).count ≡ 0 → ReadsPage me (row_in word) page
page_alone {me} {word} is none = subst (ReadsPage me (row_in word)) (alone_if_none is.version none).0 (base_of is)

-- the row's number is a page word that names it, too
pub version_alone : {me : SeatState} {word : ℕ} {page : PlainPage} → ReadsVersion me word page → (records_in word).count ≡ 0 → ReadsVersion me (row_in word) page
version_alone {me} {word} {page} is none =
    let alone = alone_if_none is.version none in
    let same : row_in (row_in word) ≡ row_in word = row_of_row (row_in word) (row_is_below word) in record {
      base = page;
      reads = is.reads ∙ (λ i. let e : ℕ × List ℕ = (sym same i, page_words (alone.0 i)) in Some e);
      version = subst (λ (b : List ℕ). IsVersion (row_in word) page b page) (sym alone.1) (unlogged (row_in word) page (row_is_below word));
      lawful = is.lawful;
    }

-- ---- the way that the base tells

leads_from_base : (base page : PlainPage) (key : ℕ) (way : Way) → SameHead base page → (0 < page.level → base ≡ page) → Leads base key way → Leads page key way
leads_from_base base page key (Right next) same inner leads = (let high = same.high in let above = leads.0 in omega (arith, high, above), same.right ∙ leads.1)
leads_from_base base page key (Down child) same inner leads =
    let above : 0 < page.level = let level = same.level in let is = leads.1 in omega (arith, level, is) in
    subst (λ (p : PlainPage). Leads p key (Down child)) (inner above) leads
leads_from_base base page key Here same inner leads = (let high = same.high in let below = leads.0 in omega (arith, high, below), same.level ∙ leads.1)

-- where the base's key leads, the page's does
pub leads_by_base : {me : SeatState} {word : ℕ} {page : PlainPage} (key : ℕ) (way : Way) → (is : ReadsVersion me word page) → Leads is.base key way → Leads page key way
leads_by_base {me} {word} {page} key way is = leads_from_base is.base page key way (same_head is.version) (inner_alone is.version is.lawful)

-- is the page's, if no record has the key
pub way_from_base : {me : SeatState} {word : ℕ} {page : PlainPage} (key : ℕ) (way : Way) (kept : Option ℕ) → (is : ReadsVersion me word page) → value_at key page.entries ≡ value_at key is.base.entries → TellsWayFor key is.base way kept → TellsWayFor key page way kept
way_from_base {me} {word} {page} key way kept is silent tells = record { leads = leads_by_base key way is tells.leads; maps = λ here. silent ∙ tells.maps here }

-- or a record of the key tells it
pub said_here : {page : PlainPage} (key : ℕ) (said : Option ℕ) → IsSaid key page said → TellsWayFor key page Here said
said_here key said is = record { leads = (is.belongs, is.leaf); maps = λ here. is.maps }

-- a key of the base is one of the page
pub key_of_version : {me : SeatState} {word key : ℕ} {page : PlainPage} → (is : ReadsVersion me word page) → IsKeyOf is.base key → IsKeyOf page key
key_of_version {me} {word} {key} is belongs =
    let same = same_head is.version in
    (subst (λ (o : Option ℕ). least_above o ≤ key) (sym same.floor) belongs.0, subst (λ (n : ℕ). key ≤ n) (sym same.high) belongs.1)

-- in the row that was decoded
pub base_in : {me : SeatState} {word row : ℕ} {page : PlainPage} → (is : ReadsVersion me word page) → row ≡ row_in word → ReadsPage me row is.base
base_in {me} is names = subst (λ (r : ℕ). ReadsPage me r is.base) (sym names) (base_of is)
