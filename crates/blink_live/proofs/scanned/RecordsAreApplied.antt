-- Records of a leaf, applied one after another to what its base says of keys.
use Rattle.std.proofs.Common.{◌≡◌, ◌≢◌, ℕ, ◌+◌, ◌*◌, ◌<◌, ◌≤◌, ◌⊎◌, ⊎_elim, Option, List, [], ◌∷◌, ◌++◌, length, take, drop, refl, sym, ap, ◌∙◌, subst, arith}
use Rattle.std.proofs.lemmas.List.{take_all}
use Rattle.blink_batch.specs.declared.Entry.{Entry}
use Rattle.blink_page.specs.{PlainPage, value_at}
use Rattle.blink_page.specs.declared.limits.TheConstants.{MAX_FAN}
use Rattle.blink_rows.specs.{AllFit, Finds, kind_number, kinds_behind, page_with, pointer_by, records_in}
use Rattle.blink_rows.specs.declared.limits.TheConstants.{ROW_WORDS}
use Rattle.blink_rows.specs.declared.log.Kind.{Kind}
use Rattle.blink_rows.specs.declared.log.Kind.TheVariants.{Replaced, Added, Removed}
use Rattle.blink_rows.specs.declared.log.Record.{Record}
use Rattle.blink_rows.specs.declared.naming.Records.{Records}
use Rattle.blink_rows.proofs.Offered.{fit_older, lawful_content, value_elsewhere, value_here}
use Rattle.blink_live.specs.Editing.{IsEdited, IsReplaced, pointers_in}
use Rattle.blink_live.specs.Scanning.{IsCopied}
use Rattle.blink_live.specs.Seats.{ReadsVersion}
use Rattle.blink_live.specs.Views.{SeatState}
use Rattle.blink_live.proofs.found.RecordsInRow.{all_inside, count_is, counted_there, fits_there, one_applied, record_at}

-- the words of a record stand in the row, and the row has room for an entry by each record
pub record_inside : {me : SeatState} {word : ℕ} {page : PlainPage} (is : ReadsVersion me word page) (told : Records) (base from older : ℕ) → told ≡ records_in word → base ≡ length is.base.entries → from ≡ older → older < told.count
    → (6 + 2 * (base + from) + 1 < ROW_WORDS) × (older < length is.version.records)
record_inside is told base from older says base_is from_is one =
    let many : told.count ≡ length is.version.records = ap (λ (r : Records). r.count) says ∙ sym (count_is is) in
    let room = all_inside is in
    (omega (arith, base_is, from_is, one, many, room), omega (arith, one, many))

-- all records are applied at last
pub all_applied : {me : SeatState} {word : ℕ} {page : PlainPage} (is : ReadsVersion me word page) (told : Records) (older : ℕ) → told ≡ records_in word → older ≡ told.count → page_with is.base (take older is.version.records) ≡ page
all_applied is told older says all =
    let many : older ≡ length is.version.records = all ∙ (ap (λ (r : Records). r.count) says ∙ sym (count_is is)) in
    ap (λ (n : ℕ). page_with is.base (take n is.version.records)) many
    ∙ (ap (page_with is.base) (take_all (length is.version.records) is.version.records (omega arith)) ∙ sym is.version.is)

-- ---- the kinds that a page word says

none_before : (before : ℕ) (records : List Record) → kinds_behind before records ≡ 0 → before ≡ 0
none_before before [] none = none
none_before before (r ∷ rest) none = let here = none_before (4 * before + kind_number r.kind) rest none in omega (arith, here)

is_replacement : (kind : Kind) → kind_number kind ≡ 0 → kind ≡ Replaced
is_replacement Replaced none = refl
is_replacement Added none = absurd (omega (arith, none))
is_replacement Removed none = absurd (omega (arith, none))

kind_there : (before : ℕ) (older : List Record) (r : Record) (newer : List Record) → kinds_behind before (older ++ r ∷ newer) ≡ 0 → r.kind ≡ Replaced
kind_there before [] r newer none = let here = none_before (4 * before + kind_number r.kind) newer none in is_replacement r.kind (omega (arith, here))
kind_there before (x ∷ older) r newer none = kind_there (4 * before + kind_number x.kind) older r newer none

-- ---- one record more

-- a change that fits the page edits what the page says
edited : (kind : Kind) (key pointer : ℕ) (page : PlainPage) (later : ℕ → Option ℕ) → Finds MAX_FAN page key kind → later key ≡ pointer_by kind pointer → ((other : ℕ) → key ≢ other → later other ≡ pointers_in page other) → IsEdited kind key pointer (pointers_in page) later
edited Replaced key pointer page later finds here others = record { there = finds; here = here; others = others }
edited Added key pointer page later finds here others = record { absent = finds.1; here = here; others = others }
edited Removed key pointer page later finds here others = record { there = finds; gone = here; others = others }

module _ {me : SeatState} {word : ℕ} {page : PlainPage} (is : ReadsVersion me word page) (older : ℕ) (inside : older < length is.version.records) where
  abbrev Before : PlainPage
  Before = page_with is.base (take older is.version.records)

  abbrev After : PlainPage
  After = page_with is.base (take (older + 1) is.version.records)

  abbrev It : Record
  It = (record_at is.version.records older inside).0

  one_edited : IsEdited It.kind It.key It.pointer (pointers_in Before) (pointers_in After)
  one_edited =
      let at = record_at is.version.records older inside in
      let logged = is.version.logged is.lawful in
      let fits = fits_there is older inside in
      let next = one_applied is older inside in
      let all_fit : AllFit MAX_FAN is.base (take older is.version.records ++ It ∷ drop (older + 1) is.version.records) = subst (AllFit MAX_FAN is.base) at.3 logged.all_fit in
      let lawful = lawful_content MAX_FAN is.base (take older is.version.records) logged.lawful (fit_older MAX_FAN is.base (take older is.version.records) (It ∷ drop (older + 1) is.version.records) all_fit) in
      edited It.kind It.key It.pointer Before (pointers_in After) fits.finds
      (ap (λ (p : PlainPage). value_at It.key p.entries) (sym next) ∙ value_here MAX_FAN Before It lawful fits)
      (λ other apart. ap (λ (p : PlainPage). value_at other p.entries) (sym next) ∙ value_elsewhere Before.entries It other apart)

  -- by the words that were loaded, and the kind that the page word says
  pub edited_by : (kind : Kind) (key pointer : ℕ) → kind ≡ It.kind → key ≡ It.key → pointer ≡ It.pointer → IsEdited kind key pointer (pointers_in Before) (pointers_in After)
  edited_by kind key pointer same_kind same_key same_pointer =
      subst (λ (x : Kind × ℕ × ℕ). IsEdited x.0 x.1 x.2 (pointers_in Before) (pointers_in After)) {x = (It.kind, It.key, It.pointer)} (λ i. (sym same_kind i, sym same_key i, sym same_pointer i)) one_edited

  -- where all are replacements, this one is
  pub replaced_by : (records_in word).kinds ≡ 0 → (key pointer : ℕ) → key ≡ It.key → pointer ≡ It.pointer → IsReplaced key pointer (pointers_in Before) (pointers_in After)
  replaced_by kinds key pointer same_key same_pointer =
      let at = record_at is.version.records older inside in
      edited_by Replaced key pointer (sym (kind_there 0 at.1.older It at.1.newer (ap (λ (r : Records). r.kinds) (counted_there is older It at.1) ∙ kinds))) same_key same_pointer

-- ---- a record of a key outside a range that was copied

others_stay : (kind : Kind) (key pointer : ℕ) (known later : ℕ → Option ℕ) → IsEdited kind key pointer known later → (other : ℕ) → key ≢ other → later other ≡ known other
others_stay Replaced key pointer known later is = is.others
others_stay Added key pointer known later is = is.others
others_stay Removed key pointer known later is = is.others

pub edited_outside : (kind : Kind) (key pointer : ℕ) (known later : ℕ → Option ℕ) (from stop : ℕ) (es : List Entry) → IsEdited kind key pointer known later → (key < from) ⊎ (stop ≤ key) → IsCopied known from stop es → IsCopied later from stop es
edited_outside kind key pointer known later from stop es is outside was = record {
  exact = λ other low high. was.exact other low high ∙ sym (others_stay kind key pointer known later is other (λ same. ⊎_elim (λ (below : key < from). omega (arith, below, same, low)) (λ (above : stop ≤ key). omega (arith, above, same, high)) outside));
  ascending = was.ascending;
  between = was.between;
}
