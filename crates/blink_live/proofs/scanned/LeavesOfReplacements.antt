-- A leaf whose records all are replacements is copied in two steps: its base, and then the records' pointers.
use Rattle.std.proofs.Common.{◌≡◌, ℕ, ◌+◌, ◌≤◌, Option, List, ◌++◌, length, take, drop, refl, sym, ap, ◌∙◌, subst, arith}
use Rattle.blink_batch.specs.declared.Entry.{Entry}
use Rattle.blink_page.specs.{PlainPage}
use Rattle.blink_rows.specs.{row_in}
use Rattle.blink_live.specs.Editing.{pointers_in}
use Rattle.blink_live.specs.Scanning.{IsCopied, IsFilled}
use Rattle.blink_live.specs.Seats.{HasStates, ReadsLeaf, ReadsPage, ReadsVersion}
use Rattle.blink_live.specs.Views.{SeatState, known_of}
use Rattle.blink_live.specs.Words.{IsVersion}
use Rattle.blink_live.proofs.found.VersionsAreRead.{base_in}
use Rattle.blink_live.proofs.scanned.PlacesAreFilled.{first_places, other_places}
use Rattle.blink_live.proofs.table.VersionsOfPages.{same_head}

-- the seat reads the version still
abbrev pub version_still : {me now : SeatState} {word : ℕ} {page : PlainPage} → now ≡ me → ReadsVersion me word page → ReadsVersion now word page
version_still {me} {now} {word} {page} same is = record {
  base = is.base;
  reads = ap (λ (x : SeatState). x.0.reads) same ∙ is.reads;
  version = subst (λ (x : SeatState). IsVersion word is.base x.0.behind page) (sym same) is.version;
  lawful = is.lawful;
}

module _ {me : SeatState} {word row from : ℕ} (is : ReadsLeaf from word me) (names : row ≡ row_in word) where
  abbrev Base : PlainPage
  Base = is.reads.base

  -- the base reaches as far as the leaf
  pub base_has : HasStates (pointers_in Base) from Base
  base_has = record {
    reaches = (let reaches = is.reaches in let high = (same_head is.reads.version).high in omega (arith, reaches, high));
    states = λ other low high. refl;
  }

  -- the base is copied
  module _ (old now : List Entry) (filled stop : ℕ)
      (copied : (leaf : PlainPage) (known : ℕ → Option ℕ) → ReadsPage me row leaf → HasStates known from leaf → (entries : List Entry) × IsFilled entries old now × (filled ≡ length entries) × IsCopied known from stop entries) where
    base_copied : (entries : List Entry) × IsFilled entries old now × (filled ≡ length entries) × IsCopied (pointers_in Base) from stop entries
    base_copied = copied Base (pointers_in Base) (base_in is.reads names) base_has

    pub no_more : filled ≤ length old
    no_more = let count = base_copied.2 in let fits = base_copied.1.fits in omega (arith, count, fits)

    pub first_copied : IsCopied (pointers_in Base) from stop (take filled now)
    first_copied = subst (IsCopied (pointers_in Base) from stop) (sym (first_places base_copied.0 old now filled base_copied.1 base_copied.2)) base_copied.3

    -- and its entries have the leaf's pointers then
    pub leaf_copied : (entries : List Entry) → length entries ≡ filled → stop ≤ Base.high + 1 → IsCopied (pointers_in is.leaf) from stop entries
        → (all : List Entry) × IsFilled all old (entries ++ drop filled now) × (filled ≡ length all) × IsCopied (known_of me.0) from stop all
    leaf_copied entries width within has =
        let more = no_more in
        let head = (same_head is.reads.version).high in (
          entries,
          record {
            fits = omega (arith, width, more);
            is = ap (λ (es : List Entry). entries ++ es) (other_places base_copied.0 old now filled base_copied.1 base_copied.2 ∙ ap (λ (n : ℕ). drop n old) (sym width));
          },
          sym width,
          record {
            exact = λ key low high. has.exact key low high ∙ is.states key low (omega (arith, within, head, high));
            ascending = has.ascending;
            between = has.between;
          },
        )
