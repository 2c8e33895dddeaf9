-- The number of changes that some rows and page numbers are enough for.
use Rattle.std.specs.Prelude.{◌≡◌, ℕ, ◌-◌, ◌*◌, ◌/◌, ◌%◌, ◌≤◌}
use Rattle.blink_batch.specs.declared.Op.{Op}
use Rattle.blink_batch.specs.declared.Op.TheVariants.{Insert}
use Rattle.blink_page.specs.{ExceedsPageLimit}
use Rattle.blink_rows.specs.declared.allowance.Allowance.{Allowance}
use Rattle.blink_rows.specs.declared.limits.TheConstants.{MAX_ROWS_PER_INSERT}
use Rattle.blink_page.specs.declared.limits.TheConstants.{MAX_NEW_PAGES_PER_INSERT}
use Rattle.blink_rows.specs.declared.span.Span.{Span}

abbrev pub length_of : Span → ℕ
length_of span = span.stop - span.next

-- the number of insertions that these page numbers are enough for
abbrev pub inserts_left : Span → ℕ
inserts_left pages = length_of pages / MAX_NEW_PAGES_PER_INSERT

-- the number of deletions that these rows are enough for, beside those of the insertions
abbrev pub deletes_left : Span → Span → ℕ
deletes_left pages rows = length_of rows - MAX_ROWS_PER_INSERT * inserts_left pages

-- the number of changes left of an operation's kind: insertions for an insertion, deletions for a deletion of either kind, a
-- replacement or an exchange
abbrev pub changes_left : Op → Span → Span → ℕ
changes_left (Insert key pointer) pages rows = inserts_left pages
changes_left op pages rows = deletes_left pages rows

-- the page numbers make whole insertions, and the rows are enough for these
abbrev pub AreForChanges : Span → Span → Type 0
AreForChanges pages rows = (length_of pages % MAX_NEW_PAGES_PER_INSERT ≡ 0) × (MAX_ROWS_PER_INSERT * inserts_left pages ≤ length_of rows)

-- the allowed insertions may need more page numbers than there are
abbrev pub IsTooLarge : ℕ → Allowance → Type 0
IsTooLarge count allowance = ExceedsPageLimit count allowance.inserts
