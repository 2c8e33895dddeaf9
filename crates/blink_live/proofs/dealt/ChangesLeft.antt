-- The first rows and page numbers of a keeper are enough for a pass's changes, and the rest for the changes that are left.
use Rattle.std.proofs.Common.{◌≡◌, ◌≢◌, ℕ, ◌+◌, ◌-◌, ◌*◌, ◌≤◌, sym, subst, arith}
use Rattle.blink_batch.specs.declared.Op.{Op}
use Rattle.blink_batch.specs.declared.Op.TheVariants.{Find, Insert, Delete}
use Rattle.blink_batch.specs.{key_of}
use Rattle.blink_machine.specs.{IsUpdate}
use Rattle.blink_page.specs.declared.limits.TheConstants.{MAX_NEW_PAGES_PER_INSERT}
use Rattle.blink_rows.specs.declared.limits.TheConstants.{MAX_ROWS_PER_INSERT}
use Rattle.blink_rows.specs.declared.span.Span.{Span}
use Rattle.blink_live.specs.Allowed.{inserts_left, deletes_left, changes_left, AreForChanges}
use Rattle.blink_live.specs.Deals.{rows_for}
use Rattle.blink_live.specs.Views.{span, rows_of, pages_of}

-- what is dealt is for changes
pub dealt_for_changes : (page row inserts deletes : ℕ) → AreForChanges (span page (page + MAX_NEW_PAGES_PER_INSERT * inserts)) (span row (row + rows_for inserts deletes))
dealt_for_changes page row inserts deletes =
    let same : page + 22 * inserts - page ≡ 22 * inserts = omega arith in
    (omega (arith, same), omega (arith, same))

-- and so is what is opened
pub record AreFirst (pages rows : Span) : Type 0 where
  pub in_order : (rows.next ≤ rows.stop) × (pages.next ≤ pages.stop)
  pub for_changes : AreForChanges pages rows

pub opened_for_changes : (count inserts deletes : ℕ) (pages rows : Span) → pages ≡ span (count + 1) (1 + count + MAX_NEW_PAGES_PER_INSERT * inserts) → rows ≡ span (count + 2) (1 + count + MAX_ROWS_PER_INSERT * inserts + deletes + 1)
    → AreFirst pages rows
opened_for_changes count inserts deletes pages rows pages_are rows_are =
    let same : 1 + count + 22 * inserts - (count + 1) ≡ 22 * inserts = omega arith in
    subst (λ (s : Span × Span). AreFirst s.0 s.1) (λ i. (sym pages_are i, sym rows_are i)) record {
      in_order = (omega arith, omega arith);
      for_changes = (omega (arith, same), omega (arith, same));
    }

module _ (pages rows : Span) (inserts deletes : ℕ) (changes : AreForChanges pages rows) (enough_inserts : inserts ≤ inserts_left pages) (enough_deletes : deletes ≤ deletes_left pages rows) where
  pub enough_pages : pages.next ≤ pages.stop → pages.next + MAX_NEW_PAGES_PER_INSERT * inserts ≤ pages.stop
  enough_pages order = omega (arith, order, changes.0, enough_inserts)

  pub enough_rows : rows.next ≤ rows.stop → rows.next + rows_for inserts deletes ≤ rows.stop
  enough_rows order = omega (arith, order, changes.0, changes.1, enough_inserts, enough_deletes)

  -- and so is the rest
  pub rest_for_changes : AreForChanges (span (pages.next + MAX_NEW_PAGES_PER_INSERT * inserts) pages.stop) (span (rows.next + rows_for inserts deletes) rows.stop)
  rest_for_changes = (omega (arith, changes.0, enough_inserts), omega (arith, changes.0, changes.1, enough_inserts, enough_deletes))

-- an operation takes so many of these, and leaves what is for changes
pub record TakesSome (op : Op) (pages rows : Span) : Type 0 where
  pub enough_rows : rows.next + rows_of op ≤ rows.stop
  pub enough_pages : pages.next + pages_of op ≤ pages.stop
  pub some_row : 1 ≤ rows.stop
  pub rest : AreForChanges (span (pages.next + pages_of op) pages.stop) (span (rows.next + rows_of op) rows.stop)

module _ (pages rows : Span) (changes : AreForChanges pages rows) (order : (rows.next ≤ rows.stop) × (pages.next ≤ pages.stop)) where
  an_insertion : (key pointer : ℕ) → inserts_left pages ≢ 0 → TakesSome (Insert key pointer) pages rows
  an_insertion key pointer some =
      let whole = changes.0 in
      let enough = changes.1 in
      let least : 1 ≤ inserts_left pages = omega (arith, some) in record {
        enough_rows = omega (arith, order, whole, enough, least);
        enough_pages = omega (arith, order, whole, least);
        some_row = omega (arith, order, whole, enough, least);
        rest = (omega (arith, whole, least), omega (arith, whole, enough, least));
      }

  a_deletion : (key : ℕ) → deletes_left pages rows ≢ 0 → TakesSome (Delete key) pages rows
  a_deletion key some =
      let whole = changes.0 in
      let enough = changes.1 in record {
        enough_rows = omega (arith, order, some);
        enough_pages = omega (arith, order);
        some_row = omega (arith, some);
        rest = (omega (arith, whole), omega (arith, whole, enough, some));
      }

  -- where such a change is left
  pub takes_some : (op : Op) → IsUpdate op → changes_left op pages rows ≢ 0 → TakesSome op pages rows
  takes_some (Find key) updates some = absurd updates
  takes_some (Insert key pointer) updates some = an_insertion key pointer some
  takes_some op updates some =
      let as_deletion = a_deletion (key_of op) some in record { enough_rows = as_deletion.enough_rows; enough_pages = as_deletion.enough_pages; some_row = as_deletion.some_row; rest = as_deletion.rest }
