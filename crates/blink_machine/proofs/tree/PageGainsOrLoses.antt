-- A page that gains or loses an entry, or gets another value in one, stands as it did.
use Rattle.std.proofs.Common.{◌≡◌, ℕ, ◌+◌, ◌<◌, ◌≤◌, None, length, refl, arith}
use Rattle.blink_operation.specs.declared.Op.{Op}
use Rattle.blink_operation.specs.declared.Op.TheVariants.{Find, Delete}
use Rattle.blink_operation.specs.{FitsWords, pointer_with}
use Rattle.blink_page.specs.{value_at, removed, replaced, IsPageNumber, PlainPage, IsLawfulPage, IsKeyOf, entries_with, with_entries}
use Rattle.blink_page.specs.declared.limits.TheConstants.{GREATEST_KEY}
use Rattle.blink_page.proofs.Offered.{lawful_entries_with, lawful_removed, lawful_replaced, lawful_with_room, length-entries_with}
use Rattle.blink_machine.proofs.tree.TreeStatements.{Replaces}

-- with room for one more
pub gain_replaces : (fan key value : ℕ) (p : PlainPage) → IsLawfulPage fan p → IsKeyOf p key → value_at key p.entries ≡ None → length p.entries < fan → value ≤ GREATEST_KEY
    → (0 < p.level → IsPageNumber value) → Replaces fan p (with_entries p (entries_with p (key, value)))
gain_replaces fan key value p lawful belongs absent room fits is_number = record {
  lawful = lawful_with_room (fan + 1) fan (with_entries p (entries_with p (key, value))) (lawful_entries_with fan p lawful key value belongs absent fits is_number)
      (omega (arith, length-entries_with fan p lawful key value belongs));
  same_level = refl;
  same_floor = refl;
  same_high = refl;
  same_right = refl;
}

-- with one less
pub loss_replaces : (fan key : ℕ) (p : PlainPage) → IsLawfulPage fan p → p.level ≡ 0 → Replaces fan p (with_entries p (removed key p.entries))
loss_replaces fan key p lawful leaf = record { lawful = lawful_removed fan p lawful key leaf; same_level = refl; same_floor = refl; same_high = refl; same_right = refl }

-- with another value
pub exchange_replaces : (fan key value : ℕ) (p : PlainPage) → IsLawfulPage fan p → p.level ≡ 0 → value ≤ GREATEST_KEY → Replaces fan p (with_entries p (replaced (key, value) p.entries))
exchange_replaces fan key value p lawful leaf fits = record { lawful = lawful_replaced fan p lawful key value leaf fits; same_level = refl; same_floor = refl; same_high = refl; same_right = refl }

-- the pointer of an operation is a number of 64 bits
pub pointer_fits : (op : Op) → FitsWords op → pointer_with op ≤ GREATEST_KEY
pointer_fits (Find key) words = omega arith
pointer_fits (Delete key) words = omega arith
pointer_fits op words = let below = words.1 in omega arith
