-- What an operation makes of its leaf, of which it knows how many entries it has, and what it has for the key.
use Rattle.std.proofs.Common.{◌≡◌, ◌≢◌, ℕ, ◌^◌, ◌<◌, ◌≤◌, Option, Some, None, length, refl, sym, ap, ◌∙◌, subst, arith}
use Rattle.std.specs.Prelude.{IsSome}
use Rattle.blink_batch.specs.{answer_at, key_of}
use Rattle.blink_batch.specs.declared.Op.{Op}
use Rattle.blink_batch.specs.declared.Op.TheVariants.{Delete, Insert, Replace}
use Rattle.blink_page.specs.{IsFan, IsKeyOf, PlainPage, added, entries_with, least_above, removed, replaced, value_at, with_entries}
use Rattle.blink_page.specs.declared.limits.TheConstants.{MAX_FAN}
use Rattle.blink_page.proofs.Offered.{entries_with-leaf}
use Rattle.blink_machine.specs.declared.machine.Job.{Job}
use Rattle.blink_machine.specs.declared.machine.Job.TheVariants.{Leaf}
use Rattle.blink_machine.specs.declared.machine.Next.TheVariants.{Finish}
use Rattle.blink_machine.specs.declared.machine.State.TheVariants.{Change, Leave, SplitNew}
use Rattle.blink_machine.specs.{Expects, PlainMachine, SeesUnderLatch, key_of_job, target}
use Rattle.blink_machine.specs.Machine.{entry_of, value_of_job}
use Rattle.blink_machine.specs.Table.{Brings, IsChange, IsFullFor, Removes, Swaps}
use Rattle.blink_live.specs.declared.descent.Edit.TheVariants.{Answers, Whole, Write}
use Rattle.blink_live.specs.declared.descent.Spot.{Spot}
use Rattle.blink_rows.specs.{Fits}
use Rattle.blink_live.specs.Straight.{IsEditOf, IsSpot, addition_of, exchange_of, removal_of}

-- ---- each operation

-- the key of an operation on its leaf
its_target : (m : PlainMachine) (op : Op) → m.op ≡ op → m.job ≡ Leaf → key_of op ≡ target m
its_target m op same_op leaf = sym ((λ i. key_of_job (same_op i) (leaf i)))

pub removes : (op : Op) (fan key kept : ℕ) (spot : Spot) → key_of op ≡ key → Removes op key kept → spot.kept ≡ Some kept → IsEditOf op fan spot (Write spot (removal_of key))
removes op fan key kept spot its_key how found m number page same_op same_fan leaf readable level lawful at =
    let at_key : IsSpot key page spot = subst (λ (k : ℕ). IsSpot k page spot) its_key at in
    let there : value_at key page.entries ≡ Some kept = sym at_key.kept ∙ found in
    let next : PlainPage = with_entries page (removed key page.entries) in
    let after : PlainMachine = record m { state = Change number next spot.kept } in
    let below : target m ≤ page.high = subst (λ (k : ℕ). k ≤ page.high) (its_target m op same_op leaf) at.below in
    let change : IsChange m page next spot.kept = IsChange.loses key kept leaf (subst (λ (o : Op). Removes o key kept) (sym same_op) how) there found refl in
    let has : IsSome (value_at key page.entries) = subst IsSome (sym there) refl in
    (after, (refl, record { leaf = level; pointer_in_range = omega arith; finds = has }, refl), SeesUnderLatch.is_to_change next spot.kept below change refl)

pub swaps : (op : Op) (fan key new kept : ℕ) (spot : Spot) → new < 2 ^ 64 → key_of op ≡ key → Swaps op key new kept → spot.kept ≡ Some kept → IsEditOf op fan spot (Write spot (exchange_of key new))
swaps op fan key new kept spot small its_key how found m number page same_op same_fan leaf readable level lawful at =
    let at_key : IsSpot key page spot = subst (λ (k : ℕ). IsSpot k page spot) its_key at in
    let there : value_at key page.entries ≡ Some kept = sym at_key.kept ∙ found in
    let next : PlainPage = with_entries page (replaced (key, new) page.entries) in
    let after : PlainMachine = record m { state = Change number next spot.kept } in
    let below : target m ≤ page.high = subst (λ (k : ℕ). k ≤ page.high) (its_target m op same_op leaf) at.below in
    let change : IsChange m page next spot.kept = IsChange.swaps key new kept leaf (subst (λ (o : Op). Swaps o key new kept) (sym same_op) how) there found refl in
    let has : IsSome (value_at key page.entries) = subst IsSome (sym there) refl in
    (after, (refl, record { leaf = level; pointer_in_range = omega (arith, small); finds = has }, refl), SeesUnderLatch.is_to_change next spot.kept below change refl)

-- ---- an insertion

its_entry : (m : PlainMachine) (key pointer : ℕ) → m.op ≡ Insert key pointer → m.job ≡ Leaf → entry_of m ≡ (key, pointer)
its_entry m key pointer same_op leaf = λ i. (key_of_job (same_op i) (leaf i), value_of_job (same_op i) (leaf i))

it_brings : (m : PlainMachine) (key pointer : ℕ) → m.op ≡ Insert key pointer → m.job ≡ Leaf → Brings m.op m.job
it_brings m key pointer same_op leaf = subst (λ (x : Op × Job). Brings x.0 x.1) (λ i. (sym same_op i, sym leaf i)) tt

pub adds : (fan key pointer : ℕ) (spot : Spot) → pointer < 2 ^ 64 → IsFan fan → spot.kept ≡ None → spot.count < fan → IsEditOf (Insert key pointer) fan spot (Write spot (addition_of key pointer))
adds fan key pointer spot small is_fan none room m number page same_op same_fan leaf readable level lawful at =
    let count = at.count in
    let fans = is_fan.1 in
    let fewer : length page.entries < fan = omega (arith, count, room) in
    let next : PlainPage = with_entries page (added (key, pointer) page.entries) in
    let after : PlainMachine = record m { state = Change number next spot.kept } in
    let target_is : key ≡ target m = its_target m (Insert key pointer) same_op leaf in
    let below : target m ≤ page.high = subst (λ (k : ℕ). k ≤ page.high) target_is at.below in
    let absent : value_at (target m) page.entries ≡ None = subst (λ (k : ℕ). value_at k page.entries ≡ None) target_is (sym at.kept ∙ none) in
    let change : IsChange m page next spot.kept = IsChange.gains (it_brings m key pointer same_op leaf) absent (omega (arith, fewer, same_fan)) none
    (ap (with_entries page) (sym (entries_with-leaf page (key, pointer) level)) ∙ ap (λ (e : ℕ × ℕ). with_entries page (entries_with page e)) (sym (its_entry m key pointer same_op leaf))) in
    let floor = readable.floor_below in
    let belongs : IsKeyOf page key = (subst (λ (k : ℕ). least_above page.floor ≤ k) (sym target_is) floor, at.below) in
    let fits : Fits MAX_FAN page (addition_of key pointer) = record { leaf = level; pointer_in_range = omega (arith, small); finds = (belongs, sym at.kept ∙ none, omega (arith, fewer, fans)) } in
    (after, (refl, fits, refl), SeesUnderLatch.is_to_change next spot.kept below change refl)

pub splits : (fan key pointer : ℕ) (spot : Spot) → spot.kept ≡ None → fan ≤ spot.count → IsEditOf (Insert key pointer) fan spot (Whole spot.word)
splits fan key pointer spot none no_room m number page same_op same_fan leaf readable level lawful at =
    let count = at.count in
    let most = readable.at_most_fan in
    let after : PlainMachine = record m { state = SplitNew number page } in
    let target_is : key ≡ target m = its_target m (Insert key pointer) same_op leaf in
    let below : target m ≤ page.high = subst (λ (k : ℕ). k ≤ page.high) target_is at.below in
    let absent : value_at (target m) page.entries ≡ None = subst (λ (k : ℕ). value_at k page.entries ≡ None) target_is (sym at.kept ∙ none) in
    let full : IsFullFor m page = record { brings = it_brings m key pointer same_op leaf; absent = absent; full = omega (arith, count, most, no_room, same_fan) } in
    (after, (refl, refl), SeesUnderLatch.is_to_split below full refl)

pub finds_key : (fan key pointer kept : ℕ) (spot : Spot) → spot.kept ≡ Some kept → IsEditOf (Insert key pointer) fan spot (Answers spot.kept)
finds_key fan key pointer kept spot found m number page same_op same_fan leaf readable level lawful at =
    let after : PlainMachine = record m { state = Leave number Finish; answer = Some (answer_at m.op spot.kept) } in
    let below : target m ≤ page.high = subst (λ (k : ℕ). k ≤ page.high) (its_target m (Insert key pointer) same_op leaf) at.below in (
      after,
      refl,
      SeesUnderLatch.insertion_finds_key key pointer kept below leaf same_op (sym at.kept ∙ found)
          (λ i. record m { state = Leave number Finish; answer = Some (answer_at (same_op i) (found i)) }),
    )

-- ---- no change

pub deletes_none : (fan key : ℕ) (spot : Spot) → spot.kept ≡ None → IsEditOf (Delete key) fan spot (Answers None)
deletes_none fan key spot none m number page same_op same_fan leaf readable level lawful at =
    let after : PlainMachine = record m { state = Leave number Finish; answer = Some (answer_at m.op None) } in
    let below : target m ≤ page.high = subst (λ (k : ℕ). k ≤ page.high) (its_target m (Delete key) same_op leaf) at.below in (
      after,
      refl,
      SeesUnderLatch.deletion_finds_none key below leaf same_op (sym at.kept ∙ none)
          (λ i. record m { state = Leave number Finish; answer = Some (answer_at (same_op i) None) }),
    )

pub replaces_none : (fan key pointer : ℕ) (spot : Spot) → spot.kept ≡ None → IsEditOf (Replace key pointer) fan spot (Answers None)
replaces_none fan key pointer spot none m number page same_op same_fan leaf readable level lawful at =
    let after : PlainMachine = record m { state = Leave number Finish; answer = Some (answer_at m.op None) } in
    let below : target m ≤ page.high = subst (λ (k : ℕ). k ≤ page.high) (its_target m (Replace key pointer) same_op leaf) at.below in (
      after,
      refl,
      SeesUnderLatch.replacement_finds_none key pointer below leaf same_op (sym at.kept ∙ none)
          (λ i. record m { state = Leave number Finish; answer = Some (answer_at (same_op i) None) }),
    )

pub finds_other : (op : Op) (fan key expected : ℕ) (kept : Option ℕ) (spot : Spot) → key_of op ≡ key → Expects op key expected → spot.kept ≡ kept → kept ≢ Some expected → IsEditOf op fan spot (Answers kept)
finds_other op fan key expected kept spot its_key how is differs m number page same_op same_fan leaf readable level lawful at =
    let at_key : IsSpot key page spot = subst (λ (k : ℕ). IsSpot k page spot) its_key at in
    let value : kept ≡ value_at key page.entries = sym is ∙ at_key.kept in
    let after : PlainMachine = record m { state = Leave number Finish; answer = Some (answer_at m.op kept) } in
    let below : target m ≤ page.high = subst (λ (k : ℕ). k ≤ page.high) (its_target m op same_op leaf) at.below in (
      after,
      refl,
      SeesUnderLatch.finds_other_pointer key expected below leaf (subst (λ (o : Op). Expects o key expected) (sym same_op) how) (λ same. differs (value ∙ same))
          (λ i. record m { state = Leave number Finish; answer = Some (answer_at m.op (value i)) }),
    )
