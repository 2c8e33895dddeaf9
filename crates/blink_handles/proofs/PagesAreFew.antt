-- An index that is made a part at a time has at most 22 pages for each of its entries.
use Rattle.std.proofs.Common.{◌≡◌, ℕ, ◌+◌, ◌*◌, ◌≤◌, List, [], ◌∷◌, cond, count_by, drop, length, map, take, ap, length-append, arith}
use Rattle.std.proofs.lemmas.List.{take-append-drop}
use Rattle.std.proofs.lemmas.List.Sums.{sum_by-cons}
use Rattle.blink_batch.specs.declared.Op.{Op}
use Rattle.blink_batch.specs.{is_insert}
use Rattle.blink_page.specs.{IsBadFan}
use Rattle.blink_store.specs.{PlainStore}
use Rattle.blink_handles.specs.declared.raw.RawEntry.{RawEntry}
use Rattle.blink_handles.specs.declared.refusal.Refusal.{Refusal}
use Rattle.blink_handles.specs.declared.refusal.Refusal.TheVariants.{TooMany, WrongLength, UnknownOperation, TooLarge, BadFan, OutOfMemory, Shared}
use Rattle.blink_handles.specs.Raw.{insertion_of}
use Rattle.blink_handles.specs.Runs.{HasPagesFor, IsMakeRefusal, IsStartRefusal}

-- all of these are insertions
pub all_insertions : (raws : List RawEntry) → count_by is_insert (map insertion_of raws) ≡ length raws
all_insertions [] = omega arith
all_insertions (raw ∷ raws) =
    let rest = all_insertions raws in
    let all = sum_by-cons (λ (o : Op). cond (is_insert o) 1 0) (insertion_of raw) (map insertion_of raws) in
    omega (arith, all, rest)

-- ---- an index that is made a part at a time

-- these pages, and those that the rest of the entries may need, are no more than all entries may need
abbrev pub HasRoomFor : List RawEntry → List RawEntry → PlainStore → Type 0
HasRoomFor all left store = length store.pages + 22 * length left ≤ 1 + 22 * length all

pub room_for_rest : (all left part rest : List RawEntry) (k : ℕ) (before after : PlainStore) → part ≡ take k left → rest ≡ drop k left → HasRoomFor all left before → HasPagesFor (length part) before after → HasRoomFor all rest after
room_for_rest all left part rest k before after is_part is_rest room few =
    let parts = ap length is_part in
    let others = ap length is_rest in
    let whole = ap (λ (raws : List RawEntry). length raws) (take-append-drop k left) in
    let sum = length-append (take k left) (drop k left) in
    omega (arith, parts, others, whole, sum, room, few)

-- a part is refused for its size only where all entries are too many
pub refused_of_all : (fan : ℕ) (all left part : List RawEntry) (k : ℕ) (before : PlainStore) → ¬ IsBadFan fan → part ≡ take k left → HasRoomFor all left before
    → (refusal : Refusal) → IsStartRefusal before (map insertion_of part) refusal → IsMakeRefusal fan all refusal
refused_of_all fan all left part k before good is_part room TooMany why = absurd why
refused_of_all fan all left part k before good is_part room WrongLength why = absurd why
refused_of_all fan all left part k before good is_part room UnknownOperation why = absurd why
refused_of_all fan all left part k before good is_part room TooLarge why =
    let inserts = all_insertions part in
    let parts = ap length is_part in
    let whole = ap (λ (raws : List RawEntry). length raws) (take-append-drop k left) in
    let sum = length-append (take k left) (drop k left) in
    (good, omega (arith, why, inserts, parts, whole, sum, room))
refused_of_all fan all left part k before good is_part room BadFan why = absurd why
refused_of_all fan all left part k before good is_part room OutOfMemory why = good
refused_of_all fan all left part k before good is_part room Shared why = absurd why
