-- A batch that one thread runs over an index, and why a run is refused.
use Rattle.std.specs.Prelude.{◌≡◌, ◌≢◌, ℕ, ◌+◌, ◌*◌, ◌<◌, ◌≤◌, Some, IsSome, List, [], length, map, All, ⊤}
use Rattle.std.specs.List.{count_by}
use Rattle.blink_batch.specs.declared.Op.{Op}
use Rattle.blink_batch.specs.declared.batch.TheConstants.{BATCH_LIMIT}
use Rattle.blink_batch.specs.{answers, is_insert, map_after_all}
use Rattle.blink_index.specs.{map_of}
use Rattle.blink_page.specs.{ExceedsPageLimit, IsBadFan}
use Rattle.blink_page.specs.declared.limits.TheConstants.{MAX_NEW_PAGES_PER_INSERT}
use Rattle.blink_store.specs.{PlainStore}
use Rattle.blink_steps.specs.{HasEnded, IsTooLarge, PlainWorld}
use Rattle.blink_handles.specs.declared.raw.RawAnswer.{RawAnswer}
use Rattle.blink_handles.specs.declared.raw.RawEntry.{RawEntry}
use Rattle.blink_handles.specs.declared.raw.RawOperation.{RawOperation}
use Rattle.blink_handles.specs.declared.refusal.Refusal.{Refusal}
use Rattle.blink_handles.specs.declared.refusal.Refusal.TheVariants.{TooMany, WrongLength, UnknownOperation, TooLarge, BadFan, OutOfMemory}
use Rattle.blink_handles.specs.Raw.{AreOperations, insertion_of, op_of, raw_answer}

-- the tree has at most so many pages more than before as these insertions may need
abbrev pub HasPagesFor : ℕ → PlainStore → PlainStore → Type 0
HasPagesFor inserts before after = length after.pages ≤ length before.pages + MAX_NEW_PAGES_PER_INSERT * inserts

-- a world at its end: its answers, and its tree's entries, are those of one thread that runs the operations in their order
pub record HasRunToEnd (before : PlainStore) (ops : List Op) (world : PlainWorld) : Type 0 where
  pub ended : HasEnded world.run
  pub one_each : length world.run.outcome.answers ≡ length ops
  pub same_answers : world.run.outcome.answers ≡ map Some (answers (map_of before) ops)
  pub same_map : map_of world.run.shared.store ≡ map_after_all (map_of before) ops
  pub same_fan : world.run.shared.store.fan ≡ before.fan
  pub few_pages : HasPagesFor (count_by is_insert ops) before world.run.shared.store

-- the caller's operations have run: each answer stands at its operation's place, and the index has the map that they leave
pub record HasRun (before : PlainStore) (raws : List RawOperation) (given : List RawAnswer) (after : PlainStore) : Type 0 where
  pub ops : List Op
  pub are_operations : AreOperations raws ops
  pub within_limit : length raws ≤ BATCH_LIMIT
  pub same_answers : given ≡ map raw_answer (answers (map_of before) ops)
  pub same_map : map_of after ≡ map_after_all (map_of before) ops
  pub same_fan : after.fan ≡ before.fan
  pub few_pages : HasPagesFor (count_by is_insert ops) before after

-- all kinds are known
abbrev pub AreKnown : List RawOperation → Type 0
AreKnown raws = All (λ raw. IsSome (op_of raw)) raws

-- the refusals of the caller's operations by themselves. They are looked for in this order, and each case repeats that the earlier
-- checks passed
abbrev pub IsBatchRefusal : List RawOperation → Refusal → Type 0
IsBatchRefusal raws TooMany = BATCH_LIMIT < length raws
IsBatchRefusal raws UnknownOperation = (length raws ≤ BATCH_LIMIT) × ¬ AreKnown raws
IsBatchRefusal raws OutOfMemory = (length raws ≤ BATCH_LIMIT) × AreKnown raws
IsBatchRefusal raws refusal = ⊥

-- the refusals of a run: first the number of places is looked at, then the operations by themselves, and then the index's size
abbrev pub IsRunRefusal : PlainStore → List RawOperation → ℕ → Refusal → Type 0
IsRunRefusal before raws places WrongLength = places ≢ length raws
IsRunRefusal before raws places TooLarge =
    (places ≡ length raws) × (length raws ≤ BATCH_LIMIT) × ((ops : List Op) × AreOperations raws ops × IsTooLarge before ops)
IsRunRefusal before raws places refusal = (places ≡ length raws) × IsBatchRefusal raws refusal

-- the refusals of a batch over an index
abbrev pub IsStartRefusal : PlainStore → List Op → Refusal → Type 0
IsStartRefusal before ops TooLarge = IsTooLarge before ops
IsStartRefusal before ops OutOfMemory = ⊤
IsStartRefusal before ops refusal = ⊥

-- the index of some entries, each inserted in its turn: of two with one key the first stays
abbrev pub HasEntriesOf : List RawEntry → PlainStore → Type 0
HasEntriesOf raws store = map_of store ≡ map_after_all [] (map insertion_of raws)

-- an index without an entry has one page, and gets at most so many as the insertions of the entries may need
abbrev pub HasPagesOf : List RawEntry → PlainStore → Type 0
HasPagesOf raws store = length store.pages ≤ 1 + MAX_NEW_PAGES_PER_INSERT * length raws

-- the refusals of making it, the fan's first; the entries are too many only if their insertions may need more page numbers than
-- exist
abbrev pub IsMakeRefusal : ℕ → List RawEntry → Refusal → Type 0
IsMakeRefusal fan raws BadFan = IsBadFan fan
IsMakeRefusal fan raws TooLarge = (¬ IsBadFan fan) × ExceedsPageLimit 1 (length raws)
IsMakeRefusal fan raws OutOfMemory = ¬ IsBadFan fan
IsMakeRefusal fan raws refusal = ⊥
