-- The effect of an operation's step on the store and the latches that workers share.
use Rattle.std.specs.Prelude.{◌≡◌, ℕ, ◌+◌, ◌<◌, ◌≤◌, Option, Some, None, IsSome, List, length}
use Rattle.blink_page.specs.{IsPageNumber, PlainPage, least_above}
use Rattle.blink_page.specs.declared.limits.TheConstants.{LEVELS, MAX_PAGE}
use Rattle.blink_store.specs.{holder_of, HoldsNone, ChangesHolder, PlainStore, page_of, HasPage, WritesPage, SameFloorAndLevel}
use Rattle.blink_store.specs.declared.latches.TheConstants.{WORKERS}
use Rattle.blink_machine.specs.declared.machine.Need.{Need}
use Rattle.blink_machine.specs.declared.machine.Need.TheVariants.{ReadPrime, ReadPage, Latch, WriteNew, WritePage, WritePrime, Unlatch, End}
use Rattle.blink_machine.specs.declared.step.Kind.{Kind}
use Rattle.blink_machine.specs.declared.step.Step.{Step}
use Rattle.blink_machine.specs.declared.step.Step.TheVariants.{Moved, Waited, Idle}
use Rattle.blink_machine.specs.{read_page, read_prime, latch, unlatch, write_page, write_prime, PlainMachine, need_at, level_read, target, SeesPrime, WaitsForLevel, SeesPage, page_out, done, PrimeOut}

-- the store, and the page whose latch each worker holds
pub record PlainShared : Type 0 where
  pub store : PlainStore
  pub latches : List (Option ℕ)

-- a step for each need: its kind, and the operation, the store and the latches after it
abbrev pub ActsOn : Need → PlainShared → ℕ → PlainMachine → Step → PlainMachine → PlainShared → Type 0
ActsOn ReadPrime old worker m (Moved kind) after new = (kind ≡ read_prime) × SeesPrime m old.store.prime after × (new ≡ old)
ActsOn ReadPrime old worker m Waited after new = WaitsForLevel m old.store.prime × (after ≡ m) × (new ≡ old)
ActsOn ReadPrime old worker m Idle after new = ⊥
ActsOn (ReadPage number) old worker m (Moved kind) after new =
    (kind ≡ read_page number) × ((page : PlainPage) × (page_of old.store number ≡ Some page) × SeesPage m number page after) × (new ≡ old)
ActsOn (ReadPage number) old worker m Waited after new = ⊥
ActsOn (ReadPage number) old worker m Idle after new = ⊥
ActsOn (Latch number) old worker m (Moved kind) after new =
    (kind ≡ latch number) × (holder_of old.latches number ≡ None) × (after ≡ done m 0) × (new.store ≡ old.store) × ChangesHolder old.latches new.latches number (Some worker)
ActsOn (Latch number) old worker m Waited after new = IsSome (holder_of old.latches number) × (after ≡ m) × (new ≡ old)
ActsOn (Latch number) old worker m Idle after new = ⊥
ActsOn WriteNew old worker m (Moved kind) after new = WritesNewPage (length old.store.pages + 1) old m kind after new
  where
    WritesNewPage : ℕ → PlainShared → PlainMachine → Kind → PlainMachine → PlainShared → Type 0
    WritesNewPage number old m kind after new = (kind ≡ write_page number) × IsPageNumber number × (after ≡ done m number) × WritesPage old.store new.store number (page_out m number)
        × (length new.store.pages ≡ number) × (new.latches ≡ old.latches)
ActsOn WriteNew old worker m Waited after new = ⊥
ActsOn WriteNew old worker m Idle after new = ⊥
ActsOn (WritePage number) old worker m (Moved kind) after new =
    (kind ≡ write_page number) × (after ≡ done m 0) × WritesPage old.store new.store number (page_out m 0)
    × (length new.store.pages ≡ length old.store.pages) × (new.latches ≡ old.latches)
ActsOn (WritePage number) old worker m Waited after new = ⊥
ActsOn (WritePage number) old worker m Idle after new = ⊥
ActsOn WritePrime old worker m (Moved kind) after new =
    (kind ≡ write_prime) × (after ≡ done m 0) × PrimeOut m new.store.prime × (new.store ≡ record old.store { prime = new.store.prime }) × (new.latches ≡ old.latches)
ActsOn WritePrime old worker m Waited after new = ⊥
ActsOn WritePrime old worker m Idle after new = ⊥
ActsOn (Unlatch number) old worker m (Moved kind) after new =
    (kind ≡ unlatch number) × (after ≡ done m 0) × (new.store ≡ old.store) × ChangesHolder old.latches new.latches number None
ActsOn (Unlatch number) old worker m Waited after new = ⊥
ActsOn (Unlatch number) old worker m Idle after new = ⊥
ActsOn End old worker m step after new = ⊥

abbrev pub Acts : PlainShared → ℕ → PlainMachine → Step → PlainMachine → PlainShared → Type 0
Acts old worker m step after new = ActsOn (need_at m.state) old worker m step after new

-- a page that may replace page n
pub record MayReplace (store : PlainStore) (number : ℕ) (page : PlainPage) : Type 0 where
  pub exists : HasPage store number
  pub before : PlainPage
  pub there : page_of store number ≡ Some before
  pub same_floor_and_level : SameFloorAndLevel before page
  pub at_most_fan : length page.entries ≤ store.fan

-- the page that the operation reads is one that its state lets it read
pub record MayRead (store : PlainStore) (number : ℕ) (m : PlainMachine) : Type 0 where
  pub exists : HasPage store number
  pub page : PlainPage
  pub there : page_of store number ≡ Some page
  pub has_level : page.level ≡ level_read m
  pub floor_below : least_above page.floor ≤ target m

-- for each need, what a step requires of the store and the latches
abbrev pub CanActOn : Need → PlainShared → ℕ → PlainMachine → Type 0
CanActOn ReadPrime shared worker m = length shared.store.prime < LEVELS
CanActOn (ReadPage number) shared worker m = MayRead shared.store number m
CanActOn (Latch number) shared worker m = (worker < WORKERS) × HoldsNone shared.latches worker
CanActOn WriteNew shared worker m =
    (length shared.store.pages < MAX_PAGE) × (length (page_out m (length shared.store.pages + 1)).entries ≤ shared.store.fan)
CanActOn (WritePage number) shared worker m = MayReplace shared.store number (page_out m 0)
CanActOn WritePrime shared worker m = Unit {0}
CanActOn (Unlatch number) shared worker m = holder_of shared.latches number ≡ Some worker
CanActOn End shared worker m = ⊥

abbrev pub CanAct : PlainShared → ℕ → PlainMachine → Type 0
CanAct shared worker m = (m.fan ≡ shared.store.fan) × CanActOn (need_at m.state) shared worker m
