-- One operation that a single worker carries out on a store: the step that it needs, and what the step makes of the store.
use Rattle.std.specs.Prelude.{◌≡◌, ℕ, ◌+◌, ◌-◌, ◌<◌, [], ◌∷◌, ◌++◌, Some, length, slice_set, ⊤}
use Rattle.blink_page.specs.{IsPageNumber, PlainPage}
use Rattle.blink_page.specs.declared.limits.TheConstants.{LEVELS}
use Rattle.blink_store.specs.{PlainStore, page_of}
use Rattle.blink_machine.specs.declared.machine.Need.{Need}
use Rattle.blink_machine.specs.declared.machine.Need.TheVariants.{ReadPrime, ReadPage, Latch, WriteNew, WritePage, WritePrime, Unlatch, End}
use Rattle.blink_machine.specs.{IsReadable, PlainMachine, PrimeOut, SeesPage, SeesPrime, WaitsForLevel, done, page_out}

-- the operation sees this page of the store
pub record SeesOne (store : PlainStore) (m : PlainMachine) (number : ℕ) (after : PlainMachine) : Type 0 where
  pub page : PlainPage
  pub there : page_of store number ≡ Some page
  pub sees : SeesPage m number page after

-- a step for each need: the operation and the store after it; a worker alone needs no latch, so none is kept
abbrev pub ActsOn : Need → PlainStore → PlainMachine → PlainMachine → PlainStore → Type 0
ActsOn ReadPrime old m after new = SeesPrime m old.prime after × (new ≡ old)
ActsOn (ReadPage number) old m after new = SeesOne old m number after × (new ≡ old)
ActsOn (Latch number) old m after new = (after ≡ done m 0) × (new ≡ old)
ActsOn WriteNew old m after new =
    (after ≡ done m (length old.pages + 1)) × (new ≡ record old { pages = old.pages ++ page_out m (length old.pages + 1) ∷ [] })
ActsOn (WritePage number) old m after new =
    (after ≡ done m 0) × (new ≡ record old { pages = slice_set old.pages (number - 1) (page_out m 0) })
ActsOn WritePrime old m after new = (after ≡ done m 0) × PrimeOut m new.prime × (new ≡ record old { prime = new.prime })
ActsOn (Unlatch number) old m after new = (after ≡ done m 0) × (new ≡ old)
ActsOn End old m after new = ⊥

-- the page that the operation reads is there, and is one that it may be handed
pub record MayRead (store : PlainStore) (m : PlainMachine) (number : ℕ) : Type 0 where
  pub page : PlainPage
  pub there : page_of store number ≡ Some page
  pub readable : IsReadable m page

-- for each need, what its step asks of the store
abbrev pub CanActOn : Need → PlainStore → PlainMachine → Type 0
CanActOn ReadPrime store m = (length store.prime < LEVELS) × (¬ WaitsForLevel m store.prime)
CanActOn (ReadPage number) store m = MayRead store m number
CanActOn WriteNew store m = IsPageNumber (length store.pages + 1)
CanActOn (WritePage number) store m = (page : PlainPage) × (page_of store number ≡ Some page)
CanActOn End store m = ⊥
CanActOn need store m = ⊤
