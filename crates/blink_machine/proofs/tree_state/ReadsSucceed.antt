-- Where the invariant holds, exactly one machine comes of what an operation reads, or it waits for a level.
use Rattle.std.proofs.Common.{◌≡◌, ℕ, ◌+◌, ◌-◌, ◌<◌, ◌≤◌, ◌⊎◌, zero, suc, Option, Some, None, List, length, get_or, inl, inr, refl, ap, sym, ◌∙◌, subst, arith}
use Rattle.std.specs.Prelude.{slice_get}
use Rattle.std.proofs.lemmas.Bool.{cases_lt, cases_eq}
use Rattle.blink_operation.specs.{key_of, FitsWords}
use Rattle.blink_machine.specs.Owned.{debt_of, debt_at, debt_of_job}
use Rattle.blink_machine.proofs.operation.ExpectedPointers.{sees_other, sees_none}
use Rattle.blink_machine.proofs.operation.WhatJobsAreAbout.{brings_parent, some_value}
use Rattle.blink_machine.proofs.tree.PrimeAsList.{is_top_leftmost, last_or-at_end, not_top_leftmost}
use Rattle.blink_operation.specs.declared.Op.{Op}
use Rattle.blink_operation.specs.declared.Op.TheVariants.{Find, Insert, Delete, Replace, Exchange, DeleteExact}
use Rattle.blink_page.specs.{child_for, value_at, PlainPage, IsLawfulPage, least_above}
use Rattle.blink_page.specs.declared.limits.TheConstants.{GREATEST_KEY}
use Rattle.blink_page.proofs.Offered.{child_for-covers}
use Rattle.blink_machine.specs.declared.machine.Debt.{Debt}
use Rattle.blink_machine.specs.declared.machine.Job.{Job}
use Rattle.blink_machine.specs.declared.machine.Job.TheVariants.{Leaf, Parent}
use Rattle.blink_machine.specs.declared.machine.Need.TheVariants.{ReadPage, ReadPrime}
use Rattle.blink_machine.specs.declared.machine.State.{State}
use Rattle.blink_machine.specs.declared.machine.State.TheVariants.{Start, Going, Held, Posting, AskPrime}
use Rattle.blink_machine.specs.InOrder.{ReadsWell, ReadsPrimeWell}
use Rattle.blink_machine.specs.Machine.{PlainMachine, NeedsPage, NeedsPrime, target, level_read, level_read_at, need_at}
use Rattle.blink_machine.specs.TreeState.{TreeState, IsItsOperation}
use Rattle.blink_machine.specs.Placed.{MayChange, PlacedAt}
use Rattle.blink_machine.specs.Invariant.{Invariant, InvariantWith}
use Rattle.blink_machine.specs.Table.{SeesOnItsWay, goes_right, goes_down, find_answers, SeesUnderLatch, is_above_high_key, insertion_finds_key, deletion_finds_none, replacement_finds_none, posting_finds_separator, is_to_change, is_to_split, IsChange, SeesPage, on_its_way, under_latch, Brings, WaitsForLevel, IsTopLeftmost, SeesPrime, finds_leftmost, begins, asks_of_root, asks_of_other, update_wants}
use Rattle.blink_machine.specs.TreeWithDebts.{Levels}
use Rattle.blink_machine.proofs.operation.ReadPagesAreThere.{reads_are_good}
use Rattle.blink_machine.proofs.operation.OperationIsPlaced.{at_state, begun, its_own}
use Rattle.blink_machine.proofs.operation.ReadResults.{one_result_of_page, one_result_of_prime}
use Rattle.blink_machine.proofs.tree.TreeStatements.{TreeLaws}

-- something made of a page on the way down
abbrev MakesOnItsWay : PlainMachine → ℕ → PlainPage → Type 0
MakesOnItsWay m number page = (after : PlainMachine) × SeesOnItsWay m number page after

-- and of one under its latch
abbrev MakesUnderLatch : PlainMachine → ℕ → PlainPage → Type 0
MakesUnderLatch m number page = (after : PlainMachine) × SeesUnderLatch m number page after

-- a page whose high key is below the key has a right link
links_right : (fan key : ℕ) (page : PlainPage) → IsLawfulPage fan page → key ≤ GREATEST_KEY → page.high < key → (link : Option ℕ) → page.right ≡ link → (next : ℕ) × (page.right ≡ Some next)
links_right fan key page lawful fits above None none = absurd (let last = lawful.right_unless_last.0 (rw none refl) in omega arith)
links_right fan key page lawful fits above (Some next) some = (next, some)

module _ (m : PlainMachine) (number : ℕ) (page : PlainPage) (lawful : IsLawfulPage m.fan page) (floor_below : least_above page.floor ≤ target m) (fits : target m ≤ GREATEST_KEY) where
  -- at a leaf
  at_leaf : (level : ℕ) → m.state ≡ Going number level → target m ≤ page.high → page.level ≡ 0 → (op : Op) → m.op ≡ op → MakesOnItsWay m number page
  at_leaf level at below leaf (Find key) op = (_, find_answers level key at (below, leaf) op refl)
  at_leaf level at below leaf update op = (_, update_wants level at (below, leaf) (rw op tt) refl)

  -- at the key's place
  at_place : (level : ℕ) → m.state ≡ Going number level → page.level ≡ level → target m ≤ page.high → MakesOnItsWay m number page
  at_place zero at is below = at_leaf zero at below is m.op refl
  at_place (suc level) at is below =
      let inner = lawful.inner (omega arith) in
      let child = some_value (child_for (target m) page.entries) (child_for-covers (target m) (least_above page.floor) (page.high + 1) page.entries inner.last_is_high floor_below (omega arith)) in
      let here : m.state ≡ Going number (level + 1) = at ∙ ap (Going number) (omega arith) in
      (_, goes_down level child.0 here (below, omega arith, child.1) refl)

  -- a search goes on from every page
  pub makes_on_its_way : (level : ℕ) → m.state ≡ Going number level → page.level ≡ level → MakesOnItsWay m number page
  makes_on_its_way level at is = elim (cases_lt page.high (target m)) [
    | inl above ↦ (let next = links_right m.fan (target m) page lawful fits above page.right refl in (_, goes_right level next.0 at (above, next.1) refl))
    | inr below ↦ at_place level at is below
  ]

  module _ (below : target m ≤ page.high) where
    -- an operation that brings an entry changes the page or splits it
    gains_or_splits : Brings m.op m.job → value_at (target m) page.entries ≡ None → MakesUnderLatch m number page
    gains_or_splits brings absent = elim (cases_lt (length page.entries) m.fan) [
      | inl room ↦ (_, is_to_change _ None below (IsChange.gains brings absent room refl refl) refl)
      | inr none ↦ (_, is_to_split below (record { brings = brings; absent = absent; full = (let most = lawful.at_most_fan in omega arith) }) refl)
    ]

    -- a leaf operation, by what the leaf maps the key to
    on_leaf : m.job ≡ Leaf → (op : Op) → m.op ≡ op → MayChange op Leaf → (kept : Option ℕ) → value_at (target m) page.entries ≡ kept → MakesUnderLatch m number page
    on_leaf job (Find key) op may kept there = absurd may
    on_leaf job (Insert key pointer) op may (Some kept) there = (_, insertion_finds_key key pointer kept below job op (rw (job, op) at there) refl)
    on_leaf job (Insert key pointer) op may None there = gains_or_splits (rw (job, op) tt) there
    on_leaf job (Delete key) op may (Some kept) there = (_, is_to_change _ (Some kept) below (IsChange.loses key kept job (inl op) (rw (job, op) at there) refl refl) refl)
    on_leaf job (Delete key) op may None there = (_, deletion_finds_none key below job op (rw (job, op) at there) refl)
    on_leaf job (Replace key new) op may (Some kept) there = (_, is_to_change _ (Some kept) below (IsChange.swaps key new kept job (inl op) (rw (job, op) at there) refl refl) refl)
    on_leaf job (Replace key new) op may None there = (_, replacement_finds_none key new below job op (rw (job, op) at there) refl)
    on_leaf job (Exchange key expected new) op may (Some kept) there = elim (cases_eq kept expected) [
      | inl same ↦ (_, is_to_change _ (Some kept) below (IsChange.swaps key new kept job (inr (op ∙ ap (λ e. Exchange key e new) (sym same))) (rw (job, op) at there) refl refl) refl)
      | inr differs ↦ (_, sees_other m number page _ key expected below job (inl (new, op)) kept (rw (job, op) at there) differs refl)
    ]
    on_leaf job (Exchange key expected new) op may None there = (_, sees_none m number page _ key expected below job (inl (new, op)) (rw (job, op) at there) refl)
    on_leaf job (DeleteExact key expected) op may (Some kept) there = elim (cases_eq kept expected) [
      | inl same ↦ (_, is_to_change _ (Some kept) below (IsChange.loses key kept job (inr (op ∙ ap (DeleteExact key) (sym same))) (rw (job, op) at there) refl refl) refl)
      | inr differs ↦ (_, sees_other m number page _ key expected below job (inr op) kept (rw (job, op) at there) differs refl)
    ]
    on_leaf job (DeleteExact key expected) op may None there = (_, sees_none m number page _ key expected below job (inr op) (rw (job, op) at there) refl)

    -- a posting, by whether its separator is there
    on_inner : (debt : Debt) → m.job ≡ Parent debt → (kept : Option ℕ) → value_at (target m) page.entries ≡ kept → MakesUnderLatch m number page
    on_inner debt job (Some child) there = (_, posting_finds_separator debt child below job (rw job at there) refl)
    on_inner debt job None there = gains_or_splits (rw job (brings_parent m.op debt)) there

    -- either
    on_page : (job : Job) → m.job ≡ job → MayChange m.op job → MakesUnderLatch m number page
    on_page Leaf job may = on_leaf job m.op refl may (value_at (target m) page.entries) refl
    on_page (Parent debt) job may = on_inner debt job (value_at (target m) page.entries) refl

  -- under the latch something is made of every page
  pub makes_under_latch : MayChange m.op m.job → MakesUnderLatch m number page
  makes_under_latch may = elim (cases_lt page.high (target m)) [
    | inl above ↦ (let next = links_right m.fan (target m) page lawful fits above page.right refl in (_, is_above_high_key next.0 above next.1 refl))
    | inr below ↦ on_page below m.job refl may
  ]

-- ---- where the invariant holds

-- the key of an operation is at most the greatest
key_fits : (op : Op) → FitsWords op → key_of op ≤ GREATEST_KEY
key_fits (Find key) words = omega (arith, words)
key_fits (Delete key) words = omega (arith, words)
key_fits op words = omega (arith, words.0)

module _ (tree_state : TreeState) (levels : Levels) (invariant : InvariantWith tree_state levels) (worker : ℕ) (m : PlainMachine) (under : tree_state.machines worker ≡ Some m) where
  -- so is that of its job
  target_fits : (job : Job) → m.job ≡ job → ((debt : Debt) → job ≡ Parent debt → debt_of m ≡ Some debt) → target m ≤ GREATEST_KEY
  target_fits Leaf job owes = rw job (key_fits m.op (invariant.placed worker m under).words)
  target_fits (Parent debt) job owes =
      let below = (invariant.lawful.debts.is_debt worker m debt (under, owes debt refl)).0.below_greatest in
      rw job (omega arith)

  -- it makes something of a page that it may read, by its state
  result_at : (state : State) (number : ℕ) (page : PlainPage) → m.state ≡ state → PlacedAt tree_state levels m state → need_at state ≡ ReadPage number
      → IsLawfulPage m.fan page → page.level ≡ level_read m → least_above page.floor ≤ target m → (after : PlainMachine) × SeesPage m number page after
  result_at (Going here level) number page at placed needs lawful has_level floor_below =
      let same : here ≡ number = cc in
      let state : m.state ≡ Going number level = at ∙ ap (λ (n : ℕ). Going n level) same in
      let fits = target_fits m.job refl (λ debt job. absurd (let leaf = placed.0 in cc)) in
      let made = makes_on_its_way m number page lawful floor_below fits level state (has_level ∙ ap (λ (s : State). level_read_at s m.job) at) in
      (made.0, on_its_way made.1)
  result_at (Held here) number page at placed needs lawful has_level floor_below =
      let same : here ≡ number = cc in
      let fits = target_fits m.job refl (λ debt job. ap (debt_at m.job) at ∙ ap debt_of_job job) in
      let made = makes_under_latch m number page lawful floor_below fits placed.0.may_change in
      (made.0, under_latch (at ∙ ap Held same) made.1)
  result_at state number page at placed needs lawful has_level floor_below = absurd cc

-- a page that is to be read is there, and exactly one machine comes of it
pub page_is_read_well : TreeLaws → (tree_state : TreeState) (worker number : ℕ) (m : PlainMachine) → Invariant tree_state → IsItsOperation tree_state worker m → NeedsPage m number
    → ReadsWell tree_state m number
page_is_read_well laws tree_state worker number m invariant its needs =
    let under = its_own tree_state invariant.0 invariant.1 worker m its (begun m (λ same_need. cc)) in
    let reads = reads_are_good laws tree_state worker m number invariant its needs in
    let lawful : IsLawfulPage m.fan reads.page = subst (λ (fan : ℕ). IsLawfulPage fan reads.page) (sym (invariant.1.placed worker m under).same_fan) reads.lawful in
    let made = result_at tree_state invariant.0 invariant.1 worker m under m.state number reads.page refl
    (at_state tree_state invariant.0 invariant.1 worker m m.state under refl) needs lawful reads.has_level reads.floor_below in
    record {
      page = reads.page;
      there = reads.there;
      lawful = reads.lawful;
      readable = record { has_level = reads.has_level; floor_below = reads.floor_below; at_most_fan = lawful.at_most_fan };
      one_machine = record { after = made.0; sees = made.1; only = λ other sees. one_result_of_page m other made.0 number reads.page sees made.1 };
    }

-- something is made of the prime block, or the operation waits for a level
abbrev MakesOfPrime : PlainMachine → List ℕ → Type 0
MakesOfPrime m prime = WaitsForLevel m prime ⊎ ((after : PlainMachine) × SeesPrime m prime after)

-- whether the page is the leftmost of the top level can be told
top_or_not : (prime : List ℕ) (level page : ℕ) → IsTopLeftmost prime level page ⊎ (¬ IsTopLeftmost prime level page)
top_or_not prime level page = elim (cases_eq (length prime) (level + 1)) [
  | inl top ↦ elim (cases_eq (get_or prime level 0) page) [
    | inl same ↦ inl (is_top_leftmost prime level page top same)
    | inr other ↦ inr (not_top_leftmost prime level page other)
  ]
  | inr lower ↦ inr (λ is. lower is.top)
]

-- a level is named, or isn't
asks_for_level : (m : PlainMachine) (prime : List ℕ) (debt : Debt) → m.state ≡ Posting → m.job ≡ Parent debt → (found : Option ℕ) → slice_get prime (debt.level + 1) ≡ found → MakesOfPrime m prime
asks_for_level m prime debt at job None none = inl (record { debt = debt; posting = at; job = job; not_there = none })
asks_for_level m prime debt at job (Some leftmost) there = inr (_, finds_leftmost debt leftmost at job there refl)

-- by its state
prime_at : (m : PlainMachine) (prime : List ℕ) → 0 < length prime → (state : State) → m.state ≡ state → need_at state ≡ ReadPrime
    → (m.state ≡ Posting → (debt : Debt) × (m.job ≡ Parent debt)) → MakesOfPrime m prime
prime_at m prime some Start at needs posts = inr (_, begins (get_or prime (length prime - 1) 0) at (last_or-at_end prime some) refl)
prime_at m prime some (AskPrime page debt) at needs posts = elim (top_or_not prime debt.level page) [
  | inl top ↦ inr (_, asks_of_root page debt at top refl)
  | inr other ↦ inr (_, asks_of_other page debt at other refl)
]
prime_at m prime some Posting at needs posts = let its = posts at in asks_for_level m prime its.0 at its.1 (slice_get prime (its.0.level + 1)) refl
prime_at m prime some state at needs posts = absurd cc

-- nothing is made of it where the operation waits
waits_or_sees : (m : PlainMachine) (prime : List ℕ) (after : PlainMachine) → WaitsForLevel m prime → SeesPrime m prime after → ⊥
waits_or_sees m prime after waits (begins top at last is) = let posting = waits.posting in cc
waits_or_sees m prime after waits (asks_of_root page debt at top is) = let posting = waits.posting in cc
waits_or_sees m prime after waits (asks_of_other page debt at other is) = let posting = waits.posting in cc
waits_or_sees m prime after waits (finds_leftmost debt leftmost at job there is) =
    let none = waits.not_there in
    let posted = waits.job in
    let same : debt ≡ waits.debt = cc in
    let some : slice_get prime (waits.debt.level + 1) ≡ Some leftmost = ap (λ (d : Debt). slice_get prime (d.level + 1)) (sym same) ∙ there in
    cc

-- so it waits, or exactly one machine comes of it
prime_well : (m : PlainMachine) (prime : List ℕ) → MakesOfPrime m prime → ReadsPrimeWell m prime
prime_well m prime (inl waits) = ReadsPrimeWell.waits waits (λ after sees. waits_or_sees m prime after waits sees)
prime_well m prime (inr made) = ReadsPrimeWell.goes_on made.0 made.1 (λ other sees. one_result_of_prime m other made.0 prime sees made.1)
    (λ waits. waits_or_sees m prime made.0 waits made.1)

-- the prime block is read so
pub prime_is_read_well : (tree_state : TreeState) (worker : ℕ) (m : PlainMachine) → Invariant tree_state → IsItsOperation tree_state worker m → NeedsPrime m → ReadsPrimeWell m tree_state.prime
prime_is_read_well tree_state worker m invariant its needs =
    prime_well m tree_state.prime (prime_at m tree_state.prime invariant.1.lawful.tree.chains.some_level m.state refl needs (λ at.
    let under = its_own tree_state invariant.0 invariant.1 worker m its (λ start. cc) in
    let placed = at_state tree_state invariant.0 invariant.1 worker m Posting under at in
    (placed.2, placed.3)))
