-- What the lemmas about trees say: how a tree is read, and what each kind of change makes of it. No operation is in them.
use Rattle.std.proofs.Common.{◌≡◌, ◌≢◌, ℕ, ◌+◌, ◌<◌, ◌≤◌, ◌⊎◌, Some, None, IsSome, is_some, List, [], ◌∷◌, ◌++◌, length, slice_get}
use Rattle.blink_page.specs.{value_at, child_for, added, removed, replaced, posted, IsFan, IsPageNumber, PlainPage, IsLawfulPage, IsKeyOf, entries_with, root_over, least_above, lower_half, upper_half, separator_of}
use Rattle.blink_page.specs.declared.limits.TheConstants.{GREATEST_KEY}
use Rattle.blink_rest.specs.{Pages, IsMember, entries_along, IsRoot, Reaches, IsAtRest, BeginsAt, IsHighKey}
use Rattle.blink_rest.specs.Chain.{Cell}
use Rattle.blink_machine.specs.TreeState.{WritesOne}
use Rattle.blink_machine.specs.Table.{IsTopLeftmost}
use Rattle.blink_machine.specs.Tree.{IsTree, BeginsBelow}
use Rattle.blink_machine.specs.TreeWithDebts.{Levels, IsInChain, IsDebt}

-- What a tree says to one who reads it.

-- a page of a chain is there, is lawful, and has the chain's level
pub record IsOfLevel (fan : ℕ) (pages : Pages) (level : ℕ) (c : Cell) : Type 0 where
  pub there : pages c.number ≡ Some c.page
  pub lawful : IsLawfulPage fan c.page
  pub has_level : c.page.level ≡ level

abbrev pub CellsAreOfLevel : Type 0
CellsAreOfLevel = (fan : ℕ) (prime : List ℕ) (pages : Pages) (levels : Levels) (level : ℕ) (c : Cell) → IsTree fan prime pages levels
    → IsMember c (levels level) → IsOfLevel fan pages level c

-- so a number stands in one chain, once
abbrev pub NumbersDiffer : Type 0
NumbersDiffer = (fan : ℕ) (prime : List ℕ) (pages : Pages) (levels : Levels) (level other : ℕ) (c d : Cell) → IsTree fan prime pages levels
    → IsMember c (levels level) → IsMember d (levels other) → c.number ≡ d.number → (c ≡ d) × (level ≡ other)

-- a level with pages is named
abbrev pub LevelsAreNamed : Type 0
LevelsAreNamed = (fan : ℕ) (prime : List ℕ) (pages : Pages) (levels : Levels) (level : ℕ) (c : Cell) → IsTree fan prime pages levels
    → IsMember c (levels level) → level < length prime

-- the leftmost page of a level has no floor
abbrev pub LeftmostBegins : Type 0
LeftmostBegins = (fan : ℕ) (prime : List ℕ) (pages : Pages) (levels : Levels) (level leftmost : ℕ) → IsTree fan prime pages levels
    → slice_get prime level ≡ Some leftmost → BeginsAt (levels level) leftmost None

-- where the level has one page, that is the leftmost
abbrev pub OnlyIsLeftmost : Type 0
OnlyIsLeftmost = (fan : ℕ) (prime : List ℕ) (pages : Pages) (levels : Levels) (level leftmost : ℕ) (c : Cell) → IsTree fan prime pages levels
    → slice_get prime level ≡ Some leftmost → IsMember c (levels level) → length (levels level) < 2 → c.number ≡ leftmost

-- the right link leads to the page that begins where this one ends
abbrev pub RightBegins : Type 0
RightBegins = (fan : ℕ) (prime : List ℕ) (pages : Pages) (levels : Levels) (level next : ℕ) (c : Cell) → IsTree fan prime pages levels
    → IsMember c (levels level) → c.page.right ≡ Some next → BeginsAt (levels level) next (Some c.page.high)

-- the child for a key begins below the key, and not before the page
pub record ChildBegins (levels : Levels) (level child key : ℕ) (page : PlainPage) : Type 0 where
  pub begins : BeginsBelow (levels level) child key
  pub not_before : least_above page.floor ≤ least_above begins.cell.page.floor

abbrev pub ChildrenBegin : Type 0
ChildrenBegin = (fan : ℕ) (prime : List ℕ) (pages : Pages) (levels : Levels) (level child key : ℕ) (c : Cell) → IsTree fan prime pages levels
    → IsMember c (levels (level + 1)) → IsKeyOf c.page key → child_for key c.page.entries ≡ Some child → ChildBegins levels level child key c.page

-- a key has in the whole level the value that it has in its page
abbrev pub LevelKeeps : Type 0
LevelKeeps = (fan : ℕ) (prime : List ℕ) (pages : Pages) (levels : Levels) (level key : ℕ) (c : Cell) → IsTree fan prime pages levels
    → IsMember c (levels level) → IsKeyOf c.page key → value_at key (entries_along (levels level)) ≡ value_at key c.page.entries

-- a separator of the level above is a high key of the level
abbrev pub SeparatorsAreHighKeys : Type 0
SeparatorsAreHighKeys = (fan : ℕ) (prime : List ℕ) (pages : Pages) (levels : Levels) (level key child : ℕ) → IsTree fan prime pages levels
    → value_at key (entries_along (levels (level + 1))) ≡ Some child → IsHighKey (levels level) key

-- a debt of the top level is left of its last page, so that level has two pages
abbrev pub TopDebtHasTwo : Type 0
TopDebtHasTwo = (fan : ℕ) (prime : List ℕ) (pages : Pages) (levels : Levels) (level key : ℕ) → IsTree fan prime pages levels
    → IsDebt levels level key → 2 ≤ length (levels level)

-- fewer than 21 levels are named, since each level has at least twice as many pages as the one above
abbrev pub FewLevels : Type 0
FewLevels = (fan : ℕ) (prime : List ℕ) (pages : Pages) (levels : Levels) → IsTree fan prime pages levels
    → ((number : ℕ) (page : PlainPage) → pages number ≡ Some page → IsPageNumber number) → length prime ≤ 20

-- each key has a leaf, which a search for it reaches, and has the value there that it has in the tree
pub record ReachesItsLeaf (prime : List ℕ) (pages : Pages) (levels : Levels) (key : ℕ) : Type 0 where
  pub root : ℕ
  pub is_root : IsRoot prime root
  pub cell : Cell
  pub stands : IsMember cell (levels 0)
  pub belongs : IsKeyOf cell.page key
  pub reached : Reaches pages root key cell.number

abbrev pub KeysAreReached : Type 0
KeysAreReached = (fan : ℕ) (prime : List ℕ) (pages : Pages) (levels : Levels) (key : ℕ) → IsTree fan prime pages levels → key ≤ GREATEST_KEY
    → ReachesItsLeaf prime pages levels key

-- a tree at rest is a tree without debts whose pages are all in chains, and whose top level has one page; and back
pub record IsQuiet (prime : List ℕ) (pages : Pages) (levels : Levels) : Type 0 where
  pub no_debt : (level key : ℕ) → ¬ IsDebt levels level key
  pub all_in_chains : (number : ℕ) (page : PlainPage) → pages number ≡ Some page → IsInChain levels number
  pub one_root : (level : ℕ) → length prime ≡ level + 1 → length (levels level) < 2

abbrev pub RestIsQuiet : Type 0
RestIsQuiet = (fan : ℕ) (prime : List ℕ) (pages : Pages) → 0 < length prime → IsAtRest fan prime pages
    → (levels : Levels) × IsTree fan prime pages levels × IsQuiet prime pages levels

abbrev pub QuietIsRest : Type 0
QuietIsRest = (fan : ℕ) (prime : List ℕ) (pages : Pages) (levels : Levels) → IsTree fan prime pages levels → IsQuiet prime pages levels
    → IsAtRest fan prime pages

-- What changes make of a tree.

-- every page of a chain stays in it, with its floor
abbrev pub Grows : Levels → Levels → Type 0
Grows levels new = (level : ℕ) (c : Cell) → IsMember c (levels level) → BeginsAt (new level) c.number c.page.floor

-- a page at a free number is in no chain, and changes none
abbrev pub FreeWriteKeeps : Type 0
FreeWriteKeeps = (fan : ℕ) (prime : List ℕ) (pages after : Pages) (levels : Levels) (number : ℕ) (page : PlainPage) → IsTree fan prime pages levels
    → pages number ≡ None → WritesOne pages after number page → IsTree fan prime after levels

-- the page stands as the old one did: same level, floor, high key and right link, and other entries
pub record Replaces (fan : ℕ) (old new : PlainPage) : Type 0 where
  pub lawful : IsLawfulPage fan new
  pub same_level : new.level ≡ old.level
  pub same_floor : new.floor ≡ old.floor
  pub same_high : new.high ≡ old.high
  pub same_right : new.right ≡ old.right

-- a page was written in its place
pub record IsReplaced (fan : ℕ) (prime : List ℕ) (after : Pages) (levels new : Levels) (level : ℕ) (c : Cell) (page : PlainPage) : Type 0 where
  pub tree : IsTree fan prime after new
  pub grows : Grows levels new
  pub others_stay : (other : ℕ) (d : Cell) → IsMember d (levels other) → d.number ≢ c.number → IsMember d (new other)
  pub stands : IsMember (record { number = c.number; page = page }) (new level)
  pub high_keys_kept : (other key : ℕ) → IsHighKey (levels other) key → IsHighKey (new other) key
  pub no_high_keys : (other key : ℕ) → IsHighKey (new other) key → IsHighKey (levels other) key
  pub none_linked : (number : ℕ) → IsInChain new number → IsInChain levels number
  pub same_lengths : (other : ℕ) → length (new other) ≡ length (levels other)

-- a leaf's entries change: nothing changes above, and in the level one entry was added
pub record LeafGains (fan : ℕ) (prime : List ℕ) (after : Pages) (levels : Levels) (c : Cell) (page : PlainPage) (entry : ℕ × ℕ) : Type 0 where
  pub new : Levels
  pub replaced : IsReplaced fan prime after levels new 0 c page
  pub same_above : (level : ℕ) → entries_along (new (level + 1)) ≡ entries_along (levels (level + 1))
  pub entries : entries_along (new 0) ≡ added entry (entries_along (levels 0))

abbrev pub LeafGainKeeps : Type 0
LeafGainKeeps = (fan : ℕ) (prime : List ℕ) (pages after : Pages) (levels : Levels) (c : Cell) (page : PlainPage) (entry : ℕ × ℕ) → IsTree fan prime pages levels
    → IsMember c (levels 0) → WritesOne pages after c.number page → Replaces fan c.page page → IsKeyOf c.page entry.0 → value_at entry.0 c.page.entries ≡ None
    → page.entries ≡ added entry c.page.entries → LeafGains fan prime after levels c page entry

-- or removed
pub record LeafLoses (fan : ℕ) (prime : List ℕ) (after : Pages) (levels : Levels) (c : Cell) (page : PlainPage) (key : ℕ) : Type 0 where
  pub new : Levels
  pub replaced : IsReplaced fan prime after levels new 0 c page
  pub same_above : (level : ℕ) → entries_along (new (level + 1)) ≡ entries_along (levels (level + 1))
  pub entries : entries_along (new 0) ≡ removed key (entries_along (levels 0))

abbrev pub LeafLossKeeps : Type 0
LeafLossKeeps = (fan : ℕ) (prime : List ℕ) (pages after : Pages) (levels : Levels) (c : Cell) (page : PlainPage) (key pointer : ℕ) → IsTree fan prime pages levels
    → IsMember c (levels 0) → WritesOne pages after c.number page → Replaces fan c.page page → IsKeyOf c.page key → value_at key c.page.entries ≡ Some pointer
    → page.entries ≡ removed key c.page.entries → LeafLoses fan prime after levels c page key

-- or its value was replaced
pub record LeafExchanges (fan : ℕ) (prime : List ℕ) (after : Pages) (levels : Levels) (c : Cell) (page : PlainPage) (entry : ℕ × ℕ) : Type 0 where
  pub new : Levels
  pub page_replaced : IsReplaced fan prime after levels new 0 c page
  pub same_above : (level : ℕ) → entries_along (new (level + 1)) ≡ entries_along (levels (level + 1))
  pub entries : entries_along (new 0) ≡ replaced entry (entries_along (levels 0))

abbrev pub LeafExchangeKeeps : Type 0
LeafExchangeKeeps = (fan : ℕ) (prime : List ℕ) (pages after : Pages) (levels : Levels) (c : Cell) (page : PlainPage) (entry : ℕ × ℕ) (pointer : ℕ) → IsTree fan prime pages levels
    → IsMember c (levels 0) → WritesOne pages after c.number page → Replaces fan c.page page → IsKeyOf c.page entry.0 → value_at entry.0 c.page.entries ≡ Some pointer
    → page.entries ≡ replaced entry c.page.entries → LeafExchanges fan prime after levels c page entry

-- the separators of the levels above level 0: as they were, and one more; the one after it leads to the new child now
pub record GainsSeparator (levels new : Levels) (level separator : ℕ) : Type 0 where
  pub is_there : IsSome (value_at separator (entries_along (new (level + 1))))
  pub others_same : (other key : ℕ) → key ≢ separator → is_some (value_at key (entries_along (new (other + 1)))) ≡ is_some (value_at key (entries_along (levels (other + 1))))
  pub levels_same : (other key : ℕ) → other ≢ level → value_at key (entries_along (new (other + 1))) ≡ value_at key (entries_along (levels (other + 1)))

-- a separator is posted to a page of level `level + 1`
pub record InnerGains (fan : ℕ) (prime : List ℕ) (after : Pages) (levels : Levels) (level : ℕ) (c : Cell) (page : PlainPage) (separator : ℕ) : Type 0 where
  pub new : Levels
  pub replaced : IsReplaced fan prime after levels new (level + 1) c page
  pub separators : GainsSeparator levels new level separator
  pub same_entries : entries_along (new 0) ≡ entries_along (levels 0)

-- what is posted leads to a page of the level below that begins at the separator
pub record LeadsBelow (levels : Levels) (level : ℕ) (entry : ℕ × ℕ) : Type 0 where
  pub is_high_key : IsHighKey (levels level) entry.0
  pub begins : BeginsAt (levels level) entry.1 (Some entry.0)

abbrev pub PostingKeeps : Type 0
PostingKeeps = (fan : ℕ) (prime : List ℕ) (pages after : Pages) (levels : Levels) (level : ℕ) (c : Cell) (page : PlainPage) (entry : ℕ × ℕ) → IsTree fan prime pages levels
    → IsMember c (levels (level + 1)) → WritesOne pages after c.number page → Replaces fan c.page page → IsKeyOf c.page entry.0 → value_at entry.0 c.page.entries ≡ None
    → page.entries ≡ posted entry c.page.entries → LeadsBelow levels level entry → InnerGains fan prime after levels level c page entry.0

-- a full page is split: the upper half stands at a number that was in no chain, and the lower half takes the page's place
pub record IsSplitIn (fan : ℕ) (prime : List ℕ) (after : Pages) (levels new : Levels) (level : ℕ) (c : Cell) (lower upper : PlainPage) (number separator : ℕ) : Type 0 where
  pub tree : IsTree fan prime after new
  pub grows : Grows levels new
  pub others_stay : (other : ℕ) (d : Cell) → IsMember d (levels other) → d.number ≢ c.number → IsMember d (new other)
  pub lower_stands : IsMember (record { number = c.number; page = lower }) (new level)
  pub upper_stands : IsMember (record { number = number; page = upper }) (new level)
  pub high_keys_kept : (other key : ℕ) → IsHighKey (levels other) key → IsHighKey (new other) key
  pub one_high_key : (other key : ℕ) → IsHighKey (new other) key → IsHighKey (levels other) key ⊎ ((other ≡ level) × (key ≡ separator))
  pub is_new : ¬ IsHighKey (levels level) separator
  pub below_greatest : separator < GREATEST_KEY
  pub above_floor : least_above c.page.floor ≤ separator
  pub chains_kept : (other : ℕ) → IsInChain levels other → IsInChain new other
  pub one_linked : (other : ℕ) → IsInChain new other → IsInChain levels other ⊎ (other ≡ number)
  pub one_more : length (new level) ≡ length (levels level) + 1
  pub others_same : (other : ℕ) → other ≢ level → new other ≡ levels other

-- what a split begins with: a full page that its entry belongs to, and the upper half already written
pub record CanBeSplit (fan : ℕ) (pages after : Pages) (levels : Levels) (level : ℕ) (c : Cell) (entry : ℕ × ℕ) (number : ℕ) : Type 0 where
  pub fan_in_range : IsFan fan
  pub stands : IsMember c (levels level)
  pub full : length c.page.entries ≡ fan
  pub belongs : IsKeyOf c.page entry.0
  pub absent : value_at entry.0 c.page.entries ≡ None
  pub value_in_range : entry.1 ≤ GREATEST_KEY
  pub new_number : IsPageNumber number
  pub not_in_chain : ¬ IsInChain levels number
  pub upper_there : pages number ≡ Some (upper_half fan c.page (entries_with c.page entry))
  pub writes : WritesOne pages after c.number (lower_half fan number c.page (entries_with c.page entry))

pub record LeafSplits (fan : ℕ) (prime : List ℕ) (after : Pages) (levels : Levels) (c : Cell) (entry : ℕ × ℕ) (number : ℕ) : Type 0 where
  pub new : Levels
  pub split : IsSplitIn fan prime after levels new 0 c (lower_half fan number c.page (entries_with c.page entry)) (upper_half fan c.page (entries_with c.page entry)) number (separator_of fan (entries_with c.page entry))
  pub entries : entries_along (new 0) ≡ added entry (entries_along (levels 0))

abbrev pub LeafSplitKeeps : Type 0
LeafSplitKeeps = (fan : ℕ) (prime : List ℕ) (pages after : Pages) (levels : Levels) (c : Cell) (entry : ℕ × ℕ) (number : ℕ) → IsTree fan prime pages levels
    → CanBeSplit fan pages after levels 0 c entry number → LeafSplits fan prime after levels c entry number

pub record InnerSplits (fan : ℕ) (prime : List ℕ) (after : Pages) (levels : Levels) (level : ℕ) (c : Cell) (entry : ℕ × ℕ) (number : ℕ) : Type 0 where
  pub new : Levels
  pub split : IsSplitIn fan prime after levels new (level + 1) c (lower_half fan number c.page (entries_with c.page entry)) (upper_half fan c.page (entries_with c.page entry)) number (separator_of fan (entries_with c.page entry))
  pub separators : GainsSeparator levels new level entry.0
  pub same_entries : entries_along (new 0) ≡ entries_along (levels 0)

abbrev pub InnerSplitKeeps : Type 0
InnerSplitKeeps = (fan : ℕ) (prime : List ℕ) (pages after : Pages) (levels : Levels) (level : ℕ) (c : Cell) (entry : ℕ × ℕ) (number : ℕ) → IsTree fan prime pages levels
    → CanBeSplit fan pages after levels (level + 1) c entry number → LeadsBelow levels level entry → IsPageNumber entry.1
    → InnerSplits fan prime after levels level c entry number

-- a new root is named over the two halves of the old one
pub record CanGrow (fan : ℕ) (prime : List ℕ) (pages : Pages) (levels : Levels) (level : ℕ) (c : Cell) (right root : ℕ) : Type 0 where
  pub fan_in_range : IsFan fan
  pub numbers_in_range : (number : ℕ) (page : PlainPage) → pages number ≡ Some page → IsPageNumber number
  pub is_top : IsTopLeftmost prime level c.number
  pub stands : IsMember c (levels level)
  pub begins : BeginsAt (levels level) right (Some c.page.high)
  pub below_greatest : c.page.high < GREATEST_KEY
  pub not_in_chain : ¬ IsInChain levels root
  pub root_there : pages root ≡ Some (root_over (level + 1) c.page.high c.number right)

pub record RootGrows (fan : ℕ) (prime : List ℕ) (pages : Pages) (levels : Levels) (level : ℕ) (c : Cell) (right root : ℕ) : Type 0 where
  pub new : Levels
  pub tree : IsTree fan (prime ++ root ∷ []) pages new
  pub same_below : (other : ℕ) → other ≢ level + 1 → new other ≡ levels other
  pub top_page : new (level + 1) ≡ record { number = root; page = root_over (level + 1) c.page.high c.number right } ∷ []
  pub none_before : levels (level + 1) ≡ []

abbrev pub GrowthKeeps : Type 0
GrowthKeeps = (fan : ℕ) (prime : List ℕ) (pages : Pages) (levels : Levels) (level : ℕ) (c : Cell) (right root : ℕ) → IsTree fan prime pages levels
    → CanGrow fan prime pages levels level c right root → RootGrows fan prime pages levels level c right root

-- all of them
pub record TreeLaws : Type 0 where
  pub cells_are_of_level : CellsAreOfLevel
  pub numbers_differ : NumbersDiffer
  pub levels_are_named : LevelsAreNamed
  pub leftmost_begins : LeftmostBegins
  pub only_is_leftmost : OnlyIsLeftmost
  pub right_begins : RightBegins
  pub children_begin : ChildrenBegin
  pub level_keeps : LevelKeeps
  pub separators_are_high_keys : SeparatorsAreHighKeys
  pub top_debt_has_two : TopDebtHasTwo
  pub few_levels : FewLevels
  pub keys_are_reached : KeysAreReached
  pub rest_is_quiet : RestIsQuiet
  pub quiet_is_rest : QuietIsRest
  pub free_write_keeps : FreeWriteKeeps
  pub leaf_gain_keeps : LeafGainKeeps
  pub leaf_loss_keeps : LeafLossKeeps
  pub leaf_exchange_keeps : LeafExchangeKeeps
  pub posting_keeps : PostingKeeps
  pub leaf_split_keeps : LeafSplitKeeps
  pub inner_split_keeps : InnerSplitKeeps
  pub growth_keeps : GrowthKeeps
