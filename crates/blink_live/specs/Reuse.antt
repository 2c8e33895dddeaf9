-- How a row comes back in a common table: a session takes it out of a page word, waits until no seat can still read it, and may write
-- it again.
use Rattle.std.specs.Prelude.{◌≡◌, ◌≢◌, ◌⊎◌, ℕ, suc, ◌+◌, ◌<◌, ◌≤◌, Some, List, [], ◌∷◌, length, Contains, slice_index}
use mathlib.Core.Option.{some}
use lib.ListN.{get_elem?}
use Rattle.blink_rows.specs.{PlainCounts, row_in}
use Rattle.blink_rows.specs.declared.span.Span.{Span}
use Rattle.blink_live.specs.declared.view.Aside.{Aside}
use Rattle.blink_live.specs.declared.view.Look.{Look}
use Rattle.blink_live.specs.declared.view.Plan.{Plan}
use Rattle.blink_live.specs.declared.view.Role.TheVariants.{Pass}
use Rattle.blink_live.specs.declared.view.Stock.{Stock}
use Rattle.blink_live.specs.declared.view.View.{View}
use Rattle.blink_live.specs.Words.{IsRowNumber, named_row}

-- no two page words name one row; the first is the prime block's
abbrev pub AreNamedOnce : PlainCounts → List ℕ → Type 0
AreNamedOnce counts words = (one other : ℕ) → one < counts.numbers → other < counts.numbers → 1 ≤ named_row words one → named_row words one ≡ named_row words other → one ≡ other

-- the row was taken out by this seat: nobody stores to it, and no page word names it. `claim` says who took out which row: 0 stands
-- for nobody, and else a seat's number plus 1
pub record IsTakenOut (plan : Plan) (whose : ℕ → ℕ) (words : List ℕ) (claim : ℕ → ℕ) (seat row : ℕ) : Type 0 where
  pub in_range : IsRowNumber plan.counts row
  pub unowned : whose row ≡ 0
  pub claimed : claim row ≡ suc seat
  pub not_named : (number : ℕ) → number < plan.counts.numbers → named_row words number ≢ row

-- the list has no row twice
abbrev pub HasEachOnce : List ℕ → Type 0
HasEachOnce [] = Unit {0}
HasEachOnce (row ∷ rest) = (¬ Contains rest row) × HasEachOnce rest

-- the lists have no row in common
abbrev pub HaveNoneInCommon : List ℕ → List ℕ → Type 0
HaveNoneInCommon xs ys = (row : ℕ) → Contains xs row → ¬ Contains ys row

-- a stock has each of its rows once
pub record HasRowsOnce (stock : Stock) : Type 0 where
  pub free : HasEachOnce stock.free
  pub retired : HasEachOnce stock.retired
  pub waiting : HasEachOnce stock.waiting
  pub free_retired : HaveNoneInCommon stock.free stock.retired
  pub free_waiting : HaveNoneInCommon stock.free stock.waiting
  pub retired_waiting : HaveNoneInCommon stock.retired stock.waiting

-- the row is one of a span's
abbrev pub IsWithin : Span → ℕ → Type 0
IsWithin rows row = (rows.next ≤ row) × (row < rows.stop)

-- the row is one of those that the seat or its call may use next
abbrev pub IsAtHand : View → ℕ → Type 0
IsAtHand v row = IsWithin v.rows row ⊎ IsWithin v.call.rows row

abbrev pub IsAside : Aside → ℕ → Type 0
IsAside aside row = IsWithin aside.rows row ⊎ IsWithin aside.call row

-- what a session has set aside is its own still, and not at hand
pub record HasAside (plan : Plan) (whose : ℕ → ℕ) (seat : ℕ) (v : View) : Type 0 where
  pub in_range : (1 ≤ v.stock.aside.rows.next) × (v.stock.aside.rows.stop ≤ plan.counts.rows + 1) × (v.stock.aside.call.stop ≤ plan.counts.rows + 1)
  pub in_order : v.stock.aside.call.stop ≤ v.stock.aside.rows.next
  pub sessions : (row : ℕ) → IsAside v.stock.aside row → 1 ≤ seat
  pub some_row : (row : ℕ) → IsAside v.stock.aside row → 1 ≤ row
  pub own : (row : ℕ) → IsAside v.stock.aside row → whose row ≡ suc seat
  pub apart : (row : ℕ) → IsAside v.stock.aside row → ¬ IsAtHand v row

-- a page word that was noted for a snapshot names the row
abbrev pub HasNoted : Look → ℕ → Type 0
HasNoted look row = (number : ℕ) × (word : ℕ) × Contains look.leaves (number, word) × (row_in word ≡ row)

-- the seat reads the row, or has noted it for a snapshot
abbrev pub HoldsRow : View → ℕ → List ℕ → Type 0
HoldsRow v row content = (v.reads ≡ Some (row, content)) ⊎ HasNoted v.look row

-- what a seat may say of its stock; and while it holds a row, it is a session whose mark says so
pub record HasStock (plan : Plan) (whose : ℕ → ℕ) (words : List ℕ) (claim : ℕ → ℕ) (seat : ℕ) (v : View) : Type 0 where
  pub awake : (row : ℕ) (content : List ℕ) → HoldsRow v row content → (v.role ≡ Pass) × (2 ≤ v.busy)
  pub once : HasRowsOnce v.stock
  pub free : (row : ℕ) → Contains v.stock.free row → IsTakenOut plan whose words claim seat row
  pub retired : (row : ℕ) → Contains v.stock.retired row → IsTakenOut plan whose words claim seat row
  pub waiting : (row : ℕ) → Contains v.stock.waiting row → IsTakenOut plan whose words claim seat row
  pub aside : HasAside plan whose seat v

-- the session's place is behind those that were found past, and its mark is still the one that was found there
pub record IsNotPast (stock : Stock) (u : View) : Type 0 where
  pub later : stock.passed ≤ u.place
  pub same : u.place < length stock.before → u.busy ≡ slice_index stock.before u.place

-- nobody reads a free row, and whoever reads a waiting one isn't past
pub record IsReadBesides (stock : Stock) (u : View) (row : ℕ) : Type 0 where
  pub not_free : ¬ Contains stock.free row
  pub not_past : Contains stock.waiting row → IsNotPast stock u

-- what a seat reads agrees with a stock
abbrev pub AgreesWith : Stock → View → Type 0
AgreesWith stock u = (row : ℕ) (content : List ℕ) → HoldsRow u row content → IsReadBesides stock u row

-- each seat's stock is right, and what the seats read agrees with it
pub record IsReuseSafe (plan : Plan) (whose : ℕ → ℕ) (words : List ℕ) (views : List View) : Type 0 where
  pub claim : ℕ → ℕ
  pub named_once : AreNamedOnce plan.counts words
  pub stocks : (seat : ℕ) (v : View) → get_elem? views seat ≡ some v → HasStock plan whose words claim seat v
  pub agree : (seat other : ℕ) (v u : View) → get_elem? views seat ≡ some v → get_elem? views other ≡ some u → AgreesWith v.stock u
