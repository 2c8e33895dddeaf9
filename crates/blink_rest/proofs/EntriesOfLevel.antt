-- The entries of a level rise, and above the leaves they cover all keys; each key has one page in a level that it belongs to.
use Rattle.std.proofs.Common.{◌≡◌, ℕ, ◌+◌, ◌<◌, ◌≤◌, Option, Some, None, List, [], ◌∷◌, ◌++◌, inl, inr, refl, sym, ap, ◌∙◌, arith, append_assoc}
use Rattle.std.specs.List.{AllPairs, AllByRecursion}
use Rattle.std.proofs.lemmas.Bool.{cases_lt}
use Rattle.std.proofs.lemmas.List.Elements.{All-from_recursion}
use Rattle.std.proofs.lemmas.List.Kept.{AllPairs-cons}
use Rattle.blink_page.specs.{least_above, IsRising, Covers, value_at, IsKeyOf}
use Rattle.blink_page.specs.declared.limits.TheConstants.{GREATEST_KEY}
use Rattle.blink_page.proofs.Offered.{Covers-append, IsRising-append, value_at-append_prefix, value_at-append_rest}
use Rattle.blink_rest.specs.Chain.{Pages, Cell, InLine, IsChain}
use Rattle.blink_rest.specs.Numbers.{IsMember}
use Rattle.blink_rest.specs.Level.{entries_along}
use Rattle.blink_rest.proofs.LinesOfPages.{stands_of}

-- a key below what rises is below each key there
rising_all_above : (key from : ℕ) (xs : List (ℕ × ℕ)) (to : ℕ) → key < from → IsRising from xs to → AllByRecursion (λ (b : ℕ × ℕ). key < b.0) xs
rising_all_above key from [] to below rising = tt
rising_all_above key from (x ∷ xs) to below rising = let above = rising.0 in (omega arith, rising_all_above key (x.0 + 1) xs to (omega arith) rising.1)

-- in std's word: keys that rise are each below all later ones
pub rising_all_pairs : (from : ℕ) (xs : List (ℕ × ℕ)) (to : ℕ) → IsRising from xs to → AllPairs (λ a b. a.0 < b.0) xs
rising_all_pairs from [] to rising = λ i j d before inside. absurd (omega arith)
rising_all_pairs from (x ∷ xs) to rising =
    AllPairs-cons (λ (a b : ℕ × ℕ). a.0 < b.0) x xs
    (All-from_recursion (λ (b : ℕ × ℕ). x.0 < b.0) xs (rising_all_above x.0 (x.0 + 1) xs to (omega arith) rising.1))
    (rising_all_pairs (x.0 + 1) xs to rising.1)

-- the entries of two lists of pages joined
pub entries_along-append : (xs ys : List Cell) → entries_along (xs ++ ys) ≡ entries_along xs ++ entries_along ys
entries_along-append [] ys = refl
entries_along-append (x ∷ xs) ys =
    ap (λ (es : List (ℕ × ℕ)). x.page.entries ++ es) (entries_along-append xs ys) ∙ sym (append_assoc x.page.entries (entries_along xs) (entries_along ys))

module _ (fan level : ℕ) where
  -- the entries of a line rise, from above its floor to its last high key
  pub line_rising : (floor link : Option ℕ) (cells : List Cell) (last_floor last_link : Option ℕ)
      → InLine fan level floor link cells last_floor last_link → IsRising (least_above floor) (entries_along cells) (least_above last_floor)
  line_rising floor link [] last_floor last_link line = omega (arith, ap least_above line.0)
  line_rising floor link (c ∷ cells) last_floor last_link line =
      IsRising-append (least_above floor) c.page.entries (entries_along cells) (c.page.high + 1) (least_above last_floor)
      (rw (← line.1) line.3.keys_rise)
      (line_rising (Some c.page.high) c.page.right cells last_floor last_link line.4)

  -- above the leaves they cover all keys there
  pub line_covers : (floor link : Option ℕ) (cells : List Cell) (last_floor last_link : Option ℕ)
      → 0 < level → InLine fan level floor link cells last_floor last_link → Covers (least_above floor) (entries_along cells) (least_above last_floor)
  line_covers floor link [] last_floor last_link inner line = ap least_above line.0
  line_covers floor link (c ∷ cells) last_floor last_link inner line =
      let same_level = line.2 in
      Covers-append (least_above floor) c.page.entries (entries_along cells) (c.page.high + 1) (least_above last_floor)
      (rw (← line.1) (line.3.inner (omega arith)).last_is_high)
      (line_covers (Some c.page.high) c.page.right cells last_floor last_link inner line.4)

  -- each key between the ends of a line belongs to one of its pages
  pub line_spans : (key : ℕ) (floor link : Option ℕ) (cells : List Cell) (last_floor last_link : Option ℕ)
      → InLine fan level floor link cells last_floor last_link → least_above floor ≤ key → key < least_above last_floor
      → (c : Cell) × IsMember c cells × IsKeyOf c.page key
  line_spans key floor link [] last_floor last_link line above below = absurd (omega (arith, ap least_above line.0))
  line_spans key floor link (c ∷ cells) last_floor last_link line above below =
      elim (cases_lt c.page.high key) [
        | inr here ↦ (c, inl refl, (omega (arith, ap least_above line.1), here))
        | inl beyond ↦ let it = line_spans key (Some c.page.high) c.page.right cells last_floor last_link line.4 (omega arith) below in (it.0, inr it.1, it.2)
      ]

  -- and to only one
  pub line_spans_once : (key : ℕ) (floor link : Option ℕ) (cells : List Cell) (last_floor last_link : Option ℕ) (c d : Cell)
      → InLine fan level floor link cells last_floor last_link → IsMember c cells → IsMember d cells → IsKeyOf c.page key → IsKeyOf d.page key → c ≡ d
  line_spans_once key floor link [] last_floor last_link c d line stands too spans spans_too = absurd stands
  line_spans_once key floor link (x ∷ cells) last_floor last_link c d line (inl same) (inl same_too) spans spans_too = same ∙ sym same_too
  line_spans_once key floor link (x ∷ cells) last_floor last_link c d line (inl same) (inr later) spans spans_too =
      let it = stands_of fan level (Some x.page.high) x.page.right cells last_floor last_link d line.4 later in
      absurd (omega (arith, it.above, spans.1, spans_too.0, ap (λ (y : Cell). y.page.high) same))
  line_spans_once key floor link (x ∷ cells) last_floor last_link c d line (inr later) (inl same) spans spans_too =
      let it = stands_of fan level (Some x.page.high) x.page.right cells last_floor last_link c line.4 later in
      absurd (omega (arith, it.above, spans.0, spans_too.1, ap (λ (y : Cell). y.page.high) same))
  line_spans_once key floor link (x ∷ cells) last_floor last_link c d line (inr later) (inr later_too) spans spans_too =
      line_spans_once key (Some x.page.high) x.page.right cells last_floor last_link c d line.4 later later_too spans spans_too

  -- a key has an entry in a line exactly if it has one in the page that it belongs to
  pub line_value : (key : ℕ) (floor link : Option ℕ) (cells : List Cell) (last_floor last_link : Option ℕ) (c : Cell)
      → InLine fan level floor link cells last_floor last_link → IsMember c cells → IsKeyOf c.page key
      → value_at key (entries_along cells) ≡ value_at key c.page.entries
  line_value key floor link [] last_floor last_link c line stands spans = absurd stands
  line_value key floor link (x ∷ cells) last_floor last_link c line (inl same) spans =
      let high = ap (λ (y : Cell). y.page.high) same in let below = spans.1 in
      value_at-append_prefix key (x.page.high + 1) (least_above last_floor) x.page.entries (entries_along cells)
      (line_rising (Some x.page.high) x.page.right cells last_floor last_link line.4) (omega arith)
      ∙ ap (λ (y : Cell). value_at key y.page.entries) (sym same)
  line_value key floor link (x ∷ cells) last_floor last_link c line (inr later) spans =
      let it = stands_of fan level (Some x.page.high) x.page.right cells last_floor last_link c line.4 later in
      let above = it.above in let from = spans.0 in
      value_at-append_rest key (least_above x.page.floor) (x.page.high + 1) x.page.entries (entries_along cells) line.3.keys_rise (omega arith)
      ∙ line_value key (Some x.page.high) x.page.right cells last_floor last_link c line.4 later spans

module _ (fan level leftmost : ℕ) (pages : Pages) (cells : List Cell) (chain : IsChain fan pages level leftmost cells) where
  -- the entries of a chain are strictly ascending
  pub chain_rising : IsRising 0 (entries_along cells) (GREATEST_KEY + 1)
  chain_rising = line_rising fan level None (Some leftmost) cells (Some GREATEST_KEY) None chain.in_line

  -- above the leaves they cover every key
  pub chain_covers : 0 < level → Covers 0 (entries_along cells) (GREATEST_KEY + 1)
  chain_covers inner = line_covers fan level None (Some leftmost) cells (Some GREATEST_KEY) None inner chain.in_line

  -- each key belongs to a page of the chain
  pub chain_spans : (key : ℕ) → key ≤ GREATEST_KEY → (c : Cell) × IsMember c cells × IsKeyOf c.page key
  chain_spans key below = line_spans fan level key None (Some leftmost) cells (Some GREATEST_KEY) None chain.in_line (omega arith) (omega arith)

  -- and to only one
  pub chain_spans_once : (key : ℕ) (c d : Cell) → IsMember c cells → IsMember d cells → IsKeyOf c.page key → IsKeyOf d.page key → c ≡ d
  chain_spans_once key c d = line_spans_once fan level key None (Some leftmost) cells (Some GREATEST_KEY) None c d chain.in_line

  -- a key has an entry in the level exactly if it has one in the page that it belongs to
  pub chain_value : (key : ℕ) (c : Cell) → IsMember c cells → IsKeyOf c.page key → value_at key (entries_along cells) ≡ value_at key c.page.entries
  chain_value key c = line_value fan level key None (Some leftmost) cells (Some GREATEST_KEY) None c chain.in_line
