-- The numbers of a chain's pages, and of all levels', are all different.
use Rattle.std.proofs.Common.{◌≡◌, ◌≢◌, ℕ, ◌+◌, ◌<◌, Option, Some, None, List, [], ◌∷◌, inl, inr, refl, ap, ◌∙◌, arith}
use Rattle.std.specs.List.{flat_map, AllPairs}
use Rattle.blink_page.specs.{least_above, PlainPage}
use Rattle.blink_rest.specs.Numbers.{IsMember, Avoids, AllDiffer}
use Rattle.blink_rest.specs.Chain.{Pages, Cell, AreAmong, InLine, IsChain}
use Rattle.blink_rest.specs.Level.{numbers_of}
use Rattle.blink_rest.specs.Rest.{AreChains}
use Rattle.blink_rest.proofs.DifferentNumbers.{Avoids-append, AllDiffer-append, AllPairs-from_differ}
use Rattle.blink_rest.proofs.LinesOfPages.{stands_there, stands_of}

-- a number among a level's is that of a page that stands there
pub standing : (n : ℕ) (cells : List Cell) → IsMember n (numbers_of cells) → (c : Cell) × (n ≡ c.number) × IsMember c cells
standing n [] among = absurd among
standing n (c ∷ cells) (inl same) = (c, same, inl refl)
standing n (c ∷ cells) (inr later) = let it = standing n cells later in (it.0, it.1, inr it.2)

-- and the number of a page that stands there is among them
pub stands_among : (c : Cell) (cells : List Cell) → IsMember c cells → IsMember c.number (numbers_of cells)
stands_among c [] stands = stands
stands_among c (d ∷ cells) (inl same) = inl (ap (λ (x : Cell). x.number) same)
stands_among c (d ∷ cells) (inr later) = inr (stands_among c cells later)

module _ (fan : ℕ) (pages : Pages) where
  -- one number has one page
  one_page : (n m : ℕ) (p q : PlainPage) → pages n ≡ Some p → pages m ≡ Some q → n ≡ m → p ≡ q
  one_page n m p q there here same = cc (there, here, ap pages same)

  -- a page whose floor is below all of a line's has another number than those
  avoided_above : (level : ℕ) (n : ℕ) (p : PlainPage) (floor link : Option ℕ) (cells : List Cell) (last_floor last_link : Option ℕ)
      → pages n ≡ Some p → AreAmong pages cells → InLine fan level floor link cells last_floor last_link
      → least_above p.floor < least_above floor → Avoids n (numbers_of cells)
  avoided_above level n p floor link [] last_floor last_link there among line below = tt
  avoided_above level n p floor link (c ∷ cells) last_floor last_link there among line below =
      let lowest = line.3.floor_below_high in let floors = ap least_above line.1 in (
        λ same. let e = ap (λ (q : PlainPage). least_above q.floor) (one_page n c.number p c.page there among.0 same) in absurd (omega arith),
        avoided_above level n p (Some c.page.high) c.page.right cells last_floor last_link there among.1 line.4 (omega arith),
      )

  -- a page of another level has another number
  avoided_level : (level : ℕ) (n : ℕ) (p : PlainPage) (floor link : Option ℕ) (cells : List Cell) (last_floor last_link : Option ℕ)
      → pages n ≡ Some p → AreAmong pages cells → InLine fan level floor link cells last_floor last_link
      → p.level ≢ level → Avoids n (numbers_of cells)
  avoided_level level n p floor link [] last_floor last_link there among line other = tt
  avoided_level level n p floor link (c ∷ cells) last_floor last_link there among line other = (
    λ same. other (ap (λ (q : PlainPage). q.level) (one_page n c.number p c.page there among.0 same) ∙ line.2),
    avoided_level level n p (Some c.page.high) c.page.right cells last_floor last_link there among.1 line.4 other,
  )

  -- the numbers of a line are all different
  pub line_differs : (level : ℕ) (floor link : Option ℕ) (cells : List Cell) (last_floor last_link : Option ℕ)
      → AreAmong pages cells → InLine fan level floor link cells last_floor last_link → AllDiffer (numbers_of cells)
  line_differs level floor link [] last_floor last_link among line = tt
  line_differs level floor link (c ∷ cells) last_floor last_link among line =
      let lowest = line.3.floor_below_high in (
        avoided_above level c.number c.page (Some c.page.high) c.page.right cells last_floor last_link among.0 among.1 line.4 (omega arith),
        line_differs level (Some c.page.high) c.page.right cells last_floor last_link among.1 line.4,
      )

  -- the numbers of a chain are all different
  pub chain_differs : (level leftmost : ℕ) (cells : List Cell) → IsChain fan pages level leftmost cells → AllDiffer (numbers_of cells)
  chain_differs level leftmost cells chain = line_differs level None (Some leftmost) cells _ None chain.pages_there chain.in_line

  -- a page below all levels has another number than their pages
  avoided_levels : (level : ℕ) (n : ℕ) (p : PlainPage) (prime : List ℕ) (levels : List (List Cell))
      → pages n ≡ Some p → p.level < level → AreChains fan pages level prime levels → Avoids n (flat_map numbers_of levels)
  avoided_levels level n p [] [] there below chains = tt
  avoided_levels level n p [] (cells ∷ above) there below chains = absurd chains
  avoided_levels level n p (leftmost ∷ prime) [] there below chains = absurd chains
  avoided_levels level n p (leftmost ∷ prime) (cells ∷ above) there below chains =
      Avoids-append n (numbers_of cells) (flat_map numbers_of above)
      (avoided_level level n p None (Some leftmost) cells _ None there chains.0.pages_there chains.0.in_line (λ same. absurd (omega arith)))
      (avoided_levels (level + 1) n p prime above there (omega arith) chains.1)

  -- no page number stands twice in the levels
  pub levels_differ : (level : ℕ) (prime : List ℕ) (levels : List (List Cell)) → AreChains fan pages level prime levels → AllDiffer (flat_map numbers_of levels)
  levels_differ level [] [] chains = tt
  levels_differ level [] (cells ∷ above) chains = absurd chains
  levels_differ level (leftmost ∷ prime) [] chains = absurd chains
  levels_differ level (leftmost ∷ prime) (cells ∷ above) chains =
      AllDiffer-append (numbers_of cells) (flat_map numbers_of above) (chain_differs level leftmost cells chains.0) (levels_differ (level + 1) prime above chains.1)
      (λ n among. let it = standing n cells among in
      let line = stands_of fan level None (Some leftmost) cells _ None it.0 chains.0.in_line it.2 in
      let same_level = line.has_level in
      avoided_levels (level + 1) n it.0.page prime above (ap pages it.1 ∙ stands_there pages cells it.0 chains.0.pages_there it.2) (omega arith) chains.1)

  -- in std's word: no two places among the levels have the same number
  pub levels_all_pairs : (level : ℕ) (prime : List ℕ) (levels : List (List Cell)) → AreChains fan pages level prime levels → AllPairs (λ a b. a ≢ b) (flat_map numbers_of levels)
  levels_all_pairs level prime levels chains = AllPairs-from_differ (flat_map numbers_of levels) (levels_differ level prime levels chains)
