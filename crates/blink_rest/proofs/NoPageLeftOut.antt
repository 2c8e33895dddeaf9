-- No page is left out of the levels exactly if they have as many pages as the tree.
use Rattle.std.proofs.Common.{◌≡◌, ℕ, ◌+◌, ◌≤◌, Some, List, [], ◌∷◌, ◌++◌, length, arith}
use Rattle.std.specs.List.{flat_map, Contains}
use Rattle.blink_page.specs.{PlainPage}
use Rattle.blink_rest.specs.Chain.{Pages, Cell, AreAmong}
use Rattle.blink_rest.specs.Level.{numbers_of}
use Rattle.blink_rest.specs.Numbers.{AreWithin}
use Rattle.blink_rest.specs.Rest.{AreChains}
use Rattle.blink_rest.proofs.DifferentNumbers.{Contains-from_among, among_from_Contains}
use Rattle.blink_rest.proofs.HowManyNumbers.{at_most_n, all_n_among, at_least_n}
use Rattle.blink_rest.proofs.PagesOfChainsDiffer.{levels_differ}

-- the pages of a tree are those from 1 to n
pub record AreNumbered (n : ℕ) (pages : Pages) : Type 0 where
  pub there : (number : ℕ) → 1 ≤ number → number ≤ n → (page : PlainPage) × (pages number ≡ Some page)
  pub within : (number : ℕ) (page : PlainPage) → pages number ≡ Some page → (1 ≤ number) × (number ≤ n)

-- two lists of numbers from 1 to n joined
AreWithin-append : (n : ℕ) (xs ys : List ℕ) → AreWithin n xs → AreWithin n ys → AreWithin n (xs ++ ys)
AreWithin-append n [] ys before after = after
AreWithin-append n (x ∷ xs) ys before after = (before.0, before.1, AreWithin-append n xs ys before.2 after)

-- the numbers of pages of a tree are from 1 to n, if those of all its pages are
pub cells_within : (n : ℕ) (pages : Pages) (cells : List Cell) → AreAmong pages cells → ((number : ℕ) (page : PlainPage) → pages number ≡ Some page → (1 ≤ number) × (number ≤ n)) → AreWithin n (numbers_of cells)
cells_within n pages [] among within = tt
cells_within n pages (c ∷ cells) among within = let it = within c.number c.page among.0 in (it.0, it.1, cells_within n pages cells among.1 within)

module _ (n fan : ℕ) (pages : Pages) (numbered : AreNumbered n pages) where
  -- the levels' numbers are from 1 to n
  pub levels_within : (level : ℕ) (prime : List ℕ) (levels : List (List Cell)) → AreChains fan pages level prime levels → AreWithin n (flat_map numbers_of levels)
  levels_within level [] [] chains = tt
  levels_within level [] (cells ∷ above) chains = absurd chains
  levels_within level (leftmost ∷ prime) [] chains = absurd chains
  levels_within level (leftmost ∷ prime) (cells ∷ above) chains =
      AreWithin-append n (numbers_of cells) (flat_map numbers_of above) (cells_within n pages cells chains.0.pages_there numbered.within) (levels_within (level + 1) prime above chains.1)

  -- at most n pages stand in the levels
  pub levels_at_most : (level : ℕ) (prime : List ℕ) (levels : List (List Cell)) → AreChains fan pages level prime levels → length (flat_map numbers_of levels) ≤ n
  levels_at_most level prime levels chains =
      at_most_n n (flat_map numbers_of levels) (levels_differ fan pages level prime levels chains) (levels_within level prime levels chains)

  -- if they are n, each page stands there
  pub whole_if_all : (level : ℕ) (prime : List ℕ) (levels : List (List Cell)) → AreChains fan pages level prime levels → length (flat_map numbers_of levels) ≡ n
      → (number : ℕ) (page : PlainPage) → pages number ≡ Some page → Contains (flat_map numbers_of levels) number
  whole_if_all level prime levels chains full number page there =
      let it = numbered.within number page there in
      Contains-from_among (flat_map numbers_of levels) number
      (all_n_among n (flat_map numbers_of levels) (levels_differ fan pages level prime levels chains) (levels_within level prime levels chains) full number it.0 it.1)

  -- if each page stands there, they are n
  pub all_if_whole : (level : ℕ) (prime : List ℕ) (levels : List (List Cell)) → AreChains fan pages level prime levels
      → ((number : ℕ) (page : PlainPage) → pages number ≡ Some page → Contains (flat_map numbers_of levels) number) → length (flat_map numbers_of levels) ≡ n
  all_if_whole level prime levels chains whole =
      omega (
        arith,
        levels_at_most level prime levels chains,
        at_least_n n (flat_map numbers_of levels) (λ number least most. let it = numbered.there number least most in among_from_Contains (flat_map numbers_of levels) number (whole number it.0 it.1)),
      )
