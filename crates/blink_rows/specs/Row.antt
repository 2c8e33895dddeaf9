-- A row: the `ROW_WORDS` words that determine a page, or a prime block.
use Rattle.std.specs.Prelude.{◌≡◌, ℕ, ◌<◌, ◌≤◌, Option, Some, None, List, [], ◌∷◌, length, slice_index, EachIndex, unwrap_or, All}
use Rattle.blink_page.specs.declared.limits.TheConstants.{LEVELS, MAX_FAN}
use Rattle.blink_page.specs.{IsPageNumber, PlainPage, IsLawfulPage}
use Rattle.blink_rows.specs.declared.limits.TheConstants.{ROW_WORDS}

-- the entries' keys and values, one after the other
abbrev pub flat : List (ℕ × ℕ) → List ℕ
flat [] = []
flat ((key, value) ∷ rest) = key ∷ value ∷ flat rest

-- 1 for a number, 0 for None
abbrev pub flag : Option ℕ → ℕ
flag None = 0
flag (Some number) = 1

-- the level, whether the page has a floor, the floor or 0, the high key, the right link or 0, the number of entries, and the
-- entries
abbrev pub page_words : PlainPage → List ℕ
page_words p =
    p.level ∷ flag p.floor ∷ unwrap_or p.floor 0 ∷ p.high ∷ unwrap_or p.right 0 ∷ length p.entries ∷ flat p.entries

-- the number of levels, at the place of a page's number of entries, and the leftmost page of each level
abbrev pub prime_words : List ℕ → List ℕ
prime_words leftmost = 0 ∷ 0 ∷ 0 ∷ 0 ∷ 0 ∷ length leftmost ∷ leftmost

-- a row's words, which begin with these; all others are 0
pub record IsRowOf (words content : List ℕ) : Type 0 where
  pub width : length words ≡ ROW_WORDS
  pub filled : (n : ℕ) → n < ROW_WORDS → slice_index words n ≡ slice_index content n

-- all these words are 0
abbrev pub AreZero : List ℕ → Type 0
AreZero words = EachIndex words (λ n. slice_index words n ≡ 0)

-- the words are the row of this page
abbrev pub IsPageRow : PlainPage → List ℕ → Type 0
IsPageRow page words = IsRowOf words (page_words page)

-- the words are the row of the prime block that names these pages
abbrev pub IsPrimeRow : List ℕ → List ℕ → Type 0
IsPrimeRow leftmost words = IsRowOf words (prime_words leftmost)

-- no page has these words as its row
abbrev pub IsRowOfNoPage : List ℕ → Type 0
IsRowOfNoPage words = (page : PlainPage) → IsLawfulPage MAX_FAN page → IsPageRow page words → ⊥

-- a prime block names at least one page, and has room for only so many
pub record IsLawfulPrime (leftmost : List ℕ) : Type 0 where
  pub one_at_least : 0 < length leftmost
  pub at_most_levels : length leftmost ≤ LEVELS
  pub page_numbers : All IsPageNumber leftmost

-- no prime block has these words as its row
abbrev pub IsRowOfNoPrime : List ℕ → Type 0
IsRowOfNoPrime words = (leftmost : List ℕ) → IsLawfulPrime leftmost → IsPrimeRow leftmost words → ⊥
