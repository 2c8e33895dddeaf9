-- What a page word says: the row and the records that it was made of.
use Rattle.std.proofs.Common.{◌≡◌, ℕ, ◌*◌, ◌/◌, ◌%◌, ◌<◌, ◌≤◌, arith}
use Rattle.blink_rows.specs.Counts.{PlainCounts, AreBounded}
use Rattle.blink_rows.specs.declared.limits.TheConstants.{KIND_LIMIT, RECORD_LIMIT, ROW_LIMIT}
use Rattle.blink_rows.specs.declared.naming.Records.{Records}
use Rattle.blink_rows.specs.Naming.{no_records, page_word, records_in, row_in}

-- the row of a page word
pub row_of_word : (row : ℕ) (records : Records) → row < ROW_LIMIT → row_in (page_word row records) ≡ row
unfolding row_in
row_of_word row records low = let below : row < 8589934592 = low in omega (arith, below)

-- and its records
pub records_of_word : (row : ℕ) (records : Records) → row < ROW_LIMIT → records.count < RECORD_LIMIT → records.kinds < KIND_LIMIT → records_in (page_word row records) ≡ records
unfolding records_in
records_of_word row records low few kinds =
    let word : ℕ = page_word row records in
    let count_is : word / ROW_LIMIT % RECORD_LIMIT ≡ records.count = omega (arith, low, few, kinds) in
    let kinds_are : word / (ROW_LIMIT * RECORD_LIMIT) % KIND_LIMIT ≡ records.kinds = omega (arith, low, few, kinds) in
    λ i. record { count = count_is i; kinds = kinds_are i }

-- a row's number is the page word that names the row and counts no record
pub row_of_row : (row : ℕ) → row < ROW_LIMIT → row_in row ≡ row
unfolding row_in
row_of_row row low = omega (arith, low)

pub no_records_of_row : (row : ℕ) → row < ROW_LIMIT → records_in row ≡ no_records
unfolding records_in
no_records_of_row row low =
    let count_is : row / ROW_LIMIT % RECORD_LIMIT ≡ 0 = omega (arith, low) in
    let kinds_are : row / (ROW_LIMIT * RECORD_LIMIT) % KIND_LIMIT ≡ 0 = omega (arith, low) in
    λ i. record { count = count_is i; kinds = kinds_are i }

-- the rows of a table are few enough
pub rows_are_below : (counts : PlainCounts) (row : ℕ) → AreBounded counts → row ≤ counts.rows → row < ROW_LIMIT
rows_are_below counts row bounded inside = let few = bounded.rows_bounded in omega (arith, few, inside)
