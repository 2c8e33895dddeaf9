-- What a page word says of records: how many there are, the kind of each, and how many entries they leave.
use Rattle.std.proofs.Common.{◌≡◌, ℕ, zero, suc, ◌+◌, ◌-◌, ◌*◌, ◌/◌, ◌%◌, ◌^◌, ◌<◌, ◌≤◌, List, [], ◌∷◌, ◌++◌, length, refl, sym, ap, ◌∙◌, length-append, add-zero, zero-add, arith}
use Rattle.std.proofs.Math.Pow.{pow_mono}
use Rattle.std.proofs.lemmas.Nat.{and_block, mod_below, ones_cat, shr-shr, shr_split, pow_pos, and_le_l}
use Rattle.std.proofs.Math.Nat.{zero-mul}
use Rattle.std.specs.Int.Bits.{bit_and}
use Rattle.std.specs.Int.Count.{ones}
use Rattle.blink_page.specs.{PlainPage}
use Rattle.blink_page.proofs.Offered.{length-added, length-removed, length-replaced}
use Rattle.blink_rows.specs.declared.limits.TheConstants.{KIND_LIMIT, MAX_RECORDS, RECORD_LIMIT, ROW_LIMIT}
use Rattle.blink_rows.specs.declared.log.Kind.{Kind}
use Rattle.blink_rows.specs.declared.log.Kind.TheVariants.{Replaced, Added, Removed}
use Rattle.blink_rows.specs.declared.log.Record.{Record}
use Rattle.blink_rows.specs.declared.naming.Records.{Records}
use Rattle.blink_rows.specs.Log.{AllFit, Finds, changed, content, counted, kind_number, kinds_behind, page_after}
use Rattle.blink_rows.specs.Naming.{page_word, records_in, row_in}
use Rattle.blink_rows.proofs.PageWords.{records_of_word, row_of_word}

-- a kind has two bits
pub kind_below : (kind : Kind) → kind_number kind < 3
kind_below Replaced = omega arith
kind_below Added = omega arith
kind_below Removed = omega arith

-- which tell it
pub is_replaced : (kind : Kind) → kind_number kind ≡ 0 → kind ≡ Replaced
is_replaced Replaced same = refl
is_replaced Added same = absurd (omega (arith, same))
is_replaced Removed same = absurd (omega (arith, same))

pub is_added : (kind : Kind) → kind_number kind ≡ 1 → kind ≡ Added
is_added Replaced same = absurd (omega (arith, same))
is_added Added same = refl
is_added Removed same = absurd (omega (arith, same))

pub is_removed : (kind : Kind) → (kind_number kind ≡ 0 → ⊥) → (kind_number kind ≡ 1 → ⊥) → kind ≡ Removed
is_removed Replaced none one = absurd (none refl)
is_removed Added none one = absurd (one refl)
is_removed Removed none one = refl

pub same_kind : (a b : Kind) → kind_number a ≡ kind_number b → a ≡ b
same_kind Replaced b same = sym (is_replaced b (sym same))
same_kind Added b same = sym (is_added b (sym same))
same_kind Removed b same = sym (is_removed b (λ zero_is. absurd (omega (arith, same, zero_is))) (λ one_is. absurd (omega (arith, same, one_is))))

-- ---- the kinds of several records

pub kinds_behind-append : (before : ℕ) (xs ys : List Record) → kinds_behind before (xs ++ ys) ≡ kinds_behind (kinds_behind before xs) ys
kinds_behind-append before [] ys = refl
kinds_behind-append before (x ∷ rest) ys = kinds_behind-append (4 * before + kind_number x.kind) rest ys

-- the kinds before some records are those without these records' bits
pub kinds_before : (before : ℕ) (rs : List Record) → kinds_behind before rs / 2 ^ (2 * length rs) ≡ before
kinds_before before [] = omega arith
kinds_before before (r ∷ rest) =
    let next : ℕ = 4 * before + kind_number r.kind in
    let rest_gone : kinds_behind next rest / 2 ^ (2 * length rest) ≡ next = kinds_before next rest in
    let bits : 2 * length (r ∷ rest) ≡ 2 * length rest + 2 = omega arith in
    ap (λ n. kinds_behind next rest / 2 ^ n) bits
    ∙ (sym (shr-shr (kinds_behind next rest) (2 * length rest) 2)
    ∙ (ap (λ n. n / 2 ^ 2) rest_gone ∙ (let low = kind_below r.kind in omega (arith, low))))

-- one record more
pub counted_more : (records : List Record) (r : Record) → counted (records ++ r ∷ []) ≡ record { count = length records + 1; kinds = 4 * kinds_behind 0 records + kind_number r.kind }
counted_more records r =
    let many : length (records ++ r ∷ []) ≡ length records + 1 = length-append records (r ∷ []) in
    let kinds : kinds_behind 0 (records ++ r ∷ []) ≡ 4 * kinds_behind 0 records + kind_number r.kind = kinds_behind-append 0 records (r ∷ []) in
    λ i. record { count = many i; kinds = kinds i }

-- the kind of a record with so many newer ones
pub kind_told : (front : List Record) (r : Record) (back : List Record) → kinds_behind 0 (front ++ r ∷ back) / 2 ^ (2 * length back) % 4 ≡ kind_number r.kind
kind_told front r back =
    let all : kinds_behind 0 (front ++ r ∷ back) ≡ kinds_behind (4 * kinds_behind 0 front + kind_number r.kind) back = kinds_behind-append 0 front (r ∷ back) in
    let back_gone : kinds_behind 0 (front ++ r ∷ back) / 2 ^ (2 * length back) ≡ 4 * kinds_behind 0 front + kind_number r.kind = ap (λ n. n / 2 ^ (2 * length back)) all ∙ kinds_before _ back in
    let low = kind_below r.kind in
    omega (arith, back_gone, low)

-- which stands there in the page word of these records
pub kind_in_word : (told : Records) (front : List Record) (r : Record) (back : List Record) (older : ℕ) → counted (front ++ r ∷ back) ≡ told → length front ≡ older
    → told.kinds / 2 ^ (2 * (told.count - 1 - older)) % 4 ≡ kind_number r.kind
kind_in_word told front r back older same many =
    let count : length (front ++ r ∷ back) ≡ told.count = ap (λ (t : Records). t.count) same in
    let kinds : kinds_behind 0 (front ++ r ∷ back) ≡ told.kinds = ap (λ (t : Records). t.kinds) same in
    let newer : told.count - 1 - older ≡ length back = omega (arith, count, many, length-append front (r ∷ back)) in
    (λ i. sym kinds i / 2 ^ (2 * newer i) % 4) ∙ kind_told front r back

-- as many records as a page word has bits for
kinds_are_low : (records : List Record) → kinds_behind 0 records < 2 ^ (2 * length records)
kinds_are_low records =
    let none_before = kinds_before 0 records in
    let split = shr_split (kinds_behind 0 records) (2 * length records) in
    let low = mod_below (kinds_behind 0 records) (2 ^ (2 * length records)) (pow_pos (2 * length records)) in
    let nothing : kinds_behind 0 records / 2 ^ (2 * length records) * 2 ^ (2 * length records) ≡ 0 = ap (λ n. n * 2 ^ (2 * length records)) none_before ∙ zero-mul (2 ^ (2 * length records)) in
    omega (arith, split, low, nothing)

pub counts_in_range : (records : List Record) → length records ≤ MAX_RECORDS → ((counted records).count < RECORD_LIMIT) × ((counted records).kinds < KIND_LIMIT)
counts_in_range records few =
    let places : 2 * length records ≤ 24 = omega (arith, few) in
    let most : 2 ^ (2 * length records) ≤ 2 ^ 24 = pow_mono places in
    let low = kinds_are_low records in
    (omega (arith, few), omega (arith, low, most))

-- a page word tells its row, and its records
pub word_of_log : (row : ℕ) (records : List Record) → row < ROW_LIMIT → length records ≤ MAX_RECORDS
    → (row_in (page_word row (counted records)) ≡ row) × (records_in (page_word row (counted records)) ≡ counted records)
word_of_log row records low few =
    let range = counts_in_range records few in
    (row_of_word row (counted records) low, records_of_word row (counted records) low range.0 range.1)

-- ---- how many entries a leaf has

-- of some records the number of those with this bit in their kind
marked : ℕ → List Record → ℕ
marked bit [] = 0
marked bit (r ∷ rest) = ones (bit_and (kind_number r.kind) bit) + marked bit rest

-- this bit in each of so many kinds
mask : ℕ → ℕ → ℕ
mask bit zero = 0
mask bit (suc n) = 4 * mask bit n + bit

-- the bits that a mask leaves of the kinds of some records behind others
marks : (bit places before : ℕ) (rs : List Record) → bit < 4 → ones (bit_and (kinds_behind before rs) (mask bit (places + length rs))) ≡ ones (bit_and before (mask bit places)) + marked bit rs
unfolding marked mask
marks bit places before [] small = let same : places + 0 ≡ places = omega arith in ap (λ n. ones (bit_and before (mask bit n))) same ∙ sym (add-zero (ones (bit_and before (mask bit places))))
marks bit places before (r ∷ rest) small =
    let kind : ℕ = kind_number r.kind in
    let low : bit_and kind bit < 4 = (let few = kind_below r.kind in omega (arith, few, and_le_l kind bit)) in
    let places_are : places + length (r ∷ rest) ≡ suc places + length rest = omega arith in
    let blocks : bit_and (before * 4 + kind) (mask bit places * 4 + bit) ≡ bit_and before (mask bit places) * 4 + bit_and kind bit = and_block 2 before (mask bit places) kind bit (let few = kind_below r.kind in omega (arith, few)) small in
    let next_is : 4 * before + kind ≡ before * 4 + kind = omega arith in
    let mask_is : mask bit (suc places) ≡ mask bit places * 4 + bit = omega arith in
    let here : ones (bit_and (4 * before + kind) (mask bit (suc places))) ≡ ones (bit_and before (mask bit places)) + ones (bit_and kind bit) =
    (λ i. ones (bit_and (next_is i) (mask_is i))) ∙ (ap ones blocks ∙ ones_cat 2 (bit_and before (mask bit places)) (bit_and kind bit) low) in
    let after : ones (bit_and (kinds_behind (4 * before + kind) rest) (mask bit (suc places + length rest))) ≡ ones (bit_and (4 * before + kind) (mask bit (suc places))) + marked bit rest = marks bit (suc places) (4 * before + kind) rest small in
    let sum : ones (bit_and (kinds_behind (4 * before + kind) rest) (mask bit (places + length (r ∷ rest)))) ≡ ones (bit_and (4 * before + kind) (mask bit (suc places))) + marked bit rest =
    ap (λ n. ones (bit_and (kinds_behind (4 * before + kind) rest) (mask bit n))) places_are ∙ after in
    omega (arith, sum, here)

marks_of_all : (bit : ℕ) (rs : List Record) → bit < 4 → length rs ≤ MAX_RECORDS → ones (bit_and (kinds_behind 0 rs) (mask bit 12)) ≡ marked bit rs
unfolding ones
marks_of_all bit rs small few =
    let whole : 12 - length rs + length rs ≡ 12 = omega (arith, few) in
    ap (λ n. ones (bit_and (kinds_behind 0 rs) (mask bit n))) (sym whole) ∙ (marks bit (12 - length rs) 0 rs small ∙ zero-add (marked bit rs))

-- an added key is an entry more, and a removed one an entry less
one_changed : (fan : ℕ) (page : PlainPage) (kind : Kind) (key pointer : ℕ) → Finds fan page key kind
    → length (changed kind key pointer page.entries) + ones (bit_and (kind_number kind) 2) ≡ length page.entries + ones (bit_and (kind_number kind) 1)
unfolding ones
one_changed fan page Replaced key pointer finds = ap (λ n. n + 0) (length-replaced key pointer page.entries)
one_changed fan page Added key pointer finds = let more = length-added key pointer page.entries in omega (arith, more)
one_changed fan page Removed key pointer finds = let less = length-removed key page.entries finds in omega (arith, less)

all_changed : (fan : ℕ) (page : PlainPage) (rs : List Record) → AllFit fan page rs → length (content page.entries rs) + marked 2 rs ≡ length page.entries + marked 1 rs
unfolding marked
all_changed fan page [] fit = refl
all_changed fan page (r ∷ rest) fit =
    let here = one_changed fan page r.kind r.key r.pointer fit.0.finds in
    let there = all_changed fan (page_after page r) rest fit.1 in
    omega (arith, here, there)

-- what a leaf has, by the bits of its page word
pub length-content : (fan : ℕ) (page : PlainPage) (rs : List Record) → AllFit fan page rs → length rs ≤ MAX_RECORDS
    → length (content page.entries rs) ≡ length page.entries + ones (bit_and (kinds_behind 0 rs) 5592405) - ones (bit_and (kinds_behind 0 rs) 11184810)
unfolding mask
length-content fan page rs fit few =
    let changes = all_changed fan page rs fit in
    let adds : ones (bit_and (kinds_behind 0 rs) 5592405) ≡ marked 1 rs = marks_of_all 1 rs (omega arith) few in
    let removes : ones (bit_and (kinds_behind 0 rs) 11184810) ≡ marked 2 rs = marks_of_all 2 rs (omega arith) few in
    omega (arith, changes, adds, removes)
