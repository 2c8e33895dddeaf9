-- What a page has in common with the base in its row.
use Rattle.std.proofs.Common.{◌≡◌, ℕ, ◌+◌, ◌*◌, ◌<◌, ◌≤◌, List, [], ◌∷◌, ◌++◌, length, length-append, refl, sym, ap, ◌∙◌, subst, arith}
use Rattle.blink_page.specs.{IsLawfulPage, PlainPage}
use Rattle.blink_page.specs.declared.limits.TheConstants.{MAX_FAN}
use Rattle.blink_rows.specs.{Fits, IsLogged, counted, log_words, page_after, page_with, page_word, record_words, records_in, row_in}
use Rattle.blink_rows.specs.declared.limits.TheConstants.{HEAD_WORDS, MAX_RECORDS, ROW_LIMIT, ROW_WORDS}
use Rattle.blink_rows.specs.declared.log.Record.{Record}
use Rattle.blink_rows.specs.declared.naming.Records.{Records}
use Rattle.blink_rows.proofs.Offered.{log_words-append, inner_has_none, logged_more, logged_none, no_records_of_row, page_more, word_of_log}
use Rattle.blink_live.specs.Words.{IsVersion}

-- the row that a word names is one that a page word has room for
pub row_is_below : (word : ℕ) → row_in word < ROW_LIMIT
unfolding row_in
row_is_below word = omega arith

-- all but the entries is the same
pub record SameHead (base page : PlainPage) : Type 0 where
  pub level : page.level ≡ base.level
  pub floor : page.floor ≡ base.floor
  pub high : page.high ≡ base.high
  pub right : page.right ≡ base.right

pub same_head : {word : ℕ} {base page : PlainPage} {behind : List ℕ} → IsVersion word base behind page → SameHead base page
same_head is = record {
  level = ap (λ (p : PlainPage). p.level) is.is;
  floor = ap (λ (p : PlainPage). p.floor) is.is;
  high = ap (λ (p : PlainPage). p.high) is.is;
  right = ap (λ (p : PlainPage). p.right) is.is;
}

no_records_left : (records : List Record) → length records ≡ 0 → records ≡ []
no_records_left [] none = refl
no_records_left (r ∷ rest) none = absurd (omega (arith, none))

-- without records the page is the base
pub alone_if_none : {word : ℕ} {base page : PlainPage} {behind : List ℕ} → IsVersion word base behind page → (records_in word).count ≡ 0 → (base ≡ page) × (behind ≡ [])
alone_if_none {word} {base} is none =
    let empty : is.records ≡ [] = no_records_left is.records (ap (λ (r : Records). r.count) is.counts ∙ none) in (
      sym (is.is ∙ ap (page_with base) empty),
      is.words ∙ ap log_words empty,
    )

-- an inner page has none
pub inner_alone : {word : ℕ} {base page : PlainPage} {behind : List ℕ} → IsVersion word base behind page → IsLawfulPage MAX_FAN page → 0 < page.level → base ≡ page
inner_alone {word} {base} {page} is lawful inner =
    let above : 0 < base.level = let level = (same_head is).level in omega (arith, level, inner) in
    let empty : is.records ≡ [] = inner_has_none MAX_FAN base is.records (is.logged lawful).all_fit above in
    sym (is.is ∙ ap (page_with base) empty)

-- a row's number is the page word that names the row, and no records
pub unlogged : (row : ℕ) (page : PlainPage) → row < ROW_LIMIT → IsVersion row page [] page
unlogged row page low = record {
  records = [];
  words = refl;
  counts = sym (no_records_of_row row low);
  is = refl;
  logged = λ lawful. logged_none MAX_FAN page lawful (omega arith);
}

-- ---- one record more

module _ {word : ℕ} {base page : PlainPage} {behind : List ℕ} (is : IsVersion word base behind page) (lawful : IsLawfulPage MAX_FAN page) (r : Record) (fits : Fits MAX_FAN page r)
    (few : (records_in word).count < MAX_RECORDS) (room : HEAD_WORDS + 2 * (length base.entries + (records_in word).count + 1) ≤ ROW_WORDS) where
  count_is : length is.records ≡ (records_in word).count
  count_is = ap (λ (told : Records). told.count) is.counts

  logged_then : IsLogged MAX_FAN base (is.records ++ r ∷ [])
  logged_then = let many = count_is in logged_more MAX_FAN base is.records r (is.logged lawful) (subst (λ (p : PlainPage). Fits MAX_FAN p r) is.is fits) (omega (arith, many, few)) (omega (arith, many, room))

  -- the page word that counts it names the same row
  abbrev pub next_word : ℕ
  next_word = page_word (row_in word) (counted (is.records ++ r ∷ []))

  told_then : (row_in next_word ≡ row_in word) × (records_in next_word ≡ counted (is.records ++ r ∷ []))
  told_then = word_of_log (row_in word) (is.records ++ r ∷ []) (row_is_below word) logged_then.few

  pub same_row : row_in next_word ≡ row_in word
  same_row = told_then.0

  pub counts_one_more : (records_in word).count < (records_in next_word).count
  counts_one_more =
      let many = count_is in
      let told : (records_in next_word).count ≡ length (is.records ++ r ∷ []) = ap (λ (records : Records). records.count) told_then.1 in
      let longer : length (is.records ++ r ∷ []) ≡ length is.records + 1 = length-append is.records (r ∷ []) in
      omega (arith, many, told, longer)

  -- and with the record's words behind the others the row has the page after it
  pub version_more : IsVersion next_word base (behind ++ record_words r) (page_after page r)
  version_more = record {
    records = is.records ++ r ∷ [];
    words = ap (λ (ws : List ℕ). ws ++ record_words r) is.words ∙ sym (log_words-append is.records (r ∷ []));
    counts = sym told_then.1;
    is = ap (λ (p : PlainPage). page_after p r) is.is ∙ sym (page_more base is.records r);
    logged = λ after. logged_then;
  }
