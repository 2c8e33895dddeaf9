-- Where the words of a base and of the records behind it stand, and that they tell both.
use Rattle.std.proofs.Common.{◌≡◌, ℕ, zero, suc, ◌+◌, ◌*◌, ◌/◌, ◌^◌, ◌<◌, ◌≤◌, List, [], ◌∷◌, ◌++◌, length, get_or, refl, sym, ap, ◌∙◌, append_assoc, length-append, ⊎_elim, arith}
use Rattle.std.proofs.lemmas.Bool.{cases_eq, cases_lt}
use Rattle.std.proofs.lemmas.List.{append-nil, ext_get_or, get_or-append-add, get_or_append_left, get_or_past}
use Rattle.blink_page.specs.declared.limits.TheConstants.{MAX_FAN}
use Rattle.blink_page.specs.{IsLawfulPage, PlainPage}
use Rattle.blink_rows.specs.declared.limits.TheConstants.{HEAD_WORDS, MAX_RECORDS, ROW_WORDS}
use Rattle.blink_rows.specs.declared.log.Record.{Record}
use Rattle.blink_rows.specs.declared.naming.Records.{Records}
use Rattle.blink_rows.specs.Log.{BeginsWith, Fits, IsLogged, IsLoggedRow, counted, kind_number, kinds_behind, log_words, page_with, record_words, row_words}
use Rattle.blink_rows.specs.Row.{flat, IsPageRow, page_words}
use Rattle.blink_rows.proofs.LogContent.{fit_more}
use Rattle.blink_rows.proofs.RecordCounts.{kind_below, kinds_before, same_kind}
use Rattle.blink_rows.proofs.WhatRowsSay.{length-page_words, same_page}

-- two words for each record
pub length-log_words : (records : List Record) → length (log_words records) ≡ 2 * length records
length-log_words [] = refl
length-log_words (r ∷ rest) = omega (arith, length-log_words rest)

pub length-row_words : (base : PlainPage) (records : List Record) → length (row_words base records) ≡ HEAD_WORDS + 2 * (length base.entries + length records)
length-row_words base records = omega (arith, length-append (page_words base) (log_words records), length-page_words base, length-log_words records)

pub log_words-append : (xs ys : List Record) → log_words (xs ++ ys) ≡ log_words xs ++ log_words ys
log_words-append [] ys = refl
log_words-append (x ∷ rest) ys = ap (λ (ws : List ℕ). x.key ∷ x.pointer ∷ ws) (log_words-append rest ys)

-- without records a row begins with the page's words
pub row_words-none : (base : PlainPage) → row_words base [] ≡ page_words base
row_words-none base = append-nil (page_words base)

-- a record more is two words behind the others
pub row_words-more : (base : PlainPage) (records : List Record) (r : Record) → row_words base (records ++ r ∷ []) ≡ row_words base records ++ record_words r
row_words-more base records r = ap (λ (ws : List ℕ). page_words base ++ ws) (log_words-append records (r ∷ [])) ∙ sym (append_assoc (page_words base) (log_words records) (record_words r))

-- ---- where they stand

-- the base's words
pub base_stands : (base : PlainPage) (records : List Record) (n : ℕ) → n < length (page_words base) → get_or (row_words base records) n 0 ≡ get_or (page_words base) n 0
base_stands base records n inside = get_or_append_left (page_words base) (log_words records) 0 n inside

pub begins_with_base : (base : PlainPage) (records : List Record) (words : List ℕ) → BeginsWith words (row_words base records) → BeginsWith words (page_words base)
begins_with_base base records words begins n inside =
    begins n (omega (arith, inside, length-append (page_words base) (log_words records))) ∙ base_stands base records n inside

-- the number of the base's entries
pub count_read : (base : PlainPage) (records : List Record) (words : List ℕ) → BeginsWith words (row_words base records) → get_or words 5 0 ≡ length base.entries
count_read base records words begins = begins 5 (omega (arith, length-row_words base records))

-- the base's entries, which words that begin with it say
flat_key : (entries : List (ℕ × ℕ)) (place : ℕ) → place < length entries → get_or (flat entries) (2 * place) 0 ≡ (get_or entries place (0, 0)).0
flat_key [] place inside = absurd (omega (arith, inside))
flat_key ((key, value) ∷ rest) zero inside = refl
flat_key ((key, value) ∷ rest) (suc place) inside =
    let two : 2 * suc place ≡ suc (suc (2 * place)) = omega arith in ap (λ (n : ℕ). get_or (key ∷ value ∷ flat rest) n 0) two ∙ flat_key rest place (omega (arith, inside))

flat_value : (entries : List (ℕ × ℕ)) (place : ℕ) → place < length entries → get_or (flat entries) (2 * place + 1) 0 ≡ (get_or entries place (0, 0)).1
flat_value [] place inside = absurd (omega (arith, inside))
flat_value ((key, value) ∷ rest) zero inside = refl
flat_value ((key, value) ∷ rest) (suc place) inside =
    let two : 2 * suc place + 1 ≡ suc (suc (2 * place + 1)) = omega arith in ap (λ (n : ℕ). get_or (key ∷ value ∷ flat rest) n 0) two ∙ flat_value rest place (omega (arith, inside))

pub entry_stands : (base : PlainPage) (words : List ℕ) → BeginsWith words (page_words base) → (place : ℕ) → place < length base.entries
    → (get_or words (HEAD_WORDS + 2 * place) 0 ≡ (get_or base.entries place (0, 0)).0) × (get_or words (HEAD_WORDS + 2 * place + 1) 0 ≡ (get_or base.entries place (0, 0)).1)
entry_stands base words begins place inside =
    let behind : (n : ℕ) → get_or (page_words base) (HEAD_WORDS + n) 0 ≡ get_or (flat base.entries) n 0 = λ n. let six : HEAD_WORDS + n ≡ suc (suc (suc (suc (suc (suc n))))) = omega arith in ap (λ (m : ℕ). get_or (page_words base) m 0) six in
    let sum : HEAD_WORDS + 2 * place + 1 ≡ HEAD_WORDS + (2 * place + 1) = omega arith in (
      begins (HEAD_WORDS + 2 * place) (omega (arith, inside, length-page_words base)) ∙ (behind (2 * place) ∙ flat_key base.entries place inside),
      begins (HEAD_WORDS + 2 * place + 1) (omega (arith, inside, length-page_words base)) ∙ (ap (λ (m : ℕ). get_or (page_words base) m 0) sum ∙ (behind (2 * place + 1) ∙ flat_value base.entries place inside)),
    )

-- the record with so many older ones
record_words_stand : (base : PlainPage) (older : List Record) (r : Record) (newer : List Record) (k : ℕ)
    → get_or (row_words base (older ++ r ∷ newer)) (HEAD_WORDS + 2 * (length base.entries + length older) + k) 0 ≡ get_or (r.key ∷ r.pointer ∷ log_words newer) k 0
record_words_stand base older r newer k =
    let place : HEAD_WORDS + 2 * (length base.entries + length older) + k ≡ length (page_words base) + (length (log_words older) + k) = omega (arith, length-page_words base, length-log_words older) in
    ap (λ (n : ℕ). get_or (row_words base (older ++ r ∷ newer)) n 0) place
    ∙ (get_or-append-add (page_words base) (log_words (older ++ r ∷ newer)) (length (log_words older) + k) 0
    ∙ (ap (λ (ws : List ℕ). get_or ws (length (log_words older) + k) 0) (log_words-append older (r ∷ newer))
    ∙ get_or-append-add (log_words older) (log_words (r ∷ newer)) k 0))

module _ (base : PlainPage) (older : List Record) (r : Record) (newer : List Record) where
  pub key_stands : (at : ℕ) → at ≡ HEAD_WORDS + 2 * (length base.entries + length older) → get_or (row_words base (older ++ r ∷ newer)) at 0 ≡ r.key
  key_stands at is = let same : at ≡ HEAD_WORDS + 2 * (length base.entries + length older) + 0 = omega (arith, is) in ap (λ (n : ℕ). get_or (row_words base (older ++ r ∷ newer)) n 0) same ∙ record_words_stand base older r newer 0

  pub pointer_stands : (at : ℕ) → at ≡ HEAD_WORDS + 2 * (length base.entries + length older) + 1 → get_or (row_words base (older ++ r ∷ newer)) at 0 ≡ r.pointer
  pointer_stands at is = ap (λ (n : ℕ). get_or (row_words base (older ++ r ∷ newer)) n 0) is ∙ record_words_stand base older r newer 1

  -- both are inside
  pub record_inside : HEAD_WORDS + 2 * (length base.entries + length older) + 1 < length (row_words base (older ++ r ∷ newer))
  record_inside = omega (arith, length-row_words base (older ++ r ∷ newer), length-append older (r ∷ newer))

-- what a row's words say of it
pub read_record : (base : PlainPage) (older : List Record) (r : Record) (newer : List Record) (words : List ℕ) → BeginsWith words (row_words base (older ++ r ∷ newer))
    → (at : ℕ) → at ≡ HEAD_WORDS + 2 * (length base.entries + length older) → (get_or words at 0 ≡ r.key) × (get_or words (at + 1) 0 ≡ r.pointer)
read_record base older r newer words begins at is =
    let inside = record_inside base older r newer in (
      begins at (omega (arith, inside, is)) ∙ key_stands base older r newer at is,
      begins (at + 1) (omega (arith, inside, is)) ∙ pointer_stands base older r newer (at + 1) (omega (arith, is)),
    )

-- words that begin with a row's, and go on with a record, begin with a row of one record more
pub begins_more : (base : PlainPage) (older : List Record) (r : Record) (words : List ℕ) → BeginsWith words (row_words base older)
    → (at : ℕ) → at ≡ HEAD_WORDS + 2 * (length base.entries + length older) → get_or words at 0 ≡ r.key → get_or words (at + 1) 0 ≡ r.pointer → BeginsWith words (row_words base (older ++ r ∷ []))
begins_more base older r words begins at is key pointer n inside =
    let long : length (row_words base older) ≡ at = omega (arith, length-row_words base older, is) in
    let longer : length (row_words base (older ++ r ∷ [])) ≡ at + 2 = omega (arith, length-row_words base (older ++ r ∷ []), length-append older (r ∷ []), is) in
    ⊎_elim
    (λ (before : n < at). begins n (omega (arith, before, long)) ∙ sym (ap (λ (ws : List ℕ). get_or ws n 0) (row_words-more base older r) ∙ get_or_append_left (row_words base older) (record_words r) 0 n (omega (arith, before, long))))
    (λ (behind : at ≤ n). ⊎_elim
    (λ (first : n ≡ at). ap (λ (k : ℕ). get_or words k 0) first ∙ (key ∙ sym (key_stands base older r [] n (first ∙ is))))
    (λ (other : n ≡ at → ⊥). let second : n ≡ at + 1 = omega (arith, behind, other, inside, longer) in
    ap (λ (k : ℕ). get_or words k 0) second ∙ (pointer ∙ sym (pointer_stands base older r [] n (omega (arith, second, is)))))
    (cases_eq n at))
    (cases_lt n at)

-- ---- room

-- a page without records
pub logged_none : (fan : ℕ) (page : PlainPage) → IsLawfulPage fan page → fan ≤ MAX_FAN → IsLogged fan page []
logged_none fan page lawful small = record {
  lawful = lawful;
  all_fit = tt;
  few = omega arith;
  room = omega (arith, length-row_words page [], lawful.at_most_fan);
}

-- with a record more
pub logged_more : (fan : ℕ) (base : PlainPage) (records : List Record) (r : Record) → IsLogged fan base records → Fits fan (page_with base records) r → length records < MAX_RECORDS
    → HEAD_WORDS + 2 * (length base.entries + length records + 1) ≤ ROW_WORDS → IsLogged fan base (records ++ r ∷ [])
logged_more fan base records r logged fits few room = record {
  lawful = logged.lawful;
  all_fit = fit_more fan base records r logged.all_fit fits;
  few = omega (arith, few, length-append records (r ∷ []));
  room = omega (arith, room, length-row_words base (records ++ r ∷ []), length-append records (r ∷ []));
}

-- ---- what words tell

-- the records are those of one log
same_log : (before also : ℕ) (xs ys : List Record) → length xs ≡ length ys → kinds_behind before xs ≡ kinds_behind also ys → log_words xs ≡ log_words ys → xs ≡ ys
same_log before also [] [] long kinds words = refl
same_log before also [] (y ∷ ys) long kinds words = absurd (omega (arith, long))
same_log before also (x ∷ xs) [] long kinds words = absurd (omega (arith, long))
same_log before also (x ∷ xs) (y ∷ ys) long kinds words =
    let many : length xs ≡ length ys = omega (arith, long) in
    let key : x.key ≡ y.key = cc in
    let pointer : x.pointer ≡ y.pointer = cc in
    let rest_words : log_words xs ≡ log_words ys = cc in
    let first : kinds_behind (4 * before + kind_number x.kind) xs / 2 ^ (2 * length xs) ≡ 4 * before + kind_number x.kind = kinds_before (4 * before + kind_number x.kind) xs in
    let second : kinds_behind (4 * also + kind_number y.kind) ys / 2 ^ (2 * length ys) ≡ 4 * also + kind_number y.kind = kinds_before (4 * also + kind_number y.kind) ys in
    let both : 4 * before + kind_number x.kind ≡ 4 * also + kind_number y.kind = sym first ∙ ((λ i. kinds i / 2 ^ (2 * many i)) ∙ second) in
    let numbers : kind_number x.kind ≡ kind_number y.kind = (let one = kind_below x.kind in let other = kind_below y.kind in omega (arith, both, one, other)) in
    let kind : x.kind ≡ y.kind = same_kind x.kind y.kind numbers in
    let rest : xs ≡ ys = same_log (4 * before + kind_number x.kind) (4 * also + kind_number y.kind) xs ys many kinds rest_words in
    λ i. let r : Record = record { kind = kind i; key = key i; pointer = pointer i } in r ∷ rest i

-- words tell one base
pub one_base : (base also : PlainPage) (words : List ℕ) → IsLawfulPage MAX_FAN base → IsLawfulPage MAX_FAN also → BeginsWith words (page_words base) → BeginsWith words (page_words also) → base ≡ also
one_base base also words first second one other =
    let counts : length base.entries ≡ length also.entries = sym (one 5 (omega (arith, length-page_words base))) ∙ other 5 (omega (arith, length-page_words also)) in
    let long : length (page_words base) ≡ length (page_words also) = omega (arith, counts, length-page_words base, length-page_words also) in
    let same : page_words base ≡ page_words also = ext_get_or 0 (page_words base) (page_words also) long (λ n inside. sym (one n inside) ∙ other n (omega (arith, inside, long))) in
    let word = λ (n : ℕ). ap (λ (ws : List ℕ). get_or ws n 0) same in
    let entries : flat base.entries ≡ flat also.entries = cc in
    same_page base also (word 0) (word 1) (word 2) (word 3) first.right_is_number second.right_is_number (word 4) entries

-- with the page word's count one log
pub one_log : (base also : PlainPage) (records others : List Record) (words : List ℕ) → base ≡ also → counted records ≡ counted others → BeginsWith words (row_words base records) → BeginsWith words (row_words also others) → records ≡ others
one_log base also records others words same_base same_told first second =
    let many : length records ≡ length others = ap (λ (r : Records). r.count) same_told in
    let kinds : kinds_behind 0 records ≡ kinds_behind 0 others = ap (λ (r : Records). r.kinds) same_told in
    let entries : length base.entries ≡ length also.entries = ap (λ (p : PlainPage). length p.entries) same_base in
    let long : length (row_words base records) ≡ length (row_words also others) = omega (arith, many, entries, length-row_words base records, length-row_words also others) in
    let rows : row_words base records ≡ row_words also others = ext_get_or 0 (row_words base records) (row_words also others) long (λ n inside. sym (first n inside) ∙ second n (omega (arith, inside, long))) in
    let logs : log_words records ≡ log_words others = behind (page_words base) (page_words also) (log_words records) (log_words others) (ap page_words same_base) rows in
    same_log 0 0 records others many kinds logs
  where
    behind : (xs ys vs ws : List ℕ) → xs ≡ ys → xs ++ vs ≡ ys ++ ws → vs ≡ ws
    behind [] [] vs ws same all = all
    behind [] (y ∷ ys) vs ws same all = cc
    behind (x ∷ xs) [] vs ws same all = cc
    behind (x ∷ xs) (y ∷ ys) vs ws same all = let tails : xs ≡ ys = cc in let rest : xs ++ vs ≡ ys ++ ws = cc in behind xs ys vs ws tails rest

-- so a row and its page word mean one page
pub one_page : (base also : PlainPage) (records others : List Record) (words : List ℕ) (told : Records) → IsLoggedRow base records words told → IsLoggedRow also others words told → page_with base records ≡ page_with also others
one_page base also records others words told first second =
    let same_base = one_base base also words first.logged.lawful second.logged.lawful (begins_with_base base records words first.begins) (begins_with_base also others words second.begins) in
    let same_log = one_log base also records others words same_base (first.counts ∙ sym second.counts) first.begins second.begins in
    λ i. page_with (same_base i) (same_log i)

-- ---- the base alone

-- words that begin with a base, and 0 behind it, are the base's row
pub row_of_base : (base : PlainPage) (words row : List ℕ) (count : ℕ) → count ≡ length base.entries → BeginsWith words (page_words base) → length row ≡ ROW_WORDS
    → ((n : ℕ) → n < HEAD_WORDS + 2 * count → get_or row n 0 ≡ get_or words n 0) → ((n : ℕ) → HEAD_WORDS + 2 * count ≤ n → get_or row n 0 ≡ 0) → IsPageRow base row
row_of_base base words row count is begins wide copied rest = record {
  width = wide;
  filled = λ n inside. ⊎_elim
      (λ (before : n < HEAD_WORDS + 2 * count). copied n before ∙ begins n (omega (arith, before, is, length-page_words base)))
      (λ (behind : HEAD_WORDS + 2 * count ≤ n). rest n behind ∙ sym (get_or_past (page_words base) n 0 (omega (arith, behind, is, length-page_words base))))
      (cases_lt n (HEAD_WORDS + 2 * count));
}

-- and a page whose row they are is a base with which they begin
pub base_of_row : (base : PlainPage) (words row : List ℕ) (count : ℕ) → get_or words 5 0 ≡ count → HEAD_WORDS + 2 * count ≤ ROW_WORDS → ((n : ℕ) → n < HEAD_WORDS + 2 * count → get_or row n 0 ≡ get_or words n 0)
    → IsPageRow base row → (count ≡ length base.entries) × BeginsWith words (page_words base)
base_of_row base words row count is room copied page =
    let entries : count ≡ length base.entries = sym is ∙ (sym (copied 5 (omega arith)) ∙ page.filled 5 (omega arith)) in
    (entries, λ n inside. let low : n < HEAD_WORDS + 2 * count = omega (arith, inside, entries, length-page_words base) in sym (copied n low) ∙ page.filled n (omega (arith, low, room)))
