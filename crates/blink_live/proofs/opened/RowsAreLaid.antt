-- Each row that is laid adds a page to the words, until they are those of the whole tree.
use Rattle.std.proofs.Common.{◌≡◌, ◌≢◌, ℕ, ◌+◌, ◌*◌, ◌<◌, ◌≤◌, Some, List, [], length, replicate, sym, ap, ◌∙◌, subst, inl, inr, arith}
use Rattle.std.specs.Prelude.{slice_index}
use Rattle.std.proofs.lemmas.Bool.{cases_eq, cases_lt}
use Rattle.std.proofs.lemmas.List.{length-replicate, get_or-replicate, get_or_past}
use Rattle.blink_page.specs.{PlainPage}
use Rattle.blink_rows.specs.{PlainCounts, IsRowOf, IsPageRow, IsPrimeRow, page_words, prime_words}
use Rattle.blink_store.specs.{PlainStore, page_of}
use Rattle.blink_store.proofs.Offered.{has_page}
use Rattle.blink_live.specs.Laid.{IsLaid}
use Rattle.blink_live.specs.Laying.{IsOutside, LaysRow}
use Rattle.blink_live.specs.Words.{word_count, row_start, RowIs}

-- the prime block and the first pages are laid, and all other words are 0
pub record IsLaidTo (counts : PlainCounts) (store : PlainStore) (count : ℕ) (words : List ℕ) : Type 0 where
  pub width : length words ≡ word_count counts
  pub named : (number : ℕ) → number ≤ count → slice_index words number ≡ number + 1
  pub no_more : (place : ℕ) → count < place → place < 2 * counts.numbers → slice_index words place ≡ 0
  pub prime_row : RowIs counts words 1 (prime_words store.prime)
  pub page_rows : (number : ℕ) (page : PlainPage) → page_of store number ≡ Some page → number ≤ count → RowIs counts words (number + 1) (page_words page)
  pub blank_rows : (row : ℕ) → count + 2 ≤ row → row ≤ counts.rows → RowIs counts words row []

module _ (counts : PlainCounts) (old new : List ℕ) (number : ℕ) (row : List ℕ) (lays : LaysRow counts old new number row) (inside : number < counts.numbers) where
  -- the row behind the number is what these words are the row of
  new_row : (content : List ℕ) → IsRowOf row content → RowIs counts new (number + 1) content
  new_row content is i below = lays.row_is i below ∙ is.filled i below

  -- every other row stays
  other_row : (other : ℕ) (content : List ℕ) → 1 ≤ other → other ≢ number + 1 → RowIs counts old other content → RowIs counts new other content
  other_row other content least differs is i below = lays.others (row_start counts other + i) (λ same. omega arith) outside ∙ is i below
    where
      outside : IsOutside counts (number + 1) (row_start counts other + i)
      outside = elim (cases_lt other (number + 1)) [ inl less ↦ inl (omega arith) | inr more ↦ inr (omega (arith, differs)) ]

  -- and so does every other page word, and every latch word
  other_word : (place : ℕ) → place < 2 * counts.numbers → place ≢ number → slice_index new place ≡ slice_index old place
  other_word place early differs = lays.others place differs (inl (omega arith))

-- each word of zeros is 0
zero_at : (n place : ℕ) → slice_index (replicate n 0) place ≡ 0
zero_at n place = elim (cases_lt place n) [
  | inl inside ↦ get_or-replicate n place 0 0 inside
  | inr past ↦ get_or_past (replicate n 0) place 0 (omega (arith, length-replicate {A = ℕ} n 0))
]

-- the row of the prime block, in words that are all 0
pub prime_is_laid : (counts : PlainCounts) (store : PlainStore) (old new row : List ℕ) → old ≡ replicate (word_count counts) 0 → 0 < counts.numbers
    → LaysRow counts old new 0 row → IsPrimeRow store.prime row → IsLaidTo counts store 0 new
prime_is_laid counts store old new row zeros least lays is =
    let blank : (place : ℕ) → slice_index old place ≡ 0 = λ place. ap (λ (words : List ℕ). slice_index words place) zeros ∙ zero_at (word_count counts) place in
    record {
      width = lays.width ∙ ap length zeros ∙ length-replicate {A = ℕ} (word_count counts) 0;
      named = λ number early. let same : number ≡ 0 = omega arith in subst (λ (n : ℕ). slice_index new n ≡ n + 1) (sym same) lays.named;
      no_more = λ place late early. other_word counts old new 0 row lays least place early (λ same. omega arith) ∙ blank place;
      prime_row = new_row counts old new 0 row lays least (prime_words store.prime) is;
      page_rows = λ number page there early. let has = has_page store number page there in absurd (omega arith);
      blank_rows = λ r late early. other_row counts old new 0 row lays least r [] (omega arith) (λ same. omega arith) (λ i below. blank (row_start counts r + i));
    }

-- the row of the next page
pub page_is_laid : (counts : PlainCounts) (store : PlainStore) (count : ℕ) (old new row : List ℕ) (page : PlainPage) → IsLaidTo counts store count old → count + 1 < counts.numbers
    → page_of store (count + 1) ≡ Some page → LaysRow counts old new (count + 1) row → IsPageRow page row → IsLaidTo counts store (count + 1) new
page_is_laid counts store count old new row page laid inside there lays is = record {
  width = lays.width ∙ laid.width;
  named = λ number early. elim (cases_eq number (count + 1)) [
    | inl same ↦ subst (λ (n : ℕ). slice_index new n ≡ n + 1) (sym same) lays.named
    | inr other ↦ other_word counts old new (count + 1) row lays inside number (omega arith) other ∙ laid.named number (omega (arith, other))
  ];
  no_more = λ place late early. other_word counts old new (count + 1) row lays inside place early (λ same. omega arith) ∙ laid.no_more place (omega arith) early;
  prime_row = other_row counts old new (count + 1) row lays inside 1 (prime_words store.prime) (omega arith) (λ same. omega arith) laid.prime_row;
  page_rows = λ number other its early. elim (cases_eq number (count + 1)) [
    | inl same ↦
        let one : page ≡ other = cc (there, its, ap (page_of store) same) in
        subst (λ (n : ℕ). RowIs counts new (n + 1) (page_words other)) (sym same)
        (subst (λ (p : PlainPage). RowIs counts new (count + 1 + 1) (page_words p)) one (new_row counts old new (count + 1) row lays inside (page_words page) is))
    | inr differs ↦
        other_row counts old new (count + 1) row lays inside (number + 1) (page_words other) (omega arith) (λ same. differs (omega arith)) (laid.page_rows number other its (omega (arith, differs)))
  ];
  blank_rows = λ r late early. other_row counts old new (count + 1) row lays inside r [] (omega arith) (λ same. omega arith) (laid.blank_rows r (omega arith) early);
}

-- when the last page is laid, all is
pub all_is_laid : (counts : PlainCounts) (store : PlainStore) (words : List ℕ) → IsLaidTo counts store (length store.pages) words → IsLaid counts store words
all_is_laid counts store words laid = record {
  width = laid.width;
  page_words_named = laid.named;
  no_more = laid.no_more;
  prime_row = laid.prime_row;
  page_rows = λ number page there. laid.page_rows number page there (has_page store number page there).1;
  blank_rows = laid.blank_rows;
}
