-- What is so of a table's words when a row is stored behind a number and named in the number's page word.
use Rattle.std.proofs.Common.{◌≡◌, inl, inr, ℕ, ◌+◌, ◌-◌, ◌<◌, ◌≤◌, List, ◌++◌, length, get_or, set, take, drop, sym, ap, ◌∙◌, arith, length-append, length-drop, length-set, get_or-set_same, get_or-set_other}
use Rattle.std.proofs.lemmas.List.{length-take-le, get_or-take, get_or-drop, get_or_append_left, get_or-append_right}
use borrow.Rule.Slice.PartMut.{put_mid}
use Rattle.blink_rows.specs.{PlainCounts}
use Rattle.blink_rows.specs.declared.limits.TheConstants.{ROW_WORDS}
use Rattle.blink_live.specs.Laying.{IsOutside, LaysRow}
use Rattle.blink_live.specs.Words.{word_count, row_start}

-- some words in the place of as many others
module _ (words stored : List ℕ) (start count : ℕ) (inside : start + count ≤ length words) (long : length stored ≡ count) where
  abbrev new : List ℕ
  new = put_mid start count words stored

  prefix : length (take start words) ≡ start
  prefix = length-take-le start words (omega (arith, inside))

  same_length : length new ≡ length words
  same_length =
      let rest = length-drop count (drop start words) ∙ ap (λ (n : ℕ). n - count) (length-drop start words) in
      omega (arith, length-append (take start words) (stored ++ drop count (drop start words)), length-append stored (drop count (drop start words)), prefix, rest, inside, long)

  below : (n : ℕ) → n < start → get_or new n 0 ≡ get_or words n 0
  below n less = get_or_append_left (take start words) (stored ++ drop count (drop start words)) 0 n (omega (arith, prefix, less)) ∙ get_or-take start words n 0 less

  behind_prefix : (n : ℕ) → start ≤ n → get_or new n 0 ≡ get_or (stored ++ drop count (drop start words)) (n - start) 0
  behind_prefix n more = get_or-append_right (take start words) (stored ++ drop count (drop start words)) start n 0 prefix more

  within : (i : ℕ) → i < count → get_or new (start + i) 0 ≡ get_or stored i 0
  within i less =
      let at : start + i - start ≡ i = omega arith in
      behind_prefix (start + i) (omega arith) ∙ (ap (λ (n : ℕ). get_or (stored ++ drop count (drop start words)) n 0) at ∙ get_or_append_left stored (drop count (drop start words)) 0 i (omega (arith, less, long)))

  above : (n : ℕ) → start + count ≤ n → get_or new n 0 ≡ get_or words n 0
  above n more =
      let at : start + (count + (n - start - count)) ≡ n = omega (arith, more) in
      behind_prefix n (omega (arith, more))
      ∙ (get_or-append_right stored (drop count (drop start words)) count (n - start) 0 long (omega (arith, more))
      ∙ (get_or-drop count (drop start words) (n - start - count) 0
      ∙ (get_or-drop start words (count + (n - start - count)) 0 ∙ ap (λ (k : ℕ). get_or words k 0) at)))

pub row_is_stored : (counts : PlainCounts) (words row stored : List ℕ) (number named start count : ℕ) → length words ≡ word_count counts → number < counts.numbers → number < counts.rows → named ≡ number + 1
    → start ≡ row_start counts named → count ≡ ROW_WORDS → length stored ≡ count → stored ≡ row → LaysRow counts words (put_mid start count (set words number named) stored) number row
row_is_stored counts words row stored number named start count width in_numbers in_rows is_named is_start is_count long is_row =
    let old : List ℕ = set words number named in
    let at : start ≡ row_start counts (number + 1) = is_start ∙ ap (row_start counts) is_named in
    let old_width : length old ≡ length words = length-set words number named in
    let inside : start + count ≤ length old = omega (arith, at, width, old_width, in_numbers, in_rows, is_count) in record {
      width = same_length old stored start count inside long ∙ old_width;
      named = below old stored start count inside long number (omega (arith, at, in_numbers)) ∙ (get_or-set_same words number named 0 (omega (arith, width, in_numbers)) ∙ is_named);
      row_is = λ i less.
          ap (λ (n : ℕ). get_or (put_mid start count old stored) (n + i) 0) (sym at)
          ∙ (within old stored start count inside long i (omega (arith, less, is_count)) ∙ ap (λ (l : List ℕ). get_or l i 0) is_row);
      others = λ place other outside. stays place outside ∙ get_or-set_other words number place named 0 other;
    }
  where
    stays : (place : ℕ) → IsOutside counts (number + 1) place → get_or (put_mid start count (set words number named) stored) place 0 ≡ get_or (set words number named) place 0
    stays place (inl less) =
        let at = is_start ∙ ap (row_start counts) is_named in
        let old_width = length-set words number named in
        below (set words number named) stored start count (omega (arith, at, width, old_width, in_numbers, in_rows, is_count)) long place (omega (arith, at, less))
    stays place (inr more) =
        let at = is_start ∙ ap (row_start counts) is_named in
        let old_width = length-set words number named in
        above (set words number named) stored start count (omega (arith, at, width, old_width, in_numbers, in_rows, is_count)) long place (omega (arith, at, more, is_count))
