-- Rows and what they begin with.
use Rattle.std.proofs.Common.{◌≡◌, ◌≢◌, ℕ, ◌+◌, ◌-◌, ◌<◌, ◌≤◌, zero, suc, List, [], ◌∷◌, ◌++◌, length, get_or, set, replicate, take, drop, refl, ap, sym, ◌∙◌, ⊎_elim, arith, length-set, get_or-set_same, get_or-set_other}
use Rattle.std.proofs.lemmas.Bool.{cases_eq, cases_lt}
use Rattle.std.proofs.lemmas.List.{append_assoc, get_or_push, get_or_past, get_or-take, get_or-drop, get_or-append-add, get_or_append_left, get_or-append_right, ext_get_or, length-append, length-replicate, length-drop, length-take-le, take_all}
use Rattle.blink_rows.specs.declared.limits.TheConstants.{ROW_WORDS, HEAD_WORDS}
use Rattle.blink_rows.specs.Row.{AreZero, IsRowOf}

-- one word more at the end changes no other
get_or_before_push : (xs : List ℕ) (x n : ℕ) → n ≢ length xs → get_or (xs ++ x ∷ []) n 0 ≡ get_or xs n 0
get_or_before_push [] x zero other = absurd (other refl)
get_or_before_push [] x (suc n) other = refl
get_or_before_push (y ∷ ys) x zero other = refl
get_or_before_push (y ∷ ys) x (suc n) other = get_or_before_push ys x n (λ same. other (omega arith))

-- a word written behind the content
pub row_with_more : (words content : List ℕ) (at x : ℕ) → IsRowOf words content → length content ≡ at → at < ROW_WORDS → IsRowOf (set words at x) (content ++ x ∷ [])
row_with_more words content at x row ends inside = record {
  width = length-set words at x ∙ row.width;
  filled = λ n below. ⊎_elim
      (λ here. let same : n ≡ at = here in
      rw same (get_or-set_same words at x 0 (omega (arith, row.width)) ∙ sym (get_or_push content x 0 at ends)))
      (λ (other : n ≢ at). get_or-set_other words at n x 0 other ∙ row.filled n below ∙ sym (get_or_before_push content x n (λ same. other (same ∙ ends))))
      (cases_eq n at);
}

-- two words written behind the content
pub row_with_two_more : (words content : List ℕ) (at x y : ℕ) → IsRowOf words content → length content ≡ at → at + 1 < ROW_WORDS → IsRowOf (set (set words at x) (at + 1) y) (content ++ x ∷ y ∷ [])
row_with_two_more words content at x y row ends inside =
    let first = row_with_more words content at x row ends (omega arith) in
    let longer : length (content ++ x ∷ []) ≡ at + 1 = omega (arith, length-append content (x ∷ []), ends) in
    rw append_assoc at (row_with_more (set words at x) (content ++ x ∷ []) (at + 1) y first longer inside)

-- zeros behind some words are as no words
get_or_zeros : (xs : List ℕ) (k n : ℕ) → get_or (xs ++ replicate k 0) n 0 ≡ get_or xs n 0
get_or_zeros [] zero n = refl
get_or_zeros [] (suc k) zero = refl
get_or_zeros [] (suc k) (suc n) = get_or_zeros [] k n
get_or_zeros (x ∷ xs) k zero = refl
get_or_zeros (x ∷ xs) k (suc n) = get_or_zeros xs k n

-- words and then zeros
pub row_of_words : (words : List ℕ) (k : ℕ) → length words + k ≡ ROW_WORDS → IsRowOf (words ++ replicate k 0) words
row_of_words words k fits = record {
  width = omega (arith, fits, length-append words (replicate k 0), length-replicate {A = ℕ} k 0);
  filled = λ n below. get_or_zeros words k n;
}

-- two rows of the same content are the same words
pub content_has_one_row : (xs ys content : List ℕ) → IsRowOf xs content → IsRowOf ys content → xs ≡ ys
content_has_one_row xs ys content first second =
    ext_get_or 0 xs ys (first.width ∙ sym second.width) (λ n below. let inside : n < ROW_WORDS = omega (arith, first.width) in first.filled n inside ∙ sym (second.filled n inside))

-- all words behind the head
pub all_behind_head : (words : List ℕ) → length words ≡ ROW_WORDS → take (ROW_WORDS - HEAD_WORDS) (drop HEAD_WORDS words) ≡ drop HEAD_WORDS words
all_behind_head words wide = take_all (ROW_WORDS - HEAD_WORDS) (drop HEAD_WORDS words) (omega (arith, length-drop HEAD_WORDS words))

-- so many of them
pub length_behind_head : (words : List ℕ) (n : ℕ) → length words ≡ ROW_WORDS → HEAD_WORDS + n ≤ ROW_WORDS → length (take n (drop HEAD_WORDS words)) ≡ n
length_behind_head words n wide fits = length-take-le n (drop HEAD_WORDS words) (omega (arith, length-drop HEAD_WORDS words))

module _ (words head body : List ℕ) (six : length head ≡ HEAD_WORDS) where
  -- what stands behind the head of a row
  module _ (row : IsRowOf words (head ++ body)) (fits : HEAD_WORDS + length body ≤ ROW_WORDS) where
    behind_head : (n : ℕ) → HEAD_WORDS + n < ROW_WORDS → get_or (drop HEAD_WORDS words) n 0 ≡ get_or body n 0
    behind_head n inside =
        let at : length head + n ≡ HEAD_WORDS + n = omega (arith, six) in
        get_or-drop HEAD_WORDS words n 0 ∙ row.filled (HEAD_WORDS + n) inside ∙ rw at at (get_or-append-add head body n 0)

    long : length (drop HEAD_WORDS words) ≡ ROW_WORDS - HEAD_WORDS
    long = omega (arith, length-drop HEAD_WORDS words, row.width)

    pub body_of_row : take (length body) (drop HEAD_WORDS words) ≡ body
    body_of_row =
        let same : length (take (length body) (drop HEAD_WORDS words)) ≡ length body = length-take-le (length body) (drop HEAD_WORDS words) (omega (arith, long)) in
        ext_get_or 0 _ body same (λ n below. let inside : n < length body = omega (arith, same) in get_or-take (length body) (drop HEAD_WORDS words) n 0 inside ∙ behind_head n (omega arith))

    -- and behind that
    pub rest_of_row : AreZero (drop (length body) (drop HEAD_WORDS words))
    rest_of_row n below =
        get_or-drop (length body) (drop HEAD_WORDS words) n 0
        ∙ behind_head (length body + n) (omega (arith, long, length-drop (length body) (drop HEAD_WORDS words)))
        ∙ get_or_past body (length body + n) 0 (omega arith)

  -- a row is what begins with the head, goes on with the rest of the content, and ends with zeros
  pub row_of_parts : length words ≡ ROW_WORDS → ((n : ℕ) → n < HEAD_WORDS → get_or words n 0 ≡ get_or head n 0) → take (length body) (drop HEAD_WORDS words) ≡ body
      → AreZero (drop (length body) (drop HEAD_WORDS words)) → IsRowOf words (head ++ body)
  row_of_parts wide prefix middle rest = record {
    width = wide;
    filled = λ n below. ⊎_elim
        (λ (in_head : n < HEAD_WORDS). prefix n in_head ∙ sym (get_or_append_left head body 0 n (omega (arith, six))))
        (λ (behind : HEAD_WORDS ≤ n).
        let at : HEAD_WORDS + (n - HEAD_WORDS) ≡ n = omega arith in
        let long : length (drop HEAD_WORDS words) ≡ ROW_WORDS - HEAD_WORDS = omega (arith, length-drop HEAD_WORDS words) in
        let here : get_or words n 0 ≡ get_or (drop HEAD_WORDS words) (n - HEAD_WORDS) 0 = sym (get_or-drop HEAD_WORDS words (n - HEAD_WORDS) 0 ∙ ap (λ m. get_or words m 0) at) in
        here ∙ ⊎_elim
        (λ (in_body : n - HEAD_WORDS < length body). sym (get_or-take (length body) (drop HEAD_WORDS words) (n - HEAD_WORDS) 0 in_body) ∙ ap (λ ws. get_or ws (n - HEAD_WORDS) 0) middle)
        (λ (past : length body ≤ n - HEAD_WORDS).
        let last : length body + (n - HEAD_WORDS - length body) ≡ n - HEAD_WORDS = omega arith in
        let zero_there = rest (n - HEAD_WORDS - length body) (omega (arith, long, length-drop (length body) (drop HEAD_WORDS words))) in
        ap (λ m. get_or (drop HEAD_WORDS words) m 0) (sym last) ∙ sym (get_or-drop (length body) (drop HEAD_WORDS words) (n - HEAD_WORDS - length body) 0) ∙ zero_there ∙ sym (get_or_past body (n - HEAD_WORDS) 0 past))
        (cases_lt (n - HEAD_WORDS) (length body))
        ∙ sym (get_or-append_right head body HEAD_WORDS n 0 six behind))
        (cases_lt n HEAD_WORDS);
  }

-- what holds at each of the first six places
pub first_six : (P : ℕ → Type 0) → P 0 → P 1 → P 2 → P 3 → P 4 → P 5 → (n : ℕ) → n < 6 → P n
first_six P a b c d e f zero below = a
first_six P a b c d e f (suc zero) below = b
first_six P a b c d e f (suc (suc zero)) below = c
first_six P a b c d e f (suc (suc (suc zero))) below = d
first_six P a b c d e f (suc (suc (suc (suc zero)))) below = e
first_six P a b c d e f (suc (suc (suc (suc (suc zero))))) below = f
first_six P a b c d e f (suc (suc (suc (suc (suc (suc n)))))) below = absurd (omega arith)
