use Rattle.std.proofs.Common.{◌≡◌, ℕ, ◌+◌, ◌<◌, ◌≤◌, ◌∷◌, [], take, drop, get_or, length, All, true, ap, subst, sym, refl, ◌∙◌, arith}
use Rattle.blink_page.specs.{IsPageNumber}
use Rattle.blink_rows.specs.declared.limits.TheConstants.{ROW_WORDS, HEAD_WORDS}
use Rattle.blink_rows.specs.Row.{AreZero, IsRowOfNoPrime}
use Rattle.blink_rows.proofs.RowsOfContent.{length_behind_head, row_of_parts, first_six}
use Rattle.blink_rows.proofs.WhatRowsSay.{zero_head, zero_from_head, count_of_prime_row, pages_of_prime_row, rest_of_prime_row, if_none}
use Rattle.blink_rows.proofs.primes.row_prime.Goals as goal
use Rattle.blink_rows.proofs.primes.row_prime.Goals.{then-not-are_zero-via-then-not-are_zero, then-not-are_zero-via-else-not-are_zero+then-levels-eq0, then-not-are_zero-via-else-not-are_zero+else-levels-eq0+then-levels}

pub returns-then-not-are_zero-clause-none : goal.returns-then-not-are_zero-clause-none
returns-then-not-are_zero-clause-none c leftmost lawful row =
    let levels = count_of_prime_row leftmost c.args.words.now row in
    elim c.then-not-are_zero.branch [
      | then-not-are_zero-via-then-not-are_zero w ↦ (let yes : c.are_zero.result ≡ true = c.are_zero.ensures.1 (zero_head leftmost c.args.words.now row) in cc)
      | then-not-are_zero-via-else-not-are_zero+then-levels-eq0 w ↦ omega (arith, lawful.one_at_least)
      | then-not-are_zero-via-else-not-are_zero+else-levels-eq0+then-levels w ↦ omega (arith, lawful.at_most_levels)
    ]

pub returns-in_err-content-clause-none : goal.returns-in_err-content-clause-none
returns-in_err-content-clause-none c =
    let words = c.args.words.now in
    if_none _ (IsRowOfNoPrime words) (λ leftmost lawful row.
    let rest = rest_of_prime_row leftmost words row lawful.at_most_levels in
    c.in_err-content.ensures.none (subst (λ n. AreZero (drop n (drop HEAD_WORDS words))) (sym (count_of_prime_row leftmost words row)) rest))

pub returns-in_err-leftmost-clause-none : goal.returns-in_err-leftmost-clause-none
returns-in_err-leftmost-clause-none c =
    let words = c.args.words.now in
    if_none _ (IsRowOfNoPrime words) (λ leftmost lawful row.
    let count = count_of_prime_row leftmost words row in
    let pages = c.in_ok-content.ensures.found ∙ ap (λ n. take n (drop HEAD_WORDS words)) count ∙ pages_of_prime_row leftmost words row lawful.at_most_levels in
    c.in_err-leftmost.ensures.none (subst (All IsPageNumber) (sym pages) lawful.page_numbers))

pub returns-clause-prime : goal.returns-clause-prime
returns-clause-prime c =
    let words = c.args.words.now in
    let pages = c.in_ok-leftmost.ensures.pages ∙ c.in_ok-content.ensures.found in
    let zero = c.are_zero.ensures.0 c.if-not-are_zero.false in
    let few : HEAD_WORDS + get_or words 5 0 ≤ ROW_WORDS = omega arith in
    let count : get_or words 5 0 ≡ length c.in_ok-leftmost.leftmost.items = sym (ap length pages ∙ length_behind_head words (get_or words 5 0) c.told-words few) in
    let at = λ (n : ℕ) (below : n < 5). zero_from_head words n c.told-words zero below in
    row_of_parts words (0 ∷ 0 ∷ 0 ∷ 0 ∷ 0 ∷ length c.in_ok-leftmost.leftmost.items ∷ []) c.in_ok-leftmost.leftmost.items refl c.told-words
    (first_six _ (at 0 (omega arith)) (at 1 (omega arith)) (at 2 (omega arith)) (at 3 (omega arith)) (at 4 (omega arith)) count)
    (ap (λ n. take n (drop HEAD_WORDS words)) (sym count) ∙ sym pages)
    (subst (λ n. AreZero (drop n (drop HEAD_WORDS words))) count c.in_ok-content.ensures.rest)
