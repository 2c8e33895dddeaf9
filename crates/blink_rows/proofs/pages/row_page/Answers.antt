use Rattle.std.proofs.Common.{◌≡◌, ℕ, List, ◌+◌, ◌*◌, ◌≤◌, ◌∷◌, [], take, drop, get_or, length, true, ap, subst, sym, refl, ◌∙◌, arith}
use Rattle.std.specs.Prelude.{unwrap_or}
use Rattle.blink_page.specs.declared.limits.TheConstants.{MAX_FAN}
use Rattle.blink_page.specs.{PlainPage, IsLawfulPage}
use Rattle.blink_rows.specs.declared.limits.TheConstants.{ROW_WORDS, HEAD_WORDS}
use Rattle.blink_rows.specs.Row.{flat, flag, AreZero, IsRowOfNoPage}
use Rattle.blink_rows.proofs.RowsOfContent.{length_behind_head, row_of_parts, first_six}
use Rattle.blink_rows.proofs.EntriesAsWords.{length-flat}
use Rattle.blink_rows.proofs.WhatRowsSay.{same_page, count_of_page_row, entries_of_page_row, rest_of_page_row, if_none}
use Rattle.blink_rows.proofs.pages.row_page.Goals as goal

pub returns-in_err-content-clause-none : goal.returns-in_err-content-clause-none
returns-in_err-content-clause-none c =
    let words = c.args.words.now in
    if_none _ (IsRowOfNoPage words) (λ p lawful row.
    let count : c.in_ok-count.count ≡ length p.entries = c.in_ok-count.ensures.some.0 ∙ count_of_page_row p words row in
    let rest = rest_of_page_row p words row lawful.at_most_fan in
    c.in_err-content.ensures.none (subst (λ n. AreZero (drop (2 * n) (drop HEAD_WORDS words))) (sym count) rest))

pub returns-then-not-is_lawful-clause-none : goal.returns-then-not-is_lawful-clause-none
returns-then-not-is_lawful-clause-none c p lawful row =
    let words = c.args.words.now in
    let count : c.in_ok-count.count ≡ length p.entries = c.in_ok-count.ensures.some.0 ∙ count_of_page_row p words row in
    let read : flat c.entries_of-items.result.items ≡ take (2 * c.in_ok-count.count) (drop HEAD_WORDS words) = c.entries_of-items.ensures.words ∙ c.in_ok-content.ensures.found in
    let entries : flat c.entries_of-items.result.items ≡ flat p.entries = read ∙ ap (λ n. take (2 * n) (drop HEAD_WORDS words)) count ∙ entries_of_page_row p words row lawful.at_most_fan in
    let items : flat c.deref.result.now ≡ flat p.entries = ap flat c.deref.ensures.0 ∙ entries in
    let same = same_page (record { level = c.in_ok-level.level; floor = c.in_ok-floor.floor; high = get_or words 3 0; right = c.in_ok-right.right; entries = c.deref.result.now }) p
    (c.in_ok-level.ensures.some.0 ∙ row.filled 0 (omega arith))
    (c.in_ok-floor.ensures.some.0 ∙ row.filled 1 (omega arith))
    (c.in_ok-floor.ensures.some.1 ∙ row.filled 2 (omega arith))
    (row.filled 3 (omega arith))
    c.in_ok-right.ensures.number lawful.right_is_number
    (c.in_ok-right.ensures.link ∙ row.filled 4 (omega arith))
    items in
    let yes : c.is_lawful.result ≡ true = c.is_lawful.ensures.1 (subst (IsLawfulPage MAX_FAN) (sym same) lawful) in
    cc

pub returns-clause-page : goal.returns-clause-page
returns-clause-page c =
    let words = c.args.words.now in
    let read : flat c.entries_of-items.result.items ≡ take (2 * c.in_ok-count.count) (drop HEAD_WORDS words) = c.entries_of-items.ensures.words ∙ c.in_ok-content.ensures.found in
    let few : HEAD_WORDS + 2 * c.in_ok-count.count ≤ ROW_WORDS = omega (arith, c.in_ok-count.ensures.some.1) in
    let count : 2 * c.in_ok-count.count ≡ length (flat c.entries_of-items.result.items) = sym (ap length read ∙ length_behind_head words (2 * c.in_ok-count.count) c.told-words few) in
    row_of_parts words
    (c.in_ok-level.level ∷ flag c.in_ok-floor.floor ∷ unwrap_or c.in_ok-floor.floor 0 ∷ get_or words 3 0 ∷ unwrap_or c.in_ok-right.right 0 ∷ length c.entries_of-items.result.items ∷ [])
    (flat c.entries_of-items.result.items) refl c.told-words
    (first_six _ (sym c.in_ok-level.ensures.some.0) (sym c.in_ok-floor.ensures.some.0) (sym c.in_ok-floor.ensures.some.1) refl (sym c.in_ok-right.ensures.link)
    (omega (arith, length-flat c.entries_of-items.result.items, count, c.in_ok-count.ensures.some.0)))
    (ap (λ n. take n (drop HEAD_WORDS words)) (sym count) ∙ sym read)
    (subst (λ n. AreZero (drop n (drop HEAD_WORDS words))) count c.in_ok-content.ensures.rest)

-- the parts were found lawful
pub invariant_of-result : goal.invariant_of-result
invariant_of-result c =
    let right = c.in_ok-right.right in
    let page : List (ℕ × ℕ) → PlainPage = λ entries. record { level = c.in_ok-level.level; floor = c.in_ok-floor.floor; high = get_or c.args.words.now 3 0; right = right; entries = entries } in
    subst (λ (entries : List (ℕ × ℕ)). IsLawfulPage MAX_FAN (page entries)) c.deref.ensures.0 (c.is_lawful.ensures.0 c.if-not-is_lawful.false)
