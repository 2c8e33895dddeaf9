-- Page words that name rows.
use Rattle.std.proofs.Common.{◌≡◌, ℕ, ◌<◌, ◌≤◌, List, [], length, sym, ap, ◌∙◌, subst, arith}
use mathlib.Core.List.{append-nil}
use Rattle.blink_page.specs.{PlainPage}
use Rattle.std.specs.Prelude.{slice_index}
use Rattle.blink_rows.specs.{AreBounded, PlainCounts, page_words, row_in}
use Rattle.blink_rows.proofs.Offered.{row_of_row, rows_are_below}
use Rattle.blink_live.specs.declared.view.Plan.{Plan}
use Rattle.blink_live.specs.Rule.{AreNamedBy, IsPublished, Names, NamesPage, Owners}
use Rattle.blink_live.specs.Words.{RowBegins, named_row}
use Rattle.blink_live.proofs.table.VersionsOfPages.{unlogged}

-- 0 names no row
pub no_row_in_0 : row_in 0 ≡ 0
no_row_in_0 = row_of_row 0 (omega arith)

pub no_row_in : (word : ℕ) → word ≡ 0 → row_in word ≡ 0
no_row_in word is = ap row_in is ∙ no_row_in_0

-- a row's number is the page word that names the row
pub row_names_itself : (plan : Plan) (row : ℕ) → AreBounded plan.counts → row ≤ plan.counts.rows → row_in row ≡ row
row_names_itself plan row bounded inside = row_of_row row (rows_are_below plan.counts row bounded inside)

pub names_its_row : (plan : Plan) (owners : Owners) (words : List ℕ) (row : ℕ) (content : List ℕ) → AreBounded plan.counts → IsPublished plan owners row → RowBegins plan.counts words row content → owners.fixed row ≡ length content → Names plan owners words row content
names_its_row plan owners words row content bounded published begins fixed =
    let same : row ≡ row_in row = sym (row_names_itself plan row bounded published.0.1) in record {
      published = subst (IsPublished plan owners) same published;
      begins = subst (λ (r : ℕ). RowBegins plan.counts words r content) same begins;
      fixed = ap owners.fixed (sym same) ∙ fixed;
    }

-- and it counts no records, so the page stands there alone
pub names_its_page : (plan : Plan) (owners : Owners) (words : List ℕ) (row : ℕ) (page : PlainPage) → AreBounded plan.counts → IsPublished plan owners row → RowBegins plan.counts words row (page_words page) → owners.fixed row ≡ length (page_words page) → NamesPage plan owners words row page
names_its_page plan owners words row page bounded published begins fixed =
    let names = names_its_row plan owners words row (page_words page) bounded published begins fixed in record {
      base = page;
      behind = [];
      published = names.published;
      begins = subst (RowBegins plan.counts words (row_in row)) (sym (append-nil (page_words page))) names.begins;
      fixed = names.fixed ∙ ap (λ (ws : List ℕ). length ws) (sym (append-nil (page_words page)));
      version = unlogged row page (rows_are_below plan.counts row bounded published.0.1);
    }

-- a word that named a row names it under other owners, if they leave the row published
pub names_still : (plan : Plan) (old new : Owners) (words : List ℕ) (word : ℕ) (content : List ℕ) → new.row (row_in word) ≡ 0 → new.fixed (row_in word) ≡ old.fixed (row_in word) → Names plan old words word content → Names plan new words word content
names_still plan old new words word content unowned same is = record { published = (is.published.0, unowned); begins = is.begins; fixed = same ∙ is.fixed }

pub page_still_named : (plan : Plan) (old new : Owners) (words : List ℕ) (word : ℕ) (page : PlainPage) → new.row (row_in word) ≡ 0 → new.fixed (row_in word) ≡ old.fixed (row_in word) → NamesPage plan old words word page → NamesPage plan new words word page
page_still_named plan old new words word page unowned same is = record { base = is.base; behind = is.behind; published = (is.published.0, unowned); begins = is.begins; fixed = same ∙ is.fixed; version = is.version }

-- page words that are the same name the same rows
pub same_names : (counts : PlainCounts) (named_by : ℕ → ℕ) (old new : List ℕ) → ((n : ℕ) → n < counts.numbers → slice_index new n ≡ slice_index old n) → AreNamedBy counts named_by old → AreNamedBy counts named_by new
same_names counts named_by old new same is number few some =
    let row : named_row new number ≡ named_row old number = ap row_in (same number few) in
    ap named_by row ∙ is number few (omega (arith, some, row))
