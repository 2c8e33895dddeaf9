-- Where the pages that entries need have numbers, so have the leaves and the levels above at each step.
use Rattle.std.proofs.Common.{◌≡◌, ℕ, ◌+◌, ◌*◌, ◌<◌, ◌≤◌, ◌⊎◌, List, [], ◌∷◌, ◌++◌, inl, inr, length, ap, ◌∙◌, arith, length-append}
use Rattle.std.specs.List.{sum}
use Rattle.blink_page.specs.{PlainPage}
use Rattle.blink_page.specs.declared.limits.TheConstants.{MAX_PAGE}
use Rattle.blink_entries.specs.Packed.{AreFewest, NeedsPages}
use Rattle.blink_entries.specs.Packing.{AreEnough, AreLeaves, HasLeafNumber, HasNumbersAbove, entries_in}
use Rattle.blink_entries.proofs.packed.FewestPages.{fewest_enough, sum-cons}
use Rattle.blink_entries.proofs.packed.LeavesGrow.{entries_in-one, fewer_times}

-- the leaves that entries need, and the levels above
pub record InParts (fan count pages : ℕ) : Type 0 where
  pub leaves : ℕ
  pub above : List ℕ
  pub some : 1 ≤ leaves
  pub enough : count ≤ leaves * fan
  pub over : AreEnough fan leaves above
  pub all : pages ≡ leaves + sum above

pub in_parts : (fan count pages : ℕ) → NeedsPages fan count pages → InParts fan count pages
in_parts fan count pages needs = by needs.levels needs.fewest needs.all
  where
    by : (levels : List ℕ) → AreFewest fan count levels → pages ≡ sum levels → InParts fan count pages
    by [] fewest all = absurd fewest
    by (leaves ∷ []) fewest all = record { leaves = leaves; above = []; some = fewest.0.some; enough = fewest.0.enough; over = fewest_enough fan count leaves [] fewest; all = all ∙ sum-cons leaves [] }
    by (leaves ∷ next ∷ above) fewest all = record {
      leaves = leaves;
      above = next ∷ above;
      some = fewest.0.some;
      enough = fewest.0.enough;
      over = fewest_enough fan count leaves (next ∷ above) fewest;
      all = all ∙ sum-cons leaves (next ∷ above);
    }

pub more_than_enough : (fan count other : ℕ) (above : List ℕ) → count ≤ other → AreEnough fan other above → AreEnough fan count above
more_than_enough fan count other [] below enough = omega (arith, below, enough)
more_than_enough fan count other (pages ∷ above) below enough = (let most = enough.0 in omega (arith, below, most), enough.1)

module _ (fan count pages : ℕ) (needs : NeedsPages fan count pages) (in_range : pages ≤ MAX_PAGE) (leaves : List PlainPage) (are : AreLeaves fan leaves) where
  abbrev parts : InParts fan count pages
  parts = in_parts fan count pages needs

  pub number_for_entry : length (entries_in leaves) < count → HasLeafNumber fan leaves
  number_for_entry more =
      let enough = parts.enough in let all = parts.all in
      record { leaves = parts.leaves; enough = omega (arith, more, enough); in_range = omega (arith, all, in_range) }

  few_leaves : length (entries_in leaves) ≡ count → length leaves ≤ parts.leaves
  few_leaves is = by are.begun
    where
      by : (0 < length are.last.entries) ⊎ (are.before ≡ []) → length leaves ≤ parts.leaves
      by (inr none) = let long = ap length are.parts ∙ ap (λ (ps : List PlainPage). length (ps ++ are.last ∷ [])) none in let some = parts.some in omega (arith, long, some)
      by (inl some) =
          let all = ap length (ap entries_in are.parts ∙ entries_in-one are.before are.last) ∙ length-append (entries_in are.before) are.last.entries in
          let full = are.full in let enough = parts.enough in
          let fewer = fewer_times (length are.before) parts.leaves fan (omega (arith, all, full, enough, some, is)) in
          let long = ap length are.parts ∙ length-append are.before (are.last ∷ []) in
          omega (arith, fewer, long)

  pub numbers_above : length (entries_in leaves) ≡ count → HasNumbersAbove fan (length leaves)
  numbers_above is =
      let few = few_leaves is in let all = parts.all in
      record { above = parts.above; enough = more_than_enough fan (length leaves) parts.leaves parts.above few parts.over; in_range = omega (arith, few, all, in_range) }

  pub no_more_pages : length (entries_in leaves) ≡ count → (total : ℕ) → ((above : List ℕ) → AreEnough fan (length leaves) above → total ≤ length leaves + sum above) → total ≤ pages
  no_more_pages is total bound =
      let few = few_leaves is in let all = parts.all in
      let within = bound parts.above (more_than_enough fan (length leaves) parts.leaves parts.above few parts.over) in
      omega (arith, few, all, within)
