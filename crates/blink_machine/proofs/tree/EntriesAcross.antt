-- The entries of a whole level, where one of its pages gives way to others: a change of the page's entries is one of the level's.
use Rattle.std.proofs.Common.{◌≡◌, ℕ, ◌+◌, ◌<◌, Some, None, List, ◌∷◌, ◌++◌, sym, ap, ◌∙◌, arith}
use Rattle.blink_page.specs.{added, removed, replaced, posted, IsKeyOf, least_above, IsRising}
use Rattle.blink_page.specs.declared.limits.TheConstants.{GREATEST_KEY}
use Rattle.blink_page.proofs.Offered.{added-append_prefix, added-append_rest, posted-append_prefix, posted-append_rest, removed-append_prefix, removed-append_rest, replaced-append_prefix, replaced-append_rest}
use Rattle.blink_rest.specs.{Pages, entries_along}
use Rattle.blink_rest.specs.Chain.{Cell}
use Rattle.blink_rest.proofs.Offered.{entries_along-append, line_rising}
use Rattle.blink_machine.specs.TreeWithDebts.{Levels}
use Rattle.blink_machine.proofs.tree.WherePagesStand.{Stands}
use Rattle.blink_machine.proofs.tree.PageGivesWay.{cells_after, cells_after-is}

module _ (fan : ℕ) (prime : List ℕ) (pages : Pages) (levels : Levels) (level : ℕ) (c : Cell) (here : Stands fan prime pages levels level c) where
  -- the entries of the pages before the page
  abbrev entries_before : List (ℕ × ℕ)
  entries_before = entries_along here.before

  -- those of the pages after it
  abbrev entries_rest : List (ℕ × ℕ)
  entries_rest = entries_along here.rest

  -- the first rise up to the page's floor
  rises_before : IsRising 0 entries_before (least_above c.page.floor)
  rises_before = line_rising fan level None (Some here.leftmost) here.before c.page.floor (Some c.number) here.line_before

  -- the last from its high key on
  rises_rest : IsRising (c.page.high + 1) entries_rest (GREATEST_KEY + 1)
  rises_rest = line_rising fan level (Some c.page.high) c.page.right here.rest (Some GREATEST_KEY) None here.line_rest

  -- the entries of the level are those before the page, its own, and those after it
  entries_were : entries_along (levels level) ≡ entries_before ++ (c.page.entries ++ entries_rest)
  entries_were = ap entries_along here.parts ∙ entries_along-append here.before (c ∷ here.rest)

  module _ (middle : List Cell) where
    -- with others in the page's place the entries are theirs between the same
    entries_are : entries_along (cells_after here middle) ≡ entries_before ++ (entries_along middle ++ entries_rest)
    entries_are = ap entries_along (cells_after-is here middle) ∙ entries_along-append here.before (middle ++ here.rest)
        ∙ ap (λ (es : List (ℕ × ℕ)). entries_before ++ es) (entries_along-append middle here.rest)

    -- so they are, where the entries of the others are known
    entries_become : (own : List (ℕ × ℕ)) → entries_along middle ≡ own → entries_along (cells_after here middle) ≡ entries_before ++ (own ++ entries_rest)
    entries_become own same = entries_are ∙ ap (λ (es : List (ℕ × ℕ)). entries_before ++ (es ++ entries_rest)) same

    module _ (key : ℕ) (belongs : IsKeyOf c.page key) where
      -- an entry added in the page is one added in the level
      pub added_across : (value : ℕ) → entries_along middle ≡ added (key, value) c.page.entries → entries_along (cells_after here middle) ≡ added (key, value) (entries_along (levels level))
      added_across value same =
          let below = belongs.1 in
          entries_become (added (key, value) c.page.entries) same
          ∙ ap (λ (es : List (ℕ × ℕ)). entries_before ++ es) (sym (added-append_prefix key value (c.page.high + 1) c.page.entries entries_rest (GREATEST_KEY + 1) rises_rest (omega arith)))
          ∙ sym (added-append_rest key value 0 entries_before (c.page.entries ++ entries_rest) (least_above c.page.floor) rises_before belongs.0)
          ∙ ap (added (key, value)) (sym entries_were)

      -- one removed is removed in the level
      pub removed_across : entries_along middle ≡ removed key c.page.entries → entries_along (cells_after here middle) ≡ removed key (entries_along (levels level))
      removed_across same =
          let below = belongs.1 in
          entries_become (removed key c.page.entries) same
          ∙ ap (λ (es : List (ℕ × ℕ)). entries_before ++ es) (sym (removed-append_prefix key (c.page.high + 1) c.page.entries entries_rest (GREATEST_KEY + 1) rises_rest (omega arith)))
          ∙ sym (removed-append_rest key 0 entries_before (c.page.entries ++ entries_rest) (least_above c.page.floor) rises_before belongs.0)
          ∙ ap (removed key) (sym entries_were)

      -- a value replaced is replaced in the level
      pub replaced_across : (value : ℕ) → entries_along middle ≡ replaced (key, value) c.page.entries → entries_along (cells_after here middle) ≡ replaced (key, value) (entries_along (levels level))
      replaced_across value same =
          let below = belongs.1 in
          entries_become (replaced (key, value) c.page.entries) same
          ∙ ap (λ (es : List (ℕ × ℕ)). entries_before ++ es) (sym (replaced-append_prefix key value (c.page.high + 1) c.page.entries entries_rest (GREATEST_KEY + 1) rises_rest (omega arith)))
          ∙ sym (replaced-append_rest key value 0 entries_before (c.page.entries ++ entries_rest) (least_above c.page.floor) rises_before belongs.0)
          ∙ ap (replaced (key, value)) (sym entries_were)

      -- and a separator posted is posted in the level
      pub posted_across : (child : ℕ) → 0 < level → entries_along middle ≡ posted (key, child) c.page.entries → entries_along (cells_after here middle) ≡ posted (key, child) (entries_along (levels level))
      posted_across child inner same =
          let below = belongs.1 in
          let own = here.has_level in
          entries_become (posted (key, child) c.page.entries) same
          ∙ ap (λ (es : List (ℕ × ℕ)). entries_before ++ es)
          (sym (posted-append_prefix key child (least_above c.page.floor) c.page.entries entries_rest (c.page.high + 1) (here.lawful.inner (omega arith)).last_is_high belongs.0 (omega arith)))
          ∙ sym (posted-append_rest key child 0 entries_before (c.page.entries ++ entries_rest) (least_above c.page.floor) rises_before belongs.0)
          ∙ ap (posted (key, child)) (sym entries_were)
