-- A full page is split: the halves take its place in its level.
use Rattle.std.proofs.Common.{◌≡◌, ◌≢◌, ℕ, ◌+◌, ◌<◌, ◌≤◌, Some, None, List, [], ◌∷◌, ◌++◌, length, ◌⊎◌, inl, inr, refl, sym, subst, ap, ◌∙◌, arith, append-nil}
use Rattle.blink_page.specs.{IsPageNumber, PlainPage, IsLawfulPage, entries_with, with_entries, least_above, lower_half, upper_half, separator_of}
use Rattle.blink_page.specs.declared.limits.TheConstants.{GREATEST_KEY}
use Rattle.blink_page.proofs.Offered.{lawful_entries_with, lawful_lower, lawful_upper, length-entries_with, lower-append-upper, separator_above_floor, separator_below_high}
use Rattle.blink_rest.specs.{Pages, IsMember, entries_along, Refers, IsHighKey}
use Rattle.blink_rest.specs.Chain.{Cell}
use Rattle.blink_rest.proofs.Offered.{stands_of}
use Rattle.blink_machine.specs.Tree.{IsTree}
use Rattle.blink_machine.specs.TreeWithDebts.{Levels, IsInChain}
use Rattle.blink_machine.proofs.tree.TreeStatements.{CanBeSplit, IsSplitIn}
use Rattle.blink_machine.proofs.tree.WherePagesStand.{Stands, stands_cases}
use Rattle.blink_machine.proofs.tree.PageGivesWay.{TakesPlace, cells_after, levels_after, levels_after-other, tree_stays, each_stays}
use Rattle.blink_machine.proofs.tree.PageReplaced.{grows_after, high_keys_after, now_cases, now_stands, length_now}

module _ (fan : ℕ) (prime : List ℕ) (pages after : Pages) (levels : Levels) (level : ℕ) (c : Cell) (entry : ℕ × ℕ) (number : ℕ) (tree : IsTree fan prime pages levels)
    (here : Stands fan prime pages levels level c) (split : CanBeSplit fan pages after levels level c entry number) (leads : 0 < c.page.level → IsPageNumber entry.1) where
  -- the page's entries and the one that it gets
  abbrev pub all_entries : List (ℕ × ℕ)
  all_entries = entries_with c.page entry

  -- what parts the halves
  abbrev pub separator : ℕ
  separator = separator_of fan all_entries

  -- the half that stays
  abbrev pub lower : PlainPage
  lower = lower_half fan number c.page all_entries

  -- the half that goes to the new page
  abbrev pub upper : PlainPage
  upper = upper_half fan c.page all_entries

  -- the lower half has the page's number
  abbrev pub lower_cell : Cell
  lower_cell = record { number = c.number; page = lower }

  -- the upper half has the new one
  abbrev pub upper_cell : Cell
  upper_cell = record { number = number; page = upper }

  -- what takes the page's place
  abbrev pub halves : List Cell
  halves = lower_cell ∷ upper_cell ∷ []

  -- they are one more than the page has room for
  one_too_many : length all_entries ≡ fan + 1
  one_too_many = length-entries_with fan c.page here.lawful entry.0 entry.1 split.belongs ∙ ap (λ (n : ℕ). n + 1) split.full

  -- a page with one entry's more room may have them
  lawful_overfull : IsLawfulPage (fan + 1) (with_entries c.page all_entries)
  lawful_overfull = lawful_entries_with fan c.page here.lawful entry.0 entry.1 split.belongs split.absent split.value_in_range leads

  -- the separator is above the page's floor
  above_floor : least_above c.page.floor ≤ separator
  above_floor = separator_above_floor fan number split.fan_in_range c.page all_entries one_too_many lawful_overfull

  -- and below its high key
  below_high : separator < c.page.high
  below_high = separator_below_high fan number split.fan_in_range c.page all_entries one_too_many lawful_overfull

  -- the halves have the page's entries and the new one
  pub entries_of_halves : entries_along halves ≡ all_entries
  entries_of_halves = ap (λ (es : List (ℕ × ℕ)). lower.entries ++ es) (append-nil upper.entries) ∙ lower-append-upper fan all_entries

  -- the new number is not the page's
  other_number : number ≢ c.number
  other_number same = split.not_in_chain (record { level = level; cell = c; stands = split.stands; same_number = sym same })

  -- the halves take the page's place
  pub halves_take : TakesPlace fan level after c halves
  halves_take = record {
    among = (split.writes.written, (split.writes.others number other_number ∙ split.upper_there, tt));
    in_line = (
      refl,
      refl,
      here.has_level,
      lawful_lower fan number split.fan_in_range c.page all_entries one_too_many lawful_overfull split.new_number,
      (refl, refl, here.has_level, lawful_upper fan number split.fan_in_range c.page all_entries one_too_many lawful_overfull, (refl, refl)),
    );
    begins = record { cell = lower_cell; stands = inl refl; same_number = refl; same_floor = refl };
    ends = record { cell = upper_cell; stands = inr (inl refl); same_high = refl };
  }

  -- the levels with the halves
  abbrev pub levels_split : Levels
  levels_split = levels_after here halves

  -- the separator is no high key before
  separator_is_new : ¬ IsHighKey (levels level) separator
  separator_is_new high =
      let same = high.same_high in
      elim (stands_cases fan prime pages levels level c here high.cell high.stands) [
        | inl first ↦ (
            let it = stands_of fan level None (Some here.leftmost) here.before c.page.floor (Some c.number) high.cell here.line_before first in
            absurd (omega (arith, it.below, above_floor)))
        | inr last ↦ elim last [
          | inl own ↦ (let highs = ap (λ (d : Cell). d.page.high) own in absurd (omega (arith, below_high)))
          | inr later ↦ (
              let it = stands_of fan level (Some c.page.high) c.page.right here.rest (Some GREATEST_KEY) None high.cell here.line_rest later in
              absurd (omega (arith, it.above, it.lawful.floor_below_high, below_high)))
        ]
      ]

  -- after the split it is, and no other is new
  one_more_high_key : (other key : ℕ) → IsHighKey (levels_split other) key → IsHighKey (levels other) key ⊎ ((other ≡ level) × (key ≡ separator))
  one_more_high_key other key high = elim (now_cases fan prime pages levels level c here halves other high.cell high.stands) [
    | inl old ↦ inl (record { cell = high.cell; stands = old; same_high = high.same_high })
    | inr new ↦ elim new.1 [
      | inl is_lower ↦ inr (new.0, sym high.same_high ∙ ap (λ (d : Cell). d.page.high) is_lower)
      | inr rest ↦ elim rest [
        | inl is_upper ↦ inl (record {
          cell = c;
          stands = (let B : ℕ → Type 0 = λ n. IsMember c (levels n) in subst B (sym new.0) split.stands);
          same_high = ap (λ (d : Cell). d.page.high) (sym is_upper) ∙ high.same_high;
        })
        | inr never ↦ absurd never
      ]
    ]
  ]

  -- only the upper half is new in a chain
  one_more_linked : (other : ℕ) → IsInChain levels_split other → IsInChain levels other ⊎ (other ≡ number)
  one_more_linked other linked = elim (now_cases fan prime pages levels level c here halves linked.level linked.cell linked.stands) [
    | inl old ↦ inl (record { level = linked.level; cell = linked.cell; stands = old; same_number = linked.same_number })
    | inr new ↦ elim new.1 [
      | inl is_lower ↦ inl (record { level = level; cell = c; stands = split.stands; same_number = ap (λ (d : Cell). d.number) (sym is_lower) ∙ linked.same_number })
      | inr rest ↦ elim rest [
        | inl is_upper ↦ inr (sym linked.same_number ∙ ap (λ (d : Cell). d.number) is_upper)
        | inr never ↦ absurd never
      ]
    ]
  ]

  -- and every page of a chain stays in it
  still_linked : (other : ℕ) → IsInChain levels other → IsInChain levels_split other
  still_linked other linked =
      let it = grows_after fan prime pages levels level c here halves after halves_take linked.level linked.cell linked.stands in
      record { level = linked.level; cell = it.cell; stands = it.stands; same_number = it.same_number ∙ linked.same_number }

  -- the tree with the halves in the page's place, if what their entries say of the level below is so
  pub is_split : ((below : ℕ) → below + 1 ≡ level → Refers (levels below) None (entries_along (cells_after here halves)))
      → IsSplitIn fan prime after levels levels_split level c lower upper number separator
  is_split refers_below = record {
    tree = tree_stays fan prime pages levels level c here halves after halves_take lower tree split.writes refers_below;
    grows = grows_after fan prime pages levels level c here halves after halves_take;
    others_stay = each_stays fan prime pages levels level c here halves;
    lower_stands = now_stands fan prime pages levels level c here halves lower_cell (inl refl);
    upper_stands = now_stands fan prime pages levels level c here halves upper_cell (inr (inl refl));
    high_keys_kept = high_keys_after fan prime pages levels level c here halves after halves_take;
    one_high_key = one_more_high_key;
    is_new = separator_is_new;
    below_greatest = (let greatest = here.lawful.high_in_range in omega (arith, below_high));
    above_floor = above_floor;
    chains_kept = still_linked;
    one_linked = one_more_linked;
    one_more = (let now = length_now fan prime pages levels level c here halves in omega arith);
    others_same = levels_after-other here halves;
  }
