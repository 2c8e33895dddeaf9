-- A walk along kept leaves, page by page, and what it leaves to read.
use Rattle.std.proofs.Common.{◌≡◌, ℕ, ◌≤◌, Option, Some, None, List, [], ◌∷◌, ◌++◌, get_or, refl, ap, sym, ◌∙◌, subst, arith, append_assoc, append-nil}
use Rattle.std.specs.Prelude.{slice_get}
use Rattle.blink_batch.specs.declared.Entry.{Entry}
use Rattle.blink_batch.specs.{entry}
use Rattle.blink_machine.specs.{entries_from}
use Rattle.blink_machine.proofs.Offered.{entries_from-pairs_of}
use Rattle.blink_page.specs.declared.limits.TheConstants.{GREATEST_KEY, MAX_FAN}
use Rattle.blink_page.specs.{IsLawfulPage, PlainPage, least_above}
use Rattle.blink_page.proofs.Offered.{lawful_with_room}
use Rattle.blink_rest.specs.{entries_along}
use Rattle.blink_rest.specs.Chain.{Cell, cell}
use Rattle.blink_rest.proofs.Offered.{same_cell}
use Rattle.blink_rows.specs.{PlainCounts}
use Rattle.blink_live.specs.Leaves.{AreLeaves, KeepsLeaves}
use Rattle.blink_live.specs.ToCome.{HasPageAt, IsPageAt}
use Rattle.blink_live.specs.Words.{KeepsPage}
use Rattle.blink_live.proofs.gathered.KeptLevelsFit.{kept_cells}

entries_from-append : (xs ys : List (ℕ × ℕ)) → entries_from (xs ++ ys) ≡ entries_from xs ++ entries_from ys
entries_from-append [] ys = refl
entries_from-append (x ∷ xs) ys = ap (λ (l : List Entry). entry x.0 x.1 ∷ l) (entries_from-append xs ys)

module _ (counts : PlainCounts) (words : List ℕ) where
  -- the first of some leaves, and those after it
  pub record NextLeaf (floor : Option ℕ) (number : ℕ) (page : PlainPage) (cells : List Cell) : Type 0 where
    pub rest : List Cell
    pub first : cells ≡ cell number page ∷ rest
    pub rises : least_above floor ≤ page.high
    pub in_range : page.high ≤ GREATEST_KEY
    pub to_come : AreLeaves counts words (Some page.high) page.right rest

  -- where there is a link there is a leaf
  next_leaf : (floor link : Option ℕ) (number : ℕ) (cells : List Cell) → link ≡ Some number → AreLeaves counts words floor link cells
      → (page : PlainPage) × KeepsPage counts words number page × IsLawfulPage MAX_FAN page × NextLeaf floor number page cells
  next_leaf floor link number [] leads are = absurd (cc (leads, are.in_line.1))
  next_leaf floor link number (c ∷ cells) leads are =
      let line = are.in_line in
      let same : c.number ≡ number = cc (leads, line.0) in
      let lawful = line.3 in (
        c.page,
        subst (λ (n : ℕ). KeepsPage counts words n c.page) same are.kept.0,
        lawful_with_room are.fan MAX_FAN c.page lawful (let room = lawful.at_most_fan in let few = are.few in omega (arith, room, few)),
        record {
          rest = cells;
          first = λ i. same_cell c (cell number c.page) same refl i ∷ cells;
          rises = subst (λ (f : Option ℕ). least_above f ≤ c.page.high) line.1 lawful.floor_below_high;
          in_range = lawful.high_in_range;
          to_come = record { fan = are.fan; few = are.few; kept = are.kept.1; in_line = line.4 };
        },
      )

  -- which the words keep
  pub leaf_to_come : (floor link : Option ℕ) (number : ℕ) (cells : List Cell) → link ≡ Some number → AreLeaves counts words floor link cells → HasPageAt counts words number
  leaf_to_come floor link number cells leads are = let it = next_leaf floor link number cells leads are in (it.0, it.1, it.2)

  -- so it is the leaf that is found there
  pub found_leaf : (floor link : Option ℕ) (number : ℕ) (cells : List Cell) (page : PlainPage) → link ≡ Some number → AreLeaves counts words floor link cells → IsPageAt counts words number page
      → NextLeaf floor number page cells
  found_leaf floor link number cells page leads are is =
      let it = next_leaf floor link number cells leads are in
      subst (λ (p : PlainPage). NextLeaf floor number p cells) (sym (is it.0 it.1 it.2)) it.3

  -- what is left to read from a link on, and all entries that there will be in the end
  pub record LeftToRead (floor link : Option ℕ) (read whole : List Entry) : Type 0 where
    pub rest : List Cell
    pub to_come : AreLeaves counts words floor link rest
    pub same : read ++ entries_from (entries_along rest) ≡ whole

  -- one leaf was read
  pub left_on : (floor link : Option ℕ) (number : ℕ) (read whole : List Entry) (page : PlainPage) → link ≡ Some number → IsPageAt counts words number page → LeftToRead floor link read whole
      → LeftToRead (Some page.high) page.right (read ++ entries_from page.entries) whole
  left_on floor link number read whole page leads is left =
      let it = found_leaf floor link number left.rest page leads left.to_come is in
      record {
        rest = it.rest;
        to_come = it.to_come;
        same = append_assoc read (entries_from page.entries) (entries_from (entries_along it.rest))
            ∙ ap (λ (l : List Entry). read ++ l) (sym (entries_from-append page.entries (entries_along it.rest)))
            ∙ ap (λ (cells : List Cell). read ++ entries_from (entries_along cells)) (sym it.first)
            ∙ left.same;
      }

  -- no leaf is left
  pub left_none : (floor link : Option ℕ) (read whole : List Entry) → link ≡ None → LeftToRead floor link read whole → read ≡ whole
  left_none floor link read whole none left = go left.rest left.to_come left.same
    where
      go : (rest : List Cell) → AreLeaves counts words floor link rest → read ++ entries_from (entries_along rest) ≡ whole → read ≡ whole
      go [] are same = sym (append-nil read) ∙ same
      go (c ∷ cells) are same = absurd (let leads = are.in_line.0 in cc (leads, none))

  -- ---- the leaves of a tree that the words hold

  module _ (entries : List Entry) (kept : KeepsLeaves counts words entries) where
    pub leaves_of : AreLeaves counts words None (Some kept.are.leftmost) kept.are.leaves
    leaves_of = record {
      fan = kept.fan;
      few = kept.few;
      kept = kept_cells counts words kept.fan kept.pages kept.pages_kept kept.are.leaves kept.are.chain.pages_there;
      in_line = kept.are.chain.in_line;
    }

    pub their_entries : entries_from (entries_along kept.are.leaves) ≡ entries
    their_entries = ap entries_from (sym kept.are.joined) ∙ entries_from-pairs_of entries

    pub leftmost_of : get_or kept.prime 0 0 ≡ kept.are.leftmost
    leftmost_of = first kept.prime kept.are.is_first
      where
        first : (prime : List ℕ) → slice_get prime 0 ≡ Some kept.are.leftmost → get_or prime 0 0 ≡ kept.are.leftmost
        first [] is = absurd (cc is)
        first (number ∷ prime) is = cc is
