-- What the entries of a level say of the level below: each separator is a high key there, and each child begins where it should.
use Rattle.std.proofs.Common.{◌≡◌, ℕ, ◌+◌, ◌≤◌, Option, Some, None, List, [], ◌∷◌, inl, inr, subst, ap, ◌∙◌, arith}
use Rattle.std.proofs.lemmas.Bool.{cases_lt, cases_eq}
use Rattle.std.proofs.lemmas.Bool.Decides.{nat_tests}
use Rattle.blink_page.specs.{least_above, IsRising, value_at, child_for}
use Rattle.blink_page.specs.declared.limits.TheConstants.{GREATEST_KEY}
use Rattle.blink_rest.specs.Chain.{Cell}
use Rattle.blink_rest.specs.{IsMember, entries_along, Refers, IsHighKey}
use Rattle.blink_rest.proofs.Offered.{page_refers}
use Rattle.blink_machine.proofs.tree.TreeStatements.{ChildrenBegin, SeparatorsAreHighKeys}
use Rattle.blink_machine.proofs.tree.PagesOfLevels.{named_standing, cells_are_of_level}

module _ (lower : List Cell) where
  -- each separator is a high key
  pub separator_is_high_key : (key child : ℕ) (floor : Option ℕ) (xs : List (ℕ × ℕ)) → Refers lower floor xs → value_at key xs ≡ Some child → IsHighKey lower key
  separator_is_high_key key child floor [] refers found = absurd (cc found)
  separator_is_high_key key child floor ((separator, v) ∷ rest) refers found = elim (cases_eq separator key) [
    | inl same ↦ subst (IsHighKey lower) same refers.0
    | inr other ↦ separator_is_high_key key child (Some separator) rest refers.2 (grind (arith, nat_tests))
  ]

  -- the page of a child for a key: it begins below the key, and not before the floor of the entries
  pub record IsChildFor (floor : Option ℕ) (key child : ℕ) : Type 0 where
    pub cell : Cell
    pub stands : IsMember cell lower
    pub same_number : cell.number ≡ child
    pub floor_below : least_above cell.page.floor ≤ key
    pub not_before : least_above floor ≤ least_above cell.page.floor

  -- and each child for a key has one
  pub child_begins : (key child : ℕ) (floor : Option ℕ) (xs : List (ℕ × ℕ)) (to : ℕ) → Refers lower floor xs → IsRising (least_above floor) xs to
      → least_above floor ≤ key → child_for key xs ≡ Some child → IsChildFor floor key child
  child_begins key child floor [] to refers rising above found = absurd (cc found)
  child_begins key child floor ((separator, v) ∷ rest) to refers rising above found =
      let begins = refers.1 in
      let floors = ap least_above begins.same_floor in
      elim (cases_lt separator key) [
        | inr here ↦ (let same : v ≡ child = grind (arith, nat_tests) in
            record { cell = begins.cell; stands = begins.stands; same_number = begins.same_number ∙ same; floor_below = omega arith; not_before = omega arith })
        | inl beyond ↦ (let first = rising.0 in
            let it = child_begins key child (Some separator) rest to refers.2 rising.1 (omega arith) (grind (arith, nat_tests)) in
            let later = it.not_before in
            record { cell = it.cell; stands = it.stands; same_number = it.same_number; floor_below = it.floor_below; not_before = omega arith })
      ]

-- a separator of the level above is a high key of the level
pub separators_are_high_keys : SeparatorsAreHighKeys
separators_are_high_keys fan prime pages levels level key child tree found =
    separator_is_high_key (levels level) key child None (entries_along (levels (level + 1))) (tree.refers level) found

-- the child for a key of a page begins below the key, and not before the page
pub children_begin : ChildrenBegin
children_begin fan prime pages levels level child key c tree stands belongs found =
    let it = named_standing fan prime pages levels tree (level + 1) c stands in
    let of_level = cells_are_of_level fan prime pages levels (level + 1) c tree stands in
    let refers = page_refers (levels level) fan (level + 1) None (Some it.leftmost) (levels (level + 1)) (Some GREATEST_KEY) None c (omega arith) it.chain.in_line (tree.refers level) stands in
    let above = belongs.0 in
    let begins = child_begins (levels level) key child c.page.floor c.page.entries (c.page.high + 1) refers of_level.lawful.keys_rise above found in
    record {
      begins = record { cell = begins.cell; stands = begins.stands; same_number = begins.same_number; floor_below = begins.floor_below };
      not_before = begins.not_before;
    }
