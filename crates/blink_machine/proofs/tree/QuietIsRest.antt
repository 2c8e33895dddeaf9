-- A tree without debts whose pages are all in chains, and whose top level has one page, is at rest.
use Rattle.std.proofs.Common.{◌≡◌, ℕ, ◌+◌, ◌-◌, ◌<◌, ◌≤◌, zero, suc, Option, Some, None, List, [], ◌∷◌, length, map, inl, inr, refl, sym, subst, ap, arith}
use Rattle.std.specs.List.{slice_get, flat_map, Contains}
use Rattle.std.proofs.lemmas.Bool.{cases_lt, cases_eq}
use Rattle.std.proofs.lemmas.Bool.Decides.{nat_tests}
use Rattle.std.proofs.lemmas.List.Elements.{Contains-append_left, Contains-append_right}
use Rattle.blink_page.specs.{least_above, Covers, value_at}
use Rattle.blink_page.specs.declared.limits.TheConstants.{GREATEST_KEY}
use Rattle.blink_page.proofs.Offered.{covers_rising, from_at_most_to, value_at-below}
use Rattle.blink_rest.specs.{Pages, InLine, IsChain, IsMember, IsParentOf, entries_along, high_keys, numbers_of, AreChains, EachIsParent, TopHasOne, Refers, IsHighKey}
use Rattle.blink_rest.specs.Chain.{Cell}
use Rattle.blink_rest.proofs.Offered.{chain_covers, Contains-from_among, stands_among}
use Rattle.blink_machine.specs.Tree.{IsTree}
use Rattle.blink_machine.specs.TreeWithDebts.{Levels}
use Rattle.blink_machine.proofs.tree.TreeStatements.{IsQuiet, QuietIsRest}
use Rattle.blink_machine.proofs.tree.PagesOfLevels.{some_stand, same_floor_same, high_key_past, named_below, leftmost_begins}
use Rattle.blink_machine.proofs.tree.WherePagesStand.{level_named}

module _ (fan level leftmost : ℕ) (pages : Pages) (lower : List Cell) (chain : IsChain fan pages level leftmost lower) where
  -- every high key from one on but the greatest is a separator among the entries
  abbrev HasSeparators : ℕ → List (ℕ × ℕ) → Type 0
  HasSeparators from entries = (key : ℕ) → from ≤ key → key < GREATEST_KEY → IsHighKey lower key → value_at key entries ≡ None → ⊥

  -- so entries that cover all keys and refer to the pages of the chain are its high keys and its numbers
  names_all : (entries : List (ℕ × ℕ)) (floor link : Option ℕ) (cells : List Cell) → Refers lower floor entries → Covers (least_above floor) entries (GREATEST_KEY + 1)
      → InLine fan level floor link cells (Some GREATEST_KEY) None → ((c : Cell) → IsMember c cells → IsMember c lower) → HasSeparators (least_above floor) entries
      → (map (λ (entry : ℕ × ℕ). entry.0) entries ≡ high_keys cells) × (map (λ (entry : ℕ × ℕ). entry.1) entries ≡ numbers_of cells)
  names_all [] floor link [] refers covers line inside has = (refl, refl)
  names_all [] floor link (x ∷ cells) refers covers line inside has =
      absurd (omega (arith, covers, ap least_above line.1, line.3.floor_below_high, line.3.high_in_range))
  names_all ((separator, child) ∷ rest) floor link [] refers covers line inside has =
      absurd (omega (arith, covers.0, ap least_above line.0, from_at_most_to (separator + 1) rest (GREATEST_KEY + 1) (covers_rising (separator + 1) rest (GREATEST_KEY + 1) covers.1)))
  names_all ((separator, child) ∷ rest) floor link (x ∷ cells) refers covers line inside has =
      let rises = covers_rising (separator + 1) rest (GREATEST_KEY + 1) covers.1 in
      let last = from_at_most_to (separator + 1) rest (GREATEST_KEY + 1) rises in
      let stands = inside x (inl refl) in
      let floors = ap least_above line.1 in
      let first = covers.0 in
      let lowest = line.3.floor_below_high in
      let past = high_key_past fan level leftmost pages lower chain separator x stands refers.0 (omega arith) in
      let high : x.page.high ≡ separator = elim (cases_lt x.page.high separator) [
        | inr reaches ↦ omega arith
        | inl below ↦ absurd (has x.page.high (omega arith) (omega arith) (record { cell = x; stands = stands; same_high = refl })
            (value_at-below x.page.high separator ((separator, child) ∷ rest) (GREATEST_KEY + 1) (omega arith, rises) below))
      ] in
      let number : child ≡ x.number = cc (refers.1.same_number, ap (λ (y : Cell). y.number) (same_floor_same fan level leftmost pages lower chain refers.1.cell x refers.1.stands stands (cc (refers.1.same_floor, line.1)))) in
      let more = names_all rest (Some x.page.high) x.page.right cells
      (subst (λ (k : ℕ). Refers lower (Some k) rest) (sym high) refers.2) (subst (λ (k : ℕ). Covers (k + 1) rest (GREATEST_KEY + 1)) (sym high) covers.1) line.4 (λ c later. inside c (inr later))
      (λ key from below is_high missing. has key (omega arith) below is_high (grind (arith, nat_tests))) in
      let separators = more.0 in let children = more.1 in
      (cc, cc)

-- so many levels, from one on
abbrev pub levels_from : Levels → ℕ → ℕ → List (List Cell)
levels_from levels start zero = []
levels_from levels start (suc count) = levels start ∷ levels_from levels (start + 1) count

module _ (fan : ℕ) (pages : Pages) (levels : Levels) where
  -- the named levels are chains
  pub chains_from : (start : ℕ) (prime : List ℕ) → ((n leftmost : ℕ) → slice_get prime n ≡ Some leftmost → IsChain fan pages (start + n) leftmost (levels (start + n)))
      → AreChains fan pages start prime (levels_from levels start (length prime))
  chains_from start [] named = tt
  chains_from start (leftmost ∷ prime) named =
      let here : start + 0 ≡ start = omega arith in (
        subst (λ (m : ℕ). IsChain fan pages m leftmost (levels m)) here (named 0 leftmost refl),
        chains_from (start + 1) prime (λ n left there. let next : start + suc n ≡ start + 1 + n = omega arith in
            subst (λ (m : ℕ). IsChain fan pages m left (levels m)) next (named (suc n) left there)),
      )

module _ (levels : Levels) where
  -- each level of the list names the one before it, if each of these levels names the one below
  names_from : (start count : ℕ) → ((level : ℕ) → start ≤ level → level + 1 < start + count → IsParentOf (levels (level + 1)) (levels level)) → EachIsParent (levels_from levels start count)
  names_from start zero named = tt
  names_from start (suc zero) named = tt
  names_from start (suc (suc count)) named =
      (named start (omega arith) (omega arith), names_from (start + 1) (suc count) (λ level from below. named level (omega arith) (omega arith)))

  -- the last is the top one
  one_from : (start count : ℕ) → length (levels (start + count)) ≡ 1 → TopHasOne (levels_from levels start (suc count))
  one_from start zero one = let here : start + 0 ≡ start = omega arith in subst (λ (m : ℕ). length (levels m) ≡ 1) here one
  one_from start (suc count) one =
      let next : start + suc count ≡ start + 1 + count = omega arith in one_from (start + 1) count (subst (λ (m : ℕ). length (levels m) ≡ 1) next one)

  -- the number of a page of these levels is among theirs
  among_from : (start count level : ℕ) (c : Cell) → start ≤ level → level < start + count → IsMember c (levels level) → Contains (flat_map numbers_of (levels_from levels start count)) c.number
  among_from start zero level c from below stands = absurd (omega arith)
  among_from start (suc count) level c from below stands = elim (cases_eq start level) [
    | inl same ↦ Contains-append_left (numbers_of (levels start)) (flat_map numbers_of (levels_from levels (start + 1) count)) c.number
        (Contains-from_among (numbers_of (levels start)) c.number (stands_among c (levels start) (subst (λ (m : ℕ). IsMember c (levels m)) (sym same) stands)))
    | inr other ↦ Contains-append_right (numbers_of (levels start)) (flat_map numbers_of (levels_from levels (start + 1) count)) c.number
        (among_from (start + 1) count level c (omega arith) (omega arith) stands)
  ]

module _ (fan : ℕ) (prime : List ℕ) (pages : Pages) (levels : Levels) (tree : IsTree fan prime pages levels) where
  -- the list of a tree's levels
  abbrev pub listed : List (List Cell)
  listed = levels_from levels 0 (length prime)

  -- they are chains
  pub listed_chains : AreChains fan pages 0 prime listed
  listed_chains = chains_from fan pages levels 0 prime (λ n leftmost there. let here : n ≡ 0 + n = omega arith in
      subst (λ (m : ℕ). IsChain fan pages m leftmost (levels m)) here (tree.chains.named n leftmost there))

  module _ (quiet : IsQuiet prime pages levels) where
    -- without debts each level names the one below
    quiet_names : (level : ℕ) → level + 1 < length prime → IsParentOf (levels (level + 1)) (levels level)
    quiet_names level inside =
        let low = named_below fan prime pages levels tree level (omega arith) in
        let high = named_below fan prime pages levels tree (level + 1) inside in
        let it = names_all fan level low.leftmost pages (levels level) low.chain (entries_along (levels (level + 1))) None (Some low.leftmost) (levels level)
        (tree.refers level) (chain_covers fan (level + 1) high.leftmost pages (levels (level + 1)) high.chain (omega arith)) low.chain.in_line (λ c stands. stands)
        (λ key from below is_high missing. quiet.no_debt level key (record { is_high_key = is_high; below_greatest = below; not_above = missing })) in
        record { separators_are_high_keys = it.0; children_are_pages = it.1 }

    -- and the top level has one page
    quiet_top : (top : ℕ) → length prime ≡ top + 1 → TopHasOne listed
    quiet_top top many =
        let it = named_below fan prime pages levels tree top (omega arith) in
        let begins = leftmost_begins fan prime pages levels top it.leftmost tree it.is_there in
        let some = some_stand begins.cell (levels top) begins.stands in
        let few = quiet.one_root top many in
        let one : length (levels top) ≡ 1 = omega arith in
        let here : top ≡ 0 + top = omega arith in
        let count : suc top ≡ length prime = omega arith in
        subst (λ (m : ℕ). TopHasOne (levels_from levels 0 m)) count (one_from levels 0 top (subst (λ (m : ℕ). length (levels m) ≡ 1) here one))

-- the list of the levels shows a quiet tree at rest
pub quiet_is_rest : QuietIsRest
quiet_is_rest fan prime pages levels tree quiet =
    let some = tree.chains.some_level in (
      listed fan prime pages levels tree,
      record {
        chains = listed_chains fan prime pages levels tree;
        named = names_from levels 0 (length prime) (λ level from below. quiet_names fan prime pages levels tree quiet level (omega arith));
        one_root = quiet_top fan prime pages levels tree quiet (length prime - 1) (omega arith);
        no_other_page = λ number page there. let it = quiet.all_in_chains number page there in
            let below = level_named fan prime pages levels tree it.level it.cell it.stands in
            subst (Contains (flat_map numbers_of (levels_from levels 0 (length prime)))) it.same_number
            (among_from levels 0 (length prime) it.level it.cell (omega arith) (omega arith) it.stands);
      },
    )
