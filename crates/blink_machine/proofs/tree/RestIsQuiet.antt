-- A tree at rest is a tree without debts, whose pages are all in chains and whose top level has one page.
use Rattle.std.proofs.Common.{◌≡◌, ℕ, ◌+◌, ◌<◌, ◌≤◌, zero, suc, Some, None, List, [], ◌∷◌, length, map, get_or, inl, inr, refl, sym, subst, ap, arith}
use Rattle.std.specs.List.{slice_get, flat_map}
use Rattle.std.proofs.lemmas.Bool.{cases_lt, cases_eq}
use Rattle.std.proofs.lemmas.Bool.Decides.{nat_tests}
use Rattle.std.proofs.lemmas.Option.{slice_get-get_or}
use Rattle.blink_page.specs.{value_at}
use Rattle.blink_rest.specs.{Pages, IsChain, IsParentOf, entries_along, high_keys, numbers_of, AreChains, AreLevels, EachIsParent, TopHasOne, IsMember, Refers}
use Rattle.blink_rest.specs.Chain.{Cell}
use Rattle.blink_rest.proofs.Offered.{among_append, among_from_Contains, as_many_levels, named_refers, standing}
use Rattle.blink_machine.specs.Tree.{IsTree}
use Rattle.blink_machine.specs.TreeWithDebts.{Levels, IsDebt, IsInChain}
use Rattle.blink_machine.proofs.tree.TreeStatements.{RestIsQuiet}
use Rattle.blink_machine.proofs.tree.PagesOfLevels.{top_debt_has_two}
use Rattle.blink_machine.proofs.tree.WherePagesStand.{level_named}

-- the level at a place of a list, and no pages past its end
abbrev pub level_at : List (List Cell) → Levels
level_at [] n = []
level_at (cells ∷ above) zero = cells
level_at (cells ∷ above) (suc n) = level_at above n

module _ (fan : ℕ) (pages : Pages) where
  -- the level at a place is the chain that is named there
  chain_at : (start n level leftmost : ℕ) (prime : List ℕ) (all : List (List Cell)) → AreChains fan pages start prime all → start + n ≡ level
      → slice_get prime n ≡ Some leftmost → IsChain fan pages level leftmost (level_at all n)
  chain_at start n level leftmost [] all chains same there = absurd (cc there)
  chain_at start n level leftmost (first ∷ prime) [] chains same there = absurd chains
  chain_at start zero level leftmost (first ∷ prime) (cells ∷ above) chains same there =
      let here : start ≡ level = omega arith in let named : first ≡ leftmost = cc there in
      subst (λ (x : ℕ × ℕ). IsChain fan pages x.0 x.1 cells) (λ i. (here i, named i)) chains.0
  chain_at start (suc n) level leftmost (first ∷ prime) (cells ∷ above) chains same there =
      chain_at (start + 1) n level leftmost prime above chains.1 (omega arith) there

-- past the end there are no pages
none_past : (n : ℕ) (all : List (List Cell)) → length all ≤ n → level_at all n ≡ []
none_past n [] past = refl
none_past zero (cells ∷ above) past = absurd (omega arith)
none_past (suc n) (cells ∷ above) past = none_past n above (omega arith)

-- each level but the top one is named by the one above
names_at : (n : ℕ) (all : List (List Cell)) → EachIsParent all → n + 1 < length all → IsParentOf (level_at all (n + 1)) (level_at all n)
names_at n [] named inside = absurd (omega arith)
names_at n (cells ∷ []) named inside = absurd (omega arith)
names_at zero (lower ∷ upper ∷ above) named inside = named.0
names_at (suc n) (lower ∷ upper ∷ above) named inside =
    let e : suc n + 1 ≡ suc (n + 1) = omega arith in
    subst (λ (m : ℕ). IsParentOf (level_at (lower ∷ upper ∷ above) m) (level_at (upper ∷ above) n)) (sym e) (names_at n (upper ∷ above) named.1 (omega arith))

-- the top level has one page
one_at_top : (n : ℕ) (all : List (List Cell)) → TopHasOne all → length all ≡ n + 1 → length (level_at all n) ≡ 1
one_at_top n [] one top = absurd one
one_at_top zero (cells ∷ []) one top = one
one_at_top (suc n) (cells ∷ []) one top = absurd (omega arith)
one_at_top zero (cells ∷ next ∷ above) one top = absurd (omega arith)
one_at_top (suc n) (cells ∷ next ∷ above) one top = one_at_top n (next ∷ above) one (omega arith)

-- a number among the levels' is that of a page in a chain
in_chain_among : (number : ℕ) (all : List (List Cell)) → IsMember number (flat_map numbers_of all) → IsInChain (level_at all) number
in_chain_among number [] among = absurd among
in_chain_among number (cells ∷ above) among = elim (among_append number (numbers_of cells) (flat_map numbers_of above) among) [
  | inl here ↦ (let it = standing number cells here in record { level = 0; cell = it.0; stands = it.2; same_number = sym it.1 })
  | inr later ↦ (let it = in_chain_among number above later in record { level = suc it.level; cell = it.cell; stands = it.stands; same_number = it.same_number })
]

-- where entries name a line, each high key of it is a separator there
named_separator : (entries : List (ℕ × ℕ)) (lower : List Cell) (c : Cell) → map (λ (entry : ℕ × ℕ). entry.0) entries ≡ high_keys lower → IsMember c lower
    → value_at c.page.high entries ≡ None → ⊥
named_separator entries [] c separators stands missing = stands
named_separator [] (x ∷ lower) c separators stands missing = absurd (cc)
named_separator ((separator, child) ∷ rest) (x ∷ lower) c separators (inl same) missing =
    let high : separator ≡ x.page.high = cc in let here = ap (λ (y : Cell). y.page.high) same in
    let equal : separator ≡ c.page.high = omega arith in
    absurd (grind (arith, nat_tests))
named_separator ((separator, child) ∷ rest) (x ∷ lower) c separators (inr later) missing = elim (cases_eq separator c.page.high) [
  | inl same ↦ absurd (grind (arith, nat_tests))
  | inr other ↦ named_separator rest lower c (cc) later (grind (arith, nat_tests))
]

module _ (fan : ℕ) (prime : List ℕ) (pages : Pages) (all : List (List Cell)) (some : 0 < length prime) (at_rest : AreLevels fan prime pages all) where
  -- the levels of a tree at rest are those of a tree
  rest_is_tree : IsTree fan prime pages (level_at all)
  rest_is_tree =
      let many = as_many_levels fan 0 pages prime all at_rest.chains in
      record {
        chains = record {
          some_level = some;
          named = λ level leftmost there. chain_at fan pages 0 level level leftmost prime all at_rest.chains (omega arith) there;
          unnamed = λ level past. none_past level all (omega arith);
        };
        refers = λ level. elim (cases_lt (level + 1) (length prime)) [
          | inr past ↦ subst (λ (cells : List Cell). Refers (level_at all level) None (entries_along cells)) (sym (none_past (level + 1) all (omega arith))) tt
          | inl inside ↦ (let names = names_at level all at_rest.named (omega arith) in
              let there = slice_get-get_or prime level 0 (omega arith) in
              let chain = chain_at fan pages 0 level level (get_or prime level 0) prime all at_rest.chains (omega arith) there in
              named_refers fan level (get_or prime level 0) pages (level_at all (level + 1)) (level_at all level) chain names)
        ];
      }

  -- without a debt
  no_debt : (level key : ℕ) → IsDebt (level_at all) level key → ⊥
  no_debt level key debt =
      let many = as_many_levels fan 0 pages prime all at_rest.chains in
      let two = top_debt_has_two fan prime pages (level_at all) level key rest_is_tree debt in
      let inside = level_named fan prime pages (level_at all) rest_is_tree level debt.is_high_key.cell debt.is_high_key.stands in
      elim (cases_lt (level + 1) (length prime)) [
        | inr top ↦ absurd (omega (arith, one_at_top level all at_rest.one_root (omega arith)))
        | inl below ↦ named_separator (entries_along (level_at all (level + 1))) (level_at all level) debt.is_high_key.cell
            (names_at level all at_rest.named (omega arith)).separators_are_high_keys debt.is_high_key.stands
            (subst (λ (k : ℕ). value_at k (entries_along (level_at all (level + 1))) ≡ None) (sym debt.is_high_key.same_high) debt.not_above)
      ]

-- the levels of a tree at rest show a quiet tree
pub rest_is_quiet : RestIsQuiet
rest_is_quiet fan prime pages some at_rest =
    let all = at_rest.0 in let levels = at_rest.1 in (
      level_at all,
      rest_is_tree fan prime pages all some levels,
      record {
        no_debt = no_debt fan prime pages all some levels;
        all_in_chains = λ number page there. in_chain_among number all (among_from_Contains (flat_map numbers_of all) number (levels.no_other_page number page there));
        one_root = λ level top.
            omega (arith, as_many_levels fan 0 pages prime all levels.chains, one_at_top level all levels.one_root (omega (arith, as_many_levels fan 0 pages prime all levels.chains)));
      },
    )
