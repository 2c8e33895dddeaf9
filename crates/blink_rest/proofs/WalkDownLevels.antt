-- What a walk down the levels says of a tree.
use Rattle.std.proofs.Common.{◌≡◌, Bool, true, false, not, eqb, MatchOption, ℕ, ◌+◌, ◌<◌, ◌≤◌, zero, suc, Option, Some, None, List, [], ◌∷◌, length, drop, get_or, refl, sym, ap, ◌∙◌, subst, arith, add-one, length-append}
use Rattle.std.proofs.Math.Seq.{drop-cons}
use Rattle.std.specs.List.{flat_map}
use Rattle.std.specs.Option.{option_eq}
use Rattle.std.proofs.lemmas.Bool.Decides.{nat_tests}
use Rattle.blink_rest.specs.Chain.{Pages, Cell, IsChain}
use Rattle.blink_rest.specs.Level.{IsParentOf, numbers_of}
use Rattle.blink_rest.specs.Rest.{AreChains, EachIsParent, TopHasOne, IsAtRest}
use Rattle.blink_rest.specs.Walk.{HasChain, HasNoChain, HasNamedChain, HasNoNamedChain}
use Rattle.blink_rest.proofs.OneListOfLevels.{same_chain, same_chains}
use Rattle.blink_rest.proofs.WalkAlongLevel.{length-numbers}
use Rattle.blink_rest.proofs.NoPageLeftOut.{AreNumbered, levels_at_most, whole_if_all, all_if_whole}

-- the levels from one on are as in a tree at rest, and have so many pages
pub record LevelsFrom (fan : ℕ) (pages : Pages) (prime : List ℕ) (level count : ℕ) : Type 0 where
  pub cells : List Cell
  pub above : List (List Cell)
  pub chains : AreChains fan pages level (drop level prime) (cells ∷ above)
  pub named : EachIsParent (cells ∷ above)
  pub one_root : TopHasOne (cells ∷ above)
  pub counted : length (flat_map numbers_of (cells ∷ above)) ≡ count

drop_end : (ns : List ℕ) (n : ℕ) → length ns ≤ n → drop n ns ≡ []
drop_end [] zero over = refl
drop_end [] (suc n) over = refl
drop_end (m ∷ ns) zero over = absurd (omega arith)
drop_end (m ∷ ns) (suc n) over = drop_end ns n (omega arith)

drop_next : (ns : List ℕ) (n : ℕ) → n < length ns → drop n ns ≡ get_or ns n 0 ∷ drop (n + 1) ns
drop_next ns n inside = drop-cons ns n 0 inside ∙ ap (λ (k : ℕ). get_or ns n 0 ∷ drop k ns) (sym (add-one n))

module _ (fan : ℕ) (pages : Pages) where
  -- the top level of a tree at rest
  top_at : (level at k : ℕ) (prime : List ℕ) (levels : List (List Cell)) → at ≡ level + k → suc k ≡ length prime
      → AreChains fan pages level prime levels → TopHasOne levels → HasChain fan pages at (get_or prime k 0) 1
  top_at level at k [] levels here last chains one = absurd (omega arith)
  top_at level at k (leftmost ∷ prime) [] here last chains one = absurd one
  top_at level at zero (leftmost ∷ []) (cells ∷ []) here last chains one =
      record { cells = cells; chain = subst (λ (n : ℕ). IsChain fan pages n leftmost cells) (omega arith) chains.0; counted = one }
  top_at level at zero (leftmost ∷ []) (cells ∷ next ∷ above) here last chains one = absurd chains.1
  top_at level at zero (leftmost ∷ left ∷ prime) (cells ∷ above) here last chains one = absurd (omega arith)
  top_at level at (suc k) (leftmost ∷ []) (cells ∷ above) here last chains one = absurd (omega arith)
  top_at level at (suc k) (leftmost ∷ left ∷ prime) (cells ∷ []) here last chains one = absurd chains.1
  top_at level at (suc k) (leftmost ∷ left ∷ prime) (cells ∷ next ∷ above) here last chains one =
      top_at (level + 1) at k (left ∷ prime) (next ∷ above) (omega arith) (omega arith) chains.1 one

  -- a level below
  named_at : (level at k : ℕ) (prime : List ℕ) (levels : List (List Cell)) → at ≡ level + k → suc k < length prime
      → AreChains fan pages level prime levels → EachIsParent levels → HasNoNamedChain fan pages at (get_or prime k 0) (get_or prime (suc k) 0) → ⊥
  named_at level at k [] levels here inside chains named never = absurd (omega arith)
  named_at level at k (leftmost ∷ []) levels here inside chains named never = absurd (omega arith)
  named_at level at k (leftmost ∷ left ∷ prime) [] here inside chains named never = absurd chains
  named_at level at k (leftmost ∷ left ∷ prime) (cells ∷ []) here inside chains named never = absurd chains.1
  named_at level at zero (leftmost ∷ left ∷ prime) (cells ∷ next ∷ above) here inside chains named never =
      let same : level ≡ at = omega arith in
      never next cells (subst (λ (n : ℕ). IsChain fan pages (n + 1) left next) same chains.1.0) (subst (λ (n : ℕ). IsChain fan pages n leftmost cells) same chains.0) named.0
  named_at level at (suc k) (leftmost ∷ left ∷ prime) (cells ∷ next ∷ above) here inside chains named never =
      named_at (level + 1) at k (left ∷ prime) (next ∷ above) (omega arith) (omega arith) chains.1 named.1 never

  module _ (prime : List ℕ) where
    -- the top level alone
    pub levels_top : (level : ℕ) → level + 1 ≡ length prime → HasChain fan pages level (get_or prime level 0) 1 → LevelsFrom fan pages prime level 1
    levels_top level last has = record {
      cells = has.cells;
      above = [];
      chains = subst (λ (ns : List ℕ). AreChains fan pages level ns (has.cells ∷ []))
          (sym (drop_next prime level (omega arith) ∙ ap (λ (ns : List ℕ). get_or prime level 0 ∷ ns) (drop_end prime (level + 1) (omega arith)))) (has.chain, tt);
      named = tt;
      one_root = has.counted;
      counted = omega (arith, length-append (numbers_of has.cells) [], length-numbers has.cells, has.counted);
    }

    -- the leftmost page of the lowest
    pub lowest : (level count : ℕ) → level < length prime → (from : LevelsFrom fan pages prime level count) → IsChain fan pages level (get_or prime level 0) from.cells
    lowest level count inside from = (subst (λ (ns : List ℕ). AreChains fan pages level ns (from.cells ∷ from.above)) (drop_next prime level inside) from.chains).0

    -- one level more
    pub levels_more : (level count more : ℕ) → level + 1 < length prime → LevelsFrom fan pages prime (level + 1) count
        → HasNamedChain fan pages level (get_or prime level 0) (get_or prime (level + 1) 0) more → LevelsFrom fan pages prime level (count + more)
    levels_more level count more inside from has =
        let same : has.uppers ≡ from.cells = same_chain fan pages (level + 1) (get_or prime (level + 1) 0) has.uppers from.cells has.above (lowest (level + 1) count inside from) in
        record {
          cells = has.cells;
          above = from.cells ∷ from.above;
          chains = subst (λ (ns : List ℕ). AreChains fan pages level ns (has.cells ∷ from.cells ∷ from.above)) (sym (drop_next prime level (omega arith))) (has.chain, from.chains);
          named = (subst (λ (uppers : List Cell). IsParentOf uppers has.cells) same has.named, from.named);
          one_root = from.one_root;
          counted = omega (arith, length-append (numbers_of has.cells) (flat_map numbers_of (from.cells ∷ from.above)), length-numbers has.cells, has.counted, from.counted);
        }

    -- they have no more pages than there are
    pub levels_count : (n level count : ℕ) → AreNumbered n pages → LevelsFrom fan pages prime level count → count ≤ n
    levels_count n level count numbered from = omega (arith, from.counted, levels_at_most n fan pages numbered level (drop level prime) (from.cells ∷ from.above) from.chains)

    -- all levels, with all pages
    pub levels_whole : (n count : ℕ) → AreNumbered n pages → LevelsFrom fan pages prime 0 count → count ≡ n → IsAtRest fan prime pages
    levels_whole n count numbered from all = (
      from.cells ∷ from.above,
      record {
        chains = from.chains;
        named = from.named;
        one_root = from.one_root;
        no_other_page = whole_if_all n fan pages numbered 0 prime (from.cells ∷ from.above) from.chains (from.counted ∙ all);
      },
    )

    -- a tree at rest has all pages in its levels
    pub rest_whole : (n count : ℕ) → AreNumbered n pages → LevelsFrom fan pages prime 0 count → IsAtRest fan prime pages → count ≡ n
    rest_whole n count numbered from (levels, are) =
        sym from.counted ∙ ap (λ (ls : List (List Cell)). length (flat_map numbers_of ls)) (same_chains fan pages 0 prime (from.cells ∷ from.above) levels from.chains are.chains)
        ∙ all_if_whole n fan pages numbered 0 prime levels are.chains are.no_other_page

    -- its top level has one page
    pub rest_top : (level : ℕ) → level + 1 ≡ length prime → IsAtRest fan prime pages → HasChain fan pages level (get_or prime level 0) 1
    rest_top level last (levels, are) = top_at 0 level level prime levels (omega arith) (omega arith) are.chains are.one_root

    -- each level below is named
    pub rest_named : (level : ℕ) → level + 1 < length prime → IsAtRest fan prime pages → HasNoNamedChain fan pages level (get_or prime level 0) (get_or prime (level + 1) 0) → ⊥
    rest_named level inside (levels, are) never =
        named_at 0 level level prime levels (omega arith) (omega arith) are.chains are.named
        (subst (λ (k : ℕ). HasNoNamedChain fan pages level (get_or prime level 0) (get_or prime k 0)) (add-one level) never)

    -- a first answer other than one page
    pub top_other : (level : ℕ) (found : Option ℕ) (differs : Bool) → level + 1 ≡ length prime
        → MatchOption found (HasNoChain fan pages level (get_or prime level 0)) (λ count. HasChain fan pages level (get_or prime level 0) count)
        → differs ≡ not (option_eq eqb found (Some 1)) → differs ≡ true → IsAtRest fan prime pages → ⊥
    top_other level None differs last none is other rest = let has = rest_top level last rest in none has.cells has.chain
    top_other level (Some count) differs last some is other rest =
        let has = rest_top level last rest in
        let one : count ≡ 1 = sym some.counted ∙ ap length (same_chain fan pages level (get_or prime level 0) some.cells has.cells some.chain has.chain) ∙ has.counted in
        grind (arith, nat_tests, one, is, other)

-- and one of one page
pub top_one : (found : Option ℕ) (differs : Bool) → differs ≡ not (option_eq eqb found (Some 1)) → differs ≡ false → found ≡ Some 1
top_one None differs is not_so = absurd (cc (is, not_so))
top_one (Some count) differs is not_so = let one : count ≡ 1 = grind (arith, nat_tests, is, not_so) in ap Some one
