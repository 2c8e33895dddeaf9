-- A store whose pages and prime block are those of a kept tree's levels with other numbers is that tree at rest.
use Rattle.std.proofs.Common.{◌≡◌, ℕ, ◌+◌, ◌-◌, ◌<◌, ◌≤◌, zero, suc, List, [], ◌∷◌, length, drop, get_or, refl, ap, ◌∙◌, subst, arith}
use Rattle.std.proofs.lemmas.List.{drop_all}
use Rattle.blink_page.specs.declared.limits.TheConstants.{MAX_PAGE}
use Rattle.blink_store.specs.{PlainStore, page_of}
use Rattle.blink_rest.specs.{Pages, AreLevels, IsStoreAtRest}
use Rattle.blink_rest.specs.Chain.{Cell}
use Rattle.blink_rows.specs.{AreBounded, PlainCounts}
use Rattle.blink_live.specs.Gathered.{HasTheEntries, IsNumberedInOrder, KeepsTreeAtRest}
use Rattle.blink_live.specs.Renumbered.{firsts_anew, levels_anew, pages_in_all}
use Rattle.blink_live.specs.Words.{KeepsPages}
use Rattle.blink_live.proofs.gathered.KeptLevelsFit.{levels_fit, levels_in_numbers}
use Rattle.blink_live.proofs.gathered.LevelsAreAdded.{LevelsLeft, none_left}
use Rattle.blink_live.proofs.gathered.RenumberedTreeIsAtRest.{are-levels_anew, entries-levels_anew, in_order-levels_anew, length-levels_anew}

-- a prime block is its first page and the others
pub first_of_prime : (prime : List ℕ) → 0 < length prime → prime ≡ get_or prime 0 0 ∷ drop 1 prime
first_of_prime [] some = absurd (omega arith)
first_of_prime (leftmost ∷ prime) some = refl

-- and from any place on
pub next_of_prime : (prime : List ℕ) (level : ℕ) → level < length prime → drop level prime ≡ get_or prime level 0 ∷ drop (suc level) prime
next_of_prime [] level inside = absurd (omega arith)
next_of_prime (leftmost ∷ prime) zero inside = refl
next_of_prime (leftmost ∷ prime) (suc level) inside = next_of_prime prime level (omega arith)

-- the store has the pages and the first numbers of these levels
pub record IsOfLevels (store : PlainStore) (levels : List (List Cell)) : Type 0 where
  pub same_pages : store.pages ≡ pages_in_all (levels_anew 1 1 levels)
  pub same_prime : store.prime ≡ firsts_anew 1 levels

-- so it is once no level is left
of_all_levels : (counts : PlainCounts) (words : List ℕ) (fan : ℕ) (prime firsts : List ℕ) (level child : ℕ) (old store : PlainStore) → length prime ≤ level → store ≡ record old { prime = firsts }
    → ((pages : Pages) (levels : List (List Cell)) → KeepsPages counts words pages → AreLevels fan prime pages levels → LevelsLeft counts words fan pages (drop level prime) level child old.pages firsts levels)
    → (pages : Pages) (levels : List (List Cell)) → KeepsPages counts words pages → AreLevels fan prime pages levels → IsOfLevels store levels
of_all_levels counts words fan prime firsts level child old store past same left pages levels kept are =
    let it = subst (λ (ns : List ℕ). LevelsLeft counts words fan pages ns level child old.pages firsts levels) (drop_all level prime past) (left pages levels kept are) in
    let all = none_left counts words fan pages level child old.pages firsts levels it in
    record { same_pages = ap (λ (s : PlainStore). s.pages) same ∙ all.0; same_prime = ap (λ (s : PlainStore). s.prime) same ∙ all.1 }

module _ (counts : PlainCounts) (words : List ℕ) (fan : ℕ) (prime : List ℕ) (store : PlainStore) (bounded : counts.numbers ≤ MAX_PAGE + 1) (same_fan : store.fan ≡ fan)
    (whole : (pages : Pages) (levels : List (List Cell)) → KeepsPages counts words pages → AreLevels fan prime pages levels → IsOfLevels store levels) where
  -- its levels
  levels_of_it : (pages : Pages) (levels : List (List Cell)) → KeepsPages counts words pages → AreLevels fan prime pages levels → AreLevels store.fan store.prime (page_of store) (levels_anew 1 1 levels)
  levels_of_it pages levels kept are =
      let of_levels = whole pages levels kept are in
      let fit = levels_fit counts words fan pages kept bounded prime levels are.chains in
      rw (same_fan, of_levels.same_prime) (are-levels_anew fan pages store prime levels are of_levels.same_pages fit)

  -- it has the entries of whatever tree is in the words
  entries_of_it : HasTheEntries counts words fan prime store
  entries_of_it pages kept at_rest entries are =
      let of_levels = whole pages at_rest.0 kept at_rest.1 in
      let fit = levels_fit counts words fan pages kept bounded prime at_rest.0 at_rest.1.chains in
      rw (same_fan, of_levels.same_prime) (entries-levels_anew fan pages store prime at_rest.0 entries at_rest.1 are of_levels.same_pages fit)

-- the store is the tree in the words
pub record IsTheTree (counts : PlainCounts) (words : List ℕ) (fan : ℕ) (prime : List ℕ) (store : PlainStore) : Type 0 where
  pub at_rest : IsStoreAtRest store
  pub entries : HasTheEntries counts words fan prime store
  pub in_order : IsNumberedInOrder store
  pub few : length store.pages ≤ counts.numbers - 1

-- once the prime block names the first pages of all levels
pub is_the_tree : (counts : PlainCounts) (words : List ℕ) (fan : ℕ) (prime firsts : List ℕ) (level child : ℕ) (old store : PlainStore)
    → AreBounded counts → KeepsTreeAtRest counts words fan prime → length prime ≤ level → old.fan ≡ fan → store ≡ record old { prime = firsts }
    → ((pages : Pages) (levels : List (List Cell)) → KeepsPages counts words pages → AreLevels fan prime pages levels → LevelsLeft counts words fan pages (drop level prime) level child old.pages firsts levels)
    → IsTheTree counts words fan prime store
is_the_tree counts words fan prime firsts level child old store bounded rest past fan_is same left =
    let whole = of_all_levels counts words fan prime firsts level child old store past same left in
    let same_fan : store.fan ≡ fan = ap (λ (s : PlainStore). s.fan) same ∙ fan_is in
    let levels = rest.at_rest.0 in let are = rest.at_rest.1 in
    let new = levels_of_it counts words fan prime store bounded.numbers_bounded same_fan whole rest.pages levels rest.kept are in
    record {
      at_rest = (levels_anew 1 1 levels, new);
      entries = entries_of_it counts words fan prime store bounded.numbers_bounded same_fan whole;
      in_order = record {
        levels = levels_anew 1 1 levels;
        are = new;
        in_order = in_order-levels_anew fan rest.pages store levels (whole rest.pages levels rest.kept are).same_pages;
      };
      few = let as_many = ap length (whole rest.pages levels rest.kept are).same_pages in
          let all = length-levels_anew 1 1 levels in
          let fit = levels_in_numbers counts words fan rest.pages rest.kept prime levels are.chains in
          omega (arith, as_many, all, fit);
    }
