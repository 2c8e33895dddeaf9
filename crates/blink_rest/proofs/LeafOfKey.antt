-- The leaf of a key in a tree at rest: a search comes to it and to no other, and it has the key's entry.
use Rattle.std.proofs.Common.{◌≡◌, ℕ, ◌+◌, ◌-◌, ◌≤◌, Some, None, List, [], ◌∷◌, length, suc, inl, inr, refl, sym, subst, ap, ◌∙◌, arith}
use Rattle.std.specs.List.{flat_map, slice_get}
use Rattle.std.proofs.lemmas.Bool.{cases_lt}
use Rattle.blink_page.specs.{IsRising, value_at, PlainPage, IsKeyOf}
use Rattle.blink_page.specs.declared.limits.TheConstants.{GREATEST_KEY}
use Rattle.blink_page.proofs.Offered.{value_at-above}
use Rattle.blink_rest.specs.Chain.{Pages, Cell, IsChain}
use Rattle.blink_rest.specs.Numbers.{IsMember}
use Rattle.blink_rest.specs.Level.{entries_along, numbers_of}
use Rattle.blink_rest.specs.Reach.{Reaches, IsRoot, IsLeafOf, EndsAtLeaf}
use Rattle.blink_rest.specs.Rest.{AreLevels}
use Rattle.blink_rest.specs.Entries.{AreEntries}
use Rattle.blink_rest.proofs.DifferentNumbers.{among_append, among_from_Contains}
use Rattle.blink_rest.proofs.LinesOfPages.{stands_there, stands_of}
use Rattle.blink_rest.proofs.EntriesOfLevel.{chain_rising, chain_spans, chain_spans_once, chain_value}
use Rattle.blink_rest.proofs.OneListOfLevels.{same_chain}
use Rattle.blink_rest.proofs.PagesReached.{page_standing, level_at_least, lowest_reached, reached_for}

-- the last number of a list by its place is its last
pub root_at_end : (prime : List ℕ) (root : ℕ) → slice_get prime (length prime - 1) ≡ Some root → IsRoot prime root
root_at_end [] root there = cc
root_at_end (leftmost ∷ []) root there = there
root_at_end (leftmost ∷ left ∷ prime) root there =
    let e : suc (suc (length prime)) - 1 ≡ suc (suc (length prime) - 1) = omega arith in
    root_at_end (left ∷ prime) root (rw e at there)

-- a list that has a first has a last
some_last : (first : ℕ) (prime : List ℕ) → (root : ℕ) × IsRoot (first ∷ prime) root
some_last first [] = (first, refl)
some_last first (next ∷ prime) = some_last next prime

module _ (fan : ℕ) (pages : Pages) where
  -- the entries of a tree are strictly ascending, up to the greatest number
  pub entries_rise : (prime : List ℕ) (entries : List (ℕ × ℕ)) → AreEntries fan prime pages entries → IsRising 0 entries (GREATEST_KEY + 1)
  entries_rise prime entries are = rw are.joined (chain_rising fan 0 are.leftmost pages are.leaves are.chain)

  -- a key that has an entry is at most the greatest number
  pub key_in_range : (prime : List ℕ) (key value : ℕ) (entries : List (ℕ × ℕ)) → AreEntries fan prime pages entries → value_at key entries ≡ Some value → key ≤ GREATEST_KEY
  key_in_range prime key value entries are found =
      elim (cases_lt GREATEST_KEY key) [
        | inr inside ↦ inside
        | inl beyond ↦ absurd (cc (found, value_at-above key 0 entries (GREATEST_KEY + 1) (entries_rise prime entries are) (omega arith)))
      ]

  -- a leaf of a tree at rest stands in the chain of level 0
  leaf_standing : (leftmost n : ℕ) (p : PlainPage) (prime : List ℕ) (leaves : List Cell) (levels : List (List Cell)) → AreLevels fan (leftmost ∷ prime) pages (leaves ∷ levels)
      → pages n ≡ Some p → p.level ≡ 0 → (c : Cell) × (n ≡ c.number) × (p ≡ c.page) × IsMember c leaves
  leaf_standing leftmost n p prime leaves levels at_rest there is_leaf =
      elim (among_append n (numbers_of leaves) (flat_map numbers_of levels) (among_from_Contains _ n (at_rest.no_other_page n p there))) [
        | inl here ↦ let it = page_standing fan pages 0 leftmost n p leaves at_rest.chains.0 there here in (it.0, it.1, it.2, it.3)
        | inr above ↦ absurd (omega (arith, level_at_least fan pages 1 n p prime levels at_rest.chains.1 there above))
      ]

  -- a search for a key in a tree at rest comes to one leaf, which is the one that the key belongs to
  pub ends_at_leaf : (prime : List ℕ) (levels : List (List Cell)) (root key : ℕ) (entries : List (ℕ × ℕ)) → AreLevels fan prime pages levels
      → IsRoot prime root → AreEntries fan prime pages entries → key ≤ GREATEST_KEY → EndsAtLeaf prime pages entries key
  ends_at_leaf [] levels root key entries at_rest is_root are in_range = absurd (cc (are.is_first))
  ends_at_leaf (first ∷ prime) [] root key entries at_rest is_root are in_range = absurd at_rest.chains
  ends_at_leaf (first ∷ prime) (leaves ∷ levels) root key entries at_rest is_root are in_range =
      let chain = at_rest.chains.0 in
      let it = chain_spans fan 0 first pages leaves chain key in_range in
      let there = stands_there pages leaves it.0 chain.pages_there it.1 in
      let same_leftmost : are.leftmost ≡ first = cc (are.is_first) in
      let C : ℕ → Type 0 = λ n. IsChain fan pages 0 n are.leaves in
      let same : are.leaves ≡ leaves = same_chain fan pages 0 first are.leaves leaves (subst C same_leftmost are.chain) chain in
      let others : (other : ℕ) (page : PlainPage) → pages other ≡ Some page → page.level ≡ 0 → IsKeyOf page key → other ≡ it.0.number =
      λ other page here is_leaf belongs.
      let found = leaf_standing first other page prime leaves levels at_rest here is_leaf in
      let K : PlainPage → Type 0 = λ q. IsKeyOf q key in
      let once = chain_spans_once fan 0 first pages leaves chain key found.0 it.0 found.3 it.1 (subst K found.2 belongs) it.2 in
      found.1 ∙ ap (λ (c : Cell). c.number) once in
      record {
        root = root;
        is_root = is_root;
        number = it.0.number;
        leaf = it.0.page;
        is_leaf_of = record {
          there = there;
          is_leaf = (stands_of fan 0 None (Some first) leaves (Some GREATEST_KEY) None it.0 chain.in_line it.1).has_level;
          belongs = it.2;
          same_value = ap (value_at key) (are.joined ∙ ap entries_along same) ∙ chain_value fan 0 first pages leaves chain key it.0 it.1 it.2;
        };
        reached = lowest_reached fan pages key in_range 0 root (first ∷ prime) leaves levels it.0 at_rest.chains at_rest.named at_rest.one_root is_root it.1 it.2;
        no_other_reached = λ other page reaches here is_leaf.
            let found = reached_for fan pages key in_range (first ∷ prime) (leaves ∷ levels) root at_rest is_root other reaches in
            let same_page : found.0 ≡ page = cc (found.1, here) in
            let K : PlainPage → Type 0 = λ q. IsKeyOf q key in
            others other page here is_leaf (subst K same_page found.2);
        no_other_belongs = others;
      }

  -- whichever leaf is reached for a key, it is the one that the key belongs to
  pub reached_leaf : (prime : List ℕ) (levels : List (List Cell)) (root key : ℕ) (entries : List (ℕ × ℕ)) → AreLevels fan prime pages levels
      → IsRoot prime root → AreEntries fan prime pages entries → key ≤ GREATEST_KEY
      → (number : ℕ) (page : PlainPage) → Reaches pages root key number → pages number ≡ Some page → page.level ≡ 0 → IsLeafOf pages entries key number page
  reached_leaf prime levels root key entries at_rest is_root are in_range number page reaches there is_leaf =
      let ends = ends_at_leaf prime levels root key entries at_rest is_root are in_range in
      let same_root : root ≡ ends.root = cc (is_root, ends.is_root) in
      let R : ℕ → Type 0 = λ r. Reaches pages r key number in
      let same_number = ends.no_other_reached number page (subst R same_root reaches) there is_leaf in
      let known = ends.is_leaf_of.there in
      let same_page : ends.leaf ≡ page = cc (known, there, ap pages same_number) in
      let K : PlainPage → Type 0 = λ q. IsKeyOf q key in
      record {
        there = there;
        is_leaf = is_leaf;
        belongs = subst K same_page ends.is_leaf_of.belongs;
        same_value = ends.is_leaf_of.same_value ∙ ap (λ (q : PlainPage). value_at key q.entries) same_page;
      }

  -- and whichever leaf a key belongs to, it is the one that is reached
  pub leaf_reached : (prime : List ℕ) (levels : List (List Cell)) (root key : ℕ) (entries : List (ℕ × ℕ)) → AreLevels fan prime pages levels
      → IsRoot prime root → AreEntries fan prime pages entries → key ≤ GREATEST_KEY
      → (number : ℕ) (page : PlainPage) → pages number ≡ Some page → page.level ≡ 0 → IsKeyOf page key → Reaches pages root key number
  leaf_reached prime levels root key entries at_rest is_root are in_range number page there is_leaf belongs =
      let ends = ends_at_leaf prime levels root key entries at_rest is_root are in_range in
      let same_root : ends.root ≡ root = cc (ends.is_root, is_root) in
      let N : ℕ → Type 0 = λ n. Reaches pages ends.root key n in
      let R : ℕ → Type 0 = λ r. Reaches pages r key number in
      subst R same_root (subst N (sym (ends.no_other_belongs number page there is_leaf belongs)) ends.reached)

  -- a tree at rest has entries
  pub entries_there : (prime : List ℕ) (levels : List (List Cell)) → AreLevels fan prime pages levels → (entries : List (ℕ × ℕ)) × AreEntries fan prime pages entries
  entries_there [] [] at_rest = absurd at_rest.one_root
  entries_there [] (leaves ∷ levels) at_rest = absurd at_rest.chains
  entries_there (first ∷ prime) [] at_rest = absurd at_rest.chains
  entries_there (first ∷ prime) (leaves ∷ levels) at_rest =
      (entries_along leaves, record { leftmost = first; is_first = refl; leaves = leaves; chain = at_rest.chains.0; joined = refl })

  -- and a root
  pub root_there : (prime : List ℕ) (levels : List (List Cell)) → AreLevels fan prime pages levels → (root : ℕ) × IsRoot prime root
  root_there [] [] at_rest = absurd at_rest.one_root
  root_there [] (leaves ∷ levels) at_rest = absurd at_rest.chains
  root_there (first ∷ prime) levels at_rest = some_last first prime
