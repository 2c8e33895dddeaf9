-- A tree whose top level has one page is at rest, with the entries of its leaves.
use Rattle.std.proofs.Common.{◌≡◌, ℕ, ◌+◌, ◌<◌, ◌≤◌, suc, Option, Some, None, List, [], ◌∷◌, ◌++◌, inl, inr, length, refl, sym, ap, subst, ◌∙◌, arith, append_assoc, length-append}
use Rattle.std.specs.Prelude.{All, slice_get}
use Rattle.std.specs.List.{flat_map, AllByRecursion}
use Rattle.std.proofs.lemmas.Bool.{cases_eq}
use Rattle.std.proofs.lemmas.List.Elements.{All-from_recursion}
use Rattle.blink_page.specs.{IsLawfulPage, PlainPage}
use Rattle.blink_page.specs.declared.limits.TheConstants.{GREATEST_KEY}
use Rattle.blink_rest.specs.{AreAmong, AreChains, AreEntries, AreLevels, InLine, IsMember, IsStoreAtRest, Pages, TopHasOne, entries_from, numbers_of}
use Rattle.blink_rest.specs.Chain.{Cell}
use Rattle.blink_rest.proofs.Offered.{AreAmong-prefix, AreAmong-rest, Contains-from_among}
use Rattle.blink_store.specs.{PlainStore, page_of}
use Rattle.blink_store.proofs.Offered.{has_page}
use Rattle.blink_entries.specs.Index.{store_of}
use Rattle.blink_entries.specs.Index.{map_of}
use Rattle.blink_entries.specs.Packed.{IsInOrder, numbered}
use Rattle.blink_entries.specs.Packing.{AreBuilt, AreLines, IsTree}
use Rattle.blink_entries.proofs.MapOfStore.{map_of-entries}
use Rattle.blink_entries.proofs.packed.LeavesGrow.{length-numbered}

abbrev all_cells : List (List Cell) → List Cell
all_cells levels = flat_map (λ (cs : List Cell). cs) levels

-- lines of pages of the tree are chains
chains_of : (fan : ℕ) (pages : Pages) (level : ℕ) (prime : List ℕ) (levels : List (List Cell)) → AreLines fan level prime levels → AreAmong pages (all_cells levels) → AreChains fan pages level prime levels
chains_of fan pages level [] [] lines among = tt
chains_of fan pages level [] (cells ∷ above) lines among = absurd lines
chains_of fan pages level (leftmost ∷ prime) [] lines among = absurd lines
chains_of fan pages level (leftmost ∷ prime) (cells ∷ above) lines among = (
  record { pages_there = AreAmong-prefix pages cells (all_cells above) among; in_line = lines.0 },
  chains_of fan pages (level + 1) prime above lines.1 (AreAmong-rest pages cells (all_cells above) among),
)

there_after : (before : List PlainPage) (page : PlainPage) (after : List PlainPage) → slice_get (before ++ page ∷ after) (length before) ≡ Some page
there_after [] page after = refl
there_after (b ∷ before) page after = there_after before page after

-- the pages of a store are there
numbered_among : (store : PlainStore) (before pages : List PlainPage) (number : ℕ) → number ≡ suc (length before) → store.pages ≡ before ++ pages → AreAmong (page_of store) (numbered number pages)
numbered_among store before [] number is stand = tt
numbered_among store before (page ∷ pages) number is stand = (
  ap (page_of store) is ∙ ap (λ (ps : List PlainPage). slice_get ps (length before)) stand ∙ there_after before page pages,
  numbered_among store (before ++ page ∷ []) pages (suc number) (omega (arith, is, length-append before (page ∷ []))) (stand ∙ sym (append_assoc before (page ∷ []) pages)),
)

-- and their numbers are all
number_among : (first n : ℕ) (pages : List PlainPage) → first ≤ n → n < first + length pages → IsMember n (numbers_of (numbered first pages))
number_among first n [] from below = absurd (omega (arith, from, below))
number_among first n (page ∷ pages) from below = elim (cases_eq n first) [
  | inl same ↦ inl same
  | inr other ↦ inr (number_among (suc first) n pages (omega (arith, from, other)) (omega (arith, below)))
]

numbers-append : (xs ys : List Cell) → numbers_of (xs ++ ys) ≡ numbers_of xs ++ numbers_of ys
numbers-append [] ys = refl
numbers-append (x ∷ xs) ys = ap (λ (ns : List ℕ). x.number ∷ ns) (numbers-append xs ys)

numbers_of_all : (levels : List (List Cell)) → flat_map numbers_of levels ≡ numbers_of (all_cells levels)
numbers_of_all [] = refl
numbers_of_all (cells ∷ above) = ap (λ (ns : List ℕ). numbers_of cells ++ ns) (numbers_of_all above) ∙ sym (numbers-append cells (all_cells above))

-- the top level is the last
top_at_end : (levels : List (List Cell)) (cells : List Cell) → length cells ≡ 1 → TopHasOne (levels ++ cells ∷ [])
top_at_end [] cells one = one
top_at_end (lower ∷ []) cells one = one
top_at_end (lower ∷ next ∷ levels) cells one = top_at_end (next ∷ levels) cells one

-- each page of a line is lawful
line_lawful : (fan level : ℕ) (floor link : Option ℕ) (cells : List Cell) (last_floor last_link : Option ℕ) → InLine fan level floor link cells last_floor last_link → AllByRecursion (λ (c : Cell). IsLawfulPage fan c.page) cells
line_lawful fan level floor link [] last_floor last_link line = tt
line_lawful fan level floor link (c ∷ cells) last_floor last_link line = (line.3, line_lawful fan level (Some c.page.high) c.page.right cells last_floor last_link line.4)

both_lawful : (fan : ℕ) (xs ys : List Cell) → AllByRecursion (λ (c : Cell). IsLawfulPage fan c.page) xs → AllByRecursion (λ (c : Cell). IsLawfulPage fan c.page) ys → AllByRecursion (λ (c : Cell). IsLawfulPage fan c.page) (xs ++ ys)
both_lawful fan [] ys before after = after
both_lawful fan (x ∷ xs) ys before after = (before.0, both_lawful fan xs ys before.1 after)

lines_lawful : (fan level : ℕ) (prime : List ℕ) (levels : List (List Cell)) → AreLines fan level prime levels → AllByRecursion (λ (c : Cell). IsLawfulPage fan c.page) (all_cells levels)
lines_lawful fan level [] [] lines = tt
lines_lawful fan level [] (cells ∷ above) lines = absurd lines
lines_lawful fan level (leftmost ∷ prime) [] lines = absurd lines
lines_lawful fan level (leftmost ∷ prime) (cells ∷ above) lines =
    both_lawful fan cells (all_cells above) (line_lawful fan level None (Some leftmost) cells (Some GREATEST_KEY) None lines.0) (lines_lawful fan (level + 1) prime above lines.1)

numbered_lawful : (fan number : ℕ) (pages : List PlainPage) → AllByRecursion (λ (c : Cell). IsLawfulPage fan c.page) (numbered number pages) → AllByRecursion (IsLawfulPage fan) pages
numbered_lawful fan number [] lawful = tt
numbered_lawful fan number (page ∷ pages) lawful = (lawful.0, numbered_lawful fan (suc number) pages lawful.1)

module _ (fan : ℕ) (prime : List ℕ) (pages : List PlainPage) (entries : List (ℕ × ℕ)) (tree : IsTree fan prime pages entries) where
  abbrev built : AreBuilt fan prime pages entries tree.0 tree.1
  built = tree.2

  abbrev levels : List (List Cell)
  levels = built.below ++ numbered (suc tree.1) built.top ∷ []

  abbrev store : PlainStore
  store = store_of fan prime pages

  cells_there : AreAmong (page_of store) (all_cells levels)
  cells_there = subst (AreAmong (page_of store)) (sym built.in_order) (numbered_among store [] pages 1 refl refl)

  one_page : length (numbered (suc tree.1) built.top) ≡ 1
  one_page = counted built.top built.lines built.parts
    where
      some : (top : List PlainPage) (level : ℕ) (prime' : List ℕ) (below : List (List Cell)) → AreLines fan level prime' (below ++ numbered (suc tree.1) top ∷ []) → 0 < length top
      some [] level [] [] lines = absurd lines
      some [] level (left ∷ prime') [] lines = absurd (let none = lines.0.1 in cc)
      some [] level [] (cells ∷ below) lines = absurd lines
      some [] level (left ∷ prime') (cells ∷ below) lines = some [] (level + 1) prime' below lines.1
      some (p ∷ top) level prime' below lines = omega arith

      counted : (top : List PlainPage) → AreLines fan 0 prime (built.below ++ numbered (suc tree.1) top ∷ []) → pages ≡ built.beneath ++ top → length (numbered (suc tree.1) top) ≡ 1
      counted top lines parts =
          let least = some top 0 prime built.below lines in
          let all = ap length parts ∙ length-append built.beneath top in
          let few = tree.3 in let begins = built.begins in
          let count : length (numbered (suc tree.1) top) ≡ length top = length-numbered (suc tree.1) top in
          omega (arith, least, all, few, begins, count)

  pub are_levels : AreLevels fan prime (page_of store) levels
  are_levels = record {
    chains = chains_of fan (page_of store) 0 prime levels built.lines cells_there;
    named = built.named;
    one_root = top_at_end built.below (numbered (suc tree.1) built.top) one_page;
    no_other_page = λ number page there.
        let has = has_page store number page there in
        let among = number_among 1 number pages has.0 (let most = has.1 in omega (arith, most)) in
        Contains-from_among _ number (subst (IsMember number) (sym (numbers_of_all levels ∙ ap numbers_of built.in_order)) among);
  }

  pub at_rest : IsStoreAtRest store
  at_rest = (levels, are_levels)

  pub in_order : IsInOrder store
  in_order = record { levels = levels; are = are_levels; in_order = built.in_order }

  pub are_entries : AreEntries fan prime (page_of store) entries
  are_entries = by prime (subst (AreChains fan (page_of store) 0 prime) built.from_leaves are_levels.chains)
    where
      by : (ns : List ℕ) → AreChains fan (page_of store) 0 ns (built.leaves ∷ built.between) → AreEntries fan ns (page_of store) entries
      by [] chains = absurd chains
      by (leftmost ∷ ns) chains = record { leftmost = leftmost; is_first = refl; leaves = built.leaves; chain = chains.0; joined = sym built.joined }

  pub map_is : map_of store ≡ entries_from entries
  map_is = map_of-entries store entries are_entries

  pub all_lawful : All (IsLawfulPage fan) pages
  all_lawful = All-from_recursion (IsLawfulPage fan) pages (numbered_lawful fan 1 pages
      (subst (AllByRecursion (λ (c : Cell). IsLawfulPage fan c.page)) built.in_order (lines_lawful fan 0 prime levels built.lines)))

  pub some_page : 1 ≤ length pages
  some_page =
      let one = one_page in let parts = ap length built.parts ∙ length-append built.beneath built.top in
      let count : length (numbered (suc tree.1) built.top) ≡ length built.top = length-numbered (suc tree.1) built.top in
      omega (arith, one, parts, count)
