-- Links: what follows of the page that a link leads to, and where a leaf's link leads.
use Rattle.std.proofs.Common.{◌≡◌, ℕ, ◌+◌, ◌<◌, ◌≤◌, Option, Some, None, List, [], ◌∷◌, ◌++◌, length, drop, filter, refl, sym, ap, ◌∙◌, subst, arith, length-append}
use Rattle.std.proofs.lemmas.Grind.{flat_map-append}
use Rattle.blink_page.specs.{PlainPage, place_of, least_above, IsRising}
use Rattle.blink_page.specs.declared.limits.TheConstants.{GREATEST_KEY}
use Rattle.blink_store.specs.{PlainStore, page_of, HasPage}
use Rattle.blink_store.proofs.Offered.{has_page}
use Rattle.blink_rest.specs.{AreAmong, InLine, floor_after, AreEntries, entries_along, IsStoreAtRest, IsMapOf, pairs_of, entries_from}
use Rattle.blink_rest.specs.Chain.{Cell, cell}
use Rattle.blink_rest.proofs.Offered.{AreAmong-rest, chain_spans, entries_ascend, entries_exist_at_rest, InLine-prefix, InLine-rest, line_rising, same_cell, search_ends_at_leaf, stands_of, stands_split, stands_there, entries_from-pairs_of}
use Rattle.blink_entries.specs.Index.{cells_of, map_of}
use Rattle.blink_entries.specs.Leaf.{IsLeafFor}
use Rattle.blink_entries.specs.Scan.{IsLinkOf, entries_after, entries_to, is_from, is_within}
use Rattle.blink_entries.proofs.PagesAlongLinks.{cells_from-line, cells_from-none, line_within}
use Rattle.blink_entries.proofs.MapOfStore.{map_of-entries}
use Rattle.blink_entries.proofs.StretchOfScan.{scan_of_parts, all_within, from_within}

-- a list without a length is empty
pub empty_of : (xs : List (ℕ × ℕ)) → length xs ≡ 0 → xs ≡ []
empty_of [] none = refl
empty_of (x ∷ xs) none = absurd (omega arith)

module _ (store : PlainStore) where
  -- a link leads to its pages
  pub link_cells : (link : Option ℕ) (is : IsLinkOf store link) → cells_of store link ≡ is.cells
  link_cells link is = cells_from-line (page_of store) store.fan is.tail.level (length store.pages) is.tail.floor link (Some GREATEST_KEY) is.cells is.tail.pages_there is.tail.in_line is.few

  -- no link leads to no entry
  pub no_link_no_entry : entries_after store None ≡ []
  no_link_no_entry = ap entries_along (cells_from-none (page_of store) (length store.pages))

  -- what a link says of the page that it leads to
  pub record LeadsOn (link : Option ℕ) (number : ℕ) (page : PlainPage) : Type 0 where
    pub onward : IsLinkOf store page.right
    pub first : cells_of store link ≡ cell number page ∷ cells_of store page.right
    pub entries : entries_after store link ≡ page.entries ++ entries_after store page.right
    pub falls : length (cells_of store page.right) < length (cells_of store link)

  module _ (link : Option ℕ) (number : ℕ) (leads : link ≡ Some number) (is : IsLinkOf store link) where
    -- there is a page of its number
    pub link_page : HasPage store number
    link_page = first is.cells is.tail.pages_there is.tail.in_line
      where
        first : (cells : List Cell) → AreAmong (page_of store) cells → InLine store.fan is.tail.level is.tail.floor link cells (Some GREATEST_KEY) None → HasPage store number
        first [] among line = absurd (cc (line.1, leads))
        first (c ∷ cells) among line =
            let same : number ≡ c.number = cc (line.0, leads) in
            has_page store number c.page (ap (page_of store) same ∙ among.0)

    -- and the pages after it are where its right link leads
    pub leads_on : (page : PlainPage) → page_of store number ≡ Some page → LeadsOn link number page
    leads_on page there = first is.cells is.tail.pages_there is.tail.in_line is.few (link_cells link is)
      where
        first : (cells : List Cell) → AreAmong (page_of store) cells → InLine store.fan is.tail.level is.tail.floor link cells (Some GREATEST_KEY) None → length cells ≤ length store.pages
            → cells_of store link ≡ cells → LeadsOn link number page
        first [] among line few all = absurd (cc (line.1, leads))
        first (c ∷ cells) among line few all =
            let same : number ≡ c.number = cc (line.0, leads) in
            let contents : c.page ≡ page = cc (ap (page_of store) same, among.0, there) in
            let on : IsLinkOf store c.page.right = record {
              cells = cells;
              tail = record { level = is.tail.level; floor = Some c.page.high; pages_there = among.1; in_line = line.4 };
              few = omega arith;
            } in
            let rest = link_cells c.page.right on in
            subst (LeadsOn link number) contents (record {
              onward = on;
              first = all ∙ (λ i. same_cell c (cell number c.page) (sym same) refl i ∷ sym rest i);
              entries = ap entries_along all ∙ ap (λ (cs : List Cell). c.page.entries ++ entries_along cs) (sym rest);
              falls = omega (arith, ap length rest, ap length all);
            })

  module _ (at_rest : IsStoreAtRest store) (lo hi : ℕ) (in_range : lo ≤ GREATEST_KEY) (leaf : PlainPage) (is_for : IsLeafFor store lo leaf) where
    -- where a leaf stands among the leaves
    pub record StandsAt (entries : List (ℕ × ℕ)) : Type 0 where
      pub prefix : List (ℕ × ℕ)
      pub low : ℕ
      pub least : low ≡ least_above leaf.floor
      pub after : List Cell
      pub joined : entries ≡ prefix ++ (leaf.entries ++ entries_along after)
      pub below : IsRising 0 prefix low
      pub not_below : low ≤ lo
      pub own : IsRising low leaf.entries (leaf.high + 1)
      pub above : IsRising (leaf.high + 1) (entries_along after) (GREATEST_KEY + 1)
      pub onward : IsLinkOf store leaf.right
      pub rest : cells_of store leaf.right ≡ after

    -- the key's leaf stands among them
    pub stands_at : (entries : List (ℕ × ℕ)) → AreEntries store.fan store.prime (page_of store) entries → StandsAt entries
    stands_at entries are =
        let pages = page_of store in
        let it = chain_spans store.fan 0 are.leftmost pages are.leaves are.chain lo in_range in
        let c = it.0 in
        let there = stands_there pages are.leaves c are.chain.pages_there it.1 in
        let of_line = stands_of store.fan 0 None (Some are.leftmost) are.leaves (Some GREATEST_KEY) None c are.chain.in_line it.1 in
        let ends = search_ends_at_leaf store.fan store.prime pages entries lo at_rest are in_range in
        let one = ends.no_other_belongs is_for.number leaf is_for.there is_for.is_leaf is_for.belongs in
        let other = ends.no_other_belongs c.number c.page there of_line.has_level it.2 in
        let known = is_for.there in
        let contents : c.page ≡ leaf = cc (there, known, ap pages (other ∙ sym one)) in
        let parts = stands_split c are.leaves it.1 in
        let L : List Cell → Type 0 = λ cells. InLine store.fan 0 None (Some are.leftmost) cells (Some GREATEST_KEY) None in
        let A : List Cell → Type 0 = λ cells. AreAmong pages cells in
        let line = subst L parts.2 are.chain.in_line in
        let among = AreAmong-rest pages parts.0 (c ∷ parts.1) (subst A parts.2 are.chain.pages_there) in
        let first = InLine-prefix store.fan 0 None (Some are.leftmost) parts.0 (c ∷ parts.1) (Some GREATEST_KEY) None line in
        let later = InLine-rest store.fan 0 None (Some are.leftmost) parts.0 (c ∷ parts.1) (Some GREATEST_KEY) None line in
        let least : least_above c.page.floor ≡ least_above (floor_after None parts.0) = ap least_above later.1 in
        let split : entries_along (parts.0 ++ c ∷ parts.1) ≡ entries_along parts.0 ++ (c.page.entries ++ entries_along parts.1)
        = flat_map-append (λ (d : Cell). d.page.entries) parts.0 (c ∷ parts.1) in
        let same_leaf : entries_along parts.0 ++ (c.page.entries ++ entries_along parts.1) ≡ entries_along parts.0 ++ (leaf.entries ++ entries_along parts.1)
        = ap (λ (p : PlainPage). entries_along parts.0 ++ (p.entries ++ entries_along parts.1)) contents in
        let from_key : least_above c.page.floor ≤ lo = it.2.0 in
        let lawful = later.3.keys_rise in
        let onward : IsLinkOf store c.page.right = record {
          cells = parts.1;
          tail = record { level = 0; floor = Some c.page.high; pages_there = among.1; in_line = later.4 };
          few = omega (
            arith,
            line_within store 0 are.leftmost are.leaves (Some GREATEST_KEY) None are.chain.pages_there are.chain.in_line,
            ap length parts.2,
            length-append parts.0 (c ∷ parts.1),
          );
        } in
        record {
          prefix = entries_along parts.0;
          low = least_above c.page.floor;
          least = ap (λ (p : PlainPage). least_above p.floor) contents;
          after = parts.1;
          joined = are.joined ∙ ap entries_along parts.2 ∙ split ∙ same_leaf;
          below = subst (λ (low : ℕ). IsRising 0 (entries_along parts.0) low) (sym least) (line_rising store.fan 0 None (Some are.leftmost) parts.0 _ _ first);
          not_below = from_key;
          own = subst (λ (p : PlainPage). IsRising (least_above c.page.floor) p.entries (p.high + 1)) contents lawful;
          above = subst (λ (p : PlainPage). IsRising (p.high + 1) (entries_along parts.1) (GREATEST_KEY + 1)) contents
              (line_rising store.fan 0 (Some c.page.high) c.page.right parts.1 (Some GREATEST_KEY) None later.4);
          onward = subst (λ (p : PlainPage). IsLinkOf store p.right) contents onward;
          rest = ap (λ (p : PlainPage). cells_of store p.right) (sym contents) ∙ link_cells c.page.right onward;
        }

    -- its right link leads to the leaves after it
    pub leaf_link : IsLinkOf store leaf.right
    leaf_link = let found = entries_exist_at_rest store.fan store.prime (page_of store) at_rest in (stands_at found.0 found.1).onward

    -- the entries of the map from lo to hi are its entries from lo's place on and those after it, up to hi
    pub scan_from_leaf : entries_to hi (drop (place_of lo leaf.entries) leaf.entries ++ entries_after store leaf.right) ≡ filter (is_within lo hi) (map_of store)
    scan_from_leaf =
        let found = entries_exist_at_rest store.fan store.prime (page_of store) at_rest in
        let at = stands_at found.0 found.1 in
        let most : lo ≤ leaf.high = is_for.belongs.1 in
        let whole : map_of store ≡ entries_from (at.prefix ++ (leaf.entries ++ entries_along at.after)) = map_of-entries store found.0 found.1 ∙ ap entries_from at.joined in
        ap (λ (cs : List Cell). entries_to hi (drop (place_of lo leaf.entries) leaf.entries ++ entries_along cs)) at.rest
        ∙ sym (scan_of_parts lo hi 0 at.low (leaf.high + 1) (GREATEST_KEY + 1) at.prefix leaf.entries (entries_along at.after) at.below at.not_below at.own (omega arith) at.above)
        ∙ ap (filter (is_within lo hi)) (sym whole)

  -- all of the map is from 0 to the greatest key
  pub scan_of_all : IsMapOf store (map_of store) → filter (is_within 0 GREATEST_KEY) (map_of store) ≡ map_of store
  scan_of_all kept =
      let pairs = pairs_of (map_of store) in
      let same : entries_from pairs ≡ map_of store = entries_from-pairs_of (map_of store) in
      sym (ap (filter (is_within 0 GREATEST_KEY)) same) ∙ all_within GREATEST_KEY 0 pairs (entries_ascend store.fan store.prime (page_of store) pairs kept.kept) ∙ same

  -- and what is from a key on is from that key to the greatest
  pub scan_of_rest : (lo : ℕ) → IsMapOf store (map_of store) → filter (is_within lo GREATEST_KEY) (map_of store) ≡ filter (is_from lo) (map_of store)
  scan_of_rest lo kept =
      let pairs = pairs_of (map_of store) in
      let same : entries_from pairs ≡ map_of store = entries_from-pairs_of (map_of store) in
      sym (ap (filter (is_within lo GREATEST_KEY)) same)
      ∙ from_within lo GREATEST_KEY 0 pairs (entries_ascend store.fan store.prime (page_of store) pairs kept.kept)
      ∙ ap (filter (is_from lo)) same

-- no link leads on
pub no_link : (store : PlainStore) → IsLinkOf store None
no_link store = record { cells = []; tail = record { level = 0; floor = Some GREATEST_KEY; pages_there = tt; in_line = (refl, refl) }; few = omega arith }
