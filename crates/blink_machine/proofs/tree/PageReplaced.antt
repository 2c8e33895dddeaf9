-- A page is written in its place, with the same level, floor, high key and right link: what stays of the tree.
use Rattle.std.proofs.Common.{◌≡◌, ℕ, ◌+◌, Some, None, List, [], ◌∷◌, ◌++◌, length, ◌⊎◌, inl, inr, refl, sym, subst, ap, ◌∙◌, arith, length-append}
use Rattle.std.proofs.lemmas.Bool.{cases_eq}
use Rattle.blink_page.specs.{PlainPage}
use Rattle.blink_rest.specs.{Pages, IsMember, entries_along, Refers, IsHighKey}
use Rattle.blink_rest.specs.Chain.{Cell}
use Rattle.blink_machine.specs.TreeState.{WritesOne}
use Rattle.blink_machine.specs.Tree.{IsTree}
use Rattle.blink_machine.specs.TreeWithDebts.{Levels, IsInChain}
use Rattle.blink_machine.proofs.tree.TreeStatements.{Grows, Replaces, IsReplaced}
use Rattle.blink_machine.proofs.tree.WherePagesStand.{Stands, own_stands}
use Rattle.blink_machine.proofs.tree.PageGivesWay.{TakesPlace, cells_after, cells_after-is, levels_after, levels_after-same, levels_after-other, middle_stands, after_cases, high_keys_stay, begins_stay, tree_stays, each_stays}

module _ (fan : ℕ) (prime : List ℕ) (pages : Pages) (levels : Levels) (level : ℕ) (c : Cell) (here : Stands fan prime pages levels level c) (middle : List Cell) where
  -- each page that is in a level now was so before, or takes the page's place
  pub now_cases : (other : ℕ) (d : Cell) → IsMember d (levels_after here middle other) → IsMember d (levels other) ⊎ ((other ≡ level) × IsMember d middle)
  now_cases other d stands = elim (cases_eq other level) [
    | inl same ↦ (
        let L : ℕ → Type 0 = λ n. IsMember d (levels_after here middle n) in
        let B : ℕ → Type 0 = λ n. IsMember d (levels n) in
        elim (after_cases fan prime pages levels level c here middle d (subst (IsMember d) (levels_after-same here middle) (subst L same stands))) [
          | inl old ↦ inl (subst B (sym same) old)
          | inr new ↦ inr (same, new)
        ])
    | inr far ↦ inl (subst (IsMember d) (levels_after-other here middle other far) stands)
  ]

  -- what takes the page's place stands in its level
  pub now_stands : (d : Cell) → IsMember d middle → IsMember d (levels_after here middle level)
  now_stands d stands = rw (levels_after-same here middle) (middle_stands fan prime pages levels level c here middle d stands)

  -- how many pages the level has now
  pub length_now : length (levels_after here middle level) + 1 ≡ length (levels level) + length middle
  length_now =
      let now = ap length (levels_after-same here middle ∙ cells_after-is here middle) in
      let old = ap length here.parts in
      omega (arith, now, old, length-append here.before (middle ++ here.rest), length-append middle here.rest, length-append here.before (c ∷ here.rest))

  module _ (after : Pages) (takes : TakesPlace fan level after c middle) where
    -- where a page gives way to others, every page keeps its floor
    pub grows_after : Grows levels (levels_after here middle)
    grows_after other d stands = elim (cases_eq other level) [
      | inl same ↦ rw (same, levels_after-same here middle) (
          let L : ℕ → Type 0 = λ n. IsMember d (levels n) in
          begins_stay fan prime pages levels level c here middle after takes d.number d.page.floor
          (record { cell = d; stands = subst L same stands; same_number = refl; same_floor = refl }))
      | inr far ↦ rw (levels_after-other here middle other far) (record { cell = d; stands = stands; same_number = refl; same_floor = refl })
    ]

    -- and every high key stays
    pub high_keys_after : (other key : ℕ) → IsHighKey (levels other) key → IsHighKey (levels_after here middle other) key
    high_keys_after other key high = elim (cases_eq other level) [
      | inl same ↦ rw (same, levels_after-same here middle) (
          let L : ℕ → Type 0 = λ n. IsHighKey (levels n) key in
          high_keys_stay fan prime pages levels level c here middle after takes key (subst L same high))
      | inr far ↦ rw (levels_after-other here middle other far) high
    ]

-- a page with other entries takes the place of the one before
pub replacement_takes : (fan level : ℕ) (after : Pages) (c : Cell) (page : PlainPage) → c.page.level ≡ level → after c.number ≡ Some page → Replaces fan c.page page
    → TakesPlace fan level after c (record { number = c.number; page = page } ∷ [])
replacement_takes fan level after c page has_level written replaces = record {
  among = (written, tt);
  in_line = (refl, replaces.same_floor, replaces.same_level ∙ has_level, replaces.lawful, (ap Some replaces.same_high, replaces.same_right));
  begins = record { cell = record { number = c.number; page = page }; stands = inl refl; same_number = refl; same_floor = replaces.same_floor };
  ends = record { cell = record { number = c.number; page = page }; stands = inl refl; same_high = replaces.same_high };
}

module _ (fan : ℕ) (prime : List ℕ) (pages after : Pages) (levels : Levels) (level : ℕ) (c : Cell) (page : PlainPage)
    (tree : IsTree fan prime pages levels) (here : Stands fan prime pages levels level c) (writes : WritesOne pages after c.number page) (replaces : Replaces fan c.page page) where
  -- the page as it is written
  abbrev pub cell_now : Cell
  cell_now = record { number = c.number; page = page }

  -- the levels with it
  abbrev pub levels_now : Levels
  levels_now = levels_after here (cell_now ∷ [])

  -- it takes the place of the page before
  takes : TakesPlace fan level after c (cell_now ∷ [])
  takes = replacement_takes fan level after c page here.has_level writes.written replaces

  -- the page that stood there
  page_before : IsMember c (levels level)
  page_before = own_stands fan prime pages levels level c here

  -- no high key is new
  was_high : (other key : ℕ) → IsHighKey (levels_now other) key → IsHighKey (levels other) key
  was_high other key high = elim (now_cases fan prime pages levels level c here (cell_now ∷ []) other high.cell high.stands) [
    | inl old ↦ record { cell = high.cell; stands = old; same_high = high.same_high }
    | inr new ↦ elim new.1 [
      | inl same ↦ record {
        cell = c;
        stands = (let B : ℕ → Type 0 = λ n. IsMember c (levels n) in subst B (sym new.0) page_before);
        same_high = sym replaces.same_high ∙ ap (λ (d : Cell). d.page.high) (sym same) ∙ high.same_high;
      }
      | inr never ↦ absurd never
    ]
  ]

  -- no page is new in a chain
  was_linked : (number : ℕ) → IsInChain levels_now number → IsInChain levels number
  was_linked number linked = elim (now_cases fan prime pages levels level c here (cell_now ∷ []) linked.level linked.cell linked.stands) [
    | inl old ↦ record { level = linked.level; cell = linked.cell; stands = old; same_number = linked.same_number }
    | inr new ↦ elim new.1 [
      | inl same ↦ record { level = level; cell = c; stands = page_before; same_number = ap (λ (d : Cell). d.number) (sym same) ∙ linked.same_number }
      | inr never ↦ absurd never
    ]
  ]

  -- each level has as many pages as before
  same_length : (other : ℕ) → length (levels_now other) ≡ length (levels other)
  same_length other = elim (cases_eq other level) [
    | inl same ↦ (
        let now = length_now fan prime pages levels level c here (cell_now ∷ []) in
        let E : ℕ → Type 0 = λ n. length (levels_now n) ≡ length (levels n) in subst E (sym same) (omega arith))
    | inr far ↦ ap length (levels_after-other here (cell_now ∷ []) other far)
  ]

  -- the tree with the page in its place, if what its entries say of the level below is so
  pub is_replaced : ((below : ℕ) → below + 1 ≡ level → Refers (levels below) None (entries_along (cells_after here (cell_now ∷ [])))) → IsReplaced fan prime after levels levels_now level c page
  is_replaced refers_below = record {
    tree = tree_stays fan prime pages levels level c here (cell_now ∷ []) after takes page tree writes refers_below;
    grows = grows_after fan prime pages levels level c here (cell_now ∷ []) after takes;
    others_stay = each_stays fan prime pages levels level c here (cell_now ∷ []);
    stands = now_stands fan prime pages levels level c here (cell_now ∷ []) cell_now (inl refl);
    high_keys_kept = high_keys_after fan prime pages levels level c here (cell_now ∷ []) after takes;
    no_high_keys = was_high;
    none_linked = was_linked;
    same_lengths = same_length;
  }
