-- One page of a level gives way to others in its place: what stays of the level, and that the tree stays a tree.
use Rattle.std.proofs.Common.{◌≡◌, ◌≢◌, ℕ, ◌+◌, cond, eqb, Option, Some, None, List, [], ◌∷◌, ◌++◌, slice_get, ◌⊎◌, inl, inr, refl, sym, subst, ap, ◌∙◌, arith}
use Rattle.std.proofs.lemmas.Bool.{cases_eq}
use Rattle.std.proofs.lemmas.Bool.Decides.{nat_tests}
use Rattle.blink_page.specs.{PlainPage}
use Rattle.blink_page.specs.declared.limits.TheConstants.{GREATEST_KEY}
use Rattle.blink_rest.specs.{Pages, AreAmong, InLine, IsChain, IsMember, entries_along, Refers, BeginsAt, IsHighKey}
use Rattle.blink_rest.specs.Chain.{Cell}
use Rattle.blink_rest.proofs.Offered.{AreAmong-append, InLine-append}
use Rattle.blink_machine.specs.TreeState.{WritesOne}
use Rattle.blink_machine.specs.Tree.{IsTree}
use Rattle.blink_machine.specs.TreeWithDebts.{Levels}
use Rattle.blink_machine.proofs.tree.WherePagesStand.{Stands, own_stands, stands_append, stands_first, stands_last, level_named, elsewhere_differs, before_differs, rest_differs, before_stands, rest_stands, stands_cases}

-- the levels with other cells in one of them
pub with_level : Levels → ℕ → List Cell → Levels
with_level levels level cells other = cond (eqb other level) cells (levels other)

-- in that level there are those cells
pub with_level-same : (levels : Levels) (level : ℕ) (cells : List Cell) → with_level levels level cells level ≡ cells
unfolding with_level
with_level-same levels level cells = grind (arith, nat_tests)

-- in any other level there are the same as before
pub with_level-other : (levels : Levels) (level other : ℕ) (cells : List Cell) → other ≢ level → with_level levels level cells other ≡ levels other
unfolding with_level
with_level-other levels level other cells apart = grind (arith, nat_tests)

-- pages that weren't written are there as before
pub among_kept : (pages after : Pages) (number : ℕ) (page : PlainPage) (cells : List Cell) → WritesOne pages after number page
    → ((d : Cell) → IsMember d cells → d.number ≢ number) → AreAmong pages cells → AreAmong after cells
among_kept pages after number page [] writes apart among = tt
among_kept pages after number page (d ∷ cells) writes apart among =
    (writes.others d.number (apart d (inl refl)) ∙ among.0, among_kept pages after number page cells writes (λ e later. apart e (inr later)) among.1)

-- what a level refers to is there in a level that has at least the same high keys and pages
pub refers_kept : (lower new : List Cell) (floor : Option ℕ) (entries : List (ℕ × ℕ)) → ((key : ℕ) → IsHighKey lower key → IsHighKey new key)
    → ((number : ℕ) (begin : Option ℕ) → BeginsAt lower number begin → BeginsAt new number begin) → Refers lower floor entries → Refers new floor entries
refers_kept lower new floor [] highs begins refers = tt
refers_kept lower new floor ((separator, child) ∷ rest) highs begins refers =
    (highs separator refers.0, begins child floor refers.1, refers_kept lower new (Some separator) rest highs begins refers.2)

-- cells that take a page's place: they are in line where it was, one of them has its number and floor, and one its high key
pub record TakesPlace (fan level : ℕ) (after : Pages) (c : Cell) (cells : List Cell) : Type 0 where
  pub among : AreAmong after cells
  pub in_line : InLine fan level c.page.floor (Some c.number) cells (Some c.page.high) c.page.right
  pub begins : BeginsAt cells c.number c.page.floor
  pub ends : IsHighKey cells c.page.high

module _ {fan : ℕ} {prime : List ℕ} {pages : Pages} {levels : Levels} {level : ℕ} {c : Cell} where
  -- the level where a page gave way to others
  pub cells_after : Stands fan prime pages levels level c → List Cell → List Cell
  cells_after here middle = here.before ++ (middle ++ here.rest)

  -- it is the pages before, the others, and the pages after
  pub cells_after-is : (here : Stands fan prime pages levels level c) (middle : List Cell) → cells_after here middle ≡ here.before ++ (middle ++ here.rest)
  unfolding cells_after
  cells_after-is here middle = refl

  -- and all levels with it
  pub levels_after : Stands fan prime pages levels level c → List Cell → Levels
  levels_after here middle = with_level levels level (cells_after here middle)

  -- this one is the level with the others in it
  pub levels_after-same : (here : Stands fan prime pages levels level c) (middle : List Cell) → levels_after here middle level ≡ cells_after here middle
  unfolding levels_after
  levels_after-same here middle = with_level-same levels level (cells_after here middle)

  -- the others are the same
  pub levels_after-other : (here : Stands fan prime pages levels level c) (middle : List Cell) (other : ℕ) → other ≢ level → levels_after here middle other ≡ levels other
  unfolding levels_after
  levels_after-other here middle other apart = with_level-other levels level other (cells_after here middle) apart

module _ (fan : ℕ) (prime : List ℕ) (pages : Pages) (levels : Levels) (level : ℕ) (c : Cell) (here : Stands fan prime pages levels level c) (middle : List Cell) where
  -- what stands before the page stands there still
  before_stay : (d : Cell) → IsMember d here.before → IsMember d (cells_after here middle)
  before_stay d stands = rw (cells_after-is here middle) (stands_first d here.before (middle ++ here.rest) stands)

  -- so does what stands after it
  rest_stay : (d : Cell) → IsMember d here.rest → IsMember d (cells_after here middle)
  rest_stay d stands = rw (cells_after-is here middle) (stands_last d here.before (middle ++ here.rest) (stands_last d middle here.rest stands))

  -- and what takes its place
  pub middle_stands : (d : Cell) → IsMember d middle → IsMember d (cells_after here middle)
  middle_stands d stands = rw (cells_after-is here middle) (stands_last d here.before (middle ++ here.rest) (stands_first d middle here.rest stands))

  -- each page stood there before, or takes the page's place
  pub after_cases : (d : Cell) → IsMember d (cells_after here middle) → IsMember d (levels level) ⊎ IsMember d middle
  after_cases d stands = elim (stands_append d here.before (middle ++ here.rest) (subst (IsMember d) (cells_after-is here middle) stands)) [
    | inl first ↦ inl (before_stands fan prime pages levels level c here d first)
    | inr last ↦ elim (stands_append d middle here.rest last) [
      | inl new ↦ inr new
      | inr later ↦ inl (rest_stands fan prime pages levels level c here d later)
    ]
  ]

  -- every other page stays
  pub others_stay : (d : Cell) → IsMember d (levels level) → d ≢ c → IsMember d (cells_after here middle)
  others_stay d stands apart = elim (stands_cases fan prime pages levels level c here d stands) [
    | inl first ↦ before_stay d first
    | inr last ↦ elim last [ inl same ↦ absurd (apart same) | inr later ↦ rest_stay d later ]
  ]

  module _ (after : Pages) (takes : TakesPlace fan level after c middle) where
    -- high keys stay high keys
    pub high_keys_stay : (key : ℕ) → IsHighKey (levels level) key → IsHighKey (cells_after here middle) key
    high_keys_stay key high = elim (stands_cases fan prime pages levels level c here high.cell high.stands) [
      | inl first ↦ record { cell = high.cell; stands = before_stay high.cell first; same_high = high.same_high }
      | inr last ↦ elim last [
        | inl same ↦ record { cell = takes.ends.cell; stands = middle_stands takes.ends.cell takes.ends.stands; same_high = takes.ends.same_high ∙ ap (λ (d : Cell). d.page.high) (sym same) ∙ high.same_high }
        | inr later ↦ record { cell = high.cell; stands = rest_stay high.cell later; same_high = high.same_high }
      ]
    ]

    -- pages keep their floors
    pub begins_stay : (number : ℕ) (floor : Option ℕ) → BeginsAt (levels level) number floor → BeginsAt (cells_after here middle) number floor
    begins_stay number floor begins = elim (stands_cases fan prime pages levels level c here begins.cell begins.stands) [
      | inl first ↦ record { cell = begins.cell; stands = before_stay begins.cell first; same_number = begins.same_number; same_floor = begins.same_floor }
      | inr last ↦ elim last [
        | inl same ↦ record {
          cell = takes.begins.cell;
          stands = middle_stands takes.begins.cell takes.begins.stands;
          same_number = takes.begins.same_number ∙ ap (λ (d : Cell). d.number) (sym same) ∙ begins.same_number;
          same_floor = takes.begins.same_floor ∙ ap (λ (d : Cell). d.page.floor) (sym same) ∙ begins.same_floor;
        }
        | inr later ↦ record { cell = begins.cell; stands = rest_stay begins.cell later; same_number = begins.same_number; same_floor = begins.same_floor }
      ]
    ]

    -- the level stays a chain
    pub chain_stays : (page : PlainPage) → WritesOne pages after c.number page → (leftmost : ℕ) → slice_get prime level ≡ Some leftmost → IsChain fan after level leftmost (cells_after here middle)
    chain_stays page writes leftmost first =
        let same : here.leftmost ≡ leftmost = cc (here.is_leftmost, first) in
        rw (cells_after-is here middle) (record {
          pages_there = AreAmong-append after here.before (middle ++ here.rest)
              (among_kept pages after c.number page here.before writes (before_differs fan prime pages levels level c here) here.among_before)
              (AreAmong-append after middle here.rest takes.among
              (among_kept pages after c.number page here.rest writes (rest_differs fan prime pages levels level c here) here.among_rest));
          in_line = InLine-append fan level None (Some leftmost) here.before (middle ++ here.rest) c.page.floor (Some c.number) (Some GREATEST_KEY) None
              (subst (λ (n : ℕ). InLine fan level None (Some n) here.before c.page.floor (Some c.number)) same here.line_before)
              (InLine-append fan level c.page.floor (Some c.number) middle here.rest (Some c.page.high) c.page.right (Some GREATEST_KEY) None takes.in_line here.line_rest);
        })

    module _ (page : PlainPage) (tree : IsTree fan prime pages levels) (writes : WritesOne pages after c.number page) where
      -- the page stood in the level
      stood : IsMember c (levels level)
      stood = own_stands fan prime pages levels level c here

      -- each other level is as before
      other_chain_stays : (other leftmost : ℕ) → other ≢ level → slice_get prime other ≡ Some leftmost → IsChain fan after other leftmost (levels other)
      other_chain_stays other leftmost apart first =
          let chain = tree.chains.named other leftmost first in
          record {
            pages_there = among_kept pages after c.number page (levels other) writes
                (λ d stands. elsewhere_differs fan prime pages levels tree level other c d stood stands apart) chain.pages_there;
            in_line = chain.in_line;
          }

      -- the tree stays a tree, if what the level says of the one below is so
      pub tree_stays : ((below : ℕ) → below + 1 ≡ level → Refers (levels below) None (entries_along (cells_after here middle))) → IsTree fan prime after (levels_after here middle)
      tree_stays refers_below = record {
        chains = record {
          some_level = tree.chains.some_level;
          named = λ other leftmost first. elim (cases_eq other level) [
            | inl same ↦ rw (same, levels_after-same here middle) (chain_stays page writes leftmost (subst (λ (n : ℕ). slice_get prime n ≡ Some leftmost) same first))
            | inr apart ↦ rw (levels_after-other here middle other apart) (other_chain_stays other leftmost apart first)
          ];
          unnamed = λ other past. elim (cases_eq other level) [
            | inl same ↦ (let inside = level_named fan prime pages levels tree level c stood in absurd (omega arith))
            | inr apart ↦ levels_after-other here middle other apart ∙ tree.chains.unnamed other past
          ];
        };
        refers = λ lower. elim (cases_eq lower level) [
          | inl same ↦ (
              let upper : lower + 1 ≢ level = omega arith in
              rw (levels_after-other here middle (lower + 1) upper, same, levels_after-same here middle)
              (refers_kept (levels level) (cells_after here middle) None (entries_along (levels (level + 1))) high_keys_stay begins_stay (tree.refers level)))
          | inr apart ↦ rw (levels_after-other here middle lower apart) (elim (cases_eq (lower + 1) level) [
            | inl next ↦ rw (next, levels_after-same here middle) (refers_below lower next)
            | inr far ↦ rw (levels_after-other here middle (lower + 1) far) (tree.refers lower)
          ])
        ];
      }

  -- what stood in other levels stands there still, and what stood in this one, but for the page
  pub each_stays : (other : ℕ) (d : Cell) → IsMember d (levels other) → d.number ≢ c.number → IsMember d (levels_after here middle other)
  each_stays other d stands apart = elim (cases_eq other level) [
    | inl same ↦ rw (same, levels_after-same here middle) (others_stay d (subst (λ (n : ℕ). IsMember d (levels n)) same stands) (λ e. apart (ap (λ (x : Cell). x.number) e)))
    | inr far ↦ rw (levels_after-other here middle other far) stands
  ]
