-- In a tree at rest the children of a page are in the chain below it, each above its lower bound, and a right link leads on.
use Rattle.std.proofs.Common.{◌≡◌, ℕ, ◌+◌, ◌<◌, suc, Option, Some, None, List, [], ◌∷◌, ◌++◌, inl, inr, refl, sym, subst, ap, ◌∙◌, arith}
use Rattle.std.specs.List.{flat_map, slice_get}
use Rattle.std.proofs.lemmas.Bool.{cases_lt}
use Rattle.blink_page.specs.{least_above, next_key, PlainPage}
use Rattle.blink_page.specs.declared.limits.TheConstants.{GREATEST_KEY}
use Rattle.blink_page.proofs.Offered.{covers_next}
use Rattle.blink_rest.specs.Numbers.{IsMember}
use Rattle.blink_rest.specs.Chain.{Pages, Cell, InLine, IsChain}
use Rattle.blink_rest.specs.Children.{RefersBelow}
use Rattle.blink_rest.specs.Level.{IsParentOf, entries_along, numbers_of}
use Rattle.blink_rest.specs.References.{BeginsAt, Refers, separator_after}
use Rattle.blink_rest.specs.Rest.{AreChains, EachIsParent, AreLevels}
use Rattle.blink_rest.specs.Walk.{IsInLine, names_for}
use Rattle.blink_rest.proofs.DifferentNumbers.{among_append, among_from_Contains}
use Rattle.blink_rest.proofs.LinesOfPages.{stands_there, stands_of}
use Rattle.blink_rest.proofs.PagesReached.{page_standing, level_at_least}
use Rattle.blink_rest.proofs.ComparedLevels.{entries_by_names}

-- the least key above it is that above the entries
pub least_above-separator_after : (floor : Option ℕ) (xs : List (ℕ × ℕ)) → least_above (separator_after floor xs) ≡ next_key (least_above floor) xs
least_above-separator_after floor [] = refl
least_above-separator_after floor ((separator, child) ∷ rest) = least_above-separator_after (Some separator) rest

-- two floors with the same least key above are one
pub same_floors : (first second : Option ℕ) → least_above first ≡ least_above second → first ≡ second
same_floors None None same = refl
same_floors None (Some key) same = absurd (omega arith)
same_floors (Some key) None same = absurd (omega arith)
same_floors (Some key) (Some other) same = let e : key ≡ other = omega arith in ap Some e

module _ (lower : List Cell) where
  -- what some entries refer to, their first do
  pub Refers-prefix : (floor : Option ℕ) (xs ys : List (ℕ × ℕ)) → Refers lower floor (xs ++ ys) → Refers lower floor xs
  Refers-prefix floor [] ys refers = tt
  Refers-prefix floor ((separator, child) ∷ xs) ys refers = (refers.0, refers.1, Refers-prefix (Some separator) xs ys refers.2)

  -- and the rest from the last separator on
  pub Refers-rest : (floor : Option ℕ) (xs ys : List (ℕ × ℕ)) → Refers lower floor (xs ++ ys) → Refers lower (separator_after floor xs) ys
  Refers-rest floor [] ys refers = refers
  Refers-rest floor ((separator, child) ∷ xs) ys refers = Refers-rest (Some separator) xs ys refers.2

  -- the entries that name some pages of the level refer to them
  names_refer : (fan level : ℕ) (floor link : Option ℕ) (cells : List Cell) (last_floor last_link : Option ℕ)
      → InLine fan level floor link cells last_floor last_link → ((c : Cell) → IsMember c cells → IsMember c lower) → Refers lower floor (names_for cells)
  names_refer fan level floor link [] last_floor last_link line inside = tt
  names_refer fan level floor link (c ∷ cells) last_floor last_link line inside =
      let here = inside c (inl refl) in (
        record { cell = c; stands = here; same_high = refl },
        record { cell = c; stands = here; same_number = refl; same_floor = line.1 },
        names_refer fan level (Some c.page.high) c.page.right cells last_floor last_link line.4 (λ d later. inside d (inr later)),
      )

  -- if the entries of an inner line refer to the level from its floor on, those of each of its pages do from the page's
  pub page_refers : (fan level : ℕ) (floor link : Option ℕ) (upper : List Cell) (last_floor last_link : Option ℕ) (d : Cell) → 0 < level
      → InLine fan level floor link upper last_floor last_link → Refers lower floor (entries_along upper) → IsMember d upper → Refers lower d.page.floor d.page.entries
  page_refers fan level floor link [] last_floor last_link d inner line refers stands = absurd stands
  page_refers fan level floor link (x ∷ upper) last_floor last_link d inner line refers (inl same) =
      subst (λ (y : Cell). Refers lower y.page.floor y.page.entries) (sym same)
      (subst (λ (low : Option ℕ). Refers lower low x.page.entries) (sym line.1) (Refers-prefix floor x.page.entries (entries_along upper) refers))
  page_refers fan level floor link (x ∷ upper) last_floor last_link d inner line refers (inr later) =
      let same_level = line.2 in
      let covers = (line.3.inner (omega arith)).last_is_high in
      let last : separator_after floor x.page.entries ≡ Some x.page.high = same_floors (separator_after floor x.page.entries) (Some x.page.high)
      (
      least_above-separator_after floor x.page.entries ∙ ap (λ (low : Option ℕ). next_key (least_above low) x.page.entries) (sym line.1)
      ∙ covers_next (least_above x.page.floor) x.page.entries (x.page.high + 1) covers
      ) in
      page_refers fan level (Some x.page.high) x.page.right upper last_floor last_link d inner line.4
      (subst (λ (low : Option ℕ). Refers lower low (entries_along upper)) last (Refers-rest floor x.page.entries (entries_along upper) refers)) later

-- entries that name a chain refer to its pages
pub named_refers : (fan level leftmost : ℕ) (pages : Pages) (upper lower : List Cell) → IsChain fan pages level leftmost lower → IsParentOf upper lower → Refers lower None (entries_along upper)
named_refers fan level leftmost pages upper lower chain names =
    subst (Refers lower None) (sym (entries_by_names upper lower names))
    (names_refer lower fan level None (Some leftmost) lower (Some GREATEST_KEY) None chain.in_line (λ c stands. stands))

-- a chain begins at its leftmost page, which has no floor
pub chain_begins : (fan level leftmost : ℕ) (pages : Pages) (cells : List Cell) → IsChain fan pages level leftmost cells → BeginsAt cells leftmost None
chain_begins fan level leftmost pages [] chain = absurd (cc (chain.in_line.0))
chain_begins fan level leftmost pages (c ∷ cells) chain =
    record { cell = c; stands = inl refl; same_number = cc (chain.in_line.0); same_floor = chain.in_line.1 }

-- in a line to no link a right link leads to the page that begins where this one ends
pub line_right : (fan level : ℕ) (floor link : Option ℕ) (cells : List Cell) (last_floor : Option ℕ) (next : ℕ) (c : Cell)
    → InLine fan level floor link cells last_floor None → IsMember c cells → c.page.right ≡ Some next → BeginsAt cells next (Some c.page.high)
line_right fan level floor link [] last_floor next c line stands right = absurd stands
line_right fan level floor link (d ∷ []) last_floor next c line (inl same) right = absurd (cc (line.4.1, right, ap (λ (x : Cell). x.page.right) same))
line_right fan level floor link (d ∷ e ∷ cells) last_floor next c line (inl same) right =
    record {
      cell = e;
      stands = inr (inl refl);
      same_number = cc (line.4.0, right, ap (λ (x : Cell). x.page.right) same);
      same_floor = cc (line.4.1, ap (λ (x : Cell). x.page.high) same);
    }
line_right fan level floor link (d ∷ cells) last_floor next c line (inr later) right =
    let begins = line_right fan level (Some d.page.high) d.page.right cells last_floor next c line.4 later right in
    record { cell = begins.cell; stands = inr begins.stands; same_number = begins.same_number; same_floor = begins.same_floor }

-- what begins in a chain is the number of a page of the tree, of the chain's level
pub begins_in_line : (fan level leftmost number : ℕ) (pages : Pages) (cells : List Cell) (floor : Option ℕ)
    → IsChain fan pages level leftmost cells → BeginsAt cells number floor → IsInLine pages number level floor
begins_in_line fan level leftmost number pages cells floor chain begins =
    record {
      page = begins.cell.page;
      there = ap pages (sym begins.same_number) ∙ stands_there pages cells begins.cell chain.pages_there begins.stands;
      same_level = (stands_of fan level None (Some leftmost) cells (Some GREATEST_KEY) None begins.cell chain.in_line begins.stands).has_level;
      same_floor = begins.same_floor;
    }

module _ (fan : ℕ) (pages : Pages) where
  -- a page stands in the chain of its level
  record StandsInChain (page : PlainPage) : Type 0 where
    pub level : ℕ
    pub leftmost : ℕ
    pub cells : List Cell
    pub chain : IsChain fan pages level leftmost cells
    pub cell : Cell
    pub stands : IsMember cell cells
    pub same_page : page ≡ cell.page
    pub same_level : page.level ≡ level

  -- as each page among the levels does
  in_chain : (level n : ℕ) (p : PlainPage) (prime : List ℕ) (levels : List (List Cell)) → AreChains fan pages level prime levels
      → pages n ≡ Some p → IsMember n (flat_map numbers_of levels) → StandsInChain p
  in_chain level n p [] [] chains there among = absurd among
  in_chain level n p [] (cells ∷ above) chains there among = absurd chains
  in_chain level n p (leftmost ∷ prime) [] chains there among = absurd chains
  in_chain level n p (leftmost ∷ prime) (cells ∷ above) chains there among =
      elim (among_append n (numbers_of cells) (flat_map numbers_of above) among) [
        | inl here ↦
            let it = page_standing fan pages level leftmost n p cells chains.0 there here in
            record { level = level; leftmost = leftmost; cells = cells; chain = chains.0; cell = it.0; stands = it.3; same_page = it.2; same_level = it.4 }
        | inr later ↦ in_chain (level + 1) n p prime above chains.1 there later
      ]

  -- the chain of an inner page's level names the one below it
  record StandsAbove (start : ℕ) (prime : List ℕ) (page : PlainPage) : Type 0 where
    pub place : ℕ
    pub level : ℕ
    pub here : start + place ≡ level
    pub just_below : level + 1 ≡ page.level
    pub leftmost : ℕ
    pub is_named : slice_get prime place ≡ Some leftmost
    pub lower : List Cell
    pub chain : IsChain fan pages level leftmost lower
    pub left : ℕ
    pub upper : List Cell
    pub above : IsChain fan pages (level + 1) left upper
    pub named : IsParentOf upper lower
    pub cell : Cell
    pub stands : IsMember cell upper
    pub same_page : page ≡ cell.page

  one_below : (start leftmost : ℕ) (prime : List ℕ) (page : PlainPage) → StandsAbove (start + 1) prime page → StandsAbove start (leftmost ∷ prime) page
  one_below start leftmost prime page it =
      record {
        place = suc it.place;
        level = it.level;
        here = let same = it.here in omega arith;
        just_below = it.just_below;
        leftmost = it.leftmost;
        is_named = it.is_named;
        lower = it.lower;
        chain = it.chain;
        left = it.left;
        upper = it.upper;
        above = it.above;
        named = it.named;
        cell = it.cell;
        stands = it.stands;
        same_page = it.same_page;
      }

  -- as each page among the levels above the first does
  stands_above : (level n : ℕ) (p : PlainPage) (prime : List ℕ) (levels : List (List Cell)) → AreChains fan pages level prime levels → EachIsParent levels
      → pages n ≡ Some p → level < p.level → IsMember n (flat_map numbers_of levels) → StandsAbove level prime p
  stands_above level n p [] [] chains named there above among = absurd among
  stands_above level n p [] (cells ∷ levels) chains named there above among = absurd chains
  stands_above level n p (leftmost ∷ prime) [] chains named there above among = absurd chains
  stands_above level n p (leftmost ∷ prime) (cells ∷ []) chains named there above among =
      elim (among_append n (numbers_of cells) [] among) [
        | inl here ↦ absurd (omega (arith, (page_standing fan pages level leftmost n p cells chains.0 there here).4))
        | inr later ↦ absurd later
      ]
  stands_above level n p (leftmost ∷ []) (cells ∷ upper ∷ levels) chains named there above among = absurd chains.1
  stands_above level n p (leftmost ∷ left ∷ prime) (cells ∷ upper ∷ levels) chains named there above among =
      elim (among_append n (numbers_of cells) (numbers_of upper ++ flat_map numbers_of levels) among) [
        | inl here ↦ absurd (omega (arith, (page_standing fan pages level leftmost n p cells chains.0 there here).4))
        | inr later ↦ elim (cases_lt (level + 1) p.level) [
          | inl higher ↦ one_below level leftmost (left ∷ prime) p (stands_above (level + 1) n p (left ∷ prime) (upper ∷ levels) chains.1 named.1 there higher later)
          | inr next ↦ elim (among_append n (numbers_of upper) (flat_map numbers_of levels) later) [
            | inr beyond ↦ absurd (omega (arith, level_at_least fan pages (level + 1 + 1) n p prime levels chains.1.1 there beyond))
            | inl here ↦
                let it = page_standing fan pages (level + 1) left n p upper chains.1.0 there here in
                record {
                  place = 0;
                  level = level;
                  here = omega arith;
                  just_below = omega arith;
                  leftmost = leftmost;
                  is_named = refl;
                  lower = cells;
                  chain = chains.0;
                  left = left;
                  upper = upper;
                  above = chains.1.0;
                  named = named.0;
                  cell = it.0;
                  stands = it.3;
                  same_page = it.2;
                }
          ]
        ]
      ]

  module _ (prime : List ℕ) (levels : List (List Cell)) where
    -- an inner page refers to the chain below it
    pub refers_below : (n : ℕ) (p : PlainPage) → AreLevels fan prime pages levels → pages n ≡ Some p → 0 < p.level → RefersBelow fan prime pages p
    refers_below n p at_rest there inner =
        let it = stands_above 0 n p prime levels at_rest.chains at_rest.named there inner (among_from_Contains (flat_map numbers_of levels) n (at_rest.no_other_page n p there)) in
        let along = named_refers fan it.level it.leftmost pages it.upper it.lower it.chain it.named in
        let refers = page_refers it.lower fan (it.level + 1) None (Some it.left) it.upper (Some GREATEST_KEY) None it.cell (omega arith) it.above.in_line along it.stands in
        let start = it.here in
        let same : it.place ≡ it.level = omega arith in
        record {
          level = it.level;
          just_below = it.just_below;
          leftmost = it.leftmost;
          is_named = subst (λ (place : ℕ). slice_get prime place ≡ Some it.leftmost) same it.is_named;
          below = it.lower;
          chain = it.chain;
          refers = subst (λ (q : PlainPage). Refers it.lower q.floor q.entries) (sym it.same_page) refers;
          each_exists = λ child floor begins. begins_in_line fan it.level it.leftmost child pages it.lower floor it.chain begins;
        }

    -- a right link leads to the page that begins where this one ends
    pub right_leads : (n next : ℕ) (p : PlainPage) → AreLevels fan prime pages levels → pages n ≡ Some p → p.right ≡ Some next → IsInLine pages next p.level (Some p.high)
    right_leads n next p at_rest there right =
        let it = in_chain 0 n p prime levels at_rest.chains there (among_from_Contains (flat_map numbers_of levels) n (at_rest.no_other_page n p there)) in
        let begins = line_right fan it.level None (Some it.leftmost) it.cells (Some GREATEST_KEY) next it.cell it.chain.in_line it.stands (ap (λ (q : PlainPage). q.right) (sym it.same_page) ∙ right) in
        let leads = begins_in_line fan it.level it.leftmost next pages it.cells (Some it.cell.page.high) it.chain begins in
        subst (λ (level : ℕ). IsInLine pages next level (Some p.high)) (sym it.same_level)
        (subst (λ (q : PlainPage). IsInLine pages next it.level (Some q.high)) (sym it.same_page) leads)
