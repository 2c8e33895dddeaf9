-- A walk along a kept level, page by page, and what it leaves to add.
use Rattle.std.proofs.Common.{◌≡◌, ℕ, ◌+◌, ◌<◌, ◌≤◌, suc, Option, Some, None, List, [], ◌∷◌, ◌++◌, length, refl, ap, sym, ◌∙◌, subst, arith, append_assoc, append-nil, length-append}
use Rattle.std.specs.Prelude.{IfSome}
use Rattle.blink_page.specs.declared.limits.TheConstants.{GREATEST_KEY, MAX_FAN, MAX_PAGE}
use Rattle.blink_page.specs.{IsPageNumber, PlainPage, IsLawfulPage}
use Rattle.blink_page.proofs.Offered.{lawful_with_room}
use Rattle.blink_rest.specs.{InLine, entries_along}
use Rattle.blink_rest.specs.Chain.{Cell, cell}
use Rattle.blink_rest.proofs.Offered.{same_cell}
use Rattle.blink_rows.specs.{PlainCounts}
use Rattle.blink_live.specs.ToCome.{AreToCome, HasPageAt, IsPageAt}
use Rattle.blink_live.specs.Renumbered.{cells_anew, child_count, page_anew, pages_in}
use Rattle.blink_live.specs.Words.{KeepsPage}
use Rattle.blink_live.proofs.gathered.RenumberedPageIsLawful.{child_count-append}

module _ (counts : PlainCounts) (words : List ℕ) (fan : ℕ) where
  -- the first of the pages to come, and those after it
  pub record NextPage (level : ℕ) (floor : Option ℕ) (count child number : ℕ) (page : PlainPage) (cells : List Cell) : Type 0 where
    pub rest : List Cell
    pub first : cells ≡ cell number page ∷ rest
    pub kept : KeepsPage counts words number page
    pub lawful : IsLawfulPage fan page
    pub same_level : page.level ≡ level
    pub same_floor : page.floor ≡ floor
    pub room : count < MAX_PAGE
    pub next_number : IfSome page.right (λ _. IsPageNumber (count + 2))
    pub first_child : 1 ≤ child
    pub room_for_children : child + child_count page.level page.entries ≤ MAX_PAGE + 1
    pub to_come : AreToCome counts words fan level (Some page.high) page.right (count + 1) (child + child_count page.level page.entries) rest

  -- where there is a link there is a page
  next_page : (level : ℕ) (floor link : Option ℕ) (count child number : ℕ) (cells : List Cell) → link ≡ Some number → AreToCome counts words fan level floor link count child cells
      → (page : PlainPage) × NextPage level floor count child number page cells
  next_page level floor link count child number [] leads are = absurd (cc (leads, are.in_line.1))
  next_page level floor link count child number (c ∷ cells) leads are =
      let line = are.in_line in
      let same : c.number ≡ number = cc (leads, line.0) in
      let own : child_count c.page.level c.page.entries ≡ child_count level c.page.entries = ap (λ (l : ℕ). child_count l c.page.entries) line.2 in
      let all : child_count level (entries_along (c ∷ cells)) ≡ child_count level c.page.entries + child_count level (entries_along cells)
      = child_count-append level c.page.entries (entries_along cells) in (
        c.page,
        record {
          rest = cells;
          first = λ i. same_cell c (cell number c.page) same refl i ∷ cells;
          kept = subst (λ (n : ℕ). KeepsPage counts words n c.page) same are.kept.0;
          lawful = line.3;
          same_level = line.2;
          same_floor = line.1;
          room = omega (arith, are.room);
          next_number = number_after (Some c.page.high) c.page.right cells line.4 are.room;
          first_child = are.first_child;
          room_for_children = omega (arith, are.room_for_children, own, all);
          to_come = record {
            kept = are.kept.1;
            in_line = line.4;
            room = omega (arith, are.room);
            first_child = omega (arith, are.first_child);
            room_for_children = omega (arith, are.room_for_children, own, all);
          };
        },
      )
    where
      number_after : (floor right : Option ℕ) (cells : List Cell) → InLine fan level floor right cells (Some GREATEST_KEY) None → count + suc (length cells) ≤ MAX_PAGE
          → IfSome right (λ _. IsPageNumber (count + 2))
      number_after floor None cells line room = tt
      number_after floor (Some r) [] line room = absurd (cc (line.1))
      number_after floor (Some r) (d ∷ cells) line room = (omega arith, omega arith)

  -- and room for it
  pub room_for_one : (level : ℕ) (floor : Option ℕ) (count child number : ℕ) (cells : List Cell) → AreToCome counts words fan level floor (Some number) count child cells → count < MAX_PAGE
  room_for_one level floor count child number cells are = (next_page level floor (Some number) count child number cells refl are).1.room

  module _ (few : fan ≤ MAX_FAN) where
    -- which is lawful for each fan
    lawful_for_all : (page : PlainPage) → IsLawfulPage fan page → IsLawfulPage MAX_FAN page
    lawful_for_all page lawful = lawful_with_room fan MAX_FAN page lawful (omega (arith, lawful.at_most_fan))

    -- and which the words keep
    pub page_to_come : (level : ℕ) (floor link : Option ℕ) (count child number : ℕ) (cells : List Cell) → link ≡ Some number → AreToCome counts words fan level floor link count child cells
        → HasPageAt counts words number
    page_to_come level floor link count child number cells leads are =
        let it = next_page level floor link count child number cells leads are in
        (it.0, it.1.kept, lawful_for_all it.0 it.1.lawful)

    -- so it is the page that is found there
    pub found_page : (level : ℕ) (floor link : Option ℕ) (count child number : ℕ) (cells : List Cell) (page : PlainPage) → link ≡ Some number
        → AreToCome counts words fan level floor link count child cells → IsPageAt counts words number page → NextPage level floor count child number page cells
    found_page level floor link count child number cells page leads are is =
        let it = next_page level floor link count child number cells leads are in
        subst (λ (p : PlainPage). NextPage level floor count child number p cells) (sym (is it.0 it.1.kept (lawful_for_all it.0 it.1.lawful))) it.1

  -- what is left of a level from a link on, and the pages that there will be in the end
  pub record LeftToAdd (level : ℕ) (link : Option ℕ) (child : ℕ) (pages whole : List PlainPage) : Type 0 where
    pub floor : Option ℕ
    pub rest : List Cell
    pub to_come : AreToCome counts words fan level floor link (length pages) child rest
    pub same : pages ++ pages_in (cells_anew (suc (length pages)) child rest) ≡ whole

  -- the page that is found at the link is the next that is left
  pub found_left : (level : ℕ) (link : Option ℕ) (child number : ℕ) (pages whole : List PlainPage) (page : PlainPage) → fan ≤ MAX_FAN → link ≡ Some number → IsPageAt counts words number page
      → (left : LeftToAdd level link child pages whole) → NextPage level left.floor (length pages) child number page left.rest
  found_left level link child number pages whole page few leads is left =
      found_page few level left.floor link (length pages) child number left.rest page leads left.to_come is

  -- one page was added
  pub left_on : (level : ℕ) (link : Option ℕ) (child number : ℕ) (pages whole : List PlainPage) (page : PlainPage) → fan ≤ MAX_FAN → link ≡ Some number → IsPageAt counts words number page
      → LeftToAdd level link child pages whole
      → LeftToAdd level page.right (child + child_count page.level page.entries) (pages ++ page_anew (length pages + 2) child page ∷ []) whole
  left_on level link child number pages whole page few leads is left =
      let it = found_page few level left.floor link (length pages) child number left.rest page leads left.to_come is in
      let new = page_anew (length pages + 2) child page in
      let next = child + child_count page.level page.entries in
      let longer : length pages + 1 ≡ length (pages ++ new ∷ []) = omega (arith, length-append pages (new ∷ [])) in
      let own : length pages + 2 ≡ suc (suc (length pages)) = omega arith in
      let after : suc (length (pages ++ new ∷ [])) ≡ suc (suc (length pages)) = omega (arith, longer) in
      record {
        floor = Some page.high;
        rest = it.rest;
        to_come = subst (λ (n : ℕ). AreToCome counts words fan level (Some page.high) page.right n next it.rest) longer it.to_come;
        same = append_assoc pages (new ∷ []) (pages_in (cells_anew (suc (length (pages ++ new ∷ []))) next it.rest))
            ∙ ap (λ (n : ℕ). pages ++ new ∷ pages_in (cells_anew n next it.rest)) after
            ∙ ap (λ (n : ℕ). pages ++ page_anew n child page ∷ pages_in (cells_anew (suc (suc (length pages))) next it.rest)) own
            ∙ ap (λ (cs : List Cell). pages ++ pages_in (cells_anew (suc (length pages)) child cs)) (sym it.first)
            ∙ left.same;
      }

  -- nothing is left
  pub left_none : (level : ℕ) (link : Option ℕ) (child : ℕ) (pages whole : List PlainPage) → link ≡ None → LeftToAdd level link child pages whole → pages ≡ whole
  left_none level link child pages whole ends left = at_end left.rest left.to_come.in_line left.same
    where
      at_end : (rest : List Cell) → InLine fan level left.floor link rest (Some GREATEST_KEY) None → pages ++ pages_in (cells_anew (suc (length pages)) child rest) ≡ whole → pages ≡ whole
      at_end [] line same = sym (append-nil pages) ∙ same
      at_end (c ∷ rest) line same = absurd (cc (ends, line.0))

  -- a leaf has no children, so the numbers of children don't move on after the first
  pub rest_of_leaves : (level : ℕ) (floor : Option ℕ) (leftmost : ℕ) (page : PlainPage) (cells : List Cell) → page.level ≡ 0 → (next : NextPage level floor 0 1 leftmost page cells)
      → AreToCome counts words fan level (Some page.high) page.right 1 1 next.rest
  rest_of_leaves level floor leftmost page cells leaf next =
      let child : 1 + child_count page.level page.entries ≡ 1 = ap (λ (l : ℕ). 1 + child_count l page.entries) leaf in
      subst (λ (k : ℕ). AreToCome counts words fan level (Some page.high) page.right 1 k next.rest) child next.to_come

  -- the first leaf and those after it are all
  pub all_leaves : (level : ℕ) (floor : Option ℕ) (leftmost : ℕ) (page : PlainPage) (cells : List Cell) (written new : List PlainPage) → page.level ≡ 0
      → (next : NextPage level floor 0 1 leftmost page cells) → written ≡ page_anew 2 1 page ∷ [] → new ≡ written ++ pages_in (cells_anew (suc (length written)) 1 next.rest)
      → new ≡ pages_in (cells_anew 1 1 cells)
  all_leaves level floor leftmost page cells written new leaf next first all =
      let child : 1 ≡ 1 + child_count page.level page.entries = ap (λ (l : ℕ). 1 + child_count l page.entries) (sym leaf) in
      all ∙ ap (λ (ps : List PlainPage). ps ++ pages_in (cells_anew (suc (length ps)) 1 next.rest)) first
      ∙ ap (λ (k : ℕ). page_anew 2 1 page ∷ pages_in (cells_anew 2 k next.rest)) child
      ∙ ap (λ (cs : List Cell). pages_in (cells_anew 1 1 cs)) (sym next.first)
