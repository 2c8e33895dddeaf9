-- An inner page over the first pages of a line, and the line of such pages.
use Rattle.std.proofs.Common.{◌≡◌, ℕ, ◌+◌, ◌<◌, ◌≤◌, zero, suc, Option, Some, None, List, [], ◌∷◌, ◌++◌, ◌↔◌, get_or, length, map, take, refl, sym, ap, subst, ◌∙◌, arith}
use Rattle.std.specs.Prelude.{IfSome, IsNone}
use Rattle.std.proofs.Math.Seq.{take-suc}
use Rattle.std.proofs.lemmas.List.{length-map, length-take-le}
use Rattle.blink_page.specs.{Covers, IsLawfulPage, IsPageNumber, PlainPage, ValuesWithin, least_above}
use Rattle.blink_page.specs.declared.limits.TheConstants.{GREATEST_KEY, MAX_LEVEL, MAX_PAGE}
use Rattle.blink_page.proofs.Offered.{values_wider, covers_rising, length-rising}
use Rattle.blink_rest.specs.{InLine, IsParentOf, entries_along, floor_after, high_keys, names_for, numbers_of}
use Rattle.blink_rest.specs.Chain.{Cell, link_after}
use Rattle.blink_rest.proofs.Offered.{InLine-prefix, InLine-rest}
use Rattle.blink_entries.specs.Packed.{numbered}
use Rattle.blink_entries.specs.Packing.{floor_of_first, high_of_last, link_to, page_over}
use Rattle.blink_entries.proofs.packed.LeavesGrow.{length-numbered, numbered-append}

-- a line's pages in names
pub names_for-append : (xs ys : List Cell) → names_for (xs ++ ys) ≡ names_for xs ++ names_for ys
names_for-append [] ys = refl
names_for-append (x ∷ xs) ys = ap (λ (es : List (ℕ × ℕ)). (x.page.high, x.number) ∷ es) (names_for-append xs ys)

-- the names of a line cover its keys
names_cover : (fan level : ℕ) (floor link : Option ℕ) (cells : List Cell) (last_floor last_link : Option ℕ) → InLine fan level floor link cells last_floor last_link
    → Covers (least_above floor) (names_for cells) (least_above last_floor)
names_cover fan level floor link [] last_floor last_link line = ap least_above line.0
names_cover fan level floor link (c ∷ cells) last_floor last_link line =
    (let floors = line.3.floor_below_high in let same = ap least_above line.1 in omega (arith, floors, same), names_cover fan level (Some c.page.high) c.page.right cells last_floor last_link line.4)

-- their children are page numbers
names_within : (number : ℕ) (pages : List PlainPage) → 1 ≤ number → number + length pages ≤ MAX_PAGE + 1 → ValuesWithin 1 MAX_PAGE (names_for (numbered number pages))
names_within number [] from room = tt
names_within number (p ∷ pages) from room = (from, omega (arith, room), names_within (suc number) pages (omega arith) (omega (arith, room)))

-- a line begins at its first floor, and ends at its last high key
first_floor : (fan level : ℕ) (floor link : Option ℕ) (number : ℕ) (pages : List PlainPage) (last_floor last_link : Option ℕ) → 0 < length pages
    → InLine fan level floor link (numbered number pages) last_floor last_link → floor_of_first pages ≡ floor
first_floor fan level floor link number [] last_floor last_link some line = absurd (omega arith)
first_floor fan level floor link number (p ∷ pages) last_floor last_link some line = line.1

last_high : (fan level : ℕ) (floor link : Option ℕ) (number : ℕ) (pages : List PlainPage) (last_floor last_link : Option ℕ) → 0 < length pages
    → InLine fan level floor link (numbered number pages) last_floor last_link → Some (high_of_last pages) ≡ last_floor
last_high fan level floor link number [] last_floor last_link some line = absurd (omega arith)
last_high fan level floor link number (p ∷ []) last_floor last_link some line = line.4.0
last_high fan level floor link number (p ∷ next ∷ pages) last_floor last_link some line =
    last_high fan level (Some p.high) p.right (suc number) (next ∷ pages) last_floor last_link (omega arith) line.4

-- and the link to a line's first page is its number
link_is : (fan level : ℕ) (floor link : Option ℕ) (number : ℕ) (pages : List PlainPage) → InLine fan level floor link (numbered number pages) (Some GREATEST_KEY) None → link ≡ link_to number pages
link_is fan level floor link number [] line = line.1
link_is fan level floor link number (p ∷ pages) line = line.0

-- what follows a line's pages begins above their last high key, and exists unless that is the greatest
at_most_greatest : (fan level high : ℕ) (link : Option ℕ) (number : ℕ) (pages : List PlainPage) → InLine fan level (Some high) link (numbered number pages) (Some GREATEST_KEY) None → high ≤ GREATEST_KEY
at_most_greatest fan level high link number [] line = let same : high + 1 ≡ GREATEST_KEY + 1 = ap least_above line.0 in omega (arith, same)
at_most_greatest fan level high link number (p ∷ pages) line =
    let above : least_above p.floor ≡ high + 1 = ap least_above line.1 in
    let below = line.3.floor_below_high in let range = line.3.high_in_range in omega (arith, above, below, range)

none_at_end : (fan level high : ℕ) (link : Option ℕ) (number next : ℕ) (pages : List PlainPage) → InLine fan level (Some high) link (numbered number pages) (Some GREATEST_KEY) None
    → IsNone (link_to next pages) ↔ (high ≡ GREATEST_KEY)
none_at_end fan level high link number next [] line = let same : high + 1 ≡ GREATEST_KEY + 1 = ap least_above line.0 in (λ none. omega (arith, same), λ greatest. refl)
none_at_end fan level high link number next (p ∷ pages) line = (
  λ none. absurd (cc),
  λ greatest. absurd (
      let above : least_above p.floor ≡ high + 1 = ap least_above line.1 in
      let below = line.3.floor_below_high in let range = line.3.high_in_range in omega (arith, above, below, range, greatest)
      ),
)

number_of_next : (next : ℕ) (pages : List PlainPage) → (0 < length pages → IsPageNumber next) → IfSome (link_to next pages) IsPageNumber
number_of_next next [] number = tt
number_of_next next (p ∷ pages) number = number (omega arith)

-- the page over the first pages of a line of all keys from a floor on
module _ (fan level below : ℕ) (floor : Option ℕ) (child next : ℕ) (group rest : List PlainPage)
    (line : InLine fan below floor (link_to child (group ++ rest)) (numbered child (group ++ rest)) (Some GREATEST_KEY) None) (inner : 1 ≤ level) (most_levels : level ≤ MAX_LEVEL)
    (two : 2 ≤ length group) (at_most : length group ≤ fan) (from : 1 ≤ child) (room : child + length group ≤ MAX_PAGE + 1) (number : 0 < length rest → IsPageNumber next) where
  abbrev over : PlainPage
  over = page_over level child (link_to next rest) group

  abbrev parted : InLine fan below floor (link_to child (group ++ rest)) (numbered child group ++ numbered (child + length group) rest) (Some GREATEST_KEY) None
  parted = subst (λ (cells : List Cell). InLine fan below floor (link_to child (group ++ rest)) cells (Some GREATEST_KEY) None) (numbered-append child group rest) line

  line_of_group : InLine fan below floor (link_to child (group ++ rest)) (numbered child group) (floor_after floor (numbered child group)) (link_after (link_to child (group ++ rest)) (numbered child group))
  line_of_group = InLine-prefix fan below floor (link_to child (group ++ rest)) (numbered child group) (numbered (child + length group) rest) (Some GREATEST_KEY) None parted

  high_is : Some (high_of_last group) ≡ floor_after floor (numbered child group)
  high_is = last_high fan below floor (link_to child (group ++ rest)) child group _ _ (omega arith) line_of_group

  line_after : InLine fan below (Some (high_of_last group)) (link_after (link_to child (group ++ rest)) (numbered child group)) (numbered (child + length group) rest) (Some GREATEST_KEY) None
  line_after = subst (λ (f : Option ℕ). InLine fan below f (link_after (link_to child (group ++ rest)) (numbered child group)) (numbered (child + length group) rest) (Some GREATEST_KEY) None) (sym high_is)
      (InLine-rest fan below floor (link_to child (group ++ rest)) (numbered child group) (numbered (child + length group) rest) (Some GREATEST_KEY) None parted)

  -- the rest of the line
  pub rest_in_line : InLine fan below (Some (high_of_last group)) (link_to (child + length group) rest) (numbered (child + length group) rest) (Some GREATEST_KEY) None
  rest_in_line = subst (λ (l : Option ℕ). InLine fan below (Some (high_of_last group)) l (numbered (child + length group) rest) (Some GREATEST_KEY) None)
      (link_is fan below (Some (high_of_last group)) _ (child + length group) rest line_after) line_after

  pub floor_is : over.floor ≡ floor
  floor_is = first_floor fan below floor (link_to child (group ++ rest)) child group _ _ (omega arith) line_of_group

  covers : Covers (least_above over.floor) over.entries (over.high + 1)
  covers = rw floor_is (subst (λ (f : Option ℕ). Covers (least_above floor) (names_for (numbered child group)) (least_above f)) (sym high_is)
      (names_cover fan below floor (link_to child (group ++ rest)) (numbered child group) _ _ line_of_group))

  count : length over.entries ≡ length group
  count = length-map (numbered child group) (λ (c : Cell). (c.page.high, c.number)) ∙ length-numbered child group

  pub lawful_over : IsLawfulPage fan over
  lawful_over = record {
    level_in_range = most_levels;
    high_in_range = at_most_greatest fan below (high_of_last group) _ (child + length group) rest line_after;
    floor_below_high = let many = length-rising (least_above over.floor) over.entries (over.high + 1) (covers_rising _ over.entries _ covers) in omega (arith, many, count, two);
    right_unless_last = none_at_end fan below (high_of_last group) _ (child + length group) next rest line_after;
    right_is_number = number_of_next next rest number;
    at_most_fan = omega (arith, count, at_most);
    keys_rise = covers_rising _ over.entries _ covers;
    values_in_range = values_wider 1 MAX_PAGE 0 GREATEST_KEY over.entries (omega arith) (omega arith) (names_within child group from room);
    inner = λ above. record { two_at_least = omega (arith, count, two); last_is_high = covers; children = names_within child group from room };
  }

-- the separators and children of a level that names another
pub parent_of : (upper lower : List Cell) → entries_along upper ≡ names_for lower → IsParentOf upper lower
parent_of upper lower named = record {
  separators_are_high_keys = ap (map (λ (entry : ℕ × ℕ). entry.0)) named ∙ firsts lower;
  children_are_pages = ap (map (λ (entry : ℕ × ℕ). entry.1)) named ∙ seconds lower;
}
  where
    firsts : (cells : List Cell) → map (λ (entry : ℕ × ℕ). entry.0) (names_for cells) ≡ high_keys cells
    firsts [] = refl
    firsts (c ∷ cells) = ap (λ (ks : List ℕ). c.page.high ∷ ks) (firsts cells)

    seconds : (cells : List Cell) → map (λ (entry : ℕ × ℕ). entry.1) (names_for cells) ≡ numbers_of cells
    seconds [] = refl
    seconds (c ∷ cells) = ap (λ (ks : List ℕ). c.number ∷ ks) (seconds cells)

-- one page more in names
pub names_more : (child i : ℕ) (pages : List PlainPage) (d : PlainPage) → i < length pages
    → names_for (numbered child (take (i + 1) pages)) ≡ names_for (numbered child (take i pages)) ++ ((get_or pages i d).high, child + i) ∷ []
names_more child i pages d inside =
    let next : i + 1 ≡ suc i = omega arith in
    let count : length (take i pages) ≡ i = length-take-le i pages (omega arith) in
    ap (λ (n : ℕ). names_for (numbered child (take n pages))) next
    ∙ ap (λ (ps : List PlainPage). names_for (numbered child ps)) (take-suc pages i d inside)
    ∙ ap names_for (numbered-append child (take i pages) (get_or pages i d ∷ []))
    ∙ names_for-append (numbered child (take i pages)) (numbered (child + length (take i pages)) (get_or pages i d ∷ []))
    ∙ ap (λ (n : ℕ). names_for (numbered child (take i pages)) ++ ((get_or pages i d).high, child + n) ∷ []) count

pub floor_there : (pages : List PlainPage) (d : PlainPage) → 0 < length pages → (get_or pages 0 d).floor ≡ floor_of_first pages
floor_there [] d some = absurd (omega arith)
floor_there (p ∷ pages) d some = refl

pub high_there : (n : ℕ) (pages : List PlainPage) (d : PlainPage) → length pages ≡ suc n → (get_or pages n d).high ≡ high_of_last pages
high_there n [] d is = absurd (omega arith)
high_there zero (p ∷ []) d is = refl
high_there (suc n) (p ∷ []) d is = absurd (omega arith)
high_there zero (p ∷ next ∷ pages) d is = absurd (omega arith)
high_there (suc n) (p ∷ next ∷ pages) d is = high_there n (next ∷ pages) d (omega arith)

pub length-names : (child i : ℕ) (pages : List PlainPage) → i ≤ length pages → length (names_for (numbered child (take i pages))) ≡ i
length-names child i pages inside =
    length-map (numbered child (take i pages)) (λ (c : Cell). (c.page.high, c.number)) ∙ length-numbered child (take i pages) ∙ length-take-le i pages inside
