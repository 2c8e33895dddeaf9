-- Chains: how a line of pages splits and joins, how its floors rise, and that its pages have different numbers.
use Rattle.std.proofs.Common.{◌≡◌, ℕ, ◌<◌, ◌≤◌, Option, Some, List, [], ◌∷◌, ◌++◌, inl, inr, refl, sym, ap, arith}
use Rattle.blink_page.specs.{least_above, PlainPage, IsLawfulPage}
use Rattle.blink_rest.specs.Chain.{Pages, Cell, AreAmong, InLine, floor_after, link_after}
use Rattle.blink_rest.specs.Numbers.{IsMember}

-- a cell that stands in a list parts it
pub stands_split : (c : Cell) (cells : List Cell) → IsMember c cells → (before : List Cell) × (after : List Cell) × (cells ≡ before ++ c ∷ after)
stands_split c [] stands = absurd stands
stands_split c (d ∷ cells) (inl same) = ([], cells, ap (λ (x : Cell). x ∷ cells) (sym same))
stands_split c (d ∷ cells) (inr later) = let it = stands_split c cells later in (d ∷ it.0, it.1, ap (λ (xs : List Cell). d ∷ xs) it.2)

-- and what parts a list stands there
pub stands_middle : (c : Cell) (before after : List Cell) → IsMember c (before ++ c ∷ after)
stands_middle c [] after = inl refl
stands_middle c (d ∷ before) after = inr (stands_middle c before after)

module _ (pages : Pages) where
  -- pages of a tree joined are pages of it
  pub AreAmong-append : (xs ys : List Cell) → AreAmong pages xs → AreAmong pages ys → AreAmong pages (xs ++ ys)
  AreAmong-append [] ys before after = after
  AreAmong-append (x ∷ xs) ys before after = (before.0, AreAmong-append xs ys before.1 after)

  -- and so are the first of them
  pub AreAmong-prefix : (xs ys : List Cell) → AreAmong pages (xs ++ ys) → AreAmong pages xs
  AreAmong-prefix [] ys among = tt
  AreAmong-prefix (x ∷ xs) ys among = (among.0, AreAmong-prefix xs ys among.1)

  -- and the rest
  pub AreAmong-rest : (xs ys : List Cell) → AreAmong pages (xs ++ ys) → AreAmong pages ys
  AreAmong-rest [] ys among = among
  AreAmong-rest (x ∷ xs) ys among = AreAmong-rest xs ys among.1

  -- each of them is there
  pub stands_there : (cells : List Cell) (c : Cell) → AreAmong pages cells → IsMember c cells → pages c.number ≡ Some c.page
  stands_there [] c among stands = absurd stands
  stands_there (d ∷ cells) c among (inl same) = rw same among.0
  stands_there (d ∷ cells) c among (inr later) = stands_there cells c among.1 later

module _ (fan level : ℕ) where
  -- two lines that meet are one
  pub InLine-append : (floor link : Option ℕ) (xs ys : List Cell) (middle_floor middle_link last_floor last_link : Option ℕ)
      → InLine fan level floor link xs middle_floor middle_link → InLine fan level middle_floor middle_link ys last_floor last_link
      → InLine fan level floor link (xs ++ ys) last_floor last_link
  InLine-append floor link [] ys middle_floor middle_link last_floor last_link before after = rw (before.0, before.1) after
  InLine-append floor link (x ∷ xs) ys middle_floor middle_link last_floor last_link before after =
      (before.0, before.1, before.2, before.3, InLine-append (Some x.page.high) x.page.right xs ys middle_floor middle_link last_floor last_link before.4 after)

  -- the first of a line are in line
  pub InLine-prefix : (floor link : Option ℕ) (xs ys : List Cell) (last_floor last_link : Option ℕ)
      → InLine fan level floor link (xs ++ ys) last_floor last_link → InLine fan level floor link xs (floor_after floor xs) (link_after link xs)
  InLine-prefix floor link [] ys last_floor last_link line = (refl, refl)
  InLine-prefix floor link (x ∷ xs) ys last_floor last_link line =
      (line.0, line.1, line.2, line.3, InLine-prefix (Some x.page.high) x.page.right xs ys last_floor last_link line.4)

  -- and the rest
  pub InLine-rest : (floor link : Option ℕ) (xs ys : List Cell) (last_floor last_link : Option ℕ)
      → InLine fan level floor link (xs ++ ys) last_floor last_link → InLine fan level (floor_after floor xs) (link_after link xs) ys last_floor last_link
  InLine-rest floor link [] ys last_floor last_link line = line
  InLine-rest floor link (x ∷ xs) ys last_floor last_link line =
      InLine-rest (Some x.page.high) x.page.right xs ys last_floor last_link line.4

  -- a line ends where its cells say
  pub line_ends : (floor link : Option ℕ) (cells : List Cell) (last_floor last_link : Option ℕ)
      → InLine fan level floor link cells last_floor last_link → (floor_after floor cells ≡ last_floor) × (link_after link cells ≡ last_link)
  line_ends floor link [] last_floor last_link line = line
  line_ends floor link (c ∷ cells) last_floor last_link line = line_ends (Some c.page.high) c.page.right cells last_floor last_link line.4

  -- floors rise
  pub floors_rise : (floor link : Option ℕ) (cells : List Cell) (last_floor last_link : Option ℕ)
      → InLine fan level floor link cells last_floor last_link → least_above floor ≤ least_above last_floor
  floors_rise floor link [] last_floor last_link line = omega (arith, ap least_above line.0)
  floors_rise floor link (c ∷ cells) last_floor last_link line =
      omega (arith, ap least_above line.1, line.3.floor_below_high, floors_rise (Some c.page.high) c.page.right cells last_floor last_link line.4)

  -- what a line says of each of its pages: it is lawful, has the level, and lies between the ends of the line
  pub record IsOfLine (floor last_floor : Option ℕ) (page : PlainPage) : Type 0 where
    pub lawful : IsLawfulPage fan page
    pub has_level : page.level ≡ level
    pub above : least_above floor ≤ least_above page.floor
    pub below : page.high < least_above last_floor

  -- and it says so of each that stands there
  pub stands_of : (floor link : Option ℕ) (cells : List Cell) (last_floor last_link : Option ℕ) (c : Cell)
      → InLine fan level floor link cells last_floor last_link → IsMember c cells → IsOfLine floor last_floor c.page
  stands_of floor link [] last_floor last_link c line stands = absurd stands
  stands_of floor link (d ∷ cells) last_floor last_link c line (inl same) =
      let rises = floors_rise (Some d.page.high) d.page.right cells last_floor last_link line.4 in
      rw same (record {
        lawful = line.3;
        has_level = line.2;
        above = omega (arith, ap least_above line.1);
        below = omega arith;
      })
  stands_of floor link (d ∷ cells) last_floor last_link c line (inr later) =
      let it = stands_of (Some d.page.high) d.page.right cells last_floor last_link c line.4 later in
      record {
        lawful = it.lawful;
        has_level = it.has_level;
        above = omega (arith, ap least_above line.1, line.3.floor_below_high, it.above);
        below = it.below;
      }
