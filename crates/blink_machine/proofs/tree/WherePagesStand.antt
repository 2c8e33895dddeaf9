-- Where a page stands in a tree: the pages before it, those after it, and that they have other numbers.
use Rattle.std.proofs.Common.{◌≡◌, ◌≢◌, ℕ, ◌<◌, Option, Some, None, List, [], ◌∷◌, ◌++◌, length, slice_get, ◌⊎◌, inl, inr, refl, sym, subst, ap, ◌∙◌, arith}
use Rattle.std.proofs.lemmas.Bool.{cases_lt}
use Rattle.std.proofs.lemmas.Option.{slice_get-get_or}
use Rattle.blink_page.specs.{least_above, PlainPage, IsLawfulPage}
use Rattle.blink_page.specs.declared.limits.TheConstants.{GREATEST_KEY}
use Rattle.blink_rest.specs.{Pages, AreAmong, InLine, IsChain, floor_after, IsMember}
use Rattle.blink_rest.specs.Chain.{Cell}
use Rattle.blink_rest.proofs.Offered.{AreAmong-prefix, AreAmong-rest, InLine-prefix, InLine-rest, stands_middle, stands_of, stands_split, stands_there}
use Rattle.blink_machine.specs.Tree.{IsTree}
use Rattle.blink_machine.specs.TreeWithDebts.{Levels}

-- what stands in two lists joined stands in one of them
pub stands_append : (d : Cell) (xs ys : List Cell) → IsMember d (xs ++ ys) → IsMember d xs ⊎ IsMember d ys
stands_append d [] ys stands = inr stands
stands_append d (x ∷ xs) ys (inl same) = inl (inl same)
stands_append d (x ∷ xs) ys (inr later) = elim (stands_append d xs ys later) [ inl first ↦ inl (inr first) | inr last ↦ inr last ]

-- and what stands in the first stands in both
pub stands_first : (d : Cell) (xs ys : List Cell) → IsMember d xs → IsMember d (xs ++ ys)
stands_first d [] ys stands = absurd stands
stands_first d (x ∷ xs) ys (inl same) = inl same
stands_first d (x ∷ xs) ys (inr later) = inr (stands_first d xs ys later)

-- as what stands in the second
pub stands_last : (d : Cell) (xs ys : List Cell) → IsMember d ys → IsMember d (xs ++ ys)
stands_last d [] ys stands = stands
stands_last d (x ∷ xs) ys stands = inr (stands_last d xs ys stands)

-- how a page stands in its level: the level is named, and the page is between the pages before and the pages after
pub record Stands (fan : ℕ) (prime : List ℕ) (pages : Pages) (levels : Levels) (level : ℕ) (c : Cell) : Type 0 where
  pub leftmost : ℕ
  pub is_leftmost : slice_get prime level ≡ Some leftmost
  pub before : List Cell
  pub rest : List Cell
  pub parts : levels level ≡ before ++ c ∷ rest
  pub line_before : InLine fan level None (Some leftmost) before c.page.floor (Some c.number)
  pub has_level : c.page.level ≡ level
  pub lawful : IsLawfulPage fan c.page
  pub line_rest : InLine fan level (Some c.page.high) c.page.right rest (Some GREATEST_KEY) None
  pub among_before : AreAmong pages before
  pub there : pages c.number ≡ Some c.page
  pub among_rest : AreAmong pages rest

module _ (fan : ℕ) (prime : List ℕ) (pages : Pages) (levels : Levels) (tree : IsTree fan prime pages levels) where
  -- a level in which a page stands is named
  pub level_named : (level : ℕ) (c : Cell) → IsMember c (levels level) → level < length prime
  level_named level c stands = elim (cases_lt level (length prime)) [
    | inl inside ↦ inside
    | inr past ↦ absurd (subst (IsMember c) (tree.chains.unnamed level past) stands)
  ]

  -- a page of a chain stands between others
  stands_in_chain : (level leftmost : ℕ) (c : Cell) (before rest cells : List Cell) → slice_get prime level ≡ Some leftmost → levels level ≡ cells → cells ≡ before ++ c ∷ rest
      → IsChain fan pages level leftmost (before ++ c ∷ rest) → Stands fan prime pages levels level c
  stands_in_chain level leftmost c before rest cells first whole parts chain =
      let prefix = InLine-prefix fan level None (Some leftmost) before (c ∷ rest) (Some GREATEST_KEY) None chain.in_line in
      let back = InLine-rest fan level None (Some leftmost) before (c ∷ rest) (Some GREATEST_KEY) None chain.in_line in
      let among = AreAmong-rest pages before (c ∷ rest) chain.pages_there in
      record {
        leftmost = leftmost;
        is_leftmost = first;
        before = before;
        rest = rest;
        parts = whole ∙ parts;
        line_before = subst (λ (floor : Option ℕ). InLine fan level None (Some leftmost) before floor (Some c.number)) (sym back.1)
            (subst (λ (link : Option ℕ). InLine fan level None (Some leftmost) before (floor_after None before) link) back.0 prefix);
        has_level = back.2;
        lawful = back.3;
        line_rest = back.4;
        among_before = AreAmong-prefix pages before (c ∷ rest) chain.pages_there;
        there = among.0;
        among_rest = among.1;
      }

  -- so does each page that stands in a level of a tree
  pub stands_so : (level : ℕ) (c : Cell) → IsMember c (levels level) → Stands fan prime pages levels level c
  stands_so level c stands =
      let first = slice_get-get_or prime level 0 (level_named level c stands) in
      let it = stands_split c (levels level) stands in
      stands_in_chain level _ c it.0 it.1 (levels level) first refl it.2 (subst (IsChain fan pages level _) it.2 (tree.chains.named level _ first))

  -- it is in the page map
  pub standing_there : (level : ℕ) (c : Cell) → IsMember c (levels level) → pages c.number ≡ Some c.page
  standing_there level c stands = (stands_so level c stands).there

  -- two pages of one number are one page of one level
  pub standing_same : (level other : ℕ) (c d : Cell) → IsMember c (levels level) → IsMember d (levels other) → c.number ≡ d.number → (c.page ≡ d.page) × (level ≡ other)
  standing_same level other c d stands too same =
      let here = stands_so level c stands in
      let there = stands_so other d too in
      let contents : c.page ≡ d.page = cc (here.there, there.there, ap pages same) in
      (contents, sym here.has_level ∙ ap (λ (p : PlainPage). p.level) contents ∙ there.has_level)

  -- in another level no page has its number
  pub elsewhere_differs : (level other : ℕ) (c d : Cell) → IsMember c (levels level) → IsMember d (levels other) → other ≢ level → d.number ≢ c.number
  elsewhere_differs level other c d stands too apart same = apart (standing_same other level d c too stands same).1

module _ (fan : ℕ) (prime : List ℕ) (pages : Pages) (levels : Levels) (level : ℕ) (c : Cell) (here : Stands fan prime pages levels level c) where
  -- the page itself stands in the level
  pub own_stands : IsMember c (levels level)
  own_stands = subst (IsMember c) (sym here.parts) (stands_middle c here.before here.rest)

  -- what stands before it stands in the level
  pub before_stands : (d : Cell) → IsMember d here.before → IsMember d (levels level)
  before_stands d stands = subst (IsMember d) (sym here.parts) (stands_first d here.before (c ∷ here.rest) stands)

  -- so does what stands after it
  pub rest_stands : (d : Cell) → IsMember d here.rest → IsMember d (levels level)
  rest_stands d stands = subst (IsMember d) (sym here.parts) (stands_last d here.before (c ∷ here.rest) (inr stands))

  -- no page before it has its number
  pub before_differs : (d : Cell) → IsMember d here.before → d.number ≢ c.number
  before_differs d stands same =
      let it = stands_of fan level None (Some here.leftmost) here.before c.page.floor (Some c.number) d here.line_before stands in
      let contents : d.page ≡ c.page = cc (stands_there pages here.before d here.among_before stands, here.there, ap pages same) in
      let highs = ap (λ (p : PlainPage). p.high) contents in
      absurd (omega (arith, it.below, highs, here.lawful.floor_below_high))

  -- nor one after it
  pub rest_differs : (d : Cell) → IsMember d here.rest → d.number ≢ c.number
  rest_differs d stands same =
      let it = stands_of fan level (Some c.page.high) c.page.right here.rest (Some GREATEST_KEY) None d here.line_rest stands in
      let contents : d.page ≡ c.page = cc (stands_there pages here.rest d here.among_rest stands, here.there, ap pages same) in
      let floors = ap (λ (p : PlainPage). least_above p.floor) contents in
      absurd (omega (arith, it.above, floors, here.lawful.floor_below_high))

  -- each page of the level is before it, is it, or is after it
  pub stands_cases : (d : Cell) → IsMember d (levels level) → IsMember d here.before ⊎ ((d ≡ c) ⊎ IsMember d here.rest)
  stands_cases d stands = elim (stands_append d here.before (c ∷ here.rest) (subst (IsMember d) here.parts stands)) [
    | inl first ↦ inl first
    | inr last ↦ elim last [ inl same ↦ inr (inl same) | inr later ↦ inr (inr later) ]
  ]
