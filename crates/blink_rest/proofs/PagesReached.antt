-- What a search reaches in a tree at rest: on each level the page that the key belongs to, and no other.
use Rattle.std.proofs.Common.{◌≡◌, ℕ, ◌+◌, ◌<◌, ◌≤◌, Some, None, List, [], ◌∷◌, ◌++◌, length, inl, inr, subst, ap, ◌∙◌, arith}
use Rattle.std.specs.List.{flat_map}
use Rattle.std.proofs.lemmas.Bool.{cases_lt}
use Rattle.blink_page.specs.{child_for, PlainPage, IsKeyOf}
use Rattle.blink_page.specs.declared.limits.TheConstants.{GREATEST_KEY}
use Rattle.blink_rest.specs.Numbers.{IsMember}
use Rattle.blink_rest.specs.Chain.{Pages, Cell, IsChain}
use Rattle.blink_rest.specs.Level.{numbers_of}
use Rattle.blink_rest.specs.Reach.{Reaches, at_root, to_right, down, IsRoot}
use Rattle.blink_rest.specs.Rest.{AreChains, EachIsParent, TopHasOne, AreLevels}
use Rattle.blink_rest.proofs.DifferentNumbers.{among_append, among_from_Contains}
use Rattle.blink_rest.proofs.LinesOfPages.{stands_there, stands_of}
use Rattle.blink_rest.proofs.PagesOfChainsDiffer.{standing}
use Rattle.blink_rest.proofs.EntriesOfLevel.{chain_spans}
use Rattle.blink_rest.proofs.ChildForKey.{chain_child}

module _ (fan : ℕ) (pages : Pages) where
  -- a page whose number is among a chain's stands there
  pub page_standing : (level leftmost n : ℕ) (p : PlainPage) (cells : List Cell) → IsChain fan pages level leftmost cells → pages n ≡ Some p
      → IsMember n (numbers_of cells) → (c : Cell) × (n ≡ c.number) × (p ≡ c.page) × IsMember c cells × (p.level ≡ level)
  page_standing level leftmost n p cells chain there among =
      let it = standing n cells among in
      let here = stands_there pages cells it.0 chain.pages_there it.2 in
      let same : p ≡ it.0.page = cc (there, here, ap pages it.1) in (
        it.0,
        it.1,
        same,
        it.2,
        ap (λ (q : PlainPage). q.level) same ∙ (stands_of fan level None (Some leftmost) cells (Some GREATEST_KEY) None it.0 chain.in_line it.2).has_level,
      )

  -- a page among the levels from one on has at least that level
  pub level_at_least : (level n : ℕ) (p : PlainPage) (prime : List ℕ) (levels : List (List Cell)) → AreChains fan pages level prime levels
      → pages n ≡ Some p → IsMember n (flat_map numbers_of levels) → level ≤ p.level
  level_at_least level n p [] [] chains there among = absurd among
  level_at_least level n p [] (cells ∷ above) chains there among = absurd chains
  level_at_least level n p (leftmost ∷ prime) [] chains there among = absurd chains
  level_at_least level n p (leftmost ∷ prime) (cells ∷ above) chains there among =
      elim (among_append n (numbers_of cells) (flat_map numbers_of above) among) [
        | inl here ↦ omega (arith, (page_standing level leftmost n p cells chains.0 there here).4)
        | inr later ↦ omega (arith, level_at_least (level + 1) n p prime above chains.1 there later)
      ]

  -- a chain of one page has that one only
  pub only_page : (level leftmost : ℕ) (cells : List Cell) → IsChain fan pages level leftmost cells → length cells ≡ 1
      → (c : Cell) → IsMember c cells → c.number ≡ leftmost
  only_page level leftmost [] chain one c stands = absurd stands
  only_page level leftmost (d ∷ []) chain one c (inl same) = cc (chain.in_line.0, ap (λ (x : Cell). x.number) same)
  only_page level leftmost (d ∷ []) chain one c (inr later) = absurd later
  only_page level leftmost (d ∷ e ∷ cells) chain one c stands = absurd (omega arith)

  module _ (key : ℕ) (in_range : key ≤ GREATEST_KEY) where
    -- there is a page with the number, and the key belongs to it
    abbrev pub HasPageFor : ℕ → Type 0
    HasPageFor n = (p : PlainPage) × (pages n ≡ Some p) × IsKeyOf p key

    -- the key belongs to the root
    root_for : (level root : ℕ) (prime : List ℕ) (levels : List (List Cell)) → AreChains fan pages level prime levels → TopHasOne levels → IsRoot prime root → HasPageFor root
    root_for level root prime [] chains one is_root = absurd one
    root_for level root [] (cells ∷ above) chains one is_root = absurd chains
    root_for level root (leftmost ∷ []) (cells ∷ []) chains one is_root =
        let it = chain_spans fan level leftmost pages cells chains.0 key in_range in
        let same = only_page level leftmost cells chains.0 one it.0 it.1 in
        (it.0.page, cc (is_root, ap pages same, stands_there pages cells it.0 chains.0.pages_there it.1), it.2)
    root_for level root (leftmost ∷ []) (cells ∷ upper ∷ above) chains one is_root = absurd chains.1
    root_for level root (leftmost ∷ left ∷ prime) (cells ∷ []) chains one is_root = absurd chains.1
    root_for level root (leftmost ∷ left ∷ prime) (cells ∷ upper ∷ above) chains one is_root = root_for (level + 1) root (left ∷ prime) (upper ∷ above) chains.1 one is_root

    -- and it belongs to the page with the number, which is of a lower level than another page
    abbrev pub HasLowerPageFor : ℕ → ℕ → Type 0
    HasLowerPageFor n upper_level = (p : PlainPage) × (pages n ≡ Some p) × IsKeyOf p key × (p.level < upper_level)

    -- and to the child for it of a page that it belongs to
    child_of : (level n child : ℕ) (p : PlainPage) (prime : List ℕ) (levels : List (List Cell)) → AreChains fan pages level prime levels → EachIsParent levels
        → pages n ≡ Some p → IsKeyOf p key → child_for key p.entries ≡ Some child → level < p.level → IsMember n (flat_map numbers_of levels) → HasLowerPageFor child p.level
    child_of level n child p [] [] chains named there belongs is_child above among = absurd among
    child_of level n child p [] (cells ∷ levels) chains named there belongs is_child above among = absurd chains
    child_of level n child p (leftmost ∷ prime) [] chains named there belongs is_child above among = absurd chains
    child_of level n child p (leftmost ∷ prime) (cells ∷ []) chains named there belongs is_child above among =
        elim (among_append n (numbers_of cells) [] among) [
          | inl here ↦ absurd (omega (arith, (page_standing level leftmost n p cells chains.0 there here).4))
          | inr later ↦ absurd later
        ]
    child_of level n child p (leftmost ∷ []) (cells ∷ upper ∷ levels) chains named there belongs is_child above among = absurd chains.1
    child_of level n child p (leftmost ∷ left ∷ prime) (cells ∷ upper ∷ levels) chains named there belongs is_child above among =
        elim (among_append n (numbers_of cells) (numbers_of upper ++ flat_map numbers_of levels) among) [
          | inl here ↦ absurd (omega (arith, (page_standing level leftmost n p cells chains.0 there here).4))
          | inr later ↦ elim (cases_lt (level + 1) p.level) [
            | inl higher ↦ child_of (level + 1) n child p (left ∷ prime) (upper ∷ levels) chains.1 named.1 there belongs is_child higher later
            | inr next ↦ elim (among_append n (numbers_of upper) (flat_map numbers_of levels) later) [
              | inr beyond ↦ absurd (omega (arith, level_at_least (level + 1 + 1) n p prime levels chains.1.1 there beyond))
              | inl here ↦
                  let it = page_standing (level + 1) left n p upper chains.1.0 there here in
                  let P : PlainPage → Type 0 = λ q. IsKeyOf q key in
                  let low = chain_spans fan level leftmost pages cells chains.0 key in_range in
                  let found = chain_child fan level key pages leftmost left upper cells it.0 low.0 chains.0 chains.1.0 named.0 it.3 (subst P it.2 belongs) low.1 low.2 in
                  let number : low.0.number ≡ child = cc (found, is_child, ap (λ (q : PlainPage). child_for key q.entries) it.2) in
                  let low_level = (stands_of fan level None (Some leftmost) cells (Some GREATEST_KEY) None low.0 chains.0.in_line low.1).has_level in
                  (low.0.page, cc (ap pages number, stands_there pages cells low.0 chains.0.pages_there low.1), low.2, omega arith)
            ]
          ]
        ]

    -- the page of the lowest level that the key belongs to is reached
    pub lowest_reached : (level root : ℕ) (prime : List ℕ) (cells : List Cell) (above : List (List Cell)) (c : Cell) → AreChains fan pages level prime (cells ∷ above)
        → EachIsParent (cells ∷ above) → TopHasOne (cells ∷ above) → IsRoot prime root → IsMember c cells → IsKeyOf c.page key → Reaches pages root key c.number
    lowest_reached level root [] cells above c chains named one is_root stands belongs = absurd chains
    lowest_reached level root (leftmost ∷ []) cells [] c chains named one is_root stands belongs =
        let same = only_page level leftmost cells chains.0 one c stands in
        let number : root ≡ c.number = cc (is_root, same) in
        let P : ℕ → Type 0 = λ n. Reaches pages root key n in subst P number at_root
    lowest_reached level root (leftmost ∷ left ∷ prime) cells [] c chains named one is_root stands belongs = absurd chains.1
    lowest_reached level root (leftmost ∷ []) cells (upper ∷ above) c chains named one is_root stands belongs = absurd chains.1
    lowest_reached level root (leftmost ∷ left ∷ prime) cells (upper ∷ above) c chains named one is_root stands belongs =
        let it = chain_spans fan (level + 1) left pages upper chains.1.0 key in_range in
        let of_level = (stands_of fan (level + 1) None (Some left) upper (Some GREATEST_KEY) None it.0 chains.1.0.in_line it.1).has_level in
        down it.0.number c.number it.0.page
        (lowest_reached (level + 1) root (left ∷ prime) upper above it.0 chains.1 named.1 one is_root it.1 it.2)
        (stands_there pages upper it.0 chains.1.0.pages_there it.1) (omega arith) it.2.1
        (chain_child fan level key pages leftmost left upper cells it.0 c chains.0 chains.1.0 named.0 it.1 it.2 stands belongs)

    module _ (prime : List ℕ) (levels : List (List Cell)) (root : ℕ) (at_rest : AreLevels fan prime pages levels) (is_root : IsRoot prime root) where
      -- a search at rest that goes down from a page that the key belongs to comes to one of a lower level
      pub child_lower : (n child : ℕ) (p : PlainPage) → pages n ≡ Some p → IsKeyOf p key → 0 < p.level → child_for key p.entries ≡ Some child → HasLowerPageFor child p.level
      child_lower n child p there belongs inner is_child =
          child_of 0 n child p prime levels at_rest.chains at_rest.named there belongs is_child inner
          (among_from_Contains (flat_map numbers_of levels) n (at_rest.no_other_page n p there))

      -- whatever is reached is a page that the key belongs to, so a search at rest never moves right
      pub reached_for : (n : ℕ) → Reaches pages root key n → HasPageFor n
      reached_for n at_root = root_for 0 root prime levels at_rest.chains at_rest.one_root is_root
      reached_for n (to_right number next page before there beyond link) =
          let it = reached_for number before in
          let same : it.0 ≡ page = cc (it.1, there) in
          absurd (omega (arith, it.2.1, ap (λ (q : PlainPage). q.high) same))
      reached_for n (down number child page before there inner below is_child) =
          let it = reached_for number before in
          let same : it.0 ≡ page = cc (it.1, there) in
          let P : PlainPage → Type 0 = λ q. IsKeyOf q key in
          let below_it = child_lower number child page there (subst P same it.2) inner is_child in
          (below_it.0, below_it.1, below_it.2)
