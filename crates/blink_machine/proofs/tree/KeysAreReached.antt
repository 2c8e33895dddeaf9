-- What a search reaches in a tree: on each level, by moving right, the page that the key belongs to.
use Rattle.std.proofs.Common.{◌≡◌, ℕ, ◌+◌, ◌-◌, ◌≤◌, zero, suc, Option, Some, None, List, [], ◌∷◌, length, inl, inr, sym, subst, ap, arith}
use Rattle.std.specs.List.{slice_get}
use Rattle.blink_page.specs.{least_above, child_for, IsKeyOf}
use Rattle.blink_page.specs.declared.limits.TheConstants.{GREATEST_KEY}
use Rattle.blink_page.proofs.Offered.{child_for-covers}
use Rattle.blink_store.proofs.Offered.{some_or_none}
use Rattle.blink_rest.specs.{Pages, AreAmong, InLine, IsMember, IsRoot, Reaches, at_root, to_right, down}
use Rattle.blink_rest.specs.Chain.{Cell}
use Rattle.blink_rest.proofs.Offered.{chain_spans, root_at_end, stands_of}
use Rattle.blink_machine.specs.Tree.{IsTree, BeginsBelow}
use Rattle.blink_machine.specs.TreeWithDebts.{Levels}
use Rattle.blink_machine.proofs.tree.TreeStatements.{KeysAreReached}
use Rattle.blink_machine.proofs.tree.PagesOfLevels.{named_below, named_standing, cells_are_of_level, leftmost_begins}
use Rattle.blink_machine.proofs.tree.ChildrenBegin.{children_begin}

-- a page and the child in it for a key
pub record HasChild (entries : List (ℕ × ℕ)) (key : ℕ) : Type 0 where
  pub child : ℕ
  pub found : child_for key entries ≡ Some child

module _ (fan level root key : ℕ) (pages : Pages) where
  -- a search that is at the first page of a line goes right to the page that the key belongs to
  walks_from_first : (floor link : Option ℕ) (d : Cell) (cells : List Cell) (last_floor last_link : Option ℕ) (c : Cell)
      → AreAmong pages (d ∷ cells) → InLine fan level floor link (d ∷ cells) last_floor last_link → Reaches pages root key d.number
      → IsMember c (d ∷ cells) → IsKeyOf c.page key → Reaches pages root key c.number
  walks_from_first floor link d cells last_floor last_link c among line reached (inl same) belongs =
      subst (λ (x : Cell). Reaches pages root key x.number) (sym same) reached
  walks_from_first floor link d [] last_floor last_link c among line reached (inr later) belongs = absurd later
  walks_from_first floor link d (e ∷ cells) last_floor last_link c among line reached (inr later) belongs =
      let it = stands_of fan level (Some d.page.high) d.page.right (e ∷ cells) last_floor last_link c line.4 later in
      let above = it.above in let from = belongs.0 in
      walks_from_first (Some d.page.high) d.page.right e cells last_floor last_link c among.1 line.4
      (to_right d.number e.number d.page reached among.0 (omega arith) line.4.0) later belongs

  -- and so from any page whose floor is below the key
  walks : (floor link : Option ℕ) (cells : List Cell) (last_floor last_link : Option ℕ) (d c : Cell)
      → AreAmong pages cells → InLine fan level floor link cells last_floor last_link → IsMember d cells → Reaches pages root key d.number
      → least_above d.page.floor ≤ key → IsMember c cells → IsKeyOf c.page key → Reaches pages root key c.number
  walks floor link [] last_floor last_link d c among line stands reached below too belongs = absurd stands
  walks floor link (x ∷ cells) last_floor last_link d c among line (inl same) reached below too belongs =
      walks_from_first floor link x cells last_floor last_link c among line (subst (λ (y : Cell). Reaches pages root key y.number) same reached) too belongs
  walks floor link (x ∷ cells) last_floor last_link d c among line (inr later) reached below (inl same) belongs =
      let it = stands_of fan level (Some x.page.high) x.page.right cells last_floor last_link d line.4 later in
      let above = it.above in let to = belongs.1 in
      absurd (omega (arith, ap (λ (y : Cell). y.page.high) same))
  walks floor link (x ∷ cells) last_floor last_link d c among line (inr later) reached below (inr later_too) belongs =
      walks (Some x.page.high) x.page.right cells last_floor last_link d c among.1 line.4 later reached below later_too belongs

module _ (fan : ℕ) (prime : List ℕ) (pages : Pages) (levels : Levels) (tree : IsTree fan prime pages levels) (root key : ℕ) (is_root : IsRoot prime root) (in_range : key ≤ GREATEST_KEY) where
  -- a page that a key belongs to has a child for it, where it is an inner page
  child_there : (level : ℕ) (d : Cell) → IsMember d (levels (level + 1)) → IsKeyOf d.page key → HasChild d.page.entries key
  child_there level d stands belongs =
      let it = cells_are_of_level fan prime pages levels (level + 1) d tree stands in
      let same_level = it.has_level in
      let some = child_for-covers key (least_above d.page.floor) (d.page.high + 1) d.page.entries (it.lawful.inner (omega arith)).last_is_high belongs.0 (omega (arith, belongs.1)) in
      elim (some_or_none (child_for key d.page.entries)) [
        | inl it ↦ record { child = it.0; found = it.1 }
        | inr missing ↦ absurd (cc (some, missing))
      ]

  -- on each level the page that the key belongs to is reached from a page there that begins below the key
  level_walks : (level number : ℕ) (c : Cell) → BeginsBelow (levels level) number key → Reaches pages root key number → IsMember c (levels level) → IsKeyOf c.page key → Reaches pages root key c.number
  level_walks level number c begins reached stands belongs =
      let it = named_standing fan prime pages levels tree level c stands in
      walks fan level root key pages None (Some it.leftmost) (levels level) (Some GREATEST_KEY) None begins.cell c it.chain.pages_there it.chain.in_line begins.stands
      (subst (Reaches pages root key) {y = begins.cell.number} (sym begins.same_number) reached) begins.floor_below stands belongs

  -- and so the one on the level that is `height` levels below the top one
  page_reached : (height level : ℕ) (c : Cell) → level + height + 1 ≡ length prime → IsMember c (levels level) → IsKeyOf c.page key → Reaches pages root key c.number
  page_reached zero level c top stands belongs =
      let it = named_below fan prime pages levels tree level (omega arith) in
      let first = leftmost_begins fan prime pages levels level it.leftmost tree it.is_there in
      let last : level ≡ length prime - 1 = omega arith in
      let named = root_at_end prime it.leftmost (subst (λ (n : ℕ). slice_get prime n ≡ Some it.leftmost) last it.is_there) in
      let same : root ≡ it.leftmost = cc (is_root, named) in
      level_walks level it.leftmost c
      (record { cell = first.cell; stands = first.stands; same_number = first.same_number; floor_below = omega (arith, ap least_above first.same_floor) })
      (subst (Reaches pages root key) {y = it.leftmost} same at_root) stands belongs
  page_reached (suc height) level c top stands belongs =
      let above = named_below fan prime pages levels tree (level + 1) (omega arith) in
      let over = chain_spans fan (level + 1) above.leftmost pages (levels (level + 1)) above.chain key in_range in
      let of_level = cells_are_of_level fan prime pages levels (level + 1) over.0 tree over.1 in
      let same_level = of_level.has_level in
      let has = child_there level over.0 over.1 over.2 in
      level_walks level has.child c (children_begin fan prime pages levels level has.child key over.0 tree over.1 over.2 has.found).begins
      (down over.0.number has.child over.0.page (page_reached height (level + 1) over.0 (omega arith) over.1 over.2) of_level.there (omega arith) over.2.1 has.found)
      stands belongs

-- a search for a key reaches the leaf that it belongs to
pub keys_are_reached : KeysAreReached
keys_are_reached fan prime pages levels key tree in_range =
    let some = tree.chains.some_level in
    let top = named_below fan prime pages levels tree (length prime - 1) (omega arith) in
    let is_root = root_at_end prime top.leftmost top.is_there in
    let low = named_below fan prime pages levels tree 0 (omega arith) in
    let over = chain_spans fan 0 low.leftmost pages (levels 0) low.chain key in_range in
    record {
      root = top.leftmost;
      is_root = is_root;
      cell = over.0;
      stands = over.1;
      belongs = over.2;
      reached = page_reached fan prime pages levels tree top.leftmost key is_root in_range (length prime - 1) 0 over.0 (omega arith) over.1 over.2;
    }
