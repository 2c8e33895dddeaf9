-- A level that names the one below: the child for a key is the page there that the key belongs to.
use Rattle.std.proofs.Common.{◌≡◌, ℕ, ◌+◌, ◌<◌, ◌≤◌, Option, Some, None, List, [], ◌∷◌, ◌++◌, map, ◌⊎◌, inl, inr, refl, sym, ap, ◌∙◌, arith}
use Rattle.std.proofs.lemmas.Bool.{cases_lt}
use Rattle.std.proofs.lemmas.Bool.Decides.{nat_tests}
use Rattle.blink_page.specs.{least_above, next_key, child_for, IsKeyOf}
use Rattle.blink_page.specs.declared.limits.TheConstants.{GREATEST_KEY}
use Rattle.blink_page.proofs.Offered.{child_for-append_prefix, child_for-append_rest}
use Rattle.blink_rest.specs.Chain.{Pages, Cell, InLine, IsChain}
use Rattle.blink_rest.specs.Numbers.{IsMember}
use Rattle.blink_rest.specs.Level.{entries_along, numbers_of, high_keys, IsParentOf}
use Rattle.blink_rest.proofs.LinesOfPages.{stands_of}

-- where a list begins with its child, the next being as it may
child_cases : (key separator child : ℕ) (rest : List (ℕ × ℕ)) → ((key ≤ separator) × (child_for key ((separator, child) ∷ rest) ≡ Some child)) ⊎ ((separator < key) × (child_for key ((separator, child) ∷ rest) ≡ child_for key rest))
child_cases key separator child rest =
    elim (cases_lt separator key) [ inl beyond ↦ inr (beyond, grind (arith, nat_tests)) | inr here ↦ inl (here, grind (arith, nat_tests)) ]

module _ (fan level key : ℕ) where
  -- where separators and children are the high keys and the numbers of a line, the child for a key is the number of
  -- the page that it belongs to
  pub named_child : (entries : List (ℕ × ℕ)) (floor link : Option ℕ) (lower : List Cell) (last_floor last_link : Option ℕ) (c : Cell)
      → map (λ (entry : ℕ × ℕ). entry.0) entries ≡ high_keys lower → map (λ (entry : ℕ × ℕ). entry.1) entries ≡ numbers_of lower
      → InLine fan level floor link lower last_floor last_link → IsMember c lower → IsKeyOf c.page key → child_for key entries ≡ Some c.number
  named_child entries floor link [] last_floor last_link c separators children line stands spans = absurd stands
  named_child [] floor link (x ∷ lower) last_floor last_link c separators children line stands spans = absurd (cc)
  named_child ((separator, child) ∷ rest) floor link (x ∷ lower) last_floor last_link c separators children line (inl same) spans =
      let high : separator ≡ x.page.high = cc in let number : child ≡ x.number = cc in
      let here = ap (λ (y : Cell). y.page.high) same in let below = spans.1 in
      elim (child_cases key separator child rest) [
        | inl found ↦ found.1 ∙ ap Some (number ∙ ap (λ (y : Cell). y.number) (sym same))
        | inr missed ↦ absurd (omega (arith, missed.0))
      ]
  named_child ((separator, child) ∷ rest) floor link (x ∷ lower) last_floor last_link c separators children line (inr later) spans =
      let high : separator ≡ x.page.high = cc in
      let it = stands_of fan level (Some x.page.high) x.page.right lower last_floor last_link c line.4 later in
      let above = it.above in let from = spans.0 in
      elim (child_cases key separator child rest) [
        | inl found ↦ absurd (omega (arith, found.0))
        | inr missed ↦ missed.1 ∙ named_child rest (Some x.page.high) x.page.right lower last_floor last_link c (cc) (cc) line.4 later spans
      ]

  -- each entry names a page of that line: its child is the page's number, its separator the high key, and the separator
  -- before it the floor
  pub named_entry : (before : List (ℕ × ℕ)) (separator child : ℕ) (after : List (ℕ × ℕ)) (floor link : Option ℕ) (lower : List Cell) (last_floor last_link : Option ℕ)
      → map (λ (entry : ℕ × ℕ). entry.0) (before ++ (separator, child) ∷ after) ≡ high_keys lower
      → map (λ (entry : ℕ × ℕ). entry.1) (before ++ (separator, child) ∷ after) ≡ numbers_of lower
      → InLine fan level floor link lower last_floor last_link
      → (c : Cell) × IsMember c lower × (c.number ≡ child) × (c.page.high ≡ separator) × (least_above c.page.floor ≡ next_key (least_above floor) before)
  named_entry [] separator child after floor link [] last_floor last_link separators children line = absurd (cc)
  named_entry [] separator child after floor link (x ∷ lower) last_floor last_link separators children line = (x, inl refl, cc, cc, ap least_above line.1)
  named_entry ((s, other) ∷ before) separator child after floor link [] last_floor last_link separators children line = absurd (cc)
  named_entry ((s, other) ∷ before) separator child after floor link (x ∷ lower) last_floor last_link separators children line =
      let high : x.page.high ≡ s = cc in
      let it = named_entry before separator child after (Some x.page.high) x.page.right lower last_floor last_link (cc) (cc) line.4 in
      (it.0, inr it.1, it.2, it.3, it.4 ∙ ap (λ (n : ℕ). next_key (n + 1) before) high)

  -- the child for a key of a level is that of the page that the key belongs to
  pub line_child : 0 < level → (floor link : Option ℕ) (upper : List Cell) (last_floor last_link : Option ℕ) (d : Cell)
      → InLine fan level floor link upper last_floor last_link → IsMember d upper → IsKeyOf d.page key
      → child_for key (entries_along upper) ≡ child_for key d.page.entries
  line_child inner floor link [] last_floor last_link d line stands spans = absurd stands
  line_child inner floor link (x ∷ upper) last_floor last_link d line (inl same) spans =
      let same_level = line.2 in
      let high = ap (λ (y : Cell). y.page.high) same in let floors = ap (λ (y : Cell). least_above y.page.floor) same in
      let above = spans.0 in let below = spans.1 in
      child_for-append_prefix key (least_above x.page.floor) (x.page.high + 1) x.page.entries (entries_along upper)
      (line.3.inner (omega arith)).last_is_high (omega arith) (omega arith)
      ∙ ap (λ (y : Cell). child_for key y.page.entries) (sym same)
  line_child inner floor link (x ∷ upper) last_floor last_link d line (inr later) spans =
      let it = stands_of fan level (Some x.page.high) x.page.right upper last_floor last_link d line.4 later in
      let above = it.above in let from = spans.0 in
      child_for-append_rest key (least_above x.page.floor) (x.page.high + 1) x.page.entries (entries_along upper) line.3.keys_rise (omega arith)
      ∙ line_child inner (Some x.page.high) x.page.right upper last_floor last_link d line.4 later spans

-- the child for a key of the page that it belongs to, in a chain that names the chain below, is the page there that the
-- key belongs to
pub chain_child : (fan level key : ℕ) (pages : Pages) (leftmost left : ℕ) (upper lower : List Cell) (d c : Cell)
    → IsChain fan pages level leftmost lower → IsChain fan pages (level + 1) left upper → IsParentOf upper lower
    → IsMember d upper → IsKeyOf d.page key → IsMember c lower → IsKeyOf c.page key → child_for key d.page.entries ≡ Some c.number
chain_child fan level key pages leftmost left upper lower d c chain above names stands spans stands_below spans_below =
    sym (line_child fan (level + 1) key (omega arith) None (Some left) upper (Some GREATEST_KEY) None d above.in_line stands spans)
    ∙ named_child fan level key (entries_along upper) None (Some leftmost) lower (Some GREATEST_KEY) None c
    names.separators_are_high_keys names.children_are_pages chain.in_line stands_below spans_below
