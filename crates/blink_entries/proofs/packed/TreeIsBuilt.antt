-- The levels of a tree that is built from its leaves up: with a level more, and once the top level has one page.
use Rattle.std.proofs.Common.{◌≡◌, ℕ, ◌+◌, ◌-◌, ◌*◌, ◌<◌, ◌≤◌, zero, suc, Option, Some, None, List, [], ◌∷◌, ◌++◌, inl, inr, drop, length, refl, sym, ap, subst, ◌∙◌, arith, append_assoc, append-nil, length-append, length-drop}
use Rattle.std.specs.List.{flat_map, sum}
use Rattle.std.proofs.Math.Seq.{drop-append_seam}
use Rattle.std.proofs.lemmas.Bool.{cases_lt}
use Rattle.blink_page.specs.{PlainPage}
use Rattle.blink_page.specs.declared.limits.TheConstants.{GREATEST_KEY, MAX_PAGE}
use Rattle.blink_rest.specs.{EachIsParent, InLine, IsParentOf}
use Rattle.blink_rest.specs.Chain.{Cell, cell}
use Rattle.blink_rest.proofs.Offered.{InLine-append}
use Rattle.blink_entries.specs.Packed.{numbered}
use Rattle.blink_entries.specs.Packing.{AddsLevel, AreBuilt, AreEnough, AreLeaves, AreLines, HasNumbersAbove, HasNumbersOver, IsWhole, entries_in}
use Rattle.blink_entries.proofs.packed.FewestPages.{sum-cons}
use Rattle.blink_entries.proofs.packed.LeavesGrow.{entries_along-numbered, numbered-append}

-- a level more behind the last
lines_more : (fan level leftmost : ℕ) (prime : List ℕ) (levels : List (List Cell)) (cells : List Cell) → AreLines fan level prime levels
    → InLine fan (level + length levels) None (Some leftmost) cells (Some GREATEST_KEY) None → AreLines fan level (prime ++ leftmost ∷ []) (levels ++ cells ∷ [])
lines_more fan level leftmost [] [] cells lines line = (subst (λ (n : ℕ). InLine fan n None (Some leftmost) cells (Some GREATEST_KEY) None) (omega arith) line, tt)
lines_more fan level leftmost [] (lower ∷ levels) cells lines line = absurd lines
lines_more fan level leftmost (left ∷ prime) [] cells lines line = absurd lines
lines_more fan level leftmost (left ∷ prime) (lower ∷ levels) cells lines line =
    (lines.0, lines_more fan (level + 1) leftmost prime levels cells lines.1 (subst (λ (n : ℕ). InLine fan n None (Some leftmost) cells (Some GREATEST_KEY) None) (omega arith) line))

parents_more : (levels : List (List Cell)) (lower upper : List Cell) → EachIsParent (levels ++ lower ∷ []) → IsParentOf upper lower → EachIsParent ((levels ++ lower ∷ []) ++ upper ∷ [])
parents_more [] lower upper named names = (names, tt)
parents_more (cells ∷ []) lower upper named names = (named.0, (names, tt))
parents_more (cells ∷ next ∷ levels) lower upper named names = (named.0, parents_more (next ∷ levels) lower upper named.1 names)

joined_more : (levels : List (List Cell)) (cells : List Cell) → flat_map (λ (cs : List Cell). cs) (levels ++ cells ∷ []) ≡ flat_map (λ (cs : List Cell). cs) levels ++ cells
joined_more [] cells = append-nil cells
joined_more (lower ∷ levels) cells = ap (λ (cs : List Cell). lower ++ cs) (joined_more levels cells) ∙ sym (append_assoc lower (flat_map (λ (cs : List Cell). cs) levels) cells)

-- a number doubled so many times
pub doubled : ℕ → ℕ → ℕ
doubled zero n = n
doubled (suc times) n = doubled times (n + n)

doubled_rises : (times n m : ℕ) → n ≤ m → doubled times n ≤ doubled times m
unfolding doubled
doubled_rises zero n m below = below
doubled_rises (suc times) n m below = doubled_rises times (n + n) (m + m) (omega arith)

doubled_more : (times n : ℕ) → n ≤ doubled times n
unfolding doubled
doubled_more zero n = omega arith
doubled_more (suc times) n = let more = doubled_more times (n + n) in omega (arith, more)

doubled_again : (times more n : ℕ) → doubled (times + more) n ≡ doubled more (doubled times n)
unfolding doubled
doubled_again zero more n = let is : 0 + more ≡ more = omega arith in ap (λ (k : ℕ). doubled k n) is
doubled_again (suc times) more n =
    let is : suc times + more ≡ suc (times + more) = omega arith in
    ap (λ (k : ℕ). doubled k n) is ∙ doubled_again times more (n + n)

doubled_19 : doubled 19 2 ≡ 1048576
unfolding doubled
doubled_19 = refl

-- two pages doubled so often are too many
pub few_times : (times n : ℕ) → 2 ≤ n → doubled times n ≤ MAX_PAGE → times < 19
few_times times n two bound = elim (cases_lt times 19) [
  | inl below ↦ below
  | inr above ↦ absurd (
      let is : 19 + (times - 19) ≡ times = omega (arith, above) in
      let more = doubled_more (times - 19) (doubled 19 n) in
      let again = doubled_again 19 (times - 19) n in
      let same : doubled (19 + (times - 19)) n ≡ doubled times n = ap (λ (k : ℕ). doubled k n) is in
      let least : doubled 19 2 ≤ doubled 19 n = doubled_rises 19 2 n two in
      let limit = doubled_19 in
      omega (arith, more, again, same, least, limit, bound)
      )
]

-- the levels so far are not too many, nor their pages
pub record IsUnderWay (fan : ℕ) (prime : List ℕ) (pages : List PlainPage) (entries : List (ℕ × ℕ)) (count level first : ℕ) : Type 0 where
  pub built : AreBuilt fan prime pages entries level first
  pub named : length prime ≡ level + 1
  pub halves : doubled level (length pages - first) ≤ count
  pub inside : first < length pages
  pub enough : (above : List ℕ) → AreEnough fan count above → (left : List ℕ) × AreEnough fan (length pages - first) left × (length pages + sum left ≤ count + sum above)

-- the leaves are the first
pub at_leaves : (fan : ℕ) (pages : List PlainPage) → AreLeaves fan pages → IsUnderWay fan (1 ∷ []) pages (entries_in pages) (length pages) 0 0
unfolding doubled
at_leaves fan pages leaves =
    let whole : IsWhole fan 0 1 pages = whole_leaves in
    record {
      built = record {
        leaves = numbered 1 pages;
        between = [];
        below = [];
        top = pages;
        beneath = [];
        from_leaves = refl;
        joined = entries_along-numbered 1 pages;
        parts = refl;
        begins = refl;
        depth = refl;
        lines = (whole, tt);
        named = tt;
        in_order = append-nil (numbered 1 pages);
      };
      named = refl;
      halves = omega arith;
      inside = let parts = ap length leaves.parts in omega (arith, parts, length-append leaves.before (leaves.last ∷ []));
      enough = λ above enough. (above, subst (λ (n : ℕ). AreEnough fan n above) (omega arith) enough, omega arith);
    }
  where
    last_right : (right : Option ℕ) → (leaves.last.right ≡ right) → (leaves.last.high ≡ GREATEST_KEY) → leaves.last.right ≡ None
    last_right None is greatest = is
    last_right (Some n) is greatest = absurd (let none = leaves.lawful.right_unless_last.1 greatest in cc)

    whole_leaves : InLine fan 0 None (Some 1) (numbered 1 pages) (Some GREATEST_KEY) None
    whole_leaves =
        let here : Some (suc (length leaves.before)) ≡ Some (1 + length leaves.before) = ap (λ (n : ℕ). Some n) (omega arith) in
        subst (λ (cells : List Cell). InLine fan 0 None (Some 1) cells (Some GREATEST_KEY) None) (sym (ap (numbered 1) leaves.parts ∙ numbered-append 1 leaves.before (leaves.last ∷ [])))
        (InLine-append fan 0 None (Some 1) (numbered 1 leaves.before) (cell (1 + length leaves.before) leaves.last ∷ []) leaves.last.floor (Some (suc (length leaves.before))) _ _ leaves.line
        (here, refl, leaves.is_leaf, leaves.lawful, (ap (λ (n : ℕ). Some n) leaves.is_last, last_right leaves.last.right refl leaves.is_last)))

module _ (fan : ℕ) (prime : List ℕ) (pages : List PlainPage) (entries : List (ℕ × ℕ)) (count level first : ℕ) (so_far : IsUnderWay fan prime pages entries count level first) where
  -- the top level
  pub top_is : drop first pages ≡ so_far.built.top
  top_is = ap (drop first) so_far.built.parts ∙ ap (λ (n : ℕ). drop n (so_far.built.beneath ++ so_far.built.top)) (sym so_far.built.begins) ∙ drop-append_seam so_far.built.beneath so_far.built.top

  pub top_count : length (drop first pages) ≡ length pages - first
  top_count = omega (arith, length-drop first pages)

  top_line : (level' : ℕ) (prime' : List ℕ) (below : List (List Cell)) → AreLines fan level' prime' (below ++ numbered (suc first) so_far.built.top ∷ []) → (leftmost : ℕ) × InLine fan (level' + length below) None (Some leftmost) (numbered (suc first) so_far.built.top) (Some GREATEST_KEY) None
  top_line level' [] [] lines = absurd lines
  top_line level' (left ∷ prime') [] lines = (left, subst (λ (n : ℕ). InLine fan n None (Some left) (numbered (suc first) so_far.built.top) (Some GREATEST_KEY) None) (omega arith) lines.0)
  top_line level' [] (cells ∷ below) lines = absurd lines
  top_line level' (left ∷ prime') (cells ∷ below) lines =
      let it = top_line (level' + 1) prime' below lines.1 in
      (it.0, subst (λ (n : ℕ). InLine fan n None (Some it.0) (numbered (suc first) so_far.built.top) (Some GREATEST_KEY) None) (omega arith) it.1)

  pub top_whole : IsWhole fan level (first + 1) (drop first pages)
  top_whole =
      let it = top_line 0 prime so_far.built.below so_far.built.lines in
      let next : suc first ≡ first + 1 = omega arith in
      let depth = so_far.built.depth in
      subst (λ (ps : List PlainPage). IsWhole fan level (first + 1) ps) (sym top_is)
      (subst (λ (n : ℕ). InLine fan level None (Some n) (numbered n so_far.built.top) (Some GREATEST_KEY) None) next
      (leads so_far.built.top it.0 (subst (λ (n : ℕ). InLine fan n None (Some it.0) (numbered (suc first) so_far.built.top) (Some GREATEST_KEY) None) (omega (arith, depth)) it.1)))
    where
      leads : (top : List PlainPage) (leftmost : ℕ) → InLine fan level None (Some leftmost) (numbered (suc first) top) (Some GREATEST_KEY) None → IsWhole fan level (suc first) top
      leads [] leftmost line = absurd (let none = line.0 in cc)
      leads (p ∷ top) leftmost line = (refl, line.1, line.2, line.3, line.4)

  -- a level more
  module _ (new : List PlainPage) (added : AddsLevel fan (level + 1) first pages new) where
    pub one_level_more : IsUnderWay fan (prime ++ suc (length pages) ∷ []) new entries count (level + 1) (length pages)
    unfolding doubled
    one_level_more =
        let built = so_far.built in
        let parts = added.parts in
        let long = ap length parts ∙ length-append pages added.upper in
        let half = added.half in
        let top = top_count in
        let depth = built.depth in
        let all = built.below ++ numbered (suc first) built.top ∷ [] in
        let deep : length all ≡ level + 1 = omega (arith, depth, length-append built.below (numbered (suc first) built.top ∷ [])) in
        let upper_count : length new - length pages ≡ length added.upper = omega (arith, long) in
        let twice : length added.upper + length added.upper ≤ length pages - first = omega (arith, half, top) in
        record {
          built = record {
            leaves = built.leaves;
            between = built.between ++ numbered (suc (length pages)) added.upper ∷ [];
            below = all;
            top = added.upper;
            beneath = pages;
            from_leaves = ap (λ (ls : List (List Cell)). ls ++ numbered (suc (length pages)) added.upper ∷ []) built.from_leaves;
            joined = built.joined;
            parts = parts;
            begins = refl;
            depth = deep;
            lines = lines_more fan 0 (suc (length pages)) prime all (numbered (suc (length pages)) added.upper) built.lines
                (subst (λ (n : ℕ). InLine fan n None (Some (suc (length pages))) (numbered (suc (length pages)) added.upper) (Some GREATEST_KEY) None) (omega (arith, deep)) added.whole);
            named = parents_more built.below (numbered (suc first) built.top) (numbered (suc (length pages)) added.upper) built.named
                (subst (λ (ps : List PlainPage). IsParentOf (numbered (suc (length pages)) added.upper) (numbered (suc first) ps)) top_is added.named);
            in_order = joined_more all (numbered (suc (length pages)) added.upper)
                ∙ ap (λ (cs : List Cell). cs ++ numbered (suc (length pages)) added.upper) built.in_order
                ∙ ap (λ (n : ℕ). numbered 1 pages ++ numbered n added.upper) (omega arith)
                ∙ sym (numbered-append 1 pages added.upper) ∙ ap (numbered 1) (sym parts);
          };
          named = let named = so_far.named in omega (arith, named, length-append prime (suc (length pages) ∷ []));
          halves =
              let halves = so_far.halves in
              let rises = doubled_rises level (length added.upper + length added.upper) (length pages - first) twice in
              let up : level + 1 ≡ suc level = omega arith in
              let here : doubled (level + 1) (length new - length pages) ≡ doubled level (length added.upper + length added.upper)
              = ap (λ (n : ℕ). doubled (level + 1) n) upper_count ∙ ap (λ (n : ℕ). doubled n (length added.upper)) up in
              omega (arith, halves, rises, here);
          inside = let some = some_above added.upper added.whole in omega (arith, long, some);
          enough = λ above enough. next_enough (so_far.enough above enough);
        }
      where
        some_above : (upper : List PlainPage) → InLine fan (level + 1) None (Some (suc (length pages))) (numbered (suc (length pages)) upper) (Some GREATEST_KEY) None → 0 < length upper
        some_above [] line = absurd (let none = line.0 in cc)
        some_above (p ∷ upper) line = omega arith

        fewer : (n m : ℕ) (above : List ℕ) → n ≤ m → AreEnough fan m above → AreEnough fan n above
        fewer n m [] below enough = omega (arith, below, enough)
        fewer n m (a ∷ above) below enough = (let most = enough.0 in omega (arith, below, most), enough.1)

        next_enough : {all : ℕ} → ((left : List ℕ) × AreEnough fan (length pages - first) left × (length pages + sum left ≤ all)) → (left : List ℕ) × AreEnough fan (length new - length pages) left × (length new + sum left ≤ all)
        next_enough ([], enough, within) =
            let some = so_far.inside in let half = added.half in let top = top_count in let long = ap length added.parts ∙ length-append pages added.upper in
            let above = some_above added.upper added.whole in
            absurd (omega (arith, enough, half, top, above))
        next_enough (a ∷ left, enough, within) =
            let most = enough.0 in let top = top_count in
            let few = added.few a (omega (arith, most, top)) in
            let long = ap length added.parts ∙ length-append pages added.upper in
            let total : sum (a ∷ left) ≡ a + sum left = sum-cons a left in
            (left, fewer (length new - length pages) a left (omega (arith, few, long)) enough.1, omega (arith, within, long, few, total))

  -- the room above
  pub numbers_over : HasNumbersAbove fan count → 2 ≤ length pages - first → HasNumbersOver fan first pages
  numbers_over has two = by (so_far.enough has.above has.enough)
    where
      by : ((left : List ℕ) × AreEnough fan (length pages - first) left × (length pages + sum left ≤ count + sum has.above)) → HasNumbersOver fan first pages
      by ([], enough, within) = absurd (omega (arith, enough, two))
      by (a ∷ left, enough, within) =
          let most = enough.0 in let top = top_count in let range = has.in_range in
          let total : sum (a ∷ left) ≡ a + sum left = sum-cons a left in
          record { upper = a; enough = omega (arith, most, top); in_range = omega (arith, within, total, range) }

  pub few_levels : HasNumbersAbove fan count → 2 ≤ length pages - first → level < 19
  few_levels has two =
      let halves = so_far.halves in let range = has.in_range in
      few_times level (length pages - first) two (omega (arith, halves, range))

-- there is a number for the first page of a level more
pub next_number : (fan first : ℕ) (pages : List PlainPage) → HasNumbersOver fan first pages → 2 ≤ length (drop first pages) → length pages + 1 ≤ MAX_PAGE
next_number fan first pages has two = by has.upper has.enough has.in_range
  where
    by : (upper : ℕ) → length (drop first pages) ≤ upper * fan → length pages + upper ≤ MAX_PAGE → length pages + 1 ≤ MAX_PAGE
    by zero enough range = absurd (omega (arith, enough, two))
    by (suc upper) enough range = omega (arith, range)
