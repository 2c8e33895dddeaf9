-- A level that is built over another, page by page.
use Rattle.std.proofs.Common.{◌≡◌, ◌≢◌, ℕ, ◌+◌, ◌-◌, ◌*◌, ◌<◌, ◌≤◌, zero, suc, Option, Some, None, List, [], ◌∷◌, ◌++◌, drop, length, take, refl, sym, ap, subst, ◌∙◌, arith, append_assoc, append-nil, length-append, length-drop}
use Rattle.std.proofs.Math.Seq.{drop-append_seam}
use Rattle.std.proofs.lemmas.List.{length-take-le, take-append-drop, take-append-le}
use Rattle.blink_page.specs.{IsLawfulPage, IsPageNumber, PlainPage}
use Rattle.blink_page.specs.declared.limits.TheConstants.{GREATEST_KEY, MAX_LEVEL, MAX_PAGE}
use Rattle.blink_rest.specs.{InLine, entries_along, names_for}
use Rattle.blink_rest.specs.Chain.{Cell, cell}
use Rattle.blink_rest.proofs.Offered.{InLine-append, entries_along-append}
use Rattle.blink_entries.specs.Packed.{numbered}
use Rattle.blink_entries.specs.Packing.{AddsLevel, HasNumbersOver, IsGroup, IsWhole, link_to, page_over}
use Rattle.blink_entries.proofs.packed.LeavesGrow.{numbered-append}
use Rattle.blink_entries.proofs.packed.PagesOver.{lawful_over, floor_is, names_for-append, parent_of, rest_in_line}

-- what is built so far of a level over the pages from place `first` on, and what is left to be named, from place `begin` on
pub record LevelSoFar (fan level first : ℕ) (old now : List PlainPage) (begin : ℕ) : Type 0 where
  pub upper : List PlainPage
  pub used : List PlainPage
  pub rest : List PlainPage
  pub floor : Option ℕ
  pub parts : now ≡ old ++ upper
  pub lower : drop first old ≡ used ++ rest
  pub begins : begin ≡ first + length used
  pub rest_line : InLine fan (level - 1) floor (link_to (suc begin) rest) (numbered (suc begin) rest) (Some GREATEST_KEY) None
  pub line : InLine fan level None (Some (suc (length old))) (numbered (suc (length old)) upper) floor (link_to (suc (length old + length upper)) rest)
  pub named : entries_along (numbered (suc (length old)) upper) ≡ names_for (numbered (suc first) used)
  pub not_one : length rest ≢ 1
  pub half : length upper + length upper ≤ length used
  pub few : (pages : ℕ) → length (drop first old) ≤ pages * fan → (more : ℕ) × (pages ≡ length upper + more) × (length rest ≤ more * fan)

-- at the start
pub nothing_named : (fan level first : ℕ) (old : List PlainPage) → IsWhole fan (level - 1) (first + 1) (drop first old) → 2 ≤ length (drop first old) → LevelSoFar fan level first old old first
nothing_named fan level first old whole two = record {
  upper = [];
  used = [];
  rest = drop first old;
  floor = None;
  parts = sym (append-nil old);
  lower = refl;
  begins = omega arith;
  rest_line = subst (λ (n : ℕ). InLine fan (level - 1) None (link_to (suc first) (drop first old)) (numbered n (drop first old)) (Some GREATEST_KEY) None) next
      (subst (λ (l : Option ℕ). InLine fan (level - 1) None l (numbered (first + 1) (drop first old)) (Some GREATEST_KEY) None) (ap (λ (n : ℕ). Some n) next ∙ some_link (suc first) (drop first old) two) whole);
  line = (refl, ap (λ (n : ℕ). Some n) (omega arith) ∙ some_link (suc (length old + 0)) (drop first old) two);
  named = refl;
  not_one = λ one. omega (arith, one, two);
  half = omega arith;
  few = λ pages enough. (pages, omega arith, enough);
}
  where
    next : first + 1 ≡ suc first
    next = omega arith

    some_link : (n : ℕ) (pages : List PlainPage) → 2 ≤ length pages → Some n ≡ link_to n pages
    some_link n [] two = absurd (omega arith)
    some_link n (p ∷ pages) two = refl

-- at the end
pub all_named : (fan level first : ℕ) (old now : List PlainPage) (begin : ℕ) → length old ≤ begin → LevelSoFar fan level first old now begin → first ≤ length old → AddsLevel fan level first old now
all_named fan level first old now begin end so_far inside = at so_far.rest so_far.lower so_far.rest_line so_far.line
  where
    at : (rest : List PlainPage) → drop first old ≡ so_far.used ++ rest → InLine fan (level - 1) so_far.floor (link_to (suc begin) rest) (numbered (suc begin) rest) (Some GREATEST_KEY) None
        → InLine fan level None (Some (suc (length old))) (numbered (suc (length old)) so_far.upper) so_far.floor (link_to (suc (length old + length so_far.upper)) rest) → AddsLevel fan level first old now
    at [] lower rest_line line =
        let used : drop first old ≡ so_far.used = lower ∙ append-nil so_far.used in
        let half = so_far.half in let as_many = ap length used in
        record {
          upper = so_far.upper;
          parts = so_far.parts;
          whole = subst (λ (f : Option ℕ). InLine fan level None (Some (suc (length old))) (numbered (suc (length old)) so_far.upper) f None) rest_line.0 line;
          named = parent_of _ _ (so_far.named ∙ ap (λ (ps : List PlainPage). names_for (numbered (suc first) ps)) (sym used));
          half = omega (arith, half, as_many);
          few = λ pages enough. let more = so_far.few pages enough in let is = more.1 in omega (arith, is);
        }
    at (p ∷ rest) lower rest_line line = absurd (
        let all = ap length lower ∙ length-append so_far.used (p ∷ rest) in let begins = so_far.begins in
        omega (arith, all, begins, end, inside, length-drop first old)
        )

-- one page more over a group of the pages that are left
module _ (fan level first : ℕ) (old now : List PlainPage) (begin taken : ℕ) (so_far : LevelSoFar fan level first old now begin) (is_group : IsGroup fan (length so_far.rest) taken)
    (group rest : List PlainPage) (is_rest : so_far.rest ≡ group ++ rest) (is_taken : length group ≡ taken) (inner : 1 ≤ level) (most_levels : level ≤ MAX_LEVEL)
    (inside : first ≤ length old) (numbers : HasNumbersOver fan first old) where
  abbrev next : ℕ
  next = suc (suc (length old + length so_far.upper))

  abbrev line_here : InLine fan (level - 1) so_far.floor (link_to (suc begin) (group ++ rest)) (numbered (suc begin) (group ++ rest)) (Some GREATEST_KEY) None
  line_here = subst (λ (ps : List PlainPage). InLine fan (level - 1) so_far.floor (link_to (suc begin) ps) (numbered (suc begin) ps) (Some GREATEST_KEY) None) is_rest so_far.rest_line

  -- the pages that are enough are one more than those that are enough for the rest
  enough_left : (pages : ℕ) → length (drop first old) ≤ pages * fan → (more : ℕ) × (pages ≡ length so_far.upper + suc more) × (length rest ≤ more * fan)
  enough_left pages enough = by (so_far.few pages enough)
    where
      by : ((more : ℕ) × (pages ≡ length so_far.upper + more) × (length so_far.rest ≤ more * fan)) → (more : ℕ) × (pages ≡ length so_far.upper + suc more) × (length rest ≤ more * fan)
      by (zero, is, all) = absurd (let two = is_group.two in let within = is_group.inside in omega (arith, all, two, within))
      by (suc more, is, all) =
          let left = is_group.few more all in
          let parts = ap length is_rest ∙ length-append group rest in
          (more, is, omega (arith, left, parts, is_taken))

  pub number_left : 0 < length rest → IsPageNumber next
  number_left some = by (enough_left numbers.upper numbers.enough)
    where
      by : ((more : ℕ) × (numbers.upper ≡ length so_far.upper + suc more) × (length rest ≤ more * fan)) → IsPageNumber next
      by (zero, is, all) = absurd (omega (arith, all, some))
      by (suc more, is, all) = let range = numbers.in_range in (omega arith, omega (arith, is, range))

  pub children_numbered : suc begin + length group ≤ MAX_PAGE + 1
  children_numbered =
      let all = ap length so_far.lower ∙ length-append so_far.used so_far.rest in
      let begins = so_far.begins in let within = is_group.inside in let range = numbers.in_range in
      omega (arith, all, begins, within, is_taken, range, inside, length-drop first old)

  abbrev over : PlainPage
  over = page_over level (suc begin) (link_to next rest) group

  pub lawful_next : IsLawfulPage fan over
  lawful_next =
      let two = is_group.two in let most = is_group.at_most_fan in
      lawful_over fan level (level - 1) so_far.floor (suc begin) next group rest line_here inner most_levels (omega (arith, two, is_taken)) (omega (arith, most, is_taken)) (omega arith) children_numbered number_left

  pub one_page_more : LevelSoFar fan level first old (now ++ over ∷ []) (begin + taken)
  one_page_more =
      let two = is_group.two in let most = is_group.at_most_fan in
      let begins = so_far.begins in let half = so_far.half in
      let at : suc begin + length group ≡ suc (begin + taken) = omega (arith, is_taken) in
      let number : suc (length old) + length so_far.upper ≡ suc (length old + length so_far.upper) = omega arith in
      let rest_after = rest_in_line fan level (level - 1) so_far.floor (suc begin) next group rest line_here inner most_levels (omega (arith, two, is_taken)) (omega (arith, most, is_taken)) (omega arith) children_numbered number_left in
      let its_floor = floor_is fan level (level - 1) so_far.floor (suc begin) next group rest line_here inner most_levels (omega (arith, two, is_taken)) (omega (arith, most, is_taken)) (omega arith) children_numbered number_left in
      let some_here : link_to (suc (length old + length so_far.upper)) so_far.rest ≡ Some (suc (length old) + length so_far.upper) = some_link so_far.rest (let within = is_group.inside in omega (arith, two, within)) in
      let last : Option ℕ = Some over.high in
      record {
        upper = so_far.upper ++ over ∷ [];
        used = so_far.used ++ group;
        rest = rest;
        floor = Some over.high;
        parts = ap (λ (ps : List PlainPage). ps ++ over ∷ []) so_far.parts ∙ append_assoc old so_far.upper (over ∷ []);
        lower = so_far.lower ∙ ap (λ (ps : List PlainPage). so_far.used ++ ps) is_rest ∙ sym (append_assoc so_far.used group rest);
        begins = omega (arith, begins, is_taken, length-append so_far.used group);
        rest_line = subst (λ (n : ℕ). InLine fan (level - 1) (Some over.high) (link_to n rest) (numbered n rest) (Some GREATEST_KEY) None) at rest_after;
        line =
            let link : link_to next rest ≡ link_to (suc (length old + length (so_far.upper ++ over ∷ []))) rest
            = ap (λ (n : ℕ). link_to n rest) (omega (arith, length-append so_far.upper (over ∷ []))) in
            subst (λ (cells : List Cell). InLine fan level None (Some (suc (length old))) cells (Some over.high) (link_to (suc (length old + length (so_far.upper ++ over ∷ []))) rest))
            (sym (numbered-append (suc (length old)) so_far.upper (over ∷ [])))
            (InLine-append fan level None (Some (suc (length old))) (numbered (suc (length old)) so_far.upper) (cell (suc (length old) + length so_far.upper) over ∷ []) so_far.floor _ _ _ so_far.line
            (some_here, its_floor, refl, lawful_next, (refl, link)));
        named =
            ap entries_along (numbered-append (suc (length old)) so_far.upper (over ∷ []))
            ∙ entries_along-append (numbered (suc (length old)) so_far.upper) (cell (suc (length old) + length so_far.upper) over ∷ [])
            ∙ ap (λ (es : List (ℕ × ℕ)). es ++ (names_for (numbered (suc begin) group) ++ [])) so_far.named
            ∙ ap (λ (es : List (ℕ × ℕ)). names_for (numbered (suc first) so_far.used) ++ es) (append-nil (names_for (numbered (suc begin) group)))
            ∙ ap (λ (n : ℕ). names_for (numbered (suc first) so_far.used) ++ names_for (numbered n group)) (omega (arith, begins))
            ∙ sym (names_for-append (numbered (suc first) so_far.used) (numbered (suc first + length so_far.used) group))
            ∙ ap names_for (sym (numbered-append (suc first) so_far.used group));
        not_one = λ one. let left = is_group.two_left in let parts = ap length is_rest ∙ length-append group rest in left (omega (arith, one, parts, is_taken));
        half = omega (arith, half, two, is_taken, length-append so_far.upper (over ∷ []), length-append so_far.used group);
        few = λ pages enough. let it = enough_left pages enough in let is = it.1 in (it.0, omega (arith, is, length-append so_far.upper (over ∷ [])), it.2);
      }
    where
      some_link : (pages : List PlainPage) → 0 < length pages → link_to (suc (length old + length so_far.upper)) pages ≡ Some (suc (length old) + length so_far.upper)
      some_link [] some = absurd (omega arith)
      some_link (p ∷ pages) some = ap (λ (n : ℕ). Some n) (omega arith)

-- the link that the code writes
pub link_is : (next end number other : ℕ) (right : Option ℕ) (rest : List PlainPage) → length rest + next ≡ end → number ≡ other → (next < end → right ≡ Some number) → (end ≤ next → right ≡ None) → right ≡ link_to other rest
link_is next end number other right [] left same more last = last (omega (arith, left))
link_is next end number other right (p ∷ rest) left same more last = more (omega (arith, left)) ∙ ap (λ (n : ℕ). Some n) same

-- the slice that the code takes is the first of the pages that are left
pub group_is : (fan level first : ℕ) (old now : List PlainPage) (begin taken : ℕ) (so_far : LevelSoFar fan level first old now begin) → first ≤ length old → taken ≤ length so_far.rest
    → take (begin + taken - begin) (drop begin now) ≡ take taken so_far.rest
group_is fan level first old now begin taken so_far inside within =
    let begins = so_far.begins in
    let prefix = take first old ++ so_far.used in
    let count : length prefix ≡ begin = omega (arith, begins, length-append (take first old) so_far.used, length-take-le first old inside) in
    let whole : now ≡ prefix ++ (so_far.rest ++ so_far.upper)
    = so_far.parts ∙ ap (λ (ps : List PlainPage). ps ++ so_far.upper) (sym (take-append-drop first old) ∙ ap (λ (ps : List PlainPage). take first old ++ ps) so_far.lower ∙ sym (append_assoc (take first old) so_far.used so_far.rest))
    ∙ append_assoc prefix so_far.rest so_far.upper in
    let dropped : drop begin now ≡ so_far.rest ++ so_far.upper
    = ap (drop begin) whole ∙ ap (λ (n : ℕ). drop n (prefix ++ (so_far.rest ++ so_far.upper))) (sym count) ∙ drop-append_seam prefix (so_far.rest ++ so_far.upper) in
    let some : begin + taken - begin ≡ taken = omega arith in
    ap (λ (n : ℕ). take n (drop begin now)) some ∙ ap (take taken) dropped ∙ take-append-le taken so_far.rest so_far.upper within

-- the pages that are left, by the places in the code
pub left_is : (fan level first : ℕ) (old now : List PlainPage) (begin : ℕ) (so_far : LevelSoFar fan level first old now begin) → first ≤ length old → length so_far.rest + begin ≡ length old
left_is fan level first old now begin so_far inside =
    let all = ap length so_far.lower ∙ length-append so_far.used so_far.rest in let begins = so_far.begins in
    omega (arith, all, begins, inside, length-drop first old)

-- what a step of the code does
module _ (fan level first : ℕ) (old now : List PlainPage) (begin end taken : ℕ) (so_far : LevelSoFar fan level first old now begin) (ends : end ≡ length old) (group : IsGroup fan (end - begin) taken)
    (inner : 1 ≤ level) (most_levels : level ≤ MAX_LEVEL) (inside : first ≤ length old) (numbers : HasNumbersOver fan first old) where
  its_group : IsGroup fan (length so_far.rest) taken
  its_group = let left = left_is fan level first old now begin so_far inside in subst (λ (n : ℕ). IsGroup fan n taken) (omega (arith, left, ends)) group

  parted : so_far.rest ≡ take taken so_far.rest ++ drop taken so_far.rest
  parted = sym (take-append-drop taken so_far.rest)

  as_many : length (take taken so_far.rest) ≡ taken
  as_many = length-take-le taken so_far.rest its_group.inside

  pub number_of_next : (count : ℕ) → count ≡ length now → begin + taken < end → count + 2 ≤ MAX_PAGE
  number_of_next count is more =
      let left = left_is fan level first old now begin so_far inside in
      let parts = ap length so_far.parts ∙ length-append old so_far.upper in
      let number = number_left fan level first old now begin taken so_far its_group (take taken so_far.rest) (drop taken so_far.rest) parted as_many inner most_levels inside numbers
      (omega (arith, left, ends, more, length-drop taken so_far.rest)) in
      let most = number.1 in
      omega (arith, most, parts, is)

  module _ (count : ℕ) (is : count ≡ length now) (right : Option ℕ) (more : begin + taken < end → right ≡ Some (count + 2)) (last : end ≤ begin + taken → right ≡ None) where
    page_is : page_over level (begin + 1) right (take (begin + taken - begin) (drop begin now)) ≡ over fan level first old now begin taken so_far its_group (take taken so_far.rest) (drop taken so_far.rest) parted as_many inner most_levels inside numbers
    page_is =
        let left = left_is fan level first old now begin so_far inside in
        let parts = ap length so_far.parts ∙ length-append old so_far.upper in
        let link = link_is (begin + taken) end (count + 2) (suc (suc (length old + length so_far.upper))) right (drop taken so_far.rest)
        (let within = its_group.inside in omega (arith, left, ends, within, length-drop taken so_far.rest)) (omega (arith, is, parts)) more last in
        let child : begin + 1 ≡ suc begin = omega arith in
        ap (λ (n : ℕ). page_over level n right (take (begin + taken - begin) (drop begin now))) child
        ∙ ap (λ (l : Option ℕ). page_over level (suc begin) l (take (begin + taken - begin) (drop begin now))) link
        ∙ ap (λ (ps : List PlainPage). page_over level (suc begin) (link_to (suc (suc (length old + length so_far.upper))) (drop taken so_far.rest)) ps) (group_is fan level first old now begin taken so_far inside its_group.inside)

    pub page_lawful : IsLawfulPage fan (page_over level (begin + 1) right (take (begin + taken - begin) (drop begin now)))
    page_lawful = subst (IsLawfulPage fan) (sym page_is)
        (lawful_next fan level first old now begin taken so_far its_group (take taken so_far.rest) (drop taken so_far.rest) parted as_many inner most_levels inside numbers)

    pub after_step : (new : List PlainPage) → new ≡ now ++ page_over level (begin + 1) right (take (begin + taken - begin) (drop begin now)) ∷ [] → LevelSoFar fan level first old new (begin + taken)
    after_step new pushed = subst (λ (ps : List PlainPage). LevelSoFar fan level first old ps (begin + taken)) (sym (pushed ∙ ap (λ (p : PlainPage). now ++ p ∷ []) page_is))
        (one_page_more fan level first old now begin taken so_far its_group (take taken so_far.rest) (drop taken so_far.rest) parted as_many inner most_levels inside numbers)
