-- What a comparison of two levels says, where each is walked along its links.
use Rattle.std.proofs.Common.{◌≡◌, ◌↔◌, IsTrue, Bool, true, false, not, is_some, ℕ, ◌+◌, ◌-◌, ◌<◌, suc, Option, Some, None, List, [], ◌∷◌, ◌++◌, length, take, drop, map, get_or, refl, sym, ap, ◌∙◌, subst, arith, append_assoc, append-nil}
use Rattle.std.proofs.Math.Seq.{drop-cons}
use Rattle.std.proofs.lemmas.List.{take_more, take-append-drop}
use Rattle.blink_page.specs.{least_above, PlainPage}
use Rattle.blink_page.specs.declared.limits.TheConstants.{GREATEST_KEY}
use Rattle.blink_rest.specs.Chain.{Pages, Cell, AreAmong, InLine, IsChain, cell}
use Rattle.blink_rest.specs.Level.{entries_along, high_keys, numbers_of, separators, children, IsParentOf}
use Rattle.blink_rest.specs.Walk.{IsTail, HasTail, names_for, NamesFirst, NamesNone, TailNames, HasChain, HasSomeChain, HasNamedChain, HasNoNamedChain}
use Rattle.blink_rest.proofs.OneListOfLevels.{same_line, same_cell}
use Rattle.blink_rest.proofs.EntriesOfLevel.{entries_along-append}

-- what follows one prefix in the same list is the same
cancel_prefix : {A : Type 0} (prefix xs ys : List A) → prefix ++ xs ≡ prefix ++ ys → xs ≡ ys
cancel_prefix [] xs ys same = same
cancel_prefix (x ∷ prefix) xs ys same = cancel_prefix prefix xs ys (ap (drop 1) same)

names_for-append : (xs ys : List Cell) → names_for (xs ++ ys) ≡ names_for xs ++ names_for ys
names_for-append [] ys = refl
names_for-append (x ∷ xs) ys = ap (λ (es : List (ℕ × ℕ)). (x.page.high, x.number) ∷ es) (names_for-append xs ys)

-- entries are the names of a level exactly if its separators and its children are
pub named_by_parts : (entries : List (ℕ × ℕ)) (lower : List Cell) → map (λ (entry : ℕ × ℕ). entry.0) entries ≡ high_keys lower
    → map (λ (entry : ℕ × ℕ). entry.1) entries ≡ numbers_of lower → entries ≡ names_for lower
named_by_parts [] [] separators children = refl
named_by_parts [] (c ∷ lower) separators children = absurd (cc (separators))
named_by_parts (e ∷ entries) [] separators children = absurd (cc (separators))
named_by_parts ((separator, child) ∷ entries) (c ∷ lower) separators children =
    let rest : entries ≡ names_for lower = named_by_parts entries lower (ap (drop 1) separators) (ap (drop 1) children) in
    let high : separator ≡ c.page.high = ap (λ (xs : List ℕ). get_or xs 0 0) separators in
    let number : child ≡ c.number = ap (λ (xs : List ℕ). get_or xs 0 0) children in
    λ i. (high i, number i) ∷ rest i

separators_of_names : (lower : List Cell) → map (λ (entry : ℕ × ℕ). entry.0) (names_for lower) ≡ high_keys lower
separators_of_names [] = refl
separators_of_names (c ∷ lower) = ap (λ (xs : List ℕ). c.page.high ∷ xs) (separators_of_names lower)

children_of_names : (lower : List Cell) → map (λ (entry : ℕ × ℕ). entry.1) (names_for lower) ≡ numbers_of lower
children_of_names [] = refl
children_of_names (c ∷ lower) = ap (λ (xs : List ℕ). c.number ∷ xs) (children_of_names lower)

pub names_by_entries : (upper lower : List Cell) → entries_along upper ≡ names_for lower → IsParentOf upper lower
names_by_entries upper lower named = record {
  separators_are_high_keys = ap (map (λ (entry : ℕ × ℕ). entry.0)) named ∙ separators_of_names lower;
  children_are_pages = ap (map (λ (entry : ℕ × ℕ). entry.1)) named ∙ children_of_names lower;
}

pub entries_by_names : (upper lower : List Cell) → IsParentOf upper lower → entries_along upper ≡ names_for lower
entries_by_names upper lower names = named_by_parts (entries_along upper) lower names.separators_are_high_keys names.children_are_pages

module _ (fan : ℕ) (pages : Pages) where
  -- the pages from a link on are determined
  pub same_tail : (link : Option ℕ) (cells others : List Cell) → IsTail fan pages link cells → IsTail fan pages link others → cells ≡ others
  same_tail link cells others tail too =
      same_line fan pages tail.level too.level tail.floor too.floor link link cells others (Some GREATEST_KEY) (Some GREATEST_KEY) refl tail.pages_there too.pages_there tail.in_line too.in_line

  -- where the link is to a page, it is the first of them
  pub record IsMore (number : ℕ) (page : PlainPage) (cells : List Cell) : Type 0 where
    pub rest : List Cell
    pub parts : cells ≡ cell number page ∷ rest
    pub tail : IsTail fan pages page.right rest

  pub tail_more : (number : ℕ) (page : PlainPage) (cells : List Cell) → pages number ≡ Some page → IsTail fan pages (Some number) cells → IsMore number page cells
  tail_more number page [] there tail = absurd (cc (tail.in_line.1))
  tail_more number page (c ∷ cells) there tail =
      let numbers : number ≡ c.number = cc (tail.in_line.0) in
      let contents : page ≡ c.page = cc (there, tail.pages_there.0, ap pages numbers) in
      record {
        rest = cells;
        parts = ap (λ (x : Cell). x ∷ cells) (same_cell c (cell number page) (sym numbers) (sym contents));
        tail = record {
          level = tail.level;
          floor = Some c.page.high;
          pages_there = tail.pages_there.1;
          in_line = rw contents tail.in_line.4;
        };
      }

  pub tail_there : (number : ℕ) → HasTail fan pages (Some number) → (page : PlainPage) × (pages number ≡ Some page)
  tail_there number ([], tail) = absurd (cc (tail.in_line.1))
  tail_there number (c ∷ cells, tail) = (c.page, ap pages (cc (tail.in_line.0)) ∙ tail.pages_there.0)

  -- where there is no link, there are none
  pub tail_end : (cells : List Cell) → IsTail fan pages None cells → cells ≡ []
  tail_end [] tail = refl
  tail_end (c ∷ cells) tail = absurd (cc (tail.in_line.0))

  -- the first entries name the first pages
  pub names_nothing : (link : Option ℕ) → HasTail fan pages link → NamesFirst fan pages [] link link
  names_nothing link there = record { prefix = []; rest = there.0; whole = there.1; left = there.1; named = refl }

  -- one entry and one page more
  pub names_more : (entries : List (ℕ × ℕ)) (i : ℕ) (first : Option ℕ) (number : ℕ) (page : PlainPage) → i < length entries
      → NamesFirst fan pages (take i entries) first (Some number) → pages number ≡ Some page → (get_or entries i (0, 0)).0 ≡ page.high → (get_or entries i (0, 0)).1 ≡ number
      → NamesFirst fan pages (take (i + 1) entries) first page.right
  names_more entries i first number page inside so_far there high same =
      let it = tail_more number page so_far.rest there so_far.left in
      record {
        prefix = so_far.prefix ++ cell number page ∷ [];
        rest = it.rest;
        whole = subst (IsTail fan pages first) (ap (λ (xs : List Cell). so_far.prefix ++ xs) it.parts ∙ sym (append_assoc so_far.prefix (cell number page ∷ []) it.rest)) so_far.whole;
        left = it.tail;
        named = take_more entries i (0, 0) inside ∙ (λ j. so_far.named j ++ (high j, same j) ∷ []) ∙ sym (names_for-append so_far.prefix (cell number page ∷ []));
      }

  -- entries that go on with one that is not the next page's name none
  other_first : (entries rest : List (ℕ × ℕ)) (entry : ℕ × ℕ) (first link : Option ℕ)
      → NamesFirst fan pages entries first link
      → ((number : ℕ) (page : PlainPage) → link ≡ Some number → pages number ≡ Some page → entry.0 ≡ page.high → entry.1 ≡ number → ⊥)
      → NamesNone fan pages (entries ++ entry ∷ rest) first
  other_first entries rest entry first link so_far other cells more tail named =
      first_other so_far.rest so_far.left
      (cancel_prefix entries (entry ∷ rest ++ more) (names_for so_far.rest)
      (sym (append_assoc entries (entry ∷ rest) more) ∙ named ∙ ap names_for (same_tail first cells (so_far.prefix ++ so_far.rest) tail so_far.whole)
      ∙ names_for-append so_far.prefix so_far.rest ∙ ap (λ (es : List (ℕ × ℕ)). es ++ names_for so_far.rest) (sym so_far.named)))
    where
      first_other : (left : List Cell) → IsTail fan pages link left → entry ∷ rest ++ more ≡ names_for left → ⊥
      first_other [] left same = absurd (cc (same))
      first_other (c ∷ left) is_left same =
          other c.number c.page is_left.in_line.0 is_left.pages_there.0
          (ap (λ (es : List (ℕ × ℕ)). (get_or es 0 (0, 0)).0) same) (ap (λ (es : List (ℕ × ℕ)). (get_or es 0 (0, 0)).1) same)

  pub names_other : (entries : List (ℕ × ℕ)) (i : ℕ) (first link : Option ℕ) → i < length entries
      → NamesFirst fan pages (take i entries) first link
      → ((number : ℕ) (page : PlainPage) → link ≡ Some number → pages number ≡ Some page → (get_or entries i (0, 0)).0 ≡ page.high → (get_or entries i (0, 0)).1 ≡ number → ⊥)
      → NamesNone fan pages entries first
  names_other entries i first link inside so_far other =
      subst (λ (es : List (ℕ × ℕ)). NamesNone fan pages es first)
      (ap (λ (es : List (ℕ × ℕ)). take i entries ++ es) (sym (drop-cons entries i (0, 0) inside)) ∙ take-append-drop i entries)
      (other_first (take i entries) (drop (suc i) entries) (get_or entries i (0, 0)) first link so_far other)

-- two levels so far: the pages that were met above name those that were met below
pub record Compared (fan : ℕ) (pages : Pages) (upper lower : ℕ) (above below : Option ℕ) : Type 0 where
  pub uppers : List Cell
  pub uppers_left : List Cell
  pub whole_above : IsTail fan pages (Some upper) (uppers ++ uppers_left)
  pub left_above : IsTail fan pages above uppers_left
  pub first : NamesFirst fan pages (entries_along uppers) (Some lower) below

module _ (fan : ℕ) (pages : Pages) (upper lower : ℕ) where
  pub compared_none : HasTail fan pages (Some upper) → HasTail fan pages (Some lower) → Compared fan pages upper lower (Some upper) (Some lower)
  compared_none above below = record {
    uppers = [];
    uppers_left = above.0;
    whole_above = above.1;
    left_above = above.1;
    first = names_nothing fan pages (Some lower) below;
  }

  -- one page more above, which names the next below
  pub compared_more : (number : ℕ) (page : PlainPage) (below after : Option ℕ) → Compared fan pages upper lower (Some number) below → pages number ≡ Some page
      → NamesFirst fan pages page.entries below after → Compared fan pages upper lower page.right after
  compared_more number page below after so_far there next =
      let it = tail_more fan pages number page so_far.uppers_left there so_far.left_above in
      let same : so_far.first.rest ≡ next.prefix ++ next.rest = same_tail fan pages below so_far.first.rest (next.prefix ++ next.rest) so_far.first.left next.whole in
      record {
        uppers = so_far.uppers ++ cell number page ∷ [];
        uppers_left = it.rest;
        whole_above = subst (IsTail fan pages (Some upper)) (ap (λ (xs : List Cell). so_far.uppers ++ xs) it.parts ∙ sym (append_assoc so_far.uppers (cell number page ∷ []) it.rest)) so_far.whole_above;
        left_above = it.tail;
        first = record {
          prefix = so_far.first.prefix ++ next.prefix;
          rest = next.rest;
          whole = subst (IsTail fan pages (Some lower)) (ap (λ (xs : List Cell). so_far.first.prefix ++ xs) same ∙ sym (append_assoc so_far.first.prefix next.prefix next.rest)) so_far.first.whole;
          left = next.left;
          named = entries_along-append so_far.uppers (cell number page ∷ []) ∙ ap (λ (es : List (ℕ × ℕ)). entries_along so_far.uppers ++ es) (append-nil page.entries)
              ∙ (λ i. so_far.first.named i ++ next.named i) ∙ sym (names_for-append so_far.first.prefix next.prefix);
        };
      }

  -- the whole of both levels, what is named so far and what is left
  same_left : (above below : Option ℕ) (so_far : Compared fan pages upper lower above below) → TailNames fan pages upper lower → entries_along so_far.uppers_left ≡ names_for so_far.first.rest
  same_left above below so_far names =
      cancel_prefix (entries_along so_far.uppers) (entries_along so_far.uppers_left) (names_for so_far.first.rest)
      (sym (entries_along-append so_far.uppers so_far.uppers_left)
      ∙ ap entries_along (same_tail fan pages (Some upper) (so_far.uppers ++ so_far.uppers_left) names.uppers so_far.whole_above names.above)
      ∙ names.named ∙ ap names_for (same_tail fan pages (Some lower) names.lowers (so_far.first.prefix ++ so_far.first.rest) names.below so_far.first.whole)
      ∙ names_for-append so_far.first.prefix so_far.first.rest ∙ ap (λ (es : List (ℕ × ℕ)). es ++ names_for so_far.first.rest) (sym so_far.first.named))

  -- where the next page above names none of the next below, the one level doesn't name the other
  pub compared_other : (number : ℕ) (page : PlainPage) (below : Option ℕ) → Compared fan pages upper lower (Some number) below → pages number ≡ Some page
      → NamesNone fan pages page.entries below → TailNames fan pages upper lower → ⊥
  compared_other number page below so_far there none names =
      let it = tail_more fan pages number page so_far.uppers_left there so_far.left_above in
      none so_far.first.rest (entries_along it.rest) so_far.first.left (sym (ap entries_along it.parts) ∙ same_left (Some number) below so_far names)

  -- both levels are over
  pub compared_whole : Compared fan pages upper lower None None → TailNames fan pages upper lower
  compared_whole so_far =
      let no_upper = tail_end fan pages so_far.uppers_left so_far.left_above in
      let no_lower = tail_end fan pages so_far.first.rest so_far.first.left in
      record {
        uppers = so_far.uppers;
        lowers = so_far.first.prefix;
        above = subst (IsTail fan pages (Some upper)) (ap (λ (xs : List Cell). so_far.uppers ++ xs) no_upper ∙ append-nil so_far.uppers) so_far.whole_above;
        below = subst (IsTail fan pages (Some lower)) (ap (λ (xs : List Cell). so_far.first.prefix ++ xs) no_lower ∙ append-nil so_far.first.prefix) so_far.first.whole;
        named = so_far.first.named;
      }

  -- the level above is over, and the one below is not
  pub compared_short : (number : ℕ) → Compared fan pages upper lower None (Some number) → TailNames fan pages upper lower → ⊥
  compared_short number so_far names =
      let it = tail_there fan pages number (so_far.first.rest, so_far.first.left) in
      let more = tail_more fan pages number it.0 so_far.first.rest it.1 so_far.first.left in
      let no_upper = tail_end fan pages so_far.uppers_left so_far.left_above in
      no_names (cell number it.0) more.rest (sym (ap entries_along no_upper) ∙ same_left None (Some number) so_far names ∙ ap names_for more.parts)
    where
      no_names : (c : Cell) (cells : List Cell) → [] ≡ names_for (c ∷ cells) → ⊥
      no_names c cells same = cc (same)

-- how many keys are left from a link on
abbrev pub keys_above : Option PlainPage → ℕ
keys_above None = 0
keys_above (Some page) = GREATEST_KEY + 1 - least_above page.floor

abbrev pub keys_left : Pages → Option ℕ → ℕ
keys_left pages None = 0
keys_left pages (Some number) = keys_above (pages number)

-- they are fewer after one page
pub fewer_left : (fan : ℕ) (pages : Pages) (number : ℕ) (page : PlainPage) → HasTail fan pages (Some number) → pages number ≡ Some page → keys_left pages page.right < keys_left pages (Some number)
fewer_left fan pages number page ([], tail) there = absurd (cc (tail.in_line.1))
fewer_left fan pages number page (c ∷ cells, tail) there =
    let numbers : number ≡ c.number = cc (tail.in_line.0) in
    let contents : page ≡ c.page = cc (there, tail.pages_there.0, ap pages numbers) in
    rw (there, contents) (after cells tail.pages_there.1 tail.in_line.4)
  where
    after : (rest : List Cell) → AreAmong pages rest → InLine fan tail.level (Some c.page.high) c.page.right rest (Some GREATEST_KEY) None
        → keys_left pages c.page.right < GREATEST_KEY + 1 - least_above c.page.floor
    after [] among line = rw line.1 (omega (arith, tail.in_line.3.floor_below_high, tail.in_line.3.high_in_range))
    after (d ∷ rest) among line =
        rw (line.0, among.0, line.1) (omega (arith, tail.in_line.3.floor_below_high, tail.in_line.3.high_in_range))

-- whether both levels are over, where the one above is
pub over : (fan : ℕ) (pages : Pages) (upper lower : ℕ) (below : Option ℕ) (result : Bool) → Compared fan pages upper lower None below → is_some below ≡ not result
    → IsTrue result ↔ TailNames fan pages upper lower
over fan pages upper lower None true so_far is = (λ equal. compared_whole fan pages upper lower so_far, λ names. refl)
over fan pages upper lower None false so_far is = absurd (cc is)
over fan pages upper lower (Some number) true so_far is = absurd (cc is)
over fan pages upper lower (Some number) false so_far is =
    (λ never. absurd (cc never), λ names. absurd (compared_short fan pages upper lower number so_far names))

-- a chain is what its leftmost page's number leads to
pub tail_of_chain : (fan : ℕ) (pages : Pages) (level leftmost : ℕ) (cells : List Cell) → IsChain fan pages level leftmost cells → IsTail fan pages (Some leftmost) cells
tail_of_chain fan pages level leftmost cells chain = record { level = level; floor = None; pages_there = chain.pages_there; in_line = chain.in_line }

module _ (fan : ℕ) (pages : Pages) (level lower upper : ℕ) where
  -- a chain that the one above names
  pub named_chain : (count : ℕ) → HasSomeChain fan pages (level + 1) upper → HasChain fan pages level lower count → TailNames fan pages upper lower → HasNamedChain fan pages level lower upper count
  named_chain count above chain names =
      let same_above = same_tail fan pages (Some upper) names.uppers above.0 names.above (tail_of_chain fan pages (level + 1) upper above.0 above.1) in
      let same = same_tail fan pages (Some lower) names.lowers chain.cells names.below (tail_of_chain fan pages level lower chain.cells chain.chain) in
      record {
        uppers = above.0;
        cells = chain.cells;
        above = above.1;
        chain = chain.chain;
        named = names_by_entries above.0 chain.cells (sym (ap entries_along same_above) ∙ names.named ∙ ap names_for same);
        counted = chain.counted;
      }

  -- where the one doesn't name the other, there is no such chain
  pub no_named_chain : (TailNames fan pages upper lower → ⊥) → HasNoNamedChain fan pages level lower upper
  no_named_chain never uppers cells above chain names =
      never (record {
        uppers = uppers;
        lowers = cells;
        above = tail_of_chain fan pages (level + 1) upper uppers above;
        below = tail_of_chain fan pages level lower cells chain;
        named = entries_by_names uppers cells names;
      })
