-- A line of pages with other numbers is a line.
use Rattle.std.proofs.Common.{◌≡◌, ℕ, ◌+◌, ◌<◌, ◌≤◌, zero, suc, Option, Some, None, List, [], ◌∷◌, ◌++◌, length, map, refl, ap, sym, ◌∙◌, arith, append_assoc, length-append}
use Rattle.std.specs.Prelude.{IfSome, slice_get}
use Rattle.std.proofs.lemmas.List.{map-append}
use Rattle.blink_page.specs.declared.limits.TheConstants.{MAX_PAGE}
use Rattle.blink_page.specs.{IsPageNumber, PlainPage}
use Rattle.blink_store.specs.{PlainStore, page_of}
use Rattle.blink_rest.specs.{AreAmong, InLine, entries_along, high_keys, numbers_of, separators}
use Rattle.blink_rest.specs.Chain.{Cell}
use Rattle.blink_rest.specs.Level.{children}
use Rattle.blink_live.specs.Renumbered.{cells_anew, child_count, entries_anew, link_anew, numbers_from, page_anew, pages_in}
use Rattle.blink_live.proofs.gathered.RenumberedPageIsLawful.{child_count-append, child_count-inner, children_in_row, lawful-page_anew, separators-entries_anew}

-- numbers in a row in two parts
pub numbers_from-add : (first n m : ℕ) → numbers_from first (n + m) ≡ numbers_from first n ++ numbers_from (first + n) m
numbers_from-add first zero m =
    let none : zero + m ≡ m = omega arith in
    let at : first ≡ first + zero = omega arith in
    ap (numbers_from first) none ∙ ap (λ (k : ℕ). numbers_from k m) at
numbers_from-add first (suc n) m =
    let count : suc n + m ≡ suc (n + m) = omega arith in
    let at : suc first + n ≡ first + suc n = omega arith in
    ap (numbers_from first) count
    ∙ ap (λ (ns : List ℕ). first ∷ ns) (numbers_from-add (suc first) n m)
    ∙ ap (λ (k : ℕ). first ∷ numbers_from (suc first) n ++ numbers_from k m) at

-- a page after a number of others
pub slice_get-after : {X : Type 0} (before : List X) (x : X) (after : List X) → slice_get (before ++ x ∷ after) (length before) ≡ Some x
slice_get-after [] x after = refl
slice_get-after (y ∷ before) x after = slice_get-after before x after

-- as many pages, with the numbers from the first on, and the same high keys
pub length-cells_anew : (number child : ℕ) (cells : List Cell) → length (cells_anew number child cells) ≡ length cells
length-cells_anew number child [] = refl
length-cells_anew number child (c ∷ cells) = ap suc (length-cells_anew (suc number) (child + child_count c.page.level c.page.entries) cells)

pub numbers-cells_anew : (number child : ℕ) (cells : List Cell) → numbers_of (cells_anew number child cells) ≡ numbers_from number (length cells)
numbers-cells_anew number child [] = refl
numbers-cells_anew number child (c ∷ cells) =
    ap (λ (ns : List ℕ). number ∷ ns) (numbers-cells_anew (suc number) (child + child_count c.page.level c.page.entries) cells)

pub high_keys-cells_anew : (number child : ℕ) (cells : List Cell) → high_keys (cells_anew number child cells) ≡ high_keys cells
high_keys-cells_anew number child [] = refl
high_keys-cells_anew number child (c ∷ cells) =
    ap (λ (ks : List ℕ). c.page.high ∷ ks) (high_keys-cells_anew (suc number) (child + child_count c.page.level c.page.entries) cells)

pub separators-cells_anew : (number child : ℕ) (cells : List Cell) → separators (cells_anew number child cells) ≡ separators cells
separators-cells_anew number child [] = refl
separators-cells_anew number child (c ∷ cells) =
    let key : ℕ × ℕ → ℕ = λ (e : ℕ × ℕ). e.0 in
    let rest = cells_anew (suc number) (child + child_count c.page.level c.page.entries) cells in
    map-append key (entries_anew c.page.level child c.page.entries) (entries_along rest)
    ∙ ap (λ (ks : List ℕ). ks ++ separators rest) (separators-entries_anew c.page.level child c.page.entries)
    ∙ ap (λ (ks : List ℕ). map key c.page.entries ++ ks) (separators-cells_anew (suc number) (child + child_count c.page.level c.page.entries) cells)
    ∙ sym (map-append key c.page.entries (entries_along cells))

module _ (store : PlainStore) where
  -- each page is in the store, where its pages stand there
  pub among-cells_anew : (number child : ℕ) (cells : List Cell) (before after : List PlainPage) → number ≡ suc (length before)
      → store.pages ≡ before ++ (pages_in (cells_anew number child cells) ++ after) → AreAmong (page_of store) (cells_anew number child cells)
  among-cells_anew number child [] before after next stand = tt
  among-cells_anew number child (c ∷ cells) before after next stand =
      let page = page_anew (suc number) child c.page in
      let rest = pages_in (cells_anew (suc number) (child + child_count c.page.level c.page.entries) cells) in (
        ap (page_of store) next ∙ ap (λ (ps : List PlainPage). slice_get ps (length before)) stand ∙ slice_get-after before page (rest ++ after),
        among-cells_anew (suc number) (child + child_count c.page.level c.page.entries) cells (before ++ page ∷ []) after
            (omega (arith, next, length-append before (page ∷ [])))
            (stand ∙ sym (append_assoc before (page ∷ []) (rest ++ after))),
      )

module _ (fan level : ℕ) where
  -- the pages of a line are in line
  pub line-cells_anew : (number child : ℕ) (floor link : Option ℕ) (cells : List Cell) (last : Option ℕ) → InLine fan level floor link cells last None
      → number + length cells ≤ MAX_PAGE + 1 → 1 ≤ child → child + child_count level (entries_along cells) ≤ MAX_PAGE + 1
      → InLine fan level floor (link_anew number link) (cells_anew number child cells) last None
  line-cells_anew number child floor link [] last line room from fits = (line.0, ap (link_anew number) line.1)
  line-cells_anew number child floor link (c ∷ cells) last line room from fits =
      let same_level = line.2 in
      let count : child_count level (entries_along (c ∷ cells)) ≡ child_count level c.page.entries + child_count level (entries_along cells)
      = child_count-append level c.page.entries (entries_along cells) in
      let own : child_count c.page.level c.page.entries ≡ child_count level c.page.entries = ap (λ (l : ℕ). child_count l c.page.entries) same_level in
      let next : IfSome c.page.right (λ _. IsPageNumber (suc number)) = number_after number (Some c.page.high) c.page.right last cells line.4 room in (
        ap (link_anew number) line.0,
        line.1,
        same_level,
        lawful-page_anew fan (suc number) child c.page line.3 next from (omega (arith, fits, count, own)),
        line-cells_anew (suc number) (child + child_count c.page.level c.page.entries) (Some c.page.high) c.page.right cells last line.4
            (omega arith) (omega arith) (omega (arith, fits, count, own)),
      )
    where
      number_after : (number : ℕ) (floor right last : Option ℕ) (cells : List Cell) → InLine fan level floor right cells last None → number + suc (length cells) ≤ MAX_PAGE + 1
          → IfSome right (λ _. IsPageNumber (suc number))
      number_after number floor None last cells line room = tt
      number_after number floor (Some r) last [] line room = absurd (cc (line.1))
      number_after number floor (Some r) last (c ∷ cells) line room = (omega arith, omega arith)

  -- the children of an inner line are in a row
  pub children-cells_anew : (number child : ℕ) (floor link : Option ℕ) (cells : List Cell) (last last_link : Option ℕ) → 0 < level → InLine fan level floor link cells last last_link
      → children (cells_anew number child cells) ≡ numbers_from child (length (entries_along cells))
  children-cells_anew number child floor link [] last last_link inner line = refl
  children-cells_anew number child floor link (c ∷ cells) last last_link inner line =
      let same_level = line.2 in
      let above : 0 < c.page.level = omega arith in
      let value : ℕ × ℕ → ℕ = λ (e : ℕ × ℕ). e.1 in
      let count = length c.page.entries in
      let next = child + child_count c.page.level c.page.entries in
      let after : next ≡ child + count = ap (λ (k : ℕ). child + k) (child_count-inner c.page.level c.page.entries above) in
      let own = numbers_from child count in
      let rest = cells_anew (suc number) next cells in
      map-append value (entries_anew c.page.level child c.page.entries) (entries_along rest)
      ∙ ap (λ (ks : List ℕ). ks ++ children rest) (children_in_row c.page.level child c.page.entries above)
      ∙ ap (λ (ks : List ℕ). own ++ ks) (children-cells_anew (suc number) next (Some c.page.high) c.page.right cells last last_link inner line.4)
      ∙ ap (λ (k : ℕ). own ++ numbers_from k (length (entries_along cells))) after
      ∙ sym (numbers_from-add child count (length (entries_along cells)))
      ∙ ap (numbers_from child) (sym (length-append c.page.entries (entries_along cells)))

-- the entries of leaves stay
pub entries-cells_anew : (fan number child : ℕ) (floor link : Option ℕ) (cells : List Cell) (last last_link : Option ℕ) → InLine fan 0 floor link cells last last_link
    → entries_along (cells_anew number child cells) ≡ entries_along cells
entries-cells_anew fan number child floor link [] last last_link line = refl
entries-cells_anew fan number child floor link (c ∷ cells) last last_link line =
    let next = child + child_count c.page.level c.page.entries in
    ap (λ (level : ℕ). entries_anew level child c.page.entries ++ entries_along (cells_anew (suc number) next cells)) line.2
    ∙ ap (λ (es : List (ℕ × ℕ)). c.page.entries ++ es) (entries-cells_anew fan (suc number) next (Some c.page.high) c.page.right cells last last_link line.4)
