-- The words that a find loads of a page's row tell which way its key leads from the page.
use Rattle.std.proofs.Common.{◌≡◌, ◌≢◌, ℕ, zero, suc, ◌+◌, ◌<◌, ◌≤◌, ◌^◌, Option, Some, None, List, [], ◌∷◌, length, get_or, refl, sym, ap, ◌∙◌, subst, arith}
use Rattle.std.proofs.lemmas.Bool.Decides.{nat_tests}
use Rattle.std.specs.Prelude.{IsNone, IfSome, slice_get, unwrap_or}
use Rattle.blink_page.specs.{value_at, child_for, IsPageNumber, PlainPage, IsLawfulPage, place_of, IsRising, least_above}
use Rattle.blink_page.specs.declared.limits.TheConstants.{MAX_FAN, MAX_PAGE, GREATEST_KEY}
use Rattle.blink_page.specs.declared.search.Way.TheVariants.{Right, Down, Here}
use Rattle.blink_page.proofs.Offered.{from_at_most_to, child_for-place, value_at-place, value_at-place_other, value_at-place_end, place_inside, child_inside}
use Rattle.blink_live.specs.Seats.{TellsWayFor}

-- a page that ends below a key has a link to the right
pub record HasLink (page : PlainPage) (word : ℕ) : Type 0 where
  pub link : page.right ≡ Some word
  pub number : IsPageNumber word

pub has_link : (page : PlainPage) (key word : ℕ) → IsLawfulPage MAX_FAN page → key < 2 ^ 64 → page.high < key → word ≡ unwrap_or page.right 0 → HasLink page word
has_link page key word lawful fits above is = go page.right refl
  where
    go : (right : Option ℕ) → page.right ≡ right → HasLink page word
    go None none =
        let last : page.high ≡ GREATEST_KEY = lawful.right_unless_last.0 (subst IsNone (sym none) refl) in
        absurd (omega (arith, last, above, fits))
    go (Some link) some =
        let same : word ≡ link = is ∙ ap (λ (o : Option ℕ). unwrap_or o 0) some in record {
          link = some ∙ ap (λ (n : ℕ). Some n) (sym same);
          number = subst IsPageNumber (sym same) (subst (λ (o : Option ℕ). IfSome o IsPageNumber) some lawful.right_is_number);
        }

pub leads_right : (page : PlainPage) (key word : ℕ) → page.high < key → HasLink page word → TellsWayFor key page (Right word) None
leads_right page key word above has = record { leads = (above, has.link); maps = λ is. absurd (cc) }

-- ---- where the search among the entries ended

some_at : (entries : List (ℕ × ℕ)) (n : ℕ) (e : ℕ × ℕ) → slice_get entries n ≡ Some e → (n < length entries) × (get_or entries n (0, 0) ≡ e)
some_at [] n e at = absurd (cc)
some_at (first ∷ rest) zero e at = (omega arith, cc)
some_at (first ∷ rest) (suc n) e at = let t = some_at rest n e at in (let inside = t.0 in omega (arith, inside), t.1)

none_at : (entries : List (ℕ × ℕ)) (n : ℕ) → slice_get entries n ≡ None → length entries ≤ n
none_at [] n at = omega arith
none_at (first ∷ rest) zero at = absurd (cc)
none_at (first ∷ rest) (suc n) at = let past = none_at rest n at in omega (arith, past)

pub kept_there : (key found value from to : ℕ) (entries : List (ℕ × ℕ)) → IsRising from entries to → Some (found, value) ≡ slice_get entries (place_of key entries) → found ≡ key → Some value ≡ value_at key entries
kept_there key found value from to entries rises at same =
    let there = some_at entries (place_of key entries) (found, value) (sym at) in
    let its_key : (get_or entries (place_of key entries) (0, 0)).0 ≡ key = ap (λ (e : ℕ × ℕ). e.0) there.1 ∙ same in
    sym (value_at-place key (0, 0) entries there.0 its_key ∙ ap (λ (e : ℕ × ℕ). Some e.1) there.1)

pub kept_not_there : (key found value from to : ℕ) (entries : List (ℕ × ℕ)) → IsRising from entries to → Some (found, value) ≡ slice_get entries (place_of key entries) → found ≢ key → None ≡ value_at key entries
kept_not_there key found value from to entries rises at differ =
    let there = some_at entries (place_of key entries) (found, value) (sym at) in
    sym (value_at-place_other key from (0, 0) entries to rises (λ same. differ (sym (ap (λ (e : ℕ × ℕ). e.0) there.1) ∙ same)))

pub none_kept : (key : ℕ) (entries : List (ℕ × ℕ)) → None ≡ slice_get entries (place_of key entries) → None ≡ value_at key entries
none_kept key entries at = sym (value_at-place_end key entries (none_at entries (place_of key entries) (sym at)))

-- the key of the entry there is no lesser one
key_at : (key : ℕ) (entries : List (ℕ × ℕ)) (n : ℕ) → place_of key entries ≡ n → n < length entries → key ≤ (get_or entries n (0, 0)).0
key_at key [] n is inside = absurd (omega (arith, inside))
key_at key ((k, v) ∷ rest) zero is inside = grind (arith, nat_tests, is)
key_at key ((k, v) ∷ rest) (suc n) is inside =
    let further : place_of key rest ≡ n → key ≤ (get_or rest n (0, 0)).0 = λ there. key_at key rest n there (omega (arith, inside)) in
    grind (arith, nat_tests, is, further)

-- and no key is above the page's high key
below_end : (entries : List (ℕ × ℕ)) (n from to : ℕ) → IsRising from entries to → n < length entries → (get_or entries n (0, 0)).0 < to
below_end [] n from to rises inside = absurd (omega (arith, inside))
below_end ((k, v) ∷ rest) zero from to rises inside = let reaches = from_at_most_to (k + 1) rest to rises.1 in omega (arith, reaches)
below_end ((k, v) ∷ rest) (suc n) from to rises inside = below_end rest n (k + 1) to rises.1 (omega (arith, inside))

pub not_right_of : (page : PlainPage) (key found value : ℕ) → IsLawfulPage MAX_FAN page → Some (found, value) ≡ slice_get page.entries (place_of key page.entries) → key ≤ page.high
not_right_of page key found value lawful at =
    let there = some_at page.entries (place_of key page.entries) (found, value) (sym at) in
    let low = key_at key page.entries (place_of key page.entries) refl there.0 in
    let high = below_end page.entries (place_of key page.entries) (least_above page.floor) (page.high + 1) lawful.keys_rise there.0 in
    omega (arith, low, high)

-- an inner page has a child for each of its keys
pub child_there : (page : PlainPage) (key found child : ℕ) → IsLawfulPage MAX_FAN page → 0 < page.level → key ≤ page.high → Some (found, child) ≡ slice_get page.entries (place_of key page.entries)
    → (child_for key page.entries ≡ Some child) × (child ≤ MAX_PAGE)
child_there page key found child lawful inner not_right at =
    let there = some_at page.entries (place_of key page.entries) (found, child) (sym at) in
    let its_child : (get_or page.entries (place_of key page.entries) (0, 0)).1 ≡ child = ap (λ (e : ℕ × ℕ). e.1) there.1 in
    let few = child_inside MAX_FAN page lawful key inner not_right in (
      child_for-place key (0, 0) page.entries there.0 ∙ ap (λ (n : ℕ). Some n) its_child,
      omega (arith, few, its_child),
    )

pub some_child : (page : PlainPage) (key : ℕ) → IsLawfulPage MAX_FAN page → 0 < page.level → key ≤ page.high → ¬ (None ≡ slice_get page.entries (place_of key page.entries))
some_child page key lawful inner not_right none =
    let inside = place_inside MAX_FAN page lawful key inner not_right in
    let past = none_at page.entries (place_of key page.entries) (sym none) in
    omega (arith, inside, past)

pub leads_down : (page : PlainPage) (key child : ℕ) → key ≤ page.high → 0 < page.level → child_for key page.entries ≡ Some child → TellsWayFor key page (Down child) None
leads_down page key child not_right inner is = record { leads = (not_right, inner, is); maps = λ here. absurd (cc) }

pub ends_here : (page : PlainPage) (key : ℕ) (kept : Option ℕ) → key ≤ page.high → page.level ≡ 0 → kept ≡ value_at key page.entries → TellsWayFor key page Here kept
ends_here page key kept not_right leaf is = record { leads = (not_right, leaf); maps = λ here. sym is }
