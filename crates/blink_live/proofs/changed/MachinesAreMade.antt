-- The machine of an operation at its leaf can be made anew: it goes down by the pages that its descent has noted.
use Rattle.std.proofs.Common.{◌≡◌, ℕ, zero, suc, ◌+◌, ◌-◌, ◌<◌, ◌≤◌, Option, Some, None, List, [], ◌∷◌, ◌++◌, length, reverse, take, refl, sym, ◌∙◌, subst, arith}
use Rattle.std.specs.Prelude.{slice_get}
use Rattle.std.specs.List.{last_or}
use Rattle.std.proofs.lemmas.List.{reverse-append, take_more, take_all, get_or_past}
use Rattle.std.proofs.lemmas.Bool.Decides.{nat_tests}
use Rattle.blink_batch.specs.{FitsWords, key_of}
use Rattle.blink_batch.specs.declared.Op.{Op}
use Rattle.blink_batch.specs.declared.Op.TheVariants.{Delete, DeleteExact, Exchange, Find, Insert, Replace}
use Rattle.blink_page.specs.{Leads, PlainPage, child_for}
use Rattle.blink_page.specs.declared.limits.TheConstants.{GREATEST_KEY}
use Rattle.blink_page.specs.declared.search.Way.TheVariants.{Down, Here}
use Rattle.blink_machine.specs.declared.machine.Job.TheVariants.{Leaf}
use Rattle.blink_machine.specs.declared.machine.State.TheVariants.{Going}
use Rattle.blink_machine.specs.{IsUpdate, PlainMachine, SeesOnItsWay, SeesPrime, SeesTop, TellsWay, fresh}
use Rattle.blink_live.specs.declared.descent.Descent.{Descent}
use Rattle.blink_live.specs.Straight.{page_at}
use Rattle.blink_live.proofs.found.DescentsOfChanges.{at_its_leaf, descending}

-- ---- the top

abbrev tops : ℕ → ℕ → List ℕ
tops zero page = page ∷ []
tops (suc level) page = page ∷ tops level page

length-tops : (level page : ℕ) → length (tops level page) ≡ level + 1
length-tops zero page = refl
length-tops (suc level) page = let rest = length-tops level page in omega (arith, rest)

tops_there : (level page : ℕ) → slice_get (tops level page) level ≡ Some page
tops_there zero page = refl
tops_there (suc level) page = tops_there level page

last_of_tops : (d : Option ℕ) (level page : ℕ) → last_or d (tops level page) ≡ Some page
last_of_tops d zero page = refl
last_of_tops d (suc level) page = last_of_tops (Some page) level page

by_top : (fan : ℕ) (op : Op) (level page : ℕ) (after : PlainMachine) → SeesPrime (fresh fan op) (tops level page) after → after ≡ descending fan op [] page level
by_top fan op level page after (SeesPrime.begins top at last is) =
    let same : top ≡ page = let e = sym last ∙ last_of_tops None level page in cc in
    let high : length (tops level page) - 1 ≡ level = let long = length-tops level page in omega (arith, long) in
    is ∙ (λ i. record { fan = fan; op = op; job = Leaf; remembered = []; state = Going (same i) (high i); answer = None })
by_top fan op level page after (SeesPrime.asks_of_root root debt at top is) = absurd (cc)
by_top fan op level page after (SeesPrime.asks_of_other other debt at top is) = absurd (cc)
by_top fan op level page after (SeesPrime.finds_leftmost debt leftmost at job there is) = absurd (cc)

pub begins_at_top : (fan : ℕ) (op : Op) (level page : ℕ) (after : PlainMachine) → SeesTop (fresh fan op) level page after → after ≡ descending fan op [] page level
begins_at_top fan op level page after sees = by_top fan op level page after (sees (tops level page) (record { top = length-tops level page; leftmost = tops_there level page }))

-- ---- on the way down

-- a page above this child, and one that is a leaf
abbrev pub page_above : ℕ → ℕ → PlainPage
page_above level child = record { level = level; floor = None; high = GREATEST_KEY; right = None; entries = (GREATEST_KEY, child) ∷ [] }

abbrev pub leaf_page : PlainPage
leaf_page = record { level = 0; floor = None; high = GREATEST_KEY; right = None; entries = [] }

pub fits_key : (op : Op) → FitsWords op → key_of op ≤ GREATEST_KEY
fits_key (Find key) fits = omega (arith, fits)
fits_key (Insert key pointer) fits = let first = fits.0 in omega (arith, first)
fits_key (Delete key) fits = omega (arith, fits)
fits_key (Replace key pointer) fits = let first = fits.0 in omega (arith, first)
fits_key (Exchange key expected pointer) fits = let first = fits.0 in omega (arith, first)
fits_key (DeleteExact key expected) fits = let first = fits.0 in omega (arith, first)

child_above : (key child : ℕ) → key ≤ GREATEST_KEY → child_for key ((GREATEST_KEY, child) ∷ []) ≡ Some child
child_above key child small = grind (arith, nat_tests, small)

module _ (fan : ℕ) (op : Op) (above : List ℕ) (number level : ℕ) (fits : FitsWords op) where
  abbrev at : PlainMachine
  at = descending fan op above number level

  pub leads_down : (child : ℕ) → 0 < level → Leads (page_above level child) (key_of op) (Down child)
  leads_down child inner = (fits_key op fits, inner, child_above (key_of op) child (fits_key op fits))

  pub tells_down : (child : ℕ) → 0 < level → IsUpdate op → TellsWay at (page_above level child) (Down child) None
  tells_down child inner updates = record { has_level = refl; leads = leads_down child inner; maps = λ key is here. absurd (cc) }

  going_is : (n l m k : ℕ) → Going n l ≡ Going m k → l ≡ k
  going_is n l m k same = cc

  pub goes_down_to : (child : ℕ) → 0 < level → (after : PlainMachine) → SeesOnItsWay at number (page_above level child) after → after ≡ descending fan op (above ++ number ∷ []) child (level - 1)
  goes_down_to child inner after (SeesOnItsWay.goes_right l next is_at leads is) = absurd (let over = leads.0 in let small = fits_key op fits in omega (arith, over, small))
  goes_down_to child inner after (SeesOnItsWay.goes_down l next is_at leads is) =
      let same : next ≡ child = let e = sym leads.2 ∙ child_above (key_of op) child (fits_key op fits) in cc in
      let lower : l ≡ level - 1 = let e = going_is number level number (l + 1) is_at in omega (arith, e) in
      let more : number ∷ reverse above ≡ reverse (above ++ number ∷ []) = sym (reverse-append above (number ∷ [])) in
      is ∙ (λ i. record { fan = fan; op = op; job = Leaf; remembered = more i; state = Going (same i) (lower i); answer = None })
  goes_down_to child inner after (SeesOnItsWay.find_answers l key is_at leads find is) = absurd (let flat = leads.1 in omega (arith, flat, inner))
  goes_down_to child inner after (SeesOnItsWay.update_wants l is_at leads updates is) = absurd (let flat = leads.1 in omega (arith, flat, inner))

module _ (fan : ℕ) (op : Op) (above : List ℕ) (number : ℕ) (fits : FitsWords op) (updates : IsUpdate op) where
  pub tells_here : TellsWay (descending fan op above number 0) leaf_page Here None
  tells_here = record { has_level = refl; leads = (fits_key op fits, refl); maps = λ key is here. refl }

  pub goes_here : (after : PlainMachine) → SeesOnItsWay (descending fan op above number 0) number leaf_page after → after ≡ at_its_leaf fan op above number
  goes_here after (SeesOnItsWay.goes_right l next is_at leads is) = absurd (let over = leads.0 in let small = fits_key op fits in omega (arith, over, small))
  goes_here after (SeesOnItsWay.goes_down l next is_at leads is) = absurd (let inner = leads.1 in omega (arith, inner))
  goes_here after (SeesOnItsWay.find_answers l key is_at leads find is) = absurd (subst IsUpdate find updates)
  goes_here after (SeesOnItsWay.update_wants l is_at leads its is) = is

-- ---- the pages of a descent

pub more_above : (descent : Descent) (place : ℕ) → place < length descent.above.items → take place descent.above.items ++ page_at descent place ∷ [] ≡ take (place + 1) descent.above.items
more_above descent place inside = sym (take_more descent.above.items place descent.leaf inside)

pub all_above : (descent : Descent) (place : ℕ) → length descent.above.items ≤ place → take place descent.above.items ≡ descent.above.items
all_above descent place past = take_all place descent.above.items past

pub leaf_last : (descent : Descent) (place : ℕ) → length descent.above.items ≤ place → page_at descent place ≡ descent.leaf
leaf_last descent place past = get_or_past descent.above.items place descent.leaf past
