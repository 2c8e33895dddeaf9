-- The words of a table that opens are a table: the tree at rest, with its keeper alone.
use Rattle.std.proofs.Common.{◌≡◌, ℕ, zero, suc, ◌+◌, ◌*◌, ◌-◌, ◌<◌, ◌≤◌, Option, Some, None, List, [], ◌∷◌, length, refl, sym, ap, ◌∙◌, subst, inl, inr, arith}
use Rattle.std.specs.Prelude.{Contains, slice_index}
use Rattle.std.proofs.lemmas.Bool.{cases_lt}
use Rattle.std.proofs.lemmas.Option.{slice_get_past}
use mathlib.Core.Option.{some, some-ne-none, some-injective}
use lib.ListN.{get_elem?}
use Rattle.atomic_table.specs.Table.{opening}
use Rattle.blink_index.specs.{map_of}
use Rattle.blink_page.specs.{PlainPage}
use Rattle.blink_rest.specs.{IsStoreAtRest}
use Rattle.blink_rows.specs.{PlainCounts, AreBounded, page_words, prime_words, row_in}
use Rattle.blink_store.specs.{PlainStore, page_of, IsLawfulStore}
use Rattle.blink_store.proofs.Offered.{has_page, page_there}
use Rattle.blink_machine.specs.TreeState.{TreeState}
use Rattle.blink_machine.specs.Invariant.{Invariant}
use Rattle.blink_machine.specs.{IsOpening, IsMapOf}
use Rattle.blink_machine.proofs.Offered.{step_law}
use Rattle.blink_live.specs.declared.view.Account.{Account}
use Rattle.blink_live.specs.declared.view.Plan.{Plan}
use Rattle.blink_live.specs.declared.view.Role.TheVariants.{Pass}
use Rattle.blink_live.specs.declared.view.View.{View}
use Rattle.blink_live.specs.Laid.{IsLaidWith}
use Rattle.blink_live.specs.Reuse.{AgreesWith, AreNamedOnce, HasStock}
use Rattle.blink_live.specs.Accounts.{AreApart, HasSeenItsOwn, IsAccount, accounts_of}
use Rattle.blink_live.specs.Rule.{AreNamedBy, HasNumbers, HasPool, HasRows, Names, Owners, PageWordIs, Knows, IsTable}
use Rattle.blink_live.specs.Views.{IsCommon, first_span, first_view, no_stock, span}
use Rattle.blink_live.specs.Words.{named_row}
use Rattle.blink_live.proofs.table.LooksStay.{nothing_noted}
use Rattle.blink_live.proofs.table.CallsOfSeats.{nothing_for_call}
use Rattle.blink_live.proofs.reuse.ReuseStaysSafe.{agrees_with_none, empty_stock}
use Rattle.blink_live.proofs.table.AccountsStay.{none_apart}
use Rattle.blink_live.proofs.table.SparesOfSeats.{no_spare}
use Rattle.blink_live.proofs.table.RowsAreNamed.{names_its_page, names_its_row, no_row_in, row_names_itself}

-- the plan of a table that opens
abbrev pub plan_over : PlainStore → PlainCounts → ℕ → Plan
plan_over store counts places = record { fan = store.fan; counts = counts; places = places; opening = map_of store }

-- nobody is at work on the tree
abbrev pub tree_state_over : PlainStore → TreeState
tree_state_over store = record {
  fan = store.fan;
  prime = store.prime;
  pages = page_of store;
  holder = λ number. None;
  machines = λ worker. None;
}

-- 0 below the first of some numbers, and 1 from it on
abbrev pub owner_from : ℕ → ℕ → ℕ
owner_from zero n = 1
owner_from (suc first) zero = 0
owner_from (suc first) (suc n) = owner_from first n

owner_before : (first n : ℕ) → n < first → owner_from first n ≡ 0
owner_before zero n early = absurd (omega arith)
owner_before (suc first) zero early = refl
owner_before (suc first) (suc n) early = owner_before first n (omega arith)

owner_on : (first n : ℕ) → first ≤ n → owner_from first n ≡ 1
owner_on zero n late = refl
owner_on (suc first) zero late = absurd (omega arith)
owner_on (suc first) (suc n) late = owner_on first n (omega arith)

-- row 1 is the prime block's, and page n has row n + 1
abbrev words_in : Option PlainPage → ℕ
words_in None = 0
words_in (Some page) = length (page_words page)

abbrev fixed_over : PlainStore → ℕ → ℕ
fixed_over store zero = 0
fixed_over store (suc zero) = length (prime_words store.prime)
fixed_over store (suc (suc n)) = words_in (page_of store (suc n))

fixed_of_page : (store : PlainStore) (number : ℕ) (page : PlainPage) → 1 ≤ number → page_of store number ≡ Some page → fixed_over store (number + 1) ≡ length (page_words page)
fixed_of_page store zero page least there = absurd (omega (arith, least))
fixed_of_page store (suc n) page least there = let row : suc n + 1 ≡ suc (suc n) = omega arith in ap (fixed_over store) row ∙ ap words_in there

-- what no page has is the keeper's: its seat is the first
abbrev pub owners_over : PlainStore → Owners
owners_over store = record {
  row = owner_from (length store.pages + 2);
  page = owner_from (length store.pages + 1);
  key = λ key. 0;
  latch_number = λ seat. 0;
  place = λ place. 0;
  fixed = fixed_over store;
  named_by = λ row. row - 1;
}

-- no page has a number behind the last
no_page_past : (store : PlainStore) (number : ℕ) → length store.pages < number → page_of store number ≡ None
no_page_past store zero late = refl
no_page_past store (suc n) late = slice_get_past store.pages n (omega arith)

-- the keeper's first span, or an empty one
some_first : (n next stop : ℕ) → 1 ≤ next → 1 ≤ (first_span n next stop).next
some_first zero next stop least = least
some_first (suc n) next stop least = omega arith

none_first : (n next stop : ℕ) → 1 ≤ n → (first_span n next stop).stop ≤ (first_span n next stop).next
none_first zero next stop least = absurd (omega (arith, least))
none_first (suc n) next stop least = omega arith

one_view : (K : ℕ → View → Type 0) (v : View) → K 0 v → (seat : ℕ) (u : View) → get_elem? (v ∷ []) seat ≡ some u → K seat u
one_view K v known zero u is = subst (K 0) (some-injective v u is) known
one_view K v known (suc seat) u is = absurd (some-ne-none u (sym is))

-- such a tree state has the invariant
opening_tree_state : (store : PlainStore) → IsStoreAtRest store → IsLawfulStore store → Invariant (tree_state_over store)
opening_tree_state store at_rest lawful = step_law.opening_has_invariant (tree_state_over store) opens
  where
    opens : IsOpening (tree_state_over store)
    opens = record {
      fan_in_range = lawful.fan_in_range;
      some_level = lawful.some_level;
      numbers_in_range = λ number page there. let has = has_page store number page there in (has.0, omega (arith, has.1, lawful.count_in_range.1));
      at_rest = at_rest;
      no_latch = λ page. refl;
      all_idle = λ worker. refl;
    }

module _ (store : PlainStore) (counts : PlainCounts) (places : ℕ) (words : List ℕ) (numbers : length store.pages < counts.numbers) (rows : length store.pages < counts.rows) (bounded : AreBounded counts) (laid : IsLaidWith counts places store words) where
  -- each page word names its page's row
  page_words_are : (number : ℕ) → 1 ≤ number → number < counts.numbers → PageWordIs (plan_over store counts places) (owners_over store) words (slice_index words number) (page_of store number)
  page_words_are number least early =
      let plan = plan_over store counts places in
      let owners = owners_over store in
      elim (cases_lt number (length store.pages + 1)) [
        | inl less ↦
            let found = page_there store number (least, omega arith) in
            let named : slice_index words number ≡ number + 1 = laid.page_words_named number (omega arith) in
            let free = owner_before (length store.pages + 2) (number + 1) (omega arith) in
            subst (λ (t : ℕ × Option PlainPage). PageWordIs plan owners words t.0 t.1) (λ i. (sym named i, sym found.1 i))
            (names_its_page plan owners words (number + 1) found.0 bounded ((omega arith, omega arith), free) (λ i inside few. laid.page_rows number found.0 found.1 i inside) (fixed_of_page store number found.0 least found.1))
        | inr more ↦ subst (PageWordIs plan owners words (slice_index words number)) (sym (no_page_past store number (omega arith))) (laid.no_more number (omega arith) (omega arith))
      ]

  -- the rows and page numbers that no page has
  all_rows : HasRows (plan_over store counts places) (owners_over store) 1 (span (length store.pages + 2) (counts.rows + 1))
  all_rows = record {
    in_range = (omega arith, omega arith);
    own = λ row late early. owner_on (length store.pages + 2) row late;
  }

  all_numbers : HasNumbers (plan_over store counts places) (owners_over store) (tree_state_over store) 1 (span (length store.pages + 1) counts.numbers)
  all_numbers = record {
    in_range = (omega arith, omega arith);
    own = λ number late early. owner_on (length store.pages + 1) number late;
    free = λ number late early. no_page_past store number (omega arith);
  }

  -- are the keeper's, or the pool's
  first_rows : (n : ℕ) → HasRows (plan_over store counts places) (owners_over store) 1 (first_span n (length store.pages + 2) (counts.rows + 1))
  first_rows zero = all_rows
  first_rows (suc n) = record { in_range = (omega arith, omega arith); own = λ row low high. absurd (omega (arith, low, high)) }

  first_numbers : (n : ℕ) → HasNumbers (plan_over store counts places) (owners_over store) (tree_state_over store) 1 (first_span n (length store.pages + 1) counts.numbers)
  first_numbers zero = all_numbers
  first_numbers (suc n) = record { in_range = (omega arith, omega arith); own = λ number low high. absurd (omega (arith, low, high)); free = λ number low high. absurd (omega (arith, low, high)) }

  first_pool : IsCommon (plan_over store counts places) → HasPool (plan_over store counts places) (owners_over store) words (tree_state_over store)
  first_pool common = record {
    rows = subst (λ (n : ℕ). HasRows (plan_over store counts places) (owners_over store) 1 (span n (counts.rows + 1))) (sym (laid.pool_rows common)) all_rows;
    pages = subst (λ (n : ℕ). HasNumbers (plan_over store counts places) (owners_over store) (tree_state_over store) 1 (span n counts.numbers)) (sym (laid.pool_pages common)) all_numbers;
  }

  -- the keeper knows what is so
  keeper_knows : Knows (plan_over store counts places) (owners_over store) words (tree_state_over store) [] 0 (first_view (length store.pages) (plan_over store counts places))
  keeper_knows = record {
    same_plan = refl;
    operation = refl;
    bounded = λ m is. absurd (cc);
    reads = (tt, nothing_noted (plan_over store counts places) (owners_over store).row words (tree_state_over store).fan (tree_state_over store).prime (tree_state_over store).pages);
    appends = tt;
    rows = first_rows places;
    numbers = first_numbers places;
    for_call = nothing_for_call (plan_over store counts places) (owners_over store) words (tree_state_over store) 1 (first_span places (length store.pages + 2) (counts.rows + 1)).next (first_span places (length store.pages + 1) counts.numbers).next
        (some_first places (length store.pages + 2) (counts.rows + 1) (omega arith)) (some_first places (length store.pages + 1) counts.numbers (omega arith)) (omega arith);
    spare = no_spare (plan_over store counts places) (owners_over store) (tree_state_over store) 1 (first_span places (length store.pages + 1) counts.numbers).next (span 1 1) (omega arith);
    share = λ key among. absurd (omega (arith, among.1));
    saw = ([], refl);
    heard = ([], refl);
    in_role = (refl, refl, (λ key not. record { own = refl; saw_all = λ owned. refl }), (λ share among. absurd (omega (arith, among.1))));
    placed = λ common is. absurd (cc);
    nothing = λ common dealt back is. (
      none_first places (length store.pages + 2) (counts.rows + 1) common,
      none_first places (length store.pages + 1) counts.numbers common,
      omega arith,
      omega arith,
    );
    places_left = λ dealt back is place from. (refl, λ inside. laid.blank_places place inside);
  }

  -- the rows that page words name
  named : (number : ℕ) → number ≤ length store.pages → named_row words number ≡ number + 1
  named number few = ap row_in (laid.page_words_named number few) ∙ row_names_itself (plan_over store counts places) (number + 1) bounded (omega (arith, few, rows))

  unnamed : (number : ℕ) → length store.pages < number → number < 2 * counts.numbers → named_row words number ≡ 0
  unnamed number more inside = no_row_in (slice_index words number) (laid.no_more number more inside)

  -- by the word of one page
  names_open : AreNamedBy counts (owners_over store).named_by words
  names_open number few least =
      elim (cases_lt number (length store.pages + 1)) [
        | inl less ↦
            let row = named number (omega arith) in
            omega (arith, row)
        | inr more ↦
            let none = unnamed number (omega arith) (omega arith) in
            absurd (omega (arith, none, least))
      ]

  -- each page has a row of its own
  once : AreNamedOnce counts words
  once one other few_one few_other least same =
      elim (cases_lt one (length store.pages + 1)) [
        | inl less ↦ elim (cases_lt other (length store.pages + 1)) [
          | inl also ↦
              let first = named one (omega arith) in
              let second = named other (omega arith) in
              omega arith
          | inr more ↦
              let none = unnamed other (omega arith) (omega arith) in
              absurd (omega arith)
        ]
        | inr more ↦
            let none = unnamed one (omega arith) (omega arith) in
            absurd (omega arith)
      ]

  -- the table of a tree at rest, as it opens
  pub opens : IsStoreAtRest store → IsLawfulStore store → IsMapOf store (map_of store)
      → IsTable (plan_over store counts places) (opening words [] (first_view (length store.pages) (plan_over store counts places)))
  opens at_rest lawful is_map =
      let plan = plan_over store counts places in
      let owners = owners_over store in
      let first_named : slice_index words 0 ≡ 1 = laid.page_words_named 0 (omega arith) in (
        tree_state_over store,
        record {
          owners = owners;
          log = [];
          now = map_of store;
          same_fan = refl;
          invariant = opening_tree_state store at_rest lawful;
          prime_numbers = lawful.prime_numbers;
          bounded = bounded;
          width = laid.width;
          prime = subst (λ (word : ℕ). Names plan owners words word (prime_words store.prime)) (sym first_named)
              (names_its_row plan owners words 1 (prime_words store.prime) bounded ((omega arith, omega arith), owner_before (length store.pages + 2) 1 (omega arith)) (λ i inside few. laid.prime_row i inside) refl);
          pages = page_words_are;
          named_by = names_open;
          no_other_page = λ number late. no_page_past store number (omega arith);
          no_other_latch = λ number late. refl;
          latches = λ number early. laid.no_more (counts.numbers + number) (omega arith) (omega arith);
          holders = λ number seat is. absurd (cc);
          is_map = record { ascending = is_map.ascending; kept = is_map.kept };
          kept = λ key. refl;
          nobodys = λ common key. refl;
          pool = first_pool;
          accounted = λ common. record {
            authors = λ k d inside. absurd (omega (arith, inside));
            nobodys = λ place none. refl;
            accounts = one_view (λ seat v. (account : Account) → Contains (accounts_of v) account → IsAccount owners.place [] (suc seat) account) (first_view (length store.pages) plan) (λ account has. let inside = has.1 in absurd (omega (arith, inside)));
            apart = one_view (λ seat v. AreApart (accounts_of v)) (first_view (length store.pages) plan) none_apart;
            saw_own = one_view (λ seat v. v.role ≡ Pass → HasSeenItsOwn v) (first_view (length store.pages) plan) (λ is. absurd (cc));
          };
          reuse = λ common. record {
            claim = λ row. 0;
            named_once = λ one other few_one few_other least same. once one other few_one few_other least same;
            stocks = one_view (HasStock plan owners.row words (λ row. 0)) (first_view (length store.pages) plan) (empty_stock plan owners.row words (λ row. 0) 0 (first_view (length store.pages) plan) refl refl refl);
            agree = λ seat other v u at_v at_u. one_view (λ i a. AgreesWith a.stock u) (first_view (length store.pages) plan) (agrees_with_none no_stock u refl) seat v at_v;
          };
          views = one_view (Knows plan owners words (tree_state_over store) []) (first_view (length store.pages) plan) keeper_knows;
          others_idle = λ seat late. refl;
          counted = record { keeper = first_view (length store.pages) plan; dealt = 0; back = 0; first = refl; role = refl; counted = λ owned. refl };
        },
      )
