use Rattle.std.proofs.Common.{ℕ, ◌≡◌, ◌↔◌, Bool, false, Result, Err, ◌+◌, ◌*◌, ◌<◌, ◌≤◌, List, [], length, ap, sym, ◌∙◌, subst, arith}
use Rattle.std.specs.Prelude.{IsTrue}
use Rattle.std.specs.List.Sorted.{IsStrictlyIncreasing}
use Rattle.atomic_table.specs.Table.{opening}
use Rattle.blink_page.specs.{ExceedsPageLimit}
use Rattle.blink_rest.specs.{IsStoreAtRest}
use Rattle.blink_rows.specs.{PlainCounts, AreBounded}
use Rattle.blink_store.specs.{PlainStore, IsLawfulStore}
use Rattle.blink_live.specs.Laid.{IsLaid}
use Rattle.blink_live.specs.Rule.{IsTable}
use Rattle.blink_live.specs.Words.{word_count}
use Rattle.blink_live.specs.declared.error.LiveError.{LiveError}
use Rattle.blink_live.specs.declared.error.LiveError.TheVariants.{OutOfMemory, TooLarge}
use Rattle.blink_live.specs.declared.view.Opened.{Opened}
use Rattle.blink_live.specs.Views.{SeatState, first_view, span}
use Rattle.blink_live.proofs.dealt.ChangesLeft.{opened_for_changes}
use Rattle.blink_live.proofs.opened.PlacesAreLaid.{laid_alone}
use Rattle.blink_live.proofs.opened.OpeningIsTable.{plan_over, opens}
use Rattle.blink_live.proofs.table.RefusalsTold.{no_refusal}
use Rattle.blink_live.proofs.live.Live.open.Goals as goal

pub of_words-requires : goal.of_words-requires
of_words-requires c =
    let store : PlainStore = c.args.index.now in
    let counts : PlainCounts = c.of-counts.result in
    let words : List ℕ = c.in-Ok.words.items in
    let tree = c.rest.ensures.tree in
    let bounded : AreBounded counts = record { numbers_bounded = omega arith; rows_bounded = omega arith } in
    let numbers : length store.pages < counts.numbers = omega (arith, c.page_count-count.ensures.count) in
    let rows : length store.pages < counts.rows = omega (arith, c.page_count-count.ensures.count) in
    let laid : IsLaid counts store words = subst (λ (s : PlainStore). IsLaid counts s words) (c.store-store.ensures.store ∙ tree) c.in-Ok.ensures in
    let at_rest : IsStoreAtRest store = subst IsStoreAtRest tree c.store-store.ensures.at_rest in
    let lawful : IsLawfulStore store = subst IsLawfulStore tree c.store-store.ensures.lawful in
    let opened = opens store counts 0 words numbers rows bounded (laid_alone counts store words numbers rows laid) at_rest lawful c.rest.ensures.map in
    let T : PlainStore → List ℕ → Type 0 = λ s ws. IsTable (plan_over s counts 0) (opening ws [] (first_view (length s.pages) (plan_over s counts 0))) in
    subst (λ (s : PlainStore). T s c.deref.result.now) (sym c.of.ensures) (subst (T store) (sym c.deref.ensures.value) opened)

not_over : (over : Bool) → over ≡ false → ¬ IsTrue over
not_over over is exceeds = absurd (cc)

-- the index has few enough pages
few_pages : (count pages inserts : ℕ) → count ≡ pages → ¬ ExceedsPageLimit count inserts → ¬ ExceedsPageLimit pages inserts
few_pages count pages inserts same few = subst (λ (n : ℕ). ¬ ExceedsPageLimit n inserts) same few

-- a refusal of memory is no other
other_refusal : {T P : Type 0} → ¬ P → (◌≡◌ {A = Result T LiveError} (Err OutOfMemory) (Err TooLarge)) ↔ P
other_refusal never = (λ refused. absurd (cc), λ p. absurd (never p))

pub returns-in_default-clause-too_large : goal.returns-in_default-clause-too_large
returns-in_default-clause-too_large c =
    other_refusal (few_pages c.page_count-count.result (length c.args.index.now.pages) c.args.allowance.inserts c.page_count-count.ensures.count (λ many. not_over c.exceeds_page_limit.result c.if-exceeds_page_limit.false (c.exceeds_page_limit.ensures.1 many)))

pub returns-in_default-of_words-clause-too_large : goal.returns-in_default-of_words-clause-too_large
returns-in_default-of_words-clause-too_large c =
    other_refusal (few_pages c.page_count-count.result (length c.args.index.now.pages) c.args.allowance.inserts c.page_count-count.ensures.count (λ many. not_over c.exceeds_page_limit.result c.if-exceeds_page_limit.false (c.exceeds_page_limit.ensures.1 many)))

pub returns-clause-too_large : goal.returns-clause-too_large
returns-clause-too_large c =
    no_refusal _ _ (few_pages c.page_count-count.result (length c.args.index.now.pages) c.args.allowance.inserts c.page_count-count.ensures.count (λ many. not_over c.exceeds_page_limit.result c.if-exceeds_page_limit.false (c.exceeds_page_limit.ensures.1 many)))

at_least_one : (numbers count more : ℕ) → numbers ≡ 1 + count + more → 1 ≤ numbers
at_least_one numbers count more is = omega (arith, is)

pub invariant_of-live : goal.invariant_of-live
invariant_of-live c =
    let made = c.in-Ok-of_words.ensures in
    let store = c.store-store.ensures.store ∙ (c.rest.ensures.tree ∙ sym c.of.ensures) in record {
      counts_are = sym (ap (λ (o : Opened). o.counts) made.5);
      fan_is = (c.fan-fan.ensures.fan ∙ (ap (λ (s : PlainStore). s.fan) store ∙ sym (ap (λ (o : Opened). o.index.value.fan) made.5)), c.fan-fan.ensures.in_range);
      some_number = at_least_one c.of-counts.result.numbers c.page_count-count.result (22 * c.args.allowance.inserts) c.of-counts.ensures.numbers;
      no_slot = made.1;
      places_are = sym (ap (λ (o : Opened). o.places) made.5);
      width = let wide : c.in-Ok-of_words.table.shared.table_id.words ≡ word_count c.of-counts.result = made.0 ∙ (ap length c.deref.ensures.value ∙ c.in-Ok.ensures.width) in omega (arith, wide);
    }

none_in_order : (keys : List ℕ) → keys ≡ [] → IsStrictlyIncreasing keys
none_in_order keys is = subst IsStrictlyIncreasing (sym is) (λ k inside. absurd (omega (arith, inside)))

pub invariant_of-keeper : goal.invariant_of-keeper
invariant_of-keeper c =
    let made = c.in-Ok-of_words.ensures in
    let numbers : c.counts.inside.numbers ≡ c.of-counts.result.numbers = ap (λ (k : PlainCounts). k.numbers) c.counts.view_is in
    let rows : c.counts.inside.rows ≡ c.of-counts.result.rows = ap (λ (k : PlainCounts). k.rows) c.counts.view_is in
    let pages : c.page_count-count.result ≡ length c.of.result.value.pages = c.page_count-count.ensures.count ∙ ap (λ (s : PlainStore). length s.pages) (sym c.of.ensures) in
    let first = opened_for_changes c.page_count-count.result c.args.allowance.inserts c.args.allowance.deletes (span (c.from-2.result + 1) c.counts.inside.numbers) (span (c.from.result + 2) (c.counts.inside.rows + 1))
    (λ i. span (c.from-2.ensures i + 1) ((numbers ∙ c.of-counts.ensures.numbers) i)) (λ i. span (c.from.ensures i + 2) ((rows ∙ c.of-counts.ensures.rows) i + 1)) in record {
      taken_are = c.new.ensures.items ∙ sym (ap (λ (x : SeatState). x.0.taken) made.4);
      rows_are = (λ i. span ((c.from.ensures ∙ pages) i + 2) (rows i + 1)) ∙ sym (ap (λ (x : SeatState). x.0.rows) made.4);
      pages_are = (λ i. span ((c.from-2.ensures ∙ pages) i + 1) (numbers i)) ∙ sym (ap (λ (x : SeatState). x.0.pages) made.4);
      in_order = first.in_order;
      for_changes = first.for_changes;
      ascending = none_in_order c.new.result.items c.new.ensures.items;
      role_is = ap (λ (x : SeatState). x.0.role) made.4;
      counted = omega arith;
      owned = ap (λ (x : SeatState). x.0.plan.places) made.4;
      no_slot = ap (λ (x : SeatState). x.1) made.4;
    }
