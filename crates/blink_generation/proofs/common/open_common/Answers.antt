use Rattle.std.proofs.Common.{ℕ, ◌≡◌, ◌+◌, ◌*◌, ◌<◌, List, [], ◌++◌, length, replicate, set, sym, ◌∙◌, subst, arith}
use Rattle.atomic_table.specs.Table.{opening}
use Rattle.blink_rest.specs.{IsStoreAtRest}
use Rattle.blink_rows.specs.{PlainCounts, AreBounded}
use Rattle.blink_store.specs.{PlainStore, IsLawfulStore}
use Rattle.blink_live.specs.{IsLaid, IsTable, first_view, pool_page, pool_row}
use Rattle.blink_live.proofs.Offered.{laid_common, opens, plan_over}
use Rattle.blink_generation.proofs.common.open_common.Goals as goal

pub of_words-requires : goal.of_words-requires
of_words-requires c =
    let store : PlainStore = c.args.index.now in
    let counts : PlainCounts = c.counts_over-counts.result in
    let places : ℕ = c.from-places.result in
    let words : List ℕ = c.in_ok-words.words.items in
    let tree = c.rest.ensures.tree in
    let bounded : AreBounded counts = record { numbers_bounded = omega arith; rows_bounded = omega arith } in
    let numbers : length store.pages < counts.numbers = omega (arith, c.page_count-count.ensures.count) in
    let rows : length store.pages < counts.rows = omega (arith, c.page_count-count.ensures.count) in
    let front = c.in_ok-words.ensures in
    let laid : IsLaid counts store front.0 = subst (λ (s : PlainStore). IsLaid counts s front.0) (c.store-store.ensures.store ∙ tree) front.1 in
    let at_rest : IsStoreAtRest store = subst IsStoreAtRest tree c.store-store.ensures.at_rest in
    let lawful : IsLawfulStore store = subst IsLawfulStore tree c.store-store.ensures.lawful in
    let opened = opens store counts places words numbers rows bounded (laid_common counts places store front.0 words (omega (arith, c.requires.places, c.from-places.ensures)) laid (subst (λ (s : PlainStore). words ≡ set (set (front.0 ++ replicate (8 * places) 0) (pool_row counts) (length s.pages + 2)) (pool_page counts) (length s.pages + 1)) (c.store-store.ensures.store ∙ tree) front.2) numbers rows) at_rest lawful c.rest.ensures.map in
    let T : PlainStore → List ℕ → Type 0 = λ s ws. IsTable (plan_over s counts places) (opening ws [] (first_view (length s.pages) (plan_over s counts places))) in
    subst (λ (s : PlainStore). T s c.deref.result.now) (sym c.of.ensures) (subst (T store) (sym c.deref.ensures.value) opened)
