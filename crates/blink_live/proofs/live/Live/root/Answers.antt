use Rattle.std.proofs.Common.{◌≡◌, ◌-◌, length, ap, sym, ◌∙◌, subst, arith}
use Rattle.blink_rows.specs.{prime_words}
use Rattle.blink_rows.proofs.Offered.{length-prime_words}
use Rattle.blink_live.specs.Seats.{BeginsAt}
use Rattle.blink_live.specs.Views.{SeatState}
use Rattle.blink_live.proofs.found.RootInRow.{root_is_top, root_is_number}
use Rattle.blink_live.proofs.live.Live.root.Goals as goal

pub overflow_add-levels : goal.overflow_add-levels
overflow_add-levels c =
    let begun = c.load_prime-row.ensures.begun.1 in
    let height : c.load_word-levels.result ≡ length begun.prime = c.load_word-levels.ensures.word c.load_prime-row.result (prime_words begun.prime) c.row_place-start.ensures.start (ap (λ (x : SeatState). x.0.reads) begun.is) (omega arith) in
    omega (arith, height, begun.few_levels)

pub load_word-root-requires-clause-place : goal.load_word-root-requires-clause-place
load_word-root-requires-clause-place c =
    let begun = c.load_prime-row.ensures.begun.1 in
    let height : c.load_word-levels.result ≡ length begun.prime = c.load_word-levels.ensures.word c.load_prime-row.result (prime_words begun.prime) c.row_place-start.ensures.start (ap (λ (x : SeatState). x.0.reads) begun.is) (omega arith) in
    omega (arith, height, begun.few_levels)

pub overflow_cast-result : goal.overflow_cast-result
overflow_cast-result c =
    let begun = c.load_prime-row.ensures.begun.1 in
    let reads = ap (λ (x : SeatState). x.0.reads) begun.is in
    let height : c.load_word-levels.result ≡ length begun.prime = c.load_word-levels.ensures.word c.load_prime-row.result (prime_words begun.prime) c.row_place-start.ensures.start reads (omega arith) in
    let root = c.load_word-root.ensures.word c.load_prime-row.result (prime_words begun.prime) c.row_place-start.ensures.start (ap (λ (x : SeatState). x.0.reads) c.load_word-levels.ensures.same.2 ∙ reads) (omega (arith, height, begun.some_level, length-prime_words begun.prime)) in
    let small = root_is_number begun.prime c.load_word-levels.result height begun.some_level c.load_word-root.result root begun.page_numbers in omega (arith, small)

pub overflow_cast-result-2 : goal.overflow_cast-result-2
overflow_cast-result-2 c =
    let begun = c.load_prime-row.ensures.begun.1 in
    let height : c.load_word-levels.result ≡ length begun.prime = c.load_word-levels.ensures.word c.load_prime-row.result (prime_words begun.prime) c.row_place-start.ensures.start (ap (λ (x : SeatState). x.0.reads) begun.is) (omega arith) in
    omega (arith, height, begun.few_levels)

pub overflow_sub-result : goal.overflow_sub-result
overflow_sub-result c =
    let begun = c.load_prime-row.ensures.begun.1 in
    let height : c.load_word-levels.result ≡ length begun.prime = c.load_word-levels.ensures.word c.load_prime-row.result (prime_words begun.prime) c.row_place-start.ensures.start (ap (λ (x : SeatState). x.0.reads) begun.is) (omega arith) in
    omega (arith, height, begun.some_level)

pub returns-clause-begun : goal.returns-clause-begun
returns-clause-begun c =
    let begun = c.load_prime-row.ensures.begun in
    let reads = ap (λ (x : SeatState). x.0.reads) begun.1.is in
    let height : c.load_word-levels.result ≡ length begun.1.prime = c.load_word-levels.ensures.word c.load_prime-row.result (prime_words begun.1.prime) c.row_place-start.ensures.start reads (omega arith) in
    let root = c.load_word-root.ensures.word c.load_prime-row.result (prime_words begun.1.prime) c.row_place-start.ensures.start (ap (λ (x : SeatState). x.0.reads) c.load_word-levels.ensures.same.2 ∙ reads) (omega (arith, height, begun.1.some_level, length-prime_words begun.1.prime)) in
    let same_me = c.load_word-root.ensures.same.2 ∙ c.load_word-levels.ensures.same.2 in
    subst (BeginsAt c.args.op c.args.seat.now.me c.load_word-root.result (c.load_word-levels.result - 1)) (sym same_me)
    (record { row = c.load_prime-row.result; machine = begun.0; begins = begun.1; top = root_is_top begun.1.prime c.load_word-levels.result height begun.1.some_level c.load_word-root.result root })
