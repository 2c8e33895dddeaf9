use Rattle.std.proofs.Common.{◌≡◌, ℕ, ◌+◌, List, length, ap, sym, ◌∙◌, subst, arith}
use Rattle.blink_batch.specs.{key_of}
use Rattle.blink_rows.specs.{prime_words}
use Rattle.blink_rows.proofs.Offered.{length-prime_words}
use Rattle.blink_live.specs.Seats.{IsFirst}
use Rattle.blink_live.specs.Views.{MayChange, SeatState}
use Rattle.blink_live.specs.Words.{BeginWith}
use Rattle.blink_live.proofs.changed.RowsAreStaged.{words_of_row}
use Rattle.blink_live.proofs.live.Live.write_prime.Goals as goal

pub publish_prime-requires-clause-staged : goal.publish_prime-requires-clause-staged
publish_prime-requires-clause-staged c =
    let prime : List ℕ = c.prime_out-prime.result in
    let many : c.len-count.result ≡ length prime = omega (arith, c.len-count.ensures.value, ap length c.prime.view_is) in
    let few = c.prime.invariant.1 in (
      prime,
      c.prime_out-prime.ensures,
      subst (λ (x : SeatState). BeginWith x.0.call.staged (prime_words prime)) (sym c.stage_row.ensures.staged)
          (words_of_row c.prime_row-words.result (prime_words prime) (6 + c.len-count.result) c.prime_row-words.ensures (omega (arith, length-prime_words prime, many)) (omega (arith, many, few, ap length c.prime.view_is))),
    )

pub publish_prime-requires-clause-seat : goal.publish_prime-requires-clause-seat
publish_prime-requires-clause-seat c =
    let seat = c.requires.can.seat in
    let staged = c.stage_row.ensures.staged in record {
      same_table = c.stage_row.ensures.same.0 ∙ seat.same_table;
      same_plan = ap (λ (x : SeatState). x.0.plan) staged ∙ seat.same_plan;
      role = ap (λ (x : SeatState). x.0.role) staged ∙ seat.role;
    }

pub publish_prime-requires-clause-at : goal.publish_prime-requires-clause-at
publish_prime-requires-clause-at c = ap (λ (x : SeatState). x.0.operation) c.stage_row.ensures.staged ∙ c.requires.can.at

pub publish_prime-requires-clause-row : goal.publish_prime-requires-clause-row
publish_prime-requires-clause-row c = subst (λ (x : SeatState). IsFirst c.args.row x.0.call.rows) (sym c.stage_row.ensures.staged) c.requires.can.first_row.0

pub publish_prime-requires-clause-may : goal.publish_prime-requires-clause-may
publish_prime-requires-clause-may c = subst (λ (x : SeatState). MayChange x.0 (key_of c.args.machine.now.op)) (sym c.stage_row.ensures.staged) c.requires.can.may
