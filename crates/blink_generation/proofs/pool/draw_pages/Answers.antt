use Rattle.std.proofs.Common.{◌-◌, ⊎_elim, inl, inr, arith}
use Rattle.blink_live.specs.{IsWithin, length_of}
use Rattle.blink_generation.proofs.PartsOfThePool.{part_of_all, part_of_fewer}
use Rattle.blink_generation.proofs.pool.draw_pages.Goals as goal

pub returns-then-join_pages-clause-part : goal.returns-then-join_pages-clause-part
returns-then-join_pages-clause-part c =
    let live = c.args.live.now in
    let left = c.pages_in_pool-left.result in
    let end = c.pages_in_pool-left.ensures.end in
    let some = c.in_ok-more.ensures.some in
    let first = c.in_ok-more.ensures.first in
    let joined = c.if-left-has.true in
    let order = c.requires.in_order in
    part_of_fewer live.counts.numbers live.places c.args.least (c.args.least - c.len.result) (length_of c.in_ok-more.more) _ (omega (arith, joined, first, order, some)) (omega arith)
    (part_of_all (length_of left) live.counts.numbers live.places _ (length_of c.in_ok-more.more) c.requires.common (omega (arith, end)) c.in_ok-more.ensures.part)

pub returns-then-exchange_pages-clause-part : goal.returns-then-exchange_pages-clause-part
returns-then-exchange_pages-clause-part c =
    let live = c.args.live.now in
    let left = c.pages_in_pool-left.result in
    let end = c.pages_in_pool-left.ensures.end in
    part_of_fewer live.counts.numbers live.places c.args.least c.args.least (length_of c.in_ok-drawn.drawn) _ (omega arith) (omega arith)
    (part_of_all (length_of left) live.counts.numbers live.places c.args.least (length_of c.in_ok-drawn.drawn) c.requires.common (omega (arith, end)) c.in_ok-drawn.ensures.part)

pub returns-then-join_pages-clause-none_lost : goal.returns-then-join_pages-clause-none_lost
returns-then-join_pages-clause-none_lost c number has = ⊎_elim
    (λ (its : IsWithin c.args.has number). let joined = c.if-left-has.true in let first = c.in_ok-more.ensures.first in let some = c.in_ok-more.ensures.some in inl (its.0, omega (arith, its, joined, first, some)))
    (λ (beside : IsWithin c.args.spare number). inr beside) has

pub returns-then-exchange_pages-clause-none_lost : goal.returns-then-exchange_pages-clause-none_lost
returns-then-exchange_pages-clause-none_lost c number has = ⊎_elim
    (λ (its : IsWithin c.args.has number). inr its)
    (λ (beside : IsWithin c.args.spare number). absurd (let none = c.if-spare.false in omega (arith, none, beside))) has
