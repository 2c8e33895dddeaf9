use Rattle.std.proofs.Common.{nat_lt, rules}
use Rattle.std.proofs.lemmas.List.Sorted.{answers_always}
use Rattle.blink_batch.proofs.LaneAmongRanges.{ascending_by_answer}
use Rattle.blink_batch.proofs.cut.are_ascending.Goals as goal

-- the closure answers whether a bound is below the next
pub returns : goal.returns
returns c = ascending_by_answer c.args.bounds.now c.is_sorted_by.result (c.is_sorted_by.ensures.cases (λ bound next. nat_lt bound next) (answers_always _ _ _ (λ f a r g called. search rules)))
