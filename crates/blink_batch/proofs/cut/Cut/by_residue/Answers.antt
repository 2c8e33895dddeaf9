use Rattle.std.proofs.Common.{◌%◌, ap, inl, inr, refl, arith}
use Rattle.blink_operation.specs.declared.operation.Op.TheVariants.{Find}
use Rattle.blink_batch.proofs.CutsByKey.{lanes_of_all, lawful_by_key, one_lane_more}
use Rattle.blink_batch.proofs.cut.Cut.by_residue.Goals as goal

-- one operation more has its lane
pub loop-op-preserved : goal.loop-op-preserved
loop-op-preserved c = record {
  cut = one_lane_more (λ key. key % c.args.workers) c.ops-op-items.result.now c.loop-op.op-index (Find 0) _ _ _ _ c.loop-op-test.true c.loop-op.invariant.cut c.key.ensures
      (ap (λ workers. c.key.result % workers) c.from.ensures) c.push_reserved.ensures.items;
  room = omega (arith, c.loop-op.invariant.room, c.push_reserved.ensures.capacity);
}

-- each has it at the end
pub returns-clause-lanes : goal.returns-clause-lanes
returns-clause-lanes c =
    lanes_of_all (λ key. key % c.args.workers) c.args.batch.now c.ops-op-items.result.now c.loop-op.op-index c.loop-op.lanes.items c.loop-op-test.false c.ops-op-items.ensures.ops c.loop-op.invariant.cut

-- the remainder is a function of the key
pub returns-clause-lawful : goal.returns-clause-lawful
returns-clause-lawful c = rw (returns-clause-lanes c) (lawful_by_key (λ key. key % c.args.workers) c.args.batch.now c.args.workers (λ key. omega arith))

-- and it is a worker
pub invariant_of-result : goal.invariant_of-result
invariant_of-result c =
    let lawful = lawful_by_key (λ key. key % c.args.workers) c.args.batch.now c.args.workers (λ key. omega arith) in
    record {
      allowed = (omega arith, omega arith);
      lanes_are_workers = rw (returns-clause-lanes c) lawful.lanes_are_workers;
    }

-- the number of workers was looked at first
pub returns-clause-bad_workers : goal.returns-clause-bad_workers
returns-clause-bad_workers c =
    let none = c.if-workers-eq0.false in
    let many = c.if-workers-gt-WORKER_LIMIT.false in
    (λ same. absurd (cc), λ bad. absurd (elim bad [ inl zero_workers ↦ none zero_workers | inr more ↦ omega (arith, more, many) ]))

pub returns-in-Err-clause-bad_workers : goal.returns-in-Err-clause-bad_workers
returns-in-Err-clause-bad_workers c =
    let none = c.if-workers-eq0.false in
    let many = c.if-workers-gt-WORKER_LIMIT.false in
    (λ same. absurd (cc), λ bad. absurd (elim bad [ inl zero_workers ↦ none zero_workers | inr more ↦ omega (arith, more, many) ]))

pub returns-then-workers-eq0-clause-memory : goal.returns-then-workers-eq0-clause-memory
returns-then-workers-eq0-clause-memory c = λ allowed. elim c.then-workers-eq0.either [
  | inl none ↦ absurd (omega (arith, none, allowed))
  | inr many ↦ absurd (omega (arith, many, allowed))
]

pub returns-then-workers-eq0-clause-bad_workers : goal.returns-then-workers-eq0-clause-bad_workers
returns-then-workers-eq0-clause-bad_workers c = (
  λ same. elim c.then-workers-eq0.either [
    | inl none ↦ inl none
    | inr many ↦ inr many.1
  ],
  λ bad. refl,
)
