use Rattle.std.proofs.Common.{◌≡◌, ◌<◌, ◌≤◌, ◌+◌, ◌∙◌, ℕ, List, length, get_or, ap, refl, subst, sym, inl, inr, arith}
use Rattle.std.proofs.lemmas.Bool.{cases_lt, false≢true}
use Rattle.std.proofs.lemmas.List.{get_or_read}
use Rattle.std.proofs.lemmas.List.Elements.{All-from_get_or}
use Rattle.blink_batch.specs.declared.cut.TheConstants.{WORKER_LIMIT}
use Rattle.blink_batch.specs.Cut.{AreLanes, IsFirstBadLane}
use Rattle.blink_batch.proofs.lanes.Lanes.new.Goals as goal

-- ---- the lanes, place by place

module _ (workers : ℕ) (lanes : List ℕ) (place len own lane : ℕ) (good : (other : ℕ) → other < place → get_or lanes other 0 < workers) where
  -- the lane that was read
  module _ (below : place < len) (is : len ≡ own) (long : own ≡ length lanes) (read : lane ≡ get_or lanes place lane) where
    within : place < length lanes
    within = omega (arith, below, is, long)

    here : lane ≡ get_or lanes place 0
    here = get_or_read lanes place lane within read 0

    -- is the first that is no worker's
    first_bad : workers ≤ lane → IsFirstBadLane workers lanes place
    first_bad bad = record { in_range = within; bad = subst (λ l. workers ≤ l) here bad; earlier_good = good }

    -- or one more that is a worker's
    one_more : lane < workers → (other : ℕ) → other < place + 1 → get_or lanes other 0 < workers
    one_more its other before = elim (cases_lt other place) [
      | inl earlier ↦ good other earlier
      | inr last ↦ let same : place ≡ other = omega (arith, before, last) in subst (λ at. get_or lanes at 0 < workers) same (subst (λ l. l < workers) here its)
    ]

  -- no lane is left
  all_good : len ≤ place → len ≡ own → own ≡ length lanes → (0 < workers) × (workers ≤ WORKER_LIMIT) → AreLanes workers lanes
  all_good past is long allowed = record {
    allowed = allowed;
    lanes_are_workers = All-from_get_or (λ l. l < workers) lanes 0 (λ other before. good other (omega (arith, before, past, is, long)));
  }

pub returns-then-index-workers-clause-taken : goal.returns-then-index-workers-clause-taken
returns-then-index-workers-clause-taken c =
    let first = first_bad c.args.workers c.args.lanes.items c.loop-place.place _ _ c.index.result.now c.loop-place.invariant c.loop-place-test.true c.len-place-end.ensures c.args.lanes.ok.0
    c.index.ensures c.if-index-workers.true in
    (λ taken. absurd (false≢true taken), λ given. let other = given.of_workers.lanes_are_workers c.loop-place.place 0 first.in_range in let bad = first.bad in absurd (omega (arith, other, bad)))

pub loop-place-preserved : goal.loop-place-preserved
loop-place-preserved c =
    one_more c.args.workers c.args.lanes.items c.loop-place.place _ _ c.index.result.now c.loop-place.invariant c.loop-place-test.true c.len-place-end.ensures c.args.lanes.ok.0
    c.index.ensures c.if-index-workers.false

pub invariant_of-result : goal.invariant_of-result
invariant_of-result c =
    let some = c.if-workers-eq0.false in
    all_good c.args.workers c.args.lanes.items c.loop-place.place _ _ 0 c.loop-place.invariant c.loop-place-test.false c.len-place-end.ensures c.args.lanes.ok.0
    (omega (arith, some), c.if-workers-gt-WORKER_LIMIT.false)

-- as many lanes as operations
pub returns-clause-taken : goal.returns-clause-taken
returns-clause-taken c =
    let some = c.if-workers-eq0.false in
    let good = all_good c.args.workers c.args.lanes.items c.loop-place.place _ _ 0 c.loop-place.invariant c.loop-place-test.false c.len-place-end.ensures c.args.lanes.ok.0
    (omega (arith, some), c.if-workers-gt-WORKER_LIMIT.false) in
    let long = sym c.args.lanes.ok.0 ∙ sym c.len.ensures ∙ c.if-len-ops.false ∙ ap length c.ops.ensures.ops in
    (λ taken. record { of_workers = good; a_lane_each = long }, λ given. refl)

-- more or fewer
pub returns-then-len-ops-clause-taken : goal.returns-then-len-ops-clause-taken
returns-then-len-ops-clause-taken c =
    (λ taken. absurd (false≢true taken), λ given. absurd (c.if-len-ops.true (c.len.ensures ∙ c.args.lanes.ok.0 ∙ given.a_lane_each ∙ sym (ap length c.ops.ensures.ops))))

-- no such number of workers
pub returns-then-workers-eq0-clause-taken : goal.returns-then-workers-eq0-clause-taken
returns-then-workers-eq0-clause-taken c = (
  λ taken. absurd (false≢true taken),
  λ given. let allowed = given.of_workers.allowed in elim c.then-workers-eq0.either [
    | inl none ↦ absurd (omega (arith, none, allowed))
    | inr many ↦ absurd (omega (arith, many, allowed))
  ],
)

-- the first bad lane is told
pub returns-then-index-workers-clause-refused : goal.returns-then-index-workers-clause-refused
returns-then-index-workers-clause-refused c =
    let some = c.if-workers-eq0.false in
    let long = sym c.args.lanes.ok.0 ∙ sym c.len.ensures ∙ c.if-len-ops.false ∙ ap length c.ops.ensures.ops in (
      (omega (arith, some), c.if-workers-gt-WORKER_LIMIT.false),
      long,
      first_bad c.args.workers c.args.lanes.items c.loop-place.place _ _ c.index.result.now c.loop-place.invariant c.loop-place-test.true c.len-place-end.ensures c.args.lanes.ok.0
          c.index.ensures c.if-index-workers.true,
    )
