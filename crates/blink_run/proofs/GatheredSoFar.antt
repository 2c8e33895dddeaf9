-- The answers of lanes gathered so far, and how far each lane has been read.
use Rattle.std.proofs.Common.{◌≡◌, ◌≢◌, ℕ, ◌+◌, ◌<◌, List, [], ◌∷◌, ◌++◌, length, get_or, set, replicate, Some, refl, ap, sym, ◌∙◌, subst, inl, inr, arith}
use Rattle.std.proofs.lemmas.Bool.{cases_eq}
use Rattle.std.proofs.lemmas.List.{get_or-replicate, get_or-set_other, get_or-set_same, length-append, length-replicate, length-set}
use Rattle.std.proofs.lemmas.Option.{get_or_from_slice_get, slice_get-get_or, slice_get_within}
use Rattle.std.specs.List.{slice_get}
use Rattle.std.specs.Prelude.{vec_len}
use Rattle.blink_batch.specs.{AreLanes, lane_of}
use Rattle.blink_batch.specs.declared.Answer.{Answer}
use Rattle.blink_batch.proofs.Offered.{lane_rank, part_of_first-other, part_of_first-own}
use Rattle.blink_store.proofs.Offered.{slice_get-push_other, slice_get-push_same}
use Rattle.blink_run.specs.declared.live.lane.LaneRun.{LaneRun}
use Rattle.blink_run.specs.Lanes.{AreGathered, rank_in_lane}

-- the places before this one have their answers, and each lane's next answer is that of its rank here
pub record IsGatheredTo (lanes : List ℕ) (runs : List LaneRun) (place : ℕ) (given : List Answer) (next : List ℕ) : Type 0 where
  pub one_each : length given ≡ place
  pub each : (other worker : ℕ) (run : LaneRun) → other < place → slice_get lanes other ≡ Some worker → slice_get runs worker ≡ Some run → slice_get given other ≡ slice_get run.answers.items (rank_in_lane lanes worker other)
  pub ranks : (worker : ℕ) → worker < length next → get_or next worker 0 ≡ rank_in_lane lanes worker place

-- ---- ranks

-- a lane's rank is below its length
pub rank_below : (lanes : List ℕ) (worker place : ℕ) → slice_get lanes place ≡ Some worker → rank_in_lane lanes worker place < length (lane_of lanes worker)
rank_below lanes worker place own = (lane_rank lanes worker place own).0

rank_more : (lanes : List ℕ) (worker place : ℕ) → slice_get lanes place ≡ Some worker → rank_in_lane lanes worker (place + 1) ≡ rank_in_lane lanes worker place + 1
rank_more lanes worker place own = ap length (part_of_first-own lanes worker place own) ∙ length-append _ (place ∷ [])

rank_same : (lanes : List ℕ) (worker other place : ℕ) → slice_get lanes place ≡ Some worker → worker ≢ other → rank_in_lane lanes other (place + 1) ≡ rank_in_lane lanes other place
rank_same lanes worker other place own ne = ap length (part_of_first-other lanes other place (slice_get_within lanes place worker own) (λ same. ne (sym (get_or_from_slice_get lanes place worker 0 own) ∙ same)))

-- ---- one answer more

module _ (lanes : List ℕ) (runs : List LaneRun) (place worker : ℕ) (run : LaneRun) (given : List Answer) (next : List ℕ) (own : slice_get lanes place ≡ Some worker) (its : slice_get runs worker ≡ Some run)
    (so_far : IsGatheredTo lanes runs place given next) where
  pub one_more : (answer : Answer) → slice_get run.answers.items (rank_in_lane lanes worker place) ≡ Some answer → IsGatheredTo lanes runs (place + 1) (given ++ answer ∷ []) (set next worker (rank_in_lane lanes worker place + 1))
  one_more answer here = record {
    one_each = length-append given (answer ∷ []) ∙ ap (λ n. n + 1) so_far.one_each;
    each = λ other of its_run below its_lane is. elim (cases_eq other place) [
      | inl same ↦
          let at : slice_get (given ++ answer ∷ []) other ≡ Some answer = rw (same, sym so_far.one_each) (slice_get-push_same given answer) in
          let lane : Some of ≡ Some worker = sym its_lane ∙ (ap (slice_get lanes) same ∙ own) in
          let of_is : of ≡ worker = cc in
          let run_is : Some its_run ≡ Some run = sym is ∙ (ap (slice_get runs) of_is ∙ its) in
          let same_run : its_run ≡ run = cc in
          at ∙ rw (same_run, of_is, same) (sym here)
      | inr ne ↦ slice_get-push_other given other answer (λ same. ne (same ∙ so_far.one_each)) ∙ so_far.each other of its_run (omega arith) its_lane is
    ];
    ranks = λ other below.
        let within : other < length next = subst (λ n. other < n) (length-set next worker (rank_in_lane lanes worker place + 1)) below in
        elim (cases_eq worker other) [
          | inl same ↦ rw (sym same) (get_or-set_same next worker (rank_in_lane lanes worker place + 1) 0 (subst (λ n. n < length next) (sym same) within) ∙ sym (rank_more lanes worker place own))
          | inr ne ↦ get_or-set_other next worker other (rank_in_lane lanes worker place + 1) 0 (λ same. ne (sym same)) ∙ (so_far.ranks other within ∙ sym (rank_same lanes worker other place own ne))
        ];
  }

-- ---- at a place

-- before the first place nothing is gathered
pub none_gathered : (lanes : List ℕ) (runs : List LaneRun) (n : ℕ) → IsGatheredTo lanes runs 0 [] (replicate n 0)
none_gathered lanes runs n = record {
  one_each = refl;
  each = λ other worker run below. absurd (omega arith);
  ranks = λ worker below. get_or-replicate n worker 0 0 (subst (λ long. worker < long) (length-replicate n 0) below);
}

module _ (workers : ℕ) (cut_lanes lanes : List ℕ) (same : lanes ≡ cut_lanes) (are : AreLanes workers cut_lanes) (runs : List LaneRun) (as_many : length runs ≡ workers)
    (whole_cut : (worker : ℕ) (run : LaneRun) → slice_get runs worker ≡ Some run → length run.answers.items ≡ length (lane_of cut_lanes worker))
    (place : ℕ) (given : List Answer) (next : List ℕ) (so_far : IsGatheredTo lanes runs place given next) (sixty_four : length next ≡ 64)
    (worker : ℕ) (default : LaneRun) (within : place < length lanes) (is : worker ≡ get_or lanes place 0) where
  own : get_or lanes place 0 ≡ worker
  own = sym is

  whole : (other : ℕ) (run : LaneRun) → slice_get runs other ≡ Some run → length run.answers.items ≡ length (lane_of lanes other)
  whole = rw same whole_cut

  allowed : worker < workers
  allowed = rw (is, same) (are.lanes_are_workers place 0 (subst (λ (all : List ℕ). place < length all) same within))

  its : worker < length runs
  its = let below = allowed in omega arith

  known : worker < length next
  known = let below = allowed in let most = are.allowed.1 in omega arith

  its_place : slice_get lanes place ≡ Some worker
  its_place = slice_get-get_or lanes place 0 within ∙ ap Some own

  its_run : slice_get runs worker ≡ Some (get_or runs worker default)
  its_run = slice_get-get_or runs worker default its

  -- the lane's next answer is there
  pub has_next : get_or next worker 0 < vec_len (get_or runs worker default).answers
  has_next =
      let below = rank_below lanes worker place its_place in
      let rank = so_far.ranks worker known in
      let long = whole worker (get_or runs worker default) its_run in
      let as_long = (get_or runs worker default).answers.ok in
      omega arith

  -- and the place's
  pub one_more_here : (absent : Answer) → IsGatheredTo lanes runs (place + 1) (given ++ get_or (get_or runs worker default).answers.items (get_or next worker 0) absent ∷ []) (set next worker (get_or next worker 0 + 1))
  one_more_here absent =
      let rank = so_far.ranks worker known in
      let at : slice_get (get_or runs worker default).answers.items (rank_in_lane lanes worker place) ≡ Some (get_or (get_or runs worker default).answers.items (get_or next worker 0) absent)
      = subst (λ n. slice_get (get_or runs worker default).answers.items n ≡ Some (get_or (get_or runs worker default).answers.items (get_or next worker 0) absent)) rank
      (slice_get-get_or (get_or runs worker default).answers.items (get_or next worker 0) absent (let as_long = (get_or runs worker default).answers.ok in let below = has_next in omega arith)) in
      subst (λ n. IsGatheredTo lanes runs (place + 1) (given ++ get_or (get_or runs worker default).answers.items (get_or next worker 0) absent ∷ []) (set next worker (n + 1))) (sym rank)
      (one_more lanes runs place worker (get_or runs worker default) given next its_place its_run so_far (get_or (get_or runs worker default).answers.items (get_or next worker 0) absent) at)

-- behind the last place all are gathered
pub all_gathered : (lanes : List ℕ) (runs : List LaneRun) (place : ℕ) (given : List Answer) (next : List ℕ) → IsGatheredTo lanes runs place given next → place ≡ length lanes → AreGathered lanes runs given
all_gathered lanes runs place given next so_far end = record {
  one_each = so_far.one_each ∙ end;
  each = λ other worker run its_lane is. so_far.each other worker run (let below = slice_get_within lanes other worker its_lane in omega arith) its_lane is;
}
