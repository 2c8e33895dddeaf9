-- What all lanes answer and leave together: what one thread does.
use Rattle.std.proofs.Common.{◌≡◌, ℕ, zero, suc, ◌+◌, ◌<◌, ◌⊎◌, List, [], ◌∷◌, length, get_or, map, drop, Some, refl, ap, sym, ◌∙◌, subst, inl, inr, arith}
use Rattle.std.proofs.lemmas.Bool.{cases_eq, cases_lt}
use Rattle.std.proofs.lemmas.List.{length-map}
use Rattle.std.proofs.lemmas.List.Elements.{Contains-append_right}
use Rattle.std.proofs.lemmas.Option.{get_or_from_slice_get, slice_get-get_or, slice_get-map, slice_get_past, slice_get_within}
use Rattle.std.specs.Prelude.{option_map}
use Rattle.std.specs.List.{All, Contains, slice_get}
use Rattle.blink_batch.specs.declared.Answer.{Answer}
use Rattle.blink_batch.specs.declared.Entry.{Entry}
use Rattle.blink_batch.specs.declared.Op.{Op}
use Rattle.blink_batch.specs.{IsLawfulCut, answers, key_of, map_after_all, lane_of, operations_at, part_of, places_from, IsAscending, pointer_of}
use Rattle.blink_batch.proofs.Offered.{IsAscending-map_after_all, IsKeyOfLane, IsShareFor, lane_answers-at_place, lane_map, lane_within, length-answers, length-operations_at, same_map_from_pointers, untouched_by_batch}
use Rattle.blink_live.specs.declared.Keeper.{Keeper}
use Rattle.blink_live.specs.declared.Live.{Live}
use Rattle.blink_live.specs.declared.Pass.{Pass}
use Rattle.blink_live.specs.{IsPassOf, opening_of, passes_out, IsMerge}
use Rattle.blink_live.proofs.Offered.{known_entries-opening}
use Rattle.blink_store.proofs.Offered.{same_at_each}
use Rattle.blink_run.specs.declared.live.lane.LaneRun.{LaneRun}
use Rattle.blink_run.specs.Lanes.{AreGathered, HasDealtAll, HasRun, HaveRun, HaveRunLanes, IsKeyOfOne, lane_ops, rank_in_lane}
use Rattle.blink_run.proofs.LaneSoFar.{lane_parts, lane_so_far}

-- what stands at a place
element_at : {X : Type 0} (xs : List X) (i : ℕ) → i < length xs → (x : X) × (slice_get xs i ≡ Some x)
element_at [] i within = absurd (omega arith)
element_at (x ∷ xs) zero within = (x, refl)
element_at (x ∷ xs) (suc i) within = element_at xs i (omega arith)

-- a key of the lane is that of one of its operations
pub key_of_one : (ops : List Op) (lanes : List ℕ) (worker key : ℕ) → IsKeyOfLane ops lanes worker key → IsKeyOfOne (lane_ops ops lanes worker) key
key_of_one ops lanes worker key (place, op, there, own, its) =
    let rest = operations_at ops (part_of lanes worker (drop (place + 1) (places_from 0 lanes))) in
    (op, subst (λ (all : List Op). Contains all op) (sym (lane_parts ops lanes worker place op there own)) (Contains-append_right (lane_so_far ops lanes worker place) (op ∷ rest) op (0, omega arith, refl)), its)

-- an operation is on the key, or none is
key_or_none : (ops : List Op) (key : ℕ) → ((place : ℕ) × (op : Op) × (slice_get ops place ≡ Some op) × (key_of op ≡ key)) ⊎ ((place : ℕ) (op : Op) → slice_get ops place ≡ Some op → ¬ key_of op ≡ key)
key_or_none [] key = inr (λ place op there. absurd (let none = slice_get_past {X = Op} [] place (omega arith) in cc))
key_or_none (first ∷ ops) key = elim (cases_eq (key_of first) key) [
  | inl same ↦ inl (0, first, refl, same)
  | inr ne ↦ elim (key_or_none ops key) [
    | inl (place, op, there, its) ↦ inl (suc place, op, there, its)
    | inr none ↦ inr (λ place op there. behind place op there ne none)
  ]
]
  where
    behind : (place : ℕ) (op : Op) → slice_get (first ∷ ops) place ≡ Some op → (¬ key_of first ≡ key) → ((place : ℕ) (op : Op) → slice_get ops place ≡ Some op → ¬ key_of op ≡ key) → ¬ key_of op ≡ key
    behind zero op there ne none = let same : first ≡ op = cc in rw (sym same) ne
    behind (suc place) op there ne none = none place op there

module _ (live : Live) (ops : List Op) (workers : ℕ) (lanes : List ℕ) (runs : List LaneRun) (lawful : IsLawfulCut ops workers lanes) (have : HaveRun live ops workers lanes runs) where
  -- each lane has answered all of its operations
  pub whole_lanes : (worker : ℕ) (run : LaneRun) → slice_get runs worker ≡ Some run → length run.answers.items ≡ length (lane_of lanes worker)
  whole_lanes worker run is =
      let has = have.each worker run is in
      ap length has.answers_are ∙ (length-answers has.share (lane_ops ops lanes worker) ∙ length-operations_at ops (lane_of lanes worker) (lane_within ops lanes worker lawful.a_lane_each))

  -- each pass is the table's
  pub its_passes : All (IsPassOf live) (map (λ (run : LaneRun). run.pass) runs)
  its_passes k other within =
      let f : LaneRun → Pass = λ run. run.pass in
      let found = element_at runs k (let long = length-map runs f in omega arith) in
      let here : slice_get (map f runs) k ≡ Some (found.0).pass = slice_get-map f runs k ∙ ap (option_map f) found.1 in
      rw (get_or_from_slice_get (map f runs) k (found.0).pass other here) (have.each k found.0 found.1).its_own

  -- none is missing
  pub none_missing : (keeper : Keeper) → HasDealtAll live ops workers keeper → ¬ (length (map (λ (run : LaneRun). run.pass) runs) < passes_out keeper)
  none_missing keeper dealt less =
      let long = length-map runs (λ (run : LaneRun). run.pass) in
      let as_many = have.as_many in
      let count = dealt.dealt in
      absurd (omega arith)

  -- ---- an operation's place

  module _ (place : ℕ) (within : place < length ops) where
    abbrev worker_here : ℕ
    worker_here = get_or lanes place 0

    own_lane : slice_get lanes place ≡ Some worker_here
    own_lane = let long = lawful.a_lane_each in slice_get-get_or lanes place 0 (omega arith)

    is_worker : worker_here < workers
    is_worker = let long = lawful.a_lane_each in lawful.lanes_are_workers place 0 (omega arith)

    -- its lane has a run
    run_here : (run : LaneRun) × (slice_get runs worker_here ≡ Some run)
    run_here = element_at runs worker_here (let as_many = have.as_many in let below = is_worker in omega arith)

  -- the share that a run began with maps its keys as the opening entries do
  share_for : (m : List Entry) → opening_of live ≡ m → (worker : ℕ) (run : LaneRun) (has : HasRun live (lane_ops ops lanes worker) run) → IsShareFor ops lanes worker m has.share
  share_for m opening worker run has key its = has.began key ((has.keys key).1 (key_of_one ops lanes worker key its)) ∙ ap (λ (entries : List Entry). pointer_of entries key) opening

  -- so gathered answers are one thread's
  pub all_answers : (m : List Entry) → opening_of live ≡ m → (given : List Answer) → AreGathered lanes runs given → given ≡ answers m ops
  all_answers m opening given gathered = same_at_each given (answers m ops) (λ place. elim (cases_lt place (length ops)) [
    | inl within ↦
        let own = own_lane place within in
        let found = run_here place within in
        let has = have.each (worker_here place within) found.0 found.1 in
        gathered.each place (worker_here place within) found.0 own found.1
        ∙ (ap (λ (its : List Answer). slice_get its (rank_in_lane lanes (worker_here place within) place)) has.answers_are
        ∙ lane_answers-at_place ops workers lanes (worker_here place within) m has.share lawful (share_for m opening (worker_here place within) found.0 has) place own)
    | inr past ↦
        let long = lawful.a_lane_each in
        let as_many = gathered.one_each in
        slice_get_past given place (omega arith) ∙ sym (slice_get_past (answers m ops) place (let answered = length-answers m ops in omega arith))
  ])

  -- and so is the merge of the shares
  pub all_entries : (m entries : List Entry) (keeper : Keeper) → opening_of live ≡ m → HasDealtAll live ops workers keeper → IsMerge live keeper (map (λ (run : LaneRun). run.pass) runs) entries → IsAscending m → IsAscending entries
      → entries ≡ map_after_all m ops
  all_entries m entries keeper opening dealt merge up_m up = same_map_from_pointers entries (map_after_all m ops) up (IsAscending-map_after_all m ops up_m) (λ key. elim (key_or_none ops key) [
    | inl (place, op, there, is) ↦
        let within : place < length ops = slice_get_within ops place op there in
        let worker = worker_here place within in
        let found = run_here place within in
        let has = have.each worker found.0 found.1 in
        let its : IsKeyOfLane ops lanes worker key = (place, op, there, own_lane place within, is) in
        let f : LaneRun → Pass = λ run. run.pass in
        merge.dealt worker key (found.0).pass (slice_get-map f runs worker ∙ ap (option_map f) found.1) ((has.keys key).1 (key_of_one ops lanes worker key its))
        ∙ (ap (λ (share : List Entry). pointer_of share key) has.ended
        ∙ lane_map ops workers lanes worker m has.share lawful (share_for m opening worker found.0 has) key its)
    | inr none ↦
        merge.others key (λ taken.
        let found = dealt.taken key taken in
        let (place, within, at) = found.1 in
        none place found.0 (slice_get-get_or ops place found.0 within ∙ ap Some at) found.2)
        ∙ (ap (λ (kept : List Entry). pointer_of kept key) (known_entries-opening live keeper dealt.none_seen ∙ opening) ∙ sym (untouched_by_batch m ops key none))
  ])

-- ---- passes and answers that are given together

module _ (live : Live) (ops : List Op) (workers : ℕ) (lanes : List ℕ) (passes : List Pass) (given : List Answer) (lawful : IsLawfulCut ops workers lanes) (ran : HaveRunLanes live ops workers lanes passes given) where
  -- each pass is the table's
  pub passes_are_its : All (IsPassOf live) passes
  passes_are_its = subst (λ (all : List Pass). All (IsPassOf live) all) (sym ran.its_passes) (its_passes live ops workers lanes ran.runs lawful ran.have_run)

  -- none is missing
  pub no_pass_missing : (keeper : Keeper) → HasDealtAll live ops workers keeper → ¬ (length passes < passes_out keeper)
  no_pass_missing keeper dealt =
      subst (λ (all : List Pass). ¬ (length all < passes_out keeper)) (sym ran.its_passes) (none_missing live ops workers lanes ran.runs lawful ran.have_run keeper dealt)

  -- the answers are one thread's
  pub given_answers : (m : List Entry) → opening_of live ≡ m → given ≡ answers m ops
  given_answers m opening = all_answers live ops workers lanes ran.runs lawful ran.have_run m opening given ran.gathered

  -- and so are the entries
  pub merged_entries : (m entries : List Entry) (keeper : Keeper) → opening_of live ≡ m → HasDealtAll live ops workers keeper → IsMerge live keeper passes entries → IsAscending m → IsAscending entries
      → entries ≡ map_after_all m ops
  merged_entries m entries keeper opening dealt merge up_m up =
      all_entries live ops workers lanes ran.runs lawful ran.have_run m entries keeper opening dealt (subst (λ (all : List Pass). IsMerge live keeper all entries) ran.its_passes merge) up_m up
