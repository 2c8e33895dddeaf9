-- A worker's lane of a lawfully cut batch, run apart: over a share of the map, which maps the lane's keys as the map does.
use Rattle.std.proofs.Common.{◌≡◌, ℕ, suc, ◌+◌, ◌<◌, List, [], ◌∷◌, ◌++◌, length, map, get_or, take, drop, filter, Bool, true, Some, refl, ap, sym, ◌∙◌, subst, arith}
use Rattle.std.proofs.lemmas.Bool.{eq-eqb, eqb-true}
use Rattle.std.proofs.lemmas.List.{drop_more, get_or_default, length-append, take-append-drop}
use Rattle.std.proofs.lemmas.List.Elements.{All-filter, All-from_recursion, All-same, filter-append, filter_passes, recursion_from_All}
use Rattle.std.proofs.lemmas.Option.{get_or_from_slice_get, slice_get-get_or, slice_get_within}
use Rattle.std.proofs.lemmas.Slice.Zip.{get_or-zip, length-zip}
use Rattle.std.proofs.Math.Seq.{get_or-append_seam}
use Rattle.std.specs.List.{All, AllByRecursion, slice_get, zip}
use Rattle.blink_operation.specs.declared.entry.Entry.{Entry}
use Rattle.blink_operation.specs.declared.operation.Op.{Op}
use Rattle.blink_operation.specs.declared.operation.Op.TheVariants.{Find}
use Rattle.blink_operation.specs.declared.operation.Answer.{Answer}
use Rattle.blink_operation.specs.declared.operation.Answer.TheVariants.{Absent}
use Rattle.blink_operation.specs.PlainMap.{pointer_of}
use Rattle.blink_operation.specs.Operation.{key_of, answers, map_after, map_after_all}
use Rattle.blink_batch.specs.Cut.{IsLawfulCut}
use Rattle.blink_batch.specs.Order.{operations_at, is_worker, lane_of, part_of, places_from}
use Rattle.blink_batch.specs.Cell.{cell_answers, cell_after_all, is_on_key, on_key}
use Rattle.blink_batch.proofs.NextPlaces.{is_worker-own, lane_from_is_worker}
use Rattle.blink_batch.proofs.OneThread.{same_worker_from_key}
use Rattle.blink_batch.proofs.OperationsAtPlaces.{filter-filter, filter-map, get_or-places_from, length-answers, length-operations_at, length-places_from, map-op_at-places_from, op_at, operations_at-map, places_within, same_places}
use Rattle.blink_batch.proofs.PartsOfLanes.{passes_from_filter}
use Rattle.blink_batch.proofs.RunsByKey.{answers_on_key, every_weaker, pointer_of-map_after_all, pointer_of-map_after_other}

-- an operation of the worker's lane is on the key
abbrev pub IsKeyOfLane : List Op → List ℕ → ℕ → ℕ → Type 0
IsKeyOfLane ops lanes worker key = (place : ℕ) × (op : Op) × (slice_get ops place ≡ Some op) × (slice_get lanes place ≡ Some worker) × (key_of op ≡ key)

-- the share maps each of the lane's keys as the map does
abbrev pub IsShareFor : List Op → List ℕ → ℕ → List Entry → List Entry → Type 0
IsShareFor ops lanes worker map share = (key : ℕ) → IsKeyOfLane ops lanes worker key → pointer_of share key ≡ pointer_of map key

-- ---- the places of a lane

-- each place of a lane has the lane's worker
pub lane_place : (lanes : List ℕ) (worker i : ℕ) → i < length (lane_of lanes worker) → slice_get lanes (get_or (lane_of lanes worker) i 0) ≡ Some worker
lane_place lanes worker i within = lane_from_is_worker lanes worker (get_or (lane_of lanes worker) i 0) (filter_passes (λ place. is_worker worker (slice_get lanes place)) (places_from 0 lanes) i 0 within)

-- and is a place of the batch
pub lane_within : (ops : List Op) (lanes : List ℕ) (worker : ℕ) → length lanes ≡ length ops → All (λ place. place < length ops) (lane_of lanes worker)
lane_within ops lanes worker long =
    All-filter (λ place. is_worker worker (slice_get lanes place)) (λ place. place < length ops) (places_from 0 lanes)
    (All-from_recursion (λ place. place < length ops) (places_from 0 lanes) (places_within 0 lanes (length ops) (omega arith)))

-- the lane is its part up to a place of its own, that place, and its part behind
pub lane_at_place : (lanes : List ℕ) (worker place : ℕ) → slice_get lanes place ≡ Some worker
    → lane_of lanes worker ≡ part_of lanes worker (take place (places_from 0 lanes)) ++ place ∷ part_of lanes worker (drop (place + 1) (places_from 0 lanes))
lane_at_place lanes worker place own =
    let places = places_from 0 lanes in
    let within : place < length lanes = slice_get_within lanes place worker own in
    let long = length-places_from 0 lanes in
    let here : get_or places place 0 ≡ place = get_or-places_from 0 lanes place 0 within ∙ omega arith in
    let rest : drop place places ≡ place ∷ drop (place + 1) places = drop_more places place 0 (omega arith) ∙ ap (λ (n : ℕ). n ∷ drop (place + 1) places) here in
    ap (part_of lanes worker) (sym (take-append-drop place places))
    ∙ filter-append (λ n. is_worker worker (slice_get lanes n)) (take place places) (drop place places)
    ∙ ap (λ (r : List ℕ). part_of lanes worker (take place places) ++ part_of lanes worker r) rest
    ∙ rw (own, eq-eqb worker worker refl)

-- so a place of the worker's stands in the lane behind the lane's part up to it
pub lane_rank : (lanes : List ℕ) (worker place : ℕ) → slice_get lanes place ≡ Some worker
    → (length (part_of lanes worker (take place (places_from 0 lanes))) < length (lane_of lanes worker)) × (get_or (lane_of lanes worker) (length (part_of lanes worker (take place (places_from 0 lanes)))) 0 ≡ place)
lane_rank lanes worker place own =
    let before = part_of lanes worker (take place (places_from 0 lanes)) in
    let after = part_of lanes worker (drop (place + 1) (places_from 0 lanes)) in
    let whole : lane_of lanes worker ≡ before ++ place ∷ after = lane_at_place lanes worker place own in (
      subst (λ (r : List ℕ). length before < length r) (sym whole) (let long = length-append before (place ∷ after) in omega arith),
      ap (λ (r : List ℕ). get_or r (length before) 0) whole ∙ get_or-append_seam before place after 0,
    )

-- ---- a key of the lane

-- the operations on a key of the lane stand at the same places in the lane and in the batch
same_places_in_lane : (ops : List Op) (workers : ℕ) (lanes : List ℕ) (worker key : ℕ) → IsLawfulCut ops workers lanes → IsKeyOfLane ops lanes worker key
    → filter (λ place. is_on_key key (op_at ops place)) (lane_of lanes worker) ≡ filter (λ place. is_on_key key (op_at ops place)) (places_from 0 ops)
same_places_in_lane ops workers lanes worker key lawful (one, op, there, its_lane, own_key) =
    let on : ℕ → Bool = λ place. is_on_key key (op_at ops place) in
    let own : ℕ → Bool = λ place. is_worker worker (slice_get lanes place) in
    let long : length lanes ≡ length ops = lawful.a_lane_each in
    let key_there : key_of (op_at ops one) ≡ key = ap key_of (get_or_from_slice_get ops one op (Find 0) there) ∙ own_key in
    let stricter : (place : ℕ) → place < length ops → on place ≡ true → own place ≡ true = λ place within passes.
    is_worker-own lanes worker place (omega arith)
    (same_worker_from_key ops workers lanes lawful place one within (slice_get_within ops one op there) (eqb-true (key_of (op_at ops place)) key passes ∙ sym key_there) ∙ get_or_from_slice_get lanes one worker 0 its_lane) in
    ap (λ places. filter on (filter own places)) (same_places 0 lanes ops long)
    ∙ filter-filter on own (places_from 0 ops) (every_weaker (λ place. place < length ops) (λ place. on place ≡ true → own place ≡ true) stricter (places_from 0 ops) (places_within 0 ops (length ops) (omega arith)))

-- so the lane and the batch have the same operations on it, in one sequence
on_key-lane : (ops : List Op) (workers : ℕ) (lanes : List ℕ) (worker key : ℕ) → IsLawfulCut ops workers lanes → IsKeyOfLane ops lanes worker key → on_key key (operations_at ops (lane_of lanes worker)) ≡ on_key key ops
on_key-lane ops workers lanes worker key lawful its =
    ap (on_key key) (operations_at-map ops (lane_of lanes worker) (lane_within ops lanes worker lawful.a_lane_each))
    ∙ filter-map (is_on_key key) (op_at ops) (lane_of lanes worker)
    ∙ ap (map (op_at ops)) (same_places_in_lane ops workers lanes worker key lawful its)
    ∙ sym (filter-map (is_on_key key) (op_at ops) (places_from 0 ops))
    ∙ ap (on_key key) (map-op_at-places_from ops)

-- the places on it with their answers, in the lane's run on its share and in the batch's on the map
answered_in_lane : (ops : List Op) (workers : ℕ) (lanes : List ℕ) (worker : ℕ) (m share : List Entry) (key : ℕ) → IsLawfulCut ops workers lanes → IsShareFor ops lanes worker m share → IsKeyOfLane ops lanes worker key
    → filter (λ (answered : ℕ × Answer). is_on_key key (op_at ops answered.0)) (zip (lane_of lanes worker) (answers share (operations_at ops (lane_of lanes worker)))) ≡ filter (λ (answered : ℕ × Answer). is_on_key key (op_at ops answered.0)) (zip (places_from 0 ops) (answers m ops))
answered_in_lane ops workers lanes worker m share key lawful keeps its =
    let lane = lane_of lanes worker in
    let places = places_from 0 ops in
    let kept : List (ℕ × Answer) → List (ℕ × Answer) = λ all. filter (λ (answered : ℕ × Answer). is_on_key key (op_at ops answered.0)) all in
    let on : List ℕ → List ℕ = λ all. filter (λ place. is_on_key key (op_at ops place)) all in
    ap (λ run. kept (zip lane (answers share run))) (operations_at-map ops lane (lane_within ops lanes worker lawful.a_lane_each))
    ∙ answers_on_key (op_at ops) share lane key
    ∙ ap (λ cell. zip (on lane) (cell_answers cell (map (op_at ops) (on lane)))) (keeps key its)
    ∙ ap (λ some. zip some (cell_answers (pointer_of m key) (map (op_at ops) some))) (same_places_in_lane ops workers lanes worker key lawful its)
    ∙ sym (answers_on_key (op_at ops) m places key)
    ∙ ap (λ run. kept (zip places (answers m run))) (map-op_at-places_from ops)

-- ---- what the lane's run answers and leaves

-- the batch's answers stand at their places
own_answers : (m : List Entry) (ops : List Op) → All (λ (answered : ℕ × Answer). slice_get (answers m ops) answered.0 ≡ Some answered.1) (zip (places_from 0 ops) (answers m ops))
own_answers m ops k d within =
    let long = length-places_from 0 ops in
    let long_answers = length-answers m ops in
    let both = length-zip (places_from 0 ops) (answers m ops) in
    let inside : k < length ops = omega arith in
    let pair = get_or-zip (places_from 0 ops) (answers m ops) k d (omega arith) (omega arith) in
    let place : get_or (places_from 0 ops) k d.0 ≡ k = get_or-places_from 0 ops k d.0 inside ∙ omega arith in
    rw (pair, place) (slice_get-get_or (answers m ops) k d.1 (omega arith))

-- a lane's answers on its share are the batch's on the map, each at its operation's place
pub lane_answers : (ops : List Op) (workers : ℕ) (lanes : List ℕ) (worker : ℕ) (m share : List Entry) → IsLawfulCut ops workers lanes → IsShareFor ops lanes worker m share
    → (i : ℕ) → i < length (lane_of lanes worker) → slice_get (answers share (operations_at ops (lane_of lanes worker))) i ≡ slice_get (answers m ops) (get_or (lane_of lanes worker) i 0)
lane_answers ops workers lanes worker m share lawful keeps i within =
    let lane = lane_of lanes worker in
    let given = answers share (operations_at ops lane) in
    let run = zip lane given in
    let own_run = zip (places_from 0 ops) (answers m ops) in
    let all_within = lane_within ops lanes worker lawful.a_lane_each in
    let place = get_or lane i 0 in
    let answer = get_or given i Absent in
    let inside : place < length ops = all_within i 0 within in
    let key = key_of (op_at ops place) in
    let its : IsKeyOfLane ops lanes worker key = (place, op_at ops place, slice_get-get_or ops place (Find 0) inside, lane_place lanes worker i within, refl) in
    let P : ℕ × Answer → Type 0 = λ answered. slice_get (answers m ops) answered.0 ≡ Some answered.1 in
    let on : ℕ × Answer → Bool = λ answered. is_on_key key (op_at ops answered.0) in
    let parts : AllByRecursion P (filter on run) = recursion_from_All P (filter on run) (All-same P (filter on run) (filter on own_run) (answered_in_lane ops workers lanes worker m share key lawful keeps its) (All-filter on P own_run (own_answers m ops))) in
    let long : length given ≡ length lane = length-answers share (operations_at ops lane) ∙ length-operations_at ops lane all_within in
    let fits : i < length run = rw (length-zip lane given) (omega arith) in
    let here : get_or run i (place, answer) ≡ (place, answer) = get_or_default run i (place, answer) (0, Absent) fits ∙ get_or-zip lane given i (0, Absent) within (omega arith) in
    let told : slice_get (answers m ops) place ≡ Some answer = passes_from_filter P on run i (place, answer) fits here (eq-eqb key key refl) parts in
    slice_get-get_or given i Absent (omega arith) ∙ sym told

-- the same, told from a place of the worker's
pub lane_answers-at_place : (ops : List Op) (workers : ℕ) (lanes : List ℕ) (worker : ℕ) (m share : List Entry) → IsLawfulCut ops workers lanes → IsShareFor ops lanes worker m share
    → (place : ℕ) → slice_get lanes place ≡ Some worker → slice_get (answers share (operations_at ops (lane_of lanes worker))) (length (part_of lanes worker (take place (places_from 0 lanes)))) ≡ slice_get (answers m ops) place
lane_answers-at_place ops workers lanes worker m share lawful keeps place own =
    let rank = lane_rank lanes worker place own in
    lane_answers ops workers lanes worker m share lawful keeps (length (part_of lanes worker (take place (places_from 0 lanes)))) rank.0 ∙ ap (slice_get (answers m ops)) rank.1

-- and what it leaves under each of the lane's keys is what the batch leaves there
pub lane_map : (ops : List Op) (workers : ℕ) (lanes : List ℕ) (worker : ℕ) (m share : List Entry) → IsLawfulCut ops workers lanes → IsShareFor ops lanes worker m share
    → (key : ℕ) → IsKeyOfLane ops lanes worker key → pointer_of (map_after_all share (operations_at ops (lane_of lanes worker))) key ≡ pointer_of (map_after_all m ops) key
lane_map ops workers lanes worker m share lawful keeps key its =
    pointer_of-map_after_all share (operations_at ops (lane_of lanes worker)) key
    ∙ ap (λ cell. cell_after_all cell (on_key key (operations_at ops (lane_of lanes worker)))) (keeps key its)
    ∙ ap (cell_after_all (pointer_of m key)) (on_key-lane ops workers lanes worker key lawful its)
    ∙ sym (pointer_of-map_after_all m ops key)

-- ---- a key that a batch leaves alone

-- a batch leaves alone a key of none of its operations
pub untouched_by_batch : (m : List Entry) (ops : List Op) (key : ℕ) → ((place : ℕ) (op : Op) → slice_get ops place ≡ Some op → ¬ key_of op ≡ key) → pointer_of (map_after_all m ops) key ≡ pointer_of m key
untouched_by_batch m [] key none = refl
untouched_by_batch m (op ∷ ops) key none = untouched_by_batch (map_after m op) ops key (λ place. none (suc place)) ∙ pointer_of-map_after_other m op key (none 0 op refl)
