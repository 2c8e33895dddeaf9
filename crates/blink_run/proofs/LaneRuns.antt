-- A lane's run so far: what the operations that it has run leave of its pass, and what it has answered.
use Rattle.std.proofs.Common.{◌≡◌, ℕ, ◌+◌, ◌<◌, ◌≤◌, List, [], ◌∷◌, ◌++◌, length, get_or, drop, Some, Ok, Err, Bool, refl, ap, sym, ◌∙◌, subst, arith}
use mathlib.Core.Bool.{cond}
use Rattle.std.specs.Prelude.{Contains, IsErrOf, IsOk, Result, count_by, vec_capacity}
use Rattle.std.proofs.lemmas.List.{length-append}
use Rattle.std.proofs.lemmas.List.Elements.{Contains-append_right}
use Rattle.std.proofs.lemmas.List.Sums.{sum_by-append}
use Rattle.std.proofs.lemmas.Option.{slice_get-get_or}
use Rattle.std.specs.List.{slice_get}
use Rattle.blink_batch.specs.declared.Answer.{Answer}
use Rattle.blink_batch.specs.declared.Op.{Op}
use Rattle.blink_batch.specs.declared.Op.TheVariants.{Find}
use Rattle.blink_batch.specs.{operations_at, part_of, places_from, is_insert, answer_of, answers, key_of, map_after_all}
use Rattle.blink_batch.proofs.Offered.{answers-push, length-answers, map_after_all-push}
use Rattle.blink_live.specs.declared.Live.{Live}
use Rattle.blink_live.specs.declared.PassError.{PassError}
use Rattle.blink_live.specs.declared.PassError.TheVariants.{NotYours, Spent}
use Rattle.blink_live.specs.{inserts_left, deletes_left, IsPassOf, keys_of, share_of}
use Rattle.blink_run.specs.declared.live.lane.LaneRun.{LaneRun}
use Rattle.blink_run.specs.Lanes.{CanRun, HasRun, IsPassAfter, MayRun, uses_deletion, lane_ops}
use Rattle.blink_run.proofs.LaneSoFar.{lane_parts, lane_so_far, lane_so_far-all, lane_so_far-other, lane_so_far-own}

-- the run has done these operations of its lane
pub record HasDone (live : Live) (done : List Op) (before run : LaneRun) : Type 0 where
  pub its_own : IsPassOf live run.pass
  pub same_keys : keys_of run.pass ≡ keys_of before.pass
  pub share : share_of run.pass ≡ map_after_all (share_of before.pass) done
  pub inserts : inserts_left run.pass.pages + count_by is_insert done ≡ inserts_left before.pass.pages
  pub deletes : deletes_left run.pass.pages run.pass.rows + count_by uses_deletion done ≡ deletes_left before.pass.pages before.pass.rows
  pub answers_are : run.answers.items ≡ answers (share_of before.pass) done
  pub capacity : vec_capacity run.answers ≡ vec_capacity before.answers

count_by-append : {X : Type 0} (p : X → Bool) (xs ys : List X) → count_by p (xs ++ ys) ≡ count_by p xs + count_by p ys
count_by-append p xs ys = sum_by-append (λ x. cond (p x) 1 0) xs ys

module _ (live : Live) (before : LaneRun) where
  -- before the first
  pub none_done : IsPassOf live before.pass → before.answers.items ≡ [] → HasDone live [] before before
  none_done its none = record { its_own = its; same_keys = refl; share = refl; inserts = omega arith; deletes = omega arith; answers_are = none; capacity = refl }

  module _ (done : List Op) (op : Op) (run : LaneRun) (so_far : HasDone live done before run) where
    -- an operation of the lane can be run
    pub can_run : (ops rest : List Op) → MayRun live ops before → ops ≡ done ++ op ∷ rest → CanRun live op run
    can_run ops rest may parts =
        let inserts = count_by-append is_insert done (op ∷ rest) in
        let deletes = count_by-append uses_deletion done (op ∷ rest) in
        let one_insert = count_by-append is_insert (op ∷ []) rest in
        let one_delete = count_by-append uses_deletion (op ∷ []) rest in
        let long = length-append done (op ∷ rest) in
        let as_many = length-answers (share_of before.pass) done in
        let enough_inserts : count_by is_insert (done ++ op ∷ rest) ≤ inserts_left before.pass.pages = subst (λ (all : List Op). count_by is_insert all ≤ inserts_left before.pass.pages) parts may.inserts in
        let enough_deletes : count_by uses_deletion (done ++ op ∷ rest) ≤ deletes_left before.pass.pages before.pass.rows = subst (λ (all : List Op). count_by uses_deletion all ≤ deletes_left before.pass.pages before.pass.rows) parts may.deletes in
        let enough_room : length (done ++ op ∷ rest) ≤ vec_capacity before.answers = subst (λ (all : List Op). length all ≤ vec_capacity before.answers) parts may.room in
        let its : Contains ops op = subst (λ (all : List Op). Contains all op) (sym parts) (Contains-append_right done (op ∷ rest) op (0, omega arith, refl)) in
        let left_inserts = so_far.inserts in
        let left_deletes = so_far.deletes in
        let so_many : length run.answers.items ≡ length done = ap length so_far.answers_are ∙ as_many in
        let same_room = so_far.capacity in
        record {
          its_own = so_far.its_own;
          key = subst (λ (keys : List ℕ). Contains keys (key_of op)) (sym so_far.same_keys) ((may.keys (key_of op)).1 (op, its, refl));
          inserts = omega arith;
          deletes = omega arith;
          room = omega arith;
        }

    -- and is done then
    pub one_done : (next : LaneRun) → IsPassAfter live op run.pass next.pass → next.answers.items ≡ run.answers.items ++ answer_of (share_of run.pass) op ∷ [] → vec_capacity next.answers ≡ vec_capacity run.answers
        → HasDone live (done ++ op ∷ []) before next
    one_done next after given same =
        let inserts = count_by-append is_insert done (op ∷ []) in
        let deletes = count_by-append uses_deletion done (op ∷ []) in
        let left_inserts = so_far.inserts in
        let left_deletes = so_far.deletes in
        let now_inserts = after.inserts in
        let now_deletes = after.deletes in
        record {
          its_own = after.its_own;
          same_keys = after.same_keys ∙ so_far.same_keys;
          share = after.share ∙ (ap (λ share. map_after_all share (op ∷ [])) so_far.share ∙ sym (map_after_all-push (share_of before.pass) done op));
          inserts = omega arith;
          deletes = omega arith;
          answers_are = given ∙ (ap (λ share. run.answers.items ++ answer_of share op ∷ []) so_far.share ∙ (ap (λ so. so ++ answer_of (map_after_all (share_of before.pass) done) op ∷ []) so_far.answers_are ∙ sym (answers-push (share_of before.pass) done op)));
          capacity = same ∙ so_far.capacity;
        }

  -- when all are done the lane has run
  pub all_done : (ops : List Op) (run : LaneRun) → MayRun live ops before → HasDone live ops before run → HasRun live ops run
  all_done ops run may done = record {
    its_own = done.its_own;
    keys = λ key. rw done.same_keys (may.keys key);
    share = share_of before.pass;
    began = λ key its. may.share key (rw (sym done.same_keys) its);
    answers_are = done.answers_are;
    ended = done.share;
  }

-- ---- at a place of the lane

module _ (live : Live) (ops : List Op) (lanes : List ℕ) (worker place : ℕ) (before run : LaneRun) (long : length lanes ≡ length ops) (within : place < length lanes) where
  there : slice_get ops place ≡ Some (get_or ops place (Find 0))
  there = slice_get-get_or ops place (Find 0) (omega arith)

  own_lane : get_or lanes place 0 ≡ worker → slice_get lanes place ≡ Some worker
  own_lane own = slice_get-get_or lanes place 0 within ∙ ap Some own

  -- the place's operation can be run
  pub can_run_here : get_or lanes place 0 ≡ worker → MayRun live (lane_ops ops lanes worker) before → HasDone live (lane_so_far ops lanes worker place) before run → CanRun live (get_or ops place (Find 0)) run
  can_run_here own may so_far =
      can_run live before (lane_so_far ops lanes worker place) (get_or ops place (Find 0)) run so_far (lane_ops ops lanes worker)
      (operations_at ops (part_of lanes worker (drop (place + 1) (places_from 0 lanes)))) may (lane_parts ops lanes worker place (get_or ops place (Find 0)) there (own_lane own))

  -- and is done then
  pub one_done_here : get_or lanes place 0 ≡ worker → HasDone live (lane_so_far ops lanes worker place) before run → (next : LaneRun) → IsPassAfter live (get_or ops place (Find 0)) run.pass next.pass
      → next.answers.items ≡ run.answers.items ++ answer_of (share_of run.pass) (get_or ops place (Find 0)) ∷ [] → vec_capacity next.answers ≡ vec_capacity run.answers → HasDone live (lane_so_far ops lanes worker (place + 1)) before next
  one_done_here own so_far next after given same =
      subst (λ (done : List Op). HasDone live done before next) (sym (lane_so_far-own ops lanes worker place (get_or ops place (Find 0)) there (own_lane own)))
      (one_done live before (lane_so_far ops lanes worker place) (get_or ops place (Find 0)) run so_far next after given same)

  -- another's leaves all as it was
  pub other_here : (get_or lanes place 0 ≡ worker → ⊥) → HasDone live (lane_so_far ops lanes worker place) before run → HasDone live (lane_so_far ops lanes worker (place + 1)) before run
  other_here other so_far = subst (λ (done : List Op). HasDone live done before run) (sym (lane_so_far-other ops lanes worker place within other)) so_far

-- at the batch's end the lane has run
pub ended_here : (live : Live) (ops : List Op) (lanes : List ℕ) (worker place : ℕ) (before run : LaneRun) → length lanes ≤ place → MayRun live (lane_ops ops lanes worker) before
    → HasDone live (lane_so_far ops lanes worker place) before run → HasRun live (lane_ops ops lanes worker) run
ended_here live ops lanes worker place before run past may so_far =
    all_done live before (lane_ops ops lanes worker) run may (subst (λ (done : List Op). HasDone live done before run) (lane_so_far-all ops lanes worker place past) so_far)

-- ---- a call of a pass

-- a call that is refused in neither way isn't refused
pub not_refused : (given : Result Answer PassError) → (¬ IsErrOf given NotYours) → (¬ IsErrOf given Spent) → IsOk given
not_refused (Ok answer) yours left = search
not_refused (Err NotYours) yours left = absurd (yours refl)
not_refused (Err Spent) yours left = absurd (left refl)
