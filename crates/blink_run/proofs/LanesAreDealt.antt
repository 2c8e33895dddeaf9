-- The lanes of a cut are dealt one after another: what the keeper has dealt and has left before each, and what each one's pass has.
use Rattle.std.proofs.Common.{◌≡◌, ℕ, ◌+◌, ◌<◌, ◌≤◌, List, [], length, take, Result, Ok, Err, IfOk, OnOk, ⊎_elim, inl, inr, ap, ◌∙◌, subst, arith}
use Rattle.std.specs.Prelude.{Contains, vec_capacity}
use Rattle.std.proofs.lemmas.List.Sorted.{Contains-permutation, IsPermutation-sym}
use Rattle.std.proofs.lemmas.Option.{get_or_from_slice_get, slice_get_within}
use Rattle.blink_batch.specs.declared.Op.{Op}
use Rattle.blink_batch.specs.declared.cut.TheConstants.{WORKER_LIMIT}
use Rattle.blink_batch.specs.{is_insert, IsLawfulCut, pointer_of}
use Rattle.blink_rows.specs.declared.span.Span.{Span}
use Rattle.blink_live.specs.declared.Keeper.{Keeper}
use Rattle.blink_live.specs.declared.Live.{Live}
use Rattle.blink_live.specs.{inserts_left, deletes_left, HasDealt, IsDealt, LacksAllowance, NoneIsTaken, keys_of, known_entries, seen_by, taken_of}
use Rattle.blink_live.proofs.Offered.{among_from_contains, entries_of_keep, known_entries-opening}
use Rattle.blink_run.specs.declared.live.lane.LaneRun.{LaneRun}
use Rattle.blink_run.specs.declared.live.needs.Needs.{Needs}
use Rattle.blink_run.specs.Lanes.{HasDealtAll, HasDealtBefore, IsKeyOfOne, IsNeeded, IsNewKeeper, MayRun, uses_deletion, lane_ops}
use Rattle.blink_run.proofs.ChangesOfLanes.{count_from-first, count_from-lane, deletes_dealt, deletes_rest, inserts_dealt, inserts_rest}
use Rattle.blink_run.proofs.KeysOfLanes.{key_of_batch, one_lane_a_key}

-- ---- a lane's pass

-- a pass that was dealt for what some operations need may run them
pub may_run : (live : Live) (old : Keeper) → seen_by old ≡ [] → (ops : List Op) (needs : Needs) (run : LaneRun) → IsNeeded ops needs → IsDealt live old needs.keys.items needs.inserts needs.deletes run.pass
    → run.answers.items ≡ [] → needs.operations ≤ vec_capacity run.answers → MayRun live ops run
may_run live old none_seen ops needs run needed dealt none_yet room = record {
  its_own = dealt.its_own;
  keys = λ key. (
    λ there. (needed.keys key).0 (back key there),
    λ one. Contains-permutation needs.keys.items (keys_of run.pass) key dealt.same_keys ((needed.keys key).1 one),
  );
  share = λ key there. ap (λ share. pointer_of share key) dealt.share
      ∙ (entries_of_keep needs.keys.items (known_entries live old) key (among_from_contains needs.keys.items key (back key there)) ∙ ap (λ entries. pointer_of entries key) (known_entries-opening live old none_seen));
  inserts = let left = ap inserts_left dealt.pages ∙ inserts_dealt old.pages.next needs.inserts in let asked = needed.inserts in omega (arith, asked, left);
  deletes =
      let left = ap (λ (s : Span × Span). deletes_left s.0 s.1) (λ i. (dealt.pages i, dealt.rows i)) ∙ deletes_dealt old.pages.next old.rows.next needs.inserts needs.deletes in
      let asked = needed.deletes in
      omega (arith, asked, left);
  none_yet = none_yet;
  room = let as_many = needed.as_many in omega (arith, as_many, room);
}
  where
    -- a key of the pass is one that is needed
    back : (key : ℕ) → Contains (keys_of run.pass) key → Contains needs.keys.items key
    back key there = Contains-permutation (keys_of run.pass) needs.keys.items key (IsPermutation-sym needs.keys.items (keys_of run.pass) dealt.same_keys) there

-- and so may the one that a deal returned
pub may_run_where : {E : Type 0} (live : Live) (old : Keeper) → seen_by old ≡ [] → (ops : List Op) (needs : Needs) → IsNeeded ops needs → (dealt : Result LaneRun E)
    → IfOk dealt (λ run. IsDealt live old needs.keys.items needs.inserts needs.deletes run.pass) → IfOk dealt (λ run. run.answers.items ≡ []) → IfOk dealt (λ run. needs.operations ≤ vec_capacity run.answers) → IfOk dealt (MayRun live ops)
may_run_where live old none_seen ops needs needed (Ok run) pass none_yet room = may_run live old none_seen ops needs run needed pass none_yet room
may_run_where live old none_seen ops needs needed (Err refusal) pass none_yet room = pass

-- what follows from there being a value
pub on_ok : {T E A B : Type 0} (result : Result T E) → (A → B) → OnOk result A → OnOk result B
on_ok (Ok value) then a = then a
on_ok (Err refusal) then a = a

-- ---- the keeper

-- a new one has dealt none
pub dealt_none : (live : Live) (ops : List Op) (lanes : List ℕ) (keeper : Keeper) → length lanes ≡ length ops → IsNewKeeper live ops keeper → HasDealtBefore live ops lanes 0 keeper
dealt_none live ops lanes keeper long new = record {
  its_own = new.its_own;
  taken = λ key there. absurd (let inside = (subst (λ (keys : List ℕ). Contains keys key) new.none_taken there).1 in omega (arith, inside));
  dealt = new.none_dealt;
  out = new.none_out;
  none_seen = new.none_seen;
  inserts = let all = count_from-first is_insert ops lanes long in let enough = new.inserts in omega (arith, all, enough);
  deletes = let all = count_from-first uses_deletion ops lanes long in let enough = new.deletes in omega (arith, all, enough);
}

-- one that has dealt all lanes has dealt no key but the batch's
pub dealt_all : (live : Live) (ops : List Op) (lanes : List ℕ) (workers : ℕ) (keeper : Keeper) → HasDealtBefore live ops lanes workers keeper → HasDealtAll live ops workers keeper
dealt_all live ops lanes workers keeper has = record {
  its_own = has.its_own;
  taken = λ key there. let found = has.taken key there in key_of_batch ops lanes found.0 key found.2;
  dealt = has.out;
  none_seen = has.none_seen;
}

module _ (live : Live) (ops : List Op) (lanes : List ℕ) (worker : ℕ) (keeper : Keeper) (needs : Needs) (has : HasDealtBefore live ops lanes worker keeper) (needed : IsNeeded (lane_ops ops lanes worker) needs) where
  -- the next lane's keys are free
  pub keys_are_free : (workers : ℕ) → IsLawfulCut ops workers lanes → NoneIsTaken (taken_of keeper) needs.keys.items
  keys_are_free workers lawful place key is = ⊎_elim
      (λ (before : Contains (taken_of keeper) key).
      let found = has.taken key before in
      let earlier = found.1 in
      let own : IsKeyOfOne (lane_ops ops lanes worker) key = (needed.keys key).0 (place, slice_get_within needs.keys.items place key is.at, get_or_from_slice_get needs.keys.items place key key is.at) in
      let same = one_lane_a_key ops workers lanes lawful key found.0 worker found.2 own in
      omega (arith, earlier, same))
      (λ (before : Contains (take place needs.keys.items) key). needed.each_once place key (record { at = is.at; again = inr before }))
      is.again

  -- the keeper has enough insertions for it
  enough_inserts : length lanes ≡ length ops → needs.inserts ≤ inserts_left keeper.pages
  enough_inserts long =
      let left = has.inserts in
      let asked = needed.inserts in
      let parts = count_from-lane is_insert ops lanes worker long in
      omega (arith, left, asked, parts)

  -- and enough deletions
  enough_deletes : length lanes ≡ length ops → needs.deletes ≤ deletes_left keeper.pages keeper.rows
  enough_deletes long =
      let left = has.deletes in
      let asked = needed.deletes in
      let parts = count_from-lane uses_deletion ops lanes worker long in
      omega (arith, left, asked, parts)

  -- so it lacks none
  pub changes_are_allowed : length lanes ≡ length ops → worker < WORKER_LIMIT → ¬ LacksAllowance keeper needs.inserts needs.deletes
  changes_are_allowed long few lacks = elim lacks [
    | inl inserts ↦ let enough = enough_inserts long in omega (arith, inserts, enough)
    | inr (inl deletes) ↦ let enough = enough_deletes long in omega (arith, deletes, enough)
    | inr (inr all) ↦ let dealt = has.dealt in omega (arith, all, dealt, few)
  ]

  -- and then it is dealt
  pub dealt_one_more : (long : length lanes ≡ length ops) (new : Keeper) → HasDealt live keeper new needs.keys.items needs.inserts needs.deletes → HasDealtBefore live ops lanes (worker + 1) new
  dealt_one_more long new dealt = record {
    its_own = dealt.its_own;
    taken = λ key there. ⊎_elim
        (λ (before : Contains (taken_of keeper) key). let found = has.taken key before in (found.0, (let earlier = found.1 in omega (arith, earlier)), found.2))
        (λ (own : Contains needs.keys.items key). (worker, omega arith, (needed.keys key).0 own))
        ((dealt.taken key).0 there);
    dealt = let one_more = dealt.one_more in let before = has.dealt in omega (arith, one_more, before);
    out = let one_more = dealt.one_more_out in let before = has.out in omega (arith, one_more, before);
    none_seen = dealt.same_seen ∙ has.none_seen;
    inserts =
        let left = ap inserts_left dealt.pages in
        let rest = inserts_rest keeper.pages keeper.rows needs.inserts needs.deletes (enough_inserts long) in
        let before = has.inserts in
        let asked = needed.inserts in
        let parts = count_from-lane is_insert ops lanes worker long in
        omega (arith, left, rest, before, asked, parts);
    deletes =
        let left = ap (λ (s : Span × Span). deletes_left s.0 s.1) (λ i. (dealt.pages i, dealt.rows i)) in
        let rest = deletes_rest keeper.pages keeper.rows needs.inserts needs.deletes (enough_inserts long) (enough_deletes long) in
        let before = has.deletes in
        let asked = needed.deletes in
        let parts = count_from-lane uses_deletion ops lanes worker long in
        omega (arith, left, rest, before, asked, parts);
  }
