-- What is decided, after a move: one more operation where it is a deciding step, and else what was decided before.
use Rattle.std.proofs.Common.{◌≡◌, ℕ, zero, suc, ◌+◌, ◌<◌, true, false, Option, Some, None, List, [], ◌∷◌, ◌++◌, length, count_by, set, get_or, take, if◌then◌else◌, refl, ap, sym, ◌∙◌, subst, arith}
use Rattle.std.proofs.lemmas.List.{length-append}
use Rattle.std.proofs.lemmas.List.Elements.{All-push, All-same, Contains-append_left, Contains-get_or, Contains-push}
use Rattle.std.proofs.lemmas.List.Sums.{sum_by-set}
use Rattle.std.proofs.lemmas.Option.{get_or_from_slice_get, slice_get_within}
use Rattle.std.proofs.lemmas.Slice.Zip.{get_or-zip, length-zip}
use Rattle.std.specs.List.{All, Contains, slice_get, zip}
use Rattle.blink_batch.specs.declared.Entry.{Entry}
use Rattle.blink_batch.specs.declared.Op.{Op}
use Rattle.blink_batch.specs.declared.Answer.{Answer}
use Rattle.blink_batch.specs.{answer_of, answers, map_after, map_after_all, operations_at, part_of, places_from}
use Rattle.blink_batch.proofs.Offered.{answers-push, length-answers, length-operations_at, map_after_all-push, operations_at-push, part_of-push_other, part_of-push_own, part_of_first-own, zip-push}
use Rattle.blink_store.proofs.Offered.{slice_get-set_other, slice_get-set_same}
use Rattle.blink_steps.specs.Run.{PlainRun, tree_state_of}
use Rattle.blink_steps.specs.Outcome.{decides_now}
use Rattle.blink_steps.specs.RunInvariant.{is_answered}
use Rattle.blink_steps.specs.Decided.{AnswersSoFar, IsDecided}
use Rattle.blink_machine.specs.{HasEntries}

-- ---- lists

-- to write at a place what stands there changes nothing
pub set_same : {X : Type 0} (xs : List X) (i : ℕ) (x : X) → slice_get xs i ≡ Some x → set xs i x ≡ xs
set_same [] i x there = refl
set_same (y ∷ xs) zero x there = let same : y ≡ x = cc in ap (λ z. z ∷ xs) (sym same)
set_same (y ∷ xs) (suc i) x there = ap (λ rest. y ∷ rest) (set_same xs i x there)

-- one more answer at a place that had none
pub one_more_answered : (given : List (Option Answer)) (i : ℕ) (answer : Answer) → slice_get given i ≡ Some None → count_by is_answered (set given i (Some answer)) ≡ count_by is_answered given + 1
one_more_answered given i answer there =
    let count = sum_by-set (λ (o : Option Answer). if is_answered o then 1 else 0) given i (Some answer) None (slice_get_within given i None there) in
    let none : get_or given i None ≡ None = get_or_from_slice_get given i None None there in
    let exact = rw none at count in
    omega arith

-- a place that wasn't in the order yet is decided and its answer written: the answers are still those of the run
pub AnswersSoFar-push : (m : List Entry) (ops : List Op) (order : List ℕ) (given : List (Option Answer)) (i : ℕ) (op : Op) (a : Answer) → All (λ place. place < length ops) order
    → AnswersSoFar m ops order given → slice_get ops i ≡ Some op → (Contains order i → ⊥) → i < length given → a ≡ answer_of (map_after_all m (operations_at ops order)) op
    → AnswersSoFar m ops (order ++ i ∷ []) (set given i (Some a))
AnswersSoFar-push m ops order given i op a within in_order there fresh fits is_answer =
    let P : ℕ × Answer → Type 0 = λ answered. slice_get (set given i (Some a)) answered.0 ≡ Some (Some answered.1) in
    let run = answers m (operations_at ops order) in
    let long : length run ≡ length order = length-answers m (operations_at ops order) ∙ length-operations_at ops order within in
    let old : All P (zip order run) = λ k d inside.
    let low : k < length order = (let both = length-zip order run in omega arith) in
    let pair = get_or-zip order run k d low (omega arith) in
    let told = rw pair at (in_order k d inside) in
    let other : get_or order k d.0 ≡ i → ⊥ = λ e. fresh (subst (Contains order) e (Contains-get_or order k d.0 low)) in
    rw pair (slice_get-set_other given i (get_or order k d.0) (Some a) other ∙ told) in
    let grown : zip (order ++ i ∷ []) (answers m (operations_at ops (order ++ i ∷ []))) ≡ zip order run ++ (i, a) ∷ [] =
    rw (operations_at-push ops order i op there, answers-push m (operations_at ops order) op, ← is_answer) (zip-push order run i a (sym long)) in
    All-same P (zip (order ++ i ∷ []) (answers m (operations_at ops (order ++ i ∷ [])))) (zip order run ++ (i, a) ∷ []) grown (All-push P (zip order run) (i, a) old (slice_get-set_same given i (Some a) fits))

-- ---- whether the step decides

-- an answer that wasn't there before is a deciding step's
pub decides_from_none : (before after : Option Answer) (answer : Answer) → before ≡ None → after ≡ Some answer → decides_now before after ≡ true
decides_from_none None None answer was is = absurd (cc)
decides_from_none None (Some found) answer was is = refl
decides_from_none (Some kept) after answer was is = absurd (cc)

-- an answer that is as before isn't
pub decides_not_same : (before after : Option Answer) → after ≡ before → decides_now before after ≡ false
decides_not_same None None same = refl
decides_not_same None (Some found) same = absurd (cc)
decides_not_same (Some kept) after same = refl

-- ---- what is decided

module _ (entries : List Entry) (old new : PlainRun) (decided : IsDecided entries old) (same_ops : new.ops ≡ old.ops) (place : ℕ) where
  -- a step that doesn't decide leaves what is decided, if the tree has the same entries
  pub decided_stays : HasEntries (tree_state_of new) (map_after_all entries (operations_at old.ops old.outcome.order)) → new.outcome.order ≡ old.outcome.order → new.outcome.answers ≡ old.outcome.answers → IsDecided entries new
  decided_stays kept same_order same_answers = record {
    places_of_batch = rw (same_ops, same_order) decided.places_of_batch;
    answered = rw (same_ops, same_order, same_answers) decided.answered;
    undecided = rw (same_ops, same_order, same_answers) decided.undecided;
    kept = rw (same_ops, same_order) kept;
  }

  module _ (op : Op) (answer : Answer) (there : slice_get old.ops place ≡ Some op) (undecided : slice_get old.outcome.answers place ≡ Some None) (fresh : Contains old.outcome.order place → ⊥)
      (is_answer : answer ≡ answer_of (map_after_all entries (operations_at old.ops old.outcome.order)) op)
      (kept : HasEntries (tree_state_of new) (map_after (map_after_all entries (operations_at old.ops old.outcome.order)) op)) where
    -- the tree's entries are what the run of all that is decided leaves
    kept_more : HasEntries (tree_state_of new) (map_after_all entries (operations_at old.ops (old.outcome.order ++ place ∷ [])))
    kept_more = rw (operations_at-push old.ops old.outcome.order place op there, map_after_all-push entries (operations_at old.ops old.outcome.order) op) kept

    -- a place that isn't in the longer order has no answer
    undecided_more : (other : ℕ) → other < length old.ops → (Contains (old.outcome.order ++ place ∷ []) other → ⊥) → slice_get (set old.outcome.answers place (Some answer)) other ≡ Some None
    undecided_more other within outside =
        let differs : other ≡ place → ⊥ = λ same. outside (subst (Contains (old.outcome.order ++ place ∷ [])) (sym same) (Contains-push old.outcome.order place)) in
        slice_get-set_other old.outcome.answers place other (Some answer) differs ∙ decided.undecided other within (λ inside. outside (Contains-append_left old.outcome.order (place ∷ []) other inside))

    -- a deciding step adds its operation at the end
    pub decided_more : new.outcome.order ≡ old.outcome.order ++ place ∷ [] → new.outcome.answers ≡ set old.outcome.answers place (Some answer) → IsDecided entries new
    decided_more more_order more_answers =
        let inside : place < length old.outcome.answers = slice_get_within old.outcome.answers place None undecided in
        let within : place < length old.ops = slice_get_within old.ops place op there in
        record {
          places_of_batch = rw (same_ops, more_order) (All-push (λ n. n < length old.ops) old.outcome.order place decided.places_of_batch within);
          answered = rw (same_ops, more_order, more_answers) (AnswersSoFar-push entries old.ops old.outcome.order old.outcome.answers place op answer decided.places_of_batch decided.answered there fresh inside is_answer);
          undecided = rw (same_ops, more_order, more_answers) undecided_more;
          kept = rw (same_ops, more_order) kept_more;
        }

-- ---- as many as are answered

-- a step that doesn't decide leaves as many decided as answered
pub as_many_stay : (old new : PlainRun) → count_by is_answered old.outcome.answers ≡ length old.outcome.order → new.outcome.order ≡ old.outcome.order → new.outcome.answers ≡ old.outcome.answers
    → count_by is_answered new.outcome.answers ≡ length new.outcome.order
as_many_stay old new as_many same_order same_answers = rw (same_order, same_answers) as_many

-- and a deciding step has one more of both
pub as_many_more : (old new : PlainRun) (place : ℕ) (answer : Answer) → count_by is_answered old.outcome.answers ≡ length old.outcome.order → slice_get old.outcome.answers place ≡ Some None
    → new.outcome.order ≡ old.outcome.order ++ place ∷ [] → new.outcome.answers ≡ set old.outcome.answers place (Some answer) → count_by is_answered new.outcome.answers ≡ length new.outcome.order
as_many_more old new place answer as_many undecided more_order more_answers =
    let count : count_by is_answered (set old.outcome.answers place (Some answer)) ≡ count_by is_answered old.outcome.answers + 1 = one_more_answered old.outcome.answers place answer undecided in
    let long : length (old.outcome.order ++ place ∷ []) ≡ length old.outcome.order + 1 = length-append old.outcome.order (place ∷ []) in
    let both : count_by is_answered (set old.outcome.answers place (Some answer)) ≡ length (old.outcome.order ++ place ∷ []) = omega arith in
    rw (more_order, more_answers) both

-- ---- a worker's part

-- its own part is one place longer
pub part_decided-own : (lanes : List ℕ) (worker : ℕ) (order : List ℕ) (place : ℕ) → slice_get lanes place ≡ Some worker → part_of lanes worker order ≡ part_of lanes worker (take place (places_from 0 lanes)) → part_of lanes worker (order ++ place ∷ []) ≡ part_of lanes worker (take (place + 1) (places_from 0 lanes))
part_decided-own lanes worker order place own part = part_of-push_own lanes worker order place own ∙ ap (λ (some : List ℕ). some ++ place ∷ []) part ∙ sym (part_of_first-own lanes worker place own)

-- the others' stay
pub part_decided-other : (lanes : List ℕ) (worker : ℕ) (order : List ℕ) (place : ℕ) → slice_get lanes place ≡ Some worker → (other : ℕ) → (other ≡ worker → ⊥) → part_of lanes other (order ++ place ∷ []) ≡ part_of lanes other order
part_decided-other lanes worker order place own other differs = part_of-push_other lanes other order place worker own (λ same. differs (sym same))
