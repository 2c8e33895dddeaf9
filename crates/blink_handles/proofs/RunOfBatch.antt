-- A run of one worker at its end: its answers and its map are those of one thread.
use Rattle.std.proofs.Common.{◌≡◌, Option, Some, List, [], ◌∷◌, count_by, length, map, refl, ap, sym, ◌∙◌, subst}
use Rattle.std.proofs.lemmas.List.{length-map}
use Rattle.blink_batch.specs.declared.Answer.{Answer}
use Rattle.blink_batch.specs.declared.Op.{Op}
use Rattle.blink_batch.specs.{Assignment, IsLawfulCut, answers, is_insert, map_after_all}
use Rattle.blink_batch.proofs.Offered.{length-answers}
use Rattle.blink_index.specs.{MapIsKept, NoOtherMapIsKept, map_of}
use Rattle.blink_machine.specs.{IsMapOf}
use Rattle.blink_store.specs.{PlainStore}
use Rattle.blink_steps.specs.{HasEnded, IsOneThread, IsPromised, IsStart, IsWorldOf, KeepsItsPromises, KeepsItsStart, PlainWorld, SameBatch}
use Rattle.blink_handles.specs.declared.raw.RawAnswer.{RawAnswer}
use Rattle.blink_handles.specs.declared.raw.RawOperation.{RawOperation}
use Rattle.blink_handles.specs.Raw.{AreOperations, op_of, raw_answer, raw_given}
use Rattle.blink_handles.specs.Runs.{HasPagesFor, HasRunToEnd}
use Rattle.blink_steps.proofs.Offered.{fan_stays, pages_stay_few}

pub run_done : (before : PlainStore) (ops : List Op) (assignment : Assignment) (first last : PlainWorld) → IsStart before ops assignment first
    → IsLawfulCut ops assignment.workers assignment.lanes → KeepsItsStart first last → SameBatch first.run last.run → IsPromised last → HasEnded last.run
    → MapIsKept → NoOtherMapIsKept → HasRunToEnd before ops last
run_done before ops assignment first last begins lawful same_start same_batch promised ended the_map no_other =
    let is_world : IsWorldOf before last = same_start before begins.is_world in
    let kept : KeepsItsPromises before last is_world = promised before is_world in
    let same_ops : last.run.ops ≡ ops = same_batch.same_ops ∙ begins.same_ops in
    let same_assignment : last.run.assignment ≡ assignment = same_batch.same_assignment ∙ begins.same_assignment in
    let cut : IsLawfulCut last.run.ops last.run.assignment.workers last.run.assignment.lanes =
    subst (λ (xs : List Op). IsLawfulCut xs last.run.assignment.workers last.run.assignment.lanes) (sym same_ops)
    (subst (λ (a : Assignment). IsLawfulCut ops a.workers a.lanes) (sym same_assignment) lawful) in
    let one : IsOneThread before last.run = kept.one_thread cut ended in
    let is_map : IsMapOf before (map_of before) = the_map before begins.is_world.may_begin.at_rest in
    let after : IsMapOf last.run.shared.store (map_after_all (map_of before) ops) =
    subst (λ (xs : List Op). IsMapOf last.run.shared.store (map_after_all (map_of before) xs)) same_ops (one.same_entries (map_of before) is_map) in
    let given : last.run.outcome.answers ≡ map Some (answers (map_of before) ops) =
    one.same_answers (map_of before) is_map ∙ ap (λ (xs : List Op). map Some (answers (map_of before) xs)) same_ops in
    record {
      ended = ended;
      one_each = ap (λ (xs : List (Option Answer)). length xs) given ∙ length-map (answers (map_of before) ops) Some ∙ length-answers (map_of before) ops;
      same_answers = given;
      same_fan = fan_stays before last is_world;
      few_pages = subst (λ (xs : List Op). HasPagesFor (count_by is_insert xs) before last.run.shared.store) same_ops (pages_stay_few before last is_world kept);
      same_map = sym (no_other last.run.shared.store (map_after_all (map_of before) ops) (kept.ended ended).at_rest after.kept);
    }

-- the caller's operations are as many as those that they mean
pub as_many : (raws : List RawOperation) (ops : List Op) → AreOperations raws ops → length raws ≡ length ops
as_many raws ops same = sym (length-map raws op_of) ∙ ap (λ (xs : List (Option Op)). length xs) same ∙ length-map ops Some

-- where no answer is missing, each is given
pub each_given : (given : List Answer) → map raw_given (map Some given) ≡ map raw_answer given
each_given [] = refl
each_given (answer ∷ given) = ap (λ (raws : List RawAnswer). raw_answer answer ∷ raws) (each_given given)
