-- Operations carried out one after another: none, and one more.
use Rattle.std.proofs.Common.{◌≡◌, ◌<◌, ◌+◌, ℕ, zero, suc, Some, List, [], ◌∷◌, ◌++◌, drop, get_or, length, map, set, take, refl, sym, ap, ◌∙◌, add-one, arith}
use Rattle.std.proofs.Math.Seq.{take-suc}
use Rattle.std.proofs.lemmas.List.{drop-set-lt, map-append, take_more_set}
use Rattle.blink_batch.specs.declared.Answer.{Answer}
use Rattle.blink_batch.specs.declared.Entry.{Entry}
use Rattle.blink_batch.specs.declared.Op.{Op}
use Rattle.blink_batch.specs.{answer_of, answers, map_after, map_after_all}
use Rattle.blink_batch.proofs.Offered.{answers-push, map_after_all-push}
use Rattle.blink_index.specs.{map_of}
use Rattle.blink_store.specs.{PlainStore}
use Rattle.blink_handles.specs.declared.raw.RawAnswer.{RawAnswer}
use Rattle.blink_handles.specs.declared.raw.RawOperation.{RawOperation}
use Rattle.blink_handles.specs.Edits.{HasApplied}
use Rattle.blink_handles.specs.Raw.{op_of, raw_answer}

drop-one_more : {X : Type 0} (n : ℕ) (xs : List X) → drop (suc n) xs ≡ drop 1 (drop n xs)
drop-one_more zero xs = refl
drop-one_more (suc n) [] = refl
drop-one_more (suc n) (x ∷ xs) = drop-one_more n xs

-- before the first operation
pub none_applied : (before : PlainStore) (raws : List RawOperation) (places : List RawAnswer) → HasApplied before raws 0 places places before
none_applied before raws places = record {
  ops = [];
  are_first = refl;
  within = omega arith;
  same_answers = refl;
  others_stay = refl;
  same_map = refl;
  same_fan = refl;
}

-- after one more
pub one_more_applied : (before mid after : PlainStore) (raws : List RawOperation) (n : ℕ) (places given : List RawAnswer) (d : RawOperation) (op : Op) (answer : Answer)
    → HasApplied before raws n places given mid → n < length raws → n < length given → op_of (get_or raws n d) ≡ Some op → answer ≡ answer_of (map_of mid) op
    → map_of after ≡ map_after (map_of mid) op → after.fan ≡ mid.fan → HasApplied before raws (n + 1) places (set given n (raw_answer answer)) after
one_more_applied before mid after raws n places given d op answer applied inside place is_op answers_so maps same_fan = record {
  ops = applied.ops ++ op ∷ [];
  are_first =
      ap (map op_of) (rw add-one (take-suc raws n d inside))
      ∙ map-append op_of (take n raws) (get_or raws n d ∷ [])
      ∙ (λ i. applied.are_first i ++ is_op i ∷ [])
      ∙ sym (map-append Some applied.ops (op ∷ []));
  within = omega (arith, inside);
  same_answers =
      take_more_set given n (raw_answer answer) place
      ∙ (λ i. applied.same_answers i ++ raw_answer (answers_so i) ∷ [])
      ∙ ap (λ (entries : List Entry). map raw_answer (answers (map_of before) applied.ops) ++ raw_answer (answer_of entries op) ∷ []) applied.same_map
      ∙ sym (map-append raw_answer (answers (map_of before) applied.ops) (answer_of (map_after_all (map_of before) applied.ops) op ∷ []))
      ∙ ap (map raw_answer) (sym (answers-push (map_of before) applied.ops op));
  others_stay =
      drop-set-lt (n + 1) given n (raw_answer answer) (omega arith)
      ∙ rw add-one (drop-one_more n given ∙ ap (drop 1) applied.others_stay ∙ sym (drop-one_more n places));
  same_map = maps ∙ ap (λ (entries : List Entry). map_after entries op) applied.same_map ∙ sym (map_after_all-push (map_of before) applied.ops op);
  same_fan = same_fan ∙ applied.same_fan;
}
