-- A batch that is too large, among parts that a replay runs one after another.
use Rattle.std.proofs.Common.{◌≡◌, ◌==◌, ℕ, ◌+◌, ◌≤◌, Bool, true, false, List, [], ◌∷◌, ◌++◌, inl, inr, cond, count_by, refl, ap, sym, ◌∙◌, subst, append_assoc, arith}
use Rattle.std.proofs.lemmas.Bool.Decides.{nat_tests}
use Rattle.std.proofs.lemmas.List.Sums.{sum_by-append}
use Rattle.blink_batch.specs.declared.Part.{Part}
use Rattle.blink_batch.specs.declared.Part.TheVariants.{Batch, Scan, Page}
use Rattle.blink_store.specs.{PlainStore}
use Rattle.blink_replay.specs.Replay.{IsRefusedMemory, RunsBatch}
use Rattle.blink_replay.specs.Served.{is_batch}
use Rattle.blink_replay.specs.ServedReplay.{HaveRunParts, HaveTooLarge, IsPartRefusal, IsPartsFault, RunsParts, TellsPart, TellsTooLarge, scheduled_turns}
use Rattle.blink_settings.specs.declared.error.ServeError.{ServeError}

-- ---- the parts before a batch

-- of the empty schedule nothing is taken
none_taken : (left : ℕ) → scheduled_turns left [] ≡ []
none_taken left = by_test (left == 0)
  where
    by_test : (test : Bool) → cond {A = List ℕ} test [] [] ≡ []
    by_test true = refl
    by_test false = refl

-- and nothing of any, where a batch comes after
none_taken_before : (left : ℕ) (schedule : List ℕ) → 1 ≤ left → scheduled_turns left schedule ≡ []
none_taken_before left schedule more = by_test (left == 0) refl
  where
    by_test : (test : Bool) → (left == 0) ≡ test → cond {A = List ℕ} test schedule [] ≡ []
    by_test false is = refl
    by_test true is = absurd (grind (arith, nat_tests))

module _ (workers : ℕ) where
  -- one part more is run without a schedule
  run_more : (before between after : PlainStore) (prefix : List Part) (part : Part) (old new trace : List ℕ) → RunsParts workers [] before prefix between trace → TellsPart workers [] between part old new after
      → HaveRunParts workers before (prefix ++ part ∷ []) after
  run_more before between after [] (Batch ops) old new trace runs tells =
      (tells.0 ++ [], (after, tells.0, [], subst (λ (store : PlainStore). RunsBatch workers [] store ops after tells.0) runs.0 tells.1, (refl, refl), refl))
  run_more before between after [] (Scan lo hi) old new trace runs tells = ([], (tells.0 ∙ runs.0, refl))
  run_more before between after [] (Page lo n) old new trace runs tells = ([], (tells.0 ∙ runs.0, refl))
  run_more before between after (Batch ops ∷ prefix) part old new trace runs tells =
      let more = run_more runs.0 between after prefix part old new runs.2 runs.4 tells in
      let first : RunsBatch workers (scheduled_turns (count_by is_batch (prefix ++ part ∷ [])) []) before ops runs.0 runs.1 =
      subst (λ (schedule : List ℕ). RunsBatch workers schedule before ops runs.0 runs.1) (none_taken (count_by is_batch prefix) ∙ sym (none_taken (count_by is_batch (prefix ++ part ∷ [])))) runs.3 in
      (runs.1 ++ more.0, (runs.0, runs.1, more.0, first, more.1, refl))
  run_more before between after (Scan lo hi ∷ prefix) part old new trace runs tells = run_more before between after prefix part old new trace runs tells
  run_more before between after (Page lo n ∷ prefix) part old new trace runs tells = run_more before between after prefix part old new trace runs tells

  -- the parts are some that were run and others; they were run without a schedule, if a batch is among the others
  pub record HasRunBefore (start : PlainStore) (parts others : List Part) (tree : PlainStore) : Type 0 where
    pub prefix : List Part
    pub in_order : parts ≡ prefix ++ others
    pub ran : 1 ≤ count_by is_batch others → HaveRunParts workers start prefix tree

  module _ (start : PlainStore) (parts : List Part) (part : Part) (others : List Part) (tree : PlainStore) (so_far : HasRunBefore start parts (part ∷ others) tree) where
    pub one_run : (schedule old new : List ℕ) (next : PlainStore) → TellsPart workers (scheduled_turns (count_by is_batch others) schedule) tree part old new next → HasRunBefore start parts others next
    one_run schedule old new next tells = record {
      prefix = so_far.prefix ++ part ∷ [];
      in_order = so_far.in_order ∙ sym (append_assoc so_far.prefix (part ∷ []) others);
      ran = λ more.
          let both : count_by is_batch (part ∷ others) ≡ count_by is_batch (part ∷ []) + count_by is_batch others = sum_by-append (λ (p : Part). cond (is_batch p) 1 0) (part ∷ []) others in
          let ran = so_far.ran (omega arith) in
          run_more start tree next so_far.prefix part old new ran.0 ran.1
          (subst (λ (taken : List ℕ). TellsPart workers taken tree part old new next) (none_taken_before (count_by is_batch others) schedule more) tells);
    }

    -- the part is a batch that is too large
    pub found_too_large : (error : ServeError) → IsPartRefusal tree part error → TellsTooLarge workers start parts error
    found_too_large error refusal too_large = by_part part refl refusal
      where
        not_memory : IsRefusedMemory error → ⊥
        not_memory (inl of_step) = absurd (cc)
        not_memory (inr of_trace) = absurd (cc)

        by_part : (p : Part) → part ≡ p → IsPartRefusal tree p error → HaveTooLarge workers start parts
        by_part (Batch ops) is (inl told) = record {
          prefix = so_far.prefix;
          ops = ops;
          rest = others;
          in_order = so_far.in_order ∙ ap (λ (p : Part). so_far.prefix ++ p ∷ others) is;
          between = tree;
          ran =
              let both : count_by is_batch (Batch ops ∷ others) ≡ count_by is_batch (Batch ops ∷ []) + count_by is_batch others = sum_by-append (λ (p : Part). cond (is_batch p) 1 0) (Batch ops ∷ []) others in
              so_far.ran (rw is (omega arith));
          too_large = told.1;
        }
        by_part (Batch ops) is (inr memory) = absurd (not_memory memory)
        by_part (Scan lo hi) is memory = absurd (not_memory memory)
        by_part (Page lo n) is memory = absurd (not_memory memory)

-- a part's refusal is one of parts
pub part_refused : (tree : PlainStore) (part : Part) (error : ServeError) → IsPartRefusal tree part error → IsPartsFault error
part_refused tree (Batch ops) error (inl told) = inl told.0
part_refused tree (Batch ops) error (inr memory) = inr memory
part_refused tree (Scan lo hi) error memory = inr memory
part_refused tree (Page lo n) error memory = inr memory
