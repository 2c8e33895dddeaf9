-- A lawfully cut batch answers and leaves what one thread does.
use Rattle.std.proofs.Common.{◌≡◌, List, length, map, Option, Some, ap, sym, ◌∙◌, subst}
use Rattle.std.proofs.lemmas.List.{length-map}
use Rattle.blink_batch.specs.declared.Answer.{Answer}
use Rattle.blink_batch.specs.declared.Entry.{Entry}
use Rattle.blink_batch.proofs.Offered.{IsAscending-map_after_all, one_thread_answers, one_thread_map}
use Rattle.blink_store.specs.{PlainStore}
use Rattle.blink_steps.specs.Headline.{IsOneThread}
use Rattle.blink_steps.specs.Promises.{IsLawfullyCut}
use Rattle.blink_steps.specs.Run.{PlainRun, tree_state_of}
use Rattle.blink_steps.specs.RunInvariant.{RunInvariant}
use Rattle.blink_machine.specs.{HasEntries, IsMapOf}
use Rattle.blink_steps.specs.World.{HasEnded}
use Rattle.blink_steps.proofs.runs.RunStatements.{RunLaws}

-- at the end a lawfully cut batch has one thread's answers, and the tree has its entries
pub one_thread : RunLaws → (start : PlainStore) (run : PlainRun) → ((entries : List Entry) → IsMapOf start entries → RunInvariant entries run) → (entries : List Entry) → IsMapOf start entries
    → IsLawfullyCut run → HasEnded run → IsOneThread start run
one_thread laws start run invariant some some_is lawful ended =
    let whole = (laws.ended_run_is_whole some run (invariant some some_is) ended).whole_order in
    let answered : length run.outcome.answers ≡ length run.ops = (invariant some some_is).shaped.an_answer_each in
    record {
      same_answers = λ entries is_map.
          let found = laws.ended_run_is_answered entries run (invariant entries is_map) ended in
          let long : length found.given ≡ length run.ops = sym (length-map found.given Some) ∙ sym (ap (λ (xs : List (Option Answer)). length xs) found.all_given) ∙ answered in
          found.all_given ∙ ap (λ (xs : List Answer). map Some xs) (one_thread_answers entries run.ops run.assignment.workers run.assignment.lanes run.outcome.order found.given lawful whole long found.in_order);
      same_entries = λ entries is_map. record {
        ascending = IsAscending-map_after_all entries run.ops is_map.ascending;
        kept = subst (λ (after : List Entry). HasEntries (tree_state_of run) after)
            (one_thread_map entries run.ops run.assignment.workers run.assignment.lanes run.outcome.order is_map.ascending lawful whole)
            (invariant entries is_map).decided.kept;
      };
    }
