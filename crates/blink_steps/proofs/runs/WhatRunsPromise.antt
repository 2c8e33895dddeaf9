-- What a run promises of its writes, of its answers, and of each key that is present.
use Rattle.std.proofs.Common.{◌≡◌, ℕ, ◌+◌, ◌<◌, inl, inr, Some, List, sym, ap, ◌∙◌, subst, arith}
use Rattle.std.proofs.lemmas.Bool.{cases_lt}
use Rattle.blink_batch.specs.{map_after_all, operations_at}
use Rattle.blink_page.specs.{value_at, IsRising}
use Rattle.blink_page.proofs.Offered.{value_at-above}
use Rattle.blink_page.specs.declared.limits.TheConstants.{GREATEST_KEY}
use Rattle.blink_rest.proofs.Offered.{entries_ascend}
use Rattle.blink_machine.specs.declared.step.Step.{Step}
use Rattle.blink_machine.specs.{Steps, pairs_of}
use Rattle.blink_steps.specs.Run.{tree_state_of}
use Rattle.blink_machine.specs.StepLaw.{StepLaw}
use Rattle.blink_machine.proofs.Offered.{value_at-pairs_of, pointer_in_leaf, TreeLaws}
use Rattle.blink_steps.proofs.runs.OperationOfTurn.{turn_is_step, next_is_busy}
use Rattle.blink_steps.proofs.runs.RunStatements.{NextIsUnanswered, PresentIsReached, WritesAreOwn}

-- an operation without an answer has none at its place
pub next_is_unanswered : NextIsUnanswered
next_is_unanswered entries run worker place m next invariant is_next unanswered =
    (next_is_busy entries run worker place m next invariant is_next).same_answer ∙ ap Some unanswered

-- a write goes to a page that the writer has latched, or to a free number
pub writes_are_own : StepLaw → WritesAreOwn
writes_are_own laws entries old new taken invariant turn number writes = elim (turn_is_step old taken new turn) [
  | inl step ↦ (laws.invariant_gives_order (tree_state_of old) invariant.invariant).writes_its_own (tree_state_of new) taken.worker number taken.before taken.after step.its
      (subst (λ (s : Step). Steps (tree_state_of old) taken.worker taken.before s taken.after (tree_state_of new)) writes step.steps)
  | inr passed ↦ absurd (let idle = passed.0 in cc)
]

-- a key that rising entries have is below their end
key_below : (key value to : ℕ) (entries : List (ℕ × ℕ)) → IsRising 0 entries to → value_at key entries ≡ Some value → key < to
key_below key value to entries rising there = elim (cases_lt key to) [
  | inl below ↦ below
  | inr past ↦ absurd (let none = value_at-above key 0 entries to rising past in cc)
]

-- a key that is present is reached
pub present_is_reached : TreeLaws → PresentIsReached
present_is_reached laws entries run key pointer invariant there =
    let tree_state = tree_state_of run in
    let tree = invariant.invariant.1.lawful.tree in
    let kept = invariant.decided.kept in
    let present : value_at key (pairs_of (map_after_all entries (operations_at run.ops run.outcome.order))) ≡ Some pointer = value_at-pairs_of key (map_after_all entries (operations_at run.ops run.outcome.order)) ∙ there in
    let below = key_below key pointer (GREATEST_KEY + 1) (pairs_of (map_after_all entries (operations_at run.ops run.outcome.order))) (entries_ascend tree_state.fan tree_state.prime tree_state.pages _ kept) present in
    let reached = laws.keys_are_reached tree_state.fan tree_state.prime tree_state.pages invariant.invariant.0 key tree (omega arith) in
    let of_level = laws.cells_are_of_level tree_state.fan tree_state.prime tree_state.pages invariant.invariant.0 0 reached.cell tree reached.stands in
    record {
      root = reached.root;
      is_root = reached.is_root;
      number = reached.cell.number;
      leaf = reached.cell.page;
      there = of_level.there;
      is_leaf = of_level.has_level;
      reached = reached.reached;
      has_entry = sym (pointer_in_leaf tree_state.fan tree_state.prime tree_state.pages invariant.invariant.0 tree laws (map_after_all entries (operations_at run.ops run.outcome.order)) key reached.cell kept reached.stands reached.belongs) ∙ there;
    }
