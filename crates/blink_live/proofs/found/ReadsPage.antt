-- The load of a page word is the tree's read of the page.
use Rattle.std.proofs.Common.{◌≡◌, ℕ, suc, inl, inr, Option, Some, List, [], refl, sym, ap, ◌∙◌, subst, arith, ◌<◌, ◌≤◌, ◌++◌}
use Rattle.std.specs.Prelude.{slice_index}
use mathlib.Core.Option.{none}
use mathlib.Core.List.{append-nil}
use Rattle.atomic_table.specs.Table.{State, step, keeps, Allows}
use Rattle.blink_batch.specs.declared.Entry.{Entry}
use Rattle.blink_batch.specs.{FitsWords, answer_at, key_of, pointer_of}
use Rattle.blink_page.specs.{PlainPage, IsLawfulPage}
use Rattle.blink_page.specs.declared.limits.TheConstants.{MAX_FAN}
use Rattle.blink_rows.specs.{page_words}
use Rattle.blink_machine.specs.declared.machine.Next.TheVariants.{Finish, MoveRight}
use Rattle.blink_machine.specs.declared.machine.State.{State as MachineState}
use Rattle.blink_machine.specs.declared.machine.State.TheVariants.{Change as ToChange, Ended, Going, Leave, SplitNew, Want}
use Rattle.blink_machine.specs.declared.step.Step.TheVariants.{Moved}
use Rattle.blink_machine.specs.declared.step.Kind.TheVariants as kind
use Rattle.blink_machine.specs.{PlainMachine, NeedsPage, goes_on, Steps, reads_page, IsItsOperation, under_way, descent_bound, Decides, deciding, other, need_at, SeesOnItsWay, SeesPage, SeesUnderLatch, TellsItsKeys}
use Rattle.blink_machine.specs.TreeState.{TreeState}
use Rattle.blink_machine.proofs.Offered.{step_law, leaf_tells_its_keys, descent_bound_falls, has_answer_at_end}
use Rattle.blink_live.specs.declared.view.Plan.{Plan}
use Rattle.blink_live.specs.declared.view.Role.TheVariants.{Pass}
use Rattle.blink_live.specs.declared.view.View.{View}
use Rattle.blink_live.specs.Changes.{after}
use Rattle.blink_live.specs.AtomicSteps.{loads_page, LoadsPage, AnswersAfter, TellsStates}
use Rattle.blink_live.specs.Rule.{IsAppending, IsTable, IsTableAt, PageWordIs}
use Rattle.blink_live.specs.Views.{IsAnnounced, IsCommon, SeatState, appending_at, reading_page}
use Rattle.blink_live.specs.Words.{RowBegins, named_row}
use Rattle.blink_live.proofs.reuse.ReuseStaysSafe.{reads_named}
use Rattle.blink_live.proofs.table.LoadsKeepTable.{moved, load_keeps}
use Rattle.blink_live.proofs.table.SharesAreKnown.{share_is_known}
use Rattle.blink_live.proofs.table.MapsWithOneChange.{put_here, put_else}
use Rattle.blink_live.proofs.table.NextPageIsThere.{next_page_is_there}
use Rattle.blink_live.proofs.found.OperationBegins.{goes_on_as}

module _ (tree_state : TreeState) (worker number : ℕ) (m then : PlainMachine) (page : PlainPage) where
  read_step : NeedsPage m number → tree_state.pages number ≡ Some page → SeesPage m number page then
      → Steps tree_state worker m (Moved (kind.ReadPage number)) then (moved tree_state worker (goes_on then then.state))
  read_step needs there sees = reads_page number page needs there sees refl
      (record { same_fan = refl; same_prime = refl; same_pages = refl; same_holder = refl })
      (record { own = put_here tree_state.machines worker (goes_on then then.state); others = λ some_other ne. put_else tree_state.machines worker some_other (goes_on then then.state) ne })

-- what it answers is what its key maps to after the changes so far
answers_after : (kept : ℕ → Option ℕ) (tree_state : TreeState) (m then : PlainMachine) (now : List _) → ((key : ℕ) → pointer_of now key ≡ kept key) → Decides tree_state m then now → AnswersAfter kept m then
answers_after kept tree_state m then now is (deciding none_yet answered has_entries) = inr (none_yet, answered ∙ ap (λ (o : Option ℕ). Some (answer_at m.op o)) (is (key_of m.op)))
answers_after kept tree_state m then now is (other same has_entries) = inl same

-- a leaf that it has come to has the states after the changes so far
tells_states : (kept : ℕ → Option ℕ) (m : PlainMachine) (leaf : PlainPage) (now : List Entry) → ((key : ℕ) → pointer_of now key ≡ kept key) → TellsItsKeys m leaf now → TellsStates kept m leaf
tells_states kept m leaf now is leaf_tells = (leaf_tells.floor_below, λ key its. sym (leaf_tells.states key its) ∙ is key)

-- a page of some tree is lawful under the greatest fan
pub lawful_within : (fan : ℕ) (page : PlainPage) → fan ≤ MAX_FAN → IsLawfulPage fan page → IsLawfulPage MAX_FAN page
lawful_within fan page less lawful = record {
  level_in_range = lawful.level_in_range;
  high_in_range = lawful.high_in_range;
  floor_below_high = lawful.floor_below_high;
  right_unless_last = lawful.right_unless_last;
  right_is_number = lawful.right_is_number;
  at_most_fan = let few = lawful.at_most_fan in omega (arith, few, less);
  keys_rise = lawful.keys_rise;
  values_in_range = lawful.values_in_range;
  inner = lawful.inner;
}

-- a read after which the operation is to change a page was one of that page, under its latch
module _ (m then : PlainMachine) (number : ℕ) (page : PlainPage) (n : ℕ) (changed : PlainPage) (kept : Option ℕ) (changes : then.state ≡ ToChange n changed kept) where
  state_is : (state : MachineState) (last : PlainMachine) → then ≡ last → last.state ≡ state → state ≡ ToChange n changed kept
  state_is state last is at = sym at ∙ (ap (λ (x : PlainMachine). x.state) (sym is) ∙ changes)

  not_on_its_way : SeesOnItsWay m number page then → ⊥
  not_on_its_way (SeesOnItsWay.goes_right level next at leads is) = let e = state_is (Going next level) _ is refl in cc
  not_on_its_way (SeesOnItsWay.goes_down level child at leads is) = let e = state_is (Going child level) _ is refl in cc
  not_on_its_way (SeesOnItsWay.find_answers level key at leads find is) = let e = state_is Ended _ is refl in cc
  not_on_its_way (SeesOnItsWay.update_wants level at leads updates is) = let e = state_is (Want number) _ is refl in cc

  changes_it : SeesUnderLatch m number page then → number ≡ n
  changes_it (SeesUnderLatch.is_above_high_key next above right is) = absurd (let e = state_is (Leave number (MoveRight next)) _ is refl in cc)
  changes_it (SeesUnderLatch.insertion_finds_key key pointer found below at op has is) = absurd (let e = state_is (Leave number Finish) _ is refl in cc)
  changes_it (SeesUnderLatch.deletion_finds_none key below at op has is) = absurd (let e = state_is (Leave number Finish) _ is refl in cc)
  changes_it (SeesUnderLatch.replacement_finds_none key pointer below at op has is) = absurd (let e = state_is (Leave number Finish) _ is refl in cc)
  changes_it (SeesUnderLatch.finds_other_pointer key expected below at op has is) = absurd (let e = state_is (Leave number Finish) _ is refl in cc)
  changes_it (SeesUnderLatch.posting_finds_separator debt child below at has is) = absurd (let e = state_is (Leave number Finish) _ is refl in cc)
  changes_it (SeesUnderLatch.is_to_change to had below change is) = let e = state_is (ToChange number to had) _ is refl in cc
  changes_it (SeesUnderLatch.is_to_split below full is) = absurd (let e = state_is (SplitNew number page) _ is refl in cc)

  change_is_here : SeesPage m number page then → number ≡ n
  change_is_here (SeesPage.on_its_way sees) = absurd (not_on_its_way sees)
  change_is_here (SeesPage.under_latch held sees) = changes_it sees

-- the seat has added nothing to the row yet
module _ (plan : Plan) (s : State ℕ View) (tree_state : TreeState) (h : IsTableAt plan s tree_state) (id number : ℕ) (then : PlainMachine) (page : PlainPage) (is_page : PageWordIs plan h.owners s.words (slice_index s.words number) (Some page)) (some_number : 1 ≤ number) (in_range : number < plan.counts.numbers)
    (here : (n : ℕ) (changed : PlainPage) (kept : Option ℕ) → then.state ≡ ToChange n changed kept → (number ≡ n) × (tree_state.holder n ≡ Some id)) where
  appends_nothing_yet : (state : MachineState) → then.state ≡ state
      → IsAppending plan.counts h.owners.fixed tree_state.holder s.words id (Some (named_row s.words number, page_words is_page.base)) is_page.behind (appending_at (slice_index s.words number) state)
  appends_nothing_yet (ToChange n changed kept) is =
      let t = here n changed kept is in record {
        content = page_words is_page.base;
        in_range = subst (λ (k : ℕ). (1 ≤ k) × (k < plan.counts.numbers)) t.0 (some_number, in_range);
        latched = t.1;
        named = ap (slice_index s.words) (sym t.0);
        row = refl;
        all_fixed = is_page.fixed;
        begins = subst (RowBegins plan.counts s.words (named_row s.words number)) (sym (append-nil (page_words is_page.base ++ is_page.behind))) is_page.begins;
      }
  appends_nothing_yet state is = tt

pub reads_page_word : (plan : Plan) (slots id number : ℕ) (me : SeatState) (m : PlainMachine) → me.0.role ≡ Pass → me.0.operation ≡ Some m → FitsWords m.op → NeedsPage m number
    → 1 ≤ number → number < plan.counts.numbers → IsAnnounced me.0
    → Allows (IsTable plan) slots id me number (λ k. k) (loads_page (step slots number 0 0 none) me)
reads_page_word plan slots id number me m role at_m fits needs some_number in_range announced s table homes at small =
    let tree_state : TreeState = table.0 in
    let h : IsTableAt plan s tree_state = table.1 in
    let known = h.views id me.0 at in
    let under : tree_state.machines id ≡ Some m = known.operation ∙ at_m in
    let its : IsItsOperation tree_state id m = under_way under in
    let order = step_law.invariant_gives_order tree_state h.invariant in
    let reads = order.reads_page id number m its needs in
    let then : PlainMachine = reads.one_machine.after in
    let sees = reads.one_machine.sees in
    let word : ℕ = slice_index s.words number in
    let row : ℕ = named_row s.words number in
    let is_page : PageWordIs plan h.owners s.words (slice_index s.words number) (Some reads.page) = subst (PageWordIs plan h.owners s.words (slice_index s.words number)) reads.there (h.pages number some_number in_range) in
    let way : ℕ = descent_bound tree_state.pages then in
    let w : View = reading_page me.0 then way word (page_words is_page.base) is_page.behind h.log in
    let stepped = read_step tree_state id number m then reads.page needs reads.there sees in
    let new : TreeState = moved tree_state id (goes_on then then.state) in
    let invariant = step_law.step_keeps_invariant tree_state new id m then (Moved (kind.ReadPage number)) h.invariant fits its stepped in
    let decides = step_law.step_decides tree_state new id m then (Moved (kind.ReadPage number)) h.now h.invariant fits its stepped h.is_map.ascending h.is_map.kept in (
      w,
      keeps,
      tt,
      load_keeps plan s tree_state h id number me.0 w at role (m, at_m) invariant refl
          (λ some_other is. ap (descent_bound tree_state.pages) (sym (goes_on_as then then.state some_other is)))
          (is_page.published, is_page.begins, (let all = is_page.fixed in omega (arith, all)))
          (appends_nothing_yet plan s tree_state h id number then reads.page is_page some_number in_range
          (λ n changed kept is.
          let its_own = (step_law.invariant_gives_order new invariant).writes_page id n then (under_way (put_here tree_state.machines id (goes_on then then.state) ∙ ap (goes_on then) is)) (ap need_at is) in
          (change_is_here m then number reads.page n changed kept is sees, its_own.latched)) then.state refl)
          ([], append-nil h.log)
          (h.views id me.0 at).saw
          (λ common. reads_named plan s.words me.0 w number row (page_words is_page.base) refl refl refl refl role (announced (subst IsCommon (sym known.same_plan) common)) in_range refl),
      λ same at_same needed. subst (λ (k : PlainMachine). (machine : PlainMachine) × LoadsPage k number me word machine (w, me.1)) (let e : m ≡ same = cc in e) (
        then,
        record {
          page = reads.page;
          base = is_page.base;
          behind = is_page.behind;
          way = way;
          seen = h.log;
          is = refl;
          version = is_page.version;
          learns = record { saw = known.saw; heard = known.heard };
          row_in_range = subst (λ (p : Plan). (1 ≤ row) × (row ≤ p.counts.rows)) (sym known.same_plan) is_page.published.0;
          lawful = lawful_within tree_state.fan reads.page h.invariant.1.fan_in_range.1 reads.lawful;
          readable = reads.readable;
          sees = sees;
          only = reads.one_machine.only;
          next = next_page_is_there plan new (record { no_page = h.no_other_page; no_latch = h.no_other_latch }) me.0.plan id then known.same_plan invariant (put_here tree_state.machines id (goes_on then then.state));
          uses = step_law.allowance_is_used_up.by_step tree_state new id m then (Moved (kind.ReadPage number)) h.invariant fits its stepped;
          answers_at_end = λ ends. has_answer_at_end tree_state h.invariant id m then its ends (Moved (kind.ReadPage number)) new stepped;
          nearer = λ level going.
              let before : descent_bound tree_state.pages m ≡ me.0.descent_bound = known.bounded m at_m in
              let falls : way < descent_bound tree_state.pages m = descent_bound_falls tree_state h.invariant id number level m then reads.page its going reads.there sees in
              omega (arith, before, falls);
          answers = answers_after (after (pointer_of me.0.plan.opening) h.log) new m then h.now
              (subst (λ (p : Plan). (key : ℕ) → pointer_of h.now key ≡ after (pointer_of p.opening) h.log key) (sym known.same_plan) h.kept) decides;
          tells = λ at_leaf.
              let kept = subst (λ (p : Plan). (key : ℕ) → pointer_of h.now key ≡ after (pointer_of p.opening) h.log key) (sym known.same_plan) h.kept in
              tells_states (after (pointer_of me.0.plan.opening) h.log) m reads.page h.now kept
              (leaf_tells_its_keys tree_state id number m reads.page h.now h.invariant under at_leaf reads.there h.is_map.kept);
          knows_own = share_is_known plan h.owners (suc id) w known.same_plan known.share;
        },
      ),
    )
