-- The load of the prime block's page word is the tree's read of the prime block, or a wait that changes nothing.
use Rattle.std.proofs.Common.{◌≡◌, ℕ, suc, ◌≤◌, Some, [], refl, sym, ap, ◌∙◌, subst, arith}
use mathlib.Core.Option.{none}
use mathlib.Core.List.{append-nil}
use Rattle.atomic_table.specs.Table.{step, keeps, Allows}
use Rattle.blink_batch.specs.{FitsWords}
use Rattle.blink_rows.specs.{prime_words}
use Rattle.blink_machine.specs.declared.machine.Need.TheVariants.{End, ReadPrime}
use Rattle.blink_machine.specs.declared.step.Step.TheVariants.{Moved}
use Rattle.blink_machine.specs.declared.step.Kind.TheVariants as kind
use Rattle.blink_machine.specs.{ReadsPrimeWell, PlainMachine, NeedsPrime, goes_on, IsItsOperation, under_way, descent_bound}
use Rattle.blink_machine.specs.TreeState.{TreeState}
use Rattle.blink_machine.specs.Invariant.{Invariant}
use Rattle.blink_machine.proofs.Offered.{step_law, goes_on_if_needed}
use Rattle.blink_live.specs.declared.view.Plan.{Plan}
use Rattle.blink_live.specs.declared.view.Role.TheVariants.{Pass}
use Rattle.blink_live.specs.declared.view.View.{View}
use Rattle.blink_live.specs.AtomicSteps.{AsksPrime, NeedsNoMore, loads_prime, LoadsPrime}
use Rattle.blink_live.specs.Rule.{IsTable, IsTableAt}
use Rattle.blink_live.specs.Views.{IsAnnounced, IsCommon, SeatState, reading}
use Rattle.blink_live.specs.Words.{named_row}
use Rattle.blink_live.proofs.reuse.ReuseStaysSafe.{reads_named}
use Rattle.blink_live.proofs.table.LoadsKeepTable.{moved, load_keeps}
use Rattle.blink_live.proofs.table.SharesAreKnown.{share_is_known}
use Rattle.blink_live.proofs.table.MapsWithOneChange.{put_here, put_same}
use Rattle.blink_live.proofs.table.NextPageIsThere.{next_page_is_there}
use Rattle.blink_live.proofs.found.OperationBegins.{alone, goes_on_as, prime_step}

-- what comes of a prime block that an operation under way reads
record Asked (tree_state : TreeState) (worker : ℕ) (m : PlainMachine) : Type 0 where
  machine : PlainMachine
  asks : AsksPrime m tree_state.prime machine
  invariant : Invariant (moved tree_state worker (goes_on machine machine.state))
  uses : NeedsNoMore m machine

module _ (tree_state : TreeState) (invariant : Invariant tree_state) (worker : ℕ) (m : PlainMachine) (under : tree_state.machines worker ≡ Some m) (needs : NeedsPrime m) where
  -- where it waits the tree state stays
  waiting_has_invariant : Invariant (moved tree_state worker (goes_on m m.state))
  waiting_has_invariant =
      let still : goes_on m m.state ≡ Some m = goes_on_if_needed m m.state (λ at_end. let e : ReadPrime ≡ End = sym needs ∙ at_end in cc) in
      step_law.idle_workers_dont_matter tree_state (moved tree_state worker (goes_on m m.state)) (record {
        same_fan = refl;
        same_prime = refl;
        same_pages = λ number. refl;
        same_holder = λ number. refl;
        same_machines = put_same tree_state.machines worker (goes_on m m.state) (under ∙ sym still);
      }) invariant

  asked : FitsWords m.op → ReadsPrimeWell m tree_state.prime → Asked tree_state worker m
  asked fits (ReadsPrimeWell.waits waits never) = record {
    machine = m;
    asks = AsksPrime.waits waits never refl;
    invariant = waiting_has_invariant;
    uses = record { same_op = refl; numbers = omega arith; page_writes = omega arith; prime_writes = omega arith };
  }
  asked fits (ReadsPrimeWell.goes_on after sees only goes) =
      let new : TreeState = moved tree_state worker (goes_on after after.state) in
      let its : IsItsOperation tree_state worker m = under_way under in
      let stepped = prime_step tree_state worker m after needs sees in
      let uses = step_law.allowance_is_used_up.by_step tree_state new worker m after (Moved kind.ReadPrime) invariant fits its stepped in
      let numbers = uses.numbers in
      let page_writes = uses.page_writes in
      let prime_writes = uses.prime_writes in record {
        machine = after;
        asks = AsksPrime.moves sees only goes;
        invariant = step_law.step_keeps_invariant tree_state new worker m after (Moved kind.ReadPrime) invariant fits its stepped;
        uses = record { same_op = uses.same_op; numbers = omega (arith, numbers); page_writes = omega (arith, page_writes); prime_writes = omega (arith, prime_writes) };
      }

pub reads_prime_word : (plan : Plan) (slots id : ℕ) (me : SeatState) (m : PlainMachine) → me.0.role ≡ Pass → me.0.operation ≡ Some m → FitsWords m.op → NeedsPrime m → 1 ≤ plan.counts.numbers → IsAnnounced me.0
    → Allows (IsTable plan) slots id me 0 (λ k. k) (loads_prime (step slots 0 0 0 none) me)
reads_prime_word plan slots id me m role at_m fits needs some_number announced s table homes at small =
    let tree_state : TreeState = table.0 in
    let h : IsTableAt plan s tree_state = table.1 in
    let known = h.views id me.0 at in
    let under : tree_state.machines id ≡ Some m = known.operation ∙ at_m in
    let order = step_law.invariant_gives_order tree_state h.invariant in
    let comes : Asked tree_state id m = asked tree_state h.invariant id m under needs fits (order.reads_prime id m (under_way under) needs) in
    let then : PlainMachine = comes.machine in
    let row : ℕ = named_row s.words 0 in
    let way : ℕ = descent_bound tree_state.pages then in
    let w : View = reading me.0 then way row (prime_words tree_state.prime) [] h.log in (
      w,
      keeps,
      tt,
      load_keeps plan s tree_state h id 0 me.0 w at role (m, at_m) comes.invariant refl (λ some_other is. ap (descent_bound tree_state.pages) (sym (goes_on_as then then.state some_other is))) (let stands = alone plan.counts s.words row (h.owners.fixed row) (prime_words tree_state.prime) h.prime.begins h.prime.fixed in (h.prime.published, stands.0, stands.1)) tt ([], append-nil h.log) (h.views id me.0 at).saw
          (λ common. reads_named plan s.words me.0 w 0 row (prime_words tree_state.prime) refl refl refl refl role (announced (subst IsCommon (sym known.same_plan) common)) (omega (arith, some_number)) refl),
      λ same at_same needed. subst (λ (k : PlainMachine). (machine : PlainMachine) × LoadsPrime k me row machine (w, me.1)) (let e : m ≡ same = cc in e) (
        then,
        record {
          prime = tree_state.prime;
          way = way;
          seen = h.log;
          is = refl;
          learns = record { saw = known.saw; heard = known.heard };
          row_in_range = subst (λ (p : Plan). (1 ≤ row) × (row ≤ p.counts.rows)) (sym known.same_plan) h.prime.published.0;
          some_level = order.tree.1.tree.chains.some_level;
          few_levels = order.few_levels;
          page_numbers = h.prime_numbers;
          knows_own = share_is_known plan h.owners (suc id) w known.same_plan known.share;
          asks = comes.asks;
          next = next_page_is_there plan (moved tree_state id (goes_on then then.state)) (record { no_page = h.no_other_page; no_latch = h.no_other_latch }) me.0.plan id then known.same_plan comes.invariant
              (put_here tree_state.machines id (goes_on then then.state));
          uses = comes.uses;
        },
      ),
    )
