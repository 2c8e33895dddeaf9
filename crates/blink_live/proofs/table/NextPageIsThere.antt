-- The page that an operation needs next is there, or its latch is held, and so it has words.
use Rattle.std.proofs.Common.{◌≡◌, ℕ, ◌<◌, ◌≤◌, Option, Some, None, sym, ◌∙◌, subst, arith}
use native.Mathlib.Decide.{dec_le}
use Rattle.blink_page.specs.{PlainPage}
use Rattle.blink_machine.specs.declared.machine.Need.TheVariants.{End, ReadPage, Latch, WriteNew, WritePage, WritePrime, Unlatch}
use Rattle.blink_machine.specs.{PlainMachine, need_at, goes_on, under_way, IsItsOperation, IsPageWrite}
use Rattle.blink_machine.specs.TreeState.{TreeState}
use Rattle.blink_machine.specs.Invariant.{Invariant}
use Rattle.blink_machine.proofs.Offered.{step_law, goes_on_if_needed}
use Rattle.blink_live.specs.declared.view.Plan.{Plan}
use Rattle.blink_live.specs.AtomicSteps.{IsNumberIn, CanGoOn}

-- no page and no latch has words beyond the last number
pub record EndsAt (plan : Plan) (tree_state : TreeState) : Type 0 where
  pub no_page : (number : ℕ) → plan.counts.numbers ≤ number → tree_state.pages number ≡ None
  pub no_latch : (number : ℕ) → plan.counts.numbers ≤ number → tree_state.holder number ≡ None

module _ (plan : Plan) (tree_state : TreeState) (ends : EndsAt plan tree_state) where
  inside : (there : ℕ → Option ℕ) (number : ℕ) → ((n : ℕ) → plan.counts.numbers ≤ n → there n ≡ None) → (x : ℕ) → there number ≡ Some x → number < plan.counts.numbers
  inside there number none x is = elim (dec_le plan.counts.numbers number) [
    | yes beyond ↦ absurd (let missing = none number beyond in cc)
    | no within ↦ omega (arith, within)
  ]

  page_inside : Invariant tree_state → (number : ℕ) (page : PlainPage) → tree_state.pages number ≡ Some page → IsNumberIn plan number
  page_inside invariant number page there = (
    (invariant.1.numbers_in_range number page there).0,
    elim (dec_le plan.counts.numbers number) [
      | yes beyond ↦ absurd (let missing = ends.no_page number beyond in cc)
      | no within ↦ omega (arith, within)
    ],
  )

  pub next_page_is_there : (about : Plan) (id : ℕ) (then : PlainMachine) → about ≡ plan → Invariant tree_state → tree_state.machines id ≡ goes_on then then.state → CanGoOn about then
  next_page_is_there about id then same invariant runs =
      let order = step_law.invariant_gives_order tree_state invariant in
      let its : (need_at then.state ≡ End → ⊥) → IsItsOperation tree_state id then = λ goes. under_way (runs ∙ goes_on_if_needed then then.state goes) in
      let law = step_law.allowance_is_used_up in
      subst (λ (p : Plan). CanGoOn p then) (sym same) record {
        reads = λ number needs. let reads = order.reads_page id number then (its (λ at_end. let e : ReadPage number ≡ End = sym needs ∙ at_end in cc)) needs in page_inside invariant number reads.page reads.there;
        latches = λ number needs. let latch = order.latches id number then (its (λ at_end. let e : Latch number ≡ End = sym needs ∙ at_end in cc)) needs in page_inside invariant number latch.page latch.there;
        writes = λ number needs. let writes = order.writes_page id number then (its (λ at_end. let e : WritePage number ≡ End = sym needs ∙ at_end in cc)) needs in page_inside invariant number writes.before writes.there;
        unlatches = λ number needs. inside tree_state.holder number ends.no_latch id (order.unlatches id number then (its (λ at_end. let e : Unlatch number ≡ End = sym needs ∙ at_end in cc)) needs);
        enough = record {
          numbers = λ needs. (law.enough tree_state id then invariant (its (λ at_end. let e : WriteNew ≡ End = sym needs ∙ at_end in cc))).numbers needs;
          page_writes = λ needs. (law.enough tree_state id then invariant (its (λ at_end. subst IsPageWrite at_end needs))).page_writes needs;
          prime_writes = λ needs. (law.enough tree_state id then invariant (its (λ at_end. let e : WritePrime ≡ End = sym needs ∙ at_end in cc))).prime_writes needs;
        };
      }
