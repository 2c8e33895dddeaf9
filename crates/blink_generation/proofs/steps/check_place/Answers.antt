use Rattle.std.proofs.Common.{◌≡◌, ℕ, ◌+◌, ◌*◌, ◌≤◌, ◌<◌, sym, ap, ◌∙◌, subst, arith}
use mathlib.Core.Option.{none}
use Rattle.atomic_table.specs.Table.{step, Allows}
use Rattle.blink_live.specs.declared.view.Plan.{Plan}
use Rattle.blink_live.specs.{IsTable, SeatState, checks_place, place_word, plan_of}
use Rattle.blink_live.proofs.Offered.{checks_place_at}
use Rattle.blink_generation.proofs.steps.check_place.Goals as goal

pub load-requires : goal.load-requires
load-requires c =
    let live = c.args.live.now in
    let plan : Plan = plan_of live.table.shared.key in
    let slots : ℕ = live.table.shared.table_id.slots in
    let me : SeatState = c.args.seat.now.me in
    let inside = c.requires.in_range in
    let within : c.args.place < plan.places = let same = live.places_are in omega (arith, inside, same) in
    let common : 1 ≤ plan.places = omega (arith, within) in
    let at : place_word plan.counts c.args.place ≡ c.word_count-start.result + 8 * c.args.place = (λ i. place_word (sym live.counts_are i) c.args.place) ∙ ap (λ (n : ℕ). n + 8 * c.args.place) (sym c.word_count-start.ensures) in (
      c.requires.seat.same_table,
      omega (arith, live.width, inside, c.word_count-start.ensures),
      subst (λ (n : ℕ). Allows (IsTable plan) slots c.args.seat.now.id me n (λ k. k) (checks_place (step slots n 0 0 none) me)) at
          (checks_place_at plan slots c.args.seat.now.id c.args.place me c.requires.seat.role common c.requires.next c.requires.seen),
    )
