use Rattle.std.proofs.Common.{◌≡◌, ℕ, List, ap, sym, ◌∙◌, subst}
use Rattle.std.specs.Prelude.{Contains}
use mathlib.Core.List.{IsPrefix}
use Rattle.blink_live.specs.declared.view.Change.{Change}
use Rattle.blink_live.specs.declared.view.View.{View}
use Rattle.blink_live.specs.Changes.{states_of}
use Rattle.blink_live.specs.Views.{SeatState, KnowsItsOwn, forgets_told, hears, learns_of_others, note_of}
use Rattle.blink_live.proofs.live.Live.tell_each_other.Goals as goal

-- of the free keys the note of the view w shows no more than the keeper has seen
abbrev NoMore : List ℕ → List Change → List Change → Type 0
NoMore taken told seen = (key : ℕ) → ¬ Contains taken key → IsPrefix (states_of key told) (states_of key seen)

no_more_of_note : (me then : SeatState) (w : View) (seen : List Change) → then ≡ (hears me.0 (note_of w), me.1) → w.seen ≡ seen → NoMore then.0.taken then.0.told then.0.seen → NoMore me.0.taken seen me.0.seen
no_more_of_note me then w seen is now no_more =
    subst (λ (told : List Change). NoMore me.0.taken told me.0.seen) now (subst (λ (x : SeatState). NoMore x.0.taken x.0.told x.0.seen) is no_more)

pub returns-clause-told : goal.returns-clause-told
returns-clause-told c =
    let up = c.look_up.ensures.up in
    let around = c.look_around.ensures.around in
    let seen : List Change = up.seen in
    let w : View = c.look_up.new.seat.me.0 in
    let told : c.pass_on-2.new.to.me ≡ (hears c.args.seat.now.me.0 (note_of w), c.args.seat.now.me.1) =
    c.pass_on-2.ensures.told ∙ ap (λ (x : SeatState). let y : SeatState = (hears x.0 (note_of w), x.1) in y) c.pass_on.ensures.from.2 in
    record {
      seen = seen;
      same_keeper = around.is ∙ ap (λ (x : SeatState). let y : SeatState = (forgets_told x.0, x.1) in y) told;
      is = c.pass_on-2.ensures.from.2 ∙ (up.is ∙ ap (λ (x : SeatState). let y : SeatState = (learns_of_others x.0 seen, x.1) in y) c.pass_on.ensures.told);
      saw = subst (λ (list : List Change). IsPrefix list seen) (ap (λ (x : SeatState). x.0.seen) c.pass_on.ensures.told) up.learns.saw;
      heard = subst (λ (list : List Change). IsPrefix list seen) (ap (λ (x : SeatState). x.0.told) c.pass_on.ensures.told) up.learns.heard;
      knows_own = subst (λ (x : SeatState). KnowsItsOwn x.0) (sym c.pass_on-2.ensures.from.2) up.knows_own;
      no_more = no_more_of_note c.args.seat.now.me c.pass_on-2.new.to.me w seen told (ap (λ (x : SeatState). x.0.seen) up.is) around.no_more;
    }
