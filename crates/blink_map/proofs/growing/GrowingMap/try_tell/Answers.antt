use Rattle.std.proofs.Common.{◌≡◌, ◌<◌, ℕ, sym, ap, ◌∙◌, subst}
use Rattle.atomic_table.specs.Seated.{TableId}
use Rattle.atomic_table.specs.declared.Seat.{Seat}
use Rattle.std.specs.Prelude.{Option}
use Rattle.blink_map.specs.declared.slots.Current.{Current}
use Rattle.blink_map.specs.declared.slots.SlotView.{SlotView}
use Rattle.blink_live.specs.{HaveAuthors}
use Rattle.blink_map.specs.Own.{IsIdle, own_of}
use Rattle.blink_map.specs.Telling.{KnowsAuthorsOf}
use Rattle.blink_map.proofs.growing.GrowingMap.try_tell.Goals as goal

pub tell_seat-theirs-requires-clause-other_idle : goal.tell_seat-theirs-requires-clause-other_idle
tell_seat-theirs-requires-clause-other_idle c =
    let to = c.args.to.now in
    subst (λ (s : Seat (Option Current) SlotView). IsIdle to.slot s.me) (sym c.replace-theirs.ensures.value) to.idle

pub tell_seat-theirs-requires-clause-authors : goal.tell_seat-theirs-requires-clause-authors
tell_seat-theirs-requires-clause-authors c =
    let from = c.args.from.now in
    record { own = from.authors.own; all = from.authors.all }

pub tell_seat-theirs-requires-clause-other_authors : goal.tell_seat-theirs-requires-clause-other_authors
tell_seat-theirs-requires-clause-other_authors c =
    let from = c.args.from.now in
    let to = c.args.to.now in
    let slots : to.seat.me.0.slots ≡ from.seat.me.0.slots = to.all_slots ∙ (ap (λ (t : TableId). t.slots) (c.requires.to_its_own.same_table ∙ sym c.requires.from_its_own.same_table) ∙ sym from.all_slots) in
    subst (λ (s : Seat (Option Current) SlotView). KnowsAuthorsOf from.seat.me.0.slots to.slot (own_of s.me.0)) (sym c.replace-theirs.ensures.value)
    (record { own = to.authors.own; all = subst (λ (n : ℕ). HaveAuthors n (own_of to.seat.me.0).seen) slots to.authors.all })

pub invariant_of-from : goal.invariant_of-from
invariant_of-from c =
    let from = c.args.from.now in
    let table = c.tell_seat-theirs.ensures.same in
    let told = c.tell_seat-theirs.ensures.told in
    record {
      idle = told.idle;
      in_range = subst (λ (t : TableId). from.slot < t.slots) (c.requires.from_its_own.same_table ∙ sym table) from.in_range;
      all_slots = told.same_slots.0 ∙ (from.all_slots ∙ ap (λ (t : TableId). t.slots) (c.requires.from_its_own.same_table ∙ sym table));
      authors = told.authors;
    }

pub invariant_of-to : goal.invariant_of-to
invariant_of-to c =
    let from = c.args.from.now in
    let to = c.args.to.now in
    let table = c.tell_seat-theirs.ensures.told_same in
    let told = c.tell_seat-theirs.ensures.told in
    record {
      idle = told.told_idle;
      in_range = subst (λ (t : TableId). to.slot < t.slots) (c.requires.to_its_own.same_table ∙ sym table) to.in_range;
      all_slots = told.same_slots.1 ∙ (from.all_slots ∙ ap (λ (t : TableId). t.slots) (c.requires.from_its_own.same_table ∙ sym table));
      authors = told.told_authors;
    }

pub returns-then-told-clause-told : goal.returns-then-told-clause-told
returns-then-told-clause-told c = c.tell_seat-theirs.ensures.told.hears c.if-told.true
