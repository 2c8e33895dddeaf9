-- A seat that compares what its sessions know with what was known in the slots that it has taken.
use Rattle.std.proofs.Common.{ℕ, List, refl, sym, subst}
use lib.Seq.{set-get_or}
use mathlib.Core.Option.{none}
use Rattle.atomic_table.specs.Table.{keeps, step, Allows}
use Rattle.atomic_table.proofs.Lists.{set_again}
use Rattle.blink_batch.specs.declared.Entry.{Entry}
use Rattle.blink_map.specs.declared.slots.SlotView.{SlotView}
use Rattle.blink_map.specs.Rule.{IsContinued, IsGrowing, SlotSeat}
use Rattle.blink_map.specs.Steps.{compares}

pub seat_compares : (first : List Entry) (slots id word : ℕ) (me : SlotSeat) → Allows (IsGrowing first) slots id me word (λ n. n) (compares (step slots word 0 0 none) me)
seat_compares first slots id word me s rule homes at small = (
  me.0,
  keeps,
  tt,
  subst (λ (t : List ℕ × List SlotView). IsGrowing first record { words = t.0; homes = s.homes; views = t.1 }) (λ i. (sym (set-get_or s.words word 0) i, sym (set_again s.views id me.0 at) i)) rule,
  record {
    same = refl;
    compared = record {
      continued = λ k j slot own known mine there.
          let has = rule.accounts id me.0 k (slot, own) at mine in
          let taken = rule.taken id me.0 j (slot, known) at there in
          subst (IsContinued own) taken.same has.is;
      apart = rule.apart id me.0 at;
    };
  },
)
