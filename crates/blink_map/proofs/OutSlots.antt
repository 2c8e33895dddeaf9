-- The slots that a seat has out.
use Rattle.std.proofs.Common.{◌≡◌, ℕ, Option, Some, None, List, [], ◌∷◌, sym, ap, ◌∙◌, subst}
use Rattle.atomic_table.specs.Table.{rest}
use Rattle.blink_map.specs.declared.slots.Current.{Current}
use Rattle.blink_map.specs.Rule.{SlotSeat}
use Rattle.blink_map.specs.Steps.{Taken}

abbrev Out : Type 0
Out = List (ℕ × Option Current)

pub head_rest : (slot : ℕ) (value : Option Current) (out tail : Out) → out ≡ (slot, value) ∷ tail → out ≡ (slot, value) ∷ rest out
head_rest slot value out tail is = is ∙ ap (λ (others : Out). let all : Out = (slot, value) ∷ others in all) (sym (ap (λ (l : Out). rest l) is))

abbrev value_in : Out → Option Current
value_in [] = None
value_in (x ∷ more) = x.1

-- what the first slot holds
pub first_slot : (slot : ℕ) (held other : Current) (value : Option Current) (xs ys : Out) → (slot, Some held) ∷ xs ≡ (slot, value) ∷ ys → value ≡ Some other → held ≡ other
first_slot slot held other value xs ys same is =
    let values : Some held ≡ value = ap (λ (l : Out). value_in l) same in
    let both : Some held ≡ Some other = values ∙ is in
    cc

-- it holds something
pub first_is_full : (slot : ℕ) (held : Current) (value : Option Current) (xs ys : Out) → (slot, Some held) ∷ xs ≡ (slot, value) ∷ ys → value ≡ None → ⊥
first_is_full slot held value xs ys same is =
    let values : Some held ≡ value = ap (λ (l : Out). value_in l) same in
    let both : Some held ≡ None = values ∙ is in
    cc

-- the session is out of its slot
pub taken_out : (slot : ℕ) (held other : Current) (found : Option Current) (me at_slot after : SlotSeat) → Taken slot held (Some held) me at_slot → at_slot.1 ≡ (slot, found) ∷ rest at_slot.1 → found ≡ Some other
    → after ≡ (at_slot.0, (slot, None) ∷ rest at_slot.1) → Taken slot other None me after
taken_out slot held other found me at_slot after taken out is then_is =
    let slots : at_slot.1 ≡ (slot, Some held) ∷ me.1 = ap (λ (m : SlotSeat). m.1) taken.is in
    let same : held ≡ other = first_slot slot held other found me.1 (rest at_slot.1) (sym slots ∙ out) is in
    let tail : rest at_slot.1 ≡ me.1 = ap (λ (l : Out). rest l) slots in
    let moved : Taken slot held None me after = record {
      now = taken.now;
      its = taken.its;
      is_generation = taken.is_generation;
      same_now = taken.same_now;
      own = taken.own;
      is = then_is ∙ (λ i. (ap (λ (m : SlotSeat). m.0) taken.is i, (slot, None) ∷ tail i));
    } in
    subst (λ (h : Current). Taken slot h None me after) same moved
