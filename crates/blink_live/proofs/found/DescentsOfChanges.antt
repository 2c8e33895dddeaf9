-- The descent of an operation that changes the tree: its machine is known at each page, though no value of it is made.
use Rattle.std.proofs.Common.{◌≡◌, ℕ, ◌+◌, ◌-◌, ◌<◌, ◌≤◌, Option, None, List, [], ◌∷◌, ◌++◌, length, reverse, refl, ap, sym, ◌∙◌, subst, arith}
use Rattle.std.proofs.lemmas.List.{length-append, reverse-append}
use Rattle.blink_batch.specs.{FitsWords, key_of}
use Rattle.blink_batch.specs.declared.Op.{Op}
use Rattle.blink_page.specs.{Leads}
use Rattle.blink_page.specs.declared.limits.TheConstants.{LEVELS}
use Rattle.blink_page.specs.declared.search.Way.{Way}
use Rattle.blink_page.specs.declared.search.Way.TheVariants.{Right, Down, Here}
use Rattle.blink_machine.specs.declared.machine.Job.TheVariants.{Leaf}
use Rattle.blink_machine.specs.declared.machine.State.TheVariants.{Going, Want}
use Rattle.blink_machine.specs.{IsUpdate, PlainMachine, SeesOnItsWay, SeesPage}
use Rattle.blink_live.specs.Seats.{BeginsAt, HasRead, IsAtLeaf, IsAtPage, IsGoing, ReadsWay, wants}
use Rattle.blink_live.specs.Views.{SeatState, for_call, known_of}
use Rattle.blink_live.proofs.found.DescentsGoOn.{at_page, at_root, read_at_root, sees_root}
use Rattle.blink_live.proofs.found.OperationsOnTheirWay.{goes_down}

-- the operation in its descent, after these pages
abbrev pub descending : ℕ → Op → List ℕ → ℕ → ℕ → PlainMachine
descending fan op above number level = record { fan = fan; op = op; job = Leaf; remembered = reverse above; state = Going number level; answer = None }

abbrev pub at_its_leaf : ℕ → Op → List ℕ → ℕ → PlainMachine
at_its_leaf fan op above number = record { fan = fan; op = op; job = Leaf; remembered = reverse above; state = Want number; answer = None }

-- it needs the page of this number and level next
pub record HasComeBy (fan : ℕ) (op : Op) (first me : SeatState) (above : List ℕ) (number level : ℕ) : Type 0 where
  pub read : HasRead op first me (descending fan op above number level)
  pub few : length above + level + 1 < LEVELS

pub comes_by_root : (fan : ℕ) (op : Op) (number level : ℕ) (me then : SeatState) → me.0.plan.fan ≡ fan → BeginsAt op me number level then → HasComeBy fan op (for_call me.0 op, me.1) then [] number level
comes_by_root fan op number level me then same_fan begun =
    let few = begun.begins.few_levels in
    let high = begun.top.top in
    let is : begun.machine ≡ at_root me.0.plan.fan op number level = sym (begun.begins.only (at_root me.0.plan.fan op number level) (sees_root me.0.plan.fan op begun.begins.prime number level begun.top)) in
    record {
      read = subst (HasRead op (for_call me.0 op, me.1) then) (is ∙ ap (λ (f : ℕ). at_root f op number level) same_fan) (read_at_root op number level me then begun);
      few = omega (arith, few, high);
    }

module _ {fan : ℕ} {op : Op} {first me : SeatState} {above : List ℕ} {number level : ℕ} (has : HasComeBy fan op first me above number level) (fits : FitsWords op) where
  abbrev now : PlainMachine
  now = descending fan op above number level

  abbrev pub at_this : IsAtPage me (key_of op) number level
  at_this = at_page op (key_of op) number level first me now has.read fits refl refl

  module _ {word : ℕ} {new : SeatState} {way : Way} {kept : Option ℕ} (reads : ReadsWay now (key_of op) number word me way kept new) where
    goes : IsGoing now
    goes = record { same_job = refl; on_its_way = (number, level, refl) }

    goes_to : (other : PlainMachine) → SeesOnItsWay now number reads.loads.page other → HasRead op first new other
    goes_to other sees = subst (HasRead op first new) (sym (reads.loads.only other (SeesPage.on_its_way sees))) (goes_down op number word first me now reads.machine new has.read goes refl reads.loads).0

    leads_by : (w : Way) → way ≡ w → Leads reads.loads.page (key_of op) w
    leads_by w is = subst (Leads reads.loads.page (key_of op)) is reads.tells.leads

    pub by_right : (next : ℕ) → way ≡ Right next → HasComeBy fan op first new above next level
    by_right next right = record {
      read = goes_to (descending fan op above next level) (SeesOnItsWay.goes_right level next refl (leads_by (Right next) right) refl);
      few = has.few;
    }

    pub above_child : (child : ℕ) → way ≡ Down child → 1 ≤ level
    above_child child down =
        let inner = (leads_by (Down child) down).1 in
        let same = reads.loads.readable.has_level in
        omega (arith, inner, same)

    pub by_down : (child : ℕ) → way ≡ Down child → HasComeBy fan op first new (above ++ number ∷ []) child (level - 1)
    by_down child down =
        let some = above_child child down in
        let few = has.few in
        let longer = length-append above (number ∷ []) in
        let at : now.state ≡ Going number (level - 1 + 1) = ap (Going number) (let e : level ≡ level - 1 + 1 = omega (arith, some) in e) in
        let more : number ∷ reverse above ≡ reverse (above ++ number ∷ []) = sym (reverse-append above (number ∷ [])) in
        let then : PlainMachine = descending fan op (above ++ number ∷ []) child (level - 1) in
        record {
          read = goes_to then (SeesOnItsWay.goes_down (level - 1) child at (leads_by (Down child) down)
              (λ i. record { fan = fan; op = op; job = Leaf; remembered = sym more i; state = Going child (level - 1); answer = None }));
          few = omega (arith, some, few, longer);
        }

    pub by_here : way ≡ Here → IsUpdate op → HasRead op first new (at_its_leaf fan op above number) × IsAtLeaf op (known_of new.0 (key_of op)) (at_its_leaf fan op above number)
    by_here here updates = (
      goes_to (at_its_leaf fan op above number) (SeesOnItsWay.update_wants level refl (leads_by Here here) updates refl),
      wants number updates refl refl,
    )

    pub nearer_by : new.0.descent_bound < me.0.descent_bound
    nearer_by = subst (λ (x : SeatState). x.0.descent_bound < me.0.descent_bound) (sym reads.loads.is) (reads.loads.nearer level refl)
