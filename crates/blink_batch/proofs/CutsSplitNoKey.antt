-- A lawful cut is an assignment that splits no key.
use Rattle.std.proofs.Common.{◌≡◌, ◌↔◌, ℕ, ◌<◌, List, length, get_or, Bool, true, false, not, Option, None, Some, is_some, EachIndex, IsTrue, MatchOption, refl, ap, ◌∙◌, inl, inr, arith}
use Rattle.std.proofs.lemmas.Bool.{cases_eq}
use Rattle.std.proofs.lemmas.List.{get_or_default}
use Rattle.std.proofs.lemmas.Slice.Zip.{get_or-zip, length-zip}
use Rattle.std.specs.List.{All}
use Rattle.blink_operation.specs.declared.operation.Op.{Op}
use Rattle.blink_operation.specs.declared.operation.Op.TheVariants.{Find}
use Rattle.blink_operation.specs.Operation.{key_of}
use Rattle.blink_batch.specs.Cut.{IsFirstSplitKey, IsLawfulCut, IsSplitKey}
use Rattle.blink_batch.proofs.OneThread.{same_worker_from_key}

-- a lawful cut splits no key
pub whole_from_lawful : (ops : List Op) (workers : ℕ) (lanes : List ℕ) → IsLawfulCut ops workers lanes → EachIndex ops (λ place. ¬ IsSplitKey ops lanes place)
whole_from_lawful ops workers lanes lawful place within split =
    let before : split.0 < place = split.1.before in
    split.1.other_lane (same_worker_from_key ops workers lanes lawful split.0 place (omega arith) within split.1.same_key)

-- lanes of workers, one for each operation, that split no key are a lawful cut
pub lawful_from_whole : (ops : List Op) (workers : ℕ) (lanes : List ℕ) → length lanes ≡ length ops → All (λ lane. lane < workers) lanes → EachIndex ops (λ place. ¬ IsSplitKey ops lanes place) → IsLawfulCut ops workers lanes
lawful_from_whole ops workers lanes long low whole = record {
  a_lane_each = long;
  lanes_are_workers = low;
  one_worker_a_key = λ i j d before in_range.
      let within : j < length ops = (let both = length-zip ops lanes in omega arith) in
      let first = get_or-zip ops lanes i d (omega arith) (omega arith) in
      let second = get_or-zip ops lanes j d within (omega arith) in
      rw (first, second) (one_lane ops lanes whole i j before within long d.0 d.1);
}
  where
    one_lane : (ops : List Op) (lanes : List ℕ) → EachIndex ops (λ place. ¬ IsSplitKey ops lanes place) → (i j : ℕ) → i < j → j < length ops → length lanes ≡ length ops
        → (op : Op) (lane : ℕ) → key_of (get_or ops i op) ≡ key_of (get_or ops j op) → get_or lanes i lane ≡ get_or lanes j lane
    one_lane ops lanes whole i j before within long op lane same = elim (cases_eq (get_or lanes i 0) (get_or lanes j 0)) [
      | inl own ↦ get_or_default lanes i lane 0 (omega arith) ∙ own ∙ get_or_default lanes j 0 lane (omega arith)
      | inr other ↦ absurd (whole j within (
        i,
        record {
          before = before;
          same_key = ap key_of (get_or_default ops i (Find 0) op (omega arith)) ∙ same ∙ ap key_of (get_or_default ops j op (Find 0) within);
          other_lane = other;
        },
      ))
    ]

-- such lanes are a lawful cut exactly where a search for a split key finds none
pub lawful_exactly_whole : (ops : List Op) (workers : ℕ) (lanes : List ℕ) (found : Option ℕ) (none : Bool) → length lanes ≡ length ops → All (λ lane. lane < workers) lanes
    → MatchOption found (EachIndex ops (λ place. ¬ IsSplitKey ops lanes place)) (IsFirstSplitKey ops lanes) → is_some found ≡ not none → IsTrue none ↔ IsLawfulCut ops workers lanes
lawful_exactly_whole ops workers lanes None true long low whole told = (λ yes. lawful_from_whole ops workers lanes long low whole, λ lawful. refl)
lawful_exactly_whole ops workers lanes None false long low whole told = absurd (cc)
lawful_exactly_whole ops workers lanes (Some place) true long low first told = absurd (cc)
lawful_exactly_whole ops workers lanes (Some place) false long low first told = (λ yes. absurd (cc), λ lawful. absurd (whole_from_lawful ops workers lanes lawful place first.in_range first.split))
