-- A backward scan's report goes on from leaf to leaf: here its entries still ascend, as leaves have them.
use Rattle.std.proofs.Common.{◌≡◌, ◌⊎◌, inl, inr, ℕ, ◌+◌, ◌-◌, ◌<◌, ◌≤◌, List, [], ◌++◌, length, length-append, Contains, sym, ap, ◌∙◌, subst, arith}
use Rattle.std.specs.Prelude.{reverse}
use Rattle.std.specs.List.{AllByRecursion}
use Rattle.std.proofs.lemmas.Bool.{cases_lt}
use Rattle.std.proofs.lemmas.List.{length-reverse, reverse-append}
use borrow.Rule.Slice.PartMut.{mid_of, put_mid}
use mathlib.Core.List.{IsPrefix}
use Rattle.blink_batch.specs.declared.Entry.{Entry}
use Rattle.blink_batch.specs.{IsAscending, pointer_of}
use Rattle.blink_live.specs.declared.view.Change.{Change}
use Rattle.blink_live.specs.declared.view.Plan.{Plan}
use Rattle.blink_live.specs.declared.view.Share.{Share}
use Rattle.blink_live.specs.Changes.{after}
use Rattle.blink_live.specs.Finding.{HasSearched, IsIdle}
use Rattle.blink_live.specs.Scanning.{IsBetween, IsCopied, IsFilled, SaysOfKeys}
use Rattle.blink_live.specs.ScanningBack.{AreFrontsBack, HasScannedBack, IsReportBack, ReportBackLaw}
use Rattle.blink_live.specs.Views.{SeatState}
use Rattle.blink_live.proofs.found.FindsOfSeveral.{searched_more, searched_none}
use Rattle.blink_live.proofs.scanned.PlacesAreFilled.{filled_behind}
use Rattle.blink_live.proofs.scanned.ListsAreTurned.{all_turned, turned_descends, turned_says}
use Rattle.blink_live.proofs.scanned.ReportsGoOn.{all_of_both, both_ascend, front_before, front_behind, fronts_of, same_list, says_first, says_second}
use Rattle.blink_live.proofs.told.PrefixesOfOneList.{prefix_of_prefix}

-- the report of the keys from `lo` to before `stop`, in ascending order
pub record IsRisingReport (opening : List Entry) (old new : List Change) (lo stop : ℕ) (entries : List Entry) : Type 0 where
  pub front : ℕ → List Change
  pub fronts : AreFrontsBack front old new
  pub exact : (key : ℕ) → lo ≤ key → key < stop → pointer_of entries key ≡ after (pointer_of opening) (front key) key
  pub ascending : IsAscending entries
  pub between : AllByRecursion (IsBetween lo stop) entries

-- ---- two reports, of which the later one ends where the first began

module _ (mid : ℕ) (lower upper : ℕ → List Change) (old between new : List Change) (first : AreFrontsBack upper old between) (second : AreFrontsBack lower between new) where
  abbrev Side : ℕ → Type 0
  Side key = (key < mid) ⊎ (mid ≤ key)

  side : (key : ℕ) → Side key
  side key = cases_lt key mid

  descends_by : (key greater : ℕ) → key ≤ greater → Side key → Side greater → IsPrefix (fronts_of mid lower upper greater) (fronts_of mid lower upper key)
  descends_by key greater at_most (inl low) (inl high) =
      subst (λ (x : List Change × List Change). IsPrefix x.0 x.1) (λ i. (front_before mid greater lower upper high i, front_before mid key lower upper low i)) (second.descend key greater at_most)
  descends_by key greater at_most (inl low) (inr high) =
      subst (λ (x : List Change × List Change). IsPrefix x.0 x.1) (λ i. (front_behind mid greater lower upper high i, front_before mid key lower upper low i))
      (prefix_of_prefix (upper greater) between (lower key) (first.to_new greater) (second.from_old key))
  descends_by key greater at_most (inr low) (inl high) = absurd (omega (arith, at_most, low, high))
  descends_by key greater at_most (inr low) (inr high) =
      subst (λ (x : List Change × List Change). IsPrefix x.0 x.1) (λ i. (front_behind mid greater lower upper high i, front_behind mid key lower upper low i)) (first.descend key greater at_most)

  from_by : (key : ℕ) → Side key → IsPrefix old (fronts_of mid lower upper key)
  from_by key (inl low) = subst (IsPrefix old) (front_before mid key lower upper low) (prefix_of_prefix old between (lower key) (prefix_of_prefix old (upper 0) between (first.from_old 0) (first.to_new 0)) (second.from_old key))
  from_by key (inr high) = subst (IsPrefix old) (front_behind mid key lower upper high) (first.from_old key)

  to_by : (key : ℕ) → Side key → IsPrefix (fronts_of mid lower upper key) new
  to_by key (inl low) = subst (λ (seen : List Change). IsPrefix seen new) (front_before mid key lower upper low) (second.to_new key)
  to_by key (inr high) = subst (λ (seen : List Change). IsPrefix seen new) (front_behind mid key lower upper high) (prefix_of_prefix (upper key) between new (first.to_new key) (prefix_of_prefix between (lower 0) new (second.from_old 0) (second.to_new 0)))

  fronts_of_both : AreFrontsBack (fronts_of mid lower upper) old new
  fronts_of_both = record {
    descend = λ key greater at_most. descends_by key greater at_most (side key) (side greater);
    from_old = λ key. from_by key (side key);
    to_new = λ key. to_by key (side key);
  }

module _ (opening : List Entry) (old between new : List Change) (lo mid stop : ℕ) (one other : List Entry) (first : IsRisingReport opening old between mid stop one) (second : IsRisingReport opening between new lo mid other) (begins : lo ≤ mid) (ends : mid ≤ stop) where
  exact_by : (key : ℕ) → lo ≤ key → key < stop → (key < mid) ⊎ (mid ≤ key) → pointer_of (other ++ one) key ≡ after (pointer_of opening) (fronts_of mid second.front first.front key) key
  exact_by key low high (inl less) =
      says_first lo mid stop other one second.between first.between begins ends other key less
      ∙ second.exact key low less
      ∙ ap (λ (seen : List Change). after (pointer_of opening) seen key) (front_before mid key second.front first.front less)
  exact_by key low high (inr more) =
      says_second lo mid stop other one second.between first.between begins ends other key second.between more
      ∙ first.exact key more high
      ∙ ap (λ (seen : List Change). after (pointer_of opening) seen key) (front_behind mid key second.front first.front more)

  report_of_both : IsRisingReport opening old new lo stop (other ++ one)
  report_of_both = record {
    front = fronts_of mid second.front first.front;
    fronts = fronts_of_both mid second.front first.front old between new first.fronts second.fronts;
    exact = λ key low high. exact_by key low high (cases_lt key mid);
    ascending = both_ascend lo mid stop other one second.between first.between begins ends other second.between second.ascending first.ascending;
    between = all_of_both lo mid stop other one second.between first.between begins ends other second.between;
  }

-- what it had seen at an earlier moment is less
pub report_back_from : (opening : List Entry) (older old new : List Change) (lo hi : ℕ) (entries : List Entry) → IsPrefix older old → IsReportBack opening old new lo hi entries → IsReportBack opening older new lo hi entries
report_back_from opening older old new lo hi entries less report = record {
  front = report.front;
  fronts = record {
    descend = report.fronts.descend;
    from_old = λ key. prefix_of_prefix older old (report.front key) less (report.fronts.from_old key);
    to_new = report.fronts.to_new;
  };
  exact = report.exact;
  descending = report.descending;
  between = report.between;
}

-- ---- a seat that scans backwards

-- the seat has scanned the keys from `lo` to before `stop`
pub record HasComeBack (lo stop : ℕ) (entries : List Entry) (first me : SeatState) : Type 0 where
  pub searched : HasSearched first me
  pub report : IsRisingReport first.0.plan.opening first.0.seen me.0.seen lo stop entries
  pub own : SaysOfKeys first.0.share.keys first.0.share.entries lo stop entries

pub come_back_none : (lo stop : ℕ) (me : SeatState) → IsIdle me.0 → stop ≤ lo → HasComeBack lo stop [] me me
come_back_none lo stop me idle empty = record {
  searched = searched_none me idle;
  report = record {
    front = λ key. me.0.seen;
    fronts = record { descend = λ key greater at_most. same_list me.0.seen; from_old = λ key. same_list me.0.seen; to_new = λ key. same_list me.0.seen };
    exact = λ key low high. absurd (omega (arith, empty, low, high));
    ascending = tt;
    between = tt;
  };
  own = λ key its low high. absurd (omega (arith, empty, low, high));
}

-- the copy of a leaf is the report of its range
pub come_back_leaf : (lo stop : ℕ) (entries : List Entry) (first me : SeatState) → HasSearched first me → IsCopied (λ key. after (pointer_of me.0.plan.opening) me.0.seen key) lo stop entries → HasComeBack lo stop entries first me
come_back_leaf lo stop entries first me searched copied =
    let opening : me.0.plan.opening ≡ first.0.plan.opening = ap (λ (p : Plan). p.opening) searched.same_plan in record {
      searched = searched;
      report = record {
        front = λ key. me.0.seen;
        fronts = record { descend = λ key greater at_most. same_list me.0.seen; from_old = λ key. searched.saw; to_new = λ key. same_list me.0.seen };
        exact = λ key low high. copied.exact key low high ∙ ap (λ (es : List Entry). after (pointer_of es) me.0.seen key) opening;
        ascending = copied.ascending;
        between = copied.between;
      };
      own = λ key its low high.
          let own_now : Contains me.0.share.keys key = subst (λ (s : Share). Contains s.keys key) (sym searched.same_share) its in
          copied.exact key low high ∙ searched.idle.knows_own.state key own_now ∙ ap (λ (s : Share). pointer_of s.entries key) searched.same_share;
    }

pub come_back_on : (lo mid stop : ℕ) (one other : List Entry) (first me new : SeatState) → HasComeBack mid stop one first me → HasComeBack lo mid other me new → lo ≤ mid → mid ≤ stop → HasComeBack lo stop (other ++ one) first new
come_back_on lo mid stop one other first me new before behind begins ends =
    let opening : me.0.plan.opening ≡ first.0.plan.opening = ap (λ (p : Plan). p.opening) before.searched.same_plan in
    let share = before.searched.same_share in
    let second = subst (λ (es : List Entry). IsRisingReport es me.0.seen new.0.seen lo mid other) opening behind.report in
    let says = says_first lo mid stop other one second.between before.report.between begins ends in
    let says_more = says_second lo mid stop other one second.between before.report.between begins ends in record {
      searched = searched_more first me new before.searched behind.searched;
      report = report_of_both first.0.plan.opening first.0.seen me.0.seen new.0.seen lo mid stop one other before.report second begins ends;
      own = λ key its low high. (elim (cases_lt key mid) [
        | inl less ↦ says other key less
            ∙ behind.own key (subst (λ (s : Share). Contains s.keys key) (sym share) its) low less
            ∙ ap (λ (s : Share). pointer_of s.entries key) share
        | inr more ↦ says_more other key second.between more ∙ before.own key its more high
      ]);
    }

-- the slice with the entries of one leaf more
pub leaf_more : (lo mid stop : ℕ) (one more old now part : List Entry) (filled found : ℕ) (first me new : SeatState) → IsFilled (reverse one) old now → filled ≡ length one → HasComeBack mid stop one first me
    → IsFilled (reverse more) (mid_of filled (length now - filled) now) part → found ≡ length more → HasComeBack lo mid more me new → lo ≤ mid → mid ≤ stop
    → (entries : List Entry) × IsFilled (reverse entries) old (put_mid filled (length now - filled) now part) × (filled + found ≡ length entries) × HasComeBack lo stop entries first new
leaf_more lo mid stop one more old now part filled found first me new was count before behind count_more further begins ends =
    let both = length-append more one in (
      more ++ one,
      subst (λ (es : List Entry). IsFilled es old (put_mid filled (length now - filled) now part)) (sym (reverse-append more one))
          (filled_behind (reverse one) (reverse more) old now part filled was (count ∙ sym (length-reverse one)) behind),
      omega (arith, both, count, count_more),
      come_back_on lo mid stop one more first me new before further begins ends,
    )

-- in the order in which they are reported
pub scanned_back : (lo hi : ℕ) (entries : List Entry) (first me : SeatState) → HasComeBack lo (hi + 1) entries first me → HasScannedBack lo hi (reverse entries) first me
scanned_back lo hi entries first me come =
    let ascends = come.report.ascending in record {
      searched = come.searched;
      report = record {
        front = come.report.front;
        fronts = come.report.fronts;
        exact = λ key low high. turned_says entries key ascends ∙ come.report.exact key low (omega (arith, high));
        descending = turned_descends entries ascends;
        between = all_turned (IsBetween lo (hi + 1)) entries come.report.between;
      };
      own = λ key its low high. turned_says entries key ascends ∙ come.own key its low high;
    }

pub reported_back : (lo hi : ℕ) (entries old new : List Entry) (filled : ℕ) (first me : SeatState) → IsFilled (reverse entries) old new → filled ≡ length entries → HasComeBack lo (hi + 1) entries first me
    → (reported : List Entry) × IsFilled reported old new × (filled ≡ length reported) × HasScannedBack lo hi reported first me
reported_back lo hi entries old new filled first me is count come = (reverse entries, is, count ∙ sym (length-reverse entries), scanned_back lo hi entries first me come)

-- ---- what a report tells

pub backward_reports_tell : ReportBackLaw
backward_reports_tell opening old new lo hi entries report = record {
  steady = λ key kept low high always. report.exact key low (omega (arith, high)) ∙ always (report.front key) (report.fronts.from_old key) (report.fronts.to_new key);
  was_so = λ key low high. (report.front key, report.fronts.from_old key, report.fronts.to_new key, report.exact key low (omega (arith, high)));
}
