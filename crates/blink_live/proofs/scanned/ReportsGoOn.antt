-- A scan's report goes on from leaf to leaf.
use Rattle.std.proofs.Common.{◌≡◌, ◌⊎◌, inl, inr, ℕ, ◌<◌, ◌≤◌, Bool, true, false, List, [], ◌∷◌, ◌++◌, None, Contains, if◌then◌else◌, refl, sym, ap, ◌∙◌, subst, arith, append-nil}
use Rattle.std.specs.Prelude.{nat_lt}
use Rattle.std.specs.List.{AllByRecursion}
use Rattle.std.proofs.lemmas.Bool.{cases_lt}
use Rattle.std.proofs.lemmas.Bool.Decides.{nat_tests}
use mathlib.Core.List.{IsPrefix}
use Rattle.blink_batch.specs.declared.Entry.{Entry}
use Rattle.blink_batch.specs.{IsAscending, pointer_of}
use Rattle.blink_live.specs.declared.view.Change.{Change}
use Rattle.blink_live.specs.declared.view.Plan.{Plan}
use Rattle.blink_live.specs.declared.view.Share.{Share}
use Rattle.blink_live.specs.Changes.{after}
use Rattle.blink_live.specs.Finding.{HasSearched, IsIdle}
use Rattle.blink_live.specs.Scanning.{AreFronts, HasScanned, IsBetween, IsCopied, IsReport, ReportLaw}
use Rattle.blink_live.specs.Views.{SeatState}
use Rattle.blink_live.proofs.found.FindsOfSeveral.{searched_more, searched_none}
use Rattle.blink_live.proofs.told.PrefixesOfOneList.{prefix_of_prefix}

pub same_list : (seen : List Change) → IsPrefix seen seen
same_list seen = ([], append-nil seen)

-- ---- two reports, of which one begins where the other stops

module _ (lo mid stop : ℕ) (first second : List Entry) (left : AllByRecursion (IsBetween lo mid) first) (right : AllByRecursion (IsBetween mid stop) second) (begins : lo ≤ mid) (ends : mid ≤ stop) where
  none_of_second : (es : List Entry) (key : ℕ) → AllByRecursion (IsBetween mid stop) es → key < mid → pointer_of es key ≡ None
  none_of_second [] key all less = refl
  none_of_second (e ∷ es) key all less =
      let further : pointer_of es key ≡ None = none_of_second es key all.1 less in
      let above = all.0.0 in
      grind (arith, nat_tests, further, above)

  pub says_first : (es : List Entry) (key : ℕ) → key < mid → pointer_of (es ++ second) key ≡ pointer_of es key
  says_first [] key less = none_of_second second key right less
  says_first (e ∷ es) key less =
      let further : pointer_of (es ++ second) key ≡ pointer_of es key = says_first es key less in
      grind (arith, nat_tests, further)

  pub says_second : (es : List Entry) (key : ℕ) → AllByRecursion (IsBetween lo mid) es → mid ≤ key → pointer_of (es ++ second) key ≡ pointer_of second key
  says_second [] key all more = refl
  says_second (e ∷ es) key all more =
      let further : pointer_of (es ++ second) key ≡ pointer_of second key = says_second es key all.1 more in
      let below = all.0.1 in
      grind (arith, nat_tests, further, below)

  all_second : (es : List Entry) → AllByRecursion (IsBetween mid stop) es → AllByRecursion (IsBetween lo stop) es
  all_second [] all = tt
  all_second (e ∷ es) all = let low = all.0.0 in ((omega (arith, low, begins), all.0.1), all_second es all.1)

  pub all_of_both : (es : List Entry) → AllByRecursion (IsBetween lo mid) es → AllByRecursion (IsBetween lo stop) (es ++ second)
  all_of_both [] all = all_second second right
  all_of_both (e ∷ es) all = let high = all.0.1 in ((all.0.0, omega (arith, high, ends)), all_of_both es all.1)

  all_above : (least : ℕ) (es : List Entry) → least < mid → AllByRecursion (IsBetween mid stop) es → AllByRecursion (λ (e : Entry). least < e.key) es
  all_above least [] less all = tt
  all_above least (e ∷ es) less all = let low = all.0.0 in (omega (arith, less, low), all_above least es less all.1)

  above_both : (least : ℕ) (es : List Entry) → least < mid → AllByRecursion (λ (e : Entry). least < e.key) es → AllByRecursion (λ (e : Entry). least < e.key) (es ++ second)
  above_both least [] less all = all_above least second less right
  above_both least (e ∷ es) less all = (all.0, above_both least es less all.1)

  pub both_ascend : (es : List Entry) → AllByRecursion (IsBetween lo mid) es → IsAscending es → IsAscending second → IsAscending (es ++ second)
  both_ascend [] all ascends further = further
  both_ascend (e ∷ es) all ascends further = (above_both e.key es all.0.1 ascends.0, both_ascend es all.1 ascends.1 further)

-- the fronts of both
abbrev pub fronts_of : ℕ → (ℕ → List Change) → (ℕ → List Change) → ℕ → List Change
fronts_of mid before behind key = if nat_lt key mid then before key else behind key

pub front_before : (mid key : ℕ) (before behind : ℕ → List Change) → key < mid → before key ≡ fronts_of mid before behind key
front_before mid key before behind less = let is : true ≡ nat_lt key mid = grind (arith, nat_tests) in ap (λ (t : Bool). if t then before key else behind key) is

pub front_behind : (mid key : ℕ) (before behind : ℕ → List Change) → mid ≤ key → behind key ≡ fronts_of mid before behind key
front_behind mid key before behind more = let is : false ≡ nat_lt key mid = grind (arith, nat_tests) in ap (λ (t : Bool). if t then before key else behind key) is

module _ (mid : ℕ) (before behind : ℕ → List Change) (old between new : List Change) (first : AreFronts before old between) (second : AreFronts behind between new) where
  abbrev Side : ℕ → Type 0
  Side key = (key < mid) ⊎ (mid ≤ key)

  side : (key : ℕ) → Side key
  side key = cases_lt key mid

  ascends_by : (key greater : ℕ) → key ≤ greater → Side key → Side greater → IsPrefix (fronts_of mid before behind key) (fronts_of mid before behind greater)
  ascends_by key greater at_most (inl low) (inl high) =
      subst (λ (x : List Change × List Change). IsPrefix x.0 x.1) (λ i. (front_before mid key before behind low i, front_before mid greater before behind high i)) (first.ascend key greater at_most)
  ascends_by key greater at_most (inl low) (inr high) =
      subst (λ (x : List Change × List Change). IsPrefix x.0 x.1) (λ i. (front_before mid key before behind low i, front_behind mid greater before behind high i))
      (prefix_of_prefix (before key) between (behind greater) (first.to_new key) (second.from_old greater))
  ascends_by key greater at_most (inr low) (inl high) = absurd (omega (arith, at_most, low, high))
  ascends_by key greater at_most (inr low) (inr high) =
      subst (λ (x : List Change × List Change). IsPrefix x.0 x.1) (λ i. (front_behind mid key before behind low i, front_behind mid greater before behind high i)) (second.ascend key greater at_most)

  from_by : (key : ℕ) → Side key → IsPrefix old (fronts_of mid before behind key)
  from_by key (inl low) = subst (IsPrefix old) (front_before mid key before behind low) (first.from_old key)
  from_by key (inr high) = subst (IsPrefix old) (front_behind mid key before behind high) (prefix_of_prefix old between (behind key) (prefix_of_prefix old (before 0) between (first.from_old 0) (first.to_new 0)) (second.from_old key))

  to_by : (key : ℕ) → Side key → IsPrefix (fronts_of mid before behind key) new
  to_by key (inl low) = subst (λ (seen : List Change). IsPrefix seen new) (front_before mid key before behind low) (prefix_of_prefix (before key) between new (first.to_new key) (prefix_of_prefix between (behind 0) new (second.from_old 0) (second.to_new 0)))
  to_by key (inr high) = subst (λ (seen : List Change). IsPrefix seen new) (front_behind mid key before behind high) (second.to_new key)

  fronts_of_both : AreFronts (fronts_of mid before behind) old new
  fronts_of_both = record {
    ascend = λ key greater at_most. ascends_by key greater at_most (side key) (side greater);
    from_old = λ key. from_by key (side key);
    to_new = λ key. to_by key (side key);
  }

module _ (opening : List Entry) (old between new : List Change) (lo mid stop : ℕ) (one other : List Entry) (first : IsReport opening old between lo mid one) (second : IsReport opening between new mid stop other) (begins : lo ≤ mid) (ends : mid ≤ stop) where
  exact_by : (key : ℕ) → lo ≤ key → key < stop → (key < mid) ⊎ (mid ≤ key) → pointer_of (one ++ other) key ≡ after (pointer_of opening) (fronts_of mid first.front second.front key) key
  exact_by key low high (inl less) =
      says_first lo mid stop one other first.between second.between begins ends one key less
      ∙ first.exact key low less
      ∙ ap (λ (seen : List Change). after (pointer_of opening) seen key) (front_before mid key first.front second.front less)
  exact_by key low high (inr more) =
      says_second lo mid stop one other first.between second.between begins ends one key first.between more
      ∙ second.exact key more high
      ∙ ap (λ (seen : List Change). after (pointer_of opening) seen key) (front_behind mid key first.front second.front more)

  pub report_of_both : IsReport opening old new lo stop (one ++ other)
  report_of_both = record {
    front = fronts_of mid first.front second.front;
    fronts = fronts_of_both mid first.front second.front old between new first.fronts second.fronts;
    exact = λ key low high. exact_by key low high (cases_lt key mid);
    ascending = both_ascend lo mid stop one other first.between second.between begins ends one first.between first.ascending second.ascending;
    between = all_of_both lo mid stop one other first.between second.between begins ends one first.between;
  }

-- what it had seen at an earlier moment is less
pub report_from : (opening : List Entry) (older old new : List Change) (lo stop : ℕ) (entries : List Entry) → IsPrefix older old → IsReport opening old new lo stop entries → IsReport opening older new lo stop entries
report_from opening older old new lo stop entries less report = record {
  front = report.front;
  fronts = record {
    ascend = report.fronts.ascend;
    from_old = λ key. prefix_of_prefix older old (report.front key) less (report.fronts.from_old key);
    to_new = report.fronts.to_new;
  };
  exact = report.exact;
  ascending = report.ascending;
  between = report.between;
}

-- ---- a seat that scans

pub scanned_none : (lo stop : ℕ) (me : SeatState) → IsIdle me.0 → stop ≤ lo → HasScanned lo stop [] me me
scanned_none lo stop me idle empty = record {
  searched = searched_none me idle;
  report = record {
    front = λ key. me.0.seen;
    fronts = record { ascend = λ key greater at_most. same_list me.0.seen; from_old = λ key. same_list me.0.seen; to_new = λ key. same_list me.0.seen };
    exact = λ key low high. absurd (omega (arith, empty, low, high));
    ascending = tt;
    between = tt;
  };
  own = λ key its low high. absurd (omega (arith, empty, low, high));
}

-- the copy of a leaf is the report of its range
pub scanned_leaf : (from stop : ℕ) (entries : List Entry) (first me : SeatState) → HasSearched first me → IsCopied (λ key. after (pointer_of me.0.plan.opening) me.0.seen key) from stop entries → HasScanned from stop entries first me
scanned_leaf from stop entries first me searched copied =
    let opening : me.0.plan.opening ≡ first.0.plan.opening = ap (λ (p : Plan). p.opening) searched.same_plan in record {
      searched = searched;
      report = record {
        front = λ key. me.0.seen;
        fronts = record { ascend = λ key greater at_most. same_list me.0.seen; from_old = λ key. searched.saw; to_new = λ key. same_list me.0.seen };
        exact = λ key low high. copied.exact key low high ∙ ap (λ (es : List Entry). after (pointer_of es) me.0.seen key) opening;
        ascending = copied.ascending;
        between = copied.between;
      };
      own = λ key its low high.
          let own_now : Contains me.0.share.keys key = subst (λ (s : Share). Contains s.keys key) (sym searched.same_share) its in
          copied.exact key low high ∙ searched.idle.knows_own.state key own_now ∙ ap (λ (s : Share). pointer_of s.entries key) searched.same_share;
    }

pub scanned_on : (lo mid stop : ℕ) (one other : List Entry) (first me new : SeatState) → HasScanned lo mid one first me → HasScanned mid stop other me new → lo ≤ mid → mid ≤ stop → HasScanned lo stop (one ++ other) first new
scanned_on lo mid stop one other first me new before behind begins ends =
    let opening : me.0.plan.opening ≡ first.0.plan.opening = ap (λ (p : Plan). p.opening) before.searched.same_plan in
    let share = before.searched.same_share in
    let second = subst (λ (es : List Entry). IsReport es me.0.seen new.0.seen mid stop other) opening behind.report in
    let says = says_first lo mid stop one other before.report.between second.between begins ends in
    let says_more = says_second lo mid stop one other before.report.between second.between begins ends in record {
      searched = searched_more first me new before.searched behind.searched;
      report = report_of_both first.0.plan.opening first.0.seen me.0.seen new.0.seen lo mid stop one other before.report second begins ends;
      own = λ key its low high. (elim (cases_lt key mid) [
        | inl less ↦ says one key less ∙ before.own key its low less
        | inr more ↦ says_more one key before.report.between more
            ∙ behind.own key (subst (λ (s : Share). Contains s.keys key) (sym share) its) more high
            ∙ ap (λ (s : Share). pointer_of s.entries key) share
      ]);
    }

-- ---- what a report tells

pub reports_tell : ReportLaw
reports_tell opening old new lo stop entries report = record {
  steady = λ key kept low high always. report.exact key low high ∙ always (report.front key) (report.fronts.from_old key) (report.fronts.to_new key);
  was_so = λ key low high. (report.front key, report.fronts.from_old key, report.fronts.to_new key, report.exact key low high);
}
