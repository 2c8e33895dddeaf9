-- A report has as many entries as keys of its range are present.
use Rattle.std.proofs.Common.{◌≡◌, inl, inr, ℕ, zero, suc, ◌+◌, ◌-◌, ◌<◌, ◌≤◌, Option, Some, None, List, [], ◌∷◌, length, refl, sym, ap, ◌∙◌, subst, arith, append-nil, take}
use Rattle.std.specs.Prelude.{Contains, IfSome}
use Rattle.std.specs.List.{AllByRecursion}
use Rattle.std.proofs.lemmas.List.{length-take}
use Rattle.std.proofs.lemmas.Bool.{cases_lt}
use Rattle.std.proofs.lemmas.Bool.Decides.{nat_tests}
use Rattle.blink_batch.specs.declared.Entry.{Entry}
use Rattle.blink_batch.specs.{IsAscending, pointer_of}
use Rattle.blink_live.specs.declared.live.Pass.{Pass}
use Rattle.blink_live.specs.declared.view.Change.{Change}
use Rattle.blink_live.specs.declared.view.Share.{Share}
use Rattle.blink_live.specs.{IsBetween, IsReport, IsSameBesideSeen, SaysOfKeys, StoppedFull, keys_of, seen_of, share_of, stop_of}
use Rattle.blink_live.proofs.Offered.{prefix_of_prefix}
use Rattle.blink_client.specs.Counted.{AllAreOwn, one_if_there, present}

-- more keys are counted in two parts
pub present_on : (map : List Entry) (key first more : ℕ) → present map key (first + more) ≡ present map key first + present map (key + first) more
present_on map key zero more =
    let none : 0 + more ≡ more = omega arith in
    let same : key ≡ key + 0 = omega arith in
    let zeros : present map (key + 0) more ≡ 0 + present map (key + 0) more = omega arith in
    ap (present map key) none ∙ ap (λ (k : ℕ). present map k more) same ∙ zeros
present_on map key (suc first) more =
    let sum : suc first + more ≡ suc (first + more) = omega arith in
    let same : suc key + first ≡ key + suc first = omega arith in
    let further : present map (suc key) (first + more) ≡ present map (suc key) first + present map (suc key + first) more = present_on map (suc key) first more in
    let at : present map (suc key + first) more ≡ present map (key + suc first) more = ap (λ (k : ℕ). present map k more) same in
    ap (present map key) sum ∙ (omega (arith, further, at))

-- behind the first entry's key the others say what all say
behind_first : (e : Entry) (es : List Entry) (key : ℕ) → e.key < key → pointer_of (e ∷ es) key ≡ pointer_of es key
behind_first e es key behind = grind (arith, nat_tests, behind)

at_first : (e : Entry) (es : List Entry) → pointer_of (e ∷ es) e.key ≡ Some e.pointer
at_first e es = grind (arith, nat_tests)

before_all : (entries : List Entry) (key least stop : ℕ) → key < least → AllByRecursion (IsBetween least stop) entries → pointer_of entries key ≡ None
before_all [] key least stop less all = refl
before_all (e ∷ es) key least stop less all =
    let further : pointer_of es key ≡ None = before_all es key least stop less all.1 in
    let above = all.0.0 in
    grind (arith, nat_tests, further, above)

all_behind : (least stop : ℕ) (key : ℕ) (es : List Entry) → AllByRecursion (λ (after : Entry). key < after.key) es → AllByRecursion (IsBetween least stop) es → AllByRecursion (IsBetween (suc key) stop) es
all_behind least stop key [] above all = tt
all_behind least stop key (e ∷ es) above all = let here = above.0 in ((omega (arith, here), all.0.1), all_behind least stop key es above.1 all.1)

all_from_next : (least stop : ℕ) (first : ℕ) (es : List Entry) → least < first → AllByRecursion (λ (after : Entry). first < after.key) es → AllByRecursion (IsBetween least stop) es → AllByRecursion (IsBetween (suc least) stop) es
all_from_next least stop first [] less above all = tt
all_from_next least stop first (e ∷ es) less above all = let here = above.0 in ((omega (arith, less, here), all.0.1), all_from_next least stop first es less above.1 all.1)

-- the entries between two keys are as many as there are keys present
pub counted : (map entries : List Entry) (lo count : ℕ) → IsAscending entries → AllByRecursion (IsBetween lo (lo + count)) entries
    → ((key : ℕ) → lo ≤ key → key < lo + count → pointer_of entries key ≡ pointer_of map key) → length entries ≡ present map lo count
counted map [] lo zero ascends all same = refl
counted map (e ∷ es) lo zero ascends all same = absurd (let here = all.0 in omega (arith, here))
counted map [] lo (suc count) ascends all same =
    let sum : lo + suc count ≡ suc lo + count = omega arith in
    let absent : one_if_there (pointer_of map lo) ≡ 0 = ap one_if_there (sym (same lo (omega arith) (omega arith))) in
    let further : 0 ≡ present map (suc lo) count = counted map [] (suc lo) count tt tt (λ key low high. same key (omega (arith, low)) (omega (arith, high))) in
    omega (arith, absent, further)
counted map (e ∷ es) lo (suc count) ascends all same =
    let stop : lo + suc count ≡ suc lo + count = omega arith in
    elim (cases_lt lo e.key) [
      | inl less ↦
          let behind : AllByRecursion (IsBetween (suc lo) (suc lo + count)) (e ∷ es) =
          subst (λ (n : ℕ). AllByRecursion (IsBetween (suc lo) n) (e ∷ es)) stop ((omega (arith, less), all.0.1), all_from_next lo (lo + suc count) e.key es less ascends.0 all.1) in
          let none : pointer_of (e ∷ es) lo ≡ None = before_all (e ∷ es) lo (suc lo) (suc lo + count) (omega arith) behind in
          let absent : one_if_there (pointer_of map lo) ≡ 0 = ap one_if_there (sym (same lo (omega arith) (omega arith)) ∙ none) in
          let further : length (e ∷ es) ≡ present map (suc lo) count = counted map (e ∷ es) (suc lo) count ascends behind (λ key low high. same key (omega (arith, low)) (omega (arith, high))) in
          omega (arith, absent, further)
      | inr at_most ↦
          let low = all.0.0 in
          let is : e.key ≡ lo = omega (arith, at_most, low) in
          let there : one_if_there (pointer_of map lo) ≡ 1 = ap one_if_there (sym (same lo (omega arith) (omega arith)) ∙ ap (pointer_of (e ∷ es)) (sym is) ∙ at_first e es) in
          let behind : AllByRecursion (IsBetween (suc lo) (suc lo + count)) es = subst (λ (x : ℕ × ℕ). AllByRecursion (IsBetween (suc x.0) x.1) es) (λ i. (is i, stop i)) (all_behind lo (lo + suc count) e.key es ascends.0 all.1) in
          let further : length es ≡ present map (suc lo) count = counted map es (suc lo) count ascends.1 behind
          (λ key low_key high. sym (behind_first e es key (omega (arith, is, low_key))) ∙ same key (omega (arith, low_key)) (omega (arith, high))) in
          omega (arith, there, further)
    ]

-- where there are entries, the scan stopped behind where it began
pub stopped_behind : (entries : List Entry) (lo stop : ℕ) → AllByRecursion (IsBetween lo stop) entries → 1 ≤ length entries → lo < stop
stopped_behind [] lo stop all some = absurd (omega (arith, some))
stopped_behind (e ∷ es) lo stop all some = let here = all.0 in omega (arith, here)

-- ---- a scan in parts

pub part_counted : (map entries : List Entry) (from stop : ℕ) → from ≤ stop → IsAscending entries → AllByRecursion (IsBetween from stop) entries
    → ((key : ℕ) → from ≤ key → key < stop → pointer_of entries key ≡ pointer_of map key) → length entries ≡ present map from (stop - from)
part_counted map entries from stop less ascends all same =
    let sum : stop ≡ from + (stop - from) = omega (arith, less) in
    counted map entries from (stop - from) ascends (subst (λ (n : ℕ). AllByRecursion (IsBetween from n) entries) sum all) (λ key low high. same key low (omega (arith, sum, high)))

pub one_part_more : (map : List Entry) (lo from stop count more : ℕ) → lo ≤ from → from ≤ stop → count ≡ present map lo (from - lo) → more ≡ present map from (stop - from) → count + more ≡ present map lo (stop - lo)
one_part_more map lo from stop count more first behind was is =
    let sum : stop - lo ≡ (from - lo) + (stop - from) = omega (arith, first, behind) in
    let start : lo + (from - lo) ≡ from = omega (arith, first) in
    let both = present_on map lo (from - lo) (stop - from) in
    let second = ap (λ (k : ℕ). present map k (stop - from)) start in
    let all = ap (present map lo) sum in
    omega (arith, was, is, both, second, all)

one_at_most : (kept : Option ℕ) → one_if_there kept ≤ 1
one_at_most None = omega arith
one_at_most (Some pointer) = omega arith

pub present_at_most : (map : List Entry) (key count : ℕ) → present map key count ≤ count
present_at_most map key zero = omega arith
present_at_most map key (suc count) =
    let one = one_at_most (pointer_of map key) in
    let further = present_at_most map (suc key) count in
    omega (arith, one, further)

-- ---- the pass meanwhile

pub same_none : (pass : Pass) → IsSameBesideSeen pass pass
same_none pass = record { saw = ([], append-nil (seen_of pass)); same_table = refl; same_plan = refl; same_keys = refl; same_share = refl; same_changes = refl; same_rows = refl; same_pages = refl }

pub same_on : (first was new : Pass) → IsSameBesideSeen first was → IsSameBesideSeen was new → IsSameBesideSeen first new
same_on first was new before behind = record {
  saw = prefix_of_prefix (seen_of first) (seen_of was) (seen_of new) before.saw behind.saw;
  same_table = behind.same_table ∙ before.same_table;
  same_plan = behind.same_plan ∙ before.same_plan;
  same_keys = behind.same_keys ∙ before.same_keys;
  same_share = behind.same_share ∙ before.same_share;
  same_changes = behind.same_changes ∙ before.same_changes;
  same_rows = behind.same_rows ∙ before.same_rows;
  same_pages = behind.same_pages ∙ before.same_pages;
}

-- ---- a part of the pass's own range

pub stops_inside : (from end places filled : ℕ) (next : Option ℕ) → IfSome next (StoppedFull from (end - 1) places filled) → from < end → (from ≤ stop_of (end - 1) next) × (stop_of (end - 1) next ≤ end)
stops_inside from end places filled None stopped inside = (omega (arith, inside), omega (arith, inside))
stops_inside from end places filled (Some next) stopped inside = let low = stopped.1 in let high = stopped.2 in (low, omega (arith, high))

pub own_part : {opening : List Entry} {old now : List Change} (first was : Pass) (lo from end stop count filled : ℕ) (entries : List Entry) → lo ≤ from → from ≤ stop → stop ≤ end → IsSameBesideSeen first was → AllAreOwn first lo end
    → IsReport opening old now from stop entries → SaysOfKeys (keys_of was) (share_of was) from stop entries → count ≡ present (share_of first) lo (from - lo) → filled ≡ length entries
    → count + filled ≡ present (share_of first) lo (stop - lo)
own_part first was lo from end stop count filled entries low behind inside same range report own before is =
    let says : (key : ℕ) → from ≤ key → key < stop → pointer_of entries key ≡ pointer_of (share_of first) key =
    λ key not_before below.
    let its : Contains (keys_of was) key = subst (λ (keys : List ℕ). Contains keys key) (sym same.same_keys) (range key (omega (arith, low, not_before)) (omega (arith, below, inside))) in
    own key its not_before below ∙ ap (λ (s : Share). pointer_of s.entries key) same.same_share in
    one_part_more (share_of first) lo from stop count filled low behind before (is ∙ part_counted (share_of first) entries from stop behind report.ascending report.between says)

-- a scan's report fills the first places
pub report_long : (filled places : ℕ) (into : List Entry) → filled ≤ places → length into ≡ places → filled ≡ length (take filled into)
report_long filled places into fits long = let taken = length-take filled into in omega (arith, taken, fits, long)

pub own_scan : {opening : List Entry} {old now : List Change} (first was : Pass) (lo from end count filled places : ℕ) (next : Option ℕ) (into : List Entry) → IsSameBesideSeen first was → AllAreOwn first lo end → lo ≤ from → from < end
    → IfSome next (StoppedFull from (end - 1) places filled) → filled ≤ places → length into ≡ places
    → IsReport opening old now from (stop_of (end - 1) next) (take filled into) → SaysOfKeys (keys_of was) (share_of was) from (stop_of (end - 1) next) (take filled into)
    → count ≡ present (share_of first) lo (from - lo) → count + filled ≡ present (share_of first) lo (stop_of (end - 1) next - lo)
own_scan first was lo from end count filled places next into same range low inside stopped fits long report own before =
    let ends = stops_inside from end places filled next stopped inside in
    own_part first was lo from end (stop_of (end - 1) next) count filled (take filled into) low ends.0 ends.1 same range report own before (report_long filled places into fits long)
