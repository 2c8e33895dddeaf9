-- Copied entries that are cut before one of them, or behind it.
use Rattle.std.proofs.Common.{◌≡◌, ℕ, zero, suc, ◌+◌, ◌-◌, ◌<◌, ◌≤◌, inl, inr, Option, Some, None, List, [], ◌∷◌, ◌++◌, length, take, drop, reverse, slice_get, sym, ap, ◌∙◌, arith, append_assoc, length-drop, take-append-drop, take_at}
use Rattle.std.specs.List.{AllByRecursion}
use Rattle.std.proofs.lemmas.Bool.{cases_lt}
use Rattle.std.proofs.lemmas.Bool.Decides.{nat_tests}
use Rattle.std.proofs.lemmas.Grind.{reverse_onto}
use Rattle.std.proofs.lemmas.List.{length-reverse, reverse-append, reverse-reverse}
use Rattle.blink_batch.specs.declared.Entry.{Entry}
use Rattle.blink_batch.specs.{IsAscending, pointer_of}
use Rattle.blink_live.specs.Scanning.{IsBetween, IsCopied}
use Rattle.blink_live.proofs.scanned.ReportsGoOn.{says_first, says_second}

-- ---- a list around one of its entries

pub cut_at : (es : List Entry) (n : ℕ) (e : Entry) → slice_get es n ≡ Some e → es ≡ take n es ++ e ∷ drop (suc n) es
cut_at [] n e is = absurd (cc)
cut_at (x ∷ es) zero e is = cc
cut_at (x ∷ es) (suc n) e is = ap (λ (xs : List Entry). x ∷ xs) (cut_at es n e is)

-- the first of the turned list are the last of the list
pub last_turned : (es : List Entry) (n : ℕ) → n ≤ length es → take n (reverse es) ≡ reverse (drop (length es - n) es)
last_turned es n fits =
    let before : ℕ = length es - n in
    let parts : reverse es ≡ reverse (drop before es) ++ reverse (take before es) = ap reverse (sym (take-append-drop before es)) ∙ reverse-append (take before es) (drop before es) in
    let turned = length-reverse (drop before es) in
    let left = length-drop before es in
    ap (take n) parts ∙ take_at (reverse (drop before es)) (reverse (take before es)) n (omega (arith, turned, left))

pub cut_behind : (es : List Entry) (n : ℕ) (e : Entry) → n ≤ length es → slice_get (reverse es) n ≡ Some e → es ≡ reverse (drop (suc n) (reverse es)) ++ e ∷ drop (length es - n) es
cut_behind es n e fits is =
    let rest : List Entry = drop (suc n) (reverse es) in
    let last : reverse (take n (reverse es)) ≡ drop (length es - n) es = ap reverse (last_turned es n fits) ∙ reverse-reverse (drop (length es - n) es) in
    let first : reverse (e ∷ rest) ≡ reverse rest ++ e ∷ [] = reverse_onto rest e [] in
    sym (reverse-reverse es)
    ∙ ap reverse (cut_at (reverse es) n e is)
    ∙ reverse-append (take n (reverse es)) (e ∷ rest)
    ∙ (λ i. first i ++ last i)
    ∙ append_assoc (reverse rest) (e ∷ []) (drop (length es - n) es)

-- ---- what holds of all of a list, and of its parts

all_second : (P : Entry → Type 0) (first second : List Entry) → AllByRecursion P (first ++ second) → AllByRecursion P second
all_second P [] second all = all
all_second P (x ∷ first) second all = all_second P first second all.1

all_first : (P : Entry → Type 0) (first second : List Entry) → AllByRecursion P (first ++ second) → AllByRecursion P first
all_first P [] second all = tt
all_first P (x ∷ first) second all = (all.0, all_first P first second all.1)

first_ascends : (first second : List Entry) → IsAscending (first ++ second) → IsAscending first
first_ascends [] second ascends = tt
first_ascends (x ∷ first) second ascends = (all_first (λ after. x.key < after.key) first second ascends.0, first_ascends first second ascends.1)

second_ascends : (first second : List Entry) → IsAscending (first ++ second) → IsAscending second
second_ascends [] second ascends = ascends
second_ascends (x ∷ first) second ascends = second_ascends first second ascends.1

-- the entries before one have lesser keys
before_it : (from stop : ℕ) (front : List Entry) (e : Entry) (back : List Entry) → IsAscending (front ++ e ∷ back) → AllByRecursion (IsBetween from stop) (front ++ e ∷ back) → AllByRecursion (IsBetween from e.key) front
before_it from stop [] e back ascends all = tt
before_it from stop (x ∷ front) e back ascends all =
    let less = (all_second (λ after. x.key < after.key) front (e ∷ back) ascends.0).0 in
    ((all.0.0, less), before_it from stop front e back ascends.1 all.1)

-- and those behind it greater ones
behind_it : (least from start stop : ℕ) (back : List Entry) → start ≤ least + 1 → AllByRecursion (λ (after : Entry). least < after.key) back → AllByRecursion (IsBetween from stop) back → AllByRecursion (IsBetween start stop) back
behind_it least from start stop [] at_most above all = tt
behind_it least from start stop (x ∷ back) at_most above all =
    let more = above.0 in
    ((omega (arith, more, at_most), all.0.1), behind_it least from start stop back at_most above.1 all.1)

-- where there are some, the range isn't empty
pub some_in_range : (from stop : ℕ) (es : List Entry) → 1 ≤ length es → AllByRecursion (IsBetween from stop) es → from < stop
some_in_range from stop [] some all = absurd (omega (arith, some))
some_in_range from stop (e ∷ es) some all = let low = all.0.0 in let high = all.0.1 in omega (arith, low, high)

-- ---- copied entries in two parts

module _ (known : ℕ → Option ℕ) (from mid stop : ℕ) (first second : List Entry) (is : IsCopied known from stop (first ++ second)) (left : AllByRecursion (IsBetween from mid) first) (right : AllByRecursion (IsBetween mid stop) second) (begins : from ≤ mid) (ends : mid ≤ stop) where
  copied_first : IsCopied known from mid first
  copied_first = record {
    exact = λ key low high. sym (says_first from mid stop first second left right begins ends first key high) ∙ is.exact key low (omega (arith, high, ends));
    ascending = first_ascends first second is.ascending;
    between = left;
  }

  copied_second : IsCopied known mid stop second
  copied_second = record {
    exact = λ key low high. sym (says_second from mid stop first second left right begins ends first key left low) ∙ is.exact key (omega (arith, low, begins)) high;
    ascending = second_ascends first second is.ascending;
    between = right;
  }

-- the entries before one, and those behind it
module _ (known : ℕ → Option ℕ) (from stop : ℕ) (front : List Entry) (e : Entry) (back : List Entry) (is : IsCopied known from stop (front ++ e ∷ back)) where
  abbrev Rest : List Entry
  Rest = e ∷ back

  rest : AllByRecursion (IsBetween from stop) Rest
  rest = all_second (IsBetween from stop) front Rest is.between

  pub it_is_between : IsBetween from stop e
  it_is_between = rest.0

  behind : (start : ℕ) → start ≤ e.key + 1 → AllByRecursion (IsBetween start stop) back
  behind start at_most = behind_it e.key from start stop back at_most (second_ascends front Rest is.ascending).0 rest.1

  from_it : AllByRecursion (IsBetween e.key stop) Rest
  from_it = let high = it_is_between.1 in ((omega arith, high), behind e.key (omega arith))

  before : AllByRecursion (IsBetween from e.key) front
  before = before_it from stop front e back is.ascending is.between

  pub copied_front : IsCopied known from e.key front
  copied_front = let between = it_is_between in copied_first known from e.key stop front Rest is before from_it between.0 (omega (arith, between))

  pub copied_back : IsCopied known (e.key + 1) stop back
  copied_back =
      let between = it_is_between in
      copied_second known e.key (e.key + 1) stop (e ∷ []) back
      (copied_second known from e.key stop front Rest is before from_it between.0 (omega (arith, between)))
      ((omega arith, omega arith), tt) (behind (e.key + 1) (omega arith)) (omega arith) (omega (arith, between))

-- ---- copied entries of a lesser range, and by what else is known

none_lower : (known : ℕ → Option ℕ) (from higher stop : ℕ) (es : List Entry) → IsCopied known from stop es → ((key : ℕ) → from ≤ key → key < higher → known key ≡ None) → AllByRecursion (IsBetween higher stop) es
none_lower known from higher stop [] is none = tt
none_lower known from higher stop (e ∷ es) is none =
    let low = is.between.0.0 in
    let high = is.between.0.1 in
    let there : pointer_of (e ∷ es) e.key ≡ Some e.pointer = grind (arith, nat_tests) in
    let above : higher ≤ e.key = (elim (cases_lt e.key higher) [
      | inl less ↦ let no = none e.key low less in let some = is.exact e.key low high in absurd (cc (no, some, there))
      | inr more ↦ more
    ]) in
    ((above, high), behind_it e.key from higher stop es (omega (arith, above)) is.ascending.0 is.between.1)

-- if no key below `higher` has a pointer, the range begins there as well
pub copied_above : (known : ℕ → Option ℕ) (from higher stop : ℕ) (es : List Entry) → IsCopied known from stop es → from ≤ higher → ((key : ℕ) → from ≤ key → key < higher → known key ≡ None) → IsCopied known higher stop es
copied_above known from higher stop es is at_most none = record {
  exact = λ key low high. is.exact key (omega (arith, low, at_most)) high;
  ascending = is.ascending;
  between = none_lower known from higher stop es is none;
}

pub copied_as : (known other : ℕ → Option ℕ) (from stop : ℕ) (es : List Entry) → IsCopied known from stop es → ((key : ℕ) → from ≤ key → key < stop → known key ≡ other key) → IsCopied other from stop es
copied_as known other from stop es is same = record {
  exact = λ key low high. is.exact key low high ∙ same key low high;
  ascending = is.ascending;
  between = is.between;
}
