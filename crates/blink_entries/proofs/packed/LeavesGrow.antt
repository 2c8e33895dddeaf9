-- Leaves that get one entry more behind all others stay a line of leaves, each but the last full.
use Rattle.std.proofs.Common.{◌≡◌, ℕ, ◌+◌, ◌*◌, ◌<◌, ◌≤◌, ◌⊎◌, zero, suc, Some, None, List, [], ◌∷◌, ◌++◌, inl, inr, length, get_or, set, refl, sym, ap, subst, ◌∙◌, arith, append_assoc, append-nil, length-append}
use Rattle.std.proofs.Math.Nat.{mul-le-mul_right}
use Rattle.std.proofs.lemmas.Bool.{cases_lt}
use Rattle.blink_page.specs.{IsFan, IsLawfulPage, IsPageNumber, IsRising, PlainPage, last_key, last_key_or, least_above, next_key, with_entries}
use Rattle.blink_page.specs.declared.limits.TheConstants.{GREATEST_KEY, MAX_PAGE}
use Rattle.blink_page.proofs.Offered.{IsRising-append, length-rising, next_at_most_to, next_key-last, rising_rest, rising_to_next, ValuesWithin-append, lawful_leaf}
use Rattle.blink_rest.specs.{InLine, entries_along}
use Rattle.blink_rest.specs.Chain.{Cell, cell}
use Rattle.blink_rest.proofs.Offered.{InLine-append}
use Rattle.blink_entries.specs.Packed.{numbered}
use Rattle.blink_entries.specs.Packing.{AreLeaves, HasLeafNumber, entries_in, leaf_after}

-- the key of the last entry
pub last_key-there : (k : ℕ) (d : ℕ × ℕ) (n : ℕ) (xs : List (ℕ × ℕ)) → length xs ≡ suc n → (get_or xs n d).0 ≡ last_key_or k xs
last_key-there k d n [] is = absurd (omega arith)
last_key-there k d zero ((l, v) ∷ []) is = refl
last_key-there k d (suc n) (x ∷ []) is = absurd (omega arith)
last_key-there k d zero (x ∷ y ∷ xs) is = absurd (omega arith)
last_key-there k d (suc n) ((l, v) ∷ y ∷ xs) is = last_key-there l d n (y ∷ xs) (omega arith)

-- a leaf that ends at its last key
pub lawful_closed : (fan : ℕ) (p : PlainPage) (next : ℕ) → IsLawfulPage fan p → p.level ≡ 0 → 0 < length p.entries → last_key p.entries < GREATEST_KEY → IsPageNumber next
    → IsLawfulPage fan (record p { high = last_key p.entries; right = Some next })
lawful_closed fan p next lawful leaf some below number =
    let to_next = rising_to_next (least_above p.floor) p.entries (p.high + 1) lawful.keys_rise in
    let is = next_key-last (least_above p.floor) 0 p.entries some in
    let many = length-rising (least_above p.floor) p.entries (next_key (least_above p.floor) p.entries) to_next in
    record {
      level_in_range = lawful.level_in_range;
      high_in_range = omega (arith, below);
      floor_below_high = omega (arith, many, is, some);
      right_unless_last = (λ none. absurd (cc), λ greatest. absurd (omega (arith, greatest, below)));
      right_is_number = number;
      at_most_fan = lawful.at_most_fan;
      keys_rise = subst (IsRising (least_above p.floor) p.entries) is to_next;
      values_in_range = lawful.values_in_range;
      inner = λ above. absurd (omega (arith, above, leaf));
    }

-- a leaf with one entry more
pub lawful_appended : (fan other : ℕ) (p : PlainPage) (key pointer : ℕ) → IsLawfulPage fan p → p.level ≡ 0 → IsRising (least_above p.floor) p.entries key → key ≤ p.high → pointer ≤ GREATEST_KEY
    → length p.entries < other → IsLawfulPage other (with_entries p (p.entries ++ (key, pointer) ∷ []))
lawful_appended fan other p key pointer lawful leaf above below fits room =
    lawful_leaf fan p lawful other (p.entries ++ (key, pointer) ∷ []) leaf (omega (arith, room, length-append p.entries ((key, pointer) ∷ [])))
    (IsRising-append (least_above p.floor) p.entries ((key, pointer) ∷ []) key (p.high + 1) above (omega arith, omega (arith, below)))
    (ValuesWithin-append 0 GREATEST_KEY p.entries ((key, pointer) ∷ []) lawful.values_in_range (omega arith, fits, tt))

-- pages in parts
pub numbered-append : (number : ℕ) (xs ys : List PlainPage) → numbered number (xs ++ ys) ≡ numbered number xs ++ numbered (number + length xs) ys
numbered-append number [] ys = ap (λ (n : ℕ). numbered n ys) (omega arith)
numbered-append number (x ∷ xs) ys =
    ap (λ (cells : List Cell). cell number x ∷ cells) (numbered-append (suc number) xs ys ∙ ap (λ (n : ℕ). numbered (suc number) xs ++ numbered n ys) (omega arith))

pub length-numbered : (number : ℕ) (xs : List PlainPage) → length (numbered number xs) ≡ length xs
length-numbered number [] = refl
length-numbered number (x ∷ xs) = ap suc (length-numbered (suc number) xs)

pub entries_in-append : (xs ys : List PlainPage) → entries_in (xs ++ ys) ≡ entries_in xs ++ entries_in ys
entries_in-append [] ys = refl
entries_in-append (x ∷ xs) ys = ap (λ (es : List (ℕ × ℕ)). x.entries ++ es) (entries_in-append xs ys) ∙ sym (append_assoc x.entries (entries_in xs) (entries_in ys))

pub entries_in-one : (before : List PlainPage) (last : PlainPage) → entries_in (before ++ last ∷ []) ≡ entries_in before ++ last.entries
entries_in-one before last = entries_in-append before (last ∷ []) ∙ ap (λ (es : List (ℕ × ℕ)). entries_in before ++ es) (append-nil last.entries)

pub entries_along-numbered : (number : ℕ) (pages : List PlainPage) → entries_along (numbered number pages) ≡ entries_in pages
entries_along-numbered number [] = refl
entries_along-numbered number (p ∷ pages) = ap (λ (es : List (ℕ × ℕ)). p.entries ++ es) (entries_along-numbered (suc number) pages)

-- the page at the end
pub last_there : (d last : PlainPage) (before : List PlainPage) (n : ℕ) → suc n ≡ length (before ++ last ∷ []) → get_or (before ++ last ∷ []) n d ≡ last
last_there d last [] zero is = refl
last_there d last [] (suc n) is = absurd (omega arith)
last_there d last (b ∷ before) zero is = absurd (omega (arith, length-append before (last ∷ [])))
last_there d last (b ∷ before) (suc n) is = last_there d last before n (omega arith)

pub last_set : (last other : PlainPage) (before : List PlainPage) (n : ℕ) → suc n ≡ length (before ++ last ∷ []) → set (before ++ last ∷ []) n other ≡ before ++ other ∷ []
last_set last other [] zero is = refl
last_set last other [] (suc n) is = absurd (omega arith)
last_set last other (b ∷ before) zero is = absurd (omega (arith, length-append before (last ∷ [])))
last_set last other (b ∷ before) (suc n) is = ap (λ (ps : List PlainPage). b ∷ ps) (last_set last other before n (omega arith))

-- keys that rise from one place rise from another that is no greater than the first
rising_both : (from other : ℕ) (xs : List (ℕ × ℕ)) (to end : ℕ) → 0 < length xs → IsRising from xs to → IsRising other xs end → IsRising from xs end
rising_both from other [] to end some rising rises = absurd (omega arith)
rising_both from other (x ∷ xs) to end some rising rises = (rising.0, rises.1)

module _ (fan : ℕ) (pages : List PlainPage) (leaves : AreLeaves fan pages) (key : ℕ) (above : IsRising 0 (entries_in pages) key) where
  -- the key is above those of the last leaf
  of_last : IsRising (next_key 0 (entries_in leaves.before)) leaves.last.entries key
  of_last = rising_rest 0 (entries_in leaves.before) leaves.last.entries key
      (subst (λ (es : List (ℕ × ℕ)). IsRising 0 es key) (ap entries_in leaves.parts ∙ entries_in-one leaves.before leaves.last) above)

  first_floor : (before : List PlainPage) → before ≡ [] → InLine fan 0 None (Some 1) (numbered 1 before) leaves.last.floor (Some (suc (length before))) → least_above leaves.last.floor ≤ key
  first_floor [] is line = omega (arith, ap least_above line.0)
  first_floor (b ∷ before) is line = absurd (let long : length (b ∷ before) ≡ 0 = ap length is in omega (arith, long))

  pub rises_in_last : IsRising (least_above leaves.last.floor) leaves.last.entries key
  rises_in_last = by leaves.last.entries leaves.lawful.keys_rise of_last leaves.begun
    where
      by : (entries : List (ℕ × ℕ)) → IsRising (least_above leaves.last.floor) entries (leaves.last.high + 1) → IsRising (next_key 0 (entries_in leaves.before)) entries key
          → (0 < length entries) ⊎ (leaves.before ≡ []) → IsRising (least_above leaves.last.floor) entries key
      by entries rising rises (inl some) = rising_both _ _ entries _ key some rising rises
      by [] rising rises (inr none) = first_floor leaves.before none leaves.line
      by (e ∷ entries) rising rises (inr none) = rising_both _ _ (e ∷ entries) _ key (omega arith) rising rises

  -- so is it above the last one
  pub last_key_below : 0 < length leaves.last.entries → last_key leaves.last.entries < key
  last_key_below some =
      omega (arith, next_at_most_to _ leaves.last.entries key of_last, next_key-last (next_key 0 (entries_in leaves.before)) 0 leaves.last.entries some)

  -- one entry more in the last leaf
  abbrev pub with_entry : ℕ → PlainPage
  with_entry pointer = with_entries leaves.last (leaves.last.entries ++ (key, pointer) ∷ [])

  pub grown_by_entry : (pointer : ℕ) → pointer ≤ GREATEST_KEY → key ≤ GREATEST_KEY → length leaves.last.entries < fan → AreLeaves fan (leaves.before ++ with_entry pointer ∷ [])
  grown_by_entry pointer fits in_range room = record {
    before = leaves.before;
    last = with_entry pointer;
    parts = refl;
    line = leaves.line;
    lawful = lawful_appended fan fan leaves.last key pointer leaves.lawful leaves.is_leaf rises_in_last (omega (arith, in_range, leaves.is_last)) fits room;
    is_leaf = leaves.is_leaf;
    is_last = leaves.is_last;
    full = leaves.full;
    begun = inl (omega (arith, length-append leaves.last.entries ((key, pointer) ∷ [])));
  }

  pub entries_by_entry : (pointer : ℕ) → entries_in (leaves.before ++ with_entry pointer ∷ []) ≡ entries_in pages ++ (key, pointer) ∷ []
  entries_by_entry pointer =
      entries_in-one leaves.before (with_entry pointer) ∙ sym (append_assoc (entries_in leaves.before) leaves.last.entries ((key, pointer) ∷ []))
      ∙ ap (λ (es : List (ℕ × ℕ)). es ++ (key, pointer) ∷ []) (sym (ap entries_in leaves.parts ∙ entries_in-one leaves.before leaves.last))

  -- a leaf more behind the last, which ends
  abbrev pub closed : ℕ → PlainPage
  closed next = record leaves.last { high = last_key leaves.last.entries; right = Some next }

  module _ (pointer next : ℕ) (fits : pointer ≤ GREATEST_KEY) (in_range : key ≤ GREATEST_KEY) (full : length leaves.last.entries ≡ fan) (is_fan : IsFan fan) (number : IsPageNumber next)
      (is_next : next ≡ suc (suc (length leaves.before))) where
    some_there : 0 < length leaves.last.entries
    some_there = let least = is_fan.0 in omega (arith, full, least)

    abbrev new_leaf : PlainPage
    new_leaf = leaf_after (last_key leaves.last.entries) key pointer

    new_lawful : IsLawfulPage fan new_leaf
    new_lawful = record {
      level_in_range = omega arith;
      high_in_range = omega arith;
      floor_below_high = let below = last_key_below some_there in omega (arith, below, in_range);
      right_unless_last = (λ none. refl, λ greatest. refl);
      right_is_number = tt;
      at_most_fan = let least = is_fan.0 in omega (arith, least);
      keys_rise = let below = last_key_below some_there in (omega (arith, below), omega (arith, in_range));
      values_in_range = (omega arith, fits, tt);
      inner = λ inner. absurd (omega (arith, inner));
    }

    pub grown_by_leaf : AreLeaves fan ((leaves.before ++ closed next ∷ []) ++ new_leaf ∷ [])
    grown_by_leaf = record {
      before = leaves.before ++ closed next ∷ [];
      last = new_leaf;
      parts = refl;
      line =
          let below = last_key_below some_there in
          let count = length-append leaves.before (closed next ∷ []) in
          let link : Some next ≡ Some (suc (length (leaves.before ++ closed next ∷ []))) = ap (λ (n : ℕ). Some n) (omega (arith, is_next, count)) in
          let here : Some (suc (length leaves.before)) ≡ Some (1 + length leaves.before) = ap (λ (n : ℕ). Some n) (omega arith) in
          subst (λ (cells : List Cell). InLine fan 0 None (Some 1) cells (Some (last_key leaves.last.entries)) (Some (suc (length (leaves.before ++ closed next ∷ [])))))
          (sym (numbered-append 1 leaves.before (closed next ∷ [])))
          (InLine-append fan 0 None (Some 1) (numbered 1 leaves.before) (cell (1 + length leaves.before) (closed next) ∷ []) leaves.last.floor (Some (suc (length leaves.before))) _ _ leaves.line
          (here, refl, leaves.is_leaf, lawful_closed fan leaves.last next leaves.lawful leaves.is_leaf some_there (omega (arith, below, in_range)) number, (refl, link)));
      lawful = new_lawful;
      is_leaf = refl;
      is_last = refl;
      full =
          let all = ap length (entries_in-one leaves.before (closed next)) ∙ length-append (entries_in leaves.before) leaves.last.entries in
          let count = length-append leaves.before (closed next ∷ []) in
          let so_far = leaves.full in
          all ∙ ap (λ (n : ℕ). n + length leaves.last.entries) so_far ∙ ap (λ (n : ℕ). length leaves.before * fan + n) full ∙ one_more (length leaves.before) ∙ ap (λ (n : ℕ). n * fan) (omega (arith, count));
      begun = inl (omega arith);
    }
      where
        one_more : (n : ℕ) → n * fan + fan ≡ (suc n) * fan
        one_more n = omega arith

    pub entries_by_leaf : entries_in ((leaves.before ++ closed next ∷ []) ++ new_leaf ∷ []) ≡ entries_in pages ++ (key, pointer) ∷ []
    entries_by_leaf =
        entries_in-one (leaves.before ++ closed next ∷ []) new_leaf
        ∙ ap (λ (es : List (ℕ × ℕ)). es ++ (key, pointer) ∷ []) (entries_in-one leaves.before (closed next) ∙ sym (ap entries_in leaves.parts ∙ entries_in-one leaves.before leaves.last))

-- fewer by a factor are fewer
pub fewer_times : (a b k : ℕ) → a * k < b * k → a < b
fewer_times a b k less = elim (cases_lt a b) [
  | inl below ↦ below
  | inr not_below ↦ absurd (let more : b * k ≤ a * k = mul-le-mul_right k not_below in omega (arith, more, less))
]

-- where the last leaf is full and there is a number for one entry more, there is one for a leaf more
pub next_in_range : (fan : ℕ) (pages : List PlainPage) (leaves : AreLeaves fan pages) → length leaves.last.entries ≡ fan → HasLeafNumber fan pages → suc (suc (length leaves.before)) ≤ MAX_PAGE
next_in_range fan pages leaves full has =
    let all = ap length (ap entries_in leaves.parts ∙ entries_in-one leaves.before leaves.last) ∙ length-append (entries_in leaves.before) leaves.last.entries in
    let so_far = leaves.full in
    let enough = has.enough in
    let less : suc (length leaves.before) * fan < has.leaves * fan = omega (arith, all, so_far, full, enough) in
    let few = fewer_times (suc (length leaves.before)) has.leaves fan less in
    let in_range = has.in_range in
    omega (arith, few, in_range)

module _ (fan : ℕ) (pages : List PlainPage) (leaves : AreLeaves fan pages) (n : ℕ) (is_last : length pages ≡ suc n) where
  -- the page at the last place
  pub is_last_leaf : (page : PlainPage) → page ≡ get_or pages n page → page ≡ leaves.last
  is_last_leaf page there =
      there ∙ ap (λ (ps : List PlainPage). get_or ps n page) leaves.parts ∙ last_there page leaves.last leaves.before n (sym is_last ∙ ap length leaves.parts)

  -- and what it becomes
  pub last_leaf_set : (other : PlainPage) → set pages n other ≡ leaves.before ++ other ∷ []
  last_leaf_set other = ap (λ (ps : List PlainPage). set ps n other) leaves.parts ∙ last_set leaves.last other leaves.before n (sym is_last ∙ ap length leaves.parts)

  pub leaves_before : suc n ≡ suc (length leaves.before)
  leaves_before = let parts = ap length leaves.parts in omega (arith, is_last, parts, length-append leaves.before (leaves.last ∷ []))

pub some_leaf : (fan : ℕ) (pages : List PlainPage) → AreLeaves fan pages → 0 < length pages
some_leaf fan pages leaves = let parts = ap length leaves.parts in omega (arith, parts, length-append leaves.before (leaves.last ∷ []))
