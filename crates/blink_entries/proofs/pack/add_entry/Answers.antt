use Rattle.std.proofs.Common.{◌≡◌, ◌+◌, ◌-◌, ◌++◌, ◌≤◌, ◌<◌, ℕ, List, Some, [], ◌∷◌, suc, length, set, get_or, Result, Ok, Err, ap, sym, subst, ◌∙◌, arith}
use Rattle.std.specs.Prelude.{OnOk}
use Rattle.blink_page.specs.{IsPageNumber, IsRising, PlainPage, last_key, least_above, with_entries}
use Rattle.blink_page.specs.declared.limits.TheConstants.{GREATEST_KEY}
use Rattle.blink_entries.specs.Packing.{AreLeaves, HasLeafNumber, entries_in, leaf_after}
use Rattle.blink_entries.proofs.packed.LeavesGrow.{closed, entries_by_entry, entries_by_leaf, grown_by_entry, grown_by_leaf, is_last_leaf, last_key_below, last_leaf_set, leaves_before, next_in_range, rises_in_last, some_leaf, with_entry}
use Rattle.blink_entries.proofs.pack.add_entry.Goals as goal

on_ok : {T E : Type 0} (result : Result T E) (P Q : Type 0) → (P → Q) → OnOk result P → OnOk result Q
on_ok (Ok value) P Q f is = f is
on_ok (Err e) P Q f is = is

-- the number of leaves is one more than that of the last place
counted : (fan count : ℕ) (pages : List PlainPage) → AreLeaves fan pages → count ≡ length pages → length pages ≡ suc (count - 1)
counted fan count pages leaves is = let some = some_leaf fan pages leaves in omega (arith, some, is)

-- the last leaf is what the body changes
its_last : (fan count : ℕ) (pages : List PlainPage) (leaves : AreLeaves fan pages) → count ≡ length pages → (page : PlainPage) → page ≡ get_or pages (count - 1) page → page ≡ leaves.last
its_last fan count pages leaves is page there = is_last_leaf fan pages leaves (count - 1) (counted fan count pages leaves is) page there

last_is : (c : goal.Then-len-from) → c.index_mut-last.result.now ≡ c.requires.leaves.last
last_is c = its_last c.args.fan c.len-count.result c.args.pages.now.items c.requires.leaves (omega (arith, c.len-count.ensures)) c.index_mut-last.result.now c.index_mut-last.ensures.value

full_is : (c : goal.Else-len-from) → c.index_mut-last.result.now ≡ c.requires.leaves.last
full_is c = its_last c.args.fan c.len-count.result c.args.pages.now.items c.requires.leaves (omega (arith, c.len-count.ensures)) c.index_mut-last.result.now c.index_mut-last.ensures.value

pub append-requires-clause-leaf : goal.append-requires-clause-leaf
append-requires-clause-leaf c = ap (λ (p : PlainPage). p.level) (last_is c) ∙ c.requires.leaves.is_leaf

pub append-requires-clause-below_high : goal.append-requires-clause-below_high
append-requires-clause-below_high c =
    let range = c.ranges.key.fits in
    subst (λ (high : ℕ). c.args.key ≤ high) (sym (ap (λ (p : PlainPage). p.high) (last_is c) ∙ c.requires.leaves.is_last)) (omega (arith, range))

pub append-requires-clause-room : goal.append-requires-clause-room
append-requires-clause-room c =
    let long = ap (λ (p : PlainPage). length p.entries) c.last.view_is in
    let room = c.if-len-from.true in let is = c.from.ensures in let count = c.len.ensures.value in let most = c.requires.fan.1 in
    omega (arith, room, is, count, long, most)

pub append-requires-clause-above : goal.append-requires-clause-above
append-requires-clause-above c =
    subst (λ (p : PlainPage). IsRising (least_above p.floor) p.entries c.args.key) (sym (last_is c))
    (rises_in_last c.args.fan c.args.pages.now.items c.requires.leaves c.args.key c.requires.above)

-- where there is room in the last leaf
with_room : (c : goal.After-pages-1) → set c.args.pages.now.items (c.len-count.result - 1) c.append.new.leaf
    ≡ c.requires.leaves.before ++ with_entry c.args.fan c.args.pages.now.items c.requires.leaves c.args.key c.requires.above c.args.pointer ∷ []
with_room c =
    let pages = c.args.pages.now.items in let leaves = c.requires.leaves in
    let last = its_last c.args.fan c.len-count.result pages leaves (omega (arith, c.len-count.ensures)) c.index_mut-last.result.now c.index_mut-last.ensures.value in
    last_leaf_set c.args.fan pages leaves (c.len-count.result - 1) (counted c.args.fan c.len-count.result pages leaves (omega (arith, c.len-count.ensures))) c.append.new.leaf
    ∙ ap (λ (p : PlainPage). leaves.before ++ p ∷ []) (c.append.ensures ∙ ap (λ (p : PlainPage). with_entries p (p.entries ++ (c.args.key, c.args.pointer) ∷ [])) last)

pub returns-then-len-from-clause-leaves : goal.returns-then-len-from-clause-leaves
returns-then-len-from-clause-leaves c =
    let pages = c.args.pages.now.items in let leaves = c.requires.leaves in
    let last = its_last c.args.fan c.len-count.result pages leaves (omega (arith, c.len-count.ensures)) c.index_mut-last.result.now c.index_mut-last.ensures.value in
    let long = ap (λ (p : PlainPage). length p.entries) (c.last.view_is ∙ last) in
    let room = c.if-len-from.true in let is = c.from.ensures in let count = c.len.ensures.value in
    let fits : c.args.pointer ≤ GREATEST_KEY = let range = c.ranges.pointer.fits in omega (arith, range) in
    let in_range : c.args.key ≤ GREATEST_KEY = let range = c.ranges.key.fits in omega (arith, range) in
    subst (AreLeaves c.args.fan) (sym (with_room c))
    (grown_by_entry c.args.fan pages leaves c.args.key c.requires.above c.args.pointer fits in_range (omega (arith, room, is, count, long)))

pub returns-then-len-from-clause-entries : goal.returns-then-len-from-clause-entries
returns-then-len-from-clause-entries c =
    ap entries_in (with_room c) ∙ entries_by_entry c.args.fan c.args.pages.now.items c.requires.leaves c.args.key c.requires.above c.args.pointer

-- where the last leaf is full
full_of : {fan count from : ℕ} {page last other : PlainPage} → page ≡ other → other ≡ last → from ≤ count → from ≡ fan → count ≡ length page.entries → length last.entries ≤ fan → length last.entries ≡ fan
full_of same is full from count most = let long = ap (λ (p : PlainPage). length p.entries) (same ∙ is) in omega (arith, long, full, from, count, most)

pub close-floor-requires-clause-leaf : goal.close-floor-requires-clause-leaf
close-floor-requires-clause-leaf c = ap (λ (p : PlainPage). p.level) (full_is c) ∙ c.requires.leaves.is_leaf

pub close-floor-requires-clause-some : goal.close-floor-requires-clause-some
close-floor-requires-clause-some c =
    let full = full_of c.last.view_is (full_is c) c.if-len-from.false c.from.ensures c.len.ensures.value c.requires.leaves.lawful.at_most_fan in
    let least = c.requires.fan.0 in
    subst (λ (p : PlainPage). 0 < length p.entries) (sym (full_is c)) (omega (arith, full, least))

-- the place behind the last leaf has a number
next_number : (fan count : ℕ) (pages : List PlainPage) (leaves : AreLeaves fan pages) → HasLeafNumber fan pages → count ≡ length pages → length leaves.last.entries ≡ fan → IsPageNumber (count + 1)
next_number fan count pages leaves number is full =
    let same = counted fan count pages leaves is in
    let before = leaves_before fan pages leaves (count - 1) same in
    let some = some_leaf fan pages leaves in
    let most = next_in_range fan pages leaves full number in
    (omega arith, omega (arith, before, same, some, is, most))

pub close-floor-requires-clause-next : goal.close-floor-requires-clause-next
close-floor-requires-clause-next c =
    let full = full_of c.last.view_is (full_is c) c.if-len-from.false c.from.ensures c.len.ensures.value c.requires.leaves.lawful.at_most_fan in
    next_number c.args.fan c.len-count.result c.args.pages.now.items c.requires.leaves c.requires.number (omega (arith, c.len-count.ensures)) full

pub close-floor-requires-clause-not_last : goal.close-floor-requires-clause-not_last
close-floor-requires-clause-not_last c =
    let full = full_of c.last.view_is (full_is c) c.if-len-from.false c.from.ensures c.len.ensures.value c.requires.leaves.lawful.at_most_fan in
    let least = c.requires.fan.0 in
    let below = last_key_below c.args.fan c.args.pages.now.items c.requires.leaves c.args.key c.requires.above (omega (arith, full, least)) in
    let range = c.ranges.key.fits in
    subst (λ (p : PlainPage). last_key p.entries < GREATEST_KEY) (sym (full_is c)) (omega (arith, below, range))

module _ (c : goal.After-push) where
  abbrev pages : List PlainPage
  pages = c.args.pages.now.items

  last : c.index_mut-last.result.now ≡ c.requires.leaves.last
  last = its_last c.args.fan c.len-count.result pages c.requires.leaves (omega (arith, c.len-count.ensures)) c.index_mut-last.result.now c.index_mut-last.ensures.value

  full : length c.requires.leaves.last.entries ≡ c.args.fan
  full = full_of c.last.view_is last c.if-len-from.false c.from.ensures c.len.ensures.value c.requires.leaves.lawful.at_most_fan

  is_next : c.len-count.result + 1 ≡ suc (suc (length c.requires.leaves.before))
  is_next =
      let count = counted c.args.fan c.len-count.result pages c.requires.leaves (omega (arith, c.len-count.ensures)) in
      let before = leaves_before c.args.fan pages c.requires.leaves (c.len-count.result - 1) count in
      let some = some_leaf c.args.fan pages c.requires.leaves in
      omega (arith, before, count, some, c.len-count.ensures)

  number : IsPageNumber (c.len-count.result + 1)
  number = next_number c.args.fan c.len-count.result pages c.requires.leaves c.requires.number (omega (arith, c.len-count.ensures)) full

  with_leaf : set pages (c.len-count.result - 1) c.close-floor.new.leaf ++ c.leaf_after.result ∷ []
      ≡ (c.requires.leaves.before ++ closed c.args.fan pages c.requires.leaves c.args.key c.requires.above (c.len-count.result + 1) ∷ []) ++ leaf_after (last_key c.requires.leaves.last.entries) c.args.key c.args.pointer ∷ []
  with_leaf =
      let count = counted c.args.fan c.len-count.result pages c.requires.leaves (omega (arith, c.len-count.ensures)) in
      let ended : c.close-floor.new.leaf ≡ closed c.args.fan pages c.requires.leaves c.args.key c.requires.above (c.len-count.result + 1)
      = c.close-floor.ensures.closed ∙ ap (λ (p : PlainPage). record p { high = last_key p.entries; right = Some (c.len-count.result + 1) }) last in
      let before = last_leaf_set c.args.fan pages c.requires.leaves (c.len-count.result - 1) count c.close-floor.new.leaf
      ∙ ap (λ (p : PlainPage). c.requires.leaves.before ++ p ∷ []) ended in
      let new : c.leaf_after.result ≡ leaf_after (last_key c.requires.leaves.last.entries) c.args.key c.args.pointer
      = c.leaf_after.ensures ∙ ap (λ (k : ℕ). leaf_after k c.args.key c.args.pointer) (c.close-floor.ensures.key ∙ ap (λ (p : PlainPage). last_key p.entries) last) in
      ap (λ (ps : List PlainPage). ps ++ c.leaf_after.result ∷ []) before
      ∙ ap (λ (p : PlainPage). (c.requires.leaves.before ++ closed c.args.fan pages c.requires.leaves c.args.key c.requires.above (c.len-count.result + 1) ∷ []) ++ p ∷ []) new

  fits : c.args.pointer ≤ GREATEST_KEY
  fits = let range = c.ranges.pointer.fits in omega (arith, range)

  in_range : c.args.key ≤ GREATEST_KEY
  in_range = let range = c.ranges.key.fits in omega (arith, range)

  grown : AreLeaves c.args.fan ((c.requires.leaves.before ++ closed c.args.fan pages c.requires.leaves c.args.key c.requires.above (c.len-count.result + 1) ∷ [])
      ++ leaf_after (last_key c.requires.leaves.last.entries) c.args.key c.args.pointer ∷ [])
  grown = grown_by_leaf c.args.fan pages c.requires.leaves c.args.key c.requires.above c.args.pointer (c.len-count.result + 1) fits in_range full c.requires.fan number is_next

  more_entries : entries_in ((c.requires.leaves.before ++ closed c.args.fan pages c.requires.leaves c.args.key c.requires.above (c.len-count.result + 1) ∷ [])
      ++ leaf_after (last_key c.requires.leaves.last.entries) c.args.key c.args.pointer ∷ []) ≡ entries_in pages ++ (c.args.key, c.args.pointer) ∷ []
  more_entries = entries_by_leaf c.args.fan pages c.requires.leaves c.args.key c.requires.above c.args.pointer (c.len-count.result + 1) fits in_range full c.requires.fan number is_next

pub leaf_after-requires : goal.leaf_after-requires
leaf_after-requires c =
    let last = its_last c.args.fan c.len-count.result c.args.pages.now.items c.requires.leaves (omega (arith, c.len-count.ensures)) c.index_mut-last.result.now c.index_mut-last.ensures.value in
    let key = ap (λ (p : PlainPage). last_key p.entries) last in
    let is = c.close-floor.ensures.key in
    let full = full_of c.last.view_is last c.if-len-from.false c.from.ensures c.len.ensures.value c.requires.leaves.lawful.at_most_fan in
    let least = c.requires.fan.0 in
    let below = last_key_below c.args.fan c.args.pages.now.items c.requires.leaves c.args.key c.requires.above (omega (arith, full, least)) in
    omega (arith, is, key, below)

pub returns-clause-leaves : goal.returns-clause-leaves
returns-clause-leaves c = on_ok c.push.result _ _ (λ pushed. subst (AreLeaves c.args.fan) (sym (pushed ∙ with_leaf c)) (grown c)) c.push.ensures

pub returns-clause-entries : goal.returns-clause-entries
returns-clause-entries c = on_ok c.push.result _ _ (λ pushed. ap entries_in (pushed ∙ with_leaf c) ∙ more_entries c) c.push.ensures
