-- Entries that were copied of a leaf, once a record was applied to them.
use Rattle.std.proofs.Common.{◌≡◌, ◌≢◌, ℕ, zero, suc, ◌+◌, ◌-◌, ◌<◌, ◌≤◌, Bool, true, false, Option, Some, None, IsSome, List, [], ◌∷◌, ◌++◌, length, get_or, take, drop, refl, sym, ap, ◌∙◌, subst, arith, append-nil, append_assoc}
use native.Mathlib.Decide.{ℕ_discrete}
use mir.Val.{bool_byte}
use Rattle.std.proofs.lemmas.Bool.{eq-eqb, ne_eqb}
use Rattle.std.proofs.lemmas.Bool.Decides.{nat_tests}
use Rattle.std.proofs.lemmas.List.{drop-append-le, drop_all, drop_more, get_or-set_other, get_or-take, length-take-le, set_split, take-append-drop, take-set-le, take-take, take_more, take_more_set}
use Rattle.std.specs.Prelude.{set, nat_lt, ◌==◌, if◌then◌else◌}
use Rattle.std.specs.List.{AllByRecursion}
use Rattle.blink_batch.specs.declared.Entry.{Entry}
use Rattle.blink_batch.specs.{IsAscending, entry, pointer_of}
use Rattle.blink_live.specs.Editing.{IsAdded, IsPlace, IsRemoved, IsReplaced, lesser}
use Rattle.blink_live.specs.Scanning.{IsCopied}

abbrev pub no_entry : Entry
no_entry = entry 0 0

abbrev pub AllKeys : (ℕ → Type 0) → List Entry → Type 0
AllKeys P es = AllByRecursion (λ (e : Entry). P e.key) es

keys_too : (P Q : ℕ → Type 0) → ((k : ℕ) → P k → Q k) → (es : List Entry) → AllKeys P es → AllKeys Q es
keys_too P Q more [] all = tt
keys_too P Q more (e ∷ rest) all = (more e.key all.0, keys_too P Q more rest all.1)

-- ---- the place of a key

module _ (key : ℕ) where
  one_counted : (e : Entry) (rest : List Entry) → lesser key (e ∷ rest) ≡ bool_byte (nat_lt e.key key) + lesser key rest
  one_counted e rest = elim (nat_lt e.key key) as (λ t. (if t then suc (lesser key rest) else lesser key rest) ≡ bool_byte t + lesser key rest) [
    | true ↦ omega arith
    | false ↦ omega arith
  ]

  -- the count of the entries up to `at`, and of those behind
  pub counts_more : (es : List Entry) (at place one : ℕ) → place + lesser key (drop at es) ≡ lesser key es → at < length es → one ≡ bool_byte (nat_lt (get_or es at no_entry).key key)
      → place + one + lesser key (drop (at + 1) es) ≡ lesser key es
  counts_more es at place one was inside is =
      let here : lesser key (drop at es) ≡ one + lesser key (drop (at + 1) es) =
      ap (lesser key) (drop_more es at no_entry inside) ∙ one_counted (get_or es at no_entry) (drop (at + 1) es) ∙ ap (λ (n : ℕ). n + lesser key (drop (at + 1) es)) (sym is) in
      omega (arith, was, here)

  pub counts_all : (es : List Entry) (at place : ℕ) → place + lesser key (drop at es) ≡ lesser key es → length es ≤ at → place ≡ lesser key es
  counts_all es at place was over =
      let none : lesser key (drop at es) ≡ 0 = ap (lesser key) (drop_all at es over) in
      omega (arith, was, none)

  pub lesser_within : (es : List Entry) → lesser key es ≤ length es
  lesser_within [] = omega arith
  lesser_within (e ∷ rest) =
      let further = lesser_within rest in
      elim (nat_lt e.key key) as (λ t. (if t then suc (lesser key rest) else lesser key rest) ≤ suc (length rest)) [
        | true ↦ omega (arith, further)
        | false ↦ omega (arith, further)
      ]

  none_lesser : (es : List Entry) → AllKeys (λ (k : ℕ). key ≤ k) es → lesser key es ≡ 0
  none_lesser [] all = refl
  none_lesser (e ∷ rest) all =
      let here = all.0 in
      let not : nat_lt e.key key ≡ false = grind (arith, nat_tests, here) in
      ap (λ (t : Bool). if t then suc (lesser key rest) else lesser key rest) not ∙ none_lesser rest all.1

  rest_none : (e : Entry) (rest : List Entry) → nat_lt e.key key ≡ false → AllKeys (λ (k : ℕ). e.key < k) rest → lesser key rest ≡ 0
  rest_none e rest not above =
      let here : key ≤ e.key = grind (arith, nat_tests, not) in
      none_lesser rest (keys_too (λ (k : ℕ). e.key < k) (λ (k : ℕ). key ≤ k) (λ k less. omega (arith, here, less)) rest above)

  -- since the keys ascend, these are the first
  pub lesser_is_place : (es : List Entry) → IsAscending es → IsPlace key es (lesser key es)
  lesser_is_place [] ascends = record { before = tt; behind = tt }
  lesser_is_place (e ∷ rest) ascends = (elim (nat_lt e.key key) as (λ t. nat_lt e.key key ≡ t → IsPlace key (e ∷ rest) (if t then suc (lesser key rest) else lesser key rest)) [
    | true ↦ λ less. let further = lesser_is_place rest ascends.1 in record { before = (grind (arith, nat_tests, less), further.before); behind = further.behind }
    | false ↦ λ not.
        let here : key ≤ e.key = grind (arith, nat_tests, not) in
        let all = keys_too (λ (k : ℕ). e.key < k) (λ (k : ℕ). key ≤ k) (λ k above. omega (arith, here, above)) rest ascends.0 in
        subst (IsPlace key (e ∷ rest)) (sym (none_lesser rest all)) (record { before = tt; behind = (here, all) })
  ]) refl

  -- and the test of a key says whether it is one of these
  pub tests_place : (es : List Entry) (at : ℕ) → IsAscending es → at < length es
      → (at < lesser key es → nat_lt (get_or es at no_entry).key key ≡ true) × (lesser key es ≤ at → nat_lt (get_or es at no_entry).key key ≡ false)
  tests_place [] at ascends inside = absurd (omega (arith, inside))
  tests_place (e ∷ rest) zero ascends inside = (elim (nat_lt e.key key) as (λ t. nat_lt e.key key ≡ t
      → (0 < (if t then suc (lesser key rest) else lesser key rest) → nat_lt e.key key ≡ true) × ((if t then suc (lesser key rest) else lesser key rest) ≤ 0 → nat_lt e.key key ≡ false)) [
        | true ↦ λ less. (λ before. less, λ behind. absurd (omega (arith, behind)))
        | false ↦ λ not.
            let none = rest_none e rest not ascends.0 in
            (λ before. absurd (omega (arith, before, none)), λ behind. not)
      ]) refl
  tests_place (e ∷ rest) (suc n) ascends inside =
      let further = tests_place rest n ascends.1 (omega (arith, inside)) in
      (elim (nat_lt e.key key) as (λ t. nat_lt e.key key ≡ t
      → (suc n < (if t then suc (lesser key rest) else lesser key rest) → nat_lt (get_or rest n no_entry).key key ≡ true)
      × ((if t then suc (lesser key rest) else lesser key rest) ≤ suc n → nat_lt (get_or rest n no_entry).key key ≡ false)) [
        | true ↦ λ less. (λ before. further.0 (omega (arith, before)), λ behind. further.1 (omega (arith, behind)))
        | false ↦ λ not.
            let none = rest_none e rest not ascends.0 in
            (λ before. absurd (omega (arith, before, none)), λ behind. further.1 (omega (arith, none)))
      ]) refl

-- ---- what entries with lesser keys and others behind them say of keys

none_above : (low key : ℕ) (es : List Entry) → key ≤ low → AllKeys (λ (k : ℕ). low < k) es → pointer_of es key ≡ None
none_above low key [] below above = refl
none_above low key (e ∷ rest) below above =
    let here = above.0 in
    rw (ne_eqb e.key key (λ same. omega (arith, below, here, same))) (none_above low key rest below above.1)

missing : (o : Option ℕ) → IsSome o → o ≡ None → ⊥
missing None found none = cc
missing (Some x) found none = cc

key_behind : (key greater : ℕ) (front back : List Entry) → AllKeys (λ (k : ℕ). k < key) front → key ≤ greater → pointer_of (front ++ back) greater ≡ pointer_of back greater
key_behind key greater [] back below least = refl
key_behind key greater (e ∷ front) back below least =
    let less = below.0 in
    rw (ne_eqb e.key greater (λ same. omega (arith, less, least, same))) (key_behind key greater front back below.1 least)

same_with : (key : ℕ) (front back new : List Entry) → pointer_of new key ≡ pointer_of back key → pointer_of (front ++ new) key ≡ pointer_of (front ++ back) key
same_with key [] back new same = same
same_with key (e ∷ front) back new same = ap (λ (o : Option ℕ). if e.key == key then Some e.pointer else o) (same_with key front back new same)

-- ---- and what holds of their keys

keys_behind : (P : ℕ → Type 0) (front back : List Entry) → AllKeys P (front ++ back) → AllKeys P back
keys_behind P [] back all = all
keys_behind P (e ∷ front) back all = keys_behind P front back all.1

keys_with : (P : ℕ → Type 0) (front back new : List Entry) → (AllKeys P back → AllKeys P new) → AllKeys P (front ++ back) → AllKeys P (front ++ new)
keys_with P [] back new keeps all = keeps all
keys_with P (e ∷ front) back new keeps all = (all.0, keys_with P front back new keeps all.1)

ascends_behind : (front back : List Entry) → IsAscending (front ++ back) → IsAscending back
ascends_behind [] back ascends = ascends
ascends_behind (e ∷ front) back ascends = ascends_behind front back ascends.1

ascends_with : (key : ℕ) (front back new : List Entry) → AllKeys (λ (k : ℕ). k < key) front → ((P : ℕ → Type 0) → P key → AllKeys P back → AllKeys P new)
    → (IsAscending back → IsAscending new) → IsAscending (front ++ back) → IsAscending (front ++ new)
ascends_with key [] back new below keeps rises ascends = rises ascends
ascends_with key (e ∷ front) back new below keeps rises ascends =
    (keys_with (λ (k : ℕ). e.key < k) front back new (keeps (λ (k : ℕ). e.key < k) below.0) ascends.0, ascends_with key front back new below.1 keeps rises ascends.1)

-- ---- the copied entries say what is known then

module _ (key from stop : ℕ) (known later : ℕ → Option ℕ) (others : (other : ℕ) → key ≢ other → later other ≡ known other) (front : List Entry) (below : AllKeys (λ (k : ℕ). k < key) front) where
  -- if those behind the lesser keys say it of the key, and of the others what they said
  edited_behind : (back new : List Entry) → IsCopied known from stop (front ++ back) → from ≤ key → key < stop
      → ((other : ℕ) → key ≢ other → pointer_of new other ≡ pointer_of back other) → pointer_of new key ≡ later key
      → ((P : ℕ → Type 0) → P key → AllKeys P back → AllKeys P new) → (IsAscending back → IsAscending new)
      → IsCopied later from stop (front ++ new)
  edited_behind back new was low high same here keeps rises = record {
    exact = λ other least most. elim (ℕ_discrete key other) [
      | yes equal ↦ subst (λ (k : ℕ). pointer_of (front ++ new) k ≡ later k) equal (key_behind key key front new below (omega arith) ∙ here)
      | no apart ↦ same_with other front back new (same other apart) ∙ (was.exact other least most ∙ sym (others other apart))
    ];
    ascending = ascends_with key front back new below keeps rises was.ascending;
    between = keys_with (λ (k : ℕ). (from ≤ k) × (k < stop)) front back new (keeps (λ (k : ℕ). (from ≤ k) × (k < stop)) (low, high)) was.between;
  }

module _ (key pointer from stop : ℕ) (known later : ℕ → Option ℕ) (front : List Entry) (below : AllKeys (λ (k : ℕ). k < key) front) where
  -- the key has another pointer
  replaced_behind : (x : Entry) (rest : List Entry) → IsReplaced key pointer known later → IsCopied known from stop (front ++ x ∷ rest) → x.key ≡ key → IsCopied later from stop (front ++ entry key pointer ∷ rest)
  replaced_behind x rest is was its_key =
      let inside = subst (λ (k : ℕ). (from ≤ k) × (k < stop)) its_key (keys_behind (λ (k : ℕ). (from ≤ k) × (k < stop)) front (x ∷ rest) was.between).0 in
      edited_behind key from stop known later is.others front below (x ∷ rest) (entry key pointer ∷ rest) was inside.0 inside.1
      (λ other apart. grind (arith, nat_tests, its_key, apart))
      (rw (eq-eqb key key refl) (sym is.here))
      (λ P here all. (here, all.1))
      (λ ascends. (subst (λ (n : ℕ). AllKeys (λ (k : ℕ). n < k) rest) its_key ascends.0, ascends.1))

  -- none of the others has a key that was absent
  all_greater : (back : List Entry) → AllKeys (λ (k : ℕ). key ≤ k) back → IsAscending back → pointer_of back key ≡ None → AllKeys (λ (k : ℕ). key < k) back
  all_greater [] least ascends absent = tt
  all_greater (x ∷ rest) least ascends absent =
      let reached = least.0 in
      let found : x.key ≡ key → pointer_of (x ∷ rest) key ≡ Some x.pointer = λ same. rw (eq-eqb x.key key same) refl in
      let less : key < x.key = (elim (ℕ_discrete x.key key) [
        | yes same ↦ absurd (missing (Some x.pointer) refl (sym (found same) ∙ absent))
        | no apart ↦ omega (arith, reached, apart)
      ]) in
      (less, keys_too (λ (k : ℕ). x.key < k) (λ (k : ℕ). key < k) (λ k above. omega (arith, less, above)) rest ascends.0)

  -- the key is among them
  added_behind : (back : List Entry) → IsAdded key pointer known later → IsCopied known from stop (front ++ back) → AllKeys (λ (k : ℕ). key ≤ k) back → from ≤ key → key < stop
      → IsCopied later from stop (front ++ entry key pointer ∷ back)
  added_behind back is was least low high =
      let absent = sym (key_behind key key front back below (omega arith)) ∙ (was.exact key low high ∙ is.absent) in
      edited_behind key from stop known later is.others front below back (entry key pointer ∷ back) was low high
      (λ other apart. rw (ne_eqb key other apart) refl)
      (rw (eq-eqb key key refl) (sym is.here))
      (λ P here all. (here, all))
      (λ ascends. (all_greater back least ascends absent, ascends))

module _ (key from stop : ℕ) (known later : ℕ → Option ℕ) (front : List Entry) (below : AllKeys (λ (k : ℕ). k < key) front) where
  -- the key isn't
  removed_behind : (x : Entry) (rest : List Entry) → IsRemoved key known later → IsCopied known from stop (front ++ x ∷ rest) → key ≤ x.key → from ≤ key → key < stop → IsCopied later from stop (front ++ rest)
  removed_behind x rest is was least low high =
      let there = sym (was.exact key low high) ∙ key_behind key key front (x ∷ rest) below (omega arith) in
      let above = (ascends_behind front (x ∷ rest) was.ascending).0 in
      let its_key : x.key ≡ key = (elim (ℕ_discrete x.key key) [
        | yes same ↦ same
        | no apart ↦ absurd (missing (known key) is.there (there ∙ rw (ne_eqb x.key key apart) (none_above x.key key rest least above)))
      ]) in
      edited_behind key from stop known later is.others front below (x ∷ rest) rest was low high
      (λ other apart. rw (ne_eqb x.key other (λ same. apart (sym its_key ∙ same))) refl)
      (none_above x.key key rest least above ∙ sym is.gone)
      (λ P here all. all.1)
      (λ ascends. ascends.1)

-- ---- a slice of copied entries, at a place of the key

parts : (es : List Entry) (at : ℕ) → at < length es → es ≡ take at es ++ get_or es at no_entry ∷ drop (at + 1) es
parts es at inside = sym (take-append-drop at es) ∙ ap (λ (rest : List Entry). take at es ++ rest) (drop_more es at no_entry inside)

-- what stands at the place
least_there : (key at : ℕ) (es : List Entry) → at < length es → AllKeys (λ (k : ℕ). key ≤ k) (drop at es) → key ≤ (get_or es at no_entry).key
least_there key at es inside least = (subst (AllKeys (λ (k : ℕ). key ≤ k)) (drop_more es at no_entry inside) least).0

-- no entry has the key if the first at least as great has another
absent_behind : (key at : ℕ) (es : List Entry) → IsAscending es → IsPlace key es at → (at < length es → (get_or es at no_entry).key ≢ key) → pointer_of es key ≡ None
absent_behind key at es ascends place other =
    ap (λ (all : List Entry). pointer_of all key) (sym (take-append-drop at es)) ∙ (key_behind key key (take at es) (drop at es) place.before (omega arith)
    ∙ none_behind (drop at es) place.behind (ascends_behind (take at es) (drop at es) (subst IsAscending (sym (take-append-drop at es)) ascends)) (starts es at other))
  where
    StartsOtherwise : List Entry → Type 0
    StartsOtherwise [] = Unit {0}
    StartsOtherwise (x ∷ rest) = x.key ≢ key

    starts : (es : List Entry) (at : ℕ) → (at < length es → (get_or es at no_entry).key ≢ key) → StartsOtherwise (drop at es)
    starts [] zero other = tt
    starts [] (suc at) other = tt
    starts (e ∷ rest) zero other = other (omega arith)
    starts (e ∷ rest) (suc at) other = starts rest at (λ inside. other (omega (arith, inside)))

    none_behind : (back : List Entry) → AllKeys (λ (k : ℕ). key ≤ k) back → IsAscending back → StartsOtherwise back → pointer_of back key ≡ None
    none_behind [] least ascends other = refl
    none_behind (x ∷ rest) least ascends other = rw (ne_eqb x.key key other) (none_above x.key key rest least.0 ascends.0)

module _ (key pointer from stop : ℕ) (known later : ℕ → Option ℕ) (es : List Entry) (at : ℕ) (is : IsReplaced key pointer known later) (placed : IsAscending es → IsPlace key es at) (was : IsCopied known from stop es) where
  pub replaced_there : at < length es → (get_or es at no_entry).key ≡ key → IsCopied later from stop (set es at (entry key pointer))
  replaced_there inside its_key =
      let x : Entry = get_or es at no_entry in
      let after : set es at (entry key pointer) ≡ take at es ++ entry key pointer ∷ drop (at + 1) es =
      set_split es at (entry key pointer) inside ∙ ap (λ (n : ℕ). take at es ++ entry key pointer ∷ drop n es) (let next : suc at ≡ at + 1 = omega arith in next) in
      subst (IsCopied later from stop) (sym after)
      (replaced_behind key pointer from stop known later (take at es) (placed was.ascending).before x (drop (at + 1) es) is (subst (IsCopied known from stop) (parts es at inside) was) its_key)

  -- the key isn't among them, and so it isn't in the range that was copied
  pub replaced_outside : (at < length es → (get_or es at no_entry).key ≢ key) → IsCopied later from stop es
  replaced_outside other_there = record {
    exact = λ other low high. elim (ℕ_discrete key other) [
      | yes same ↦
          absurd (missing (known key) is.there (sym (was.exact key (omega (arith, low, same)) (omega (arith, high, same))) ∙ absent_behind key at es was.ascending (placed was.ascending) other_there))
      | no apart ↦ was.exact other low high ∙ sym (is.others other apart)
    ];
    ascending = was.ascending;
    between = was.between;
  }

-- ---- the entries from a place on move up by one

-- they have moved as far down as `at`, and none of them has a lesser key
abbrev pub HasMoved : ℕ → ℕ → ℕ → List Entry → List Entry → Type 0
HasMoved key filled at old now =
    (at ≤ filled) × (take at now ≡ take at old) × (drop (suc at) (take (suc filled) now) ≡ drop at (take filled old)) × AllKeys (λ (k : ℕ). key ≤ k) (drop at (take filled old))

set_among : (es : List Entry) (at last : ℕ) (e : Entry) → at < length es → at ≤ last → drop at (take (suc last) (set es at e)) ≡ e ∷ drop (suc at) (take (suc last) es)
set_among [] at last e inside within = absurd (omega (arith, inside))
set_among (x ∷ rest) zero last e inside within = refl
set_among (x ∷ rest) (suc at) zero e inside within = absurd (omega (arith, within))
set_among (x ∷ rest) (suc at) (suc last) e inside within = set_among rest at last e (omega (arith, inside)) (omega (arith, within))

pub moved_none : (key filled : ℕ) (old : List Entry) → filled < length old → HasMoved key filled filled old old
moved_none key filled old room =
    let first : length (take filled old) ≡ filled = length-take-le filled old (omega (arith, room)) in
    let more : length (take (suc filled) old) ≡ suc filled = length-take-le (suc filled) old (omega (arith, room)) in
    let none : drop filled (take filled old) ≡ [] = drop_all filled (take filled old) (omega (arith, first)) in
    (omega arith, refl, drop_all (suc filled) (take (suc filled) old) (omega (arith, more)) ∙ sym none, subst (AllKeys (λ (k : ℕ). key ≤ k)) (sym none) tt)

module _ (key filled at : ℕ) (old now : List Entry) (room : filled < length old) (long : length now ≡ length old) (was : HasMoved key filled at old now) where
  abbrev First : List Entry
  First = take filled old

  long_first : length First ≡ filled
  long_first = length-take-le filled old (omega (arith, room))

  front_is : take at First ≡ take at old
  front_is = take-take at filled old was.0

  -- the entry before
  module _ (before : ℕ) (next : at ≡ suc before) where
    abbrev Before : Entry
    Before = get_or now before no_entry

    before_is : Before ≡ get_or First before no_entry
    before_is =
        let within = was.0 in
        sym (get_or-take at now before no_entry (omega (arith, next))) ∙ ap (λ (es : List Entry). get_or es before no_entry) (was.1 ∙ sym front_is)
        ∙ get_or-take at First before no_entry (omega (arith, next))

    with_before : drop before First ≡ Before ∷ drop at First
    with_before =
        let within = was.0 in
        drop_more First before no_entry (let all = long_first in omega (arith, all, within, next)) ∙ ap (λ (n : ℕ). get_or First before no_entry ∷ drop n First) (let one : before + 1 ≡ at = omega (arith, next) in one)
        ∙ ap (λ (e : Entry). e ∷ drop at First) (sym before_is)

    pub moved_more : key ≤ Before.key → HasMoved key filled before old (set now at Before)
    moved_more least =
        let within = was.0 in (
          omega (arith, within, next),
          take-set-le before now at Before (omega (arith, next)) ∙ (sym (take-take before at now (omega (arith, next))) ∙ (ap (take before) was.1 ∙ take-take before at old (omega (arith, next)))),
          ap (λ (n : ℕ). drop n (take (suc filled) (set now at Before))) (sym next) ∙ (set_among now at filled Before (omega (arith, within, room, long)) within
              ∙ (ap (λ (es : List Entry). Before ∷ es) was.2 ∙ sym with_before)),
          subst (AllKeys (λ (k : ℕ). key ≤ k)) (sym with_before) (least, was.3),
        )

    -- all before have lesser keys if the last of them has
    pub lesser_before : IsAscending First → Before.key < key → AllKeys (λ (k : ℕ). k < key) (take at First)
    lesser_before ascends less =
        let within = was.0 in
        subst (λ (n : ℕ). AllKeys (λ (k : ℕ). k < key) (take n First)) (sym next)
        (lesser_to First before ascends (let all = long_first in omega (arith, all, within, next)) (subst (λ (e : Entry). e.key < key) before_is less))
      where
        key_at : (P : ℕ → Type 0) (es : List Entry) (n : ℕ) → AllKeys P es → n < length es → P (get_or es n no_entry).key
        key_at P [] n all inside = absurd (omega (arith, inside))
        key_at P (e ∷ rest) zero all inside = all.0
        key_at P (e ∷ rest) (suc n) all inside = key_at P rest n all.1 (omega (arith, inside))

        lesser_to : (es : List Entry) (n : ℕ) → IsAscending es → n < length es → (get_or es n no_entry).key < key → AllKeys (λ (k : ℕ). k < key) (take (suc n) es)
        lesser_to [] n ascends inside less = absurd (omega (arith, inside))
        lesser_to (e ∷ rest) zero ascends inside less = (less, tt)
        lesser_to (e ∷ rest) (suc n) ascends inside less =
            let shorter : n < length rest = omega (arith, inside) in
            let above = key_at (λ (k : ℕ). e.key < k) rest n ascends.0 shorter in
            (omega (arith, above, less), lesser_to rest n ascends.1 shorter less)

  pub lesser_none : at ≤ 0 → AllKeys (λ (k : ℕ). k < key) (take at First)
  lesser_none start = subst (λ (n : ℕ). AllKeys (λ (k : ℕ). k < key) (take n First)) (let first : 0 ≡ at = omega (arith, start) in first) tt

  -- the place is free then
  pub added_there : (pointer from stop : ℕ) (known later : ℕ → Option ℕ) → IsAdded key pointer known later → from ≤ key → key < stop → AllKeys (λ (k : ℕ). k < key) (take at First) → IsCopied known from stop First
      → IsCopied later from stop (take (filled + 1) (set now at (entry key pointer)))
  added_there pointer from stop known later is low high less copied =
      let e : Entry = entry key pointer in
      let within = was.0 in
      let front : take at (take (suc filled) (set now at e)) ≡ take at First =
      take-take at (suc filled) (set now at e) (omega (arith, within)) ∙ (take-set-le at now at e (omega arith) ∙ (was.1 ∙ sym front_is)) in
      let behind : drop at (take (suc filled) (set now at e)) ≡ e ∷ drop at First =
      set_among now at filled e (omega (arith, within, room, long)) within ∙ ap (λ (es : List Entry). e ∷ es) was.2 in
      let after : take (filled + 1) (set now at e) ≡ take at First ++ e ∷ drop at First =
      ap (λ (n : ℕ). take n (set now at e)) (let one : filled + 1 ≡ suc filled = omega arith in one)
      ∙ (sym (take-append-drop at (take (suc filled) (set now at e))) ∙ (λ i. front i ++ behind i)) in
      subst (IsCopied later from stop) (sym after)
      (added_behind key pointer from stop known later (take at First) less (drop at First) is (subst (IsCopied known from stop) (sym (take-append-drop at First)) copied) was.3 low high)

-- ---- the entries behind a place move down by one

-- those before `next` have moved
abbrev pub HasClosed : ℕ → ℕ → List Entry → List Entry → Type 0
HasClosed at next old now = (take (next - 1) now ≡ take at old ++ drop (at + 1) (take next old)) × ((n : ℕ) → next ≤ n → get_or now n no_entry ≡ get_or old n no_entry)

pub closed_none : (at : ℕ) (old : List Entry) → at < length old → HasClosed at (at + 1) old old
closed_none at old inside =
    let long : length (take (at + 1) old) ≡ at + 1 = length-take-le (at + 1) old (omega (arith, inside)) in (
      ap (λ (n : ℕ). take n old) (let same : at + 1 - 1 ≡ at = omega arith in same)
          ∙ (sym (append-nil (take at old)) ∙ ap (λ (es : List Entry). take at old ++ es) (sym (drop_all (at + 1) (take (at + 1) old) (omega (arith, long))))),
      λ n behind. refl,
    )

pub closed_more : (at next : ℕ) (old now : List Entry) → at + 1 ≤ next → next < length old → length now ≡ length old → HasClosed at next old now → HasClosed at (next + 1) old (set now (next - 1) (get_or now next no_entry))
closed_more at next old now some inside long was =
    let x : Entry = get_or now next no_entry in
    let y : Entry = get_or old next no_entry in
    let last : ℕ = next - 1 in
    let same : x ≡ y = was.1 next (omega arith) in
    let all : length (take next old) ≡ next = length-take-le next old (omega (arith, inside)) in (
      ap (λ (n : ℕ). take n (set now last x)) (let one : next + 1 - 1 ≡ next - 1 + 1 = omega (arith, some) in one)
          ∙ (take_more_set now last x (omega (arith, inside, long, some))
          ∙ ((λ i. was.0 i ++ same i ∷ [])
          ∙ (append_assoc (take at old) (drop (at + 1) (take next old)) (y ∷ [])
          ∙ ap (λ (es : List Entry). take at old ++ es) (sym (drop-append-le (at + 1) (take next old) (y ∷ []) (omega (arith, all, some))) ∙ ap (drop (at + 1)) (sym (take_more old next no_entry inside)))))),
      λ n behind. get_or-set_other now last n x no_entry (λ equal. omega (arith, equal, behind, some)) ∙ was.1 n (omega (arith, behind)),
    )

module _ (key from stop : ℕ) (known later : ℕ → Option ℕ) (filled at : ℕ) (old : List Entry) (room : filled ≤ length old) (is : IsRemoved key known later) (low : from ≤ key) (high : key < stop) (placed : IsAscending (take filled old) → IsPlace key (take filled old) at)
    (was : IsCopied known from stop (take filled old)) where
  -- the key was among them
  pub removed_there : (next : ℕ) (now : List Entry) → at < filled → next ≡ filled → HasClosed at next old now → IsCopied later from stop (take (filled - 1) now)
  removed_there next now inside ends closed =
      let first : List Entry = take filled old in
      let long : length first ≡ filled = length-take-le filled old room in
      let place = placed was.ascending in
      let there : at < length first = omega (arith, long, inside) in
      let after : take (filled - 1) now ≡ take at first ++ drop (at + 1) first =
      ap (λ (n : ℕ). take (n - 1) now) (sym ends) ∙ (closed.0 ∙ (λ i. sym (take-take at filled old (omega (arith, inside))) i ++ drop (at + 1) (take (ends i) old))) in
      subst (IsCopied later from stop) (sym after)
      (removed_behind key from stop known later (take at first) place.before (get_or first at no_entry) (drop (at + 1) first) is (subst (IsCopied known from stop) (parts first at there) was)
      (least_there key at first there place.behind) low high)

  -- which it must have been
  pub removed_outside : at ≡ filled → ⊥
  removed_outside ends =
      let long : length (take filled old) ≡ filled = length-take-le filled old room in
      missing (known key) is.there (sym (was.exact key low high) ∙ absent_behind key at (take filled old) was.ascending (placed was.ascending) (λ inside same. omega (arith, inside, long, ends)))
