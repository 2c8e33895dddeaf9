-- Entries whose keys ascend, place by place, as pairs that rise.
use Rattle.std.proofs.Common.{◌≡◌, ℕ, ◌+◌, ◌-◌, ◌<◌, ◌≤◌, zero, suc, List, [], ◌∷◌, ◌++◌, get_or, length, take, refl, sym, ap, subst, ◌∙◌, arith}
use Rattle.std.proofs.Math.Seq.{take-suc}
use Rattle.std.proofs.lemmas.List.{length-map, take_all}
use Rattle.blink_operation.specs.declared.Entry.{Entry}
use Rattle.blink_operation.specs.{IsAscending}
use Rattle.blink_page.specs.{IsRising, Rises}
use Rattle.blink_page.proofs.Offered.{IsRising-append, rising_rises}
use Rattle.blink_rest.specs.{pairs_of}
use Rattle.blink_rest.proofs.Offered.{ascending_from, entries_from-pairs_of}

pub pairs_of-append : (xs ys : List Entry) → pairs_of (xs ++ ys) ≡ pairs_of xs ++ pairs_of ys
pairs_of-append [] ys = refl
pairs_of-append (x ∷ xs) ys = ap (λ (es : List (ℕ × ℕ)). (x.key, x.pointer) ∷ es) (pairs_of-append xs ys)

pub length-pairs_of : (entries : List Entry) → length (pairs_of entries) ≡ length entries
length-pairs_of entries = length-map entries (λ (e : Entry). (e.key, e.pointer))

-- one entry more
pub pairs_more : (entries : List Entry) (i : ℕ) (d : Entry) → i < length entries → pairs_of (take (i + 1) entries) ≡ pairs_of (take i entries) ++ ((get_or entries i d).key, (get_or entries i d).pointer) ∷ []
pairs_more entries i d inside =
    let next : i + 1 ≡ suc i = omega arith in
    ap (λ (n : ℕ). pairs_of (take n entries)) next ∙ ap pairs_of (take-suc entries i d inside) ∙ pairs_of-append (take i entries) (get_or entries i d ∷ [])

-- keys that rise are below each later one
pub rising_at : (from : ℕ) (entries : List Entry) (i : ℕ) (d : Entry) (to : ℕ) → i < length entries → IsRising from (pairs_of entries) to → IsRising from (pairs_of (take i entries)) (get_or entries i d).key
rising_at from [] i d to inside rising = absurd (omega arith)
rising_at from (e ∷ entries) zero d to inside rising = rising.0
rising_at from (e ∷ entries) (suc i) d to inside rising = (rising.0, rising_at (e.key + 1) entries i d to (omega arith) rising.1)

-- the first alone
pub rising_first : (entries : List Entry) (d : Entry) → 0 < length entries → IsRising 0 (pairs_of (take 1 entries)) ((get_or entries 0 d).key + 1)
rising_first [] d some = absurd (omega arith)
rising_first (e ∷ entries) d some = (omega arith, omega arith)

pub ascending_of : (entries : List Entry) (to : ℕ) → IsRising 0 (pairs_of entries) to → IsAscending entries
ascending_of entries to rising = subst IsAscending (entries_from-pairs_of entries) (ascending_from 0 (pairs_of entries) to rising)

same_default : (entries : List Entry) (i : ℕ) (d e : Entry) → i < length entries → get_or entries i d ≡ get_or entries i e
same_default [] i d e inside = absurd (omega arith)
same_default (x ∷ entries) zero d e inside = refl
same_default (x ∷ entries) (suc i) d e inside = same_default entries i d e (omega arith)

-- the entries up to a place rise, to just above the last key
abbrev pub AreRising : List Entry → ℕ → Type 0
AreRising entries place = (d : Entry) → place ≤ length entries → IsRising 0 (pairs_of (take place entries)) ((get_or entries (place - 1) d).key + 1)

pub rising_next : (entries : List Entry) (place : ℕ) (e : Entry) → 1 ≤ place → place < length entries → (get_or entries (place - 1) e).key < (get_or entries place e).key → AreRising entries place → AreRising entries (place + 1)
rising_next entries place e from inside above rising = λ d within.
    let here = rising e (omega (arith, inside)) in
    let back : place + 1 - 1 ≡ place = omega arith in
    let key : (get_or entries place e).key + 1 ≡ (get_or entries (place + 1 - 1) d).key + 1
    = ap (λ (x : Entry). x.key + 1) (same_default entries place e d inside) ∙ ap (λ (n : ℕ). (get_or entries n d).key + 1) (sym back) in
    subst (IsRising 0 (pairs_of (take (place + 1) entries))) key
    (subst (λ (es : List (ℕ × ℕ)). IsRising 0 es ((get_or entries place e).key + 1)) (sym (pairs_more entries place e inside))
    (IsRising-append 0 (pairs_of (take place entries)) (((get_or entries place e).key, (get_or entries place e).pointer) ∷ []) ((get_or entries (place - 1) e).key + 1) ((get_or entries place e).key + 1) here (omega (arith, above), omega arith)))

pub all_rise : (entries : List Entry) (place : ℕ) → length entries ≤ place → (1 ≤ length entries → place ≤ length entries) → AreRising entries place → Rises (pairs_of entries)
all_rise [] place end within rising = omega arith
all_rise (e ∷ entries) place end within rising =
    let here = rising e (within (omega arith)) in
    subst (λ (es : List Entry). Rises (pairs_of es)) (take_all place (e ∷ entries) end) (rising_rises 0 (pairs_of (take place (e ∷ entries))) _ here)
