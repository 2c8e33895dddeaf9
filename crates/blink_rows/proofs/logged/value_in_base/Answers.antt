use Rattle.std.proofs.Common.{◌≡◌, ℕ, ◌+◌, ◌<◌, ◌≢◌, Some, List, length, get_or, drop, eqb, Bool, sym, ap, ◌∙◌, eq-eqb, ne_eqb, arith}
use Rattle.std.proofs.lemmas.List.{drop_more}
use Rattle.std.specs.Prelude.{if◌then◌else◌}
use Rattle.blink_page.specs.{value_at}
use Rattle.blink_rows.proofs.LogWords.{entry_stands}
use Rattle.blink_rows.proofs.logged.value_in_base.Goals as goal

-- the entry at this place is looked at before those behind it
first : (key place : ℕ) (entries : List (ℕ × ℕ)) → place < length entries
    → value_at key (drop place entries) ≡ (if eqb (get_or entries place (0, 0)).0 key then Some (get_or entries place (0, 0)).1 else value_at key (drop (place + 1) entries))
first key place entries inside = ap (value_at key) (drop_more entries place (0, 0) inside)

pub returns-then-words-at : goal.returns-then-words-at
returns-then-words-at c page begins base =
    let place = c.loop-place.place in
    let inside : place < length page.entries = omega (arith, base, c.loop-place-test.true) in
    let word = entry_stands page c.args.words.now begins place inside in
    let key : (get_or page.entries place (0, 0)).0 ≡ c.args.key = sym word.0 ∙ c.if-words-at.true in
    let looked = c.loop-place.invariant page begins base in
    ap Some word.1 ∙ sym (looked ∙ (first c.args.key place page.entries inside ∙ ap (λ (t : Bool). if t then Some (get_or page.entries place (0, 0)).1 else value_at c.args.key (drop (place + 1) page.entries)) (eq-eqb (get_or page.entries place (0, 0)).0 c.args.key key)))

pub loop-place-preserved : goal.loop-place-preserved
loop-place-preserved c page begins base =
    let place = c.loop-place.place in
    let inside : place < length page.entries = omega (arith, base, c.loop-place-test.true) in
    let word = entry_stands page c.args.words.now begins place inside in
    let other : (get_or page.entries place (0, 0)).0 ≢ c.args.key = λ same. c.if-words-at.false (word.0 ∙ same) in
    c.loop-place.invariant page begins base ∙ (first c.args.key place page.entries inside ∙ ap (λ (t : Bool). if t then Some (get_or page.entries place (0, 0)).1 else value_at c.args.key (drop (place + 1) page.entries)) (ne_eqb (get_or page.entries place (0, 0)).0 c.args.key other))
