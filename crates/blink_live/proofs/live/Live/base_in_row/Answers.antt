use Rattle.std.proofs.Common.{◌≡◌, ℕ, ◌<◌, Option, List, ◌++◌, ◌∷◌, [], length, take, get_or, refl, sym, ap, ◌∙◌, subst, arith}
use Rattle.std.proofs.lemmas.List.{take_more, take_all}
use Rattle.blink_page.specs.{PlainPage, IsLawfulPage}
use Rattle.blink_page.specs.declared.limits.TheConstants.{MAX_FAN}
use Rattle.blink_rows.specs.{page_words}
use Rattle.blink_live.specs.Views.{SeatState}
use Rattle.blink_live.proofs.found.EntriesInRow.{key_inside, key_word, value_inside, value_word}
use Rattle.blink_live.proofs.live.Live.base_in_row.Goals as goal

pub loop-place-init : goal.loop-place-init
loop-place-init c =
    let start = c.row_place-start.ensures.start in
    let at_1 = c.load_word-level.ensures.same in
    let at_2 = c.load_word-has_floor.ensures.same in
    let at_3 = c.load_word-floor.ensures.same in
    let at_4 = c.load_word-high.ensures.same in
    let at_5 = c.load_word-right.ensures.same in
    let at_6 = c.load_word-count.ensures.same in
    let f : SeatState → _ = λ x. x.0.reads in record {
      same = (
        at_6.0 ∙ at_5.0 ∙ at_4.0 ∙ at_3.0 ∙ at_2.0 ∙ at_1.0,
        at_6.1 ∙ at_5.1 ∙ at_4.1 ∙ at_3.1 ∙ at_2.1 ∙ at_1.1,
        at_6.2 ∙ at_5.2 ∙ at_4.2 ∙ at_3.2 ∙ at_2.2 ∙ at_1.2,
      );
      head = λ page reads.
          let words = page_words page in
          let r_1 = ap f at_1.2 ∙ reads.reads in
          let r_2 = ap f at_2.2 ∙ r_1 in
          let r_3 = ap f at_3.2 ∙ r_2 in
          let r_4 = ap f at_4.2 ∙ r_3 in
          let r_5 = ap f at_5.2 ∙ r_4 in (
            c.load_word-level.ensures.word c.args.row words start reads.reads (omega arith),
            c.load_word-has_floor.ensures.word c.args.row words start r_1 (omega arith),
            c.load_word-floor.ensures.word c.args.row words start r_2 (omega arith),
            c.load_word-high.ensures.word c.args.row words start r_3 (omega arith),
            c.load_word-right.ensures.word c.args.row words start r_4 (omega arith),
            c.load_word-count.ensures.word c.args.row words start r_5 (omega arith),
          );
      read = λ page reads. c.new-items.ensures;
    }

pub loop-place-preserved : goal.loop-place-preserved
loop-place-preserved c =
    let same = c.loop-place.invariant.same in
    let at_key = c.load_word-key.ensures.same in
    let at_value = c.load_word.ensures.same in
    let start = c.row_place-start.ensures.start in
    let f : SeatState → _ = λ x. x.0.reads in record {
      same = (at_value.0 ∙ at_key.0 ∙ same.0, at_value.1 ∙ at_key.1 ∙ same.1, at_value.2 ∙ at_key.2 ∙ same.2);
      head = c.loop-place.invariant.head;
      read = λ page reads.
          let words = page_words page in
          let place = c.loop-place.place in
          let count : c.load_word-count.result ≡ length page.entries = (c.loop-place.invariant.head page reads).5 in
          let here = ap f same.2 ∙ reads.reads in
          let inside : place < length page.entries = omega (arith, count, c.loop-place-test.true) in
          let key : c.load_word-key.result ≡ (get_or page.entries place (0, 0)).0 = c.load_word-key.ensures.word c.args.row words start here (key_inside page place inside) ∙ key_word page place _ refl in
          let value : c.load_word.result ≡ (get_or page.entries place (0, 0)).1 = c.load_word.ensures.word c.args.row words start (ap f at_key.2 ∙ here) (value_inside page place inside) ∙ value_word page place _ refl in
          c.push.ensures.items
          ∙ ap (λ (items : List (ℕ × ℕ)). items ++ (c.load_word-key.result, c.load_word.result) ∷ []) (c.loop-place.invariant.read page reads)
          ∙ (λ i. let e : ℕ × ℕ = (key i, value i) in take place page.entries ++ e ∷ [])
          ∙ sym (take_more page.entries place (0, 0) inside);
    }

-- the page that these words tell
told : (level high : ℕ) (floor right : Option ℕ) (items : List (ℕ × ℕ)) (page : PlainPage) → level ≡ page.level → floor ≡ page.floor → high ≡ page.high → right ≡ page.right → items ≡ page.entries
    → record { level = level; floor = floor; high = high; right = right; entries = items } ≡ page
told level high floor right items page same_level same_floor same_high same_right same_items =
    λ i. record { level = same_level i; floor = same_floor i; high = same_high i; right = same_right i; entries = same_items i }

pub overflow_cast-result : goal.overflow_cast-result
overflow_cast-result c =
    let page = c.requires.page.0 in
    let reads = c.requires.page.1 in
    let level = (c.loop-place.invariant.head page reads).0 in
    let small = reads.lawful.level_in_range in
    omega (arith, level, small)

pub link_of-requires : goal.link_of-requires
link_of-requires c =
    let page = c.requires.page.0 in
    let reads = c.requires.page.1 in
    (page, reads.lawful, (c.loop-place.invariant.head page reads).4)

pub invariant_of-result : goal.invariant_of-result
invariant_of-result c =
    let page = c.requires.page.0 in
    let reads = c.requires.page.1 in
    let head = c.loop-place.invariant.head page reads in
    let all : c.loop-place.place ≡ length page.entries = omega (arith, head.5, c.loop-place-test.false, c.loop-place.auto.place-end) in
    let items : c.loop-place.items.items ≡ page.entries = c.loop-place.invariant.read page reads ∙ ap (λ (n : ℕ). take n page.entries) all ∙ take_all (length page.entries) page.entries (omega arith) in
    subst (IsLawfulPage MAX_FAN) (sym (told c.load_word-level.result c.load_word-high.result c.floor_of.result c.link_of.result c.loop-place.items.items page head.0 (c.floor_of.ensures page head.1 head.2) head.3 (c.link_of.ensures page reads.lawful head.4) items)) reads.lawful

pub returns-clause-page : goal.returns-clause-page
returns-clause-page c page reads =
    let head = c.loop-place.invariant.head page reads in
    let all : c.loop-place.place ≡ length page.entries = omega (arith, head.5, c.loop-place-test.false, c.loop-place.auto.place-end) in
    let items : c.loop-place.items.items ≡ page.entries = c.loop-place.invariant.read page reads ∙ ap (λ (n : ℕ). take n page.entries) all ∙ take_all (length page.entries) page.entries (omega arith) in
    told c.load_word-level.result c.load_word-high.result c.floor_of.result c.link_of.result c.loop-place.items.items page head.0 (c.floor_of.ensures page head.1 head.2) head.3 (c.link_of.ensures page reads.lawful head.4) items
