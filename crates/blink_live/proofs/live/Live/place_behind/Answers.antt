use Rattle.std.proofs.Common.{◌≡◌, ◌<◌, length, get_or, refl, sym, ap, ◌∙◌, arith}
use Rattle.blink_page.proofs.Offered.{place_at_most}
use Rattle.blink_rows.specs.{page_words}
use Rattle.blink_live.specs.Views.{SeatState}
use Rattle.blink_live.proofs.found.EntriesInRow.{ends_at, goes_on_behind, key_inside, key_word}
use Rattle.blink_live.proofs.live.Live.place_behind.Goals as goal

pub loop-place-preserved : goal.loop-place-preserved
loop-place-preserved c =
    let same = c.loop-place.invariant.same in
    let load = c.load_word.ensures in record {
      same = (load.same.0 ∙ same.0, load.same.1 ∙ same.1, load.same.2 ∙ same.2);
      before = λ row page begins reads many.
          let before = c.loop-place.invariant.before row page begins reads many in
          let inside : c.loop-place.place < length page.entries = omega (arith, many, c.loop-place-test.true) in
          let key : c.load_word.result ≡ (get_or page.entries c.loop-place.place (0, 0)).0 = load.word row (page_words page) begins (ap (λ (x : SeatState). x.0.reads) same.2 ∙ reads.reads) (key_inside page c.loop-place.place inside) ∙ key_word page c.loop-place.place _ refl in
          let further = goes_on_behind c.args.key page.entries c.loop-place.place before inside (omega (arith, key, c.if-key-load_word.false)) in
          omega (arith, further);
    }

pub returns-then-key-load_word-clause-place : goal.returns-then-key-load_word-clause-place
returns-then-key-load_word-clause-place c row page begins reads many =
    let same = c.loop-place.invariant.same in
    let before = c.loop-place.invariant.before row page begins reads many in
    let place = c.loop-place.place in
    let inside : place < length page.entries = omega (arith, many, c.loop-place-test.true) in
    let key : c.load_word.result ≡ (get_or page.entries place (0, 0)).0 = c.load_word.ensures.word row (page_words page) begins (ap (λ (x : SeatState). x.0.reads) same.2 ∙ reads.reads) (key_inside page place inside) ∙ key_word page place _ refl in
    sym (ends_at c.args.key page.entries place before inside (omega (arith, key, c.if-key-load_word.true)))

pub returns-clause-place : goal.returns-clause-place
returns-clause-place c row page begins reads many =
    let before = c.loop-place.invariant.before row page begins reads many in
    let most = place_at_most c.args.key page.entries in
    omega (arith, before, most, many, c.loop-place-test.false)
