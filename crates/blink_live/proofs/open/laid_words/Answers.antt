use Rattle.std.proofs.Common.{◌≡◌, List, ℕ, ◌∙◌, drop, length, sym, subst, arith}
use Rattle.std.proofs.lemmas.List.{take-append-le, take_all}
use Rattle.blink_live.specs.Laid.{IsLaid}
use Rattle.blink_live.proofs.open.laid_words.Goals as goal

pub returns : goal.returns
returns c =
    let words : List ℕ = c.lay_tree.new.words in
    let len : ℕ = c.in_ok-words.words.len in
    let width = c.lay_tree.ensures.width in
    let all : length words ≡ len = omega (arith, width, c.in_ok-words.ensures.len, c.word_count.ensures) in
    subst (IsLaid c.args.counts.now c.args.store.now) (sym (take-append-le len words (drop (length words) c.in_ok-words.words.items) (omega (arith, all)) ∙ take_all len words (omega (arith, all)))) c.lay_tree.ensures
