use Rattle.std.proofs.Common.{◌≡◌, ◌≢◌, ℕ, ◌+◌, ◌<◌, ◌≤◌, length, get_or, replicate, sym, ◌∙◌, ⊎_elim, arith, length-set, get_or-set_other, get_or-set_same, below_more}
use Rattle.std.proofs.lemmas.Bool.{cases_lt}
use Rattle.std.proofs.lemmas.List.{get_or-replicate, get_or_past, length-replicate}
use Rattle.std.specs.Mem.Slots.{slots_items}
use Rattle.blink_rows.specs.declared.limits.TheConstants.{ROW_WORDS}
use Rattle.blink_live.proofs.gathered.RowIsOfKeptPage.{word_there}
use Rattle.blink_live.proofs.close.row_words.Goals as goal

-- all words are 0 before the first is read
zeros : (n k : ℕ) → ◌≡◌ {A = ℕ} (get_or (replicate n 0) k 0) 0
zeros n k = ⊎_elim (λ (less : k < n). get_or-replicate n k 0 0 less) (λ (past : n ≤ k). get_or_past (replicate n 0) k 0 (omega (arith, past, length-replicate {A = ℕ} n 0))) (cases_lt k n)

pub loop-i-init : goal.loop-i-init
loop-i-init c = record {
  width = length-replicate {A = ℕ} ROW_WORDS 0;
  read = λ k less. absurd (omega (arith, less));
  rest = λ k past. zeros ROW_WORDS k;
}

pub loop-i-preserved : goal.loop-i-preserved
loop-i-preserved c =
    let words = c.loop-i.words in
    let inside : c.loop-i.i < length words = omega (arith, c.loop-i.invariant.width, c.loop-i-test.true, c.requires.fits) in
    record {
      width = length-set words c.loop-i.i c.word.result ∙ c.loop-i.invariant.width;
      read = below_more _ _
          (λ k h. let other : k ≢ c.loop-i.i = omega arith in get_or-set_other words c.loop-i.i k c.word.result 0 other ∙ c.loop-i.invariant.read k h)
          (get_or-set_same words c.loop-i.i c.word.result 0 inside ∙ sym (word_there (slots_items c.args.closed.now.words) (c.args.start + c.loop-i.i) c.word.result c.word.ensures));
      rest = λ k past. get_or-set_other words c.loop-i.i k c.word.result 0 (λ same. omega (arith, same, past)) ∙ c.loop-i.invariant.rest k (omega (arith, past));
    }
