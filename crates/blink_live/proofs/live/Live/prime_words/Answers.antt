use Rattle.std.proofs.Common.{◌≡◌, ℕ, ◌+◌, ◌<◌, ◌≤◌, inl, inr, Some, List, length, ap, sym, ◌∙◌, arith}
use Rattle.std.specs.Prelude.{slice_index}
use native.Mathlib.Decide.{dec_le}
use Rattle.std.proofs.lemmas.List.{get_or-replicate, get_or_past}
use Rattle.blink_rows.specs.{prime_words}
use Rattle.blink_rows.specs.declared.limits.TheConstants.{HEAD_WORDS, ROW_WORDS}
use Rattle.blink_rows.proofs.Offered.{length-prime_words}
use Rattle.blink_live.specs.Seats.{ReadsPrime}
use Rattle.blink_live.specs.Views.{SeatState}
use Rattle.blink_live.proofs.live.Live.prime_words.Goals as goal

-- the head's words tell where the prime block's words end, which is in the row
ends : (me : SeatState) (row : ℕ) (head prime : List ℕ) → ReadsPrime me row prime
    → ((content : List ℕ) → me.0.reads ≡ Some (row, content) → (n : ℕ) → 0 ≤ n → n < HEAD_WORDS → n < length content → slice_index head n ≡ slice_index content n)
    → (HEAD_WORDS + slice_index head 5 ≡ length (prime_words prime)) × (length (prime_words prime) ≤ ROW_WORDS)
ends me row head prime reads loaded =
    let levels : slice_index head 5 ≡ length prime = loaded (prime_words prime) reads.reads 5 (omega arith) (omega arith) (omega arith) in
    let long = length-prime_words prime in
    let few = reads.few_levels in
    (omega (arith, levels, long), omega (arith, long, few))

pub overflow_add-stop : goal.overflow_add-stop
overflow_add-stop c = let end = ends _ _ _ c.requires.prime.0 c.requires.prime.1 (λ content. c.load_words.ensures.loaded c.args.row content c.row_place-start.ensures.start) in omega (arith, end)

pub load_words-requires-2-clause-places : goal.load_words-requires-2-clause-places
load_words-requires-2-clause-places c = let end = ends _ _ _ c.requires.prime.0 c.requires.prime.1 (λ content. c.load_words.ensures.loaded c.args.row content c.row_place-start.ensures.start) in (omega arith, omega (arith, end))

pub returns-clause-words : goal.returns-clause-words
returns-clause-words c prime reads =
    let content = prime_words prime in
    let again = ap (λ (x : SeatState). x.0.reads) c.load_words.ensures.same.2 ∙ reads.reads in
    let end = ends _ _ _ prime reads (λ words. c.load_words.ensures.loaded c.args.row words c.row_place-start.ensures.start) in
    record {
      width = c.load_words-2.ensures.width;
      filled = λ n inside. elim (dec_le HEAD_WORDS n) [
        | no below ↦ c.load_words-2.ensures.others n (inl (omega (arith, below))) ∙ c.load_words.ensures.loaded c.args.row content c.row_place-start.ensures.start reads.reads n (omega arith) (omega (arith, below)) (omega (arith, below, length-prime_words prime))
        | yes behind ↦ elim (dec_le (length content) n) [
          | no within ↦ c.load_words-2.ensures.loaded c.args.row content c.row_place-start.ensures.start again n behind (omega (arith, within, end)) (omega (arith, within))
          | yes beyond ↦
              c.load_words-2.ensures.others n (inr (omega (arith, beyond, end)))
              ∙ (c.load_words.ensures.others n (inr behind) ∙ (get_or-replicate ROW_WORDS n 0 0 inside ∙ sym (get_or_past content n 0 beyond)))
        ]
      ];
    }
