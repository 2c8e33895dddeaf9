-- The words of the prime block's row tell the root.
use Rattle.std.proofs.Common.{◌≡◌, ℕ, suc, ◌+◌, ◌-◌, ◌<◌, Some, List, length, get_or, sym, ap, ◌∙◌, arith, ◌^◌}
use Rattle.std.specs.Prelude.{All, slice_index}
use Rattle.std.proofs.lemmas.Option.{slice_get-get_or}
use Rattle.blink_page.specs.{IsPageNumber}
use Rattle.blink_rows.specs.{prime_words}
use Rattle.blink_rows.specs.declared.limits.TheConstants.{HEAD_WORDS}
use Rattle.blink_machine.specs.{IsTopLeftmost}

module _ (prime : List ℕ) (levels : ℕ) (height : levels ≡ length prime) (some_level : 0 < length prime) where
  pub root_word : (root : ℕ) → root ≡ slice_index (prime_words prime) (HEAD_WORDS + levels - 1) → root ≡ get_or prime (levels - 1) 0
  root_word root is = let at : HEAD_WORDS + levels - 1 ≡ suc (suc (suc (suc (suc (suc (levels - 1)))))) = omega (arith, height, some_level) in is ∙ ap (slice_index (prime_words prime)) at

  pub root_is_top : (root : ℕ) → root ≡ slice_index (prime_words prime) (HEAD_WORDS + levels - 1) → IsTopLeftmost prime (levels - 1) root
  root_is_top root is = record {
    top = omega (arith, height, some_level);
    leftmost = slice_get-get_or prime (levels - 1) 0 (omega (arith, height, some_level)) ∙ ap (λ (n : ℕ). Some n) (sym (root_word root is));
  }

  pub root_is_number : (root : ℕ) → root ≡ slice_index (prime_words prime) (HEAD_WORDS + levels - 1) → All IsPageNumber prime → root < 2 ^ 32
  root_is_number root is numbers = let number = numbers (levels - 1) 0 (omega (arith, height, some_level)) in let same = root_word root is in omega (arith, number, same)
