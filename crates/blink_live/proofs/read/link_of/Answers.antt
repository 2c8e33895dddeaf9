use Rattle.std.proofs.Common.{◌≡◌, ◌≢◌, ℕ, ◌≤◌, Option, Some, None, ap, sym, ◌∙◌, subst, refl, arith}
use Rattle.std.specs.Prelude.{IfSome, slice_index}
use Rattle.blink_page.specs.{PlainPage, IsLawfulPage, IsPageNumber}
use Rattle.blink_page.specs.declared.limits.TheConstants.{MAX_FAN, MAX_PAGE}
use Rattle.blink_rows.specs.{page_words}
use Rattle.blink_live.proofs.read.link_of.Goals as goal

module _ (page : PlainPage) (word : ℕ) (lawful : IsLawfulPage MAX_FAN page) (is : word ≡ slice_index (page_words page) 4) where
  word_of : (right : Option ℕ) → page.right ≡ right → word ≡ slice_index (page_words (record page { right = right })) 4
  word_of right same = is ∙ ap (λ (o : Option ℕ). slice_index (page_words (record page { right = o })) 4) same

  number : (right : ℕ) → page.right ≡ Some right → IsPageNumber right
  number right same = subst (λ (o : Option ℕ). IfSome o IsPageNumber) same lawful.right_is_number

  none_there : word ≡ 0 → None ≡ page.right
  none_there no_word = go page.right refl
    where
      go : (right : Option ℕ) → page.right ≡ right → None ≡ page.right
      go None same = sym same
      go (Some right) same = absurd (let its : word ≡ right = word_of (Some right) same in let some = number right same in omega (arith, its, some, no_word))

  some_there : word ≢ 0 → Some word ≡ page.right
  some_there some_word = go page.right refl
    where
      go : (right : Option ℕ) → page.right ≡ right → Some word ≡ page.right
      go None same = absurd (some_word (word_of None same))
      go (Some right) same = let its : word ≡ right = word_of (Some right) same in ap (λ (n : ℕ). Some n) its ∙ sym same

  at_most : word ≤ MAX_PAGE
  at_most = go page.right refl
    where
      go : (right : Option ℕ) → page.right ≡ right → word ≤ MAX_PAGE
      go None same = let its : word ≡ 0 = word_of None same in omega (arith, its)
      go (Some right) same = let its : word ≡ right = word_of (Some right) same in let some = number right same in omega (arith, its, some)

pub overflow_cast-result : goal.overflow_cast-result
overflow_cast-result c = let small = at_most c.requires.0 c.args.word c.requires.1 c.requires.2 in omega (arith, small)

pub returns-then-word-eq0 : goal.returns-then-word-eq0
returns-then-word-eq0 c page lawful is = none_there page c.args.word lawful is c.if-word-eq0.true

pub returns-else-word-eq0 : goal.returns-else-word-eq0
returns-else-word-eq0 c page lawful is = some_there page c.args.word lawful is c.if-word-eq0.false
