use Rattle.std.proofs.Common.{◌≡◌, ◌≢◌, ℕ, Option, Some, None, ap, sym, ◌∙◌, refl, arith}
use Rattle.std.specs.Prelude.{slice_index}
use Rattle.blink_page.specs.{PlainPage}
use Rattle.blink_rows.specs.{page_words}
use Rattle.blink_live.proofs.read.floor_of.Goals as goal

module _ (page : PlainPage) (has_floor word : ℕ) (flag : has_floor ≡ slice_index (page_words page) 1) (is : word ≡ slice_index (page_words page) 2) where
  flag_of : (floor : Option ℕ) → page.floor ≡ floor → has_floor ≡ slice_index (page_words (record page { floor = floor })) 1
  flag_of floor same = flag ∙ ap (λ (o : Option ℕ). slice_index (page_words (record page { floor = o })) 1) same

  none_there : has_floor ≡ 0 → None ≡ page.floor
  none_there zero_flag = go page.floor refl
    where
      go : (floor : Option ℕ) → page.floor ≡ floor → None ≡ page.floor
      go None same = sym same
      go (Some floor) same = absurd (let one : has_floor ≡ 1 = flag_of (Some floor) same in omega (arith, one, zero_flag))

  some_there : has_floor ≢ 0 → Some word ≡ page.floor
  some_there some_flag = go page.floor refl
    where
      go : (floor : Option ℕ) → page.floor ≡ floor → Some word ≡ page.floor
      go None same = absurd (some_flag (flag_of None same))
      go (Some floor) same =
          let its : word ≡ floor = is ∙ ap (λ (o : Option ℕ). slice_index (page_words (record page { floor = o })) 2) same in
          ap (λ (n : ℕ). Some n) its ∙ sym same

pub returns-then-has_floor-eq0 : goal.returns-then-has_floor-eq0
returns-then-has_floor-eq0 c page flag is = none_there page c.args.has_floor c.args.word flag is c.if-has_floor-eq0.true

pub returns-else-has_floor-eq0 : goal.returns-else-has_floor-eq0
returns-else-has_floor-eq0 c page flag is = some_there page c.args.has_floor c.args.word flag is c.if-has_floor-eq0.false
