-- Which states need what.
use Rattle.std.proofs.Common.{◌≡◌, ℕ, ◌⊎◌, inl, inr, Option, List, refl}
use Rattle.blink_page.specs.{PlainPage}
use Rattle.blink_machine.specs.declared.machine.Debt.{Debt}
use Rattle.blink_machine.specs.declared.machine.Need.TheVariants.{Latch, WriteNew, WritePage, Unlatch}
use Rattle.blink_machine.specs.declared.machine.Next.{Next}
use Rattle.blink_machine.specs.declared.machine.State.{State}
use Rattle.blink_machine.specs.declared.machine.State.TheVariants.{Want, Change, SplitNew, SplitOld, Root, Leave}
use Rattle.blink_machine.specs.Machine.{need_at}

-- a latch
pub needs_latch : (s : State) (number : ℕ) → need_at s ≡ Latch number → s ≡ Want number
needs_latch (Want page) number needs = let same : page ≡ number = cc in cc
needs_latch s number needs = absurd cc

-- to let a latch go
pub needs_unlatch : (s : State) (number : ℕ) → need_at s ≡ Unlatch number → (next : Next) × (s ≡ Leave number next)
needs_unlatch (Leave page next) number needs = (next, let same : page ≡ number = cc in cc)
needs_unlatch s number needs = absurd cc

-- it has read a full page that it splits, and writes the upper half
pub record IsAtSplitNew (s : State) : Type 0 where
  pub number : ℕ
  pub page : PlainPage
  pub here : s ≡ SplitNew number page

-- it writes a new root
pub record IsAtRoot (s : State) : Type 0 where
  pub number : ℕ
  pub debt : Debt
  pub prime : List ℕ
  pub here : s ≡ Root number debt prime

-- to write a new page
pub needs_new : (s : State) → need_at s ≡ WriteNew → IsAtSplitNew s ⊎ IsAtRoot s
needs_new (SplitNew number page) needs = inl (record { number = number; page = page; here = refl })
needs_new (Root number debt prime) needs = inr (record { number = number; debt = debt; prime = prime; here = refl })
needs_new s needs = absurd cc

-- it writes a page with its change
pub record IsAtChange (s : State) (number : ℕ) : Type 0 where
  pub changed : PlainPage
  pub kept : Option ℕ
  pub here : s ≡ Change number changed kept

-- it writes the lower half of a page
pub record IsAtSplitOld (s : State) (number : ℕ) : Type 0 where
  pub lower : PlainPage
  pub debt : Debt
  pub here : s ≡ SplitOld number lower debt

-- to write a page in its place
pub needs_write : (s : State) (number : ℕ) → need_at s ≡ WritePage number → IsAtChange s number ⊎ IsAtSplitOld s number
needs_write (Change page changed kept) number needs = inl (record { changed = changed; kept = kept; here = let same : page ≡ number = cc in cc })
needs_write (SplitOld page lower debt) number needs = inr (record { lower = lower; debt = debt; here = let same : page ≡ number = cc in cc })
needs_write s number needs = absurd cc
