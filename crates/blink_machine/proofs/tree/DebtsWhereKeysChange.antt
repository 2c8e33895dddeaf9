-- How debts pass where high keys and separators change.
use Rattle.std.proofs.Common.{◌≡◌, ℕ, ◌+◌, ◌<◌, ◌⊎◌, inl, inr, Option, Some, None, IsSome, refl, sym, ap, ◌∙◌, subst, is_some}
use Rattle.std.proofs.lemmas.Bool.{cases_eq}
use Rattle.blink_page.specs.{value_at}
use Rattle.blink_page.proofs.Offered.{none_unless_some}
use Rattle.blink_page.specs.declared.limits.TheConstants.{GREATEST_KEY}
use Rattle.blink_rest.specs.{entries_along, IsHighKey, BeginsAt}
use Rattle.blink_machine.specs.declared.machine.Debt.{Debt}
use Rattle.blink_machine.specs.TreeWithDebts.{Levels, IsDebt}
use Rattle.blink_machine.proofs.tree.TreeStatements.{GainsSeparator}
use Rattle.blink_machine.proofs.tree_state.WhatMayPass.{Owes, DebtsPass}

-- a debt is what an operation owes, or isn't
pub owes_or_not : (owed : Option Debt) (level separator : ℕ) → Owes owed level separator ⊎ ¬ Owes owed level separator
owes_or_not None level separator = inr (λ it. let some : None ≡ Some it.debt = it.owes in absurd cc)
owes_or_not (Some debt) level separator = elim (cases_eq debt.level level) [
  | inl same_level ↦ elim (cases_eq debt.separator separator) [
    | inl same_separator ↦ inl (record { debt = debt; owes = refl; same_level = same_level; same_separator = same_separator })
    | inr other ↦ inr (λ it. other (let is_it : Some debt ≡ Some it.debt = it.owes in let same : debt ≡ it.debt = cc in ap (λ (d : Debt). d.separator) same ∙ it.same_separator))
  ]
  | inr other ↦ inr (λ it. other (let is_it : Some debt ≡ Some it.debt = it.owes in let same : debt ≡ it.debt = cc in ap (λ (d : Debt). d.level) same ∙ it.same_level))
]

-- what a step makes of high keys and separators: high keys stay; each is an old one, or the debt that the operation owes now; and
-- the separators above stay as they are, but for what the operation owed, which is one now
pub record KeysPass (levels new : Levels) (before now : Option Debt) : Type 0 where
  pub kept : (level key : ℕ) → IsHighKey (levels level) key → IsHighKey (new level) key
  pub made : (level key : ℕ) → IsHighKey (new level) key → key < GREATEST_KEY → IsHighKey (levels level) key ⊎ Owes now level key
  pub above : (level key : ℕ) → key < GREATEST_KEY → ¬ Owes before level key
      → is_some (value_at key (entries_along (new (level + 1)))) ≡ is_some (value_at key (entries_along (levels (level + 1))))
  pub posted : (level key : ℕ) → Owes before level key → IsSome (value_at key (entries_along (new (level + 1))))
  pub is_debt : (debt : Debt) → now ≡ Some debt → IsDebt new debt.level debt.separator × BeginsAt (new debt.level) debt.page (Some debt.separator)
  pub is_new : (debt : Debt) → now ≡ Some debt → ¬ IsHighKey (levels debt.level) debt.separator

module _ (levels new : Levels) (before now : Option Debt) (keys : KeysPass levels new before now) where
  -- what the operation owed is no debt any more
  no_longer_debt : (level key : ℕ) → IsDebt new level key → Owes before level key → ⊥
  no_longer_debt level key debt it =
      let some : IsSome (value_at key (entries_along (new (level + 1)))) = keys.posted level key it in
      let none : value_at key (entries_along (new (level + 1))) ≡ None = debt.not_above in
      cc

  -- each debt is what the operation owes now, or was one before
  debts_made : (level key : ℕ) → IsDebt new level key → Owes now level key ⊎ IsDebt levels level key
  debts_made level key debt = elim (keys.made level key debt.is_high_key debt.below_greatest) [
    | inl was ↦ elim (owes_or_not before level key) [
      | inl it ↦ absurd (no_longer_debt level key debt it)
      | inr other ↦ inr (record { is_high_key = was; below_greatest = debt.below_greatest; not_above = none_unless_some _ (sym (keys.above level key debt.below_greatest other) ∙ ap is_some debt.not_above) })
    ]
    | inr it ↦ inl it
  ]

  -- so the debts pass
  pub debts_pass : DebtsPass levels new before now
  debts_pass = record {
    made = debts_made;
    paid = λ level key debt it. absurd (no_longer_debt level key debt it);
    is_debt = keys.is_debt;
    stays = λ level key debt other. record {
      is_high_key = keys.kept level key debt.is_high_key;
      below_greatest = debt.below_greatest;
      not_above = none_unless_some _ (keys.above level key debt.below_greatest other ∙ ap is_some debt.not_above);
    };
    taken = λ debt owes. inr (λ was. keys.is_new debt owes was.is_high_key);
  }

-- where one separator is gained, the others stay
pub others_gain_none : (levels new : Levels) (level separator : ℕ) → GainsSeparator levels new level separator → (other key : ℕ)
    → ((other ≡ level) × (key ≡ separator) → ⊥) → is_some (value_at key (entries_along (new (other + 1)))) ≡ is_some (value_at key (entries_along (levels (other + 1))))
others_gain_none levels new level separator gains other key differs = elim (cases_eq key separator) [
  | inl same ↦ elim (cases_eq other level) [
    | inl also ↦ absurd (differs (also, same))
    | inr elsewhere ↦ ap is_some (gains.levels_same other key elsewhere)
  ]
  | inr another ↦ gains.others_same other key another
]

-- where the separator of what the operation owed is gained, no other debt is touched
pub above_gains : (levels new : Levels) (debt : Debt) (before : Option Debt) → before ≡ Some debt → GainsSeparator levels new debt.level debt.separator → (level key : ℕ)
    → ¬ Owes before level key → is_some (value_at key (entries_along (new (level + 1)))) ≡ is_some (value_at key (entries_along (levels (level + 1))))
above_gains levels new debt before owes gains level key other = others_gain_none levels new debt.level debt.separator gains level key
    (λ both. other (record { debt = debt; owes = owes; same_level = sym both.0; same_separator = sym both.1 }))

-- and it is there
pub posted_gains : (levels new : Levels) (debt : Debt) (before : Option Debt) → before ≡ Some debt → GainsSeparator levels new debt.level debt.separator → (level key : ℕ)
    → Owes before level key → IsSome (value_at key (entries_along (new (level + 1))))
posted_gains levels new debt before owes gains level key it =
    let is_it : Some it.debt ≡ Some debt = sym it.owes ∙ owes in
    let same : it.debt ≡ debt = cc in
    let at : debt.level ≡ level = ap (λ (d : Debt). d.level) (sym same) ∙ it.same_level in
    let on : debt.separator ≡ key = ap (λ (d : Debt). d.separator) (sym same) ∙ it.same_separator in
    subst (λ (k : ℕ). IsSome (value_at k (entries_along (new (level + 1))))) on (subst (λ (l : ℕ). IsSome (value_at debt.separator (entries_along (new (l + 1))))) at gains.is_there)
