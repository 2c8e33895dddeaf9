-- The write of the lower half of a page that is split keeps all that is so between steps.
use Rattle.std.proofs.Common.{◌≡◌, ◌≢◌, ℕ, ◌+◌, ◌≤◌, inl, inr, Option, Some, None, IsSome, length, slice_get, refl, sym, ap, ◌∙◌, subst, is_some}
use Rattle.std.proofs.lemmas.Bool.{cases_eq, cases_lt}
use Rattle.blink_operation.specs.declared.Answer.{Answer}
use Rattle.blink_page.specs.{value_at, IsPageNumber, PlainPage, least_above}
use Rattle.blink_page.proofs.Offered.{none_unless_some}
use Rattle.blink_rest.specs.{entries_along, IsHighKey, BeginsAt}
use Rattle.blink_machine.specs.declared.machine.Debt.{Debt}
use Rattle.blink_machine.specs.declared.machine.State.TheVariants.{AskPrime}
use Rattle.blink_machine.specs.Machine.{PlainMachine, level_of}
use Rattle.blink_machine.specs.TreeState.{TreeState}
use Rattle.blink_machine.specs.Owned.{debt_of, unlinked_of, split_of}
use Rattle.blink_machine.specs.Placed.{HasAnswer, IsPlaced}
use Rattle.blink_machine.specs.Invariant.{InvariantWith}
use Rattle.blink_machine.specs.Table.{Brings}
use Rattle.blink_machine.specs.TreeWithDebts.{Levels, IsDebt, IsInChain}
use Rattle.blink_machine.proofs.tree.TreeStatements.{TreeLaws, IsSplitIn}
use Rattle.blink_machine.proofs.tree_state.KnownPagesStay.{remembered_before, AreRemembered-grows}
use Rattle.blink_machine.proofs.tree_state.WhoseOperation.{Turns}
use Rattle.blink_machine.proofs.tree_state.WhatMayPass.{Owes, UnlinkedPasses, SplitPasses, keeps_latch}
use Rattle.blink_machine.proofs.tree_state.WhatAStepNeeds.{step_has_invariant}
use Rattle.blink_machine.proofs.tree.DebtsWhereKeysChange.{KeysPass, debts_pass}
use Rattle.blink_machine.proofs.operation.WriteOfOwnPage.{WritesOwn, own_alone, own_numbers}
use Rattle.blink_machine.proofs.operation.PageAtWork.{WorksOn}

-- a split of the page that the operation works on, with the debt that it makes
pub record MakesDebt (old new : TreeState) (levels grown : Levels) (m : PlainMachine) (number : ℕ) (lower upper : PlainPage) (debt : Debt) : Type 0 where
  pub work : WorksOn old levels m number debt.level
  pub split : IsSplitIn old.fan old.prime new.pages levels grown debt.level work.cell lower upper debt.page debt.separator
  pub lower_high : lower.high ≡ debt.separator
  pub lower_right : lower.right ≡ Some debt.page
  pub upper_floor : upper.floor ≡ Some debt.separator
  pub new_number : IsPageNumber debt.page
  pub brings : Brings m.op m.job
  pub same_level : debt.level ≡ level_of m.job

module _ (laws : TreeLaws) (old new : TreeState) (levels grown : Levels) (invariant : InvariantWith old levels) (worker : ℕ) (m : PlainMachine) (placed : IsPlaced old levels m)
    (number : ℕ) (lower upper : PlainPage) (debt : Debt) (own : WritesOwn old new worker m number lower) (makes : MakesDebt old new levels grown m number lower upper debt) where
  -- the page that it works on is in a chain
  is_chained : IsInChain levels number
  is_chained = record { level = debt.level; cell = makes.work.cell; stands = makes.work.stands; same_number = makes.work.same_number }

  -- what is no high key of a level is no separator of the level above
  not_separator : (found : Option ℕ) → value_at debt.separator (entries_along (levels (debt.level + 1))) ≡ found → value_at debt.separator (entries_along (levels (debt.level + 1))) ≡ None
  not_separator None is = is
  not_separator (Some child) is =
      absurd (makes.split.is_new (laws.separators_are_high_keys old.fan old.prime old.pages levels debt.level debt.separator child invariant.lawful.tree is))

  -- the debt is one, with its page
  makes_debt : is_some (value_at debt.separator (entries_along (grown (debt.level + 1)))) ≡ is_some (value_at debt.separator (entries_along (levels (debt.level + 1))))
      → IsDebt grown debt.level debt.separator × BeginsAt (grown debt.level) debt.page (Some debt.separator)
  makes_debt above = (
    record {
      is_high_key = record { cell = record { number = makes.work.cell.number; page = lower }; stands = makes.split.lower_stands; same_high = makes.lower_high };
      below_greatest = makes.split.below_greatest;
      not_above = none_unless_some _ (above ∙ ap is_some (not_separator (value_at debt.separator (entries_along (levels (debt.level + 1)))) refl));
    },
    record { cell = record { number = debt.page; page = upper }; stands = makes.split.upper_stands; same_number = refl; same_floor = makes.upper_floor },
  )

  -- so the debts pass, where the operation pays what it owed
  pub split_keys : ((level key : ℕ) → ¬ Owes (debt_of m) level key → is_some (value_at key (entries_along (grown (level + 1)))) ≡ is_some (value_at key (entries_along (levels (level + 1)))))
      → ((level key : ℕ) → Owes (debt_of m) level key → IsSome (value_at key (entries_along (grown (level + 1)))))
      → ¬ Owes (debt_of m) debt.level debt.separator → KeysPass levels grown (debt_of m) (Some debt)
  split_keys above posted another = record {
    kept = makes.split.high_keys_kept;
    made = λ level key is_high below. elim (makes.split.one_high_key level key is_high) [
      | inl was ↦ inl was
      | inr its ↦ inr (record { debt = debt; owes = refl; same_level = sym its.0; same_separator = sym its.1 })
    ];
    above = λ level key below differs. above level key differs;
    posted = posted;
    is_debt = λ d owes. let same : debt ≡ d = cc in
        subst (λ (x : Debt). IsDebt grown x.level x.separator × BeginsAt (grown x.level) x.page (Some x.separator)) same (makes_debt (above debt.level debt.separator another));
    is_new = λ d owes. let same : debt ≡ d = cc in subst (λ (x : Debt). ¬ IsHighKey (levels x.level) x.separator) same makes.split.is_new;
  }

  -- the new page is in a chain
  split_unlinked : unlinked_of m ≡ Some debt.page → UnlinkedPasses old.pages new.pages levels grown (unlinked_of m) None
  split_unlinked unlinked = record {
    placed = λ other page there. elim (cases_eq other number) [
      | inl same ↦ inl (rw same (makes.split.chains_kept number is_chained))
      | inr differs ↦ elim (cases_eq other debt.page) [
        | inl is_new ↦ inl (record { level = debt.level; cell = record { number = debt.page; page = upper }; stands = makes.split.upper_stands; same_number = sym is_new })
        | inr another ↦ inr (inr (page, sym (own.writes.others other differs) ∙ there, λ had. absurd (another cc)))
      ]
    ];
    in_no_chain = λ other mine. absurd cc;
    linked = λ other in_chain. elim (makes.split.one_linked other in_chain) [ inl was ↦ inl was | inr is_new ↦ inr (unlinked ∙ ap Some (sym is_new)) ];
    taken = λ other mine. absurd cc;
  }

  -- a level that had one page had this one
  was_long : (leftmost : ℕ) → slice_get old.prime debt.level ≡ Some leftmost → leftmost ≢ number → 2 ≤ length (levels debt.level)
  was_long leftmost there differs = elim (cases_lt (length (levels debt.level)) 2) [
    | inl short ↦
        let same : makes.work.cell.number ≡ leftmost = laws.only_is_leftmost old.fan old.prime old.pages levels debt.level leftmost makes.work.cell invariant.lawful.tree there makes.work.stands short in
        absurd (differs (sym same ∙ makes.work.same_number))
    | inr long ↦ long
  ]

  -- a top level that grows is this operation's, or another's
  split_top : split_of m ≡ None → SplitPasses old.prime new.prime levels grown (split_of m) (Some number)
  split_top none level leftmost top there long = elim (cases_eq leftmost number) [
    | inl same ↦ inl (ap Some (sym same))
    | inr differs ↦ inr (record {
      top = rw own.same_prime at top;
      leftmost_there = rw own.same_prime at there;
      long = elim (cases_eq level debt.level) [
        | inl at ↦ rw at (was_long leftmost (rw at at (rw own.same_prime at there)) differs)
        | inr elsewhere ↦ rw (makes.split.others_same level elsewhere) at long
      ];
      kept = λ had. absurd cc;
    })
  ]

  -- so the step keeps everything
  pub split_has_invariant : (answer : Option Answer) → HasAnswer answer → Turns old.machines new.machines worker m (record m { state = AskPrime number debt; answer = answer })
      → KeysPass levels grown (debt_of m) (Some debt) → unlinked_of m ≡ Some debt.page → split_of m ≡ None → InvariantWith new grown
  split_has_invariant answer answered turn keys unlinked no_split =
      step_has_invariant old new levels worker m (record m { state = AskPrime number debt; answer = answer }) invariant turn grown (record {
        same_fan = own.same_fan;
        numbers_in_range = own_numbers laws old new levels invariant worker m number lower own is_chained;
        tree = rw own.same_prime makes.split.tree;
        grows = makes.split.grows;
        debts = debts_pass levels grown (debt_of m) (Some debt) keys;
        unlinked = split_unlinked unlinked;
        split = split_top no_split;
        latch = keeps_latch own.same_holder (sym own.latch);
        placed = record {
          same_fan = placed.same_fan ∙ sym own.same_fan;
          words = placed.words;
          at_its_state = (
            answered,
            record {
              cell = record { number = makes.work.cell.number; page = lower };
              stands = makes.split.lower_stands;
              same_number = makes.work.same_number;
              ends_at = makes.lower_high;
              links_to = makes.lower_right;
              new_number = makes.new_number;
              brings = makes.brings;
              same_level = makes.same_level;
              remembers = AreRemembered-grows levels grown makes.split.grows (debt.level + 1) debt.separator m.remembered
                  (remembered_before levels (debt.level + 1) (least_above makes.work.cell.page.floor) debt.separator m.remembered makes.split.above_floor makes.work.remembers);
            },
          );
        };
        alone = own_alone laws old new levels invariant worker m number lower own is_chained grown
            (λ level d stands differs. makes.split.others_stay level d stands (λ is_it. differs (is_it ∙ makes.work.same_number)));
      })
