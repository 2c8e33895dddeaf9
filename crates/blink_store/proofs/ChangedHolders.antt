-- What one change of the list of held pages does to the holders.
use Rattle.std.proofs.Common.{◌≡◌, ◌≢◌, ℕ, ◌<◌, ◌≤◌, zero, suc, Option, Some, None, List, set, replicate, inl, inr, refl, sym, ◌∙◌, subst, arith, length-set}
use Rattle.std.specs.Prelude.{◌⊎◌, slice_get}
use Rattle.std.proofs.lemmas.Bool.{cases_eq}
use Rattle.blink_store.specs.Latches.{Holds, IsHeldByOne, IsHeldBelow, holder_of, HoldsNone, ChangesHolder}
use Rattle.blink_store.specs.declared.latches.TheConstants.{WORKERS}
use Rattle.blink_store.proofs.ChangedLists.{slice_get-set_same, slice_get-set_other}
use Rattle.blink_store.proofs.HoldersOfPages.{some_or_none, holder_holds, none_holds, holder_of-holds, empty_entry, same_holder, holder_inside}

-- one entry of the list changes
module _ (held : List (Option ℕ)) (one : IsHeldByOne held) (worker : ℕ) (inside : worker < WORKERS) (entry : Option ℕ) where
  -- who holds a page after the change
  held_after : (who page : ℕ) → Holds (set held worker entry) who page
      → ((who ≡ worker) × (entry ≡ Some page)) ⊎ ((who ≢ worker) × Holds held who page)
  held_after who page holds =
      elim (cases_eq who worker) [
        | inl same ↦
            let there : slice_get (set held worker entry) worker ≡ Some (Some page) = subst (λ (w : ℕ). Holds (set held worker entry) w page) same holds in
            let put : slice_get (set held worker entry) worker ≡ Some entry = slice_get-set_same held worker entry (omega (arith, one.workers)) in
            inl (same, cc)
        | inr other ↦ inr (other, sym (slice_get-set_other held worker who entry other) ∙ holds)
      ]

  module _ (free : (page : ℕ) → entry ≡ Some page → holder_of held page ≡ None) where
    -- no page gets a second holder
    pub held_by_one : IsHeldByOne (set held worker entry)
    held_by_one = record {
      workers = length-set held worker entry ∙ one.workers;
      one_each = λ first second page of_first of_second.
          elim (held_after first page of_first) [
            | inl a ↦ elim (held_after second page of_second) [
              | inl b ↦ a.0 ∙ sym b.0
              | inr b ↦ absurd (none_holds held page second (free page a.1) b.1)
            ]
            | inr a ↦ elim (held_after second page of_second) [
              | inl b ↦ absurd (none_holds held page first (free page b.1) a.1)
              | inr b ↦ one.one_each first second page a.1 b.1
            ]
          ];
    }

    -- a page that the worker held neither before nor after keeps its holder
    keeps_holder : (page : ℕ) → (Holds held worker page → ⊥) → (entry ≡ Some page → ⊥) → holder_of (set held worker entry) page ≡ holder_of held page
    keeps_holder page before after = same_holder held (set held worker entry) page held_by_one
        (λ who holds. slice_get-set_other held worker who entry (λ same. before (subst (λ (w : ℕ). Holds held w page) same holds)) ∙ holds)
        (λ who holds. elim (held_after who page holds) [ inl a ↦ absurd (after a.1) | inr a ↦ a.1 ])

-- a worker who holds no page gets one that nobody holds
module _ (held : List (Option ℕ)) (one : IsHeldByOne held) (worker page : ℕ) (inside : worker < WORKERS)
    (idle : HoldsNone held worker) (free : holder_of held page ≡ None) where
  only_free : (other : ℕ) → Some page ≡ Some other → holder_of held other ≡ None
  only_free other same = let e : page ≡ other = cc in subst (λ (p : ℕ). holder_of held p ≡ None) e free

  pub latched_held_by_one : IsHeldByOne (set held worker (Some page))
  latched_held_by_one = held_by_one held one worker inside (Some page) only_free

  pub latched_changes : ChangesHolder held (set held worker (Some page)) page (Some worker)
  latched_changes = record {
    changed = holder_of-holds (set held worker (Some page)) latched_held_by_one page worker
        (slice_get-set_same held worker (Some page) (omega (arith, one.workers)));
    others = λ other differs. keeps_holder held one worker inside (Some page) only_free other
        (empty_entry held one worker other idle) (λ same. differs cc);
  }

-- a worker gives back the page that he holds
module _ (held : List (Option ℕ)) (one : IsHeldByOne held) (worker page : ℕ) (holds : holder_of held page ≡ Some worker) where
  nothing_new : (other : ℕ) → None ≡ Some other → holder_of held other ≡ None
  nothing_new other same = cc

  pub unlatched_held_by_one : IsHeldByOne (set held worker None)
  unlatched_held_by_one = held_by_one held one worker (holder_inside held one worker page holds) None nothing_new

  pub unlatched_changes : ChangesHolder held (set held worker None) page None
  unlatched_changes = record {
    changed = elim (some_or_none (holder_of (set held worker None) page)) [
      | inl found ↦ elim (held_after held one worker (holder_inside held one worker page holds) None found.0 page (holder_holds (set held worker None) page found.0 found.1)) [
        | inl a ↦ absurd (let e : ◌≡◌ {A = Option ℕ} None (Some page) = a.1 in cc)
        | inr a ↦ absurd (a.0 (one.one_each found.0 worker page a.1 (holder_holds held page worker holds)))
      ]
      | inr none ↦ none
    ];
    others = λ other differs. keeps_holder held one worker (holder_inside held one worker page holds) None nothing_new other
        (λ also. differs (let e : Holds held worker page = holder_holds held page worker holds in cc)) (λ same. cc);
  }

-- a bound of the workers that hold a page stays one where it grows past the worker whose entry changes
pub changed_held_below : (held : List (Option ℕ)) (reach above worker : ℕ) (entry : Option ℕ) → IsHeldByOne held → IsHeldBelow held reach
    → worker < WORKERS → above ≤ WORKERS → reach ≤ above → ((page : ℕ) → entry ≡ Some page → worker < above)
    → IsHeldBelow (set held worker entry) above
changed_held_below held reach above worker entry one below inside at_most grows covers = record {
  inside = at_most;
  below = λ who page holds. elim (held_after held one worker inside entry who page holds) [
    | inl a ↦ let w : worker < above = covers page a.1 in let e : who ≡ worker = a.0 in omega arith
    | inr a ↦ let w : who < reach = below.below who page a.1 in omega arith
  ];
}

-- a list of empty entries
pub no_entry : (count worker page : ℕ) → Holds (replicate count None) worker page → ⊥
no_entry zero worker page holds = let e : ◌≡◌ {A = Option (Option ℕ)} None (Some (Some page)) = holds in cc
no_entry (suc count) zero page holds = let e : ◌≡◌ {A = Option (Option ℕ)} (Some None) (Some (Some page)) = holds in cc
no_entry (suc count) (suc worker) page holds = no_entry count worker page holds

-- the latches of a new tree
pub none_held_by_one : IsHeldByOne (replicate WORKERS None)
none_held_by_one = record {
  workers = refl;
  one_each = λ first second page of_first of_second. absurd (no_entry WORKERS first page of_first);
}

pub none_held_below : IsHeldBelow (replicate WORKERS None) 0
none_held_below = record {
  inside = omega arith;
  below = λ worker page holds. absurd (no_entry WORKERS worker page holds);
}
