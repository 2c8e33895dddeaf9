-- What the keeper knows of keys once it has seen what a pass had seen that comes back.
use Rattle.std.proofs.Common.{◌≡◌, ℕ, List, [], ap, sym, ◌∙◌, subst}
use Rattle.std.specs.Prelude.{Contains}
use Rattle.blink_batch.specs.{pointer_of}
use Rattle.blink_live.specs.declared.live.Keeper.{Keeper}
use Rattle.blink_live.specs.declared.live.Live.{Live}
use Rattle.blink_live.specs.declared.live.Pass.{Pass}
use Rattle.blink_live.specs.declared.view.Change.{Change}
use Rattle.blink_live.specs.declared.view.Plan.{Plan}
use Rattle.blink_live.specs.declared.view.View.{View}
use Rattle.blink_live.specs.Changes.{after, entries_after, states_of}
use Rattle.blink_live.specs.Handles.{IsPassOf, keys_of, known_entries, opening_of, own_changes_of, seen_by, share_of, taken_of}
use Rattle.blink_live.specs.Retiring.{HaveTold}
use Rattle.blink_live.specs.Views.{SeatState, KnowsItsOwn, forgets_told, learns_of_others, retires, takes_one}
use Rattle.blink_live.proofs.told.EntriesAfterChanges.{after-same_states, entries_after-state}
use Rattle.blink_live.proofs.told.StatesOfKeys.{prefixes_of_each_other, states_of-prefix}

-- the keeper's view once the pass is back
abbrev pub left : View → List ℕ → List Change → View
left v taken seen = record v { role = takes_one v.role; taken = taken; seen = seen; told = [] }

pub comes_to : (keeper pass keeper_then pass_then back around : SeatState) (taken : List ℕ) (told : HaveTold keeper pass keeper_then pass_then) → back ≡ (retires keeper_then.0 taken pass_then.0, keeper_then.1) → around ≡ (forgets_told back.0, back.1)
    → around ≡ (left keeper.0 taken told.seen, keeper.1)
comes_to keeper pass keeper_then pass_then back around taken told is_back is_around =
    is_around
    ∙ (ap (λ (x : SeatState). let y : SeatState = (forgets_told x.0, x.1) in y) is_back
    ∙ (λ i. (forgets_told (retires (told.same_keeper i).0 taken (told.is i).0), (told.same_keeper i).1)))

module _ (live : Live) (keeper : Keeper) (pass : Pass) (its_pass : IsPassOf live pass) (keeper_then pass_then : SeatState) (told : HaveTold keeper.seat.me pass.seat.me keeper_then pass_then) where
  knows : KnowsItsOwn (learns_of_others pass.seat.me.0 told.seen)
  knows = subst (λ (x : SeatState). KnowsItsOwn x.0) told.is told.knows_own

  mine : (key : ℕ) → Contains (keys_of pass) key → Contains pass.seat.me.0.share.keys key
  mine key has = subst (λ (keys : List ℕ). Contains keys key) pass.keys_are has

  pub its_state : (key : ℕ) → Contains (keys_of pass) key → pointer_of (entries_after (opening_of live) told.seen) key ≡ pointer_of (share_of pass) key
  its_state key has =
      entries_after-state (opening_of live) told.seen key
      ∙ (ap (λ (p : Plan). after (pointer_of p.opening) told.seen key) (sym its_pass.1) ∙ knows.state key (mine key has))

  pub its_changes : (key : ℕ) → Contains (keys_of pass) key → states_of key told.seen ≡ own_changes_of pass key
  its_changes key has = knows.changes key (mine key has)

  pub free_changes : (key : ℕ) → ¬ Contains (taken_of keeper) key → states_of key told.seen ≡ states_of key (seen_by keeper)
  free_changes key free = prefixes_of_each_other (states_of key told.seen) (states_of key (seen_by keeper))
      (told.no_more key (subst (λ (taken : List ℕ). ¬ Contains taken key) keeper.taken_are free))
      (states_of-prefix key (seen_by keeper) told.seen told.heard)

  pub free_state : (key : ℕ) → ¬ Contains (taken_of keeper) key → pointer_of (entries_after (opening_of live) told.seen) key ≡ pointer_of (known_entries live keeper) key
  free_state key free =
      entries_after-state (opening_of live) told.seen key
      ∙ (after-same_states (pointer_of (opening_of live)) told.seen (seen_by keeper) key (free_changes key free) ∙ sym (entries_after-state (opening_of live) (seen_by keeper) key))
