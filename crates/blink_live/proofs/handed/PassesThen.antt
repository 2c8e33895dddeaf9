-- What two passes have and know once keys have changed hands between them.
use Rattle.std.proofs.Common.{◌≡◌, ℕ, List, ap, sym, ◌∙◌, subst}
use Rattle.std.specs.Prelude.{Contains}
use mathlib.Core.List.{IsPrefix}
use Rattle.blink_batch.specs.{pointer_of}
use Rattle.blink_live.specs.declared.live.Live.{Live}
use Rattle.blink_live.specs.declared.live.Pass.{Pass}
use Rattle.blink_live.specs.declared.view.Plan.{Plan}
use Rattle.blink_live.specs.declared.view.View.{View}
use Rattle.blink_live.specs.Changes.{after, states_of}
use Rattle.blink_live.specs.Handles.{IsPassOf, changes_by, keys_of, opening_of, own_changes_of, seen_of, share_of}
use Rattle.blink_live.specs.Parcels.{HaveMoved, parts_with}
use Rattle.blink_live.specs.Retiring.{without}
use Rattle.blink_live.specs.Views.{SawItsOwn, SeatState, changes_of, entries_of}
use Rattle.blink_live.proofs.dealt.KeysOfShare.{among_from_contains, changes_of_keep, entries_of_keep}
use Rattle.blink_live.proofs.handed.SharesOfKeys.{states_mine, states_theirs, with_those-other, with_those-own}
use Rattle.blink_live.proofs.retired.KeysWithout.{not_among, stays}
use Rattle.blink_live.proofs.told.OwnersAreSeen.{all_that_was_made}
use Rattle.blink_live.proofs.told.StatesOfKeys.{states_of-prefix}

-- of the keys that it has left, a pass has seen what it had seen
saw_the_rest : (v : View) (keys : List ℕ) → SawItsOwn v → SawItsOwn (parts_with v keys)
saw_the_rest v keys saw key has =
    saw key ((stays keys v.share.keys key).0 has).0 ∙ sym (changes_of_keep (without keys v.share.keys) v.share.changes key (among_from_contains (without keys v.share.keys) key has))

module _ (live : Live) (from to : Pass) (its : IsPassOf live to) (keys all rest : List ℕ) (giver taker : SeatState) (moved : HaveMoved keys all from.seat.me to.seat.me giver taker)
    (rest_is : rest ≡ without keys (keys_of from)) where
  -- ---- the first pass

  pub rest_are : rest ≡ giver.0.share.keys
  rest_are = rest_is ∙ (ap (without keys) from.keys_are ∙ sym (ap (λ (x : SeatState). x.0.share.keys) moved.gave))

  pub entries_left : giver.0.share.entries ≡ entries_of rest (share_of from)
  entries_left = ap (λ (x : SeatState). x.0.share.entries) moved.gave
      ∙ ap (λ (l : List ℕ). entries_of l (share_of from)) (sym (ap (λ (x : SeatState). x.0.share.keys) moved.gave) ∙ sym rest_are)

  pub changes_left : giver.0.share.changes ≡ changes_of rest (changes_by from)
  changes_left = ap (λ (x : SeatState). x.0.share.changes) moved.gave
      ∙ ap (λ (l : List ℕ). changes_of l (changes_by from)) (sym (ap (λ (x : SeatState). x.0.share.keys) moved.gave) ∙ sym rest_are)

  pub giver_saw : SawItsOwn giver.0
  giver_saw = subst (λ (x : SeatState). SawItsOwn x.0) (sym moved.gave) (saw_the_rest from.seat.me.0 keys from.own_seen)

  pub giver_state : IsPassOf live from → (key : ℕ) → Contains rest key → after (pointer_of (opening_of live)) giver.0.seen key ≡ pointer_of giver.0.share.entries key
  giver_state from_its key has =
      ap (λ (p : Plan). after (pointer_of p.opening) giver.0.seen key) (sym (ap (λ (x : SeatState). x.0.plan) moved.gave ∙ from_its.1))
      ∙ (moved.giver_knows (saw_the_rest from.seat.me.0 keys from.own_seen)).state key (subst (λ (l : List ℕ). Contains l key) rest_are has)

  pub giver_changes : (key : ℕ) → Contains rest key → states_of key giver.0.seen ≡ states_of key giver.0.share.changes
  giver_changes key has = giver_saw key (subst (λ (l : List ℕ). Contains l key) rest_are has)

  -- ---- the second

  pub takers_keys : all ≡ taker.0.share.keys
  takers_keys = sym (ap (λ (x : SeatState). x.0.share.keys) moved.took)

  now_seen : taker.0.seen ≡ moved.seen
  now_seen = ap (λ (x : SeatState). x.0.seen) moved.took

  pub took_state : (key : ℕ) → Contains keys key → pointer_of taker.0.share.entries key ≡ pointer_of (share_of from) key
  took_state key has =
      let among = among_from_contains keys key has in
      ap (λ (x : SeatState). pointer_of x.0.share.entries key) moved.took
      ∙ (with_those-own keys (entries_of keys (share_of from)) (share_of to) key among ∙ entries_of_keep keys (share_of from) key among)

  pub took_changes : (key : ℕ) → Contains keys key → states_of key taker.0.share.changes ≡ own_changes_of from key
  took_changes key has =
      let among = among_from_contains keys key has in
      ap (λ (x : SeatState). states_of key x.0.share.changes) moved.took
      ∙ (states_theirs keys (changes_of keys (changes_by from)) (changes_by to) key among ∙ changes_of_keep keys (changes_by from) key among)

  pub other_state : (key : ℕ) → ¬ Contains keys key → pointer_of taker.0.share.entries key ≡ pointer_of (share_of to) key
  other_state key none =
      ap (λ (x : SeatState). pointer_of x.0.share.entries key) moved.took
      ∙ with_those-other keys (entries_of keys (share_of from)) (share_of to) key (not_among keys key none)

  pub other_changes : (key : ℕ) → ¬ Contains keys key → states_of key taker.0.share.changes ≡ own_changes_of to key
  other_changes key none =
      ap (λ (x : SeatState). states_of key x.0.share.changes) moved.took
      ∙ states_mine keys (changes_of keys (changes_by from)) (changes_by to) key (not_among keys key none)

  pub saw_own : IsPrefix (seen_of to) taker.0.seen
  saw_own = subst (IsPrefix (seen_of to)) (sym now_seen) moved.saw

  pub saw_theirs : IsPrefix (seen_of from) taker.0.seen
  saw_theirs = subst (IsPrefix (seen_of from)) (sym now_seen) moved.heard

  its_plan : taker.0.plan ≡ to.seat.me.0.plan
  its_plan = ap (λ (x : SeatState). x.0.plan) moved.took

  pub knows_state : (key : ℕ) → Contains all key → after (pointer_of (opening_of live)) taker.0.seen key ≡ pointer_of taker.0.share.entries key
  knows_state key has =
      ap (λ (p : Plan). after (pointer_of p.opening) taker.0.seen key) (sym (its_plan ∙ its.1))
      ∙ moved.knows_own.state key (subst (λ (l : List ℕ). Contains l key) takers_keys has)

  pub knows_changes : (key : ℕ) → Contains all key → states_of key taker.0.seen ≡ states_of key taker.0.share.changes
  knows_changes key has = moved.knows_own.changes key (subst (λ (l : List ℕ). Contains l key) takers_keys has)

  -- of the keys that the first has left the second has seen exactly the first one's changes
  pub saw_all : (key : ℕ) → Contains rest key → states_of key taker.0.seen ≡ states_of key giver.0.share.changes
  saw_all key has = ap (states_of key) now_seen
      ∙ all_that_was_made moved.seen giver.0 rest rest_are giver_saw (subst (λ (x : SeatState). IsPrefix x.0.seen moved.seen) (sym moved.gave) moved.heard) moved.no_more key has

  -- and of the second one's keys the first has seen only the second one's changes
  pub saw_prefix : (key : ℕ) → Contains all key → IsPrefix (states_of key giver.0.seen) (states_of key taker.0.share.changes)
  saw_prefix key has =
      let shown : IsPrefix giver.0.seen taker.0.seen = subst (λ (x : SeatState). IsPrefix x.0.seen taker.0.seen) (sym moved.gave) saw_theirs in
      subst (IsPrefix (states_of key giver.0.seen)) (knows_changes key has) (states_of-prefix key giver.0.seen taker.0.seen shown)
