-- What two passes have seen of each other's keys, where one tells the other.
use Rattle.std.proofs.Common.{◌≡◌, ℕ, Option, List, [], ap, sym, ◌∙◌, subst}
use Rattle.blink_batch.specs.{pointer_of}
use Rattle.std.specs.Prelude.{Contains}
use mathlib.Core.List.{IsPrefix, append-nil}
use Rattle.blink_live.specs.declared.view.Change.{Change}
use Rattle.blink_live.specs.declared.view.Plan.{Plan}
use Rattle.blink_live.specs.declared.view.Share.{Share}
use Rattle.blink_live.specs.declared.view.View.{View}
use Rattle.blink_live.specs.Changes.{after, last_state, states_of}
use Rattle.blink_live.specs.Rule.{Owners, IsShare}
use Rattle.blink_live.specs.Views.{KnowsItsOwn, SawItsOwn, ShowsNoMore}
use Rattle.blink_live.proofs.told.PrefixesOfOneList.{prefix_of_prefix}
use Rattle.blink_live.proofs.told.StatesOfKeys.{after-last_state, states_of-prefix, prefixes_of_each_other}

-- a prefix of the list of changes shows of a share's keys no more than its own operations made: so does what any seat has seen, or was told
pub prefix_shows_no_more : (plan : Plan) (owners : Owners) (log : List Change) (owner : ℕ) (share : Share) (seen : List Change) → IsShare plan owners log owner share → IsPrefix seen log → ShowsNoMore seen share
prefix_shows_no_more plan owners log owner share seen its_own prefix key mine =
    subst (λ (states : List (Option ℕ)). IsPrefix (states_of key seen) states) ((its_own key mine).changes) (states_of-prefix key seen log prefix)

-- so it is with what a pass was told that looks back
pub no_more_of : (seen : List Change) (share : Share) (v : View) → v.told ≡ seen → v.share ≡ share → ShowsNoMore v.told v.share → ShowsNoMore seen share
no_more_of seen share v told same_share is = subst (λ (x : List Change × Share). ShowsNoMore x.0 x.1) (λ i. (told i, same_share i)) is

-- and with what one has seen of its own keys
pub no_more_of_own : (seen : List Change) (share : Share) (v : View) → v.seen ≡ seen → v.share ≡ share → SawItsOwn v → ShowsNoMore seen share
no_more_of_own seen share v now_seen same_share saw =
    subst (λ (x : List Change × Share). ShowsNoMore x.0 x.1) (λ i. (now_seen i, same_share i))
    (λ key mine. subst (λ (states : List (Option ℕ)). IsPrefix (states_of key v.seen) states) (saw key mine) ([], append-nil (states_of key v.seen)))

-- a prefix of them shows no more either
pub prefix_of_made : (seen : List Change) (share : Share) (keys : List ℕ) (prefix : List Change) → keys ≡ share.keys → ShowsNoMore seen share → IsPrefix prefix seen
    → (key : ℕ) → Contains keys key → IsPrefix (states_of key prefix) (states_of key share.changes)
prefix_of_made seen share keys prefix its_keys no_more is key mine =
    prefix_of_prefix (states_of key prefix) (states_of key seen) (states_of key share.changes) (states_of-prefix key prefix seen is) (no_more key (subst (λ (all : List ℕ). Contains all key) its_keys mine))

-- and where they go on from what the pass has seen, they show just that
pub all_that_was_made : (seen : List Change) (v : View) (keys : List ℕ) → keys ≡ v.share.keys → SawItsOwn v → IsPrefix v.seen seen → ShowsNoMore seen v.share → (key : ℕ) → Contains keys key → states_of key seen ≡ states_of key v.share.changes
all_that_was_made seen v keys its_keys saw prefix no_more key mine =
    let its : Contains v.share.keys key = subst (λ (all : List ℕ). Contains all key) its_keys mine in
    prefixes_of_each_other (states_of key seen) (states_of key v.share.changes) (no_more key its)
    (subst (λ (states : List (Option ℕ)). IsPrefix states (states_of key seen)) (saw key its) (states_of-prefix key v.seen seen prefix))

-- who has seen its own changes knows what its share says
pub knows_what_it_saw : (plan : Plan) (owners : Owners) (log : List Change) (owner : ℕ) (v : View) → v.plan ≡ plan → IsShare plan owners log owner v.share → SawItsOwn v → KnowsItsOwn v
knows_what_it_saw plan owners log owner v same_plan its_own saw = record {
  state = λ key mine.
      let f = pointer_of v.plan.opening in
      let its = its_own key mine in
      after-last_state f v.seen key
      ∙ (ap (last_state (f key)) (saw key mine ∙ sym its.changes)
      ∙ (sym (after-last_state f log key)
      ∙ (ap (λ (p : Plan). after (pointer_of p.opening) log key) same_plan ∙ sym its.kept)));
  changes = saw;
}
