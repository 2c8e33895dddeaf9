use Rattle.std.proofs.Common.{◌≡◌, ◌↔◌, ℕ, List, inl, inr, refl, ap, sym, ◌∙◌, subst, ⊎_elim}
use Rattle.std.specs.Prelude.{Contains}
use Rattle.blink_live.specs.Handles.{keys_of}
use Rattle.blink_live.specs.Retiring.{without}
use Rattle.blink_live.specs.Views.{SeatState}
use Rattle.blink_live.proofs.handed.PassesThen.{changes_left, entries_left, giver_changes, giver_saw, giver_state, knows_changes, knows_state, other_changes, other_state, rest_are, saw_all, saw_own, saw_prefix, saw_theirs, took_changes, took_state}
use Rattle.blink_live.proofs.retired.KeysWithout.{stays}
use Rattle.blink_live.proofs.live.Live.hand_over.Goals as goal

pub move_keys-requires-clause-yours : goal.move_keys-requires-clause-yours
move_keys-requires-clause-yours c key has = subst (λ (l : List ℕ). Contains l key) c.args.from.now.keys_are (c.requires.yours key has)

pub move_keys-requires-clause-all : goal.move_keys-requires-clause-all
move_keys-requires-clause-all c key has =
    ⊎_elim (λ (own : Contains (keys_of c.args.to.now) key). inl (subst (λ (l : List ℕ). Contains l key) c.args.to.now.keys_are own))
    (λ (handed : Contains c.args.handed.now key). inr handed)
    ((c.requires.all key).0 (subst (λ (l : List ℕ). Contains l key) c.deref.ensures.value has))

pub invariant_of-from : goal.invariant_of-from
invariant_of-from c =
    let moved = c.move_keys.ensures.moved in
    let live = c.args.self.now in
    let from = c.args.from.now in
    let to = c.args.to.now in
    let keys : List ℕ = c.args.handed.now in
    let all : List ℕ = c.deref.result.now in
    let rest : List ℕ = c.remove_all.new.from.items in
    let giver = c.move_keys.new.giver.me in
    let taker = c.move_keys.new.taker.me in
    record {
      keys_are = rest_are live from to c.requires.to_its_own keys all rest giver taker moved c.remove_all.ensures.rest;
      ascending = c.remove_all.ensures.ascending;
      rows_are = from.rows_are ∙ sym (ap (λ (x : SeatState). x.0.rows) moved.gave);
      pages_are = from.pages_are ∙ sym (ap (λ (x : SeatState). x.0.pages) moved.gave);
      in_order = from.in_order;
      for_changes = from.for_changes;
      role_is = ap (λ (x : SeatState). x.0.role) moved.gave ∙ from.role_is;
      owned = ap (λ (x : SeatState). x.0.plan.places) moved.gave ∙ from.owned;
      own_seen = giver_saw live from to c.requires.to_its_own keys all rest giver taker moved c.remove_all.ensures.rest;
      none_told = ap (λ (x : SeatState). x.0.told) moved.gave;
      idle = ap (λ (x : SeatState). x.0.operation) moved.gave ∙ from.idle;
      no_slot = ap (λ (x : SeatState). x.1) moved.gave ∙ from.no_slot;
    }

pub returns : goal.returns
returns c =
    let moved = c.move_keys.ensures.moved in
    let same = c.move_keys.ensures.same in
    let live = c.args.self.now in
    let from = c.args.from.now in
    let to = c.args.to.now in
    let its = c.requires.to_its_own in
    let keys : List ℕ = c.args.handed.now in
    let all : List ℕ = c.deref.result.now in
    let rest : List ℕ = c.remove_all.new.from.items in
    let rest_is : rest ≡ without keys (keys_of from) = c.remove_all.ensures.rest in
    let giver = c.move_keys.new.giver.me in
    let taker = c.move_keys.new.taker.me in
    record {
      given = record {
        its_own = (same.0.0 ∙ c.requires.from_its_own.0, ap (λ (x : SeatState). x.0.plan) moved.gave ∙ c.requires.from_its_own.1);
        its_keys = λ key. subst (λ (l : List ℕ). Contains l key ↔ (Contains (keys_of from) key × ¬ Contains keys key)) (sym rest_is) (stays keys (keys_of from) key);
        share = entries_left live from to its keys all rest giver taker moved rest_is;
        changes = changes_left live from to its keys all rest giver taker moved rest_is;
        same_seen = ap (λ (x : SeatState). x.0.seen) moved.gave;
        knows = record {
          state = giver_state live from to its keys all rest giver taker moved rest_is c.requires.from_its_own;
          changes = giver_changes live from to its keys all rest giver taker moved rest_is;
        };
        same_rows = refl;
        same_pages = refl;
      };
      received = record {
        its_own = (same.1.0 ∙ its.0, ap (λ (x : SeatState). x.0.plan) moved.took ∙ its.1);
        its_keys = c.requires.all;
        state = took_state live from to its keys all rest giver taker moved rest_is;
        changes = took_changes live from to its keys all rest giver taker moved rest_is;
        others = other_state live from to its keys all rest giver taker moved rest_is;
        no_other_change = other_changes live from to its keys all rest giver taker moved rest_is;
        saw = (saw_own live from to its keys all rest giver taker moved rest_is, saw_theirs live from to its keys all rest giver taker moved rest_is);
        knows = record {
          state = λ key has. knows_state live from to its keys all rest giver taker moved rest_is key (subst (λ (l : List ℕ). Contains l key) (sym c.deref.ensures.value) has);
          changes = λ key has. knows_changes live from to its keys all rest giver taker moved rest_is key (subst (λ (l : List ℕ). Contains l key) (sym c.deref.ensures.value) has);
        };
        same_rows = refl;
        same_pages = refl;
      };
      saw_all = saw_all live from to its keys all rest giver taker moved rest_is;
      saw_prefix = λ key has. saw_prefix live from to its keys all rest giver taker moved rest_is key (subst (λ (l : List ℕ). Contains l key) (sym c.deref.ensures.value) has);
    }
