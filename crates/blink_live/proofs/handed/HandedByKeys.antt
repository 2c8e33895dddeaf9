-- Keys in another order, or some of them twice, change hands alike.
use Rattle.std.proofs.Common.{◌↔◌, ℕ, List, inl, inr, ⊎_elim}
use Rattle.std.specs.Prelude.{Contains}
use Rattle.blink_live.specs.declared.live.Live.{Live}
use Rattle.blink_live.specs.declared.live.Pass.{Pass}
use Rattle.blink_live.specs.Handing.{IsHanded}
use Rattle.blink_live.specs.Handles.{keys_of}

pub by_same_keys : (live : Live) (old_from old_to : Pass) (keys others : List ℕ) (new_from new_to : Pass) → ((key : ℕ) → Contains keys key ↔ Contains others key)
    → IsHanded live old_from old_to keys new_from new_to → IsHanded live old_from old_to others new_from new_to
by_same_keys live old_from old_to keys others new_from new_to same handed =
    let given = handed.given in
    let received = handed.received in
    record {
      given = record {
        its_own = given.its_own;
        its_keys = λ key. (
          λ has. let was = (given.its_keys key).0 has in (was.0, λ other. was.1 ((same key).1 other)),
          λ was. (given.its_keys key).1 (was.0, λ mine. was.1 ((same key).0 mine)),
        );
        share = given.share;
        changes = given.changes;
        same_seen = given.same_seen;
        knows = given.knows;
        same_rows = given.same_rows;
        same_pages = given.same_pages;
      };
      received = record {
        its_own = received.its_own;
        its_keys = λ key. (
          λ has. ⊎_elim (λ (own : Contains (keys_of old_to) key). inl own) (λ (new : Contains keys key). inr ((same key).0 new)) ((received.its_keys key).0 has),
          λ either. (received.its_keys key).1 (⊎_elim (λ (own : Contains (keys_of old_to) key). inl own) (λ (new : Contains others key). inr ((same key).1 new)) either),
        );
        state = λ key has. received.state key ((same key).1 has);
        changes = λ key has. received.changes key ((same key).1 has);
        others = λ key none. received.others key (λ mine. none ((same key).0 mine));
        no_other_change = λ key none. received.no_other_change key (λ mine. none ((same key).0 mine));
        saw = received.saw;
        knows = received.knows;
        same_rows = received.same_rows;
        same_pages = received.same_pages;
      };
      saw_all = handed.saw_all;
      saw_prefix = handed.saw_prefix;
    }
