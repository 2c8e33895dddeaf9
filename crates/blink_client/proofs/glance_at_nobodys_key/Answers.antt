use Rattle.std.proofs.Common.{◌≡◌, ℕ, Option, List, [], ◌∷◌, ◌∙◌, subst, refl}
use mathlib.Core.List.{IsPrefix}
use Rattle.blink_batch.specs.{pointer_of}
use Rattle.blink_live.specs.{last_state, opening_of, seen_changes_of, seen_of}
use Rattle.blink_live.proofs.Offered.{after-last_state}
use Rattle.blink_client.proofs.glance_at_nobodys_key.Goals as goal

-- of no state a prefix has none
of_none : (first : Option ℕ) (states : List (Option ℕ)) → IsPrefix states [] → last_state first states ≡ first
of_none first [] is = refl
of_none first (x ∷ rest) is = absurd (let e = is.1 in cc)

pub returns-clause-opening : goal.returns-clause-opening
returns-clause-opening c =
    let key : ℕ = c.args.key in
    let kept = pointer_of (opening_of c.args.live.now) in
    let none : IsPrefix (seen_changes_of c.glance-shown.new.pass key) [] =
    subst (IsPrefix (seen_changes_of c.glance-shown.new.pass key)) c.in_ok-owner.ensures.new.none_made (c.tell.ensures.own_before.0 key c.in_ok-owner.ensures.new.own_key) in
    c.glance-shown.ensures.state ∙ (after-last_state kept (seen_of c.glance-shown.new.pass) key ∙ of_none (kept key) (seen_changes_of c.glance-shown.new.pass key) none)
