-- What a try to raise a counter makes of its session.
use Rattle.std.proofs.Common.{◌≡◌, ◌≢◌, ℕ, ◌+◌, Bool, Option, Some, None, List, [], ◌∷◌, ◌++◌, refl, sym, ap, ◌∙◌, subst, append-nil, eq-eqb, ne_eqb}
use mathlib.Core.Logic.{dite}
use native.Mathlib.Decide.{ℕ_discrete}
use Rattle.std.specs.Prelude.{IfOk, OnErr, Result, Ok, Err, if◌then◌else◌}
use mathlib.Core.List.{IsPrefix}
use Rattle.blink_batch.specs.declared.Answer.{Answer}
use Rattle.blink_batch.specs.declared.Answer.TheVariants.{Exists, Replaced}
use Rattle.blink_batch.specs.declared.Op.{Op}
use Rattle.blink_batch.specs.declared.Op.TheVariants.{Exchange}
use Rattle.blink_batch.specs.{answer_at, key_of, pointer_of}
use Rattle.blink_live.specs.declared.view.Change.{Change}
use Rattle.blink_live.specs.{after, changes_made, has_changed}
use Rattle.blink_live.proofs.Offered.{prefix_of_prefix}
use Rattle.blink_generation.specs.{change_to}
use Rattle.blink_map.specs.declared.growing.GrowingMap.{GrowingMap}
use Rattle.blink_map.specs.declared.growing.Session.{Session}
use Rattle.blink_map.specs.{IsAnswered, IsSameBesideSeen, made_by, opening_of, place_of, seen_by}
use Rattle.blink_map_laws.specs.declared.counter.NotRaised.{NotRaised}
use Rattle.blink_map_laws.specs.Counting.{IsPut, IsRaiseTried, IsRaisedTo}
use Rattle.blink_map_laws.proofs.SessionsRaise.{same_twice}

module _ (map : GrowingMap) (op : Op) (old new : Session) (answer : Answer) (is : IsAnswered map op old new answer) where
  abbrev kept : Option ℕ
  kept = after (pointer_of (opening_of map)) is.in_order.before (key_of op)

  pub tried : changes_made (place_of old) op kept ≡ [] → IsSameBesideSeen old new
  tried none = record {
    saw = prefix_of_prefix (seen_by old) is.in_order.before (seen_by new) is.in_order.saw
        (prefix_of_prefix is.in_order.before (is.in_order.before ++ changes_made (place_of old) op kept) (seen_by new) (changes_made (place_of old) op kept, refl) is.in_order.goes_on);
    made = is.in_order.made ∙ (ap (λ (l : List Change). made_by old ++ l) none ∙ append-nil (made_by old));
    same_slot = is.same_slot;
  }

  pub put_so : (key pointer : ℕ) (was : Option ℕ) → key_of op ≡ key → changes_made (place_of old) op kept ≡ change_to (place_of old) key pointer ∷ [] → was ≡ kept → IsPut map key pointer old new was
  put_so key pointer was same made_is was_is = record {
    before = is.in_order.before;
    saw = is.in_order.saw;
    was_there = was_is ∙ ap (after (pointer_of (opening_of map)) is.in_order.before) same;
    goes_on = subst (λ (l : List Change). IsPrefix (is.in_order.before ++ l) (seen_by new)) made_is is.in_order.goes_on;
    made = is.in_order.made ∙ ap (λ (l : List Change). made_by old ++ l) made_is;
    same_slot = is.same_slot;
  }

module _ (old middle new : Session) (first : IsSameBesideSeen old middle) where
  pub tried_twice : IsSameBesideSeen middle new → IsSameBesideSeen old new
  tried_twice second = record {
    saw = prefix_of_prefix (seen_by old) (seen_by middle) (seen_by new) first.saw second.saw;
    made = second.made ∙ first.made;
    same_slot = same_twice old middle new first.same_slot second.same_slot;
  }

  pub put_then : (map : GrowingMap) (key pointer : ℕ) (was : Option ℕ) → IsPut map key pointer middle new was → IsPut map key pointer old new was
  put_then map key pointer was put = record {
    before = put.before;
    saw = prefix_of_prefix (seen_by old) (seen_by middle) put.before first.saw put.saw;
    was_there = put.was_there;
    goes_on = subst (λ (author : ℕ). IsPrefix (put.before ++ change_to author key pointer ∷ []) (seen_by new)) first.same_slot.same_place put.goes_on;
    made = put.made ∙ (ap (λ (l : List Change). l ++ change_to (place_of middle) key pointer ∷ []) first.made ∙ ap (λ (author : ℕ). made_by old ++ change_to author key pointer ∷ []) first.same_slot.same_place);
    same_slot = same_twice old middle new first.same_slot put.same_slot;
  }

exchanged : (place key there was : ℕ) (kept : Option ℕ) → Replaced was ≡ answer_at (Exchange key there (there + 1)) kept → (Some there ≡ kept) × (changes_made place (Exchange key there (there + 1)) kept ≡ change_to place key (there + 1) ∷ [])
exchanged place key there was None is = absurd (cc)
exchanged place key there was (Some kept) is = dite (ℕ_discrete kept there)
    (λ same. (
      ap (λ (n : ℕ). Some n) (sym same),
      ap (λ (b : Bool). if has_changed (if b then Replaced kept else Exists kept) then record { author = place; key = key; pointer = Some (if b then there + 1 else kept) } ∷ [] else []) (eq-eqb kept there same),
    ))
    (λ differ. absurd (let e : Replaced was ≡ Exists kept = is ∙ ap (λ (b : Bool). if b then Replaced kept else Exists kept) (ne_eqb kept there differ) in cc))

not_exchanged : (place key there : ℕ) (kept : Option ℕ) → ((was : ℕ) → Replaced was ≢ answer_at (Exchange key there (there + 1)) kept) → changes_made place (Exchange key there (there + 1)) kept ≡ []
not_exchanged place key there None differs = refl
not_exchanged place key there (Some kept) differs = dite (ℕ_discrete kept there)
    (λ same. absurd (differs kept (sym (ap (λ (b : Bool). if b then Replaced kept else Exists kept) (eq-eqb kept there same)))))
    (λ differ.
    ap (λ (b : Bool). if has_changed (if b then Replaced kept else Exists kept) then record { author = place; key = key; pointer = Some (if b then there + 1 else kept) } ∷ [] else []) (ne_eqb kept there differ))

module _ (map : GrowingMap) (key there : ℕ) (old new : Session) where
  pub raised_by_exchange : (was : ℕ) → IsAnswered map (Exchange key there (there + 1)) old new (Replaced was) → IsRaisedTo map key old new (there + 1)
  raised_by_exchange was is =
      let so = exchanged (place_of old) key there was (after (pointer_of (opening_of map)) is.in_order.before key) is.in_order.answers in
      (there, refl, put_so map (Exchange key there (there + 1)) old new (Replaced was) is key (there + 1) (Some there) refl so.1 so.0)

  pub tried_to_exchange : (answer : Answer) → IsAnswered map (Exchange key there (there + 1)) old new answer → ((was : ℕ) → Replaced was ≢ answer) → IsSameBesideSeen old new
  tried_to_exchange answer is differs =
      tried map (Exchange key there (there + 1)) old new answer is
      (not_exchanged (place_of old) key there (after (pointer_of (opening_of map)) is.in_order.before key) (λ was e. differs was (e ∙ sym is.in_order.answers)))

-- ---- one try after others

module _ (map : GrowingMap) (key : ℕ) (old middle new : Session) (first : IsSameBesideSeen old middle) where
  pub raised_after : (value : ℕ) → IsRaisedTo map key middle new value → IsRaisedTo map key old new value
  raised_after value is = (is.0, is.1, put_then old middle new first map key value (Some is.0) is.2)

  pub tried_after : (outcome : Option (Result ℕ NotRaised)) → IsRaiseTried map key middle new outcome → IsRaiseTried map key old new outcome
  tried_after None is = tried_twice old middle new first is
  tried_after (Some (Err why)) is = tried_twice old middle new first is
  tried_after (Some (Ok value)) is = raised_after value is

  -- the last try says how the call ends
  pub ended_after : (outcome : Result ℕ NotRaised) → IsRaiseTried map key middle new (Some outcome)
      → IfOk outcome (IsRaisedTo map key old new) × OnErr outcome (IsSameBesideSeen old new)
  ended_after (Ok value) is = (raised_after value is, tt)
  ended_after (Err why) is = (tt, tried_twice old middle new first is)
