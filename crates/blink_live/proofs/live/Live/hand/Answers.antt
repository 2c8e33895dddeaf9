use Rattle.std.proofs.Common.{◌≡◌, ◌⊎◌, ◌↔◌, ℕ, List, Err, inl, inr, ap, sym, ◌∙◌, subst, ⊎_elim}
use Rattle.std.specs.Prelude.{Contains}
use Rattle.std.specs.List.Sorted.{IsStrictlyIncreasing}
use Rattle.blink_live.specs.declared.error.HandError.{HandError}
use Rattle.blink_live.specs.declared.error.HandError.TheVariants.{NotYours}
use Rattle.blink_live.specs.Handing.{AllAreYours, IsFirstForeign, IsHandRefusal}
use Rattle.blink_live.specs.Handles.{keys_of}
use Rattle.blink_live.proofs.handed.HandedByKeys.{by_same_keys}
use Rattle.blink_live.proofs.handed.KeysInList.{same_keys, same_refusal, yours_from}
use Rattle.blink_live.proofs.table.RefusalsTold.{no_refusal}
use Rattle.blink_live.proofs.live.Live.hand.Goals.{After-drop-handed}
use Rattle.blink_live.proofs.live.Live.hand.Goals as goal

pub hand_over-requires-clause-yours : goal.hand_over-requires-clause-yours
hand_over-requires-clause-yours c key has =
    subst (λ (l : List ℕ). Contains l key) c.deref-then-ascends.ensures.value
    (c.has_all.ensures c.if-has_all.true key (subst (λ (l : List ℕ). Contains l key) (c.deref-then-has_all.ensures.value ∙ sym c.deref-then-ascends-2.ensures.value) has))

pub hand_over-requires-clause-all : goal.hand_over-requires-clause-all
hand_over-requires-clause-all c key =
    let own : List ℕ = keys_of c.args.to.now in
    let keys : List ℕ = c.args.keys.now in
    let handed : List ℕ = c.deref-then-has_all.result.now in
    let all = subst (λ (l : List ℕ). Contains c.in-Ok.all.items key ↔ (Contains l key ⊎ Contains keys key)) c.deref.ensures.value (c.in-Ok.ensures.all key) in
    let same = subst (λ (l : List ℕ). Contains l key ↔ Contains keys key) (sym c.deref-then-has_all.ensures.value) (same_keys keys c.in-Ok.handed.items c.in-Ok.ensures.handed key) in (
      λ has. ⊎_elim (λ (mine : Contains own key). inl mine) (λ (new : Contains keys key). inr (same.1 new)) (all.0 has),
      λ either. all.1 (⊎_elim (λ (mine : Contains own key). inl mine) (λ (new : Contains handed key). inr (same.0 new)) either),
    )

pub hand_over-requires-clause-ascending : goal.hand_over-requires-clause-ascending
hand_over-requires-clause-ascending c =
    let rises : IsStrictlyIncreasing c.in-Ok.handed.items = subst IsStrictlyIncreasing c.deref-in-Ok.ensures.value (c.ascends.ensures c.if-ascends.true) in
    (subst IsStrictlyIncreasing (sym c.deref-then-has_all.ensures.value) rises, c.in-Ok.ensures.ascending)

pub refusal-requires : goal.refusal-requires
refusal-requires c = record { ascending = subst IsStrictlyIncreasing (sym c.deref-2.ensures.value) c.args.from.now.ascending }

pub returns-clause-refused : goal.returns-clause-refused
returns-clause-refused c = subst (λ (own : List ℕ). IsHandRefusal own c.args.keys.now c.refusal.result) c.deref-2.ensures.value c.refusal.ensures.refused

pub returns-then-has_all-clause-handed : goal.returns-then-has_all-clause-handed
returns-then-has_all-clause-handed c =
    let keys : List ℕ = c.args.keys.now in
    by_same_keys c.args.self.now c.args.from.now c.args.to.now c.deref-then-has_all.result.now keys c.hand_over.new.from c.hand_over.new.to
    (λ key. subst (λ (l : List ℕ). Contains l key ↔ Contains keys key) (sym c.deref-then-has_all.ensures.value) (same_keys keys c.in-Ok.handed.items c.in-Ok.ensures.handed key)) c.hand_over.ensures

-- each key of the list is the first pass's, and stands there once
all_yours : (c : After-drop-handed) → AllAreYours (keys_of c.args.from.now) c.args.keys.now
all_yours c =
    let rises : IsStrictlyIncreasing c.in-Ok.handed.items = subst IsStrictlyIncreasing c.deref-in-Ok.ensures.value (c.ascends.ensures c.if-ascends.true) in
    yours_from (keys_of c.args.from.now) c.args.keys.now c.in-Ok.handed.items c.in-Ok.ensures.handed rises
    (λ k has. subst (λ (l : List ℕ). Contains l k) c.deref-then-ascends.ensures.value
    (c.has_all.ensures c.if-has_all.true k (subst (λ (l : List ℕ). Contains l k) (sym c.deref-then-ascends-2.ensures.value) has)))

pub returns-then-has_all-clause-yours : goal.returns-then-has_all-clause-yours
returns-then-has_all-clause-yours c = all_yours c

pub returns-then-has_all-clause-not_yours : goal.returns-then-has_all-clause-not_yours
returns-then-has_all-clause-not_yours c key = no_refusal _ _ (λ first. all_yours c first.place key first.is_foreign)

pub returns-clause-not_yours : goal.returns-clause-not_yours
returns-clause-not_yours c key =
    let told = subst (λ (l : List ℕ). c.refusal.result ≡ NotYours key ↔ IsFirstForeign l c.args.keys.now key) c.deref-2.ensures.value (c.refusal.ensures.not_yours key) in (
      λ same. told.0 (same_refusal c.refusal.result (NotYours key) same),
      λ first. ap (λ (e : HandError). Err e) (told.1 first),
    )
