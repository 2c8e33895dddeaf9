use Rattle.std.proofs.Common.{◌⊎◌, ◌↔◌, ℕ, List, Err, Vec, Global, ap, subst}
use Rattle.std.specs.Prelude.{Contains}
use Rattle.std.specs.List.Sorted.{IsStrictlyIncreasing}
use Rattle.blink_live.specs.Deals.{NoneIsTaken}
use Rattle.blink_live.specs.Handles.{taken_of}
use Rattle.blink_live.proofs.dealt.KeysInOrder.{none_twice, of_both}
use Rattle.blink_live.proofs.dealt.RefusalsOfDeal.{same_refusal}
use Rattle.blink_live.proofs.table.RefusalsTold.{no_refusal}
use Rattle.blink_live.proofs.live.Keeper.taken_with.Goals as goal

pub returns : goal.returns
returns c =
    let told = c.refusal.ensures in record {
      free = tt;
      allowed = tt;
      ascending = tt;
      all = tt;
      taken = λ key. (λ same. (told.taken key).0 (same_refusal {T = Vec ℕ Global} _ _ same), λ first. ap Err ((told.taken key).1 first));
      no_allowance = (λ same. told.no_allowance.0 (same_refusal {T = Vec ℕ Global} _ _ same), λ both. ap Err (told.no_allowance.1 both));
      refused = told.refused;
    }

none_of : (c : goal.Then-not-lacks_allowance) → NoneIsTaken (taken_of c.args.self.now) c.args.keys.now
none_of c =
    let rises : IsStrictlyIncreasing c.in-Ok.all.items = subst IsStrictlyIncreasing c.deref-in-Ok.ensures.value (c.ascends.ensures c.if-ascends.true) in
    subst (λ (taken : List ℕ). NoneIsTaken taken c.args.keys.now) c.deref.ensures.value (none_twice c.deref.result.now c.args.keys.now c.in-Ok.all.items c.in-Ok.ensures.of_both rises)

pub returns-then-not-lacks_allowance-clause-free : goal.returns-then-not-lacks_allowance-clause-free
returns-then-not-lacks_allowance-clause-free c = none_of c

pub returns-then-not-lacks_allowance-clause-all : goal.returns-then-not-lacks_allowance-clause-all
returns-then-not-lacks_allowance-clause-all c =
    subst (λ (taken : List ℕ). (key : ℕ) → Contains c.in-Ok.all.items key ↔ (Contains taken key ⊎ Contains c.args.keys.now key)) c.deref.ensures.value
    (of_both c.deref.result.now c.args.keys.now c.in-Ok.all.items c.in-Ok.ensures.of_both)

pub returns-then-not-lacks_allowance-clause-taken : goal.returns-then-not-lacks_allowance-clause-taken
returns-then-not-lacks_allowance-clause-taken c key = no_refusal _ _ (λ first. none_of c first.place key first.is_taken)

pub returns-then-not-lacks_allowance-clause-ascending : goal.returns-then-not-lacks_allowance-clause-ascending
returns-then-not-lacks_allowance-clause-ascending c = subst IsStrictlyIncreasing c.deref-in-Ok.ensures.value (c.ascends.ensures c.if-ascends.true)
