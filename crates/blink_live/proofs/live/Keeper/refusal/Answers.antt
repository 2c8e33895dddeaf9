use Rattle.std.proofs.Common.{◌≡◌, ℕ, Option, None, List, refl, subst, true, false}
use Rattle.std.specs.Prelude.{IfNone}
use Rattle.blink_live.specs.Deals.{IsFirstTaken, NoneIsTaken, IsDealRefusal, LacksAllowance}
use Rattle.blink_live.specs.Handles.{taken_of}
use Rattle.blink_live.proofs.dealt.RefusalsOfDeal.{tells_first, tells_lack, tells_neither}
use Rattle.blink_live.proofs.live.Keeper.refusal.Goals as goal

none_taken : (taken before keys : List ℕ) (first : Option ℕ) → taken ≡ before → first ≡ None → IfNone first (NoneIsTaken taken keys) → NoneIsTaken before keys
none_taken taken before keys first same none is = subst (λ (x : List ℕ × Option ℕ). IfNone x.1 (NoneIsTaken x.0 keys)) (λ i. (same i, none i)) is

enough : {P : Type 0} (test : _) → (test ≡ true → P) × (P → test ≡ true) → test ≡ false → P → ⊥
enough test is not holds = let told = is.1 holds in cc

pub returns-in-Some : goal.returns-in-Some
returns-in-Some c =
    let before : List ℕ = taken_of c.args.self.now in
    let found : IsFirstTaken before c.args.keys.now c.in-Some.key = subst (λ (taken : List ℕ). IsFirstTaken taken c.args.keys.now c.in-Some.key) c.deref.ensures.value c.in-Some.ensures.first in
    let tells = tells_first before c.args.keys.now (LacksAllowance c.args.self.now c.args.inserts c.args.deletes) c.in-Some.key found in record {
      taken = tells.taken;
      no_allowance = tells.no_allowance;
      refused = IsDealRefusal.taken c.in-Some.key refl;
    }

pub returns-in-None : goal.returns-in-None
returns-in-None c =
    let before : List ℕ = taken_of c.args.self.now in
    let none = none_taken c.deref.result.now before c.args.keys.now c.first_taken.result c.deref.ensures.value c.in-None.is c.first_taken.ensures.none in
    let tells = tells_lack before c.args.keys.now (LacksAllowance c.args.self.now c.args.inserts c.args.deletes) none (c.lacks_allowance.ensures.0 c.if-lacks_allowance.true) in record {
      taken = tells.taken;
      no_allowance = tells.no_allowance;
      refused = IsDealRefusal.no_allowance refl;
    }

pub returns-in-None-2 : goal.returns-in-None-2
returns-in-None-2 c =
    let before : List ℕ = taken_of c.args.self.now in
    let none = none_taken c.deref.result.now before c.args.keys.now c.first_taken.result c.deref.ensures.value c.in-None-2.is c.first_taken.ensures.none in
    let tells = tells_neither before c.args.keys.now (LacksAllowance c.args.self.now c.args.inserts c.args.deletes) none (enough c.lacks_allowance.result c.lacks_allowance.ensures c.if-lacks_allowance.false) in record {
      taken = tells.taken;
      no_allowance = tells.no_allowance;
      refused = IsDealRefusal.no_memory refl;
    }
