-- What a deal's refusal tells: the first key that is taken, or that the keeper has too little left, or neither.
use Rattle.std.proofs.Common.{◌≡◌, ◌↔◌, ℕ, List, Result, Err, refl, sym, ap, subst}
use Rattle.blink_live.specs.declared.error.LiveError.{LiveError}
use Rattle.blink_live.specs.declared.error.LiveError.TheVariants.{Taken, NoAllowance, DealOutOfMemory}
use Rattle.blink_live.specs.Deals.{IsFirstTaken, NoneIsTaken}
use Rattle.blink_live.proofs.dealt.KeysMet.{first_is_one}

pub same_refusal : {T : Type 0} (one other : LiveError) → ◌≡◌ {A = Result T LiveError} (Err one) (Err other) → one ≡ other
same_refusal one other e = cc

same_key : (one other : ℕ) → Taken one ≡ Taken other → one ≡ other
same_key one other e = cc

apart : (key : ℕ) → Taken key ≡ NoAllowance → ⊥
apart key e = cc

pub record Tells (before keys : List ℕ) (Lacks : Type 0) (refusal : LiveError) : Type 0 where
  pub taken : (key : ℕ) → refusal ≡ Taken key ↔ IsFirstTaken before keys key
  pub no_allowance : refusal ≡ NoAllowance ↔ (NoneIsTaken before keys × Lacks)

module _ (before keys : List ℕ) (Lacks : Type 0) where
  pub tells_first : (first : ℕ) → IsFirstTaken before keys first → Tells before keys Lacks (Taken first)
  tells_first first found = record {
    taken = λ key. (λ same. subst (IsFirstTaken before keys) (same_key first key same) found, λ other. ap (λ (k : ℕ). Taken k) (first_is_one before keys first key found other));
    no_allowance = (λ same. absurd (apart first same), λ none. absurd (none.0 found.place first found.is_taken));
  }

  pub tells_lack : NoneIsTaken before keys → Lacks → Tells before keys Lacks NoAllowance
  tells_lack none lacks = record {
    taken = λ key. (λ same. absurd (apart key (sym same)), λ first. absurd (none first.place key first.is_taken));
    no_allowance = (λ same. (none, lacks), λ both. refl);
  }

  pub tells_neither : NoneIsTaken before keys → ¬ Lacks → Tells before keys Lacks DealOutOfMemory
  tells_neither none enough = record {
    taken = λ key. (λ same. absurd (cc), λ first. absurd (none first.place key first.is_taken));
    no_allowance = (λ same. absurd (cc), λ both. absurd (enough both.1));
  }
