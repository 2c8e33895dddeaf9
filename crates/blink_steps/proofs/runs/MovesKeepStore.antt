-- A move leaves the store lawful.
use Rattle.std.proofs.Common.{◌≡◌, ℕ, zero, suc, ◌+◌, ◌<◌, Option, Some, List, [], ◌∷◌, ◌++◌, length, length-append, set, add-one, refl, ap, sym, ◌∙◌, subst, arith}
use Rattle.std.proofs.lemmas.List.{length-set}
use Rattle.std.proofs.lemmas.List.Elements.{All-push, All-same, All-set}
use Rattle.std.proofs.lemmas.Option.{slice_get_within}
use Rattle.blink_page.specs.{IsPageNumber, PlainPage, IsLawfulPage}
use Rattle.blink_store.specs.{PlainStore, page_of, WritesPage, IsLawfulStore}
use Rattle.blink_store.proofs.Offered.{pages-add, pages-write}
use Rattle.blink_machine.specs.declared.machine.Need.{Need}
use Rattle.blink_machine.specs.declared.machine.Need.TheVariants.{ReadPrime, ReadPage, Latch, WriteNew, WritePage, WritePrime, Unlatch, End}
use Rattle.blink_machine.specs.declared.step.Kind.{Kind}
use Rattle.blink_machine.specs.declared.step.Step.TheVariants.{Moved}
use Rattle.blink_steps.specs.Acts.{PlainShared, Acts, ActsOn}
use Rattle.blink_machine.specs.{PlainMachine, need_at, IsItsOperation, PrimeOut, adds_root, page_out}
use Rattle.blink_steps.specs.Run.{tree_state_with}
use Rattle.blink_machine.specs.Invariant.{Invariant}
use Rattle.blink_machine.specs.StepLaw.{StepLaw}

module _ (old new : PlainStore) (lawful : IsLawfulStore old) (page : PlainPage) (good : IsLawfulPage old.fan page) where
  -- a store with a lawful page at the end
  lawful_with_new : WritesPage old new (length old.pages + 1) page → IsPageNumber (length old.pages + 1) → IsLawfulStore new
  lawful_with_new writes range =
      let added : new.pages ≡ old.pages ++ page ∷ [] = pages-add old new page (rw add-one at writes) in
      let long : length new.pages ≡ length old.pages + 1 = ap length added ∙ length-append old.pages (page ∷ []) in
      record {
        fan_in_range = rw (writes.same_fan) lawful.fan_in_range;
        some_level = rw (writes.same_prime) lawful.some_level;
        prime_numbers = rw (writes.same_prime) lawful.prime_numbers;
        lawful_pages = rw (writes.same_fan) (All-same (IsLawfulPage old.fan) new.pages (old.pages ++ page ∷ []) added (All-push (IsLawfulPage old.fan) old.pages page lawful.lawful_pages good));
        count_in_range = rw long range;
      }

  -- a store with a lawful page in another's place
  lawful_with_page : (number : ℕ) (before : PlainPage) → page_of old number ≡ Some before → WritesPage old new number page → IsLawfulStore new
  lawful_with_page zero before there writes = absurd (cc)
  lawful_with_page (suc n) before there writes =
      let inside : n < length old.pages = slice_get_within old.pages n before there in
      let written : new.pages ≡ set old.pages n page = pages-write old new page n inside writes in
      let long : length new.pages ≡ length old.pages = ap length written ∙ length-set old.pages n page in
      record {
        fan_in_range = rw (writes.same_fan) lawful.fan_in_range;
        some_level = rw (writes.same_prime) lawful.some_level;
        prime_numbers = rw (writes.same_prime) lawful.prime_numbers;
        lawful_pages = rw (writes.same_fan) (All-same (IsLawfulPage old.fan) new.pages (set old.pages n page) written (All-set (IsLawfulPage old.fan) old.pages n page good lawful.lawful_pages));
        count_in_range = rw long lawful.count_in_range;
      }

-- a prime block with a new root names some level
prime_out_some : (m : PlainMachine) (prime : List ℕ) → PrimeOut m prime → 0 < length prime
prime_out_some m prime (adds_root page debt root read at is) =
    let long = ap length is ∙ length-append read (root ∷ []) in omega arith

module _ (laws : StepLaw) (old new : PlainShared) (machines : ℕ → Option PlainMachine) (worker : ℕ) (m after : PlainMachine) (kind : Kind)
    (invariant : Invariant (tree_state_with old machines)) (its : IsItsOperation (tree_state_with old machines) worker m) (lawful : IsLawfulStore old.store) where
  -- where the store stays it stays lawful
  lawful_same : new.store ≡ old.store → IsLawfulStore new.store
  lawful_same same = subst IsLawfulStore (sym same) lawful

  -- for each need
  lawful_at_need : (need : Need) → need_at m.state ≡ need → ActsOn need old worker m (Moved kind) after new → IsLawfulStore new.store
  lawful_at_need ReadPrime needs acts = lawful_same (ap (λ (shared : PlainShared). shared.store) acts.2)
  lawful_at_need (ReadPage number) needs acts = lawful_same (ap (λ (shared : PlainShared). shared.store) acts.2)
  lawful_at_need (Latch number) needs acts = lawful_same acts.3
  lawful_at_need WriteNew needs acts =
      let number = length old.store.pages + 1 in
      let good = (laws.invariant_gives_order (tree_state_with old machines) invariant).writes_new worker number m its needs acts.1 in
      lawful_with_new old.store new.store lawful (page_out m number) good acts.3 acts.1
  lawful_at_need (WritePage number) needs acts =
      let good = (laws.invariant_gives_order (tree_state_with old machines) invariant).writes_page worker number m its needs in
      lawful_with_page old.store new.store lawful (page_out m 0) good.lawful number good.before good.there acts.2
  lawful_at_need WritePrime needs acts =
      let prime = prime_out_some m new.store.prime acts.2 in
      let numbers = (laws.invariant_gives_order (tree_state_with old machines) invariant).writes_prime worker m new.store.prime its needs acts.2 lawful.prime_numbers in
      let changed : IsLawfulStore (record old.store { prime = new.store.prime }) = record {
        fan_in_range = lawful.fan_in_range;
        some_level = prime;
        prime_numbers = numbers;
        lawful_pages = lawful.lawful_pages;
        count_in_range = lawful.count_in_range;
      } in
      subst IsLawfulStore (sym acts.3) changed
  lawful_at_need (Unlatch number) needs acts = lawful_same acts.2
  lawful_at_need End needs acts = absurd acts

  -- a move leaves the store lawful
  pub move_keeps_lawful : Acts old worker m (Moved kind) after new → IsLawfulStore new.store
  move_keeps_lawful acts = lawful_at_need (need_at m.state) refl acts
