use Rattle.std.proofs.Common.{◌≡◌, ℕ, false, true≢false, List, [], ◌∷◌, ◌++◌, ap, sym, ◌∙◌, subst, refl, arith}
use Rattle.std.specs.Prelude.{Contains, IfOk, if◌then◌else◌}
use Rattle.std.specs.Result.{is_err, is_ok}
use Rattle.std.specs.declared.result.Result.{Result}
use Rattle.std.specs.declared.result.Result.TheVariants.{Ok, Err}
use Rattle.std.proofs.lemmas.List.Sorted.{Contains-permutation}
use Rattle.blink_batch.specs.{pointer_of}
use Rattle.blink_live.specs.declared.live.Keeper.{Keeper}
use Rattle.blink_live.specs.declared.live.Live.{Live}
use Rattle.blink_live.specs.declared.live.Pass.{Pass}
use Rattle.blink_live.specs.{IsDealt, known_entries, seen_by, states_of}
use Rattle.blink_live.proofs.Offered.{among_from_contains, entries_of_keep, known_entries-opening, no_changes-new}
use Rattle.blink_client.specs.Shown.{IsNewWith}
use Rattle.blink_client.proofs.deal_key.Goals as goal

ok_so : {T E : Type 0} {P Q : T → Type 0} (r : Result T E) → ((x : T) → P x → Q x) → IfOk r P → IfOk r Q
ok_so (Ok x) f p = f x p
ok_so (Err e) f p = p

pushed : {T E : Type 0} (r : Result T E) (key : ℕ) (old new : List ℕ) → false ≡ is_err r → old ≡ [] → new ≡ (if is_ok r then old ++ key ∷ [] else old) → new ≡ key ∷ []
pushed (Ok x) key old new good none is = is ∙ ap (λ (l : List ℕ). l ++ key ∷ []) none
pushed (Err e) key old new good none is = absurd (true≢false (sym good))

has : (key : ℕ) → Contains (key ∷ []) key
has key = (0, omega arith, refl)

new_with : (live : Live) (keeper : Keeper) → seen_by keeper ≡ [] → (key inserts : ℕ) (keys : List ℕ) → keys ≡ key ∷ [] → (pass : Pass) → IsDealt live keeper keys inserts 0 pass → IsNewWith live key pass
new_with live keeper none key inserts keys is pass dealt =
    let there : Contains keys key = subst (λ (l : List ℕ). Contains l key) (sym is) (has key) in record {
      its_own = dealt.its_own;
      own_key = Contains-permutation keys _ key dealt.same_keys there;
      state = ap (λ entries. pointer_of entries key) dealt.share
          ∙ (entries_of_keep keys (known_entries live keeper) key (among_from_contains keys key there) ∙ ap (λ entries. pointer_of entries key) (known_entries-opening live keeper none));
      none_made = ap (states_of key) (no_changes-new live keeper keys inserts 0 pass dealt none);
    }

pub returns-clause-new : goal.returns-clause-new
returns-clause-new c =
    ok_so c.deal.result (new_with c.args.live.now c.args.keeper.now c.requires.none_back c.args.key c.args.inserts c.push.new.self.items (pushed c.push.result c.args.key c.new-keys.result.items c.push.new.self.items c.if-is_err.ensures.value c.new-keys.ensures.items c.push.ensures.items)) c.deal.ensures.dealt
