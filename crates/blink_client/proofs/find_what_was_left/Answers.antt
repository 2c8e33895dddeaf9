use Rattle.std.proofs.Common.{◌≡◌, ℕ, false, true≢false, Some, List, [], ◌∷◌, ◌++◌, ap, sym, ◌∙◌, subst, refl, arith}
use Rattle.std.specs.Prelude.{Contains, OnOk, if◌then◌else◌}
use Rattle.std.specs.Result.{is_err, is_ok}
use Rattle.std.specs.declared.result.Result.{Result}
use Rattle.std.specs.declared.result.Result.TheVariants.{Ok, Err}
use Rattle.blink_batch.specs.declared.Entry.{Entry}
use Rattle.blink_batch.specs.declared.Op.TheVariants.{Find, Insert}
use Rattle.blink_batch.specs.{answer_at, cell_after, pointer_of}
use Rattle.blink_batch.proofs.Offered.{pointer_of-map_after_own}
use Rattle.blink_live.specs.{IsChangedBy, keys_of, known_entries, share_of}
use Rattle.blink_live.proofs.Offered.{among_from_contains, entries_of_keep}
use Rattle.blink_client.proofs.find_what_was_left.Goals as goal

when_ok : {T E P : Type 0} (r : Result T E) → false ≡ is_err r → OnOk r P → P
when_ok (Ok x) is p = p
when_ok (Err e) is p = absurd (true≢false (sym is))

pushed : {T E : Type 0} (r : Result T E) (key : ℕ) (old new : List ℕ) → false ≡ is_err r → old ≡ [] → new ≡ (if is_ok r then old ++ key ∷ [] else old) → new ≡ key ∷ []
pushed (Ok x) key old new good none is = is ∙ ap (λ (l : List ℕ). l ++ key ∷ []) none
pushed (Err e) key old new good none is = absurd (true≢false (sym good))

pub returns-in-Ok : goal.returns-in-Ok
returns-in-Ok g c =
    let key : ℕ = c.args.key in
    let keeper = c.retire.new.keeper in
    let live = c.args.live.now in
    let keys : List ℕ = c.push.new.self.items in
    let changed : IsChangedBy (Insert key c.args.pointer) c.args.one c.insert.new.pass = when_ok c.insert.result c.if-is_err.ensures.value c.insert.ensures.changed in
    let inserted : pointer_of (share_of c.insert.new.pass) key ≡ Some c.args.pointer =
    ap (λ (entries : List Entry). pointer_of entries key) changed.share
    ∙ (pointer_of-map_after_own (share_of c.args.one) (Insert key c.args.pointer) key refl ∙ ap (cell_after (Insert key c.args.pointer)) c.requires.new_key) in
    let mine : Contains (keys_of c.insert.new.pass) key = subst (λ (l : List ℕ). Contains l key) (sym changed.same_keys) c.requires.own_key in
    let listed : keys ≡ key ∷ [] = pushed c.push.result key c.new-keys.result.items keys c.if-is_err-2.ensures.value c.new-keys.ensures.items c.push.ensures.items in
    let there : Contains keys key = subst (λ (l : List ℕ). Contains l key) (sym listed) (0, omega arith, refl) in
    let dealt = c.in_ok-other.ensures.dealt in
    let state : pointer_of (share_of c.in_ok-other.other) key ≡ Some c.args.pointer =
    ap (λ (entries : List Entry). pointer_of entries key) dealt.share
    ∙ (entries_of_keep keys (known_entries live keeper) key (among_from_contains keys key there) ∙ (c.retire.ensures.state key mine ∙ inserted)) in
    record { found = c.in-Ok.ensures.answer ∙ ap (answer_at (Find key)) state }
