use Rattle.std.proofs.Common.{◌≡◌, ℕ, ◌+◌, ◌-◌, List, ◌∷◌, ap, sym, ◌∙◌, subst, inl, inr, arith}
use Rattle.blink_operation.specs.declared.Op.TheVariants.{Find}
use Rattle.blink_operation.specs.{answer_at}
use Rattle.blink_page.specs.{Leads}
use Rattle.blink_page.specs.declared.search.Way.TheVariants.{Down, Here}
use Rattle.blink_machine.specs.declared.machine.Need.TheVariants.{ReadPage}
use Rattle.blink_machine.specs.declared.machine.State.{State}
use Rattle.blink_machine.specs.declared.machine.State.TheVariants.{Going, Want, Ended}
use Rattle.blink_machine.specs.Machine.{PlainMachine, NeedsPage, need_at, level_read_at, target, at_state, answered}
use Rattle.blink_machine.specs.MachineView.{plain}
use Rattle.blink_machine.specs.Table.{goes_right, goes_down, IsUpdate, find_answers, update_wants}
use Rattle.blink_machine.proofs.machine.Machine.saw_way.Goals as goal

-- the page that it needs is the one that it goes to
is_going : (m : PlainMachine) (here number level : ℕ) → m.state ≡ Going here level → NeedsPage m number → m.state ≡ Going number level
is_going m here number level at needs = at ∙ (let p : ReadPage here ≡ ReadPage number = sym (ap need_at at) ∙ needs in let same : here ≡ number = cc in ap (λ (n : ℕ). Going n level) same)

pub returns-in-Right : goal.returns-in-Right
returns-in-Right c number page needs tells =
    let at : c.args.self.now.state ≡ Going c.in-Going.number c.in-Going.level = sym (ap (λ (m : PlainMachine). m.state) c.self.view_is) ∙ c.in-Going.is in
    goes_right c.in-Going.level c.in-Right.next (is_going c.args.self.now c.in-Going.number number c.in-Going.level at needs)
    (subst (Leads page (target c.args.self.now)) c.in-Right.is tells.leads)
    (ap (λ (state : State). at_state (plain c.self.inside) state) c.go.ensures
    ∙ ap (λ (m : PlainMachine). at_state m (Going c.in-Right.next c.in-Going.level)) c.self.view_is)

pub returns-in-Down : goal.returns-in-Down
returns-in-Down c number page needs tells =
    let at : c.args.self.now.state ≡ Going c.in-Going.number c.in-Going.level = sym (ap (λ (m : PlainMachine). m.state) c.self.view_is) ∙ c.in-Going.is in
    let here : c.args.self.now.state ≡ Going number c.in-Going.level = is_going c.args.self.now c.in-Going.number number c.in-Going.level at needs in
    let leads : Leads page (target c.args.self.now) (Down c.in-Down.child) = subst (Leads page (target c.args.self.now)) c.in-Down.is tells.leads in
    let level : page.level ≡ c.in-Going.level = tells.has_level ∙ ap (λ (state : State). level_read_at state c.args.self.now.job) at in
    let above : c.in-Going.level ≡ c.in-Going.level - 1 + 1 = omega (arith, leads.1, level) in
    let same : c.in-Going.number ≡ number = let p : Going c.in-Going.number c.in-Going.level ≡ Going number c.in-Going.level = sym at ∙ here in cc in
    goes_down (c.in-Going.level - 1) c.in-Down.child (here ∙ ap (λ (l : ℕ). Going number l) above) leads
    (ap (λ (state : State). record (plain c.self.inside) { remembered = c.push.new.self; state = state }) c.go-in-Down.ensures
    ∙ (ap (λ (pages : List ℕ). record (plain c.self.inside) { remembered = pages; state = Going c.in-Down.child (c.in-Going.level - 1) }) c.push.ensures
    ∙ (ap (λ (m : PlainMachine). record m { remembered = c.in-Going.number ∷ m.remembered; state = Going c.in-Down.child (c.in-Going.level - 1) }) c.self.view_is
    ∙ ap (λ (n : ℕ). record c.args.self.now { remembered = n ∷ c.args.self.now.remembered; state = Going c.in-Down.child (c.in-Going.level - 1) }) same)))

pub returns-in-Find : goal.returns-in-Find
returns-in-Find c number page needs tells =
    let at : c.args.self.now.state ≡ Going c.in-Going.number c.in-Going.level = sym (ap (λ (m : PlainMachine). m.state) c.self.view_is) ∙ c.in-Going.is in
    let leads : Leads page (target c.args.self.now) Here = subst (Leads page (target c.args.self.now)) c.in-Here.is tells.leads in
    let op : c.args.self.now.op ≡ Find c.in-Find.key = sym (ap (λ (m : PlainMachine). m.op) c.self.view_is) ∙ c.in-Find.is in
    find_answers c.in-Going.level c.in-Find.key (is_going c.args.self.now c.in-Going.number number c.in-Going.level at needs) leads op
    (c.decide.ensures ∙ ap (answered c.args.self.now Ended) (c.answer.ensures ∙ ap (answer_at (Find c.in-Find.key)) (sym (tells.maps c.in-Find.key op c.in-Here.is))))

pub returns-in-Insert : goal.returns-in-Insert
returns-in-Insert c number page needs tells =
    let at : c.args.self.now.state ≡ Going c.in-Going.number c.in-Going.level = sym (ap (λ (m : PlainMachine). m.state) c.self.view_is) ∙ c.in-Going.is in
    let here : c.args.self.now.state ≡ Going number c.in-Going.level = is_going c.args.self.now c.in-Going.number number c.in-Going.level at needs in
    let leads : Leads page (target c.args.self.now) Here = subst (Leads page (target c.args.self.now)) c.in-Here.is tells.leads in
    let own : c.args.self.now.op ≡ c.self.inside.op = sym (ap (λ (m : PlainMachine). m.op) c.self.view_is) in
    let same : c.in-Going.number ≡ number = let p : Going c.in-Going.number c.in-Going.level ≡ Going number c.in-Going.level = sym at ∙ here in cc in
    let after = ap (λ (m : PlainMachine). at_state m (Want c.in-Going.number)) c.self.view_is ∙ ap (λ (n : ℕ). at_state c.args.self.now (Want n)) same in
    elim c.in-Insert.is [
      | inl w ↦ update_wants c.in-Going.level here leads (subst IsUpdate (sym (own ∙ w.2)) tt) after
      | inr other ↦ elim other [
        | inl w ↦ update_wants c.in-Going.level here leads (subst IsUpdate (sym (own ∙ w.1)) tt) after
        | inr last ↦ elim last [
          | inl w ↦ update_wants c.in-Going.level here leads (subst IsUpdate (sym (own ∙ w.2)) tt) after
          | inr expecting ↦ elim expecting [
            | inl w ↦ update_wants c.in-Going.level here leads (subst IsUpdate (sym (own ∙ w.3)) tt) after
            | inr w ↦ update_wants c.in-Going.level here leads (subst IsUpdate (sym (own ∙ w.2)) tt) after
          ]
        ]
      ]
    ]
