use Rattle.std.proofs.Common.{◌≡◌, ◌+◌, ◌<◌, ◌^◌, sym, ap, ◌∙◌, subst, arith, ℕ}
use Rattle.std.specs.Prelude.{IfOk, Result, Ok, Err}
use Rattle.blink_index.specs.{map_of}
use Rattle.blink_map.specs.declared.error.GrowError.{GrowError}
use Rattle.blink_map.specs.declared.prepare.Prepared.{Prepared}
use Rattle.blink_map.specs.Counts.{changes_of}
use Rattle.blink_map.proofs.Copies.{is_copied, is_copied_anew}
use Rattle.blink_map.proofs.Gathers.{lead_sees_more}
use Rattle.blink_map.proofs.growing.GrowingMap.gather_again.Goals as goal

pub returns-then-count_all-noted-clause-copied : goal.returns-then-count_all-noted-clause-copied
returns-then-count_all-noted-clause-copied c =
    let fits = c.if-noted-lt18446744073709551615.true in
    let few : c.args.noted + 1 < 2 ^ 64 = omega (arith, fits) in
    let same : c.count_all.result ≡ c.args.noted = c.if-count_all-noted.true in
    let counted = c.count_all.ensures (subst (λ (n : ℕ). n + 1 < 2 ^ 64) (sym same) few) ∙ ap changes_of c.deref.ensures.value in
    is_copied c.args.self.now c.gather.new.seat c.args.copier c.gather.new.lead c.gather.new.others.items c.gather.ensures.renewing c.args.lead.now c.gather.ensures.more c.args.noted c.requires.noted few (sym same ∙ counted)
    (c.gather.ensures.all c.if-not-gather.false) c.gather.ensures.heard (map_of c.args.prepared.index) c.requires.entries

pub returns-clause-renewing : goal.returns-clause-renewing
returns-clause-renewing c = lead_sees_more c.args.self.now c.gather.new.seat c.args.copier c.gather.new.lead c.prepare.new.lead c.gather.new.others.items c.gather.ensures.renewing c.prepare.ensures.more

-- the copy of a result, if there is one
if_copied : (result : Result Prepared GrowError) (P Q : Prepared → Type 0) → ((prepared : Prepared) → P prepared → Q prepared) → IfOk result P → IfOk result Q
if_copied (Ok prepared) P Q each is = each prepared is
if_copied (Err refusal) P Q each is = is

pub returns-clause-copied : goal.returns-clause-copied
returns-clause-copied c = if_copied c.prepare.result _ _
    (λ prepared. is_copied_anew c.args.self.now c.gather.new.seat c.args.copier c.gather.new.lead c.gather.new.others.items c.gather.ensures.renewing c.prepare.new.lead c.prepare.ensures.more c.gather.ensures.heard
    (c.gather.ensures.all c.if-not-gather.false) (map_of prepared.index))
    c.prepare.ensures.entries
