use Rattle.std.proofs.Common.{sym, ◌∙◌, arith}
use Rattle.blink_rows.proofs.RecordCounts.{is_added, is_removed, is_replaced, kind_in_word}
use Rattle.blink_rows.proofs.naming.Records.kind.Goals as goal

pub returns-in-0 : goal.returns-in-0
returns-in-0 c front r back same many = sym (is_replaced r.kind (sym (kind_in_word c.args.self.now front r back c.args.older same many) ∙ c.in-0.is))

pub returns-in-1 : goal.returns-in-1
returns-in-1 c front r back same many = sym (is_added r.kind (sym (kind_in_word c.args.self.now front r back c.args.older same many) ∙ c.in-1.is))

pub returns-in_default : goal.returns-in_default
returns-in_default c front r back same many =
    let told = kind_in_word c.args.self.now front r back c.args.older same many in
    sym (is_removed r.kind (λ zero. omega (arith, told, zero)) (λ one. omega (arith, told, one)))
