use Rattle.std.proofs.Common.{◌≡◌, List, ℕ, Option, Err, subst}
use Rattle.std.proofs.lemmas.Result.{IfErr-weaker, on_ok_weaker}
use Rattle.std.specs.Io.Buffered.{writer_buffer, writer_inner}
use Rattle.std.specs.Io.KnownBytes.{Keeps, append_known}
use Rattle.blink_settings.specs.declared.error.ServeError.TheVariants as serve
use Rattle.index_main.specs.Appending.{BeginsWith}
use Rattle.index_main.specs.Program.{Leaves, Writes}
use Rattle.index_main.proofs.WhatIsFlushed.{flush_failed, refusals_left, write_failed, writes_left}
use Rattle.index_main.proofs.program.carry_out.Goals as goal

-- a write fails
pub returns-then-has_failed-clause-left : goal.returns-then-has_failed-clause-left
returns-then-has_failed-clause-left g c =
    let to_read = g.R.Read.remaining c.args.reader.now in
    let before = g.W.Write.contents (writer_inner c.args.output.now).inner in
    let between = append_known (g.W.Write.contents (writer_inner c.served-outcome.new.writer).inner) (writer_buffer c.served-outcome.new.writer) in
    let after = g.W.Write.contents (writer_inner c.served-outcome.new.writer).inner in
    let begins = subst (λ (b : Option (List ℕ)). BeginsWith b after) c.requires.picked (writer_inner c.served-outcome.new.writer).begins in
    let failed : c.served-outcome.result ≡ Err serve.Output = c.has_failed.ensures.0 c.if-has_failed.true in
    rw failed (write_failed c.args.line.now to_read before after begins (writer_buffer c.served-outcome.new.writer)
    (subst (λ (buffer : List ℕ). Leaves c.args.line.now to_read serve.Output (append_known before buffer) between) c.requires.empty (rw failed at c.served-outcome.ensures.left)))

-- what is written has left
pub returns-in-Ok-clause-written : goal.returns-in-Ok-clause-written
returns-in-Ok-clause-written g c =
    let to_read = g.R.Read.remaining c.args.reader.now in
    let before = g.W.Write.contents (writer_inner c.args.output.now).inner in
    let between = append_known (g.W.Write.contents (writer_inner c.served-outcome.new.writer).inner) (writer_buffer c.served-outcome.new.writer) in
    let after = g.W.Write.contents (writer_inner c.flush.new.self).inner in
    let keeps = subst (λ (buffer : List ℕ). Keeps between (append_known after buffer)) c.in-Ok.ensures.ok c.flush.ensures.bytes in
    on_ok_weaker c.served-outcome.result
    (λ writes. writes_left before between after keeps c.args.line.now to_read (subst (λ (buffer : List ℕ). Writes c.args.line.now to_read (append_known before buffer) between) c.requires.empty writes))
    c.served-outcome.ensures.written

-- and so have the lines that a refusal leaves
pub returns-in-Ok-clause-left : goal.returns-in-Ok-clause-left
returns-in-Ok-clause-left g c =
    let to_read = g.R.Read.remaining c.args.reader.now in
    let before = g.W.Write.contents (writer_inner c.args.output.now).inner in
    let between = append_known (g.W.Write.contents (writer_inner c.served-outcome.new.writer).inner) (writer_buffer c.served-outcome.new.writer) in
    let after = g.W.Write.contents (writer_inner c.flush.new.self).inner in
    let keeps = subst (λ (buffer : List ℕ). Keeps between (append_known after buffer)) c.in-Ok.ensures.ok c.flush.ensures.bytes in
    let begins = subst (λ (b : Option (List ℕ)). BeginsWith b after) c.requires.picked (writer_inner c.flush.new.self).begins in
    let not_output : c.served-outcome.result ≡ Err serve.Output → ⊥ = λ same. (let failed = c.has_failed.ensures.1 same in cc) in
    refusals_left c.args.line.now to_read before after begins between c.served-outcome.result not_output
    (IfErr-weaker c.served-outcome.result _ _ (λ error left. subst (λ (buffer : List ℕ). Leaves c.args.line.now to_read error (append_known before buffer) between) c.requires.empty left) c.served-outcome.ensures.left) keeps

-- the flush fails
pub returns-in-Err-clause-left : goal.returns-in-Err-clause-left
returns-in-Err-clause-left g c =
    let to_read = g.R.Read.remaining c.args.reader.now in
    let before = g.W.Write.contents (writer_inner c.args.output.now).inner in
    let between = append_known (g.W.Write.contents (writer_inner c.served-outcome.new.writer).inner) (writer_buffer c.served-outcome.new.writer) in
    let after = g.W.Write.contents (writer_inner c.flush.new.self).inner in
    let begins = subst (λ (b : Option (List ℕ)). BeginsWith b after) c.requires.picked (writer_inner c.flush.new.self).begins in
    let not_output : c.served-outcome.result ≡ Err serve.Output → ⊥ = λ same. (let failed = c.has_failed.ensures.1 same in cc) in
    flush_failed c.args.line.now to_read before after begins between c.served-outcome.result not_output
    (IfErr-weaker c.served-outcome.result _ _ (λ error left. subst (λ (buffer : List ℕ). Leaves c.args.line.now to_read error (append_known before buffer) between) c.requires.empty left) c.served-outcome.ensures.left)
    (writer_buffer c.flush.new.self) (on_ok_weaker c.served-outcome.result (λ writes. subst (λ (buffer : List ℕ). Writes c.args.line.now to_read (append_known before buffer) between) c.requires.empty writes) c.served-outcome.ensures.written)
    c.flush.ensures.bytes
