-- What a writer whose bytes are known has taken of a script that is read, and of a replay.
use Rattle.std.proofs.Common.{◌≡◌, ℕ, List, [], ◌∷◌, ◌++◌, Option, Some, None, Ok, refl, ap, ◌∙◌, append-nil}
use Rattle.std.specs.Io.KnownBytes.{Appends, Keeps}
use Rattle.blink_batch.specs.declared.Part.{Part}
use Rattle.blink_batch.specs.declared.Part.TheVariants.{Batch}
use Rattle.blink_batch.specs.{ReadsAs, records_of}
use Rattle.blink_replay.specs.TrackedWriter.{WritesPrefix, Writes, KeepsFlushed, TakesOffered}
use Rattle.blink_replay.specs.Served.{IsAScript, IsPrefixOf, IsTextOf, IsTextBefore, FlushedOutputAfterError, OutputAfterError, Serves, TellsFault, WritesText, WroteBefore, script_text}
use Rattle.blink_settings.specs.declared.error.ServeError.{ServeError}
use Rattle.blink_settings.specs.declared.error.ServeError.TheVariants as serve
use Rattle.blink_replay.proofs.WritersTake.{appends_kept, takes_prefix, takes_poured, takes_whole}

-- known bytes that grow by a text
known_after : (before after : Option (List ℕ)) (written text : List ℕ) → before ≡ Some written → Appends before after text → after ≡ Some (written ++ text)
known_after None after written text known grows = absurd (cc known)
known_after (Some xs) None written text known grows = absurd grows
known_after (Some xs) (Some ys) written text known grows =
    let same : xs ≡ written = cc known in
    rw (grows, same) refl

-- a text of what is read that bytes grow by is written behind them
writes_text : (is_text : List (List (List ℕ)) → List ℕ → Type 0) (to_read before after : Option (List ℕ)) (text : List ℕ) → ((read : List ℕ) → to_read ≡ Some read → is_text (records_of read) text) → Appends before after text
    → WritesText is_text to_read before after
writes_text is_text to_read before after text is grows = λ read written known known_before. (text, is read known, known_after before after written text known_before grows)

-- what is read as parts is a script
pub is_a_script : (to_read : Option (List ℕ)) (parts : List Part) → ReadsAs to_read (Ok parts) → IsAScript to_read
is_a_script to_read parts reads = λ read known. (parts, reads read known)

module _ {W : Type 0} (contents : W → Option (List ℕ)) (to_read : Option (List ℕ)) (before after : W) where
  -- the whole of such a text
  pub writes_whole : (is_text : List (List (List ℕ)) → List ℕ → Type 0) (text : List ℕ) → ((read : List ℕ) → to_read ≡ Some read → is_text (records_of read) text)
      → Writes (TakesOffered contents) (KeepsFlushed contents) before text after → WritesText is_text to_read (contents before) (contents after)
  writes_whole is_text text is out = writes_text is_text to_read (contents before) (contents after) text is (takes_whole contents before after text out)

  -- and a beginning of it, where it breaks off
  pub writes_prefix : (is_text : List (List (List ℕ)) → List ℕ → Type 0) (text : List ℕ) → ((read : List ℕ) → to_read ≡ Some read → is_text (records_of read) text)
      → WritesPrefix (TakesOffered contents) (KeepsFlushed contents) before text after → WritesText (IsPrefixOf is_text) to_read (contents before) (contents after)
  writes_prefix is_text text is broken =
      let prefix = takes_prefix contents before after text broken in
      writes_text (IsPrefixOf is_text) to_read (contents before) (contents after) prefix.0 (λ read known. (prefix.1, rw prefix.2 at (is read known))) prefix.3

  module _ (parts : List Part) (reads : ReadsAs to_read (Ok parts)) where
    -- the text of a script that is read
    is_its_text : (read : List ℕ) → to_read ≡ Some read → IsTextOf (records_of read) (script_text [] parts)
    is_its_text read known = record { parts = parts; a_script = reads read known; its_text = refl }

    pub serves_script : Writes (TakesOffered contents) (KeepsFlushed contents) before (script_text [] parts) after → Serves to_read (contents before) (contents after)
    serves_script out = writes_whole IsTextOf (script_text [] parts) is_its_text out

    -- what was written before others of its parts, and flushed
    wrote_prefix : (between : W) (prefix rest : List Part) → WroteBefore (TakesOffered contents) [] parts prefix rest before between → Keeps (contents between) (contents after)
        → Appends (contents before) (contents after) (script_text [] prefix)
    wrote_prefix between prefix rest wrote stays = appends_kept (contents before) (contents between) (contents after) (script_text [] prefix) (takes_poured contents before between (script_text [] prefix) wrote.written) stays

    is_before : (prefix rest : List Part) → parts ≡ prefix ++ rest → (read : List ℕ) → to_read ≡ Some read → IsTextBefore (records_of read) prefix rest (script_text [] prefix)
    is_before prefix rest in_order read known = record { a_script = reads read known ∙ ap Ok in_order; its_text = refl }

    -- a refusal leaves the lines of the parts before
    pub lines_left : (error : ServeError) → FlushedOutputAfterError (TakesOffered contents) (KeepsFlushed contents) [] parts error before after
        → OutputAfterError to_read error (contents before) (contents after)
    lines_left (serve.Script error) left = absurd left.1
    lines_left (serve.Run number error) left = λ read written known known_before.
        let lines = left.1 in (
          script_text [] lines.prefix,
          record { prefix = lines.prefix; ops = lines.ops; rest = lines.rest; its_number = lines.its_number; before = is_before lines.prefix (Batch lines.ops ∷ lines.rest) lines.wrote.in_order read known },
          known_after (contents before) (contents after) written (script_text [] lines.prefix) known_before (wrote_prefix left.0 lines.prefix (Batch lines.ops ∷ lines.rest) lines.wrote left.2),
        )
    lines_left (serve.Step error) left = absurd left.1
    lines_left serve.Output left = writes_prefix IsTextOf (script_text [] parts) is_its_text left
    lines_left serve.OutOfMemory left = λ read written known known_before.
        let lines = left.1 in (
          script_text [] lines.0,
          (lines.0, lines.1, is_before lines.0 lines.1 lines.2.in_order read known),
          known_after (contents before) (contents after) written (script_text [] lines.0) known_before (wrote_prefix left.0 lines.0 lines.1 lines.2 left.2),
        )

    -- and none of it is of the script itself
    pub fault_told : (error : ServeError) → FlushedOutputAfterError (TakesOffered contents) (KeepsFlushed contents) [] parts error before after → TellsFault to_read error
    fault_told (serve.Script error) left = absurd left.1
    fault_told (serve.Run number error) left = is_a_script to_read parts reads
    fault_told (serve.Step error) left = absurd left.1
    fault_told serve.Output left = is_a_script to_read parts reads
    fault_told serve.OutOfMemory left = is_a_script to_read parts reads

  -- where nothing was written yet, no part's lines were
  pub none_written : (parts : List Part) → ReadsAs to_read (Ok parts) → after ≡ before → OutputAfterError to_read serve.OutOfMemory (contents before) (contents after)
  none_written parts reads same = λ read written known known_before.
      ([], ([], parts, record { a_script = reads read known; its_text = refl }), rw (same, append-nil written) known_before)
