-- What has left a buffer that was empty before: all that was written, where it is empty now, and else a beginning of it.
use Rattle.std.proofs.Common.{◌≡◌, ◌⊎◌, ℕ, drop, length, option_map, take, List, [], ◌∷◌, ◌++◌, Option, Some, None, Result, Ok, Err, IfErr, OnOk, refl, sym, ap, ◌∙◌, subst, inl, inr, append_assoc, append-nil}
use Rattle.std.proofs.lemmas.List.{append_cancel_left, take-append-drop}
use Rattle.std.specs.Io.KnownBytes.{Keeps, append_known}
use Rattle.blink_batch.specs.declared.Part.TheVariants.{Batch}
use Rattle.blink_batch.specs.{records_of}
use Rattle.blink_run.specs.{IsPrefixOf, IsTextBeforeBatch, IsTextOf, IsTextOfPrefix, OutputAfterError, WritesText, IsReplayText, LeavesReplay}
use Rattle.blink_store.specs.{PlainStore}
use Rattle.blink_settings.specs.declared.error.ServeError.{ServeError}
use Rattle.blink_settings.specs.declared.error.ServeError.TheVariants as serve
use Rattle.blink_replay.proofs.Offered.{prefix_of_text}
use Rattle.index_main.specs.Appending.{BeginsWith}
use Rattle.index_main.specs.Program.{HasLeftPrefix, IsText, Leaves, LetsOut, Writes}
use Rattle.blink_command.specs.declared.line.Line.{Line}
use Rattle.blink_command.specs.declared.line.Line.TheVariants.{Run, Replay}

-- known bytes that are kept are the same
kept_as : (between after : Option (List ℕ)) (bytes : List ℕ) → between ≡ Some bytes → Keeps between after → after ≡ Some bytes
kept_as None after bytes known keeps = absurd (cc known)
kept_as (Some xs) None bytes known keeps = absurd keeps
kept_as (Some xs) (Some ys) bytes known keeps =
    let same : xs ≡ bytes = cc known in
    ap (λ (zs : List ℕ). Some zs) (keeps ∙ same)

-- an empty buffer adds nothing to known bytes
with_nothing : (known : Option (List ℕ)) → append_known known [] ≡ known
with_nothing None = refl
with_nothing (Some xs) = ap (λ (zs : List ℕ). Some zs) (append-nil xs)

-- the bytes that are kept, behind an empty buffer, are those
left_as : (between after : Option (List ℕ)) (bytes : List ℕ) → between ≡ Some bytes → Keeps between (append_known after []) → after ≡ Some bytes
left_as between after bytes known keeps = sym (with_nothing after) ∙ kept_as between (append_known after []) bytes known keeps

module _ (before between after : Option (List ℕ)) (keeps : Keeps between (append_known after [])) where
  -- a text that is written has left
  text_left : (is_text : List (List (List ℕ)) → List ℕ → Type 0) (to_read : Option (List ℕ)) → WritesText is_text to_read (append_known before []) between → WritesText is_text to_read before after
  text_left is_text to_read writes = λ read written known known_before.
      let wrote = writes read written known (with_nothing before ∙ known_before) in
      (wrote.0, wrote.1, left_as between after (written ++ wrote.0) wrote.2 keeps)

  -- and where nothing is written nothing has
  nothing_left : Keeps (append_known before []) between → Keeps before after
  nothing_left stays = by_known before refl stays
    where
      by_known : (b : Option (List ℕ)) → before ≡ b → Keeps (append_known b []) between → Keeps b after
      by_known None is stays = tt
      by_known (Some xs) is stays = by_between between refl stays keeps
        where
          by_between : (t : Option (List ℕ)) → between ≡ t → Keeps (append_known (Some xs) []) t → Keeps t (append_known after []) → Keeps (Some xs) after
          by_between None is stays keeps = absurd stays
          by_between (Some ys) is stays keeps = rw (left_as (Some ys) after ys refl keeps) (stays ∙ append-nil xs)

  pub writes_left : (line : Line) (to_read : Option (List ℕ)) → Writes line to_read (append_known before []) between → Writes line to_read before after
  writes_left (Run settings) to_read writes = text_left IsTextOf to_read writes
  writes_left (Replay settings schedule) to_read writes = text_left (IsReplayText settings.workers settings.fan schedule.items) to_read writes

  -- of a run
  lines_left : (error : ServeError) (to_read : Option (List ℕ)) → OutputAfterError to_read error (append_known before []) between → OutputAfterError to_read error before after
  lines_left (serve.Script error) to_read left = nothing_left left
  lines_left (serve.Run number error) to_read left = text_left (IsTextBeforeBatch number) to_read left
  lines_left (serve.Step error) to_read left = absurd left
  lines_left serve.Output to_read left = text_left (IsPrefixOf IsTextOf) to_read left
  lines_left serve.OutOfMemory to_read left = text_left IsTextOfPrefix to_read left

  -- of a replay
  replay_left : (workers fan : ℕ) (schedule : List ℕ) (error : ServeError) (to_read : Option (List ℕ)) → LeavesReplay workers fan schedule to_read error (append_known before []) between → LeavesReplay workers fan schedule to_read error before after
  replay_left workers fan schedule (serve.Script error) to_read left = nothing_left left
  replay_left workers fan schedule (serve.Run number error) to_read left = nothing_left left
  replay_left workers fan schedule (serve.Step error) to_read left = nothing_left left
  replay_left workers fan schedule serve.Output to_read left = text_left (IsPrefixOf (IsReplayText workers fan schedule)) to_read left
  replay_left workers fan schedule serve.OutOfMemory to_read left = nothing_left left

  leaves_left : (line : Line) (to_read : Option (List ℕ)) (error : ServeError) → Leaves line to_read error (append_known before []) between → Leaves line to_read error before after
  leaves_left (Run settings) to_read error left = lines_left error to_read left
  leaves_left (Replay settings schedule) to_read error left = replay_left settings.workers settings.fan schedule.items error to_read left

  -- what a refusal leaves has left, where the writer hasn't failed
  pub refusal_left : (line : Line) (to_read : Option (List ℕ)) (error : ServeError) → (error ≡ serve.Output → ⊥) → Leaves line to_read error (append_known before []) between → LetsOut line to_read error before after
  refusal_left line to_read (serve.Script error) not_output left = leaves_left line to_read (serve.Script error) left
  refusal_left line to_read (serve.Run number error) not_output left = leaves_left line to_read (serve.Run number error) left
  refusal_left line to_read (serve.Step error) not_output left = leaves_left line to_read (serve.Step error) left
  refusal_left line to_read serve.Output not_output left = absurd (not_output refl)
  refusal_left line to_read serve.OutOfMemory not_output left = leaves_left line to_read serve.OutOfMemory left

-- what was written of a text: a beginning, and the rest
record PrefixWritten (line : Line) (records : List (List (List ℕ))) (written : List ℕ) (between : Option (List ℕ)) : Type 0 where
  prefix : List ℕ
  more : List ℕ
  its_text : IsText line records (prefix ++ more) ⊎ (prefix ++ more ≡ [])
  known : between ≡ Some (written ++ prefix)

-- behind a buffer, a beginning of that has left, after what had left before
prefix_left : (line : Line) (records : List (List (List ℕ))) (written buffer : List ℕ) (between after : Option (List ℕ)) → PrefixWritten line records written between → Keeps between (append_known after buffer)
    → BeginsWith (Some written) after → HasLeftPrefix line records written after
prefix_left line records written buffer between after prefix keeps begins = by_after after (kept_as between (append_known after buffer) (written ++ prefix.prefix) prefix.known keeps) (begins written refl)
  where
    by_after : (known : Option (List ℕ)) → append_known known buffer ≡ Some (written ++ prefix.prefix) → option_map (λ (all : List ℕ). take (length written) all) known ≡ Some written
        → HasLeftPrefix line records written known
    by_after None same first = absurd (cc same)
    by_after (Some left) same first =
        let front : take (length written) left ≡ written = cc first in
        let more : List ℕ = drop (length written) left in
        let whole : left ≡ written ++ more = sym (take-append-drop (length written) left) ∙ ap (λ (t : List ℕ). t ++ more) front in
        let as_one : left ++ buffer ≡ written ++ prefix.prefix = cc same in
        let behind : written ++ (more ++ buffer) ≡ written ++ prefix.prefix = sym (append_assoc written more buffer) ∙ ap (λ (t : List ℕ). t ++ buffer) (sym whole) ∙ as_one in
        let same_prefix : more ++ buffer ≡ prefix.prefix = append_cancel_left written (more ++ buffer) prefix.prefix behind in
        record {
          text = prefix.prefix ++ prefix.more;
          its_text = prefix.its_text;
          prefix = more;
          rest = buffer ++ prefix.more;
          in_order = ap (λ (t : List ℕ). t ++ prefix.more) (sym same_prefix) ∙ append_assoc more buffer prefix.more;
          known = ap (λ (t : List ℕ). Some t) whole;
        }

-- known bytes that aren't touched stay
untouched : (known : Option (List ℕ)) → Keeps known known
untouched None = tt
untouched (Some bytes) = refl

module _ (line : Line) (to_read before between after : Option (List ℕ)) (buffer : List ℕ) (keeps : Keeps between (append_known after buffer)) (begins : BeginsWith before after) where
  -- of what was written a beginning has left, where the writer failed
  lets_out : ((read written : List ℕ) → to_read ≡ Some read → before ≡ Some written → PrefixWritten line (records_of read) written between) → LetsOut line to_read serve.Output before after
  lets_out prefix = λ read written known known_before. prefix_left line (records_of read) written buffer between after (prefix read written known known_before) keeps (subst (λ (b : Option (List ℕ)). BeginsWith b after) known_before begins)

-- a beginning of a text, with what had left before
prefix_of : (line : Line) (to_read before between : Option (List ℕ)) → WritesText (IsPrefixOf (IsText line)) to_read (append_known before []) between → (read written : List ℕ) → to_read ≡ Some read → before ≡ Some written → PrefixWritten line (records_of read) written between
prefix_of line to_read before between writes read written known known_before =
    let wrote = writes read written known (with_nothing before ∙ known_before) in
    record { prefix = wrote.0; more = wrote.1.0; its_text = inl wrote.1.1; known = wrote.2 }

-- the whole of it
whole_of : (line : Line) (to_read before between : Option (List ℕ)) → WritesText (IsText line) to_read (append_known before []) between → (read written : List ℕ) → to_read ≡ Some read → before ≡ Some written → PrefixWritten line (records_of read) written between
whole_of line to_read before between writes read written known known_before =
    let wrote = writes read written known (with_nothing before ∙ known_before) in
    record { prefix = wrote.0; more = []; its_text = inl (rw append-nil wrote.1); known = wrote.2 }

-- nothing of it
nothing_of : (line : Line) (to_read before between : Option (List ℕ)) → Keeps (append_known before []) between → (read written : List ℕ) → to_read ≡ Some read → before ≡ Some written → PrefixWritten line (records_of read) written between
nothing_of line to_read before between stays read written known known_before =
    record { prefix = []; more = []; its_text = inr refl; known = kept_as (append_known before []) between (written ++ []) (with_nothing before ∙ known_before ∙ ap (λ (t : List ℕ). Some t) (sym (append-nil written))) stays }

-- what was written before the flush
prefix_written : (line : Line) (to_read before between : Option (List ℕ)) (outcome : Result (Option PlainStore) ServeError) → (outcome ≡ Err serve.Output → ⊥) → OnOk outcome (Writes line to_read (append_known before []) between)
    → IfErr outcome (λ error. Leaves line to_read error (append_known before []) between) → (read written : List ℕ) → to_read ≡ Some read → before ≡ Some written → PrefixWritten line (records_of read) written between
prefix_written (Run settings) to_read before between (Ok index) not_output writes left = whole_of (Run settings) to_read before between writes
prefix_written (Replay settings schedule) to_read before between (Ok index) not_output writes left = whole_of (Replay settings schedule) to_read before between writes
prefix_written (Run settings) to_read before between (Err (serve.Script error)) not_output writes left = nothing_of (Run settings) to_read before between left
prefix_written (Run settings) to_read before between (Err (serve.Run number error)) not_output writes left = λ read written known known_before.
    let wrote = left read written known (with_nothing before ∙ known_before) in
    let whole = prefix_of_text (records_of read) wrote.1.prefix (Batch wrote.1.ops ∷ wrote.1.rest) wrote.0 wrote.1.before in
    record { prefix = wrote.0; more = whole.0; its_text = inl whole.1; known = wrote.2 }
prefix_written (Run settings) to_read before between (Err (serve.Step error)) not_output writes left = absurd left
prefix_written (Run settings) to_read before between (Err serve.OutOfMemory) not_output writes left = λ read written known known_before.
    let wrote = left read written known (with_nothing before ∙ known_before) in
    let whole = prefix_of_text (records_of read) wrote.1.0 wrote.1.1 wrote.0 wrote.1.2 in
    record { prefix = wrote.0; more = whole.0; its_text = inl whole.1; known = wrote.2 }
prefix_written line to_read before between (Err serve.Output) not_output writes left = absurd (not_output refl)
prefix_written (Replay settings schedule) to_read before between (Err (serve.Script error)) not_output writes left = nothing_of (Replay settings schedule) to_read before between left
prefix_written (Replay settings schedule) to_read before between (Err (serve.Run number error)) not_output writes left = nothing_of (Replay settings schedule) to_read before between left
prefix_written (Replay settings schedule) to_read before between (Err (serve.Step error)) not_output writes left = nothing_of (Replay settings schedule) to_read before between left
prefix_written (Replay settings schedule) to_read before between (Err serve.OutOfMemory) not_output writes left = nothing_of (Replay settings schedule) to_read before between left

module _ (line : Line) (to_read before after : Option (List ℕ)) (begins : BeginsWith before after) where
  -- the writer fails at a write
  pub write_failed : (buffer : List ℕ) → Leaves line to_read serve.Output (append_known before []) (append_known after buffer) → LetsOut line to_read serve.Output before after
  write_failed buffer left = lets_out line to_read before (append_known after buffer) after buffer (untouched (append_known after buffer)) begins (prefix_of line to_read before (append_known after buffer) (by_line line left))
    where
      by_line : (l : Line) → Leaves l to_read serve.Output (append_known before []) (append_known after buffer) → WritesText (IsPrefixOf (IsText l)) to_read (append_known before []) (append_known after buffer)
      by_line (Run settings) left = left
      by_line (Replay settings schedule) left = left

  module _ (between : Option (List ℕ)) (outcome : Result (Option PlainStore) ServeError) (not_output : outcome ≡ Err serve.Output → ⊥) (left : IfErr outcome (λ error. Leaves line to_read error (append_known before []) between)) where
    -- it fails at the flush
    pub flush_failed : (buffer : List ℕ) → OnOk outcome (Writes line to_read (append_known before []) between) → Keeps between (append_known after buffer) → LetsOut line to_read serve.Output before after
    flush_failed buffer writes keeps = lets_out line to_read before between after buffer keeps begins (prefix_written line to_read before between outcome not_output writes left)

    -- it doesn't fail
    pub refusals_left : Keeps between (append_known after []) → IfErr outcome (λ error. LetsOut line to_read error before after)
    refusals_left keeps = by_outcome outcome not_output left
      where
        by_outcome : (r : Result (Option PlainStore) ServeError) → (r ≡ Err serve.Output → ⊥) → IfErr r (λ error. Leaves line to_read error (append_known before []) between) → IfErr r (λ error. LetsOut line to_read error before after)
        by_outcome (Ok index) not_output left = tt
        by_outcome (Err error) not_output left = refusal_left before between after keeps line to_read error (λ same. not_output (ap Err same)) left
