-- What a replay's texts leave of a writer whose bytes are known, when they aren't written.
use Rattle.std.proofs.Common.{ℕ, List, Option, Some, None, inl, inr, refl, sym, subst}
use Rattle.std.specs.Io.KnownBytes.{Keeps}
use Rattle.blink_replay.specs.ServedReplay.{AreToWrite, IsReplayText, LeavesReplay, TellsReplayOf, TellsWorkersFault, TextsOutputAfterError}
use Rattle.blink_replay.specs.TrackedWriter.{KeepsFlushed, TakesOffered}
use Rattle.blink_settings.specs.declared.error.ServeError.{ServeError}
use Rattle.blink_replay.proofs.WhatWritersTake.{writes_prefix}

keeps_itself : (bytes : Option (List ℕ)) → Keeps bytes bytes
keeps_itself None = tt
keeps_itself (Some bytes) = refl

module _ {W : Type 0} (contents : W → Option (List ℕ)) (workers fan : ℕ) (schedule : List ℕ) (to_read : Option (List ℕ)) (before after : W) (text : List ℕ) (is_text : AreToWrite workers fan schedule to_read text) where
  pub leaves_replay : (error : ServeError) → TextsOutputAfterError (TakesOffered contents) (KeepsFlushed contents) text error before after → LeavesReplay workers fan schedule to_read error (contents before) (contents after)
  leaves_replay error (inl memory) = rw memory.0 (subst (λ (writer : W). Keeps (contents before) (contents writer)) (sym memory.1) (keeps_itself (contents before)))
  leaves_replay error (inr broken) = rw broken.0 (writes_prefix contents to_read before after (IsReplayText workers fan schedule) text is_text broken.1)

  -- what was read is a script
  pub tells_of_texts : (error : ServeError) → TextsOutputAfterError (TakesOffered contents) (KeepsFlushed contents) text error before after → TellsReplayOf workers fan to_read error
  tells_of_texts error (inl memory) = rw memory.0 (λ read known. let its = is_text read known in (its.parts, its.a_script))
  tells_of_texts error (inr broken) = rw broken.0 (λ read known. let its = is_text read known in (its.parts, its.a_script))

  pub texts_fault : (error : ServeError) → TextsOutputAfterError (TakesOffered contents) (KeepsFlushed contents) text error before after → TellsWorkersFault to_read error
  texts_fault error (inl memory) = rw memory.0 tt
  texts_fault error (inr broken) = rw broken.0 tt
