-- A replay of parts one after another: what those that are left will add to what is told.
use Rattle.std.proofs.Common.{◌≡◌, ℕ, List, [], ◌∷◌, ◌++◌, count_by, length, refl, ap, sym, ◌∙◌, subst, append_assoc, append-nil, arith}
use Rattle.blink_batch.specs.declared.Part.{Part}
use Rattle.blink_batch.specs.declared.Part.TheVariants.{Batch}
use Rattle.blink_index.specs.{map_of}
use Rattle.blink_store.specs.{PlainStore}
use Rattle.blink_replay.specs.Served.{is_batch, part_after, part_text, script_text}
use Rattle.blink_replay.specs.ServedReplay.{RunsParts, TellsPart, TellsParts, scheduled_turns}

-- what is told of some first parts, from one tree to another: with what the others add it is told of all
pub record IsToldWith (workers : ℕ) (schedule : List ℕ) (start : PlainStore) (parts : List Part) (old_trace old_text : List ℕ) (others : List Part) (tree : PlainStore) (trace text : List ℕ) (left : ℕ) : Type 0 where
  pub traces : (after : PlainStore) (more : List ℕ) → RunsParts workers schedule tree others after more → TellsParts workers schedule start parts old_trace (trace ++ more) after
  pub texts : text ++ script_text (map_of tree) others ≡ old_text ++ script_text (map_of start) parts
  pub counted : left ≡ count_by is_batch others

module _ (workers : ℕ) (schedule : List ℕ) (start : PlainStore) (parts : List Part) (old_trace old_text : List ℕ) where
  -- after the last
  pub all_told : (tree : PlainStore) (trace text : List ℕ) (left : ℕ) → IsToldWith workers schedule start parts old_trace old_text [] tree trace text left
      → TellsParts workers schedule start parts old_trace trace tree × (text ≡ old_text ++ script_text (map_of start) parts)
  all_told tree trace text left told = (
    subst (λ (t : List ℕ). TellsParts workers schedule start parts old_trace t tree) (append-nil trace) (told.traces tree [] (refl, refl)),
    sym (append-nil text) ∙ told.texts,
  )

  module _ (part : Part) (others : List Part) (tree next : PlainStore) (trace trace_next text text_next : List ℕ) (left left_next : ℕ)
      (told : IsToldWith workers schedule start parts old_trace old_text (part ∷ others) tree trace text left) where
    -- what a part adds to the trace
    traces_more : (p : Part) → part ≡ p → TellsPart workers (scheduled_turns (count_by is_batch others) schedule) tree p trace trace_next next
        → (after : PlainStore) (more : List ℕ) → RunsParts workers schedule next others after more → TellsParts workers schedule start parts old_trace (trace_next ++ more) after
    traces_more (Batch ops) is tells after more runs =
        let whole : RunsParts workers schedule tree (part ∷ others) after (tells.0 ++ more) = rw is (next, tells.0, more, tells.1, runs, refl) in
        let joined : trace ++ (tells.0 ++ more) ≡ trace_next ++ more = sym (append_assoc trace tells.0 more) ∙ ap (λ (t : List ℕ). t ++ more) (sym tells.2) in
        subst (λ (t : List ℕ). TellsParts workers schedule start parts old_trace t after) joined (told.traces after (tells.0 ++ more) whole)
    traces_more other is tells after more runs =
        let whole : RunsParts workers schedule tree (part ∷ others) after more = rw is (subst (λ (t : PlainStore). RunsParts workers schedule t others after more) tells.0 runs) in
        subst (λ (t : List ℕ). TellsParts workers schedule start parts old_trace (t ++ more) after) (sym tells.1) (told.traces after more whole)

    -- one part more is told
    pub one_told : TellsPart workers (scheduled_turns (count_by is_batch others) schedule) tree part trace trace_next next → text_next ≡ text ++ part_text (map_of tree) part → map_of next ≡ part_after (map_of tree) part
        → left_next ≡ count_by is_batch others → IsToldWith workers schedule start parts old_trace old_text others next trace_next text_next left_next
    one_told tells same_text same_map counted = record {
      traces = traces_more part refl tells;
      texts = rw (same_text, same_map) (append_assoc text (part_text (map_of tree) part) (script_text (part_after (map_of tree) part) others) ∙ told.texts);
      counted = counted;
    }

-- no part is left
pub no_part : (parts : List Part) → length parts ≡ 0 → parts ≡ []
no_part [] none = refl
no_part (part ∷ parts) none = absurd (omega arith)
