-- A script's parts one after another: their texts, the map that they leave, and the batches among them.
use Rattle.std.proofs.Common.{◌≡◌, ℕ, ◌+◌, ◌-◌, ◌<◌, Bool, List, [], ◌∷◌, ◌++◌, Option, Result, Ok, Err, IfErr, OnOk, cond, true, false, count_by, length, get_or, take, drop, refl, ap, sym, ◌∙◌, append_assoc, append-nil, arith}
use Rattle.blink_batch.specs.declared.Entry.{Entry}
use Rattle.blink_batch.specs.declared.Part.{Part}
use Rattle.blink_batch.specs.declared.Part.TheVariants.{Batch}
use Rattle.std.proofs.lemmas.List.{take-append-drop, drop_more}
use Rattle.std.proofs.lemmas.List.Sums.{sum_by-append}
use Rattle.blink_replay.specs.TrackedWriter.{WritesPrefix, WritesAll, is_not_flushed}
use Rattle.blink_replay.specs.Served.{IsPrefixOf, IsPartFault, IsTextBefore, IsTextOf, PrefixOutputAfterError, PartOutputAfterError, WroteBefore, WroteBeforeBatch, is_batch, map_after_parts, part_after, part_text, script_text}
use Rattle.blink_settings.specs.declared.error.ServeError.{ServeError}
use Rattle.blink_settings.specs.declared.error.ServeError.TheVariants as serve
use Rattle.blink_replay.proofs.WritersTake.{breaks_after, breaks_before, breaks_here, breaks_unflushed, writes_all_of_both}

-- the text of some parts and others
pub text_of_both : (map : List Entry) (prefix rest : List Part) → script_text map (prefix ++ rest) ≡ script_text map prefix ++ script_text (map_after_parts map prefix) rest
text_of_both map [] rest = refl
text_of_both map (first ∷ prefix) rest =
    ap (λ (text : List ℕ). part_text map first ++ text) (text_of_both (part_after map first) prefix rest)
    ∙ sym (append_assoc (part_text map first) (script_text (part_after map first) prefix) (script_text (map_after_parts (part_after map first) prefix) rest))

-- so that of some first parts is a beginning of it
pub prefix_of_text : (records : List (List (List ℕ))) (prefix rest : List Part) (text : List ℕ) → IsTextBefore records prefix rest text → IsPrefixOf IsTextOf records text
prefix_of_text records prefix rest text before = (
  script_text (map_after_parts [] prefix) rest,
  record {
    parts = prefix ++ rest;
    a_script = before.a_script;
    its_text = ap (λ (t : List ℕ). t ++ script_text (map_after_parts [] prefix) rest) before.its_text ∙ sym (text_of_both [] prefix rest);
  },
)

-- the text of one part more
text_more : (map : List Entry) (parts : List Part) (part : Part) → script_text map (parts ++ part ∷ []) ≡ script_text map parts ++ part_text (map_after_parts map parts) part
text_more map parts part = text_of_both map parts (part ∷ []) ∙ ap (λ (text : List ℕ). script_text map parts ++ text) (append-nil (part_text (map_after_parts map parts) part))

-- the map after it
map_more : (map : List Entry) (parts : List Part) (part : Part) → map_after_parts map (parts ++ part ∷ []) ≡ part_after (map_after_parts map parts) part
map_more map [] part = refl
map_more map (first ∷ parts) part = map_more (part_after map first) parts part

-- the number of batches among some parts and one more
pub batches_more : (parts : List Part) (part : Part) → count_by is_batch (parts ++ part ∷ []) ≡ count_by is_batch parts + count_by is_batch (part ∷ [])
batches_more parts part = sum_by-append (λ (p : Part). cond (is_batch p) 1 0) parts (part ∷ [])

-- and among a part and others
pub batches_left : (part : Part) (others : List Part) (left one : ℕ) → left ≡ count_by is_batch (part ∷ others) → one ≡ 0 + count_by is_batch (part ∷ []) → left - one ≡ count_by is_batch others
batches_left part others left one counted first =
    let both : count_by is_batch (part ∷ others) ≡ count_by is_batch (part ∷ []) + count_by is_batch others = sum_by-append (λ (p : Part). cond (is_batch p) 1 0) (part ∷ []) others in
    omega arith

-- the first parts are served: the text that went out, the map that is left, and how many are batches
pub record HasServed {O : Type 0} (offered : O → List ℕ → Option ℕ → O → Type 0) (map : List Entry) (prefix : List Part) (before after : O) (left : List Entry) (batches : ℕ) : Type 0 where
  pub written : WritesAll offered before (script_text map prefix) after
  pub same_map : left ≡ map_after_parts map prefix
  pub counted : batches ≡ count_by is_batch prefix

module _ {O : Type 0} (offered : O → List ℕ → Option ℕ → O → Type 0) where
  -- and so is one more
  pub serves_more : (map : List Entry) (prefix : List Part) (part : Part) (before between after : O) (left next : List Entry) (batches : ℕ) → HasServed offered map prefix before between left batches
      → WritesAll offered between (part_text left part) after → next ≡ part_after left part → HasServed offered map (prefix ++ part ∷ []) before after next (batches + count_by is_batch (part ∷ []))
  serves_more map prefix part before between after left next batches so_far written same = record {
    written = rw (text_more map prefix part) (writes_all_of_both offered before between after (script_text map prefix) (part_text (map_after_parts map prefix) part) so_far.written (rw so_far.same_map at written));
    same_map = same ∙ rw so_far.same_map (sym (map_more map prefix part));
    counted = omega (arith, so_far.counted, batches_more prefix part);
  }

  module _ (settled : O → Bool → O → Type 0) (map : List Entry) (parts : List Part) (i number : ℕ) (part : Part) (within : i < length parts) (before between after : O) (left : List Entry) (batches : ℕ)
      (so_far : HasServed offered map (take i parts) before between left batches) where
    -- the parts are those before this one, this one, and others
    in_order : (p : Part) → get_or parts i part ≡ p → parts ≡ take i parts ++ p ∷ drop (i + 1) parts
    in_order p at = sym (take-append-drop i parts) ∙ ap (λ (rest : List Part). take i parts ++ rest) (drop_more parts i part within ∙ ap (λ (p : Part). p ∷ drop (i + 1) parts) at)

    -- and so is their text
    text_in_order : get_or parts i part ≡ part → script_text map parts ≡ script_text map (take i parts) ++ (part_text left part ++ script_text (part_after left part) (drop (i + 1) parts))
    text_in_order here = ap (λ (ps : List Part). script_text map ps) (in_order part here) ∙ text_of_both map (take i parts) (part ∷ drop (i + 1) parts)
        ∙ ap (λ (m : List Entry). script_text map (take i parts) ++ (part_text m part ++ script_text (part_after m part) (drop (i + 1) parts))) (sym so_far.same_map)

    -- where this part isn't served, the lines of those before it went out
    pub prefix_output_after_error : (error : ServeError) → get_or parts i part ≡ part → number ≡ batches + count_by is_batch (part ∷ []) → IsPartFault part number error → PartOutputAfterError offered settled (part_text left part) error between after
        → PrefixOutputAfterError offered settled map parts error before after
    prefix_output_after_error (serve.Script error) here counted fault leaves = absurd leaves
    prefix_output_after_error (serve.Run told error) here counted fault leaves = run_fault part here counted fault
      where
        run_fault : (p : Part) → get_or parts i part ≡ p → number ≡ batches + count_by is_batch (p ∷ []) → (told ≡ number) × (is_batch p ≡ true) → WroteBeforeBatch offered told map parts before after
        run_fault (Batch ops) at counted fault = record {
          prefix = take i parts;
          ops = ops;
          rest = drop (i + 1) parts;
          its_number = omega (arith, counted, fault.0, so_far.counted);
          wrote = record { in_order = in_order (Batch ops) at; written = rw leaves so_far.written };
        }
        run_fault other at counted fault = absurd (cc fault.1)
    prefix_output_after_error (serve.Step error) here counted fault leaves = absurd leaves
    prefix_output_after_error serve.Output here counted fault leaves =
        rw (text_in_order here)
        (breaks_after offered settled before between after (script_text map (take i parts)) _ so_far.written (breaks_before offered settled between after (part_text left part) (script_text (part_after left part) (drop (i + 1) parts)) leaves))
    prefix_output_after_error serve.OutOfMemory here counted fault leaves = (take i parts, drop i parts, record { in_order = sym (take-append-drop i parts); written = rw leaves so_far.written })

  module _ (settled : O → Bool → O → Type 0) (map : List Entry) (parts : List Part) (before between after : O) (wrong : settled between false after) where
    -- the lines of some first parts went out, and a flush goes wrong
    prefix_unflushed : (prefix rest : List Part) → WroteBefore offered map parts prefix rest before between → WritesPrefix offered settled before (script_text map parts) after
    prefix_unflushed prefix rest wrote =
        breaks_here offered settled before between after (script_text map parts) (script_text map prefix) (script_text (map_after_parts map prefix) rest)
        (ap (λ (ps : List Part). script_text map ps) wrote.in_order ∙ text_of_both map prefix rest) wrote.written (is_not_flushed wrong)

    -- where the writer hasn't failed before, a flush that goes wrong leaves a beginning of the text
    pub unflushed : (outcome : Result (Unit {0}) ServeError) → OnOk outcome (WritesAll offered before (script_text map parts) between) → IfErr outcome (λ error. PrefixOutputAfterError offered settled map parts error before between)
        → (outcome ≡ Err serve.Output → ⊥) → WritesPrefix offered settled before (script_text map parts) after
    unflushed (Ok done) all_written left not_output = breaks_unflushed offered settled before between after (script_text map parts) all_written wrong
    unflushed (Err (serve.Script error)) all_written left not_output = absurd left
    unflushed (Err (serve.Run number error)) all_written left not_output = prefix_unflushed left.prefix (Batch left.ops ∷ left.rest) left.wrote
    unflushed (Err (serve.Step error)) all_written left not_output = absurd left
    unflushed (Err serve.Output) all_written left not_output = absurd (not_output refl)
    unflushed (Err serve.OutOfMemory) all_written left not_output = prefix_unflushed left.0 left.1 left.2
