-- What goes out by calls one after another, and what a writer whose bytes are known has taken then.
use Rattle.std.proofs.Common.{◌≡◌, ℕ, ◌<◌, Bool, false, List, [], ◌++◌, Option, Some, None, take, drop, refl, sym, ap, ◌∙◌, subst, append_assoc, append-nil}
use Rattle.std.proofs.lemmas.List.{take-append-drop}
use Rattle.std.specs.Io.KnownBytes.{Appends, Keeps}
use Rattle.blink_replay.specs.TrackedWriter.{WritesPrefix, Fails, Writes, KeepsFlushed, WritesAll, TakesOffered, nothing, more, refuses, takes_nothing, is_not_flushed}

module _ {O : Type 0} (offered : O → List ℕ → Option ℕ → O → Type 0) where
  -- one text after another goes out as both
  pub writes_all_of_both : (before between after : O) (one other : List ℕ) → WritesAll offered before one between → WritesAll offered between other after → WritesAll offered before (one ++ other) after
  writes_all_of_both before between _ one _ first nothing = subst (λ (text : List ℕ). WritesAll offered before text between) (sym (append-nil one)) first
  writes_all_of_both before between after one other first (more text bytes _ taken last _ all_written call some longer) =
      more (one ++ text) bytes (one ++ other) taken last after (writes_all_of_both before between last one text first all_written) call some
      (ap (λ (t : List ℕ). one ++ t) longer ∙ sym (append_assoc one text (take taken bytes)))

  -- where an offer takes some of what is left of a text, more of it has gone out
  pub writes_all_more : (before between after : O) (text written rest left : List ℕ) (taken : ℕ) → text ≡ written ++ rest → WritesAll offered before written between → offered between rest (Some taken) after → 0 < taken → left ≡ drop taken rest
      → record { written : List ℕ; in_order : text ≡ written ++ left; all_written : WritesAll offered before written after }
  writes_all_more before between after text written rest left taken in_order all_written call some dropped = record {
    written = written ++ take taken rest;
    in_order = in_order ∙ ap (λ (t : List ℕ). written ++ t) (sym (take-append-drop taken rest)) ∙ sym (append_assoc written (take taken rest) (drop taken rest)) ∙ ap (λ (t : List ℕ). written ++ take taken rest ++ t) (sym dropped);
    all_written = more written rest (written ++ take taken rest) taken between after all_written call some refl;
  }

  module _ (settled : O → Bool → O → Type 0) where
    -- a call fails where a beginning of a text has gone out
    pub breaks_here : (before between after : O) (text prefix rest : List ℕ) → text ≡ prefix ++ rest → WritesAll offered before prefix between → Fails offered settled between after → WritesPrefix offered settled before text after
    breaks_here before between after text prefix rest in_order all_written failed = record { prefix = prefix; rest = rest; in_order = in_order; between = between; all_written = all_written; failed = failed }

    -- where a text breaks off, so does a longer one
    pub breaks_before : (before after : O) (text rest : List ℕ) → WritesPrefix offered settled before text after → WritesPrefix offered settled before (text ++ rest) after
    breaks_before before after text rest broken =
        breaks_here before broken.between after (text ++ rest) broken.prefix (broken.rest ++ rest)
        (ap (λ (t : List ℕ). t ++ rest) broken.in_order ∙ append_assoc broken.prefix broken.rest rest) broken.all_written broken.failed

    -- and where the text behind one that goes out breaks off, so do both
    pub breaks_after : (before between after : O) (text rest : List ℕ) → WritesAll offered before text between → WritesPrefix offered settled between rest after → WritesPrefix offered settled before (text ++ rest) after
    breaks_after before between after text rest all_written broken =
        breaks_here before broken.between after (text ++ rest) (text ++ broken.prefix) broken.rest
        (ap (λ (t : List ℕ). text ++ t) broken.in_order ∙ sym (append_assoc text broken.prefix broken.rest))
        (writes_all_of_both before between broken.between text broken.prefix all_written broken.all_written) broken.failed

    -- a flush of a text that went out goes wrong
    pub breaks_unflushed : (before between after : O) (text : List ℕ) → WritesAll offered before text between → settled between false after → WritesPrefix offered settled before text after
    breaks_unflushed before between after text all_written wrong = breaks_here before between after text text [] (sym (append-nil text)) all_written (is_not_flushed wrong)

-- bytes that grow by one text and then by another grow by both
appends_both : (before between after : Option (List ℕ)) (one other : List ℕ) → Appends before between one → Appends between after other → Appends before after (one ++ other)
appends_both None between after one other first second = tt
appends_both (Some xs) None after one other first second = absurd first
appends_both (Some xs) (Some ys) None one other first second = absurd second
appends_both (Some xs) (Some ys) (Some zs) one other first second = second ∙ ap (λ (bytes : List ℕ). bytes ++ other) first ∙ append_assoc xs one other

-- bytes that stay afterwards have grown by the same
pub appends_kept : (before between after : Option (List ℕ)) (text : List ℕ) → Appends before between text → Keeps between after → Appends before after text
appends_kept None between after text grows stays = tt
appends_kept (Some xs) None after text grows stays = absurd grows
appends_kept (Some xs) (Some ys) None text grows stays = absurd stays
appends_kept (Some xs) (Some ys) (Some zs) text grows stays = stays ∙ grows

-- bytes that stay have grown by nothing
pub appends_nothing : (known : Option (List ℕ)) → Appends known known []
appends_nothing None = tt
appends_nothing (Some xs) = sym (append-nil xs)

-- bytes that grow by nothing stay
stay : (before after : Option (List ℕ)) → Appends before after [] → Keeps before after
stay None after grows = tt
stay (Some xs) None grows = absurd grows
stay (Some xs) (Some ys) grows = grows ∙ append-nil xs

module _ {W : Type 0} (contents : W → Option (List ℕ)) where
  -- what goes out to a writer is taken by it
  pub takes_poured : (before after : W) (text : List ℕ) → WritesAll (TakesOffered contents) before text after → Appends (contents before) (contents after) text
  takes_poured before _ _ nothing = appends_nothing (contents before)
  takes_poured before after text (more shorter bytes _ taken between _ all_written call some longer) =
      subst (λ (t : List ℕ). Appends (contents before) (contents after) t) (sym longer) (appends_both (contents before) (contents between) (contents after) shorter (take taken bytes) (takes_poured before between shorter all_written) call)

  -- a call that fails leaves it as it is
  keeps_failed : (before after : W) → Fails (TakesOffered contents) (KeepsFlushed contents) before after → Keeps (contents before) (contents after)
  keeps_failed before after (refuses bytes call) = call
  keeps_failed before after (takes_nothing bytes some call) = stay (contents before) (contents after) call
  keeps_failed before after (is_not_flushed call) = call

  -- so a writer of a text that breaks off has taken a beginning of it
  pub takes_prefix : (before after : W) (text : List ℕ) → WritesPrefix (TakesOffered contents) (KeepsFlushed contents) before text after
      → (prefix : List ℕ) × (rest : List ℕ) × (text ≡ prefix ++ rest) × Appends (contents before) (contents after) prefix
  takes_prefix before after text broken = (
    broken.prefix,
    broken.rest,
    broken.in_order,
    appends_kept (contents before) (contents broken.between) (contents after) broken.prefix
        (takes_poured before broken.between broken.prefix broken.all_written) (keeps_failed broken.between after broken.failed),
  )

  -- and one of a text that goes out has taken the whole
  pub takes_whole : (before after : W) (text : List ℕ) → Writes (TakesOffered contents) (KeepsFlushed contents) before text after → Appends (contents before) (contents after) text
  takes_whole before after text out = appends_kept (contents before) (contents out.between) (contents after) text (takes_poured before out.between text out.all_written) out.flushed
