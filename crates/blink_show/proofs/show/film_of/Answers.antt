use Rattle.std.proofs.Common.{◌≡◌, ◌++◌, ◌∙◌, List, ℕ, ap, subst, string_bytes}
use Rattle.blink_store.specs.{PlainStore}
use Rattle.blink_show.specs.Show.{ShowsParts, sizes_text}
use Rattle.blink_show.specs.AskedTurns.{ShowsAsked}
use Rattle.blink_show.proofs.show.film_of.Goals as goal

-- the frames stand behind the sizes
pub returns-clause-shown : goal.returns-clause-shown
returns-clause-shown c =
    let settings = c.args.asked.settings.now in
    let adds = c.in_ok-show_parts.ensures.shown in
    let sizes : string_bytes c.push_sizes.new.text ≡ sizes_text settings.workers settings.fan
    = c.in_ok-push_sizes.ensures ∙ ap (λ (old : List ℕ). old ++ sizes_text settings.workers settings.fan) c.new-film.ensures in (
      adds.0,
      subst (λ (start : PlainStore). ShowsParts settings.workers (ShowsAsked c.args.asked.turns) start c.args.parts.items adds.0) c.in_ok-index.ensures.index adds.1,
      adds.2 ∙ ap (λ (before : List ℕ). before ++ adds.0) sizes,
    )
