use Rattle.std.proofs.Common.{◌≡◌, ◌++◌, take, string_bytes}
use Rattle.std.specs.List.{flat_map}
use Rattle.blink_show.specs.Words.{after_dot}
use Rattle.blink_show.proofs.words.push_dotted.Given as goal

-- the pages so far were added
abbrev pub invariant-loop-page : goal.invariant-loop-page
invariant-loop-page l = string_bytes l.text ≡ string_bytes l.initial.text ++ flat_map after_dot (take l.page-index l.others)
