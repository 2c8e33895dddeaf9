-- What a seat has noted for a snapshot stays so: rows stay published, leaves stay in their chain, and no page word comes to name a row
-- that was published before.
use Rattle.std.proofs.Common.{◌≡◌, ℕ, ◌<◌, ◌≤◌, List, sym, ◌∙◌, arith}
use Rattle.std.specs.Prelude.{Contains, slice_index}
use Rattle.blink_rest.specs.{Pages}
use Rattle.blink_rows.specs.{row_in}
use Rattle.blink_live.specs.declared.view.Look.{Look}
use Rattle.blink_live.specs.declared.view.Plan.{Plan}
use Rattle.blink_live.specs.Looks.{HasLooked, IsLeafInChain, IsSince}
use Rattle.blink_live.specs.Views.{no_look}
use Rattle.blink_live.specs.Words.{IsRowNumber}

pub none_noted : (number word : ℕ) → ¬ Contains no_look.leaves (number, word)
none_noted number word has = let inside = has.1 in omega (arith, inside)

pub nothing_noted : (plan : Plan) (whose : ℕ → ℕ) (words : List ℕ) (fan : ℕ) (prime : List ℕ) (pages : Pages) → HasLooked plan whose words fan prime pages no_look
nothing_noted plan whose words fan prime pages number word has = absurd (none_noted number word has)

pub looks_stay : (plan : Plan) (whose new : ℕ → ℕ) (words then : List ℕ) (fan later_fan : ℕ) (prime later_prime : List ℕ) (pages later_pages : Pages) (look : Look)
    → ((number word : ℕ) → Contains look.leaves (number, word) → IsRowNumber plan.counts (row_in word) → whose (row_in word) ≡ 0 → new (row_in word) ≡ 0)
    → ((number : ℕ) → IsLeafInChain fan prime pages number → IsLeafInChain later_fan later_prime later_pages number)
    → ((number word : ℕ) → 1 ≤ number → number < plan.counts.numbers → whose (row_in word) ≡ 0 → IsSince word (slice_index words number)
    → IsSince word (slice_index then number) × (slice_index then number ≡ word → (slice_index words number ≡ word) × (later_pages number ≡ pages number)))
    → HasLooked plan whose words fan prime pages look → HasLooked plan new then later_fan later_prime later_pages look
looks_stay plan whose new words then fan later_fan prime later_prime pages later_pages look published leaves named looked number word has =
    let was = looked number word has in
    let now = named number word was.in_range.0 was.in_range.1 was.unowned was.since in record {
      in_range = was.in_range;
      row_in_range = was.row_in_range;
      unowned = published number word has was.row_in_range was.unowned;
      since = now.0;
      in_chain = leaves number was.in_chain;
      tells = λ changes marked is leaf there.
          let before = now.1 is in
          was.tells changes marked before.0 leaf (sym before.1 ∙ there);
    }
