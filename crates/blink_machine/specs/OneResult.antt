-- What an operation makes of what it reads is determined.
use Rattle.std.specs.Prelude.{◌≡◌, ℕ, Option, List}
use Rattle.blink_page.specs.{PlainPage}
use Rattle.blink_machine.specs.Machine.{PlainMachine}
use Rattle.blink_machine.specs.Table.{SeesPrime, SeesPage, IsChange}

-- the prime block that an operation reads determines its next state
abbrev pub OneResultOfPrime : Type 0
OneResultOfPrime = (m after other : PlainMachine) (prime : List ℕ) → SeesPrime m prime after → SeesPrime m prime other → after ≡ other

-- so does a page
abbrev pub OneResultOfPage : Type 0
OneResultOfPage = (m after other : PlainMachine) (number : ℕ) (page : PlainPage) → SeesPage m number page after → SeesPage m number page other → after ≡ other

-- an operation's change of a page is determined too
abbrev pub OneChange : Type 0
OneChange = (m : PlainMachine) (page changed also : PlainPage) (kept and : Option ℕ) → IsChange m page changed kept → IsChange m page also and
    → (changed ≡ also) × (kept ≡ and)
