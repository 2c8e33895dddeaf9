use Rattle.std.proofs.Common.{◌≡◌, ℕ, ◌<◌, ◌≤◌, List, length, Bool, true, false, ap, sym, ◌∙◌, subst, arith}
use Rattle.std.specs.Bool.{OnTrue, OnFalse}
use Rattle.std.proofs.lemmas.Bool.{OnTrue_at, OnTrue_from}
use Rattle.blink_page.specs.declared.limits.TheConstants.{LEVELS}
use Rattle.blink_rows.specs.{IsPrimeRow, PlainCounts, row_in}
use Rattle.blink_rows.proofs.Offered.{row_has_one_prime}
use Rattle.blink_machine.specs.{PlainMachine, SeesPrime, WaitsForLevel}
use Rattle.blink_live.specs.AtomicSteps.{AsksPrime, LoadsPrime}
use Rattle.blink_live.specs.Seats.{ReadsPrime}
use Rattle.blink_live.specs.Views.{SeatState}
use Rattle.blink_live.proofs.found.ReadsPrime.{reads_prime_word}
use Rattle.blink_live.proofs.live.Live.read_prime.Goals as goal

pub load-word-requires : goal.load-word-requires
load-word-requires c = (
  c.requires.seat.same_table,
  omega (arith, c.args.self.now.width, c.args.self.now.some_number),
  reads_prime_word _ _ _ _ c.args.machine.now c.requires.seat.role c.requires.at c.requires.fits c.requires.needs
      (subst (λ (counts : PlainCounts). 1 ≤ counts.numbers) c.args.self.now.counts_are c.args.self.now.some_number) c.requires.announced,
)

-- what the load tells, of the row that the word names
told : {m : PlainMachine} {row : ℕ} {me then : SeatState} (word : ℕ) → row ≡ row_in word → (machine : PlainMachine) × LoadsPrime m me (row_in word) machine then → (machine : PlainMachine) × LoadsPrime m me row machine then
told {m} {row} {me} {then} word is loads = subst (λ (r : ℕ). (machine : PlainMachine) × LoadsPrime m me r machine then) (sym is) loads

-- the prime block that the row's words tell is the one that the page word's load told
same_prime : (m : PlainMachine) (row : ℕ) (me : SeatState) (machine : PlainMachine) (then : SeatState) (prime words : List ℕ) (loads : LoadsPrime m me row machine then)
    → ((told : List ℕ) → ReadsPrime then row told → IsPrimeRow told words) → IsPrimeRow prime words → loads.prime ≡ prime
same_prime m row me machine then prime words loads read is =
    let few = loads.few_levels in
    row_has_one_prime loads.prime prime words (omega (arith, few)) (read loads.prime (record { reads = ap (λ (x : SeatState). x.0.reads) loads.is; few_levels = few })) is

pub saw_prime-requires-clause-few_levels : goal.saw_prime-requires-clause-few_levels
saw_prime-requires-clause-few_levels c =
    let loads = (told c.load-word.result c.row_in-row.ensures.row (c.load-word.ensures.2 c.args.machine.now c.requires.at c.requires.needs)).1 in
    subst (λ (prime : List ℕ). length prime < LEVELS) (same_prime _ _ _ _ _ _ _ loads c.prime_words-words.ensures.words c.in-Some.ensures.prime) loads.few_levels

-- what the operation made of the prime block is what the load told, whether it moved or waits
same_machine : (m : PlainMachine) (prime : List ℕ) (machine after : PlainMachine) (moved : Bool) → AsksPrime m prime machine
    → OnTrue moved (SeesPrime m prime after) → OnFalse moved (WaitsForLevel m prime) → OnFalse moved (after ≡ m) → after ≡ machine
same_machine m prime machine after true (AsksPrime.moves sees only goes) saw waited stayed = only after saw
same_machine m prime machine after false (AsksPrime.moves sees only goes) saw waited stayed = absurd (goes waited)
same_machine m prime machine after true (AsksPrime.waits waits never is) saw waited stayed = absurd (never after saw)
same_machine m prime machine after false (AsksPrime.waits waits never is) saw waited stayed = stayed ∙ sym is

pub returns-clause-read : goal.returns-clause-read
returns-clause-read c =
    let m : PlainMachine = c.args.machine.now in
    let me : SeatState = c.args.seat.now.me in
    let row = c.row_in-row.result in
    let after : PlainMachine = c.saw_prime.new.self in
    let loads = told c.load-word.result c.row_in-row.ensures.row (c.load-word.ensures.2 m c.requires.at c.requires.needs) in
    let prime_is = same_prime _ _ _ _ _ _ _ loads.1 c.prime_words-words.ensures.words c.in-Some.ensures.prime in
    let same : after ≡ loads.0 = same_machine m c.in-Some.prime loads.0 after c.saw_prime.result
    (subst (λ (prime : List ℕ). AsksPrime m prime loads.0) prime_is loads.1.asks) c.saw_prime.ensures.moved c.saw_prime.ensures.waits c.saw_prime.ensures.unchanged in
    (row, subst (λ (x : PlainMachine × SeatState). LoadsPrime m me row x.0 x.1) (λ i. (sym same i, sym c.prime_words-words.ensures.same.2 i)) loads.1)

pub returns-clause-moved : goal.returns-clause-moved
returns-clause-moved c = OnTrue_from c.saw_prime.result _ (λ saw. (c.in-Some.prime, OnTrue_at saw c.saw_prime.ensures.moved))
