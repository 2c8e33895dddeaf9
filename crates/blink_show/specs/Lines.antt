-- The lines of a run between two turns: the prime block, each worker, and each page, in this order.
use Rattle.std.specs.Prelude.{ℕ, Option, Some, None, List, [], ◌∷◌, ◌++◌, codes, length, map, reverse, slice_get}
use Rattle.std.specs.List.{flat_map, range_with_len}
use Rattle.std.specs.Fmt.{decimal}
use Rattle.blink_batch.specs.declared.Answer.{Answer}
use Rattle.blink_batch.specs.Text as answer
use Rattle.blink_index.specs.{entry_text, words_of}
use Rattle.blink_page.specs.{PlainPage}
use Rattle.blink_store.specs.{holder_of, page_of}
use Rattle.blink_steps.specs.declared.Working.{Working}
use Rattle.blink_steps.specs.{PlainShared, PlainRun, working_of}
use Rattle.blink_show.specs.Words.{dotted, words_of_job, words_of_state}

-- a number, after the space before it
abbrev pub after_space : ℕ → List ℕ
after_space number = codes " " ++ decimal number

-- the leftmost page of each level, level 0 first
abbrev pub prime_line : List ℕ → List ℕ
prime_line leftmost = codes "prime" ++ (flat_map after_space leftmost ++ codes "\n")

-- what a worker has under way: the operation's place in the batch, the pages that it remembers, the top level first, its job,
-- and its state; an idle worker has a dash
abbrev pub words_of_working : Option Working → List ℕ
words_of_working None = codes "-"
words_of_working (Some working) =
    decimal working.place
    ++ (codes " " ++ (dotted (reverse working.machine.remembered) ++ (codes " " ++ (words_of_job working.machine.job ++ (codes " " ++ words_of_state working.machine.state)))))

abbrev pub worker_line : ℕ → Option Working → List ℕ
worker_line worker working = codes "worker " ++ (decimal worker ++ (codes " " ++ (words_of_working working ++ codes "\n")))

-- a page itself: its level, floor, high key and right link
abbrev pub words_of_page : PlainPage → List ℕ
words_of_page page =
    decimal page.level ++ (codes " " ++ (words_of page.floor ++ (codes " " ++ (decimal page.high ++ (codes " " ++ words_of page.right)))))

-- a page's number, the holder of its latch, the page itself, and its entries
abbrev pub line_of_page : ℕ → Option ℕ → PlainPage → List ℕ
line_of_page number holder page =
    codes "page " ++ (decimal number ++ (codes " " ++ (words_of holder ++ (codes " " ++ (words_of_page page ++ (flat_map entry_text page.entries ++ codes "\n"))))))

abbrev pub page_line : ℕ → Option ℕ → Option PlainPage → List ℕ
page_line number holder None = []
page_line number holder (Some page) = line_of_page number holder page

-- the line of a worker of a run, and of a page
abbrev pub line_of_worker : PlainRun → ℕ → List ℕ
line_of_worker run worker = worker_line worker (working_of (slice_get run.seats worker))

abbrev pub line_of_number : PlainShared → ℕ → List ℕ
line_of_number shared number = page_line number (holder_of shared.latches number) (page_of shared.store number)

-- the prime block, the workers from 0 on, and the pages from 1 on
abbrev pub lines_of : PlainRun → List (List ℕ)
lines_of run =
    prime_line run.shared.store.prime
    ∷ (map (line_of_worker run) (range_with_len 0 run.assignment.workers) ++ map (line_of_number run.shared) (range_with_len 1 (length run.shared.store.pages)))

-- the answer of an operation
abbrev pub words_of_answer : Option (Option Answer) → List ℕ
words_of_answer (Some (Some given)) = answer.words_of given
words_of_answer (Some None) = codes "-"
words_of_answer None = codes "-"

-- an operation that has decided: its place in the batch, and its answer
abbrev pub decided_line : List (Option Answer) → ℕ → List ℕ
decided_line answers place = codes "decided " ++ (decimal place ++ (codes " " ++ (words_of_answer (slice_get answers place) ++ codes "\n")))
