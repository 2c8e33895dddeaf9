-- The words of an operation under way: its state, in the words of the machine's table, the pages that it remembers, and its job.
use Rattle.std.specs.Prelude.{ℕ, List, [], ◌∷◌, ◌++◌, codes}
use Rattle.std.specs.List.{flat_map}
use Rattle.std.specs.Fmt.{decimal}
use Rattle.blink_batch.specs.declared.Op.{Op}
use Rattle.blink_batch.specs.declared.Op.TheVariants.{Find, Insert, Delete, Replace, Exchange, DeleteExact}
use Rattle.blink_machine.specs.declared.Job.{Job}
use Rattle.blink_machine.specs.declared.Job.TheVariants.{Leaf, Parent}
use Rattle.blink_machine.specs.declared.Next.{Next}
use Rattle.blink_machine.specs.declared.Next.TheVariants.{Finish, MoveRight, Post}
use Rattle.blink_machine.specs.declared.State.{State}
use Rattle.blink_machine.specs.declared.State.TheVariants.{Start, Going, Want, Held, Change, SplitNew, SplitOld, AskPrime, Root, NewPrime, Leave, Posting, Ended}

-- where the operation goes from a page that it leaves
abbrev pub words_of_next : Next → List ℕ
words_of_next Finish = codes " and ends"
words_of_next (MoveRight page) = codes " for " ++ decimal page
words_of_next (Post debt) = codes " to post"

-- the state of the operation
abbrev pub words_of_state : State → List ℕ
words_of_state Start = codes "begins"
words_of_state (Going page level) = codes "going down, page " ++ decimal page
words_of_state (Want page) = codes "wants " ++ decimal page
words_of_state (Held page) = codes "holds " ++ decimal page
words_of_state (Change page changed kept) = codes "change, holds " ++ decimal page
words_of_state (SplitNew page before) = codes "new page of a split, holds " ++ decimal page
words_of_state (SplitOld page lower debt) = codes "old page of a split, holds " ++ decimal page
words_of_state (AskPrime page debt) = codes "asks the prime block, holds " ++ decimal page
words_of_state (Root page debt prime) = codes "new root, holds " ++ decimal page
words_of_state (NewPrime page debt root prime) = codes "names the root, holds " ++ decimal page
words_of_state (Leave page next) = codes "leaves " ++ (decimal page ++ words_of_next next)
words_of_state Posting = codes "posting, no page remembered"
words_of_state Ended = codes "ended"

-- the job: a dash for the operation's own key, or the level, the separator and the new page that it posts
abbrev pub words_of_job : Job → List ℕ
words_of_job Leaf = codes "-"
words_of_job (Parent debt) = decimal debt.level ++ (codes ":" ++ (decimal debt.separator ++ (codes ":" ++ decimal debt.page)))

-- a page number, after the dot before it
abbrev pub after_dot : ℕ → List ℕ
after_dot page = codes "." ++ decimal page

-- pages with a dot between each two, or a dash if there are no pages
abbrev pub dotted : List ℕ → List ℕ
dotted [] = codes "-"
dotted (page ∷ pages) = decimal page ++ flat_map after_dot pages

-- an operation, spelled as in a script, except for spaces; no script has an exchange or a deletion of an expected pointer
abbrev pub words_of_op : Op → List ℕ
words_of_op (Find key) = codes "find " ++ decimal key
words_of_op (Insert key pointer) = codes "insert " ++ (decimal key ++ (codes " " ++ decimal pointer))
words_of_op (Delete key) = codes "delete " ++ decimal key
words_of_op (Replace key pointer) = codes "replace " ++ (decimal key ++ (codes " " ++ decimal pointer))
words_of_op (Exchange key expected pointer) = codes "exchange " ++ (decimal key ++ (codes " " ++ (decimal expected ++ (codes " " ++ decimal pointer))))
words_of_op (DeleteExact key expected) = codes "delete_exact " ++ (decimal key ++ (codes " " ++ decimal expected))
