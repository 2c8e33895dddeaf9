-- The text of answers: a line for each.
use Rattle.std.specs.Prelude.{ℕ, List, [], ◌∷◌, ◌++◌, codes}
use Rattle.std.specs.List.{flat_map}
use Rattle.std.specs.Fmt.{decimal}
use Rattle.blink_operation.specs.declared.operation.Answer.{Answer}
use Rattle.blink_operation.specs.declared.operation.Answer.TheVariants.{Found, Absent, Inserted, Exists, Removed, Replaced}

-- the words of an answer
abbrev pub words_of : Answer → List ℕ
words_of (Found pointer) = codes "found " ++ decimal pointer
words_of Absent = codes "absent"
words_of Inserted = codes "inserted"
words_of (Exists pointer) = codes "exists " ++ decimal pointer
words_of (Removed pointer) = codes "removed " ++ decimal pointer
words_of (Replaced pointer) = codes "replaced " ++ decimal pointer

-- each line ends with one line feed
abbrev pub line_of : Answer → List ℕ
line_of answer = words_of answer ++ 10 ∷ []

-- one line an answer, in their order
abbrev pub text_of : List Answer → List ℕ
text_of answers = flat_map line_of answers
