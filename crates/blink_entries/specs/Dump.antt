-- The text of a tree at rest: a line for each page, the top level first, and each level from the left.
use Rattle.std.specs.Prelude.{ℕ, Option, Some, None, List, [], ◌∷◌, ◌++◌, codes}
use Rattle.std.specs.List.{flat_map}
use Rattle.std.specs.Fmt.{decimal}
use Rattle.blink_rest.specs.Chain.{Cell}
use Rattle.blink_store.specs.{PlainStore}
use Rattle.blink_entries.specs.Index.{levels_of}

-- a number, or a dash for a missing one
abbrev pub words_of : Option ℕ → List ℕ
words_of None = codes "-"
words_of (Some number) = decimal number

-- an entry, after the space before it
abbrev pub entry_text : ℕ × ℕ → List ℕ
entry_text entry = codes " " ++ (decimal entry.0 ++ (codes ":" ++ decimal entry.1))

-- a page: its level, its number, its floor, its high key and its right link, with a space between each two
abbrev pub page_text : Cell → List ℕ
page_text c =
    decimal c.page.level ++ (codes " " ++ (decimal c.number ++ (codes " " ++ (words_of c.page.floor ++ (codes " " ++ (decimal c.page.high ++ (codes " " ++ words_of c.page.right)))))))

-- the line of a page: the page, its entries and a line feed
abbrev pub line_of : Cell → List ℕ
line_of c = page_text c ++ (flat_map entry_text c.page.entries ++ codes "\n")

-- the lines of a level
abbrev pub level_text : List Cell → List ℕ
level_text cells = flat_map line_of cells

-- the lines of levels: those of the first after those of the levels above it
abbrev pub text_of : List (List Cell) → List ℕ
text_of [] = []
text_of (cells ∷ above) = text_of above ++ level_text cells

-- the lines of a store's levels
abbrev pub text_of_store : PlainStore → List ℕ
text_of_store store = text_of (levels_of store)
