-- What a seat adds to the row of a page, and the page word that counts it.
use Rattle.std.specs.Prelude.{◌≡◌, ℕ, ◌<◌, Some, List, ◌++◌, length}
use Rattle.blink_page.specs.{PlainPage}
use Rattle.blink_rows.specs.{page_words, records_in, row_in}
use Rattle.blink_live.specs.declared.view.Appending.{Appending}
use Rattle.blink_live.specs.Views.{SeatState}
use Rattle.blink_live.specs.Words.{IsVersion}

-- the seat may add a word at this place of the row: the place behind all that it knows of the row
pub record IsNextWord (row place : ℕ) (me : SeatState) : Type 0 where
  pub a : Appending
  pub content : List ℕ
  pub appends : me.0.appends ≡ Some a
  pub reads : me.0.reads ≡ Some (row, content)
  pub same_row : row_in a.word ≡ row
  pub next : place ≡ length ((content ++ me.0.behind) ++ a.words)

-- this page word counts what the seat has added to the row of the page of this number, which becomes this page by that
pub record CountsAdded (number word : ℕ) (me : SeatState) (page : PlainPage) : Type 0 where
  pub a : Appending
  pub base : PlainPage
  pub appends : me.0.appends ≡ Some a
  pub same_number : a.number ≡ number
  pub reads : me.0.reads ≡ Some (row_in a.word, page_words base)
  pub same_row : row_in word ≡ row_in a.word
  pub more : (records_in a.word).count < (records_in word).count
  pub version : IsVersion word base (me.0.behind ++ a.words) page
