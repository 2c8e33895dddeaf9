use Rattle.std.proofs.Common.{◌≡◌, take, All}
use Rattle.blink_page.specs.{IsPageNumber}
use Rattle.blink_rows.proofs.primes.page_numbers.Given as goal

-- the pages that have been read are the words up to here
abbrev pub invariant-loop-word : goal.invariant-loop-word
invariant-loop-word l = record {
  read : l.pages.items ≡ take l.word-index l.words;
  numbers : All IsPageNumber l.pages.items;
}
