-- The pages so far are the first of the store's, and there is room for the rest.
use Rattle.std.proofs.Common.{◌≡◌, ◌≤◌, length, take, vec_len, vec_capacity}
use Rattle.blink_store.proofs.store.Store.copy.Given as goal

abbrev pub invariant-loop-page : goal.invariant-loop-page
invariant-loop-page l = record {
  first_pages : l.pages.items ≡ take l.page-index l.self.pages;
  room : length l.self.pages ≤ vec_capacity l.pages;
  as_many : vec_len l.pages ≡ l.page-index;
}
