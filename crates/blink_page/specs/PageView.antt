-- A `Page` as a contract sees it.
use Rattle.blink_page.specs.Page.{PlainPage}
use Rattle.blink_page.specs.declared.page.Page.TheInside.{Inside}

-- the page as plain data
abbrev pub plain : Inside → PlainPage
plain page = record {
  level = page.level;
  floor = page.floor;
  high = page.high;
  right = page.right;
  entries = page.items.items;
}

-- the fields of a page
abbrev pub inside_of : PlainPage → Inside
inside_of page = record {
  level = page.level;
  floor = page.floor;
  high = page.high;
  right = page.right;
  items = record { items = page.entries };
}
