use Rattle.std.proofs.Common.{take}
use Rattle.blink_store.specs.{page_of}
use Rattle.blink_rest.specs.Walk.{NamesFirst}
use Rattle.blink_rest.proofs.walk.link_after_named.Given as goal

-- the entries so far name the first pages
abbrev pub invariant-loop-separator : goal.invariant-loop-separator
invariant-loop-separator l = NamesFirst l.store.fan (page_of l.store) (take l.separator-index l.entries) l.fn.first l.below
