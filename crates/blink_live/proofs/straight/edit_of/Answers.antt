use Rattle.std.proofs.Common.{◌≡◌, ◌<◌, ◌^◌, ℕ, true, false, Option, Some, None, inl, inr, refl, sym, subst}
use Rattle.std.specs.Option.{is_some}
use Rattle.blink_batch.specs.{FitsWords}
use Rattle.blink_batch.specs.declared.Op.{Op}
use Rattle.blink_batch.specs.declared.Op.TheVariants.{Delete, DeleteExact, Exchange, Insert, Replace}
use Rattle.blink_live.specs.declared.descent.Edit.{Edit}
use Rattle.blink_live.specs.declared.descent.Edit.TheVariants.{Answers, Write}
use Rattle.blink_live.specs.declared.descent.Spot.{Spot}
use Rattle.blink_live.specs.Straight.{IsEditOf, exchange_of, removal_of}
use Rattle.blink_live.proofs.changed.EditsOfLeaves.{deletes_none, finds_other, removes, replaces_none, swaps}
use Rattle.blink_live.proofs.straight.edit_of.Goals as goal

-- the same of an operation and an edit that are known by other names
edits : (op other : Op) (fan : ℕ) (spot : Spot) (edit then : Edit) → op ≡ other → edit ≡ then → IsEditOf other fan spot then → IsEditOf op fan spot edit
edits op other fan spot edit then same_op same is = subst (λ (x : Op × Edit). IsEditOf x.0 fan spot x.1) (λ i. (sym same_op i, sym same i)) is

none_there : (kept : Option ℕ) → is_some kept ≡ false → kept ≡ None
none_there None none = refl
none_there (Some kept) none = absurd (cc)

-- what a deletion makes of a key that is there, and what a replacement
deletes : (fan key : ℕ) (spot : Spot) (kept : Option ℕ) → spot.kept ≡ kept → is_some kept ≡ true → IsEditOf (Delete key) fan spot (Write spot (removal_of key))
deletes fan key spot None is some = absurd (cc)
deletes fan key spot (Some kept) is some = removes (Delete key) fan key kept spot refl (inl refl) is

replaces : (fan key pointer : ℕ) (spot : Spot) (kept : Option ℕ) → pointer < 2 ^ 64 → spot.kept ≡ kept → is_some kept ≡ true → IsEditOf (Replace key pointer) fan spot (Write spot (exchange_of key pointer))
replaces fan key pointer spot None small is some = absurd (cc)
replaces fan key pointer spot (Some kept) small is some = swaps (Replace key pointer) fan key pointer kept spot small refl (inl refl) is

pub returns-in-Insert : goal.returns-in-Insert
returns-in-Insert c = edits c.args.op (Insert c.in-Insert.key c.in-Insert.pointer) c.args.fan c.args.spot c.insertion_of.result c.insertion_of.result c.in-Insert.is refl c.insertion_of.ensures

pub returns-then-is_none : goal.returns-then-is_none
returns-then-is_none c = edits c.args.op (Delete c.in-Delete.key) c.args.fan c.args.spot (Answers None) (Answers None) c.in-Delete.is refl
    (deletes_none c.args.fan c.in-Delete.key c.args.spot (none_there c.args.spot.kept c.if-is_none.ensures))

pub returns-else-is_none : goal.returns-else-is_none
returns-else-is_none c = edits c.args.op (Delete c.in-Delete.key) c.args.fan c.args.spot c.removal.result (Write c.args.spot (removal_of c.in-Delete.key)) c.in-Delete.is c.removal.ensures
    (deletes c.args.fan c.in-Delete.key c.args.spot c.args.spot.kept refl c.if-is_none.ensures)

pub returns-then-is_none-2 : goal.returns-then-is_none-2
returns-then-is_none-2 c = edits c.args.op (Replace c.in-Replace.key c.in-Replace.pointer) c.args.fan c.args.spot (Answers None) (Answers None) c.in-Replace.is refl
    (replaces_none c.args.fan c.in-Replace.key c.in-Replace.pointer c.args.spot (none_there c.args.spot.kept c.if-is_none-2.ensures))

pub returns-else-is_none-2 : goal.returns-else-is_none-2
returns-else-is_none-2 c = edits c.args.op (Replace c.in-Replace.key c.in-Replace.pointer) c.args.fan c.args.spot c.exchange.result (Write c.args.spot (exchange_of c.in-Replace.key c.in-Replace.pointer)) c.in-Replace.is c.exchange.ensures
    (replaces c.args.fan c.in-Replace.key c.in-Replace.pointer c.args.spot c.args.spot.kept (subst FitsWords c.in-Replace.is c.requires.fits).1 refl c.if-is_none-2.ensures)

pub returns-then-not-has : goal.returns-then-not-has
returns-then-not-has c =
    let key = c.in-Exchange.key in
    let expected = c.in-Exchange.expected in
    let pointer = c.in-Exchange.pointer in
    edits c.args.op (Exchange key expected pointer) c.args.fan c.args.spot (Answers c.args.spot.kept) (Answers c.args.spot.kept) c.in-Exchange.is refl
    (finds_other (Exchange key expected pointer) c.args.fan key expected c.args.spot.kept c.args.spot refl (inl (pointer, refl)) refl (λ same. absurd (let t = c.has.ensures.1 same in let f = c.if-not-has.true in cc)))

pub returns-else-not-has : goal.returns-else-not-has
returns-else-not-has c =
    let key = c.in-Exchange.key in
    let expected = c.in-Exchange.expected in
    let pointer = c.in-Exchange.pointer in
    edits c.args.op (Exchange key expected pointer) c.args.fan c.args.spot c.exchange-in-Exchange.result (Write c.args.spot (exchange_of key pointer)) c.in-Exchange.is c.exchange-in-Exchange.ensures
    (swaps (Exchange key expected pointer) c.args.fan key pointer expected c.args.spot (subst FitsWords c.in-Exchange.is c.requires.fits).1 refl (inr refl) (c.has.ensures.0 c.if-not-has.false))

pub returns-then-not-has-2 : goal.returns-then-not-has-2
returns-then-not-has-2 c =
    let key = c.in-DeleteExact.key in
    let expected = c.in-DeleteExact.expected in
    edits c.args.op (DeleteExact key expected) c.args.fan c.args.spot (Answers c.args.spot.kept) (Answers c.args.spot.kept) c.in-DeleteExact.is refl
    (finds_other (DeleteExact key expected) c.args.fan key expected c.args.spot.kept c.args.spot refl (inr refl) refl (λ same. absurd (let t = c.has-in-DeleteExact.ensures.1 same in let f = c.if-not-has-2.true in cc)))

pub returns-else-not-has-2 : goal.returns-else-not-has-2
returns-else-not-has-2 c =
    let key = c.in-DeleteExact.key in
    let expected = c.in-DeleteExact.expected in
    edits c.args.op (DeleteExact key expected) c.args.fan c.args.spot c.removal-in-DeleteExact.result (Write c.args.spot (removal_of key)) c.in-DeleteExact.is c.removal-in-DeleteExact.ensures
    (removes (DeleteExact key expected) c.args.fan key expected c.args.spot refl (inr refl) (c.has-in-DeleteExact.ensures.0 c.if-not-has-2.false))
