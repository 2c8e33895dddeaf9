use Rattle.blink_store.specs.{page_of}
use Rattle.blink_rest.proofs.ComparedLevels.{named_chain, no_named_chain}
use Rattle.blink_rest.proofs.walk.named_chain_length.Goals as goal

pub returns-in-Some : goal.returns-in-Some
returns-in-Some c =
    named_chain c.args.store.now.fan (page_of c.args.store.now) c.args.level c.args.lower c.args.upper c.in-Some.count c.requires c.in-Some.ensures (c.names.ensures.0 c.if-names.true)

pub returns-in_default : goal.returns-in_default
returns-in_default c =
    no_named_chain c.args.store.now.fan (page_of c.args.store.now) c.args.level c.args.lower c.args.upper (λ names. cc (c.names.ensures.1 names, c.if-names.false))
