use Rattle.std.proofs.lemmas.Bool.Decides.{nat_tests}
use Rattle.std.proofs.Common.{arith}
use Rattle.blink_live.proofs.dealt.KeyIsFound.{none_there, tells}
use Rattle.blink_live.proofs.dealt.KeysInOrder.{sorted_from_rising}
use Rattle.blink_live.proofs.keys.is_among.Goals as goal

pub place_of_key-place-requires : goal.place_of_key-place-requires
place_of_key-place-requires c = record { ascending = sorted_from_rising c.args.keys.now c.requires.ascending }

pub returns-then-place-keys : goal.returns-then-place-keys
returns-then-place-keys c = tells c.args.keys.now c.args.key (sorted_from_rising c.args.keys.now c.requires.ascending) c.place_of_key-place.result c.if-place-keys.true c.place_of_key-place.ensures

pub returns-else-place-keys : goal.returns-else-place-keys
returns-else-place-keys c =
    let outside = c.if-place-keys.false in
    let ordered = sorted_from_rising c.args.keys.now c.requires.ascending in
    (λ less. absurd (grind (arith, nat_tests, outside, less)), λ there. absurd (none_there c.args.keys.now c.args.key ordered c.place_of_key-place.result outside c.place_of_key-place.ensures there))
