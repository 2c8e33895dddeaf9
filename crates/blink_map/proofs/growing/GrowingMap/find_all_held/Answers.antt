use Rattle.std.proofs.Common.{◌≡◌, ℕ, ◌<◌, List, get_or, refl, sym, ◌∙◌, subst}
use Rattle.std.specs.Prelude.{◌^◌}
use mathlib.Core.Option.{some, some-injective}
use lib.ListN.{get_elem?}
use Rattle.blink_generation.specs.declared.map.Map.{Map}
use Rattle.blink_generation.specs.{AnswersAsSeen, opening_of, seen_by}
use Rattle.blink_map.proofs.Basics.{in_list, some_or}
use Rattle.blink_map.proofs.HeldSessions.{answers_as_seen_whole, held_again, knows_more}
use Rattle.blink_map.proofs.growing.GrowingMap.find_all_held.Goals as goal

pub invariant_of-held : goal.invariant_of-held
invariant_of-held c =
    let old = c.args.held.now in
    let same = c.find_all.ensures.same in
    record { held = held_again old.slot old.seat.me old.current old.held c.find_all.new.session same.saw same.same_member same.made; in_range = old.in_range; all_slots = old.all_slots }

fits : (keys : List ℕ) → ((k : ℕ) → get_or keys k 0 < 2 ^ 64) → (k key : ℕ) → get_elem? keys k ≡ some key → key < 2 ^ 64
fits keys all k key there = subst (λ (n : ℕ). n < 2 ^ 64) (some-injective (get_or keys k 0) key (sym (some_or keys k 0 (in_list keys k key there)) ∙ there)) (all k)

pub returns-clause-answers : goal.returns-clause-answers
returns-clause-answers c =
    let old = c.args.held.now in
    let session = c.find_all.new.session in
    let told = subst (λ (m : Map). AnswersAsSeen (opening_of m) (seen_by old.current.session) c.args.keys.now c.find_all.new.answers (seen_by session)) c.deref.ensures c.find_all.ensures.answers in
    answers_as_seen_whole old.slot old.seat.me old.current old.held session _ c.requires.its_own.same_first (seen_by old.current.session) c.args.keys.now c.find_all.new.answers (seen_by session) (fits c.args.keys.now (λ k. (c.type_inv.keys k).fits)) told

pub returns-clause-same : goal.returns-clause-same
returns-clause-same c =
    let old = c.args.held.now in
    let same = c.find_all.ensures.same in
    record { same_place = record { same_table = refl; same_first = refl; same_place = refl }; knows = knows_more old.slot old.seat.me old.current old.held c.find_all.new.session same.saw same.made }
