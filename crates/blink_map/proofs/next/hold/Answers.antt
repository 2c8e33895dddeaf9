use Rattle.std.proofs.Common.{◌≡◌, ℕ, ◌+◌, List, [], ◌∷◌, ◌++◌, length, length-append, sym, ap, ◌∙◌, subst, arith}
use Rattle.std.specs.Prelude.{reverse}
use Rattle.std.specs.Arc.{arc_value}
use Rattle.std.proofs.lemmas.List.{reverse-reverse}
use Rattle.blink_generation.specs.declared.map.Map.{Map}
use Rattle.blink_generation.specs.declared.map.Session.{Session as MapSession}
use Rattle.blink_map.specs.declared.slots.Current.{Current}
use Rattle.blink_map.specs.Laid.{AreOthersIn, IsFirst, IsFirstIn, slot_behind}
use Rattle.blink_map.proofs.Opens.{AreFirstBehind, all_but_one, first_behind_popped, none_held, one_more_held, popped_behind, the_one}
use Rattle.blink_map.proofs.next.hold.Goals as goal

held_first : (map : Map) (place : ℕ) (session : MapSession) (held : Current) → arc_value held.map ≡ map → held.session ≡ session → held.changes ≡ 0 → IsFirst map place session → IsFirstIn map place held
held_first map place session held same is none first = record { same_map = same; first = subst (IsFirst map place) (sym is) first; none_counted = none }

pub loop-session-init : goal.loop-session-init
loop-session-init c =
    let map : Map = arc_value c.args.map.now in
    let copier = c.args.copier in
    let others : List MapSession = c.remove-first.new.self.items in
    let turned : List MapSession = c.reverse.new.self.items in
    let none = c.in_ok-others.ensures.items in
    let none_long : length c.in_ok-others.others.items ≡ 0 = ap (λ (l : List Current). length l) none in
    let back : reverse turned ≡ others = ap (λ (l : List MapSession). reverse l) c.reverse.ensures.items ∙ reverse-reverse others in
    let those = all_but_one map copier c.args.sessions.items others c.requires.in_range c.remove-first.ensures.by_index.2 c.requires.first in
    let inside = c.requires.in_range in
    let all = c.args.sessions.ok in
    let one_less = c.remove-first.ensures.len in
    let rest = c.remove-first.new.self.ok in
    let as_long = c.reverse.ensures.len in
    let now = c.reverse.new.self.ok in
    let count = c.len.ensures in
    let room = c.in_ok-others.ensures.capacity in
    record {
      first = subst (λ (n : ℕ). AreFirstBehind map copier n (reverse turned)) (sym none_long) (subst (AreFirstBehind map copier 0) (sym back) those);
      held = subst (AreOthersIn map copier) (sym none) (none_held map copier);
      width = omega (arith, none_long, inside, all, one_less, rest, as_long, now);
      room = omega (arith, none_long, rest, as_long, now, count, room);
    }

pub loop-session-preserved : goal.loop-session-preserved
loop-session-preserved c =
    let map : Map = arc_value c.args.map.now in
    let copier = c.args.copier in
    let old : List MapSession = c.loop-session.sessions.items in
    let new : List MapSession = c.pop.new.self.items in
    let others : List Current = c.loop-session.others.items in
    let session : MapSession = c.in-Some.session in
    let held : Current = c.in_ok-held.held in
    let popped : old ≡ new ++ session ∷ [] = c.in-Some.ensures.items in
    let invariant = c.loop-session.invariant in
    let its = popped_behind map copier (length others) old new session popped invariant.first in
    let in_slot = held_first map (slot_behind copier (length others)) session held c.in_ok-held.ensures.map c.in_ok-held.ensures.session c.in_ok-held.ensures.none_counted its in
    let is = c.push_reserved.ensures.items in
    let longer = ap (λ (l : List Current). length l) is in
    let one_more = length-append others (held ∷ []) in
    let next : length c.push_reserved.new.self.items ≡ length others + 1 = omega (arith, longer, one_more) in
    let shorter = ap (λ (l : List MapSession). length l) popped in
    let one_less = length-append new (session ∷ []) in
    let width = invariant.width in
    let room = invariant.room in
    let same = c.push_reserved.ensures.capacity in
    record {
      first = subst (λ (n : ℕ). AreFirstBehind map copier n (reverse new)) (sym next) (first_behind_popped map copier (length others) old new session popped invariant.first);
      held = subst (AreOthersIn map copier) (sym is) (one_more_held map copier others held invariant.held in_slot);
      width = omega (arith, next, shorter, one_less, width);
      room = omega (arith, next, shorter, one_less, room, same);
    }

pub returns-clause-first : goal.returns-clause-first
returns-clause-first c =
    let map : Map = arc_value c.args.map.now in
    held_first map c.args.copier c.remove-first.result c.in_ok-lead.lead c.in_ok-lead.ensures.map c.in_ok-lead.ensures.session c.in_ok-lead.ensures.none_counted
    (the_one map c.args.copier c.args.sessions.items c.remove-first.result c.requires.in_range c.remove-first.ensures.value c.requires.first)
