use Rattle.std.proofs.Common.{◌≡◌, zero, suc, List, [], ◌∷◌, ◌++◌, length, append-nil, refl, sym, ap, ◌∙◌, subst, append_assoc, arith}
use mathlib.Core.Option.{some, some-injective}
use mathlib.Core.List.{IsPrefix}
use lib.ListN.{get_elem?}
use Rattle.blink_live.specs.declared.view.Change.{Change}
use Rattle.blink_live.specs.{made_at}
use Rattle.blink_generation.specs.declared.map.Map.{Map}
use Rattle.blink_generation.specs.{IsSessionOf, place_of, seen_by}
use Rattle.blink_map.specs.declared.slots.Current.{Current}
use Rattle.blink_map.specs.Renewing.{HasSeenOwn, HaveSeenOwn}
use Rattle.blink_map.proofs.Basics.{at_middle}
use Rattle.blink_map.proofs.gather.tell_all.Goals as goal

-- one more was told
one_more : (lead held : Current) (last : List Current) → HasSeenOwn lead held → HaveSeenOwn lead last → HaveSeenOwn lead (held ∷ last)
one_more lead held last own told zero other is = subst (HasSeenOwn lead) (some-injective held other is) own
one_more lead held last own told (suc k) other is = told k other is

-- the one that is popped stands in the list
popped_there : (all left before last : List Current) (held : Current) → all ≡ left ++ last → left ≡ before ++ held ∷ [] → get_elem? all (length before) ≡ some held
popped_there all left before last held whole popped =
    ap (λ (l : List Current). get_elem? l (length before)) (whole ∙ (ap (λ (l : List Current). l ++ last) popped ∙ append_assoc before (held ∷ []) last)) ∙ at_middle before held last

none_left : (others : List Current) → length others ≡ 0 → others ≡ []
none_left [] none = refl
none_left (held ∷ others) none = absurd (omega (arith, none))

pub tell-requires-clause-one_map : goal.tell-requires-clause-one_map
tell-requires-clause-one_map c =
    let invariant = c.loop-held.invariant in
    let there = popped_there c.args.others.items c.loop-held.others.items c.pop.new.self.items invariant.told.0 c.in-Some.held invariant.told.1 c.in-Some.ensures.items in
    subst (λ (m : Map). IsSessionOf m c.in-Some.held.session) (sym invariant.same_map) (c.requires.one_map (length c.pop.new.self.items) c.in-Some.held there)

pub tell-requires-clause-heard : goal.tell-requires-clause-heard
tell-requires-clause-heard c =
    let invariant = c.loop-held.invariant in
    let there = popped_there c.args.others.items c.loop-held.others.items c.pop.new.self.items invariant.told.0 c.in-Some.held invariant.told.1 c.in-Some.ensures.items in
    subst (IsPrefix (seen_by c.in-Some.held.session)) (sym invariant.seen) (c.requires.heard (length c.pop.new.self.items) c.in-Some.held there)

pub loop-held-init : goal.loop-held-init
loop-held-init c = record {
  its_own = c.requires.its_own;
  same_map = refl;
  seen = refl;
  told = ([], sym (append-nil c.args.others.items), λ k held is. absurd (cc));
}

pub loop-held-preserved : goal.loop-held-preserved
loop-held-preserved c =
    let invariant = c.loop-held.invariant in
    let told = invariant.told in
    let held : Current = c.in-Some.held in
    let own = ap (λ (l : List Change). made_at (place_of held.session) l) (sym invariant.seen) ∙ c.tell.ensures.own in
    record {
      its_own = c.tell.ensures.its_own;
      same_map = c.tell.ensures.same_map ∙ invariant.same_map;
      seen = c.tell.ensures.seen ∙ invariant.seen;
      told = (
        held ∷ told.0,
        told.1 ∙ (ap (λ (l : List Current). l ++ told.0) c.in-Some.ensures.items ∙ append_assoc c.pop.new.self.items (held ∷ []) told.0),
        one_more c.args.lead.now held told.0 own told.2,
      );
    }

pub returns : goal.returns
returns c =
    let told = c.loop-held.invariant.told in
    let none : length c.loop-held.others.items ≡ 0 = let zero_long = c.in_default.ensures.cases.0 in let ok = c.loop-held.others.ok in omega (arith, zero_long, ok) in
    subst (HaveSeenOwn c.args.lead.now) (sym (told.1 ∙ ap (λ (l : List Current). l ++ told.0) (none_left c.loop-held.others.items none))) told.2
