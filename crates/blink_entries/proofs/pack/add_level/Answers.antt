use Rattle.std.proofs.Common.{◌+◌, ◌-◌, ◌++◌, List, [], ◌∷◌, take, drop, ap, sym, subst, ◌∙◌, arith}
use Rattle.blink_page.specs.{IsLawfulPage, PlainPage}
use Rattle.blink_page.specs.declared.limits.TheConstants.{MAX_FAN}
use Rattle.blink_page.proofs.Offered.{lawful_with_room}
use Rattle.blink_entries.specs.Packing.{page_over}
use Rattle.blink_entries.proofs.packed.LevelsGrow.{after_step, all_named, nothing_named, number_of_next, page_lawful}
use Rattle.blink_entries.proofs.pack.add_level.Goals as goal

pub groups-init : goal.groups-init
groups-init c = record { so_far = nothing_named c.args.fan c.args.level c.args.first c.args.pages.now.items c.requires.below c.requires.two }

pub link_of-right-requires : goal.link_of-right-requires
link_of-right-requires c =
    number_of_next c.args.fan c.args.level c.args.first c.args.pages.now.items c.groups.pages.items c.groups.begin c.len-end.result c.group.result c.groups.invariant.so_far (omega (arith, c.len-end.ensures)) c.group.ensures
    c.requires.level.0 c.requires.level.1 c.requires.inside c.requires.numbers c.len.result (omega (arith, c.len.ensures))

pub page_over-page-requires-clause-lawful : goal.page_over-page-requires-clause-lawful
page_over-page-requires-clause-lawful c =
    let lawful = page_lawful c.args.fan c.args.level c.args.first c.args.pages.now.items c.groups.pages.items c.groups.begin c.len-end.result c.group.result c.groups.invariant.so_far (omega (arith, c.len-end.ensures)) c.group.ensures
    c.requires.level.0 c.requires.level.1 c.requires.inside c.requires.numbers c.len.result (omega (arith, c.len.ensures)) c.link_of-right.result c.link_of-right.ensures.more c.link_of-right.ensures.last in
    let most = c.requires.fan.1 in let few = lawful.at_most_fan in
    subst (λ (ps : List PlainPage). IsLawfulPage MAX_FAN (page_over c.args.level (c.groups.begin + 1) c.link_of-right.result (take (c.groups.begin + c.group.result - c.groups.begin) (drop c.groups.begin ps)))) (sym c.deref.ensures.value)
    (lawful_with_room c.args.fan MAX_FAN _ lawful (omega (arith, most, few)))

pub groups-preserved : goal.groups-preserved
groups-preserved c =
    let pushed = c.in_ok-push.ensures in
    let page = c.page_over-page.ensures ∙ ap (λ (ps : List PlainPage). page_over c.args.level (c.groups.begin + 1) c.link_of-right.result (take (c.groups.begin + c.group.result - c.groups.begin) (drop c.groups.begin ps))) c.deref.ensures.value in
    record {
      so_far = after_step c.args.fan c.args.level c.args.first c.args.pages.now.items c.groups.pages.items c.groups.begin c.len-end.result c.group.result c.groups.invariant.so_far (omega (arith, c.len-end.ensures)) c.group.ensures
          c.requires.level.0 c.requires.level.1 c.requires.inside c.requires.numbers c.len.result (omega (arith, c.len.ensures)) c.link_of-right.result c.link_of-right.ensures.more c.link_of-right.ensures.last
          c.push.new.pages.items (pushed ∙ ap (λ (p : PlainPage). c.groups.pages.items ++ p ∷ []) page);
    }

pub returns : goal.returns
returns c = record {
  added = all_named c.args.fan c.args.level c.args.first c.args.pages.now.items c.groups.pages.items c.groups.begin (omega (arith, c.groups-test.false, c.len-end.ensures)) c.groups.invariant.so_far c.requires.inside;
}
