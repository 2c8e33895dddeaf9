use Rattle.std.proofs.Common.{◌≡◌, List, length, ap, refl, subst, sym, ◌∙◌, arith}
use Rattle.blink_page.specs.{IsLawfulPage, PlainPage}
use Rattle.blink_page.specs.declared.limits.TheConstants.{MAX_FAN}
use Rattle.blink_rows.specs.declared.log.Record.{Record}
use Rattle.blink_rows.specs.declared.naming.Records.{Records}
use Rattle.blink_rows.specs.Log.{AllFit, IsLoggedRow, page_with}
use Rattle.blink_rows.proofs.LogWords.{base_of_row, begins_with_base, count_read, length-row_words, one_base, one_log, row_of_base}
use Rattle.blink_rows.proofs.WhatRowsSay.{if_none}
use Rattle.blink_rows.proofs.logged.page_in_row.Goals as goal

pub returns-in_err-page-clause-none : goal.returns-in_err-page-clause-none
returns-in_err-page-clause-none c =
    if_none _ ((base : PlainPage) (log : List Record) → IsLoggedRow base log c.args.words.now c.args.records → _) (λ base log row.
    let count = c.in_ok-base.ensures.base ∙ count_read base log c.args.words.now row.begins in
    let alone = row_of_base base c.args.words.now c.base_row.result c.in_ok-base.base count (begins_with_base base log c.args.words.now row.begins) c.base_row.ensures.width c.base_row.ensures.words c.base_row.ensures.rest in
    c.in_err-page.ensures.none base row.logged.lawful alone)

pub returns-then-apply_all-clause-page : goal.returns-then-apply_all-clause-page
returns-then-apply_all-clause-page c =
    let page = c.in_ok-page.page in
    let log = c.in_ok-log.log.items in
    let begins = base_of_row page c.args.words.now c.base_row.result c.in_ok-base.base (sym c.in_ok-base.ensures.base) (let room = c.in_ok-base.ensures.room in omega (arith, room)) c.base_row.ensures.words c.in_ok-page.ensures.page in
    let counts = c.in_ok-log.ensures.counts in
    let many : length log ≡ c.args.records.count = ap (λ (told : Records). told.count) counts in
    let lent : c.deref.result.now ≡ log = c.deref.ensures.0 in (
      page,
      log,
      record {
        logged = record {
          lawful = subst (IsLawfulPage MAX_FAN) c.page.view_is c.page.invariant;
          all_fit = subst (AllFit MAX_FAN page) lent (c.if-apply_all.ensures.fit refl);
          few = (let few = c.in_ok-base.ensures.few in omega (arith, few, many));
          room = (let room = c.in_ok-base.ensures.room in let count = begins.0 in omega (arith, room, count, many, length-row_words page log));
        };
        begins = c.in_ok-log.ensures.words page begins.1 begins.0;
        counts = counts;
      },
      c.if-apply_all.ensures.page refl ∙ ap (page_with page) lent,
    )

pub returns-else-apply_all-clause-none : goal.returns-else-apply_all-clause-none
returns-else-apply_all-clause-none c base log row =
    let page = c.in_ok-page.page in
    let begins = base_of_row page c.args.words.now c.base_row.result c.in_ok-base.base (sym c.in_ok-base.ensures.base) (let room = c.in_ok-base.ensures.room in omega (arith, room)) c.base_row.ensures.words c.in_ok-page.ensures.page in
    let same_base : base ≡ page = one_base base page c.args.words.now row.logged.lawful (subst (IsLawfulPage MAX_FAN) c.page.view_is c.page.invariant) (begins_with_base base log c.args.words.now row.begins) begins.1 in
    let same_log : log ≡ c.in_ok-log.log.items = one_log base page log c.in_ok-log.log.items c.args.words.now same_base (row.counts ∙ sym c.in_ok-log.ensures.counts) row.begins (c.in_ok-log.ensures.words page begins.1 begins.0) in
    let fit : AllFit MAX_FAN page c.deref.result.now = subst (AllFit MAX_FAN page) (same_log ∙ sym c.deref.ensures.0) (subst (λ (p : PlainPage). AllFit MAX_FAN p log) same_base row.logged.all_fit) in
    c.if-apply_all.ensures.unfit refl fit
