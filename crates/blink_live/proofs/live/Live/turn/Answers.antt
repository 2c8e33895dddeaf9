use Rattle.std.proofs.Common.{sym, ◌∙◌, subst}
use Rattle.blink_machine.specs.Needs.{TellsNothing}
use Rattle.blink_live.proofs.changed.LatchesAreLeft.{nearer_done, nearer_page, nearer_prime, no_latch_wanted, stays_unless}
use Rattle.blink_live.proofs.changed.UpdatesGoOn as on
use Rattle.blink_live.proofs.live.Live.turn.Goals as goal

pub read_prime-requires : goal.read_prime-requires
read_prime-requires c =
    let is = c.requires.under_way.2 in record {
      seat = on.is_its_seat is;
      at = on.is_its_operation is c.requires.goes_on;
      fits = on.its_words_fit is;
      needs = sym c.need.ensures ∙ c.in-ReadPrime.is;
      announced = on.is_announced is;
    }

pub read_latched-requires : goal.read_latched-requires
read_latched-requires c =
    let is = c.requires.under_way.2 in
    let needs = sym c.need.ensures ∙ c.in-ReadPage.is in record {
      seat = on.is_its_seat is;
      at = on.is_its_operation is c.requires.goes_on;
      fits = on.its_words_fit is;
      needs = needs;
      in_range = on.page_in_range is c.in-ReadPage.number needs;
      announced = on.is_announced is;
    }

pub try_latch-requires : goal.try_latch-requires
try_latch-requires c =
    let is = c.requires.under_way.2 in
    let needs = sym c.need.ensures ∙ c.in-Latch.is in record {
      seat = on.is_its_seat is;
      at = on.is_its_operation is c.requires.goes_on;
      fits = on.its_words_fit is;
      needs = needs;
      in_range = on.latch_in_range is c.in-Latch.number needs;
      own = on.is_its_number is;
    }

pub let_go-requires : goal.let_go-requires
let_go-requires c =
    let is = c.requires.under_way.2 in
    let needs = sym c.need.ensures ∙ c.in-Unlatch.is in record {
      seat = on.is_its_seat is;
      at = on.is_its_operation is c.requires.goes_on;
      fits = on.its_words_fit is;
      needs = needs;
      in_range = on.unlatch_in_range is c.in-Unlatch.number needs;
    }

pub put_page-requires : goal.put_page-requires
put_page-requires c = record { under_way = c.requires.under_way; goes_on = c.requires.goes_on; needs = sym c.need.ensures ∙ c.in-WritePage.is }

pub put_prime-requires : goal.put_prime-requires
put_prime-requires c = record { under_way = c.requires.under_way; goes_on = c.requires.goes_on; needs = sym c.need.ensures ∙ c.in-WritePrime.is }

pub put_new-requires : goal.put_new-requires
put_new-requires c = record { under_way = c.requires.under_way; goes_on = c.requires.goes_on; needs = sym c.need.ensures ∙ c.in-WriteNew.is }

pub returns-in-ReadPrime : goal.returns-in-ReadPrime
returns-in-ReadPrime c = record {
  under_way = λ op first is. on.after_prime is c.read_prime.ensures.same c.read_prime.ensures.read.0 c.read_prime.ensures.read.1;
  waits = c.read_prime.ensures.waits;
  nearer = nearer_prime _ _ _ c.read_prime.ensures.read.1.asks;
}

pub returns-in-ReadPage : goal.returns-in-ReadPage
returns-in-ReadPage c = record {
  under_way = λ op first is. on.after_page is c.read_latched.ensures.same c.in-ReadPage.number c.read_latched.ensures.read.0 c.read_latched.ensures.read.1;
  waits = tt;
  nearer = nearer_page _ _ _ _ c.read_latched.ensures.read.1.sees;
}

pub returns-in-Latch : goal.returns-in-Latch
returns-in-Latch c = record {
  under_way = λ op first is.
      on.after_try is c.try_latch.ensures.same c.try_latch.result c.in-Latch.number (sym c.need.ensures ∙ c.in-Latch.is) c.try_latch.ensures.moved c.try_latch.ensures.got c.try_latch.ensures.lost;
  waits = stays_unless c.try_latch.result c.args.machine.now c.try_latch.new.machine (λ lost. (c.try_latch.ensures.lost lost).0);
  nearer = λ held. absurd (held (no_latch_wanted c.args.machine.now c.in-Latch.number (sym c.need.ensures ∙ c.in-Latch.is)));
}

pub returns-in-Unlatch : goal.returns-in-Unlatch
returns-in-Unlatch c = record {
  under_way = λ op first is. on.after_unlatch is c.let_go.ensures.same c.in-Unlatch.number (sym c.need.ensures ∙ c.in-Unlatch.is) c.let_go.ensures.machine c.let_go.ensures.gone;
  waits = tt;
  nearer = nearer_done _ _ 0 (subst TellsNothing (sym (sym c.need.ensures ∙ c.in-Unlatch.is)) tt) c.let_go.ensures.machine;
}

pub returns-in-WritePage : goal.returns-in-WritePage
returns-in-WritePage c = record {
  under_way = c.put_page.ensures.under_way;
  waits = tt;
  nearer = nearer_done _ _ 0 (subst TellsNothing (sym (sym c.need.ensures ∙ c.in-WritePage.is)) tt) c.put_page.ensures.machine;
}

pub returns-in-WritePrime : goal.returns-in-WritePrime
returns-in-WritePrime c = record {
  under_way = c.put_prime.ensures.under_way;
  waits = tt;
  nearer = nearer_done _ _ 0 (subst TellsNothing (sym (sym c.need.ensures ∙ c.in-WritePrime.is)) tt) c.put_prime.ensures.machine;
}

pub returns-in-WriteNew : goal.returns-in-WriteNew
returns-in-WriteNew c = record {
  under_way = c.put_new.ensures.under_way;
  waits = tt;
  nearer = nearer_done _ _ _ (subst TellsNothing (sym (sym c.need.ensures ∙ c.in-WriteNew.is)) tt) c.put_new.ensures.machine.1;
}
