use Rattle.std.proofs.Common.{◌≡◌, ◌≤◌, Bool, true, false, length, refl, subst, sym}
use Rattle.std.specs.Bool.{OnTrue, OnFalse}
use Rattle.blink_page.specs.{PlainPage, least_above}
use Rattle.blink_store.specs.{PlainStore}
use Rattle.blink_store.proofs.Offered.{page_at_place}
use Rattle.blink_machine.specs.declared.machine.Need.{Need}
use Rattle.blink_machine.specs.{PlainMachine, SeesPage, SeesPrime, WaitsForLevel, level_read, target}
use Rattle.blink_entries.specs.Index.{store_of}
use Rattle.blink_index.specs.Drive.{ActsOn, CanActOn}
use Rattle.blink_index.proofs.drive.act.Goals as goal

-- an operation that doesn't wait sees the prime block
sees_prime : (result : Bool) (store : PlainStore) (m after : PlainMachine) → ¬ WaitsForLevel m store.prime → OnTrue result (SeesPrime m store.prime after) → OnFalse result (WaitsForLevel m store.prime)
    → SeesPrime m store.prime after
sees_prime true store m after moves sees waits = sees
sees_prime false store m after moves sees waits = absurd (moves waits)

pub saw_prime-requires-clause-needs : goal.saw_prime-requires-clause-needs
saw_prime-requires-clause-needs c = sym c.in-ReadPrime.ensures

pub saw_prime-requires-clause-few_levels : goal.saw_prime-requires-clause-few_levels
saw_prime-requires-clause-few_levels c =
    let store = store_of c.args.machine.now.fan c.args.prime.now c.args.pages.now.items in
    let can = subst (λ (n : Need). CanActOn n store c.args.machine.now) (sym c.in-ReadPrime.ensures) c.requires.can in can.0

pub saw_page-requires-clause-level : goal.saw_page-requires-clause-level
saw_page-requires-clause-level c =
    let store = store_of c.args.machine.now.fan c.args.prime.now c.args.pages.now.items in
    let can = subst (λ (n : Need). CanActOn n store c.args.machine.now) (sym c.in-ReadPage.ensures) c.requires.can in
    subst (λ (p : PlainPage). p.level ≡ level_read c.args.machine.now) (sym (page_at_place store c.in-ReadPage.number can.page c.index.result.now can.there c.index.ensures)) can.readable.has_level

pub saw_page-requires-clause-below : goal.saw_page-requires-clause-below
saw_page-requires-clause-below c =
    let store = store_of c.args.machine.now.fan c.args.prime.now c.args.pages.now.items in
    let can = subst (λ (n : Need). CanActOn n store c.args.machine.now) (sym c.in-ReadPage.ensures) c.requires.can in
    subst (λ (p : PlainPage). least_above p.floor ≤ target c.args.machine.now) (sym (page_at_place store c.in-ReadPage.number can.page c.index.result.now can.there c.index.ensures)) can.readable.floor_below

pub saw_page-requires-clause-at_most_fan : goal.saw_page-requires-clause-at_most_fan
saw_page-requires-clause-at_most_fan c =
    let store = store_of c.args.machine.now.fan c.args.prime.now c.args.pages.now.items in
    let can = subst (λ (n : Need). CanActOn n store c.args.machine.now) (sym c.in-ReadPage.ensures) c.requires.can in
    subst (λ (p : PlainPage). length p.entries ≤ c.args.machine.now.fan) (sym (page_at_place store c.in-ReadPage.number can.page c.index.result.now can.there c.index.ensures)) can.readable.at_most_fan

pub add-requires-clause-can : goal.add-requires-clause-can
add-requires-clause-can c =
    let store = store_of c.args.machine.now.fan c.args.prime.now c.args.pages.now.items in
    subst (λ (n : Need). CanActOn n store c.args.machine.now) (sym c.in-WriteNew.ensures) c.requires.can

pub write-requires-clause-can : goal.write-requires-clause-can
write-requires-clause-can c =
    let store = store_of c.args.machine.now.fan c.args.prime.now c.args.pages.now.items in
    subst (λ (n : Need). CanActOn n store c.args.machine.now) (sym c.in-WritePage.ensures) c.requires.can

pub returns-in-End-clause-acts : goal.returns-in-End-clause-acts
returns-in-End-clause-acts c =
    let store = store_of c.args.machine.now.fan c.args.prime.now c.args.pages.now.items in
    absurd (subst (λ (n : Need). CanActOn n store c.args.machine.now) (sym c.in-End.ensures) c.requires.can)

pub returns-in-ReadPrime-clause-acts : goal.returns-in-ReadPrime-clause-acts
returns-in-ReadPrime-clause-acts c =
    let store = store_of c.args.machine.now.fan c.args.prime.now c.args.pages.now.items in
    let can = subst (λ (n : Need). CanActOn n store c.args.machine.now) (sym c.in-ReadPrime.ensures) c.requires.can in
    subst (λ (n : Need). ActsOn n store c.args.machine.now c.saw_prime.new.self store) c.in-ReadPrime.ensures
    (sees_prime c.saw_prime.result store c.args.machine.now c.saw_prime.new.self can.1 c.saw_prime.ensures.moved c.saw_prime.ensures.waits, refl)

pub returns-in-ReadPage-clause-acts : goal.returns-in-ReadPage-clause-acts
returns-in-ReadPage-clause-acts c =
    let store = store_of c.args.machine.now.fan c.args.prime.now c.args.pages.now.items in
    let number = c.in-ReadPage.number in
    let can = subst (λ (n : Need). CanActOn n store c.args.machine.now) (sym c.in-ReadPage.ensures) c.requires.can in
    let read = page_at_place store number can.page c.index.result.now can.there c.index.ensures in
    let sees = c.saw_page.ensures number (sym c.in-ReadPage.ensures) in
    subst (λ (n : Need). ActsOn n store c.args.machine.now c.saw_page.new.self store) c.in-ReadPage.ensures
    (record { page = can.page; there = can.there; sees = subst (λ (p : PlainPage). SeesPage c.args.machine.now number p c.saw_page.new.self) read sees }, refl)

pub returns-in-WriteNew-clause-acts : goal.returns-in-WriteNew-clause-acts
returns-in-WriteNew-clause-acts c =
    let m = c.args.machine.now in
    subst (λ (n : Need). ActsOn n (store_of m.fan c.args.prime.now c.args.pages.now.items) m c.add.new.machine (store_of m.fan c.args.prime.now c.add.new.pages.items))
    c.in-WriteNew.ensures (c.add.ensures.acts m.fan c.args.prime.now)

pub returns-in-WritePage-clause-acts : goal.returns-in-WritePage-clause-acts
returns-in-WritePage-clause-acts c =
    let m = c.args.machine.now in
    subst (λ (n : Need). ActsOn n (store_of m.fan c.args.prime.now c.args.pages.now.items) m c.write.new.machine (store_of m.fan c.args.prime.now c.write.new.pages.items))
    c.in-WritePage.ensures (c.write.ensures.acts m.fan c.args.prime.now)

pub returns-in-WritePrime-clause-acts : goal.returns-in-WritePrime-clause-acts
returns-in-WritePrime-clause-acts c =
    let m = c.args.machine.now in
    subst (λ (n : Need). ActsOn n (store_of m.fan c.args.prime.now c.args.pages.now.items) m c.done-in-WritePrime.new.self (store_of m.fan c.prime_out.result c.args.pages.now.items))
    c.in-WritePrime.ensures (c.done-in-WritePrime.ensures, c.prime_out.ensures, refl)
