-- The slots of a map that opens meet the rule.
use Rattle.std.proofs.Common.{◌≡◌, ℕ, zero, suc, ◌+◌, ◌<◌, Option, Some, None, List, [], ◌∷◌, length, map, replicate, refl, sym, ap, ◌∙◌, subst, arith}
use Rattle.std.specs.Prelude.{slice_index}
use mathlib.Core.Option.{some, some-injective, some-ne-none}
use lib.ListN.{get_elem?}
use Rattle.atomic_table.specs.Table.{opening}
use Rattle.atomic_table.proofs.Lists.{at_map}
use Rattle.blink_batch.specs.declared.Entry.{Entry}
use Rattle.blink_batch.specs.{pointer_of}
use Rattle.blink_live.specs.declared.view.Change.{Change}
use Rattle.blink_generation.specs.declared.map.Map.{Map}
use Rattle.blink_generation.specs.{opening_of, places_of}
use Rattle.blink_map.specs.declared.slots.Current.{Current}
use Rattle.blink_map.specs.declared.slots.SlotView.{SlotView}
use Rattle.blink_map.specs.Laid.{AreLaid}
use Rattle.blink_map.specs.Rule.{Account, AreApart, HasAccount, HasTaken, IsGrowing, IsSeatOf, RestsAt, Slots, fresh_accounts, generation_of, nothing, opener, word_of}

abbrev pub free_words : ℕ → List ℕ
free_words n = replicate n 0

long_zeros : (n : ℕ) → length (free_words n) ≡ n
long_zeros zero = refl
long_zeros (suc n) = ap suc (long_zeros n)

long_some : (l : List (Option Current)) → length (map some l) ≡ length l
long_some [] = refl
long_some (x ∷ xs) = ap suc (long_some xs)

pub at_fresh : (start count k : ℕ) (account : Account) → get_elem? (fresh_accounts start count) k ≡ some account → (account ≡ (start + k, nothing)) × (k < count)
at_fresh start zero k account e = absurd (some-ne-none account (sym e))
at_fresh start (suc count) zero account e =
    let same : start ≡ start + 0 = omega arith in
    (sym (some-injective (start, nothing) account e) ∙ ap (λ (n : ℕ). let a : Account = (n, nothing) in a) same, omega arith)
at_fresh start (suc count) (suc k) account e =
    let more = at_fresh (suc start) count k account e in
    let same : suc start + k ≡ start + suc k = omega arith in
    (more.0 ∙ ap (λ (n : ℕ). let a : Account = (n, nothing) in a) same, let m = more.1 in omega (arith, m))

module _ (first : List Entry) (its_map : Map) (slots : List (Option Current)) (same : opening_of its_map ≡ first) (width : places_of its_map ≡ length slots) (laid : AreLaid its_map slots) where
  abbrev s_opened : Slots
  s_opened = opening (free_words (word_of (length slots))) slots (opener first (length slots))

  only_opener : (P : ℕ → SlotView → Type 0) → P 0 (opener first (length slots)) → (seat : ℕ) (w : SlotView) → get_elem? s_opened.views seat ≡ some w → P seat w
  only_opener P one zero w there = subst (P 0) (some-injective (opener first (length slots)) w there) one
  only_opener P one (suc seat) w there = absurd (some-ne-none w (sym there))

  opened_rests : (slot : ℕ) → slot < length s_opened.homes → slice_index s_opened.words (word_of slot) ≡ 0 → RestsAt s_opened (generation_of its_map []) slot nothing
  opened_rests slot within is =
      let long = long_some slots in
      let one = laid slot (omega (arith, long, within)) in
      let seen = one.2.first.none_seen in
      let made = one.2.first.none_made in
      record {
        held = one.0;
        home = at_map some slots slot (Some one.0) one.1;
        its = record { same_map = one.2.same_map; its_own = one.2.first.its_own; its_place = one.2.first.its_place; counted = λ few. ap (λ (l : List Change). length l) made ∙ sym one.2.none_counted };
        is = λ i. record { seen = sym seen i; made = sym made i };
      }

  opened_account : (k : ℕ) (account : Account) → get_elem? (fresh_accounts 0 (length slots)) k ≡ some account → HasAccount s_opened (λ slot. 0) (λ slot. nothing) 0 account
  opened_account k account is =
      let fresh = at_fresh 0 (length slots) k account is in
      subst (HasAccount s_opened (λ slot. 0) (λ slot. nothing) 0) (sym fresh.0) record {
        in_range = (let long = long_some slots in let inside = fresh.1 in omega (arith, long, inside));
        own = refl;
        is = record { saw = ([], refl); made = refl };
      }

  opened_apart : AreApart (fresh_accounts 0 (length slots))
  opened_apart k j one other is_one is_other same_slot =
      let a = ap (λ (x : Account). x.0) (at_fresh 0 (length slots) k one is_one).0 in
      let b = ap (λ (x : Account). x.0) (at_fresh 0 (length slots) j other is_other).0 in
      omega (arith, a, b, same_slot)

  no_change : (n : ℕ) → Rattle.blink_live.specs.HaveAuthors n []
  no_change n k d inside = absurd (omega (arith, inside))

  pub slots_open : IsGrowing first s_opened
  slots_open = record {
    now = generation_of its_map [];
    owner = λ slot. 0;
    taker = λ slot. 0;
    level = λ slot. 0;
    had = λ slot. nothing;
    is_generation = record {
      goes_on = λ key inside. ap (λ (l : List Entry). pointer_of l key) same;
      authors = no_change (length s_opened.homes);
      places = width ∙ sym (long_some slots);
    };
    width = long_zeros (word_of (length slots)) ∙ ap word_of (sym (long_some slots));
    rests = opened_rests;
    seats = only_opener (λ k w. 0 < w.slots → IsSeatOf first (length s_opened.homes) w) (λ some. record { same_first = refl; same_slots = sym (long_some slots) });
    accounts = λ seat w k account there. only_opener (λ j x. get_elem? x.accounts k ≡ some account → HasAccount s_opened (λ slot. 0) (λ slot. nothing) j account) (opened_account k account) seat w there;
    apart = only_opener (λ j x. AreApart x.accounts) opened_apart;
    present = λ seat w g there. only_opener (λ j x. x.now ≡ Some g → (g ≡ generation_of its_map []) × (¬ (x.taken ≡ []))) (λ (is : None ≡ Some g). absurd (cc)) seat w there;
    taken = λ seat w k one there. only_opener (λ j x. get_elem? x.taken k ≡ some one → HasTaken s_opened (λ slot. 0) (λ slot. 0) (λ slot. nothing) j k one) (λ is. absurd (some-ne-none one (sym is))) seat w there;
  }
