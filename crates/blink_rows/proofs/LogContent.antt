-- What records make of a page: it stays lawful, and the newest record about a key says what the key maps to.
use Rattle.std.proofs.Common.{◌≡◌, ◌≢◌, ℕ, zero, suc, ◌+◌, ◌<◌, ◌≤◌, Option, Some, None, IsSome, List, [], ◌∷◌, ◌++◌, length, get_or, take, refl, sym, ap, ◌∙◌, subst, append_assoc, ⊎_elim, arith}
use Rattle.std.proofs.lemmas.Bool.{cases_lt}
use Rattle.std.proofs.lemmas.List.{append-nil}
use Rattle.blink_page.specs.declared.limits.TheConstants.{GREATEST_KEY}
use Rattle.blink_page.specs.declared.search.Way.{Way}
use Rattle.blink_page.specs.declared.search.Way.TheVariants.{Right, Down, Here}
use Rattle.blink_page.specs.{IsKeyOf, IsLawfulPage, Leads, PlainPage, added, least_above, value_at, with_entries}
use Rattle.blink_page.proofs.Offered.{length-added, lawful_with_room, lawful_removed, lawful_replaced, lawful_added, value_at-below, value_at-above, value_at-added, value_at-added_other, value_at-removed, value_at-removed_other, value_at-replaced, value_at-replaced_other}
use Rattle.blink_rows.specs.declared.log.Kind.{Kind}
use Rattle.blink_rows.specs.declared.log.Kind.TheVariants.{Replaced, Added, Removed}
use Rattle.blink_rows.specs.declared.log.Record.{Record}
use Rattle.blink_rows.specs.Log.{AllFit, Finds, Fits, applied, changed, content, page_after, page_with, pointer_after, pointer_by}

-- ---- one record more

-- is one operation of the plain list more
pub content_more : (base : List (ℕ × ℕ)) (records : List Record) (r : Record) → content base (records ++ r ∷ []) ≡ applied (content base records) r
content_more base [] r = refl
content_more base (x ∷ rest) r = content_more (applied base x) rest r

-- and one change of the page more
pub page_more : (base : PlainPage) (records : List Record) (r : Record) → page_with base (records ++ r ∷ []) ≡ page_after (page_with base records) r
page_more base records r = ap (with_entries base) (content_more base.entries records r)

-- which fits what the others leave
pub fit_more : (fan : ℕ) (page : PlainPage) (records : List Record) (r : Record) → AllFit fan page records → Fits fan (page_with page records) r → AllFit fan page (records ++ r ∷ [])
fit_more fan page [] r fit here = (here, tt)
fit_more fan page (x ∷ rest) r fit here = (fit.0, fit_more fan (page_after page x) rest r fit.1 here)

-- each record fits what the older ones leave
pub fits_next : (fan : ℕ) (page : PlainPage) (older : List Record) (r : Record) (newer : List Record) → AllFit fan page (older ++ r ∷ newer) → Fits fan (page_with page older) r
fits_next fan page [] r newer fit = fit.0
fits_next fan page (x ∷ rest) r newer fit = fits_next fan (page_after page x) rest r newer fit.1

pub fit_older : (fan : ℕ) (page : PlainPage) (older newer : List Record) → AllFit fan page (older ++ newer) → AllFit fan page older
fit_older fan page [] newer fit = tt
fit_older fan page (x ∷ rest) newer fit = (fit.0, fit_older fan (page_after page x) rest newer fit.1)

pub fit_newer : (fan : ℕ) (page : PlainPage) (older newer : List Record) → AllFit fan page (older ++ newer) → AllFit fan (page_with page older) newer
fit_newer fan page [] newer fit = fit
fit_newer fan page (x ∷ rest) newer fit = fit_newer fan (page_after page x) rest newer fit.1

-- the newer ones go on from what the older ones leave
pub content-append : (base : List (ℕ × ℕ)) (older newer : List Record) → content base (older ++ newer) ≡ content (content base older) newer
content-append base [] newer = refl
content-append base (x ∷ rest) newer = content-append (applied base x) rest newer

-- what fits for a fan does so for a greater one
fits_more : (fan greater : ℕ) (page : PlainPage) (kind : Kind) (key : ℕ) → fan ≤ greater → Finds fan page key kind → Finds greater page key kind
fits_more fan greater page Replaced key more finds = finds
fits_more fan greater page Added key more finds = (finds.0, finds.1, (let room = finds.2 in omega (arith, room, more)))
fits_more fan greater page Removed key more finds = finds

pub fits_for_greater : (fan greater : ℕ) (page : PlainPage) (r : Record) → fan ≤ greater → Fits fan page r → Fits greater page r
fits_for_greater fan greater page r more fits = record {
  leaf = fits.leaf;
  pointer_in_range = fits.pointer_in_range;
  finds = fits_more fan greater page r.kind r.key more fits.finds;
}

pub fit_for_greater : (fan greater : ℕ) (page : PlainPage) (records : List Record) → fan ≤ greater → AllFit fan page records → AllFit greater page records
fit_for_greater fan greater page [] more fit = tt
fit_for_greater fan greater page (r ∷ rest) more fit = (fits_for_greater fan greater page r more fit.0, fit_for_greater fan greater (page_after page r) rest more fit.1)

-- an inner page has none
pub inner_has_none : (fan : ℕ) (page : PlainPage) (records : List Record) → AllFit fan page records → 0 < page.level → records ≡ []
inner_has_none fan page [] fit inner = refl
inner_has_none fan page (r ∷ rest) fit inner = let leaf = fit.0.leaf in absurd (omega (arith, leaf, inner))

-- ---- the page stays lawful

lawful_changed : (fan : ℕ) (page : PlainPage) (kind : Kind) (key pointer : ℕ) → IsLawfulPage fan page → page.level ≡ 0 → pointer ≤ GREATEST_KEY → Finds fan page key kind → IsLawfulPage fan (with_entries page (changed kind key pointer page.entries))
lawful_changed fan page Replaced key pointer lawful leaf fits finds = lawful_replaced fan page lawful key pointer leaf fits
lawful_changed fan page Added key pointer lawful leaf fits finds =
    lawful_with_room (fan + 1) fan (with_entries page (added (key, pointer) page.entries)) (lawful_added fan page lawful key pointer finds.0 finds.1 leaf fits)
    (let room = finds.2 in omega (arith, room, length-added key pointer page.entries))
lawful_changed fan page Removed key pointer lawful leaf fits finds = lawful_removed fan page lawful key leaf

pub lawful_after : (fan : ℕ) (page : PlainPage) (r : Record) → IsLawfulPage fan page → Fits fan page r → IsLawfulPage fan (page_after page r)
lawful_after fan page r lawful fits = lawful_changed fan page r.kind r.key r.pointer lawful fits.leaf fits.pointer_in_range fits.finds

pub lawful_content : (fan : ℕ) (base : PlainPage) (records : List Record) → IsLawfulPage fan base → AllFit fan base records → IsLawfulPage fan (page_with base records)
lawful_content fan base [] lawful fit = lawful
lawful_content fan base (r ∷ rest) lawful fit = lawful_content fan (page_after base r) rest (lawful_after fan base r lawful fit.0) fit.1

-- ---- where keys belong

-- a key that is there belongs to the page
pub present_key : (fan : ℕ) (page : PlainPage) (key : ℕ) → IsLawfulPage fan page → IsSome (value_at key page.entries) → IsKeyOf page key
present_key fan page key lawful found = (
  ⊎_elim (λ below. absurd (missing (value_at key page.entries) found (value_at-below key (least_above page.floor) page.entries (page.high + 1) lawful.keys_rise below))) (λ above. above) (cases_lt key (least_above page.floor)),
  ⊎_elim (λ above. absurd (missing (value_at key page.entries) found (value_at-above key (least_above page.floor) page.entries (page.high + 1) lawful.keys_rise (omega (arith, above))))) (λ below. below) (cases_lt page.high key),
)
  where
    missing : (o : Option ℕ) → IsSome o → o ≡ None → ⊥
    missing None found none = cc
    missing (Some x) found none = cc

-- and so does each record's
record_key : (fan : ℕ) (page : PlainPage) (kind : Kind) (key : ℕ) → IsLawfulPage fan page → Finds fan page key kind → IsKeyOf page key
record_key fan page Replaced key lawful finds = present_key fan page key lawful finds
record_key fan page Added key lawful finds = finds.0
record_key fan page Removed key lawful finds = present_key fan page key lawful finds

pub own_key : (fan : ℕ) (base : PlainPage) (older : List Record) (r : Record) (newer : List Record) → IsLawfulPage fan base → AllFit fan base (older ++ r ∷ newer) → IsKeyOf base r.key
own_key fan base older r newer lawful fit =
    record_key fan (page_with base older) r.kind r.key (lawful_content fan base older lawful (fit_older fan base older (r ∷ newer) fit)) (fits_next fan base older r newer fit).finds

-- where a key leads from the base, it leads from the page
pub leads_with : (fan : ℕ) (base : PlainPage) (records : List Record) (key : ℕ) (way : Way) → AllFit fan base records → Leads base key way → Leads (page_with base records) key way
leads_with fan base records key (Right next) fit leads = leads
leads_with fan base records key Here fit leads = leads
leads_with fan base records key (Down child) fit leads = let none = inner_has_none fan base records fit leads.1 in subst (λ (rs : List Record). Leads (page_with base rs) key (Down child)) (sym none) leads

-- ---- what a key maps to

-- no record is about the key
abbrev pub AreSilent : ℕ → List Record → Type 0
AreSilent key [] = Unit {0}
AreSilent key (r ∷ rest) = (r.key ≢ key) × AreSilent key rest

changed_here : (fan : ℕ) (page : PlainPage) (kind : Kind) (key pointer : ℕ) → IsLawfulPage fan page → Finds fan page key kind → value_at key (changed kind key pointer page.entries) ≡ pointer_by kind pointer
changed_here fan page Replaced key pointer lawful finds = value_at-replaced key pointer page.entries finds
changed_here fan page Added key pointer lawful finds = value_at-added key pointer page.entries
changed_here fan page Removed key pointer lawful finds = value_at-removed key (least_above page.floor) page.entries (page.high + 1) lawful.keys_rise

changed_elsewhere : (kind : Kind) (other pointer key : ℕ) (entries : List (ℕ × ℕ)) → other ≢ key → value_at key (changed kind other pointer entries) ≡ value_at key entries
changed_elsewhere Replaced other pointer key entries apart = value_at-replaced_other key other pointer entries (λ same. apart (sym same))
changed_elsewhere Added other pointer key entries apart = value_at-added_other key other pointer entries (λ same. apart (sym same))
changed_elsewhere Removed other pointer key entries apart = value_at-removed_other key other entries (λ same. apart (sym same))

-- after a record its key maps to what it says
pub value_here : (fan : ℕ) (page : PlainPage) (r : Record) → IsLawfulPage fan page → Fits fan page r → value_at r.key (applied page.entries r) ≡ pointer_after r
value_here fan page r lawful fits = changed_here fan page r.kind r.key r.pointer lawful fits.finds

-- and every other key to what it did
pub value_elsewhere : (entries : List (ℕ × ℕ)) (r : Record) (key : ℕ) → r.key ≢ key → value_at key (applied entries r) ≡ value_at key entries
value_elsewhere entries r key apart = changed_elsewhere r.kind r.key r.pointer key entries apart

-- where no record is about a key, it maps to what it does in the base
pub silent_records : (base : List (ℕ × ℕ)) (records : List Record) (key : ℕ) → AreSilent key records → value_at key (content base records) ≡ value_at key base
silent_records base [] key silent = refl
silent_records base (r ∷ rest) key silent = silent_records (applied base r) rest key silent.1 ∙ value_elsewhere base r key silent.0

-- otherwise to what the newest record about it says
pub newest_record : (fan : ℕ) (base : PlainPage) (older : List Record) (r : Record) (newer : List Record) → IsLawfulPage fan base → AllFit fan base (older ++ r ∷ newer) → AreSilent r.key newer
    → value_at r.key (content base.entries (older ++ r ∷ newer)) ≡ pointer_after r
newest_record fan base older r newer lawful fit silent =
    content-append-at r.key
    ∙ (silent_records (applied (content base.entries older) r) newer r.key silent
    ∙ value_here fan (page_with base older) r (lawful_content fan base older lawful (fit_older fan base older (r ∷ newer) fit)) (fits_next fan base older r newer fit))
  where
    content-append-at : (key : ℕ) → value_at key (content base.entries (older ++ r ∷ newer)) ≡ value_at key (content (content base.entries older) (r ∷ newer))
    content-append-at key = ap (value_at key) (content-append base.entries older (r ∷ newer))

-- ---- a walk from the oldest record to the newest

-- the record with so many older ones, which with it make one prefix more
pub record StandsAt (records : List Record) (place : ℕ) : Type 0 where
  pub r : Record
  pub newer : List Record
  pub whole : records ≡ take place records ++ r ∷ newer
  pub many : length (take place records) ≡ place
  pub more : take (place + 1) records ≡ take place records ++ r ∷ []
  pub is : (d : Record) → get_or records place d ≡ r

pub stands_at : (records : List Record) (place : ℕ) → place < length records → StandsAt records place
stands_at [] place inside = absurd (omega (arith, inside))
stands_at (x ∷ rest) zero inside = record { r = x; newer = rest; whole = refl; many = refl; more = refl; is = λ d. refl }
stands_at (x ∷ rest) (suc place) inside =
    let there = stands_at rest place (omega (arith, inside)) in record {
      r = there.r;
      newer = there.newer;
      whole = ap (λ (l : List Record). x ∷ l) there.whole;
      many = (let many = there.many in omega (arith, many));
      more = (let one : suc place + 1 ≡ suc (place + 1) = omega arith in ap (λ n. take n (x ∷ rest)) one ∙ ap (λ (l : List Record). x ∷ l) there.more);
      is = there.is;
    }

-- it fits what the older ones leave, and changes that
pub next_fits : (fan : ℕ) (page : PlainPage) (records : List Record) (place : ℕ) (at : StandsAt records place) → AllFit fan page records → Fits fan (page_with page (take place records)) at.r
next_fits fan page records place at fit = fits_next fan page (take place records) at.r at.newer (subst (AllFit fan page) at.whole fit)

pub next_page : (page : PlainPage) (records : List Record) (place : ℕ) (at : StandsAt records place) → page_with page (take (place + 1) records) ≡ page_after (page_with page (take place records)) at.r
next_page page records place at = ap (page_with page) at.more ∙ page_more page (take place records) at.r

pub more_fit : (fan : ℕ) (page : PlainPage) (records : List Record) (place : ℕ) (at : StandsAt records place) → AllFit fan page (take place records) → Fits fan (page_with page (take place records)) at.r → AllFit fan page (take (place + 1) records)
more_fit fan page records place at fit here = subst (AllFit fan page) (sym at.more) (fit_more fan page (take place records) at.r fit here)

-- ---- a search from the newest record to the oldest

-- so many records are left to look at, and none of the newer ones is about the key
pub record IsLeft (key : ℕ) (records : List Record) (left : ℕ) : Type 0 where
  pub older : List Record
  pub newer : List Record
  pub whole : records ≡ older ++ newer
  pub many : length older ≡ left
  pub silent : AreSilent key newer

-- the newest of those that are left has so many older ones
pub record HasNext (key : ℕ) (records : List Record) (left : ℕ) : Type 0 where
  pub older : List Record
  pub r : Record
  pub newer : List Record
  pub whole : records ≡ older ++ r ∷ newer
  pub many : length older ≡ left
  pub silent : AreSilent key newer

-- a search begins
pub all_left : (key : ℕ) (records : List Record) → IsLeft key records (length records)
all_left key records = record { older = records; newer = []; whole = sym (append-nil records); many = refl; silent = tt }

-- comes to a record
pub next_left : (key : ℕ) (records : List Record) (left : ℕ) → IsLeft key records (suc left) → HasNext key records left
next_left key records left is =
    let ends = last_of is.older left is.many in record {
      older = ends.0;
      r = ends.1;
      newer = is.newer;
      whole = is.whole ∙ (ap (λ (xs : List Record). xs ++ is.newer) ends.2 ∙ append_assoc ends.0 (ends.1 ∷ []) is.newer);
      many = ends.3;
      silent = is.silent;
    }
  where
    last_of : (xs : List Record) (n : ℕ) → length xs ≡ suc n → (front : List Record) × (r : Record) × (xs ≡ front ++ r ∷ []) × (length front ≡ n)
    last_of [] n long = absurd (omega (arith, long))
    last_of (x ∷ []) n long = ([], x, refl, omega (arith, long))
    last_of (x ∷ y ∷ rest) zero long = absurd (omega (arith, long))
    last_of (x ∷ y ∷ rest) (suc n) long = let ends = last_of (y ∷ rest) n (omega (arith, long)) in (x ∷ ends.0, ends.1, ap (λ (l : List Record). x ∷ l) ends.2, (let many = ends.3 in omega (arith, many)))

-- that isn't about the key, and passes it
pub passes_next : (key : ℕ) (records : List Record) (left : ℕ) (next : HasNext key records left) → next.r.key ≢ key → IsLeft key records left
passes_next key records left next apart = record { older = next.older; newer = next.r ∷ next.newer; whole = next.whole; many = next.many; silent = (apart, next.silent) }

-- or is, and says what the key maps to
pub next_says : (fan : ℕ) (base : PlainPage) (key : ℕ) (records : List Record) (left : ℕ) → IsLawfulPage fan base → AllFit fan base records → (next : HasNext key records left) → next.r.key ≡ key
    → value_at key (content base.entries records) ≡ pointer_after next.r
next_says fan base key records left lawful fit next same =
    let fit_there : AllFit fan base (next.older ++ next.r ∷ next.newer) = subst (AllFit fan base) next.whole fit in
    let silent : AreSilent next.r.key next.newer = subst (λ (k : ℕ). AreSilent k next.newer) (sym same) next.silent in
    ap (λ (rs : List Record). value_at key (content base.entries rs)) next.whole
    ∙ (ap (λ (k : ℕ). value_at k (content base.entries (next.older ++ next.r ∷ next.newer))) (sym same) ∙ newest_record fan base next.older next.r next.newer lawful fit_there silent)

-- at the end the base says it
pub none_left : (key : ℕ) (base : List (ℕ × ℕ)) (records : List Record) → IsLeft key records 0 → value_at key (content base records) ≡ value_at key base
none_left key base records is = silent_records base records key (subst (AreSilent key) (sym (is.whole ∙ ap (λ (xs : List Record). xs ++ is.newer) (empty is.older is.many))) is.silent)
  where
    empty : (xs : List Record) → length xs ≡ 0 → xs ≡ []
    empty [] none = refl
    empty (x ∷ rest) none = absurd (omega (arith, none))
