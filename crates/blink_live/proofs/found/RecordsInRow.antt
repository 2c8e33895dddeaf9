-- The words behind the base of a row tell the records.
use Rattle.std.proofs.Common.{◌≡◌, ℕ, ◌+◌, ◌*◌, ◌<◌, ◌≤◌, Some, List, [], ◌∷◌, ◌++◌, length, get_or, take, drop, append_assoc, sym, ap, ◌∙◌, subst, length-append, arith}
use Rattle.std.specs.Prelude.{slice_index}
use Rattle.std.proofs.lemmas.List.{get_or-append-add, length-take-le, take_more, take-append-drop}
use Rattle.blink_page.specs.{IsKeyOf, PlainPage, value_at}
use Rattle.blink_page.specs.declared.limits.TheConstants.{MAX_FAN}
use Rattle.blink_rows.specs.{AllFit, Fits, PlainCounts, counted, log_words, page_after, page_with, page_words, pointer_after, records_in, row_in}
use Rattle.blink_rows.specs.declared.limits.TheConstants.{MAX_RECORDS, ROW_WORDS}
use Rattle.blink_rows.specs.declared.log.Kind.{Kind}
use Rattle.blink_rows.specs.declared.log.Kind.TheVariants.{Replaced}
use Rattle.blink_rows.specs.declared.log.Record.{Record}
use Rattle.blink_rows.specs.declared.naming.Records.{Records}
use Rattle.blink_rows.proofs.Offered.{HasNext, fits_next, next_says, own_key, page_more, length-log_words, length-row_words, log_words-append, length-page_words}
use Rattle.blink_live.specs.Seats.{IsSaid, ReadsVersion}
use Rattle.blink_live.specs.Views.{SeatState}
use Rattle.blink_live.specs.Words.{row_start}
use Rattle.blink_live.proofs.table.VersionsOfPages.{same_head}

-- the words of the record that has so many older ones
word_of_record : (older : List Record) (r : Record) (newer : List Record) (k : ℕ) → get_or (log_words (older ++ r ∷ newer)) (2 * length older + k) 0 ≡ get_or (r.key ∷ r.pointer ∷ log_words newer) k 0
word_of_record older r newer k =
    let place : 2 * length older + k ≡ length (log_words older) + k = let long = length-log_words older in omega (arith, long) in
    ap (λ (n : ℕ). get_or (log_words (older ++ r ∷ newer)) n 0) place
    ∙ (ap (λ (ws : List ℕ). get_or ws (length (log_words older) + k) 0) (log_words-append older (r ∷ newer))
    ∙ get_or-append-add (log_words older) (log_words (r ∷ newer)) k 0)

-- a record of the page that the seat reads
pub record IsItsRecord (records : List Record) (left : ℕ) (r : Record) : Type 0 where
  pub older : List Record
  pub newer : List Record
  pub whole : records ≡ older ++ r ∷ newer
  pub many : length older ≡ left

module _ {me : SeatState} {word : ℕ} {page : PlainPage} (is : ReadsVersion me word page) where
  abbrev pub its_records : List Record
  its_records = is.version.records

  -- as many as the page word says
  pub count_is : length its_records ≡ (records_in word).count
  count_is = ap (λ (r : Records). r.count) is.version.counts

  pub few_records : length its_records ≤ MAX_RECORDS
  few_records = (is.version.logged is.lawful).few

  pub behind_long : length me.0.behind ≡ 2 * length its_records
  behind_long = ap length is.version.words ∙ length-log_words its_records

  -- they stand in the row
  pub all_inside : 6 + 2 * (length is.base.entries + length its_records) ≤ ROW_WORDS
  all_inside = let room = (is.version.logged is.lawful).room in let long = length-row_words is.base its_records in omega (arith, room, long)

  pub few_entries : length is.base.entries ≤ MAX_FAN
  few_entries = (is.version.logged is.lawful).lawful.at_most_fan

  pub base_long : length (page_words is.base) ≡ 6 + 2 * length is.base.entries
  base_long = length-page_words is.base

  module _ (left : ℕ) (r : Record) (its : IsItsRecord its_records left r) where
    pub is_one : left < length its_records
    is_one =
        let long : length its_records ≡ length its.older + length (r ∷ its.newer) = ap length its.whole ∙ length-append its.older (r ∷ its.newer) in
        let many = its.many in
        omega (arith, long, many)

    pub key_behind : slice_index me.0.behind (2 * left) ≡ r.key
    key_behind =
        let place : 2 * left ≡ 2 * length its.older + 0 = let many = its.many in omega (arith, many) in
        ap (λ (n : ℕ). get_or me.0.behind n 0) place ∙ (ap (λ (ws : List ℕ). get_or ws (2 * length its.older + 0) 0) (is.version.words ∙ ap log_words its.whole) ∙ word_of_record its.older r its.newer 0)

    pub pointer_behind : slice_index me.0.behind (2 * left + 1) ≡ r.pointer
    pointer_behind =
        let place : 2 * left + 1 ≡ 2 * length its.older + 1 = let many = its.many in omega (arith, many) in
        ap (λ (n : ℕ). get_or me.0.behind n 0) place ∙ (ap (λ (ws : List ℕ). get_or ws (2 * length its.older + 1) 0) (is.version.words ∙ ap log_words its.whole) ∙ word_of_record its.older r its.newer 1)

    -- the page word says its kind
    pub counted_there : counted (its.older ++ r ∷ its.newer) ≡ records_in word
    counted_there = ap counted (sym its.whole) ∙ is.version.counts

-- the newest record of a key says what the page has for it
pub says_newest : {me : SeatState} {word : ℕ} {page : PlainPage} (is : ReadsVersion me word page) (key left : ℕ) → (next : HasNext key is.version.records left) → next.r.key ≡ key → IsSaid key page (pointer_after next.r)
says_newest {me} {word} {page} is key left next same =
    let logged = is.version.logged is.lawful in
    let fit = subst (λ (rs : List Record). AllFit MAX_FAN is.base rs) next.whole logged.all_fit in
    let head = same_head is.version in
    let belongs : IsKeyOf is.base key = subst (IsKeyOf is.base) same (own_key MAX_FAN is.base next.older next.r next.newer logged.lawful fit) in
    let leaf = (fits_next MAX_FAN is.base next.older next.r next.newer fit).leaf in record {
      maps = ap (λ (p : PlainPage). value_at key p.entries) is.version.is ∙ next_says MAX_FAN is.base key is.version.records left logged.lawful logged.all_fit next same;
      belongs = let below = belongs.1 in let high = head.high in omega (arith, below, high);
      leaf = head.level ∙ leaf;
    }

-- ---- the record at a place

abbrev no_record : Record
no_record = record { kind = Replaced; key = 0; pointer = 0 }

-- the records up to one, this one, and those behind it
pub record_at : (records : List Record) (older : ℕ) → older < length records → (r : Record) × IsItsRecord records older r × (take (older + 1) records ≡ take older records ++ r ∷ []) × (records ≡ take older records ++ r ∷ drop (older + 1) records)
record_at records older inside =
    let r : Record = get_or records older no_record in
    let more = take_more records older no_record inside in
    let whole : records ≡ take older records ++ r ∷ drop (older + 1) records = sym (take-append-drop (older + 1) records) ∙ (ap (λ (front : List Record). front ++ drop (older + 1) records) more ∙ append_assoc (take older records) (r ∷ []) (drop (older + 1) records)) in (
      r,
      record { older = take older records; newer = drop (older + 1) records; whole = whole; many = length-take-le older records (omega (arith, inside)) },
      more,
      whole,
    )

-- the loaded words and kind are those of this record
pub same_record : (kind : Kind) (key pointer : ℕ) (r : Record) → kind ≡ r.kind → key ≡ r.key → pointer ≡ r.pointer → record { kind = kind; key = key; pointer = pointer } ≡ r
same_record kind key pointer r same_kind same_key same_pointer = λ i. record { kind = same_kind i; key = same_key i; pointer = same_pointer i }

-- it fits the page that the records before it leave, and makes the next one of it
pub fits_there : {me : SeatState} {word : ℕ} {page : PlainPage} (is : ReadsVersion me word page) (older : ℕ) (inside : older < length is.version.records) → Fits MAX_FAN (page_with is.base (take older is.version.records)) (record_at is.version.records older inside).0
fits_there is older inside =
    let at = record_at is.version.records older inside in
    let fit = subst (AllFit MAX_FAN is.base) at.3 (is.version.logged is.lawful).all_fit in
    fits_next MAX_FAN is.base (take older is.version.records) at.0 (drop (older + 1) is.version.records) fit

pub one_applied : {me : SeatState} {word : ℕ} {page : PlainPage} (is : ReadsVersion me word page) (older : ℕ) (inside : older < length is.version.records) → page_after (page_with is.base (take older is.version.records)) (record_at is.version.records older inside).0 ≡ page_with is.base (take (older + 1) is.version.records)
one_applied is older inside =
    let at = record_at is.version.records older inside in
    sym (page_more is.base (take older is.version.records) at.0) ∙ ap (page_with is.base) (sym at.2)

-- ---- the loads of its words

module _ (counts : PlainCounts) {me now : SeatState} {word start row : ℕ} {page : PlainPage} (is : ReadsVersion me word page) (same : now ≡ me) (begins : start ≡ row_start counts row) (names : row ≡ row_in word) where
  abbrev Loads : ℕ → ℕ → Type 0
  Loads place loaded = (its : ℕ) (content : List ℕ) (i : ℕ) → start ≡ row_start counts its → now.0.reads ≡ Some (its, content) → place ≡ length content + i → i < length now.0.behind → loaded ≡ slice_index now.0.behind i

  behind_loaded : (place loaded i : ℕ) → place ≡ 6 + 2 * length is.base.entries + i → i < 2 * length is.version.records → Loads place loaded → loaded ≡ slice_index me.0.behind i
  behind_loaded place loaded i at inside loads =
      let base = base_long is in
      let long = behind_long is in
      let as_long : length now.0.behind ≡ length me.0.behind = ap (λ (x : SeatState). length x.0.behind) same in
      loads (row_in word) (page_words is.base) i (begins ∙ ap (row_start counts) names) (ap (λ (x : SeatState). x.0.reads) same ∙ is.reads) (omega (arith, at, base)) (omega (arith, inside, long, as_long))
      ∙ ap (λ (x : SeatState). slice_index x.0.behind i) same

  module _ (left : ℕ) (r : Record) (its : IsItsRecord is.version.records left r) (place loaded : ℕ) where
    pub key_loaded : place ≡ 6 + 2 * (length is.base.entries + left) → Loads place loaded → loaded ≡ r.key
    key_loaded at loads = let one = is_one is left r its in behind_loaded place loaded (2 * left) (omega (arith, at)) (omega (arith, one)) loads ∙ key_behind is left r its

    pub pointer_loaded : place ≡ 6 + 2 * (length is.base.entries + left) + 1 → Loads place loaded → loaded ≡ r.pointer
    pointer_loaded at loads = let one = is_one is left r its in behind_loaded place loaded (2 * left + 1) (omega (arith, at)) (omega (arith, one)) loads ∙ pointer_behind is left r its

-- the row tells how many entries the base has
pub base_counted : (counts : PlainCounts) {me : SeatState} {word start row loaded : ℕ} {page : PlainPage} (is : ReadsVersion me word page) → start ≡ row_start counts row → row ≡ row_in word
    → ((its : ℕ) (content : List ℕ) → start ≡ row_start counts its → me.0.reads ≡ Some (its, content) → 5 < length content → loaded ≡ slice_index content 5) → loaded ≡ length is.base.entries
base_counted counts {me} {word} is begins names loads = loads (row_in word) (page_words is.base) (begins ∙ ap (row_start counts) names) is.reads (omega arith)
