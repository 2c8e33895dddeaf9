-- What a comparison of two stores tells, page by page and field by field: whether they are one.
use Rattle.std.proofs.Common.{◌≡◌, ℕ, Bool, true, false, not, ◌&&◌, eqb, Option, Some, None, List, refl, sym, ap, ◌∙◌}
use Rattle.std.specs.Bool.{Decides}
use Rattle.std.specs.Option.{option_eq}
use Rattle.std.specs.Cmp.Lexicographic.{pointwise}
use Rattle.std.proofs.lemmas.Bool.Decides.{Decides-eqb, Decides-and, Decides-like}
use Rattle.std.proofs.lemmas.Slice.Eq.{slice_eq-Decides}
use Rattle.blink_page.specs.{PlainPage}
use Rattle.blink_store.specs.Store.{PlainStore}

-- a floor or a link
same_option : (x y : Option ℕ) → Decides (option_eq eqb x y) (x ≡ y)
same_option None None = (λ same. refl, λ same. refl)
same_option None (Some n) = (λ same. cc, λ same. cc)
same_option (Some m) None = (λ same. cc, λ same. cc)
same_option (Some m) (Some n) = Decides-like (eqb m n) (λ same. ap Some same) (λ same. cc) (Decides-eqb m n)

-- an entry
same_entry : (x y : ℕ × ℕ) → Decides (eqb x.0 y.0 && eqb x.1 y.1) (x ≡ y)
same_entry x y =
    Decides-like (eqb x.0 y.0 && eqb x.1 y.1) (λ same. λ i. (same.0 i, same.1 i)) (λ same. (ap (λ (e : ℕ × ℕ). e.0) same, ap (λ (e : ℕ × ℕ). e.1) same))
    (Decides-and (eqb x.0 y.0) (eqb x.1 y.1) (Decides-eqb x.0 y.0) (Decides-eqb x.1 y.1))

-- the entries of a page
same_entries : (xs ys : List (ℕ × ℕ)) → Decides (pointwise (λ (x y : ℕ × ℕ). eqb x.0 y.0 && eqb x.1 y.1) xs ys) (xs ≡ ys)
same_entries xs ys = slice_eq-Decides same_entry xs ys (pointwise (λ (x y : ℕ × ℕ). eqb x.0 y.0 && eqb x.1 y.1) xs ys) refl

-- all of it
abbrev pub page_eq : PlainPage → PlainPage → Bool
page_eq p q =
    eqb p.level q.level
    && (option_eq eqb p.floor q.floor && (eqb p.high q.high && (option_eq eqb p.right q.right && pointwise (λ (x y : ℕ × ℕ). eqb x.0 y.0 && eqb x.1 y.1) p.entries q.entries)))

pub same_page : (p q : PlainPage) → Decides (page_eq p q) (p ≡ q)
same_page p q =
    let links = Decides-and _ _ (same_option p.right q.right) (same_entries p.entries q.entries) in
    let highs = Decides-and _ _ (Decides-eqb p.high q.high) links in
    let floors = Decides-and _ _ (same_option p.floor q.floor) highs in
    Decides-like (page_eq p q)
    (λ same. λ i. record { level = same.0 i; floor = same.1.0 i; high = same.1.1.0 i; right = same.1.1.1.0 i; entries = same.1.1.1.1 i })
    (λ same. (
      ap (λ (r : PlainPage). r.level) same,
      (
        ap (λ (r : PlainPage). r.floor) same,
        (ap (λ (r : PlainPage). r.high) same, (ap (λ (r : PlainPage). r.right) same, ap (λ (r : PlainPage). r.entries) same)),
      ),
    ))
    (Decides-and _ _ (Decides-eqb p.level q.level) floors)

-- two stores with one fan, one prime block and one list of pages are one
pub same_store : (p q : PlainStore) → p.fan ≡ q.fan → p.prime ≡ q.prime → (r : Bool) → Decides r (p.pages ≡ q.pages) → Decides r (p ≡ q)
same_store p q fans primes r decides =
    Decides-like r (λ same. λ i. record { fan = fans i; prime = primes i; pages = same i }) (λ same. ap (λ (s : PlainStore). s.pages) same) decides

true_unless : (r : Bool) → not r ≡ false → r ≡ true
true_unless true not_so = refl
true_unless false not_so = cc

-- a test that the two lists of numbers differ answers no where they are one
pub same_numbers : (xs ys : List ℕ) (differ : Bool) → differ ≡ not (pointwise eqb xs ys) → differ ≡ false → xs ≡ ys
same_numbers xs ys differ is no_difference =
    (slice_eq-Decides Decides-eqb xs ys (pointwise eqb xs ys) refl).0 (true_unless (pointwise eqb xs ys) (sym is ∙ no_difference))
