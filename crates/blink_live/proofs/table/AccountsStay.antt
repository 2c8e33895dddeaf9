-- Steps that change no account keep all of them right; a step that makes changes adds them to its own seat's account.
use Rattle.std.proofs.Common.{◌≡◌, ◌≢◌, ⊎_elim, ℕ, suc, ◌<◌, Bool, List, [], ◌∷◌, ◌++◌, set, get_or, length, length-append, refl, sym, ap, ◌∙◌, subst, append_assoc, eq-eqb, ne_eqb, arith}
use Rattle.std.specs.Prelude.{All, Contains, ◌==◌, if◌then◌else◌}
use Rattle.std.proofs.lemmas.List.{append_cancel_left, get_or_append_left}
use mathlib.Core.List.{IsPrefix, append-nil}
use Rattle.std.proofs.lemmas.List.Elements.{filter-append, All-append}
use mathlib.Core.Option.{some}
use lib.ListN.{get_elem?}
use Rattle.blink_live.specs.declared.view.Account.{Account}
use Rattle.blink_live.specs.declared.view.Change.{Change}
use Rattle.blink_live.specs.declared.view.Plan.{Plan}
use Rattle.blink_live.specs.declared.view.Role.{Role}
use Rattle.blink_live.specs.declared.view.Role.TheVariants.{Pass, Spent}
use Rattle.blink_live.specs.declared.view.View.{View}
use Rattle.blink_live.specs.Accounts.{AreApart, HasSeenItsOwn, HaveAuthors, IsAccount, AreAccounts, account_of, accounts_in, accounts_of, made_at}
use Rattle.blink_live.proofs.dealt.FirstOrOneOfRest.{contains_case}
use Rattle.blink_live.proofs.table.PassesOut.{at_end}
use Rattle.blink_live.proofs.table.SeatsThatStay.{views_stay}

-- all these changes have one author
abbrev pub AreBy : ℕ → List Change → Type 0
AreBy author made = All (λ (change : Change). change.author ≡ author) made

-- of changes by one author all were made at its place, and none at another
pub made_here : (author : ℕ) (made : List Change) → AreBy author made → made_at author made ≡ made
made_here author [] by = refl
made_here author (change ∷ rest) by =
    let first : change.author ≡ author = by 0 change (omega arith) in
    ap (λ (b : Bool). if b then change ∷ made_at author rest else made_at author rest) (eq-eqb change.author author first)
    ∙ ap (λ (l : List Change). change ∷ l) (made_here author rest (λ k d inside. by (suc k) d (omega (arith, inside))))

pub made_elsewhere : (author place : ℕ) (made : List Change) → AreBy author made → place ≢ author → made_at place made ≡ []
made_elsewhere author place [] by other = refl
made_elsewhere author place (change ∷ rest) by other =
    let first : change.author ≡ author = by 0 change (omega arith) in
    ap (λ (b : Bool). if b then change ∷ made_at place rest else made_at place rest) (ne_eqb change.author place (λ e. other (sym e ∙ first)))
    ∙ made_elsewhere author place rest (λ k d inside. by (suc k) d (omega (arith, inside))) other

pub made_at-append : (place : ℕ) (log made : List Change) → made_at place (log ++ made) ≡ made_at place log ++ made_at place made
made_at-append place log made = filter-append (λ (change : Change). change.author == place) log made

pub prefix_made : (place : ℕ) (xs ys : List Change) → IsPrefix xs ys → IsPrefix (made_at place xs) (made_at place ys)
prefix_made place xs ys is = (made_at place is.0, sym (made_at-append place xs is.0) ∙ ap (made_at place) is.1)

pub nothing_more : (xs ys : List Change) → xs ++ ys ≡ [] → xs ≡ []
nothing_more [] ys is = refl
nothing_more (change ∷ xs) ys is = absurd (cc)

-- a list between two lists with the same changes made at a place has them too
pub made_between : (place : ℕ) (xs ys zs made : List Change) → IsPrefix xs ys → IsPrefix ys zs → made_at place xs ≡ made → made_at place zs ≡ made → made_at place ys ≡ made
made_between place xs ys zs made one two first last =
    let a = prefix_made place xs ys one in
    let b = prefix_made place ys zs two in
    let all : made_at place xs ++ (a.0 ++ b.0) ≡ made_at place xs ++ [] =
    sym (append_assoc (made_at place xs) a.0 b.0) ∙ (ap (λ (l : List Change). l ++ b.0) a.1 ∙ (b.1 ∙ (last ∙ (sym first ∙ sym (append-nil (made_at place xs)))))) in
    let none : a.0 ≡ [] = nothing_more a.0 b.0 (append_cancel_left (made_at place xs) (a.0 ++ b.0) [] all) in
    sym a.1 ∙ (ap (λ (l : List Change). made_at place xs ++ l) none ∙ (append-nil (made_at place xs) ∙ first))

-- the changes of a prefix were made at the places at which all were
pub authors_of_prefix : (places : ℕ) (seen log : List Change) → IsPrefix seen log → HaveAuthors places log → HaveAuthors places seen
authors_of_prefix places seen log is authors k d inside =
    let long = length-append seen is.0 in
    let whole : length (seen ++ is.0) ≡ length log = ap (λ (l : List Change). length l) is.1 in
    subst (λ (c : Change). c.author < places) (ap (λ (l : List Change). get_or l k d) (sym is.1) ∙ get_or_append_left seen is.0 d k inside) (authors k d (omega (arith, inside, long, whole)))

-- the only account of a list of one
pub only_account : (first account : Account) → Contains (first ∷ []) account → first ≡ account
only_account first account has = contains_case first [] account has (λ is. is) (λ none. let inside = none.1 in absurd (omega (arith, inside)))

-- a list of fewer than two accounts
pub one_apart : (first : Account) → AreApart (first ∷ [])
one_apart first i j d before inside = absurd (omega (arith, before, inside))

pub none_apart : AreApart []
none_apart i j d before inside = absurd (omega (arith, inside))

-- a spent seat has none, as it had none
pub no_accounts : (w : View) → w.role ≡ Spent → [] ≡ accounts_of w
no_accounts w role = ap (λ (r : Role). accounts_in r (account_of w) w.accounts) (sym role)

module _ (plan : Plan) (whose : ℕ → ℕ) (log : List Change) (views : List View) (id : ℕ) (v w : View) (at : get_elem? views id ≡ some v) (accounted : AreAccounts plan whose log views) where
  -- a seat with the accounts that it had
  pub accounts_stay : accounts_of w ≡ accounts_of v → (w.role ≡ Pass → HasSeenItsOwn w) → AreAccounts plan whose log (set views id w)
  accounts_stay same saw = record {
    authors = accounted.authors;
    nobodys = accounted.nobodys;
    accounts = views_stay (λ seat u. (account : Account) → Contains (accounts_of u) account → IsAccount whose log (suc seat) account) views id w
        (subst (λ (l : List Account). (account : Account) → Contains l account → IsAccount whose log (suc id) account) (sym same) (accounted.accounts id v at))
        (λ seat u other there. accounted.accounts seat u there);
    apart = views_stay (λ seat u. AreApart (accounts_of u)) views id w (subst AreApart (sym same) (accounted.apart id v at)) (λ seat u other there. accounted.apart seat u there);
    saw_own = views_stay (λ seat u. u.role ≡ Pass → HasSeenItsOwn u) views id w saw (λ seat u other there. accounted.saw_own seat u there);
  }

  -- a session that has seen more
  pub still_saw : IsAccount whose log (suc id) (account_of v) → (seen : List Change) → IsPrefix v.seen seen → IsPrefix seen log → v.role ≡ Pass → made_at v.place seen ≡ v.share.changes
  still_saw its seen more saw role = made_between v.place v.seen seen log v.share.changes more saw (accounted.saw_own id v at role) its.all

  pub account : v.role ≡ Pass → IsAccount whose log (suc id) (account_of v)
  account role = accounted.accounts id v at (account_of v) (subst (λ (r : Role). Contains (accounts_in r (account_of v) v.accounts) (account_of v)) (sym role) (0, omega arith, refl))

  -- a session that has made these changes
  module _ (made : List Change) (role : v.role ≡ Pass) (own : whose v.place ≡ suc id) (in_range : v.place < plan.places) (by : AreBy v.place made)
      (same_role : w.role ≡ v.role) (same_place : w.place ≡ v.place) (changes : w.share.changes ≡ v.share.changes ++ made) (seen : w.seen ≡ log ++ made) where
    its : IsAccount whose log (suc id) (account_of v)
    its = account role

    elsewhere : (place : ℕ) → place ≢ v.place → made_at place (log ++ made) ≡ made_at place log
    elsewhere place other = made_at-append place log made ∙ (ap (λ (l : List Change). made_at place log ++ l) (made_elsewhere v.place place made by other) ∙ append-nil (made_at place log))

    here : IsAccount whose (log ++ made) (suc id) (account_of w)
    here = record {
      own = ap whose same_place ∙ own;
      all = ap (λ (p : ℕ). made_at p (log ++ made)) same_place
          ∙ (made_at-append v.place log made
          ∙ (ap (λ (l : List Change). l ++ made_at v.place made) its.all
          ∙ (ap (λ (l : List Change). v.share.changes ++ l) (made_here v.place made by) ∙ sym changes)));
    }

    alone : accounts_of w ≡ account_of w ∷ []
    alone = ap (λ (r : Role). accounts_in r (account_of w) w.accounts) (same_role ∙ role)

    pub accounts_grow : AreAccounts plan whose (log ++ made) (set views id w)
    accounts_grow = record {
      authors = All-append (λ (change : Change). change.author < plan.places) log made accounted.authors (λ k d inside. let is = by k d inside in omega (arith, is, in_range));
      nobodys = λ place none. elsewhere place (λ e. let one : suc id ≡ 0 = sym own ∙ (ap whose (sym e) ∙ none) in absurd (omega (arith, one))) ∙ accounted.nobodys place none;
      accounts = views_stay (λ seat u. (account : Account) → Contains (accounts_of u) account → IsAccount whose (log ++ made) (suc seat) account) views id w
          (λ account has. subst (IsAccount whose (log ++ made) (suc id)) (only_account (account_of w) account (subst (λ (l : List Account). Contains l account) alone has)) here)
          (λ seat u other there account has.
          let was = accounted.accounts seat u there account has in
          record { own = was.own; all = elsewhere account.place (λ e. let one : suc seat ≡ suc id = sym was.own ∙ (ap whose e ∙ own) in other (omega (arith, one))) ∙ was.all });
      apart = views_stay (λ seat u. AreApart (accounts_of u)) views id w (subst AreApart (sym alone) (one_apart (account_of w))) (λ seat u other there. accounted.apart seat u there);
      saw_own = views_stay (λ seat u. u.role ≡ Pass → HasSeenItsOwn u) views id w (λ is_session. ap (made_at w.place) seen ∙ here.all) (λ seat u other there. accounted.saw_own seat u there);
    }

-- one more seat
pub accounts_longer : (plan : Plan) (whose : ℕ → ℕ) (log : List Change) (views : List View) (more : View) → ((account : Account) → Contains (accounts_of more) account → IsAccount whose log (suc (length views)) account) → AreApart (accounts_of more)
    → (more.role ≡ Pass → HasSeenItsOwn more) → AreAccounts plan whose log views → AreAccounts plan whose log (views ++ more ∷ [])
accounts_longer plan whose log views more right apart saw accounted = record {
  authors = accounted.authors;
  nobodys = accounted.nobodys;
  accounts = λ seat u there. ⊎_elim (λ (t : get_elem? views seat ≡ some u). accounted.accounts seat u t)
      (λ (t : (seat ≡ length views) × (more ≡ u)). subst (λ (x : ℕ × View). (account : Account) → Contains (accounts_of x.1) account → IsAccount whose log (suc x.0) account) (λ i. (sym t.0 i, t.1 i)) right)
      (at_end views more u seat there);
  apart = λ seat u there. ⊎_elim (λ (t : get_elem? views seat ≡ some u). accounted.apart seat u t)
      (λ (t : (seat ≡ length views) × (more ≡ u)). subst (λ (x : View). AreApart (accounts_of x)) t.1 apart)
      (at_end views more u seat there);
  saw_own = λ seat u there. ⊎_elim (λ (t : get_elem? views seat ≡ some u). accounted.saw_own seat u t)
      (λ (t : (seat ≡ length views) × (more ≡ u)). subst (λ (x : View). x.role ≡ Pass → HasSeenItsOwn x) t.1 saw)
      (at_end views more u seat there);
}

-- a place that nobody had is somebody's
pub accounts_with_place : (plan : Plan) (whose after : ℕ → ℕ) (log : List Change) (views : List View) (place owner : ℕ) → whose place ≡ 0 → after place ≡ suc owner → ((other : ℕ) → other ≢ place → after other ≡ whose other)
    → AreAccounts plan whose log views → AreAccounts plan after log views
accounts_with_place plan whose after log views place owner free taken others accounted = record {
  authors = accounted.authors;
  nobodys = λ other none.
      let apart : other ≢ place = λ e. let one : suc owner ≡ 0 = sym taken ∙ (ap after (sym e) ∙ none) in absurd (omega (arith, one)) in
      accounted.nobodys other (sym (others other apart) ∙ none);
  accounts = λ seat u there account has.
      let was = accounted.accounts seat u there account has in
      let apart : account.place ≢ place = λ e. let one : suc seat ≡ 0 = sym was.own ∙ (ap whose e ∙ free) in absurd (omega (arith, one)) in
      record { own = others account.place apart ∙ was.own; all = was.all };
  apart = accounted.apart;
  saw_own = accounted.saw_own;
}
