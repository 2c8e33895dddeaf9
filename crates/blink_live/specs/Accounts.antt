-- Whose changes are whose: a common table's changes are those of the accounts of its places.
use Rattle.std.specs.Prelude.{◌≡◌, ◌≢◌, ℕ, suc, ◌<◌, List, [], ◌∷◌, All, AllPairs, Contains, filter, ◌==◌}
use mathlib.Core.Option.{some}
use lib.ListN.{get_elem?}
use Rattle.blink_live.specs.declared.view.Account.{Account}
use Rattle.blink_live.specs.declared.view.Change.{Change}
use Rattle.blink_live.specs.declared.view.Plan.{Plan}
use Rattle.blink_live.specs.declared.view.Role.{Role}
use Rattle.blink_live.specs.declared.view.Role.TheVariants.{Keeper, Pass, Spent}
use Rattle.blink_live.specs.declared.view.View.{View}

-- the changes that operations at a place have made, in their order
abbrev pub made_at : ℕ → List Change → List Change
made_at place log = filter (λ (change : Change). change.author == place) log

-- each change was made at one of so many places
abbrev pub HaveAuthors : ℕ → List Change → Type 0
HaveAuthors places log = All (λ (change : Change). change.author < places) log

-- the accounts that a seat has, by its role: a session its own, and a host those of the sessions that came back
abbrev pub accounts_in : Role → Account → List Account → List Account
accounts_in Pass own back = own ∷ []
accounts_in (Keeper dealt came) own back = back
accounts_in Spent own back = []

abbrev pub account_of : View → Account
account_of v = record { place = v.place; changes = v.share.changes }

abbrev pub accounts_of : View → List Account
accounts_of v = accounts_in v.role (account_of v) v.accounts

-- the account has all changes that were made at its place, and the place is this owner's
pub record IsAccount (whose : ℕ → ℕ) (log : List Change) (owner : ℕ) (account : Account) : Type 0 where
  pub own : whose account.place ≡ owner
  pub all : made_at account.place log ≡ account.changes

-- of the changes that the seat has seen those made at its place are its own
abbrev pub HasSeenItsOwn : View → Type 0
HasSeenItsOwn v = made_at v.place v.seen ≡ v.share.changes

-- and each change that it has seen was made at one of the table's places
abbrev pub KnowsAuthors : View → Type 0
KnowsAuthors v = HasSeenItsOwn v × HaveAuthors v.plan.places v.seen

-- no two accounts are of one place
abbrev pub AreApart : List Account → Type 0
AreApart accounts = AllPairs (λ (one other : Account). one.place ≢ other.place) accounts

-- every change was made at a place; at those that nobody has none was made, each seat's accounts are right, and each session has
-- seen its own changes
pub record AreAccounts (plan : Plan) (whose : ℕ → ℕ) (log : List Change) (views : List View) : Type 0 where
  pub authors : HaveAuthors plan.places log
  pub nobodys : (place : ℕ) → whose place ≡ 0 → made_at place log ≡ []
  pub accounts : (seat : ℕ) (v : View) → get_elem? views seat ≡ some v → (account : Account) → Contains (accounts_of v) account → IsAccount whose log (suc seat) account
  pub apart : (seat : ℕ) (v : View) → get_elem? views seat ≡ some v → AreApart (accounts_of v)
  pub saw_own : (seat : ℕ) (v : View) → get_elem? views seat ≡ some v → v.role ≡ Pass → HasSeenItsOwn v
