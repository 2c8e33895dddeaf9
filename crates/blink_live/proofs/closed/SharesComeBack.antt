-- The keeper takes back one pass after another.
use Rattle.std.proofs.Common.{◌≡◌, ℕ, suc, ◌+◌, List, [], ◌∷◌, ◌++◌, length, refl, ap, arith}
use Rattle.blink_live.specs.declared.view.Role.{Role}
use Rattle.blink_live.specs.declared.view.Role.TheVariants.{Keeper, Pass, Spent}
use Rattle.blink_live.specs.declared.view.Share.{Share}
use Rattle.blink_live.specs.declared.view.View.{View}
use Rattle.blink_live.specs.Views.{takes_one, takes_more, takes_back, takes_all_back}

takes_none : (role : Role) → takes_more role 0 ≡ role
takes_none (Keeper dealt back) = let same : back + 0 ≡ back = omega arith in ap (λ (n : ℕ). let r : Role = Keeper dealt n in r) same
takes_none Pass = refl
takes_none Spent = refl

takes_one_more : (role : Role) (more : ℕ) → takes_one (takes_more role more) ≡ takes_more role (suc more)
takes_one_more (Keeper dealt back) more = let same : suc (back + more) ≡ back + suc more = omega arith in ap (λ (n : ℕ). let r : Role = Keeper dealt n in r) same
takes_one_more Pass more = refl
takes_one_more Spent more = refl

pub none_back : (v : View) → takes_all_back v [] ≡ v
none_back v = ap (λ (r : Role). record v { role = r }) (takes_none v.role)

pub one_more_back : (v w : View) (shares : List Share) → takes_back (takes_all_back v shares) w ≡ takes_all_back v (w.share ∷ shares)
one_more_back v w shares = ap (λ (r : Role). record v { role = r; back = w.share ∷ (shares ++ v.back) }) (takes_one_more v.role (length shares))
