-- One session more of a map that opens.
use Rattle.std.proofs.Common.{◌≡◌, ℕ, ◌+◌, ◌<◌, List, [], ◌∷◌, ◌++◌, get_or, length, sym, ap, ◌∙◌, subst, length-append, arith}
use Rattle.std.proofs.lemmas.List.{get_or_append_left}
use mathlib.Core.Logic.{dite}
use native.Mathlib.Decide.{ℕ_discrete}
use Rattle.blink_live.specs.declared.live.Live.{Live}
use Rattle.blink_generation.specs.declared.map.Session.{Session}
use Rattle.blink_generation.specs.Opening.{AreFirst, IsFirstAt}

pub no_session : (live : Live) → AreFirst live 0 []
no_session live = record { width = λ i. 0; each = λ place d inside. absurd (omega (arith, inside)) }

last_of : (sessions : List Session) (session d : Session) → get_or (sessions ++ session ∷ []) (length sessions) d ≡ session
last_of [] session d = λ i. session
last_of (first ∷ sessions) session d = last_of sessions session d

pub one_more_session : (live : Live) (count : ℕ) (sessions : List Session) (session : Session) → AreFirst live count sessions → IsFirstAt live count session.member → AreFirst live (count + 1) (sessions ++ session ∷ [])
one_more_session live count sessions session are its = record {
  width = let long = length-append sessions (session ∷ []) in let wide = are.width in omega (arith, long, wide);
  each = λ place d inside. dite (ℕ_discrete place count)
      (λ last.
      let here : get_or (sessions ++ session ∷ []) place d ≡ session = ap (λ (k : ℕ). get_or (sessions ++ session ∷ []) k d) (last ∙ sym are.width) ∙ last_of sessions session d in
      subst (λ (x : ℕ × Session). IsFirstAt live x.0 x.1.member) (λ i. (sym last i, sym here i)) its)
      (λ other.
      let within : place < count = omega (arith, inside, other) in
      let wide = are.width in
      subst (λ (s : Session). IsFirstAt live place s.member) (sym (get_or_append_left sessions (session ∷ []) d place (omega (arith, within, wide)))) (are.each place d within));
}
