-- How many operations of a kind a batch has in the lanes from one on: those of the lane, and those of the later ones.
use Rattle.std.proofs.Common.{◌≡◌, ℕ, zero, suc, ◌+◌, ◌<◌, ◌≤◌, List, [], ◌∷◌, length, get_or, take, count_by, sum_by, Bool, cond, Some, refl, sym, ap, ◌∙◌, subst, inl, inr, add-one, arith, ◌-◌, ◌*◌}
use Rattle.std.specs.List.{slice_get, zip}
use Rattle.std.proofs.lemmas.Bool.{cases_order, le-leb, lt-leb}
use Rattle.std.proofs.lemmas.List.{take_all}
use Rattle.std.proofs.lemmas.List.Sums.{sum_by-cons, sum_by_more, sum_by_push}
use Rattle.std.proofs.lemmas.Option.{slice_get-get_or}
use Rattle.std.proofs.lemmas.Slice.Zip.{get_or-zip, length-zip}
use Rattle.blink_batch.specs.declared.Op.{Op}
use Rattle.blink_batch.specs.declared.Op.TheVariants.{Find}
use Rattle.blink_run.specs.Lanes.{count_from, lane_ops, one_from}
use Rattle.blink_run.proofs.LaneSoFar.{lane_so_far, lane_so_far-own, lane_so_far-other, lane_so_far-all}
use Rattle.blink_page.specs.declared.limits.TheConstants.{MAX_NEW_PAGES_PER_INSERT}
use Rattle.blink_rows.specs.declared.span.Span.{Span}
use Rattle.blink_live.specs.{inserts_left, deletes_left, rows_for, span}

-- an operation in an earlier lane isn't counted
one_from-earlier : (p : Op → Bool) (worker : ℕ) (op : Op) (lane : ℕ) → lane < worker → one_from p worker (op, lane) ≡ 0
one_from-earlier p worker op lane earlier = rw (lt-leb worker lane earlier) refl

-- any other is, where it passes
one_from-later : (p : Op → Bool) (worker : ℕ) (op : Op) (lane : ℕ) → worker ≤ lane → one_from p worker (op, lane) ≡ cond (p op) 1 0
one_from-later p worker op lane later = rw (le-leb worker lane later) refl

-- from the first lane on they are all that pass
pub count_from-first : (p : Op → Bool) (ops : List Op) (lanes : List ℕ) → length lanes ≡ length ops → count_from p ops lanes 0 ≡ count_by p ops
count_from-first p [] lanes long = refl
count_from-first p (op ∷ ops) [] long = absurd (omega (arith, long))
count_from-first p (op ∷ ops) (lane ∷ lanes) long =
    let one : one_from p 0 (op, lane) ≡ cond (p op) 1 0 = one_from-later p 0 op lane (omega arith) in
    let rest : count_from p ops lanes 0 ≡ count_by p ops = count_from-first p ops lanes (omega (arith, long)) in
    let all = sum_by-cons (one_from p 0) (op, lane) (zip ops lanes) in
    let passing = sum_by-cons (λ (o : Op). cond (p o) 1 0) op ops in
    all ∙ ap (λ (n : ℕ × ℕ). n.0 + n.1) (λ i. (one i, rest i)) ∙ sym passing

module _ (p : Op → Bool) (ops : List Op) (lanes : List ℕ) (worker : ℕ) (long : length lanes ≡ length ops) where
  -- among the first places they are those of the lane and those of the later ones
  abbrev AreParted : ℕ → Type 0
  AreParted place = sum_by (one_from p worker) (take place (zip ops lanes)) ≡ count_by p (lane_so_far ops lanes worker place) + sum_by (one_from p (worker + 1)) (take place (zip ops lanes))

  -- the operation at a place is one of them, or is in an earlier lane
  parted_more : (place : ℕ) → place < length ops → AreParted place → AreParted (place + 1)
  parted_more place within so_far =
      let op = get_or ops place (Find 0) in
      let lane = get_or lanes place 0 in
      let given = zip ops lanes in
      let within_lanes : place < length lanes = omega (arith, within, long) in
      let fits : place < length given = rw (length-zip ops lanes) (omega (arith, within, within_lanes)) in
      let pair = get_or-zip ops lanes place (Find 0, 0) within within_lanes in
      let here : sum_by (one_from p worker) (take (place + 1) given) ≡ sum_by (one_from p worker) (take place given) + one_from p worker (op, lane)
      = sum_by_more (one_from p worker) given place (Find 0, 0) fits ∙ ap (λ (g : Op × ℕ). sum_by (one_from p worker) (take place given) + one_from p worker g) pair in
      let later : sum_by (one_from p (worker + 1)) (take (place + 1) given) ≡ sum_by (one_from p (worker + 1)) (take place given) + one_from p (worker + 1) (op, lane)
      = sum_by_more (one_from p (worker + 1)) given place (Find 0, 0) fits ∙ ap (λ (g : Op × ℕ). sum_by (one_from p (worker + 1)) (take place given) + one_from p (worker + 1) g) pair in
      let there : slice_get ops place ≡ Some op = slice_get-get_or ops place (Find 0) within in
      elim (cases_order lane worker) [
        | inl own ↦
            let its : slice_get lanes place ≡ Some worker = slice_get-get_or lanes place 0 within_lanes ∙ ap Some own in
            let more : count_by p (lane_so_far ops lanes worker (place + 1)) ≡ count_by p (lane_so_far ops lanes worker place) + cond (p op) 1 0
            = ap (count_by p) (lane_so_far-own ops lanes worker place op there its) ∙ sum_by_push (λ (o : Op). cond (p o) 1 0) (lane_so_far ops lanes worker place) op in
            let counted = one_from-later p worker op lane (omega (arith, own)) in
            let passed = one_from-earlier p (worker + 1) op lane (omega (arith, own)) in
            omega (arith, here, later, more, counted, passed, so_far)
        | inr (inl earlier) ↦
            let same = ap (count_by p) (lane_so_far-other ops lanes worker place within_lanes (λ own. omega (arith, own, earlier))) in
            let passed = one_from-earlier p worker op lane earlier in
            let passed_too = one_from-earlier p (worker + 1) op lane (omega (arith, earlier)) in
            omega (arith, here, later, same, passed, passed_too, so_far)
        | inr (inr after) ↦
            let same = ap (count_by p) (lane_so_far-other ops lanes worker place within_lanes (λ own. omega (arith, own, after))) in
            let counted = one_from-later p worker op lane (omega (arith, after)) in
            let counted_too = one_from-later p (worker + 1) op lane (omega (arith, after)) in
            omega (arith, here, later, same, counted, counted_too, so_far)
      ]

  parted : (place : ℕ) → place ≤ length ops → AreParted place
  parted zero within = refl
  parted (suc place) within = subst AreParted (add-one place) (parted_more place (omega (arith, within)) (parted place (omega (arith, within))))

  -- and so among all
  pub count_from-lane : count_from p ops lanes worker ≡ count_by p (lane_ops ops lanes worker) + count_from p ops lanes (worker + 1)
  count_from-lane =
      let whole : take (length ops) (zip ops lanes) ≡ zip ops lanes = take_all (length ops) (zip ops lanes) (let both = length-zip ops lanes in omega (arith, both)) in
      let lane = lane_so_far-all ops lanes worker (length ops) (omega (arith, long)) in
      sym (ap (sum_by (one_from p worker)) whole)
      ∙ parted (length ops) (omega arith)
      ∙ ap (λ (x : List Op × List (Op × ℕ)). count_by p x.0 + sum_by (one_from p (worker + 1)) x.1) (λ i. (lane i, whole i))

-- ---- what a pass is dealt of them, and what is left

-- a pass's page numbers are for the insertions that it was dealt
pub inserts_dealt : (page inserts : ℕ) → inserts_left (span page (page + MAX_NEW_PAGES_PER_INSERT * inserts)) ≡ inserts
inserts_dealt page inserts = let same : page + 22 * inserts - page ≡ 22 * inserts = omega arith in omega (arith, same)

-- and its rows, beside these, for the deletions
pub deletes_dealt : (page row inserts deletes : ℕ) → deletes_left (span page (page + MAX_NEW_PAGES_PER_INSERT * inserts)) (span row (row + rows_for inserts deletes)) ≡ deletes
deletes_dealt page row inserts deletes = let same : page + 22 * inserts - page ≡ 22 * inserts = omega arith in omega (arith, same)

module _ (pages rows : Span) (inserts deletes : ℕ) (enough_inserts : inserts ≤ inserts_left pages) where
  -- the rest is for the other insertions
  pub inserts_rest : inserts_left (span (pages.next + MAX_NEW_PAGES_PER_INSERT * inserts) pages.stop) + inserts ≡ inserts_left pages
  inserts_rest = omega (arith, enough_inserts)

  -- and for the other deletions
  pub deletes_rest : deletes ≤ deletes_left pages rows → deletes_left (span (pages.next + MAX_NEW_PAGES_PER_INSERT * inserts) pages.stop) (span (rows.next + rows_for inserts deletes) rows.stop) + deletes ≡ deletes_left pages rows
  deletes_rest enough_deletes = omega (arith, enough_inserts, enough_deletes)
