-- The loads of a row's words tell the words that the page word's load has recorded.
use Rattle.std.proofs.Common.{◌≡◌, ℕ, ◌+◌, Option, Some, List, length, refl, sym, ap, ◌∙◌, subst, arith, length-append}
use Rattle.std.proofs.lemmas.List.{get_or-append-add, get_or_append_left}
use Rattle.std.specs.Prelude.{slice_index}
use mathlib.Core.Option.{none}
use lib.Seq.{set-get_or}
use Rattle.atomic_table.specs.Table.{step, keeps, Allows}
use Rattle.atomic_table.proofs.Lists.{set_again}
use Rattle.blink_live.specs.declared.view.Plan.{Plan}
use Rattle.blink_live.specs.declared.view.View.{View}
use Rattle.blink_live.specs.AtomicSteps.{loads_word}
use Rattle.blink_live.specs.Rule.{IsTable, IsTableAt, Owners, ReadsRow}
use Rattle.blink_live.specs.Views.{SeatState}
use Rattle.blink_live.specs.Words.{row_start}

-- what the seat reads, with the words behind it
reads_it : (plan : Plan) (owners : Owners) (words : List ℕ) (row : ℕ) (content : List ℕ) (v : View) → v.reads ≡ Some (row, content) → ReadsRow plan owners words v.reads v.behind → ReadsRow plan owners words (Some (row, content)) v.behind
reads_it plan owners words row content v is its = subst (λ (x : Option (ℕ × List ℕ)). ReadsRow plan owners words x v.behind) is its

pub reads_row_word : (plan : Plan) (slots id word : ℕ) (me : SeatState) → Allows (IsTable plan) slots id me word (λ k. k) (loads_word (step slots word 0 0 none) me)
reads_row_word plan slots id word me s table homes at small =
    let h : IsTableAt plan s table.0 = table.1 in
    let known = h.views id me.0 at in (
      me.0,
      keeps,
      tt,
      subst (λ (x : List ℕ × List View). IsTable plan record { words = x.0; homes = s.homes; views = x.1 }) (λ i. (sym (set-get_or s.words word 0) i, sym (set_again s.views id me.0 at) i)) table,
      record {
        same = refl;
        is_its = λ row i content reads inside few is.
            let its = reads_it plan h.owners s.words row content me.0 reads known.reads.0 in
            ap (slice_index s.words) (is ∙ ap (λ (p : Plan). row_start p.counts row + i) known.same_plan) ∙ (its.1 i inside (simp length-append (omega (arith, few))) ∙ get_or_append_left content me.0.behind 0 i few);
        is_behind = λ row i content reads inside few is.
            let its = reads_it plan h.owners s.words row content me.0 reads known.reads.0 in
            ap (slice_index s.words) (is ∙ ap (λ (p : Plan). row_start p.counts row + (length content + i)) known.same_plan) ∙ (its.1 (length content + i) inside (simp length-append (omega (arith, few))) ∙ get_or-append-add content me.0.behind i 0);
      },
    )
