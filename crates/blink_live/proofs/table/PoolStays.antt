-- A step that leaves the rows and the page numbers of the pool leaves the pool.
use Rattle.std.proofs.Common.{◌≡◌, ℕ, suc, ◌+◌, ◌≤◌, None, List, sym, subst, arith}
use Rattle.std.specs.Prelude.{slice_index}
use Rattle.blink_machine.specs.TreeState.{TreeState}
use Rattle.blink_live.specs.declared.view.Plan.{Plan}
use Rattle.blink_live.specs.Rule.{HasNumbers, HasPool, HasRows, Owners}
use Rattle.blink_live.specs.Views.{span}
use Rattle.blink_live.specs.Words.{pool_page, pool_row}
use Rattle.blink_live.proofs.table.OthersKnowTheSame.{RowStays}

pub pool_stays : (plan : Plan) (old new : Owners) (words then : List ℕ) (tree_state after : TreeState) → slice_index then (pool_row plan.counts) ≡ slice_index words (pool_row plan.counts)
    → slice_index then (pool_page plan.counts) ≡ slice_index words (pool_page plan.counts)
    → ((row : ℕ) → 1 ≤ row → row ≤ plan.counts.rows → old.row row ≡ suc 0 → (new.row row ≡ suc 0) × RowStays plan words then row)
    → ((number : ℕ) → old.page number ≡ suc 0 → (new.page number ≡ suc 0) × (tree_state.pages number ≡ None → after.pages number ≡ None))
    → HasPool plan old words tree_state → HasPool plan new then after
pool_stays plan old new words then tree_state after same_row same_page rows numbers pool =
    let low = pool.rows.in_range.0 in record {
      rows = subst (λ (n : ℕ). HasRows plan new (suc 0) (span n (plan.counts.rows + 1))) (sym same_row) record {
        in_range = pool.rows.in_range;
        own = λ row from to. (rows row (omega (arith, low, from)) (omega (arith, to)) (pool.rows.own row from to)).0;
      };
      pages = subst (λ (n : ℕ). HasNumbers plan new after (suc 0) (span n plan.counts.numbers)) (sym same_page) record {
        in_range = pool.pages.in_range;
        own = λ number from to. (numbers number (pool.pages.own number from to)).0;
        free = λ number from to. (numbers number (pool.pages.own number from to)).1 (pool.pages.free number from to);
      };
    }
