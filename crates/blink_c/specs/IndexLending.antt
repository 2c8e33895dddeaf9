-- What the handle of an index is once the index that it lent comes back.
use Rattle.std.specs.Borrow.{Lends, MutBor, Fml}
use Rattle.blink_index.specs.contracts.index.Index as index
use Rattle.blink_c.specs.declared.index_handle.IndexHandle.{IndexHandle}
use Rattle.blink_c.specs.contracts.index_handle.IndexHandle.{the_row}

-- h with the index w
abbrev pub with_value : IndexHandle → index.the_row.Denot → IndexHandle
with_value h w = record h { value = w }

-- h ends with the last of these behind r
abbrev pub LendsValue : MutBor IndexHandle → MutBor index.the_row.Denot → Fml
LendsValue h r = Lends the_row index.the_row h r (with_value h.now)
