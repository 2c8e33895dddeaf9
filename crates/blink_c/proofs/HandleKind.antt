-- What differs between the kinds of handle, and what each has to show. A handle is a pointer beside the heap, and owns what a box at its
-- pointer owns, so the steps for a box serve here. A lemma over a kind is one function's proof for each.
use mathlib.Core.List.{List, [], ◌∷◌}
use mathlib.Core.Path.{◌≡◌, refl}
use mir.Syntax.{Sym, Ty, impl, named, tcons, tnil, dnil, ty_ptr, ty_struct}
use mir.Raw.{raw}
use mir.Val.{Val}
use base.Fml.{Lft, ftrue, fsep}
use contract.BorrowLft.{◌⊑◌}
use denote.Exit.{no, unseen}
use denote.RattleType.{RattleType}
use denote.RawPtr.{null_ptr}
use denote.Ref.{MutRef}
use denote.Struct.Owning.{shape}
use denote.Struct.Struct.{Struct}
use denote.Param.{arg, layout}
use denote.Param.Laws.{Laws, arg_laws}
use Rattle.std.specs.Borrow.{MutBor}
use Rattle.std.specs.Prelude.{Option, None, Some}
use Rattle.std.specs.declared.boxed.Box.{Box}
use Rattle.std.specs.declared.alloc.Global.{Global}
use Rattle.std.specs.contracts.alloc.Global as Heap
use Rattle.std.specs.contracts.boxed.Box as boxed
use Rattle.std.specs.contracts.impls.GlobalAllocator.TheImpl.{ghosts, dict}
use Rattle.std.proofs.alloc.Global.TheLaws as heap
use Rattle.std.proofs.BoxSteps.Form.{Bx, B, R, owning}
use Rattle.blink_c.specs.declared.parts.Parts.{Parts}
use Rattle.blink_c.specs.contracts.parts.Parts as parts
use Rattle.blink_c.proofs.Destruct++none.drop.Symbol.{symbol}

-- a type as Rattle passes it for a type parameter, where τ is its MIR type
abbrev pub passed_as : RattleType → Ty → RattleType
passed_as R τ = arg (raw τ) no R

-- a box of it, from the C library's heap
abbrev pub box_at : (R : RattleType) (τ : Ty) → Laws (passed_as R τ) → Bx
box_at R τ L = record {
  row = passed_as R τ;
  laws = L;
  al = record {
    row = passed_as Heap.the_row (layout Heap.the_row);
    laws = arg_laws (raw (layout Heap.the_row)) no Heap.the_row heap.the_row_laws refl;
    g = ghosts;
    d = dict;
    drops = impl (symbol ∷ []) (tcons (raw (layout Heap.the_row)) tnil) dnil;
  };
}

-- a row whose MIR type is τ, so that it computes where R is unknown
abbrev pub at_type : RattleType → Ty → RattleType
at_type R τ = record {
  Denot = R.Denot;
  mir = τ ∷ [];
  written = R.written;
  reaches = R.reaches;
  lives = R.lives;
  own_val = R.own_val;
  exit = R.exit;
  coded = R.coded;
  shr_at = R.shr_at;
}

-- the MIR type of a handle or a slot
abbrev pub handle_ty : Sym → Ty
handle_ty name = ty_struct name (tcons ty_ptr (tcons (layout Heap.the_row) tnil))

-- a kind of handle. Each fact about rows holds by `refl` at a kind, where they compute
pub record Kind : Type 2 where
  -- what it owns, and the MIR type of that
  pub Owner : RattleType
  pub τ : Ty
  pub laws : Laws (passed_as Owner τ)
  pub static : [] ⊑ Owner.lives
  -- the handle's row, and the struct's name
  pub Handle : RattleType
  pub name : Sym
  -- the box that a handle stands for, and a handle with another value
  pub as_box : Handle.Denot → Box Owner.Denot Global
  pub with_value : Handle.Denot → Owner.Denot → Handle.Denot
  pub keeps : (h : Handle.Denot) (w : Owner.Denot) → as_box (with_value h w) ≡ record { ptr = (as_box h).ptr; alloc = (as_box h).alloc; value = w }
  pub owns_box : (h : Handle.Denot) (us : List Val) → Handle.own_val h us ≡ (B (box_at Owner τ laws)).own_val (as_box h) us
  -- a borrow and a box of the type as it is passed are those of the type itself
  pub lent_is : (κ : Lft) (r : MutBor Owner.Denot) (us : List Val) → (MutRef (named 0) κ (R (box_at Owner τ laws))).own_val r us ≡ (MutRef (named 0) κ (at_type Owner τ)).own_val r us
  pub box_is : (d : Box Owner.Denot Global) (us : List Val) → (B (box_at Owner τ laws)).own_val d us ≡ (boxed.the_row Owner Heap.the_row ghosts).own_val d us

abbrev pub box_of : Kind → Bx
box_of K = box_at K.Owner K.τ K.laws

-- the handle's row, which is seen no more once it is used up
abbrev pub handle_row : Kind → RattleType
handle_row K = let H = at_type K.Handle (handle_ty K.name) in record H { exit = λ k. unseen }

-- the slot of a kind: its row, the struct's name, and the slot that is full with a box
pub record SlotOf (K : Kind) : Type 2 where
  pub Slot : RattleType
  pub name : Sym
  pub value : Slot.Denot → Option K.Owner.Denot
  pub full : Box K.Owner.Denot Global → Slot.Denot
  pub fills : (d : Box K.Owner.Denot Global) → value (full d) ≡ Some d.value
  pub owns_box : (d : Box K.Owner.Denot Global) (us : List Val) → Slot.own_val (full d) us ≡ (B (box_of K)).own_val d us
  pub parts_own : (p : Parts K.Owner.Denot Global) (us : List Val)
      → (parts.the_row K.Owner Heap.the_row ghosts).own_val p us ≡ (B (box_of K)).own_val (record { ptr = p.ptr; alloc = p.alloc; value = p.value }) us

-- what a slot shows from which a call takes the handle: the slot that is empty, the box in one that is full, and the handle of a box
pub record TakesFrom (K : Kind) (S : SlotOf K) : Type 2 where
  pub empty : Global → S.Slot.Denot
  pub is_empty : (a : Global) → S.value (empty a) ≡ None
  pub owns_none : (a : Global) (us : List Val) → S.Slot.own_val (empty a) us ≡ fsep ((Struct (shape (owning (box_of K)))).own_val (null_ptr, (a, tt)) us) ftrue
  pub box_in : S.Slot.Denot → K.Owner.Denot → Box K.Owner.Denot Global
  pub owns_full : (s : S.Slot.Denot) (x : K.Owner.Denot) (us : List Val) → S.value s ≡ Some x → S.Slot.own_val s us ≡ (B (box_of K)).own_val (box_in s x) us
  pub value_in : (s : S.Slot.Denot) (x : K.Owner.Denot) → (box_in s x).value ≡ x
  pub handle : Box K.Owner.Denot Global → K.Handle.Denot
  pub handle_is : (d : Box K.Owner.Denot Global) → K.as_box (handle d) ≡ d

-- the slot's row, which is seen no more once it is used up
abbrev pub slot_row : {K : Kind} → SlotOf K → RattleType
slot_row S = let H = at_type S.Slot (handle_ty S.name) in record H { exit = λ k. unseen }
