-- Cited by the handwritten proofs of `get_mut`, `at_mut` and `at_index_mut`, which lend a value inside a value.
pub use Rattle.std.proofs.Common.{[], ◌∷◌, refl}
pub use Rattle.std.proofs.raw_atomic.Walks.{proved, leaves}
pub use base.Fraction.{full_share}
pub use base.Logic.{id⊢, emp}
pub use base.Fml.{Lft, ftrue, flft}
pub use contract.BorrowLft.{◌⊑◌}
pub use mathlib.Core.List.{not-mem-nil}
pub use contract.Monad.{fact, fact_i}
pub use contract.Running.{tables}
pub use types.Kit.{‵, raw, ◌⊛◌, some, later, ◌$◌, ◌∵◌, !, qed, by, move, keep, drop, use0, use1, use2, split, join}
pub use types.Kit.{fjoin, pick, await}
pub use types.Run.{enter, addr, stop, no_more, and_then, returns}
pub use types.ByLocal.{alloc_all, pass_all, free_all, look_at, get, through, sets, lands_as}
pub use denote.Builtin.{RefMutOf, usize}
pub use denote.Text.{StrRefOf}
pub use denote.Exit.{yes, no}
pub use denote.RattleType.{RattleType, Valss, owns}
pub use denote.Ref.{MutRef, mut_vals, mut_Tells}
pub use denote.Enum.Loose.{row_lawful}
use denote.Struct.Loose.{Loose, loosen}
use denote.Struct.Field.{mut_ref_field}
use denote.Struct.Laws.{mut_ref_laws}
pub use denote.Struct.Laws.{vals, tells}
pub use denote.Slice.{shr_slice_vals}
pub use denote.Signature.{plain, type_at, types_at}
pub use denote.Steps.{nothing, peeks}
pub use denote.Laws.{Is, shows}
pub use denote.Triple.Call.{calls_at}
pub use denote.Triple.Clauses.{lasts, Lasts, at_exit}
pub use denote.Triple.Spec.{triple_of}
pub use denote.Triple.Table.{framed}
pub use denote.Triple.Walked.{Stays, walk_of, stay_dropped, Goes-dropped, Goes-spent_ref}
pub use mir.Syntax.{named, w64}
pub use contract.Lifetimes.{Lfts, Shares}
pub use denote.Param.Laws.{row_loose}
pub use denote.Plain.{uint_vals, uint_Tells}
use Rattle.jzon_tree.specs.contracts.value.JsonValue.{the_row as J}

-- each lifetime is within [], which never ends
pub within_static : (κ : Lft) → κ ⊑ []
within_static κ a m = absurd (not-mem-nil m)

-- a `&mut` to a value, as the field of an enum
pub lent_field : (κ : Lft) → Loose (mut_ref_field (record { mir = named 0; lft = κ }) J tt)
lent_field κ = loosen (mut_ref_field (record { mir = named 0; lft = κ }) J tt)
    (mut_ref_laws (record { mir = named 0; lft = κ }) J tt)
