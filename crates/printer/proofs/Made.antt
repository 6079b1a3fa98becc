-- The types of the references and slices that a body makes.
use package.mir.Syntax.{Ty, erased, imm, mut, ty_ref}
use denote.RattleType.{RattleType}
use denote.Memory.{pointee}
use denote.Slice.{slice_ty}

abbrev pub ref_to : RattleType → Ty
ref_to Q = ty_ref erased mut (pointee Q.written)

abbrev pub slice_to : RattleType → Ty
slice_to Q = slice_ty (ref_to Q)

abbrev pub shr_to : RattleType → Ty
shr_to Q = ty_ref erased imm (pointee Q.written)

abbrev pub shr_slice_to : RattleType → Ty
shr_slice_to Q = slice_ty (shr_to Q)
