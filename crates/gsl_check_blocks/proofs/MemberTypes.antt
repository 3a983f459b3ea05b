-- The types of members: plain ones, and runtime arrays of these.
use Rattle.std.proofs.Common.{◌≡◌, ℕ, sym, ap, ◌∙◌, List, length, IsTrue}
use Rattle.std.specs.Prelude.{Bool, true, false, not, ◌&&◌}
use Rattle.std.proofs.lemmas.Bool.{true≢false}
use Rattle.gsl_types.specs.declared.ty.StructType.{StructType}
use Rattle.gsl_types.specs.declared.ty.Ty.{Ty}
use Rattle.gsl_types.specs.declared.ty.Ty.TheVariants as ty
use Rattle.gsl_types.specs.declared.ty.Ty.TheVariants.{outs-Runtime, rolls-Runtime}
use Rattle.gsl_types.specs.declared.ty.Ty.TheOpen.{Ty-F}
use Rattle.gsl_types.specs.declared.ty.Ty.TheFolds.{fold-roll-Ty}
use Rattle.gsl_types.specs.Known.{IsSound, sound, sound_kind}
use Rattle.gsl_layout.specs.Extents.{last_open, may_be_last, plain}
use Rattle.gsl_layout.proofs.Refusals.{plain_last}
use Rattle.gsl_check_expr.specs.declared.writing.Written.{Written}
use Rattle.gsl_check_expr.specs.declared.writing.Written.TheVariants.{Whole, Open}
use Rattle.gsl_check_blocks.specs.declared.frame.Frame.{Frame}
use Rattle.gsl_check_blocks.specs.Blocks.{had_type, is_misplaced_array, member_type}
use Rattle.gsl_check_blocks.specs.Stands.{IsMemberType}

runtime_sound : (n : ℕ) (e : Ty) → sound n (ty.Runtime e) ≡ sound n e
runtime_sound n e = ap (sound n) (sym (rolls-Runtime e)) ∙ fold-roll-Ty Bool (sound_kind n) (Ty-F.Runtime e)

runtime_last : (e : Ty) → may_be_last (ty.Runtime e) ≡ plain e
runtime_last e = ap (λ z. last_open z (ty.Runtime e)) (outs-Runtime e)

-- the type of a member may be that of the last one
pub may_end : (structs : List StructType) (t : Written) → IsSound (length structs) (had_type t) → IsTrue (plain (had_type t)) → IsMemberType structs (member_type t)
may_end structs (Whole t) is flat = record { sound = is; ends = plain_last t flat }
may_end structs (Open place e) is flat = record { sound = runtime_sound (length structs) e ∙ is; ends = runtime_last e ∙ flat }

-- and where others may come it is plain
pub may_go_on : (frame : Frame) (last : Bool) (t : Written) → is_misplaced_array frame last t ≡ false → IsTrue (plain (had_type t)) → last ≡ false → IsTrue (plain (member_type t))
unfolding is_misplaced_array
may_go_on frame last (Whole t) is flat more = flat
may_go_on frame last (Open place e) is flat more = let no_array : ⊥ = never frame.buffer last is more in elim no_array [ ]
  where
    never : (b l : Bool) → not (b && l) ≡ false → l ≡ false → ⊥
    never true true is more = true≢false more
    never true false is more = true≢false is
    never false true is more = true≢false is
    never false false is more = true≢false is
