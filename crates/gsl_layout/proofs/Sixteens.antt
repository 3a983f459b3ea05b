-- std140 counts in 16 bytes.
use Rattle.std.proofs.Common.{◌≡◌, ap, ◌∙◌, ℕ, ◌<◌, ◌%◌, max, List, [], ◌∷◌, length, arith}
use Rattle.std.specs.List.{AllByRecursion}
use Rattle.gsl_types.specs.declared.ty.Ty.{Ty}
use Rattle.gsl_types.specs.declared.ty.Ty.TheVariants as ty
use Rattle.gsl_types.specs.declared.ty.StructType.{StructType}
use Rattle.gsl_types.specs.Known.{AreStructs}
use Rattle.gsl_types.specs.Structs.{numbered}
use Rattle.gsl_types.proofs.Everywhere.{meaning_holds}
use Rattle.gsl_types.proofs.Layers.{over_struct}
use Rattle.gsl_types.proofs.Shapes.{slice_found}
use Rattle.gsl_types.proofs.Structs.{numbered_is}
use Rattle.gsl_layout.specs.Measures.{measure, measuring}
use Rattle.gsl_layout.specs.Placings.{Placed, free, largest_base, parts_behind, placed}
use Rattle.gsl_layout.specs.Raising.{std140_raises}
use Rattle.gsl_layout.specs.Rules.{IsAlignment, raise_std140}
use Rattle.gsl_layout.specs.Sixteens.{AllOf16, StridesOf16}
use Rattle.gsl_layout.specs.declared.measured.Measured.{Measured}
use Rattle.gsl_layout.proofs.Groups.{meanings, members_aligned}
use Rattle.gsl_layout.proofs.Multiples.{alignment_small}
use Rattle.gsl_layout.proofs.Placements.{actual_free, base_aligned}

all_of : (members : List (List ℕ × Measured)) (before : List Placed) → AllByRecursion (λ (e : List ℕ × Measured). StridesOf16 e.1.laid) members → AllOf16 (parts_behind before (placed [] members))
all_of [] before all = tt
all_of (member ∷ members) before all = (all.0, all_of members ((free, member.1) ∷ before) all.1)

-- the larger of an alignment and 16 is 16
sixteen : (align : ℕ) → IsAlignment align → max align 16 % 16 ≡ 0
sixteen align is = omega (arith, (alignment_small align is).1)

pub strides : (structs : List StructType) (t : Ty) → StridesOf16 (measure raise_std140 structs t).laid
strides = meaning_holds (measuring raise_std140) (λ m. StridesOf16 m.laid) tt tt (λ s. tt) (λ s n. tt) (λ a n is. (omega arith, is)) (λ a is. (omega arith, is)) (λ name members all. all_of members [] all)

pub struct_align : (structs : List StructType) (k : ℕ) → AreStructs structs → k < length structs → (measure raise_std140 structs (ty.Struct k)).align % 16 ≡ 0
struct_align structs k known below =
    let found = slice_found structs k below in
    let named = meanings raise_std140 std140_raises structs found.0.members in
    let aligned = base_aligned (placed [] named) (members_aligned raise_std140 std140_raises structs found.0.members []) in
    ap (λ (m : Measured). m.align % 16) (over_struct (measuring raise_std140) (numbered (measuring raise_std140) structs) k
    ∙ numbered_is (measuring raise_std140) structs k found.0 found.1 (known k found.0 found.1).earlier)
    ∙ ap (λ a. max a 16 % 16) (actual_free named) ∙ sixteen (largest_base (placed [] named)) aligned
