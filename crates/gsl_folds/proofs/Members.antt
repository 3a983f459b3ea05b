-- Lists of members with one more.
use Rattle.std.proofs.Common.{ℕ, IsTrue, List, ◌++◌, ◌∷◌, []}
use Rattle.std.specs.List.{AllByRecursion}
use Rattle.gsl_types.specs.Known.{IsSound}
use Rattle.gsl_types.specs.declared.ty.Member.{Member}
use Rattle.gsl_layout.specs.Extents.{AreMembers, may_be_last, plain}

abbrev pub AllSound : ℕ → List Member → Type 0
AllSound count = AllByRecursion (λ (m : Member). IsSound count m.ty)

abbrev pub AllPlain : List Member → Type 0
AllPlain = AllByRecursion (λ (m : Member). IsTrue (plain m.ty))

pub more : (P : Member → Type 0) (ms : List Member) (m : Member) → AllByRecursion P ms → P m → AllByRecursion P (ms ++ m ∷ [])
more P [] m all is = (is, tt)
more P (x ∷ ms) m all is = (all.0, more P ms m all.1 is)

pub with_last : (ms : List Member) (m : Member) → AllPlain ms → IsTrue (may_be_last m.ty) → AreMembers (ms ++ m ∷ [])
with_last [] m all is = is
with_last (x ∷ []) m all is = (all.0, is)
with_last (x ∷ y ∷ ms) m all is = (all.0, with_last (y ∷ ms) m all.1 is)
