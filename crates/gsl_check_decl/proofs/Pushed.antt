-- Lists with one more at their end.
use Rattle.std.proofs.Common.{◌≡◌, ap, ℕ, ◌+◌, ◌<◌, max, drop, List, [], ◌∷◌, ◌++◌, arith}
use Rattle.std.specs.List.{AllByRecursion}
use Rattle.gsl_types.specs.declared.ty.Member.{Member}
use Rattle.gsl_types.specs.declared.ty.StructType.{StructType}
use Rattle.gsl_types.specs.Structs.{members_meaning}
use Rattle.gsl_tree.specs.Weights.{height_meaning, height_of, highest}

pub all_pushed : {X : Type 0} (P : X → Type 0) (xs : List X) (y : X) → AllByRecursion P xs → P y → AllByRecursion P (xs ++ y ∷ [])
all_pushed P [] y all is = (is, tt)
all_pushed P (x ∷ xs) y all is = (all.0, all_pushed P xs y all.1 is)

-- where one of the items of a list is higher than so much, the highest of them is
module _ (structs : List StructType) where
  pub above_all : (members : List Member) (k top most : ℕ) (x : Member) → drop k members ≡ x ∷ drop (k + 1) members
      → highest (members_meaning height_meaning structs members) ≡ max top (highest (members_meaning height_meaning structs (drop k members)))
      → most < height_of structs x.ty → most < highest (members_meaning height_meaning structs members)
  above_all members k top most x split is above =
      let here : highest (members_meaning height_meaning structs (drop k members)) ≡ max (height_of structs x.ty) (highest (members_meaning height_meaning structs (drop (k + 1) members))) =
      ap (λ l. highest (members_meaning height_meaning structs l)) split in
      omega (arith, here, is, above)
