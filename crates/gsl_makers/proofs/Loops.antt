-- What loops over arguments keep.
use Rattle.std.proofs.Common.{◌≡◌, refl, sym, ap, ℕ, zero, suc, ◌<◌, ◌≤◌, List, [], ◌∷◌, ◌++◌, length, take, drop, Option, Some, None, true, false, append_assoc, arith}
use Rattle.gsl_types.specs.declared.ty.Member.{Member}
use Rattle.gsl_tree.specs.declared.expr.Expr.{Expr}
use Rattle.gsl_tree.specs.Shapes.{Shape}
use Rattle.gsl_tree.specs.Expressions.{shapes_with, supplies}
use Rattle.gsl_typing.specs.declared.scene.Part.{Part}
use Rattle.gsl_makers.specs.Constructors.{each_serves, as_members}

-- shapes behind those that were found
abbrev pub shapes_behind : List Shape → Option (List Shape) → Option (List Shape)
shapes_behind found None = None
shapes_behind found (Some shapes) = Some (found ++ shapes)

pub behind_more : (found : List Shape) (shape : Shape) (rest : Option (List Shape)) → shapes_behind found (shapes_with (Some shape) rest) ≡ shapes_behind (found ++ shape ∷ []) rest
behind_more found shape None = refl
behind_more found shape (Some shapes) = ap Some (sym (append_assoc found (shape ∷ []) shapes))

pub behind_none : (found : List Shape) (rest : Option (List Shape)) → shapes_behind found (shapes_with None rest) ≡ None
behind_none found None = refl
behind_none found (Some shapes) = refl

pub none_serves : (members : List Member) → each_serves members [] ≡ true
none_serves [] = refl
none_serves (member ∷ members) = refl

pub none_converted : (members : List Member) → as_members members [] ≡ []
none_converted [] = refl
none_converted (member ∷ members) = refl

pub nothing_more : (shapes : List Shape) (k : ℕ) → k < length shapes → supplies 0 (drop k shapes) ≡ false
nothing_more [] k lt = let never : ⊥ = omega (arith, lt) in elim never [ ]
nothing_more (shape ∷ shapes) zero lt = refl
nothing_more (shape ∷ shapes) (suc k) lt = nothing_more shapes k (omega (arith, lt))

pub all_dropped : {A : Type 0} (xs : List A) (k : ℕ) → length xs ≤ k → drop k xs ≡ []
all_dropped [] zero le = refl
all_dropped [] (suc k) le = refl
all_dropped (x ∷ xs) zero le = let never : ⊥ = omega (arith, le) in elim never [ ]
all_dropped (x ∷ xs) (suc k) le = all_dropped xs k (omega (arith, le))

pub all_taken : {A : Type 0} (xs : List A) (k : ℕ) → length xs ≤ k → take k xs ≡ xs
all_taken [] zero le = refl
all_taken [] (suc k) le = refl
all_taken (x ∷ xs) zero le = let never : ⊥ = omega (arith, le) in elim never [ ]
all_taken (x ∷ xs) (suc k) le = ap (λ l. x ∷ l) (all_taken xs k (omega (arith, le)))

pub length_taken : {A : Type 0} (xs : List A) (k : ℕ) → k ≤ length xs → length (take k xs) ≡ k
length_taken xs zero le = refl
length_taken [] (suc k) le = let never : ⊥ = omega (arith, le) in elim never [ ]
length_taken (x ∷ xs) (suc k) le = ap suc (length_taken xs k (omega (arith, le)))
