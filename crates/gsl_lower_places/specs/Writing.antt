-- What stores a scalar or vector where an expression leads (SPIR-V 1.0, 3.32.8).
use Rattle.std.specs.Prelude.{ℕ, ◌+◌, ◌==◌, if◌then◌else◌, List, [], ◌∷◌, ◌++◌, length, Option, Some, None}
use Rattle.gsl_instr.specs.declared.op.TheConstants as op
use Rattle.gsl_tree.specs.Shapes.{Shape}
use Rattle.gsl_lower_values.specs.Building.{Step, ◌>>=◌, given, putting}
use Rattle.gsl_lower_values.specs.Constructors.{operand, picked}
use Rattle.gsl_lower_values.specs.Operators.{converted}
use Rattle.gsl_lower_values.specs.Types.{type_of}
use Rattle.gsl_lower_values.specs.declared.operand.Operand.{Operand}
use Rattle.gsl_lower_places.specs.declared.reached.Base.{Base}
use Rattle.gsl_lower_places.specs.declared.reached.Base.TheVariants.{Variable, Value}
use Rattle.gsl_lower_places.specs.declared.reached.Part.{Part}
use Rattle.gsl_lower_places.specs.declared.reached.Part.TheVariants.{Fixed}
use Rattle.gsl_lower_places.specs.declared.reached.Picked.{Picked}
use Rattle.gsl_lower_places.specs.declared.reached.Reached.{Reached}
use Rattle.gsl_lower_places.specs.Reached.{stored_shape}
use Rattle.gsl_lower_places.specs.Reading.{pointer}

-- a value in the shape in which it lies in a class
unfoldable pub in_class : ℕ → Shape → ℕ → Step ℕ
in_class class shape v = converted (stored_shape class shape).0 (operand shape v)

-- a scalar or vector is stored where parts of a variable lead
unfoldable pub put_at : ℕ → ℕ → Shape → List Part → ℕ → Step (Unit {0})
put_at id class shape parts v =
    in_class class shape v >>= (λ word. type_of (stored_shape class shape) >>= (λ type. pointer id class type parts >>= (λ to. putting op.STORE (to ∷ word ∷ []))))

-- the component of a number of a value is stored at a position of a vector, by a pointer of its own
unfoldable pub one_at : ℕ → ℕ → List Part → Operand → ℕ → ℕ → Step (Unit {0})
one_at id class parts v number position = picked v (number ∷ []) >>= put_at id class (v.shape.0, 1) (parts ++ Fixed position ∷ [])

-- so are its components from a number on, at positions in their order
unfoldable pub each_from : ℕ → ℕ → List Part → Operand → ℕ → List ℕ → Step (Unit {0})
each_from id class parts v number [] = given tt
each_from id class parts v number (position ∷ positions) = one_at id class parts v number position >>= (λ done. each_from id class parts v (number + 1) positions)

-- Several components of a vector are stored one by one: the vector is not read, which may not be allowed, and its others are not touched.
abbrev pub each_at : ℕ → ℕ → Shape → List ℕ → List Part → ℕ → Step (Unit {0})
each_at id class shape positions parts v = each_from id class parts (operand (shape.0, length positions) v) 0 positions

abbrev pub put_by : ℕ → ℕ → Shape → Option Part → List ℕ → List Part → ℕ → Step (Unit {0})
put_by id class shape None positions parts v = each_at id class shape positions parts v
put_by id class shape (Some by) positions parts v = put_at id class (shape.0, 1) (parts ++ by ∷ []) v

unfoldable pub put_picked : ℕ → ℕ → List Part → ℕ → Picked → Step (Unit {0})
put_picked id class parts v p =
    if p.shape.1 == 1 then put_at id class p.shape parts v else put_by id class p.shape p.by p.positions parts v

abbrev pub put_variable : ℕ → ℕ → List Part → Shape → ℕ → Option Picked → Step (Unit {0})
put_variable id class parts shape v None = put_at id class shape parts v
put_variable id class parts shape v (Some p) = put_picked id class parts v p

-- nothing is stored in what is no variable
abbrev pub put_in : Base → List Part → Shape → ℕ → Option Picked → Step (Unit {0})
put_in (Variable id class) parts shape v p = put_variable id class parts shape v p
put_in (Value id type) parts shape v p = given tt

-- a value of a shape, by its id, is stored
unfoldable pub stored : Shape → Reached → ℕ → Step (Unit {0})
stored shape reached v = put_in reached.base reached.path shape v reached.picked
