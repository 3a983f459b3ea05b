-- One pointer for what is read and then stored.
use Rattle.std.specs.Prelude.{ℕ, Bool, true, false, ◌==◌, if◌then◌else◌, List, [], ◌∷◌, ◌++◌, Option, Some, None}
use Rattle.gsl_tree.specs.Shapes.{Shape}
use Rattle.gsl_lower_values.specs.Building.{Step, ◌>>=◌, given}
use Rattle.gsl_lower_values.specs.Types.{type_of}
use Rattle.gsl_lower_places.specs.declared.reached.Base.{Base}
use Rattle.gsl_lower_places.specs.declared.reached.Base.TheVariants.{Variable, Value}
use Rattle.gsl_lower_places.specs.declared.reached.Part.{Part}
use Rattle.gsl_lower_places.specs.declared.reached.Part.TheVariants.{Fixed}
use Rattle.gsl_lower_places.specs.declared.reached.Picked.{Picked}
use Rattle.gsl_lower_places.specs.declared.reached.Reached.{Reached}
use Rattle.gsl_lower_places.specs.Reached.{stored_shape}
use Rattle.gsl_lower_places.specs.Reading.{pointer}

abbrev pub pointed_to : ℕ → ℕ → Shape → List Part → Option Picked → Step Reached
pointed_to id class shape parts picked =
    type_of (stored_shape class shape) >>= (λ type. pointer id class type parts >>= (λ to. given (record { base = Variable to class; path = []; picked = picked })))

-- one component alone is what the pointer leads to
abbrev pub pointed_at : ℕ → ℕ → List Part → Picked → List ℕ → Step Reached
pointed_at id class parts p (position ∷ []) = pointed_to id class (p.shape.0, 1) (parts ++ Fixed position ∷ []) None
pointed_at id class parts p positions = pointed_to id class p.shape parts (Some p)

abbrev pub pointed_by : ℕ → ℕ → List Part → Picked → Option Part → Step Reached
pointed_by id class parts p None = pointed_at id class parts p p.positions
pointed_by id class parts p (Some by) = pointed_to id class (p.shape.0, 1) (parts ++ by ∷ []) None

-- what is picked of a scalar is that scalar
abbrev pub pointed_picked : ℕ → ℕ → List Part → Picked → Step Reached
pointed_picked id class parts p = if p.shape.1 == 1 then pointed_to id class p.shape parts None else pointed_by id class parts p p.by

abbrev pub pointed_if : ℕ → ℕ → List Part → Shape → Option Picked → Step Reached
pointed_if id class parts shape None = pointed_to id class shape parts None
pointed_if id class parts shape (Some p) = pointed_picked id class parts p

abbrev pub pointed_from : Reached → Shape → Base → Step Reached
pointed_from r shape (Variable id class) = pointed_if id class r.path shape r.picked
pointed_from r shape (Value id type) = given r

-- What an expression leads to, of a scalar or vector of this shape, by one pointer to it: a component of a vector by a pointer to that
-- component, several components by one to their vector.
unfoldable pub pointed : Shape → Reached → Step Reached
pointed shape r = pointed_from r shape r.base

-- ---- what is read and then stored

abbrev pub several_by : Option Part → List ℕ → Bool
several_by None (position ∷ []) = false
several_by None positions = true
several_by (Some by) positions = false

-- whether several components of a vector are picked, or none
abbrev pub picks_several : Option Picked → Bool
picks_several None = false
picks_several (Some p) = if p.shape.1 == 1 then false else several_by p.by p.positions

-- One pointer serves to read and to store. Several components have none, since each is stored by its own, and a chain begins at no chain: they stay as they are.
unfoldable pub to_renew : Shape → Reached → Step Reached
to_renew shape r = if picks_several r.picked then given r else pointed shape r
