-- What it is for an expression's lowering to fit, wherever it stands in the code of a function.
use Rattle.std.specs.Prelude.{ℕ, Bool, List}
use Rattle.gsl_tree.specs.Shapes.{Shape}
use Rattle.gsl_spv.specs.Sections.{Sections}
use Rattle.gsl_lower_holders.specs.Flow.{Emit, Flow}
use Rattle.gsl_fitting.specs.Fits.{Frame}
use Rattle.gsl_fitting_flow.specs.Flowing.{EmitStays, Flows, GivesOf, IsLater}
use Rattle.gsl_fitting_types.specs.Making.{IsSized, IsTypeOf}

module _ (whole : Sections) (main : ℕ) (local_size : List ℕ) (rank : ℕ → ℕ) (f : Frame) where
  -- From wherever a flow comes behind another, what a part of lowering gives is so. It takes holders of these types, and so many constructs
  -- nest within it.
  pub record Yields {A : Type 0} (s : Flow) (asks : List ℕ) (deep : ℕ) (splits : Bool) (Is : A → List ℕ → Flow → Type 0) (part : Emit A) : Type 0 where
    pub stays : (u : Flow) → EmitStays u (part u)
    pub flows : (given : List ℕ) (u : Flow) → IsLater s u → Flows whole main local_size rank f asks deep splits given Is u (part u)

  -- It gives a value of a type.
  abbrev pub Evaluates : Flow → List ℕ → ℕ → Bool → ℕ → Emit ℕ → Type 0
  Evaluates s asks deep splits type value = Yields s asks deep splits (GivesOf whole main local_size rank f type) value

  -- A type is that of a scalar or vector of a shape.
  pub record IsPlain (shape : Shape) (type : ℕ) : Type 0 where
    pub sized : IsSized shape
    pub of : IsTypeOf whole shape type
