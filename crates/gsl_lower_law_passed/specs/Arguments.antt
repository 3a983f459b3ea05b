-- Arguments of functions, by the way in which they are passed (GLSL 4.50, 6.1.1).
use Rattle.std.specs.Prelude.{◌≡◌, ◌≢◌, true, false, List, [], ◌∷◌, length, Some, None}
use Rattle.gsl_base.specs.declared.input.Input.{Input}
use Rattle.gsl_types.specs.Known.{IsSound}
use Rattle.gsl_types.specs.declared.ty.Direction.{Direction}
use Rattle.gsl_types.specs.declared.ty.Direction.TheVariants.{In, Out, InOut}
use Rattle.gsl_types.specs.declared.ty.Ty.{Ty}
use Rattle.gsl_types.specs.declared.ty.Ty.TheVariants.{Void}
use Rattle.gsl_words.specs.declared.module.Module.{Module}
use Rattle.gsl_values.specs.declared.value.Value.{Value}
use Rattle.gsl_tree.specs.Around.{Around}
use Rattle.gsl_tree.specs.Shapes.{Shape, shape_of}
use Rattle.gsl_tree.specs.Values.{is_value_of, zero_value}
use Rattle.gsl_tree.specs.declared.program.Program.{Program}
use Rattle.gsl_meaning.specs.Expressions.{Meant}
use Rattle.gsl_meaning.specs.Running.{given}
use Rattle.gsl_valid.specs.Valid.{Valid}
use Rattle.gsl_spv.specs.Sections.{Sections}
use Rattle.gsl_typed_law.specs.Plain.{ArePlain}
use Rattle.gsl_lower_text.specs.Written.{Written}
use Rattle.gsl_lower_law.specs.Operands.{converted_value}
use Rattle.gsl_lower_expr.specs.Calls.{zeros}
use Rattle.gsl_lower_expr.specs.Parts.{Lower, scalar_of}
use Rattle.gsl_lower_follows.specs.Frames.{Frame}
use Rattle.gsl_lower_follows.specs.Giving.{GivesValue}
use Rattle.gsl_lower_law_gathered.specs.Gathering.{AreShaped, HasValues}
use Rattle.gsl_lower_law_stored.specs.Buffers.{KnowsBuffers}
use Rattle.gsl_lower_reaching.specs.Reaching.{GivesPlace, Start}
use Rattle.gsl_lower_reaching.specs.Reaching.Start.{OfBlock}

module _ (m : Module) (input : Input) (whole : Sections) (f : Frame m input whole) (p : Program) (around : Around) where
  -- An argument gives the value with which a parameter of a type begins.
  pub record GoesIn (t : Ty) (e : Lower) (x : Meant) : Type 0 where
    pub real : t ≢ Void
    pub gives : GivesValue m input whole f p around e.traits.splits t e.value x.value

  -- An argument leads to a place that may be written, in a variable or in a block whose buffers are known, to which the value that a parameter of a type has at the end comes back as one of the place's own type: with the same words.
  pub record ComesBack (t : Ty) (e : Lower) (x : Meant) : Type 0 where
    pub real : t ≢ Void
    pub sound : IsSound (length p.structs) t
    pub sound_place : IsSound (length p.structs) e.ty
    pub real_place : e.ty ≢ Void
    pub meant : x.ty ≡ e.ty
    pub start : Start
    pub knows : start ≡ OfBlock → KnowsBuffers m input whole f p
    pub leads : GivesPlace m input whole f p around e.traits.splits start true e.ty e.reach x.access
    pub some : (v : Value) × (is_value_of p.structs e.ty v ≡ true)
    pub fits : (v : Value) → is_value_of p.structs t v ≡ true → is_value_of p.structs e.ty v ≡ true
    pub words : (shape : Shape) (v : Value) → shape_of t ≡ Some shape → is_value_of p.structs t v ≡ true → converted_value (scalar_of e.ty) v ≡ v

  -- Zeros are a value of a type, and what is lowered for them gives them.
  pub record HasZeros (t : Ty) : Type 0 where
    pub typed : is_value_of p.structs t (zero_value p.structs t) ≡ true
    pub gives : GivesValue m input whole f p around false t (zeros t) (given (zero_value p.structs t))

  -- What is known of a module, and of the type of a struct or an array, for it to be read whole, in blocks too.
  pub record KnowsWhole (t : Ty) : Type 0 where
    pub valid : Valid m
    pub written : Written m whole
    pub shaped : AreShaped m input whole f p around
    pub plain : ArePlain p.structs
    pub values : HasValues m p.structs f.place t

  -- An argument serves a parameter that is passed so.
  abbrev pub Serves : Direction → Ty → Lower → Meant → Type 0
  Serves In t e x = GoesIn t e x
  Serves Out t e x = ComesBack t e x × HasZeros t
  Serves InOut t e x = (c : ComesBack t e x) × (e.ty ≡ t) × (shape_of e.ty ≡ None → KnowsWhole e.ty)

  -- Arguments serve parameters, in their order.
  abbrev pub AllServe : List (Direction × Ty) → List Lower → List Meant → Type 0
  AllServe [] [] [] = Unit {0}
  AllServe [] [] (x ∷ xs) = ⊥
  AllServe [] (e ∷ es) xs = ⊥
  AllServe (param ∷ params) [] xs = ⊥
  AllServe (param ∷ params) (e ∷ es) [] = ⊥
  AllServe (param ∷ params) (e ∷ es) (x ∷ xs) = Serves param.0 param.1 e x × AllServe params es xs
