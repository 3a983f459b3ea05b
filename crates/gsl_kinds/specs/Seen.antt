-- What code holds of an instruction, seen as the kinds of the rules.
use Rattle.gsl_valid.specs.Kinds as kinds
use Rattle.std.specs.Prelude.{ℕ, Bool, Option, Some, None}
use Rattle.gsl_valid.specs.Types as types
use Rattle.gsl_words.specs.declared.module.Module.{Module}
use Rattle.gsl_valid.specs.ConstantRules.{is_constant_of}
use Rattle.gsl_kinds.specs.declared.parts.Parts.{Parts}
use Rattle.gsl_kinds.specs.declared.parts.Parts.TheVariants as parts
use Rattle.gsl_kinds.specs.declared.lanes.Scalar.{Scalar}
use Rattle.gsl_kinds.specs.declared.lanes.Scalar.TheVariants as scalar
use Rattle.gsl_kinds.specs.declared.lanes.Lanes.{Lanes}
use Rattle.gsl_kinds.specs.declared.kind.Shape.{Shape}
use Rattle.gsl_kinds.specs.declared.kind.Shape.TheVariants as shape
use Rattle.gsl_kinds.specs.declared.kind.Value.{Value}
use Rattle.gsl_kinds.specs.declared.kind.Value.TheVariants as value
use Rattle.gsl_kinds.specs.declared.kind.Variable.{Variable}
use Rattle.gsl_kinds.specs.declared.kind.Place.{Place}
use Rattle.gsl_kinds.specs.declared.kind.Place.TheVariants as place
use Rattle.gsl_kinds.specs.declared.kind.Decoration.{Decoration}
use Rattle.gsl_kinds.specs.declared.kind.Kind.{Kind}
use Rattle.gsl_kinds.specs.declared.kind.Kind.TheVariants as kind

-- a type
abbrev pub shape_seen : Shape → kinds.Shape
shape_seen shape.Void = kinds.OfVoid
shape_seen shape.Bool = kinds.OfBool
shape_seen (shape.Int signedness) = kinds.OfInt signedness
shape_seen (shape.Vector component count) = kinds.OfVector component count
shape_seen (shape.Array element length) = kinds.OfArray element length
shape_seen (shape.RuntimeArray element) = kinds.OfRuntimeArray element
shape_seen (shape.Struct id members) = kinds.OfStruct id members.now
shape_seen (shape.Pointer class pointee) = kinds.OfPointer class pointee
shape_seen (shape.Function returned parameters) = kinds.OfFunction returned parameters.now
shape_seen shape.NoType = kinds.NoType

-- a constant
abbrev pub value_seen : Value → kinds.Value
value_seen value.Truth = kinds.Truth
value_seen (value.Word word) = kinds.Word word
value_seen (value.Parts parts) = kinds.Parts parts.now
value_seen value.Zeros = kinds.Zeros

-- a variable
abbrev pub variable_seen : Variable → kinds.Variable
variable_seen v = record { type = v.type_; id = v.id; class = v.class; initialiser = v.initialiser.now }

-- a decoration
abbrev pub place_seen : Place → kinds.Place
place_seen (place.On target) = kinds.On target
place_seen (place.OnMember target member) = kinds.OnMember target member

abbrev pub decoration_seen : Decoration → kinds.Decoration
decoration_seen d = record { place = place_seen d.place; kind = d.kind; literals = d.literals.now }

-- an instruction
abbrev pub kind_seen : Kind → kinds.Kind
kind_seen kind.Asks = kinds.Asks
kind_seen kind.Imports = kinds.Imports
kind_seen kind.Sets = kinds.Sets
kind_seen (kind.Enters model function name interface) = kinds.Enters model function name.now interface.now
kind_seen (kind.Modes function mode parts) = kinds.Modes function mode parts.now
kind_seen kind.Debugs = kinds.Debugs
kind_seen (kind.Decorates d) = kinds.Decorates (decoration_seen d)
kind_seen (kind.Declares shape) = kinds.Declares (shape_seen shape)
kind_seen (kind.Fixes type value) = kinds.Fixes type (value_seen value)
kind_seen (kind.Holds v) = kinds.Holds (variable_seen v)
kind_seen (kind.Begins type id function_type) = kinds.Begins type id function_type
kind_seen (kind.Takes type) = kinds.Takes type
kind_seen (kind.Calls type function arguments) = kinds.Calls type function arguments.now
kind_seen (kind.Gives type) = kinds.Gives type
kind_seen kind.Does = kinds.Does
kind_seen kind.Opens = kinds.Opens
kind_seen kind.Merges = kinds.Merges
kind_seen kind.Leaves = kinds.Leaves
kind_seen kind.Ended = kinds.Ended
kind_seen kind.Absent = kinds.Absent

-- a scalar, and the components of a type
abbrev pub scalar_seen : Scalar → types.Scalar
scalar_seen scalar.Truths = types.Truths
scalar_seen (scalar.Words signedness) = types.Words signedness

abbrev pub lanes_seen : Option Lanes → Option types.Lanes
lanes_seen None = None
lanes_seen (Some lanes) = Some (record { scalar = scalar_seen lanes.scalar; size = lanes.size })

-- whether an id stands for a part of a type: a constant, or a value
abbrev pub has_part : Parts → Module → ℕ → ℕ → Bool
has_part parts.Constants m type id = is_constant_of m type id
has_part parts.Values m type id = types.has_type m type id
