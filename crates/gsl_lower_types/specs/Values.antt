-- The types of a program as types of values: outside blocks, without a layout (SPIR-V 1.0, 3.32.6).
use Rattle.std.specs.Prelude.{ℕ, ◌+◌, List, [], ◌∷◌, None}
use Rattle.gsl_types.specs.declared.ty.Direction.{Direction}
use Rattle.gsl_types.specs.declared.ty.Member.{Member}
use Rattle.gsl_types.specs.declared.ty.Scalar.TheVariants.{Uint}
use Rattle.gsl_types.specs.declared.ty.StructType.{StructType}
use Rattle.gsl_types.specs.declared.ty.Ty.{Ty}
use Rattle.gsl_types.specs.declared.ty.Ty.TheFolds.{fold-Ty}
use Rattle.gsl_types.specs.declared.ty.Ty.TheOpen.{Ty-F}
use Rattle.gsl_types.specs.declared.ty.Ty.TheVariants as ty
use Rattle.gsl_tree.specs.declared.program.Program.{Program}
use Rattle.gsl_tree.specs.declared.unit.Block.{Block}
use Rattle.gsl_tree.specs.declared.unit.BlockMember.{BlockMember}
use Rattle.gsl_tree.specs.declared.unit.Function.{Function}
use Rattle.gsl_tree.specs.declared.unit.GlobalVar.{GlobalVar}
use Rattle.gsl_tree.specs.declared.unit.Prototype.{Prototype}
use Rattle.gsl_spv.specs.Calls as call
use Rattle.gsl_spv.specs.declared.plain.PlainType.TheVariants as plain
use Rattle.gsl_lower_values.specs.Building.{Step, ◌>>=◌, given, id_by}
use Rattle.gsl_lower_values.specs.Types.{scalar_constant, scalar_type, type_of}
use Rattle.gsl_lower_types.specs.Known.{Put, all, aside, each, known_type, once, only, with_type}

-- ---- types

-- an array of so many elements
abbrev pub array_of : ℕ → ℕ → Step ℕ
array_of element count = scalar_constant Uint count >>= (λ length. id_by (call.array_type element length None))

abbrev pub arrayed : Put ℕ → ℕ → Put ℕ
arrayed element count known = element known >>= (λ e. aside (array_of e.0 count) e.1)

-- a type, with what puts it
abbrev pub Typing : Type 0
Typing = Ty × Put ℕ

-- A struct has been put before. No value has a runtime array as its type; its elements have one.
abbrev pub value_layer : Ty-F Typing → Typing
value_layer Ty-F.Void = (ty.Void, aside (id_by (call.plain_type plain.Void)))
value_layer (Ty-F.One s) = (ty.One s, aside (scalar_type s))
value_layer (Ty-F.Vector s n) = (ty.Vector s n, aside (type_of (s, n)))
value_layer (Ty-F.Array e n) = (ty.Array e.0 n, once (ty.Array e.0 n) (arrayed e.1 n))
value_layer (Ty-F.Runtime e) = (ty.Runtime e.0, e.1)
value_layer (Ty-F.Struct number) = (ty.Struct number, known_type (ty.Struct number))

-- the type of the values of a type
unfoldable pub value_type : Ty → Put ℕ
value_type t = (fold-Ty Typing value_layer t).1

-- ---- structs

unfoldable pub member_type : Member → Put ℕ
member_type member = value_type member.ty

abbrev pub struct_of : ℕ → List ℕ → Put (Unit {0})
struct_of number members known = id_by (call.struct_type members) >>= (λ id. given (tt, with_type (ty.Struct number) id known))

-- a struct of this number
unfoldable pub struct_type : ℕ → StructType → Put (Unit {0})
struct_type number struct known = each member_type struct.members known >>= (λ r. struct_of number r.0 r.1)

-- structs in their order, of which each has only earlier ones in it
unfoldable pub struct_types : ℕ → List StructType → Put (Unit {0})
struct_types number [] known = given (tt, known)
struct_types number (struct ∷ structs) known = struct_type number struct known >>= (λ r. struct_types (number + 1) structs r.1)

-- ---- all types of a program

unfoldable pub global_type : GlobalVar → Put (Unit {0})
global_type g = only (value_type g.ty)

unfoldable pub block_member_type : BlockMember → Put (Unit {0})
block_member_type member = only (value_type member.ty)

unfoldable pub block_types : Block → Put (Unit {0})
block_types block = all block_member_type block.members

unfoldable pub parameter_type : Direction × Ty → Put (Unit {0})
parameter_type parameter = only (value_type parameter.1)

unfoldable pub prototype_types : Prototype → Put (Unit {0})
prototype_types prototype known = value_type prototype.result known >>= (λ r. all parameter_type prototype.params r.1)

unfoldable pub local_type : Ty → Put (Unit {0})
local_type t = only (value_type t)

unfoldable pub function_types : Function → Put (Unit {0})
function_types function = all local_type function.locals

-- The structs, and what is declared for a variable, a member of a block, a parameter, a result or a local variable.
unfoldable pub program_types : Program → Put (Unit {0})
program_types p known =
    struct_types 0 p.structs known >>= (λ a. all global_type p.globals a.1 >>= (λ b. all block_types p.blocks b.1 >>= (λ c.
    all prototype_types p.prototypes c.1 >>= (λ d. all function_types p.functions d.1))))
