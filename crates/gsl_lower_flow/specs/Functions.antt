-- What a function of the program is lowered to (GLSL 4.50, 6.1; SPIR-V 1.0, 2.4 and 3.32.9).
use Rattle.std.specs.Prelude.{ℕ, Bool, true, false, List, [], ◌∷◌, ◌++◌, slice_get, Option, Some, None}
use Rattle.gsl_instr.specs.declared.op.TheConstants as op
use Rattle.gsl_instr.specs.declared.enumerant.storage_class.TheConstants as storage_class
use Rattle.gsl_types.specs.declared.ty.Direction.{Direction}
use Rattle.gsl_types.specs.declared.ty.Ty.{Ty}
use Rattle.gsl_types.specs.declared.ty.Ty.TheOpen.{Ty-F}
use Rattle.gsl_types.specs.declared.ty.Ty.TheViews.{out-Ty}
use Rattle.gsl_tree.specs.declared.unit.Function.{Function}
use Rattle.gsl_tree.specs.declared.unit.Prototype.{Prototype}
use Rattle.gsl_spv.specs.Calls as call
use Rattle.gsl_spv.specs.declared.plain.PlainConst.TheVariants as of
use Rattle.gsl_lower_values.specs.Building.{id_by}
use Rattle.gsl_lower_places.specs.Reading.{pointer_type}
use Rattle.gsl_lower_holders.specs.Flow.{Emit, Gives, ◌>>=◌, each, fresh, given, giving_here, lacking, lift, opening, putting_here, told, type_id}
use Rattle.gsl_lower_expr.specs.Calls.{result_type, zeros}
use Rattle.gsl_lower_expr.specs.Lowering.{Setting}
use Rattle.gsl_lower_needs.specs.declared.need.Need.{Need}
use Rattle.gsl_lower_needs.specs.declared.need.Need.TheVariants.{Holder, Built, Stage}
use Rattle.gsl_lower_needs.specs.Asking.{Asked, Asks}
use Rattle.gsl_lower_needs.specs.Bodies as needs
use Rattle.gsl_lower_stmt.specs.declared.exits.Exits.{Exits}
use Rattle.gsl_lower_stmt.specs.Coming.{row}

-- ---- variables and parameters

-- a variable of the function, which begins as zeros
unfoldable pub variable : Ty → Emit ℕ
variable t =
    type_id t >>= (λ type. lift (pointer_type storage_class.FUNCTION type) >>= (λ pointer. lift (id_by (call.constant (of.Null type))) >>= (λ zero.
    giving_here op.VARIABLE (storage_class.FUNCTION ∷ zero ∷ []) pointer)))

-- each parameter is a pointer to a variable of the caller
unfoldable pub parameter_type : Direction × Ty → Emit ℕ
parameter_type param = type_id param.1 >>= (λ type. lift (pointer_type storage_class.FUNCTION type))

unfoldable pub parameter : ℕ → Emit ℕ
parameter pointer = giving_here op.FUNCTION_PARAMETER [] pointer

-- ---- the head

-- the head of a function under an id, up to its first label: the ids of its parameters
unfoldable pub headed : ℕ → Prototype → Emit (List ℕ)
headed id prototype =
    result_type prototype.result >>= (λ result. each parameter_type prototype.params >>= (λ pointers. lift (id_by (call.function_type result pointers)) >>= (λ type.
    putting_here op.FUNCTION (result ∷ id ∷ 0 ∷ type ∷ []) >>= (λ a. each parameter pointers >>= (λ params. fresh >>= (λ label. opening label >>= (λ b. given params)))))))

abbrev pub holder_type : Need → List Ty
holder_type (Holder t) = t ∷ []
holder_type (Built t) = []
holder_type (Stage var) = []

-- the types of the holders that are asked for, in their order
abbrev pub holder_types : List Need → List Ty
holder_types [] = []
holder_types (one ∷ needs) = holder_type one ++ holder_types needs

-- holders for what is asked for
unfoldable pub holders : List Need → Emit (List ℕ)
holders asked = each variable (holder_types asked)

-- from here on these are the variables
unfoldable pub placed : List ℕ → List ℕ → List ℕ → Emit (Unit {0})
placed params locals holders flow = Gives tt (record flow { place = record flow.place { params = params; locals = locals; holders = holders; used = 0 } })

abbrev pub asked_of : {A : Type 0} → Asked A → List Need
asked_of (Asks a needs) = needs

-- what a function asks for
abbrev pub needs_of : List Prototype → Function → List Need
needs_of prototypes f = asked_of (needs.row prototypes f.body [])

unfoldable pub begun : ℕ → Prototype → Function → List Need → Emit (Unit {0})
begun id prototype f asked = headed id prototype >>= (λ params. each variable f.locals >>= (λ locals. holders asked >>= placed params locals))

-- ---- the end

abbrev pub zeros_returned : Ty → Ty-F Ty → Emit (Unit {0})
zeros_returned t Ty-F.Void = putting_here op.RETURN []
zeros_returned t layer = zeros t >>= (λ zero. putting_here op.RETURN_VALUE (zero ∷ []))

-- where its end is reached a function gives zeros
unfoldable pub ending : Bool → Ty → Emit (Unit {0})
ending true t = given tt
ending false t = zeros_returned t (out-Ty t)

-- ---- a function

-- no jump leaves the body
abbrev pub no_exits : Exits
no_exits = record { break_to = None; continue_to = None }

abbrev pub bodied : Setting → Function → Ty → Emit (Unit {0})
bodied s f result = row s f.locals f.body no_exits >>= (λ left. ending left result >>= (λ done. putting_here op.FUNCTION_END []))

abbrev pub under : Setting → Prototype → Function → List Need → ℕ → Emit (Unit {0})
under s prototype f asked id = begun id prototype f asked >>= (λ done. bodied s f prototype.result)

abbrev pub with_head : Setting → Function → List Need → Option Prototype → Emit (Unit {0})
with_head s f asked None = lacking
with_head s f asked (Some prototype) = told (λ place. place.functions) f.prototype >>= under s prototype f asked

-- a function, by the heads of the program's functions
unfoldable pub function_put : Setting → List Prototype → Function → Emit (Unit {0})
function_put s prototypes f = with_head s f (needs_of prototypes f) (slice_get prototypes f.prototype)
