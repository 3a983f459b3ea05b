-- The rules of single statements over typed parts (GLSL 4.50, chapter 6). Their faults stand at the statement's keyword.
use Rattle.std.specs.Prelude.{Bool, not, ◌&&◌, [], ◌∷◌, Option, Some, None, Ok, if◌then◌else◌}
use Rattle.gsl_base.specs.Checked.{Checked}
use Rattle.gsl_base.specs.declared.fault.Place.{Place}
use Rattle.gsl_base.specs.declared.fault.Code.{Code}
use Rattle.gsl_base.specs.declared.fault.Code.TheVariants.{E0503, E0504, E0507, E0510, E0512, E0513, E0514}
use Rattle.gsl_base.specs.declared.stage.Stage.{Stage}
use Rattle.gsl_base.specs.declared.stage.Stage.TheVariants.{Vertex, Fragment, Compute}
use Rattle.gsl_types.specs.declared.ty.Ty.{Ty}
use Rattle.gsl_tree.specs.declared.stmt.Stmt.{Stmt}
use Rattle.gsl_tree.specs.declared.stmt.Stmt.TheVariants as stmt
use Rattle.gsl_tree.specs.Trees.{place_of}
use Rattle.gsl_typing.specs.declared.scene.Scene.{Scene}
use Rattle.gsl_typing.specs.declared.scene.Part.{Part}
use Rattle.gsl_typing.specs.Rows.{fault, unless}
use Rattle.gsl_typing.specs.Scene.{type_in}
use Rattle.gsl_typing.specs.Conversions.{serves_as, as_type}
use Rattle.gsl_typing.specs.Uses.{is_unread, is_bool, is_runtime, whole}
use Rattle.gsl_check_stmt.specs.declared.within.Within.{Within}
use Rattle.gsl_check_decl.specs.Declaring.{is_void}

-- an expression that stands alone: its value is dropped, and may be `void`
unfoldable pub alone : Scene → Part → Checked Part
alone scene x = unless (place_of x.expr) ((E0507, is_unread scene x) ∷ (E0510, is_runtime x) ∷ []) (whole scene x)

-- the fault of a condition, which is a `bool`
unfoldable pub condition_fault : Scene → Part → Option Code
condition_fault scene test = if not (is_bool test) then Some E0503 else (if is_unread scene test then Some E0507 else None)

-- What a statement over its parts is, where its condition has this fault or none: conditions are asked behind all parts.
abbrev pub unless_wrong : {A : Type 0} → Place → Option Code → Checked A → Checked A
unless_wrong place None node = node
unless_wrong place (Some code) node = fault place code

-- ---- jumps

unfoldable pub broken : Within → Place → Checked Stmt
broken within place = unless place ((E0512, not within.breaks) ∷ []) (Ok stmt.Break)

unfoldable pub continued : Within → Place → Checked Stmt
continued within place = unless place ((E0512, not within.continues) ∷ []) (Ok stmt.Continue)

abbrev pub is_fragment : Stage → Bool
is_fragment Vertex = Bool.false
is_fragment Fragment = Bool.true
is_fragment Compute = Bool.false

unfoldable pub discarded : Stage → Place → Checked Stmt
discarded stage place = unless place ((E0514, not (is_fragment stage)) ∷ []) (Ok stmt.Discard)

-- `return` without a value, in a function of this result
unfoldable pub returned : Ty → Place → Checked Stmt
returned result place = unless place ((E0513, not (is_void result)) ∷ []) (Ok (stmt.Return None))

-- `return` with a value, which is converted to the result where the function has one
unfoldable pub returned_value : Scene → Ty → Place → Part → Checked Stmt
returned_value scene result place x = unless place (
    (E0504, not (is_void result) && not (serves_as (type_in x) result))
    ∷ (E0507, is_unread scene x)
    ∷ (E0513, is_void result)
    ∷ []
    )
    (Ok (stmt.Return (Some (as_type result x.expr))))
