-- The heads of functions (GLSL 4.50, 6.1): parameters, and what is declared behind a head and in the body behind it.
use Rattle.std.specs.Prelude.{ℕ, ◌+◌, Bool, true, false, not, ◌&&◌, ◌||◌, nat_le, nat_eq, List, [], ◌∷◌, ◌++◌, map, length, codes, slice_get, Option, Some, None, is_some, Ok, if◌then◌else◌}
use Rattle.std.specs.List.{list_any}
use Rattle.std.specs.Str.{bytes_eq}
use Rattle.gsl_base.specs.Checked.{Checked, ◌>>=◌}
use Rattle.gsl_base.specs.declared.fault.Place.{Place}
use Rattle.gsl_base.specs.declared.fault.Code.TheVariants.{E0403, E0404, E0405, E0510, E0701, E0908}
use Rattle.gsl_syntax.specs.declared.declaration.Name.{Name}
use Rattle.gsl_syntax.specs.declared.declaration.Qual.{Qual}
use Rattle.gsl_syntax.specs.declared.declaration.Qual.TheVariants as qual
use Rattle.gsl_syntax.specs.declared.statement.Param.{Param}
use Rattle.gsl_syntax.specs.declared.statement.Param.TheVariants as param_of
use Rattle.gsl_syntax.specs.declared.statement.Params.{Params}
use Rattle.gsl_syntax.specs.declared.statement.Params.TheVariants as params_of
use Rattle.gsl_syntax.specs.declared.statement.Body.{Body}
use Rattle.gsl_syntax.specs.declared.statement.Body.TheVariants as body_of
use Rattle.gsl_syntax.specs.declared.statement.Function.{Function as FunctionTree}
use Rattle.gsl_types.specs.declared.ty.Direction.{Direction}
use Rattle.gsl_types.specs.declared.ty.Direction.TheVariants.{In, Out, InOut}
use Rattle.gsl_types.specs.declared.ty.Ty.{Ty}
use Rattle.gsl_overload.specs.Identity.{identical}
use Rattle.gsl_names.specs.declared.entry.Entry.{Entry}
use Rattle.gsl_names.specs.declared.entry.Entry.TheVariants as entry
use Rattle.gsl_names.specs.Scopes.{Scopes, declare, find_here}
use Rattle.gsl_tree.specs.declared.unit.Function.{Function}
use Rattle.gsl_tree.specs.declared.unit.Prototype.{Prototype}
use Rattle.gsl_typing.specs.declared.scene.Scene.{Scene}
use Rattle.gsl_typing.specs.Rows.{fault, unless}
use Rattle.gsl_check_expr.specs.declared.env.Env.{Env}
use Rattle.gsl_check_expr.specs.Expressions.{bracket, callee}
use Rattle.gsl_check_expr.specs.Written.{written_type, declared, whole_type}
use Rattle.gsl_check_decl.specs.declared.sound.Outside.{Outside}
use Rattle.gsl_check_decl.specs.Steps.{ended}
use Rattle.gsl_check_decl.specs.Declaring.{is_empty, is_reserved, is_void, may_be_had, is_high}
use Rattle.gsl_check_decl.specs.Locals.{refused_layout}
use Rattle.gsl_check_decl.specs.Globals.{with_head}
use Rattle.gsl_qualifiers.specs.declared.qualified.Role.TheVariants.{Nothing}
use Rattle.gsl_qualifiers.specs.Qualifiers.{qualified}
use Rattle.gsl_check_heads.specs.declared.parameter.Said.{Said}
use Rattle.gsl_check_heads.specs.declared.parameter.Parameter.{Parameter}
use Rattle.gsl_check_heads.specs.declared.parameter.Head.{Head}
use Rattle.gsl_check_heads.specs.Builtins.{names_function}

-- ---- parameters

abbrev pub in_direction : Option Direction → Direction
in_direction None = In
in_direction (Some direction) = direction

-- whether what is said is that values come out
abbrev pub comes_out : Option Direction → Bool
comes_out None = false
comes_out (Some In) = false
comes_out (Some Out) = true
comes_out (Some InOut) = true

-- a direction, which is said once, and of a `const` parameter is `in`
abbrev pub directed : Place → Bool → Direction → Said → Checked Said
directed place out direction said = unless place ((E0701, is_some said.direction || (out && said.fixed)) ∷ []) (Ok (record said { direction = Some direction }))

-- No layout name may stand before a parameter.
abbrev pub no_layout : Checked Bool → Said → Checked Said
no_layout refused said = refused >>= (λ _. Ok said)

abbrev pub said_by : Env → Said → Qual → Checked Said
said_by env said (qual.Const place) = unless place ((E0701, said.fixed || comes_out said.direction) ∷ []) (Ok (record said { fixed = true }))
said_by env said (qual.In place) = directed place false In said
said_by env said (qual.Out place) = directed place true Out said
said_by env said (qual.Inout place) = directed place true InOut said
said_by env said (qual.Uniform place) = fault place E0701
said_by env said (qual.Buffer place) = fault place E0701
said_by env said (qual.Flat place) = fault place E0701
said_by env said (qual.Coherent place) = fault place E0701
said_by env said (qual.Volatile place) = fault place E0701
said_by env said (qual.Restrict place) = fault place E0701
said_by env said (qual.Readonly place) = fault place E0701
said_by env said (qual.Writeonly place) = fault place E0701
said_by env said (qual.Layout place items) = no_layout (refused_layout env place items) said

abbrev pub said_from : Env → Said → List Qual → Checked Said
said_from env said [] = Ok said
said_from env said (qual ∷ quals) = said_by env said qual >>= (λ more. said_from env more quals)

-- what the qualifiers of a parameter say, from left to right
unfoldable pub said : Env → List Qual → Checked Said
said env quals = said_from env (record { fixed = false; direction = None }) quals

-- one of the parameters has this name
abbrev pub is_named : List ℕ → Option (List ℕ) → Bool
is_named name None = false
is_named name (Some other) = bytes_eq other name

unfoldable pub has_param : List Parameter → List ℕ → Bool
has_param params name = list_any (λ (param : Parameter). is_named name param.name) params

-- a parameter of a type may be declared behind these
unfoldable pub may_be_unnamed : Env → Place → Ty → Checked (Unit {0})
may_be_unnamed env place t = unless place ((E0510, not (may_be_had env.scene t)) ∷ (E0908, is_high env.scene t) ∷ []) (Ok tt)

unfoldable pub may_be_param : Env → List Parameter → Name → Ty → Checked (Unit {0})
may_be_param env params name t = unless name.place (
    (E0403, has_param params name.text)
    ∷ (E0404, is_reserved name.text)
    ∷ (E0510, not (may_be_had env.scene t))
    ∷ (E0908, is_high env.scene t)
    ∷ []
    )
    (Ok tt)

abbrev pub param_with : Option (List ℕ) → Said → Ty → Parameter
param_with name q t = record { name = name; fixed = q.fixed; direction = in_direction q.direction; ty = t }

-- a parameter of a name and a type behind these
abbrev pub named_as : Env → List Parameter → Name → Said → Ty → Checked Parameter
named_as env params name q t = may_be_param env params name t >>= (λ _. Ok (param_with (Some name.text) q t))

-- A parameter behind these: its qualifiers, its type, its brackets, and then the parameter.
abbrev pub param_by : Env → List Parameter → Param → Checked Parameter
param_by env params (param_of.Unnamed quals t) = said env quals
    >>= (λ q. written_type env t >>= (λ base. whole_type base
    >>= (λ whole. may_be_unnamed env (callee env t).place whole >>= (λ _. Ok (param_with None q whole)))))
param_by env params (param_of.Named quals t name dims) = said env quals
    >>= (λ q. written_type env t >>= (λ base. declared (map (bracket env) dims) base >>= (λ w. whole_type w
    >>= (λ whole. named_as env params name q whole))))

unfoldable pub param : Env → List Parameter → Param → Checked Parameter
param = param_by

abbrev pub params_from : Env → List Param → List Parameter → Checked (List Parameter)
params_from env [] params = Ok params
params_from env (one ∷ more) params = param env params one >>= (λ next. params_from env more (params ++ next ∷ []))

-- the parameters from left to right
abbrev pub params_in : Env → Params → Checked (List Parameter)
params_in env (params_of.Items items) = params_from env items []
params_in env (params_of.Void place) = Ok []

-- ---- headers

abbrev pub typed_params : List Parameter → List (Direction × Ty)
typed_params params = map (λ (param : Parameter). (param.direction, param.ty)) params

-- the same types one by one
abbrev pub same_types : List (Direction × Ty) → List (Direction × Ty) → Bool
same_types [] [] = true
same_types [] (b ∷ bs) = false
same_types (a ∷ others) [] = false
same_types (a ∷ others) (b ∷ bs) = identical a.1 b.1 && same_types others bs

abbrev pub same_direction : Direction → Direction → Bool
same_direction In In = true
same_direction In Out = false
same_direction In InOut = false
same_direction Out In = false
same_direction Out Out = true
same_direction Out InOut = false
same_direction InOut In = false
same_direction InOut Out = false
same_direction InOut InOut = true

abbrev pub same_directions : List (Direction × Ty) → List (Direction × Ty) → Bool
same_directions [] [] = true
same_directions [] (b ∷ bs) = false
same_directions (a ∷ others) [] = false
same_directions (a ∷ others) (b ∷ bs) = same_direction a.0 b.0 && same_directions others bs

-- two heads are of one function: they have one name, and one list of types of parameters
abbrev pub is_of : List ℕ → List (Direction × Ty) → Prototype → Bool
is_of name params p = bytes_eq p.name name && same_types p.params params

-- the number of the first head of a function, from a number on
abbrev pub number_from : ℕ → List ℕ → List (Direction × Ty) → List Prototype → Option ℕ
number_from n name params [] = None
number_from n name params (p ∷ prototypes) = if is_of name params p then Some n else number_from (n + 1) name params prototypes

unfoldable pub head_number : List ℕ → List (Direction × Ty) → List Prototype → Option ℕ
head_number name params prototypes = number_from 0 name params prototypes

-- an earlier head of the function has another result or other directions
abbrev pub disagrees_by : Ty → List (Direction × Ty) → Option Prototype → Bool
disagrees_by result params None = false
disagrees_by result params (Some p) = not (identical p.result result && same_directions p.params params)

abbrev pub head_at : List Prototype → Option ℕ → Option Prototype
head_at prototypes None = None
head_at prototypes (Some number) = slice_get prototypes number

unfoldable pub disagrees : List Prototype → List ℕ → Ty → List (Direction × Ty) → Bool
disagrees prototypes name result params = disagrees_by result params (head_at prototypes (head_number name params prototypes))

-- the function has a body already
abbrev pub has_body_of : List Function → Option ℕ → Bool
has_body_of functions None = false
has_body_of functions (Some number) = list_any (λ (f : Function). nat_eq f.prototype number) functions

abbrev pub is_block : Body → Bool
is_block (body_of.Prototype place) = false
is_block (body_of.Block place stmts) = true

-- `main` with a result or parameters
unfoldable pub is_other_main : List ℕ → Ty → List (Direction × Ty) → Bool
is_other_main name result params = bytes_eq name (codes "main") && not (is_void result && is_empty params)

-- a name that stands for another thing than functions
abbrev pub is_other : Option Entry → Bool
is_other None = false
is_other (Some (entry.Function number)) = false
is_other (Some _) = true

-- the result is neither `void` nor a type that variables may have
unfoldable pub is_no_result : Scene → Ty → Bool
is_no_result scene result = not (is_void result || may_be_had scene result)

abbrev pub most_params : ℕ
most_params = 255

-- a function may be declared with this head
unfoldable pub may_be_head : Env → List Function → Bool → Name → Ty → List (Direction × Ty) → Checked (Unit {0})
may_be_head env functions defined name result params = unless name.place (
    (E0403, is_other (find_here env.names name.text))
    ∷ (E0404, is_reserved name.text || names_function name.text)
    ∷ (
      E0405,
      disagrees env.scene.prototypes name.text result params
          || (defined && has_body_of functions (head_number name.text params env.scene.prototypes)) || is_other_main name.text result params,
    )
    ∷ (E0510, is_no_result env.scene result)
    ∷ (E0908, not (nat_le (length params) most_params) || is_high env.scene result)
    ∷ []
    )
    (Ok tt)

abbrev pub headed_by : Prototype → Env → Option ℕ → ℕ × Env
headed_by p env None = (length env.scene.prototypes, with_head p env)
headed_by p env (Some number) = (number, env)

-- the number of a function's head, and what is declared behind it
unfoldable pub headed : Prototype → Env → ℕ × Env
headed p env = headed_by p env (head_number p.name p.params env.scene.prototypes)

-- The head of a function, with its parameters, and what is declared behind it.
pub record Headed : Type 0 where
  pub number : ℕ
  pub result : Ty
  pub params : List Parameter
  pub env : Env

-- what is declared behind a head
abbrev pub head_in : Head → Env → Headed
head_in head env = record { number = head.number; result = head.result; params = head.params; env = env }

abbrev pub with_number : Ty → List Parameter → ℕ × Env → Headed
with_number result params done = record { number = done.0; result = result; params = params; env = done.1 }

abbrev pub declared_head : Env → List Function → Bool → Name → Ty → List Parameter → Checked Headed
declared_head env functions defined name result params = may_be_head env functions defined name result (typed_params params)
    >>= (λ _. Ok (with_number result params (headed (record { name = name.text; result = result; params = typed_params params; place = name.place }) env)))

-- A header: its qualifiers, its type, its parameters, and then the function.
unfoldable pub header : Env → List Function → FunctionTree → Checked Headed
header env functions f = qualified env Nothing f.quals
    >>= (λ q. written_type env f.ty >>= (λ base. whole_type base
    >>= (λ result. params_in env f.params >>= (λ params. declared_head env functions (is_block f.body) f.name result params))))

-- ---- in and behind a body

abbrev pub named_if : Option (List ℕ) → ℕ → Bool → Scopes → Scopes
named_if None number fixed names = names
named_if (Some name) number fixed names = declare name (entry.Param number fixed) names

-- the names of parameters, numbered from one on
abbrev pub params_named : ℕ → List Parameter → Scopes → Scopes
params_named number [] names = names
params_named number (param ∷ params) names = params_named (number + 1) params (named_if param.name number param.fixed names)

-- in the scope of the parameters and the body
unfoldable pub entered : Headed → Env
entered h = record (h.env) {
  names = params_named 0 h.params ([] ∷ h.env.names);
  scene = record (h.env.scene) { params = typed_params h.params; locals = []; consts = record (h.env.scene.consts) { locals = [] } };
}

-- behind the body: what it declared is gone, but for the structs, which keep their numbers
unfoldable pub left : Env → Env → Env
left before after = record before {
  scene = record (before.scene) { structs = after.scene.structs };
  heights = after.heights;
}

-- behind the scope of a body, with what stood around it before
unfoldable pub left_by : Outside → Env → Env
left_by outside after = record after {
  names = ended after.names;
  scene = record (after.scene) { params = outside.params; locals = outside.locals; consts = record (after.scene.consts) { locals = outside.known } };
}
