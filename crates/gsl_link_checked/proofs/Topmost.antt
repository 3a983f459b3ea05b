-- Variables, inputs and outputs, structs and blocks that are declared at the top of a unit have names of their own.
use Rattle.std.proofs.Common.{◌≡◌, refl, ap, ◌∙◌, ℕ, Bool, true, false, not, ◌&&◌, ◌||◌, nat_le, nat_lt, List, [], ◌∷◌, length, map, Option, Some, None, is_none, Ok, Err}
use Rattle.std.specs.List.{AllByRecursion}
use Rattle.gsl_base.specs.Checked.{Checked, ◌>>=◌}
use Rattle.gsl_base.specs.declared.fault.Code.TheVariants.{E0403, E0404, E0504, E0507, E0510, E0601, E0602, E0604, E0701, E0702, E0703, E0706, E0707, E0708, E0905, E0908}
use Rattle.gsl_base.specs.declared.fault.Place.{Place}
use Rattle.gsl_base.specs.declared.stage.Stage.{Stage}
use Rattle.gsl_syntax.specs.declared.declaration.Declarator.{Declarator}
use Rattle.gsl_syntax.specs.declared.declaration.Declarator.TheVariants as declarator_of
use Rattle.gsl_syntax.specs.declared.declaration.Member.{Member as Line}
use Rattle.gsl_syntax.specs.declared.declaration.Name.{Name}
use Rattle.gsl_syntax.specs.declared.declaration.Qual.{Qual}
use Rattle.gsl_syntax.specs.declared.declaration.Struct.{Struct}
use Rattle.gsl_syntax.specs.declared.expr.TypeSpec.{TypeSpec}
use Rattle.gsl_types.specs.declared.ty.Ty.{Ty}
use Rattle.gsl_types.specs.declared.ty.Ty.TheVariants as ty
use Rattle.gsl_tree.specs.declared.expr.Expr.{Expr}
use Rattle.gsl_tree.specs.declared.folded.Folded.{Folded}
use Rattle.gsl_tree.specs.declared.folded.Folded.TheVariants.{NotConstant}
use Rattle.gsl_tree.specs.declared.unit.Block.{Block}
use Rattle.gsl_tree.specs.declared.unit.BlockKind.{BlockKind}
use Rattle.gsl_tree.specs.declared.unit.BlockMember.{BlockMember}
use Rattle.gsl_tree.specs.declared.unit.GlobalVar.{GlobalVar}
use Rattle.gsl_tree.specs.declared.unit.Interface.{Interface}
use Rattle.gsl_tree.specs.Constants.{constant_of}
use Rattle.gsl_tree.specs.Expressions.{most_parts}
use Rattle.gsl_tree.specs.Laying.{extent_of}
use Rattle.gsl_tree.specs.WellTyped.{push_blocks}
use Rattle.gsl_layout.specs.Extents.{most_bytes}
use Rattle.gsl_typing.specs.Conversions.{as_type}
use Rattle.gsl_typing.specs.Rows.{Row, unless}
use Rattle.gsl_typing.specs.Uses.{is_unread}
use Rattle.gsl_typing.specs.declared.scene.Part.{Part}
use Rattle.gsl_check_expr.specs.declared.env.Env.{Env}
use Rattle.gsl_check_expr.specs.declared.writing.Written.{Written}
use Rattle.gsl_check_expr.specs.declared.writing.Written.TheVariants.{Whole}
use Rattle.gsl_check_expr.specs.Expressions.{bracket}
use Rattle.gsl_check_expr.specs.Initialisers.{begun_type, initial}
use Rattle.gsl_check_expr.specs.Sizes.{is_left_open, is_not_constant}
use Rattle.gsl_check_expr.specs.Written.{declared, whole_type, written_type}
use Rattle.gsl_check_decl.specs.Declaring.{is_declared, is_empty, is_high, is_reserved, may_be_had}
use Rattle.gsl_check_decl.specs.Globals.{with_block, with_global, with_interface}
use Rattle.gsl_check_decl.specs.Locals.{begun_as, may_be_plain}
use Rattle.gsl_check_decl.specs.Structs.{height_over, is_too_large, may_be_struct, structured, with_lines, with_struct}
use Rattle.gsl_check_decl.proofs.Gathering.{Holds, holds_after, holds_then}
use Rattle.gsl_qualifiers.specs.declared.qualified.Qualified.{Qualified}
use Rattle.gsl_qualifiers.specs.declared.qualified.Role.{Role}
use Rattle.gsl_qualifiers.specs.declared.qualified.Role.TheVariants.{Variable, Input, Output, Uniform, Buffer, Push, Member as MemberRole, Size, Nothing}
use Rattle.gsl_qualifiers.specs.Qualifiers.{qualified, role_alone}
use Rattle.gsl_check_globals.specs.Globals.{alone, sized_at, states_none, struct_and_variables, variables, with_size}
use Rattle.gsl_check_globals.specs.Variables.{Declares, all_declared, begun_by, begun_interface, begun_variable, declarator, interface, is_no_interface, known_of, may_be_interface, may_begin, plain_by, plain_global, plain_variable, set_variable, value_in}
use Rattle.gsl_check_blocks.specs.Blocks as blocks
use Rattle.gsl_check_blocks.specs.Blocks.{block, block_of, block_with, frame_of, is_block_taken, is_instance, is_uniform, has_member, kind_of, may_be_block, may_be_instance}
use Rattle.gsl_check_law.proofs.Outer.{never_given}
use Rattle.gsl_check_law.proofs.Rows.{neither, row}
use Rattle.gsl_link_checked.proofs.Named.{IsNamed, named_block, named_global, named_interface, named_struct}

-- what does not speak of what is given
whatever : {A : Type 0} (P : Type 0) (x : Checked A) → P → Holds (λ (a : A). P) x
whatever P (Ok a) is = is
whatever P (Err e) is = tt

-- The first row does not apply where something is given.
first_row : {A : Type 0} (place : Place) (applies : Bool) (rows : List Row) (node : Checked A) → Holds (λ (a : A). applies ≡ false) (unless place ((E0403, applies) ∷ rows) node)
first_row place applies rows node = row (λ _. applies ≡ false) place E0403 applies rows node (λ new. whatever (applies ≡ false) (unless place rows node) new)

module _ (stage : Stage) where
  abbrev pub Named : Env → Type 0
  Named env = IsNamed stage env.scene.structs env

  module _ (env : Env) (is : Named env) where
    -- ---- global variables

    global_named : (g : GlobalVar) (folded : Folded) → is_declared env g.name ≡ false → Named (with_global g folded env)
    unfolding with_global
    global_named g folded new = named_global stage env.scene.structs env is g folded new

    plain_named : (fixed : Bool) (name : Name) (t : Ty) → Holds Named (plain_variable fixed name t env)
    unfolding plain_variable may_be_plain
    plain_named fixed name t =
        holds_after (λ _. is_declared env name.text ≡ false) Named (may_be_plain fixed name t env) (λ _. Ok (with_global (plain_global name t) NotConstant env))
        (first_row name.place (is_declared env name.text) ((E0404, is_reserved name.text) ∷ (E0510, not (may_be_had env.scene t)) ∷ (E0604, fixed) ∷ (E0908, is_high env.scene t) ∷ []) (Ok tt))
        (λ _ new. global_named (plain_global name t) NotConstant new)

    set_named : (fixed : Bool) (name : Name) (t : Ty) (e : Expr) → is_declared env name.text ≡ false → Holds Named (set_variable fixed name t e env)
    unfolding set_variable
    set_named fixed name t e new =
        let folded = constant_of env.scene.consts e in
        global_named (record { name = name.text; ty = t; constant = fixed; init = Some e; value = value_in folded; place = name.place }) (known_of fixed folded) new

    begun_named : (fixed : Bool) (name : Name) (w : Written) (x : Part) → Holds Named (begun_variable fixed name w x env)
    unfolding begun_variable may_begin
    begun_named fixed name w x =
        let t = begun_as w x in
        holds_after (λ _. is_declared env name.text ≡ false) Named (may_begin name w x env) (λ t. set_variable fixed name t (as_type t x.expr) env)
        (first_row name.place (is_declared env name.text) (
        (E0404, is_reserved name.text) ∷ (E0504, is_none (begun_type w x)) ∷ (E0507, is_unread env.scene x) ∷ (E0510, not (may_be_had env.scene t)) ∷ (E0601, is_not_constant (constant_of env.scene.consts x.expr))
        ∷ (E0602, is_left_open (constant_of env.scene.consts x.expr)) ∷ (E0908, is_high env.scene t) ∷ []) (Ok t))
        (λ t new. set_named fixed name t (as_type t x.expr) new)

    -- ---- inputs and outputs

    with_named : (i : Interface) → is_declared env i.name ≡ false → Named (with_interface i env)
    unfolding with_interface
    with_named i new = named_interface stage env.scene.structs env is i new

    interface_named : (output : Bool) (q : Qualified) (name : Name) (t : Ty) → Holds Named (interface output q name t env)
    unfolding interface may_be_interface
    interface_named output q name t =
        holds_after (λ _. is_declared env name.text ≡ false) Named (may_be_interface output q name t env) (λ _. Ok (with_interface _ env))
        (first_row name.place (is_declared env name.text) ((E0404, is_reserved name.text) ∷ (E0510, not (may_be_had env.scene t)) ∷ (E0702, is_no_interface env.scene.stage output q t) ∷ (E0706, is_none q.location) ∷ []) (Ok tt))
        (λ _ new. with_named _ new)

    refused_named : (output : Bool) (q : Qualified) (name : Name) (w : Written) (x : Part) → Holds Named (begun_interface output q name w x env)
    unfolding begun_interface
    refused_named output q name w x = never_given Named name.place (
        (E0403, is_declared env name.text) ∷ (E0404, is_reserved name.text) ∷ (E0504, is_none (begun_type w x)) ∷ (E0507, is_unread env.scene x) ∷ (E0510, not (may_be_had env.scene (begun_as w x)))
        ∷ (E0702, is_no_interface env.scene.stage output q (begun_as w x)) ∷ []) E0703

    -- ---- variables of each role

    plain_by_named : (role : Role) (q : Qualified) (name : Name) (t : Ty) → Holds Named (plain_by role q name t env)
    plain_by_named Variable q name t = plain_named q.fixed name t
    plain_by_named Input q name t = interface_named false q name t
    plain_by_named Output q name t = interface_named true q name t
    plain_by_named Uniform q name t = plain_named q.fixed name t
    plain_by_named Buffer q name t = plain_named q.fixed name t
    plain_by_named Push q name t = plain_named q.fixed name t
    plain_by_named (MemberRole in_buffer) q name t = plain_named q.fixed name t
    plain_by_named Size q name t = plain_named q.fixed name t
    plain_by_named Nothing q name t = plain_named q.fixed name t

    begun_by_named : (role : Role) (q : Qualified) (name : Name) (w : Written) (x : Part) → Holds Named (begun_by role q name w x env)
    begun_by_named Variable q name w x = begun_named q.fixed name w x
    begun_by_named Input q name w x = refused_named false q name w x
    begun_by_named Output q name w x = refused_named true q name w x
    begun_by_named Uniform q name w x = begun_named q.fixed name w x
    begun_by_named Buffer q name w x = begun_named q.fixed name w x
    begun_by_named Push q name w x = begun_named q.fixed name w x
    begun_by_named (MemberRole in_buffer) q name w x = begun_named q.fixed name w x
    begun_by_named Size q name w x = begun_named q.fixed name w x
    begun_by_named Nothing q name w x = begun_named q.fixed name w x

    -- ---- structs and sizes

    struct_named : (s : Struct) → Holds (λ (done : ℕ × Env). Named done.1) (structured s env)
    unfolding structured may_be_struct
    struct_named s =
        let P = λ (done : ℕ × Env). Named done.1 in
        holds_then P (with_lines env s.members []) (λ members. may_be_struct s.name members env >>= (λ _. Ok (length env.scene.structs, with_struct s.name.text members env)))
        (λ members. holds_after (λ _. is_declared env s.name.text ≡ false) P (may_be_struct s.name members env) (λ _. Ok (length env.scene.structs, with_struct s.name.text members env))
        (first_row s.name.place (is_declared env s.name.text) ((E0404, is_reserved s.name.text) ∷ (E0510, is_empty members) ∷ (E0908, is_too_large env.scene members) ∷ []) (Ok (height_over env.scene.structs members)))
        (λ _ new. named_struct stage env is s.name.text members new))

    sized_named : (q : Qualified) (o : Option Place) → Holds Named (sized_at q env o)
    sized_named q None = is
    sized_named q (Some place) = whatever_sized (states_none q)
      where
        whatever_sized : (b : Bool) → Holds Named (unless place ((E0701, b) ∷ []) (Ok (with_size q place env)))
        whatever_sized true = tt
        whatever_sized false = is

    pub alone_named : (quals : List Qual) → Holds Named (alone quals env)
    unfolding alone
    alone_named quals = holds_then Named (qualified env (role_alone env.scene.stage quals) quals) (λ q. sized_at q env q.within) (λ q. sized_named q q.within)

    -- ---- blocks

    block_of_name : (k : BlockKind) (q : Qualified) (name : Name) (instance : Option Name) (members : List BlockMember) → (block_of k q name instance members env.scene.structs).name ≡ name.text
    unfolding block_of
    block_of_name k q name instance members = refl

    not_taken : (name : Name) (instance : Option Name) (members : List BlockMember) → is_block_taken env name instance members ≡ false → is_declared env name.text ≡ false
    unfolding is_block_taken
    not_taken name instance members free =
        (neither (is_declared env name.text) (is_instance instance name.text) (neither (is_declared env name.text || is_instance instance name.text) (is_none instance && has_member members name.text) free).0).0

    block_named_by : (b : Block) → is_declared env b.name ≡ false → Named (with_block b env)
    unfolding with_block
    block_named_by b new = named_block stage env.scene.structs env is b new

    block_with_named : (k : BlockKind) (q : Qualified) (name : Name) (instance : Option Name) (members : List BlockMember) → Holds Named (block_with k q name instance members env)
    unfolding block_with may_be_block
    block_with_named k q name instance members =
        let made = block_of k q name instance members env.scene.structs in
        holds_then Named (may_be_instance env instance) (λ _. may_be_block env q name instance made >>= (λ _. Ok (with_block made env)))
        (λ _. holds_after (λ _. is_block_taken env name instance made.members ≡ false) Named (may_be_block env q name instance made) (λ _. Ok (with_block made env))
        (first_row name.place (is_block_taken env name instance made.members) (
        (E0404, is_reserved name.text) ∷ (E0706, not (blocks.is_push made.kind) && is_none q.binding) ∷ (E0707, blocks.is_push made.kind && nat_lt 0 (push_blocks env.scene.blocks)) ∷ (E0708, is_uniform made.kind && not made.std140)
        ∷ (E0905, not (nat_le (extent_of env.scene.structs made) most_bytes)) ∷ (E0908, not (nat_le (length made.members) most_parts)) ∷ []) (Ok tt))
        (λ _ free. block_named_by made (ap (is_declared env) (block_of_name k q name instance members) ∙ not_taken name instance made.members free)))

    pub block_named : (role : Role) (quals : List Qual) (name : Name) (lines : List Line) (instance : Option Name) → Holds Named (block role quals name lines instance env)
    unfolding block
    block_named role quals name lines instance =
        holds_then Named (qualified env role quals) (λ q. with_lines_of q >>= (λ members. block_with (kind_of role) q name instance members env))
        (λ q. holds_then Named (with_lines_of q) (λ members. block_with (kind_of role) q name instance members env) (λ members. block_with_named (kind_of role) q name instance members))
      where
        with_lines_of : Qualified → Checked (List BlockMember)
        with_lines_of q = blocks.with_lines (frame_of (kind_of role) instance q) env lines []

  -- ---- one after the other

  abbrev Does : Declares → Type 0
  Does step = (env : Env) → Named env → Holds Named (step env)

  steps_named : (steps : List Declares) → AllByRecursion Does steps → Does (all_declared steps)
  steps_named [] all env is = is
  steps_named (step ∷ steps) all env is = holds_after Named Named (step env) (all_declared steps) (all.0 env is) (λ next named. steps_named steps all.1 next named)

  module _ (role : Role) (q : Qualified) (base : Written) where
    declarator_named : (d : Declarator) → Does (declarator role q base d)
    unfolding declarator
    declarator_named (declarator_of.Plain name dims) env is =
        holds_then Named (declared (map (bracket env) dims) base) (λ t. whole_type t >>= (λ whole. plain_by role q name whole env))
        (λ t. holds_then Named (whole_type t) (λ whole. plain_by role q name whole env) (λ whole. plain_by_named env is role q name whole))
    declarator_named (declarator_of.Initialised name dims init) env is =
        holds_then Named (declared (map (bracket env) dims) base) (λ t. initial env t init >>= (λ x. begun_by role q name t x env))
        (λ t. holds_then Named (initial env t init) (λ x. begun_by role q name t x env) (λ x. begun_by_named env is role q name t x))

    declarators_named : (all : List Declarator) → AllByRecursion Does (map (declarator role q base) all)
    declarators_named [] = tt
    declarators_named (d ∷ all) = (declarator_named d, declarators_named all)

  module _ (env : Env) (is : Named env) where
    pub variables_named : (role : Role) (quals : List Qual) (t : TypeSpec) (all : List Declarator) → Holds Named (variables role quals t all env)
    unfolding variables
    variables_named role quals t all =
        holds_then Named (qualified env role quals) (λ q. written_type env t >>= (λ base. all_declared (map (declarator role q base) all) env))
        (λ q. holds_then Named (written_type env t) (λ base. all_declared (map (declarator role q base) all) env)
        (λ base. steps_named (map (declarator role q base) all) (declarators_named role q base all) env is))

    pub struct_variables_named : (role : Role) (quals : List Qual) (s : Struct) (all : List Declarator) → Holds Named (struct_and_variables role quals s all env)
    unfolding struct_and_variables
    struct_variables_named role quals s all =
        holds_then Named (qualified env role quals) (λ q. structured s env >>= (λ done. all_declared (map (declarator role q (Whole (ty.Struct done.0))) all) done.1))
        (λ q. holds_after (λ (done : ℕ × Env). Named done.1) Named (structured s env) (λ done. all_declared (map (declarator role q (Whole (ty.Struct done.0))) all) done.1) (struct_named env is s)
        (λ done named. steps_named (map (declarator role q (Whole (ty.Struct done.0))) all) (declarators_named role q (Whole (ty.Struct done.0)) all) done.1 named))
