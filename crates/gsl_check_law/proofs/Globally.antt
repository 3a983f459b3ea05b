-- What a global variable begins as is well typed, and has the value that is kept beside it.
use Rattle.std.proofs.Common.{◌≡◌, refl, sym, ap, ◌∙◌, subst, [], ◌∷◌, Option, Some, None, is_none, Bool, true, false, not, IsTrue, Ok, if◌then◌else◌, length}
use Rattle.std.proofs.lemmas.Option.{none-some, cond_some}
use Rattle.gsl_base.specs.declared.fault.Place.{Place}
use Rattle.gsl_base.specs.declared.fault.Code.TheVariants.{E0403, E0404, E0504, E0507, E0510, E0601, E0602, E0604, E0908}
use Rattle.gsl_syntax.specs.declared.declaration.Name.{Name}
use Rattle.gsl_types.specs.declared.ty.Ty.{Ty}
use Rattle.gsl_types.specs.declared.ty.Ty.TheVariants as ty
use Rattle.gsl_values.specs.declared.value.Value.{Value}
use Rattle.gsl_overload.specs.Identity.{identical}
use Rattle.gsl_overload.proofs.Same.{no_more}
use Rattle.gsl_tree.specs.declared.expr.Expr.{Expr}
use Rattle.gsl_tree.specs.declared.expr.ExprKind.TheVariants as kind
use Rattle.gsl_tree.specs.declared.folded.Folded.{Folded}
use Rattle.gsl_tree.specs.declared.folded.Folded.TheVariants.{Known, NotConstant, Free}
use Rattle.gsl_tree.specs.declared.folded.Consts.{Consts}
use Rattle.gsl_tree.specs.declared.unit.GlobalVar.{GlobalVar}
use Rattle.gsl_tree.specs.Around.{known_value}
use Rattle.gsl_tree.specs.Constants.{constant_of, standing, gives, known_as}
use Rattle.gsl_tree.specs.Expressions.{IsExpr, MayBeRead}
use Rattle.gsl_tree.specs.Trees.{typed, type_of, place_of}
use Rattle.gsl_tree.specs.WellTyped.{IsVariableType, IsName}
use Rattle.gsl_tree.proofs.Steps as at
use Rattle.gsl_typing.specs.declared.scene.Scene.{Scene}
use Rattle.gsl_typing.specs.declared.scene.Part.{Part}
use Rattle.gsl_typing.specs.Scene.{around, type_in}
use Rattle.gsl_typing.specs.Conversions.{serves_as, as_type}
use Rattle.gsl_typing.specs.Uses.{is_unread}
use Rattle.gsl_check_expr.specs.declared.env.Env.{Env}
use Rattle.gsl_check_expr.specs.declared.writing.Written.{Written}
use Rattle.gsl_check_expr.specs.Sizes.{is_not_constant, is_left_open}
use Rattle.gsl_check_expr.specs.Initialisers.{begun_type, served, sized_as}
use Rattle.gsl_check_decl.specs.Declaring.{is_declared, is_reserved, may_be_had, is_high}
use Rattle.gsl_check_decl.specs.Locals.{may_be_plain, begun_as}
use Rattle.gsl_check_decl.specs.Globals.{with_global}
use Rattle.gsl_check_decl.proofs.Gathering.{Holds, holds_after}
use Rattle.gsl_check_globals.specs.Variables.{plain_global, plain_variable, may_begin, value_in, known_of, set_variable, begun_variable}
use Rattle.gsl_check_law.specs.Parts.{IsTaken}
use Rattle.gsl_check_law.specs.Scenes.{IsEnv}
use Rattle.gsl_check_law.proofs.Rows.{row, there}
use Rattle.gsl_check_law.proofs.Parts.{IsRead}
use Rattle.gsl_check_law.proofs.Building.{plain_settled}
use Rattle.gsl_check_law.proofs.Operators.{operand_of}
use Rattle.gsl_check_law.proofs.Longer.{Grows}
use Rattle.gsl_check_law.proofs.Declaring.{variable_is, begun_counted}
use Rattle.gsl_check_law.proofs.Topmost.{global_grown}
use Rattle.gsl_formed.specs.Formed.{is_name}
use Rattle.gsl_check_law.proofs.Names.{name_is}
use Rattle.gsl_check_law.specs.Small.{IsSmallFolded, IsCounted}
use Rattle.gsl_check_law.proofs.Lists.{GoodAt}
use Rattle.gsl_check_law.proofs.Counted.{constant_small, type_counted}

-- ---- what is constant stays so where it is converted

converted_same : (consts : Consts) (p : Place) (t : Ty) (e : Expr) → constant_of consts (typed p t (kind.Convert e)) ≡ constant_of consts e
unfolding constant_of
converted_same consts p t e =
    let x = typed p t (kind.Convert e) in
    ap (λ s. known_as s (gives consts x (0 ∷ []))) (at.standing_opens consts x ∙ at.standing-Convert consts e)
    ∙ ap (λ r. known_as (standing consts e) r) (at.gives_opens consts x (0 ∷ []) ∙ at.gives-Convert consts e t (0 ∷ []))

same_by : (consts : Consts) (t : Ty) (e : Expr) (b : Bool) → constant_of consts (if b then e else typed (place_of e) t (kind.Convert e)) ≡ constant_of consts e
same_by consts t e true = refl
same_by consts t e false = converted_same consts (place_of e) t e

as_type_same : (consts : Consts) (t : Ty) (e : Expr) → constant_of consts (as_type t e) ≡ constant_of consts e
unfolding as_type
as_type_same consts t e = same_by consts t e (identical (type_of e) t)

known_is : (f : Folded) → is_not_constant f ≡ false → is_left_open f ≡ false → (v : Value) × (f ≡ Known v)
known_is (Known v) constant settled = (v, refl)
known_is NotConstant constant settled = no_more (sym constant)
known_is Free constant settled = no_more (sym settled)

served_is : (x : Part) (o : Option Ty) (t : Ty) → served x o ≡ Some t → IsTrue (serves_as (type_in x) t)
served_is x None t is = elim (none-some t is) [ ]
served_is x (Some u) t is =
    let parts = cond_some (serves_as (type_in x) u) u t is in
    subst (λ (v : Ty). IsTrue (serves_as (type_in x) v)) parts.1 parts.0

begun_serves : (w : Written) (x : Part) (t : Ty) → begun_type w x ≡ Some t → IsTrue (serves_as (type_in x) t)
unfolding begun_type
begun_serves w x t is = served_is x (sized_as w (type_in x)) t is

-- ---- global variables

-- an initialiser that is well typed, with its value by what is known
pub record IsBegun (scene : Scene) (g : GlobalVar) (e : Expr) : Type 0 where
  pub expr : IsExpr (around scene) e
  pub reads : MayBeRead (around scene) e
  pub type : type_of e ≡ g.ty
  pub value : Value
  pub known : constant_of scene.consts e ≡ Known value
  pub kept : g.value ≡ Some value

abbrev pub Begins : Scene → GlobalVar → Option Expr → Type 0
Begins scene g None = (g.value ≡ None) × (g.constant ≡ false)
Begins scene g (Some e) = IsBegun scene g e

-- one more global variable is declared, which begins as it may
pub record GlobalDone (before : Env) (after : Env) : Type 0 where
  pub env : IsEnv after
  pub grows : Grows before.scene after.scene
  pub g : GlobalVar
  pub folded : Folded
  pub is : after ≡ with_global g folded before
  pub name : IsName g.name
  pub type : IsVariableType before.scene.structs g.ty
  pub begins : Begins before.scene g g.init

module _ (env : Env) (fine : IsEnv env) where
  abbrev scene : Scene
  scene = env.scene

  pub plain_done : (fixed : Bool) (name : Name) (t : Ty) → IsTrue (is_name name.text) → IsCounted t → Holds (GlobalDone env) (plain_variable fixed name t env)
  unfolding plain_variable may_be_plain
  plain_done fixed name t formed count_is =
      holds_after (λ _. IsVariableType scene.structs t) (GlobalDone env) (may_be_plain fixed name t env) (λ _. Ok (with_global (plain_global name t) NotConstant env))
      (row (λ _. IsVariableType scene.structs t) name.place E0403 (is_declared env name.text) ((E0404, is_reserved name.text) ∷ (E0510, not (may_be_had scene t)) ∷ (E0604, fixed) ∷ (E0908, is_high scene t) ∷ []) (Ok tt)
      (λ _. row (λ _. IsVariableType scene.structs t) name.place E0404 (is_reserved name.text) ((E0510, not (may_be_had scene t)) ∷ (E0604, fixed) ∷ (E0908, is_high scene t) ∷ []) (Ok tt)
      (λ _. row (λ _. IsVariableType scene.structs t) name.place E0510 (not (may_be_had scene t)) ((E0604, fixed) ∷ (E0908, is_high scene t) ∷ []) (Ok tt)
      (λ had. row (λ _. IsVariableType scene.structs t) name.place E0604 fixed ((E0908, is_high scene t) ∷ []) (Ok tt)
      (λ _. row (λ _. IsVariableType scene.structs t) name.place E0908 (is_high scene t) [] (Ok tt)
      (λ low. variable_is env fine t had low))))))
      (λ _ is.
      let grown = global_grown env fine (plain_global name t) NotConstant is refl count_is tt in
      record { env = grown.0; grows = grown.1; g = plain_global name t; folded = NotConstant; is = refl; name = name_is name.text formed; type = is; begins = (refl, refl) })

  abbrev MayBegin : Written → Part → Ty → Type 0
  MayBegin w x t = IsVariableType scene.structs t × IsTrue (serves_as (type_in x) t) × (is_unread scene x ≡ false) × (begun_type w x ≡ Some t) × ((v : Value) × (constant_of scene.consts x.expr ≡ Known v))

  begins_are : (name : Name) (w : Written) (x : Part) → Holds (MayBegin w x) (may_begin name w x env)
  unfolding may_begin
  begins_are name w x =
      row (MayBegin w x) name.place E0403 (is_declared env name.text) ((E0404, is_reserved name.text) ∷ (E0504, is_none (begun_type w x)) ∷ (E0507, is_unread scene x) ∷ (E0510, not (may_be_had scene (begun_as w x)))
      ∷ (E0601, is_not_constant (constant_of scene.consts x.expr)) ∷ (E0602, is_left_open (constant_of scene.consts x.expr)) ∷ (E0908, is_high scene (begun_as w x)) ∷ []) (Ok (begun_as w x))
      (λ _. row (MayBegin w x) name.place E0404 (is_reserved name.text) ((E0504, is_none (begun_type w x)) ∷ (E0507, is_unread scene x) ∷ (E0510, not (may_be_had scene (begun_as w x)))
      ∷ (E0601, is_not_constant (constant_of scene.consts x.expr)) ∷ (E0602, is_left_open (constant_of scene.consts x.expr)) ∷ (E0908, is_high scene (begun_as w x)) ∷ []) (Ok (begun_as w x))
      (λ _. row (MayBegin w x) name.place E0504 (is_none (begun_type w x)) ((E0507, is_unread scene x) ∷ (E0510, not (may_be_had scene (begun_as w x)))
      ∷ (E0601, is_not_constant (constant_of scene.consts x.expr)) ∷ (E0602, is_left_open (constant_of scene.consts x.expr)) ∷ (E0908, is_high scene (begun_as w x)) ∷ []) (Ok (begun_as w x))
      (λ serves. row (MayBegin w x) name.place E0507 (is_unread scene x) ((E0510, not (may_be_had scene (begun_as w x)))
      ∷ (E0601, is_not_constant (constant_of scene.consts x.expr)) ∷ (E0602, is_left_open (constant_of scene.consts x.expr)) ∷ (E0908, is_high scene (begun_as w x)) ∷ []) (Ok (begun_as w x))
      (λ read. row (MayBegin w x) name.place E0510 (not (may_be_had scene (begun_as w x)))
      ((E0601, is_not_constant (constant_of scene.consts x.expr)) ∷ (E0602, is_left_open (constant_of scene.consts x.expr)) ∷ (E0908, is_high scene (begun_as w x)) ∷ []) (Ok (begun_as w x))
      (λ had. row (MayBegin w x) name.place E0601 (is_not_constant (constant_of scene.consts x.expr)) ((E0602, is_left_open (constant_of scene.consts x.expr)) ∷ (E0908, is_high scene (begun_as w x)) ∷ []) (Ok (begun_as w x))
      (λ constant. row (MayBegin w x) name.place E0602 (is_left_open (constant_of scene.consts x.expr)) ((E0908, is_high scene (begun_as w x)) ∷ []) (Ok (begun_as w x))
      (λ settled. row (MayBegin w x) name.place E0908 (is_high scene (begun_as w x)) [] (Ok (begun_as w x))
      (λ low.
      (variable_is env fine (begun_as w x) had low, begun_serves w x (begun_as w x) (there (begun_type w x) ty.Void serves), read, there (begun_type w x) ty.Void serves, known_is (constant_of scene.consts x.expr) constant settled)))))))))

  shown : (fixed : Bool) (f : Folded) (v : Value) → f ≡ Known v → known_of fixed f ≡ known_value fixed (value_in f)
  shown true f v is = is ∙ ap (λ (g : Folded). known_value true (value_in g)) (sym is)
  shown false f v is = refl

  known_small : (fixed : Bool) (f : Folded) → IsSmallFolded f → IsSmallFolded (known_of fixed f)
  known_small true f is = is
  known_small false f is = tt

  pub set_done : (fixed : Bool) (name : Name) (t : Ty) (e : Expr) (v : Value) → IsTrue (is_name name.text) → IsCounted t → IsVariableType scene.structs t → IsRead (around scene) t e → constant_of scene.consts e ≡ Known v → Holds (GlobalDone env) (set_variable fixed name t e env)
  unfolding set_variable
  set_done fixed name t e v formed count_is is read known =
      let folded = constant_of scene.consts e in
      let one : GlobalVar = record { name = name.text; ty = t; constant = fixed; init = Some e; value = value_in folded; place = name.place } in
      let grown = global_grown env fine one (known_of fixed folded) is (shown fixed folded v known) count_is (known_small fixed folded (constant_small scene fine.scene fine.counted e read.expr)) in
      record {
        env = grown.0;
        grows = grown.1;
        g = one;
        folded = known_of fixed folded;
        is = refl;
        name = name_is name.text formed;
        type = is;
        begins = record { expr = read.expr; reads = read.reads; type = read.type; value = v; known = known; kept = ap value_in known };
      }

  pub begun_done : (fixed : Bool) (name : Name) (w : Written) (x : Part) → IsTrue (is_name name.text) → GoodAt (length scene.structs) w → IsTaken scene x → Holds (GlobalDone env) (begun_variable fixed name w x env)
  unfolding begun_variable
  begun_done fixed name w x formed good taken =
      holds_after (MayBegin w x) (GlobalDone env) (may_begin name w x env) (λ t. set_variable fixed name t (as_type t x.expr) env) (begins_are name w x)
      (λ t is. set_done fixed name t (as_type t x.expr) is.4.0 formed (begun_counted (length scene.structs) w x t good (type_counted scene fine.scene fine.counted x.expr taken.part.expr) is.3) is.0 (operand_of scene t x taken is.2 is.1 (plain_settled t is.0.plain)) (as_type_same scene.consts t x.expr ∙ is.4.1))
