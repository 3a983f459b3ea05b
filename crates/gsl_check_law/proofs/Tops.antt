-- What is declared at the top of a unit is as the unit's must be, behind each kind of declaration.
use Rattle.std.proofs.Common.{◌≡◌, refl, sym, ap, ◌∙◌, subst, ℕ, ◌+◌, ◌≤◌, ◌<◌, ◌⊎◌, inl, inr, List, [], ◌∷◌, ◌++◌, map, take, length, slice_get, Option, Some, None, arith}
use Rattle.std.specs.List.{AllByRecursion}
use Rattle.gsl_base.specs.declared.stage.Stage.{Stage}
use Rattle.gsl_types.specs.declared.ty.StructType.{StructType}
use Rattle.gsl_types.proofs.Longer.{pushed}
use Rattle.gsl_tree.specs.declared.expr.Expr.{Expr}
use Rattle.gsl_tree.specs.declared.folded.Consts.{Consts}
use Rattle.gsl_tree.specs.declared.folded.Folded.{Folded}
use Rattle.gsl_tree.specs.declared.unit.Block.{Block}
use Rattle.gsl_tree.specs.declared.unit.GlobalVar.{GlobalVar}
use Rattle.gsl_tree.specs.declared.unit.Interface.{Interface}
use Rattle.gsl_tree.specs.declared.unit.LocalSize.{LocalSize}
use Rattle.gsl_tree.specs.declared.unit.Prototype.{Prototype}
use Rattle.gsl_tree.specs.Around.{consts_of}
use Rattle.gsl_tree.specs.Constants.{constant_of}
use Rattle.gsl_tree.specs.Weights.{one_if}
use Rattle.gsl_tree.specs.WellTyped.{AreSizes, IsName, IsVariableType, IsBlock, IsInterface, IsPrototype, push_blocks, is_push}
use Rattle.gsl_typing.specs.declared.scene.Scene.{Scene}
use Rattle.gsl_check_expr.specs.declared.env.Env.{Env}
use Rattle.gsl_check_decl.specs.Globals.{with_global, with_interface, with_head, with_block}
use Rattle.gsl_check_law.specs.Scenes.{IsScene, IsEnv}
use Rattle.gsl_check_law.proofs.Found.{all_append, all_map}
use Rattle.gsl_check_law.proofs.Growing.{expr_grows, read_grows}
use Rattle.gsl_check_law.proofs.Longer.{AreDeclared, Grows}
use Rattle.gsl_check_law.proofs.Globally.{Begins}
use Rattle.gsl_check_law.proofs.Lasting.{Begun, GlobalFits, block_grows, interface_grows, prototype_grows, global_grows}
use Rattle.std.proofs.lemmas.Option.{slice_get_within}

-- All but the functions is as it should be in a unit that ends here.
pub record IsTop (stage : Stage) (s : Scene) : Type 0 where
  pub of_stage : s.stage ≡ stage
  pub params : s.params ≡ []
  pub locals : s.locals ≡ []
  pub constants : s.consts.locals ≡ []
  pub structs : AreDeclared s.structs
  pub globals : (number : ℕ) (g : GlobalVar) → slice_get s.globals number ≡ Some g → GlobalFits s number g
  pub blocks : AllByRecursion (IsBlock s.structs) s.blocks
  pub push : push_blocks s.blocks ≤ 1
  pub interfaces : AllByRecursion (IsInterface stage s.structs) s.interfaces
  pub prototypes : AllByRecursion (IsPrototype s.structs) s.prototypes
  pub sizes : AreSizes stage (map (λ (size : LocalSize). size.parts) s.sizes)

-- what is declared behind a declaration
pub record TopDone (stage : Stage) (before after : Env) : Type 0 where
  pub env : IsEnv after
  pub grows : Grows before.scene after.scene
  pub top : IsTop stage after.scene

-- ---- global variables

consts_are : (c : Consts) (gs : List GlobalVar) → c.locals ≡ [] → c.globals ≡ (consts_of gs).globals → c ≡ consts_of gs
consts_are c gs locals globals = ap (λ (l : List Folded). record { locals = l; globals = c.globals }) locals ∙ ap (λ (l : List Folded). record { locals = []; globals = l }) globals

front_of : {A : Type 0} (xs : List A) (y : A) → take (length xs) (xs ++ y ∷ []) ≡ xs
front_of [] y = refl
front_of (x ∷ xs) y = ap (λ l. x ∷ l) (front_of xs y)

-- globals fit where other lists grow
pub fits_stay : (s t : Scene) → IsScene s → Grows s t → t.globals ≡ s.globals → ((number : ℕ) (g : GlobalVar) → slice_get s.globals number ≡ Some g → GlobalFits s number g)
    → (number : ℕ) (g : GlobalVar) → slice_get t.globals number ≡ Some g → GlobalFits t number g
fits_stay s t fine grows same all number g at =
    let here : slice_get s.globals number ≡ Some g = ap (λ (gs : List GlobalVar). slice_get gs number) (sym same) ∙ at in
    let below = slice_get_within s.globals number g here in
    global_grows s t fine grows number g (omega (arith, below)) (all number g here)

module _ (stage : Stage) (env : Env) (fine : IsEnv env) (top : IsTop stage env.scene) where
  abbrev scene : Scene
  scene = env.scene

  begun_last : (t : Scene) (g : GlobalVar) (init : Option Expr) → Grows scene t → t.globals ≡ scene.globals ++ g ∷ [] → Begins scene g init → Begun t (length scene.globals) g init
  begun_last t g None grows last is = is
  begun_last t g (Some e) grows last is =
      let before : take (length scene.globals) t.globals ≡ scene.globals = ap (λ (gs : List GlobalVar). take (length scene.globals) gs) last ∙ front_of scene.globals g in (
        is.value,
        expr_grows scene t fine.scene grows e is.expr,
        read_grows scene t fine.scene grows e is.expr is.reads,
        is.type,
        ap (λ (gs : List GlobalVar). constant_of (consts_of gs) e) before ∙ ap (λ (c : Consts). constant_of c e) (sym (consts_are scene.consts scene.globals top.constants fine.scene.known)) ∙ is.known,
        is.kept,
      )

  fits_more : (t : Scene) (g : GlobalVar) → Grows scene t → t.globals ≡ scene.globals ++ g ∷ [] → GlobalFits t (length scene.globals) g
      → (number : ℕ) (h : GlobalVar) → slice_get t.globals number ≡ Some h → GlobalFits t number h
  fits_more t g grows last fits number h at = by_place (pushed scene.globals g number h (ap (λ (gs : List GlobalVar). slice_get gs number) (sym last) ∙ at))
    where
      by_place : ((number < length scene.globals) × (slice_get scene.globals number ≡ Some h)) ⊎ ((number ≡ length scene.globals) × (g ≡ h)) → GlobalFits t number h
      by_place (inl (below, there)) = global_grows scene t fine.scene grows number h (omega (arith, below)) (top.globals number h there)
      by_place (inr (here, same)) = subst (λ (x : GlobalVar). GlobalFits t number x) same (subst (λ n. GlobalFits t n g) (sym here) fits)

  pub global_top : (g : GlobalVar) (folded : Folded) → Grows scene (with_global g folded env).scene → IsName g.name → IsVariableType scene.structs g.ty → Begins scene g g.init → IsTop stage (with_global g folded env).scene
  unfolding with_global
  global_top g folded grows named known begins =
      let after : Scene = record scene { globals = scene.globals ++ g ∷ []; consts = record scene.consts { globals = scene.consts.globals ++ folded ∷ [] } } in
      record {
        of_stage = top.of_stage;
        params = top.params;
        locals = top.locals;
        constants = top.constants;
        structs = top.structs;
        globals = fits_more after g grows refl (record { name = named; type = known; begins = begun_last after g g.init grows refl begins });
        blocks = top.blocks;
        push = top.push;
        interfaces = top.interfaces;
        prototypes = top.prototypes;
        sizes = top.sizes;
      }

  -- ---- inputs and outputs, heads and blocks

  pub interface_top : (i : Interface) → Grows scene (with_interface i env).scene → IsInterface stage scene.structs i → IsTop stage (with_interface i env).scene
  unfolding with_interface
  interface_top i grows is = record {
    of_stage = top.of_stage;
    params = top.params;
    locals = top.locals;
    constants = top.constants;
    structs = top.structs;
    globals = fits_stay scene (record scene { interfaces = scene.interfaces ++ i ∷ [] }) fine.scene grows refl top.globals;
    blocks = top.blocks;
    push = top.push;
    interfaces = all_append (IsInterface stage scene.structs) scene.interfaces (i ∷ []) top.interfaces (is, tt);
    prototypes = top.prototypes;
    sizes = top.sizes;
  }

  pub head_top : (p : Prototype) → Grows scene (with_head p env).scene → IsPrototype scene.structs p → IsTop stage (with_head p env).scene
  unfolding with_head
  head_top p grows is = record {
    of_stage = top.of_stage;
    params = top.params;
    locals = top.locals;
    constants = top.constants;
    structs = top.structs;
    globals = fits_stay scene (record scene { prototypes = scene.prototypes ++ p ∷ [] }) fine.scene grows refl top.globals;
    blocks = top.blocks;
    push = top.push;
    interfaces = top.interfaces;
    prototypes = all_append (IsPrototype scene.structs) scene.prototypes (p ∷ []) top.prototypes (is, tt);
    sizes = top.sizes;
  }

  push_more : (blocks : List Block) (b : Block) → push_blocks (blocks ++ b ∷ []) ≡ push_blocks blocks + one_if (is_push b.kind)
  push_more [] b = omega arith
  push_more (x ∷ blocks) b = let more = push_more blocks b in omega (arith, more)

  pub block_top : (b : Block) → Grows scene (with_block b env).scene → IsBlock scene.structs b → push_blocks scene.blocks + one_if (is_push b.kind) ≤ 1 → IsTop stage (with_block b env).scene
  unfolding with_block
  block_top b grows is few = record {
    of_stage = top.of_stage;
    params = top.params;
    locals = top.locals;
    constants = top.constants;
    structs = top.structs;
    globals = fits_stay scene (record scene { blocks = scene.blocks ++ b ∷ [] }) fine.scene grows refl top.globals;
    blocks = all_append (IsBlock scene.structs) scene.blocks (b ∷ []) top.blocks (is, tt);
    push = subst (λ n. n ≤ 1) (sym (push_more scene.blocks b)) few;
    interfaces = top.interfaces;
    prototypes = top.prototypes;
    sizes = top.sizes;
  }

-- ---- structs

-- the lists stay but for the structs
pub structs_top : (stage : Stage) (s : Scene) (more : List StructType) → IsScene s → Grows s (record s { structs = more }) → IsTop stage s → IsTop stage (record s { structs = more })
structs_top stage s more fine grows top =
    let after : Scene = record s { structs = more } in
    record {
      of_stage = top.of_stage;
      params = top.params;
      locals = top.locals;
      constants = top.constants;
      structs = grows.declared top.structs;
      globals = fits_stay s after fine grows refl top.globals;
      blocks = all_map (IsBlock s.structs) (IsBlock more) s.blocks (block_grows s after fine grows) top.blocks;
      push = top.push;
      interfaces = all_map (IsInterface stage s.structs) (IsInterface stage more) s.interfaces (interface_grows s after fine grows stage) top.interfaces;
      prototypes = all_map (IsPrototype s.structs) (IsPrototype more) s.prototypes (prototype_grows s after fine grows) top.prototypes;
      sizes = top.sizes;
    }
