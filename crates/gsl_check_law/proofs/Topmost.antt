-- What is declared at the top of a unit, but for functions and blocks, keeps what is declared sound.
use Rattle.std.proofs.Common.{◌+◌, length-append, ◌≡◌, refl, sym, ap, ◌∙◌, ℕ, List, [], ◌∷◌, ◌++◌, map, length, Option, Some, None, arith}
use Rattle.std.specs.List.{AllByRecursion}
use Rattle.gsl_names.specs.declared.entry.Entry.TheVariants as entry
use Rattle.gsl_tree.specs.declared.folded.Folded.{Folded}
use Rattle.gsl_tree.specs.declared.unit.GlobalVar.{GlobalVar}
use Rattle.gsl_tree.specs.declared.unit.Interface.{Interface}
use Rattle.gsl_tree.specs.declared.unit.Prototype.{Prototype}
use Rattle.gsl_tree.specs.declared.unit.Block.{Block}
use Rattle.gsl_tree.specs.declared.unit.BlockMember.{BlockMember}
use Rattle.gsl_tree.specs.Around.{known_value}
use Rattle.gsl_tree.specs.WellTyped.{IsVariableType}
use Rattle.gsl_types.specs.Known.{IsSound}
use Rattle.gsl_typing.specs.declared.scene.Scene.{Scene}
use Rattle.gsl_names.specs.Scopes.{Scopes, declare}
use Rattle.gsl_check_expr.specs.declared.env.Env.{Env}
use Rattle.gsl_check_decl.specs.Globals.{with_global, with_interface, with_head, members_named, inner_names, with_block}
use Rattle.gsl_check_law.specs.Scenes.{IsHead, AreThere, IsEnv}
use Rattle.gsl_check_law.proofs.Found.{all_append}
use Rattle.gsl_check_law.proofs.Longer.{Grows, front_append}
use Rattle.gsl_check_law.proofs.Standing.{names_grow, with_name}
use Rattle.gsl_check_law.specs.Small.{IsCounted, IsSmallFolded}

map_push : {A B : Type 0} (g : A → B) (xs : List A) (y : A) → map g (xs ++ y ∷ []) ≡ map g xs ++ g y ∷ []
map_push g [] y = refl
map_push g (x ∷ xs) y = ap (λ l. g x ∷ l) (map_push g xs y)

module _ (env : Env) (fine : IsEnv env) where
  abbrev scene : Scene
  scene = env.scene

  abbrev count : ℕ
  count = length scene.structs

  abbrev Grown : Env → Type 0
  Grown after = IsEnv after × Grows scene after.scene

  -- one more global variable, of which as much is known as it shows
  pub global_grown : (g : GlobalVar) (folded : Folded) → IsVariableType scene.structs g.ty → folded ≡ known_value g.constant g.value → IsCounted g.ty → IsSmallFolded folded → Grown (with_global g folded env)
  unfolding with_global
  global_grown g folded is known count_is small =
      let after : Scene = record scene { globals = scene.globals ++ g ∷ []; consts = record scene.consts { globals = scene.consts.globals ++ folded ∷ [] } } in
      let grows : Grows scene after = record {
        stage = refl;
        structs = λ k x is. is;
        count = omega arith;
        leaves = λ u known. refl;
        heights = λ u known. refl;
        values = λ u v known. refl;
        measures = λ raise k below. refl;
        declared = λ are. are;
        globals = front_append scene.globals (g ∷ []);
        blocks = λ k x is. is;
        interfaces = λ k x is. is;
        prototypes = λ k x is. is;
        sizes = λ k x is. is;
        params = refl;
        locals = λ k x is. is;
      } in (
        record {
          names = with_name after g.name (entry.Global (length scene.globals)) env.names tt (names_grow scene after grows env.names fine.names);
          scene = record {
            structs = fine.scene.structs;
            globals = all_append (λ (g : GlobalVar). IsVariableType scene.structs g.ty) scene.globals (g ∷ []) fine.scene.globals (is, tt);
            blocks = fine.scene.blocks;
            interfaces = fine.scene.interfaces;
            prototypes = fine.scene.prototypes;
            sizes = fine.scene.sizes;
            params = fine.scene.params;
            locals = fine.scene.locals;
            known = ap (λ l. l ++ folded ∷ []) fine.scene.known ∙ ap (λ (f : Folded). map (λ (g : GlobalVar). known_value g.constant g.value) scene.globals ++ f ∷ []) known
                ∙ sym (map_push (λ (g : GlobalVar). known_value g.constant g.value) scene.globals g);
          };
          counted = record {
            structs = fine.counted.structs;
            globals = all_append (λ (g : GlobalVar). IsCounted g.ty) scene.globals (g ∷ []) fine.counted.globals (count_is, tt);
            blocks = fine.counted.blocks;
            interfaces = fine.counted.interfaces;
            prototypes = fine.counted.prototypes;
            params = fine.counted.params;
            locals = fine.counted.locals;
            known_globals = all_append IsSmallFolded scene.consts.globals (folded ∷ []) fine.counted.known_globals (small, tt);
            known_locals = fine.counted.known_locals;
          };
        },
        grows,
      )

  -- one more input or output
  pub interface_grown : (i : Interface) → IsSound count i.ty → IsCounted i.ty → Grown (with_interface i env)
  unfolding with_interface
  interface_grown i is count_is =
      let after : Scene = record scene { interfaces = scene.interfaces ++ i ∷ [] } in
      let grows : Grows scene after = record {
        stage = refl;
        structs = λ k x is. is;
        count = omega arith;
        leaves = λ u known. refl;
        heights = λ u known. refl;
        values = λ u v known. refl;
        measures = λ raise k below. refl;
        declared = λ are. are;
        globals = λ k x is. is;
        blocks = λ k x is. is;
        interfaces = front_append scene.interfaces (i ∷ []);
        prototypes = λ k x is. is;
        sizes = λ k x is. is;
        params = refl;
        locals = λ k x is. is;
      } in (
        record {
          names = with_name after i.name (entry.Interface (length scene.interfaces)) env.names tt (names_grow scene after grows env.names fine.names);
          scene = record {
            structs = fine.scene.structs;
            globals = fine.scene.globals;
            blocks = fine.scene.blocks;
            interfaces = all_append (λ (i : Interface). IsSound count i.ty) scene.interfaces (i ∷ []) fine.scene.interfaces (is, tt);
            prototypes = fine.scene.prototypes;
            sizes = fine.scene.sizes;
            params = fine.scene.params;
            locals = fine.scene.locals;
            known = fine.scene.known;
          };
          counted = record {
            structs = fine.counted.structs;
            globals = fine.counted.globals;
            blocks = fine.counted.blocks;
            interfaces = all_append (λ (i : Interface). IsCounted i.ty) scene.interfaces (i ∷ []) fine.counted.interfaces (count_is, tt);
            prototypes = fine.counted.prototypes;
            params = fine.counted.params;
            locals = fine.counted.locals;
            known_globals = fine.counted.known_globals;
            known_locals = fine.counted.known_locals;
          };
        },
        grows,
      )

  -- one more head
  pub head_grown : (p : Prototype) → IsHead scene.structs p → IsCounted p.result → Grown (with_head p env)
  unfolding with_head
  head_grown p is count_is =
      let after : Scene = record scene { prototypes = scene.prototypes ++ p ∷ [] } in
      let grows : Grows scene after = record {
        stage = refl;
        structs = λ k x is. is;
        count = omega arith;
        leaves = λ u known. refl;
        heights = λ u known. refl;
        values = λ u v known. refl;
        measures = λ raise k below. refl;
        declared = λ are. are;
        globals = λ k x is. is;
        blocks = λ k x is. is;
        interfaces = λ k x is. is;
        prototypes = front_append scene.prototypes (p ∷ []);
        sizes = λ k x is. is;
        params = refl;
        locals = λ k x is. is;
      } in (
        record {
          names = with_name after p.name (entry.Function (length scene.prototypes)) env.names (omega (arith, length-append scene.prototypes (p ∷ []))) (names_grow scene after grows env.names fine.names);
          scene = record {
            structs = fine.scene.structs;
            globals = fine.scene.globals;
            blocks = fine.scene.blocks;
            interfaces = fine.scene.interfaces;
            prototypes = all_append (IsHead scene.structs) scene.prototypes (p ∷ []) fine.scene.prototypes (is, tt);
            sizes = fine.scene.sizes;
            params = fine.scene.params;
            locals = fine.scene.locals;
            known = fine.scene.known;
          };
          counted = record {
            structs = fine.counted.structs;
            globals = fine.counted.globals;
            blocks = fine.counted.blocks;
            interfaces = fine.counted.interfaces;
            prototypes = all_append (λ (p : Prototype). IsCounted p.result) scene.prototypes (p ∷ []) fine.counted.prototypes (count_is, tt);
            params = fine.counted.params;
            locals = fine.counted.locals;
            known_globals = fine.counted.known_globals;
            known_locals = fine.counted.known_locals;
          };
        },
        grows,
      )

  members_there : (after : Scene) (block k : ℕ) (members : List BlockMember) (names : Scopes) → AllByRecursion (AreThere after) names → AllByRecursion (AreThere after) (members_named block k members names)
  members_there after block k [] names all = all
  members_there after block k (m ∷ members) names all = members_there after block (k + 1) members (declare m.name (entry.Member block k) names) (with_name after m.name (entry.Member block k) names tt all)

  inner_there : (after : Scene) (n : ℕ) (block : Block) (instance : Option (List ℕ)) (names : Scopes) → AllByRecursion (AreThere after) names → AllByRecursion (AreThere after) (inner_names n block instance names)
  inner_there after n block None names all = members_there after n 0 block.members names all
  inner_there after n block (Some name) names all = with_name after name (entry.Instance n) names tt all

  -- one more block
  pub block_grown : (block : Block) → AllByRecursion (λ (m : BlockMember). IsSound count m.ty) block.members → AllByRecursion (λ (m : BlockMember). IsCounted m.ty) block.members → Grown (with_block block env)
  unfolding with_block
  block_grown block is count_is =
      let after : Scene = record scene { blocks = scene.blocks ++ block ∷ [] } in
      let grows : Grows scene after = record {
        stage = refl;
        structs = λ k x is. is;
        count = omega arith;
        leaves = λ u known. refl;
        heights = λ u known. refl;
        values = λ u v known. refl;
        measures = λ raise k below. refl;
        declared = λ are. are;
        globals = λ k x is. is;
        blocks = front_append scene.blocks (block ∷ []);
        interfaces = λ k x is. is;
        prototypes = λ k x is. is;
        sizes = λ k x is. is;
        params = refl;
        locals = λ k x is. is;
      } in (
        record {
          names = inner_there after (length scene.blocks) block block.instance (declare block.name (entry.Block (length scene.blocks)) env.names)
              (with_name after block.name (entry.Block (length scene.blocks)) env.names tt (names_grow scene after grows env.names fine.names));
          scene = record {
            structs = fine.scene.structs;
            globals = fine.scene.globals;
            blocks = all_append (λ (b : Block). AllByRecursion (λ (m : BlockMember). IsSound count m.ty) b.members) scene.blocks (block ∷ []) fine.scene.blocks (is, tt);
            interfaces = fine.scene.interfaces;
            prototypes = fine.scene.prototypes;
            sizes = fine.scene.sizes;
            params = fine.scene.params;
            locals = fine.scene.locals;
            known = fine.scene.known;
          };
          counted = record {
            structs = fine.counted.structs;
            globals = fine.counted.globals;
            blocks = all_append (λ (b : Block). AllByRecursion (λ (m : BlockMember). IsCounted m.ty) b.members) scene.blocks (block ∷ []) fine.counted.blocks (count_is, tt);
            interfaces = fine.counted.interfaces;
            prototypes = fine.counted.prototypes;
            params = fine.counted.params;
            locals = fine.counted.locals;
            known_globals = fine.counted.known_globals;
            known_locals = fine.counted.known_locals;
          };
        },
        grows,
      )
