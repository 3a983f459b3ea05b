-- What qualifiers alone declare, the size of the work group, is as a unit's must be.
use Rattle.std.proofs.Common.{◌≡◌, refl, sym, ap, ◌∙◌, ℕ, List, [], ◌∷◌, ◌++◌, map, length, Option, Some, None, is_some, unwrap_or, not, ◌&&◌, ◌||◌, IsTrue, nat_le, Ok, arith}
use Rattle.std.proofs.lemmas.Bool.{and_from, le-leb}
use Rattle.gsl_base.specs.declared.fault.Code.TheVariants.{E0701}
use Rattle.gsl_base.specs.declared.fault.Place.{Place}
use Rattle.gsl_base.specs.declared.stage.Stage.{Stage}
use Rattle.gsl_base.specs.declared.stage.Stage.TheVariants.{Vertex, Fragment, Compute}
use Rattle.gsl_syntax.specs.declared.declaration.Qual.{Qual}
use Rattle.gsl_tree.specs.declared.unit.LocalSize.{LocalSize}
use Rattle.gsl_tree.specs.Expressions.{is_size}
use Rattle.gsl_tree.specs.WellTyped.{AreSizes}
use Rattle.gsl_typing.specs.declared.scene.Scene.{Scene}
use Rattle.gsl_overload.proofs.Same.{no_more}
use Rattle.gsl_check_expr.specs.declared.env.Env.{Env}
use Rattle.gsl_check_decl.proofs.Gathering.{Holds, holds_after}
use Rattle.gsl_qualifiers.specs.declared.qualified.Qualified.{Qualified}
use Rattle.gsl_qualifiers.specs.Qualifiers.{Storage, alone_by, role_alone, storage_in, may_be_in, qualified}
use Rattle.gsl_check_globals.specs.Globals.{alone, sized_at, states_none, with_size}
use Rattle.gsl_check_law.specs.Scenes.{IsEnv}
use Rattle.gsl_check_law.proofs.Rows.{row}
use Rattle.gsl_check_law.proofs.Found.{all_append}
use Rattle.gsl_check_law.proofs.Longer.{Grows, front_append}
use Rattle.gsl_check_law.proofs.Standing.{names_grow}
use Rattle.gsl_check_law.proofs.Qualified.{IsWithin, IsSaid}
use Rattle.gsl_check_law.proofs.Tops.{IsTop, TopDone, fits_stay}
use Rattle.gsl_check_law.proofs.Outer.{said_here, top_itself}

-- a size is stated in a compute shader alone
in_compute : (stage : Stage) (storage : Option Storage) → IsTrue (may_be_in (alone_by stage storage)) → stage ≡ Compute
in_compute Vertex storage may = no_more may
in_compute Fragment storage may = no_more may
in_compute Compute storage may = refl

part_is : (o : Option ℕ) → IsWithin 1 1024 o → IsTrue (nat_le 1 (unwrap_or o 1) && nat_le (unwrap_or o 1) 1024)
part_is None is = refl
part_is (Some n) is = and_from (nat_le 1 n) (nat_le n 1024) (le-leb 1 n is.0) (le-leb n 1024 is.1)

sizes_more : (stage : Stage) (sizes : List LocalSize) (size : LocalSize) → stage ≡ Compute → AreSizes stage (map (λ (s : LocalSize). s.parts) sizes) → (length size.parts ≡ 3) × IsTrue (is_size size.parts)
    → AreSizes stage (map (λ (s : LocalSize). s.parts) (sizes ++ size ∷ []))
sizes_more Vertex sizes size compute all is = elim (never compute) [ ]
  where
    never : Vertex ≡ Compute → ⊥
    never same = cc
sizes_more Fragment sizes size compute all is = elim (never compute) [ ]
  where
    never : Fragment ≡ Compute → ⊥
    never same = cc
sizes_more Compute sizes size compute all is = pushed sizes all
  where
    pushed : (sizes : List LocalSize) → AreSizes Compute (map (λ (s : LocalSize). s.parts) sizes) → AreSizes Compute (map (λ (s : LocalSize). s.parts) (sizes ++ size ∷ []))
    pushed [] all = (is, tt)
    pushed (s ∷ sizes) all = (all.0, pushed sizes all.1)

module _ (stage : Stage) (env : Env) (fine : IsEnv env) (top : IsTop stage env.scene) where
  abbrev scene : Scene
  scene = env.scene

  module _ (q : Qualified) (place : Place) (x : IsWithin 1 1024 q.size_x) (y : IsWithin 1 1024 q.size_y) (z : IsWithin 1 1024 q.size_z) (compute : stage ≡ Compute) where
    abbrev size : LocalSize
    size = record { parts = unwrap_or q.size_x 1 ∷ unwrap_or q.size_y 1 ∷ unwrap_or q.size_z 1 ∷ []; place = place }

    abbrev after : Scene
    after = record scene { sizes = scene.sizes ++ size ∷ [] }

    right : (length size.parts ≡ 3) × IsTrue (is_size size.parts)
    right = (refl, and_from _ _ (part_is q.size_x x) (and_from _ _ (part_is q.size_y y) (and_from _ _ (part_is q.size_z z) refl)))

    grows : Grows scene after
    grows = record {
      stage = refl;
      structs = λ k x is. is;
      count = omega arith;
      leaves = λ u known. refl;
      heights = λ u known. refl;
      values = λ u v known. refl;
      measures = λ raise k below. refl;
      declared = λ are. are;
      globals = λ k x is. is;
      blocks = λ k x is. is;
      interfaces = λ k x is. is;
      prototypes = λ k x is. is;
      sizes = front_append scene.sizes (size ∷ []);
      params = refl;
      locals = λ k x is. is;
    }

    pub size_top : TopDone stage env (with_size q place env)
    size_top = record {
      env = record {
        names = names_grow scene after grows env.names fine.names;
        scene = record {
          structs = fine.scene.structs;
          globals = fine.scene.globals;
          blocks = fine.scene.blocks;
          interfaces = fine.scene.interfaces;
          prototypes = fine.scene.prototypes;
          sizes = all_append (λ (s : LocalSize). (length s.parts ≡ 3) × IsTrue (is_size s.parts)) scene.sizes (size ∷ []) fine.scene.sizes (right, tt);
          params = fine.scene.params;
          locals = fine.scene.locals;
          known = fine.scene.known;
        };
        counted = record {
          structs = fine.counted.structs;
          globals = fine.counted.globals;
          blocks = fine.counted.blocks;
          interfaces = fine.counted.interfaces;
          prototypes = fine.counted.prototypes;
          params = fine.counted.params;
          locals = fine.counted.locals;
          known_globals = fine.counted.known_globals;
          known_locals = fine.counted.known_locals;
        };
      };
      grows = grows;
      top = record {
        of_stage = top.of_stage;
        params = top.params;
        locals = top.locals;
        constants = top.constants;
        structs = top.structs;
        globals = fits_stay scene after fine.scene grows refl top.globals;
        blocks = top.blocks;
        push = top.push;
        interfaces = top.interfaces;
        prototypes = top.prototypes;
        sizes = sizes_more stage scene.sizes size compute top.sizes right;
      };
    }

  sized : (quals : List Qual) (q : Qualified) → IsSaid stage (role_alone scene.stage quals) q → (o : Option Place) → q.within ≡ o → Holds (TopDone stage env) (sized_at q env o)
  unfolding role_alone
  sized quals q said None at = top_itself stage env fine top
  sized quals q said (Some place) at =
      let may : IsTrue (may_be_in (alone_by scene.stage (storage_in quals))) = ap (λ (o : Option Place). not (is_some o) || may_be_in (alone_by scene.stage (storage_in quals))) (sym at) ∙ said.6 in
      let compute : stage ≡ Compute = sym top.of_stage ∙ in_compute scene.stage (storage_in quals) may in
      row (TopDone stage env) place E0701 (states_none q) [] (Ok (with_size q place env)) (λ _. size_top q place said.5.0 said.5.1 said.5.2 compute)

  pub alone_top : (quals : List Qual) → Holds (TopDone stage env) (alone quals env)
  unfolding alone
  alone_top quals =
      holds_after (IsSaid stage (role_alone scene.stage quals)) (TopDone stage env) (qualified env (role_alone scene.stage quals) quals) (λ q. sized_at q env q.within) (said_here stage env fine top (role_alone scene.stage quals) quals)
      (λ q said. sized quals q said q.within refl)
