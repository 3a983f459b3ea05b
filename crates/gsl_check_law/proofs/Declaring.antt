-- What declarations among statements declare is well typed.
use Rattle.std.proofs.Common.{unwrap_or, nat_lt, ◌^◌, min, ◌≡◌, refl, ap, ◌∙◌, ℕ, ◌≤◌, ◌<◌, List, [], ◌∷◌, ◌++◌, map, length, Option, Some, None, Bool, false, not, Ok, arith, length-append, IsTrue, subst, sym, ◌&&◌}
use Rattle.std.specs.List.{AllByRecursion, list_all}
use Rattle.std.proofs.lemmas.Bool.{leb-true, lt-ltb, and_parts}
use Rattle.gsl_base.specs.Checked.{◌>>=◌}
use Rattle.gsl_base.specs.declared.fault.Place.{Place}
use Rattle.gsl_base.specs.declared.fault.Code.TheVariants.{E0403, E0404, E0510, E0908}
use Rattle.gsl_syntax.specs.declared.expr.Dim.{Dim}
use Rattle.gsl_syntax.specs.declared.expr.TypeSpec.{TypeSpec}
use Rattle.gsl_syntax.specs.declared.declaration.Name.{Name}
use Rattle.gsl_syntax.specs.declared.declaration.Declared.{Declared}
use Rattle.gsl_syntax.specs.declared.declaration.StructMember.{StructMember}
use Rattle.gsl_syntax.specs.declared.declaration.Struct.{Struct}
use Rattle.gsl_types.specs.Known.{IsSound, sound, is_plain}
use Rattle.gsl_types.specs.Leaves.{counting, most_leaves}
use Rattle.gsl_types.proofs.Layers.{sound_stays, sound_struct}
use Rattle.gsl_types.specs.declared.ty.Member.{Member}
use Rattle.gsl_types.specs.declared.ty.StructType.{StructType}
use Rattle.gsl_types.specs.declared.ty.Direction.{Direction}
use Rattle.gsl_types.specs.declared.ty.Ty.{Ty}
use Rattle.gsl_names.specs.declared.entry.Entry.{Entry}
use Rattle.gsl_names.specs.declared.entry.Entry.TheVariants as entry
use Rattle.gsl_names.specs.Scopes.{find}
use Rattle.gsl_tree.specs.declared.folded.Folded.{Folded}
use Rattle.gsl_tree.specs.declared.unit.Block.{Block}
use Rattle.gsl_tree.specs.declared.unit.BlockMember.{BlockMember}
use Rattle.gsl_tree.specs.declared.unit.GlobalVar.{GlobalVar}
use Rattle.gsl_tree.specs.declared.unit.Interface.{Interface}
use Rattle.gsl_tree.specs.Values.{value_meaning}
use Rattle.gsl_values.specs.declared.value.Value.{Value}
use Rattle.gsl_tree.specs.Weights.{height_of, height_meaning, most_high}
use Rattle.gsl_tree.specs.WellTyped.{IsVariableType, IsName, IsStructDeclared}
use Rattle.gsl_typing.specs.declared.scene.Scene.{Scene}
use Rattle.gsl_check_expr.specs.declared.env.Env.{Env}
use Rattle.gsl_check_expr.specs.declared.brackets.Dimensions.{Dimensions}
use Rattle.gsl_check_expr.specs.declared.brackets.Dimensions.TheVariants.{Plain, Sized}
use Rattle.gsl_check_expr.specs.declared.writing.Written.{Written}
use Rattle.gsl_check_expr.specs.declared.writing.Written.TheVariants.{Whole, Open}
use Rattle.gsl_check_expr.specs.Sizes.{dimensions, arrayed}
use Rattle.gsl_check_expr.specs.Callees.{Base, Keyword, Callee, basic_type}
use Rattle.gsl_check_expr.specs.Callees as callees
use Rattle.gsl_check_expr.specs.Expressions.{bracket, callee}
use Rattle.gsl_check_expr.specs.Written.{struct_named, base_type, bracketed, written_by, written_type, named_by, declared, whole_type}
use Rattle.gsl_check_decl.specs.Declaring.{is_reserved, may_be_had, is_high, is_empty, is_declared}
use Rattle.gsl_check_decl.specs.Locals.{with_local}
use Rattle.gsl_check_decl.specs.Structs.{has_member, may_be_member, with_member, with_names, with_line, with_lines, struct_of, height_over, with_struct, may_be_struct, structured, is_too_large}
use Rattle.gsl_check_decl.specs.Structs as structs
use Rattle.gsl_check_decl.proofs.Gathering.{Holds, holds_after}
use Rattle.gsl_check_law.specs.Scenes.{IsHead, HasVariables, IsEnv}
use Rattle.gsl_check_law.proofs.Rows.{row, not_false, both, there, neither}
use Rattle.gsl_check_law.proofs.Found.{all_append, all_map}
use Rattle.gsl_check_law.proofs.Sizing.{GoodBracket, GoodDimensions, dimensions_good, arrayed_sound, array_sound, basic_sound, array_counted, arrayed_counted}
use Rattle.gsl_check_law.proofs.Naming.{find_there, IsThereOr}
use Rattle.gsl_check_law.proofs.Phrases.{bracket_good, callee_good}
use Rattle.gsl_check_law.proofs.Lists.{GoodAt}
use Rattle.gsl_check_law.proofs.Longer.{Grows, front_append, AreDeclared}
use Rattle.gsl_check_law.proofs.Standing.{variable_grows, result_grows, names_grow, with_name, meaning_stays}
use Rattle.gsl_formed.specs.Formed.{struct_formed, names_formed, is_name, dims_formed, struct_line_formed, spec_formed, dim_formed}
use Rattle.gsl_tree.specs.Expressions.{most_parts}
use Rattle.gsl_types.proofs.Longer.{numbered_push, longer_known}
use Rattle.gsl_overload.proofs.Same.{no_more}
use Rattle.gsl_check_law.proofs.Names.{name_is}
use Rattle.gsl_layout.specs.Measures.{measuring}
use Rattle.gsl_syntax.specs.declared.expr.Basic.{Basic}
use Rattle.gsl_syntax.specs.declared.expr.Basic.TheVariants as basic
use Rattle.gsl_types.specs.declared.ty.Scalar.TheVariants.{Bool as Boolean, Int, Uint}
use Rattle.gsl_types.specs.declared.ty.Ty.TheVariants as ty
use Rattle.gsl_types.specs.declared.ty.Ty.TheVariants.{rolls-Struct}
use Rattle.gsl_types.specs.declared.ty.Ty.TheOpen.{Ty-F}
use Rattle.gsl_types.specs.declared.ty.Ty.TheFolds.{fold-roll-Ty}
use Rattle.gsl_check_law.specs.Small.{counted_layer, is_counted, IsCounted, IsSmallFolded}
use Rattle.gsl_check_law.proofs.Counted.{void_counted, one_counted, vector_counted}
use Rattle.std.proofs.lemmas.Option.{none-some, cond_some}
use Rattle.gsl_check_expr.specs.Initialisers.{array_as, sized_as, served, begun_type}
use Rattle.gsl_typing.specs.declared.scene.Part.{Part}
use Rattle.gsl_typing.specs.Conversions.{serves_as}
use Rattle.gsl_typing.specs.Scene.{type_in}
use Rattle.gsl_types.specs.declared.ty.Ty.TheViews.{out-Ty, roll-Ty, roll-out-Ty}
use Rattle.std.proofs.lemmas.Bool.{ltb-true}

-- ---- types as they are written

pub at_more : (few many : ℕ) (w : Written) → few ≤ many → GoodAt few w → GoodAt many w
at_more few many (Whole t) le is = (sound_stays few many le t is.0, is.1)
at_more few many (Open place e) le is = (sound_stays few many le e is.0, is.1)

bracketed_good : (count : ℕ) (dims : Dimensions) (t : Ty) → GoodDimensions dims → IsSound count t → IsCounted t → GoodAt count (bracketed dims t)
bracketed_good count Plain t good is also = (is, also)
bracketed_good count (Sized place (Some n) rest) t good is also = (array_sound count (arrayed rest t) n good.0 (arrayed_sound count rest t good.1 is), array_counted (arrayed rest t) n good.0.1 (arrayed_counted rest t good.1 also))
bracketed_good count (Sized place None rest) t good is also = (arrayed_sound count rest t good.1 is, arrayed_counted rest t good.1 also)

-- a type that is one of so many structs, and counted
abbrev pub IsGood : ℕ → Ty → Type 0
IsGood count t = IsSound count t × IsCounted t

pub whole_good : (count : ℕ) (w : Written) → GoodAt count w → Holds (IsGood count) (whole_type w)
unfolding whole_type
whole_good count (Whole t) is = is
whole_good count (Open place e) is = tt

named_good : (count : ℕ) (dims : Dimensions) (base : Written) → GoodDimensions dims → GoodAt count base → Holds (GoodAt count) (named_by dims base)
named_good count Plain base good is = is
named_good count (Sized place size rest) (Whole t) good is = bracketed_good count (Sized place size rest) t good is.0 is.1
named_good count (Sized place size rest) (Open missing e) good is = tt

pub struct_counted : (n : ℕ) → IsCounted (ty.Struct n)
struct_counted n = ap is_counted (sym (rolls-Struct n)) ∙ fold-roll-Ty Bool counted_layer (Ty-F.Struct n)

basic_counted : (b : Basic) → IsCounted (basic_type b)
basic_counted basic.Void = void_counted
basic_counted basic.Bool = one_counted Boolean
basic_counted basic.Int = one_counted Int
basic_counted basic.Uint = one_counted Uint
basic_counted basic.Bvec2 = vector_counted Boolean 2
basic_counted basic.Bvec3 = vector_counted Boolean 3
basic_counted basic.Bvec4 = vector_counted Boolean 4
basic_counted basic.Ivec2 = vector_counted Int 2
basic_counted basic.Ivec3 = vector_counted Int 3
basic_counted basic.Ivec4 = vector_counted Int 4
basic_counted basic.Uvec2 = vector_counted Uint 2
basic_counted basic.Uvec3 = vector_counted Uint 3
basic_counted basic.Uvec4 = vector_counted Uint 4

module _ (env : Env) (fine : IsEnv env) where
  abbrev scene : Scene
  scene = env.scene

  abbrev count : ℕ
  count = length scene.structs

  struct_good : (place : Place) (o : Option Entry) → IsThereOr scene o → Holds (IsGood count) (struct_named place o)
  struct_good place None there = tt
  struct_good place (Some (entry.Struct n)) there = (sound_struct count n ∙ lt-ltb n count there, struct_counted n)
  struct_good place (Some (entry.Local n fixed)) there = tt
  struct_good place (Some (entry.Param n fixed)) there = tt
  struct_good place (Some (entry.Global n)) there = tt
  struct_good place (Some (entry.Member b n)) there = tt
  struct_good place (Some (entry.Instance n)) there = tt
  struct_good place (Some (entry.Block n)) there = tt
  struct_good place (Some (entry.Interface n)) there = tt
  struct_good place (Some (entry.Function n)) there = tt
  struct_good place (Some (entry.Builtin which)) there = tt
  struct_good place (Some (entry.Stage var)) there = tt
  struct_good place (Some entry.Size) there = tt

  base_good : (place : Place) (base : Base) → Holds (IsGood count) (base_type env place base)
  unfolding base_type
  base_good place (Keyword b) = (basic_sound count b, basic_counted b)
  base_good place (callees.Name name) = struct_good place (find env.names name) (find_there scene env.names name fine.names)

  pub written_good : (t : TypeSpec) → IsTrue (spec_formed t) → Holds (GoodAt count) (written_type env t)
  unfolding written_by
  written_good t formed =
      let c = callee env t in
      holds_after GoodDimensions (GoodAt count) (dimensions c.brackets) (λ dims. base_type env c.place c.base >>= (λ t. Ok (bracketed dims t))) (dimensions_good c.brackets (callee_good env fine t formed))
      (λ dims good. holds_after (IsGood count) (GoodAt count) (base_type env c.place c.base) (λ t. Ok (bracketed dims t)) (base_good c.place c.base) (λ t is. bracketed_good count dims t good is.0 is.1))

  all_brackets : (dims : List Dim) → IsTrue (dims_formed dims) → AllByRecursion GoodBracket (map (bracket env) dims)
  all_brackets [] is = tt
  all_brackets (d ∷ dims) is = let parts = and_parts (dim_formed d) (dims_formed dims) is in (bracket_good env fine d parts.0, all_brackets dims parts.1)

  pub declared_good : (dims : List Dim) (base : Written) → IsTrue (dims_formed dims) → GoodAt count base → Holds (GoodAt count) (declared (map (bracket env) dims) base)
  unfolding declared
  declared_good dims base formed is =
      holds_after GoodDimensions (GoodAt count) (dimensions (map (bracket env) dims)) (λ d. named_by d base) (dimensions_good (map (bracket env) dims) (all_brackets dims formed)) (λ d good. named_good count d base good is)

  -- ---- types that may be had

  pub variable_is : (t : Ty) → not (may_be_had scene t) ≡ false → is_high scene t ≡ false → IsVariableType scene.structs t
  unfolding may_be_had is_high
  variable_is t had low =
      let parts = both (is_plain t) (sound count t) had in
      record { known = parts.1; plain = parts.0; low = leb-true (height_of scene.structs t) most_high (not_false _ low) }

  -- ---- one more local variable

  abbrev pub Grown : Env → Type 0
  Grown after = IsEnv after × Grows scene after.scene

  pub local_grown : (fixed : Bool) (name : List ℕ) (t : Ty) (folded : Folded) → IsVariableType scene.structs t → IsCounted t → IsSmallFolded folded → Grown (with_local fixed name t folded env)
  unfolding with_local
  local_grown fixed name t folded is count_is small =
      let after : Scene = record scene { locals = scene.locals ++ t ∷ []; consts = record scene.consts { locals = scene.consts.locals ++ folded ∷ [] } } in
      let grows : Grows scene after = record {
        stage = refl;
        structs = λ k x is. is;
        count = omega arith;
        leaves = λ u known. refl;
        heights = λ u known. refl;
        values = λ u v known. refl;
        measures = λ raise k below. refl;
        declared = λ are. are;
        globals = λ k x is. is;
        blocks = λ k x is. is;
        interfaces = λ k x is. is;
        prototypes = λ k x is. is;
        sizes = λ k x is. is;
        params = refl;
        locals = front_append scene.locals (t ∷ []);
      } in (
        record {
          names = with_name after name (entry.Local (length scene.locals) fixed) env.names tt (names_grow scene after grows env.names fine.names);
          scene = record {
            structs = fine.scene.structs;
            globals = fine.scene.globals;
            blocks = fine.scene.blocks;
            interfaces = fine.scene.interfaces;
            prototypes = fine.scene.prototypes;
            sizes = fine.scene.sizes;
            params = fine.scene.params;
            locals = all_append (IsVariableType scene.structs) scene.locals (t ∷ []) fine.scene.locals (is, tt);
            known = fine.scene.known;
          };
          counted = record {
            structs = fine.counted.structs;
            globals = fine.counted.globals;
            blocks = fine.counted.blocks;
            interfaces = fine.counted.interfaces;
            prototypes = fine.counted.prototypes;
            params = fine.counted.params;
            locals = all_append IsCounted scene.locals (t ∷ []) fine.counted.locals (count_is, tt);
            known_globals = fine.counted.known_globals;
            known_locals = all_append IsSmallFolded scene.consts.locals (folded ∷ []) fine.counted.known_locals (small, tt);
          };
        },
        grows,
      )

  -- ---- one more struct

  struct_grows : (s : StructType) → (AreDeclared scene.structs → AreDeclared (scene.structs ++ s ∷ [])) → Grows scene (record scene { structs = scene.structs ++ s ∷ [] })
  struct_grows s declared = record {
    stage = refl;
    structs = front_append scene.structs (s ∷ []);
    count = omega (arith, length-append scene.structs (s ∷ []));
    leaves = λ u known. ap (λ n. min n most_leaves) (meaning_stays scene.structs s counting u known);
    heights = λ u known. meaning_stays scene.structs s height_meaning u known;
    values = λ u v known. ap (λ (test : Value → Bool). test v) (meaning_stays scene.structs s value_meaning u known);
    measures = λ raise k below. numbered_push (measuring raise) scene.structs s k below;
    declared = declared;
    globals = λ k x is. is;
    blocks = λ k x is. is;
    interfaces = λ k x is. is;
    prototypes = λ k x is. is;
    sizes = λ k x is. is;
    params = refl;
    locals = λ k x is. is;
  }

  -- a type of variables is one where a struct more is there
  variable_stays : (s : StructType) (u : Ty) → IsVariableType scene.structs u → IsVariableType (scene.structs ++ s ∷ []) u
  variable_stays s u is = record {
    known = sound_stays count (length (scene.structs ++ s ∷ [])) (omega (arith, length-append scene.structs (s ∷ []))) u is.known;
    plain = is.plain;
    low = subst (λ h. h ≤ most_high) (meaning_stays scene.structs s height_meaning u is.known) is.low;
  }

  struct_stays : (s : StructType) (x : StructType) → IsStructDeclared scene.structs x → IsStructDeclared (scene.structs ++ s ∷ []) x
  struct_stays s x is = record {
    name = is.name;
    count = is.count;
    names = is.names;
    types = all_map (λ (m : Member). IsVariableType scene.structs m.ty) (λ (m : Member). IsVariableType (scene.structs ++ s ∷ []) m.ty) x.members (λ m is. variable_stays s m.ty is) is.types;
  }

  struct_declared : (name : List ℕ) (members : List Member) → IsName name → 0 < length members → length members ≤ most_parts → AllByRecursion (λ (m : Member). IsName m.name × IsVariableType scene.structs m.ty × IsCounted m.ty) members
      → AreDeclared scene.structs → AreDeclared (scene.structs ++ struct_of scene.structs name members ∷ [])
  struct_declared name members named some few all are =
      let s = struct_of scene.structs name members in
      let types = all_map (λ (m : Member). IsName m.name × IsVariableType scene.structs m.ty × IsCounted m.ty) (λ (m : Member). IsVariableType scene.structs m.ty) members (λ m is. is.1) all in
      let earlier = all_map (λ (m : Member). IsVariableType scene.structs m.ty) (λ (m : Member). IsSound count m.ty) members (λ m is. is.known) types in (
        longer_known scene.structs are.0 s some earlier refl,
        all_append (IsStructDeclared (scene.structs ++ s ∷ [])) scene.structs (s ∷ []) (all_map (IsStructDeclared scene.structs) (IsStructDeclared (scene.structs ++ s ∷ [])) scene.structs (struct_stays s) are.1) (
          record {
            name = named;
            count = few;
            names = all_map (λ (m : Member). IsName m.name × IsVariableType scene.structs m.ty × IsCounted m.ty) (λ (m : Member). IsName m.name) members (λ m is. is.0) all;
            types = all_map (λ (m : Member). IsVariableType scene.structs m.ty) (λ (m : Member). IsVariableType (scene.structs ++ s ∷ []) m.ty) members (λ m is. variable_stays s m.ty is) types;
          },
          tt,
        ),
      )

  module _ (after : Scene) (grows : Grows scene after) where
    grown_variables : (s : StructType) → HasVariables scene.structs s → HasVariables after.structs s
    grown_variables s all = all_map (λ (m : Member). IsVariableType scene.structs m.ty) (λ (m : Member). IsVariableType after.structs m.ty) s.members (λ m is. variable_grows scene after grows m.ty is) all

    grown_structs : AllByRecursion (HasVariables after.structs) scene.structs
    grown_structs = all_map (HasVariables scene.structs) (HasVariables after.structs) scene.structs grown_variables fine.scene.structs

    grown_globals : AllByRecursion (λ (g : GlobalVar). IsVariableType after.structs g.ty) scene.globals
    grown_globals = all_map (λ (g : GlobalVar). IsVariableType scene.structs g.ty) (λ (g : GlobalVar). IsVariableType after.structs g.ty) scene.globals (λ g is. variable_grows scene after grows g.ty is) fine.scene.globals

    sound_grows : (t : Ty) → IsSound count t → IsSound (length after.structs) t
    sound_grows t is = sound_stays count (length after.structs) grows.count t is

    grown_blocks : AllByRecursion (λ (b : Block). AllByRecursion (λ (m : BlockMember). IsSound (length after.structs) m.ty) b.members) scene.blocks
    grown_blocks = all_map (λ (b : Block). AllByRecursion (λ (m : BlockMember). IsSound count m.ty) b.members) (λ (b : Block). AllByRecursion (λ (m : BlockMember). IsSound (length after.structs) m.ty) b.members) scene.blocks
        (λ b all. all_map (λ (m : BlockMember). IsSound count m.ty) (λ (m : BlockMember). IsSound (length after.structs) m.ty) b.members (λ m is. sound_grows m.ty is) all) fine.scene.blocks

    grown_interfaces : AllByRecursion (λ (i : Interface). IsSound (length after.structs) i.ty) scene.interfaces
    grown_interfaces = all_map (λ (i : Interface). IsSound count i.ty) (λ (i : Interface). IsSound (length after.structs) i.ty) scene.interfaces (λ i is. sound_grows i.ty is) fine.scene.interfaces

    grown_params : (params : List (Direction × Ty)) → AllByRecursion (λ (p : Direction × Ty). IsVariableType scene.structs p.1) params → AllByRecursion (λ (p : Direction × Ty). IsVariableType after.structs p.1) params
    grown_params params all = all_map (λ (p : Direction × Ty). IsVariableType scene.structs p.1) (λ (p : Direction × Ty). IsVariableType after.structs p.1) params (λ p is. variable_grows scene after grows p.1 is) all

    grown_prototypes : AllByRecursion (IsHead after.structs) scene.prototypes
    grown_prototypes = all_map (IsHead scene.structs) (IsHead after.structs) scene.prototypes (λ p is. (result_grows scene after grows p.result is.0, grown_params p.params is.1)) fine.scene.prototypes

    grown_locals : AllByRecursion (IsVariableType after.structs) scene.locals
    grown_locals = all_map (IsVariableType scene.structs) (IsVariableType after.structs) scene.locals (variable_grows scene after grows) fine.scene.locals

  pub struct_grown : (name : List ℕ) (members : List Member) → IsName name → 0 < length members → length members ≤ most_parts → AllByRecursion (λ (m : Member). IsName m.name × IsVariableType scene.structs m.ty × IsCounted m.ty) members → Grown (with_struct name members env)
  unfolding with_struct
  struct_grown name members named some few have =
      let all = all_map (λ (m : Member). IsName m.name × IsVariableType scene.structs m.ty × IsCounted m.ty) (λ (m : Member). IsVariableType scene.structs m.ty) members (λ m is. is.1) have in
      let s = struct_of scene.structs name members in
      let after : Scene = record scene { structs = scene.structs ++ s ∷ [] } in
      let grows : Grows scene after = struct_grows s (struct_declared name members named some few have) in (
        record {
          names = with_name after name (entry.Struct count) env.names (omega (arith, length-append scene.structs (s ∷ []))) (names_grow scene after grows env.names fine.names);
          scene = record {
            structs = all_append (HasVariables after.structs) scene.structs (s ∷ []) (grown_structs after grows) (grown_variables after grows s all, tt);
            globals = grown_globals after grows;
            blocks = grown_blocks after grows;
            interfaces = grown_interfaces after grows;
            prototypes = grown_prototypes after grows;
            sizes = fine.scene.sizes;
            params = grown_params after grows scene.params fine.scene.params;
            locals = grown_locals after grows;
            known = fine.scene.known;
          };
          counted = record {
            structs = all_append (λ (x : StructType). AllByRecursion (λ (m : Member). IsCounted m.ty) x.members) scene.structs (s ∷ []) fine.counted.structs (all_map (λ (m : Member). IsName m.name × IsVariableType scene.structs m.ty × IsCounted m.ty) (λ (m : Member). IsCounted m.ty) members (λ m is. is.2) have, tt);
            globals = fine.counted.globals;
            blocks = fine.counted.blocks;
            interfaces = fine.counted.interfaces;
            prototypes = fine.counted.prototypes;
            params = fine.counted.params;
            locals = fine.counted.locals;
            known_globals = fine.counted.known_globals;
            known_locals = fine.counted.known_locals;
          };
        },
        grows,
      )

  -- ---- the members of a struct

  -- a member of a struct that may be declared
  abbrev IsMember : Member → Type 0
  IsMember m = IsName m.name × IsVariableType scene.structs m.ty × IsCounted m.ty

  abbrev Variables : List Member → Type 0
  Variables members = AllByRecursion IsMember members

  member_had : (name : Name) (t : Ty) (members : List Member) → IsTrue (is_name name.text) → IsCounted t → Variables members → Holds Variables (with_member scene name t members)
  unfolding may_be_member
  member_had name t members formed count_is all =
      holds_after (λ _. IsVariableType scene.structs t) Variables (may_be_member scene name t members) (λ _. Ok (members ++ record { name = name.text; ty = t } ∷ []))
      (row (λ _. IsVariableType scene.structs t) name.place E0403 (has_member members name.text) ((E0404, is_reserved name.text) ∷ (E0510, not (may_be_had scene t)) ∷ (E0908, is_high scene t) ∷ []) (Ok tt)
      (λ _. row (λ _. IsVariableType scene.structs t) name.place E0404 (is_reserved name.text) ((E0510, not (may_be_had scene t)) ∷ (E0908, is_high scene t) ∷ []) (Ok tt)
      (λ _. row (λ _. IsVariableType scene.structs t) name.place E0510 (not (may_be_had scene t)) ((E0908, is_high scene t) ∷ []) (Ok tt)
      (λ had. row (λ _. IsVariableType scene.structs t) name.place E0908 (is_high scene t) [] (Ok tt)
      (λ low. variable_is t had low)))))
      (λ _ is. all_append IsMember members (record { name = name.text; ty = t } ∷ []) all ((name_is name.text formed, is, count_is), tt))

  name_had : (base : Written) (one : Declared) (members : List Member) → GoodAt count base → IsTrue (is_name one.name.text && dims_formed one.dims) → Variables members → Holds Variables (structs.with_name env base one members)
  unfolding structs.with_name
  name_had base one members good formed all =
      let parts = and_parts (is_name one.name.text) (dims_formed one.dims) formed in
      holds_after (GoodAt count) Variables (declared (map (bracket env) one.dims) base) (λ t. whole_type t >>= (λ whole. with_member scene one.name whole members)) (declared_good one.dims base parts.1 good)
      (λ t is. holds_after (IsGood count) Variables (whole_type t) (λ whole. with_member scene one.name whole members) (whole_good count t is) (λ whole fits. member_had one.name whole members parts.0 fits.1 all))

  names_had : (base : Written) (names : List Declared) (members : List Member) → GoodAt count base → IsTrue (names_formed names) → Variables members → Holds Variables (with_names env base names members)
  names_had base [] members good formed all = all
  names_had base (one ∷ more) members good formed all =
      let parts = and_parts (is_name one.name.text && dims_formed one.dims) (names_formed more) formed in
      holds_after Variables Variables (structs.with_name env base one members) (with_names env base more) (name_had base one members good parts.0 all) (λ next had. names_had base more next good parts.1 had)

  line_had : (line : StructMember) (members : List Member) → IsTrue (struct_line_formed line) → Variables members → Holds Variables (with_line env line members)
  unfolding with_line
  line_had line members formed all =
      let parts = and_parts (spec_formed line.ty) (names_formed line.names) formed in
      holds_after (GoodAt count) Variables (written_type env line.ty) (λ base. with_names env base line.names members) (written_good line.ty parts.0) (λ base good. names_had base line.names members good parts.1 all)

  lines_had : (lines : List StructMember) (members : List Member) → IsTrue (list_all struct_line_formed lines) → Variables members → Holds Variables (with_lines env lines members)
  lines_had [] members formed all = all
  lines_had (line ∷ lines) members formed all =
      let parts = and_parts (struct_line_formed line) (list_all struct_line_formed lines) formed in
      holds_after Variables Variables (with_line env line members) (with_lines env lines) (line_had line members parts.0 all) (λ next had. lines_had lines next parts.1 had)

  number_there : (name : List ℕ) (members : List Member) → length scene.structs < length (with_struct name members env).scene.structs
  unfolding with_struct
  number_there name members = omega (arith, length-append scene.structs (struct_of scene.structs name members ∷ []))

  -- a struct is declared, and its number is there
  abbrev pub StructDone : ℕ × Env → Type 0
  StructDone done = Grown done.1 × (done.0 < length done.1.scene.structs)

  filled : (members : List Member) → is_empty members ≡ false → 0 < length members
  filled [] is = no_more (sym is)
  filled (m ∷ members) is = omega arith

  within : (members : List Member) → is_too_large scene members ≡ false → length members ≤ most_parts
  unfolding is_too_large
  within members is = leb-true (length members) most_parts (not_false _ (neither _ _ is).0)

  pub structured_is : (s : Struct) → IsTrue (struct_formed s) → Holds StructDone (structured s env)
  unfolding structured may_be_struct
  structured_is s formed =
      let parts = and_parts (is_name s.name.text) (list_all struct_line_formed s.members) formed in
      holds_after Variables StructDone (with_lines env s.members []) (λ members. may_be_struct s.name members env >>= (λ _. Ok (length scene.structs, with_struct s.name.text members env))) (lines_had s.members [] parts.1 tt)
      (λ members all. holds_after (λ _. (0 < length members) × (length members ≤ most_parts)) StructDone (may_be_struct s.name members env) (λ _. Ok (length scene.structs, with_struct s.name.text members env))
      (row (λ _. (0 < length members) × (length members ≤ most_parts)) s.name.place E0403 (is_declared env s.name.text) ((E0404, is_reserved s.name.text) ∷ (E0510, is_empty members) ∷ (E0908, is_too_large scene members) ∷ []) (Ok (height_over scene.structs members))
      (λ _. row (λ _. (0 < length members) × (length members ≤ most_parts)) s.name.place E0404 (is_reserved s.name.text) ((E0510, is_empty members) ∷ (E0908, is_too_large scene members) ∷ []) (Ok (height_over scene.structs members))
      (λ _. row (λ _. (0 < length members) × (length members ≤ most_parts)) s.name.place E0510 (is_empty members) ((E0908, is_too_large scene members) ∷ []) (Ok (height_over scene.structs members))
      (λ some. row (λ _. (0 < length members) × (length members ≤ most_parts)) s.name.place E0908 (is_too_large scene members) [] (Ok (height_over scene.structs members))
      (λ small. (filled members some, within members small))))))
      (λ _ count. (struct_grown s.name.text members (name_is s.name.text parts.0) count.0 count.1 all, number_there s.name.text members)))

-- ---- the type of what begins as a value

sized_counted : (all : ℕ) (w : Written) (from u : Ty) → GoodAt all w → IsCounted from → sized_as w from ≡ Some u → IsCounted u
sized_counted all (Whole t) from u good is at = subst IsCounted (ap (λ o. unwrap_or o t) at) good.1
sized_counted all (Open place e) from u good is at = by_layer (out-Ty from) (ap is_counted (roll-out-Ty from) ∙ is) at
  where
    by_layer : (layer : Ty-F Ty) → IsCounted (roll-Ty layer) → array_as e layer ≡ Some u → IsCounted u
    by_layer Ty-F.Void known found = elim (none-some u found) [ ]
    by_layer (Ty-F.One s) known found = elim (none-some u found) [ ]
    by_layer (Ty-F.Vector s n) known found = elim (none-some u found) [ ]
    by_layer (Ty-F.Array a n) known found =
        let parts = and_parts (nat_lt n (2 ^ 32)) (is_counted a) (sym (fold-roll-Ty Bool counted_layer (Ty-F.Array a n)) ∙ known) in
        subst IsCounted (ap (λ o. unwrap_or o u) found) (array_counted e n (ltb-true n (2 ^ 32) parts.0) good.1)
    by_layer (Ty-F.Runtime a) known found = elim (none-some u found) [ ]
    by_layer (Ty-F.Struct n) known found = elim (none-some u found) [ ]

served_counted : (all : ℕ) (w : Written) (x : Part) (t : Ty) (o : Option Ty) → sized_as w (type_in x) ≡ o → GoodAt all w → IsCounted (type_in x) → served x o ≡ Some t → IsCounted t
served_counted all w x t None at good is found = elim (none-some t found) [ ]
served_counted all w x t (Some u) at good is found = subst IsCounted (cond_some (serves_as (type_in x) u) u t found).1 (sized_counted all w (type_in x) u good is at)

pub begun_counted : (count : ℕ) (w : Written) (x : Part) (t : Ty) → GoodAt count w → IsCounted (type_in x) → begun_type w x ≡ Some t → IsCounted t
unfolding begun_type
begun_counted count w x t good is found = served_counted count w x t (sized_as w (type_in x)) refl good is found
