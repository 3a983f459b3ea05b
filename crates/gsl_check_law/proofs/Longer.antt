-- Scenes whose lists begin with those of another.
use Rattle.std.proofs.Common.{◌≡◌, refl, ◌∙◌, ℕ, zero, suc, ◌≤◌, ◌<◌, List, [], ◌∷◌, ◌++◌, length, slice_get, Some, arith}
use Rattle.std.specs.List.{AllByRecursion}
use Rattle.std.proofs.lemmas.Option.{none-some}
use Rattle.gsl_types.specs.Known.{AreStructs, IsSound}
use Rattle.gsl_types.specs.Leaves.{told_leaves}
use Rattle.gsl_types.specs.Structs.{numbered}
use Rattle.gsl_types.proofs.Layers.{sound_stays}
use Rattle.gsl_types.specs.declared.ty.StructType.{StructType}
use Rattle.gsl_types.specs.declared.ty.Ty.{Ty}
use Rattle.gsl_values.specs.declared.value.Value.{Value}
use Rattle.gsl_layout.specs.Measures.{measuring}
use Rattle.gsl_tree.specs.Values.{is_value_of}
use Rattle.gsl_tree.specs.Weights.{height_of}
use Rattle.gsl_tree.specs.WellTyped.{IsStructDeclared}
use Rattle.gsl_typing.specs.declared.scene.Scene.{Scene}

-- what stands in the one list stands there in the other
abbrev pub Front : {A : Type 0} → List A → List A → Type 0
Front {A} xs ys = (k : ℕ) (x : A) → slice_get xs k ≡ Some x → slice_get ys k ≡ Some x

-- each struct is as it should be
abbrev pub AreDeclared : List StructType → Type 0
AreDeclared structs = AreStructs structs × AllByRecursion (IsStructDeclared structs) structs

-- The lists of one scene begin those of another, and structs that are as they should be stay so.
pub record Grows (s t : Scene) : Type 0 where
  pub stage : s.stage ≡ t.stage
  pub structs : Front s.structs t.structs
  pub count : length s.structs ≤ length t.structs
  pub leaves : (u : Ty) → IsSound (length s.structs) u → told_leaves s.structs u ≡ told_leaves t.structs u
  pub heights : (u : Ty) → IsSound (length s.structs) u → height_of s.structs u ≡ height_of t.structs u
  pub values : (u : Ty) (v : Value) → IsSound (length s.structs) u → is_value_of s.structs u v ≡ is_value_of t.structs u v
  pub measures : (raise : ℕ → ℕ) (k : ℕ) → k < length s.structs → numbered (measuring raise) s.structs k ≡ numbered (measuring raise) t.structs k
  pub declared : AreDeclared s.structs → AreDeclared t.structs
  pub globals : Front s.globals t.globals
  pub blocks : Front s.blocks t.blocks
  pub interfaces : Front s.interfaces t.interfaces
  pub prototypes : Front s.prototypes t.prototypes
  pub sizes : Front s.sizes t.sizes
  pub params : s.params ≡ t.params
  pub locals : Front s.locals t.locals

pub grows_itself : (s : Scene) → Grows s s
grows_itself s = record {
  stage = refl;
  structs = λ k x is. is;
  count = omega arith;
  leaves = λ u known. refl;
  heights = λ u known. refl;
  values = λ u v known. refl;
  measures = λ raise k below. refl;
  declared = λ are. are;
  globals = λ k x is. is;
  blocks = λ k x is. is;
  interfaces = λ k x is. is;
  prototypes = λ k x is. is;
  sizes = λ k x is. is;
  params = refl;
  locals = λ k x is. is;
}

pub grows_then : (s t u : Scene) → Grows s t → Grows t u → Grows s u
grows_then s t u a b =
    let first = a.count in
    let second = b.count in
    record {
      stage = a.stage ∙ b.stage;
      structs = λ k x is. b.structs k x (a.structs k x is);
      count = omega (arith, first, second);
      leaves = λ v known. a.leaves v known ∙ b.leaves v (sound_stays (length s.structs) (length t.structs) first v known);
      heights = λ v known. a.heights v known ∙ b.heights v (sound_stays (length s.structs) (length t.structs) first v known);
      values = λ v w known. a.values v w known ∙ b.values v w (sound_stays (length s.structs) (length t.structs) first v known);
      measures = λ raise k below. a.measures raise k below ∙ b.measures raise k (omega (arith, below, first));
      declared = λ are. b.declared (a.declared are);
      globals = λ k x is. b.globals k x (a.globals k x is);
      blocks = λ k x is. b.blocks k x (a.blocks k x is);
      interfaces = λ k x is. b.interfaces k x (a.interfaces k x is);
      prototypes = λ k x is. b.prototypes k x (a.prototypes k x is);
      sizes = λ k x is. b.sizes k x (a.sizes k x is);
      params = a.params ∙ b.params;
      locals = λ k x is. b.locals k x (a.locals k x is);
    }

-- what is put behind a list leaves what stands in it
pub front_append : {A : Type 0} (xs ys : List A) → Front xs (xs ++ ys)
front_append [] ys k x is = elim (none-some x is) [ ]
front_append (y ∷ xs) ys zero x is = is
front_append (y ∷ xs) ys (suc k) x is = front_append xs ys k x is
