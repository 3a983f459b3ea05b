-- The values where trails lead.
use Rattle.std.proofs.Common.{◌≡◌, refl, sym, ap, ◌∙◌, subst, ℕ, zero, suc, ◌≤◌, Bool, true, List, [], ◌∷◌, ◌++◌, length, Option, Some, None, arith}
use Rattle.std.specs.Prelude.{slice_get, slice_index_or}
use Rattle.std.proofs.lemmas.List.{length-map}
use Rattle.gsl_base.specs.declared.input.Input.{Input}
use Rattle.gsl_types.specs.Known.{AreStructs, IsSound}
use Rattle.gsl_types.specs.declared.ty.Ty.{Ty}
use Rattle.gsl_words.specs.declared.module.Module.{Module}
use Rattle.gsl_values.specs.declared.value.Value.{Value}
use Rattle.gsl_tree.specs.Around.{Around}
use Rattle.gsl_tree.specs.Expressions.{element_of}
use Rattle.gsl_tree.specs.Operations.{length_of, value_at}
use Rattle.gsl_tree.specs.Values.{is_value_of, parts_in}
use Rattle.gsl_tree.specs.declared.program.Program.{Program}
use Rattle.gsl_typed_law.proofs.Parts.{value_typed}
use Rattle.gsl_meaning.specs.Accesses.{Access, Root, count_parts, nothing, parts_at, root_value}
use Rattle.gsl_meaning.specs.State as shader
use Rattle.gsl_machine.specs.State.{State}
use Rattle.gsl_spv.specs.Sections.{Sections}
use Rattle.gsl_lower_places.specs.declared.reached.Base.{Base}
use Rattle.gsl_lower_places.specs.declared.reached.Part.{Part}
use Rattle.gsl_lower_law_places.specs.Components.{chosen}
use Rattle.gsl_lower_law_places.proofs.Variables.{value_on}
use Rattle.gsl_lower_holders.specs.Flow.{Flow}
use Rattle.gsl_lower_follows.specs.Frames.{Frame, Global, Good, HasType, Holder, Interface as Passed, Local, Name, Param, Stage, value_of}
use Rattle.gsl_lower_reaching.specs.Reaching.{At, AtVariable, Begins, Start, root_of}
use Rattle.gsl_lower_reaching.specs.Reaching.Begins.{variable, value, holder}
use Rattle.gsl_lower_reaching.specs.Trails.{ArePicked, Chosen, IsInside, IsPicked, Trail, effective}
use Rattle.gsl_lower_reaching.specs.Trails.ArePicked.{swizzled, component, repeated}
use Rattle.gsl_lower_reaching.proofs.Counted.{counted, vector_counted}

-- the item at a number that is there
pub index_is : (vs : List Value) (number : ℕ) (v : Value) → slice_get vs number ≡ Some v → slice_index_or vs number nothing ≡ v
index_is [] number v e = absurd cc
index_is (w ∷ vs) zero v e = some_value e
  where
    some_value : {a b : Value} → Some a ≡ Some b → a ≡ b
    some_value e = cc
index_is (w ∷ vs) (suc number) v e = index_is vs number v e

root_same : {a b : Root} → Some a ≡ Some b → a ≡ b
root_same e = cc

-- the value of the root of a name
root_named : (stages : List (Option Value)) (s : shader.State) (name : Name) (root : Root) (v : Value) → root_of name ≡ Some root → value_of stages s name ≡ Some v → root_value root s ≡ v
root_named stages s (Global number) root v e is = ap (λ r. root_value r s) (sym (root_same e)) ∙ index_is s.globals number v is
root_named stages s (Passed number) root v e is = ap (λ r. root_value r s) (sym (root_same e)) ∙ index_is s.interfaces number v is
root_named stages s (Stage number) root v e is = absurd cc
root_named stages s (Param number) root v e is = ap (λ r. root_value r s) (sym (root_same e)) ∙ index_is s.params number v is
root_named stages s (Local number) root v e is = ap (λ r. root_value r s) (sym (root_same e)) ∙ index_is s.locals number v is
root_named stages s (Holder number) root v e is = absurd cc

module _ (m : Module) (input : Input) (sections : Sections) (f : Frame m input sections) (p : Program) (around : Around) where
  -- The value of a variable at which a trail begins.
  pub record HasValue (s : shader.State) (loose : Start) (base : Base) (l : Trail) (x : AtVariable m input sections f p around loose base l) : Type 0 where
    pub v : Value
    pub is : value_of f.stages s x.name ≡ Some v
    pub root : root_value l.root s ≡ v
    pub typed : is_value_of p.structs l.ty v ≡ true

  pub has_value : (b : Flow) (s : shader.State) (state : State) (loose : Start) (base : Base) (l : Trail) (x : AtVariable m input sections f p around loose base l) → Good m input sections f p around b s state → HasValue s loose base l x
  has_value b s state loose base l x good = by (value_of f.stages s x.name) refl (subst (λ o. HasType m input sections f p around o (value_of f.stages s x.name)) x.typed (good.typed.each x.name))
    where
      by : (o : Option Value) → value_of f.stages s x.name ≡ o → HasType m input sections f p around (Some l.ty) o → HasValue s loose base l x
      by None e has = absurd has
      by (Some v) e has = record { v = v; is = e; root = root_named f.stages s x.name l.root v x.begins e; typed = has }

  -- what a trail begins at has a value of its type
  pub begins_typed : (at : At) (count : ℕ) (b : Flow) (s : shader.State) (state last : State) (loose : Start) (base : Base) (parts : List Part) (l : Trail) → Good m input sections f p around b s state → Begins m input sections f p around at count last loose base parts l
      → is_value_of p.structs l.ty (value_at (root_value l.root s) l.front) ≡ true
  begins_typed at count b s state last loose base parts l good (variable x) =
      let has = has_value b s state loose base l x good in
      ap (λ front. is_value_of p.structs l.ty (value_at (root_value l.root s) front)) x.none ∙ ap (is_value_of p.structs l.ty) has.root ∙ has.typed
  begins_typed at count b s state last loose base parts l good (value x) =
      ap (λ front. is_value_of p.structs l.ty (value_at (root_value l.root s) front)) x.none ∙ ap (λ root. is_value_of p.structs l.ty (root_value root s)) x.begins ∙ x.typed
  begins_typed at count b s state last loose base parts l good (holder x) = ap (λ root. is_value_of p.structs l.ty (value_at (root_value root s) l.front)) x.begins ∙ x.typed

  module _ (are : AreStructs p.structs) (at : At) (count : ℕ) (b : Flow) (s : shader.State) (state last : State) (loose : Start) (writes : Bool) (base : Base) (parts : List Part) (t : Ty) (a : Access) (l : Trail)
      (good : Good m input sections f p around b s state) (begins : Begins m input sections f p around at count last loose base parts l) (inside : IsInside p.structs p.blocks writes t a l) where
    abbrev pub there : Value
    there = value_at (root_value a.root s) (l.front ++ l.words)

    -- the value where it leads is of its type
    pub there_typed : is_value_of p.structs inside.whole there ≡ true
    there_typed =
        ap (λ root. is_value_of p.structs inside.whole (value_at (root_value root s) (l.front ++ l.words))) inside.begins
        ∙ ap (is_value_of p.structs inside.whole) (value_on (root_value l.root s) l.front l.words)
        ∙ value_typed p.structs are l.ty l.words inside.whole (value_at (root_value l.root s) l.front) inside.leads (begins_typed at count b s state last loose base parts l good begins)

    -- an index may name as many parts as the type tells
    pub parts_counted : (element : Ty) → IsSound (length p.structs) t → element_of t ≡ Some element → parts_at a s ≡ length_of t
    parts_counted element sound has = by l.picks inside.picks
      where
        by_pick : (c : Chosen) → IsPicked inside.whole t (l.front ++ l.words) (Some c) a.path a.picked → ArePicked c.shape.1 (l.front ++ l.words) (effective c) a.path a.picked → length_of t ≡ length c.positions → 2 ≤ length c.positions → parts_at a s ≡ length_of t
        by_pick c x (swizzled path is) same several = ap (λ o. count_parts o (value_at (root_value a.root s) a.path)) is ∙ length-map c.positions (chosen c.word) ∙ sym same
        by_pick c x (component k many path none one) same several = absurd (let count : length c.positions ≡ 1 = sym (length-map c.positions (chosen c.word)) ∙ ap length one in omega (arith, several, count))
        by_pick c x (repeated k firsts many path is all equal) same several =
            ap (λ o. count_parts o (value_at (root_value a.root s) a.path)) is ∙ sym (length-map firsts (λ first. k)) ∙ ap length (sym equal) ∙ length-map c.positions (chosen c.word) ∙ sym same

        by : (o : Option Chosen) → IsPicked inside.whole t (l.front ++ l.words) o a.path a.picked → parts_at a s ≡ length_of t
        by None (same, path, none) =
            ap (λ o. count_parts o (value_at (root_value a.root s) a.path)) none ∙ ap (λ path. length (parts_in (value_at (root_value a.root s) path))) path
            ∙ counted p.structs t element there has (subst (λ u. is_value_of p.structs u there ≡ true) same there_typed)
        by (Some c) x = let v = vector_counted (length p.structs) t element (c.shape.0, length c.positions) sound has x.gives in by_pick c x x.are v.0 v.1
