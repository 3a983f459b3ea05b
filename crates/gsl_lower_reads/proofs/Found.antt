-- What is found where an access leads.
use Rattle.std.proofs.Common.{◌≡◌, refl, sym, ap, ◌∙◌, subst, ℕ, ◌≤◌, Bool, true, false, List, ◌++◌, length, Option, Some, None, if◌then◌else◌}
use Rattle.gsl_base.specs.declared.input.Input.{Input}
use Rattle.gsl_types.specs.Known.{AreStructs, IsSound, sound}
use Rattle.gsl_types.specs.declared.ty.Ty.{Ty}
use Rattle.gsl_words.specs.declared.module.Module.{Module}
use Rattle.gsl_values.specs.declared.value.Value.{Value}
use Rattle.gsl_tree.specs.Around.{Around}
use Rattle.gsl_tree.specs.Operations.{value_at}
use Rattle.gsl_tree.specs.Values.{is_value_of}
use Rattle.gsl_tree.specs.declared.program.Program.{Program}
use Rattle.gsl_meaning.specs.Accesses.{Access, Root, found, is_block, pick, read, root_value, told}
use Rattle.gsl_meaning.specs.State as shader
use Rattle.gsl_machine.specs.State.{State}
use Rattle.gsl_spv.specs.Sections.{Sections}
use Rattle.gsl_lower_places.specs.declared.reached.Base.{Base}
use Rattle.gsl_lower_places.specs.declared.reached.Part.{Part}
use Rattle.gsl_lower_law.specs.Values.{IsOf}
use Rattle.gsl_lower_law_places.specs.Components.{picks_of}
use Rattle.gsl_lower_elements.proofs.OfLawExpr.{value_shape}
use Rattle.gsl_lower_holders.specs.Flow.{Flow}
use Rattle.gsl_lower_follows.specs.Frames.{Frame, Global, Good, Holder, Interface as Passed, Local, Name, Param, Stage}
use Rattle.gsl_lower_elements.specs.OfReaching.{At, Begins, Start, root_of}
use Rattle.gsl_lower_elements.specs.OfReaching.{variable, value, holder}
use Rattle.gsl_lower_elements.specs.OfReaching.{Chosen, IsInside, IsPicked, Trail}
use Rattle.gsl_lower_elements.proofs.OfReaching.{there, there_typed}
use Rattle.gsl_lower_elements.proofs.Picked.{picked_found, picks_are, shape_typed}

some_same : {A : Type 0} {a b : A} → Some a ≡ Some b → a ≡ b
some_same e = cc

-- ---- outside blocks

root_outside : (name : Name) (root : Root) → root_of name ≡ Some root → is_block root ≡ false
root_outside (Global number) root e = ap is_block (sym (some_same e))
root_outside (Passed number) root e = ap is_block (sym (some_same e))
root_outside (Stage number) root e = absurd cc
root_outside (Param number) root e = ap is_block (sym (some_same e))
root_outside (Local number) root e = ap is_block (sym (some_same e))
root_outside (Holder number) root e = absurd cc

module _ (m : Module) (input : Input) (sections : Sections) (f : Frame m input sections) (p : Program) (around : Around) where
  pub begins_outside : (at : At) (count : ℕ) (last : State) (loose : Start) (base : Base) (parts : List Part) (l : Trail) → Begins m input sections f p around at count last loose base parts l → is_block l.root ≡ false
  begins_outside at count last loose base parts l (variable x) = root_outside x.name l.root x.begins
  begins_outside at count last loose base parts l (value x) = ap is_block x.begins
  begins_outside at count last loose base parts l (holder x) = ap is_block x.begins

  module _ (are : AreStructs p.structs) (at : At) (count : ℕ) (b : Flow) (s : shader.State) (state last : State) (loose : Start) (writes : Bool) (base : Base) (parts : List Part) (t : Ty) (a : Access) (l : Trail)
      (good : Good m input sections f p around b s state) (begins : Begins m input sections f p around at count last loose base parts l) (inside : IsInside p.structs p.blocks writes t a l) where
    -- the value where the words lead
    abbrev pub stands_there : Value
    stands_there = there m input sections f p around are at count b s state last loose writes base parts t a l good begins inside

    pub read_found : read p.structs t a s ≡ found a s
    read_found = by (is_block a.root) (ap is_block inside.begins ∙ begins_outside at count last loose base parts l begins)
      where
        by : (block : Bool) → block ≡ false → (if block then told p.structs t (found a s) else found a s) ≡ found a s
        by true e = absurd cc
        by false e = refl

    pub found_whole : inside.whole ≡ t → a.path ≡ l.front ++ l.words → a.picked ≡ None → found a s ≡ stands_there
    found_whole same path none = ap (λ o. pick o (value_at (root_value a.root s) a.path)) none ∙ ap (value_at (root_value a.root s)) path

    pub there_is : (c : Chosen) → IsPicked inside.whole t (l.front ++ l.words) (Some c) a.path a.picked → (1 ≤ c.shape.1) × IsOf c.shape stands_there
    there_is c x = value_shape p.structs inside.whole c.shape stands_there are inside.sound x.of (there_typed m input sections f p around are at count b s state last loose writes base parts t a l good begins inside)

    pub found_picked : (c : Chosen) → IsPicked inside.whole t (l.front ++ l.words) (Some c) a.path a.picked → found a s ≡ picks_of stands_there c.word c.positions
    found_picked c x = picked_found a s (l.front ++ l.words) c c.shape.0 (there_is c x).1 x.some x.within x.are

    -- what is read is of the type
    pub read_typed : IsSound (length p.structs) t → is_value_of p.structs t (read p.structs t a s) ≡ true
    read_typed sound_t = by l.picks inside.picks
      where
        by : (o : Option Chosen) → IsPicked inside.whole t (l.front ++ l.words) o a.path a.picked → is_value_of p.structs t (read p.structs t a s) ≡ true
        by None (same, path, none) =
            ap (is_value_of p.structs t) (read_found ∙ found_whole same path none)
            ∙ subst (λ u. is_value_of p.structs u stands_there ≡ true) same (there_typed m input sections f p around are at count b s state last loose writes base parts t a l good begins inside)
        by (Some c) x =
            ap (is_value_of p.structs t) (read_found ∙ found_picked c x)
            ∙ shape_typed p.structs t (c.shape.0, length c.positions) (picks_of stands_there c.word c.positions) sound_t x.gives (picks_are c.shape stands_there c.word c.positions (there_is c x).1 x.within)
