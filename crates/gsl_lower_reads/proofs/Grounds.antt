-- Where trails begin while a function runs: in a variable that holds a value, or at a value.
use Rattle.std.proofs.Common.{◌≡◌, refl, sym, ap, ◌∙◌, subst, inl, inr, ℕ, ◌⊎◌, true, false, List, [], ◌∷◌, map, Some}
use Rattle.std.specs.Prelude.{slice_get}
use Rattle.std.specs.List.{AllByRecursion}
use Rattle.gsl_base.specs.declared.input.Input.{Input}
use Rattle.gsl_instr.specs.declared.enumerant.storage_class.TheConstants as storage_class
use Rattle.gsl_words.specs.declared.module.Module.{Module}
use Rattle.gsl_values.specs.declared.value.Value.{Value}
use Rattle.gsl_tree.specs.Around.{Around}
use Rattle.gsl_tree.specs.Operations.{value_at}
use Rattle.gsl_tree.specs.Values.{is_value_of}
use Rattle.gsl_tree.specs.declared.program.Program.{Program}
use Rattle.gsl_meaning.specs.Accesses.{root_value}
use Rattle.gsl_meaning.specs.State as shader
use Rattle.gsl_machine.specs.State.{InVariable, Points, State}
use Rattle.gsl_spv.specs.Sections.{Sections}
use Rattle.gsl_lower_places.specs.Reached.{is_block_class}
use Rattle.gsl_lower_places.specs.Reading.{number_in}
use Rattle.gsl_lower_places.specs.declared.reached.Base.{Base}
use Rattle.gsl_lower_places.specs.declared.reached.Base.TheVariants.{Variable, Value as Loose}
use Rattle.gsl_lower_places.specs.declared.reached.Part.{Part}
use Rattle.gsl_lower_places.specs.declared.reached.Part.TheVariants.{Fixed, By}
use Rattle.gsl_lower_law.specs.Values.{Stands}
use Rattle.gsl_lower_law_picks.specs.Outside.{HasPart}
use Rattle.gsl_lower_holders.specs.Flow.{Flow}
use Rattle.gsl_lower_follows.specs.Frames.{Frame, Good, HeldAs}
use Rattle.gsl_lower_elements.specs.OfReaching.{At, Begins, IsFixed, NumberEachBy, Start}
use Rattle.gsl_lower_elements.specs.OfReaching.{variable, value, holder}
use Rattle.gsl_lower_elements.specs.OfReaching.{Trail}
use Rattle.gsl_lower_elements.proofs.OfReaching.{has_value}

-- numbers that are known are those words
pub fixed_words : (at : At) (parts : List Part) (words : List ℕ) → AllByRecursion IsFixed parts → NumberEachBy at parts words → map number_in parts ≡ words
fixed_words at [] [] fixed each = refl
fixed_words at [] (word ∷ words) fixed each = absurd each
fixed_words at (part ∷ parts) [] fixed each = absurd each
fixed_words at (Fixed number ∷ parts) (word ∷ words) fixed each = ap (λ n. n ∷ map number_in parts) each.0 ∙ ap (λ l. word ∷ l) (fixed_words at parts words fixed.1 each.1)
fixed_words at (By s id ∷ parts) (word ∷ words) fixed each = absurd fixed.0

some_same : {A : Type 0} {a b : A} → Some a ≡ Some b → a ≡ b
some_same e = cc

module _ (m : Module) (input : Input) (sections : Sections) (f : Frame m input sections) (p : Program) (around : Around) where
  -- in a variable, outside blocks
  pub record InPlace (s : shader.State) (state : State) (base : Base) (l : Trail) : Type 0 where
    pub id : ℕ
    pub class : ℕ
    pub number : ℕ
    pub old : Value
    pub is : base ≡ Variable id class
    pub outside : is_block_class class ≡ false
    pub points : state.ids id ≡ Some (Points (InVariable number []))
    pub there : slice_get state.variables number ≡ Some old
    pub same : old ≡ value_at (root_value l.root s) l.front
    pub typed : is_value_of p.structs l.ty old ≡ true

  -- at a value that is in no variable
  pub record InValue (s : shader.State) (state : State) (base : Base) (parts : List Part) (l : Trail) : Type 0 where
    pub id : ℕ
    pub type_id : ℕ
    pub v : Value
    pub is : base ≡ Loose id type_id
    pub stands : Stands state.ids id v
    pub fixed : AllByRecursion IsFixed parts
    pub same : v ≡ value_at (root_value l.root s) l.front
    pub typed : is_value_of p.structs l.ty v ≡ true
    pub has : HasPart v l.words

  pub grounds : (b : Flow) (s : shader.State) (state : State) (loose : Start) (base : Base) (parts : List Part) (l : Trail) → Good m input sections f p around b s state
      → Begins m input sections f p around (λ id v. HeldAs m input sections f false id v b state) b.place.used state loose base parts l → InPlace s state base l ⊎ InValue s state base parts l
  grounds b s state loose base parts l good (variable x) =
      let has = has_value m input sections f p around b s state loose base l x good in
      let there = good.holds.values x.name has.v has.is in
      inl (record {
        id = x.id;
        class = x.class;
        number = x.number;
        old = has.v;
        is = x.is;
        outside = x.outside;
        points = good.ready.lasting.same x.id _ x.points;
        there = subst (λ n. slice_get state.variables n ≡ Some has.v) (some_same (sym there.1 ∙ x.seat)) there.2;
        same = sym has.root ∙ ap (value_at (root_value l.root s)) (sym x.none);
        typed = has.typed;
      })
  grounds b s state loose base parts l good (value x) =
      inr (record {
        id = x.id;
        type_id = x.type_id;
        v = x.value;
        is = x.is;
        stands = x.stands;
        fixed = x.fixed;
        same = ap (λ root. root_value root s) (sym x.begins) ∙ ap (value_at (root_value l.root s)) (sym x.none);
        typed = x.typed;
        has = x.has;
      })
  grounds b s state loose base parts l good (holder x) =
      inl (record {
        id = x.id;
        class = storage_class.FUNCTION;
        number = x.waits.number;
        old = value_at x.value l.front;
        is = x.is;
        outside = refl;
        points = good.ready.lasting.same x.id _ x.waits.points;
        there = x.waits.value;
        same = ap (λ root. value_at (root_value root s) l.front) (sym x.begins);
        typed = x.typed;
      })
