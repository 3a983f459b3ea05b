-- Names of variables.
use Rattle.std.proofs.Common.{◌≡◌, refl, sym, ap, ◌∙◌, subst, ℕ, zero, suc, Bool, true, false, List, [], ◌∷◌, Option, Some, None}
use Rattle.std.specs.Prelude.{slice_get, slice_index_or}
use Rattle.gsl_base.specs.declared.input.Input.{Input}
use Rattle.gsl_instr.specs.declared.enumerant.storage_class.TheConstants as storage_class
use Rattle.gsl_types.specs.declared.ty.Ty.{Ty}
use Rattle.gsl_words.specs.declared.module.Module.{Module}
use Rattle.gsl_values.specs.declared.value.Value.{Value}
use Rattle.gsl_tree.specs.Around.{Around}
use Rattle.gsl_tree.specs.Values.{is_value_of}
use Rattle.gsl_tree.specs.declared.program.Program.{Program}
use Rattle.gsl_tree.specs.declared.unit.Interface.{Interface}
use Rattle.gsl_meaning.specs.Accesses as access
use Rattle.gsl_meaning.specs.Accesses.{nothing}
use Rattle.gsl_meaning.specs.Running.{Got, Run}
use Rattle.gsl_meaning.specs.State as shader
use Rattle.gsl_machine.specs.State.{State}
use Rattle.gsl_spv.specs.Sections.{Sections}
use Rattle.gsl_lower_places.specs.declared.reached.Base.TheVariants.{Variable}
use Rattle.gsl_lower_places.specs.Reached.{is_block_class, whole}
use Rattle.gsl_lower_holders.specs.Flow.{Flow, behind, given, id_at, told}
use Rattle.gsl_lower_holders.specs.declared.place.FlowPlace.{FlowPlace}
use Rattle.gsl_lower_law_expr.specs.OfExpr.{accessed, class_by, interface_class, named, reads}
use Rattle.gsl_lower_follows.specs.Frames.{Frame, Global, Good, HasType, Interface as Passed, Local, Name, Param, id_of, value_of}
use Rattle.gsl_lower_follows.specs.Giving.{Adds, Does, GivesValue, GrownTo, HasGiven, none_waits}
use Rattle.gsl_lower_follows.proofs.Growing.{adds_given, adds_then}
use Rattle.gsl_lower_follows.proofs.Holding.{seat_known}
use Rattle.gsl_lower_law_names.specs.Named.{IsNamed, named_means}
use Rattle.gsl_lower_law_names.proofs.Reading.{adds_reads, does_reads}

index_is : (vs : List Value) (number : ℕ) (v : Value) → slice_get vs number ≡ Some v → slice_index_or vs number nothing ≡ v
index_is [] number v e = absurd cc
index_is (w ∷ vs) zero v e = some_value e
  where
    some_value : {a b : Value} → Some a ≡ Some b → a ≡ b
    some_value e = cc
index_is (w ∷ vs) (suc number) v e = index_is vs number v e

module _ (m : Module) (input : Input) (sections : Sections) (f : Frame m input sections) (p : Program) (around : Around) where
  module _ (name : Name) (list : FlowPlace → List ℕ) (class number : ℕ) (same : (place : FlowPlace) → id_of place name ≡ slice_get (list place) number) (outside : is_block_class class ≡ false) (t : Ty) (run : Run Value)
      (means : (v : Value) (s : shader.State) (units : ℕ) → value_of f.stages s name ≡ Some v → run s units ≡ Got v s units) (known : IsNamed p around name t) where
    adds_named : Adds (named list class number)
    adds_named = adds_then (told list number) (λ id. given (whole (Variable id class))) (λ b. by b (slice_get (list b.place) number)) (λ id. adds_given (whole (Variable id class)))
      where
        by : (b : Flow) (o : Option ℕ) → GrownTo b (id_at o b)
        by b None = tt
        by b (Some id) = adds_given id b

    -- the value of a variable of a type
    valued : (s : shader.State) (o : Option Value) → value_of f.stages s name ≡ o → HasType m input sections f p around (Some t) o → (v : Value) × (value_of f.stages s name ≡ Some v) × (is_value_of p.structs t v ≡ true)
    valued s None is has = absurd has
    valued s (Some v) is has = (v, is, has)

    pub variable_gives : GivesValue m input sections f p around false t (accessed p.structs t (named list class number)) run
    variable_gives = record {
      adds = λ b. by_id b (slice_get (list b.place) number);
      does = λ b s units state good. by b s units state good (slice_get (list b.place) number) refl;
    }
      where
        by_id : (b : Flow) (o : Option ℕ) → GrownTo b (behind (behind (id_at o b) (λ id. given (whole (Variable id class)))) (reads p.structs t))
        by_id b None = tt
        by_id b (Some id) = adds_reads m input sections p.structs t id class outside b

        by : (b : Flow) (s : shader.State) (units : ℕ) (state : State) → Good m input sections f p around b s state → (o : Option ℕ) → slice_get (list b.place) number ≡ o
            → Does m input sections f p 0 units state (HasGiven m input sections f p around false t b state) none_waits (run s units) (behind (behind (id_at o b) (λ id. given (whole (Variable id class)))) (reads p.structs t))
        by b s units state good None e = tt
        by b s units state good (Some id) e =
            let seated = seat_known m input sections f b.place good.seated name id (same b.place ∙ e) in
            let value = valued s (value_of f.stages s name) refl (subst (λ o. HasType m input sections f p around o (value_of f.stages s name)) known.typed (good.typed.each name)) in
            subst (λ ran. Does m input sections f p 0 units state (HasGiven m input sections f p around false t b state) none_waits ran (reads p.structs t (whole (Variable id class)) b)) (sym (means value.0 s units value.1))
            (does_reads m input sections f p around id class seated.0 name t value.0 units b s state outside known.are known.sound good seated.2 seated.1 value.1 value.2)

  pub local_gives : (number : ℕ) (t : Ty) → IsNamed p around (Local number) t → GivesValue m input sections f p around false t (accessed p.structs t (named (λ place. place.locals) storage_class.FUNCTION number)) (named_means p.structs t (access.Local number))
  local_gives number t known = variable_gives (Local number) (λ place. place.locals) storage_class.FUNCTION number (λ place. refl) refl t (named_means p.structs t (access.Local number)) (λ v s units is. ap (λ v. Got v s units) (index_is s.locals number v is)) known

  pub param_gives : (number : ℕ) (t : Ty) → IsNamed p around (Param number) t → GivesValue m input sections f p around false t (accessed p.structs t (named (λ place. place.params) storage_class.FUNCTION number)) (named_means p.structs t (access.Param number))
  param_gives number t known = variable_gives (Param number) (λ place. place.params) storage_class.FUNCTION number (λ place. refl) refl t (named_means p.structs t (access.Param number)) (λ v s units is. ap (λ v. Got v s units) (index_is s.params number v is)) known

  pub global_gives : (number : ℕ) (t : Ty) → IsNamed p around (Global number) t → GivesValue m input sections f p around false t (accessed p.structs t (named (λ place. place.globals) storage_class.PRIVATE number)) (named_means p.structs t (access.Global number))
  global_gives number t known = variable_gives (Global number) (λ place. place.globals) storage_class.PRIVATE number (λ place. refl) refl t (named_means p.structs t (access.Global number)) (λ v s units is. ap (λ v. Got v s units) (index_is s.globals number v is)) known

  pub interface_gives : (number : ℕ) (i : Option Interface) (t : Ty) → IsNamed p around (Passed number) t
      → GivesValue m input sections f p around false t (accessed p.structs t (named (λ place. place.interfaces) (interface_class i) number)) (named_means p.structs t (access.Interface number))
  interface_gives number i t known = variable_gives (Passed number) (λ place. place.interfaces) (interface_class i) number (λ place. refl) (outside i) t (named_means p.structs t (access.Interface number)) (λ v s units is. ap (λ v. Got v s units) (index_is s.interfaces number v is)) known
    where
      class_outside : (output : Bool) → is_block_class (class_by output) ≡ false
      class_outside true = refl
      class_outside false = refl

      outside : (i : Option Interface) → is_block_class (interface_class i) ≡ false
      outside None = refl
      outside (Some i) = class_outside i.output
