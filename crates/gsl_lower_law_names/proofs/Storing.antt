-- States of the shader and of the module with another value in a variable.
use Rattle.std.proofs.Common.{◌≡◌, ◌≢◌, refl, sym, ap, ◌∙◌, subst, inl, inr, ℕ, ◌<◌, ◌⊎◌, Bool, true, false, List, length, Some, ◌==◌, arith, Option}
use Rattle.std.specs.Prelude.{set, slice_get}
use Rattle.std.proofs.lemmas.Bool.{eqb-true}
use Rattle.std.proofs.lemmas.List.{length-set}
use Rattle.std.proofs.lemmas.Option.{slice_get_within}
use Rattle.gsl_base.specs.declared.input.Input.{Input}
use Rattle.gsl_types.specs.declared.ty.Ty.{Ty}
use Rattle.gsl_words.specs.declared.module.Module.{Module}
use Rattle.gsl_values.specs.declared.value.Value.{Value}
use Rattle.gsl_tree.specs.Around.{Around}
use Rattle.gsl_tree.specs.Values.{is_value_of}
use Rattle.gsl_tree.specs.declared.program.Program.{Program}
use Rattle.gsl_typed_law.specs.Given.{AreChoices}
use Rattle.gsl_meaning.specs.Blocks.{put_blocks}
use Rattle.gsl_meaning.specs.State as shader
use Rattle.gsl_machine.specs.State.{State}
use Rattle.gsl_spv.specs.Sections.{Sections}
use Rattle.gsl_lower_follows.specs.Frames.{AreTyped, Frame, HasType, Holder, Holds, IsSeen, Name, type_named, value_of}
use Rattle.gsl_lower_follows.proofs.Holding.{set_elsewhere, set_there}

-- A state of the shader is another with a value in the variable of a name, which is one of a list of variables.
pub record IsSet (stages : List (Option Value)) (kind : ℕ → Name) (number : ℕ) (v : Value) (s t : shader.State) : Type 0 where
  pub values : List Value
  pub sorts : (name : Name) → ((k : ℕ) × (name ≡ kind k)) ⊎ ((name ≢ kind number) × (value_of stages t name ≡ value_of stages s name))
  pub was : (k : ℕ) → value_of stages s (kind k) ≡ slice_get values k
  pub is : (k : ℕ) → value_of stages t (kind k) ≡ slice_get (set values number v) k
  pub blocks : t.blocks ≡ s.blocks
  pub choices : t.choices ≡ s.choices

-- what a variable has then
pub record Other (stages : List (Option Value)) (kind : ℕ → Name) (number : ℕ) (v : Value) (s t : shader.State) (name : Name) : Type 0 where
  pub side : ((name ≡ kind number) × (value_of stages t name ≡ Some v)) ⊎ ((name ≢ kind number) × (value_of stages t name ≡ value_of stages s name))

self_same : (n : ℕ) → (n == n) ≡ true
self_same n = grind arith

module _ (stages : List (Option Value)) (kind : ℕ → Name) (number_of : Name → ℕ) (injective : (k : ℕ) → number_of (kind k) ≡ k) (number : ℕ) (v old : Value) (s t : shader.State) (sets : IsSet stages kind number v s t) (there : value_of stages s (kind number) ≡ Some old) where
  within : number < length sets.values
  within = slice_get_within sets.values number old (sym (sets.was number) ∙ there)

  pub now_there : value_of stages t (kind number) ≡ Some v
  now_there = sets.is number ∙ set_there sets.values number v within

  differ : (k : ℕ) → k ≢ number → kind k ≢ kind number
  differ k other e = other (sym (injective k) ∙ ap number_of e ∙ injective number)

  pub each_name : (name : Name) → Other stages kind number v s t name
  each_name name = by (sets.sorts name)
    where
      of_kind : (k : ℕ) → name ≡ kind k → (same : Bool) → (k == number) ≡ same → Other stages kind number v s t name
      of_kind k e true q = (let n : k ≡ number = eqb-true k number q in record { side = inl (e ∙ ap kind n, ap (value_of stages t) (e ∙ ap kind n) ∙ now_there) })
      of_kind k e false q =
          let other : k ≢ number = (λ n. absurd (let z : true ≡ false = sym (ap (λ x. x == number) n ∙ self_same number) ∙ q in cc)) in
          record { side = inr (λ f. differ k other (sym e ∙ f), ap (value_of stages t) e ∙ sets.is k ∙ set_elsewhere sets.values number k v other ∙ sym (sets.was k) ∙ ap (value_of stages s) (sym e)) }

      by : ((k : ℕ) × (name ≡ kind k)) ⊎ ((name ≢ kind number) × (value_of stages t name ≡ value_of stages s name)) → Other stages kind number v s t name
      by (inl k) = of_kind k.0 k.1 (k.0 == number) refl
      by (inr e) = record { side = inr e }

module _ (m : Module) (input : Input) (sections : Sections) (f : Frame m input sections) (p : Program) (around : Around) where
  -- the states with a value in the variable of a name
  pub holds_set : (kind : ℕ → Name) (number seat : ℕ) (v : Value) (s t : shader.State) (state : State) → ((name : Name) → Other f.stages kind number v s t name) → t.blocks ≡ s.blocks → t.choices ≡ s.choices → f.seat (kind number) ≡ Some seat → Holds m input sections f p around s state
      → Holds m input sections f p around t (record state { variables = set state.variables seat v })
  holds_set kind number seat v s t state others blocks choices at holds = record {
    values = λ name w is. by name w is (others name).side;
    blocks = λ n id block is at. let b = holds.blocks n id block is at in (b.0, b.1, ap (λ l. slice_get l n) blocks ∙ b.2, b.3);
    buffers = holds.buffers ∙ ap (λ l. put_blocks p.structs p.blocks l input.buffers) (sym blocks);
    choices = holds.choices ∙ sym choices;
    count = length-set state.variables seat v ∙ holds.count;
    outside = λ other none. set_elsewhere state.variables seat other v (λ e. none (kind number) (at ∙ ap Some (sym e))) ∙ holds.outside other none;
  }
    where
      among : seat < length state.variables
      among = subst (λ n. seat < n) (sym holds.count) (f.among (kind number) seat at)

      by : (name : Name) (w : Value) → value_of f.stages t name ≡ Some w → ((name ≡ kind number) × (value_of f.stages t name ≡ Some v)) ⊎ ((name ≢ kind number) × (value_of f.stages t name ≡ value_of f.stages s name))
          → (n : ℕ) × (f.seat name ≡ Some n) × (slice_get (set state.variables seat v) n ≡ Some w)
      by name w is (inl e) = (seat, ap f.seat e.0 ∙ at, set_there state.variables seat v among ∙ sym e.1 ∙ is)
      by name w is (inr e) =
          let there = holds.values name w (sym e.1 ∙ is) in
          (there.0, there.1, set_elsewhere state.variables seat there.0 v (λ same. e.0 (f.apart name (kind number) seat (there.1 ∙ ap Some same) at)) ∙ there.2)

  pub typed_set : (kind : ℕ → Name) (number : ℕ) (ty : Ty) (v : Value) (s t : shader.State) → t.blocks ≡ s.blocks → t.choices ≡ s.choices → ((name : Name) → Other f.stages kind number v s t name) → type_named around (kind number) ≡ Some ty → is_value_of p.structs ty v ≡ true → AreTyped m input sections f p around s → AreTyped m input sections f p around t
  typed_set kind number ty v s t blocks same others has fits typed = record {
    choices = subst AreChoices (sym same) typed.choices;
    each = λ name. by name (others name).side;
    blocks = λ n block is. subst (λ bs. IsSeen m input sections f p around block (slice_get bs n)) (sym blocks) (typed.blocks n block is);
    stages = typed.stages;
  }
    where
      by : (name : Name) → ((name ≡ kind number) × (value_of f.stages t name ≡ Some v)) ⊎ ((name ≢ kind number) × (value_of f.stages t name ≡ value_of f.stages s name)) → HasType m input sections f p around (type_named around name) (value_of f.stages t name)
      by name (inl e) = subst (λ o. HasType m input sections f p around o (value_of f.stages t name)) (sym (ap (type_named around) e.0 ∙ has)) (subst (HasType m input sections f p around (Some ty)) (sym e.1) fits)
      by name (inr e) = subst (HasType m input sections f p around (type_named around name)) (sym e.1) (typed.each name)

  -- holders are no variables of the shader
  pub kept_set : (count seat : ℕ) (name : Name) (v : Value) (state : State) (variables : List Value) → ((k : ℕ) → name ≢ Holder k) → f.seat name ≡ Some seat → (holder number : ℕ) → f.seat (Holder holder) ≡ Some number → slice_get (set state.variables seat v) number ≡ slice_get state.variables number
  kept_set count seat name v state variables none at holder number other = set_elsewhere state.variables seat number v (λ e. none holder (f.apart name (Holder holder) number (at ∙ ap Some (sym e)) other))
