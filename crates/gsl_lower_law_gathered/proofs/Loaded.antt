-- What a variable holds that is loaded as of a type has the shape of that type, in a valid module.
use Rattle.std.proofs.Common.{◌≡◌, refl, sym, ap, ◌∙◌, subst, ℕ, zero, suc, Bool, true, false, ◌==◌, ◌&&◌, if◌then◌else◌, List, [], ◌∷◌, Some}
use Rattle.std.specs.Prelude.{slice_get}
use Rattle.std.specs.List.{Contains}
use Rattle.std.proofs.lemmas.Bool.{and_parts, eqb-true}
use Rattle.std.proofs.lemmas.List.Elements.{Contains-append_left, Contains-append_right}
use Rattle.gsl_instr.specs.Forms.{form_of}
use Rattle.gsl_instr.specs.declared.instruction.Instruction.TheVariants as instruction
use Rattle.gsl_instr.specs.declared.op.TheConstants as op
use Rattle.gsl_words.specs.declared.module.Instr.{Instr}
use Rattle.gsl_words.specs.declared.module.Module.{Module}
use Rattle.gsl_values.specs.declared.value.Value.{Value}
use Rattle.gsl_valid.specs.Instruction.{passes_if, read}
use Rattle.gsl_valid.specs.MemoryRules.{may_load, memory_of}
use Rattle.gsl_valid.specs.Valid.{Valid}
use Rattle.gsl_machine.specs.State.{InVariable, Points, State}
use Rattle.gsl_sound_code.proofs.Looks.{kept}
use Rattle.gsl_sound_values.specs.Shaped.{is_shaped}
use Rattle.gsl_sound.proofs.Memories.{pointer_of}
use Rattle.gsl_memory_law.specs.Typed.{HaveTypes}
use Rattle.gsl_sound_types.specs.Typed.{Typed, types_in}
use Rattle.gsl_sound_types.proofs.Holding.{of_pointer}
use Rattle.gsl_spv.specs.Calls.{take}
use Rattle.gsl_spv.specs.Declarations.{instr}
use Rattle.gsl_spv.specs.Growing.{Extends}
use Rattle.gsl_spv.specs.Sections.{Sections}
use Rattle.gsl_spv.proofs.Contained.{first_in}
use Rattle.gsl_lower_values.specs.Building.{Built, Full, Made, behind, giving, put_giving}
use Rattle.gsl_lower_places.specs.declared.reached.Part.{Part}
use Rattle.gsl_lower_leaves.specs.Copies.{copied_out, each, read_whole}
use Rattle.gsl_lower_leaves.specs.declared.leaf.Leaf.{Leaf}
use Rattle.gsl_lower_text.proofs.Constants.{at}

-- ---- a load in a module

variable_shaped : (m : Module) (types : List ℕ) (variables : List Value) → HaveTypes m types variables → (number type : ℕ) (v : Value) → slice_get types number ≡ Some type → slice_get variables number ≡ Some v → is_shaped m type v ≡ true
variable_shaped m [] variables have number type v is held = absurd cc
variable_shaped m (t ∷ types) [] have number type v is held = absurd have
variable_shaped m (t ∷ types) (x ∷ variables) have zero type v is held =
    let same : t ≡ type = cc in
    let one : x ≡ v = cc in
    subst (λ u. is_shaped m u v ≡ true) same (subst (λ w. is_shaped m t w ≡ true) one have.0)
variable_shaped m (t ∷ types) (x ∷ variables) have (suc number) type v is held = variable_shaped m types variables have.1 number type v is held

load_reads : (type id h : ℕ) → read (instr op.LOAD (type ∷ id ∷ h ∷ [])) ≡ Some (instruction.Load type id h)
unfolding form_of
load_reads type id h = refl

pub load_shaped : (m : Module) → Valid m → (state : State) → Typed m state → (type id h number : ℕ) (v : Value) → Contains m.instrs (instr op.LOAD (type ∷ id ∷ h ∷ [])) → state.ids h ≡ Some (Points (InVariable number [])) → slice_get state.variables number ≡ Some v → is_shaped m type v ≡ true
load_shaped m valid state typed type id h number v there points held =
    let a = at m (kept m valid) (instr op.LOAD (type ∷ id ∷ h ∷ [])) there in
    let is : memory_of m (instruction.Load type id h) ≡ true = ap (passes_if (memory_of m)) (sym (load_reads type id h)) ∙ a.keeps.memory in
    let to = pointer_of m (may_load m type h) h refl is in
    let same = eqb-true to.0.target.pointee type (and_parts (to.0.target.pointee == type) _ (and_parts (to.0.target.pointee == type && _) _ to.2).0).0 in
    let leads = of_pointer m (kept m valid) (types_in m state) to.0.type to.0.target (InVariable number []) to.0.points (typed.frame.held.each h to.0.type (Points (InVariable number [])) points to.0.typed) in
    let whole : leads.1.type ≡ to.0.target.pointee = (let part : Some leads.1.type ≡ Some to.0.target.pointee = leads.1.leads in cc) in
    subst (λ u. is_shaped m u v ≡ true) (whole ∙ same) (variable_shaped m (types_in m state) state.variables typed.variables number leads.1.type v leads.1.is held)

-- ---- where it is put

-- What was built has the load of a variable.
abbrev pub PutsLoad : ℕ → ℕ → Built ℕ → Type 0
PutsLoad h type (Made id after) = Contains after.functions (instr op.LOAD (type ∷ id ∷ h ∷ []))
PutsLoad h type Full = Unit {0}

pub load_put : (block class : ℕ) (parts : List Part) (h type : ℕ) (leaves : List Leaf) (before : Sections) → PutsLoad h type (read_whole block class parts h type leaves before)
unfolding read_whole giving
load_put block class parts h type leaves before = by (each (copied_out block class parts h) leaves before)
  where
    taken : (between : Sections) (few : Bool) → PutsLoad h type (behind (if few then Made (take between).id (take between).sections else Full) (put_giving op.LOAD type (h ∷ [])))
    taken between true = Contains-append_right (take between).sections.functions (instr op.LOAD (type ∷ (take between).id ∷ h ∷ []) ∷ []) _ (first_in (instr op.LOAD (type ∷ (take between).id ∷ h ∷ [])) [])
    taken between false = tt

    by : (built : Built (Unit {0})) → PutsLoad h type (behind built (λ done. giving op.LOAD (h ∷ []) type))
    by Full = tt
    by (Made done between) = taken between _

pub still_there : (before after : Sections) (i : Instr) → Extends before after → Contains before.functions i → Contains after.functions i
still_there before after i extends there = subst (λ code. Contains code i) (sym extends.functions.is) (Contains-append_left before.functions extends.functions.more i there)
