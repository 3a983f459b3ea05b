-- What is loaded from a part of a variable, in words.
use Rattle.std.proofs.Common.{◌≡◌, sym, subst, ℕ, ◌+◌, List, ◌∷◌, drop, take, Some}
use Rattle.std.specs.Prelude.{slice_get}
use Rattle.gsl_base.specs.declared.input.Buffer.{Buffer}
use Rattle.gsl_base.specs.declared.input.Input.{Input}
use Rattle.gsl_words.specs.declared.module.Module.{Module}
use Rattle.gsl_values.specs.declared.value.Value.{Value}
use Rattle.gsl_tree.specs.Operations.{value_at}
use Rattle.gsl_valid.specs.Ids.{result}
use Rattle.gsl_valid.specs.Instruction.{read}
use Rattle.gsl_valid.specs.Kinds.{Gives, kind}
use Rattle.gsl_valid.specs.Placed.{Placed}
use Rattle.gsl_machine.specs.State.{State, Whole, give}
use Rattle.gsl_region.specs.Showing.{with_words}
use Rattle.gsl_leaves.specs.Leaves.{leaves}
use Rattle.gsl_memory_law.specs.Typed.{place_by}
use Rattle.gsl_memory_law.proofs.Typed.{loaded, part_shaped}
use Rattle.gsl_sound.specs.Sound.{Good}
use Rattle.gsl_sound_code.proofs.Looks.{Kept}
use Rattle.gsl_sound_types.specs.Typed.{LeadsTo, Typed, types_in}
use Rattle.gsl_sound_types.proofs.Holding.{value_of_type}
use Rattle.gsl_frames.specs.Frames.{place}
use Rattle.gsl_shown.specs.Shown.{Shows, Standing}
use Rattle.gsl_shown.proofs.Counted.{held_counted}
use Rattle.gsl_shown.proofs.Giving.{given_shown}

pub load_shown : (m : Module) (kept : Kept m) (input : Input) (f : Standing) (callers : List Standing) (slots words : List ℕ) (buffers : List Buffer) (choices : List ℕ) (state : State) (good : Good m input state) (typed : Typed m state)
    (shows : Shows m f callers slots words buffers choices state) (p : Placed) (more : List Placed) (comes : state.rest ≡ p ∷ more) (number : ℕ) (path : List ℕ) (id part : ℕ) (v : Value) → kind (read p.instr) ≡ Gives part → result (read p.instr) ≡ Some id
    → LeadsTo m (types_in m state) number path part → slice_get state.variables number ≡ Some v
    → Shows m (record f { at = f.at + 1 }) callers (with_words slots (f.slots + place m id) (take (leaves m part) (drop (place_by m (types_in m state) number path) words))) words buffers choices (record state { rest = more; ids = give state.ids id (Whole (value_at v path)) })
load_shown m kept input f callers slots words buffers choices state good typed shows p more comes number path id part v gives result_is leads here =
    let shaped = part_shaped m kept (types_in m state) path state.variables number leads.type part typed.variables leads.is leads.leads v here in
    let it = (loaded m kept (types_in m state) path state.variables number leads.type part typed.variables leads.is leads.leads words v shows.variables here).1 in
    let size = held_counted m kept (types_in m state) part (Whole (value_at v path)) (value_of_type m kept (types_in m state) part (value_at v path) shaped) in
    subst (λ c. Shows m (record f { at = f.at + 1 }) callers (with_words slots (f.slots + place m id) (take (leaves m part) (drop (place_by m (types_in m state) number path) words))) words buffers choices (record state { rest = more; ids = give state.ids id (Whole (value_at v path)); choices = c })) shows.choices_are
    (subst (λ w. Shows m (record f { at = f.at + 1 }) callers (with_words slots (f.slots + place m id) w) words buffers choices (record state { rest = more; ids = give state.ids id (Whole (value_at v path)); choices = choices })) (sym it)
    (given_shown m kept input f callers slots words buffers choices choices state good shows p more comes id part (Whole (value_at v path)) gives result_is size))
