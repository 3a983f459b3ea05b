-- A scalar or vector, or components of one, that are stored where a trail in a block leads.
use Rattle.std.proofs.Common.{◌≡◌, refl, subst, ℕ, zero, suc, Bool, true, false, ◌++◌, length, Option, Some, None, arith}
use Rattle.gsl_base.specs.declared.input.Input.{Input}
use Rattle.gsl_types.specs.Known.{AreStructs, IsSound}
use Rattle.gsl_types.specs.declared.ty.Ty.{Ty}
use Rattle.gsl_words.specs.declared.module.Module.{Module}
use Rattle.gsl_values.specs.declared.value.Value.{Value}
use Rattle.gsl_tree.specs.Around.{Around}
use Rattle.gsl_tree.specs.Shapes.{Shape, shape_of}
use Rattle.gsl_tree.specs.Values.{is_value_of}
use Rattle.gsl_tree.specs.WellTyped.{is_push}
use Rattle.gsl_tree.specs.declared.program.Program.{Program}
use Rattle.gsl_meaning.specs.Accesses.{Access, stored}
use Rattle.gsl_meaning.specs.Running.{Got}
use Rattle.gsl_meaning.specs.State as shader
use Rattle.gsl_machine.specs.State.{State}
use Rattle.gsl_spv.specs.Sections.{Sections}
use Rattle.gsl_lower_places.specs.declared.reached.Reached.{Reached}
use Rattle.gsl_lower_holders.specs.Flow.{Flow}
use Rattle.gsl_lower_expr.specs.Parts.{stores}
use Rattle.gsl_lower_law.specs.Values.{Stands}
use Rattle.gsl_lower_follows.specs.Frames.{Frame, Good}
use Rattle.gsl_lower_follows.specs.Giving.{After, Does, none_waits}
use Rattle.gsl_lower_law_stored.specs.Buffers.{KnowsBuffers}
use Rattle.gsl_lower_writes.specs.OfReaching.{IsBlockTrail, Start}
use Rattle.gsl_lower_writes.specs.OfReaching.{Chosen, IsChosen, IsInside, IsPicked, MayWrite, Trail}
use Rattle.gsl_lower_writes.proofs.Once.{are_few}
use Rattle.gsl_lower_law_written.proofs.One.{one_written}
use Rattle.gsl_lower_law_written.proofs.Parts.{parts_written}
use Rattle.gsl_lower_law_written.proofs.Whole.{whole_written}

module _ (m : Module) (input : Input) (sections : Sections) (f : Frame m input sections) (p : Program) (around : Around) (are : AreStructs p.structs) (knows : KnowsBuffers m input sections f p) (start : Start) (b : Flow) (s : shader.State) (state : State) (r : Reached) (l : Trail)
    (good : Good m input sections f p around b s state) (x : IsBlockTrail m input sections f p around false start b state r l) (own : is_push x.begins.block.kind ≡ false) (t : Ty) (a : Access) (shape : Shape) (sound_t : IsSound (length p.structs) t) (shaped : shape_of t ≡ Some shape) (writes : Bool)
    (inside : IsInside p.structs p.blocks writes t a l) (may : MayWrite true l.picks) (value : ℕ) (v : Value) (typed : is_value_of p.structs t v ≡ true) (stands : Stands state.ids value v) (units : ℕ) where
  abbrev Written : Type 0
  Written = Does m input sections f p 0 units state (λ done later one u last. After m input sections f p around false b state later u last) none_waits (Got (tt {0}) (stored a v s) units) (stores p.structs t r value b)

  pub block_written : Written
  block_written = by l.picks refl
    where
      by_count : (c : Chosen) → l.picks ≡ Some c → (n : ℕ) → c.shape.1 ≡ n → Written
      by_count c e zero none =
          let y : IsChosen inside.whole t (l.front ++ l.words) c a.path a.picked = subst (λ o. IsPicked inside.whole t (l.front ++ l.words) o a.path a.picked) e inside.picks in
          let some = y.some in
          let most = are_few c.shape.1 c.word c.positions y.within (subst (MayWrite true) e may refl) y.some in
          absurd (omega (arith, some, most, none))
      by_count c e (suc zero) alone = one_written m input sections f p around are knows start b s state r l good x own t a sound_t writes inside c e (subst (MayWrite true) e may refl) alone value v typed stands units
      by_count c e (suc (suc n)) more = parts_written m input sections f p around are knows start b s state r l good x own t a sound_t writes inside c e (subst (MayWrite true) e may refl) (omega (arith, more)) value v typed stands units

      by : (o : Option Chosen) → l.picks ≡ o → Written
      by None none = whole_written m input sections f p around are knows start b s state r l good x own t a shape sound_t shaped writes inside none value v typed stands units
      by (Some c) e = by_count c e c.shape.1 refl
