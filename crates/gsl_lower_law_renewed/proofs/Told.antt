-- What the shader reads where a trail in a block leads, by what lies there.
use Rattle.std.proofs.Common.{◌≡◌, refl, sym, ap, ◌∙◌, subst, ℕ, Bool, false, ◌++◌, length, Some, None}
use Rattle.gsl_base.specs.declared.input.Input.{Input}
use Rattle.gsl_types.specs.Known.{AreStructs, IsSound}
use Rattle.gsl_types.specs.declared.ty.Ty.{Ty}
use Rattle.gsl_words.specs.declared.module.Module.{Module}
use Rattle.gsl_values.specs.declared.value.Value.{Value}
use Rattle.gsl_tree.specs.Around.{Around}
use Rattle.gsl_tree.specs.Operations.{value_at}
use Rattle.gsl_tree.specs.Shapes.{Shape, shape_of}
use Rattle.gsl_tree.specs.declared.program.Program.{Program}
use Rattle.gsl_meaning.specs.Accesses.{Access, pick, read as means_read, root_value, told}
use Rattle.gsl_meaning.specs.Running.{Got}
use Rattle.gsl_meaning.specs.State as shader
use Rattle.gsl_machine.specs.State.{State}
use Rattle.gsl_spv.specs.Sections.{Sections}
use Rattle.gsl_lower_places.specs.Reached.{stored_scalar}
use Rattle.gsl_lower_places.specs.Reading.{read}
use Rattle.gsl_lower_places.specs.declared.reached.Reached.{Reached}
use Rattle.gsl_lower_law.specs.Computing.{Computes}
use Rattle.gsl_lower_law.specs.Operands.{converted_value}
use Rattle.gsl_lower_law.specs.Values.{IsOf}
use Rattle.gsl_lower_law_members.proofs.Told.{picks_told, whole_told}
use Rattle.gsl_lower_law_places.specs.Components.{picks_of}
use Rattle.gsl_lower_holders.specs.Flow.{Flow}
use Rattle.gsl_lower_expr.specs.Parts.{read_by, reads}
use Rattle.gsl_lower_follows.specs.Frames.{Frame, Good}
use Rattle.gsl_lower_follows.specs.Giving.{Does, HasGiven, none_waits}
use Rattle.gsl_lower_follows.proofs.Drawn.{computed_given}
use Rattle.gsl_lower_law_written.specs.OfReaching.{IsBlockTrail, Start}
use Rattle.gsl_lower_law_written.specs.OfReaching.{Chosen, IsInside, IsPicked, Trail}
use Rattle.gsl_lower_law_written.proofs.OfElements.{picked_found}
use Rattle.gsl_lower_law_written.proofs.OfElements.{block_shape}
use Rattle.gsl_lower_law_written.proofs.OfElements.{read_told, run_stored, run_there, run_value, value_there}
use Rattle.gsl_lower_law_written.proofs.OfReads.{always_read}

module _ (m : Module) (input : Input) (sections : Sections) (f : Frame m input sections) (p : Program) (around : Around) (are : AreStructs p.structs) (start : Start) (b : Flow) (s : shader.State) (state : State) (r : Reached) (l : Trail) (good : Good m input sections f p around b s state)
    (x : IsBlockTrail m input sections f p around false start b state r l) (writes : Bool) (t : Ty) (a : Access) (inside : IsInside p.structs p.blocks writes t a l) (sound_t : IsSound (length p.structs) t) where
  module _ (shape : Shape) (of : shape_of l.ty ≡ Some shape) where
    abbrev lying : Value
    lying = run_value m input sections f p around are start b s state r l good x shape of

    lies_there : value_at (root_value a.root s) (l.front ++ l.words) ≡ lying
    lies_there = value_there m input sections f p around are start b s state r l good x writes t a inside ∙ run_there m input sections f p around are start b s state r l good x shape of

    pub whole_is_told : shape_of t ≡ Some shape → a.path ≡ l.front ++ l.words → a.picked ≡ None → means_read p.structs t a s ≡ converted_value shape.0 lying
    whole_is_told shaped path none =
        read_told m input sections f p around are start b s state r l good x writes t a inside
        ∙ ap (told p.structs t) (ap (λ o. pick o (value_at (root_value a.root s) a.path)) none ∙ ap (value_at (root_value a.root s)) path ∙ lies_there)
        ∙ whole_told p.structs t shape sound_t shaped (stored_scalar shape.0) lying (run_stored m input sections f p around are start b s state r l good x shape of)

  pub picks_are_told : (c : Chosen) → IsPicked inside.whole t (l.front ++ l.words) (Some c) a.path a.picked → (of : shape_of l.ty ≡ Some c.shape) → means_read p.structs t a s ≡ picks_of (converted_value c.shape.0 (lying c.shape of)) c.word c.positions
  picks_are_told c y of =
      let is = run_stored m input sections f p around are start b s state r l good x c.shape of in
      read_told m input sections f p around are start b s state r l good x writes t a inside
      ∙ ap (told p.structs t) (picked_found a s (l.front ++ l.words) c (stored_scalar c.shape.0) (subst (IsOf (stored_scalar c.shape.0, c.shape.1)) (sym (lies_there c.shape of)) is) y.some y.within y.are ∙ ap (λ v. picks_of v c.word c.positions) (lies_there c.shape of))
      ∙ picks_told p.structs t (c.shape.0, length c.positions) sound_t y.gives (lying c.shape of) c.word c.positions refl

  -- what computes it reads it, by whatever pointer
  pub read_by_steps : (shape : Shape) → shape_of t ≡ Some shape → (to : Reached) → Computes m input sections (means_read p.structs t a s, state.choices) state b.sections (read shape to)
      → (units : ℕ) → Does m input sections f p 0 units state (HasGiven m input sections f p around false t b state) none_waits (Got (means_read p.structs t a s) s units) (reads p.structs t to b)
  unfolding reads
  read_by_steps shape shaped to computes units =
      subst (λ o. Does m input sections f p 0 units state (HasGiven m input sections f p around false t b state) none_waits (Got (means_read p.structs t a s) s units) (read_by p.structs t to o b)) (sym shaped)
      (computed_given m input sections f p around t (λ choices. (means_read p.structs t a s, choices)) (read shape to) (λ b. always_read m input sections shape to b.sections)
      (λ choices all. record { typed = block_shape m input sections f p around are start b s state r l good x writes t a inside sound_t shape shaped; left = all }) b s units state good computes)
