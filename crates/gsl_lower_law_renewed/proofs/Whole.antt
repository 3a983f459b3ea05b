-- One pointer to the whole of what a trail in a block leads to.
use Rattle.std.proofs.Common.{◌≡◌, refl, sym, ap, ◌∙◌, subst, ℕ, Bool, true, false, [], ◌++◌, length, Some, None}
use Rattle.gsl_base.specs.declared.input.Input.{Input}
use Rattle.gsl_types.specs.Known.{AreStructs, IsSound}
use Rattle.gsl_types.specs.declared.ty.Ty.{Ty}
use Rattle.gsl_words.specs.declared.module.Module.{Module}
use Rattle.gsl_values.specs.declared.value.Value.{Value}
use Rattle.gsl_tree.specs.Around.{Around}
use Rattle.gsl_tree.specs.Shapes.{Shape, shape_of}
use Rattle.gsl_tree.specs.Values.{components_in, is_value_of}
use Rattle.gsl_tree.specs.WellTyped.{is_push}
use Rattle.gsl_tree.specs.declared.program.Program.{Program}
use Rattle.gsl_views.specs.Buffers.{put_words}
use Rattle.gsl_meaning.specs.Accesses.{Access, read as means_read}
use Rattle.gsl_meaning.specs.State as shader
use Rattle.gsl_machine.specs.State.{Ids, State}
use Rattle.gsl_spv.specs.Sections.{Sections}
use Rattle.gsl_lower_places.specs.Reached.{stored_shape}
use Rattle.gsl_lower_places.specs.Reading.{read}
use Rattle.gsl_lower_places.specs.Writing.{stored}
use Rattle.gsl_lower_places.specs.declared.reached.Base.TheVariants.{Variable}
use Rattle.gsl_lower_places.specs.declared.reached.Reached.{Reached}
use Rattle.gsl_lower_law.specs.Computing.{Acts, Computes}
use Rattle.gsl_lower_law.specs.Operands.{converted_value}
use Rattle.gsl_lower_law.specs.Values.{Keeps, Stands}
use Rattle.gsl_lower_law.proofs.Joining.{keeps_then}
use Rattle.gsl_lower_law_expr.proofs.Shapes.{value_shape}
use Rattle.gsl_lower_law_picks.specs.Serving.{IsAt}
use Rattle.gsl_lower_law_places.specs.Storing.{buffers_with}
use Rattle.gsl_lower_law_places.proofs.Blocks.{block_stores}
use Rattle.gsl_lower_law_places.proofs.Loads.{loaded_computes}
use Rattle.gsl_lower_law_places.proofs.Stored.{Nothing, put_acts, stored_left}
use Rattle.gsl_lower_holders.specs.Flow.{Flow}
use Rattle.gsl_lower_follows.specs.Frames.{Frame, Good}
use Rattle.gsl_lower_law_written.specs.OfLawStored.{KnowsBuffers}
use Rattle.gsl_lower_law_written.specs.OfReaching.{IsBlockTrail, Start}
use Rattle.gsl_lower_law_written.specs.OfReaching.{IsInside, IsPicked, Trail}
use Rattle.gsl_lower_law_written.proofs.OfElements.{bytes, held, run_of, run_value, whole_is}
use Rattle.gsl_lower_law_written.specs.OfWrites.{Serves}
use Rattle.gsl_lower_law_written.proofs.Whole.{whole_left}
use Rattle.gsl_lower_law_renewed.proofs.Spots.{block_still, spot, spot_holds, type_there}
use Rattle.gsl_lower_law_renewed.proofs.Told.{read_by_steps, whole_is_told}

module _ (m : Module) (input : Input) (sections : Sections) (f : Frame m input sections) (p : Program) (around : Around) (are : AreStructs p.structs) (knows : KnowsBuffers m input sections f p) (start : Start) (b : Flow) (s : shader.State) (state : State) (r : Reached) (l : Trail)
    (good : Good m input sections f p around b s state) (x : IsBlockTrail m input sections f p around false start b state r l) (own : is_push x.begins.block.kind ≡ false) (t : Ty) (a : Access) (shape : Shape) (sound_t : IsSound (length p.structs) t) (shaped : shape_of t ≡ Some shape) (writes : Bool)
    (inside : IsInside p.structs p.blocks writes t a l) (none : l.picks ≡ None)
    (to : Reached) (ids : Ids) (kept : Keeps state.ids ids) (at : IsAt x.begins.class (spot m input sections f p around start r.base l x.begins) None to ids) where
  picked : (inside.whole ≡ t) × (a.path ≡ l.front ++ l.words) × (a.picked ≡ None)
  picked = subst (λ c. IsPicked inside.whole t (l.front ++ l.words) c a.path a.picked) none inside.picks

  abbrev pointer_to : Reached
  pointer_to = record { base = Variable at.id x.begins.class; path = []; picked = None }

  module _ (b2 : Flow) (s2 : shader.State) (state2 : State) (good2 : Good m input sections f p around b2 s2 state2) (keeps : Keeps ids state2.ids) where
    abbrev x2 : IsBlockTrail m input sections f p around false start b2 state2 r l
    x2 = block_still m input sections f p around start b b2 state state2 r l (keeps_then kept keeps) x

    of_type : shape_of l.ty ≡ Some shape
    of_type = ap shape_of (whole_is m input sections f p around are start b2 s2 state2 r l good2 x2 writes t a inside ∙ picked.0) ∙ shaped

    computes : Computes m input sections (means_read p.structs t a s2, state2.choices) state2 b2.sections (read shape to)
    unfolding read
    computes =
        subst (λ r. Computes m input sections (means_read p.structs t a s2, state2.choices) state2 b2.sections (read shape r)) (sym at.is)
        (subst (λ w. Computes m input sections (w, state2.choices) state2 b2.sections (read shape pointer_to)) (sym (whole_is_told m input sections f p around are start b2 s2 state2 r l good2 x2 writes t a inside sound_t shape of_type shaped picked.1 picked.2))
        (loaded_computes m input sections at.id x.begins.class shape [] [] (spot m input sections f p around start r.base l x.begins) (spot m input sections f p around start r.base l x.begins) (run_value m input sections f p around are start b2 s2 state2 r l good2 x2 shape of_type) state2 b2.sections (keeps.same at.id _ at.points) tt (λ place go. refl)
        (spot_holds m input sections f p around start are b2 s2 state2 r l good2 x2 shape of_type).all (run_of m input sections f p around are start b2 s2 state2 r l good2 x2 shape of_type)))

    acts : (value : ℕ) (v : Value) → is_value_of p.structs t v ≡ true → Stands state2.ids value v
        → Acts m input sections Nothing (stored_left m input sections state2 state2.variables (buffers_with m state2 x.begins.id (put_words x.begins.offset (components_in (converted_value (stored_shape x.begins.class shape).0 v)) (bytes m input sections f p around are start b2 s2 state2 r l good2 x2)))) state2 b2.sections (stored shape to value)
    unfolding stored
    acts value v typed stands =
        let left = buffers_with m state2 x.begins.id (put_words x.begins.offset (components_in (converted_value (stored_shape x.begins.class shape).0 v)) (bytes m input sections f p around are start b2 s2 state2 r l good2 x2)) in
        subst (λ r. Acts m input sections Nothing (stored_left m input sections state2 state2.variables left) state2 b2.sections (stored shape r value)) (sym at.is)
        (put_acts m input sections at.id x.begins.class shape [] value [] (spot m input sections f p around start r.base l x.begins) (spot m input sections f p around start r.base l x.begins) v state2.variables left state2 b2.sections (keeps.same at.id _ at.points) tt (λ place go. refl)
        (value_shape p.structs t shape v are sound_t shaped typed).1 stands
        (block_stores m input state2 x.begins.id x.begins.offset (type_there m input sections f p around start r.base l x.begins) (bytes m input sections f p around are start b2 s2 state2 r l good2 x2) (held m input sections f p around are start b2 s2 state2 r l good2 x2).1 (converted_value (stored_shape x.begins.class shape).0 v)))

  pub whole_serves : Serves m input sections f p around t a to ids
  whole_serves = record {
    reads = λ b2 s2 units state2 good2 keeps.
        read_by_steps m input sections f p around are start b2 s2 state2 r l good2 (x2 b2 s2 state2 good2 keeps) writes t a inside sound_t shape shaped to (computes b2 s2 state2 good2 keeps) units;
    stores = λ b2 s2 units state2 value v good2 keeps typed stands.
        whole_left m input sections f p around are knows start b2 s2 state2 r l good2 (x2 b2 s2 state2 good2 keeps) own t a shape sound_t shaped writes inside none value v typed stands to (acts b2 s2 state2 good2 keeps value v typed stands) units;
  }
