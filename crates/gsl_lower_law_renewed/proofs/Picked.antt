-- One pointer to what is picked of a scalar or vector to which a trail in a block leads.
use Rattle.std.proofs.Common.{◌≡◌, refl, sym, ap, ◌∙◌, subst, ℕ, zero, suc, ◌+◌, ◌*◌, Bool, true, false, List, [], ◌∷◌, ◌++◌, length, Some, arith}
use Rattle.gsl_base.specs.declared.input.Input.{Input}
use Rattle.gsl_types.specs.Known.{AreStructs, IsSound}
use Rattle.gsl_types.specs.declared.ty.Ty.{Ty}
use Rattle.gsl_words.specs.Words.{put_word}
use Rattle.gsl_words.specs.declared.module.Module.{Module}
use Rattle.gsl_values.specs.declared.value.Value.{Value}
use Rattle.gsl_tree.specs.Around.{Around}
use Rattle.gsl_tree.specs.Paths.{repeats}
use Rattle.gsl_tree.specs.Shapes.{Shape, shape_of}
use Rattle.gsl_tree.specs.Values.{components_in, is_value_of}
use Rattle.gsl_tree.specs.WellTyped.{is_push}
use Rattle.gsl_tree.specs.declared.program.Program.{Program}
use Rattle.gsl_views.specs.Buffers.{put_words}
use Rattle.gsl_meaning.specs.Accesses.{Access, read as means_read, stored as means_stored}
use Rattle.gsl_meaning.specs.Running.{Got}
use Rattle.gsl_meaning.specs.State as shader
use Rattle.gsl_machine.specs.State.{Ids, State}
use Rattle.gsl_spv.specs.Sections.{Sections}
use Rattle.gsl_lower_places.specs.Reached.{stored_shape}
use Rattle.gsl_lower_places.specs.Reading.{read}
use Rattle.gsl_lower_places.specs.Writing.{stored}
use Rattle.gsl_lower_places.specs.declared.reached.Picked.{Picked}
use Rattle.gsl_lower_places.specs.declared.reached.Reached.{Reached}
use Rattle.gsl_lower_law.specs.Computing.{Acts, Computes}
use Rattle.gsl_lower_law.specs.Operands.{converted_value}
use Rattle.gsl_lower_law.specs.Values.{IsOf, Keeps, Stands}
use Rattle.gsl_lower_law.proofs.Joining.{keeps_then}
use Rattle.gsl_lower_law_components.specs.Putting.{put_components}
use Rattle.gsl_lower_law_components.specs.Serving.{Puts}
use Rattle.gsl_lower_law_expr.proofs.Shapes.{value_shape}
use Rattle.gsl_lower_law_picks.specs.Serving as by_pointer
use Rattle.gsl_lower_law_places.specs.Components.{AreWithin, picks_of}
use Rattle.gsl_lower_law_places.specs.Storing.{buffers_with, goes_to}
use Rattle.gsl_lower_law_places.proofs.Kept.{one_position}
use Rattle.gsl_lower_law_places.proofs.Stored.{Nothing, stored_left}
use Rattle.gsl_lower_holders.specs.Flow.{Flow}
use Rattle.gsl_lower_expr.specs.Parts.{stores}
use Rattle.gsl_lower_follows.specs.Frames.{Frame, Good, HeldAs}
use Rattle.gsl_lower_follows.specs.Giving.{Does, none_waits}
use Rattle.gsl_lower_law_written.specs.OfLawStored.{KnowsBuffers}
use Rattle.gsl_lower_law_written.specs.OfReaching.{IsBlockTrail, PicksBy, Start}
use Rattle.gsl_lower_law_written.specs.OfReaching.{Chosen, IsChosen, IsInside, IsPicked, MayWrite, Trail}
use Rattle.gsl_lower_law_written.proofs.OfElements.{bytes, held, run_of, run_value, whole_is}
use Rattle.gsl_lower_law_written.specs.OfWrites.{Serves}
use Rattle.gsl_lower_law_written.specs.OfWrites.{IsWritten}
use Rattle.gsl_lower_law_written.proofs.OfWrites.{are_few}
use Rattle.gsl_lower_law_written.proofs.One.{one_left}
use Rattle.gsl_lower_law_written.proofs.Parts.{parts_left}
use Rattle.gsl_lower_law_written.proofs.Words.{lying_many}
use Rattle.gsl_lower_law_renewed.proofs.Spots.{block_still, spot, spot_holds}
use Rattle.gsl_lower_law_renewed.proofs.Told.{picks_are_told, read_by_steps}

some_same : {A : Type 0} {a b : A} → Some a ≡ Some b → a ≡ b
some_same e = cc

-- one word at the first position is put where the words begin
put_alone : (offset : ℕ) (bytes words : List ℕ) → length words ≡ 1 → put_components offset (0 ∷ []) words bytes ≡ put_words offset words bytes
put_alone offset bytes [] one = absurd (let z : 0 ≡ 1 = one in omega (arith, z))
put_alone offset bytes (word ∷ []) one = ap (λ at. put_word bytes at word) (let z : offset + 4 * 0 ≡ offset = omega arith in z)
put_alone offset bytes (word ∷ next ∷ words) one = absurd (let z : suc (suc (length words)) ≡ 1 = one in omega (arith, z))

module _ (m : Module) (input : Input) (sections : Sections) (f : Frame m input sections) (p : Program) (around : Around) (are : AreStructs p.structs) (knows : KnowsBuffers m input sections f p) (start : Start) (b : Flow) (s : shader.State) (state : State) (r : Reached) (l : Trail)
    (good : Good m input sections f p around b s state) (x : IsBlockTrail m input sections f p around false start b state r l) (own : is_push x.begins.block.kind ≡ false) (t : Ty) (a : Access) (shape : Shape) (sound_t : IsSound (length p.structs) t) (shaped : shape_of t ≡ Some shape) (writes : Bool)
    (inside : IsInside p.structs p.blocks writes t a l) (may : MayWrite true l.picks)
    (q : Picked) (c : Chosen) (chosen_is : l.picks ≡ Some c) (picks : PicksBy (λ id v. HeldAs m input sections f false id v b state) (Some q) (Some c)) (to : Reached) (ids : Ids) (kept : Keeps state.ids ids)
    (serves : by_pointer.Serves m input sections x.begins.class q c.word (spot m input sections f p around start r.base l x.begins) to ids) (puts : Puts m input sections x.begins.class q c.word x.begins.id x.begins.offset to ids) where
  y : IsChosen inside.whole t (l.front ++ l.words) c a.path a.picked
  y = subst (λ o. IsPicked inside.whole t (l.front ++ l.words) o a.path a.picked) chosen_is inside.picks

  once : repeats c.positions ≡ false
  once = subst (MayWrite true) chosen_is may refl

  q_shape : ◌≡◌ {A = Shape} (q.shape.0, length q.positions) (c.shape.0, length c.positions)
  q_shape = ap (λ (s : Shape). (s.0, length q.positions)) picks.0 ∙ ap (λ ps. (c.shape.0, length ps)) picks.1

  given_shape : (c.shape.0, length c.positions) ≡ shape
  given_shape = some_same (sym y.gives ∙ shaped)

  module _ (b2 : Flow) (s2 : shader.State) (state2 : State) (good2 : Good m input sections f p around b2 s2 state2) (keeps : Keeps ids state2.ids) where
    abbrev x2 : IsBlockTrail m input sections f p around false start b2 state2 r l
    x2 = block_still m input sections f p around start b b2 state state2 r l (keeps_then kept keeps) x

    of_type : shape_of l.ty ≡ Some c.shape
    of_type = ap shape_of (whole_is m input sections f p around are start b2 s2 state2 r l good2 x2 writes t a inside) ∙ y.of

    abbrev there : Value
    there = run_value m input sections f p around are start b2 s2 state2 r l good2 x2 c.shape of_type

    computes : Computes m input sections (means_read p.structs t a s2, state2.choices) state2 b2.sections (read shape to)
    computes =
        subst (λ s. Computes m input sections (means_read p.structs t a s2, state2.choices) state2 b2.sections (read s to)) (q_shape ∙ given_shape)
        (subst (λ w. Computes m input sections (w, state2.choices) state2 b2.sections (read (q.shape.0, length q.positions) to))
        (ap (λ (s : Shape). picks_of (converted_value s.0 there) c.word q.positions) picks.0 ∙ ap (picks_of (converted_value c.shape.0 there) c.word) picks.1 ∙ sym (picks_are_told m input sections f p around are start b2 s2 state2 r l good2 x2 writes t a inside sound_t c y of_type))
        (serves.reads state2 b2.sections there keeps (spot_holds m input sections f p around start are b2 s2 state2 r l good2 x2 c.shape of_type)
        (subst (λ s. IsOf (stored_shape x.begins.class s) there) (sym picks.0) (run_of m input sections f p around are start b2 s2 state2 r l good2 x2 c.shape of_type))))

    module _ (value : ℕ) (v : Value) (typed : is_value_of p.structs t v ≡ true) (stands : Stands state2.ids value v) where
      of : IsOf (c.shape.0, length c.positions) v
      of = (value_shape p.structs t (c.shape.0, length c.positions) v are sound_t y.gives typed).1

      abbrev words : List ℕ
      words = components_in (converted_value (stored_shape x.begins.class (c.shape.0, length c.positions)).0 v)

      abbrev Left_by : Shape → List ℕ → Type 0
      Left_by s positions = Acts m input sections Nothing
          (stored_left m input sections state2 state2.variables (buffers_with m state2 x.begins.id (put_components x.begins.offset (goes_to c.word positions) (components_in (converted_value (stored_shape x.begins.class (s.0, length positions)).0 v)) (bytes m input sections f p around are start b2 s2 state2 r l good2 x2)))) state2 b2.sections
          (stored (s.0, length positions) to value)

      acts : Left_by c.shape c.positions
      acts = subst (λ s. Left_by s c.positions) picks.0 (subst (Left_by q.shape) picks.1 (puts.puts state2 b2.sections (bytes m input sections f p around are start b2 s2 state2 r l good2 x2) v value keeps (held m input sections f p around are start b2 s2 state2 r l good2 x2).1 (subst (λ s. IsOf s v) (sym q_shape) of) stands))

      put_same : c.shape.1 ≡ 1 → put_components x.begins.offset (goes_to c.word c.positions) words (bytes m input sections f p around are start b2 s2 state2 r l good2 x2) ≡ put_words x.begins.offset words (bytes m input sections f p around are start b2 s2 state2 r l good2 x2)
      put_same alone =
          let some = y.some in
          let few = are_few c.shape.1 c.word c.positions y.within once y.some in
          let one : length c.positions ≡ 1 = omega (arith, some, few, alone) in
          ap (λ positions. put_components x.begins.offset positions words (bytes m input sections f p around are start b2 s2 state2 r l good2 x2)) (one_position c.word c.positions one (subst (λ n. AreWithin n c.word c.positions) alone y.within))
          ∙ put_alone x.begins.offset (bytes m input sections f p around are start b2 s2 state2 r l good2 x2) words (lying_many x.begins.class x.begins.inside (c.shape.0, length c.positions) v of ∙ one)

      picked_written : (units : ℕ) → Does m input sections f p 0 units state2 (IsWritten m input sections f p around b2 state2) none_waits (Got (tt {0}) (means_stored a v s2) units) (stores p.structs t to value b2)
      picked_written units = by c.shape.1 refl
        where
          by : (n : ℕ) → c.shape.1 ≡ n → Does m input sections f p 0 units state2 (IsWritten m input sections f p around b2 state2) none_waits (Got (tt {0}) (means_stored a v s2) units) (stores p.structs t to value b2)
          by zero none = let some = y.some in let few = are_few c.shape.1 c.word c.positions y.within once y.some in absurd (omega (arith, some, few, none))
          by (suc zero) alone =
              one_left m input sections f p around are knows start b2 s2 state2 r l good2 x2 own t a sound_t writes inside c chosen_is once alone value v typed stands to
              (subst (λ now. Acts m input sections Nothing (stored_left m input sections state2 state2.variables (buffers_with m state2 x.begins.id now)) state2 b2.sections (stored (c.shape.0, length c.positions) to value)) (put_same alone) acts) units
          by (suc (suc n)) more = parts_left m input sections f p around are knows start b2 s2 state2 r l good2 x2 own t a sound_t writes inside c chosen_is once (omega (arith, more)) value v typed stands to acts units

  pub picked_serves : Serves m input sections f p around t a to ids
  picked_serves = record {
    reads = λ b2 s2 units state2 good2 keeps.
        read_by_steps m input sections f p around are start b2 s2 state2 r l good2 (x2 b2 s2 state2 good2 keeps) writes t a inside sound_t shape shaped to (computes b2 s2 state2 good2 keeps) units;
    stores = λ b2 s2 units state2 value v good2 keeps typed stands. picked_written b2 s2 state2 good2 keeps value v typed stands units;
  }
