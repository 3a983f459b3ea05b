-- A scalar or vector is made ready to be read and stored, in a variable or in a block.
use Rattle.std.proofs.Common.{◌≡◌, refl, sym, subst, ℕ, true, false, length, Some}
use Rattle.gsl_base.specs.declared.input.Input.{Input}
use Rattle.gsl_types.specs.Known.{AreStructs, IsSound}
use Rattle.gsl_types.specs.declared.ty.Ty.{Ty}
use Rattle.gsl_words.specs.declared.module.Module.{Module}
use Rattle.gsl_tree.specs.Around.{Around}
use Rattle.gsl_tree.specs.Shapes.{Shape, shape_of}
use Rattle.gsl_tree.specs.Values.{is_value_of}
use Rattle.gsl_tree.specs.declared.program.Program.{Program}
use Rattle.gsl_meaning.specs.Accesses.{Access, read as means_read, stored}
use Rattle.gsl_meaning.specs.Running.{Got, Strays}
use Rattle.gsl_meaning.specs.State as shader
use Rattle.gsl_machine.specs.State.{Ids, State}
use Rattle.gsl_spv.specs.Sections.{Sections}
use Rattle.gsl_lower_places.specs.Pointed.{to_renew}
use Rattle.gsl_lower_places.specs.Reading.{read}
use Rattle.gsl_lower_places.specs.Writing.{stored as stored_step}
use Rattle.gsl_lower_places.specs.declared.reached.Reached.{Reached}
use Rattle.gsl_lower_law_places.proofs.Stored.{Nothing, stored_left}
use Rattle.gsl_lower_holders.specs.Flow.{Emit, Flow, lift, ◌>>=◌}
use Rattle.gsl_lower_expr.specs.Parts.{read_by, reads, store_by, stores}
use Rattle.gsl_lower_follows.specs.Frames.{Frame, Good, HeldAs}
use Rattle.gsl_lower_follows.specs.Giving.{Adds, Does, HasGiven, none_waits}
use Rattle.gsl_lower_follows.proofs.Doing.{does_lift}
use Rattle.gsl_lower_follows.proofs.Drawn.{computed_given}
use Rattle.gsl_lower_law_expr.proofs.Short.{does_change}
use Rattle.gsl_lower_law_spread.specs.OfLawStored.{KnowsBuffers}
use Rattle.gsl_lower_law_renewed.proofs.Outside.{block_renewed_strays}
use Rattle.gsl_lower_law_renewed.proofs.Renewed.{block_ready}
use Rattle.gsl_lower_law_spread.specs.OfReaching.{AtVariable, IsTrail, Start}
use Rattle.gsl_lower_law_spread.specs.OfReaching.{variable}
use Rattle.gsl_lower_law_spread.specs.OfReaching.{own, in_block}
use Rattle.gsl_lower_law_spread.specs.OfReaching.{OfBlock}
use Rattle.gsl_lower_law_spread.specs.OfReaching.{IsInside, IsOutside, Trail}
use Rattle.gsl_lower_law_spread.proofs.OfReads.{always_read}
use Rattle.gsl_lower_law_spread.proofs.OfReads.{read_typed}
use Rattle.gsl_lower_law_renewed.specs.OfWrites.{IsReady, Serves}
use Rattle.gsl_lower_law_renewed.specs.OfWrites.{IsWritten}
use Rattle.gsl_lower_law_renewed.proofs.OfWrites.{renewed_strays}
use Rattle.gsl_lower_law_renewed.proofs.OfWrites.{IsServed, ServesPlace, place_renewed}
use Rattle.gsl_lower_law_renewed.proofs.OfWrites.{after_stored}
use Rattle.gsl_lower_law_renewed.proofs.OfWrites.{at_variable}
use Rattle.gsl_lower_stores.proofs.Staying.{not_pushed}

module _ (m : Module) (input : Input) (sections : Sections) (f : Frame m input sections) (p : Program) (around : Around) (are : AreStructs p.structs) (loose : Start) (t : Ty) (sound_t : IsSound (length p.structs) t) (shape : Shape) (shaped : shape_of t ≡ Some shape) where
  -- ---- in a variable

  module _ (r : Reached) (a : Access) (l : Trail) (x : AtVariable m input sections f p around loose r.base l) (inside : IsInside p.structs p.blocks true t a l) where
    there_typed : (b : Flow) (s : shader.State) (state : State) → Good m input sections f p around b s state → is_value_of p.structs t (means_read p.structs t a s) ≡ true
    there_typed b s state good = read_typed m input sections f p around are (λ id v. HeldAs m input sections f false id v b state) b.place.used b s state state loose true r.base r.path t a l good (variable x) inside sound_t

    serves_there : (to : Reached) (ids : Ids) → ServesPlace m input sections f p around are loose t sound_t shape shaped r a l x inside to ids → Serves m input sections f p around t a to ids
    unfolding reads stores
    serves_there to ids serving = record {
      reads = λ b s units state good keeps.
          subst (λ o. Does m input sections f p 0 units state (HasGiven m input sections f p around false t b state) none_waits (Got (means_read p.structs t a s) s units) (read_by p.structs t to o b)) (sym shaped)
          (computed_given m input sections f p around t (λ choices. (means_read p.structs t a s, choices)) (read shape to) (λ b. always_read m input sections shape to b.sections) (λ choices are. record { typed = there_typed b s state good; left = are }) b s units state good
          (serving.reads b s state good keeps));
      stores = λ b s units state value v good keeps typed stands.
          subst (λ o. Does m input sections f p 0 units state (IsWritten m input sections f p around b state) none_waits (Got tt (stored a v s) units) (store_by p.structs t to value o b)) (sym shaped)
          (does_lift m input sections f p around units b s state Nothing (stored_left m input sections state _ state.buffers) (IsWritten m input sections f p around b state) none_waits tt (stored a v s) (stored_step shape to value) good
          (serving.stores b s state value v typed good keeps stands)
          (λ done later q inside_later extends. after_stored m input sections f p around are loose t sound_t b s state r a l good x inside v typed q.ids later inside_later q.ready q.keeps q.reached));
    }

  -- ---- in both

  pub place_ready : (loose ≡ OfBlock → KnowsBuffers m input sections f p) → (r : Reached) (a : Access) (l : Trail) → IsInside p.structs p.blocks true t a l → (b : Flow) (s : shader.State) (units : ℕ) (state : State) → Good m input sections f p around b s state → IsTrail m input sections f p around false loose b state r l
      → Does m input sections f p 0 units state (IsReady m input sections f p around t a b s state) none_waits (Got tt s units) (lift (to_renew shape r) b)
  place_ready knows r a l inside b s units state good (own y) =
      let x = at_variable m input sections f p around b state loose r l y (inside.named refl) in
      does_change m input sections f p around units units state (IsServed m input sections f p around are loose t sound_t shape shaped r a l x inside b s state) (IsReady m input sections f p around t a b s state) tt tt s (lift (to_renew shape r) b)
      (λ to later last q. record { after = q.after; same = q.still; serves = serves_there r a l x inside to last.ids q.serves })
      (place_renewed m input sections f p around are loose t sound_t shape shaped r a l x inside b s units state good y)
  place_ready knows r a l inside b s units state good (in_block x) =
      block_ready m input sections f p around are (knows x.begins.marked) loose b s state r l good x (not_pushed m input sections f p around loose b state r l x (inside.named refl)) t a shape sound_t shaped true inside inside.may units

  -- what leads out of bounds strays as it is made ready, or as something is done with it
  pub ready_strays : {A R : Type 0} (units : ℕ) (b : Flow) (s : shader.State) (state : State) (r : Reached) (l : Trail) (next : Reached → Emit A) (Then : A → Flow → R → shader.State → State → Type 0)
      → Good m input sections f p around b s state → IsTrail m input sections f p around false loose b state r l → IsOutside p.structs p.blocks true t l → ((to : Reached) → Adds (next to)) → Does m input sections f p 0 units state Then none_waits Strays (next r b)
      → Does m input sections f p 0 units state Then none_waits Strays ((lift (to_renew shape r) >>= next) b)
  ready_strays units b s state r l next Then good (own x) outside adds strays = renewed_strays m input sections f p around are loose t shape units b s state r l next Then good x outside adds strays
  ready_strays units b s state r l next Then good (in_block x) outside adds strays = block_renewed_strays m input sections f p around are loose b s state r l good x true t outside units shape next Then adds strays
