-- What is read where a trail in a block leads.
use Rattle.std.proofs.Common.{◌≡◌, refl, sym, ap, ◌∙◌, subst, ◌≤◌, Bool, true, false, ◌++◌, length, Option, Some, None}
use Rattle.gsl_base.specs.declared.input.Input.{Input}
use Rattle.gsl_types.specs.Known.{AreStructs, IsSound}
use Rattle.gsl_types.specs.declared.ty.Ty.{Ty}
use Rattle.gsl_words.specs.declared.module.Module.{Module}
use Rattle.gsl_values.specs.declared.value.Value.{Value}
use Rattle.gsl_tree.specs.Around.{Around}
use Rattle.gsl_tree.specs.Operations.{value_at}
use Rattle.gsl_tree.specs.Shapes.{Shape, shape_of}
use Rattle.gsl_tree.specs.Values.{is_value_of}
use Rattle.gsl_tree.specs.declared.program.Program.{Program}
use Rattle.gsl_meaning.specs.Accesses.{Access, pick, read as means_read, root_value, told}
use Rattle.gsl_meaning.specs.State as shader
use Rattle.gsl_machine.specs.State.{State}
use Rattle.gsl_spv.specs.Sections.{Sections}
use Rattle.gsl_lower_places.specs.Reached.{stored_scalar, stored_shape}
use Rattle.gsl_lower_places.specs.Reading.{read, read_from}
use Rattle.gsl_lower_places.specs.declared.reached.Base.TheVariants.{Variable}
use Rattle.gsl_lower_places.specs.declared.reached.Picked.{Picked}
use Rattle.gsl_lower_places.specs.declared.reached.Reached.{Reached}
use Rattle.gsl_lower_law.specs.Computing.{Computes}
use Rattle.gsl_lower_law.specs.Operands.{converted_value}
use Rattle.gsl_lower_law.specs.Values.{IsOf}
use Rattle.gsl_lower_law_places.specs.Components.{AreWithin, Picks, picks_of}
use Rattle.gsl_lower_law_places.proofs.Loads.{loaded_computes}
use Rattle.gsl_lower_law_places.proofs.Reading.{converted_is, variables_read}
use Rattle.gsl_lower_reaching.proofs.OfLawMembers.{picks_told, whole_told}
use Rattle.gsl_lower_holders.specs.Flow.{Flow}
use Rattle.gsl_lower_follows.specs.Frames.{Frame, Good, HeldAs}
use Rattle.gsl_lower_reaching.specs.Reaching.{IsBlockTrail, PicksBy, Start}
use Rattle.gsl_lower_reaching.specs.Trails.{Chosen, IsInside, IsPicked, Trail}
use Rattle.gsl_lower_reaching.proofs.Moving.{chooses_stand}
use Rattle.gsl_lower_elements.proofs.Picked.{picked_found, picks_are, shape_typed}
use Rattle.gsl_lower_elements.proofs.Standing.{from, leads, number_each, points, read_told, run_held, run_of, run_stored, run_there, run_value, to, value_there, whole_is}

module _ (m : Module) (input : Input) (sections : Sections) (f : Frame m input sections) (p : Program) (around : Around) (are : AreStructs p.structs) (start : Start) (b : Flow) (s : shader.State) (state : State) (r : Reached) (l : Trail) (good : Good m input sections f p around b s state)
    (x : IsBlockTrail m input sections f p around false start b state r l) (writes : Bool) (t : Ty) (a : Access) (inside : IsInside p.structs p.blocks writes t a l) (sound_t : IsSound (length p.structs) t) where
  abbrev run_at : (shape : Shape) → shape_of l.ty ≡ Some shape → Value
  run_at shape of = run_value m input sections f p around are start b s state r l good x shape of

  abbrev pub of_whole : (shape : Shape) → shape_of inside.whole ≡ Some shape → shape_of l.ty ≡ Some shape
  of_whole shape of = ap shape_of (whole_is m input sections f p around are start b s state r l good x writes t a inside) ∙ of

  there_is : (shape : Shape) (of : shape_of l.ty ≡ Some shape) → value_at (root_value a.root s) (l.front ++ l.words) ≡ run_at shape of
  there_is shape of = value_there m input sections f p around are start b s state r l good x writes t a inside ∙ run_there m input sections f p around are start b s state r l good x shape of

  pub picks_stand : (q : Picked) (c : Chosen) → PicksBy (λ id v. HeldAs m input sections f false id v b state) (Some q) (Some c) → 1 ≤ length c.positions → AreWithin c.shape.1 c.word c.positions → Picks state.ids q c.word
  picks_stand q c picks some within = record {
    by_word = chooses_stand state.ids q.by c.word picks.2;
    some = subst (λ ps. 1 ≤ length ps) (sym picks.1) some;
    within = subst (λ (shape : Shape). AreWithin shape.1 c.word q.positions) (sym picks.0) (subst (AreWithin c.shape.1 c.word) (sym picks.1) within);
  }

  -- ---- what the shader reads

  whole_read : (shape : Shape) (shaped : shape_of t ≡ Some shape) (same : inside.whole ≡ t) → a.path ≡ l.front ++ l.words → a.picked ≡ None
      → means_read p.structs t a s ≡ converted_value shape.0 (run_at shape (of_whole shape (ap shape_of same ∙ shaped)))
  whole_read shape shaped same path none =
      let of = of_whole shape (ap shape_of same ∙ shaped) in
      read_told m input sections f p around are start b s state r l good x writes t a inside
      ∙ ap (told p.structs t) (ap (λ o. pick o (value_at (root_value a.root s) a.path)) none ∙ ap (value_at (root_value a.root s)) path ∙ there_is shape of)
      ∙ whole_told p.structs t shape sound_t shaped (stored_scalar shape.0) (run_at shape of) (run_stored m input sections f p around are start b s state r l good x shape of)

  picks_read : (c : Chosen) (y : IsPicked inside.whole t (l.front ++ l.words) (Some c) a.path a.picked) → means_read p.structs t a s ≡ picks_of (converted_value c.shape.0 (run_at c.shape (of_whole c.shape y.of))) c.word c.positions
  picks_read c y =
      let of = of_whole c.shape y.of in
      let is = run_stored m input sections f p around are start b s state r l good x c.shape of in
      read_told m input sections f p around are start b s state r l good x writes t a inside
      ∙ ap (told p.structs t) (picked_found a s (l.front ++ l.words) c (stored_scalar c.shape.0) (subst (IsOf (stored_scalar c.shape.0, c.shape.1)) (sym (there_is c.shape of)) is) y.some y.within y.are ∙ ap (λ v. picks_of v c.word c.positions) (there_is c.shape of))
      ∙ picks_told p.structs t (c.shape.0, length c.positions) sound_t y.gives (run_at c.shape of) c.word c.positions refl

  -- ---- what the module does

  run_read : (shape : Shape) → shape_of t ≡ Some shape → (o : Option Picked) (c : Option Chosen) → PicksBy (λ id v. HeldAs m input sections f false id v b state) o c → IsPicked inside.whole t (l.front ++ l.words) c a.path a.picked
      → Computes m input sections (means_read p.structs t a s, state.choices) state b.sections (read_from (Variable x.begins.id x.begins.class) r.path shape o)
  unfolding read
  run_read shape shaped None None picks (same, path, none) =
      let of = of_whole shape (ap shape_of same ∙ shaped) in
      subst (λ w. Computes m input sections (w, state.choices) state b.sections (read_from (Variable x.begins.id x.begins.class) r.path shape None)) (sym (whole_read shape shaped same path none))
      (loaded_computes m input sections x.begins.id x.begins.class shape r.path l.front (from m input sections f p around are start b s state r l good x) (to m input sections f p around are start b s state r l good x) (run_at shape of) state b.sections
      (points m input sections f p around are start b s state r l good x) (number_each m input sections f p around are start b s state r l good x writes t a inside) (leads m input sections f p around are start b s state r l good x)
      (run_held m input sections f p around are start b s state r l good x shape of).all (run_of m input sections f p around are start b s state r l good x shape of))
  run_read shape shaped None (Some c) picks y = absurd picks
  run_read shape shaped (Some q) None picks y = absurd picks
  run_read shape shaped (Some q) (Some c) picks y =
      let of = of_whole c.shape y.of in
      subst (λ w. Computes m input sections (w, state.choices) state b.sections (read_from (Variable x.begins.id x.begins.class) r.path shape (Some q)))
      (ap (λ (s : Shape). picks_of (converted_value s.0 (run_at c.shape of)) c.word q.positions) picks.0 ∙ ap (picks_of (converted_value c.shape.0 (run_at c.shape of)) c.word) picks.1 ∙ sym (picks_read c y))
      (variables_read m input sections x.begins.id x.begins.class r.path q l.front (from m input sections f p around are start b s state r l good x) (to m input sections f p around are start b s state r l good x) (run_at c.shape of) state b.sections
      (points m input sections f p around are start b s state r l good x) (number_each m input sections f p around are start b s state r l good x writes t a inside) (leads m input sections f p around are start b s state r l good x)
      (run_held m input sections f p around are start b s state r l good x c.shape of)
      (subst (λ s. IsOf (stored_shape x.begins.class s) (run_at c.shape of)) (sym picks.0) (run_of m input sections f p around are start b s state r l good x c.shape of)) shape c.word (picks_stand q c picks y.some y.within))

  pub block_read : (shape : Shape) → shape_of t ≡ Some shape → Computes m input sections (means_read p.structs t a s, state.choices) state b.sections (read shape r)
  unfolding read
  block_read shape shaped = subst (λ base. Computes m input sections (means_read p.structs t a s, state.choices) state b.sections (read_from base r.path shape r.picked)) (sym x.begins.is) (run_read shape shaped r.picked l.picks x.picks inside.picks)

  -- ---- its type

  pub block_shape : (shape : Shape) → shape_of t ≡ Some shape → is_value_of p.structs t (means_read p.structs t a s) ≡ true
  block_shape shape shaped = by l.picks inside.picks
    where
      by : (o : Option Chosen) → IsPicked inside.whole t (l.front ++ l.words) o a.path a.picked → is_value_of p.structs t (means_read p.structs t a s) ≡ true
      by None (same, path, none) =
          let of = of_whole shape (ap shape_of same ∙ shaped) in
          ap (is_value_of p.structs t) (whole_read shape shaped same path none)
          ∙ shape_typed p.structs t shape (converted_value shape.0 (run_at shape of)) sound_t shaped (converted_is x.begins.class shape (run_at shape of) (run_of m input sections f p around are start b s state r l good x shape of))
      by (Some c) y =
          let of = of_whole c.shape y.of in
          let v : Value = converted_value c.shape.0 (run_at c.shape of) in
          ap (is_value_of p.structs t) (picks_read c y)
          ∙ shape_typed p.structs t (c.shape.0, length c.positions) (picks_of v c.word c.positions) sound_t y.gives (picks_are c.shape v c.word c.positions (converted_is x.begins.class c.shape (run_at c.shape of) (run_of m input sections f p around are start b s state r l good x c.shape of)) y.within)
