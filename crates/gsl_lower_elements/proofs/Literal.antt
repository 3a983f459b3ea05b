-- Indexes that are known.
use Rattle.std.proofs.Common.{◌≡◌, refl, sym, ap, ◌∙◌, subst, ℕ, ◌<◌, Bool, true, false, not, ◌&&◌, ◌||◌, Option, Some, None}
use Rattle.gsl_base.specs.declared.input.Input.{Input}
use Rattle.gsl_types.specs.Known.{AreStructs}
use Rattle.gsl_types.specs.declared.ty.Ty.{Ty}
use Rattle.gsl_words.specs.declared.module.Module.{Module}
use Rattle.gsl_values.specs.declared.value.Value.{Value}
use Rattle.gsl_tree.specs.Around.{Around}
use Rattle.gsl_tree.specs.Operations.{has_fixed_length, length_of}
use Rattle.gsl_tree.specs.Shapes.{Shape, shape_of}
use Rattle.gsl_tree.specs.Values.{word_in}
use Rattle.gsl_tree.specs.declared.program.Program.{Program}
use Rattle.gsl_meaning.specs.Accesses.{Access}
use Rattle.gsl_meaning.specs.Running.{Run, Strays, indexing}
use Rattle.gsl_meaning.specs.Running as shader_run
use Rattle.gsl_meaning.specs.State as shader
use Rattle.gsl_spv.specs.Sections.{Sections}
use Rattle.gsl_spv.proofs.Extending.{extends_same}
use Rattle.gsl_lower_values.specs.Building as steps
use Rattle.gsl_lower_places.specs.Reached.{component_at, component_if, with_picked}
use Rattle.gsl_lower_places.specs.declared.reached.Part.TheVariants.{Fixed}
use Rattle.gsl_lower_places.specs.declared.reached.Picked.{Picked}
use Rattle.gsl_lower_places.specs.declared.reached.Reached.{Reached}
use Rattle.gsl_lower_law.specs.Computing.{Grows}
use Rattle.gsl_lower_traits.specs.Traits.{is_dynamic, is_plain}
use Rattle.gsl_lower_holders.specs.Flow.{Emit, Flow, lift, ◌>>=◌}
use Rattle.gsl_lower_holders.specs.Waiting.{fetch_reached, hold_reached}
use Rattle.gsl_lower_expr.specs.Parts.{Lower, after_index, before_index, index_by, indexed, known_of, probe, spilled, step_into}
use Rattle.gsl_lower_follows.specs.Frames.{Frame}
use Rattle.gsl_lower_follows.specs.Giving.{Does, GrownTo}
use Rattle.gsl_lower_follows.proofs.Growing.{adds_lift}
use Rattle.gsl_lower_reaching.proofs.OfLawExpr.{behind_assoc}
use Rattle.gsl_lower_elements.specs.Indexes.{Indexes, IsLiteral, indexed_means}
use Rattle.gsl_lower_reaching.specs.Reaching.{GivesPlace, HasReached, HasStrayed, Start}
use Rattle.gsl_lower_elements.proofs.Indexing.{MayIndex, step_in, step_out}
use Rattle.gsl_lower_elements.proofs.Rebased.{GoesOn, place_then}

module _ (m : Module) (input : Input) (sections : Sections) (f : Frame m input sections) (p : Program) (around : Around) (are : AreStructs p.structs) where
  module _ (splits : Bool) (lies : Start) (writes : Bool) (t : Ty) (number : ℕ) (a i : Lower) (run : Run Access) (y : Run Value) (is : Indexes p a.ty t) (known : IsLiteral i number y) (less : has_fixed_length a.ty ≡ true → number < length_of a.ty) where
    -- what is lowered behind what is indexed
    abbrev next_by : Bool → Bool → Bool → Option ℕ → Reached → Emit Reached
    next_by spill calls waits literal r =
        spilled p.structs spill a.ty r >>= (λ x. lift (probe p.structs calls a.ty x) >>= (λ done. hold_reached waits x)) >>= (λ kept. index_by i literal >>= (λ part. fetch_reached waits kept >>= (λ to. lift (step_into (shape_of a.ty) part to))))

    abbrev stepped : Reached → Emit Reached
    stepped r = lift (step_into (shape_of a.ty) (Fixed number) r)

    abbrev next : Reached → Emit Reached
    next r = before_index p.structs (known_of a) i.traits r >>= (λ kept. index_by i i.traits.literal >>= after_index a.ty i.traits kept)

    straight : (r : Reached) (b : Flow) → next_by false false false (Some number) r b ≡ stepped r b
    unfolding probe hold_reached fetch_reached
    straight r b = refl

    no_spill : (l : Bool) (plain : Bool) → (l && is_dynamic (Some number) && not plain) ≡ false
    no_spill true plain = refl
    no_spill false plain = refl

    next_is : (r : Reached) (b : Flow) → next r b ≡ stepped r b
    next_is r b =
        ap (λ o. next_by (a.traits.is_loose && is_dynamic o && not (is_plain a.ty)) i.traits.calls i.traits.splits o r b) known.literal
        ∙ ap (λ c. next_by c i.traits.calls i.traits.splits (Some number) r b) (no_spill a.traits.is_loose (is_plain a.ty))
        ∙ ap (λ c. next_by false c i.traits.splits (Some number) r b) known.quiet
        ∙ ap (λ c. next_by false false c (Some number) r b) known.alone
        ∙ straight r b

    -- a step to a part that is known only adds
    always_step : (r : Reached) (b : Flow) → Grows b.sections (step_into (shape_of a.ty) (Fixed number) r b.sections)
    unfolding component_at
    always_step r b = by (shape_of a.ty)
      where
        by_pick : (shape : Shape) (o : Option Picked) → Grows b.sections (steps.◌>>=◌ (component_if shape (Fixed number) o) (λ picked. steps.given (with_picked r picked)) b.sections)
        by_pick shape None = extends_same b.sections
        by_pick shape (Some q) = extends_same b.sections

        by : (o : Option Shape) → Grows b.sections (step_into o (Fixed number) r b.sections)
        by None = extends_same b.sections
        by (Some shape) = by_pick shape r.picked

    may : MayIndex m input sections f p around are lies writes a.ty t (Fixed number) number is.sound is.sound_part is.element
    may = record { fixed = λ none loose. (number, refl); known = λ n same fixed. less fixed }

    -- the index gives the number
    means : (x : Access) (s : shader.State) (units : ℕ) → shader_run.◌>>=◌ y (λ v. indexing x (word_in v)) s units ≡ indexing x number s units
    means x s units = let g = known.gives s units in ap (λ ran. shader_run.behind ran (λ v. indexing x (word_in v))) g.1 ∙ ap (λ n. indexing x n s units) g.2

    goes_on : GoesOn m input sections f p around splits false lies lies writes a.ty t a.reach run next (λ x. shader_run.◌>>=◌ y (λ v. indexing x (word_in v)))
    goes_on = record {
      adds = λ r b. subst (GrownTo b) (sym (next_is r b)) (adds_lift (step_into (shape_of a.ty) (Fixed number) r) (always_step r) b);
      inside = λ b s units state r x l good trail inside.
          subst (λ low. Does m input sections f p 0 units state (HasReached m input sections f p around false lies writes t b state) (HasStrayed m input sections f p around false lies writes t b state) (shader_run.◌>>=◌ y (λ v. indexing x (word_in v)) s units) low) (sym (next_is r b))
          (subst (λ ran. Does m input sections f p 0 units state (HasReached m input sections f p around false lies writes t b state) (HasStrayed m input sections f p around false lies writes t b state) ran (stepped r b)) (sym (means x s units))
          (step_in m input sections f p around are lies writes a.ty t (Fixed number) number is.sound is.sound_part is.element may units b s state r l good trail refl x inside));
      outside = λ b s units state r l good trail outside origin budget strays.
          subst (λ low. Does m input sections f p 0 units state (HasReached m input sections f p around false lies writes t b state) (HasStrayed m input sections f p around false lies writes t b state) Strays low) (sym (next_is r b))
          (step_out m input sections f p around are lies writes a.ty t (Fixed number) number is.sound is.sound_part is.element may units b s state r l good trail refl (HasReached m input sections f p around false lies writes t b state) outside);
    }

    joined : (b : Flow) → indexed p.structs a i b ≡ (a.reach >>= next) b
    joined b = behind_assoc (a.reach b) (before_index p.structs (known_of a) i.traits) (λ kept. index_by i i.traits.literal >>= after_index a.ty i.traits kept)

    none_more : (c : Bool) → c ≡ false → (c || false) ≡ false
    none_more true e = e
    none_more false e = e

    pub literal_place : GivesPlace m input sections f p around splits lies writes a.ty a.reach run → GivesPlace m input sections f p around (splits || false) lies writes t (indexed p.structs a i) (indexed_means run y)
    literal_place gives =
        let all = place_then m input sections f p around splits false lies lies writes a.ty t a.reach run next (λ x. shader_run.◌>>=◌ y (λ v. indexing x (word_in v))) gives goes_on in
        record {
          adds = λ b. subst (GrownTo b) (sym (joined b)) (all.adds b);
          does = λ b s units state good. subst (λ low. Does m input sections f p 0 units state (HasReached m input sections f p around (splits || false) lies writes t b state) (HasStrayed m input sections f p around (splits || false) lies writes t b state) (indexed_means run y s units) low) (sym (joined b)) (all.does b s units state good);
        }
