-- Where a trail in a block leads: the same pointer in every state.
use Rattle.std.proofs.Common.{◌≡◌, sym, ap, ◌∙◌, subst, inl, inr, ℕ, ◌<◌, ◌≤◌, ◌⊎◌, true, false, List, ◌++◌, Option, Some, arith}
use Rattle.std.proofs.lemmas.Bool.{cases_lt}
use Rattle.gsl_base.specs.declared.input.Input.{Input}
use Rattle.gsl_layout.specs.Layout.{Layout, Leaf}
use Rattle.gsl_types.specs.Known.{AreStructs}
use Rattle.gsl_words.specs.declared.module.Module.{Module}
use Rattle.gsl_tree.specs.Around.{Around}
use Rattle.gsl_tree.specs.Laying.{layout_of}
use Rattle.gsl_tree.specs.Shapes.{Shape, shape_of}
use Rattle.gsl_tree.specs.declared.program.Program.{Program}
use Rattle.gsl_meaning.specs.State as shader
use Rattle.gsl_machine.specs.State.{Going, Held, InBlock, Outcome, Pointer, Points, State}
use Rattle.gsl_owed.specs.Types.{lies}
use Rattle.gsl_spv.specs.Sections.{Sections}
use Rattle.gsl_lower_places.specs.declared.reached.Base.{Base}
use Rattle.gsl_lower_places.specs.declared.reached.Reached.{Reached}
use Rattle.gsl_lower_law.specs.Values.{Keeps}
use Rattle.gsl_lower_law_blocks.proofs.Laid.{LeadsSo, paths_lead}
use Rattle.gsl_lower_law_members.specs.Parts.{laid_as}
use Rattle.gsl_lower_law_members.specs.Sizes.{size_of}
use Rattle.gsl_lower_law_members.proofs.Vectors.{vector_is}
use Rattle.gsl_lower_law_places.specs.Components.{HoldsComponents}
use Rattle.gsl_lower_law_places.specs.Leading.{LeadsTo}
use Rattle.gsl_lower_law_places.specs.Storing.{IsVectorType}
use Rattle.gsl_lower_holders.specs.Flow.{Flow}
use Rattle.gsl_lower_follows.specs.Frames.{Frame, Good, HeldAs}
use Rattle.gsl_lower_law_written.specs.OfReaching.{AtBlock, IsBlockTrail, Start}
use Rattle.gsl_lower_law_written.specs.OfReaching.{Trail}
use Rattle.gsl_lower_law_written.proofs.OfReaching.{numbers_so, picks_so}
use Rattle.gsl_lower_law_written.proofs.OfElements.{bytes, from, held, leads, long, run, run_held, run_value, to}

-- ---- one pointer

abbrev shows : State → Pointer → Outcome
shows state to = Going (record state { ids = λ id. Some (Points to) })

abbrev held_to : Pointer → Option Held → Pointer
held_to other (Some (Points to)) = to
held_to other _ = other

abbrev shown : Pointer → Outcome → Pointer
shown other (Going state) = held_to other (state.ids 0)
shown other _ = other

led_same : (m : Module) (input : Input) (state : State) (start a b : Pointer) (words : List ℕ) → LeadsTo m input state start words a → LeadsTo m input state start words b → a ≡ b
led_same m input state start a b words first second = ap (shown a) (sym (first 0 (shows state)) ∙ second 0 (shows state))

-- the type of a vector's components, where it is a vector
pub vector_if : (m : Module) (n type : ℕ) → lies m (Leaf n) type ≡ true → (component : ℕ) × (2 ≤ n → IsVectorType m type component n)
vector_if m n type lie = by (cases_lt n 2)
  where
    by : (n < 2) ⊎ (2 ≤ n) → (component : ℕ) × (2 ≤ n → IsVectorType m type component n)
    by (inl few) = (0, λ many. absurd (omega (arith, few, many)))
    by (inr many) = let vector = vector_is m n type many lie in (vector.0, λ more. vector.1)

module _ (m : Module) (input : Input) (sections : Sections) (f : Frame m input sections) (p : Program) (around : Around) (start : Start) where
  module _ (base : Base) (l : Trail) (at : AtBlock m input sections f p around start base l) where
    abbrev laid : Layout
    laid = laid_as at.block.std140 p.structs l.ty

    so : LeadsSo m input at.id (size_of m input at.id) 0 at.knows.type l.front laid at.offset
    so = paths_lead m input at.id (size_of m input at.id) (layout_of p.structs at.block) laid 0 at.knows.type at.offset l.front at.knows.lie at.leads

    pub type_there : ℕ
    type_there = so.0

    abbrev pub spot : Pointer
    spot = InBlock at.id at.offset type_there

    pub spot_lie : lies m laid type_there ≡ true
    unfolding type_there
    spot_lie = so.1

  -- a trail that is there stays so while ids stand for the same
  abbrev pub block_still : (b later : Flow) (state last : State) (r : Reached) (l : Trail) → Keeps state.ids last.ids → IsBlockTrail m input sections f p around false start b state r l → IsBlockTrail m input sections f p around false start later last r l
  block_still b later state last r l keeps x = record {
    begins = x.begins;
    numbers = numbers_so (λ id v. HeldAs m input sections f false id v b state) (λ id v. HeldAs m input sections f false id v later last) (λ id v stands. keeps.same id _ stands) r.path (l.front ++ l.words) x.numbers;
    picks = picks_so (λ id v. HeldAs m input sections f false id v b state) (λ id v. HeldAs m input sections f false id v later last) (λ id v stands. keeps.same id _ stands) r.picked l.picks x.picks;
  }

  module _ (are : AreStructs p.structs) (b : Flow) (s : shader.State) (state : State) (r : Reached) (l : Trail) (good : Good m input sections f p around b s state) (x : IsBlockTrail m input sections f p around false start b state r l) where
    pub spot_led : LeadsTo m input state (from m input sections f p around are start b s state r l good x) l.front (spot r.base l x.begins)
    unfolding type_there
    spot_led = (so r.base l x.begins).2 state (bytes m input sections f p around are start b s state r l good x) (held m input sections f p around are start b s state r l good x).1 (long m input sections f p around are start b s state r l good x)

    module _ (shape : Shape) (of : shape_of l.ty ≡ Some shape) where
      pub spot_holds : HoldsComponents m input state (spot r.base l x.begins) (run_value m input sections f p around are start b s state r l good x shape of)
      spot_holds =
          subst (λ there. HoldsComponents m input state there (run_value m input sections f p around are start b s state r l good x shape of))
          (led_same m input state (from m input sections f p around are start b s state r l good x) (to m input sections f p around are start b s state r l good x) (spot r.base l x.begins) l.front (leads m input sections f p around are start b s state r l good x) spot_led)
          (run_held m input sections f p around are start b s state r l good x shape of)

      pub spot_run : lies m (Leaf shape.1) (type_there r.base l x.begins) ≡ true
      spot_run = subst (λ lying. lies m lying (type_there r.base l x.begins) ≡ true) (run m input sections f p around are start b s state r l good x shape of) (spot_lie r.base l x.begins)
