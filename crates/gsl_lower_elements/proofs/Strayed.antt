-- What strays behind an index into a block that was out of bounds.
use Rattle.std.proofs.Common.{◌≡◌, sym, ap, ◌∙◌, subst, inl, inr, ℕ, ◌≤◌, ◌⊎◌, Bool, false, List, [], ◌∷◌, ◌++◌, length, Option, Some, None, append-nil}
use Rattle.gsl_base.specs.declared.input.Input.{Input}
use Rattle.gsl_types.specs.Known.{AreStructs}
use Rattle.gsl_types.specs.declared.ty.Ty.{Ty}
use Rattle.gsl_words.specs.declared.module.Module.{Module}
use Rattle.gsl_values.specs.declared.value.Value.{Value}
use Rattle.gsl_tree.specs.Around.{Around}
use Rattle.gsl_tree.specs.Shapes.{Shape, shape_of}
use Rattle.gsl_tree.specs.declared.program.Program.{Program}
use Rattle.gsl_typed_law.specs.Parts.{LeadsTo as LeadsToType}
use Rattle.gsl_views.specs.Viewed.{elements}
use Rattle.gsl_meaning.specs.State as shader
use Rattle.gsl_machine.specs.State.{State}
use Rattle.gsl_spv.specs.Sections.{Sections}
use Rattle.gsl_lower_places.specs.Reading.{read, read_from}
use Rattle.gsl_lower_places.specs.declared.reached.Base.TheVariants.{Variable}
use Rattle.gsl_lower_places.specs.declared.reached.Part.{Part}
use Rattle.gsl_lower_places.specs.declared.reached.Picked.{Picked}
use Rattle.gsl_lower_places.specs.declared.reached.Reached.{Reached}
use Rattle.gsl_lower_law.specs.Straying.{Strays}
use Rattle.gsl_lower_law_places.specs.Components.{Chooses}
use Rattle.gsl_lower_law_places.specs.Leading.{LeadsTo, NumberEach, StraysFrom}
use Rattle.gsl_lower_law_places.proofs.Outside.{loaded_strays}
use Rattle.gsl_lower_law_picks.specs.Outside.{ArePositions as ArePositionsBy, CanPick, PicksOutside}
use Rattle.gsl_lower_law_picks.proofs.Outside.{path_out, picked_out}
use Rattle.gsl_lower_law_blocks.proofs.Laid.{elements_stray}
use Rattle.gsl_lower_reaching.specs.OfLawMembers.{size_of}
use Rattle.gsl_lower_reaching.proofs.OfLawMembers.{component_strays}
use Rattle.gsl_lower_holders.specs.Flow.{Flow}
use Rattle.gsl_lower_follows.specs.Frames.{Frame, Good, HeldAs}
use Rattle.gsl_lower_reaching.specs.Reaching.{ChoosesBy, GoesBeyond, IsBlockTrail, PicksBy, Start}
use Rattle.gsl_lower_reaching.specs.Trails.{ArePositions, Chosen, IsMissing, IsOut, IsOutside, LacksComponent, LeadsOut, Trail}
use Rattle.gsl_lower_reaching.proofs.Blocks.{no_words_to}
use Rattle.gsl_lower_reaching.proofs.Moving.{chooses_stand, numbers_stand}
use Rattle.gsl_lower_elements.proofs.Standing.{bytes, from, held, laid, leads, leads_there, long, pointee, points, run_lie, to, whole_layout}

positions_by : (count : ℕ) (by : Option Part) (word : Option ℕ) (positions : List ℕ) (at : ℕ → Value → Type 0) → ChoosesBy at by word → ArePositions count word positions → ArePositionsBy count by positions
positions_by count None None positions at chooses within = within
positions_by count None (Some word) positions at chooses within = absurd chooses
positions_by count (Some part) None positions at chooses within = absurd chooses
positions_by count (Some part) (Some word) positions at chooses within = within

module _ (m : Module) (input : Input) (sections : Sections) (f : Frame m input sections) (p : Program) (around : Around) (are : AreStructs p.structs) (start : Start) (b : Flow) (s : shader.State) (state : State) (r : Reached) (l : Trail) (good : Good m input sections f p around b s state)
    (x : IsBlockTrail m input sections f p around false start b state r l) where
  pub all_numbers : NumberEach state.ids r.path (l.front ++ l.words)
  all_numbers = numbers_stand state.ids r.path (l.front ++ l.words) x.numbers

  -- an index out of bounds
  pub path_strays : LeadsOut p.structs l.ty l.words → StraysFrom m input state (from m input sections f p around are start b s state r l good x) (l.front ++ l.words)
  path_strays out = by l.words out x.begins.beyond
    where
      by : (words : List ℕ) → LeadsOut p.structs l.ty words → GoesBeyond (size_of m input x.begins.id) (laid m input sections f p around are start b s state r l good x) x.begins.offset words → StraysFrom m input state (from m input sections f p around are start b s state r l good x) (l.front ++ words)
      by [] out beyond = absurd out
      by (number ∷ more) out beyond =
          elements_stray m input state x.begins.id 0 x.begins.knows.type (whole_layout m input sections f p around are start b s state r l good x) (laid m input sections f p around are start b s state r l good x) (bytes m input sections f p around are start b s state r l good x) l.front more x.begins.offset number
          x.begins.knows.lie (held m input sections f p around are start b s state r l good x).1 (leads_there m input sections f p around are start b s state r l good x) beyond.0
          (subst (λ n. elements (laid m input sections f p around are start b s state r l good x) x.begins.offset n ≤ number) (sym (long m input sections f p around are start b s state r l good x)) beyond.1)

  -- a component that is not there
  module _ (c : Chosen) (z : LacksComponent p.structs l.ty l.words c) where
    none : l.words ≡ []
    none = no_words_to m input sections f p around are start false l.ty b state r (record { root = l.root; path = []; picked = None }) l z.whole z.leads x

    whole_is : l.ty ≡ z.whole
    whole_is = subst (λ words. LeadsToType p.structs l.ty words z.whole) none z.leads

    pub component_in : LeadsTo m input state (from m input sections f p around are start b s state r l good x) (l.front ++ l.words) (to m input sections f p around are start b s state r l good x)
    component_in = subst (λ numbers. LeadsTo m input state (from m input sections f p around are start b s state r l good x) numbers (to m input sections f p around are start b s state r l good x)) (sym (ap (λ words. l.front ++ words) none ∙ append-nil l.front))
        (leads m input sections f p around are start b s state r l good x)

    pub component_out : StraysFrom m input state (to m input sections f p around are start b s state r l good x) (z.word ∷ [])
    component_out =
        component_strays m input state x.begins.id x.begins.offset c.shape.1 (pointee m input sections f p around are start b s state r l good x) z.word (bytes m input sections f p around are start b s state r l good x) z.several
        (run_lie m input sections f p around are start b s state r l good x c.shape (ap shape_of whole_is ∙ z.of)) (held m input sections f p around are start b s state r l good x).1 z.outside

  module _ (writes : Bool) (t : Ty) (outside : IsOutside p.structs p.blocks writes t l) where
    pub can : (q : Picked) (c : Chosen) → PicksBy (λ id v. HeldAs m input sections f false id v b state) (Some q) (Some c) → 1 ≤ length c.positions → ArePositions c.shape.1 c.word c.positions → CanPick q
    can q c picks some within = record {
      some = subst (λ ps. 1 ≤ length ps) (sym picks.1) some;
      within = positions_by q.shape.1 q.by c.word q.positions (λ id v. HeldAs m input sections f false id v b state) picks.2 (subst (λ (shape : Shape). ArePositions shape.1 c.word q.positions) (sym picks.0) (subst (ArePositions c.shape.1 c.word) (sym picks.1) within));
    }

    pub picks_out : (q : Picked) (c : Chosen) (y : IsMissing p.structs l.ty t l.words c) (z : LacksComponent p.structs l.ty l.words c) → PicksBy (λ id v. HeldAs m input sections f false id v b state) (Some q) (Some c) → PicksOutside state.ids q z.word
    picks_out q c y z picks = record {
      by_word = subst (Chooses state.ids q.by) z.is (chooses_stand state.ids q.by c.word picks.2);
      several = subst (λ (shape : Shape). 2 ≤ shape.1) (sym picks.0) z.several;
      outside = subst (λ (shape : Shape). shape.1 ≤ z.word) (sym picks.0) z.outside;
      can = can q c picks y.some y.within;
    }

    run_strays : (shape : Shape) (o : Option Picked) (c : Option Chosen) → PicksBy (λ id v. HeldAs m input sections f false id v b state) o c → IsOut p.structs l.ty t l.words c → Strays m input sections state b.sections (read_from (Variable x.begins.id x.begins.class) r.path shape o)
    unfolding read
    run_strays shape None None picks out = loaded_strays m input sections x.begins.id x.begins.class shape r.path (l.front ++ l.words) (from m input sections f p around are start b s state r l good x) state b.sections (points m input sections f p around are start b s state r l good x) all_numbers (path_strays out)
    run_strays shape None (Some c) picks out = absurd picks
    run_strays shape (Some q) None picks out = absurd picks
    run_strays shape (Some q) (Some c) picks y = by y.out
      where
        by : LeadsOut p.structs l.ty l.words ⊎ LacksComponent p.structs l.ty l.words c → Strays m input sections state b.sections (read_from (Variable x.begins.id x.begins.class) r.path shape (Some q))
        by (inl out) =
            path_out m input sections x.begins.id x.begins.class r.path q (l.front ++ l.words) (from m input sections f p around are start b s state r l good x) state b.sections (points m input sections f p around are start b s state r l good x) all_numbers (path_strays out) shape c.word
            (chooses_stand state.ids q.by c.word picks.2) (can q c picks y.some y.within)
        by (inr z) =
            picked_out m input sections x.begins.id x.begins.class r.path q (l.front ++ l.words) (from m input sections f p around are start b s state r l good x) state b.sections (points m input sections f p around are start b s state r l good x) all_numbers shape
            (to m input sections f p around are start b s state r l good x) z.word (component_in c z) (component_out c z) (picks_out q c y z picks)

    -- what is read strays
    pub block_strays : (shape : Shape) → Strays m input sections state b.sections (read shape r)
    unfolding read
    block_strays shape = subst (λ base. Strays m input sections state b.sections (read_from base r.path shape r.picked)) (sym x.begins.is) (run_strays shape r.picked l.picks x.picks outside.out)
