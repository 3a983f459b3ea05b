-- What was reached out of bounds strays where it is read.
use Rattle.std.proofs.Common.{◌≡◌, refl, sym, ap, ◌∙◌, subst, inl, inr, ℕ, suc, ◌≤◌, ◌⊎◌, Bool, true, false, List, [], ◌∷◌, length, map, Option, Some, None, arith, if◌then◌else◌}
use Rattle.gsl_base.specs.declared.input.Input.{Input}
use Rattle.gsl_instr.specs.declared.op.TheConstants as op
use Rattle.gsl_types.specs.Known.{AreStructs}
use Rattle.gsl_types.specs.declared.ty.Ty.{Ty}
use Rattle.gsl_words.specs.declared.module.Module.{Module}
use Rattle.gsl_values.specs.declared.value.Value.{Value}
use Rattle.gsl_values.specs.declared.value.Value.TheVariants.{Word}
use Rattle.gsl_tree.specs.Around.{Around}
use Rattle.gsl_tree.specs.Operations.{value_at}
use Rattle.gsl_tree.specs.Shapes.{Shape, shape_of}
use Rattle.gsl_tree.specs.Values.{parts_in}
use Rattle.gsl_tree.specs.declared.program.Program.{Program}
use Rattle.gsl_typed_law.proofs.Parts.{value_typed}
use Rattle.gsl_meaning.specs.Running.{Strays}
use Rattle.gsl_meaning.specs.State as shader
use Rattle.gsl_machine.specs.State.{InVariable, State}
use Rattle.gsl_spv.specs.Sections.{Sections}
use Rattle.gsl_lower_places.specs.Reached.{is_block_class}
use Rattle.gsl_lower_places.specs.Reading.{number_in, pointer, read, read_from}
use Rattle.gsl_lower_places.specs.declared.reached.Base.TheVariants.{Variable, Value as Loose}
use Rattle.gsl_lower_places.specs.declared.reached.Part.{Part}
use Rattle.gsl_lower_places.specs.declared.reached.Picked.{Picked}
use Rattle.gsl_lower_places.specs.declared.reached.Reached.{Reached}
use Rattle.gsl_lower_law.specs.Straying.{Strays as StepStrays}
use Rattle.gsl_lower_law.specs.Values.{IsOf}
use Rattle.gsl_lower_law_places.specs.Components.{Chooses}
use Rattle.gsl_lower_law_places.specs.Leading.{LeadsTo, StraysFrom}
use Rattle.gsl_lower_law_places.proofs.Outside.{loaded_strays, pointer_strays}
use Rattle.gsl_lower_law_places.proofs.Variables.{parts_are}
use Rattle.gsl_lower_law_picks.specs.Outside.{ArePositions as ArePositionsBy, CanPick, PicksOutside}
use Rattle.gsl_lower_law_picks.proofs.Along.{words_lead, words_stray}
use Rattle.gsl_lower_law_picks.proofs.Outside.{path_out, picked_out, values_picked_out}
use Rattle.gsl_lower_elements.proofs.OfLawExpr.{value_shape}
use Rattle.gsl_lower_holders.specs.Flow as flow
use Rattle.gsl_lower_holders.specs.Flow.{Flow, behind, find_type, giving_here, id_at, lift, type_by, type_id}
use Rattle.gsl_lower_expr.specs.Parts.{read_block, read_by, read_composite, read_own, reads}
use Rattle.gsl_lower_follows.specs.Frames.{Frame, Good, HeldAs}
use Rattle.gsl_lower_follows.specs.Giving.{Does, none_waits}
use Rattle.gsl_lower_follows.proofs.Doing.{does_then, strays_lift}
use Rattle.gsl_lower_follows.proofs.Fetching.{adds_giving}
use Rattle.gsl_lower_follows.proofs.Growing.{adds_lift}
use Rattle.gsl_lower_elements.specs.OfReaching.{ChoosesBy, IsBlockTrail, IsOwnTrail, IsTrail, PicksBy, Start}
use Rattle.gsl_lower_elements.specs.OfReaching.{own, in_block}
use Rattle.gsl_lower_elements.specs.OfReaching.{OfBlock}
use Rattle.gsl_lower_elements.specs.OfReaching.{ArePositions, Chosen, IsMissing, IsOut, IsOutside, LacksComponent, LeadsOut, Trail}
use Rattle.gsl_lower_elements.proofs.OfReaching.{has_part, lacks_part, not_both}
use Rattle.gsl_lower_elements.proofs.Indexing.{none_shape}
use Rattle.gsl_lower_elements.proofs.OfReaching.{chooses_stand, numbers_stand}
use Rattle.gsl_lower_elements.proofs.OfReaching.{out_whole}
use Rattle.gsl_lower_elements.proofs.Strayed.{block_strays}
use Rattle.gsl_lower_reads.proofs.Adding.{always_pointer}
use Rattle.gsl_lower_reads.proofs.Grounds.{InPlace, InValue, fixed_words, grounds}

-- a vector has as many parts as components
vector_count : (shape : Shape) (v : Value) → IsOf shape v → 2 ≤ shape.1 → length (parts_in v) ≡ shape.1
vector_count shape v is many = ap length (ap parts_in is.is ∙ parts_are is.words (omega (arith, many, is.count))) ∙ words_long is.words ∙ is.count
  where
    words_long : (ws : List ℕ) → length (map Word ws) ≡ length ws
    words_long [] = refl
    words_long (w ∷ ws) = ap suc (words_long ws)

positions_by : (count : ℕ) (by : Option Part) (word : Option ℕ) (positions : List ℕ) (at : ℕ → Value → Type 0) → ChoosesBy at by word → ArePositions count word positions → ArePositionsBy count by positions
positions_by count None None positions at chooses within = within
positions_by count None (Some word) positions at chooses within = absurd chooses
positions_by count (Some part) None positions at chooses within = absurd chooses
positions_by count (Some part) (Some word) positions at chooses within = within

module _ (m : Module) (input : Input) (sections : Sections) (f : Frame m input sections) (p : Program) (around : Around) (are : AreStructs p.structs) (loose : Start) (writes : Bool) (t : Ty) where
  module _ (b : Flow) (s : shader.State) (state : State) (r : Reached) (l : Trail) (good : Good m input sections f p around b s state) (is : IsOwnTrail m input sections f p around false loose b state r l) (outside : IsOutside p.structs p.blocks writes t l) where
    pub can : (q : Picked) (c : Chosen) → PicksBy (λ id v. HeldAs m input sections f false id v b state) (Some q) (Some c) → 1 ≤ length c.positions → ArePositions c.shape.1 c.word c.positions → CanPick q
    can q c picks some within = record {
      some = subst (λ ps. 1 ≤ length ps) (sym picks.1) some;
      within = positions_by q.shape.1 q.by c.word q.positions (λ id v. HeldAs m input sections f false id v b state) picks.2 (subst (λ (shape : Shape). ArePositions shape.1 c.word q.positions) (sym picks.0) (subst (ArePositions c.shape.1 c.word) (sym picks.1) within));
    }

    pub picks_out : (q : Picked) (c : Chosen) (y : IsMissing p.structs l.ty t l.words c) (z : LacksComponent p.structs l.ty l.words c) → PicksBy (λ id v. HeldAs m input sections f false id v b state) (Some q) (Some c) → PicksOutside state.ids q z.word
    picks_out q c y z picks = record {
      by_word = subst (Chooses state.ids q.by) z.is (chooses_stand state.ids q.by c.word picks.2);
      several = subst (λ (shape : Shape). 2 ≤ shape.1) (sym picks.0) z.several;
      outside = subst (λ (shape : Shape). shape.1 ≤ z.word) (sym picks.0) z.outside;
      can = can q c picks y.some y.within;
    }

    -- ---- in a variable

    module _ (x : InPlace m input sections f p around s state r.base l) where
      pub path_strays : LeadsOut p.structs l.ty l.words → StraysFrom m input state (InVariable x.number []) l.words
      path_strays out = words_stray m input state x.number x.old x.there [] l.words (lacks_part p.structs are l.ty l.words x.old out x.typed)

      pub component_out : (c : Chosen) (z : LacksComponent p.structs l.ty l.words c) → StraysFrom m input state (InVariable x.number l.words) (z.word ∷ [])
      component_out c z =
          let of = (value_shape p.structs z.whole c.shape (value_at x.old l.words) are z.sound z.of (value_typed p.structs are l.ty l.words z.whole x.old z.leads x.typed)).1 in
          let count = vector_count c.shape (value_at x.old l.words) of z.several in
          words_stray m input state x.number x.old x.there l.words (z.word ∷ []) (inl (let most = z.outside in omega (arith, count, most)))

      pub component_in : (c : Chosen) (z : LacksComponent p.structs l.ty l.words c) → LeadsTo m input state (InVariable x.number []) l.words (InVariable x.number l.words)
      component_in c z = words_lead m input state x.number x.old x.there [] l.words (has_part p.structs are l.ty l.words z.whole x.old z.leads x.typed)

      place_strays : (shape : Shape) (o : Option Picked) (c : Option Chosen) → PicksBy (λ id v. HeldAs m input sections f false id v b state) o c → IsOut p.structs l.ty t l.words c → StepStrays m input sections state b.sections (read_from (Variable x.id x.class) r.path shape o)
      unfolding read
      place_strays shape None None picks out = loaded_strays m input sections x.id x.class shape r.path l.words (InVariable x.number []) state b.sections x.points (numbers_stand state.ids r.path l.words is.numbers) (path_strays out)
      place_strays shape None (Some c) picks out = absurd picks
      place_strays shape (Some q) None picks out = absurd picks
      place_strays shape (Some q) (Some c) picks y = by y.out
        where
          by : LeadsOut p.structs l.ty l.words ⊎ LacksComponent p.structs l.ty l.words c → StepStrays m input sections state b.sections (read_from (Variable x.id x.class) r.path shape (Some q))
          by (inl out) =
              path_out m input sections x.id x.class r.path q l.words (InVariable x.number []) state b.sections x.points (numbers_stand state.ids r.path l.words is.numbers) (path_strays out) shape c.word (chooses_stand state.ids q.by c.word picks.2) (can q c picks y.some y.within)
          by (inr z) =
              picked_out m input sections x.id x.class r.path q l.words (InVariable x.number []) state b.sections x.points (numbers_stand state.ids r.path l.words is.numbers) shape (InVariable x.number l.words) z.word (component_in c z) (component_out c z) (picks_out q c y z picks)

    -- ---- of a value

    module _ (x : InValue m input sections f p around s state r.base r.path l) where
      pub no_path : LeadsOut p.structs l.ty l.words → ⊥
      no_path out = not_both x.v l.words x.has (lacks_part p.structs are l.ty l.words x.v out x.typed)

      value_strays : (shape : Shape) (o : Option Picked) (c : Option Chosen) → PicksBy (λ id v. HeldAs m input sections f false id v b state) o c → IsOut p.structs l.ty t l.words c → StepStrays m input sections state b.sections (read_from (Loose x.id x.type_id) r.path shape o)
      unfolding read
      value_strays shape None None picks out = absurd (no_path out)
      value_strays shape None (Some c) picks out = absurd picks
      value_strays shape (Some q) None picks out = absurd picks
      value_strays shape (Some q) (Some c) picks y = by y.out
        where
          by : LeadsOut p.structs l.ty l.words ⊎ LacksComponent p.structs l.ty l.words c → StepStrays m input sections state b.sections (read_from (Loose x.id x.type_id) r.path shape (Some q))
          by (inl out) = absurd (no_path out)
          by (inr z) =
              let of = (value_shape p.structs z.whole c.shape (value_at x.v l.words) are z.sound z.of (value_typed p.structs are l.ty l.words z.whole x.v z.leads x.typed)).1 in
              values_picked_out m input sections x.id x.type_id shape r.path q z.word x.v state b.sections x.stands
              (subst (λ s. IsOf s (value_at x.v (map number_in r.path))) (sym picks.0) (subst (λ words. IsOf c.shape (value_at x.v words)) (sym (fixed_words (λ id v. HeldAs m input sections f false id v b state) r.path l.words x.fixed is.numbers)) of))
              (picks_out q c y z picks)

    pub shape_strays : (shape : Shape) → StepStrays m input sections state b.sections (read shape r)
    unfolding read
    shape_strays shape = by (grounds m input sections f p around b s state loose r.base r.path l good is.begins)
      where
        by : InPlace m input sections f p around s state r.base l ⊎ InValue m input sections f p around s state r.base r.path l → StepStrays m input sections state b.sections (read_from r.base r.path shape r.picked)
        by (inl x) = subst (λ base. StepStrays m input sections state b.sections (read_from base r.path shape r.picked)) (sym x.is) (place_strays x shape r.picked l.picks is.picks outside.out)
        by (inr x) = subst (λ base. StepStrays m input sections state b.sections (read_from base r.path shape r.picked)) (sym x.is) (value_strays x shape r.picked l.picks is.picks outside.out)

    module _ {R : Type 0} (units : ℕ) (Then : ℕ → Flow → R → shader.State → State → Type 0) where
      of_type : (low : ℕ → flow.Emit ℕ) → shape_of t ≡ None → ((type : ℕ) → Does m input sections f p 0 units state Then none_waits Strays (low type b)) → Does m input sections f p 0 units state Then none_waits Strays (behind (type_id t b) low)
      unfolding type_id
      of_type low none does = subst (λ o. Does m input sections f p 0 units state Then none_waits Strays (behind (type_by t o b) low)) (sym none) (by (find_type t b.place.composites))
        where
          by : (o : Option ℕ) → Does m input sections f p 0 units state Then none_waits Strays (behind (id_at o b) low)
          by None = tt
          by (Some type) = does type

      own_strays : (x : InPlace m input sections f p around s state r.base l) → shape_of t ≡ None → Does m input sections f p 0 units state Then none_waits Strays (read_own t x.id x.class r.path b)
      own_strays x none = of_type (λ type. flow.◌>>=◌ (lift (pointer x.id x.class type r.path)) (λ from. giving_here op.LOAD (from ∷ []) type)) none
          (λ type.
          does_then m input sections f p 0 units b state (λ a later (one : Unit {0}) u last. ⊥) none_waits Then none_waits Strays (λ one u left. Strays) (lift (pointer x.id x.class type r.path) b) (λ from. giving_here op.LOAD (from ∷ []) type) good.inside
          (adds_lift (pointer x.id x.class type r.path) (λ b. always_pointer m input sections x.id x.class type r.path b.sections) b) (λ from. adds_giving m input sections op.LOAD (from ∷ []) type)
          (strays_lift m input sections f p around units b s state (λ a later (one : Unit {0}) u last. ⊥) none_waits (pointer x.id x.class type r.path) good
          (pointer_strays m input sections x.id x.class type r.path l.words (InVariable x.number []) state b.sections x.points (numbers_stand state.ids r.path l.words is.numbers) (path_strays x (out_whole p.structs l.ty t l.words l.picks (none_shape t none) outside.out).1)))
          (λ from between one u left mid within grown q less. absurd q)
          (λ from between u left mid within grown none less. absurd none))

      composite_strays : shape_of t ≡ None → Does m input sections f p 0 units state Then none_waits Strays (read_composite p.structs t r.base r.path b)
      composite_strays none = by (grounds m input sections f p around b s state loose r.base r.path l good is.begins)
        where
          own_if : (x : InPlace m input sections f p around s state r.base l) (block : Bool) → block ≡ false → Does m input sections f p 0 units state Then none_waits Strays ((if block then read_block p.structs t x.id x.class r.path else read_own t x.id x.class r.path) b)
          own_if x true e = absurd cc
          own_if x false e = own_strays x none

          by : InPlace m input sections f p around s state r.base l ⊎ InValue m input sections f p around s state r.base r.path l → Does m input sections f p 0 units state Then none_waits Strays (read_composite p.structs t r.base r.path b)
          by (inl x) = subst (λ base. Does m input sections f p 0 units state Then none_waits Strays (read_composite p.structs t base r.path b)) (sym x.is) (own_if x (is_block_class x.class) x.outside)
          by (inr x) = absurd (no_path x (out_whole p.structs l.ty t l.words l.picks (none_shape t none) outside.out).1)

      -- what is read there strays
      pub own_strays_all : Does m input sections f p 0 units state Then none_waits Strays (reads p.structs t r b)
      unfolding reads
      own_strays_all = by (shape_of t) refl
        where
          by : (o : Option Shape) → shape_of t ≡ o → Does m input sections f p 0 units state Then none_waits Strays (read_by p.structs t r o b)
          by (Some shape) e = strays_lift m input sections f p around units b s state Then none_waits (read shape r) good (shape_strays shape)
          by None e = composite_strays e

  module _ (b : Flow) (s : shader.State) (state : State) (r : Reached) (l : Trail) (good : Good m input sections f p around b s state) (is : IsTrail m input sections f p around false loose b state r l) (outside : IsOutside p.structs p.blocks writes t l) where
    module _ {R : Type 0} (units : ℕ) (Then : ℕ → Flow → R → shader.State → State → Type 0) (apart : shape_of t ≡ None → loose ≡ OfBlock → ⊥) where
      -- what is read there strays; of a block it is a scalar or vector
      pub read_strays : Does m input sections f p 0 units state Then none_waits Strays (reads p.structs t r b)
      unfolding reads
      read_strays = by is
        where
          in_one : (x : IsBlockTrail m input sections f p around false loose b state r l) (o : Option Shape) → shape_of t ≡ o → Does m input sections f p 0 units state Then none_waits Strays (read_by p.structs t r o b)
          in_one x (Some shape) e = strays_lift m input sections f p around units b s state Then none_waits (read shape r) good (block_strays m input sections f p around are loose b s state r l good x writes t outside shape)
          in_one x None e = absurd (apart e x.begins.marked)

          by : IsTrail m input sections f p around false loose b state r l → Does m input sections f p 0 units state Then none_waits Strays (read_by p.structs t r (shape_of t) b)
          by (own x) = own_strays_all b s state r l good x outside units Then
          by (in_block x) = in_one x (shape_of t) refl
