-- The states behind a value that was stored where a trail leads.
use Rattle.std.proofs.Common.{◌≡◌, refl, sym, ap, ◌∙◌, subst, true, false, [], ◌++◌, length, Option, Some, None}
use Rattle.std.specs.Prelude.{set, slice_get}
use Rattle.gsl_base.specs.declared.input.Input.{Input}
use Rattle.gsl_types.specs.Known.{AreStructs, IsSound}
use Rattle.gsl_types.specs.declared.ty.Ty.{Ty}
use Rattle.gsl_words.specs.declared.module.Module.{Module}
use Rattle.gsl_values.specs.declared.value.Value.{Value}
use Rattle.gsl_tree.specs.Around.{Around}
use Rattle.gsl_tree.specs.Operations.{value_at, with_value_at}
use Rattle.gsl_tree.specs.Paths.{repeats}
use Rattle.gsl_tree.specs.Shapes.{Shape, shape_of}
use Rattle.gsl_tree.specs.Values.{is_value_of}
use Rattle.gsl_tree.specs.declared.program.Program.{Program}
use Rattle.gsl_typed_law.proofs.Parts.{value_typed, with_value_typed}
use Rattle.gsl_meaning.specs.Accesses.{Access, root_value, stored, stored_in, with_picked, with_root}
use Rattle.gsl_meaning.specs.State as shader
use Rattle.gsl_machine.specs.State.{Ids, InVariable, Points, State}
use Rattle.gsl_spv.specs.Sections.{Sections}
use Rattle.gsl_lower_places.specs.declared.reached.Reached.{Reached}
use Rattle.gsl_lower_law.specs.Computing.{leaving}
use Rattle.gsl_lower_law.specs.Values.{IsOf, Keeps, Ready}
use Rattle.gsl_lower_law_places.specs.Leading.{LeadsTo}
use Rattle.gsl_lower_law_places.proofs.Stored.{stored_left}
use Rattle.gsl_lower_law_picks.specs.Outside.{HasPart}
use Rattle.gsl_lower_law_picks.proofs.Along.{words_lead}
use Rattle.gsl_lower_law_expr.proofs.Shapes.{value_shape}
use Rattle.gsl_lower_reads.proofs.OfLawNames.{variable_there}
use Rattle.gsl_lower_reads.proofs.OfLawNames.{Other, holds_set, kept_set, typed_set}
use Rattle.gsl_lower_holders.specs.Flow.{Flow, flow_of}
use Rattle.gsl_lower_follows.specs.Frames.{Frame, Good, Inside, Name, coming}
use Rattle.gsl_lower_follows.specs.Giving.{After}
use Rattle.gsl_lower_follows.specs.Reached as machine
use Rattle.gsl_lower_reads.specs.OfReaching.{AtVariable, Start}
use Rattle.gsl_lower_reads.specs.OfReaching.{Chosen, IsInside, IsPicked, MayWrite, Trail}
use Rattle.gsl_lower_reads.proofs.OfReaching.{has_part}
use Rattle.gsl_lower_reads.proofs.OfReaching.{HasValue, has_value}
use Rattle.gsl_lower_reads.proofs.OfElements.{shape_typed}
use Rattle.gsl_lower_writes.proofs.Named.{named_anew, no_holder, others_stay}
use Rattle.gsl_lower_writes.proofs.Picked.{picked_stored, renewed, renewed_is}

module _ (m : Module) (input : Input) (sections : Sections) (f : Frame m input sections) (p : Program) (around : Around) (are : AreStructs p.structs) (loose : Start) (t : Ty) (sound_t : IsSound (length p.structs) t) where
  module _ (b : Flow) (s : shader.State) (state : State) (r : Reached) (a : Access) (l : Trail) (good : Good m input sections f p around b s state) (x : AtVariable m input sections f p around loose r.base l) (inside : IsInside p.structs p.blocks true t a l) where
    has : HasValue m input sections f p around s loose r.base l x
    has = has_value m input sections f p around b s state loose r.base l x good

    -- the value of the variable, and the part where the words lead
    pub old : Value
    old = has.v

    pub there : slice_get state.variables x.number ≡ Some old
    unfolding old
    there = variable_there m input sections f p around x.name x.number has.v b s state good x.seat has.is

    pub points : state.ids x.id ≡ Some (Points (InVariable x.number []))
    points = good.ready.lasting.same x.id _ x.points

    pub has_words : HasPart old l.words
    unfolding old
    has_words = has_part p.structs are l.ty l.words inside.whole old inside.leads has.typed

    pub leads : LeadsTo m input state (InVariable x.number []) l.words (InVariable x.number l.words)
    leads = words_lead m input state x.number old there [] l.words has_words

    unfoldable pub part : Value
    part = value_at old l.words

    part_typed : is_value_of p.structs inside.whole part ≡ true
    unfolding part old
    part_typed = value_typed p.structs are l.ty l.words inside.whole old inside.leads has.typed

    numbers : l.front ++ l.words ≡ l.words
    numbers = ap (λ front. front ++ l.words) x.none

    pub part_shape : (c : Chosen) → IsPicked inside.whole t (l.front ++ l.words) (Some c) a.path a.picked → IsOf c.shape part
    part_shape c y = (value_shape p.structs inside.whole c.shape part are inside.sound y.of part_typed).1

    pub whole_typed : inside.whole ≡ t → is_value_of p.structs t part ≡ true
    whole_typed same = subst (λ u. is_value_of p.structs u part ≡ true) same part_typed

    pub whole_shape : (shape : Shape) → shape_of t ≡ Some shape → inside.whole ≡ t → IsOf shape part
    whole_shape shape is same = (value_shape p.structs t shape part are sound_t is (whole_typed same)).1

    -- it is what the shader has there
    pub at_part : value_at (root_value a.root s) (l.front ++ l.words) ≡ part
    unfolding part old
    at_part = ap (λ root. value_at (root_value root s) (l.front ++ l.words)) inside.begins ∙ ap (λ w. value_at w (l.front ++ l.words)) has.root ∙ ap (value_at old) numbers

    pub once : (c : Chosen) → l.picks ≡ Some c → repeats c.positions ≡ false
    once c e = subst (MayWrite true) e inside.may refl

    module _ (v : Value) (typed : is_value_of p.structs t v ≡ true) where
      pub new_shape : (shape : Shape) → shape_of t ≡ Some shape → IsOf shape v
      new_shape shape is = (value_shape p.structs t shape v are sound_t is typed).1

      -- the part behind the store, and the value of the variable
      unfoldable pub new : Value
      new = renewed part l.picks v

      unfoldable pub all : Value
      all = with_value_at old l.words new

      new_by : (o : Option Chosen) → l.picks ≡ o → IsPicked inside.whole t (l.front ++ l.words) o a.path a.picked → is_value_of p.structs inside.whole (renewed part o v) ≡ true
      new_by None e (same, path, none) = subst (λ u. is_value_of p.structs u v ≡ true) (sym same) typed
      new_by (Some c) e y =
          shape_typed p.structs inside.whole c.shape (renewed part (Some c) v) inside.sound y.of
          (renewed_is inside.whole t (l.front ++ l.words) a.path c a.picked y (once c e) part v (part_shape c y) (new_shape (c.shape.0, length c.positions) y.gives))

      all_typed : is_value_of p.structs l.ty all ≡ true
      unfolding all new old
      all_typed = with_value_typed p.structs are l.ty l.words inside.whole old new inside.leads has.typed (new_by l.picks refl inside.picks)

      stored_by : (o : Option Chosen) → l.picks ≡ o → IsPicked inside.whole t (l.front ++ l.words) o a.path a.picked → stored_in old a v ≡ with_value_at old l.words (renewed part o v)
      unfolding part
      stored_by None e (same, path, none) =
          ap (λ o. with_value_at old a.path (with_picked o (value_at old a.path) v)) none ∙ ap (λ path. with_value_at old path v) (path ∙ numbers)
      stored_by (Some c) e y =
          picked_stored inside.whole t (l.front ++ l.words) a.path c a.picked y (once c e) part v (part_shape c y) (new_shape (c.shape.0, length c.positions) y.gives) old (ap (value_at old) numbers)
          ∙ ap (λ ns. with_value_at old ns (renewed part (Some c) v)) numbers

      -- what the shader's state is then
      stored_is : stored a v s ≡ with_root l.root all s
      unfolding all new old
      stored_is =
          ap (λ root. with_root root (stored_in (root_value root s) a v) s) inside.begins ∙ ap (λ w. with_root l.root (stored_in w a v) s) has.root
          ∙ ap (λ w. with_root l.root w s) (stored_by l.picks refl inside.picks)

      others : (name : Name) → Other f.stages (λ k. x.name) 0 all s (with_root l.root all s) name
      unfolding old
      others = named_anew f.stages all old s x.name l.root x.begins has.is

      -- The state behind a store of it.
      pub after_stored : (ids : Ids) (later : Sections) → Inside m input sections f later → Ready later.last f.own ids → Keeps state.ids ids
          → machine.Reached m input (record (leaving state (stored_left m input sections state (set state.variables x.number all) state.buffers) ids) { rest = coming m input sections f later })
          → After m input sections f p around false b state (flow_of later b.place) (stored a v s) (record (leaving state (stored_left m input sections state (set state.variables x.number all) state.buffers) ids) { rest = coming m input sections f later })
      after_stored ids later inside_later ready keeps reached =
          let stay = others_stay x.name l.root all s x.begins in
          subst (λ u. After m input sections f p around false b state (flow_of later b.place) u (record (leaving state (stored_left m input sections state (set state.variables x.number all) state.buffers) ids) { rest = coming m input sections f later })) (sym stored_is)
          (record {
            good = record {
              inside = inside_later;
              rest = refl;
              within = good.within;
              own = good.own;
              waiting = good.waiting;
              ready = ready;
              seated = good.seated;
              holds = (let h = holds_set m input sections f p around (λ k. x.name) 0 x.number all s (with_root l.root all s) state others stay.0 stay.1 x.seat good.holds in record { values = h.values; blocks = h.blocks; buffers = h.buffers; choices = h.choices; count = h.count; outside = h.outside });
              typed = typed_set m input sections f p around (λ k. x.name) 0 l.ty all s (with_root l.root all s) stay.0 stay.1 others x.typed all_typed good.typed;
              reached = reached;
            };
            held = record { same = λ holder n less at. kept_set m input sections f p around b.place.used x.number x.name all state state.variables (no_holder x.name l.root x.begins) x.seat holder n at };
            ids = λ e. keeps;
          })
