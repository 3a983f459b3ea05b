-- An array in no variable is put into a holder before an index into it is computed.
use Rattle.std.proofs.Common.{◌≡◌, ◌≢◌, refl, sym, ap, ◌∙◌, subst, ℕ, Bool, true, false, [], ◌++◌, length, None, append-nil}
use Rattle.gsl_base.specs.declared.input.Input.{Input}
use Rattle.gsl_instr.specs.declared.enumerant.storage_class.TheConstants as storage_class
use Rattle.gsl_types.specs.Known.{AreStructs, IsSound}
use Rattle.gsl_types.specs.declared.ty.Ty.{Ty}
use Rattle.gsl_types.specs.declared.ty.Ty.TheVariants.{Void}
use Rattle.gsl_words.specs.declared.module.Module.{Module}
use Rattle.gsl_values.specs.declared.value.Value.{Value}
use Rattle.gsl_tree.specs.Around.{Around}
use Rattle.gsl_tree.specs.Operations.{value_at}
use Rattle.gsl_tree.specs.Shapes.{shape_of}
use Rattle.gsl_tree.specs.Values.{is_value_of}
use Rattle.gsl_tree.specs.declared.program.Program.{Program}
use Rattle.gsl_meaning.specs.Accesses as access
use Rattle.gsl_meaning.specs.Accesses.{Access, read, root_value}
use Rattle.gsl_meaning.specs.Running.{Got}
use Rattle.gsl_meaning.specs.State as shader
use Rattle.gsl_machine.specs.State.{State}
use Rattle.gsl_spv.specs.Sections.{Sections}
use Rattle.gsl_lower_places.specs.Reached.{whole}
use Rattle.gsl_lower_places.specs.declared.reached.Base.TheVariants.{Variable}
use Rattle.gsl_lower_places.specs.declared.reached.Reached.{Reached}
use Rattle.gsl_lower_holders.specs.Flow.{Flow, given, ◌>>=◌}
use Rattle.gsl_lower_holders.specs.Waiting.{keep}
use Rattle.gsl_lower_expr.specs.Parts.{reads, spilled}
use Rattle.gsl_lower_follows.specs.Frames.{Frame, Good, HeldAs, Waits}
use Rattle.gsl_lower_follows.specs.Giving.{Adds, After, Does, HasGiven, none_waits}
use Rattle.gsl_lower_follows.proofs.Behind.{reaches_here}
use Rattle.gsl_lower_follows.proofs.Doing.{does_then}
use Rattle.gsl_lower_follows.proofs.Fetching.{adds_keep}
use Rattle.gsl_lower_follows.proofs.Growing.{adds_given, adds_then}
use Rattle.gsl_lower_follows.proofs.Holding.{NowWaits, after_same, after_then, does_keep, does_map}
use Rattle.gsl_lower_law_expr.proofs.Operands.{given_value}
use Rattle.gsl_lower_law_expr.proofs.Short.{does_change}
use Rattle.gsl_lower_reads.specs.OfReaching.{Begins, IsOwnTrail, IsTrail, Start}
use Rattle.gsl_lower_reads.specs.OfReaching.{own, in_block}
use Rattle.gsl_lower_reads.specs.OfReaching.{OfBlock, OfValue, OfVariable}
use Rattle.gsl_lower_reads.specs.OfReaching.{variable, value, holder}
use Rattle.gsl_lower_reads.specs.OfReaching.{IsInside, MayStore, Trail}
use Rattle.gsl_lower_reads.proofs.OfElements.{none_shape}
use Rattle.gsl_lower_reads.proofs.OfReaching.{whole_picked}
use Rattle.gsl_lower_reads.proofs.Adding.{adds_reads}
use Rattle.gsl_lower_reads.proofs.Found.{found_whole, read_found, read_typed}
use Rattle.gsl_lower_reads.proofs.Taking.{taken}
use Rattle.gsl_lower_indexes.specs.Computed.{spilled_to}

module _ (m : Module) (input : Input) (sections : Sections) (f : Frame m input sections) (p : Program) (around : Around) (are : AreStructs p.structs) (writes : Bool) (t : Ty) (sound : IsSound (length p.structs) t) where
  pub adds_spilled : (spill : Bool) (r : Reached) → Adds (spilled p.structs spill t r)
  adds_spilled false r = adds_given r
  adds_spilled true r = adds_then (reads p.structs t r >>= keep) (λ h. given (whole (Variable h storage_class.FUNCTION))) (adds_then (reads p.structs t r) keep (adds_reads m input sections p.structs t r) adds_keep) (λ h. adds_given (whole (Variable h storage_class.FUNCTION)))

  -- The shader is where it was, and what was reached leads where the access does.
  pub record IsReady (loose : Start) (a : Access) (s : shader.State) (b : Flow) (state : State) (r : Reached) (later : Flow) (one : Unit {0}) (u : shader.State) (last : State) : Type 0 where
    pub trail : Trail
    pub is : IsTrail m input sections f p around false loose later last r trail
    pub inside : IsInside p.structs p.blocks writes t a trail
    pub after : After m input sections f p around false b state later u last
    pub still : u ≡ s

  -- what is of a value is in no block
  own_of : (b : Flow) (state : State) (r : Reached) (l : Trail) → IsTrail m input sections f p around false OfValue b state r l → IsOwnTrail m input sections f p around false OfValue b state r l
  own_of b state r l (own x) = x
  own_of b state r l (in_block x) = absurd (let z : OfValue ≡ OfBlock = x.begins.marked in cc)

  -- what is loose begins at a value
  root_value_of : (b : Flow) (state : State) (r : Reached) (l : Trail) → IsTrail m input sections f p around false OfValue b state r l → (v : Value) × (l.root ≡ access.Loose v)
  root_value_of b state r l x = by (own_of b state r l x).begins
    where
      by : Begins m input sections f p around (λ id v. HeldAs m input sections f false id v b state) b.place.used state OfValue r.base r.path l → (v : Value) × (l.root ≡ access.Loose v)
      by (variable y) = absurd (let z : OfValue ≡ OfVariable = y.marked in cc)
      by (value y) = (y.value, y.begins)
      by (holder y) = (y.value, y.begins)

  -- a holder with it is where the access leads
  holder_ready : (a : Access) (s : shader.State) (b later : Flow) (state last : State) (h : ℕ) (v : Value) (l : Trail) → shape_of t ≡ None → IsInside p.structs p.blocks writes t a l → l.root ≡ access.Loose v
      → Waits m input sections f later.place.used h (value_at v (l.front ++ l.words)) last → is_value_of p.structs t (value_at v (l.front ++ l.words)) ≡ true → After m input sections f p around false b state later s last
      → IsReady OfVariable a s b state (whole (Variable h storage_class.FUNCTION)) later tt s last
  holder_ready a s b later state last h v l none inside root waits typed after =
      let w = whole_picked inside.whole t (l.front ++ l.words) l.picks a.path a.picked (none_shape t none) inside.picks in
      record {
        trail = record { root = access.Loose v; front = l.front ++ l.words; ty = t; words = []; picks = None };
        is = own (record { begins = holder (record { id = h; value = v; is = refl; begins = refl; waits = waits; typed = typed }); numbers = tt; picks = tt });
        inside = record {
          begins = inside.begins ∙ root;
          whole = t;
          sound = sound;
          leads = refl;
          picks = (refl, w.path_is ∙ sym (append-nil (l.front ++ l.words)), w.unpicked);
          may = tt;
          named = λ e. subst (MayStore p.blocks) root (inside.named e);
        };
        after = after;
        still = refl;
      }

  -- what is put into a holder is an array in no variable
  pub record MaySpill (spill : Bool) (lies : Start) : Type 0 where
    pub lies_so : spill ≡ true → lies ≡ OfValue
    pub shapeless : spill ≡ true → shape_of t ≡ None

  module _ (real : t ≢ Void) where
    module _ (a : Access) (s : shader.State) (units : ℕ) (b : Flow) (state : State) (r : Reached) (l : Trail) (good : Good m input sections f p around b s state) (inside : IsInside p.structs p.blocks writes t a l) where
      value_read : Value
      value_read = read p.structs t a s

      -- what was read waits
      record IsWaiting (h : ℕ) (later : Flow) (one : Unit {0}) (u : shader.State) (last : State) : Type 0 where
        after : After m input sections f p around false b state later u last
        still : u ≡ s
        waits : Waits m input sections f later.place.used h value_read last

      abbrev IsRead : ℕ → Flow → Unit {0} → shader.State → State → Type 0
      IsRead id later one u last = HasGiven m input sections f p around false t b state id later value_read u last × (u ≡ s)

      reads_waiting : IsTrail m input sections f p around false OfValue b state r l → Does m input sections f p 0 units state IsWaiting none_waits (Got tt s units) ((reads p.structs t r >>= keep) b)
      unfolding value_read
      reads_waiting is =
          does_then m input sections f p 0 units b state IsRead none_waits IsWaiting none_waits (Got tt s units) (λ one u left. Got tt u left) (reads p.structs t r b) keep good.inside (adds_reads m input sections p.structs t r b) adds_keep
          (does_change m input sections f p around units units state (HasGiven m input sections f p around false t b state) IsRead (read p.structs t a s) tt s (reads p.structs t r b) (λ id later last x. (x, refl))
          (taken m input sections f p around are OfValue writes t sound b s state r a l good is inside units (λ none e. absurd (let z : OfValue ≡ OfBlock = e in cc))))
          (λ id between one u left mid within grown x less.
          let real_v = given_value m input sections f p around mid.ids id t value_read real x.0.given in
          does_change m input sections f p around left left mid (NowWaits m input sections f p around value_read between mid) IsWaiting tt tt u (keep id between)
          (λ h later last y. record { after = after_then m input sections f p around false false b between later state mid last u u grown x.0.after y.0; still = x.1; waits = y.1.0 })
          (does_keep m input sections f p around id value_read left between u mid x.0.after.good real_v.1))
          (λ id between u left mid within grown none less. absurd none)

      at_value : (v : Value) → l.root ≡ access.Loose v → shape_of t ≡ None → IsTrail m input sections f p around false OfValue b state r l → value_read ≡ value_at v (l.front ++ l.words)
      unfolding value_read
      at_value v root none is =
          let w = whole_picked inside.whole t (l.front ++ l.words) l.picks a.path a.picked (none_shape t none) inside.picks in
          read_found m input sections f p around are (λ id v. HeldAs m input sections f false id v b state) b.place.used b s state state OfValue writes r.base r.path t a l good (own_of b state r l is).begins inside
          ∙ found_whole m input sections f p around are (λ id v. HeldAs m input sections f false id v b state) b.place.used b s state state OfValue writes r.base r.path t a l good (own_of b state r l is).begins inside w.same w.path_is w.unpicked
          ∙ ap (λ root. value_at (root_value root s) (l.front ++ l.words)) (inside.begins ∙ root)

      typed_value : IsTrail m input sections f p around false OfValue b state r l → is_value_of p.structs t value_read ≡ true
      unfolding value_read
      typed_value is = read_typed m input sections f p around are (λ id v. HeldAs m input sections f false id v b state) b.place.used b s state state OfValue writes r.base r.path t a l good (own_of b state r l is).begins inside sound

      spilled_ready : shape_of t ≡ None → IsTrail m input sections f p around false OfValue b state r l
          → Does m input sections f p 0 units state (IsReady OfVariable a s b state) none_waits (Got tt s units) ((reads p.structs t r >>= keep >>= (λ h. given (whole (Variable h storage_class.FUNCTION)))) b)
      spilled_ready none is =
          does_map m input sections f p around 0 units state IsWaiting (IsReady OfVariable a s b state) (Got tt s units) ((reads p.structs t r >>= keep) b) (λ h. whole (Variable h storage_class.FUNCTION))
          (λ h later one u last x.
          let v = root_value_of b state r l is in
          let same : value_read ≡ value_at v.0 (l.front ++ l.words) = at_value v.0 v.1 none is in
          moved later u last h (sym x.still)
          (holder_ready a s b later state last h v.0 l none inside v.1 (subst (λ w. Waits m input sections f later.place.used h w last) same x.waits) (subst (λ w. is_value_of p.structs t w ≡ true) same (typed_value is)) (subst (λ u. After m input sections f p around false b state later u last) x.still x.after)))
          (reads_waiting is)
        where
          moved : (later : Flow) (u : shader.State) (last : State) (h : ℕ) → s ≡ u → IsReady OfVariable a s b state (whole (Variable h storage_class.FUNCTION)) later tt s last → IsReady OfVariable a s b state (whole (Variable h storage_class.FUNCTION)) later tt u last
          moved later u last h e x = subst (λ u. IsReady OfVariable a s b state (whole (Variable h storage_class.FUNCTION)) later tt u last) e x

      pub spilled_in : (spill : Bool) (lies : Start) → MaySpill spill lies → IsTrail m input sections f p around false lies b state r l → Does m input sections f p 0 units state (IsReady (spilled_to spill lies) a s b state) none_waits (Got tt s units) (spilled p.structs spill t r b)
      spilled_in false lies may is = λ within. reaches_here m input units state (IsReady lies a s b state r b tt s) (record { trail = l; is = is; inside = inside; after = after_same m input sections f p around b s state good; still = refl })
      spilled_in true OfValue may is = spilled_ready (may.shapeless refl) is
      spilled_in true OfVariable may is = absurd (let z : OfVariable ≡ OfValue = may.lies_so refl in cc)
      spilled_in true OfBlock may is = absurd (let z : OfBlock ≡ OfValue = may.lies_so refl in cc)
