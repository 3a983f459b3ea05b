-- Values that wait in holders, and the types of the program's types.
use Rattle.std.proofs.Common.{◌≡◌, ℕ, Bool, true, false, List, [], ◌∷◌, Option, Some, None, refl, sym, ap, ◌∙◌, subst, append-nil, arith}
use Rattle.std.specs.Prelude.{slice_get}
use Rattle.std.proofs.lemmas.Bool.{eq-eqb, or_left, or_right}
use Rattle.gsl_instr.specs.Forms.{form_of}
use Rattle.gsl_instr.specs.declared.op.TheConstants as op
use Rattle.gsl_instr.specs.declared.enumerant.decoration.TheConstants as decoration
use Rattle.gsl_instr.specs.declared.enumerant.storage_class.TheConstants as storage_class
use Rattle.gsl_types.specs.declared.ty.Ty.{Ty}
use Rattle.gsl_tree.specs.Shapes.{Shape, shape_of}
use Rattle.gsl_words.specs.declared.module.Module.{Module}
use Rattle.gsl_valid.specs.EntryRules.{is_among}
use Rattle.gsl_valid.specs.Kinds.{type_of}
use Rattle.gsl_valid.specs.MemoryRules.{leads_along}
use Rattle.gsl_valid.specs.Types.{defined_as, is_type}
use Rattle.gsl_spv.specs.Sections.{Sections}
use Rattle.gsl_lower_values.specs.Building.{giving, putting}
use Rattle.gsl_lower_values.specs.Types as types
use Rattle.gsl_lower_holders.specs.Flow.{Emit, Flow, behind, built_in, find_type, given as give, id_at, putting_here, type_by, type_id}
use Rattle.gsl_lower_holders.specs.Waiting.{fetch, hold, holder, holder_at, keep, take_back}
use Rattle.gsl_lower_holders.specs.declared.place.FlowPlace.{FlowPlace}
use Rattle.gsl_fitting.specs.Fits.{Frame, is_known}
use Rattle.gsl_fitting_types.specs.Making.{AreSorted, IsTypeOf, made}
use Rattle.gsl_fitting_types.proofs.Knowing.{known_wider, one_type, outside_known, type_later}
use Rattle.gsl_fitting_types.proofs.Sorting.{giving_sorts, stays_same}
use Rattle.gsl_fitting_types.proofs.Types.{type_comes, type_sorts}
use Rattle.gsl_fitting_places.specs.Leading.{IsPointer}
use Rattle.gsl_fitting_places.specs.Leading as leading
use Rattle.gsl_fitting_places.proofs.Chains.{giving_made}
use Rattle.gsl_fitting_places.proofs.Moves.{load_stands, putting_comes, store_sorts, store_works}
use Rattle.gsl_fitting_places.proofs.Ways.{no_chain}
use Rattle.gsl_fitting_flow.specs.Flowing.{EmitStays, Flows, GivesOf, IsHolder, IsOf, IsTypeFor, IsTypeIn, IsLater, Waits, Widens, asked_if}
use Rattle.gsl_fitting_flow.proofs.Following.{emit_then, flow_same, flows_then, flows_so, given_flows, lift_flows, lift_stays}

-- ---- what stays

pub holder_stays : (s : Flow) → EmitStays s (holder s)
unfolding holder
holder_stays s = by (slice_get s.place.holders s.place.used)
  where
    by : (o : Option ℕ) → EmitStays s (holder_at o s)
    by (Some id) = record { sections = stays_same s.sections; place = refl; used = omega arith }
    by None = tt

pub store_stays : (h value : ℕ) (s : Flow) → EmitStays s (putting_here op.STORE (h ∷ value ∷ []) s)
store_stays h value s = lift_stays s (putting op.STORE (h ∷ value ∷ []) s.sections) (store_sorts h value s.sections)

abbrev stored_in : ℕ → ℕ → Emit ℕ
stored_in value h t = behind (putting_here op.STORE (h ∷ value ∷ []) t) (λ done. give h)

stored_stays : (value h : ℕ) (s : Flow) → EmitStays s (stored_in value h s)
stored_stays value h s = emit_then s (putting_here op.STORE (h ∷ value ∷ []) s) (λ done. give h) (store_stays h value s) (λ done t. flow_same t)

pub keep_stays : (value : ℕ) (s : Flow) → EmitStays s (keep value s)
unfolding keep
keep_stays value s = emit_then s (holder s) (stored_in value) (holder_stays s) (λ h t. stored_stays value h t)

pub take_stays : (h type : ℕ) (s : Flow) → EmitStays s (take_back h type s)
unfolding form_of
take_stays h type s = lift_stays s (giving op.LOAD (h ∷ []) type s.sections) (giving_sorts op.LOAD (h ∷ []) type s.sections (λ id. refl))

pub type_stays : (t : Ty) (s : Flow) → EmitStays s (type_id t s)
unfolding type_id
type_stays t s = by (shape_of t)
  where
    found : (o : Option ℕ) → EmitStays s (id_at o s)
    found (Some id) = flow_same s
    found None = tt

    by : (o : Option Shape) → EmitStays s (type_by t o s)
    by None = found (find_type t s.place.composites)
    by (Some shape) = lift_stays s (types.type_of shape s.sections) (type_sorts shape s.sections)

pub hold_stays : (b : Bool) (value : ℕ) (s : Flow) → EmitStays s (hold b value s)
unfolding hold
hold_stays false value s = flow_same s
hold_stays true value s = keep_stays value s

pub fetch_stays : (b : Bool) (t : Ty) (kept : ℕ) (s : Flow) → EmitStays s (fetch b t kept s)
unfolding fetch
fetch_stays false t kept s = flow_same s
fetch_stays true t kept s = emit_then s (type_id t s) (take_back kept) (type_stays t s) (λ type u. take_stays kept type u)

module _ (whole : Sections) (main : ℕ) (local_size : List ℕ) (rank : ℕ → ℕ) (f : Frame) (sorted : AreSorted whole) where
  abbrev m : Module
  m = made whole main local_size rank f

  -- ---- holders

  pub own_known : (given : List ℕ) (id : ℕ) → is_among f.own id ≡ true → is_known m f given id ≡ true
  own_known given id own = or_left _ _ (or_right (is_among given id) _ own)

  holder_pointer : (given : List ℕ) (type id : ℕ) → IsHolder whole main local_size rank f type id → IsPointer whole main local_size rank f given storage_class.FUNCTION type id
  holder_pointer given type id h = record { leads = h.leads; known = own_known given id h.own }

  pub of_later : (given now : List ℕ) (type id : ℕ) → Widens given now → IsOf whole main local_size rank f given type id → IsOf whole main local_size rank f now type id
  of_later given now type id wider v = record { typed = v.typed; known = known_wider whole main local_size sorted f given now id wider v.known }

  pub waits_later : (b : Bool) (given now : List ℕ) (type id : ℕ) → (b ≡ false → Widens given now) → Waits whole main local_size rank f b given type id → Waits whole main local_size rank f b now type id
  waits_later true given now type id wider w = w
  waits_later false given now type id wider w = of_later given now type id (wider refl) w

  pub holder_flows : (deep : ℕ) (given : List ℕ) (type : ℕ) (s : Flow) → Flows whole main local_size rank f (type ∷ []) deep false given (λ h now after. IsHolder whole main local_size rank f type h × Widens given now) s (holder s)
  unfolding holder
  holder_flows deep given type s = by (slice_get s.place.holders s.place.used) refl
    where
      some_same : (id other : ℕ) → Some id ≡ Some other → id ≡ other
      some_same id other e = cc

      by : (o : Option ℕ) → slice_get s.place.holders s.place.used ≡ o → Flows whole main local_size rank f (type ∷ []) deep false given (λ h now after. IsHolder whole main local_size rank f type h × Widens given now) s (holder_at o s)
      by (Some id) e = λ inside hold.
          let (other, is, h) = hold.0 in
          record {
            now = given;
            crosses = record { fine = λ h. h; code = []; puts = sym (append-nil s.sections.functions); fits = λ follows c due fresh low h. h; same = λ e. (refl, λ id h. h) };
            taken = refl;
            is = (subst (IsHolder whole main local_size rank f type) (some_same other id (sym is ∙ e)) h, λ id h. h);
          }
      by None e = tt

  -- a value is stored in a holder
  pub store_flows : (deep : ℕ) (given : List ℕ) (type h value : ℕ) (s : Flow) → IsHolder whole main local_size rank f type h → IsOf whole main local_size rank f given type value
      → Flows whole main local_size rank f [] deep false given (λ done now after. Unit {0}) s (putting_here op.STORE (h ∷ value ∷ []) s)
  unfolding form_of
  store_flows deep given type h value s is v =
      lift_flows whole main local_size rank f deep given leading.Nothing s (putting op.STORE (h ∷ value ∷ []) s.sections)
      (putting_comes whole main local_size rank f sorted given op.STORE (h ∷ value ∷ []) s.sections
      (λ inside. store_works whole main local_size rank f sorted given storage_class.FUNCTION type h value refl (holder_pointer given type h is) v.known (ap (is_type type) v.typed ∙ eq-eqb type type refl) is.moved refl))

  pub keep_flows : (deep : ℕ) (given : List ℕ) (type value : ℕ) (s : Flow) → IsOf whole main local_size rank f given type value → Flows whole main local_size rank f (type ∷ []) deep false given (λ h now after. IsHolder whole main local_size rank f type h) s (keep value s)
  unfolding keep
  keep_flows deep given type value s v =
      flows_then whole main local_size rank f (type ∷ []) [] deep false false given (λ h now after. IsHolder whole main local_size rank f type h × Widens given now) (λ h now after. IsHolder whole main local_size rank f type h) s (holder s) (stored_in value) (holder_stays s)
      (holder_flows deep given type s) (λ h t. stored_stays value h t)
      (λ h t now is wider stays inside. flows_then whole main local_size rank f [] [] deep false false now (λ done now after. Unit {0}) (λ h now after. IsHolder whole main local_size rank f type h) t (putting_here op.STORE (h ∷ value ∷ []) t) (λ done. give h) (store_stays h value t)
      (store_flows deep now type h value t is.0 (of_later given now type value is.1 v)) (λ done u. flow_same u)
      (λ done u later nothing wider stays inside. given_flows whole main local_size rank f deep later (λ h now after. IsHolder whole main local_size rank f type h) h u (λ inside. is.0)))

  pub take_flows : (deep : ℕ) (given : List ℕ) (type h : ℕ) (s : Flow) → IsHolder whole main local_size rank f type h → Flows whole main local_size rank f [] deep false given (GivesOf whole main local_size rank f type) s (take_back h type s)
  unfolding form_of
  take_flows deep given type h s is =
      lift_flows whole main local_size rank f deep given (λ id now after. IsOf whole main local_size rank f now type id) s (giving op.LOAD (h ∷ []) type s.sections)
      (giving_made whole main local_size rank f sorted given op.LOAD (h ∷ []) type (λ id now after. IsOf whole main local_size rank f now type id) s.sections
      (λ start. load_stands whole main local_size rank f sorted given storage_class.FUNCTION type h refl (holder_pointer given type h is) (outside_known whole main local_size sorted f given type is.declared) is.moved
      (ap (leads_along m decoration.NON_READABLE) (no_chain (defined_as m h) is.base)))
      (λ id after start inside read_as known. record { typed = ap type_of read_as; known = known }))

  -- ---- types

  pub type_on : (a b : Flow) (t : Ty) (type : ℕ) → IsLater a b → IsTypeFor whole main local_size rank f a.place t type → IsTypeFor whole main local_size rank f b.place t type
  type_on a b t type same is = by (shape_of t) is
    where
      by : (o : Option Shape) → IsTypeIn whole main local_size rank f a.place t type o → IsTypeIn whole main local_size rank f b.place t type o
      by None e = ap (λ (p : FlowPlace). find_type t p.composites) same.place ∙ e
      by (Some shape) of = of

  pub type_flows : (deep : ℕ) (given : List ℕ) (t : Ty) (type : ℕ) (s : Flow) → IsTypeFor whole main local_size rank f s.place t type → Flows whole main local_size rank f [] deep false given (λ id now after. id ≡ type) s (type_id t s)
  unfolding type_id
  type_flows deep given t type s is = by (shape_of t) is
    where
      by : (o : Option Shape) → IsTypeIn whole main local_size rank f s.place t type o → Flows whole main local_size rank f [] deep false given (λ id now after. id ≡ type) s (type_by t o s)
      by None e = subst (λ o. Flows whole main local_size rank f [] deep false given (λ id now after. id ≡ type) s (id_at o s)) (sym e) (given_flows whole main local_size rank f deep given (λ id now after. id ≡ type) type s (λ inside. refl))
      by (Some shape) of =
          flows_so whole main local_size rank f [] deep false given (λ id now after. IsTypeOf after.sections shape id) (λ id now after. id ≡ type) s (built_in s.place (types.type_of shape s.sections))
          (λ id now after inside wider is. one_type whole shape id type (type_later after.sections whole shape id inside is) of.1)
          (lift_flows whole main local_size rank f deep given (λ id now after. IsTypeOf after shape id) s (types.type_of shape s.sections) (type_comes whole main local_size rank f sorted given shape s.sections of.0))

  -- ---- a value waits, and is there again

  pub hold_flows : (b : Bool) (deep : ℕ) (given : List ℕ) (type value : ℕ) (s : Flow) → IsOf whole main local_size rank f given type value → Flows whole main local_size rank f (asked_if b type) deep false given (λ kept now after. Waits whole main local_size rank f b now type kept) s (hold b value s)
  unfolding hold
  hold_flows false deep given type value s v = given_flows whole main local_size rank f deep given (λ kept now after. IsOf whole main local_size rank f now type kept) value s (λ inside. v)
  hold_flows true deep given type value s v = keep_flows deep given type value s v

  pub fetch_flows : (b : Bool) (deep : ℕ) (given : List ℕ) (t : Ty) (type kept : ℕ) (s : Flow) → IsTypeFor whole main local_size rank f s.place t type → Waits whole main local_size rank f b given type kept
      → Flows whole main local_size rank f [] deep false given (GivesOf whole main local_size rank f type) s (fetch b t kept s)
  unfolding fetch
  fetch_flows false deep given t type kept s is w = given_flows whole main local_size rank f deep given (GivesOf whole main local_size rank f type) kept s (λ inside. w)
  fetch_flows true deep given t type kept s is w =
      flows_then whole main local_size rank f [] [] deep false false given (λ id now after. id ≡ type) (GivesOf whole main local_size rank f type) s (type_id t s) (take_back kept) (type_stays t s) (type_flows deep given t type s is) (λ id u. take_stays kept id u)
      (λ id u now same wider stays inside. subst (λ z. Flows whole main local_size rank f [] deep false now (GivesOf whole main local_size rank f type) u (take_back kept z u)) (sym same) (take_flows deep now type kept u w))
