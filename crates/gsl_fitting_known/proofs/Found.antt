-- What gives a value, and what leads to a place.
use Rattle.std.proofs.Common.{◌≡◌, ◌≢◌, ℕ, ◌<◌, Bool, true, false, ◌&&◌, not, List, ◌++◌, Option, Some, None, refl, sym, ap, ◌∙◌, subst, arith}
use Rattle.gsl_instr.specs.declared.enumerant.storage_class.TheConstants as storage_class
use Rattle.gsl_types.specs.Known.{AreStructs}
use Rattle.gsl_types.specs.declared.ty.Ty.{Ty}
use Rattle.gsl_types.specs.declared.ty.Ty.TheOpen.{Ty-F}
use Rattle.gsl_types.specs.declared.ty.Ty.TheVariants as ty
use Rattle.gsl_types.specs.declared.ty.Ty.TheVariants.{outs-Void}
use Rattle.gsl_types.specs.declared.ty.Ty.TheViews.{out-Ty}
use Rattle.gsl_tree.specs.Around.{Around}
use Rattle.gsl_tree.specs.Expressions.{is_runtime_layer}
use Rattle.gsl_tree.specs.Shapes.{Shape, shape_kind, shape_of}
use Rattle.gsl_tree.specs.declared.program.Program.{Program}
use Rattle.gsl_valid.specs.LimitRules.{most_indexes}
use Rattle.gsl_spv.specs.Sections.{Sections}
use Rattle.gsl_lower_leaves.specs.Leaves.{leaves_of}
use Rattle.gsl_lower_places.specs.Reached.{is_block_class}
use Rattle.gsl_lower_places.specs.declared.reached.Reached.{Reached}
use Rattle.gsl_lower_holders.specs.Flow.{Emit, Flow}
use Rattle.gsl_lower_traits.specs.Traits.{has_shape, is_plain}
use Rattle.gsl_lower_traits.specs.declared.traits.Traits.{Traits}
use Rattle.gsl_lower_expr.specs.Lowering as lowering
use Rattle.gsl_lower_expr.specs.Parts.{Lower, accessed}
use Rattle.gsl_lower_needs.specs.Asking as asking
use Rattle.gsl_lower_needs.specs.Asking.{Ask}
use Rattle.gsl_lower_needs.specs.Needs as needs
use Rattle.gsl_lower_needs.specs.Needs.{hold, loose, reads}
use Rattle.gsl_lower_needs.specs.declared.lead.Lead.{Lead}
use Rattle.gsl_fitting.specs.Fits.{Frame}
use Rattle.gsl_fitting_expr.specs.Evaluating.{Evaluates}
use Rattle.gsl_fitting_expr.proofs.Yielding.{or_false}
use Rattle.gsl_fitting_reaching.specs.Reached.{May, Spot, value_spot}
use Rattle.gsl_fitting_reaching.proofs.Names.{value_reaches}
use Rattle.gsl_fitting_reads.specs.Moving.{IsComposite, IsGot, IsPut, Moves, both}
use Rattle.gsl_fitting_reads.proofs.Reading.{access_evaluates}
use Rattle.gsl_fitting_known.specs.Fitted.{Fits, GivesValue, IsSilent, LeadsThere}
use Rattle.gsl_fitting_known.specs.Ids.{Agree, Wants, is_in_block, type_for, types_for}
use Rattle.gsl_fitting_known.specs.Known.{HasId, IsWhole, Knows}
use Rattle.gsl_fitting_known.specs.Lying.{Lies}
use Rattle.gsl_fitting_known.proofs.Leaves.{given_fewer, leaves_fewer, leaves_given, leaves_there}
use Rattle.gsl_fitting_known.proofs.Types.{plain_known, type_known}
use Rattle.gsl_fitting_known.proofs.Wanting.{types_append, types_if, wants_given, wants_hold, wants_last, wants_then}

and_false : (b : Bool) → (b && false) ≡ false
and_false true = refl
and_false false = refl

pub wants_reads : (t : Ty) (lead : Lead) → Wants (reads t lead) tt (types_if (lead.in_block && not (is_plain t)) t)
unfolding reads
wants_reads t lead = wants_hold (lead.in_block && not (is_plain t)) t

-- what has a scalar or vector's shape is not `void`
pub shaped_real : (t : Ty) (shape : Shape) → shape_of t ≡ Some shape → t ≢ ty.Void
shaped_real t shape is void = let z : None ≡ Some shape = sym (ap shape_kind outs-Void) ∙ sym (ap shape_of void) ∙ is in cc

abbrev is_void : Ty-F Ty → Bool
is_void Ty-F.Void = true
is_void _ = false

pub layer_real : (t : Ty) (of : Ty-F Ty) → out-Ty t ≡ of → is_void of ≡ false → t ≢ ty.Void
layer_real t of is real void = let z : true ≡ false = sym (ap is_void outs-Void) ∙ sym (ap (λ u. is_void (out-Ty u)) void) ∙ ap is_void is ∙ real in cc

module _ (whole : Sections) (main : ℕ) (local_size : List ℕ) (rank : ℕ → ℕ) (f : Frame) (s : Flow) (p : Program) (around : Around) (are : AreStructs p.structs) (knows : Knows whole main local_size rank f s p.structs around) where
  abbrev Has : Ty → Type 0
  Has t = HasId whole main local_size rank f s p.structs t

  abbrev id_for : Ty → ℕ
  id_for t = type_for whole s.place t

  abbrev ids_for : List Ty → List ℕ
  ids_for ts = types_for whole s.place ts

  abbrev L : Option ℕ → Spot → Ty → Type 0
  L home spot t = Lies whole main local_size rank f s.place p.structs home spot.may spot.room t spot.type

  abbrev There : Bool → Bool → Ty → ℕ → Lower → needs.Asking → Type 0
  There = LeadsThere whole main local_size rank f s p

  abbrev Gives : Ty → ℕ → Lower → needs.Asking → Type 0
  Gives = GivesValue whole main local_size rank f s p

  -- where something stands for a type, it is not `void`
  pub lies_real : (home : Option ℕ) (may : May) (room : ℕ) (t : Ty) (type : ℕ) → Lies whole main local_size rank f s.place p.structs home may room t type → t ≢ ty.Void
  lies_real home may room t type (Lies.plain {shape = shape} is stands) = shaped_real t shape is
  lies_real home may room t type (Lies.array {n = n} {element = element} is own parts words lies) = layer_real t (Ty-F.Array element n) is refl
  lies_real home may room t type (Lies.runtime {element = element} is parts lies) = layer_real t (Ty-F.Runtime element) is refl
  lies_real home may room t type (Lies.struct {k = k} is found own lie) = layer_real t (Ty-F.Struct k) is refl

  -- ---- what is read and stored at a place

  -- What stands for an array or a struct outside blocks is of the type that the place tells.
  own_of : (home : Option ℕ) (may : May) (room : ℕ) (t : Ty) (type : ℕ) → shape_of t ≡ None → is_runtime_layer (out-Ty t) ≡ false → is_in_block home ≡ false → Lies whole main local_size rank f s.place p.structs home may room t type → type ≡ id_for t
  own_of home may room t type none fixed outside (Lies.plain {shape = shape} is stands) = absurd (let z : None ≡ Some shape = sym none ∙ is in cc)
  own_of home may room t type none fixed outside (Lies.array is own parts words lies) = own outside
  own_of home may room t type none fixed outside (Lies.runtime is parts lies) = absurd (let z : true ≡ false = sym (ap is_runtime_layer is) ∙ fixed in cc)
  own_of home may room t type none fixed outside (Lies.struct is found own lie) = own outside

  whole_known : (t : Ty) → shape_of t ≡ None → t ≢ ty.Void → Has t → IsWhole whole main local_size rank f s p.structs t (id_for t)
  whole_known t none real has = knows.wholes t none (type_known whole main local_size rank f s p.structs t real has)

  composite_known : (t : Ty) → shape_of t ≡ None → t ≢ ty.Void → Has t → IsComposite whole main local_size rank f s t (id_for t)
  composite_known t none real has = record { composite = none; same = type_known whole main local_size rank f s p.structs t real has; declared = (whole_known t none real has).declared }

  -- what is read from blocks whole
  abbrev pub by_leaf : Ty → Lead → Bool
  by_leaf t lead = lead.in_block && not (is_plain t)

  module _ (spot : Spot) (lead : Lead) (t : Ty) (agree : Agree whole s.place spot lead) (shaped : spot.shape ≡ shape_of t) (lies : shape_of t ≡ None → L spot.home spot t) (fixed : is_runtime_layer (out-Ty t) ≡ false) (has : Has t) where
    abbrev Got : Bool → Type 0
    Got b = IsGot whole main local_size rank f s p.structs t spot (id_for t) (ids_for (types_if b t))

    got_whole : (none : shape_of t ≡ None) (home : Option ℕ) → spot.home ≡ home → IsGot whole main local_size rank f s p.structs t spot (id_for t) (ids_for (types_if (is_in_block home && true) t))
    got_whole none None at =
        let there = lies none in
        let real = lies_real spot.home spot.may spot.room t spot.type there in
        IsGot.as_it_is (composite_known t none real has) (shaped ∙ none) (own_of spot.home spot.may spot.room t spot.type none fixed (ap is_in_block at) there) (subst (λ h. Moves whole main local_size rank f h (id_for t)) (sym at) tt)
    got_whole none (Some class) at = by (is_block_class class) refl
      where
        by : (b : Bool) → is_block_class class ≡ b → IsGot whole main local_size rank f s p.structs t spot (id_for t) (ids_for (types_if (b && true) t))
        by false apart =
            let there = lies none in
            let real = lies_real spot.home spot.may spot.room t spot.type there in
            IsGot.as_it_is (composite_known t none real has) (shaped ∙ none) (own_of spot.home spot.may spot.room t spot.type none fixed (ap is_in_block at ∙ apart) there)
            (subst (λ h. Moves whole main local_size rank f h (id_for t)) (sym at) (apart, (whole_known t none real has).moved class apart))
        by true in_one =
            let there = subst (λ h. L h spot t) at (lies none) in
            let real = lies_real spot.home spot.may spot.room t spot.type (lies none) in
            let known = whole_known t none real has in
            let leaves = leaves_there whole main local_size rank f s.place p.structs are class spot.may spot.room t spot.type there in
            let others = leaves_there whole main local_size rank f s.place p.structs are storage_class.FUNCTION both known.room t (id_for t) (known.lies (Some storage_class.FUNCTION) refl) in
            IsGot.by_leaves (composite_known t none real has) (shaped ∙ none) at in_one leaves
            (leaves_fewer whole main local_size rank f s.place p.structs are storage_class.FUNCTION class both spot.may known.room spot.room (id_for t) spot.type (leaves_of p.structs t) others leaves)

    -- a value is read there, by way of a holder where it is an array or a struct in a block
    pub got : Got (by_leaf t lead)
    got = by (shape_of t) refl
      where
        by : (o : Option Shape) → shape_of t ≡ o → Got (lead.in_block && not (has_shape (shape_of t)))
        by (Some shape) is =
            subst (λ b. IsGot whole main local_size rank f s p.structs t spot (id_for t) (ids_for (types_if b t))) (sym (ap (λ o. lead.in_block && not (has_shape o)) is ∙ and_false lead.in_block))
            (IsGot.in_shape is (shaped ∙ is) (plain_known whole main local_size rank f s p.structs t shape is has))
        by None none =
            subst (λ b. IsGot whole main local_size rank f s p.structs t spot (id_for t) (ids_for (types_if b t))) (ap (λ b. b && true) agree.blocked ∙ sym (ap (λ o. lead.in_block && not (has_shape o)) none)) (got_whole none spot.home refl)

    put_whole : (none : shape_of t ≡ None) (home : Option ℕ) → spot.home ≡ home → IsPut whole main local_size rank f s p.structs t spot (id_for t)
    put_whole none None at =
        let there = lies none in
        let real = lies_real spot.home spot.may spot.room t spot.type there in
        IsPut.as_it_is (composite_known t none real has) (shaped ∙ none) (own_of spot.home spot.may spot.room t spot.type none fixed (ap is_in_block at) there) (subst (λ h. Moves whole main local_size rank f h (id_for t)) (sym at) tt)
    put_whole none (Some class) at = by (is_block_class class) refl
      where
        by : (b : Bool) → is_block_class class ≡ b → IsPut whole main local_size rank f s p.structs t spot (id_for t)
        by false apart =
            let there = lies none in
            let real = lies_real spot.home spot.may spot.room t spot.type there in
            IsPut.as_it_is (composite_known t none real has) (shaped ∙ none) (own_of spot.home spot.may spot.room t spot.type none fixed (ap is_in_block at ∙ apart) there)
            (subst (λ h. Moves whole main local_size rank f h (id_for t)) (sym at) (apart, (whole_known t none real has).moved class apart))
        by true in_one =
            let there = subst (λ h. L h spot t) at (lies none) in
            let real = lies_real spot.home spot.may spot.room t spot.type (lies none) in
            let known = whole_known t none real has in
            let leaves = leaves_there whole main local_size rank f s.place p.structs are class spot.may spot.room t spot.type there in
            let others = leaves_given whole main local_size rank f s.place p.structs are both known.room t (id_for t) (known.lies None refl) in
            IsPut.by_leaves (composite_known t none real has) (shaped ∙ none) at in_one leaves
            (given_fewer whole main local_size rank f s.place p.structs are class spot.may known.room spot.room (id_for t) spot.type (leaves_of p.structs t) others leaves)

    -- and one is stored there
    pub put : IsPut whole main local_size rank f s p.structs t spot (id_for t)
    put = by (shape_of t) refl
      where
        by : (o : Option Shape) → shape_of t ≡ o → IsPut whole main local_size rank f s p.structs t spot (id_for t)
        by (Some shape) is = IsPut.in_shape is (shaped ∙ is) (plain_known whole main local_size rank f s p.structs t shape is has)
        by None none = put_whole none spot.home refl

  -- ---- values

  -- what gives a value leads to that value
  pub value_fits : (t : Ty) (depth : ℕ) (value : Emit ℕ) (ask : Ask (Unit {0})) (known asked_known : Traits) → asked_known ≡ known → IsSilent known → known.is_loose ≡ true → (Has t → Gives t depth (lowering.giving_value t value known) (needs.giving_value t ask asked_known))
      → Fits whole main local_size rank f s p false false true t depth (lowering.giving_value t value known) (needs.giving_value t ask asked_known)
  value_fits t depth value ask known asked_known same silent valued gives = record {
    typed = refl;
    asks_typed = refl;
    same = same;
    silent = silent;
    gives = λ readable fixed has. gives has;
    leads = λ root. by (root refl).0 (root refl).1 (shape_of t) refl;
  }
    where
      at_room : (has : Has t) (room : ℕ) → t ≢ ty.Void → room < most_indexes → (shape_of t ≡ None → Lies whole main local_size rank f s.place p.structs None both room t (id_for t))
          → There false false t depth (lowering.giving_value t value known) (needs.giving_value t ask asked_known)
      at_room has room real small lies =
          let g = gives has in
          record {
            types = g.types;
            lead = loose t;
            spot = value_spot both (shape_of t) (id_for t) room;
            asked = wants_last ask (λ done. asking.given (loose t)) tt (loose t) g.types g.asked (wants_given (loose t));
            agree = record { blocked = refl; waiting = refl; picked = refl; by = refl };
            loose = sym valued;
            shape = refl;
            reads = λ e. refl;
            reads_loose = λ e. refl;
            stores = λ e. refl;
            rooted = λ e. absurd (let z : false ≡ true = e in cc);
            lies = lies;
            reaches = λ deep low. value_reaches whole main local_size rank f knows.sorted s (ids_for g.types) deep known.splits both t (id_for t) room value small (type_known whole main local_size rank f s p.structs t real has) (g.evaluates deep low);
          }

      by : Has t → t ≢ ty.Void → (o : Option Shape) → shape_of t ≡ o → There false false t depth (lowering.giving_value t value known) (needs.giving_value t ask asked_known)
      by has real None none = let w = whole_known t none real has in at_room has w.room real w.small (λ e. w.lies None refl)
      by has real (Some shape) is = at_room has 0 real (omega arith) (λ none. absurd (let z : None ≡ Some shape = sym none ∙ is in cc))

  -- ---- places

  -- what leads somewhere gives the value there
  pub place_fits : (unreadable writable : Bool) (t : Ty) (depth : ℕ) (reach : Emit Reached) (ask : Ask Lead) (known asked_known : Traits) → asked_known ≡ known → IsSilent known → There unreadable writable t depth (lowering.leading p.structs t reach known) (needs.leading t ask asked_known)
      → Fits whole main local_size rank f s p unreadable writable false t depth (lowering.leading p.structs t reach known) (needs.leading t ask asked_known)
  place_fits unreadable writable t depth reach ask known asked_known same silent there = record {
    typed = refl;
    asks_typed = refl;
    same = same;
    silent = silent;
    gives = λ readable fixed has. record {
      types = there.types ++ types_if (by_leaf t there.lead) t;
      asked = wants_then ask (reads t) there.lead tt there.types (types_if (by_leaf t there.lead) t) there.asked (wants_reads t there.lead);
      evaluates = λ deep low.
          subst (λ l. Evaluates whole main local_size rank f s l deep known.splits (id_for t) (accessed p.structs t reach)) (sym (types_append whole s.place there.types (types_if (by_leaf t there.lead) t)))
          (subst (λ b. Evaluates whole main local_size rank f s (ids_for there.types ++ ids_for (types_if (by_leaf t there.lead) t)) deep b (id_for t) (accessed p.structs t reach)) (or_false known.splits)
          (access_evaluates whole main local_size rank f knows.sorted s (ids_for there.types) (ids_for (types_if (by_leaf t there.lead) t)) deep known.splits p.structs t there.spot (id_for t) reach knows.functions_own
          (got there.spot there.lead t there.agree there.shape there.lies fixed has) (there.reads readable) (there.reaches deep low)));
    };
    leads = λ root. there;
  }
