-- Constants, names, and operators.
use Rattle.std.proofs.Common.{◌≡◌, ℕ, Bool, true, false, ◌&&◌, not, List, [], ◌∷◌, length, map, Option, Some, None, refl, sym, ap, ◌∙◌, subst, inl, inr, ◌⊎◌}
use Rattle.std.specs.Prelude.{if◌then◌else◌, nat_eq, slice_get}
use Rattle.std.proofs.lemmas.Bool.{and_parts, eqb-true}
use Rattle.gsl_instr.specs.declared.enumerant.storage_class.TheConstants as storage_class
use Rattle.gsl_types.specs.declared.ty.Direction.{Direction}
use Rattle.gsl_types.specs.declared.ty.Scalar.{Scalar}
use Rattle.gsl_types.specs.declared.ty.Scalar.TheVariants.{Uint}
use Rattle.gsl_types.specs.declared.ty.Ty.{Ty}
use Rattle.gsl_types.specs.declared.ty.Ty.TheVariants as ty
use Rattle.gsl_types.specs.declared.ty.Ty.TheVariants.{outs-One, outs-Vector}
use Rattle.gsl_types.specs.declared.ty.Ty.TheViews.{out-Ty}
use Rattle.gsl_values.specs.declared.op.UnaryOp.{UnaryOp}
use Rattle.gsl_values.specs.declared.op.UnaryOp.TheVariants.{Flip, Negate, Not}
use Rattle.gsl_values.specs.declared.value.Value.{Value}
use Rattle.gsl_base.specs.declared.stage.Stage.TheVariants.{Compute}
use Rattle.gsl_tree.specs.Around.{Around, block_member, is_writeonly, may_write_member, uvec3}
use Rattle.gsl_tree.specs.Expressions.{HasGlobalType, HasInterfaceType, HasMemberType, HasParamType, IsConst, IsUnary, MayBeRead, StatesSize, is_runtime_layer}
use Rattle.gsl_tree.specs.Paths.{is_output, is_unreadable, is_writable, kind_in, unreadable_by, writable_by}
use Rattle.gsl_tree.specs.Shapes.{Shape, is_boolean, is_integer, of_shape, shape_kind, shape_of, unary_shape, when}
use Rattle.gsl_tree.specs.Statements.{depth_by, expr_depth}
use Rattle.gsl_tree.specs.Trees.{form_of, type_of}
use Rattle.gsl_tree.specs.Values.{parts_in, word_in}
use Rattle.gsl_tree.specs.WellTyped.{AreWellTyped, around_body, program_lists}
use Rattle.gsl_tree.specs.declared.expr.Expr.{Expr}
use Rattle.gsl_tree.specs.declared.expr.ExprKind.{ExprKind}
use Rattle.gsl_tree.specs.declared.expr.ExprKind.TheFolds.{fold-Expr, fold-ExprKind, map-ExprKind}
use Rattle.gsl_tree.specs.declared.expr.ExprKind.TheOpen.{ExprKind-F}
use Rattle.gsl_tree.specs.declared.program.Program.{Program}
use Rattle.gsl_tree.specs.declared.unit.Interface.{Interface}
use Rattle.gsl_typed_law.proofs.Components.{components_fill}
use Rattle.gsl_spv.specs.Sections.{Sections}
use Rattle.gsl_lower_values.specs.Operators as operators
use Rattle.gsl_lower_places.specs.Reached.{is_block_class}
use Rattle.gsl_lower_holders.specs.Flow.{Emit, Flow, behind, lift}
use Rattle.gsl_lower_holders.specs.declared.place.FlowPlace.{FlowPlace}
use Rattle.gsl_lower_traits.specs.Traits as traits
use Rattle.gsl_lower_traits.specs.declared.traits.Traits.{Traits}
use Rattle.gsl_lower_expr.specs.Lowering as lowering
use Rattle.gsl_lower_expr.specs.Lowering.{lowered_by}
use Rattle.gsl_lower_expr.specs.Parts.{Lower, class_by, constant_by, in_block, interface_class, named, of_type, scalar_of, shape_or}
use Rattle.gsl_lower_expr.specs.Parts as parts
use Rattle.gsl_lower_needs.specs.Asking as asking
use Rattle.gsl_lower_needs.specs.Asking.{Ask}
use Rattle.gsl_lower_needs.specs.Needs as needs
use Rattle.gsl_lower_needs.specs.Needs.{Asking, asked_by, hold, own}
use Rattle.gsl_fitting.specs.Fits.{Frame}
use Rattle.gsl_fitting_operators.specs.Operands.{SuitsOne}
use Rattle.gsl_fitting_flow.specs.Flowing.{IsTypeFor}
use Rattle.gsl_fitting_expr.specs.Evaluating.{Evaluates, IsPlain}
use Rattle.gsl_fitting_expr.proofs.Constants.{constant_evaluates}
use Rattle.gsl_fitting_expr.proofs.Operands.{conversion_evaluates, unary_evaluates}
use Rattle.gsl_fitting_known.specs.OfFittingReaching.{May, Stands, named_spot}
use Rattle.gsl_fitting_known.specs.OfFittingReads.{both}
use Rattle.gsl_fitting_known.proofs.OfFittingReaching.{block_reaches, named_reaches}
use Rattle.gsl_fitting_known.specs.Fitted.{Fits, GivesValue, IsSilent, is_valued, setting_in}
use Rattle.gsl_fitting_known.specs.Ids.{type_for, types_for}
use Rattle.gsl_fitting_known.specs.Known.{HasId, IsNamed, Knows, may_interface, may_member}
use Rattle.gsl_fitting_known.specs.Lying.{Lies}
use Rattle.gsl_fitting_known.proofs.Found.{place_fits, value_fits}
use Rattle.gsl_fitting_known.proofs.Types.{or_known, plain_for, plain_known, shape_or_is, some_is}
use Rattle.gsl_fitting_known.proofs.Wanting.{wants_given}

-- ---- small facts

pub is_false : (b : Bool) → not b ≡ true → b ≡ false
is_false true e = absurd (let z : false ≡ true = e in cc)
is_false false e = refl

pub silent_valued : (splits calls quiet : Bool) → (quiet ≡ true → splits ≡ false) → IsSilent (traits.valued splits calls quiet)
silent_valued splits calls quiet so = record { quiet = so; still = so; literal = λ number e. absurd (let z : None ≡ Some number = e in cc); calm = λ number e. absurd (let z : None ≡ Some number = e in cc) }

shape_back_by : (s : Scalar) (n : ℕ) (b : Bool) → nat_eq n 1 ≡ b → shape_of (if b then ty.One s else ty.Vector s n) ≡ Some (s, n)
shape_back_by s n true is = ap shape_kind (outs-One s) ∙ ap (λ (k : ℕ). Some (s, k)) (sym (eqb-true n 1 is))
shape_back_by s n false is = ap shape_kind (outs-Vector s n)

-- the type of a shape has this shape
pub shape_back : (shape : Shape) → shape_of (of_shape shape) ≡ Some shape
shape_back shape = shape_back_by shape.0 shape.1 (nat_eq shape.1 1) refl

when_given : (b : Bool) (x y : Shape) → when b x ≡ Some y → (b ≡ true) × (x ≡ y)
when_given true x y is = (refl, some_is x y is)
when_given false x y is = absurd (let z : None ≡ Some y = is in cc)

-- an operator takes what it gives a shape for, and gives one of the same shape
pub unary_suits : (op : UnaryOp) (x y : Shape) → unary_shape op x ≡ Some y → SuitsOne op x × (x ≡ y)
unary_suits Negate x y is = when_given (is_integer x.0) x y is
unary_suits Flip x y is = when_given (is_integer x.0) x y is
unary_suits Not x y is = let w = when_given (is_boolean x.0 && nat_eq x.1 1) x y is in ((and_parts (is_boolean x.0) (nat_eq x.1 1) w.0).0, w.1)

-- a constant is a scalar, or the size of the work group
const_shape : (around : Around) (v : Value) (t : Ty) → IsConst around v t → (shape : Shape) × (shape_of t ≡ Some shape)
const_shape around v t is = by is.1
  where
    by : ((s : Scalar) × (t ≡ ty.One s)) ⊎ ((t ≡ uvec3) × (around.stage ≡ Compute) × StatesSize around (map word_in (parts_in v))) → (shape : Shape) × (shape_of t ≡ Some shape)
    by (inl one) = ((one.0, 1), ap shape_of one.1 ∙ ap shape_kind (outs-One one.0))
    by (inr size) = ((Uint, 3), ap shape_of size.0 ∙ ap shape_kind (outs-Vector Uint 3))

module _ (whole : Sections) (main : ℕ) (local_size : List ℕ) (rank : ℕ → ℕ) (f : Frame) (s : Flow) (p : Program) (params : List (Direction × Ty)) (locals : List Ty) (well : AreWellTyped (program_lists p))
    (knows : Knows whole main local_size rank f s p.structs (around_body (program_lists p) params locals)) where
  abbrev pub around : Around
  around = around_body (program_lists p) params locals

  abbrev pub kinds_low : ExprKind → Ty → Lower
  kinds_low = fold-ExprKind (Ty → Lower) Lower (lowered_by (setting_in p)) lowering.typed_by

  abbrev pub low : Expr → Lower
  low = fold-Expr (Ty → Lower) Lower (lowered_by (setting_in p)) lowering.typed_by

  abbrev pub kinds_ask : ExprKind → Ty → Asking
  kinds_ask = fold-ExprKind (Ty → Asking) Asking (asked_by p.prototypes) needs.typed_by

  abbrev pub ask : Expr → Asking
  ask = fold-Expr (Ty → Asking) Asking (asked_by p.prototypes) needs.typed_by

  abbrev pub kinds_deep : ExprKind → ℕ
  kinds_deep = fold-ExprKind ℕ ℕ depth_by kind_in

  abbrev pub kinds_write : ExprKind → Bool
  kinds_write = fold-ExprKind Bool Bool (writable_by around) kind_in

  abbrev pub kinds_unread : ExprKind → Bool
  kinds_unread = fold-ExprKind Bool Bool (unreadable_by around) kind_in

  abbrev pub low_form : ExprKind-F ExprKind Expr → Ty → Lower
  low_form form t = lowered_by (setting_in p) (map-ExprKind ExprKind Expr (Ty → Lower) Lower kinds_low low form) t

  abbrev pub ask_form : ExprKind-F ExprKind Expr → Ty → Asking
  ask_form form t = asked_by p.prototypes (map-ExprKind ExprKind Expr (Ty → Asking) Asking kinds_ask ask form) t

  abbrev pub deep_form : ExprKind-F ExprKind Expr → ℕ
  deep_form form = depth_by (map-ExprKind ExprKind Expr ℕ ℕ kinds_deep expr_depth form)

  abbrev pub write_form : ExprKind-F ExprKind Expr → Bool
  write_form form = writable_by around (map-ExprKind ExprKind Expr Bool Bool kinds_write (is_writable around) form)

  abbrev pub unread_form : ExprKind-F ExprKind Expr → Bool
  unread_form form = unreadable_by around (map-ExprKind ExprKind Expr Bool Bool kinds_unread (is_unreadable around) form)

  abbrev pub Is : Expr → Type 0
  Is e = Fits whole main local_size rank f s p (is_unreadable around e) (is_writable around e) (is_valued (form_of e)) (type_of e) (expr_depth e) (low e) (ask e)

  abbrev pub AllAre : List Expr → Type 0
  AllAre [] = Unit {0}
  AllAre (e ∷ es) = Is e × AllAre es

  -- it fits, by its form
  abbrev pub Here : ExprKind-F ExprKind Expr → Ty → Type 0
  Here form t = Fits whole main local_size rank f s p (unread_form form) (write_form form) (is_valued form) t (deep_form form) (low_form form t) (ask_form form t)

  abbrev pub Has : Ty → Type 0
  Has t = HasId whole main local_size rank f s p.structs t

  abbrev pub id_for : Ty → ℕ
  id_for t = type_for whole s.place t

  abbrev pub ids_for : List Ty → List ℕ
  ids_for ts = types_for whole s.place ts

  abbrev pub E : List ℕ → ℕ → Bool → ℕ → Emit ℕ → Type 0
  E asks deep splits type value = Evaluates whole main local_size rank f s asks deep splits type value

  abbrev pub P : Shape → ℕ → Type 0
  P shape type = IsPlain whole main local_size rank f shape type

  abbrev pub Gives : Ty → ℕ → Lower → Asking → Type 0
  Gives = GivesValue whole main local_size rank f s p

  -- ---- parts

  -- the value of a part that is read
  pub value_of : (e : Expr) → Is e → MayBeRead around e → Has (type_of e) → Gives (type_of e) (expr_depth e) (low e) (ask e)
  value_of e is reads has = is.gives (is_false (is_unreadable around e) reads.0) (is_false (is_runtime_layer (out-Ty (type_of e))) reads.1) has

  pub low_shape : (e : Expr) → Is e → (shape : Shape) → shape_of (type_of e) ≡ Some shape → shape_or (low e).ty ≡ shape
  low_shape e is shape shaped = shape_or_is (low e).ty shape (ap shape_of is.typed ∙ shaped)

  pub plain_at : (e : Expr) → Is e → (shape : Shape) → shape_of (type_of e) ≡ Some shape → Has (type_of e) → P (shape_or (low e).ty) (id_for (type_of e))
  plain_at e is shape shaped has = subst (λ x. P x (id_for (type_of e))) (sym (low_shape e is shape shaped)) (plain_known whole main local_size rank f s p.structs (type_of e) shape shaped has)

  pub known_at : (e : Expr) → Is e → IsTypeFor whole main local_size rank f s.place (type_of e) (id_for (type_of e)) → IsTypeFor whole main local_size rank f s.place (low e).ty (id_for (type_of e))
  known_at e is known = subst (λ t. IsTypeFor whole main local_size rank f s.place t (id_for (type_of e))) (sym is.typed) known

  -- types of one shape have one id
  pub ids_same : (t u : Ty) (shape : Shape) → shape_of t ≡ Some shape → shape_of u ≡ Some shape → id_for t ≡ id_for u
  ids_same t u shape first second = plain_for whole s.place t shape first ∙ sym (plain_for whole s.place u shape second)

  -- what gives a value
  pub value_form : (t : Ty) (depth : ℕ) (value : Emit ℕ) (asks : Ask (Unit {0})) (splits calls quiet : Bool) (asked_known : Traits) → asked_known ≡ traits.valued splits calls quiet → (quiet ≡ true → splits ≡ false)
      → (Has t → Gives t depth (lowering.giving_value t value (traits.valued splits calls quiet)) (needs.giving_value t asks asked_known))
      → Fits whole main local_size rank f s p false false true t depth (lowering.giving_value t value (traits.valued splits calls quiet)) (needs.giving_value t asks asked_known)
  value_form t depth value asks splits calls quiet asked_known same so gives =
      value_fits whole main local_size rank f s p around well.structs knows t depth value asks (traits.valued splits calls quiet) asked_known same (silent_valued splits calls quiet so) refl gives

  -- ---- constants

  pub const_here : (v : Value) (t : Ty) → IsConst around v t → Here (ExprKind-F.Const v) t
  const_here v t is =
      value_fits whole main local_size rank f s p around well.structs knows t 0 (lift (constant_by (shape_or t) v)) (asking.given tt) (traits.constant t v) (traits.constant t v) refl (record { quiet = λ e. refl; still = λ e. refl; literal = λ number e. refl; calm = λ number e. refl }) refl
      (λ has. let shape = const_shape around v t is in record {
        types = [];
        asked = wants_given tt;
        evaluates = λ deep low.
            constant_evaluates whole main local_size rank f knows.sorted s deep (id_for t) (shape_or t) v (or_known whole main local_size rank f s p.structs t shape.0 shape.1 has)
            ((components_fill p.structs t shape.0 v shape.1 is.0).0 ∙ sym (ap (λ (x : Shape). x.1) (shape_or_is t shape.0 shape.1)));
      })

  -- ---- names

  -- where something stands for a scalar or vector, it is of that shape
  pub lies_stands : (home : Option ℕ) (may : May) (room : ℕ) (t : Ty) (type : ℕ) → Lies whole main local_size rank f s.place p.structs home may room t type → (o : Option Shape) → shape_of t ≡ o → Stands whole main local_size rank f home o type
  lies_stands home may room t type lies None none = tt
  lies_stands home may room t type (Lies.plain {shape = shape} is stands) (Some other) shaped = subst (λ (x : Shape). Stands whole main local_size rank f home (Some x) type) (some_is shape other (sym is ∙ shaped)) stands
  lies_stands home may room t type (Lies.array is own parts words lies) (Some other) shaped = absurd (let z : None ≡ Some other = sym (ap shape_kind is) ∙ shaped in cc)
  lies_stands home may room t type (Lies.runtime is parts lies) (Some other) shaped = absurd (let z : None ≡ Some other = sym (ap shape_kind is) ∙ shaped in cc)
  lies_stands home may room t type (Lies.struct is found own lie) (Some other) shaped = absurd (let z : None ≡ Some other = sym (ap shape_kind is) ∙ shaped in cc)

  silent_variable : (t : Ty) → IsSilent (traits.in_variable t)
  silent_variable t = record { quiet = λ e. refl; still = λ e. refl; literal = λ number e. absurd (let z : None ≡ Some number = e in cc); calm = λ number e. absurd (let z : None ≡ Some number = e in cc) }

  -- the name of a variable outside blocks
  name_here : (unreadable writable : Bool) (list : FlowPlace → List ℕ) (class : ℕ) (may : May) (number : ℕ) (t : Ty) → ((place : FlowPlace) (label used : ℕ) → list (record place { label = label; used = used }) ≡ list place) → is_block_class class ≡ false
      → (unreadable ≡ false → may.reads ≡ true) → (writable ≡ true → may.stores ≡ true) → IsNamed whole main local_size rank f s p.structs class may list number t
      → Fits whole main local_size rank f s p unreadable writable false t 0 (lowering.leading p.structs t (named list class number) (traits.in_variable t)) (needs.leading t (asking.given (own false)) (traits.in_variable t))
  name_here unreadable writable list class may number t lasts apart reads stores n =
      place_fits whole main local_size rank f s p around well.structs knows unreadable writable t 0 (named list class number) (asking.given (own false)) (traits.in_variable t) (traits.in_variable t) refl (silent_variable t) (record {
        types = [];
        lead = own false;
        spot = named_spot class may (shape_of t) n.type n.room;
        asked = wants_given (own false);
        agree = record { blocked = apart; waiting = refl; picked = refl; by = refl };
        loose = refl;
        shape = refl;
        reads = reads;
        reads_loose = λ e. absurd (let z : Some class ≡ None = e in cc);
        stores = stores;
        rooted = λ e. refl;
        lies = λ none. n.lies;
        reaches = λ deep low. named_reaches whole main local_size rank f knows.sorted s deep list number class may (shape_of t) n.type n.room lasts n.is (lies_stands (Some class) may n.room t n.type n.lies (shape_of t) refl);
      })

  pub local_here : (number : ℕ) (t : Ty) → slice_get locals number ≡ Some t → Here (ExprKind-F.Local number) t
  local_here number t is = name_here false true (λ place. place.locals) storage_class.FUNCTION both number t (λ place label used. refl) refl (λ e. refl) (λ e. refl) (knows.locals number t is)

  pub param_here : (number : ℕ) (t : Ty) → HasParamType params number t → Here (ExprKind-F.Param number) t
  param_here number t is = name_here false true (λ place. place.params) storage_class.FUNCTION both number t (λ place label used. refl) refl (λ e. refl) (λ e. refl) (knows.params number t is)

  pub global_here : (number : ℕ) (t : Ty) → HasGlobalType p.globals number t → Here (ExprKind-F.Global number) t
  global_here number t is = name_here false (write_form (ExprKind-F.Global number)) (λ place. place.globals) storage_class.PRIVATE both number t (λ place label used. refl) refl (λ e. refl) (λ e. refl) (knows.globals number t is)

  interface_apart : (i : Interface) → is_block_class (interface_class (Some i)) ≡ false
  interface_apart i = by i.output
    where
      by : (b : Bool) → is_block_class (class_by b) ≡ false
      by true = refl
      by false = refl

  pub interface_here : (number : ℕ) (t : Ty) → HasInterfaceType p.interfaces number t → Here (ExprKind-F.Interface number) t
  interface_here number t is =
      subst (λ o. Fits whole main local_size rank f s p false (is_output o) false t 0 (lowering.leading p.structs t (named (λ place. place.interfaces) (interface_class o) number) (traits.in_variable t)) (needs.leading t (asking.given (own false)) (traits.in_variable t))) (sym is.1)
      (name_here false is.0.output (λ place. place.interfaces) (interface_class (Some is.0)) (may_interface is.0.output) number t (λ place label used. refl) (interface_apart is.0) (λ e. refl) (λ e. e)
      (subst (IsNamed whole main local_size rank f s p.structs (interface_class (Some is.0)) (may_interface is.0.output) (λ place. place.interfaces) number) is.2 (knows.interfaces number is.0 is.1)))

  -- ---- members of blocks

  -- what is given for its length is not looked at
  with_length : (unreadable writable valued : Bool) (t : Ty) (depth : ℕ) (l : Lower) (length : Emit ℕ) (n : Asking) → Fits whole main local_size rank f s p unreadable writable valued t depth l n → Fits whole main local_size rank f s p unreadable writable valued t depth (record l { length = length }) n
  with_length unreadable writable valued t depth l length n is = record {
    typed = is.typed;
    asks_typed = is.asks_typed;
    same = is.same;
    silent = is.silent;
    gives = λ readable fixed has. let g = is.gives readable fixed has in record { types = g.types; asked = g.asked; evaluates = g.evaluates };
    leads = λ root.
        let there = is.leads root in
        record {
          types = there.types;
          lead = there.lead;
          spot = there.spot;
          asked = there.asked;
          agree = there.agree;
          loose = there.loose;
          shape = there.shape;
          reads = there.reads;
          reads_loose = there.reads_loose;
          stores = there.stores;
          rooted = there.rooted;
          lies = there.lies;
          reaches = there.reaches;
        };
  }

  pub member_here : (block number : ℕ) (t : Ty) → HasMemberType around block number t → Here (ExprKind-F.BlockMember block number) t
  member_here block number t is =
      let n = knows.members block number t is in
      let may = may_member around block number in
      with_length (is_writeonly (block_member around block number)) (may_write_member around block number) false t 0 (lowering.leading p.structs t (in_block block number) (traits.in_variable t)) (parts.block_length block number) (needs.leading t (asking.given (own true)) (traits.in_variable t))
      (place_fits whole main local_size rank f s p around well.structs knows (is_writeonly (block_member around block number)) (may_write_member around block number) t 0 (in_block block number) (asking.given (own true)) (traits.in_variable t) (traits.in_variable t) refl (silent_variable t) (record {
        types = [];
        lead = own true;
        spot = named_spot n.class may (shape_of t) n.type n.room;
        asked = wants_given (own true);
        agree = record { blocked = n.blocked; waiting = refl; picked = refl; by = refl };
        loose = refl;
        shape = refl;
        reads = λ e. ap not e;
        reads_loose = λ e. absurd (let z : Some n.class ≡ None = e in cc);
        stores = λ e. e;
        rooted = λ e. refl;
        lies = λ none. n.lies;
        reaches = λ deep low. block_reaches whole main local_size rank f knows.sorted s deep block number n.class may (shape_of t) n.type n.room n.is (lies_stands (Some n.class) may n.room t n.type n.lies (shape_of t) refl);
      }))

  -- ---- operators on one

  pub unary_here : (op : UnaryOp) (a : Expr) (t : Ty) → Is a → MayBeRead around a → Has (type_of a) → IsUnary op (type_of a) t → Here (ExprKind-F.Unary op a) t
  unary_here op a t is reads has_a (x, y, shaped, gives, of) =
      value_form t (expr_depth a) (λ u. behind ((low a).value u) (λ v. lift (operators.unary op (of_type (low a) v)))) (ask a).value (low a).traits.splits (low a).traits.calls (low a).traits.quiet (traits.of_one (ask a).traits) (ap traits.of_one is.same) is.silent.quiet
      (λ has.
      let g = value_of a is reads has_a in
      let suits = unary_suits op x y gives in
      record {
        types = g.types;
        asked = g.asked;
        evaluates = λ deep low_enough.
            subst (λ type. E (ids_for g.types) deep (low a).traits.splits type (λ u. behind ((low a).value u) (λ v. lift (operators.unary op (of_type (low a) v))))) (ids_same (type_of a) t x shaped (ap shape_of (sym of) ∙ shape_back y ∙ ap (λ z. Some z) (sym suits.1)))
            (unary_evaluates whole main local_size rank f knows.sorted s (ids_for g.types) deep (low a).traits.splits (id_for (type_of a)) op (low a) (plain_at a is x shaped has_a) (subst (SuitsOne op) (sym (low_shape a is x shaped)) suits.0) (g.evaluates deep low_enough));
      })

  pub convert_here : (a : Expr) (t : Ty) → Is a → MayBeRead around a → Has (type_of a) → (x y : Shape) → shape_of (type_of a) ≡ Some x → shape_of t ≡ Some y → x.1 ≡ y.1 → Here (ExprKind-F.Convert a) t
  convert_here a t is reads has_a x y shaped to same =
      value_form t (expr_depth a) (λ u. behind ((low a).value u) (λ v. lift (operators.converted (scalar_of t) (of_type (low a) v)))) (ask a).value (low a).traits.splits (low a).traits.calls (low a).traits.quiet (traits.of_one (ask a).traits) (ap traits.of_one is.same) is.silent.quiet
      (λ has.
      let g = value_of a is reads has_a in
      let of_result : P (scalar_of t, (shape_or (low a).ty).1) (id_for t) =
      subst (λ (z : Shape). P z (id_for t)) (ap (λ (n : ℕ). (y.0, n)) (sym same) ∙ ap (λ (k : Scalar). (k, x.1)) (sym (ap (λ (z : Shape). z.0) (shape_or_is t y to))) ∙ ap (λ (z : Shape). (scalar_of t, z.1)) (sym (low_shape a is x shaped))) (plain_known whole main local_size rank f s p.structs t y to has) in
      record {
        types = g.types;
        asked = g.asked;
        evaluates = λ deep low_enough. conversion_evaluates whole main local_size rank f knows.sorted s (ids_for g.types) deep (low a).traits.splits (id_for (type_of a)) (id_for t) (scalar_of t) (low a) (plain_at a is x shaped has_a) of_result (g.evaluates deep low_enough);
      })
