-- Operators on two.
use Rattle.std.proofs.Common.{◌≡◌, ◌≢◌, ℕ, ◌≤◌, Bool, true, false, ◌&&◌, ◌||◌, List, ◌++◌, Option, Some, None, refl, sym, ap, ◌∙◌, subst, arith, inl, inr, ◌⊎◌}
use Rattle.std.specs.Prelude.{max, nat_eq}
use Rattle.std.specs.List.{AllByRecursion}
use Rattle.std.proofs.lemmas.Bool.{and_parts, eqb-true}
use Rattle.gsl_types.specs.declared.ty.Direction.{Direction}
use Rattle.gsl_types.specs.declared.ty.Scalar.{Scalar}
use Rattle.gsl_types.specs.declared.ty.Scalar.TheVariants.{Bool as Boolean, Int, Uint}
use Rattle.gsl_types.specs.declared.ty.Ty.{Ty}
use Rattle.gsl_types.specs.declared.ty.Ty.TheOpen.{Ty-F}
use Rattle.gsl_types.specs.declared.ty.Ty.TheVariants as ty
use Rattle.gsl_types.specs.declared.ty.Ty.TheVariants.{outs-One}
use Rattle.gsl_types.specs.declared.ty.Ty.TheViews.{out-Ty}
use Rattle.gsl_values.specs.declared.op.BinaryOp.{BinaryOp}
use Rattle.gsl_values.specs.declared.op.BinaryOp.TheVariants.{Add, Sub, Mul, Div, Mod, Shl, Shr, And, Or, Xor, Less, LessEq, Greater, GreaterEq, Equal, Unequal}
use Rattle.gsl_tree.specs.Around.{Around}
use Rattle.gsl_tree.specs.Expressions.{IsBinary, MayBeRead, boolean, is_value_layer, is_value_type}
use Rattle.gsl_tree.specs.Shapes.{Shape, arithmetic_shape, binary_shape, flag, is_equality, is_integer, relation_shape, same_scalar, serves_beside, shape_kind, shape_of, shift_shape, when}
use Rattle.gsl_tree.specs.Statements.{expr_depth}
use Rattle.gsl_tree.specs.Trees.{type_of}
use Rattle.gsl_tree.specs.WellTyped.{AreWellTyped, around_body, program_lists}
use Rattle.gsl_tree.specs.declared.expr.Expr.{Expr}
use Rattle.gsl_tree.specs.declared.expr.ExprKind.{ExprKind}
use Rattle.gsl_tree.specs.declared.expr.ExprKind.TheOpen.{ExprKind-F}
use Rattle.gsl_tree.specs.declared.program.Program.{Program}
use Rattle.gsl_spv.specs.Sections.{Sections}
use Rattle.gsl_lower_law.specs.Operands.{Beside, Fit}
use Rattle.gsl_lower_leaves.specs.Leaves.{leaves_of}
use Rattle.gsl_lower_holders.specs.Flow.{Emit, Flow}
use Rattle.gsl_lower_traits.specs.Traits as traits
use Rattle.gsl_lower_traits.specs.declared.traits.Traits.{Traits}
use Rattle.gsl_lower_expr.specs.Parts as parts
use Rattle.gsl_lower_expr.specs.Parts.{shape_or}
use Rattle.gsl_lower_needs.specs.Needs as needs
use Rattle.gsl_fitting.specs.Fits.{Frame}
use Rattle.gsl_fitting_operators.specs.Operands.{Suits, pair_shape}
use Rattle.gsl_fitting_flow.specs.Flowing.{asked_if}
use Rattle.gsl_fitting_expr.proofs.Operands.{binary_evaluates}
use Rattle.gsl_fitting_expr.proofs.Yielding.{or_false}
use Rattle.gsl_fitting_known.proofs.OfFittingKinds.{equality_evaluates}
use Rattle.gsl_fitting_leaves.specs.Wholes.{Equates}
use Rattle.gsl_fitting_known.specs.OfFittingReads.{GivesLeaf, both}
use Rattle.gsl_fitting_known.specs.Ids.{Wants}
use Rattle.gsl_fitting_known.specs.Known.{Knows}
use Rattle.gsl_fitting_known.proofs.Found.{layer_real}
use Rattle.gsl_fitting_known.proofs.Leaves.{leaves_given}
use Rattle.gsl_fitting_valued.proofs.Simple as simple
use Rattle.gsl_fitting_known.proofs.Types.{or_cases, plain_known, shaped_known, some_is, type_known}
use Rattle.gsl_fitting_known.proofs.Wanting.{two_for, types_if, wants_two}

-- ---- shapes that operators take

when_given : (b : Bool) (x y : Shape) → when b x ≡ Some y → (b ≡ true) × (x ≡ y)
when_given true x y is = (refl, some_is x y is)
when_given false x y is = absurd (let z : None ≡ Some y = is in cc)

scalars_same : (a b : Scalar) → same_scalar a b ≡ true → a ≡ b
scalars_same Boolean Boolean is = refl
scalars_same Int Int is = refl
scalars_same Uint Uint is = refl
scalars_same Boolean Int is = absurd (let z : false ≡ true = is in cc)
scalars_same Boolean Uint is = absurd (let z : false ≡ true = is in cc)
scalars_same Int Boolean is = absurd (let z : false ≡ true = is in cc)
scalars_same Int Uint is = absurd (let z : false ≡ true = is in cc)
scalars_same Uint Boolean is = absurd (let z : false ≡ true = is in cc)
scalars_same Uint Int is = absurd (let z : false ≡ true = is in cc)

-- An operator takes operands of two shapes, and gives one of a third.
pub record Takes (op : BinaryOp) (x y z : Shape) : Type 0 where
  pub fit : Fit op x.1 y.1
  pub suits : Suits op x.0 y.0
  pub gives : pair_shape op x y ≡ z

beside_by : (x y : ℕ) → (serves_beside x y || nat_eq x 1) ≡ true → Beside x y
beside_by x y is = by (or_cases (serves_beside x y) (nat_eq x 1) is)
  where
    by : (serves_beside x y ≡ true) ⊎ (nat_eq x 1 ≡ true) → Beside x y
    by (inl serves) = served (or_cases (nat_eq y x) (nat_eq y 1) serves)
      where
        served : (nat_eq y x ≡ true) ⊎ (nat_eq y 1 ≡ true) → Beside x y
        served (inl e) = inl (sym (eqb-true y x e))
        served (inr e) = inr (inr (eqb-true y 1 e))
    by (inr e) = inr (inl (eqb-true x 1 e))

served_by : (x y : ℕ) → 1 ≤ x → serves_beside x y ≡ true → Beside x y × (max x y ≡ x)
served_by x y some is = by (or_cases (nat_eq y x) (nat_eq y 1) is)
  where
    by : (nat_eq y x ≡ true) ⊎ (nat_eq y 1 ≡ true) → Beside x y × (max x y ≡ x)
    by (inl e) = let same = eqb-true y x e in (inl (sym same), omega (arith, same))
    by (inr e) = let one = eqb-true y 1 e in (inr (inr one), omega (arith, one, some))

-- two integers of one scalar type
record Arithmetic (x y z : Shape) : Type 0 where
  same : x.0 ≡ y.0
  integer : is_integer x.0 ≡ true
  beside : Beside x.1 y.1
  gives : (x.0, max x.1 y.1) ≡ z

arithmetic_of : (x y z : Shape) → arithmetic_shape x y ≡ Some z → Arithmetic x y z
arithmetic_of x y z is =
    let w = when_given (is_integer x.0 && same_scalar x.0 y.0 && (serves_beside x.1 y.1 || nat_eq x.1 1)) (x.0, max x.1 y.1) z is in
    let first = and_parts (is_integer x.0 && same_scalar x.0 y.0) (serves_beside x.1 y.1 || nat_eq x.1 1) w.0 in
    let second = and_parts (is_integer x.0) (same_scalar x.0 y.0) first.0 in
    record { same = scalars_same x.0 y.0 second.1; integer = second.0; beside = beside_by x.1 y.1 first.1; gives = w.1 }

record Shift (x y z : Shape) : Type 0 where
  first : is_integer x.0 ≡ true
  second : is_integer y.0 ≡ true
  beside : Beside x.1 y.1
  gives : (x.0, max x.1 y.1) ≡ z

shift_of : (x y z : Shape) → 1 ≤ x.1 → shift_shape x y ≡ Some z → Shift x y z
shift_of x y z some is =
    let w = when_given (is_integer x.0 && is_integer y.0 && serves_beside x.1 y.1) x z is in
    let first = and_parts (is_integer x.0 && is_integer y.0) (serves_beside x.1 y.1) w.0 in
    let second = and_parts (is_integer x.0) (is_integer y.0) first.0 in
    let served = served_by x.1 y.1 some first.1 in
    record { first = second.0; second = second.1; beside = served.0; gives = ap (λ (n : ℕ). (x.0, n)) served.1 ∙ w.1 }

record Relation (x y z : Shape) : Type 0 where
  same : x.0 ≡ y.0
  integer : is_integer x.0 ≡ true
  beside : Beside x.1 y.1
  gives : (Boolean, max x.1 y.1) ≡ z

relation_of : (x y z : Shape) → relation_shape x y ≡ Some z → Relation x y z
relation_of x y z is =
    let w = when_given (is_integer x.0 && same_scalar x.0 y.0 && nat_eq x.1 1 && nat_eq y.1 1) flag z is in
    let first = and_parts (is_integer x.0 && same_scalar x.0 y.0 && nat_eq x.1 1) (nat_eq y.1 1) w.0 in
    let second = and_parts (is_integer x.0 && same_scalar x.0 y.0) (nat_eq x.1 1) first.0 in
    let third = and_parts (is_integer x.0) (same_scalar x.0 y.0) second.0 in
    let one = eqb-true x.1 1 second.1 in
    let other = eqb-true y.1 1 first.1 in
    record { same = scalars_same x.0 y.0 third.1; integer = third.0; beside = inr (inl one); gives = ap (λ (n : ℕ). (Boolean, n)) (let same : max x.1 y.1 ≡ 1 = omega (arith, one, other) in same) ∙ w.1 }

pub operation_takes : (op : BinaryOp) (x y z : Shape) → 1 ≤ x.1 → binary_shape op x y ≡ Some z → Takes op x y z
operation_takes Add x y z some is = let r = arithmetic_of x y z is in record { fit = r.beside; suits = (r.same, r.integer); gives = r.gives }
operation_takes Sub x y z some is = let r = arithmetic_of x y z is in record { fit = r.beside; suits = (r.same, r.integer); gives = r.gives }
operation_takes Mul x y z some is = let r = arithmetic_of x y z is in record { fit = r.beside; suits = (r.same, r.integer); gives = r.gives }
operation_takes Div x y z some is = let r = arithmetic_of x y z is in record { fit = r.beside; suits = (r.same, r.integer); gives = r.gives }
operation_takes Mod x y z some is = let r = arithmetic_of x y z is in record { fit = r.beside; suits = (r.same, r.integer); gives = r.gives }
operation_takes And x y z some is = let r = arithmetic_of x y z is in record { fit = r.beside; suits = (r.same, r.integer); gives = r.gives }
operation_takes Or x y z some is = let r = arithmetic_of x y z is in record { fit = r.beside; suits = (r.same, r.integer); gives = r.gives }
operation_takes Xor x y z some is = let r = arithmetic_of x y z is in record { fit = r.beside; suits = (r.same, r.integer); gives = r.gives }
operation_takes Shl x y z some is = let r = shift_of x y z some is in record { fit = r.beside; suits = (r.first, r.second); gives = r.gives }
operation_takes Shr x y z some is = let r = shift_of x y z some is in record { fit = r.beside; suits = (r.first, r.second); gives = r.gives }
operation_takes Less x y z some is = let r = relation_of x y z is in record { fit = r.beside; suits = (r.same, r.integer); gives = r.gives }
operation_takes LessEq x y z some is = let r = relation_of x y z is in record { fit = r.beside; suits = (r.same, r.integer); gives = r.gives }
operation_takes Greater x y z some is = let r = relation_of x y z is in record { fit = r.beside; suits = (r.same, r.integer); gives = r.gives }
operation_takes GreaterEq x y z some is = let r = relation_of x y z is in record { fit = r.beside; suits = (r.same, r.integer); gives = r.gives }
operation_takes Equal x y z some is = absurd (let e : None ≡ Some z = is in cc)
operation_takes Unequal x y z some is = absurd (let e : None ≡ Some z = is in cc)

equality_takes : (op : BinaryOp) (x : Shape) → is_equality op ≡ true → Takes op x x flag × Equates op
equality_takes Equal x is = (record { fit = refl; suits = refl; gives = refl }, inl refl)
equality_takes Unequal x is = (record { fit = refl; suits = refl; gives = refl }, inr refl)
equality_takes _ x is = absurd (let e : false ≡ true = is in cc)

-- ---- labels

pub two_silent : (first second also splits others more : Bool) → (first ≡ true → splits ≡ false) → (second ≡ true → others ≡ false) → (second ≡ true → more ≡ false) → (first && second && also) ≡ true → (splits || others || more) ≡ false
two_silent first second also splits others more one two three quiet =
    let both = and_parts (first && second) also quiet in
    let each = and_parts first second both.0 in
    ap (λ b. b || others || more) (one each.0) ∙ ap (λ b. b || more) (two each.1) ∙ three each.1

pub max_left : (a b d : ℕ) → max a b ≤ d → a ≤ d
max_left a b d low = omega (arith, low)

pub max_right : (a b d : ℕ) → max a b ≤ d → b ≤ d
max_right a b d low = omega (arith, low)

pub value_real : (t : Ty) → is_value_type t ≡ true → t ≢ ty.Void
value_real t is = by (out-Ty t) refl is
  where
    by : (of : Ty-F Ty) → out-Ty t ≡ of → is_value_layer of ≡ true → t ≢ ty.Void
    by Ty-F.Void e is = absurd (let z : false ≡ true = is in cc)
    by (Ty-F.One s) e is = layer_real t (Ty-F.One s) e refl
    by (Ty-F.Vector s n) e is = layer_real t (Ty-F.Vector s n) e refl
    by (Ty-F.Array a n) e is = layer_real t (Ty-F.Array a n) e refl
    by (Ty-F.Runtime a) e is = layer_real t (Ty-F.Runtime a) e refl
    by (Ty-F.Struct k) e is = layer_real t (Ty-F.Struct k) e refl

pub boolean_shape : (t : Ty) → t ≡ boolean → shape_of t ≡ Some flag
boolean_shape t is = ap shape_of is ∙ ap shape_kind (outs-One Boolean)

module _ (whole : Sections) (main : ℕ) (local_size : List ℕ) (rank : ℕ → ℕ) (f : Frame) (s : Flow) (p : Program) (params : List (Direction × Ty)) (locals : List Ty) (well : AreWellTyped (program_lists p))
    (knows : Knows whole main local_size rank f s p.structs (around_body (program_lists p) params locals)) where
  abbrev Is : Expr → Type 0
  Is = simple.Is whole main local_size rank f s p params locals well knows

  abbrev Has : Ty → Type 0
  Has = simple.Has whole main local_size rank f s p params locals well knows

  abbrev Here : ExprKind-F ExprKind Expr → Ty → Type 0
  Here = simple.Here whole main local_size rank f s p params locals well knows

  abbrev low : Expr → parts.Lower
  low = simple.low whole main local_size rank f s p params locals well knows

  abbrev ask : Expr → needs.Asking
  ask = simple.ask whole main local_size rank f s p params locals well knows

  abbrev id_for : Ty → ℕ
  id_for = simple.id_for whole main local_size rank f s p params locals well knows

  abbrev ids_for : List Ty → List ℕ
  ids_for = simple.ids_for whole main local_size rank f s p params locals well knows

  abbrev E : List ℕ → ℕ → Bool → ℕ → Emit ℕ → Type 0
  E = simple.E whole main local_size rank f s p params locals well knows

  abbrev P : Shape → ℕ → Type 0
  P = simple.P whole main local_size rank f s p params locals well knows

  abbrev around : Around
  around = around_body (program_lists p) params locals

  -- what is asked for at two operands
  abbrev pub two_types : Expr → Expr → List Ty → List Ty → List Ty
  two_types a b ts us = ts ++ (types_if (low b).traits.splits (type_of a) ++ us)

  pub two_asked : (a b : Expr) (ts us : List Ty) → Is a → Is b → Wants (ask a).value tt ts → Wants (ask b).value tt us → Wants (needs.of_two (ask a) (ask b)) tt (two_types a b ts us)
  two_asked a b ts us is_a is_b first second =
      subst (λ (l : List Ty). Wants (needs.of_two (ask a) (ask b)) tt (ts ++ (l ++ us))) (ap (λ (k : Traits). types_if k.splits (ask a).ty) is_b.same ∙ ap (λ (t : Ty). types_if (low b).traits.splits t) is_a.asks_typed)
      (wants_two (ask a) (ask b) ts us first second)

  pub two_ids : (a b : Expr) (ts us : List Ty) → ids_for (two_types a b ts us) ≡ ids_for ts ++ (asked_if (low b).traits.splits (id_for (type_of a)) ++ ids_for us)
  two_ids a b ts us = two_for whole s.place ts (low b).traits.splits (type_of a) us

  pub pair_same : (more quiet : Bool) (a b : Expr) → Is a → Is b → traits.of_two more quiet (ask a).traits (ask b).traits ≡ traits.of_two more quiet (low a).traits (low b).traits
  pair_same more quiet a b is_a is_b = ap (λ (k : Traits). traits.of_two more quiet k (ask b).traits) is_a.same ∙ ap (λ (k : Traits). traits.of_two more quiet (low a).traits k) is_b.same

  -- ---- operators on two

  module _ (op : BinaryOp) (a b : Expr) (t : Ty) (is_a : Is a) (is_b : Is b) (read_a : MayBeRead around a) (read_b : MayBeRead around b) (has_a : Has (type_of a)) (has_b : Has (type_of b)) where
    abbrev value : Emit ℕ
    value = parts.binary p.structs op (low a) (low b)

    abbrev one : Bool
    one = (low a).traits.splits

    abbrev two : Bool
    two = (low b).traits.splits

    binary_shaped : (ts us : List Ty) (deep : ℕ) (x y z : Shape) → shape_of (type_of a) ≡ Some x → shape_of (type_of b) ≡ Some y → shape_of t ≡ Some z → Takes op x y z → Has t → E (ids_for ts) deep one (id_for (type_of a)) (low a).value → E (ids_for us) deep two (id_for (type_of b)) (low b).value
        → E (ids_for ts ++ (asked_if two (id_for (type_of a)) ++ ids_for us)) deep (one || two) (id_for t) value
    binary_shaped ts us deep x y z first second third takes has first_value second_value =
        let shape_a : shape_or (low a).ty ≡ x = simple.low_shape whole main local_size rank f s p params locals well knows a is_a x first in
        let shape_b : shape_or (low b).ty ≡ y = simple.low_shape whole main local_size rank f s p params locals well knows b is_b y second in
        let of_result : P (pair_shape op (shape_or (low a).ty) (shape_or (low b).ty)) (id_for t) =
        subst (λ (k : Shape). P (pair_shape op k (shape_or (low b).ty)) (id_for t)) (sym shape_a) (subst (λ (k : Shape). P (pair_shape op x k) (id_for t)) (sym shape_b)
        (subst (λ (k : Shape). P k (id_for t)) (sym takes.gives) (plain_known whole main local_size rank f s p.structs t z third has))) in
        let fit : Fit op (shape_or (low a).ty).1 (shape_or (low b).ty).1 = subst (λ (k : Shape). Fit op k.1 (shape_or (low b).ty).1) (sym shape_a) (subst (λ (k : Shape). Fit op x.1 k.1) (sym shape_b) takes.fit) in
        let suits : Suits op (shape_or (low a).ty).0 (shape_or (low b).ty).0 = subst (λ (k : Shape). Suits op k.0 (shape_or (low b).ty).0) (sym shape_a) (subst (λ (k : Shape). Suits op x.0 k.0) (sym shape_b) takes.suits) in
        binary_evaluates whole main local_size rank f knows.sorted s (ids_for ts) (ids_for us) deep one (id_for (type_of a)) (id_for (type_of b)) (id_for t) p.structs op (low a) (low b) x (ap shape_of is_a.typed ∙ first)
        (simple.known_at whole main local_size rank f s p params locals well knows a is_a (shaped_known whole main local_size rank f s p.structs (type_of a) x first has_a)) (simple.plain_at whole main local_size rank f s p params locals well knows a is_a x first has_a)
        (simple.plain_at whole main local_size rank f s p params locals well knows b is_b y second has_b) of_result fit suits first_value second_value

    binary_whole : (ts us : List Ty) (deep : ℕ) → shape_of (type_of a) ≡ None → type_of a ≢ ty.Void → type_of a ≡ type_of b → shape_of t ≡ Some flag → Equates op → Has t → E (ids_for ts) deep one (id_for (type_of a)) (low a).value → E (ids_for us) deep two (id_for (type_of b)) (low b).value
        → E (ids_for ts ++ (asked_if two (id_for (type_of a)) ++ ids_for us)) deep (one || two) (id_for t) value
    binary_whole ts us deep none real same shaped equates has first_value second_value =
        let known = type_known whole main local_size rank f s p.structs (type_of a) real has_a in
        let w = knows.wholes (type_of a) none known in
        let leaves = leaves_given whole main local_size rank f s.place p.structs well.structs both w.room (type_of a) (id_for (type_of a)) (w.lies None refl) in
        let there : AllByRecursion (GivesLeaf whole main local_size rank f (id_for (type_of a)) w.room) (leaves_of p.structs (low a).ty) = subst (λ (u : Ty). AllByRecursion (GivesLeaf whole main local_size rank f (id_for (type_of a)) w.room) (leaves_of p.structs u)) (sym is_a.typed) leaves in
        let also : AllByRecursion (GivesLeaf whole main local_size rank f (id_for (type_of b)) w.room) (leaves_of p.structs (low a).ty) = subst (λ (u : Ty). AllByRecursion (GivesLeaf whole main local_size rank f (id_for u) w.room) (leaves_of p.structs (low a).ty)) same there in
        equality_evaluates whole main local_size rank f knows.sorted s (ids_for ts) (ids_for us) deep w.room one (id_for (type_of a)) (id_for (type_of b)) (id_for t) p.structs op (low a) (low b) (ap shape_of is_a.typed ∙ none) equates w.small
        (simple.known_at whole main local_size rank f s p params locals well knows a is_a known) (plain_known whole main local_size rank f s p.structs t flag shaped has) there also first_value second_value

    binary_by : (ts us : List Ty) (deep : ℕ) → IsBinary around op (type_of a) (type_of b) t → Has t → E (ids_for ts) deep one (id_for (type_of a)) (low a).value → E (ids_for us) deep two (id_for (type_of b)) (low b).value
        → E (ids_for ts ++ (asked_if two (id_for (type_of a)) ++ ids_for us)) deep (one || two) (id_for t) value
    binary_by ts us deep (inr (x, y, z, first, second, gives, of)) has first_value second_value =
        binary_shaped ts us deep x y z first second (ap shape_of (sym of) ∙ simple.shape_back z) (operation_takes op x y z (plain_known whole main local_size rank f s p.structs (type_of a) x first has_a).sized.some gives) has first_value second_value
    binary_by ts us deep (inl (equates, (same, is_flag, valued, small))) has first_value second_value = by (shape_of (type_of a)) refl
      where
        by : (o : Option Shape) → shape_of (type_of a) ≡ o → E (ids_for ts ++ (asked_if two (id_for (type_of a)) ++ ids_for us)) deep (one || two) (id_for t) value
        by (Some x) first = binary_shaped ts us deep x x flag first (ap shape_of (sym same) ∙ first) (boolean_shape t is_flag) (equality_takes op x equates).0 has first_value second_value
        by None none = binary_whole ts us deep none (value_real (type_of a) valued) same (boolean_shape t is_flag) (equality_takes op flag equates).1 has first_value second_value

    pub binary_here : IsBinary around op (type_of a) (type_of b) t → Here (ExprKind-F.Binary op a b) t
    binary_here is =
        simple.value_form whole main local_size rank f s p params locals well knows t (max (expr_depth a) (expr_depth b)) value (needs.of_two (ask a) (ask b)) (one || two || false) ((low a).traits.calls || (low b).traits.calls) ((low a).traits.quiet && (low b).traits.quiet && traits.is_sure op)
        (traits.of_two false (traits.is_sure op) (ask a).traits (ask b).traits) (pair_same false (traits.is_sure op) a b is_a is_b)
        (two_silent (low a).traits.quiet (low b).traits.quiet (traits.is_sure op) one two false is_a.silent.quiet is_b.silent.quiet (λ e. refl))
        (λ has.
        let g = simple.value_of whole main local_size rank f s p params locals well knows a is_a read_a has_a in
        let h = simple.value_of whole main local_size rank f s p params locals well knows b is_b read_b has_b in
        record {
          types = two_types a b g.types h.types;
          asked = two_asked a b g.types h.types is_a is_b g.asked h.asked;
          evaluates = λ deep enough.
              subst (λ (l : List ℕ). E l deep (one || two || false) (id_for t) value) (sym (two_ids a b g.types h.types))
              (subst (λ (c : Bool). E (ids_for g.types ++ (asked_if two (id_for (type_of a)) ++ ids_for h.types)) deep c (id_for t) value) (sym (or_false (one || two)))
              (binary_by g.types h.types deep is has (g.evaluates deep (max_left (expr_depth a) (expr_depth b) deep enough)) (h.evaluates deep (max_right (expr_depth a) (expr_depth b) deep enough))));
        })
