-- What lowering asks for at every expression: a holder for each value that waits, in the order in which they are used; the types of arrays and
-- structs that are built; and the built-in variables.
use Rattle.std.specs.Prelude.{ℕ, Bool, true, false, not, ◌&&◌, ◌||◌, if◌then◌else◌, List, [], ◌∷◌, ◌++◌, slice_get, Option, Some, None}
use Rattle.gsl_types.specs.declared.ty.Direction.{Direction}
use Rattle.gsl_types.specs.declared.ty.Direction.TheVariants.{In, Out, InOut}
use Rattle.gsl_types.specs.declared.ty.Scalar.{Scalar}
use Rattle.gsl_types.specs.declared.ty.Scalar.TheVariants.{Bool as Boolean, Uint}
use Rattle.gsl_types.specs.declared.ty.Ty.{Ty}
use Rattle.gsl_types.specs.declared.ty.Ty.TheVariants as ty
use Rattle.gsl_tree.specs.Shapes.{Shape, shape_of}
use Rattle.gsl_tree.specs.Weights.{params_of}
use Rattle.gsl_tree.specs.declared.expr.Expr.{Expr}
use Rattle.gsl_tree.specs.declared.expr.ExprKind.{ExprKind}
use Rattle.gsl_tree.specs.declared.expr.ExprKind.TheOpen.{ExprKind-F, Expr-F}
use Rattle.gsl_tree.specs.declared.expr.ExprKind.TheFolds.{fold-Expr, fold-ExprKind, map-ExprKind}
use Rattle.gsl_tree.specs.declared.expr.LogicOp.{LogicOp}
use Rattle.gsl_tree.specs.declared.unit.Prototype.{Prototype}
use Rattle.gsl_lower_traits.specs.declared.traits.Traits.{Traits}
use Rattle.gsl_lower_traits.specs.Traits.{Known, is_plain, is_selected, is_short, spills, traits_by}
use Rattle.gsl_lower_expr.specs.Parts.{scalar_of}
use Rattle.gsl_lower_needs.specs.declared.need.Need.TheVariants.{Holder, Built, Stage}
use Rattle.gsl_lower_needs.specs.declared.lead.Lead.{Lead}
use Rattle.gsl_lower_needs.specs.Asking.{Ask, ◌>>=◌, given, need}

-- What is asked for at an expression: where it is read or stored, and for its value. Beside that its type, and what is known of it before.
pub record Asking : Type 0 where
  pub ty : Ty
  pub traits : Traits
  pub reach : Ask Lead
  pub value : Ask (Unit {0})

abbrev pub known_of : Asking → Known
known_of e = record { ty = e.ty; traits = e.traits }

-- ---- what an expression leads to: the types of the ids in it, which wait together

-- the whole of a variable, in a block or not
abbrev pub own : Bool → Lead
own in_block = record { in_block = in_block; waiting = []; picked = false; by = None }

-- a value of a type that is in no variable
abbrev pub loose : Ty → Lead
loose t = record { in_block = false; waiting = t ∷ []; picked = false; by = None }

abbrev pub index_types : Option Scalar → List Ty
index_types None = []
index_types (Some s) = ty.One s ∷ []

-- the index into a vector, or into a swizzle of one, whose positions are words
abbrev pub picked_by : Bool → Option Scalar → Option Scalar → Option Scalar
picked_by false by i = i
picked_by true by None = by
picked_by true None (Some s) = Some Uint
picked_by true (Some one) (Some s) = Some one

-- the part at an index that is known, or is a value of a scalar type
abbrev pub part_at : Option Shape → Option Scalar → Lead → Lead
part_at (Some shape) i lead = record lead { picked = true; by = picked_by lead.picked lead.by i }
part_at None i lead = record lead { waiting = lead.waiting ++ index_types i }

abbrev pub swizzled : Lead → Lead
swizzled lead = record lead { picked = true }

-- ---- holders

-- a value of a type, where it waits
unfoldable pub hold : Bool → Ty → Ask (Unit {0})
hold false t = given tt
hold true t = need (Holder t)

unfoldable pub holders : List Ty → Ask (Unit {0})
holders [] = given tt
holders (t ∷ ts) = need (Holder t) >>= (λ done. holders ts)

abbrev pub by_holder : Option Scalar → Ask (Unit {0})
by_holder None = given tt
by_holder (Some s) = need (Holder (ty.One s))

unfoldable pub hold_lead : Bool → Lead → Ask (Unit {0})
hold_lead false lead = given tt
hold_lead true lead = holders lead.waiting >>= (λ done. by_holder lead.by)

-- what is in a block and is no scalar and no vector is read by way of a holder
unfoldable pub reads : Ty → Lead → Ask (Unit {0})
reads t lead = hold (lead.in_block && not (is_plain t)) t

-- ---- parts

unfoldable pub spilled : Bool → Ty → Lead → Ask Lead
spilled false t lead = given lead
spilled true t lead = reads t lead >>= (λ a. need (Holder t) >>= (λ b. given (own false)))

abbrev pub index_by : Asking → Option ℕ → Ask (Option Scalar)
index_by i (Some number) = given None
index_by i None = i.value >>= (λ done. given (Some (scalar_of i.ty)))

abbrev pub indexed : Asking → Asking → Ask Lead
indexed a i =
    a.reach >>= spilled (spills (known_of a) i.traits) a.ty >>= (λ lead. hold_lead i.traits.splits lead >>= (λ done. index_by i i.traits.literal >>= (λ s. given (part_at (shape_of a.ty) s lead))))

-- ---- operands

abbrev pub any_splits : List Asking → Bool
any_splits [] = false
any_splits (e ∷ es) = e.traits.splits || any_splits es

abbrev pub of_two : Asking → Asking → Ask (Unit {0})
of_two a b = a.value >>= (λ x. hold b.traits.splits a.ty >>= (λ done. b.value))

abbrev pub short : Asking → Asking → Ask (Unit {0})
short a b = a.value >>= (λ x. need (Holder (ty.One Boolean)) >>= (λ done. b.value))

abbrev pub logical : LogicOp → Asking → Asking → Ask (Unit {0})
logical which a b = if is_short which b.traits then short a b else of_two a b

abbrev pub forked : Ty → Asking → Asking → Asking → Ask (Unit {0})
forked t test a b = test.value >>= (λ x. need (Holder t) >>= (λ done. a.value >>= (λ y. b.value)))

abbrev pub picked_one : Asking → Asking → Asking → Ask (Unit {0})
picked_one test a b = test.value >>= (λ x. a.value >>= (λ y. b.value))

abbrev pub chosen : Ty → Asking → Asking → Asking → Ask (Unit {0})
chosen t test a b = if is_selected t a.traits b.traits then picked_one test a b else forked t test a b

abbrev pub assigned : Asking → Asking → Ask (Unit {0})
assigned a b = a.reach >>= (λ lead. hold_lead b.traits.splits lead >>= (λ done. b.value))

-- `op=` keeps the old value, and then where the new one goes
unfoldable pub updated_at : Ty → Traits → Lead → Ask (Unit {0})
updated_at t b lead = reads t lead >>= (λ x. hold b.splits t >>= (λ y. hold_lead b.splits lead))

abbrev pub updated : Asking → Asking → Ask (Unit {0})
updated a b = a.reach >>= (λ lead. updated_at a.ty b.traits lead >>= (λ done. b.value))

-- ---- rows

unfoldable pub keeps : List Asking → Ask (Unit {0})
keeps [] = given tt
keeps (e ∷ es) = e.value >>= (λ x. hold (any_splits es) e.ty >>= (λ done. keeps es))

unfoldable pub sequence : List Asking → Ask (Unit {0})
sequence [] = given tt
sequence (e ∷ es) = e.value >>= (λ x. sequence es)

unfoldable pub built_of : Ty → Ask (Unit {0})
built_of t = if is_plain t then given tt else need (Built t)

-- ---- arguments

abbrev pub in_holder : Ty → Ask (Unit {0})
in_holder t = need (Holder t)

unfoldable pub passed_out : Bool → Ty → Lead → Ask (Unit {0})
passed_out waits t lead = hold_lead waits lead >>= (λ done. in_holder t)

unfoldable pub passed_both : Bool → Ty → Ty → Lead → Ask (Unit {0})
passed_both waits t arg lead = reads arg lead >>= (λ x. passed_out waits t lead)

abbrev pub passing : Bool → Direction → Ty → Asking → Ask (Unit {0})
passing waits In t arg = arg.value >>= (λ x. in_holder t)
passing waits Out t arg = arg.reach >>= passed_out waits t
passing waits InOut t arg = arg.reach >>= passed_both waits t arg.ty

unfoldable pub passing_all : List Asking → List (Direction × Ty) → Ask (Unit {0})
passing_all [] params = given tt
passing_all (arg ∷ args) [] = given tt
passing_all (arg ∷ args) (param ∷ params) = passing (any_splits args) param.0 param.1 arg >>= (λ done. passing_all args params)

-- ---- every kind of expression

abbrev pub Code : Type 0
Code = Traits → Asking

abbrev pub leading : Ty → Ask Lead → Code
leading t reach traits = record { ty = t; traits = traits; reach = reach; value = reach >>= reads t }

abbrev pub giving_value : Ty → Ask (Unit {0}) → Code
giving_value t value traits = record { ty = t; traits = traits; reach = value >>= (λ done. given (loose t)); value = value }

abbrev pub code_by : List Prototype → ExprKind-F (Ty → Asking) Asking → Ty → Code
code_by s (ExprKind-F.Const v) t = giving_value t (given tt)
code_by s (ExprKind-F.Local number) t = leading t (given (own false))
code_by s (ExprKind-F.Global number) t = leading t (given (own false))
code_by s (ExprKind-F.Param number) t = leading t (given (own false))
code_by s (ExprKind-F.BlockMember block number) t = leading t (given (own true))
code_by s (ExprKind-F.Stage var) t = giving_value t (need (Stage var))
code_by s (ExprKind-F.Interface number) t = leading t (given (own false))
code_by s (ExprKind-F.Member a number) t = leading t a.reach
code_by s (ExprKind-F.Index a i) t = leading t (indexed a i)
code_by s (ExprKind-F.Swizzle a lanes) t = leading t (a.reach >>= (λ lead. given (swizzled lead)))
code_by s (ExprKind-F.Length a) t = giving_value t (given tt)
code_by s (ExprKind-F.Unary op a) t = giving_value t a.value
code_by s (ExprKind-F.Binary op a b) t = giving_value t (of_two a b)
code_by s (ExprKind-F.Logic op a b) t = giving_value t (logical op a b)
code_by s (ExprKind-F.Choose test a b) t = giving_value t (chosen t test a b)
code_by s (ExprKind-F.Assign a b) t = giving_value t (assigned a b)
code_by s (ExprKind-F.Update op a b) t = giving_value t (updated a b)
code_by s (ExprKind-F.Step op a) t = giving_value t (a.reach >>= reads a.ty)
code_by s (ExprKind-F.Call number args) t = giving_value t (passing_all args (params_of (slice_get s number)))
code_by s (ExprKind-F.Built which args) t = giving_value t (keeps args)
code_by s (ExprKind-F.Build args) t = giving_value t (keeps args >>= (λ done. built_of t))
code_by s (ExprKind-F.Convert a) t = giving_value t a.value
code_by s (ExprKind-F.Comma items) t = giving_value t (sequence items)

abbrev pub asked_by : List Prototype → ExprKind-F (Ty → Asking) Asking → Ty → Asking
asked_by s layer t = code_by s layer t (traits_by (map-ExprKind _ _ _ _ (λ kind ty. (kind ty).traits) known_of layer) t)

abbrev pub typed_by : Expr-F (Ty → Asking) Asking → Asking
typed_by e = e.kind e.ty

-- what is asked for at an expression, where these are the heads of functions
unfoldable pub asks : List Prototype → Expr → Asking
asks s = fold-Expr (Ty → Asking) Asking (asked_by s) typed_by

-- and at what is of a kind, where it has a type
unfoldable pub kind_asks : List Prototype → ExprKind → Ty → Asking
kind_asks s = fold-ExprKind (Ty → Asking) Asking (asked_by s) typed_by
