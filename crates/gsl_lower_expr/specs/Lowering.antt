-- What every expression is lowered to (GLSL 4.50, chapter 5 and 6.1).
use Rattle.std.specs.Prelude.{ℕ, List, slice_get}
use Rattle.gsl_instr.specs.declared.enumerant.storage_class.TheConstants as storage_class
use Rattle.gsl_types.specs.declared.ty.StructType.{StructType}
use Rattle.gsl_types.specs.declared.ty.Ty.{Ty}
use Rattle.gsl_tree.specs.declared.expr.Expr.{Expr}
use Rattle.gsl_tree.specs.declared.expr.ExprKind.{ExprKind}
use Rattle.gsl_tree.specs.declared.expr.ExprKind.TheOpen.{ExprKind-F, Expr-F}
use Rattle.gsl_tree.specs.declared.expr.ExprKind.TheFolds.{fold-Expr, fold-ExprKind, map-ExprKind}
use Rattle.gsl_tree.specs.declared.unit.Interface.{Interface}
use Rattle.gsl_lower_values.specs.Operators as operators
use Rattle.gsl_lower_places.specs.declared.reached.Reached.{Reached}
use Rattle.gsl_lower_traits.specs.declared.traits.Traits.{Traits}
use Rattle.gsl_lower_holders.specs.Flow.{Emit, ◌>>=◌, lacking, lift}
use Rattle.gsl_lower_expr.specs.Parts.{Lower, accessed, assigned, binary, block_length, called_of, chosen, constant_by, constructed, counted, in_block, indexed, interface_class, known_of, logical, loose_value, member, named, of_type, scalar_of, sequence, shape_or, stage_value, stepped, swizzled_by, updated}
use Rattle.gsl_lower_traits.specs.Traits.{traits_by}

-- What expressions stand in: the struct types, the inputs and outputs of the program, and what a call of a function of the program is lowered to,
-- by its number, its arguments and its type.
pub record Setting : Type 0 where
  pub structs : List StructType
  pub interfaces : List Interface
  pub call : ℕ → List Lower → Ty → Emit ℕ

-- ---- what leads to a variable or a part of one, and what gives a value

abbrev pub Code : Type 0
Code = Traits → Lower

abbrev pub leading : List StructType → Ty → Emit Reached → Code
leading structs t reach traits = record { ty = t; traits = traits; reach = reach; value = accessed structs t reach; length = lacking }

abbrev pub giving_value : Ty → Emit ℕ → Code
giving_value t value traits = record { ty = t; traits = traits; reach = value >>= loose_value t; value = value; length = lacking }

-- ---- every kind of expression

abbrev pub code_by : Setting → ExprKind-F (Ty → Lower) Lower → Ty → Code
code_by s (ExprKind-F.Const v) t = giving_value t (lift (constant_by (shape_or t) v))
code_by s (ExprKind-F.Local number) t = leading s.structs t (named (λ place. place.locals) storage_class.FUNCTION number)
code_by s (ExprKind-F.Global number) t = leading s.structs t (named (λ place. place.globals) storage_class.PRIVATE number)
code_by s (ExprKind-F.Param number) t = leading s.structs t (named (λ place. place.params) storage_class.FUNCTION number)
code_by s (ExprKind-F.BlockMember block number) t = λ traits. record (leading s.structs t (in_block block number) traits) { length = block_length block number }
code_by s (ExprKind-F.Stage var) t = giving_value t (stage_value var t)
code_by s (ExprKind-F.Interface number) t = leading s.structs t (named (λ place. place.interfaces) (interface_class (slice_get s.interfaces number)) number)
code_by s (ExprKind-F.Member a number) t = leading s.structs t (member a number)
code_by s (ExprKind-F.Index a i) t = leading s.structs t (indexed s.structs a i)
code_by s (ExprKind-F.Swizzle a lanes) t = leading s.structs t (swizzled_by a lanes)
code_by s (ExprKind-F.Length a) t = giving_value t (counted a)
code_by s (ExprKind-F.Unary op a) t = giving_value t (a.value >>= (λ x. lift (operators.unary op (of_type a x))))
code_by s (ExprKind-F.Binary op a b) t = giving_value t (binary s.structs op a b)
code_by s (ExprKind-F.Logic op a b) t = giving_value t (logical op a b)
code_by s (ExprKind-F.Choose test a b) t = giving_value t (chosen t test a b)
code_by s (ExprKind-F.Assign a b) t = giving_value t (assigned s.structs a b)
code_by s (ExprKind-F.Update op a b) t = giving_value t (updated s.structs op a b)
code_by s (ExprKind-F.Step op a) t = giving_value t (stepped s.structs op a)
code_by s (ExprKind-F.Call number args) t = giving_value t (s.call number args t)
code_by s (ExprKind-F.Built which args) t = giving_value t (called_of which args)
code_by s (ExprKind-F.Build args) t = giving_value t (constructed t args)
code_by s (ExprKind-F.Convert a) t = giving_value t (a.value >>= (λ x. lift (operators.converted (scalar_of t) (of_type a x))))
code_by s (ExprKind-F.Comma items) t = giving_value t (sequence 0 items)

abbrev pub lowered_by : Setting → ExprKind-F (Ty → Lower) Lower → Ty → Lower
lowered_by s layer t = code_by s layer t (traits_by (map-ExprKind _ _ _ _ (λ kind ty. (kind ty).traits) known_of layer) t)

abbrev pub typed_by : Expr-F (Ty → Lower) Lower → Lower
typed_by e = e.kind e.ty

-- What an expression is lowered to. Operands go from left to right, and one that does not count is not entered.
unfoldable pub lowers : Setting → Expr → Lower
lowers s = fold-Expr (Ty → Lower) Lower (lowered_by s) typed_by

-- what is of a kind is lowered to, where it has a type
unfoldable pub kind_lowers : Setting → ExprKind → Ty → Lower
kind_lowers s = fold-ExprKind (Ty → Lower) Lower (lowered_by s) typed_by
