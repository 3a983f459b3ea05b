-- What declarations weigh together.
use Rattle.std.proofs.Common.{◌≡◌, ap, ◌∙◌, refl, ℕ, ◌+◌, List, [], ◌∷◌, arith}
use Rattle.gsl_types.specs.declared.ty.Direction.{Direction}
use Rattle.gsl_types.specs.declared.ty.Member.{Member}
use Rattle.gsl_types.specs.declared.ty.Ty.{Ty}
use Rattle.gsl_types.specs.declared.ty.StructType.{StructType}
use Rattle.gsl_types.specs.Leaves.{told_leaves}
use Rattle.gsl_tree.specs.declared.stmt.Stmt.{Stmt}
use Rattle.gsl_tree.specs.declared.unit.Block.{Block}
use Rattle.gsl_tree.specs.declared.unit.BlockMember.{BlockMember}
use Rattle.gsl_tree.specs.declared.unit.Function.{Function}
use Rattle.gsl_tree.specs.declared.unit.GlobalVar.{GlobalVar}
use Rattle.gsl_tree.specs.declared.unit.Interface.{Interface}
use Rattle.gsl_tree.specs.declared.unit.Prototype.{Prototype}
use Rattle.gsl_tree.specs.Weights.{sum_over, declared_weight, struct_weight, block_weight, prototype_weight, global_weight, function_weight, body_weight, stmt_weight}
use Rattle.gsl_weights.specs.Telling.{up_to, in_turn}
use Rattle.gsl_weights.specs.Weighing.{declared_weighed, member_weighed, block_member_weighed, param_weighed, interface_weighed, struct_weighed, block_weighed, prototype_weighed, global_weighed, function_weighed, stmt_weighed, type_leaves, param_leaves, variable_leaves}
use Rattle.gsl_weights.proofs.Sums.{in_turn_is}

-- all of them, as a slice lends them
all_of : {A : Type 0} (count : A → ℕ) (add : ℕ → A → ℕ) → ((n : ℕ) (a : A) → add n a ≡ up_to (n + count a)) → (n all : ℕ) (items slice : List A)
    → all ≡ in_turn add n slice → slice ≡ items → up_to all ≡ up_to (n + sum_over count items)
all_of count add is n all items slice counted lent = ap up_to (counted ∙ ap (in_turn add n) lent) ∙ in_turn_is count add is n items

pub of_types : (n all : ℕ) (items slice : List Ty) → all ≡ in_turn declared_weighed n slice → slice ≡ items → up_to all ≡ up_to (n + sum_over declared_weight items)
of_types = all_of declared_weight declared_weighed (λ n a. refl)

pub of_members : (n all : ℕ) (items slice : List Member) → all ≡ in_turn member_weighed n slice → slice ≡ items → up_to all ≡ up_to (n + sum_over (λ (member : Member). declared_weight member.ty) items)
of_members = all_of (λ (member : Member). declared_weight member.ty) member_weighed (λ n a. refl)

pub of_block_members : (n all : ℕ) (items slice : List BlockMember) → all ≡ in_turn block_member_weighed n slice → slice ≡ items → up_to all ≡ up_to (n + sum_over (λ (member : BlockMember). declared_weight member.ty) items)
of_block_members = all_of (λ (member : BlockMember). declared_weight member.ty) block_member_weighed (λ n a. refl)

pub of_params : (n all : ℕ) (items slice : List (Direction × Ty)) → all ≡ in_turn param_weighed n slice → slice ≡ items → up_to all ≡ up_to (n + sum_over (λ (param : Direction × Ty). declared_weight param.1) items)
of_params = all_of (λ (param : Direction × Ty). declared_weight param.1) param_weighed (λ n a. refl)

pub of_structs : (n all : ℕ) (items slice : List StructType) → all ≡ in_turn struct_weighed n slice → slice ≡ items → up_to all ≡ up_to (n + sum_over struct_weight items)
of_structs = all_of struct_weight struct_weighed (λ n a. refl)

pub of_blocks : (n all : ℕ) (items slice : List Block) → all ≡ in_turn block_weighed n slice → slice ≡ items → up_to all ≡ up_to (n + sum_over block_weight items)
of_blocks = all_of block_weight block_weighed (λ n a. refl)

pub of_interfaces : (n all : ℕ) (items slice : List Interface) → all ≡ in_turn interface_weighed n slice → slice ≡ items → up_to all ≡ up_to (n + sum_over (λ (i : Interface). declared_weight i.ty) items)
of_interfaces = all_of (λ (i : Interface). declared_weight i.ty) interface_weighed (λ n a. refl)

pub of_prototypes : (n all : ℕ) (items slice : List Prototype) → all ≡ in_turn prototype_weighed n slice → slice ≡ items → up_to all ≡ up_to (n + sum_over prototype_weight items)
of_prototypes = all_of prototype_weight prototype_weighed (λ n a. refl)

module _ (structs : List StructType) where
  pub of_globals : (n all : ℕ) (items slice : List GlobalVar) → all ≡ in_turn (global_weighed structs) n slice → slice ≡ items → up_to all ≡ up_to (n + sum_over (global_weight structs) items)
  of_globals = all_of (global_weight structs) (global_weighed structs) (λ n a. refl)

  pub of_functions : (n all : ℕ) (items slice : List Function) → all ≡ in_turn (function_weighed structs) n slice → slice ≡ items → up_to all ≡ up_to (n + sum_over (function_weight structs) items)
  of_functions = all_of (function_weight structs) (function_weighed structs) (λ n a. refl)

  body_is : (stmts : List Stmt) → sum_over (stmt_weight structs) stmts ≡ body_weight structs stmts
  body_is [] = refl
  body_is (s ∷ stmts) = ap (λ n. stmt_weight structs s + n) (body_is stmts)

  pub of_body : (n all : ℕ) (stmts : List Stmt) → all ≡ in_turn (stmt_weighed structs) n stmts → up_to all ≡ up_to (n + body_weight structs stmts)
  unfolding stmt_weighed
  of_body n all stmts counted = all_of (stmt_weight structs) (stmt_weighed structs) (λ n a. refl) n all stmts stmts counted refl ∙ ap (λ w. up_to (n + w)) (body_is stmts)

  -- ---- leaves

  pub leaves_of_types : (n all : ℕ) (items slice : List Ty) → all ≡ in_turn (type_leaves structs) n slice → slice ≡ items → up_to all ≡ up_to (n + sum_over (told_leaves structs) items)
  leaves_of_types = all_of (told_leaves structs) (type_leaves structs) (λ n a. refl)

  pub leaves_of_params : (n all : ℕ) (items slice : List (Direction × Ty)) → all ≡ in_turn (param_leaves structs) n slice → slice ≡ items → up_to all ≡ up_to (n + sum_over (λ (param : Direction × Ty). told_leaves structs param.1) items)
  leaves_of_params = all_of (λ (param : Direction × Ty). told_leaves structs param.1) (param_leaves structs) (λ n a. refl)

  pub leaves_of_variables : (n all : ℕ) (items slice : List GlobalVar) → all ≡ in_turn (variable_leaves structs) n slice → slice ≡ items → up_to all ≡ up_to (n + sum_over (λ (g : GlobalVar). told_leaves structs g.ty) items)
  leaves_of_variables = all_of (λ (g : GlobalVar). told_leaves structs g.ty) (variable_leaves structs) (λ n a. refl)

-- ---- one sum behind the other

pub behind : (n a b y : ℕ) → up_to a ≡ up_to n → up_to b ≡ up_to (a + y) → up_to b ≡ up_to (n + y)
behind n a b y first second = omega (arith, first, second)

pub program_total : (all structs globals blocks interfaces prototypes functions : ℕ)
    → up_to all ≡ up_to (0 + structs + globals + blocks + interfaces + prototypes + functions) → up_to (all + 0) ≡ up_to (structs + globals + blocks + interfaces + prototypes + functions)
program_total all structs globals blocks interfaces prototypes functions e = omega (arith, e)
