-- Parts where they are needed: read, converted, written.
use Rattle.std.proofs.Common.{◌≡◌, ◌≢◌, refl, sym, ap, if◌then◌else◌, Ok, ◌∙◌, [], Bool, true, false, not, ◌&&◌, ◌||◌, IsTrue}
use Rattle.std.proofs.lemmas.Bool.{true≢false}
use Rattle.gsl_base.specs.declared.fault.Place.{Place}
use Rattle.gsl_types.specs.Conversions.{converts}
use Rattle.gsl_types.specs.declared.ty.Ty.{Ty}
use Rattle.gsl_overload.specs.Identity.{identical}
use Rattle.gsl_overload.proofs.Same.{same_is, same_itself, no_more}
use Rattle.gsl_tree.specs.declared.expr.Expr.{Expr}
use Rattle.gsl_tree.specs.declared.expr.ExprKind.{ExprKind}
use Rattle.gsl_tree.specs.declared.expr.ExprKind.TheVariants as kind
use Rattle.gsl_tree.specs.declared.expr.ExprKind.TheVariants.{outs-Convert}
use Rattle.gsl_tree.specs.declared.expr.ExprKind.TheOpen.{ExprKind-F}
use Rattle.gsl_tree.specs.declared.expr.ExprKind.TheFolds.{fold-ExprKind, fold-roll-Expr}
use Rattle.gsl_tree.specs.Around.{Around}
use Rattle.gsl_tree.specs.Trees.{typed, type_of, place_of, ThroughoutAll}
use Rattle.gsl_tree.specs.Paths.{test_of, kind_in, unreadable_by, in_block_by, is_unreadable, is_writable, is_small, is_aggregate, in_block}
use Rattle.gsl_tree.specs.Expressions.{IsExpr, MayBeRead}
use Rattle.gsl_tree.proofs.Folds as at
use Rattle.gsl_tree.proofs.Nodes.{expr_at}
use Rattle.gsl_typing.specs.declared.scene.Scene.{Scene}
use Rattle.gsl_typing.specs.declared.scene.Part.{Part}
use Rattle.gsl_typing.specs.Scene.{around, type_in}
use Rattle.gsl_typing.specs.Conversions.{serves_as, as_type}
use Rattle.gsl_typing.specs.Uses.{tested, is_unread, is_large, is_large_copy, whole}
use Rattle.gsl_typing.specs.Uses as uses
use Rattle.gsl_base.specs.declared.fault.Code.TheVariants.{E0904}
use Rattle.gsl_check_decl.proofs.Gathering.{Holds}
use Rattle.gsl_check_law.specs.Parts.{IsPart, IsTaken}
use Rattle.gsl_check_law.proofs.Rows.{row, not_false}
use Rattle.gsl_check_law.proofs.Types.{IsSettled, serves_parts, converts_shape, shape_settled}

-- a test of an expression is that of its kind
pub test_node : (by : ExprKind-F Bool Bool → Bool) (p : Place) (t : Ty) (k : ExprKind) → test_of by (typed p t k) ≡ fold-ExprKind Bool Bool by kind_in k
test_node by p t k = fold-roll-Expr Bool Bool by kind_in (record { ty = t; place = p; kind = k })

-- ---- what is read

-- an operand of this type, which is read
pub record IsRead (around : Around) (t : Ty) (e : Expr) : Type 0 where
  pub expr : IsExpr around e
  pub type : type_of e ≡ t
  pub reads : MayBeRead around e

small_read : (b a s : Bool) → (b && (a && not s)) ≡ false → IsTrue (not (b && a) || s)
small_read false a s is = refl
small_read true false s is = refl
small_read true true s is = not_false s is

-- a part that is not too large is taken
pub taken_whole : (scene : Scene) (x : Part) → IsPart scene x → Holds (IsTaken scene) (whole scene x)
unfolding whole tested is_large
taken_whole scene x part =
    row (IsTaken scene) (place_of x.expr) E0904 (is_large_copy scene x) [] (Ok x)
    (λ small. record { part = part; small = small_read (in_block x.expr) (is_aggregate (type_in x)) (is_small (around scene) (type_in x)) small })

-- and is what it was
pub whole_same : (scene : Scene) (x : Part) → IsPart scene x → Holds (λ (y : Part). (x ≡ y) × IsTaken scene y) (whole scene x)
unfolding whole tested is_large
whole_same scene x part =
    row (λ (y : Part). (x ≡ y) × IsTaken scene y) (place_of x.expr) E0904 (is_large_copy scene x) [] (Ok x)
    (λ small. (refl, record { part = part; small = small_read (in_block x.expr) (is_aggregate (type_in x)) (is_small (around scene) (type_in x)) small }))

-- what is taken, and no runtime array, may be read where it is not `writeonly`
pub may_be_read : (scene : Scene) (x : Part) → IsTaken scene x → is_unread scene x ≡ false → IsSettled (type_in x) → MayBeRead (around scene) x.expr
unfolding is_unread tested
may_be_read scene x taken unread settled = (ap not unread, ap not settled, taken.small)

-- ---- what is converted

convert_reads : (around : Around) (p : Place) (t : Ty) (e : Expr) → IsSettled t → MayBeRead around (typed p t (kind.Convert e))
convert_reads around p t e settled =
    let unreadable : is_unreadable around (typed p t (kind.Convert e)) ≡ false = test_node (unreadable_by around) p t (kind.Convert e) ∙ at.at-Convert Bool Bool (unreadable_by around) kind_in e in
    let inside : in_block (typed p t (kind.Convert e)) ≡ false = test_node in_block_by p t (kind.Convert e) ∙ at.at-Convert Bool Bool in_block_by kind_in e in
    (ap not unreadable, ap not settled, ap (λ b. not (b && is_aggregate t) || is_small around t) inside)

module _ (around : Around) (t : Ty) (e : Expr) (is : IsExpr around e) (reads : MayBeRead around e) where
  converted_by : (b : Bool) → identical (type_of e) t ≡ b → IsTrue (b || converts (type_of e) t) → IsRead around t (if b then e else typed (place_of e) t (kind.Convert e))
  converted_by true same serves = record { expr = is; type = same_is (type_of e) t same; reads = reads }
  converted_by false differ serves =
      let how = converts_shape (type_of e) t serves in
      let apart : type_of e ≢ t = λ same. true≢false (sym (same_itself t) ∙ ap (λ (u : Ty). identical u t) (sym same) ∙ differ) in
      record {
        expr = expr_at around (place_of e) t (kind.Convert e) (ExprKind-F.Convert e) (outs-Convert e) (serves, apart) (reads, tt) tt (ThroughoutAll.more e [] is ThroughoutAll.none);
        type = refl;
        reads = convert_reads around (place_of e) t e (shape_settled t (how.1, how.2) how.4);
      }

  -- what serves as a type is an operand of it
  pub converted : IsTrue (serves_as (type_of e) t) → IsRead around t (as_type t e)
  unfolding as_type
  converted serves = converted_by (identical (type_of e) t) refl (serves_parts (type_of e) t serves)

-- ---- what is written

pub is_l_value : (scene : Scene) (x : Part) → IsTrue (uses.is_writable scene x) → IsTrue (is_writable (around scene) x.expr)
unfolding uses.is_writable tested
is_l_value scene x is = by_two (x.fixed) (is_writable (around scene) x.expr) is
  where
    by_two : (fixed w : Bool) → IsTrue (not fixed && w) → IsTrue w
    by_two false w known = known
    by_two true w known = no_more known
