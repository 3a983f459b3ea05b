-- Well typed trees stay as they are where everything that they name keeps its number.
use Rattle.std.proofs.Common.{◌≡◌, refl, sym, ap, ◌∙◌, subst, ℕ, zero, suc, ◌<◌, List, [], ◌∷◌, ◌++◌, map, length, slice_get, Option, Some, None}
use Rattle.std.specs.Prelude.{option_map}
use Rattle.std.specs.List.{AllByRecursion}
use Rattle.std.proofs.lemmas.Option.{none-some, same_Some, slice_get_within}
use Rattle.gsl_types.specs.Known.{IsSound}
use Rattle.gsl_types.specs.declared.ty.Direction.{Direction}
use Rattle.gsl_types.specs.declared.ty.StructType.{StructType}
use Rattle.gsl_types.specs.declared.ty.Ty.{Ty}
use Rattle.gsl_tree.specs.declared.expr.Expr.{Expr, out-Expr}
use Rattle.gsl_tree.specs.declared.expr.ExprKind.{ExprKind}
use Rattle.gsl_tree.specs.declared.expr.ExprKind.TheOpen.{ExprKind-F}
use Rattle.gsl_tree.specs.declared.expr.ExprKind.TheFolds.{fold-ExprKind, fold-roll-Expr, fold-roll-ExprKind, map-ExprKind}
use Rattle.gsl_tree.specs.declared.expr.ExprKind.TheViews.{roll-ExprKind, roll-out-Expr, roll-out-ExprKind}
use Rattle.gsl_tree.specs.declared.expr.ExprKind.TheVariants as kind
use Rattle.gsl_tree.specs.declared.expr.ExprKind.TheVariants.{rolls-Const, rolls-Local, rolls-Global, rolls-Param, rolls-BlockMember, rolls-Stage, rolls-Interface, rolls-Member, rolls-Index, rolls-Swizzle, rolls-Length, rolls-Unary, rolls-Binary, rolls-Logic, rolls-Choose, rolls-Assign, rolls-Update, rolls-Step, rolls-Call, rolls-Built, rolls-Build, rolls-Convert, rolls-Comma}
use Rattle.gsl_tree.specs.declared.stmt.Arm.{Arm, out-Arm, roll-Arm}
use Rattle.gsl_tree.specs.declared.stmt.Stmt.{Stmt, out-Stmt}
use Rattle.gsl_tree.specs.declared.stmt.Stmt.TheOpen.{Stmt-F}
use Rattle.gsl_tree.specs.declared.stmt.Stmt.TheFolds.{fold-roll-Stmt, fold-roll-Arm, map-Stmt}
use Rattle.gsl_tree.specs.declared.stmt.Stmt.TheViews.{roll-Stmt, roll-out-Stmt, roll-out-Arm}
use Rattle.gsl_tree.specs.declared.stmt.Stmt.TheVariants as stmt
use Rattle.gsl_tree.specs.declared.stmt.Stmt.TheVariants.{rolls-Empty, rolls-Eval, rolls-Declare, rolls-Group, rolls-If, rolls-Loop, rolls-Switch, rolls-Break, rolls-Continue, rolls-Return, rolls-Discard}
use Rattle.gsl_tree.specs.declared.unit.Block.{Block}
use Rattle.gsl_tree.specs.declared.unit.BlockKind.{BlockKind}
use Rattle.gsl_tree.specs.declared.unit.BlockMember.{BlockMember}
use Rattle.gsl_tree.specs.declared.unit.Function.{Function}
use Rattle.gsl_tree.specs.declared.unit.GlobalVar.{GlobalVar}
use Rattle.gsl_tree.specs.Around.{Around, member_in}
use Rattle.gsl_tree.specs.Trees.{typed, type_of, place_of, form_of, parts_of, Throughout, ThroughoutAll, Placed, outside, in_switch, or_nothing, body_of, bodies, with_exits, inner_of, exprs_of, Exits, Along, AlongAll}
use Rattle.gsl_tree.specs.Expressions.{IsExpr, IsNode, HasType}
use Rattle.gsl_tree.specs.Statements.{IsStep, IsStmt, IsBody}
use Rattle.gsl_tree.specs.WellTyped.{Lists, AreWellTyped, AreBlockMembers, IsBlock, IsFunction, IsGlobal, IsInit, IsInterface, IsPrototype, IsVariableType, around_body}
use Rattle.gsl_link_units.specs.Types.{retyped}
use Rattle.gsl_link_whole.specs.Numbers.{Numbering}
use Rattle.gsl_link_whole.specs.Renumbering.{renumbered_kind, renumbered_part, renumbered_expr, renumbered_form, renumbered_arm, renumbered_stmt, renumbered_function, renumbered_global}
use Rattle.gsl_link_law.specs.Renumbered.{HasTypes}
use Rattle.gsl_link_law.proofs.Known.{type_known}
use Rattle.gsl_link_law.proofs.Members.{in_get, all_in}
use Rattle.gsl_link_law.proofs.StmtForms.{new_arm}
use Rattle.gsl_link_alone.specs.Alone.{IsIdentity}
use Rattle.gsl_link_alone.proofs.Types.{known_stays, sound_stays}
use Rattle.gsl_link_alone.proofs.Unlike.{map_stays}

-- ---- the types of what is declared

member_at : (structs : List StructType) (kind : BlockKind) (members : List BlockMember) → AreBlockMembers structs kind members → (k : ℕ) (m : BlockMember) → slice_get members k ≡ Some m → IsSound (length structs) m.ty
member_at structs kind [] all k m at = elim (none-some m at) [ ]
member_at structs kind (x ∷ []) all zero m at = subst (λ (w : BlockMember). IsSound (length structs) w.ty) (same_Some x m at) all.known
member_at structs kind (x ∷ []) all (suc k) m at = elim (none-some m at) [ ]
member_at structs kind (x ∷ y ∷ members) all zero m at = subst (λ (w : BlockMember). IsSound (length structs) w.ty) (same_Some x m at) all.0.known
member_at structs kind (x ∷ y ∷ members) all (suc k) m at = member_at structs kind (y ∷ members) all.1 k m at

module _ (lists : Lists) (fine : AreWellTyped lists) where
  abbrev AreTyped : List (Direction × Ty) → List Ty → Type 0
  AreTyped params locals = AllByRecursion (λ (param : Direction × Ty). IsVariableType lists.structs param.1) params × AllByRecursion (IsVariableType lists.structs) locals

  pub block_sound : (k : ℕ) (block : Block) → slice_get lists.blocks k ≡ Some block → (j : ℕ) (m : BlockMember) → slice_get block.members j ≡ Some m → IsSound (length lists.structs) m.ty
  block_sound k block at j m is = member_at lists.structs block.kind block.members (all_in (IsBlock lists.structs) lists.blocks fine.blocks block (in_get lists.blocks k block at)).members j m is

  has_types : (params : List (Direction × Ty)) (locals : List Ty) → AreTyped params locals → HasTypes (around_body lists params locals)
  has_types params locals types = record {
    globals = λ k g at. (fine.globals k g at).type.known;
    blocks = block_sound;
    interfaces = λ k i at. (all_in (IsInterface lists.stage lists.structs) lists.interfaces fine.interfaces i (in_get lists.interfaces k i at)).known;
    prototypes = λ k p at. (all_in (IsPrototype lists.structs) lists.prototypes fine.prototypes p (in_get lists.prototypes k p at)).result;
    params = λ k param at. (all_in (λ (q : Direction × Ty). IsVariableType lists.structs q.1) params types.0 param (in_get params k param at)).known;
    locals = λ k t at. (all_in (IsVariableType lists.structs) locals types.1 t (in_get locals k t at)).known;
  }

  module _ (n : Numbering) (same : IsIdentity n lists) where
    abbrev ren : Expr → Expr
    ren = renumbered_expr n

    abbrev ren_kind : ExprKind → ExprKind
    ren_kind = fold-ExprKind ExprKind Expr (renumbered_kind n) (renumbered_part n)

    abbrev Stays : Expr → Type 0
    Stays e = ren e ≡ e

    -- ---- expressions

    listed : (es : List Expr) → AllByRecursion Stays es → map ren es ≡ es
    listed es all = map_stays ren es (λ e at. all_in Stays es all e at)

    module _ (params : List (Direction × Ty)) (locals : List Ty) (types : AreTyped params locals) where
      abbrev around : Around
      around = around_body lists params locals

      block_within : (k : ℕ) (m : BlockMember) (b : ℕ) (o : Option Block) → slice_get lists.blocks b ≡ o → member_in o k ≡ Some m → b < length lists.blocks
      block_within k m b None at is = elim (none-some m is) [ ]
      block_within k m b (Some block) at is = slice_get_within lists.blocks b block at

      form_stays : (form : ExprKind-F ExprKind Expr) (t : Ty) → HasType around form t → AllByRecursion Stays (parts_of form) → renumbered_kind n (map-ExprKind _ _ _ _ ren_kind ren form) ≡ roll-ExprKind form
      form_stays (ExprKind-F.Const v) t has all = sym (rolls-Const v)
      form_stays (ExprKind-F.Local k) t has all = sym (rolls-Local k)
      form_stays (ExprKind-F.Global k) t has all = ap kind.Global (same.globals k (slice_get_within lists.globals k has.0 has.1)) ∙ sym (rolls-Global k)
      form_stays (ExprKind-F.Param k) t has all = sym (rolls-Param k)
      form_stays (ExprKind-F.BlockMember b k) t has all = ap (λ j. kind.BlockMember j k) (same.blocks b (block_within k has.0 b (slice_get lists.blocks b) refl has.1)) ∙ sym (rolls-BlockMember b k)
      form_stays (ExprKind-F.Stage var) t has all = sym (rolls-Stage var)
      form_stays (ExprKind-F.Interface k) t has all = ap kind.Interface (same.interfaces k (slice_get_within lists.interfaces k has.0 has.1)) ∙ sym (rolls-Interface k)
      form_stays (ExprKind-F.Member a k) t has all = ap (λ x. kind.Member x k) all.0 ∙ sym (rolls-Member a k)
      form_stays (ExprKind-F.Index a i) t has all = ap (λ x. kind.Index x (ren i)) all.0 ∙ ap (kind.Index a) all.1.0 ∙ sym (rolls-Index a i)
      form_stays (ExprKind-F.Swizzle a lanes) t has all = ap (λ x. kind.Swizzle x lanes) all.0 ∙ sym (rolls-Swizzle a lanes)
      form_stays (ExprKind-F.Length a) t has all = ap kind.Length all.0 ∙ sym (rolls-Length a)
      form_stays (ExprKind-F.Unary op a) t has all = ap (kind.Unary op) all.0 ∙ sym (rolls-Unary op a)
      form_stays (ExprKind-F.Binary op a b) t has all = ap (λ x. kind.Binary op x (ren b)) all.0 ∙ ap (kind.Binary op a) all.1.0 ∙ sym (rolls-Binary op a b)
      form_stays (ExprKind-F.Logic op a b) t has all = ap (λ x. kind.Logic op x (ren b)) all.0 ∙ ap (kind.Logic op a) all.1.0 ∙ sym (rolls-Logic op a b)
      form_stays (ExprKind-F.Choose c a b) t has all = ap (λ x. kind.Choose x (ren a) (ren b)) all.0 ∙ ap (λ x. kind.Choose c x (ren b)) all.1.0 ∙ ap (kind.Choose c a) all.1.1.0 ∙ sym (rolls-Choose c a b)
      form_stays (ExprKind-F.Assign a b) t has all = ap (λ x. kind.Assign x (ren b)) all.0 ∙ ap (kind.Assign a) all.1.0 ∙ sym (rolls-Assign a b)
      form_stays (ExprKind-F.Update op a b) t has all = ap (λ x. kind.Update op x (ren b)) all.0 ∙ ap (kind.Update op a) all.1.0 ∙ sym (rolls-Update op a b)
      form_stays (ExprKind-F.Step op a) t has all = ap (kind.Step op) all.0 ∙ sym (rolls-Step op a)
      form_stays (ExprKind-F.Call k args) t has all =
          ap (λ j. kind.Call j (map ren args)) (same.heads k (slice_get_within lists.prototypes k has.0 has.1)) ∙ ap (kind.Call k) (listed args all) ∙ sym (rolls-Call k args)
      form_stays (ExprKind-F.Built which args) t has all = ap (kind.Built which) (listed args all) ∙ sym (rolls-Built which args)
      form_stays (ExprKind-F.Build args) t has all = ap kind.Build (listed args all) ∙ sym (rolls-Build args)
      form_stays (ExprKind-F.Convert a) t has all = ap kind.Convert all.0 ∙ sym (rolls-Convert a)
      form_stays (ExprKind-F.Comma items) t has all = ap kind.Comma (listed items all) ∙ sym (rolls-Comma items)

      by_parts : (e : Expr) → IsExpr around e → HasType around (form_of e) (type_of e) → AllByRecursion Stays (parts_of (form_of e)) → Stays e
      by_parts e is has all =
          let type = known_stays n.structs (length lists.structs) same.structs (type_of e) (type_known around fine.structs (has_types params locals types) e is) in
          let inside : ExprKind = (out-Expr e).kind in
          let form : ren_kind inside ≡ inside = ap ren_kind (sym (roll-out-ExprKind inside)) ∙ fold-roll-ExprKind ExprKind Expr (renumbered_kind n) (renumbered_part n) (form_of e) ∙ form_stays (form_of e) (type_of e) has all ∙ roll-out-ExprKind inside in
          ap ren (sym (roll-out-Expr e)) ∙ fold-roll-Expr ExprKind Expr (renumbered_kind n) (renumbered_part n) (out-Expr e)
          ∙ ap (λ t. typed (place_of e) t (ren_kind inside)) type ∙ ap (typed (place_of e) (type_of e)) form ∙ roll-out-Expr e

      mutual
        pub expr_stays : (e : Expr) → IsExpr around e → renumbered_expr n e ≡ e
        expr_stays _ (Throughout.whole e node parts) = by_parts e (Throughout.whole e node parts) node.type (exprs_stay (parts_of (form_of e)) parts)

        exprs_stay : (es : List Expr) → ThroughoutAll (IsNode around) es → AllByRecursion (λ e. renumbered_expr n e ≡ e) es
        exprs_stay _ ThroughoutAll.none = tt
        exprs_stay _ (ThroughoutAll.more e es is rest) = (expr_stays e is, exprs_stay es rest)

      -- ---- statements

      abbrev go : Stmt → Stmt
      go = renumbered_stmt n

      abbrev StaysStmt : Stmt → Type 0
      StaysStmt s = go s ≡ s

      abbrev StaysPlaced : Placed → Type 0
      StaysPlaced placed = StaysStmt placed.1

      unplaced : (exits : Exits) (stmts : List Stmt) → AllByRecursion StaysPlaced (with_exits exits stmts) → AllByRecursion StaysStmt stmts
      unplaced exits [] all = tt
      unplaced exits (s ∷ stmts) all = (all.0, unplaced exits stmts all.1)

      in_line : (stmts : List Stmt) → AllByRecursion StaysStmt stmts → map go stmts ≡ stmts
      in_line stmts all = map_stays go stmts (λ s at. all_in StaysStmt stmts all s at)

      front : (xs ys : List Stmt) → AllByRecursion StaysStmt (xs ++ ys) → AllByRecursion StaysStmt xs × AllByRecursion StaysStmt ys
      front [] ys all = (tt, all)
      front (x ∷ xs) ys all = let rest = front xs ys all.1 in ((all.0, rest.0), rest.1)

      abbrev arm_of : Arm → List Stmt → Arm
      arm_of arm body = roll-Arm (record { labels = (out-Arm arm).labels; is_default = (out-Arm arm).is_default; body = body })

      arm_stays : (arm : Arm) → AllByRecursion StaysStmt (body_of arm) → new_arm n arm ≡ arm
      arm_stays arm all = ap (new_arm n) (sym (roll-out-Arm arm)) ∙ fold-roll-Arm Stmt Arm (renumbered_form n) renumbered_arm (out-Arm arm) ∙ ap (arm_of arm) (in_line (body_of arm) all) ∙ roll-out-Arm arm

      arms_stay : (arms : List Arm) → AllByRecursion StaysStmt (bodies arms) → map (new_arm n) arms ≡ arms
      arms_stay [] all = refl
      arms_stay (arm ∷ arms) all =
          let parts = front (body_of arm) (bodies arms) all in
          ap (λ a. a ∷ map (new_arm n) arms) (arm_stays arm parts.0) ∙ ap (λ l. arm ∷ l) (arms_stay arms parts.1)

      option_stays : (e : Option Expr) → AllByRecursion (IsExpr around) (or_nothing e) → option_map ren e ≡ e
      option_stays None all = refl
      option_stays (Some e) all = ap Some (expr_stays e all.0)

      optional_parts : (a b : Option Expr) → AllByRecursion (IsExpr around) (or_nothing a ++ or_nothing b) → AllByRecursion (IsExpr around) (or_nothing a) × AllByRecursion (IsExpr around) (or_nothing b)
      optional_parts None b all = (tt, all)
      optional_parts (Some a) b all = ((all.0, tt), all.1)

      stmt_form_stays : (exits : Exits) (form : Stmt-F Stmt Arm) → AllByRecursion (IsExpr around) (exprs_of form) → AllByRecursion StaysPlaced (inner_of exits form)
          → renumbered_form n (map-Stmt Stmt Arm Stmt Arm go (new_arm n) form) ≡ roll-Stmt form
      stmt_form_stays exits Stmt-F.Empty exprs all = sym rolls-Empty
      stmt_form_stays exits (Stmt-F.Eval e) exprs all = ap stmt.Eval (expr_stays e exprs.0) ∙ sym (rolls-Eval e)
      stmt_form_stays exits (Stmt-F.Declare k init) exprs all = ap (stmt.Declare k) (option_stays init exprs) ∙ sym (rolls-Declare k init)
      stmt_form_stays exits (Stmt-F.Group stmts) exprs all = ap stmt.Group (in_line stmts (unplaced exits stmts all)) ∙ sym (rolls-Group stmts)
      stmt_form_stays exits (Stmt-F.If test first None) exprs all = ap (λ x. stmt.If x (go first) None) (expr_stays test exprs.0) ∙ ap (λ x. stmt.If test x None) all.0 ∙ sym (rolls-If test first None)
      stmt_form_stays exits (Stmt-F.If test first (Some other)) exprs all =
          ap (λ x. stmt.If x (go first) (Some (go other))) (expr_stays test exprs.0) ∙ ap (λ x. stmt.If test x (Some (go other))) all.0 ∙ ap (λ x. stmt.If test first (Some x)) all.1.0 ∙ sym (rolls-If test first (Some other))
      stmt_form_stays exits (Stmt-F.Loop test step body last) exprs all =
          let parts = optional_parts test step exprs in
          ap (λ x. stmt.Loop x (option_map ren step) (go body) last) (option_stays test parts.0) ∙ ap (λ x. stmt.Loop test x (go body) last) (option_stays step parts.1)
          ∙ ap (λ x. stmt.Loop test step x last) all.0 ∙ sym (rolls-Loop test step body last)
      stmt_form_stays exits (Stmt-F.Switch selector arms) exprs all =
          ap (λ x. stmt.Switch x (map (new_arm n) arms)) (expr_stays selector exprs.0) ∙ ap (stmt.Switch selector) (arms_stay arms (unplaced (in_switch exits) (bodies arms) all)) ∙ sym (rolls-Switch selector arms)
      stmt_form_stays exits Stmt-F.Break exprs all = sym rolls-Break
      stmt_form_stays exits Stmt-F.Continue exprs all = sym rolls-Continue
      stmt_form_stays exits (Stmt-F.Return value) exprs all = ap stmt.Return (option_stays value exprs) ∙ sym (rolls-Return value)
      stmt_form_stays exits Stmt-F.Discard exprs all = sym rolls-Discard

      module _ (result : Ty) where
        mutual
          stmt_stays : (exits : Exits) (s : Stmt) → IsStmt around result exits s → go s ≡ s
          stmt_stays _ _ (Along.whole exits s has inner) =
              ap go (sym (roll-out-Stmt s)) ∙ fold-roll-Stmt Stmt Arm (renumbered_form n) renumbered_arm (out-Stmt s)
              ∙ stmt_form_stays exits (out-Stmt s) has.typed (stmts_stay (inner_of exits (out-Stmt s)) inner) ∙ roll-out-Stmt s

          stmts_stay : (all : List Placed) → AlongAll (IsStep around result) all → AllByRecursion StaysPlaced all
          stmts_stay _ AlongAll.none = tt
          stmts_stay _ (AlongAll.more placed rest has others) = (stmt_stays placed.0 placed.1 has, stmts_stay rest others)

        body_stays : (body : List Stmt) → IsBody around result body → map (renumbered_stmt n) body ≡ body
        body_stays body has = in_line body (unplaced outside body (stmts_stay (with_exits outside body) has))

    -- ---- functions and variables

    -- a function stays as it is
    pub function_stays : (f : Function) → IsFunction lists f → renumbered_function n f ≡ f
    function_stays f is =
        let params = (all_in (IsPrototype lists.structs) lists.prototypes fine.prototypes is.prototype (in_get lists.prototypes f.prototype is.prototype is.declared)).params in
        let head = same.heads f.prototype (slice_get_within lists.prototypes f.prototype is.prototype is.declared) in
        let types : map (retyped n.structs) f.locals ≡ f.locals = map_stays (retyped n.structs) f.locals (λ t at. sound_stays n.structs (length lists.structs) same.structs t (all_in (IsVariableType lists.structs) f.locals is.locals t at).known) in
        let body = body_stays is.prototype.params f.locals (params, is.locals) is.prototype.result f.body is.body in
        λ i. record f { prototype = head i; locals = types i; body = body i }

    init_stays : (number : ℕ) (g : GlobalVar) (init : Option Expr) → IsInit lists number g init → option_map (renumbered_expr n) init ≡ init
    init_stays number g None is = refl
    init_stays number g (Some e) is = ap Some (expr_stays [] [] (tt, tt) e is.1)

    -- and so does a global variable
    pub global_stays : (number : ℕ) (g : GlobalVar) → IsGlobal lists number g → renumbered_global n g ≡ g
    global_stays number g is = ap (λ init. record g { init = init }) (init_stays number g g.init is.init)
