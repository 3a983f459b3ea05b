-- Expressions by the new numbers, form by form.
use Rattle.std.proofs.Common.{◌≡◌, refl, sym, ap, ◌∙◌, List, [], ◌∷◌, map}
use Rattle.std.specs.List.{AllByRecursion}
use Rattle.gsl_tree.specs.declared.expr.Expr.{Expr, out-Expr}
use Rattle.gsl_tree.specs.declared.expr.ExprKind.{ExprKind, out-ExprKind}
use Rattle.gsl_tree.specs.declared.expr.ExprKind.TheOpen.{ExprKind-F}
use Rattle.gsl_tree.specs.declared.expr.ExprKind.TheFolds.{fold-Expr, fold-ExprKind, fold-roll-Expr, fold-roll-ExprKind, map-ExprKind}
use Rattle.gsl_tree.specs.declared.expr.ExprKind.TheViews.{roll-out-Expr, roll-out-ExprKind}
use Rattle.gsl_tree.specs.declared.expr.ExprKind.TheVariants.{outs-Const, outs-Local, outs-Global, outs-Param, outs-BlockMember, outs-Stage, outs-Interface, outs-Member, outs-Index, outs-Swizzle, outs-Length, outs-Unary, outs-Binary, outs-Logic, outs-Choose, outs-Assign, outs-Update, outs-Step, outs-Call, outs-Built, outs-Build, outs-Convert, outs-Comma}
use Rattle.gsl_tree.specs.Trees.{typed, type_of, place_of, form_of, parts_of, Throughout, ThroughoutAll}
use Rattle.gsl_tree.specs.Paths.{kind_in}
use Rattle.gsl_link_units.specs.Types.{new_number, retyped}
use Rattle.gsl_link_whole.specs.Numbers.{Numbering}
use Rattle.gsl_link_whole.specs.Renumbering.{renumbered_kind, renumbered_part, renumbered_expr}

-- a form with the new numbers of what it names, its parts too
abbrev pub new_form : Numbering → ExprKind-F ExprKind Expr → ExprKind-F ExprKind Expr
new_form n (ExprKind-F.Const v) = ExprKind-F.Const v
new_form n (ExprKind-F.Local number) = ExprKind-F.Local number
new_form n (ExprKind-F.Global number) = ExprKind-F.Global (new_number n.globals number)
new_form n (ExprKind-F.Param number) = ExprKind-F.Param number
new_form n (ExprKind-F.BlockMember block number) = ExprKind-F.BlockMember (new_number n.blocks block) number
new_form n (ExprKind-F.Stage var) = ExprKind-F.Stage var
new_form n (ExprKind-F.Interface number) = ExprKind-F.Interface (new_number n.interfaces number)
new_form n (ExprKind-F.Member a number) = ExprKind-F.Member (renumbered_expr n a) number
new_form n (ExprKind-F.Index a i) = ExprKind-F.Index (renumbered_expr n a) (renumbered_expr n i)
new_form n (ExprKind-F.Swizzle a lanes) = ExprKind-F.Swizzle (renumbered_expr n a) lanes
new_form n (ExprKind-F.Length a) = ExprKind-F.Length (renumbered_expr n a)
new_form n (ExprKind-F.Unary op a) = ExprKind-F.Unary op (renumbered_expr n a)
new_form n (ExprKind-F.Binary op a b) = ExprKind-F.Binary op (renumbered_expr n a) (renumbered_expr n b)
new_form n (ExprKind-F.Logic op a b) = ExprKind-F.Logic op (renumbered_expr n a) (renumbered_expr n b)
new_form n (ExprKind-F.Choose test a b) = ExprKind-F.Choose (renumbered_expr n test) (renumbered_expr n a) (renumbered_expr n b)
new_form n (ExprKind-F.Assign a b) = ExprKind-F.Assign (renumbered_expr n a) (renumbered_expr n b)
new_form n (ExprKind-F.Update op a b) = ExprKind-F.Update op (renumbered_expr n a) (renumbered_expr n b)
new_form n (ExprKind-F.Step op a) = ExprKind-F.Step op (renumbered_expr n a)
new_form n (ExprKind-F.Call number args) = ExprKind-F.Call (new_number n.heads number) (map (renumbered_expr n) args)
new_form n (ExprKind-F.Built which args) = ExprKind-F.Built which (map (renumbered_expr n) args)
new_form n (ExprKind-F.Build args) = ExprKind-F.Build (map (renumbered_expr n) args)
new_form n (ExprKind-F.Convert a) = ExprKind-F.Convert (renumbered_expr n a)
new_form n (ExprKind-F.Comma items) = ExprKind-F.Comma (map (renumbered_expr n) items)

module _ (n : Numbering) where
  abbrev ren : Expr → Expr
  ren = renumbered_expr n

  abbrev ren_kind : ExprKind → ExprKind
  ren_kind = fold-ExprKind ExprKind Expr (renumbered_kind n) (renumbered_part n)

  opened : (e : Expr) → ren e ≡ typed (place_of e) (retyped n.structs (type_of e)) (ren_kind (out-Expr e).kind)
  opened e = ap ren (sym (roll-out-Expr e)) ∙ fold-roll-Expr ExprKind Expr (renumbered_kind n) (renumbered_part n) (out-Expr e)

  -- the type has its new numbers
  pub new_type : (e : Expr) → type_of (renumbered_expr n e) ≡ retyped n.structs (type_of e)
  new_type e = ap type_of (opened e)

  layers : (form : ExprKind-F ExprKind Expr) → out-ExprKind (renumbered_kind n (map-ExprKind _ _ _ _ ren_kind ren form)) ≡ new_form n form
  layers (ExprKind-F.Const v) = outs-Const v
  layers (ExprKind-F.Local k) = outs-Local k
  layers (ExprKind-F.Global k) = outs-Global (new_number n.globals k)
  layers (ExprKind-F.Param k) = outs-Param k
  layers (ExprKind-F.BlockMember b k) = outs-BlockMember (new_number n.blocks b) k
  layers (ExprKind-F.Stage var) = outs-Stage var
  layers (ExprKind-F.Interface k) = outs-Interface (new_number n.interfaces k)
  layers (ExprKind-F.Member a k) = outs-Member (ren a) k
  layers (ExprKind-F.Index a i) = outs-Index (ren a) (ren i)
  layers (ExprKind-F.Swizzle a lanes) = outs-Swizzle (ren a) lanes
  layers (ExprKind-F.Length a) = outs-Length (ren a)
  layers (ExprKind-F.Unary op a) = outs-Unary op (ren a)
  layers (ExprKind-F.Binary op a b) = outs-Binary op (ren a) (ren b)
  layers (ExprKind-F.Logic op a b) = outs-Logic op (ren a) (ren b)
  layers (ExprKind-F.Choose t a b) = outs-Choose (ren t) (ren a) (ren b)
  layers (ExprKind-F.Assign a b) = outs-Assign (ren a) (ren b)
  layers (ExprKind-F.Update op a b) = outs-Update op (ren a) (ren b)
  layers (ExprKind-F.Step op a) = outs-Step op (ren a)
  layers (ExprKind-F.Call k args) = outs-Call (new_number n.heads k) (map ren args)
  layers (ExprKind-F.Built which args) = outs-Built which (map ren args)
  layers (ExprKind-F.Build args) = outs-Build (map ren args)
  layers (ExprKind-F.Convert a) = outs-Convert (ren a)
  layers (ExprKind-F.Comma items) = outs-Comma (map ren items)

  -- and the form as well
  pub new_form_of : (e : Expr) → form_of (renumbered_expr n e) ≡ new_form n (form_of e)
  new_form_of e =
      ap form_of (opened e) ∙ ap (λ k. out-ExprKind (ren_kind k)) (sym (roll-out-ExprKind (out-Expr e).kind))
      ∙ ap out-ExprKind (fold-roll-ExprKind ExprKind Expr (renumbered_kind n) (renumbered_part n) (form_of e)) ∙ layers (form_of e)

  pub new_parts : (form : ExprKind-F ExprKind Expr) → parts_of (new_form n form) ≡ map (renumbered_expr n) (parts_of form)
  new_parts (ExprKind-F.Const v) = refl
  new_parts (ExprKind-F.Local k) = refl
  new_parts (ExprKind-F.Global k) = refl
  new_parts (ExprKind-F.Param k) = refl
  new_parts (ExprKind-F.BlockMember b k) = refl
  new_parts (ExprKind-F.Stage var) = refl
  new_parts (ExprKind-F.Interface k) = refl
  new_parts (ExprKind-F.Member a k) = refl
  new_parts (ExprKind-F.Index a i) = refl
  new_parts (ExprKind-F.Swizzle a lanes) = refl
  new_parts (ExprKind-F.Length a) = refl
  new_parts (ExprKind-F.Unary op a) = refl
  new_parts (ExprKind-F.Binary op a b) = refl
  new_parts (ExprKind-F.Logic op a b) = refl
  new_parts (ExprKind-F.Choose t a b) = refl
  new_parts (ExprKind-F.Assign a b) = refl
  new_parts (ExprKind-F.Update op a b) = refl
  new_parts (ExprKind-F.Step op a) = refl
  new_parts (ExprKind-F.Call k args) = refl
  new_parts (ExprKind-F.Built which args) = refl
  new_parts (ExprKind-F.Build args) = refl
  new_parts (ExprKind-F.Convert a) = refl
  new_parts (ExprKind-F.Comma items) = refl

-- ---- a fold over kinds alone, by the form

module _ {A : Type 0} (by : ExprKind-F A A → A) where
  abbrev pub folded : Expr → A
  folded = fold-Expr A A by kind_in

  abbrev pub folded_kind : ExprKind → A
  folded_kind = fold-ExprKind A A by kind_in

  pub form_folded : (e : Expr) → folded e ≡ by (map-ExprKind _ _ _ _ folded_kind folded (form_of e))
  form_folded e =
      ap folded (sym (roll-out-Expr e)) ∙ fold-roll-Expr A A by kind_in (out-Expr e)
      ∙ ap folded_kind (sym (roll-out-ExprKind (out-Expr e).kind)) ∙ fold-roll-ExprKind A A by kind_in (form_of e)

-- What a fold says of an expression another says of the renumbered one, where they do so form by form.
module _ {A : Type 0} (n : Numbering) (few many : ExprKind-F A A → A) (Q : Expr → Type 0) where
  abbrev pub SaysSame : Expr → Type 0
  SaysSame e = folded many (renumbered_expr n e) ≡ folded few e

  abbrev pub SameForm : ExprKind-F ExprKind Expr → Type 0
  SameForm form = many (map-ExprKind _ _ _ _ (folded_kind many) (folded many) (new_form n form)) ≡ few (map-ExprKind _ _ _ _ (folded_kind few) (folded few) form)

  module _ (step : (e : Expr) → Q e → AllByRecursion SaysSame (parts_of (form_of e)) → SameForm (form_of e)) where
    mutual
      pub says_same : (e : Expr) → Throughout Q e → SaysSame e
      says_same _ (Throughout.whole e node parts) =
          form_folded many (renumbered_expr n e) ∙ ap (λ form. many (map-ExprKind _ _ _ _ (folded_kind many) (folded many) form)) (new_form_of n e)
          ∙ step e node (all_say_same (parts_of (form_of e)) parts) ∙ sym (form_folded few e)

      pub all_say_same : (es : List Expr) → ThroughoutAll Q es → AllByRecursion SaysSame es
      all_say_same _ ThroughoutAll.none = tt
      all_say_same _ (ThroughoutAll.more e es is rest) = (says_same e is, all_say_same es rest)

-- of a list of them
pub maps_same : {A : Type 0} (n : Numbering) (f g : Expr → A) (es : List Expr) → AllByRecursion (λ (e : Expr). g (renumbered_expr n e) ≡ f e) es → map g (map (renumbered_expr n) es) ≡ map f es
maps_same n f g [] all = refl
maps_same n f g (e ∷ es) all = ap (λ x. x ∷ map g (map (renumbered_expr n) es)) all.0 ∙ ap (λ xs. f e ∷ xs) (maps_same n f g es all.1)
