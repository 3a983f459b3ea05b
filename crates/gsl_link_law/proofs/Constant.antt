-- A constant expression by the new numbers has its value.
use Rattle.std.proofs.Common.{◌≡◌, refl, sym, ap, ◌∙◌, Bool, List, [], ◌∷◌, map, if◌then◌else◌}
use Rattle.std.specs.Prelude.{◌==◌}
use Rattle.std.specs.List.{AllByRecursion}
use Rattle.gsl_types.specs.declared.ty.Ty.{Ty}
use Rattle.gsl_types.specs.declared.ty.Ty.TheViews.{out-Ty}
use Rattle.gsl_values.specs.declared.value.Value.{Value}
use Rattle.gsl_values.specs.declared.value.Value.TheVariants.{Word}
use Rattle.gsl_values.specs.declared.op.BinaryOp.{BinaryOp}
use Rattle.gsl_tree.specs.declared.expr.LogicOp.{LogicOp}
use Rattle.gsl_tree.specs.declared.expr.Expr.{Expr, out-Expr}
use Rattle.gsl_tree.specs.declared.expr.ExprKind.{ExprKind}
use Rattle.gsl_tree.specs.declared.expr.ExprKind.TheOpen.{ExprKind-F, Expr-F}
use Rattle.gsl_tree.specs.declared.expr.ExprKind.TheFolds.{fold-Expr, fold-ExprKind, fold-roll-Expr, fold-roll-ExprKind, map-ExprKind}
use Rattle.gsl_tree.specs.declared.expr.ExprKind.TheViews.{roll-out-Expr, roll-out-ExprKind}
use Rattle.gsl_tree.specs.declared.folded.Consts.{Consts}
use Rattle.gsl_tree.specs.declared.folded.Standing.{Standing}
use Rattle.gsl_tree.specs.declared.folded.Standing.TheVariants.{Settled, Never}
use Rattle.gsl_tree.specs.Values.{word_in}
use Rattle.gsl_tree.specs.Operations.{unary_value, binary_value, decides, logic_word, build_kind, index_value, member_value, swizzle_value, length_of, has_fixed_length, is_signed, builtin_value}
use Rattle.gsl_tree.specs.Drawing.{Drawing, given, ◌>>=◌, drawn, checked}
use Rattle.gsl_tree.specs.Constants.{known_at, standing_of, worse, worst, Stood, standing_by, stood, standing, Part, folded_value, in_order, is_signed_first, gives_by, part_of, gives, known_as, constant_of}
use Rattle.gsl_tree.specs.Trees.{type_of, place_of, form_of, parts_of, Throughout, ThroughoutAll}
use Rattle.gsl_tree.proofs.Steps.{standing_type, part_type}
use Rattle.gsl_link_units.specs.Types.{new_number, retyped}
use Rattle.gsl_link_whole.specs.Numbers.{Numbering}
use Rattle.gsl_link_whole.specs.Renumbering.{renumbered_expr}
use Rattle.gsl_link_law.proofs.Layered.{new_fixed, new_length, new_signed, new_build}
use Rattle.gsl_link_law.proofs.Forms.{new_form, new_type, new_form_of}

pub both : {A B C : Type 0} (f : A → B → C) (a b : A) (c d : B) → a ≡ b → c ≡ d → f a c ≡ f b d
both f a b c d first second = ap (λ x. f x c) first ∙ ap (f b) second

-- ---- any fold over expressions, by the form

module _ {A A' : Type 0} (by : ExprKind-F A A' → A) (part : Expr-F A A' → A') where
  abbrev whole : Expr → A'
  whole = fold-Expr A A' by part

  abbrev kinds : ExprKind → A
  kinds = fold-ExprKind A A' by part

  form_whole : (e : Expr) → whole e ≡ part (record { ty = type_of e; place = place_of e; kind = by (map-ExprKind _ _ _ _ kinds whole (form_of e)) })
  form_whole e =
      ap whole (sym (roll-out-Expr e)) ∙ fold-roll-Expr A A' by part (out-Expr e)
      ∙ ap (λ (k : A). part (record { ty = type_of e; place = place_of e; kind = k })) (ap kinds (sym (roll-out-ExprKind (out-Expr e).kind)) ∙ fold-roll-ExprKind A A' by part (form_of e))

-- the same is known of a variable that a form names, by its new number and by its old one
abbrev pub KnownAlike : Numbering → Consts → Consts → ExprKind-F ExprKind Expr → Type 0
KnownAlike n d p (ExprKind-F.Global number) = known_at d.globals (new_number n.globals number) ≡ known_at p.globals number
KnownAlike n d p (ExprKind-F.Local number) = known_at d.locals number ≡ known_at p.locals number
KnownAlike n d p _ = Unit {0}

module _ (n : Numbering) (d p : Consts) (Q : Expr → Type 0) (fits : (e : Expr) → Q e → KnownAlike n d p (form_of e)) where
  abbrev ren : Expr → Expr
  ren = renumbered_expr n

  -- ---- standings

  abbrev stand : Consts → Expr → Stood
  stand consts = fold-Expr Standing Stood (standing_by consts) stood

  abbrev stand_kind : Consts → ExprKind → Standing
  stand_kind consts = fold-ExprKind Standing Stood (standing_by consts) stood

  abbrev StandsSame : Expr → Type 0
  StandsSame e = (stand d (ren e)).1 ≡ (stand p e).1

  fixed_same : (a : Expr) → has_fixed_length (stand d (ren a)).0 ≡ has_fixed_length (stand p a).0
  fixed_same a =
      ap has_fixed_length (standing_type d (ren a) ∙ new_type n a) ∙ new_fixed n.structs (type_of a) ∙ ap has_fixed_length (sym (standing_type p a))

  worst_same : (es : List Expr) → AllByRecursion StandsSame es → worst (map (stand d) (map ren es)) ≡ worst (map (stand p) es)
  worst_same [] all = refl
  worst_same (e ∷ es) all = both worse _ _ _ _ all.0 (worst_same es all.1)

  stand_form : (form : ExprKind-F ExprKind Expr) → KnownAlike n d p form → AllByRecursion StandsSame (parts_of form)
      → standing_by d (map-ExprKind _ _ _ _ (stand_kind d) (stand d) (new_form n form)) ≡ standing_by p (map-ExprKind _ _ _ _ (stand_kind p) (stand p) form)
  stand_form (ExprKind-F.Const v) fit all = refl
  stand_form (ExprKind-F.Local k) fit all = ap standing_of fit
  stand_form (ExprKind-F.Global k) fit all = ap standing_of fit
  stand_form (ExprKind-F.Param k) fit all = refl
  stand_form (ExprKind-F.BlockMember b k) fit all = refl
  stand_form (ExprKind-F.Stage var) fit all = refl
  stand_form (ExprKind-F.Interface k) fit all = refl
  stand_form (ExprKind-F.Member a k) fit all = all.0
  stand_form (ExprKind-F.Index a i) fit all = both worse _ _ _ _ all.0 all.1.0
  stand_form (ExprKind-F.Swizzle a lanes) fit all = all.0
  stand_form (ExprKind-F.Length a) fit all = ap (λ b. if b then Settled else Never) (fixed_same a)
  stand_form (ExprKind-F.Unary op a) fit all = all.0
  stand_form (ExprKind-F.Binary op a b) fit all = both worse _ _ _ _ all.0 all.1.0
  stand_form (ExprKind-F.Logic op a b) fit all = both worse _ _ _ _ all.0 all.1.0
  stand_form (ExprKind-F.Choose t a b) fit all = both worse _ _ _ _ all.0 (both worse _ _ _ _ all.1.0 all.1.1.0)
  stand_form (ExprKind-F.Assign a b) fit all = refl
  stand_form (ExprKind-F.Update op a b) fit all = refl
  stand_form (ExprKind-F.Step op a) fit all = refl
  stand_form (ExprKind-F.Call k args) fit all = refl
  stand_form (ExprKind-F.Built which args) fit all = worst_same args all
  stand_form (ExprKind-F.Build args) fit all = worst_same args all
  stand_form (ExprKind-F.Convert a) fit all = all.0
  stand_form (ExprKind-F.Comma items) fit all = refl

  stood_by : (consts : Consts) (e : Expr) → (stand consts e).1 ≡ standing_by consts (map-ExprKind _ _ _ _ (stand_kind consts) (stand consts) (form_of e))
  stood_by consts e = ap (λ (s : Stood). s.1) (form_whole (standing_by consts) stood e)

  mutual
    stands_same : (e : Expr) → Throughout Q e → StandsSame e
    stands_same _ (Throughout.whole e node parts) =
        stood_by d (ren e) ∙ ap (λ form. standing_by d (map-ExprKind _ _ _ _ (stand_kind d) (stand d) form)) (new_form_of n e)
        ∙ stand_form (form_of e) (fits e node) (all_stand_same (parts_of (form_of e)) parts) ∙ sym (stood_by p e)

    all_stand_same : (es : List Expr) → ThroughoutAll Q es → AllByRecursion StandsSame es
    all_stand_same _ ThroughoutAll.none = tt
    all_stand_same _ (ThroughoutAll.more e es is rest) = (stands_same e is, all_stand_same es rest)

  -- ---- what is given

  abbrev Makes : Type 0
  Makes = Ty → Drawing Value

  abbrev give : Consts → Expr → Part
  give consts = fold-Expr Makes Part (gives_by consts) part_of

  abbrev give_kind : Consts → ExprKind → Makes
  give_kind consts = fold-ExprKind Makes Part (gives_by consts) part_of

  abbrev GivesSame : Expr → Type 0
  GivesSame e = (give d (ren e)).1 ≡ (give p e).1

  part_same : (a : Expr) → (give d (ren a)).0 ≡ retyped n.structs (type_of a)
  part_same a = part_type d (ren a) ∙ new_type n a

  signed_same : (a : Expr) → is_signed (give d (ren a)).0 ≡ is_signed (give p a).0
  signed_same a = ap is_signed (part_same a) ∙ new_signed n.structs (type_of a) ∙ ap is_signed (sym (part_type p a))

  length_same : (a : Expr) → length_of (give d (ren a)).0 ≡ length_of (give p a).0
  length_same a = ap length_of (part_same a) ∙ new_length n.structs (type_of a) ∙ ap length_of (sym (part_type p a))

  first_same : (es : List Expr) → is_signed_first (map (give d) (map ren es)) ≡ is_signed_first (map (give p) es)
  first_same [] = refl
  first_same (e ∷ es) = signed_same e

  abbrev then_all : Drawing Value → Drawing (List Value) → Drawing (List Value)
  then_all m ms = m >>= (λ v. ms >>= (λ vs. given (v ∷ vs)))

  order_same : (es : List Expr) → AllByRecursion GivesSame es → in_order (map (give d) (map ren es)) ≡ in_order (map (give p) es)
  order_same [] all = refl
  order_same (e ∷ es) all = both then_all _ _ _ _ all.0 (order_same es all.1)

  abbrev of_index : Drawing Value → Drawing Value → Drawing Value
  of_index a i = a >>= (λ v. i >>= (λ at_index. checked (index_value v (word_in at_index))))

  abbrev of_binary : BinaryOp → Bool → Drawing Value → Drawing Value → Drawing Value
  of_binary op signed a b = a >>= (λ x. b >>= (λ y. drawn (binary_value op signed x y)))

  abbrev of_logic : LogicOp → Drawing Value → Drawing Value → Drawing Value
  of_logic op a b = a >>= (λ x. if decides op (word_in x) then given x else b >>= (λ y. given (Word (logic_word op (word_in x) (word_in y)))))

  abbrev of_choose : Drawing Value → Drawing Value → Drawing Value → Drawing Value
  of_choose test a b = test >>= (λ t. if word_in t == 0 then b else a)

  give_form : (form : ExprKind-F ExprKind Expr) (t : Ty) → KnownAlike n d p form → AllByRecursion GivesSame (parts_of form)
      → gives_by d (map-ExprKind _ _ _ _ (give_kind d) (give d) (new_form n form)) (retyped n.structs t) ≡ gives_by p (map-ExprKind _ _ _ _ (give_kind p) (give p) form) t
  give_form (ExprKind-F.Const v) t fit all = refl
  give_form (ExprKind-F.Local k) t fit all = ap folded_value fit
  give_form (ExprKind-F.Global k) t fit all = ap folded_value fit
  give_form (ExprKind-F.Param k) t fit all = refl
  give_form (ExprKind-F.BlockMember b k) t fit all = refl
  give_form (ExprKind-F.Stage var) t fit all = refl
  give_form (ExprKind-F.Interface k) t fit all = refl
  give_form (ExprKind-F.Member a k) t fit all = ap (λ (m : Drawing Value). m >>= (λ v. given (member_value v k))) all.0
  give_form (ExprKind-F.Index a i) t fit all = both of_index _ _ _ _ all.0 all.1.0
  give_form (ExprKind-F.Swizzle a lanes) t fit all = ap (λ (m : Drawing Value). m >>= (λ v. given (swizzle_value v lanes))) all.0
  give_form (ExprKind-F.Length a) t fit all = ap (λ k. given (Word k)) (length_same a)
  give_form (ExprKind-F.Unary op a) t fit all = ap (λ (m : Drawing Value). m >>= (λ v. given (unary_value op v))) all.0
  give_form (ExprKind-F.Binary op a b) t fit all =
      ap (λ s. of_binary op s (give d (ren a)).1 (give d (ren b)).1) (signed_same a) ∙ both (of_binary op (is_signed (give p a).0)) _ _ _ _ all.0 all.1.0
  give_form (ExprKind-F.Logic op a b) t fit all = both (of_logic op) _ _ _ _ all.0 all.1.0
  give_form (ExprKind-F.Choose c a b) t fit all =
      ap (λ (m : Drawing Value). of_choose m (give d (ren a)).1 (give d (ren b)).1) all.0 ∙ both (of_choose (give p c).1) _ _ _ _ all.1.0 all.1.1.0
  give_form (ExprKind-F.Assign a b) t fit all = refl
  give_form (ExprKind-F.Update op a b) t fit all = refl
  give_form (ExprKind-F.Step op a) t fit all = refl
  give_form (ExprKind-F.Call k args) t fit all = refl
  give_form (ExprKind-F.Built which args) t fit all =
      ap (λ (m : Drawing (List Value)). m >>= (λ vs. drawn (builtin_value which (is_signed_first (map (give d) (map ren args))) vs))) (order_same args all)
      ∙ ap (λ s. in_order (map (give p) args) >>= (λ vs. drawn (builtin_value which s vs))) (first_same args)
  give_form (ExprKind-F.Build args) t fit all =
      ap (λ (m : Drawing (List Value)). m >>= (λ vs. given (build_kind (out-Ty (retyped n.structs t)) vs))) (order_same args all)
      ∙ ap (λ (f : List Value → Value). in_order (map (give p) args) >>= (λ vs. given (f vs))) (new_build n.structs t)
  give_form (ExprKind-F.Convert a) t fit all = all.0
  give_form (ExprKind-F.Comma items) t fit all = refl

  given_by : (consts : Consts) (e : Expr) → (give consts e).1 ≡ gives_by consts (map-ExprKind _ _ _ _ (give_kind consts) (give consts) (form_of e)) (type_of e)
  given_by consts e = ap (λ (s : Part). s.1) (form_whole (gives_by consts) part_of e)

  mutual
    gives_same : (e : Expr) → Throughout Q e → GivesSame e
    gives_same _ (Throughout.whole e node parts) =
        given_by d (ren e) ∙ ap (λ t. gives_by d (map-ExprKind _ _ _ _ (give_kind d) (give d) (form_of (ren e))) t) (new_type n e)
        ∙ ap (λ form. gives_by d (map-ExprKind _ _ _ _ (give_kind d) (give d) form) (retyped n.structs (type_of e))) (new_form_of n e)
        ∙ give_form (form_of e) (type_of e) (fits e node) (all_give_same (parts_of (form_of e)) parts) ∙ sym (given_by p e)

    all_give_same : (es : List Expr) → ThroughoutAll Q es → AllByRecursion GivesSame es
    all_give_same _ ThroughoutAll.none = tt
    all_give_same _ (ThroughoutAll.more e es is rest) = (gives_same e is, all_give_same es rest)

  -- What is known of a renumbered expression is what is known of the expression, where of its variables the same is known.
  pub constant_same : (e : Expr) → Throughout Q e → constant_of d (renumbered_expr n e) ≡ constant_of p e
  unfolding constant_of standing gives
  constant_same e is = ap (λ s. known_as s ((give d (ren e)).1 (0 ∷ []))) (stands_same e is) ∙ ap (λ (m : Drawing Value). known_as (stand p e).1 (m (0 ∷ []))) (gives_same e is)
