-- What is known of each kind of expression is so of what it does.
use Rattle.std.proofs.Common.{◌≡◌, refl, sym, ap, ◌∙◌, subst, ℕ, Bool, true, false, ◌||◌, ◌&&◌, not, List, [], ◌∷◌, map, Option, Some, None, if◌then◌else◌}
use Rattle.std.specs.Prelude.{◌==◌}
use Rattle.gsl_types.specs.declared.ty.Ty.{Ty}
use Rattle.gsl_types.specs.declared.ty.Ty.TheOpen.{Ty-F}
use Rattle.gsl_types.specs.declared.ty.Ty.TheViews.{out-Ty}
use Rattle.gsl_values.specs.Vectors.{components as picked}
use Rattle.gsl_values.specs.declared.value.Value.{Value}
use Rattle.gsl_values.specs.declared.value.Value.TheVariants.{Word}
use Rattle.gsl_tree.specs.Around.{Around}
use Rattle.gsl_tree.specs.Expressions.{IsExpr, IsNode}
use Rattle.gsl_tree.specs.Operations.{unary_value, binary_value, decides, logic_word, step_value, is_postfix, build_value, builtin_value, is_signed}
use Rattle.gsl_tree.specs.Trees.{Throughout, ThroughoutAll, form_of, parts_of, type_of}
use Rattle.gsl_tree.specs.Values.{word_in}
use Rattle.gsl_tree.specs.declared.expr.Expr.{Expr}
use Rattle.gsl_tree.specs.declared.expr.LogicOp.{LogicOp}
use Rattle.gsl_tree.specs.declared.expr.LogicOp.TheVariants as logic
use Rattle.gsl_tree.specs.declared.expr.ExprKind.{ExprKind}
use Rattle.gsl_tree.specs.declared.expr.ExprKind.TheOpen.{ExprKind-F}
use Rattle.gsl_tree.specs.declared.expr.ExprKind.TheFolds.{fold-Expr, fold-ExprKind, fold-roll-Expr, fold-roll-ExprKind, map-ExprKind}
use Rattle.gsl_tree.specs.declared.expr.ExprKind.TheViews.{roll-out-Expr, roll-out-ExprKind, out-Expr}
use Rattle.gsl_meaning.specs.Accesses.{Global, Interface, Local, Loose, Param, member_of, read, swizzle_of, whole}
use Rattle.gsl_meaning.specs.Expressions.{Meant, Setting, counted, in_order, is_signed_first, last_of, means, means_by, member_root, stepping, typed_by, updating}
use Rattle.gsl_meaning.specs.Running.{Run, given, ◌>>=◌, told_by, drawing, storing, indexing}
use Rattle.gsl_lower_traits.specs.declared.traits.Traits.{Traits}
use Rattle.gsl_lower_traits.specs.Traits.{Known, is_dynamic, is_selected, is_short, is_still_index, known, known_by, literal_by, together_on, traits_by, traits_of, valued, with}
use Rattle.gsl_lower_traits_law.specs.Telling.{AlwaysComes, Tells}
use Rattle.gsl_lower_traits_law.proofs.Coming.{NoneCall, accessed_tells, both_true, drawing_comes, given_comes, if_comes, indexing_comes, never, none_call, none_of, none_splits, storing_comes, then_comes, told_comes, valued_tells}

-- a literal is that of its word
pub literal_word : (layer : Ty-F Ty) (v : Value) (number : ℕ) → literal_by layer v ≡ Some number → word_in v ≡ number
literal_word (Ty-F.One s) v number e = cc
literal_word Ty-F.Void v number e = absurd cc
literal_word (Ty-F.Vector s n) v number e = absurd cc
literal_word (Ty-F.Array a n) v number e = absurd cc
literal_word (Ty-F.Runtime a) v number e = absurd cc
literal_word (Ty-F.Struct k) v number e = absurd cc

module _ (setting : Setting) where
  abbrev kinds : ExprKind → Ty → Meant
  kinds = fold-ExprKind (Ty → Meant) Meant (means_by setting) typed_by

  abbrev expr_means : Expr → Meant
  expr_means = fold-Expr (Ty → Meant) Meant (means_by setting) typed_by

  abbrev pub means_form : ExprKind-F ExprKind Expr → Ty → Meant
  means_form form = means_by setting (map-ExprKind ExprKind Expr (Ty → Meant) Meant kinds expr_means form)

  pub part_is : (e : Expr) → expr_means e ≡ means_form (form_of e) (type_of e)
  part_is e =
      ap expr_means (sym (roll-out-Expr e)) ∙ fold-roll-Expr (Ty → Meant) Meant (means_by setting) typed_by (out-Expr e)
      ∙ ap (λ (f : Ty → Meant). f (type_of e)) (ap kinds (sym (roll-out-ExprKind (out-Expr e).kind)) ∙ fold-roll-ExprKind (Ty → Meant) Meant (means_by setting) typed_by (form_of e))

-- what is known of expressions, whatever says it
module _ (setting : Setting) (kinds_as : ExprKind → Ty → Traits) (known_as : Expr → Known) where
  abbrev part : Expr → Meant
  part = fold-Expr (Ty → Meant) Meant (means_by setting) typed_by

  abbrev pub known_form : ExprKind-F ExprKind Expr → Ty → Traits
  known_form form = traits_by (map-ExprKind ExprKind Expr (Ty → Traits) Known kinds_as known_as form)

  -- ---- parts

  abbrev pub Told : Expr → Type 0
  Told e = Tells (known_as e).traits (part e)

  abbrev pub AllTold : List Expr → Type 0
  AllTold [] = Unit {0}
  AllTold (e ∷ es) = Told e × AllTold es

  row_comes : (es : List Expr) → AllTold es → NoneCall (map known_as es) → AlwaysComes (in_order (map part es))
  row_comes [] all none = given_comes {A = List Value} []
  row_comes (e ∷ es) all none =
      then_comes (part e).value (λ v. in_order (map part es) >>= (λ vs. given (v ∷ vs))) (all.0.comes none.0).1
      (λ v. then_comes (in_order (map part es)) (λ vs. given (v ∷ vs)) (row_comes es all.1 none.1) (λ vs. given_comes (v ∷ vs)))

  -- ---- code with no labels

  index_whole : (a i : Expr) → Told a → Told i → is_still_index (known_as a) (known_as i).traits ≡ true → ((known_as a).traits.splits || (known_as i).traits.splits) ≡ false
  index_whole a i base index e =
      let first = both_true _ _ e in
      let second = both_true (known_as a).traits.still _ first.0 in
      none_splits (known_as a).traits.splits (known_as i).traits.splits (base.still second.0) (by (known_as i).traits.literal refl second.1)
    where
      by : (o : Option ℕ) → (known_as i).traits.literal ≡ o → not (is_dynamic o) ≡ true → (known_as i).traits.splits ≡ false
      by None same known = absurd (let z : false ≡ true = known in cc)
      by (Some number) same known = (index.literal number same).0

  two_whole : (a b : Expr) (more quiet : Bool) → Told a → Told b → ((known_as b).traits.quiet ≡ true → more ≡ false) → ((known_as a).traits.quiet && (known_as b).traits.quiet && quiet) ≡ true → ((known_as a).traits.splits || (known_as b).traits.splits || more) ≡ false
  two_whole a b more quiet first second alone e =
      let x = both_true _ quiet e in
      let y = both_true (known_as a).traits.quiet (known_as b).traits.quiet x.0 in
      none_splits _ more (none_splits (known_as a).traits.splits (known_as b).traits.splits (first.quiet y.0) (second.quiet y.1)) (alone y.1)

  not_short : (op : LogicOp) (b : Traits) → b.quiet ≡ true → is_short op b ≡ false
  not_short logic.And b e = ap not e
  not_short logic.Or b e = ap not e
  not_short logic.Xor b e = refl

  choice_whole : (t : Ty) (test a b : Expr) → Told test → Told a → Told b → ((known_as test).traits.quiet && is_selected t (known_as a).traits (known_as b).traits) ≡ true
      → ((known_as test).traits.splits || (known_as a).traits.splits || (known_as b).traits.splits || not (is_selected t (known_as a).traits (known_as b).traits)) ≡ false
  choice_whole t test a b first second third e =
      let x = both_true (known_as test).traits.quiet _ e in
      let y = both_true _ (known_as b).traits.quiet x.1 in
      let z = both_true _ (known_as a).traits.quiet y.0 in
      none_splits _ _ (none_splits _ (known_as b).traits.splits (none_splits (known_as test).traits.splits (known_as a).traits.splits (first.quiet x.0) (second.quiet z.1)) (third.quiet y.1)) (ap not x.1)

  row_whole : (so_far : Traits) (es : List Expr) → AllTold es → (so_far.quiet ≡ true → so_far.splits ≡ false) → (together_on so_far (map known_as es)).quiet ≡ true → (together_on so_far (map known_as es)).splits ≡ false
  row_whole so_far [] all before e = before e
  row_whole so_far (one ∷ es) all before e =
      row_whole (with so_far (known_as one).traits) es all.1
      (λ q. let x = both_true so_far.quiet (known_as one).traits.quiet q in none_splits so_far.splits (known_as one).traits.splits (before x.0) (all.0.quiet x.1)) e

  -- ---- every kind

  literal_told : (t : Ty) (v : Value) → Tells (record (valued false false true) { literal = literal_by (out-Ty t) v }) (means_form setting (ExprKind-F.Const v) t)
  literal_told t v = record {
    comes = λ e. (given_comes (whole (Loose v)), given_comes v);
    literal = λ number e. (refl, refl, λ s units. (v, refl, literal_word (out-Ty t) v number e));
    quiet = λ e. refl;
    still = λ e. refl;
  }

  choice_comes : (v : Value) (x y : Run Value) → AlwaysComes x → AlwaysComes y → AlwaysComes (if word_in v == 0 then x else y)
  choice_comes v x y first second = if_comes (word_in v == 0) x y first second

  member_told : (block number : ℕ) (t : Ty) → Tells (known_form (ExprKind-F.BlockMember block number) t) (means_form setting (ExprKind-F.BlockMember block number) t)
  member_told block number t = record {
    comes = λ e. (given_comes (member_root block number), then_comes (given (member_root block number)) (λ a. told_by (read setting.structs t a)) (given_comes (member_root block number)) (λ a. told_comes (read setting.structs t a)));
    literal = λ number e. absurd cc;
    quiet = λ e. refl;
    still = λ e. refl;
  }

  pub by_form : (form : ExprKind-F ExprKind Expr) (t : Ty) → AllTold (parts_of form) → Tells (known_form form t) (means_form setting form t)
  by_form (ExprKind-F.Const v) t all = literal_told t v
  by_form (ExprKind-F.Local n) t all = accessed_tells setting.structs t (given (whole (Local n))) _ refl (λ e. given_comes (whole (Local n))) (λ e. refl) (λ e. refl)
  by_form (ExprKind-F.Global n) t all = accessed_tells setting.structs t (given (whole (Global n))) _ refl (λ e. given_comes (whole (Global n))) (λ e. refl) (λ e. refl)
  by_form (ExprKind-F.Param n) t all = accessed_tells setting.structs t (given (whole (Param n))) _ refl (λ e. given_comes (whole (Param n))) (λ e. refl) (λ e. refl)
  by_form (ExprKind-F.BlockMember block n) t all = member_told block n t
  by_form (ExprKind-F.Stage var) t all = valued_tells t (given (setting.stage_value var)) _ _ _ (λ e. given_comes (setting.stage_value var)) (λ e. refl)
  by_form (ExprKind-F.Interface n) t all = accessed_tells setting.structs t (given (whole (Interface n))) _ refl (λ e. given_comes (whole (Interface n))) (λ e. refl) (λ e. refl)
  by_form (ExprKind-F.Member a n) t all = accessed_tells setting.structs t ((part a).access >>= (λ x. given (member_of x n))) _ refl (λ e. then_comes (part a).access (λ x. given (member_of x n)) (all.0.comes e).0 (λ x. given_comes (member_of x n))) (λ e. all.0.still (both_true _ _ e).0) all.0.still
  by_form (ExprKind-F.Index a i) t all =
      accessed_tells setting.structs t ((part a).access >>= (λ x. (part i).value >>= (λ v. indexing x (word_in v)))) _ refl
      (λ e. let n = none_of (known_as a).traits.calls (known_as i).traits.calls e in
      then_comes (part a).access (λ x. (part i).value >>= (λ v. indexing x (word_in v))) (all.0.comes n.0).0
      (λ x. then_comes (part i).value (λ v. indexing x (word_in v)) (all.1.0.comes n.1).1 (λ v. indexing_comes x (word_in v))))
      (λ e. index_whole a i all.0 all.1.0 (both_true _ _ e).0) (index_whole a i all.0 all.1.0)
  by_form (ExprKind-F.Swizzle a lanes) t all =
      accessed_tells setting.structs t ((part a).access >>= (λ x. given (swizzle_of x (picked lanes)))) _ refl (λ e. then_comes (part a).access (λ x. given (swizzle_of x (picked lanes))) (all.0.comes e).0 (λ x. given_comes (swizzle_of x (picked lanes)))) (λ e. all.0.still (both_true _ _ e).0) all.0.still
  by_form (ExprKind-F.Length a) t all = valued_tells t (told_by (counted (part a))) _ _ _ (λ e. told_comes (counted (part a))) (λ e. refl)
  by_form (ExprKind-F.Unary op a) t all = valued_tells t ((part a).value >>= (λ v. given (unary_value op v))) _ _ _ (λ e. then_comes (part a).value (λ v. given (unary_value op v)) (all.0.comes e).1 (λ v. given_comes (unary_value op v))) all.0.quiet
  by_form (ExprKind-F.Binary op a b) t all =
      valued_tells t ((part a).value >>= (λ x. (part b).value >>= (λ y. drawing (binary_value op (is_signed (part a).ty) x y)))) _ _ _
      (λ e. let n = none_of (known_as a).traits.calls (known_as b).traits.calls e in
      then_comes (part a).value (λ x. (part b).value >>= (λ y. drawing (binary_value op (is_signed (part a).ty) x y))) (all.0.comes n.0).1
      (λ x. then_comes (part b).value (λ y. drawing (binary_value op (is_signed (part a).ty) x y)) (all.1.0.comes n.1).1 (λ y. drawing_comes (binary_value op (is_signed (part a).ty) x y))))
      (λ e. two_whole a b false _ all.0 all.1.0 (λ q. refl) e)
  by_form (ExprKind-F.Logic op a b) t all =
      valued_tells t ((part a).value >>= (λ x. if decides op (word_in x) then given x else (part b).value >>= (λ y. given (Word (logic_word op (word_in x) (word_in y)))))) _ _ _
      (λ e. let n = none_of (known_as a).traits.calls (known_as b).traits.calls e in
      then_comes (part a).value (λ x. if decides op (word_in x) then given x else (part b).value >>= (λ y. given (Word (logic_word op (word_in x) (word_in y))))) (all.0.comes n.0).1
      (λ x. if_comes (decides op (word_in x)) (given x) ((part b).value >>= (λ y. given (Word (logic_word op (word_in x) (word_in y))))) (given_comes x)
      (then_comes (part b).value (λ y. given (Word (logic_word op (word_in x) (word_in y)))) (all.1.0.comes n.1).1 (λ y. given_comes (Word (logic_word op (word_in x) (word_in y)))))))
      (λ e. two_whole a b (is_short op (known_as b).traits) true all.0 all.1.0 (λ q. not_short op (known_as b).traits q) e)
  by_form (ExprKind-F.Choose test a b) t all =
      valued_tells t ((part test).value >>= (λ v. if word_in v == 0 then (part b).value else (part a).value)) _ _ _
      (λ e. let n = none_of ((known_as test).traits.calls || (known_as a).traits.calls) (known_as b).traits.calls e in
      let k = none_of (known_as test).traits.calls (known_as a).traits.calls n.0 in
      then_comes (part test).value (λ v. if word_in v == 0 then (part b).value else (part a).value) (all.0.comes k.0).1 (λ v. choice_comes v (part b).value (part a).value (all.1.1.0.comes n.1).1 (all.1.0.comes k.1).1))
      (λ e. choice_whole t test a b all.0 all.1.0 all.1.1.0 e)
  by_form (ExprKind-F.Assign a b) t all =
      valued_tells t ((part a).access >>= (λ x. (part b).value >>= storing x)) _ _ _
      (λ e. let n = none_of (known_as a).traits.calls (known_as b).traits.calls e in
      then_comes (part a).access (λ x. (part b).value >>= storing x) (all.0.comes n.0).0 (λ x. then_comes (part b).value (storing x) (all.1.0.comes n.1).1 (storing_comes x)))
      (λ e. never _ e)
  by_form (ExprKind-F.Update op a b) t all =
      valued_tells t (updating setting.structs (part a) (part b) (binary_value op (is_signed (part a).ty))) _ _ _
      (λ e. let n = none_of (known_as a).traits.calls (known_as b).traits.calls e in
      then_comes (part a).access (λ x. told_by (read setting.structs (part a).ty x) >>= (λ old. (part b).value >>= (λ y. drawing (binary_value op (is_signed (part a).ty) old y) >>= storing x))) (all.0.comes n.0).0
      (λ x. then_comes (told_by (read setting.structs (part a).ty x)) (λ old. (part b).value >>= (λ y. drawing (binary_value op (is_signed (part a).ty) old y) >>= storing x)) (told_comes (read setting.structs (part a).ty x))
      (λ old. then_comes (part b).value (λ y. drawing (binary_value op (is_signed (part a).ty) old y) >>= storing x) (all.1.0.comes n.1).1
      (λ y. then_comes (drawing (binary_value op (is_signed (part a).ty) old y)) (storing x) (drawing_comes (binary_value op (is_signed (part a).ty) old y)) (storing_comes x)))))
      (λ e. never _ e)
  by_form (ExprKind-F.Step op a) t all =
      valued_tells t (stepping setting.structs (part a) (step_value op) (is_postfix op)) _ _ _
      (λ e.
      then_comes (part a).access (λ x. told_by (read setting.structs (part a).ty x) >>= (λ old. storing x (step_value op old) >>= (λ new. given (if is_postfix op then old else new)))) (all.0.comes e).0
      (λ x. then_comes (told_by (read setting.structs (part a).ty x)) (λ old. storing x (step_value op old) >>= (λ new. given (if is_postfix op then old else new))) (told_comes (read setting.structs (part a).ty x))
      (λ old. then_comes (storing x (step_value op old)) (λ new. given (if is_postfix op then old else new)) (storing_comes x (step_value op old)) (λ new. given_comes (if is_postfix op then old else new)))))
      (λ e. absurd (let z : false ≡ true = e in cc))
  by_form (ExprKind-F.Call number args) t all = record { comes = λ e. absurd (let z : true ≡ false = e in cc); literal = λ number e. absurd cc; quiet = λ e. absurd (let z : false ≡ true = e in cc); still = λ e. absurd (let z : false ≡ true = e in cc) }
  by_form (ExprKind-F.Built which args) t all =
      valued_tells t (in_order (map part args) >>= (λ vs. drawing (builtin_value which (is_signed_first (map part args)) vs))) _ _ _
      (λ e. then_comes (in_order (map part args)) (λ vs. drawing (builtin_value which (is_signed_first (map part args)) vs)) (row_comes args all (none_call (valued false false true) (map known_as args) e).1)
      (λ vs. drawing_comes (builtin_value which (is_signed_first (map part args)) vs)))
      (λ e. absurd (let z : false ≡ true = e in cc))
  by_form (ExprKind-F.Build args) t all =
      valued_tells t (in_order (map part args) >>= (λ vs. given (build_value t vs))) _ _ _
      (λ e. then_comes (in_order (map part args)) (λ vs. given (build_value t vs)) (row_comes args all (none_call (valued false false true) (map known_as args) e).1) (λ vs. given_comes (build_value t vs)))
      (λ e. row_whole (valued false false true) args all (λ q. refl) (both_true _ _ e).0)
  by_form (ExprKind-F.Convert a) t all = valued_tells t (part a).value _ _ _ (λ e. (all.0.comes e).1) all.0.quiet
  by_form (ExprKind-F.Comma items) t all =
      valued_tells t (in_order (map part items) >>= (λ vs. given (last_of vs))) _ _ _
      (λ e. then_comes (in_order (map part items)) (λ vs. given (last_of vs)) (row_comes items all (none_call (valued false false true) (map known_as items) e).1) (λ vs. given_comes (last_of vs)))
      (λ e. absurd (let z : false ≡ true = e in cc))

module _ (setting : Setting) where
  abbrev kinds_known : ExprKind → Ty → Traits
  kinds_known = fold-ExprKind (Ty → Traits) Known traits_by known_by

  pub traits_are : (e : Expr) → (known e).traits ≡ known_form setting kinds_known known (form_of e) (type_of e)
  traits_are e =
      ap (λ (k : Known). k.traits) (ap known (sym (roll-out-Expr e)) ∙ fold-roll-Expr (Ty → Traits) Known traits_by known_by (out-Expr e))
      ∙ ap (λ (f : Ty → Traits). f (type_of e)) (ap kinds_known (sym (roll-out-ExprKind (out-Expr e).kind)) ∙ fold-roll-ExprKind (Ty → Traits) Known traits_by known_by (form_of e))

  abbrev Here : Expr → Type 0
  Here = Told setting kinds_known known

  abbrev AllHere : List Expr → Type 0
  AllHere = AllTold setting kinds_known known

  told_is : (e : Expr) → AllHere (parts_of (form_of e)) → Here e
  told_is e all =
      subst (λ (k : Traits). Tells k (fold-Expr (Ty → Meant) Meant (means_by setting) typed_by e)) (sym (traits_are e))
      (subst (Tells (known_form setting kinds_known known (form_of e) (type_of e))) (sym (part_is setting e)) (by_form setting kinds_known known (form_of e) (type_of e) all))

  module _ (around : Around) where
    mutual
      pub told : (e : Expr) → Throughout (IsNode around) e → Here e
      told _ (Throughout.whole e node parts) = told_is e (all_told (parts_of (form_of e)) parts)

      all_told : (es : List Expr) → ThroughoutAll (IsNode around) es → AllHere es
      all_told _ ThroughoutAll.none = tt
      all_told _ (ThroughoutAll.more e es is rest) = (told e is, all_told es rest)

pub expr_tells : (around : Around) (setting : Setting) (e : Expr) → IsExpr around e → Tells (traits_of e) (means setting e)
unfolding means traits_of
expr_tells around setting e is = told setting around e is
