-- What an expression gives is the same whatever the choices are, or draws whatever they are.
use Rattle.std.proofs.Common.{◌≡◌, refl, sym, ap, subst, ◌∙◌, ℕ, ◌≤◌, ◌⊎◌, inl, inr, List, [], ◌∷◌, length, map, Option, Some, None, arith}
use Rattle.std.specs.Prelude.{◌≢◌, Bool, true, false, ◌==◌, if◌then◌else◌}
use Rattle.gsl_types.specs.declared.ty.Ty.{Ty}
use Rattle.gsl_values.specs.declared.value.Value.{Value}
use Rattle.gsl_values.specs.declared.value.Value.TheVariants.{Word}
use Rattle.gsl_tree.specs.declared.expr.Expr.{Expr}
use Rattle.gsl_tree.specs.declared.expr.ExprKind.{ExprKind}
use Rattle.gsl_tree.specs.declared.expr.ExprKind.TheOpen.{ExprKind-F, Expr-F}
use Rattle.gsl_tree.specs.declared.expr.ExprKind.TheFolds.{fold-Expr, fold-ExprKind, fold-roll-Expr, fold-roll-ExprKind, ind-Expr, map-Expr, map-ExprKind}
use Rattle.gsl_tree.specs.declared.expr.ExprKind.TheViews.{roll-Expr, roll-ExprKind}
use Rattle.gsl_tree.specs.declared.folded.Consts.{Consts}
use Rattle.gsl_tree.specs.declared.folded.Folded.{Folded}
use Rattle.gsl_tree.specs.declared.folded.Folded.TheVariants.{Known, NotConstant, Free}
use Rattle.gsl_tree.specs.declared.folded.Standing.{Standing}
use Rattle.gsl_tree.specs.declared.folded.Standing.TheVariants.{Settled, Open, Never}
use Rattle.gsl_tree.specs.Constants.{Part, constant_of, folded_value, gives, gives_by, in_order, is_signed_first, known_as, known_at, known_by, part_of, standing}
use Rattle.gsl_tree.specs.Drawing.{Drawing, given, ◌>>=◌, drawn, checked}
use Rattle.gsl_tree.specs.Operations.{binary_value, build_value, builtin_value, decides, index_value, is_signed, length_of, logic_word, member_value, swizzle_value, unary_value}
use Rattle.gsl_tree.specs.Values.{word_in}
use Rattle.gsl_fold.specs.Laws.{DrawsAlways, GivesAlways}
use Rattle.gsl_fold.proofs.Steady.{Steady, steady_binary, steady_bind, steady_builtin, steady_checked, steady_given, steady_strays}

steady_if : {A : Type 0} (b : Bool) (x y : Drawing A) → Steady x → Steady y → Steady (if b then x else y)
steady_if true x y is other = is
steady_if false x y is other = other

module _ (consts : Consts) where
  abbrev Kinds : Type 0
  Kinds = Ty → Drawing Value

  abbrev part : Expr → Part
  part = fold-Expr Kinds Part (gives_by consts) part_of

  abbrev SteadyKind : ExprKind → Type 0
  SteadyKind k = (ty : Ty) → Steady (fold-ExprKind Kinds Part (gives_by consts) part_of k ty)

  abbrev SteadyExpr : Expr → Type 0
  SteadyExpr e = Steady (part e).1

  abbrev Child : Type 0
  Child = (e : Expr) × SteadyExpr e

  steady_folded : (f : Folded) → Steady (folded_value f)
  steady_folded (Known v) = steady_given v
  steady_folded NotConstant = steady_strays
  steady_folded Free = steady_strays

  steady_all : (es : List Child) → Steady (in_order (map part (map (λ (e : Child). e.0) es)))
  steady_all [] = steady_given []
  steady_all (e ∷ es) =
      steady_bind (part e.0).1 (λ v. in_order (map part (map (λ (c : Child). c.0) es)) >>= (λ vs. given (v ∷ vs))) e.1
      (λ v. steady_bind (in_order (map part (map (λ (c : Child). c.0) es))) (λ vs. given (v ∷ vs)) (steady_all es) (λ vs. steady_given (v ∷ vs)))

  -- one layer, by what its parts give
  rolled : (x : ExprKind-F ExprKind Expr) → ((ty : Ty) → Steady (gives_by consts (map-ExprKind _ _ _ _ (fold-ExprKind Kinds Part (gives_by consts) part_of) part x) ty)) → SteadyKind (roll-ExprKind x)
  rolled x is ty = subst (λ (f : Kinds). Steady (f ty)) (sym (fold-roll-ExprKind Kinds Part (gives_by consts) part_of x)) (is ty)

  by_kind : (y : ExprKind-F ((k : ExprKind) × SteadyKind k) Child) → SteadyKind (roll-ExprKind (map-ExprKind _ _ _ _ (λ k. k.0) (λ e. e.0) y))
  by_kind (ExprKind-F.Const v) = rolled (ExprKind-F.Const v) (λ ty. steady_given v)
  by_kind (ExprKind-F.Local n) = rolled (ExprKind-F.Local n) (λ ty. steady_folded (known_at consts.locals n))
  by_kind (ExprKind-F.Global n) = rolled (ExprKind-F.Global n) (λ ty. steady_folded (known_at consts.globals n))
  by_kind (ExprKind-F.Member a n) = rolled (ExprKind-F.Member a.0 n) (λ ty. steady_bind (part a.0).1 (λ v. given (member_value v n)) a.1 (λ v. steady_given (member_value v n)))
  by_kind (ExprKind-F.Index a i) = rolled (ExprKind-F.Index a.0 i.0) (λ ty.
      steady_bind (part a.0).1 (λ v. (part i.0).1 >>= (λ at_index. checked (index_value v (word_in at_index)))) a.1
      (λ v. steady_bind (part i.0).1 (λ at_index. checked (index_value v (word_in at_index))) i.1 (λ at_index. steady_checked (index_value v (word_in at_index)))))
  by_kind (ExprKind-F.Swizzle a lanes) = rolled (ExprKind-F.Swizzle a.0 lanes) (λ ty. steady_bind (part a.0).1 (λ v. given (swizzle_value v lanes)) a.1 (λ v. steady_given (swizzle_value v lanes)))
  by_kind (ExprKind-F.Length a) = rolled (ExprKind-F.Length a.0) (λ ty. steady_given (Word (length_of (part a.0).0)))
  by_kind (ExprKind-F.Unary op a) = rolled (ExprKind-F.Unary op a.0) (λ ty. steady_bind (part a.0).1 (λ v. given (unary_value op v)) a.1 (λ v. steady_given (unary_value op v)))
  by_kind (ExprKind-F.Binary op a b) = rolled (ExprKind-F.Binary op a.0 b.0) (λ ty.
      steady_bind (part a.0).1 (λ x. (part b.0).1 >>= (λ y. drawn (binary_value op (is_signed (part a.0).0) x y))) a.1
      (λ x. steady_bind (part b.0).1 (λ y. drawn (binary_value op (is_signed (part a.0).0) x y)) b.1 (λ y. steady_binary op (is_signed (part a.0).0) x y)))
  by_kind (ExprKind-F.Logic op a b) = rolled (ExprKind-F.Logic op a.0 b.0) (λ ty.
      steady_bind (part a.0).1 (λ x. if decides op (word_in x) then given x else (part b.0).1 >>= (λ y. given (Word (logic_word op (word_in x) (word_in y))))) a.1
      (λ x. steady_if (decides op (word_in x)) (given x) ((part b.0).1 >>= (λ y. given (Word (logic_word op (word_in x) (word_in y))))) (steady_given x)
      (steady_bind (part b.0).1 (λ y. given (Word (logic_word op (word_in x) (word_in y)))) b.1 (λ y. steady_given (Word (logic_word op (word_in x) (word_in y)))))))
  by_kind (ExprKind-F.Choose test a b) = rolled (ExprKind-F.Choose test.0 a.0 b.0) (λ ty.
      steady_bind (part test.0).1 (λ t. if word_in t == 0 then (part b.0).1 else (part a.0).1) test.1 (λ t. steady_if (word_in t == 0) (part b.0).1 (part a.0).1 b.1 a.1))
  by_kind (ExprKind-F.Built which args) = rolled (ExprKind-F.Built which (map (λ (e : Child). e.0) args)) (λ ty.
      steady_bind (in_order (map part (map (λ (e : Child). e.0) args))) (λ vs. drawn (builtin_value which (is_signed_first (map part (map (λ (e : Child). e.0) args))) vs)) (steady_all args)
      (λ vs. steady_builtin which (is_signed_first (map part (map (λ (e : Child). e.0) args))) vs))
  by_kind (ExprKind-F.Build args) = rolled (ExprKind-F.Build (map (λ (e : Child). e.0) args)) (λ ty.
      steady_bind (in_order (map part (map (λ (e : Child). e.0) args))) (λ vs. given (build_value ty vs)) (steady_all args) (λ vs. steady_given (build_value ty vs)))
  by_kind (ExprKind-F.Convert a) = rolled (ExprKind-F.Convert a.0) (λ ty. a.1)
  by_kind y = rolled (map-ExprKind _ _ _ _ (λ k. k.0) (λ e. e.0) y) (λ ty. steady_strays)

  by_expr : (y : Expr-F ((k : ExprKind) × SteadyKind k) Child) → SteadyExpr (roll-Expr (map-Expr _ _ _ _ (λ k. k.0) (λ e. e.0) y))
  by_expr y = subst (λ (p : Part). Steady p.1) (sym (fold-roll-Expr Kinds Part (gives_by consts) part_of (map-Expr _ _ _ _ (λ k. k.0) (λ e. e.0) y))) (y.kind.1 y.ty)

  pub steady : (e : Expr) → Steady (gives consts e)
  unfolding gives
  steady e = ind-Expr SteadyKind SteadyExpr (λ x y is. subst (λ z. SteadyKind (roll-ExprKind z)) is (by_kind y)) (λ x y is. subst (λ z. SteadyExpr (roll-Expr z)) is (by_expr y)) e

-- ---- what is known of it

abbrev Drawn : Type 0
Drawn = Option Value × List ℕ

abbrev value_or : Value → Folded → Value
value_or d (Known v) = v
value_or d _ = d

abbrev number : Folded → ℕ
number (Known v) = 0
number NotConstant = 1
number Free = 2

known_is : (s : Standing) (r : Drawn) (v : Value) → known_as s r ≡ Known v → (s ≡ Settled) × (r.0 ≡ Some v) × (1 ≤ length r.1)
known_is Never r v is = let never : ⊥ = omega (arith, ap number is) in elim never [ ]
known_is Open r v is = let never : ⊥ = omega (arith, ap number is) in elim never [ ]
known_is Settled (found, []) v is = let never : ⊥ = omega (arith, ap number is) in elim never [ ]
known_is Settled (Some w, choice ∷ choices) v is = (refl, ap (λ f. Some (value_or w f)) is, omega arith)
known_is Settled (None, choice ∷ choices) v is = let never : ⊥ = omega (arith, ap number is) in elim never [ ]

free_is : (s : Standing) (r : Drawn) → known_as s r ≡ Free → (s ≡ Open) ⊎ ((s ≡ Settled) × (length r.1 ≡ 0))
free_is Never r is = let never : ⊥ = omega (arith, ap number is) in elim never [ ]
free_is Open r is = inl refl
free_is Settled (found, []) is = inr (refl, refl)
free_is Settled (Some w, choice ∷ choices) is = let never : ⊥ = omega (arith, ap number is) in elim never [ ]
free_is Settled (None, choice ∷ choices) is = let never : ⊥ = omega (arith, ap number is) in elim never [ ]

not_constant_is : (s : Standing) (r : Drawn) → known_as s r ≡ NotConstant → (s ≡ Never) ⊎ ((s ≡ Settled) × (r.0 ≡ None) × (1 ≤ length r.1))
not_constant_is Never r is = inl refl
not_constant_is Open r is = let never : ⊥ = omega (arith, ap number is) in elim never [ ]
not_constant_is Settled (found, []) is = let never : ⊥ = omega (arith, ap number is) in elim never [ ]
not_constant_is Settled (Some w, choice ∷ choices) is = let never : ⊥ = omega (arith, ap number is) in elim never [ ]
not_constant_is Settled (None, choice ∷ choices) is = inr (refl, refl, omega arith)

none_left : (r : Drawn) → length r.1 ≤ 0 → known_by r ≡ Free
none_left (found, []) none = refl
none_left (found, choice ∷ choices) none = let never : ⊥ = omega (arith, none) in elim never [ ]

module _ (consts : Consts) (e : Expr) where
  abbrev Either : Type 0
  Either = ((found : Option Value) × GivesAlways (gives consts e) found) ⊎ DrawsAlways (gives consts e)

  -- where a choice is left, none was drawn
  always_found : (found : Option Value) → (gives consts e (0 ∷ [])).0 ≡ found → 1 ≤ length (gives consts e (0 ∷ [])).1 → Either → GivesAlways (gives consts e) found
  always_found found is left (inl (other, gives_other)) = subst (GivesAlways (gives consts e)) (ap (λ (r : Drawn). r.0) (sym (gives_other (0 ∷ []))) ∙ is) gives_other
  always_found found is left (inr draws) = let never : ⊥ = omega (arith, left, draws 0 []) in elim never [ ]

  always_draws : length (gives consts e (0 ∷ [])).1 ≡ 0 → Either → DrawsAlways (gives consts e)
  always_draws none (inl (found, gives_found)) = let never : ⊥ = omega (arith, none, ap (λ (r : Drawn). length r.1) (gives_found (0 ∷ []))) in elim never [ ]
  always_draws none (inr draws) = draws

  pub known_gives : (v : Value) → constant_of consts e ≡ Known v → GivesAlways (gives consts e) (Some v)
  unfolding constant_of
  known_gives v is = let so = known_is (standing consts e) (gives consts e (0 ∷ [])) v is in always_found (Some v) so.1 so.2 (steady consts e).either

  pub gives_known : (v : Value) → standing consts e ≡ Settled → GivesAlways (gives consts e) (Some v) → constant_of consts e ≡ Known v
  unfolding constant_of
  gives_known v settled gives_v = ap (λ s. known_as s (gives consts e (0 ∷ []))) settled ∙ ap known_by (gives_v (0 ∷ []))

  drawn_free : standing consts e ≡ Settled → DrawsAlways (gives consts e) → constant_of consts e ≡ Free
  unfolding constant_of
  drawn_free settled draws = ap (λ s. known_as s (gives consts e (0 ∷ []))) settled ∙ none_left (gives consts e (0 ∷ [])) (draws 0 [])

  pub differs_free : (some others : List ℕ) → standing consts e ≡ Settled → (gives consts e some).0 ≢ (gives consts e others).0 → constant_of consts e ≡ Free
  differs_free some others settled differ = by (steady consts e).either
    where
      by : Either → constant_of consts e ≡ Free
      by (inl (found, gives_found)) =
          let never : ⊥ = differ (ap (λ (r : Drawn). r.0) (gives_found some) ∙ sym (ap (λ (r : Drawn). r.0) (gives_found others))) in elim never [ ]
      by (inr draws) = drawn_free settled draws

  pub draws_free : (choices : List ℕ) → standing consts e ≡ Settled → (gives consts e choices).1 ≢ choices → constant_of consts e ≡ Free
  draws_free choices settled differ = by (steady consts e).either
    where
      by : Either → constant_of consts e ≡ Free
      by (inl (found, gives_found)) = let never : ⊥ = differ (ap (λ (r : Drawn). r.1) (gives_found choices)) in elim never [ ]
      by (inr draws) = drawn_free settled draws

  pub free_draws : constant_of consts e ≡ Free → (standing consts e ≡ Open) ⊎ ((standing consts e ≡ Settled) × DrawsAlways (gives consts e))
  unfolding constant_of
  free_draws is = by (free_is (standing consts e) (gives consts e (0 ∷ [])) is)
    where
      by : (standing consts e ≡ Open) ⊎ ((standing consts e ≡ Settled) × (length (gives consts e (0 ∷ [])).1 ≡ 0)) → (standing consts e ≡ Open) ⊎ ((standing consts e ≡ Settled) × DrawsAlways (gives consts e))
      by (inl is_open) = inl is_open
      by (inr (settled, none)) = inr (settled, always_draws none (steady consts e).either)

  pub never_gives : constant_of consts e ≡ NotConstant → (standing consts e ≡ Never) ⊎ ((standing consts e ≡ Settled) × GivesAlways (gives consts e) None)
  unfolding constant_of
  never_gives is = by (not_constant_is (standing consts e) (gives consts e (0 ∷ [])) is)
    where
      by : (standing consts e ≡ Never) ⊎ ((standing consts e ≡ Settled) × ((gives consts e (0 ∷ [])).0 ≡ None) × (1 ≤ length (gives consts e (0 ∷ [])).1))
          → (standing consts e ≡ Never) ⊎ ((standing consts e ≡ Settled) × GivesAlways (gives consts e) None)
      by (inl is_never) = inl is_never
      by (inr (settled, none, left)) = inr (settled, always_found None none left (steady consts e).either)
