-- Expressions in a row: what each gives, what they ask for together, and their labels.
use Rattle.std.proofs.Common.{◌≡◌, ◌≢◌, ℕ, ◌≤◌, Bool, true, false, ◌||◌, List, [], ◌∷◌, ◌++◌, map, Option, Some, None, refl, sym, ap, ◌∙◌, subst, unwrap_or}
use Rattle.std.specs.List.{AllByRecursion}
use Rattle.std.proofs.lemmas.Bool.{and_parts}
use Rattle.gsl_types.specs.declared.ty.Direction.{Direction}
use Rattle.gsl_types.specs.declared.ty.Ty.{Ty}
use Rattle.gsl_types.specs.declared.ty.Ty.TheVariants as ty
use Rattle.gsl_tree.specs.Around.{Around}
use Rattle.gsl_tree.specs.Expressions as tree
use Rattle.gsl_tree.specs.Expressions.{MayBeRead, is_one_scalar, shapes_of, shapes_with, supplies}
use Rattle.gsl_tree.specs.Shapes.{Shape, shape_of}
use Rattle.gsl_tree.specs.Statements.{deepest, expr_depth}
use Rattle.gsl_tree.specs.Trees.{type_of}
use Rattle.gsl_tree.specs.WellTyped.{AreWellTyped, around_body, program_lists}
use Rattle.gsl_tree.specs.declared.expr.Expr.{Expr}
use Rattle.gsl_tree.specs.declared.program.Program.{Program}
use Rattle.gsl_spv.specs.Sections.{Sections}
use Rattle.gsl_lower_holders.specs.Flow.{Flow}
use Rattle.gsl_lower_traits.specs.Traits.{together_on, with}
use Rattle.gsl_lower_traits.specs.declared.traits.Traits.{Traits}
use Rattle.gsl_lower_expr.specs.Parts as parts
use Rattle.gsl_lower_expr.specs.Parts.{Lower, shape_or}
use Rattle.gsl_lower_needs.specs.Asking.{behind}
use Rattle.gsl_lower_needs.specs.Needs as needs
use Rattle.gsl_lower_needs.specs.Needs.{Asking, hold, keeps, sequence}
use Rattle.gsl_fitting.specs.Fits.{Frame}
use Rattle.gsl_fitting_flow.specs.Flowing.{asked_if}
use Rattle.gsl_fitting_known.specs.OfFittingRows.{ArePlain, EvaluateEach, HaveTypes, Row, asked_in, asked_in_turn, last_type, types_in}
use Rattle.gsl_fitting_known.specs.Fitted.{AllHaveIds}
use Rattle.gsl_fitting_known.specs.Ids.{Wants}
use Rattle.gsl_fitting_known.specs.Known.{Knows}
use Rattle.gsl_fitting_known.proofs.Found.{shaped_real}
use Rattle.gsl_fitting_valued.proofs.Pairs.{max_left, max_right}
use Rattle.gsl_fitting_valued.proofs.Simple as simple
use Rattle.gsl_fitting_known.proofs.Types.{some_is, type_known}
use Rattle.gsl_fitting_known.proofs.Wanting.{two_for, types_append, types_if, wants_given, wants_hold, wants_then}

or_assoc : (a b c : Bool) → ((a || b) || c) ≡ (a || (b || c))
or_assoc true b c = refl
or_assoc false b c = refl

or_none : (a : Bool) → a ≡ (a || false)
or_none true = refl
or_none false = refl

-- the code of several has labels where that of one has
pub together_splits : (so_far : Traits) (es : List Lower) → (together_on so_far (map parts.known_of es)).splits ≡ (so_far.splits || parts.any_splits es)
together_splits so_far [] = or_none so_far.splits
together_splits so_far (e ∷ es) = together_splits (with so_far e.traits) es ∙ or_assoc so_far.splits e.traits.splits (parts.any_splits es)

-- ---- shapes

pub shapes_cons : (x : Option Shape) (xs : Option (List Shape)) (shapes : List Shape) → shapes_with x xs ≡ Some shapes → (first : Shape) × (more : List Shape) × (x ≡ Some first) × (xs ≡ Some more) × (shapes ≡ first ∷ more)
shapes_cons (Some x) (Some xs) shapes is = (x, xs, refl, refl, ap (λ o. unwrap_or o shapes) (sym is))
shapes_cons None xs shapes is = absurd (let z : None ≡ Some shapes = is in cc)
shapes_cons (Some x) None shapes is = absurd (let z : None ≡ Some shapes = is in cc)

module _ (whole : Sections) (main : ℕ) (local_size : List ℕ) (rank : ℕ → ℕ) (f : Frame) (s : Flow) (p : Program) (params : List (Direction × Ty)) (locals : List Ty) (well : AreWellTyped (program_lists p))
    (knows : Knows whole main local_size rank f s p.structs (around_body (program_lists p) params locals)) where
  abbrev Is : Expr → Type 0
  Is = simple.Is whole main local_size rank f s p params locals well knows

  abbrev AllAre : List Expr → Type 0
  AllAre = simple.AllAre whole main local_size rank f s p params locals well knows

  abbrev Has : Ty → Type 0
  Has = simple.Has whole main local_size rank f s p params locals well knows

  abbrev AllHave : List Expr → Type 0
  AllHave = AllHaveIds whole main local_size rank f s p

  abbrev low : Expr → Lower
  low = simple.low whole main local_size rank f s p params locals well knows

  abbrev ask : Expr → Asking
  ask = simple.ask whole main local_size rank f s p params locals well knows

  abbrev id_for : Ty → ℕ
  id_for = simple.id_for whole main local_size rank f s p params locals well knows

  abbrev ids_for : List Ty → List ℕ
  ids_for = simple.ids_for whole main local_size rank f s p params locals well knows

  abbrev around : Around
  around = around_body (program_lists p) params locals

  abbrev AllRead : List Expr → Type 0
  AllRead = AllByRecursion (MayBeRead around)

  abbrev Gives : Ty → ℕ → Lower → Asking → Type 0
  Gives = simple.Gives whole main local_size rank f s p params locals well knows

  abbrev value_of : (e : Expr) → Is e → MayBeRead around e → Has (type_of e) → Gives (type_of e) (expr_depth e) (low e) (ask e)
  value_of = simple.value_of whole main local_size rank f s p params locals well knows

  -- ---- what is known of them

  pub known_same : (es : List Expr) → AllAre es → map needs.known_of (map ask es) ≡ map parts.known_of (map low es)
  known_same [] all = refl
  known_same (e ∷ es) all =
      ap (λ (t : Ty). record { ty = t; traits = (ask e).traits } ∷ map needs.known_of (map ask es)) (all.0.asks_typed ∙ sym all.0.typed) ∙ ap (λ (k : Traits). record { ty = (low e).ty; traits = k } ∷ map needs.known_of (map ask es)) all.0.same
      ∙ ap (λ l. parts.known_of (low e) ∷ l) (known_same es all.1)

  pub splits_same : (es : List Expr) → AllAre es → needs.any_splits (map ask es) ≡ parts.any_splits (map low es)
  splits_same [] all = refl
  splits_same (e ∷ es) all = ap (λ (k : Traits). k.splits || needs.any_splits (map ask es)) all.0.same ∙ ap (λ b. (low e).traits.splits || b) (splits_same es all.1)

  -- what may be evaluated at once has no labels
  pub row_silent : (so_far : Traits) (es : List Expr) → AllAre es → (so_far.quiet ≡ true → so_far.splits ≡ false) → (together_on so_far (map parts.known_of (map low es))).quiet ≡ true → (together_on so_far (map parts.known_of (map low es))).splits ≡ false
  row_silent so_far [] all so = so
  row_silent so_far (e ∷ es) all so = row_silent (with so_far (low e).traits) es all.1 (λ q.
      let w = and_parts so_far.quiet (low e).traits.quiet q in
      ap (λ b. b || (low e).traits.splits) (so w.0) ∙ all.0.silent.quiet w.1)

  -- ---- what each gives

  abbrev pub row_of : (es : List Expr) → AllAre es → AllRead es → AllHave es → Row
  row_of [] all reads has = []
  row_of (e ∷ es) all reads has = (id_for (type_of e), ids_for (value_of e all.0 reads.0 has.0).types) ∷ row_of es all.1 reads.1 has.1

  -- the types of the holders that they ask for
  abbrev pub row_types : (es : List Expr) → AllAre es → AllRead es → AllHave es → List Ty
  row_types [] all reads has = []
  row_types (e ∷ es) all reads has = (value_of e all.0 reads.0 has.0).types ++ (types_if (parts.any_splits (map low es)) (type_of e) ++ row_types es all.1 reads.1 has.1)

  abbrev pub turn_types : (es : List Expr) → AllAre es → AllRead es → AllHave es → List Ty
  turn_types [] all reads has = []
  turn_types (e ∷ es) all reads has = (value_of e all.0 reads.0 has.0).types ++ turn_types es all.1 reads.1 has.1

  pub row_asked : (es : List Expr) (all : AllAre es) (reads : AllRead es) (has : AllHave es) → Wants (keeps (map ask es)) tt (row_types es all reads has)
  unfolding keeps
  row_asked [] all reads has = wants_given tt
  row_asked (e ∷ es) all reads has =
      let g = value_of e all.0 reads.0 has.0 in
      let rest = row_types es all.1 reads.1 has.1 in
      subst (λ (l : List Ty). Wants (keeps (map ask (e ∷ es))) tt (g.types ++ (l ++ rest))) (ap (λ (b : Bool). types_if b (ask e).ty) (splits_same es all.1) ∙ ap (λ (t : Ty). types_if (parts.any_splits (map low es)) t) all.0.asks_typed)
      (wants_then (ask e).value (λ x before. behind (hold (needs.any_splits (map ask es)) (ask e).ty before) (λ done. keeps (map ask es))) tt tt g.types (types_if (needs.any_splits (map ask es)) (ask e).ty ++ rest) g.asked
      (wants_then (hold (needs.any_splits (map ask es)) (ask e).ty) (λ done. keeps (map ask es)) tt tt (types_if (needs.any_splits (map ask es)) (ask e).ty) rest (wants_hold (needs.any_splits (map ask es)) (ask e).ty) (row_asked es all.1 reads.1 has.1)))

  pub turn_asked : (es : List Expr) (all : AllAre es) (reads : AllRead es) (has : AllHave es) → Wants (sequence (map ask es)) tt (turn_types es all reads has)
  unfolding sequence
  turn_asked [] all reads has = wants_given tt
  turn_asked (e ∷ es) all reads has =
      let g = value_of e all.0 reads.0 has.0 in
      wants_then (ask e).value (λ x. sequence (map ask es)) tt tt g.types (turn_types es all.1 reads.1 has.1) g.asked (turn_asked es all.1 reads.1 has.1)

  pub row_ids : (es : List Expr) (all : AllAre es) (reads : AllRead es) (has : AllHave es) → ids_for (row_types es all reads has) ≡ asked_in (map low es) (row_of es all reads has)
  row_ids [] all reads has = refl
  row_ids (e ∷ es) all reads has =
      let g = value_of e all.0 reads.0 has.0 in
      two_for whole s.place g.types (parts.any_splits (map low es)) (type_of e) (row_types es all.1 reads.1 has.1)
      ∙ ap (λ l. ids_for g.types ++ (asked_if (parts.any_splits (map low es)) (id_for (type_of e)) ++ l)) (row_ids es all.1 reads.1 has.1)

  pub turn_ids : (es : List Expr) (all : AllAre es) (reads : AllRead es) (has : AllHave es) → ids_for (turn_types es all reads has) ≡ asked_in_turn (row_of es all reads has)
  turn_ids [] all reads has = refl
  turn_ids (e ∷ es) all reads has =
      let g = value_of e all.0 reads.0 has.0 in
      types_append whole s.place g.types (turn_types es all.1 reads.1 has.1) ∙ ap (λ l. ids_for g.types ++ l) (turn_ids es all.1 reads.1 has.1)

  pub row_each : (es : List Expr) (all : AllAre es) (reads : AllRead es) (has : AllHave es) (deep : ℕ) → deepest (map expr_depth es) ≤ deep → EvaluateEach whole main local_size rank f s deep (map low es) (row_of es all reads has)
  row_each [] all reads has deep enough = tt
  row_each (e ∷ es) all reads has deep enough =
      let g = value_of e all.0 reads.0 has.0 in
      (g.evaluates deep (max_left (expr_depth e) (deepest (map expr_depth es)) deep enough), row_each es all.1 reads.1 has.1 deep (max_right (expr_depth e) (deepest (map expr_depth es)) deep enough))

  abbrev pub AllReal : List Expr → Type 0
  AllReal = AllByRecursion (λ (e : Expr). type_of e ≢ ty.Void)

  pub row_known : (es : List Expr) (all : AllAre es) (reads : AllRead es) (has : AllHave es) → AllReal es → HaveTypes whole main local_size rank f s (map low es) (row_of es all reads has)
  row_known [] all reads has real = tt
  row_known (e ∷ es) all reads has real =
      (simple.known_at whole main local_size rank f s p params locals well knows e all.0 (type_known whole main local_size rank f s p.structs (type_of e) real.0 has.0), row_known es all.1 reads.1 has.1 real.1)

  pub row_plain : (es : List Expr) (all : AllAre es) (reads : AllRead es) (has : AllHave es) (shapes : List Shape) → shapes_of es ≡ Some shapes → ArePlain whole main local_size rank f (map low es) (row_of es all reads has)
  row_plain [] all reads has shapes is = tt
  row_plain (e ∷ es) all reads has shapes is =
      let c = shapes_cons (shape_of (type_of e)) (shapes_of es) shapes is in
      (simple.plain_at whole main local_size rank f s p params locals well knows e all.0 c.0 c.2 has.0, row_plain es all.1 reads.1 has.1 c.1 c.3)

  pub shapes_real : (es : List Expr) (shapes : List Shape) → shapes_of es ≡ Some shapes → AllReal es
  shapes_real [] shapes is = tt
  shapes_real (e ∷ es) shapes is = let c = shapes_cons (shape_of (type_of e)) (shapes_of es) shapes is in (shaped_real (type_of e) c.0 c.2, shapes_real es c.1 c.3)

  pub low_shapes : (es : List Expr) → AllAre es → (shapes : List Shape) → shapes_of es ≡ Some shapes → map (λ (e : Lower). shape_or e.ty) (map low es) ≡ shapes
  low_shapes [] all shapes is = some_is [] shapes is
  low_shapes (e ∷ es) all shapes is =
      let c = shapes_cons (shape_of (type_of e)) (shapes_of es) shapes is in
      ap (λ x. x ∷ map (λ (e : Lower). shape_or e.ty) (map low es)) (simple.low_shape whole main local_size rank f s p params locals well knows e all.0 c.0 c.2) ∙ ap (λ l. c.0 ∷ l) (low_shapes es all.1 c.1 c.3) ∙ sym c.4

  -- the ids of their types
  pub row_is : (es : List Expr) (all : AllAre es) (reads : AllRead es) (has : AllHave es) → types_in (row_of es all reads has) ≡ ids_for (tree.types_of es)
  row_is [] all reads has = refl
  row_is (e ∷ es) all reads has = ap (λ l. id_for (type_of e) ∷ l) (row_is es all.1 reads.1 has.1)

  pub last_is : (e : Expr) (es : List Expr) (all : AllAre es) (reads : AllRead es) (has : AllHave es) (t : Ty) → tree.last_type (e ∷ es) ≡ Some t → last_type (id_for (type_of e)) (row_of es all reads has) ≡ id_for t
  last_is e [] all reads has t is = ap id_for (some_is (type_of e) t is)
  last_is e (next ∷ es) all reads has t is = last_is next es all.1 reads.1 has.1 t is
