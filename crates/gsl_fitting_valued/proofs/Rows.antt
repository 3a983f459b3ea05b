-- Built-in functions, constructors and `,`.
use Rattle.std.proofs.Common.{◌≡◌, ◌≢◌, ℕ, ◌+◌, ◌-◌, ◌≤◌, Bool, true, false, ◌&&◌, cond, List, [], ◌∷◌, map, Option, Some, None, refl, sym, ap, ◌∙◌, subst, zero, suc, arith, inl, inr, ◌⊎◌}
use Rattle.std.specs.Prelude.{nat_lt, replicate}
use Rattle.std.specs.List.{AllByRecursion}
use Rattle.std.proofs.lemmas.Bool.{and_parts, eqb-true}
use Rattle.gsl_types.specs.declared.ty.Direction.{Direction}
use Rattle.gsl_types.specs.declared.ty.Member.{Member}
use Rattle.gsl_types.specs.declared.ty.StructType.{StructType}
use Rattle.gsl_types.specs.declared.ty.Ty.{Ty}
use Rattle.gsl_types.specs.declared.ty.Ty.TheOpen.{Ty-F}
use Rattle.gsl_types.specs.declared.ty.Ty.TheVariants as ty
use Rattle.gsl_types.specs.declared.ty.Ty.TheViews.{out-Ty}
use Rattle.gsl_values.specs.declared.function.Builtin.{Builtin}
use Rattle.gsl_tree.specs.Around.{Around}
use Rattle.gsl_tree.specs.Expressions as tree
use Rattle.gsl_tree.specs.Expressions.{IsBuild, IsBuildKind, IsBuilt, MayBeRead, is_one_scalar, member_types, shapes_of, supplies}
use Rattle.gsl_tree.specs.Shapes.{Shape, built_shape, shape_kind, shape_of}
use Rattle.gsl_tree.specs.Statements.{deepest, expr_depth}
use Rattle.gsl_tree.specs.Trees.{type_of}
use Rattle.gsl_tree.specs.WellTyped.{AreWellTyped, around_body, program_lists}
use Rattle.gsl_tree.specs.declared.expr.Expr.{Expr}
use Rattle.gsl_tree.specs.declared.expr.ExprKind.{ExprKind}
use Rattle.gsl_tree.specs.declared.expr.ExprKind.TheOpen.{ExprKind-F}
use Rattle.gsl_tree.specs.declared.program.Program.{Program}
use Rattle.gsl_valid.specs.Kinds as kinds
use Rattle.gsl_valid.specs.Types.{defined_as}
use Rattle.gsl_words.specs.declared.module.Module.{Module}
use Rattle.gsl_spv.specs.Sections.{Sections}
use Rattle.gsl_lower_holders.specs.Flow.{Emit, Flow}
use Rattle.gsl_lower_traits.specs.Traits as traits
use Rattle.gsl_lower_traits.specs.Traits.{together}
use Rattle.gsl_lower_traits.specs.declared.traits.Traits.{Traits}
use Rattle.gsl_lower_expr.specs.Parts as parts
use Rattle.gsl_lower_expr.specs.Parts.{Lower, shape_or}
use Rattle.gsl_lower_needs.specs.Asking.{behind, need}
use Rattle.gsl_lower_needs.specs.Asking as asking
use Rattle.gsl_lower_needs.specs.Needs as needs
use Rattle.gsl_lower_needs.specs.declared.need.Need.TheVariants.{Built}
use Rattle.gsl_lower_needs.specs.Needs.{Asking, built_of, keeps, sequence}
use Rattle.gsl_lower_traits.specs.Traits.{has_shape}
use Rattle.gsl_fitting.specs.Fits.{Frame}
use Rattle.gsl_fitting_types.specs.Making.{made}
use Rattle.gsl_fitting_known.specs.OfFittingRows.{HasParts, asked_in, asked_in_turn, components_of}
use Rattle.gsl_fitting_known.proofs.OfFittingRows.{built_evaluates, called_evaluates, sequence_evaluates, together_evaluates}
use Rattle.gsl_fitting_known.specs.Fitted.{AllHaveIds}
use Rattle.gsl_fitting_known.specs.Ids.{Wants}
use Rattle.gsl_fitting_known.specs.Known.{Knows, part_types, types_of_members}
use Rattle.gsl_fitting_known.specs.Lying.{LieAll, Lies}
use Rattle.gsl_fitting_known.proofs.Found.{layer_real, lies_real}
use Rattle.gsl_fitting_valued.proofs.Operands as rows
use Rattle.gsl_fitting_valued.proofs.Operands.{shapes_cons, together_splits}
use Rattle.gsl_fitting_valued.proofs.Simple as simple
use Rattle.gsl_fitting_known.proofs.Types.{or_cases, plain_known, some_is, type_known}
use Rattle.gsl_fitting_known.proofs.Wanting.{wants_built, wants_given, wants_last}
use Rattle.gsl_fitting_known.specs.OfFittingReads.{both}
use Rattle.gsl_fitting_known.specs.OfFittingReaching.{May}

-- how many components shapes have
abbrev components : List Shape → ℕ
components [] = 0
components (shape ∷ shapes) = shape.1 + components shapes

supplied : (wanted : ℕ) (shapes : List Shape) → supplies wanted shapes ≡ true → wanted ≤ components shapes
supplied wanted [] is = let e = eqb-true wanted 0 is in omega (arith, e)
supplied wanted (shape ∷ shapes) is =
    let w = and_parts (nat_lt 0 wanted) (supplies (wanted - shape.1) shapes) is in
    let rest = supplied (wanted - shape.1) shapes w.1 in
    omega (arith, rest)

one_component : (shapes : List Shape) → is_one_scalar shapes ≡ true → components shapes ≡ 1
one_component (shape ∷ []) is = let e = eqb-true shape.1 1 is in omega (arith, e)
one_component [] is = absurd (let z : false ≡ true = is in cc)
one_component (a ∷ b ∷ more) is = absurd (let z : false ≡ true = is in cc)

components_are : (es : List Lower) (shapes : List Shape) → map (λ (e : Lower). shape_or e.ty) es ≡ shapes → components_of es ≡ components shapes
components_are es shapes is = first es ∙ ap components is
  where
    first : (es : List Lower) → components_of es ≡ components (map (λ (e : Lower). shape_or e.ty) es)
    first [] = refl
    first (e ∷ es) = ap (λ n. (shape_or e.ty).1 + n) (first es)

module _ (whole : Sections) (main : ℕ) (local_size : List ℕ) (rank : ℕ → ℕ) (f : Frame) (s : Flow) (p : Program) (params : List (Direction × Ty)) (locals : List Ty) (well : AreWellTyped (program_lists p))
    (knows : Knows whole main local_size rank f s p.structs (around_body (program_lists p) params locals)) where
  abbrev AllAre : List Expr → Type 0
  AllAre = simple.AllAre whole main local_size rank f s p params locals well knows

  abbrev Has : Ty → Type 0
  Has = simple.Has whole main local_size rank f s p params locals well knows

  abbrev Here : ExprKind-F ExprKind Expr → Ty → Type 0
  Here = simple.Here whole main local_size rank f s p params locals well knows

  abbrev low : Expr → Lower
  low = simple.low whole main local_size rank f s p params locals well knows

  abbrev ask : Expr → Asking
  ask = simple.ask whole main local_size rank f s p params locals well knows

  abbrev id_for : Ty → ℕ
  id_for = simple.id_for whole main local_size rank f s p params locals well knows

  abbrev ids_for : List Ty → List ℕ
  ids_for = simple.ids_for whole main local_size rank f s p params locals well knows

  abbrev E : List ℕ → ℕ → Bool → ℕ → Emit ℕ → Type 0
  E = simple.E whole main local_size rank f s p params locals well knows

  abbrev P : Shape → ℕ → Type 0
  P = simple.P whole main local_size rank f s p params locals well knows

  abbrev around : Around
  around = around_body (program_lists p) params locals

  abbrev m : Module
  m = made whole main local_size rank f

  abbrev AllRead : List Expr → Type 0
  AllRead = AllByRecursion (MayBeRead around)

  -- the one value that a scalar is made of has a component
  first_sized : (es : List Expr) (shape : Shape) → shapes_of es ≡ Some (shape ∷ []) → AllHaveIds whole main local_size rank f s p es → 1 ≤ shape.1
  first_sized [] shape is has = absurd (let z : [] ≡ shape ∷ [] = some_is [] (shape ∷ []) is in cc)
  first_sized (e ∷ es) shape is has =
      let c = shapes_cons (shape_of (type_of e)) (shapes_of es) (shape ∷ []) is in
      let same : shape ≡ c.0 = cc in
      subst (λ (x : Shape). 1 ≤ x.1) (sym same) (plain_known whole main local_size rank f s p.structs (type_of e) c.0 c.2 has.0).sized.some

  -- ---- several in a row

  module _ (es : List Expr) (all : AllAre es) (reads : AllRead es) (has : AllHaveIds whole main local_size rank f s p es) where
    abbrev known : Traits
    known = together (map parts.known_of (map low es))

    abbrev row : List (ℕ × List ℕ)
    row = rows.row_of whole main local_size rank f s p params locals well knows es all reads has

    abbrev types : List Ty
    types = rows.row_types whole main local_size rank f s p params locals well knows es all reads has

    pub knowns_same : (of : Traits → Traits) → of (together (map needs.known_of (map ask es))) ≡ of (together (map parts.known_of (map low es)))
    knowns_same of = ap (λ ks. of (together ks)) (rows.known_same whole main local_size rank f s p params locals well knows es all)

    -- labels and holders as they are told of all of them
    row_told : (deep type : ℕ) (value : Emit ℕ) → E (asked_in (map low es) row) deep (parts.any_splits (map low es)) type value → E (ids_for types) deep known.splits type value
    row_told deep type value is =
        subst (λ (l : List ℕ). E l deep known.splits type value) (sym (rows.row_ids whole main local_size rank f s p params locals well knows es all reads has))
        (subst (λ (c : Bool). E (asked_in (map low es) row) deep c type value) (sym (together_splits (traits.valued false false true) (map low es))) is)

    no_quiet : {b : Bool} → false ≡ true → b ≡ false
    no_quiet e = absurd (let z : false ≡ true = e in cc)

    -- ---- built-in functions

    pub built_here : (which : Builtin) (t : Ty) → IsBuilt which es t → Here (ExprKind-F.Built which es) t
    built_here which t (shapes, shape, are, gives, of) =
        simple.value_form whole main local_size rank f s p params locals well knows t (deepest (map expr_depth es)) (parts.called_of which (map low es)) (keeps (map ask es)) known.splits known.calls false (traits.loud (together (map needs.known_of (map ask es)))) (knowns_same traits.loud) no_quiet
        (λ has_t. record {
          types = types;
          asked = rows.row_asked whole main local_size rank f s p params locals well knows es all reads has;
          evaluates = λ deep enough.
              row_told deep (id_for t) (parts.called_of which (map low es))
              (called_evaluates whole main local_size rank f knows.sorted s deep (id_for t) which (map low es) row shape (plain_known whole main local_size rank f s p.structs t shape (ap shape_of (sym of) ∙ simple.shape_back shape) has_t)
              (ap (built_shape which) (rows.low_shapes whole main local_size rank f s p params locals well knows es all shapes are) ∙ gives) (rows.row_each whole main local_size rank f s p params locals well knows es all reads has deep enough)
              (rows.row_known whole main local_size rank f s p params locals well knows es all reads has (rows.shapes_real whole main local_size rank f s p params locals well knows es shapes are)) (rows.row_plain whole main local_size rank f s p params locals well knows es all reads has shapes are));
        })

    -- ---- constructors

    build_shaped : (t : Ty) (shape : Shape) (shapes : List Shape) (deep : ℕ) → shape_of t ≡ Some shape → shapes_of es ≡ Some shapes → (shape.1 ≤ components shapes) ⊎ (components shapes ≡ 1) → Has t → deepest (map expr_depth es) ≤ deep → E (ids_for types) deep known.splits (id_for t) (parts.constructed t (map low es))
    build_shaped t shape shapes deep shaped are enough_parts has_t enough =
        let count = components_are (map low es) shapes (rows.low_shapes whole main local_size rank f s p params locals well knows es all shapes are) in
        row_told deep (id_for t) (parts.constructed t (map low es))
        (built_evaluates whole main local_size rank f knows.sorted s deep (id_for t) t (map low es) row shape shaped (plain_known whole main local_size rank f s p.structs t shape shaped has_t) (subst (λ n. (shape.1 ≤ n) ⊎ (n ≡ 1)) (sym count) enough_parts)
        (rows.row_each whole main local_size rank f s p params locals well knows es all reads has deep enough)
        (rows.row_known whole main local_size rank f s p params locals well knows es all reads has (rows.shapes_real whole main local_size rank f s p params locals well knows es shapes are)) (rows.row_plain whole main local_size rank f s p params locals well knows es all reads has shapes are))

    build_whole : (t : Ty) (deep : ℕ) → shape_of t ≡ None → t ≢ ty.Void → rows.AllReal whole main local_size rank f s p params locals well knows es → tree.types_of es ≡ part_types p.structs (out-Ty t) → Has t → deepest (map expr_depth es) ≤ deep → E (ids_for types) deep known.splits (id_for t) (parts.constructed t (map low es))
    build_whole t deep none real reals are has_t enough =
        let known_type = type_known whole main local_size rank f s p.structs t real has_t in
        let w = knows.wholes t none known_type in
        row_told deep (id_for t) (parts.constructed t (map low es))
        (together_evaluates whole main local_size rank f knows.sorted s deep (id_for t) t (map low es) row none known_type
        (record { declared = has_t.declared; parts = subst (λ l. HasParts m l (kinds.shape_of (defined_as m (id_for t)))) (ap ids_for (sym are) ∙ sym (rows.row_is whole main local_size rank f s p params locals well knows es all reads has)) w.built })
        (rows.row_each whole main local_size rank f s p params locals well knows es all reads has deep enough) (rows.row_known whole main local_size rank f s p params locals well knows es all reads has reals))

    -- where something stands for an array or a struct, none of its parts is `void`
    elements_real : (items : List Expr) (n : ℕ) (element : Ty) → element ≢ ty.Void → tree.types_of items ≡ replicate n element → rows.AllReal whole main local_size rank f s p params locals well knows items
    elements_real [] n element real is = tt
    elements_real (e ∷ items) zero element real is = absurd (let z : type_of e ∷ tree.types_of items ≡ [] = is in cc)
    elements_real (e ∷ items) (suc n) element real is =
        let first : type_of e ≡ element = cc in
        let rest : tree.types_of items ≡ replicate n element = cc in
        (subst (λ u. u ≢ ty.Void) (sym first) real, elements_real items n element real rest)

    members_real : (home : Option ℕ) (may : May) (room k type : ℕ) (items : List Expr) (members : List Member) → LieAll whole main local_size rank f s.place p.structs home may room k members type → tree.types_of items ≡ member_types members → rows.AllReal whole main local_size rank f s p params locals well knows items
    members_real home may room k type [] members lie is = tt
    members_real home may room k type (e ∷ items) [] lie is = absurd (let z : type_of e ∷ tree.types_of items ≡ [] = is in cc)
    members_real home may room k type (e ∷ items) (member ∷ members) (LieAll.more {other = other} part lies rest) is =
        let first : type_of e ≡ member.ty = cc in
        let more : tree.types_of items ≡ member_types members = cc in
        (subst (λ u. u ≢ ty.Void) (sym first) (lies_real whole main local_size rank f s p around well.structs knows home may room member.ty other lies), members_real home may room (k + 1) type items members rest more)

    parts_real : (t : Ty) (layer : Ty-F Ty) (home : Option ℕ) (may : May) (room type : ℕ) → out-Ty t ≡ layer → shape_of t ≡ None → IsBuildKind around layer es → Lies whole main local_size rank f s.place p.structs home may room t type → rows.AllReal whole main local_size rank f s p params locals well knows es
    parts_real t layer home may room type e none is (Lies.plain {shape = shape} shaped stands) = absurd (let z : None ≡ Some shape = sym none ∙ shaped in cc)
    parts_real t layer home may room type e none is (Lies.array {other = other} {n = n} {element = element} at own parts words lies) =
        elements_real es n element (lies_real whole main local_size rank f s p around well.structs knows home may _ element other lies) (let of : IsBuildKind around (Ty-F.Array element n) es = subst (λ x. IsBuildKind around x es) (sym e ∙ at) is in of)
    parts_real t layer home may room type e none is (Lies.runtime {element = element} at parts lies) = absurd (let of : IsBuildKind around (Ty-F.Runtime element) es = subst (λ x. IsBuildKind around x es) (sym e ∙ at) is in of)
    parts_real t layer home may room type e none is (Lies.struct {room = inner} {k = k} {of = struct} at found own lie) =
        let of : IsBuildKind around (Ty-F.Struct k) es = subst (λ x. IsBuildKind around x es) (sym e ∙ at) is in
        members_real home may inner 0 type es struct.members lie (of.2 ∙ ap (λ (x : StructType). member_types x.members) (some_is of.0 struct (sym of.1 ∙ found)))

    build_composite : (t : Ty) (layer : Ty-F Ty) (deep : ℕ) → out-Ty t ≡ layer → shape_of t ≡ None → t ≢ ty.Void → IsBuildKind around layer es → tree.types_of es ≡ part_types p.structs layer → Has t → deepest (map expr_depth es) ≤ deep → E (ids_for types) deep known.splits (id_for t) (parts.constructed t (map low es))
    build_composite t layer deep e none real is are has_t enough =
        let w = knows.wholes t none (type_known whole main local_size rank f s p.structs t real has_t) in
        build_whole t deep none real (parts_real t layer None both w.room (id_for t) e none is (w.lies None refl)) (are ∙ ap (part_types p.structs) (sym e)) has_t enough

    build_by : (t : Ty) (layer : Ty-F Ty) (deep : ℕ) → out-Ty t ≡ layer → IsBuildKind around layer es → Has t → deepest (map expr_depth es) ≤ deep → E (ids_for types) deep known.splits (id_for t) (parts.constructed t (map low es))
    build_by t Ty-F.Void deep e is has_t enough = absurd is
    build_by t (Ty-F.Runtime element) deep e is has_t enough = absurd is
    build_by t (Ty-F.One k) deep e is has_t enough =
        build_shaped t (k, 1) (is.0 ∷ []) deep (ap shape_kind e) is.1 (inl (let some = first_sized es is.0 is.1 has in let enough_parts : 1 ≤ components (is.0 ∷ []) = omega (arith, some) in enough_parts)) has_t enough
    build_by t (Ty-F.Vector k n) deep e is has_t enough = build_shaped t (k, n) is.0 deep (ap shape_kind e) is.1 (enough_by (or_cases (is_one_scalar is.0) (supplies n is.0) is.2)) has_t enough
      where
        enough_by : (is_one_scalar is.0 ≡ true) ⊎ (supplies n is.0 ≡ true) → (n ≤ components is.0) ⊎ (components is.0 ≡ 1)
        enough_by (inl one) = inr (one_component is.0 one)
        enough_by (inr supply) = inl (supplied n is.0 supply)
    build_by t (Ty-F.Array element n) deep e is has_t enough = build_composite t (Ty-F.Array element n) deep e (ap shape_kind e) (layer_real t (Ty-F.Array element n) e refl) is is has_t enough
    build_by t (Ty-F.Struct k) deep e is has_t enough =
        build_composite t (Ty-F.Struct k) deep e (ap shape_kind e) (layer_real t (Ty-F.Struct k) e refl) is (is.2 ∙ ap types_of_members (sym is.1)) has_t enough

    build_asked : (t : Ty) → Wants (λ before. behind (keeps (map ask es) before) (λ done. built_of t)) tt types
    unfolding built_of
    build_asked t = wants_last (keeps (map ask es)) (λ done. built_of t) tt tt types (rows.row_asked whole main local_size rank f s p params locals well knows es all reads has) (by (has_shape (shape_of t)))
      where
        by : (b : Bool) → Wants (cond b (asking.given tt) (need (Built t))) tt []
        by true = wants_given tt
        by false = wants_built t

    pub build_here : (t : Ty) → IsBuild around es t → Here (ExprKind-F.Build es) t
    build_here t is =
        simple.value_form whole main local_size rank f s p params locals well knows t (deepest (map expr_depth es)) (parts.constructed t (map low es)) (λ before. behind (keeps (map ask es) before) (λ done. built_of t)) known.splits known.calls (known.quiet && has_shape (shape_of t))
        (traits.built t (together (map needs.known_of (map ask es)))) (knowns_same (traits.built t))
        (λ quiet. rows.row_silent whole main local_size rank f s p params locals well knows (traits.valued false false true) es all (λ e. refl) (and_parts known.quiet (has_shape (shape_of t)) quiet).0)
        (λ has_t. record {
          types = types;
          asked = build_asked t;
          evaluates = λ deep enough. build_by t (out-Ty t) deep refl is.0 has_t enough;
        })

  -- ---- one after the other

  pub comma_here : (es : List Expr) (t : Ty) (all : AllAre es) (reads : AllRead es) (has : AllHaveIds whole main local_size rank f s p es) → tree.last_type es ≡ Some t → Here (ExprKind-F.Comma es) t
  comma_here [] t all reads has is = absurd (let z : None ≡ Some t = is in cc)
  comma_here (e ∷ es) t all reads has is =
      let known = together (map parts.known_of (map low (e ∷ es))) in
      let types = rows.turn_types whole main local_size rank f s p params locals well knows (e ∷ es) all reads has in
      let row = rows.row_of whole main local_size rank f s p params locals well knows es all.1 reads.1 has.1 in
      let g = simple.value_of whole main local_size rank f s p params locals well knows e all.0 reads.0 has.0 in
      simple.value_form whole main local_size rank f s p params locals well knows t (deepest (map expr_depth (e ∷ es))) (parts.sequence 0 (map low (e ∷ es))) (sequence (map ask (e ∷ es))) known.splits known.calls false
      (traits.loud (together (map needs.known_of (map ask (e ∷ es))))) (knowns_same (e ∷ es) all reads has traits.loud) (no_quiet (e ∷ es) all reads has)
      (λ has_t. record {
        types = types;
        asked = rows.turn_asked whole main local_size rank f s p params locals well knows (e ∷ es) all reads has;
        evaluates = λ deep enough.
            subst (λ (l : List ℕ). E l deep known.splits (id_for t) (parts.sequence 0 (map low (e ∷ es)))) (sym (rows.turn_ids whole main local_size rank f s p params locals well knows (e ∷ es) all reads has))
            (subst (λ (c : Bool). E (asked_in_turn ((id_for (type_of e), ids_for g.types) ∷ row)) deep c (id_for t) (parts.sequence 0 (map low (e ∷ es)))) (sym (together_splits (traits.valued false false true) (map low (e ∷ es))))
            (subst (λ (type : ℕ). E (asked_in_turn ((id_for (type_of e), ids_for g.types) ∷ row)) deep (parts.any_splits (map low (e ∷ es))) type (parts.sequence 0 (map low (e ∷ es)))) (rows.last_is whole main local_size rank f s p params locals well knows e es all.1 reads.1 has.1 t is)
            (sequence_evaluates whole main local_size rank f knows.sorted s deep (low e) (map low es) (id_for (type_of e), ids_for g.types) row (rows.row_each whole main local_size rank f s p params locals well knows (e ∷ es) all reads has deep enough))));
      })
