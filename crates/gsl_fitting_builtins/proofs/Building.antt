-- Constructors of scalars and vectors.
use Rattle.std.proofs.Common.{◌≡◌, ℕ, ◌-◌, ◌≤◌, Bool, true, false, cond, List, [], ◌∷◌, length, min, refl, sym, ap, ◌∙◌, subst, suc, zero, inl, inr, arith}
use Rattle.std.specs.Prelude.{◌==◌, nat_le, replicate, sum}
use Rattle.std.specs.List.{AllByRecursion, range_with_len}
use Rattle.std.proofs.lemmas.Bool.{eqb-true, true≢false}
use Rattle.std.proofs.lemmas.List.FromFn.{length-range_with_len}
use Rattle.std.proofs.lemmas.List.Sums.{sum_by-cons}
use Rattle.gsl_instr.specs.Forms.{form_of}
use Rattle.gsl_instr.specs.declared.op.TheConstants as op
use Rattle.gsl_types.specs.declared.ty.Scalar.{Scalar}
use Rattle.gsl_tree.specs.Shapes.{Shape}
use Rattle.gsl_spv.specs.Sections.{Sections}
use Rattle.gsl_lower_values.specs.Building.{Built, behind, given as give, in_order}
use Rattle.gsl_lower_values.specs.Constructors as constructors
use Rattle.gsl_lower_values.specs.Constructors.{operand, shares}
use Rattle.gsl_lower_values.specs.Operators.{converted}
use Rattle.gsl_lower_values.specs.declared.operand.Operand.{Operand}
use Rattle.gsl_fitting.specs.Fits.{Frame}
use Rattle.gsl_fitting_builtins.specs.Arguments.{AreArguments, AreEnough, IsArgument, in_all}
use Rattle.gsl_fitting_types.specs.Making.{AreSorted, IsSized, Sorts}
use Rattle.gsl_fitting_operators.proofs.Composites.{AreValues, construct_stands}
use Rattle.gsl_fitting_operators.proofs.Operators.{Fits, Gives, Value, all_alike, converted_fits, converted_sorts, ones_sum, typed_comes, typed_sorts, value_later}
use Rattle.gsl_fitting_builtins.proofs.Picking.{component_fits, component_sorts, is_le, not_le, picked_fits, picked_sorts, range_below}
use Rattle.gsl_fitting_types.proofs.Sorting.{each_sorts, sorts_then, stays_same}
use Rattle.gsl_fitting_types.proofs.Stepping.{Wider, comes_then, given_comes}

-- what a list is of
abbrev item_of : {A : Type 0} → List A → Type 0
item_of {A} items = A

-- a share of an operand: how many components are wanted of it
abbrev Share : Type 0
Share = item_of (shares 0 [])

-- ---- they sort

first_sorts : (a : Operand) (s : Sections) → Sorts s (constructors.first_of a s)
unfolding constructors.first_of
first_sorts a s = by (a.shape.1 == 1)
  where
    by : (b : Bool) → Sorts s ((cond b (give a) (λ t. behind (constructors.component a 0 t) (λ id. give (operand (a.shape.0, 1) id)))) s)
    by true = stays_same s
    by false = sorts_then s (constructors.component a 0 s) (λ id. give (operand (a.shape.0, 1) id)) (component_sorts a 0 s) (λ id t. stays_same t)

cut_sorts : (count : ℕ) (a : Operand) (s : Sections) → Sorts s (constructors.cut count a s)
unfolding constructors.cut
cut_sorts count a s = by (nat_le a.shape.1 count)
  where
    by : (b : Bool) → Sorts s ((cond b (give a) (λ t. behind (constructors.picked a (range_with_len 0 count) t) (λ id. give (operand (a.shape.0, count) id)))) s)
    by true = stays_same s
    by false = sorts_then s (constructors.picked a (range_with_len 0 count) s) (λ id. give (operand (a.shape.0, count) id)) (picked_sorts a (range_with_len 0 count) s) (λ id t. stays_same t)

share_sorts : (k : Scalar) (a : Share) (s : Sections) → Sorts s (constructors.share k a s)
unfolding constructors.share
share_sorts k a s = sorts_then s (constructors.cut a.wanted a.of s) (converted k) (cut_sorts a.wanted a.of s) (λ x t. converted_sorts k x t)

construct_sorts : (shape : Shape) (ids : List ℕ) (s : Sections) → Sorts s (constructors.construct shape ids s)
unfolding form_of
construct_sorts shape ids s = typed_sorts shape op.COMPOSITE_CONSTRUCT ids s (λ type id. refl)

together_sorts : (shape : Shape) (ids : List ℕ) (s : Sections) → Sorts s (constructors.put_together shape ids s)
together_sorts shape [] s = construct_sorts shape [] s
together_sorts shape (id ∷ []) s = stays_same s
together_sorts shape (id ∷ other ∷ ids) s = construct_sorts shape (id ∷ other ∷ ids) s

row_sorts : (shape : Shape) (args : List Operand) (s : Sections) → Sorts s (constructors.in_row shape args s)
row_sorts shape args s = sorts_then s (constructors.parts shape.0 shape.1 args s) (constructors.put_together shape) (each_sorts (constructors.share shape.0) (shares shape.1 args) s (λ a t. share_sorts shape.0 a t)) (λ ids t. together_sorts shape ids t)

filled_sorts : (shape : Shape) (a : Operand) (s : Sections) → Sorts s (constructors.filled_with shape a s)
filled_sorts shape a s = sorts_then s (converted shape.0 a s) (λ part. constructors.construct shape (replicate shape.1 part)) (converted_sorts shape.0 a s) (λ part t. construct_sorts shape (replicate shape.1 part) t)

vector_sorts : (shape : Shape) (args : List Operand) (s : Sections) → Sorts s (constructors.vector shape args s)
vector_sorts shape [] s = row_sorts shape [] s
vector_sorts shape (a ∷ []) s = by (a.shape.1 == 1)
  where
    by : (b : Bool) → Sorts s ((cond b (constructors.filled_with shape a) (constructors.in_row shape (a ∷ []))) s)
    by true = filled_sorts shape a s
    by false = row_sorts shape (a ∷ []) s
vector_sorts shape (a ∷ b ∷ args) s = row_sorts shape (a ∷ b ∷ args) s

scalar_sorts : (k : Scalar) (args : List Operand) (s : Sections) → Sorts s (constructors.scalar k args s)
scalar_sorts k [] s = stays_same s
scalar_sorts k (a ∷ args) s = sorts_then s (constructors.first_of a s) (converted k) (first_sorts a s) (λ x t. converted_sorts k x t)

pub built_sorts : (shape : Shape) (args : List Operand) (s : Sections) → Sorts s (constructors.built shape args s)
unfolding constructors.built
built_sorts shape args s = by (shape.1 == 1)
  where
    by : (b : Bool) → Sorts s ((cond b (constructors.scalar shape.0 args) (constructors.vector shape args)) s)
    by true = scalar_sorts shape.0 args s
    by false = vector_sorts shape args s

-- ---- counts

-- how many components each share has
abbrev taken : List Share → List ℕ
taken [] = []
taken (a ∷ items) = min a.wanted a.of.shape.1 ∷ taken items

not_zero : (n : ℕ) → (n == 0) ≡ false → 1 ≤ n
not_zero zero e = absurd (true≢false e)
not_zero (suc n) e = omega arith

taken_sum : (count : ℕ) (args : List Operand) → count ≤ in_all args → sum (taken (shares count args)) ≡ count
taken_sum count [] enough = omega (arith, enough)
taken_sum count (a ∷ args) enough = by (count == 0) refl (taken_sum (count - a.shape.1) args (omega (arith, enough)))
  where
    by : (b : Bool) → (count == 0) ≡ b → sum (taken (shares (count - a.shape.1) args)) ≡ count - a.shape.1 → sum (taken (cond b [] (record { wanted = count; of = a } ∷ shares (count - a.shape.1) args))) ≡ count
    by true e more = sym (eqb-true count 0 e)
    by false e more = let c = sum_by-cons (λ x. x) (min count a.shape.1) (taken (shares (count - a.shape.1) args)) in omega (arith, c, more)

module _ (whole : Sections) (main : ℕ) (local_size : List ℕ) (rank : ℕ → ℕ) (f : Frame) (sorted : AreSorted whole) where
  abbrev V : List ℕ → Shape → ℕ → Type 0
  V given shape id = Value whole main local_size rank f sorted given shape id

  abbrev G : Shape → ℕ → List ℕ → Sections → Type 0
  G shape = Gives whole main local_size rank f sorted shape

  abbrev F : {A : Type 0} → List ℕ → (A → List ℕ → Sections → Type 0) → Sections → Built A → Type 0
  F given Is before built = Fits whole main local_size rank f sorted given Is before built

  abbrev Many : List ℕ → Scalar → List ℕ → List ℕ → Type 0
  Many given s counts ids = AreValues whole main local_size rank f sorted given s counts ids

  later : (given now : List ℕ) (shape : Shape) (id : ℕ) → Wider given now → V given shape id → V now shape id
  later given now shape id wider v = value_later whole main local_size rank f sorted given now shape id wider v

  abbrev IsArg : List ℕ → Operand → Type 0
  IsArg given a = IsArgument whole main local_size rank f given a

  abbrev AreArgs : List ℕ → List Operand → Type 0
  AreArgs given args = AreArguments whole main local_size rank f given args

  -- an operand of a shape
  abbrev Has : Shape → Operand → List ℕ → Sections → Type 0
  Has shape a now after = (a.shape ≡ shape) × V now shape a.id

  first_fits : (given : List ℕ) (a : Operand) (before : Sections) → IsArg given a → F given (Has (a.shape.0, 1)) before (constructors.first_of a before)
  unfolding constructors.first_of
  first_fits given a before is = by (a.shape.1 == 1) refl
    where
      by : (b : Bool) → (a.shape.1 == 1) ≡ b → F given (Has (a.shape.0, 1)) before ((cond b (give a) (λ t. behind (constructors.component a 0 t) (λ id. give (operand (a.shape.0, 1) id)))) before)
      by true e = given_comes whole main local_size rank f given (Has (a.shape.0, 1)) a before (λ inside. (ap (λ n. (a.shape.0, n)) (eqb-true a.shape.1 1 e), subst (λ n. V given (a.shape.0, n) a.id) (eqb-true a.shape.1 1 e) is.value))
      by false e =
          let some = is.sized.some in
          comes_then whole main local_size rank f given (G (a.shape.0, 1)) (Has (a.shape.0, 1)) before (constructors.component a 0 before) (λ id. give (operand (a.shape.0, 1) id)) (component_sorts a 0 before)
          (component_fits whole main local_size rank f sorted given a 0 before e (omega (arith, some)) is.value) (λ id t. stays_same t)
          (λ id t now v wider extends inside. given_comes whole main local_size rank f now (Has (a.shape.0, 1)) (operand (a.shape.0, 1) id) t (λ inside. (refl, v)))

  cut_fits : (given : List ℕ) (count : ℕ) (a : Operand) (before : Sections) → 1 ≤ count → IsArg given a → F given (Has (a.shape.0, min count a.shape.1)) before (constructors.cut count a before)
  unfolding constructors.cut
  cut_fits given count a before some is = by (nat_le a.shape.1 count) refl
    where
      by : (b : Bool) → nat_le a.shape.1 count ≡ b → F given (Has (a.shape.0, min count a.shape.1)) before ((cond b (give a) (λ t. behind (constructors.picked a (range_with_len 0 count) t) (λ id. give (operand (a.shape.0, count) id)))) before)
      by true e =
          let all : a.shape.1 ≡ min count a.shape.1 = (let le = is_le a.shape.1 count e in omega (arith, le)) in
          given_comes whole main local_size rank f given (Has (a.shape.0, min count a.shape.1)) a before (λ inside. (ap (λ n. (a.shape.0, n)) all, subst (λ n. V given (a.shape.0, n) a.id) all is.value))
      by false e =
          let less = not_le a.shape.1 count e in
          let part : count ≡ min count a.shape.1 = omega (arith, less) in
          let len : length (range_with_len 0 count) ≡ count = length-range_with_len 0 count in
          let few = is.sized.few in
          comes_then whole main local_size rank f given (G (a.shape.0, length (range_with_len 0 count))) (Has (a.shape.0, min count a.shape.1)) before (constructors.picked a (range_with_len 0 count) before) (λ id. give (operand (a.shape.0, count) id))
          (picked_sorts a (range_with_len 0 count) before)
          (picked_fits whole main local_size rank f sorted given a (range_with_len 0 count) before (record { some = omega (arith, len, some); few = omega (arith, len, less, few) }) (range_below 0 count a.shape.1 (omega (arith, less))) is.value)
          (λ id t. stays_same t)
          (λ id t now v wider extends inside. given_comes whole main local_size rank f now (Has (a.shape.0, min count a.shape.1)) (operand (a.shape.0, count) id) t
          (λ inside. (ap (λ n. (a.shape.0, n)) part, subst (λ n. V now (a.shape.0, n) id) (len ∙ part) v)))

  -- a share, converted
  pub record IsShare (given : List ℕ) (a : Share) : Type 0 where
    pub some : 1 ≤ a.wanted
    pub argument : IsArg given a.of

  share_fits : (given : List ℕ) (s : Scalar) (a : Share) (before : Sections) → IsShare given a → F given (G (s, min a.wanted a.of.shape.1)) before (constructors.share s a before)
  unfolding constructors.share
  share_fits given s a before is =
      let count = min a.wanted a.of.shape.1 in
      let p = is.some in
      let q = is.argument.sized.some in
      let r = is.argument.sized.few in
      let sized : (k : Scalar) → IsSized (k, count) = λ k. record { some = omega (arith, p, q); few = omega (arith, r) } in
      comes_then whole main local_size rank f given (Has (a.of.shape.0, count)) (G (s, count)) before (constructors.cut a.wanted a.of before) (converted s) (cut_sorts a.wanted a.of before) (cut_fits given a.wanted a.of before is.some is.argument) (λ x t. converted_sorts s x t)
      (λ x t now has wider extends inside. subst (λ n. F now (G (s, n)) t (converted s x t)) (ap (λ k. k.1) has.0)
      (converted_fits whole main local_size rank f sorted now s x t (subst IsSized (sym has.0) (sized a.of.shape.0)) (subst (λ k. V now k x.id) (sym has.0) has.1)))

  -- ---- parts in a row

  argument_later : (given now : List ℕ) (a : Operand) → Wider given now → IsArg given a → IsArg now a
  argument_later given now a wider is = record { sized = is.sized; value = later given now a.shape a.id wider is.value }

  shares_later : (given now : List ℕ) (items : List Share) → Wider given now → AllByRecursion (IsShare given) items → AllByRecursion (IsShare now) items
  shares_later given now [] wider all = tt
  shares_later given now (a ∷ items) wider all = (record { some = all.0.some; argument = argument_later given now a.of wider all.0.argument }, shares_later given now items wider all.1)

  are_shares : (given : List ℕ) (count : ℕ) (args : List Operand) → AreArgs given args → AllByRecursion (IsShare given) (shares count args)
  are_shares given count [] all = tt
  are_shares given count (a ∷ args) all = by (count == 0) refl (are_shares given (count - a.shape.1) args all.1)
    where
      by : (b : Bool) → (count == 0) ≡ b → AllByRecursion (IsShare given) (shares (count - a.shape.1) args) → AllByRecursion (IsShare given) (cond b [] (record { wanted = count; of = a } ∷ shares (count - a.shape.1) args))
      by true e more = tt
      by false e more = (record { some = not_zero count e; argument = all.0 }, more)

  parts_fit : (given : List ℕ) (s : Scalar) (items : List Share) (before : Sections) → AllByRecursion (IsShare given) items → F given (λ ids now after. Many now s (taken items) ids) before (in_order (constructors.share s) items before)
  unfolding in_order
  parts_fit given s [] before all = given_comes whole main local_size rank f given (λ ids now after. Many now s [] ids) [] before (λ inside. AreValues.none)
  parts_fit given s (a ∷ items) before all =
      comes_then whole main local_size rank f given (G (s, min a.wanted a.of.shape.1)) (λ ids now after. Many now s (taken (a ∷ items)) ids) before (constructors.share s a before) (λ id t. behind (in_order (constructors.share s) items t) (λ ids. give (id ∷ ids)))
      (share_sorts s a before) (share_fits given s a before all.0)
      (λ id t. sorts_then t (in_order (constructors.share s) items t) (λ ids. give (id ∷ ids)) (each_sorts (constructors.share s) items t (λ b u. share_sorts s b u)) (λ ids u. stays_same u))
      (λ id t now v wider extends inside. comes_then whole main local_size rank f now (λ ids now after. Many now s (taken items) ids) (λ ids now after. Many now s (taken (a ∷ items)) ids) t (in_order (constructors.share s) items t) (λ ids. give (id ∷ ids))
      (each_sorts (constructors.share s) items t (λ b u. share_sorts s b u)) (parts_fit now s items t (shares_later given now items wider all.1)) (λ ids u. stays_same u)
      (λ ids u last many wide extends_on inside_on. given_comes whole main local_size rank f last (λ ids now after. Many now s (taken (a ∷ items)) ids) (id ∷ ids) u (λ inside. AreValues.one (later now last (s, min a.wanted a.of.shape.1) id wide v) many)))

  many_later : (given now : List ℕ) (s : Scalar) (counts ids : List ℕ) → Wider given now → Many given s counts ids → Many now s counts ids
  many_later given now s _ _ wider AreValues.none = AreValues.none
  many_later given now s _ _ wider (AreValues.one {count} {id} {counts} {ids} v all) = AreValues.one (later given now (s, count) id wider v) (many_later given now s counts ids wider all)

  pub construct_fits : (given : List ℕ) (shape : Shape) (counts ids : List ℕ) (before : Sections) → IsSized shape → (shape.1 == 1) ≡ false → Many given shape.0 counts ids → sum counts ≡ shape.1 → F given (G shape) before (constructors.construct shape ids before)
  unfolding form_of
  construct_fits given shape counts ids before sized several many count =
      typed_comes whole main local_size rank f sorted given shape op.COMPOSITE_CONSTRUCT ids before sized (λ type id. refl)
      (λ type now wider of. construct_stands whole main local_size rank f sorted now type shape counts ids refl several of (many_later given now shape.0 counts ids wider many) count)

  together_fits : (given : List ℕ) (shape : Shape) (counts ids : List ℕ) (before : Sections) → IsSized shape → (shape.1 == 1) ≡ false → Many given shape.0 counts ids → sum counts ≡ shape.1 → F given (G shape) before (constructors.put_together shape ids before)
  together_fits given shape _ _ before sized several AreValues.none count = let some = sized.some in absurd (omega (arith, some, count))
  together_fits given shape _ _ before sized several (AreValues.one {count} {id} v AreValues.none) sums =
      let e = sum_by-cons (λ x. x) count [] in
      given_comes whole main local_size rank f given (G shape) id before (λ inside. subst (λ n. V given (shape.0, n) id) (omega (arith, e, sums)) v)
  together_fits given shape _ _ before sized several (AreValues.one {count} {id} {counts} {ids} v (AreValues.one {count = other} {id = next} {counts = others} {ids = more} w all)) sums =
      construct_fits given shape (count ∷ other ∷ others) (id ∷ next ∷ more) before sized several (AreValues.one v (AreValues.one w all)) sums

  row_fits : (given : List ℕ) (shape : Shape) (args : List Operand) (before : Sections) → IsSized shape → (shape.1 == 1) ≡ false → shape.1 ≤ in_all args → AreArgs given args → F given (G shape) before (constructors.in_row shape args before)
  row_fits given shape args before sized several enough all =
      comes_then whole main local_size rank f given (λ ids now after. Many now shape.0 (taken (shares shape.1 args)) ids) (G shape) before (constructors.parts shape.0 shape.1 args before) (constructors.put_together shape)
      (each_sorts (constructors.share shape.0) (shares shape.1 args) before (λ a t. share_sorts shape.0 a t)) (parts_fit given shape.0 (shares shape.1 args) before (are_shares given shape.1 args all)) (λ ids t. together_sorts shape ids t)
      (λ ids t now many wider extends inside. together_fits now shape (taken (shares shape.1 args)) ids t sized several many (taken_sum shape.1 args enough))

  filled_fits : (given : List ℕ) (shape : Shape) (a : Operand) (before : Sections) → IsSized shape → (shape.1 == 1) ≡ false → a.shape.1 ≡ 1 → IsArg given a → F given (G shape) before (constructors.filled_with shape a before)
  filled_fits given shape a before sized several one is =
      comes_then whole main local_size rank f given (G (shape.0, a.shape.1)) (G shape) before (converted shape.0 a before) (λ part. constructors.construct shape (replicate shape.1 part)) (converted_sorts shape.0 a before)
      (converted_fits whole main local_size rank f sorted given shape.0 a before is.sized is.value) (λ part t. construct_sorts shape (replicate shape.1 part) t)
      (λ part t now v wider extends inside. construct_fits now shape (replicate shape.1 1) (replicate shape.1 part) t sized several
      (all_alike whole main local_size rank f sorted now shape.0 shape.1 part (subst (λ n. V now (shape.0, n) part) one v)) (ones_sum whole main local_size rank f sorted shape.1))

  vector_fits : (given : List ℕ) (shape : Shape) (args : List Operand) (before : Sections) → IsSized shape → (shape.1 == 1) ≡ false → AreEnough shape args → AreArgs given args → F given (G shape) before (constructors.vector shape args before)
  vector_fits given shape [] before sized several (inl enough) all = row_fits given shape [] before sized several enough all
  vector_fits given shape [] before sized several (inr one) all = absurd (omega (arith, one))
  vector_fits given shape (a ∷ []) before sized several enough all = by (a.shape.1 == 1) refl
    where
      by : (b : Bool) → (a.shape.1 == 1) ≡ b → F given (G shape) before ((cond b (constructors.filled_with shape a) (constructors.in_row shape (a ∷ []))) before)
      by true e = filled_fits given shape a before sized several (eqb-true a.shape.1 1 e) all.0
      by false e = row_fits given shape (a ∷ []) before sized several (many enough) all
        where
          many : AreEnough shape (a ∷ []) → shape.1 ≤ in_all (a ∷ [])
          many (inl enough) = enough
          many (inr one) = absurd (true≢false (sym (single a.shape.1 (omega (arith, one))) ∙ e))
            where
              single : (n : ℕ) → n ≡ 1 → (n == 1) ≡ true
              single n is = ap (λ k. k == 1) is
  vector_fits given shape (a ∷ b ∷ args) before sized several (inl enough) all = row_fits given shape (a ∷ b ∷ args) before sized several enough all
  vector_fits given shape (a ∷ b ∷ args) before sized several (inr one) all = let p = all.0.sized.some in let q = all.1.0.sized.some in absurd (omega (arith, one, p, q))

  scalar_fits : (given : List ℕ) (s : Scalar) (args : List Operand) (before : Sections) → 1 ≤ in_all args → AreArgs given args → F given (G (s, 1)) before (constructors.scalar s args before)
  scalar_fits given s [] before some all = absurd (omega (arith, some))
  scalar_fits given s (a ∷ args) before some all =
      comes_then whole main local_size rank f given (Has (a.shape.0, 1)) (G (s, 1)) before (constructors.first_of a before) (converted s) (first_sorts a before) (first_fits given a before all.0) (λ x t. converted_sorts s x t)
      (λ x t now has wider extends inside. subst (λ n. F now (G (s, n)) t (converted s x t)) (ap (λ k. k.1) has.0)
      (converted_fits whole main local_size rank f sorted now s x t (subst IsSized (sym has.0) (record { some = omega arith; few = omega arith })) (subst (λ k. V now k x.id) (sym has.0) has.1)))

  pub built_fits : (given : List ℕ) (shape : Shape) (args : List Operand) (before : Sections) → IsSized shape → AreEnough shape args → AreArgs given args → F given (G shape) before (constructors.built shape args before)
  unfolding constructors.built
  built_fits given shape args before sized enough all = by (shape.1 == 1) refl
    where
      at_least : AreEnough shape args → 1 ≤ in_all args
      at_least (inl enough) = let some = sized.some in omega (arith, some, enough)
      at_least (inr one) = omega (arith, one)

      by : (b : Bool) → (shape.1 == 1) ≡ b → F given (G shape) before ((cond b (constructors.scalar shape.0 args) (constructors.vector shape args)) before)
      by true e = subst (λ n. F given (G (shape.0, n)) before (constructors.scalar shape.0 args before)) (sym (eqb-true shape.1 1 e)) (scalar_fits given shape.0 args before (at_least enough) all)
      by false e = vector_fits given shape args before sized e enough all
