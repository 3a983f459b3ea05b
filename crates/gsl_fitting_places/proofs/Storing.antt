-- What is stored where an expression leads.
use Rattle.std.proofs.Common.{◌≡◌, ℕ, ◌+◌, ◌<◌, ◌≤◌, Bool, true, false, cond, List, [], ◌∷◌, ◌++◌, length, Option, Some, None, refl, ap, ◌∙◌, subst, arith}
use Rattle.std.specs.Prelude.{◌==◌}
use Rattle.std.proofs.lemmas.Bool.{eqb-true}
use Rattle.gsl_tree.specs.Shapes.{Shape}
use Rattle.gsl_words.specs.declared.module.Module.{Module}
use Rattle.gsl_spv.specs.Sections.{Sections}
use Rattle.gsl_lower_values.specs.Building.{Built}
use Rattle.gsl_lower_values.specs.Constructors.{operand, picked}
use Rattle.gsl_lower_values.specs.declared.operand.Operand.{Operand}
use Rattle.gsl_lower_places.specs.Pointed.{several_by}
use Rattle.gsl_lower_places.specs.Reached.{stored_shape}
use Rattle.gsl_lower_places.specs.Writing.{each_from, one_at, put_at, put_by, put_in, put_picked, put_variable, stored}
use Rattle.gsl_lower_places.specs.declared.reached.Base.{Base}
use Rattle.gsl_lower_places.specs.declared.reached.Base.TheVariants.{Variable, Value}
use Rattle.gsl_lower_places.specs.declared.reached.Part.{Part}
use Rattle.gsl_lower_places.specs.declared.reached.Part.TheVariants.{Fixed}
use Rattle.gsl_lower_places.specs.declared.reached.Picked.{Picked}
use Rattle.gsl_lower_places.specs.declared.reached.Reached.{Reached}
use Rattle.gsl_fitting.specs.Fits.{Frame}
use Rattle.gsl_fitting_types.specs.Making.{AreSorted, IsTypeOf, Sorts, made}
use Rattle.gsl_fitting_types.proofs.Sorting.{sorts_then, stays_same}
use Rattle.gsl_fitting_types.proofs.Stepping.{comes_then, given_comes}
use Rattle.gsl_fitting_operators.proofs.Operators.{value_later}
use Rattle.gsl_fitting_builtins.proofs.Picking.{picked_fits, picked_sorts}
use Rattle.gsl_fitting_places.specs.Leading.{Leads, Nothing, may_change}
use Rattle.gsl_fitting_places.specs.Places.{AreStored, MayStore, Picks, Stores, StoresPlace, TakesMore, way_by}
use Rattle.gsl_fitting_places.proofs.Chains.{leads_later}
use Rattle.gsl_fitting_places.proofs.Moves.{F, G, V, put_fits, put_sorts}
use Rattle.gsl_fitting_places.proofs.Ways.{At, one_at as component_there, one_changes, served_by, shape_by, way_more, way_one}

-- ---- they sort

one_sorts : (id class : ℕ) (parts : List Part) (a : Operand) (number position : ℕ) (s : Sections) → Sorts s (one_at id class parts a number position s)
unfolding one_at
one_sorts id class parts a number position s =
    sorts_then s (picked a (number ∷ []) s) (put_at id class (a.shape.0, 1) (parts ++ Fixed position ∷ [])) (picked_sorts a (number ∷ []) s) (λ word t. put_sorts id class (a.shape.0, 1) (parts ++ Fixed position ∷ []) word t)

each_sorts : (id class : ℕ) (parts : List Part) (a : Operand) (number : ℕ) (positions : List ℕ) (s : Sections) → Sorts s (each_from id class parts a number positions s)
unfolding each_from
each_sorts id class parts a number [] s = stays_same s
each_sorts id class parts a number (position ∷ positions) s =
    sorts_then s (one_at id class parts a number position s) (λ done. each_from id class parts a (number + 1) positions) (one_sorts id class parts a number position s) (λ done t. each_sorts id class parts a (number + 1) positions t)

put_picked_sorts : (id class : ℕ) (parts : List Part) (v : ℕ) (p : Picked) (s : Sections) → Sorts s (put_picked id class parts v p s)
unfolding put_picked
put_picked_sorts id class parts v p s = by (p.shape.1 == 1)
  where
    by_part : (by : Option Part) → Sorts s (put_by id class p.shape by p.positions parts v s)
    by_part None = each_sorts id class parts (operand (p.shape.0, length p.positions) v) 0 p.positions s
    by_part (Some part) = put_sorts id class (p.shape.0, 1) (parts ++ part ∷ []) v s

    by : (b : Bool) → Sorts s ((cond b (put_at id class p.shape parts v) (put_by id class p.shape p.by p.positions parts v)) s)
    by true = put_sorts id class p.shape parts v s
    by false = by_part p.by

pub stored_sorts : (shape : Shape) (r : Reached) (v : ℕ) (s : Sections) → Sorts s (stored shape r v s)
unfolding stored
stored_sorts shape r v s = by r.base r.picked
  where
    by : (base : Base) (p : Option Picked) → Sorts s (put_in base r.path shape v p s)
    by (Variable id class) None = put_sorts id class shape r.path v s
    by (Variable id class) (Some p) = put_picked_sorts id class r.path v p s
    by (Value id type) p = stays_same s

module _ (whole : Sections) (main : ℕ) (local_size : List ℕ) (rank : ℕ → ℕ) (f : Frame) (sorted : AreSorted whole) where
  abbrev m : Module
  m = made whole main local_size rank f

  abbrev W : List ℕ → Shape → ℕ → Type 0
  W given shape id = V whole main local_size rank f sorted given shape id

  abbrev D : {A : Type 0} → List ℕ → (A → List ℕ → Sections → Type 0) → Sections → Built A → Type 0
  D given Is before built = F whole main local_size rank f sorted given Is before built

  abbrev H : Shape → ℕ → List ℕ → Sections → Type 0
  H shape = G whole main local_size rank f sorted shape

  -- ---- several components

  module _ (class id pointee type : ℕ) (parts : List Part) (shape : Shape) (several : (shape.1 == 1) ≡ false) (of : IsTypeOf whole (stored_shape class shape) type) (more : TakesMore whole main local_size rank f (Variable id class) parts) (may : may_change m class id pointee parts ≡ true)
      (a : Operand) (same : shape.0 ≡ a.shape.0) where
    abbrev IsLeading : List ℕ → Type 0
    IsLeading given = Leads whole main local_size rank f given class id pointee parts type

    one_fits : (given : List ℕ) (number position : ℕ) (before : Sections) → IsLeading given → number < a.shape.1 → W given a.shape a.id → D given Nothing before (one_at id class parts a number position before)
    unfolding one_at
    one_fits given number position before l less v =
        comes_then whole main local_size rank f given (H (a.shape.0, 1)) Nothing before (picked a (number ∷ []) before) (put_at id class (a.shape.0, 1) (parts ++ Fixed position ∷ [])) (picked_sorts a (number ∷ []) before)
        (picked_fits whole main local_size rank f sorted given a (number ∷ []) before (record { some = omega arith; few = omega arith }) (less, tt) v) (λ word t. put_sorts id class (a.shape.0, 1) (parts ++ Fixed position ∷ []) word t)
        (λ word t now is wider extends inside.
        let later = leads_later whole main local_size rank f sorted given now class id pointee parts type wider l in
        let along = way_one whole main local_size rank f sorted class id parts (Fixed position) more in
        put_fits whole main local_size rank f sorted now class id pointee (parts ++ Fixed position ∷ []) (a.shape.0, 1) word t
        (subst (λ s. At whole main local_size rank f sorted now class id pointee (parts ++ Fixed position ∷ []) (s, 1)) same (component_there whole main local_size rank f sorted now class id pointee type parts (Fixed position) shape several later of tt along))
        (one_changes whole main local_size rank f sorted now class id pointee type parts (Fixed position) shape several later of along.begins may) is)

    each_fits : (given : List ℕ) (number : ℕ) (positions : List ℕ) (before : Sections) → IsLeading given → number + length positions ≤ a.shape.1 → W given a.shape a.id → D given Nothing before (each_from id class parts a number positions before)
    unfolding each_from
    each_fits given number [] before l few v = given_comes whole main local_size rank f given Nothing tt before (λ inside. tt)
    each_fits given number (position ∷ positions) before l few v =
        comes_then whole main local_size rank f given Nothing Nothing before (one_at id class parts a number position before) (λ done. each_from id class parts a (number + 1) positions) (one_sorts id class parts a number position before)
        (one_fits given number position before l (omega (arith, few)) v) (λ done t. each_sorts id class parts a (number + 1) positions t)
        (λ done t now is wider extends inside. each_fits now (number + 1) positions t (leads_later whole main local_size rank f sorted given now class id pointee parts type wider l) (omega (arith, few)) (value_later whole main local_size rank f sorted given now a.shape a.id wider v))

  -- ---- by what is picked

  vector_fits : (given : List ℕ) (class id pointee type : ℕ) (parts : List Part) (shape : Shape) (by : Option Part) (positions : List ℕ) (v : ℕ) (before : Sections) → (shape.1 == 1) ≡ false → 1 ≤ length positions → AreStored shape.1 by positions
      → Leads whole main local_size rank f given class id pointee parts type → IsTypeOf whole (stored_shape class shape) type → may_change m class id pointee parts ≡ true → (several_by by positions ≡ true → TakesMore whole main local_size rank f (Variable id class) parts)
      → At whole main local_size rank f sorted given class id pointee (way_by parts by positions) (shape_by whole main local_size rank f sorted shape by positions) → may_change m class id pointee (way_by parts by positions) ≡ true
      → W given (shape.0, length positions) v → D given Nothing before (put_by id class shape by positions parts v before)
  vector_fits given class id pointee type parts shape None [] v before many some few l of may more a changes value = absurd (omega (arith, some))
  vector_fits given class id pointee type parts shape None (position ∷ []) v before many some few l of may more a changes value =
      each_fits class id pointee type parts shape many of (way_more whole main local_size rank f sorted class id parts (Fixed position) a.along) may (operand (shape.0, 1) v) refl given 0 (position ∷ []) before l (omega arith) value
  vector_fits given class id pointee type parts shape None (position ∷ other ∷ positions) v before many some few l of may more a changes value =
      each_fits class id pointee type parts shape many of (more refl) may (operand (shape.0, length (position ∷ other ∷ positions)) v) refl given 0 (position ∷ other ∷ positions) before l (omega arith) value
  vector_fits given class id pointee type parts shape (Some part) positions v before many some few l of may more a changes value =
      put_fits whole main local_size rank f sorted given class id pointee (parts ++ part ∷ []) (shape.0, 1) v before a changes (subst (λ n. W given (shape.0, n) v) few value)

  pub one_stored : (p : Picked) → (p.shape.1 == 1) ≡ true → 1 ≤ length p.positions → AreStored p.shape.1 p.by p.positions → (p.shape.0, length p.positions) ≡ p.shape
  one_stored p e some takes = ap (λ n. (p.shape.0, n)) (by p.by takes)
    where
      by : (by : Option Part) → AreStored p.shape.1 by p.positions → length p.positions ≡ p.shape.1
      by None few = let one = eqb-true p.shape.1 1 e in omega (arith, one, few, some)
      by (Some part) only = let one = eqb-true p.shape.1 1 e in omega (arith, one, only)

  variable_fits : (given : List ℕ) (class id : ℕ) (parts : List Part) (shape : Shape) (p : Option Picked) (v : ℕ) (before : Sections) → StoresPlace whole main local_size rank f given class id parts shape p → W given shape v → D given Nothing before (put_variable id class parts shape v p before)
  unfolding put_picked
  variable_fits given class id parts shape None v before r value =
      let s = served_by whole main local_size rank f sorted given class id parts shape None r.place in
      put_fits whole main local_size rank f sorted given class id r.place.pointee parts shape v before s.at (s.changes r.changes) value
  variable_fits given class id parts shape (Some p) v before r value =
      let s = served_by whole main local_size rank f sorted given class id parts shape (Some p) r.place in
      by (p.shape.1 == 1) refl s.at (s.changes r.changes) r.place.is
    where
      by : (b : Bool) → (p.shape.1 == 1) ≡ b → At whole main local_size rank f sorted given class id r.place.pointee (cond b parts (way_by parts p.by p.positions)) (cond b p.shape (shape_by whole main local_size rank f sorted p.shape p.by p.positions))
          → may_change m class id r.place.pointee (cond b parts (way_by parts p.by p.positions)) ≡ true
          → Picks whole main local_size rank f given shape p → D given Nothing before ((cond b (put_at id class p.shape parts v) (put_by id class p.shape p.by p.positions parts v)) before)
      by true e a may k = put_fits whole main local_size rank f sorted given class id r.place.pointee parts p.shape v before a may (subst (λ z. W given z v) (k.shaped ∙ one_stored p e k.some r.takes) value)
      by false e a may k =
          vector_fits given class id r.place.pointee r.place.type parts p.shape p.by p.positions v before e k.some r.takes r.place.leads r.place.of r.changes (λ h. r.more (ap (λ b. cond b false (several_by p.by p.positions)) e ∙ h)) a may (subst (λ z. W given z v) k.shaped value)

  pub stored_fits : (given : List ℕ) (shape : Shape) (r : Reached) (v : ℕ) (before : Sections) → MayStore whole main local_size rank f given shape r → W given shape v → D given Nothing before (stored shape r v before)
  unfolding stored
  stored_fits given shape r v before may value = by r.base may
    where
      by : (base : Base) → Stores whole main local_size rank f given shape base r.path r.picked → D given Nothing before (put_in base r.path shape v r.picked before)
      by (Variable id class) may = variable_fits given class id r.path shape r.picked v before may value
      by (Value id type) may = given_comes whole main local_size rank f given Nothing tt before (λ inside. tt)
