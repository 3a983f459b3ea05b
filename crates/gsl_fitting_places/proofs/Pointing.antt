-- One pointer for what is read and then stored.
use Rattle.std.proofs.Common.{◌≡◌, ℕ, Bool, true, false, cond, List, [], ◌∷◌, ◌++◌, length, Option, Some, None, refl, sym, ap, ◌∙◌, subst, arith}
use Rattle.std.specs.Prelude.{◌==◌}
use Rattle.std.proofs.lemmas.Bool.{true≢false}
use Rattle.gsl_instr.specs.declared.enumerant.decoration.TheConstants as decoration
use Rattle.gsl_tree.specs.Shapes.{Shape}
use Rattle.gsl_words.specs.declared.module.Module.{Module}
use Rattle.gsl_spv.specs.Sections.{Sections}
use Rattle.gsl_lower_values.specs.Building.{Built, Step, behind, given as give}
use Rattle.gsl_lower_values.specs.Types as types
use Rattle.gsl_lower_places.specs.Pointed.{picks_several, pointed, pointed_at, pointed_by, pointed_from, pointed_to, several_by, to_renew}
use Rattle.gsl_lower_places.specs.Reached.{stored_shape}
use Rattle.gsl_lower_places.specs.Reading.{pointer}
use Rattle.gsl_lower_places.specs.declared.reached.Base.{Base}
use Rattle.gsl_lower_places.specs.declared.reached.Base.TheVariants.{Variable, Value}
use Rattle.gsl_lower_places.specs.declared.reached.Part.{Part}
use Rattle.gsl_lower_places.specs.declared.reached.Part.TheVariants.{Fixed}
use Rattle.gsl_lower_places.specs.declared.reached.Picked.{Picked}
use Rattle.gsl_lower_places.specs.declared.reached.Reached.{Reached}
use Rattle.gsl_fitting.specs.Fits.{Frame}
use Rattle.gsl_fitting_types.specs.Making.{AreSorted, IsTypeOf, Sorts, made}
use Rattle.gsl_fitting_types.proofs.Knowing.{one_type, type_later}
use Rattle.gsl_fitting_types.proofs.Sorting.{sorts_then, stays_same}
use Rattle.gsl_fitting_types.proofs.Stepping.{Wider, comes_then, given_comes}
use Rattle.gsl_fitting_types.proofs.Types.{type_comes, type_sorts}
use Rattle.gsl_fitting_places.specs.Leading.{IsLed, Leads, is_marked, may_change}
use Rattle.gsl_fitting_places.specs.Places.{AreStored, IsThere, MayPoint, MayTake, MayUpdate, Picks, Updates, way_by}
use Rattle.gsl_fitting_places.proofs.Chains.{held_type, leads_later, pointer_comes, pointer_sorts}
use Rattle.gsl_fitting_places.proofs.Moves.{F, stored_sized, writable_is}
use Rattle.gsl_fitting_places.proofs.Storing.{one_stored}
use Rattle.gsl_fitting_places.proofs.Ways.{At, served_by, shape_by}

-- by what a component is picked, and at which positions
abbrev pointing_by : ℕ → ℕ → List Part → Picked → Option Part → List ℕ → Step Reached
pointing_by id class parts p None positions = pointed_at id class parts p positions
pointing_by id class parts p (Some by) positions = pointed_to id class (p.shape.0, 1) (parts ++ by ∷ []) None

-- ---- they sort

abbrev at_pointer : ℕ → Option Picked → ℕ → Step Reached
at_pointer class picked to = give (record { base = Variable to class; path = []; picked = picked })

abbrev by_type : ℕ → ℕ → List Part → Option Picked → ℕ → Step Reached
by_type id class parts picked type s = behind (pointer id class type parts s) (at_pointer class picked)

to_sorts : (id class : ℕ) (shape : Shape) (parts : List Part) (picked : Option Picked) (s : Sections) → Sorts s (pointed_to id class shape parts picked s)
to_sorts id class shape parts picked s =
    sorts_then s (types.type_of (stored_shape class shape) s) (by_type id class parts picked) (type_sorts (stored_shape class shape) s)
    (λ type t. sorts_then t (pointer id class type parts t) (at_pointer class picked) (pointer_sorts id class type parts t) (λ to u. stays_same u))

pub pointed_sorts : (shape : Shape) (r : Reached) (s : Sections) → Sorts s (pointed shape r s)
unfolding pointed
pointed_sorts shape r s = by r.base r.picked
  where
    at : (id class : ℕ) (p : Picked) (positions : List ℕ) → Sorts s (pointed_at id class r.path p positions s)
    at id class p [] = to_sorts id class p.shape r.path (Some p) s
    at id class p (position ∷ []) = to_sorts id class (p.shape.0, 1) (r.path ++ Fixed position ∷ []) None s
    at id class p (position ∷ other ∷ positions) = to_sorts id class p.shape r.path (Some p) s

    by_part : (id class : ℕ) (p : Picked) (by : Option Part) → Sorts s (pointed_by id class r.path p by s)
    by_part id class p None = at id class p p.positions
    by_part id class p (Some part) = to_sorts id class (p.shape.0, 1) (r.path ++ part ∷ []) None s

    by_count : (id class : ℕ) (p : Picked) (b : Bool) → Sorts s ((cond b (pointed_to id class p.shape r.path None) (pointed_by id class r.path p p.by)) s)
    by_count id class p true = to_sorts id class p.shape r.path None s
    by_count id class p false = by_part id class p p.by

    by : (base : Base) (p : Option Picked) → Sorts s (pointed_from (record { base = base; path = r.path; picked = p }) shape base s)
    by (Variable id class) None = to_sorts id class shape r.path None s
    by (Variable id class) (Some p) = by_count id class p (p.shape.1 == 1)
    by (Value id type) p = stays_same s

pub renewed_sorts : (shape : Shape) (r : Reached) (s : Sections) → Sorts s (to_renew shape r s)
unfolding to_renew
renewed_sorts shape r s = by (picks_several r.picked)
  where
    by : (b : Bool) → Sorts s ((cond b (give r) (pointed shape r)) s)
    by true = stays_same s
    by false = pointed_sorts shape r s

module _ (whole : Sections) (main : ℕ) (local_size : List ℕ) (rank : ℕ → ℕ) (f : Frame) (sorted : AreSorted whole) where
  abbrev m : Module
  m = made whole main local_size rank f

  abbrev D : {A : Type 0} → List ℕ → (A → List ℕ → Sections → Type 0) → Sections → Built A → Type 0
  D given Is before built = F whole main local_size rank f sorted given Is before built

  -- what a pointer to a scalar or vector, and what is picked there, come to
  to_comes : (given : List ℕ) (class id pointee : ℕ) (parts : List Part) (shape : Shape) (picked : Option Picked) (Is : Reached → List ℕ → Sections → Type 0) (before : Sections) → At whole main local_size rank f sorted given class id pointee parts shape
      → ((type to : ℕ) (now : List ℕ) (after : Sections) → Wider given now → IsTypeOf whole (stored_shape class shape) type → IsLed whole main local_size rank f now class id pointee parts type to → Is (record { base = Variable to class; path = []; picked = picked }) now after)
      → D given Is before (pointed_to id class shape parts picked before)
  to_comes given class id pointee parts shape picked Is before a is =
      comes_then whole main local_size rank f given (λ type now after. IsTypeOf after lies type) Is before (types.type_of lies before) (by_type id class parts picked) (type_sorts lies before)
      (type_comes whole main local_size rank f sorted given lies before (stored_sized class shape a.sized))
      (λ type t. sorts_then t (pointer id class type parts t) (at_pointer class picked) (pointer_sorts id class type parts t) (λ to u. stays_same u))
      (λ type s now of wider extends inside.
      let end = type_later s whole lies type inside of in
      let same = one_type whole lies a.type type a.of end in
      let l = leads_later whole main local_size rank f sorted given now class id pointee parts type wider (subst (Leads whole main local_size rank f given class id pointee parts) same a.leads) in
      comes_then whole main local_size rank f now (λ to now after. IsLed whole main local_size rank f now class id pointee parts type to) Is s (pointer id class type parts s) (at_pointer class picked) (pointer_sorts id class type parts s)
      (pointer_comes whole main local_size rank f sorted now class id pointee type parts s l a.along (held_type s lies type of)) (λ to t. stays_same t)
      (λ to t later led wider_on extends_on inside_on. given_comes whole main local_size rank f later Is (record { base = Variable to class; path = []; picked = picked }) t
      (λ inside. is type to later t (λ id h. wider_on id (wider id h)) end led)))
    where
      lies : Shape
      lies = stored_shape class shape

  -- ---- that there is a pointer

  abbrev Any : Reached → List ℕ → Sections → Type 0
  Any r now after = Unit {0}

  any_to : (given : List ℕ) (class id pointee : ℕ) (parts : List Part) (shape : Shape) (picked : Option Picked) (before : Sections) → At whole main local_size rank f sorted given class id pointee parts shape → D given Any before (pointed_to id class shape parts picked before)
  any_to given class id pointee parts shape picked before a = to_comes given class id pointee parts shape picked Any before a (λ type to now after wider of led. tt)

  pub pointed_comes : (given : List ℕ) (shape : Shape) (r : Reached) (before : Sections) → MayPoint whole main local_size rank f given shape r → D given Any before (pointed shape r before)
  unfolding pointed
  pointed_comes given shape r before may = by r.base r.picked may
    where
      by_part : (id class : ℕ) (pointee : ℕ) (p : Picked) (by : Option Part) (positions : List ℕ) → At whole main local_size rank f sorted given class id pointee (way_by r.path by positions) (shape_by whole main local_size rank f sorted p.shape by positions)
          → D given Any before (pointing_by id class r.path p by positions before)
      by_part id class pointee p None [] a = any_to given class id pointee r.path p.shape (Some p) before a
      by_part id class pointee p None (position ∷ []) a = any_to given class id pointee (r.path ++ Fixed position ∷ []) (p.shape.0, 1) None before a
      by_part id class pointee p None (position ∷ other ∷ positions) a = any_to given class id pointee r.path p.shape (Some p) before a
      by_part id class pointee p (Some part) positions a = any_to given class id pointee (r.path ++ part ∷ []) (p.shape.0, 1) None before a

      same : (id class : ℕ) (p : Picked) (by : Option Part) → p.by ≡ by → D given Any before (pointing_by id class r.path p by p.positions before) → D given Any before (pointed_by id class r.path p by before)
      same id class p None e d = d
      same id class p (Some part) e d = d

      by_count : (id class : ℕ) (pointee : ℕ) (p : Picked) (b : Bool) → At whole main local_size rank f sorted given class id pointee (cond b r.path (way_by r.path p.by p.positions)) (cond b p.shape (shape_by whole main local_size rank f sorted p.shape p.by p.positions))
          → D given Any before ((cond b (pointed_to id class p.shape r.path None) (pointed_by id class r.path p p.by)) before)
      by_count id class pointee p true a = any_to given class id pointee r.path p.shape None before a
      by_count id class pointee p false a = same id class p p.by refl (by_part id class pointee p p.by p.positions a)

      by : (base : Base) (p : Option Picked) → IsThere whole main local_size rank f given shape base r.path p → D given Any before (pointed_from (record { base = base; path = r.path; picked = p }) shape base before)
      by (Variable id class) None place = any_to given class id place.pointee r.path shape None before (served_by whole main local_size rank f sorted given class id r.path shape None place).at
      by (Variable id class) (Some p) place = by_count id class place.pointee p (p.shape.1 == 1) (served_by whole main local_size rank f sorted given class id r.path shape (Some p) place).at
      by (Value id type) p place = given_comes whole main local_size rank f given Any (record { base = Value id type; path = r.path; picked = p }) before (λ inside. tt)

  -- ---- that it may be read and stored there again

  abbrev U : Shape → Reached → List ℕ → Sections → Type 0
  U shape r now after = MayUpdate whole main local_size rank f now shape r

  -- nothing is picked any more
  update_to : (given : List ℕ) (class id pointee : ℕ) (parts : List Part) (shape : Shape) (before : Sections) → At whole main local_size rank f sorted given class id pointee parts shape → is_marked m decoration.NON_READABLE id pointee parts ≡ false → may_change m class id pointee parts ≡ true
      → D given (U shape) before (pointed_to id class shape parts None before)
  update_to given class id pointee parts shape before a readable may =
      to_comes given class id pointee parts shape None (U shape) before a
      (λ type to now after wider of led. record {
        place = record { pointee = type; type = type; leads = record { pointer = led.pointer; indexes = tt; leads = refl }; of = of; along = record { few = omega arith; begins = tt }; is = a.sized };
        readable = led.marked decoration.NON_READABLE ∙ readable;
        changes = writable_is whole main local_size rank f sorted class id pointee type to parts now led ∙ may;
        takes = tt;
        more = λ h. absurd (true≢false (sym h));
      })

  updates_come : (given : List ℕ) (shape : Shape) (r : Reached) (before : Sections) → picks_several r.picked ≡ false → MayUpdate whole main local_size rank f given shape r → D given (U shape) before (pointed shape r before)
  unfolding pointed
  updates_come given shape r before alone may = by r.base r.picked alone may
    where
      by_part : (id class pointee : ℕ) (p : Picked) (by : Option Part) → p.by ≡ by → (positions : List ℕ) → p.positions ≡ positions → several_by by positions ≡ false → Picks whole main local_size rank f given shape p → AreStored p.shape.1 by positions
          → At whole main local_size rank f sorted given class id pointee (way_by r.path by positions) (shape_by whole main local_size rank f sorted p.shape by positions) → is_marked m decoration.NON_READABLE id pointee (way_by r.path by positions) ≡ false
          → may_change m class id pointee (way_by r.path by positions) ≡ true → D given (U shape) before (pointing_by id class r.path p by positions before)
      by_part id class pointee p None e [] q alone k stores a readable may = absurd (true≢false alone)
      by_part id class pointee p None e (position ∷ []) q alone k stores a readable may =
          subst (λ z. D given (U z) before (pointed_to id class (p.shape.0, 1) (r.path ++ Fixed position ∷ []) None before)) (sym (k.shaped ∙ ap (λ l. (p.shape.0, length l)) q))
          (update_to given class id pointee (r.path ++ Fixed position ∷ []) (p.shape.0, 1) before a readable may)
      by_part id class pointee p None e (position ∷ other ∷ positions) q alone k stores a readable may = absurd (true≢false alone)
      by_part id class pointee p (Some part) e positions q alone k stores a readable may =
          subst (λ z. D given (U z) before (pointed_to id class (p.shape.0, 1) (r.path ++ part ∷ []) None before)) (sym (k.shaped ∙ ap (λ l. (p.shape.0, length l)) q ∙ ap (λ n. (p.shape.0, n)) stores))
          (update_to given class id pointee (r.path ++ part ∷ []) (p.shape.0, 1) before a readable may)

      same : (id class : ℕ) (p : Picked) (by : Option Part) → p.by ≡ by → D given (U shape) before (pointing_by id class r.path p by p.positions before) → D given (U shape) before (pointed_by id class r.path p by before)
      same id class p None e d = d
      same id class p (Some part) e d = d

      by_count : (id class pointee : ℕ) (p : Picked) (b : Bool) → (p.shape.1 == 1) ≡ b → cond b false (several_by p.by p.positions) ≡ false → Picks whole main local_size rank f given shape p → MayTake (Some p)
          → At whole main local_size rank f sorted given class id pointee (cond b r.path (way_by r.path p.by p.positions)) (cond b p.shape (shape_by whole main local_size rank f sorted p.shape p.by p.positions))
          → is_marked m decoration.NON_READABLE id pointee (cond b r.path (way_by r.path p.by p.positions)) ≡ false → may_change m class id pointee (cond b r.path (way_by r.path p.by p.positions)) ≡ true
          → D given (U shape) before ((cond b (pointed_to id class p.shape r.path None) (pointed_by id class r.path p p.by)) before)
      by_count id class pointee p true e alone k takes a readable may =
          subst (λ z. D given (U z) before (pointed_to id class p.shape r.path None before)) (sym (k.shaped ∙ one_stored whole main local_size rank f sorted p e k.some takes)) (update_to given class id pointee r.path p.shape before a readable may)
      by_count id class pointee p false e alone k takes a readable may = same id class p p.by refl (by_part id class pointee p p.by refl p.positions refl alone k takes a readable may)

      by : (base : Base) (p : Option Picked) → picks_several p ≡ false → Updates whole main local_size rank f given shape base r.path p → D given (U shape) before (pointed_from (record { base = base; path = r.path; picked = p }) shape base before)
      by (Variable id class) None alone u =
          let s = served_by whole main local_size rank f sorted given class id r.path shape None u.place in
          update_to given class id u.place.pointee r.path shape before s.at (s.unmarked decoration.NON_READABLE u.readable) (s.changes u.changes)
      by (Variable id class) (Some p) alone u =
          let s = served_by whole main local_size rank f sorted given class id r.path shape (Some p) u.place in
          by_count id class u.place.pointee p (p.shape.1 == 1) refl alone u.place.is u.takes s.at (s.unmarked decoration.NON_READABLE u.readable) (s.changes u.changes)
      by (Value id type) p alone u = given_comes whole main local_size rank f given (U shape) (record { base = Value id type; path = r.path; picked = p }) before (λ inside. u)

  pub renewed_comes : (given : List ℕ) (shape : Shape) (r : Reached) (before : Sections) → MayUpdate whole main local_size rank f given shape r → D given (U shape) before (to_renew shape r before)
  unfolding to_renew
  renewed_comes given shape r before may = by (picks_several r.picked) refl
    where
      by : (b : Bool) → picks_several r.picked ≡ b → D given (U shape) before ((cond b (give r) (pointed shape r)) before)
      by true e = given_comes whole main local_size rank f given (U shape) r before (λ inside. may)
      by false e = updates_come given shape r before e may
