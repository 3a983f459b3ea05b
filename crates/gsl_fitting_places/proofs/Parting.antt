-- What is read where an expression leads, in a variable or in a value.
use Rattle.std.proofs.Common.{◌≡◌, ℕ, ◌≤◌, Bool, true, false, cond, List, [], ◌∷◌, ◌++◌, length, map, Option, Some, None, refl, sym, ap, ◌∙◌, subst, arith}
use Rattle.std.specs.Prelude.{◌==◌}
use Rattle.std.proofs.lemmas.Bool.{and_from, eq-eqb, eqb-true, le-leb}
use Rattle.std.proofs.lemmas.List.{length-map}
use Rattle.gsl_instr.specs.Forms.{form_of}
use Rattle.gsl_instr.specs.declared.op.TheConstants as op
use Rattle.gsl_instr.specs.declared.enumerant.decoration.TheConstants as decoration
use Rattle.gsl_instr.specs.declared.form.Form.TheVariants as form
use Rattle.gsl_instr.specs.declared.instruction.Instruction.TheVariants as instruction
use Rattle.gsl_tree.specs.Shapes.{Shape}
use Rattle.gsl_words.specs.declared.module.Module.{Module}
use Rattle.gsl_valid.specs.Kinds.{type_of}
use Rattle.gsl_valid.specs.LimitRules.{most_indexes}
use Rattle.gsl_valid.specs.OperandRules as rules
use Rattle.gsl_valid.specs.Types.{defined_as, is_type}
use Rattle.gsl_spv.specs.Growing.{Extends}
use Rattle.gsl_spv.specs.Sections.{Sections}
use Rattle.gsl_lower_values.specs.Building.{Built, Step, behind, giving}
use Rattle.gsl_lower_values.specs.Constructors.{operand, picked}
use Rattle.gsl_lower_values.specs.Types as types
use Rattle.gsl_lower_places.specs.Reading.{component_by, extracted, extracted_picked, extracted_shape, index, loaded, loaded_by, loaded_picked, loaded_scalar, loaded_vector, number_in, picked_by, read, read_from, read_value, read_variable}
use Rattle.gsl_lower_places.specs.declared.reached.Base.{Base}
use Rattle.gsl_lower_places.specs.declared.reached.Base.TheVariants.{Variable, Value}
use Rattle.gsl_lower_places.specs.declared.reached.Part.{Part}
use Rattle.gsl_lower_places.specs.declared.reached.Part.TheVariants.{Fixed}
use Rattle.gsl_lower_places.specs.declared.reached.Picked.{Picked}
use Rattle.gsl_lower_places.specs.declared.reached.Reached.{Reached}
use Rattle.gsl_fitting.specs.Fits.{Frame, is_known}
use Rattle.gsl_fitting_types.specs.Making.{AreSorted, IsSized, IsTypeOf, Sorts, Stands, made}
use Rattle.gsl_fitting_types.proofs.Knowing.{known_wider, one_type, some_is, type_later, vector_type_is}
use Rattle.gsl_fitting_types.proofs.Sorting.{giving_sorts, sorts_then, stays_same}
use Rattle.gsl_fitting_types.proofs.Stepping.{Wider, comes_then, given_comes, giving_comes}
use Rattle.gsl_fitting_types.proofs.Types.{type_comes, type_sorts}
use Rattle.gsl_fitting_operators.proofs.Composites.{vector_at}
use Rattle.gsl_fitting_operators.proofs.Forms.{known_type, stands_as}
use Rattle.gsl_fitting_operators.proofs.Operators.{value_later}
use Rattle.gsl_fitting_builtins.specs.Arguments.{AreBelow}
use Rattle.gsl_fitting_builtins.proofs.Picking.{picked_fits, picked_sorts}
use Rattle.gsl_fitting_places.specs.Leading.{IsIndex, is_marked}
use Rattle.gsl_fitting_places.specs.Places.{AreWithin, IsChoice, IsPartOf, MayRead, Picks, Reads, ReadsPlace, way_by}
use Rattle.gsl_fitting_places.proofs.Chains.{Serves, index_comes, index_later, index_sorts}
use Rattle.gsl_fitting_places.proofs.Moves.{F, G, V, loaded_fits, loaded_sorts}
use Rattle.gsl_fitting_places.proofs.Ways.{At, served_by, shape_by}

-- ---- they sort

pick_sorts : (from : Shape) (positions : List ℕ) (s : Sections) (built : Built ℕ) → Sorts s built → Sorts s (behind built (λ v. picked (operand from v) positions))
pick_sorts from positions s built first = sorts_then s built (λ v. picked (operand from v) positions) first (λ v t. picked_sorts (operand from v) positions t)

vector_sorts : (id class : ℕ) (shape : Shape) (positions : List ℕ) (parts : List Part) (s : Sections) → Sorts s (loaded_vector id class shape positions parts s)
vector_sorts id class shape [] parts s = pick_sorts shape [] s (loaded id class shape parts s) (loaded_sorts id class shape parts s)
vector_sorts id class shape (position ∷ []) parts s = loaded_sorts id class (shape.0, 1) (parts ++ Fixed position ∷ []) s
vector_sorts id class shape (position ∷ other ∷ positions) parts s = pick_sorts shape (position ∷ other ∷ positions) s (loaded id class shape parts s) (loaded_sorts id class shape parts s)

loaded_picked_sorts : (id class : ℕ) (parts : List Part) (p : Picked) (s : Sections) → Sorts s (loaded_picked id class parts p s)
unfolding loaded_picked
loaded_picked_sorts id class parts p s = by (p.shape.1 == 1)
  where
    scalar : (parts : List Part) → Sorts s (loaded_scalar id class p.shape.0 p.positions parts s)
    scalar parts = pick_sorts (p.shape.0, 1) p.positions s (loaded id class (p.shape.0, 1) parts s) (loaded_sorts id class (p.shape.0, 1) parts s)

    by_part : (by : Option Part) → Sorts s (loaded_by id class p.shape by p.positions parts s)
    by_part None = vector_sorts id class p.shape p.positions parts s
    by_part (Some part) = scalar (parts ++ part ∷ [])

    by : (b : Bool) → Sorts s ((cond b (loaded_scalar id class p.shape.0 p.positions parts) (loaded_by id class p.shape p.by p.positions parts)) s)
    by true = scalar parts
    by false = by_part p.by

pub extracted_sorts : (id type : ℕ) (parts : List Part) (s : Sections) → Sorts s (extracted id type parts s)
unfolding extracted form_of
extracted_sorts id type [] s = stays_same s
extracted_sorts id type (part ∷ parts) s = giving_sorts op.COMPOSITE_EXTRACT (id ∷ map number_in (part ∷ parts)) type s (λ to. refl)

shaped_sorts : (id : ℕ) (shape : Shape) (parts : List Part) (s : Sections) → Sorts s (extracted_shape id shape parts s)
shaped_sorts id shape parts s = sorts_then s (types.type_of shape s) (λ type. extracted id type parts) (type_sorts shape s) (λ type t. extracted_sorts id type parts t)

abbrev dynamic : Shape → ℕ → List ℕ → ℕ → ℕ → Step ℕ
dynamic shape id positions at_id type u = behind (giving op.VECTOR_EXTRACT_DYNAMIC (id ∷ at_id ∷ []) type u) (λ v. picked (operand (shape.0, 1) v) positions)

abbrev dynamic_at : Shape → ℕ → List ℕ → ℕ → Step ℕ
dynamic_at shape id positions at_id t = behind (types.type_of (shape.0, 1) t) (dynamic shape id positions at_id)

dynamic_sorts : (shape : Shape) (id : ℕ) (positions : List ℕ) (at_id type : ℕ) (s : Sections) → Sorts s (dynamic shape id positions at_id type s)
unfolding form_of
dynamic_sorts shape id positions at_id type s = pick_sorts (shape.0, 1) positions s (giving op.VECTOR_EXTRACT_DYNAMIC (id ∷ at_id ∷ []) type s) (giving_sorts op.VECTOR_EXTRACT_DYNAMIC (id ∷ at_id ∷ []) type s (λ to. refl))

dynamic_at_sorts : (shape : Shape) (id : ℕ) (positions : List ℕ) (at_id : ℕ) (s : Sections) → Sorts s (dynamic_at shape id positions at_id s)
dynamic_at_sorts shape id positions at_id s = sorts_then s (types.type_of (shape.0, 1) s) (dynamic shape id positions at_id) (type_sorts (shape.0, 1) s) (λ type t. dynamic_sorts shape id positions at_id type t)

component_by_sorts : (shape : Shape) (id : ℕ) (by : Part) (positions : List ℕ) (s : Sections) → Sorts s (component_by shape id by positions s)
component_by_sorts shape id by positions s = sorts_then s (index by s) (dynamic_at shape id positions) (index_sorts by s) (λ at_id t. dynamic_at_sorts shape id positions at_id t)

abbrev pick_value : Picked → ℕ → Step ℕ
pick_value p v = cond (p.shape.1 == 1) (picked (operand p.shape v) p.positions) (picked_by p.shape v p.by p.positions)

pick_value_sorts : (p : Picked) (v : ℕ) (s : Sections) → Sorts s (pick_value p v s)
pick_value_sorts p v s = by (p.shape.1 == 1)
  where
    by_part : (by : Option Part) → Sorts s (picked_by p.shape v by p.positions s)
    by_part None = picked_sorts (operand p.shape v) p.positions s
    by_part (Some part) = component_by_sorts p.shape v part p.positions s

    by : (b : Bool) → Sorts s ((cond b (picked (operand p.shape v) p.positions) (picked_by p.shape v p.by p.positions)) s)
    by true = picked_sorts (operand p.shape v) p.positions s
    by false = by_part p.by

pub read_sorts : (shape : Shape) (r : Reached) (s : Sections) → Sorts s (read shape r s)
unfolding read
read_sorts shape r s = by r.base r.picked
  where
    by : (base : Base) (p : Option Picked) → Sorts s (read_from base r.path shape p s)
    by (Variable id class) None = loaded_sorts id class shape r.path s
    by (Variable id class) (Some p) = loaded_picked_sorts id class r.path p s
    by (Value id type) None = shaped_sorts id shape r.path s
    by (Value id type) (Some p) = sorts_then s (extracted_shape id p.shape r.path s) (pick_value p) (shaped_sorts id p.shape r.path s) (λ v t. pick_value_sorts p v t)

module _ (whole : Sections) (main : ℕ) (local_size : List ℕ) (rank : ℕ → ℕ) (f : Frame) (sorted : AreSorted whole) where
  abbrev m : Module
  m = made whole main local_size rank f

  abbrev W : List ℕ → Shape → ℕ → Type 0
  W given shape id = V whole main local_size rank f sorted given shape id

  abbrev D : List ℕ → Shape → Sections → Built ℕ → Type 0
  D given shape before built = F whole main local_size rank f sorted given (G whole main local_size rank f sorted shape) before built

  pick_behind : (given : List ℕ) (from : Shape) (positions : List ℕ) (before : Sections) (built : Built ℕ) → Sorts before built → D given from before built → IsSized (from.0, length positions) → AreBelow from.1 positions
      → D given (from.0, length positions) before (behind built (λ v. picked (operand from v) positions))
  pick_behind given from positions before built first comes sized below =
      comes_then whole main local_size rank f given (G whole main local_size rank f sorted from) (G whole main local_size rank f sorted (from.0, length positions)) before built (λ v. picked (operand from v) positions) first comes
      (λ v t. picked_sorts (operand from v) positions t) (λ v t now is wider extends inside. picked_fits whole main local_size rank f sorted now (operand from v) positions t sized below is)

  picks_sized : (given : List ℕ) (shape : Shape) (p : Picked) → Picks whole main local_size rank f given shape p → IsSized (p.shape.0, length p.positions)
  picks_sized given shape p k = record { some = k.some; few = k.few }

  -- ---- variables

  scalar_fits : (given : List ℕ) (class id pointee : ℕ) (parts : List Part) (s : Shape) (positions : List ℕ) (before : Sections) → At whole main local_size rank f sorted given class id pointee parts (s.0, 1) → is_marked m decoration.NON_READABLE id pointee parts ≡ false
      → IsSized (s.0, length positions) → AreBelow 1 positions → D given (s.0, length positions) before (loaded_scalar id class s.0 positions parts before)
  scalar_fits given class id pointee parts s positions before a readable sized below =
      pick_behind given (s.0, 1) positions before (loaded id class (s.0, 1) parts before) (loaded_sorts id class (s.0, 1) parts before) (loaded_fits whole main local_size rank f sorted given class id pointee parts (s.0, 1) before a readable) sized below

  one_of : (shape : Shape) → (shape.1 == 1) ≡ true → shape ≡ (shape.0, 1)
  one_of shape e = ap (λ n. (shape.0, n)) (eqb-true shape.1 1 e)

  below_one : (p : Picked) → (p.shape.1 == 1) ≡ true → AreWithin p.shape.1 p.by p.positions → AreBelow 1 p.positions
  below_one p e within = by p.by within
    where
      by : (by : Option Part) → AreWithin p.shape.1 by p.positions → AreBelow 1 p.positions
      by None within = subst (λ n. AreBelow n p.positions) (eqb-true p.shape.1 1 e) within
      by (Some part) within = within

  vector_fits : (given : List ℕ) (class id pointee : ℕ) (parts : List Part) (shape : Shape) (by : Option Part) (positions : List ℕ) (before : Sections) → IsSized (shape.0, length positions) → AreWithin shape.1 by positions
      → At whole main local_size rank f sorted given class id pointee (way_by parts by positions) (shape_by whole main local_size rank f sorted shape by positions) → is_marked m decoration.NON_READABLE id pointee (way_by parts by positions) ≡ false
      → D given (shape.0, length positions) before (loaded_by id class shape by positions parts before)
  vector_fits given class id pointee parts shape None [] before sized within a readable = let none = sized.some in absurd (omega (arith, none))
  vector_fits given class id pointee parts shape None (position ∷ []) before sized within a readable = loaded_fits whole main local_size rank f sorted given class id pointee (parts ++ Fixed position ∷ []) (shape.0, 1) before a readable
  vector_fits given class id pointee parts shape None (position ∷ other ∷ positions) before sized within a readable =
      pick_behind given shape (position ∷ other ∷ positions) before (loaded id class shape parts before) (loaded_sorts id class shape parts before) (loaded_fits whole main local_size rank f sorted given class id pointee parts shape before a readable) sized within
  vector_fits given class id pointee parts shape (Some part) positions before sized within a readable = scalar_fits given class id pointee (parts ++ part ∷ []) shape positions before a readable sized within

  variable_fits : (given : List ℕ) (class id : ℕ) (parts : List Part) (shape : Shape) (p : Option Picked) (before : Sections) → ReadsPlace whole main local_size rank f given class id parts shape p → D given shape before (read_variable id class parts shape p before)
  unfolding loaded_picked
  variable_fits given class id parts shape None before r =
      let s = served_by whole main local_size rank f sorted given class id parts shape None r.place in
      loaded_fits whole main local_size rank f sorted given class id r.place.pointee parts shape before s.at (s.unmarked decoration.NON_READABLE r.readable)
  variable_fits given class id parts shape (Some p) before r =
      let s = served_by whole main local_size rank f sorted given class id parts shape (Some p) r.place in
      let k : Picks whole main local_size rank f given shape p = r.place.is in
      subst (λ z. D given z before (loaded_picked id class parts p before)) (sym k.shaped)
      (by (p.shape.1 == 1) refl s.at (s.unmarked decoration.NON_READABLE r.readable) k)
    where
      by : (b : Bool) → (p.shape.1 == 1) ≡ b → At whole main local_size rank f sorted given class id r.place.pointee (cond b parts (way_by parts p.by p.positions)) (cond b p.shape (shape_by whole main local_size rank f sorted p.shape p.by p.positions))
          → is_marked m decoration.NON_READABLE id r.place.pointee (cond b parts (way_by parts p.by p.positions)) ≡ false → Picks whole main local_size rank f given shape p
          → D given (p.shape.0, length p.positions) before ((cond b (loaded_scalar id class p.shape.0 p.positions parts) (loaded_by id class p.shape p.by p.positions parts)) before)
      by true e a readable k =
          scalar_fits given class id r.place.pointee parts p.shape p.positions before (subst (At whole main local_size rank f sorted given class id r.place.pointee parts) (one_of p.shape e) a) readable (picks_sized given shape p k) (below_one p e k.within)
      by false e a readable k = vector_fits given class id r.place.pointee parts p.shape p.by p.positions before (picks_sized given shape p k) k.within a readable

  -- ---- values

  pub extract_stands : (given : List ℕ) (type id from : ℕ) (indexes : List ℕ) → form_of op.COMPOSITE_EXTRACT ≡ Some form.CompositeExtract → is_known m f given type ≡ true → is_known m f given id ≡ true → type_of (defined_as m id) ≡ Some from
      → rules.part_within m (Some from) indexes ≡ Some type → length indexes ≤ most_indexes → Stands whole main local_size rank f given op.COMPOSITE_EXTRACT (id ∷ indexes) type
  extract_stands given type id from indexes is typed known of leads few =
      stands_as whole main local_size rank f sorted given op.COMPOSITE_EXTRACT (id ∷ indexes) (id ∷ []) type form.CompositeExtract (λ to. instruction.CompositeExtract type to id indexes) is (λ to. refl) (λ to. refl) (λ to. refl) (λ to. refl) (λ to. refl) (λ to. refl)
      (typed, (known, tt)) (λ to. ap (λ t. rules.is_part type (rules.part_within m t indexes)) of ∙ ap (rules.is_part type) leads ∙ eq-eqb type type refl) (λ to. refl) (λ to. refl) (λ to. refl) (λ to. le-leb (length indexes) most_indexes few)

  -- the part of a value that may be used, under its type
  pub extracted_fits : (given : List ℕ) (id type from : ℕ) (shape : Shape) (parts : List Part) (before : Sections) → IsTypeOf before shape type → is_known m f given id ≡ true → type_of (defined_as m id) ≡ Some from → (Extends before whole → rules.part_within m (Some from) (map number_in parts) ≡ Some type)
      → length parts ≤ most_indexes → D given shape before (extracted id type parts before)
  unfolding extracted form_of
  extracted_fits given id type from shape [] before of known typed leads few =
      given_comes whole main local_size rank f given (G whole main local_size rank f sorted shape) id before
      (λ inside. record { type = type; of = type_later before whole shape type inside of; typed = typed ∙ leads inside; known = known })
  extracted_fits given id type from shape (part ∷ parts) before of known typed leads few =
      giving_comes whole main local_size rank f given op.COMPOSITE_EXTRACT (id ∷ map number_in (part ∷ parts)) shape type before sorted of
      (λ inside. extract_stands given type id from (map number_in (part ∷ parts)) refl (known_type whole main local_size rank f sorted given shape type (type_later before whole shape type inside of)) known typed (leads inside)
      (subst (λ n. n ≤ most_indexes) (sym (length-map (part ∷ parts) number_in)) few))

  shaped_fits : (given : List ℕ) (id from part : ℕ) (shape : Shape) (parts : List Part) (before : Sections) → IsSized shape → is_known m f given id ≡ true → type_of (defined_as m id) ≡ Some from → rules.part_within m (Some from) (map number_in parts) ≡ Some part
      → length parts ≤ most_indexes → IsTypeOf whole shape part → D given shape before (extracted_shape id shape parts before)
  shaped_fits given id from part shape parts before sized known typed leads few of =
      comes_then whole main local_size rank f given (λ type now after. IsTypeOf after shape type) (G whole main local_size rank f sorted shape) before (types.type_of shape before) (λ type. extracted id type parts) (type_sorts shape before)
      (type_comes whole main local_size rank f sorted given shape before sized) (λ type t. extracted_sorts id type parts t)
      (λ type t now is wider extends inside. extracted_fits now id type from shape parts t is (known_wider whole main local_size sorted f given now id wider known) typed
      (λ start. leads ∙ ap Some (one_type whole shape part type of (type_later t whole shape type start is))) few)

  pub dynamic_stands : (given : List ℕ) (type id at_id : ℕ) (shape : Shape) → form_of op.VECTOR_EXTRACT_DYNAMIC ≡ Some form.VectorExtractDynamic → (shape.1 == 1) ≡ false → IsTypeOf whole (shape.0, 1) type → W given shape id → (part : Part) → Serves whole main local_size rank f sorted given part at_id
      → Stands whole main local_size rank f given op.VECTOR_EXTRACT_DYNAMIC (id ∷ at_id ∷ []) type
  dynamic_stands given type id at_id shape is several of v part serves =
      let x = vector_at whole main local_size rank f sorted shape v.type several v.of in
      stands_as whole main local_size rank f sorted given op.VECTOR_EXTRACT_DYNAMIC (id ∷ at_id ∷ []) (id ∷ at_id ∷ []) type form.VectorExtractDynamic (λ to. instruction.VectorExtractDynamic type to id at_id) is (λ to. refl) (λ to. refl) (λ to. refl) (λ to. refl) (λ to. refl) (λ to. refl)
      (known_type whole main local_size rank f sorted given (shape.0, 1) type of, (v.known, (serves.known, tt)))
      (λ to. and_from _ _ (ap (rules.is_picked_of m type) v.typed ∙ ap (λ s. is_type type (rules.component_in s)) (vector_type_is whole main local_size sorted x.component shape.1 v.type x.is) ∙ eq-eqb x.component type (some_is x.component type (sym x.scalar ∙ of))) serves.int)
      (λ to. refl) (λ to. refl) (λ to. refl) (λ to. refl)

  serves_on : (given now : List ℕ) (part : Part) (id : ℕ) → Wider given now → Serves whole main local_size rank f sorted given part id → Serves whole main local_size rank f sorted now part id
  serves_on given now part id wider s = record { known = known_wider whole main local_size sorted f given now id wider s.known; int = s.int; number = s.number }

  dynamic_fits : (given : List ℕ) (shape : Shape) (id : ℕ) (part : Part) (positions : List ℕ) (before : Sections) → (shape.1 == 1) ≡ false → IsIndex whole main local_size rank f given part → IsSized (shape.0, length positions) → AreBelow 1 positions → W given shape id
      → D given (shape.0, length positions) before (component_by shape id part positions before)
  unfolding form_of
  dynamic_fits given shape id part positions before several index_is sized below v =
      comes_then whole main local_size rank f given (λ at_id now after. Serves whole main local_size rank f sorted now part at_id) (G whole main local_size rank f sorted (shape.0, length positions)) before (index part before) (dynamic_at shape id positions) (index_sorts part before)
      (index_comes whole main local_size rank f sorted given part before index_is) (λ at_id t. dynamic_at_sorts shape id positions at_id t)
      (λ at_id t now serves wider extends inside. comes_then whole main local_size rank f now (λ type now after. IsTypeOf after (shape.0, 1) type) (G whole main local_size rank f sorted (shape.0, length positions)) t (types.type_of (shape.0, 1) t) (dynamic shape id positions at_id)
      (type_sorts (shape.0, 1) t) (type_comes whole main local_size rank f sorted now (shape.0, 1) t (record { some = omega arith; few = omega arith })) (λ type u. dynamic_sorts shape id positions at_id type u)
      (λ type u later of wider_on extends_on inside_on. pick_behind later (shape.0, 1) positions u (giving op.VECTOR_EXTRACT_DYNAMIC (id ∷ at_id ∷ []) type u) (giving_sorts op.VECTOR_EXTRACT_DYNAMIC (id ∷ at_id ∷ []) type u (λ to. refl))
      (giving_comes whole main local_size rank f later op.VECTOR_EXTRACT_DYNAMIC (id ∷ at_id ∷ []) (shape.0, 1) type u sorted of
      (λ start. dynamic_stands later type id at_id shape refl several (type_later u whole (shape.0, 1) type start of) (value_later whole main local_size rank f sorted given later shape id (λ id h. wider_on id (wider id h)) v) part (serves_on now later part at_id wider_on serves)))
      sized below))

  pick_value_fits : (given : List ℕ) (shape : Shape) (p : Picked) (v : ℕ) (before : Sections) → Picks whole main local_size rank f given shape p → W given p.shape v → D given (p.shape.0, length p.positions) before (pick_value p v before)
  pick_value_fits given shape p v before k value = by (p.shape.1 == 1) refl
    where
      by_part : (p.shape.1 == 1) ≡ false → (by : Option Part) → IsChoice whole main local_size rank f given by → AreWithin p.shape.1 by p.positions → D given (p.shape.0, length p.positions) before (picked_by p.shape v by p.positions before)
      by_part several None choice within = picked_fits whole main local_size rank f sorted given (operand p.shape v) p.positions before (picks_sized given shape p k) within value
      by_part several (Some part) choice within = dynamic_fits given p.shape v part p.positions before several choice (picks_sized given shape p k) within value

      by : (b : Bool) → (p.shape.1 == 1) ≡ b → D given (p.shape.0, length p.positions) before ((cond b (picked (operand p.shape v) p.positions) (picked_by p.shape v p.by p.positions)) before)
      by true e = picked_fits whole main local_size rank f sorted given (operand p.shape v) p.positions before (picks_sized given shape p k) (subst (λ n. AreBelow n p.positions) (sym (eqb-true p.shape.1 1 e)) (below_one p e k.within)) value
      by false e = by_part e p.by k.by k.within

  pub choice_later : (given now : List ℕ) (by : Option Part) → Wider given now → IsChoice whole main local_size rank f given by → IsChoice whole main local_size rank f now by
  choice_later given now None wider is = tt
  choice_later given now (Some part) wider is = index_later whole main local_size rank f sorted given now part wider is

  pub picks_later : (given now : List ℕ) (shape : Shape) (p : Picked) → Wider given now → Picks whole main local_size rank f given shape p → Picks whole main local_size rank f now shape p
  picks_later given now shape p wider k = record { shaped = k.shaped; some = k.some; few = k.few; sized = k.sized; by = choice_later given now p.by wider k.by; within = k.within }

  value_fits : (given : List ℕ) (id : ℕ) (parts : List Part) (shape : Shape) (p : Option Picked) (before : Sections) → IsPartOf whole main local_size rank f given id parts shape p → D given shape before (read_value id parts shape p before)
  value_fits given id parts shape None before r = shaped_fits given id r.type r.part shape parts before r.is r.known r.typed r.within r.few r.of
  value_fits given id parts shape (Some p) before r =
      let k : Picks whole main local_size rank f given shape p = r.is in
      subst (λ z. D given z before (extracted_picked id parts p before)) (sym k.shaped)
      (comes_then whole main local_size rank f given (G whole main local_size rank f sorted p.shape) (G whole main local_size rank f sorted (p.shape.0, length p.positions)) before (extracted_shape id p.shape parts before) (pick_value p) (shaped_sorts id p.shape parts before)
      (shaped_fits given id r.type r.part p.shape parts before k.sized r.known r.typed r.within r.few r.of) (λ v t. pick_value_sorts p v t)
      (λ v t now is wider extends inside. pick_value_fits now shape p v t (picks_later given now shape p wider k) is))

  -- ---- both

  pub read_fits : (given : List ℕ) (shape : Shape) (r : Reached) (before : Sections) → MayRead whole main local_size rank f given shape r → D given shape before (read shape r before)
  unfolding read
  read_fits given shape r before may = by r.base may
    where
      by : (base : Base) → Reads whole main local_size rank f given shape base r.path r.picked → D given shape before (read_from base r.path shape r.picked before)
      by (Variable id class) may = variable_fits given class id r.path shape r.picked before may
      by (Value id type) may = value_fits given id r.path shape r.picked before may
