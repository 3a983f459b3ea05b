-- Types and constants of scalars and vectors.
use Rattle.std.proofs.Common.{◌≡◌, ℕ, ◌+◌, ◌≤◌, Bool, true, false, cond, List, [], ◌∷◌, length, Some, None, refl, sym, ap, ◌∙◌, subst, suc, zero, arith}
use Rattle.std.specs.Prelude.{◌==◌, nat_le, replicate}
use Rattle.std.specs.List.{AllByRecursion, Contains, list_all}
use Rattle.std.proofs.lemmas.List.{length-replicate}
use Rattle.std.proofs.lemmas.Bool.{and_from, eq-eqb, eqb-true, le-leb, true≢false}
use Rattle.gsl_instr.specs.Forms.{form_of}
use Rattle.gsl_types.specs.declared.ty.Scalar.{Scalar}
use Rattle.gsl_types.specs.declared.ty.Scalar.TheVariants.{Bool as Boolean, Int, Uint}
use Rattle.gsl_tree.specs.Shapes.{Shape, flag, is_integer}
use Rattle.gsl_words.specs.declared.module.Module.{Module}
use Rattle.gsl_valid.specs.ConstantRules.{are_parts, is_constant_of}
use Rattle.gsl_valid.specs.Ids.{defined, result}
use Rattle.gsl_valid.specs.Instruction.{read}
use Rattle.gsl_valid.specs.Kinds.{constant_is, constant_type, type_of}
use Rattle.gsl_valid.specs.Search.{passed}
use Rattle.gsl_valid.specs.TypeRules.{is_component, is_first}
use Rattle.gsl_valid.specs.Types.{bool_type, defined_as, is_int, is_type}
use Rattle.gsl_spv.specs.Calls as call
use Rattle.gsl_spv.specs.Calls.{intern}
use Rattle.gsl_spv.specs.Declarations as d
use Rattle.gsl_spv.specs.Declarations.{Declaration, defining}
use Rattle.gsl_spv.specs.Growing.{Extends}
use Rattle.gsl_spv.specs.Once.{IsOnce, id_of}
use Rattle.gsl_spv.specs.Sections.{Sections}
use Rattle.gsl_spv.specs.declared.plain.PlainType.{PlainType}
use Rattle.gsl_spv.specs.declared.plain.PlainType.TheVariants as plain
use Rattle.gsl_spv.proofs.Answering.{composite_once, constant_once, plain_once}
use Rattle.gsl_spv.proofs.Defining.{interned_stands}
use Rattle.gsl_spv.proofs.Extending.{extends_then}
use Rattle.gsl_lower_law.proofs.Adding.{extends_intern}
use Rattle.gsl_spv.specs.declared.plain.PlainConst.TheVariants as of
use Rattle.gsl_spv.specs.declared.refusal.TheConstants.{MOST_IDS}
use Rattle.gsl_fitting_steps.proofs.Declaring.{known_goes}
use Rattle.gsl_fitting_steps.proofs.Joining.{goes_on}
use Rattle.gsl_spv.proofs.Lasting.{ids_last, interned_known}
use Rattle.gsl_lower_values.specs.Building.{Made, Full, behind, given as give, id_by, in_order}
use Rattle.gsl_lower_values.specs.Types.{plain_scalar, scalar_type, vector_type}
use Rattle.gsl_lower_values.specs.Types as types
use Rattle.gsl_fitting.specs.Fits.{Frame}
use Rattle.gsl_fitting_steps.specs.Keeping.{MayDeclare}
use Rattle.gsl_fitting_types.specs.Making.{IsSized, AreSorted, Comes, IsScalarType, IsConstant, IsTypeBy, IsTypeOf, IsValue, IsVectorType, Sorts, made}
use Rattle.gsl_fitting_types.proofs.Anew.{plain_first}
use Rattle.gsl_fitting_types.proofs.Knowing.{constant_later, defined_at, found_stands, global_is, global_outside, has_in, outside_known, scalar_named, scalar_type_is, some_is, type_later, vector_type_is}
use Rattle.gsl_fitting_types.proofs.Sorting.{Declares, each_sorts, intern_sorts, intern_stays, sorts_then, stays_same, stays_then}
use Rattle.gsl_fitting_types.proofs.Stepping.{comes_then, given_comes, intern_comes}

several : (n : ℕ) → 1 ≤ n → (n == 1) ≡ false → 2 ≤ n
several n some e = by n some e
  where
    by : (n : ℕ) → 1 ≤ n → (n == 1) ≡ false → 2 ≤ n
    by zero some e = absurd (omega (arith, some))
    by (suc zero) some e = absurd (true≢false e)
    by (suc (suc n)) some e = omega arith

-- ---- they sort

plain_declares : (ty : PlainType) → Declares (d.plain_type ty)
unfolding form_of
plain_declares plain.Void = record { is = λ id. refl; named = λ id. refl }
plain_declares plain.Bool = record { is = λ id. refl; named = λ id. refl }
plain_declares (plain.Int signed) = record { is = λ id. refl; named = λ id. refl }
plain_declares (plain.Vector component count) = record { is = λ id. refl; named = λ id. refl }
plain_declares (plain.Pointer class pointee) = record { is = λ id. refl; named = λ id. refl }

pub plain_sorts : (ty : PlainType) (s : Sections) → Sorts s (id_by (call.plain_type ty) s)
plain_sorts ty s = intern_sorts (d.plain_type ty) s (plain_declares ty)

pub scalar_type_sorts : (k : Scalar) (s : Sections) → Sorts s (scalar_type k s)
unfolding scalar_type
scalar_type_sorts k s = plain_sorts (plain_scalar k) s

vector_or_sorts : (shape : Shape) (b : Bool) (component : ℕ) (s : Sections) → Sorts s ((cond b (give component) (vector_type shape.1 component)) s)
vector_or_sorts shape true component s = stays_same s
vector_or_sorts shape false component s = plain_sorts (plain.Vector component shape.1) s

pub type_sorts : (shape : Shape) (s : Sections) → Sorts s (types.type_of shape s)
unfolding types.type_of
type_sorts shape s =
    sorts_then s (scalar_type shape.0 s) (λ component. cond (shape.1 == 1) (give component) (vector_type shape.1 component)) (scalar_type_sorts shape.0 s)
    (λ component s. vector_or_sorts shape (shape.1 == 1) component s)

truth_declares : (value : Bool) (type : ℕ) → Declares (d.truth value type)
unfolding form_of
truth_declares true type = record { is = λ id. refl; named = λ id. refl }
truth_declares false type = record { is = λ id. refl; named = λ id. refl }

truth_sorts : (value : Bool) (s : Sections) → Sorts s (id_by (call.truth value) s)
truth_sorts value s = by (nat_le (call.truth value s).sections.last MOST_IDS)
  where
    by : (b : Bool) → Sorts s (cond b (Made (call.truth value s).id (call.truth value s).sections) Full)
    by true = let ty = call.plain_type plain.Bool s in stays_then (intern_stays (d.plain_type plain.Bool) s (plain_declares plain.Bool)) (intern_stays (d.truth value ty.id) ty.sections (truth_declares value ty.id))
    by false = tt

word_declares : (type bits : ℕ) → Declares (d.word type bits)
unfolding form_of
word_declares type bits = record { is = λ id. refl; named = λ id. refl }

composite_declares : (type : ℕ) (parts : List ℕ) → Declares (d.composite type parts)
unfolding form_of
composite_declares type parts = record { is = λ id. refl; named = λ id. refl }

word_sorts : (type word : ℕ) (s : Sections) → Sorts s (types.word_of_type word type s)
word_sorts type word s = intern_sorts (d.word type word) s (word_declares type word)

composite_sorts : (type : ℕ) (parts : List ℕ) (s : Sections) → Sorts s (types.composed parts type s)
composite_sorts type parts s = intern_sorts (d.composite type parts) s (composite_declares type parts)

pub scalar_constant_sorts : (k : Scalar) (word : ℕ) (s : Sections) → Sorts s (types.scalar_constant k word s)
unfolding types.scalar_constant
scalar_constant_sorts Boolean word s = by (word == 0)
  where
    by : (b : Bool) → Sorts s (id_by (call.constant (cond b of.False of.True)) s)
    by true = truth_sorts false s
    by false = truth_sorts true s
scalar_constant_sorts Int word s = sorts_then s (scalar_type Int s) (types.word_of_type word) (scalar_type_sorts Int s) (λ type t. word_sorts type word t)
scalar_constant_sorts Uint word s = sorts_then s (scalar_type Uint s) (types.word_of_type word) (scalar_type_sorts Uint s) (λ type t. word_sorts type word t)

filled_sorts : (shape : Shape) (b : Bool) (part : ℕ) (s : Sections) → Sorts s ((cond b (give part) (λ s. behind (types.type_of shape s) (types.composed (replicate shape.1 part)))) s)
filled_sorts shape true part s = stays_same s
filled_sorts shape false part s = sorts_then s (types.type_of shape s) (types.composed (replicate shape.1 part)) (type_sorts shape s) (λ type t. composite_sorts type (replicate shape.1 part) t)

pub filled_constant_sorts : (shape : Shape) (word : ℕ) (s : Sections) → Sorts s (types.filled_constant shape word s)
unfolding types.filled_constant
filled_constant_sorts shape word s =
    sorts_then s (types.scalar_constant shape.0 word s) (λ part. cond (shape.1 == 1) (give part) (λ s. behind (types.type_of shape s) (types.composed (replicate shape.1 part)))) (scalar_constant_sorts shape.0 word s)
    (λ part t. filled_sorts shape (shape.1 == 1) part t)

constants_sort : (k : Scalar) (words : List ℕ) (s : Sections) → Sorts s (types.scalar_constants k words s)
constants_sort k words s = each_sorts (types.scalar_constant k) words s (λ word t. scalar_constant_sorts k word t)

pub vector_constant_sorts : (shape : Shape) (words : List ℕ) (s : Sections) → Sorts s (types.vector_constant shape words s)
unfolding types.vector_constant
vector_constant_sorts shape words s =
    sorts_then s (types.scalar_constants shape.0 words s) (λ parts s. behind (types.type_of shape s) (types.composed parts)) (constants_sort shape.0 words s)
    (λ parts t. sorts_then t (types.type_of shape t) (types.composed parts) (type_sorts shape t) (λ type u. composite_sorts type parts u))

module _ (whole : Sections) (main : ℕ) (local_size : List ℕ) (rank : ℕ → ℕ) (f : Frame) (sorted : AreSorted whole) where
  abbrev m : Module
  m = made whole main local_size rank f

  -- ---- types

  first_there : (ty : PlainType) (before : Sections) → Extends before whole → id_of (d.plain_type ty) before.globals ≡ None → (id : ℕ) → is_first (passed [] before.globals) (defining (d.plain_type ty) id) ≡ true
  first_there ty before inside none id = plain_first ty before.globals id (λ j has. has_in whole main local_size sorted before j inside has) none

  scalar_may : (s : Scalar) (before : Sections) → Extends before whole → MayDeclare m (d.plain_type (plain_scalar s)) before
  unfolding form_of
  scalar_may Boolean before inside = record { defines = λ id. refl; declares = λ none. record { is = refl; numbers = refl; uses = refl; made = first_there plain.Bool before inside none (before.last + 1); fixed = refl; holds = refl; marked = refl; laid = refl; limits = refl } }
  scalar_may Int before inside = record { defines = λ id. refl; declares = λ none. record { is = refl; numbers = refl; uses = refl; made = first_there (plain.Int true) before inside none (before.last + 1); fixed = refl; holds = refl; marked = refl; laid = refl; limits = refl } }
  scalar_may Uint before inside = record { defines = λ id. refl; declares = λ none. record { is = refl; numbers = refl; uses = refl; made = first_there (plain.Int false) before inside none (before.last + 1); fixed = refl; holds = refl; marked = refl; laid = refl; limits = refl } }

  scalar_component : (s : Scalar) (id : ℕ) → IsScalarType whole s id → is_component m id ≡ true
  scalar_component Boolean id is = rw (scalar_type_is whole main local_size sorted Boolean id is) refl
  scalar_component Int id is = rw (scalar_type_is whole main local_size sorted Int id is) refl
  scalar_component Uint id is = rw (scalar_type_is whole main local_size sorted Uint id is) refl

  vector_may : (s : Scalar) (component count : ℕ) (before : Sections) → 2 ≤ count → count ≤ 4 → IsScalarType before s component → Extends before whole → MayDeclare m (d.plain_type (plain.Vector component count)) before
  unfolding form_of
  vector_may s component count before some few is inside = record {
    defines = λ id. refl;
    declares = λ none. record {
      is = refl;
      numbers = refl;
      uses = and_from _ _ (defined_at before.globals (defining (d.plain_type (plain_scalar s)) component) component (found_stands (d.plain_type (plain_scalar s)) before component (plain_once (plain_scalar s)) is) (named s)) refl;
      made = and_from _ _ (and_from _ _ (and_from _ _ (scalar_component s component (ids_last before whole (d.plain_type (plain_scalar s)) component inside is)) (le-leb 2 count some)) (le-leb count 4 few)) (first_there (plain.Vector component count) before inside none (before.last + 1));
      fixed = refl;
      holds = refl;
      marked = refl;
      laid = refl;
      limits = refl;
    };
  }
    where
      named : (s : Scalar) → result (read (defining (d.plain_type (plain_scalar s)) component)) ≡ Some component
      named Boolean = refl
      named Int = refl
      named Uint = refl

  pub scalar_type_comes : (given : List ℕ) (s : Scalar) (before : Sections) → Comes whole main local_size rank f given (λ id now after. IsScalarType after s id) before (scalar_type s before)
  unfolding scalar_type
  scalar_type_comes given s before = intern_comes whole main local_size rank f given (λ id now after. IsScalarType after s id) (d.plain_type (plain_scalar s)) before (plain_once (plain_scalar s)) (scalar_may s before) (λ id after extends inside is. is)

  pub type_comes : (given : List ℕ) (shape : Shape) (before : Sections) → IsSized shape → Comes whole main local_size rank f given (λ id now after. IsTypeOf after shape id) before (types.type_of shape before)
  unfolding types.type_of
  type_comes given shape before sized =
      comes_then whole main local_size rank f given (λ id now after. IsScalarType after shape.0 id) (λ id now after. IsTypeOf after shape id) before (scalar_type shape.0 before) (λ component. cond (shape.1 == 1) (give component) (vector_type shape.1 component))
      (scalar_type_sorts shape.0 before) (scalar_type_comes given shape.0 before) (λ component s. vector_or_sorts shape (shape.1 == 1) component s)
      (λ component s now is wider extends inside. by (shape.1 == 1) refl component s now is inside)
    where
      by : (b : Bool) → (shape.1 == 1) ≡ b → (component : ℕ) (s : Sections) (now : List ℕ) → IsScalarType s shape.0 component → Extends s whole
          → Comes whole main local_size rank f now (λ id now after. IsTypeBy b after shape id) s (cond b (give component) (vector_type shape.1 component) s)
      by true e component s now is inside = given_comes whole main local_size rank f now (λ id now after. IsTypeBy true after shape id) component s (λ inside. is)
      by false e component s now is inside =
          intern_comes whole main local_size rank f now (λ id now after. IsTypeBy false after shape id) (d.plain_type (plain.Vector component shape.1)) s (plain_once (plain.Vector component shape.1))
          (λ start. vector_may shape.0 component shape.1 s (several shape.1 sized.some e) sized.few is start) (λ id after extends inside found. record { component = component; scalar = ids_last s after (d.plain_type (plain_scalar shape.0)) component extends is; is = found })

  -- ---- constants

  scalar_defined : (s : Scalar) (type : ℕ) (before : Sections) → IsScalarType before s type → defined (passed [] before.globals) type ≡ true
  scalar_defined s type before is = defined_at before.globals (defining (d.plain_type (plain_scalar s)) type) type (found_stands (d.plain_type (plain_scalar s)) before type (plain_once (plain_scalar s)) is) (scalar_named s type).0

  truth_type : (type : ℕ) → IsScalarType whole Boolean type → bool_type (defined_as m type) ≡ true
  truth_type type is = rw (scalar_type_is whole main local_size sorted Boolean type is) refl

  integer_type : (s : Scalar) (type : ℕ) → is_integer s ≡ true → IsScalarType whole s type → is_int m type ≡ true
  integer_type Boolean type integer is = absurd (true≢false (sym integer))
  integer_type Int type integer is = rw (scalar_type_is whole main local_size sorted Int type is) refl
  integer_type Uint type integer is = rw (scalar_type_is whole main local_size sorted Uint type is) refl

  truth_may : (value : Bool) (type : ℕ) (before : Sections) → IsScalarType before Boolean type → Extends before whole → MayDeclare m (d.truth value type) before
  unfolding form_of
  truth_may true type before is inside = record { defines = λ id. refl; declares = λ none. record { is = refl; numbers = refl; uses = and_from _ _ (scalar_defined Boolean type before is) refl; made = refl; fixed = truth_type type (ids_last before whole (d.plain_type plain.Bool) type inside is); holds = refl; marked = refl; laid = refl; limits = refl } }
  truth_may false type before is inside = record { defines = λ id. refl; declares = λ none. record { is = refl; numbers = refl; uses = and_from _ _ (scalar_defined Boolean type before is) refl; made = refl; fixed = truth_type type (ids_last before whole (d.plain_type plain.Bool) type inside is); holds = refl; marked = refl; laid = refl; limits = refl } }

  truth_of : (value : Bool) (type id : ℕ) (after : Sections) → IsScalarType after Boolean type → Contains after.globals (defining (d.truth value type) id) → IsConstant after flag id
  unfolding form_of
  truth_of true type id after is there = record { type = type; of = is; i = defining (d.truth true type) id; stands = there; named = refl; fixed = refl; typed = refl }
  truth_of false type id after is there = record { type = type; of = is; i = defining (d.truth false type) id; stands = there; named = refl; fixed = refl; typed = refl }

  truth_once : (value : Bool) (type : ℕ) → IsOnce (d.truth value type)
  truth_once true type = constant_once of.True type
  truth_once false type = constant_once of.False type

  truth_comes : (given : List ℕ) (value : Bool) (before : Sections) → Comes whole main local_size rank f given (λ id now after. IsConstant after flag id) before (id_by (call.truth value) before)
  truth_comes given value before = by (nat_le (call.truth value before).sections.last MOST_IDS)
    where
      by : (b : Bool) → Comes whole main local_size rank f given (λ id now after. IsConstant after flag id) before (cond b (Made (call.truth value before).id (call.truth value before).sections) Full)
      by true = λ inside.
          let ty = call.plain_type plain.Bool before in
          let is : IsScalarType ty.sections Boolean ty.id = interned_known (d.plain_type plain.Bool) before (plain_once plain.Bool) in
          let between = extends_then (extends_intern (d.truth value ty.id) ty.sections) inside in
          let start = extends_then (extends_intern (d.plain_type plain.Bool) before) between in
          record {
            now = given;
            goes =
                goes_on m rank f given given given before ty.sections (call.truth value before).sections (known_goes m rank f given (d.plain_type plain.Bool) before (scalar_may Boolean before start))
                (known_goes m rank f given (d.truth value ty.id) ty.sections (truth_may value ty.id ty.sections is between));
            is = truth_of value ty.id (call.truth value before).id (call.truth value before).sections (ids_last ty.sections (call.truth value before).sections (d.plain_type plain.Bool) ty.id (extends_intern (d.truth value ty.id) ty.sections) is)
                (interned_stands (d.truth value ty.id) ty.sections (truth_once value ty.id));
          }
      by false = tt

  word_may : (s : Scalar) (type bits : ℕ) (before : Sections) → is_integer s ≡ true → IsScalarType before s type → Extends before whole → MayDeclare m (d.word type bits) before
  unfolding form_of
  word_may s type bits before integer is inside = record { defines = λ id. refl; declares = λ none. record { is = refl; numbers = refl; uses = and_from _ _ (scalar_defined s type before is) refl; made = refl; fixed = integer_type s type integer (ids_last before whole (d.plain_type (plain_scalar s)) type inside is); holds = refl; marked = refl; laid = refl; limits = refl } }

  number_comes : (given : List ℕ) (s : Scalar) (word : ℕ) (before : Sections) → is_integer s ≡ true → Comes whole main local_size rank f given (λ id now after. IsConstant after (s, 1) id) before (types.number s word before)
  unfolding form_of
  number_comes given s word before integer =
      comes_then whole main local_size rank f given (λ id now after. IsScalarType after s id) (λ id now after. IsConstant after (s, 1) id) before (scalar_type s before) (types.word_of_type word) (scalar_type_sorts s before) (scalar_type_comes given s before) (λ type s. word_sorts type word s)
      (λ type between now is wider extends inside. intern_comes whole main local_size rank f now (λ id now after. IsConstant after (s, 1) id) (d.word type word) between (constant_once (of.Word type word) 0) (word_may s type word between integer is)
      (λ id after extends inside found. record {
        type = type;
        of = ids_last between after (d.plain_type (plain_scalar s)) type extends is;
        i = defining (d.word type word) id;
        stands = found_stands (d.word type word) after id (constant_once (of.Word type word) 0) found;
        named = refl;
        fixed = refl;
        typed = refl;
      }))

  pub scalar_constant_comes : (given : List ℕ) (s : Scalar) (word : ℕ) (before : Sections) → Comes whole main local_size rank f given (λ id now after. IsConstant after (s, 1) id) before (types.scalar_constant s word before)
  unfolding types.scalar_constant
  scalar_constant_comes given Boolean word before = by (word == 0)
    where
      by : (b : Bool) → Comes whole main local_size rank f given (λ id now after. IsConstant after flag id) before (id_by (call.constant (cond b of.False of.True)) before)
      by true = truth_comes given false before
      by false = truth_comes given true before
  scalar_constant_comes given Int word before = number_comes given Int word before refl
  scalar_constant_comes given Uint word before = number_comes given Uint word before refl

  -- ---- constants of several parts

  abbrev pub AreConstants : Scalar → List ℕ → Sections → Type 0
  AreConstants s ids at = AllByRecursion (IsConstant at (s, 1)) ids

  pub constants_later : (a b : Sections) (s : Scalar) (ids : List ℕ) → Extends a b → AreConstants s ids a → AreConstants s ids b
  constants_later a b s [] extends all = tt
  constants_later a b s (id ∷ ids) extends all = (constant_later a b (s, 1) id extends all.0, constants_later a b s ids extends all.1)

  constants_defined : (s : Scalar) (ids : List ℕ) (before : Sections) → AreConstants s ids before → list_all (defined (passed [] before.globals)) ids ≡ true
  constants_defined s [] before all = refl
  constants_defined s (id ∷ ids) before all = and_from _ _ (defined_at before.globals all.0.i id all.0.stands all.0.named) (constants_defined s ids before all.1)

  constants_of : (s : Scalar) (component : ℕ) (ids : List ℕ) → IsScalarType whole s component → AreConstants s ids whole → list_all (is_constant_of m component) ids ≡ true
  constants_of s component [] is all = refl
  constants_of s component (id ∷ ids) is all =
      and_from _ _ (ap (λ o. is_type component (constant_type (constant_is o))) (global_is whole main local_size sorted all.0.i id all.0.stands all.0.named) ∙ ap (is_type component) all.0.fixed ∙ eq-eqb all.0.type component (some_is all.0.type component (sym all.0.of ∙ is)))
      (constants_of s component ids is all.1)

  composite_may : (shape : Shape) (type : ℕ) (ids : List ℕ) (before : Sections) → (shape.1 == 1) ≡ false → length ids ≡ shape.1 → IsTypeOf before shape type → AreConstants shape.0 ids before → Extends before whole → MayDeclare m (d.composite type ids) before
  unfolding form_of
  composite_may shape type ids before several count of all inside =
      let is : IsVectorType before shape type = subst (λ b. IsTypeBy b before shape type) several of in
      let component = ids_last before whole (d.plain_type (plain_scalar shape.0)) is.component inside is.scalar in
      let vector = ids_last before whole (d.plain_type (plain.Vector is.component shape.1)) type inside is.is in
      record {
        defines = λ id. refl;
        declares = λ none. record {
          is = refl;
          numbers = refl;
          uses = and_from _ _ (defined_at before.globals (defining (d.plain_type (plain.Vector is.component shape.1)) type) type (found_stands (d.plain_type (plain.Vector is.component shape.1)) before type (plain_once (plain.Vector is.component shape.1)) is.is) refl) (constants_defined shape.0 ids before all);
          made = refl;
          fixed =
              ap (are_parts m (is_constant_of m) ids) (vector_type_is whole main local_size sorted is.component shape.1 type vector)
              ∙ and_from _ _ (eq-eqb (length ids) shape.1 count) (constants_of shape.0 is.component ids component (constants_later before whole shape.0 ids inside all));
          holds = refl;
          marked = refl;
          laid = refl;
          limits = refl;
        };
      }

  composed_comes : (given : List ℕ) (shape : Shape) (type : ℕ) (ids : List ℕ) (before : Sections) → (shape.1 == 1) ≡ false → length ids ≡ shape.1 → IsTypeOf before shape type → AreConstants shape.0 ids before
      → Comes whole main local_size rank f given (λ id now after. IsConstant after shape id) before (types.composed ids type before)
  unfolding form_of
  composed_comes given shape type ids before several count of all =
      intern_comes whole main local_size rank f given (λ id now after. IsConstant after shape id) (d.composite type ids) before (composite_once type ids) (composite_may shape type ids before several count of all)
      (λ id after extends inside found. record {
        type = type;
        of = type_later before after shape type extends of;
        i = defining (d.composite type ids) id;
        stands = found_stands (d.composite type ids) after id (composite_once type ids) found;
        named = refl;
        fixed = refl;
        typed = refl;
      })

  -- the parts, and then the type of the whole
  whole_comes : (given : List ℕ) (shape : Shape) (ids : List ℕ) (before : Sections) → IsSized shape → (shape.1 == 1) ≡ false → length ids ≡ shape.1 → AreConstants shape.0 ids before
      → Comes whole main local_size rank f given (λ id now after. IsConstant after shape id) before (behind (types.type_of shape before) (types.composed ids))
  whole_comes given shape ids before sized several count all =
      comes_then whole main local_size rank f given (λ id now after. IsTypeOf after shape id) (λ id now after. IsConstant after shape id) before (types.type_of shape before) (types.composed ids) (type_sorts shape before) (type_comes given shape before sized)
      (λ type s. composite_sorts type ids s)
      (λ type s now of wider extends inside. composed_comes now shape type ids s several count of (constants_later before s shape.0 ids extends all))

  pub filled_constant_comes : (given : List ℕ) (shape : Shape) (word : ℕ) (before : Sections) → IsSized shape → Comes whole main local_size rank f given (λ id now after. IsConstant after shape id) before (types.filled_constant shape word before)
  unfolding types.filled_constant
  filled_constant_comes given shape word before sized =
      comes_then whole main local_size rank f given (λ id now after. IsConstant after (shape.0, 1) id) (λ id now after. IsConstant after shape id) before (types.scalar_constant shape.0 word before)
      (λ part. cond (shape.1 == 1) (give part) (λ s. behind (types.type_of shape s) (types.composed (replicate shape.1 part)))) (scalar_constant_sorts shape.0 word before) (scalar_constant_comes given shape.0 word before)
      (λ part s. filled_sorts shape (shape.1 == 1) part s)
      (λ part s now is wider extends inside. by (shape.1 == 1) refl part s now is)
    where
      all_same : (n part : ℕ) (s : Sections) → IsConstant s (shape.0, 1) part → AreConstants shape.0 (replicate n part) s
      all_same zero part s is = tt
      all_same (suc n) part s is = (is, all_same n part s is)

      by : (b : Bool) → (shape.1 == 1) ≡ b → (part : ℕ) (s : Sections) (now : List ℕ) → IsConstant s (shape.0, 1) part
          → Comes whole main local_size rank f now (λ id now after. IsConstant after shape id) s ((cond b (give part) (λ s. behind (types.type_of shape s) (types.composed (replicate shape.1 part)))) s)
      by true e part s now is = given_comes whole main local_size rank f now (λ id now after. IsConstant after shape id) part s (λ inside. subst (λ n. IsConstant s (shape.0, n) part) (sym (eqb-true shape.1 1 e)) is)
      by false e part s now is = whole_comes now shape (replicate shape.1 part) s sized e (length-replicate shape.1 part) (all_same shape.1 part s is)

  each_constant_comes : (given : List ℕ) (s : Scalar) (words : List ℕ) (before : Sections) → Comes whole main local_size rank f given (λ ids now after. AreConstants s ids after × (length ids ≡ length words)) before (types.scalar_constants s words before)
  unfolding in_order
  each_constant_comes given s [] before = given_comes whole main local_size rank f given (λ ids now after. AreConstants s ids after × (length ids ≡ 0)) [] before (λ inside. (tt, refl))
  each_constant_comes given s (word ∷ words) before =
      comes_then whole main local_size rank f given (λ id now after. IsConstant after (s, 1) id) (λ ids now after. AreConstants s ids after × (length ids ≡ length (word ∷ words))) before (types.scalar_constant s word before)
      (λ id t. behind (types.scalar_constants s words t) (λ ids. give (id ∷ ids))) (scalar_constant_sorts s word before) (scalar_constant_comes given s word before)
      (λ id t. sorts_then t (types.scalar_constants s words t) (λ ids. give (id ∷ ids)) (constants_sort s words t) (λ ids u. stays_same u))
      (λ id t now is wider extends inside. comes_then whole main local_size rank f now (λ ids now after. AreConstants s ids after × (length ids ≡ length words)) (λ ids now after. AreConstants s ids after × (length ids ≡ length (word ∷ words))) t (types.scalar_constants s words t)
      (λ ids. give (id ∷ ids)) (constants_sort s words t) (each_constant_comes now s words t) (λ ids u. stays_same u)
      (λ ids u later all wider extends inside. given_comes whole main local_size rank f later (λ ids now after. AreConstants s ids after × (length ids ≡ length (word ∷ words))) (id ∷ ids) u
      (λ inside. ((constant_later t u (s, 1) id extends is, all.0), ap suc all.1))))

  pub vector_constant_comes : (given : List ℕ) (shape : Shape) (words : List ℕ) (before : Sections) → IsSized shape → (shape.1 == 1) ≡ false → length words ≡ shape.1 → Comes whole main local_size rank f given (λ id now after. IsConstant after shape id) before (types.vector_constant shape words before)
  unfolding types.vector_constant
  vector_constant_comes given shape words before sized several count =
      comes_then whole main local_size rank f given (λ ids now after. AreConstants shape.0 ids after × (length ids ≡ length words)) (λ id now after. IsConstant after shape id) before (types.scalar_constants shape.0 words before)
      (λ parts s. behind (types.type_of shape s) (types.composed parts)) (constants_sort shape.0 words before) (each_constant_comes given shape.0 words before)
      (λ parts s. sorts_then s (types.type_of shape s) (types.composed parts) (type_sorts shape s) (λ type t. composite_sorts type parts t))
      (λ parts s now is wider extends inside. whole_comes now shape parts s sized several (is.1 ∙ count) is.0)

  -- ---- constants are values

  pub constant_value : (given : List ℕ) (shape : Shape) (id : ℕ) → IsConstant whole shape id → IsValue whole main local_size rank f given shape id
  constant_value given shape id is = record {
    type = is.type;
    of = is.of;
    typed = ap type_of (global_is whole main local_size sorted is.i id is.stands is.named) ∙ is.typed;
    known = outside_known whole main local_size sorted f given id (global_outside whole main local_size sorted is.i id is.stands is.named);
  }
