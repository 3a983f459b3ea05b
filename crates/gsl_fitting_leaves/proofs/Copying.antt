-- Copies leaf by leaf.
use Rattle.std.proofs.Common.{ℕ, List, [], ◌∷◌, ◌++◌, Option, Some, None, refl, ap, ◌∙◌}
use Rattle.gsl_instr.specs.Forms.{form_of}
use Rattle.gsl_instr.specs.declared.op.TheConstants as op
use Rattle.gsl_instr.specs.declared.enumerant.decoration.TheConstants as decoration
use Rattle.gsl_instr.specs.declared.enumerant.storage_class.TheConstants as storage_class
use Rattle.gsl_tree.specs.Shapes.{Shape}
use Rattle.gsl_words.specs.declared.module.Module.{Module}
use Rattle.gsl_valid.specs.Kinds.{type_of}
use Rattle.gsl_valid.specs.MemoryRules.{leads_along}
use Rattle.gsl_valid.specs.Types.{defined_as}
use Rattle.gsl_spv.specs.Sections.{Sections}
use Rattle.gsl_lower_values.specs.Building.{Built, Step, behind, giving}
use Rattle.gsl_lower_values.specs.Types as types
use Rattle.gsl_lower_leaves.specs.Copies.{copied_in, copied_out, each, read_whole, store_whole}
use Rattle.gsl_lower_leaves.specs.declared.leaf.Leaf.{Leaf}
use Rattle.gsl_lower_places.specs.Reading.{extracted, loaded}
use Rattle.gsl_lower_places.specs.Writing.{put_at}
use Rattle.gsl_lower_places.specs.declared.reached.Part.{Part}
use Rattle.gsl_lower_places.specs.declared.reached.Picked.{Picked}
use Rattle.gsl_fitting.specs.Fits.{Frame}
use Rattle.gsl_fitting_types.specs.Making.{AreSorted, IsTypeOf, Sorts, made}
use Rattle.gsl_fitting_types.proofs.Knowing.{known_wider, one_type, outside_known, type_later}
use Rattle.gsl_fitting_types.proofs.Sorting.{giving_sorts, sorts_then, stays_same}
use Rattle.gsl_fitting_types.proofs.Stepping.{Wider, comes_then, given_comes}
use Rattle.gsl_fitting_types.proofs.Types.{type_comes, type_sorts}
use Rattle.gsl_fitting_places.specs.Leading.{Nothing}
use Rattle.gsl_fitting_places.specs.Places.{IsOfShape, IsPartOf, IsPlace, ReadsPlace, StoresPlace}
use Rattle.gsl_fitting_places.proofs.Chains.{giving_made, leads_later}
use Rattle.gsl_fitting_places.proofs.Moves.{F, G, V, load_stands, loaded_fits, loaded_sorts, put_fits, put_sorts}
use Rattle.gsl_fitting_places.proofs.Parting.{extracted_fits, extracted_sorts, picks_later}
use Rattle.gsl_fitting_places.proofs.Ways.{no_chain, served_by}
use Rattle.gsl_fitting_flow.specs.Flowing.{IsHolder, IsOf}
use Rattle.gsl_fitting_flow.proofs.Holding.{own_known}
use Rattle.gsl_fitting_leaves.specs.Wholes.{EnterBlock, EntersBlock, LeaveBlock, LeavesBlock}

-- ---- they sort

pub each_sorts : (step : Leaf → Step (Unit {0})) (leaves : List Leaf) (s : Sections) → ((one : Leaf) (s : Sections) → Sorts s (step one s)) → Sorts s (each step leaves s)
unfolding each
each_sorts step [] s sorts = stays_same s
each_sorts step (one ∷ more) s sorts = sorts_then s (step one s) (λ done. each step more) (sorts one s) (λ done t. each_sorts step more t sorts)

out_sorts : (block class : ℕ) (parts : List Part) (variable : ℕ) (one : Leaf) (s : Sections) → Sorts s (copied_out block class parts variable one s)
unfolding copied_out
out_sorts block class parts variable one s =
    sorts_then s (loaded block class one.shape (parts ++ one.path) s) (λ v. put_at variable storage_class.FUNCTION one.shape one.path v) (loaded_sorts block class one.shape (parts ++ one.path) s)
    (λ v t. put_sorts variable storage_class.FUNCTION one.shape one.path v t)

pub read_whole_sorts : (block class : ℕ) (parts : List Part) (variable type : ℕ) (leaves : List Leaf) (s : Sections) → Sorts s (read_whole block class parts variable type leaves s)
unfolding read_whole form_of
read_whole_sorts block class parts variable type leaves s =
    sorts_then s (each (copied_out block class parts variable) leaves s) (λ done. giving op.LOAD (variable ∷ []) type) (each_sorts (copied_out block class parts variable) leaves s (λ one t. out_sorts block class parts variable one t))
    (λ done t. giving_sorts op.LOAD (variable ∷ []) type t (λ id. refl))

abbrev enter_by : ℕ → ℕ → List Part → ℕ → Leaf → ℕ → Step (Unit {0})
enter_by block class parts value one type t = behind (extracted value type one.path t) (λ v. put_at block class one.shape (parts ++ one.path) v)

enter_sorts : (block class : ℕ) (parts : List Part) (value : ℕ) (one : Leaf) (type : ℕ) (s : Sections) → Sorts s (enter_by block class parts value one type s)
enter_sorts block class parts value one type s =
    sorts_then s (extracted value type one.path s) (λ v. put_at block class one.shape (parts ++ one.path) v) (extracted_sorts value type one.path s) (λ v t. put_sorts block class one.shape (parts ++ one.path) v t)

in_sorts : (block class : ℕ) (parts : List Part) (value : ℕ) (one : Leaf) (s : Sections) → Sorts s (copied_in block class parts value one s)
unfolding copied_in
in_sorts block class parts value one s = sorts_then s (types.type_of one.shape s) (enter_by block class parts value one) (type_sorts one.shape s) (λ type t. enter_sorts block class parts value one type t)

pub store_whole_sorts : (block class : ℕ) (parts : List Part) (value : ℕ) (leaves : List Leaf) (s : Sections) → Sorts s (store_whole block class parts value leaves s)
unfolding store_whole
store_whole_sorts block class parts value leaves s = each_sorts (copied_in block class parts value) leaves s (λ one t. in_sorts block class parts value one t)

module _ (whole : Sections) (main : ℕ) (local_size : List ℕ) (rank : ℕ → ℕ) (f : Frame) (sorted : AreSorted whole) where
  abbrev m : Module
  m = made whole main local_size rank f

  abbrev D : {A : Type 0} → List ℕ → (A → List ℕ → Sections → Type 0) → Sections → Built A → Type 0
  D given Is before built = F whole main local_size rank f sorted given Is before built

  -- ---- what may be read and stored may be so later in the block

  pub shape_later : (given now : List ℕ) (shape : Shape) (p : Option Picked) → Wider given now → IsOfShape whole main local_size rank f given shape p → IsOfShape whole main local_size rank f now shape p
  shape_later given now shape None wider is = is
  shape_later given now shape (Some p) wider is = picks_later whole main local_size rank f sorted given now shape p wider is

  abbrev pub place_later : (given now : List ℕ) (class id : ℕ) (parts : List Part) (shape : Shape) (p : Option Picked) → Wider given now → IsPlace whole main local_size rank f given class id parts shape p → IsPlace whole main local_size rank f now class id parts shape p
  place_later given now class id parts shape p wider k = record {
    pointee = k.pointee;
    type = k.type;
    leads = leads_later whole main local_size rank f sorted given now class id k.pointee parts k.type wider k.leads;
    of = k.of;
    along = k.along;
    is = shape_later given now shape p wider k.is;
  }

  pub part_later : (given now : List ℕ) (id : ℕ) (parts : List Part) (shape : Shape) (p : Option Picked) → Wider given now → IsPartOf whole main local_size rank f given id parts shape p → IsPartOf whole main local_size rank f now id parts shape p
  part_later given now id parts shape p wider k = record {
    type = k.type;
    part = k.part;
    typed = k.typed;
    known = known_wider whole main local_size sorted f given now id wider k.known;
    within = k.within;
    few = k.few;
    of = k.of;
    is = shape_later given now shape p wider k.is;
  }

  reads_later : (given now : List ℕ) (class id : ℕ) (parts : List Part) (shape : Shape) (p : Option Picked) → Wider given now → ReadsPlace whole main local_size rank f given class id parts shape p → ReadsPlace whole main local_size rank f now class id parts shape p
  reads_later given now class id parts shape p wider k = record { place = place_later given now class id parts shape p wider k.place; readable = k.readable }

  stores_later : (given now : List ℕ) (class id : ℕ) (parts : List Part) (shape : Shape) (p : Option Picked) → Wider given now → StoresPlace whole main local_size rank f given class id parts shape p → StoresPlace whole main local_size rank f now class id parts shape p
  stores_later given now class id parts shape p wider k = record { place = place_later given now class id parts shape p wider k.place; changes = k.changes; takes = k.takes; more = k.more }

  leave_later : (given now : List ℕ) (class block : ℕ) (parts : List Part) (variable : ℕ) (leaves : List Leaf) → Wider given now → LeaveBlock whole main local_size rank f given class block parts variable leaves → LeaveBlock whole main local_size rank f now class block parts variable leaves
  leave_later given now class block parts variable [] wider all = tt
  leave_later given now class block parts variable (one ∷ leaves) wider all =
      (record { from = reads_later given now class block (parts ++ one.path) one.shape None wider all.0.from; to = stores_later given now storage_class.FUNCTION variable one.path one.shape None wider all.0.to }, leave_later given now class block parts variable leaves wider all.1)

  enter_later : (given now : List ℕ) (class block : ℕ) (parts : List Part) (value : ℕ) (leaves : List Leaf) → Wider given now → EnterBlock whole main local_size rank f given class block parts value leaves → EnterBlock whole main local_size rank f now class block parts value leaves
  enter_later given now class block parts value [] wider all = tt
  enter_later given now class block parts value (one ∷ leaves) wider all =
      (record { from = part_later given now value one.path one.shape None wider all.0.from; to = stores_later given now class block (parts ++ one.path) one.shape None wider all.0.to }, enter_later given now class block parts value leaves wider all.1)

  -- ---- one leaf

  load_leaf : (given : List ℕ) (class id : ℕ) (parts : List Part) (shape : Shape) (before : Sections) → ReadsPlace whole main local_size rank f given class id parts shape None → D given (G whole main local_size rank f sorted shape) before (loaded id class shape parts before)
  load_leaf given class id parts shape before r =
      let s = served_by whole main local_size rank f sorted given class id parts shape None r.place in
      loaded_fits whole main local_size rank f sorted given class id r.place.pointee parts shape before s.at (s.unmarked decoration.NON_READABLE r.readable)

  store_leaf : (given : List ℕ) (class id : ℕ) (parts : List Part) (shape : Shape) (v : ℕ) (before : Sections) → StoresPlace whole main local_size rank f given class id parts shape None → V whole main local_size rank f sorted given shape v → D given Nothing before (put_at id class shape parts v before)
  store_leaf given class id parts shape v before r value =
      let s = served_by whole main local_size rank f sorted given class id parts shape None r.place in
      put_fits whole main local_size rank f sorted given class id r.place.pointee parts shape v before s.at (s.changes r.changes) value

  leave_one : (given : List ℕ) (class block : ℕ) (parts : List Part) (variable : ℕ) (one : Leaf) (before : Sections) → LeavesBlock whole main local_size rank f given class block parts variable one → D given Nothing before (copied_out block class parts variable one before)
  unfolding copied_out
  leave_one given class block parts variable one before k =
      comes_then whole main local_size rank f given (G whole main local_size rank f sorted one.shape) Nothing before (loaded block class one.shape (parts ++ one.path) before) (λ v. put_at variable storage_class.FUNCTION one.shape one.path v) (loaded_sorts block class one.shape (parts ++ one.path) before)
      (load_leaf given class block (parts ++ one.path) one.shape before k.from) (λ v t. put_sorts variable storage_class.FUNCTION one.shape one.path v t)
      (λ v t now is wider extends inside. store_leaf now storage_class.FUNCTION variable one.path one.shape v t (stores_later given now storage_class.FUNCTION variable one.path one.shape None wider k.to) is)

  -- a leaf of a value, under the type of its shape
  pub leaf_fits : (given : List ℕ) (value : ℕ) (one : Leaf) (type : ℕ) (before : Sections) → IsTypeOf before one.shape type → IsPartOf whole main local_size rank f given value one.path one.shape None → D given (G whole main local_size rank f sorted one.shape) before (extracted value type one.path before)
  leaf_fits given value one type before of k =
      extracted_fits whole main local_size rank f sorted given value type k.type one.shape one.path before of k.known k.typed (λ inside. k.within ∙ ap Some (one_type whole one.shape k.part type k.of (type_later before whole one.shape type inside of))) k.few

  enter_one : (given : List ℕ) (class block : ℕ) (parts : List Part) (value : ℕ) (one : Leaf) (before : Sections) → EntersBlock whole main local_size rank f given class block parts value one → D given Nothing before (copied_in block class parts value one before)
  unfolding copied_in
  enter_one given class block parts value one before k =
      comes_then whole main local_size rank f given (λ type now after. IsTypeOf after one.shape type) Nothing before (types.type_of one.shape before) (enter_by block class parts value one) (type_sorts one.shape before)
      (type_comes whole main local_size rank f sorted given one.shape before k.from.is) (λ type t. enter_sorts block class parts value one type t)
      (λ type t now of wider extends inside. comes_then whole main local_size rank f now (G whole main local_size rank f sorted one.shape) Nothing t (extracted value type one.path t) (λ v. put_at block class one.shape (parts ++ one.path) v) (extracted_sorts value type one.path t)
      (leaf_fits now value one type t of (part_later given now value one.path one.shape None wider k.from)) (λ v u. put_sorts block class one.shape (parts ++ one.path) v u)
      (λ v u later is wider_on extends_on inside_on. store_leaf later class block (parts ++ one.path) one.shape v u (stores_later given later class block (parts ++ one.path) one.shape None (λ id h. wider_on id (wider id h)) k.to) is))

  -- ---- all leaves

  leave_all : (given : List ℕ) (class block : ℕ) (parts : List Part) (variable : ℕ) (leaves : List Leaf) (before : Sections) → LeaveBlock whole main local_size rank f given class block parts variable leaves → D given Nothing before (each (copied_out block class parts variable) leaves before)
  unfolding each
  leave_all given class block parts variable [] before all = given_comes whole main local_size rank f given Nothing tt before (λ inside. tt)
  leave_all given class block parts variable (one ∷ leaves) before all =
      comes_then whole main local_size rank f given Nothing Nothing before (copied_out block class parts variable one before) (λ done. each (copied_out block class parts variable) leaves) (out_sorts block class parts variable one before)
      (leave_one given class block parts variable one before all.0) (λ done t. each_sorts (copied_out block class parts variable) leaves t (λ one u. out_sorts block class parts variable one u))
      (λ done t now nothing wider extends inside. leave_all now class block parts variable leaves t (leave_later given now class block parts variable leaves wider all.1))

  pub read_whole_comes : (given : List ℕ) (class block : ℕ) (parts : List Part) (variable type : ℕ) (leaves : List Leaf) (before : Sections) → LeaveBlock whole main local_size rank f given class block parts variable leaves → IsHolder whole main local_size rank f type variable
      → D given (λ id now after. IsOf whole main local_size rank f now type id) before (read_whole block class parts variable type leaves before)
  unfolding read_whole form_of
  read_whole_comes given class block parts variable type leaves before all h =
      comes_then whole main local_size rank f given Nothing (λ id now after. IsOf whole main local_size rank f now type id) before (each (copied_out block class parts variable) leaves before) (λ done. giving op.LOAD (variable ∷ []) type)
      (each_sorts (copied_out block class parts variable) leaves before (λ one t. out_sorts block class parts variable one t)) (leave_all given class block parts variable leaves before all) (λ done t. giving_sorts op.LOAD (variable ∷ []) type t (λ id. refl))
      (λ done t now nothing wider extends inside. giving_made whole main local_size rank f sorted now op.LOAD (variable ∷ []) type (λ id now after. IsOf whole main local_size rank f now type id) t
      (λ start. load_stands whole main local_size rank f sorted now storage_class.FUNCTION type variable refl (record { leads = h.leads; known = own_known whole main local_size rank f sorted now variable h.own }) (outside_known whole main local_size sorted f now type h.declared) h.moved
      (ap (leads_along m decoration.NON_READABLE) (no_chain (defined_as m variable) h.base)))
      (λ id after start inside reads known. record { typed = ap type_of reads; known = known }))

  pub store_whole_comes : (given : List ℕ) (class block : ℕ) (parts : List Part) (value : ℕ) (leaves : List Leaf) (before : Sections) → EnterBlock whole main local_size rank f given class block parts value leaves → D given Nothing before (store_whole block class parts value leaves before)
  unfolding store_whole each
  store_whole_comes given class block parts value [] before all = given_comes whole main local_size rank f given Nothing tt before (λ inside. tt)
  store_whole_comes given class block parts value (one ∷ leaves) before all =
      comes_then whole main local_size rank f given Nothing Nothing before (copied_in block class parts value one before) (λ done. each (copied_in block class parts value) leaves) (in_sorts block class parts value one before)
      (enter_one given class block parts value one before all.0) (λ done t. each_sorts (copied_in block class parts value) leaves t (λ one u. in_sorts block class parts value one u))
      (λ done t now nothing wider extends inside. store_whole_comes now class block parts value leaves t (enter_later given now class block parts value leaves wider all.1))
