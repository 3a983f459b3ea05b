-- Leaves of what an expression leads to, in blocks, in holders and in values.
use Rattle.std.proofs.Common.{◌≡◌, ℕ, ◌+◌, ◌≤◌, ◌<◌, Bool, true, false, ◌||◌, ◌&&◌, cond, not, List, [], ◌∷◌, ◌++◌, length, Some, None, refl, sym, ap, ◌∙◌, arith}
use Rattle.std.specs.Prelude.{◌==◌}
use Rattle.std.specs.List.{AllByRecursion, list_any}
use Rattle.std.proofs.lemmas.Bool.{and_from, and_parts, not_from_false, not-true, true≢false}
use Rattle.std.proofs.lemmas.List.{length-append}
use Rattle.gsl_instr.specs.declared.enumerant.decoration.TheConstants as decoration
use Rattle.gsl_instr.specs.declared.enumerant.storage_class.TheConstants as storage_class
use Rattle.gsl_words.specs.declared.module.Module.{Module}
use Rattle.gsl_valid.specs.Kinds.{kind}
use Rattle.gsl_valid.specs.LimitRules.{most_indexes}
use Rattle.gsl_valid.specs.MemoryRules.{is_base, is_stored, leads_along}
use Rattle.gsl_valid.specs.Sections.{is_class}
use Rattle.gsl_valid.specs.Types.{defined_as}
use Rattle.gsl_spv.specs.Sections.{Sections}
use Rattle.gsl_lower_leaves.specs.declared.leaf.Leaf.{Leaf}
use Rattle.gsl_lower_places.specs.declared.reached.Part.{Part}
use Rattle.gsl_lower_places.specs.declared.reached.Part.TheVariants.{By, Fixed}
use Rattle.gsl_fitting.specs.Fits.{Frame}
use Rattle.gsl_fitting_types.specs.Making.{AreSorted, made}
use Rattle.gsl_fitting_places.specs.Leading.{IsIndex, is_buffered, is_marked, led, marked_by, may_change}
use Rattle.gsl_fitting_places.specs.Places.{IsPartOf, IsPlace, ReadsPlace, StoresPlace}
use Rattle.gsl_fitting_places.proofs.Ways.{led_on, marked_on, no_chain, way_begins}
use Rattle.gsl_fitting_flow.specs.Flowing.{IsHolder, IsOf}
use Rattle.gsl_fitting_flow.proofs.Holding.{own_known}
use Rattle.gsl_fitting_leaves.specs.Wholes.{EnterBlock, LeaveBlock}
use Rattle.gsl_fitting_reaching.specs.Reached.{IsWithin, May}
use Rattle.gsl_fitting_reads.specs.Moving.{GivesLeaf, HasLeaf, IsKnown, both}

or_none : (b : Bool) → b ≡ false → (b || false) ≡ false
or_none b e = ap (λ b. b || false) e

or_clear : (a b : Bool) → a ≡ false → b ≡ false → (a || b) ≡ false
or_clear false b e h = h
or_clear true b e h = absurd (true≢false e)

all_behind : (P : Part → Type 0) (parts more : List Part) → AllByRecursion P parts → AllByRecursion P more → AllByRecursion P (parts ++ more)
all_behind P [] more all then = then
all_behind P (part ∷ parts) more all then = (all.0, all_behind P parts more all.1 then)

-- ---- through no member that has a decoration

module _ (m : Module) (kind id pointee type : ℕ) where
  behind_clear : (parts more : List Part) → led m (Some pointee) parts ≡ Some type → is_marked m kind id pointee parts ≡ false → marked_by m kind (Some type) more ≡ false → is_marked m kind id pointee (parts ++ more) ≡ false
  behind_clear (first ∷ parts) more leads e clear = marked_on m kind pointee type (first ∷ parts) more leads ∙ or_clear (marked_by m kind (Some pointee) (first ∷ parts)) (marked_by m kind (Some type) more) e clear
  behind_clear [] [] leads e clear = e
  behind_clear [] (part ∷ more) leads e clear = marked_on m kind pointee type [] (part ∷ more) leads ∙ clear

behind_changes : (m : Module) (class id pointee type : ℕ) (parts more : List Part) → is_base (kind (defined_as m id)) ≡ true → led m (Some pointee) parts ≡ Some type → marked_by m decoration.NON_WRITABLE (Some type) more ≡ false → may_change m class id pointee parts ≡ true
    → may_change m class id pointee (parts ++ more) ≡ true
behind_changes m class id pointee type parts more base leads clear may = by (class == storage_class.UNIFORM || class == storage_class.STORAGE_BUFFER) may
  where
    there : List ℕ
    there = storage_class.OUTPUT ∷ storage_class.PRIVATE ∷ storage_class.FUNCTION ∷ []

    buffered : (parts more : List Part) → is_buffered m id parts ≡ true → is_buffered m id (parts ++ more) ≡ true
    buffered [] more h = absurd (true≢false (sym h ∙ ap (is_stored m) (no_chain (defined_as m id) base)))
    buffered (first ∷ parts) more h = h

    by : (b : Bool) → cond b (is_buffered m id parts && not (is_marked m decoration.NON_WRITABLE id pointee parts)) (list_any (λ c. c == class) there) ≡ true
        → cond b (is_buffered m id (parts ++ more) && not (is_marked m decoration.NON_WRITABLE id pointee (parts ++ more))) (list_any (λ c. c == class) there) ≡ true
    by true h =
        let both = and_parts (is_buffered m id parts) (not (is_marked m decoration.NON_WRITABLE id pointee parts)) h in
        and_from _ _ (buffered parts more both.0) (not_from_false _ (behind_clear m decoration.NON_WRITABLE id pointee type parts more leads (not-true _ both.1) clear))
    by false h = h

module _ (whole : Sections) (main : ℕ) (local_size : List ℕ) (rank : ℕ → ℕ) (f : Frame) (sorted : AreSorted whole) where
  abbrev m : Module
  m = made whole main local_size rank f

  abbrev Both : May
  Both = both

  known_indexes : (given : List ℕ) (parts : List Part) → AllByRecursion IsKnown parts → AllByRecursion (IsIndex whole main local_size rank f given) parts
  known_indexes given [] all = tt
  known_indexes given (Fixed number ∷ parts) all = (tt, known_indexes given parts all.1)
  known_indexes given (By s id ∷ parts) all = absurd all.0

  -- ---- in variables

  pub leaf_place : (given : List ℕ) (may : May) (class id : ℕ) (parts : List Part) (type room : ℕ) (one : Leaf) → IsWithin whole main local_size rank f given may class id parts type room → HasLeaf whole main local_size rank f class may type room one
      → IsPlace whole main local_size rank f given class id (parts ++ one.path) one.shape None
  leaf_place given may class id parts type room one l h = record {
    pointee = l.pointee;
    type = h.part;
    leads = record {
      pointer = l.leads.pointer;
      indexes = all_behind (IsIndex whole main local_size rank f given) parts one.path l.leads.indexes (known_indexes given one.path h.fixed);
      leads = led_on m l.pointee type parts one.path l.leads.leads ∙ h.leads;
    };
    of = h.of;
    along = record {
      few = let few = l.few in let short = h.few in let e = length-append parts one.path in let z : length (parts ++ one.path) ≤ most_indexes = omega (arith, few, short, e) in z;
      begins = way_begins whole main local_size rank f sorted class id (parts ++ one.path) (l.base, l.classed);
    };
    is = h.sized;
  }

  leaf_reads : (given : List ℕ) (may : May) (class id : ℕ) (parts : List Part) (type room : ℕ) (one : Leaf) → may.reads ≡ true → IsWithin whole main local_size rank f given may class id parts type room → HasLeaf whole main local_size rank f class may type room one
      → ReadsPlace whole main local_size rank f given class id (parts ++ one.path) one.shape None
  unfolding leaf_place
  leaf_reads given may class id parts type room one reads l h = record {
    place = leaf_place given may class id parts type room one l h;
    readable = behind_clear m decoration.NON_READABLE id l.pointee type parts one.path l.leads.leads (l.readable reads) (h.readable reads);
  }

  leaf_stores : (given : List ℕ) (may : May) (class id : ℕ) (parts : List Part) (type room : ℕ) (one : Leaf) → may.stores ≡ true → IsWithin whole main local_size rank f given may class id parts type room → HasLeaf whole main local_size rank f class may type room one
      → StoresPlace whole main local_size rank f given class id (parts ++ one.path) one.shape None
  unfolding leaf_place
  leaf_stores given may class id parts type room one stores l h = record {
    place = leaf_place given may class id parts type room one l h;
    changes = behind_changes m class id l.pointee type parts one.path l.base l.leads.leads (h.writable stores) (l.changes stores);
    takes = tt;
    more = λ several. absurd (true≢false (sym several));
  }

  -- a holder, as a place
  pub holder_within : (given : List ℕ) (type room h : ℕ) → is_class m.version storage_class.FUNCTION ≡ true → room < most_indexes → IsHolder whole main local_size rank f type h → IsWithin whole main local_size rank f given Both storage_class.FUNCTION h [] type room
  holder_within given type room h classed few is = record {
    pointee = type;
    leads = record { pointer = record { leads = is.leads; known = own_known whole main local_size rank f sorted given h is.own }; indexes = tt; leads = refl };
    known = own_known whole main local_size rank f sorted [] h is.own;
    base = is.base;
    classed = classed;
    few = let z : 0 + room < most_indexes = omega (arith, few) in z;
    readable = λ reads. ap (leads_along m decoration.NON_READABLE) (no_chain (defined_as m h) is.base);
    changes = λ stores. refl;
  }

  pub leaves_block : (given : List ℕ) (may : May) (class id : ℕ) (parts : List Part) (type other room h : ℕ) (leaves : List Leaf) → may.reads ≡ true → IsWithin whole main local_size rank f given may class id parts type room → IsWithin whole main local_size rank f given Both storage_class.FUNCTION h [] other room
      → AllByRecursion (HasLeaf whole main local_size rank f class may type room) leaves → AllByRecursion (HasLeaf whole main local_size rank f storage_class.FUNCTION Both other room) leaves → LeaveBlock whole main local_size rank f given class id parts h leaves
  leaves_block given may class id parts type other room h [] reads l k from to = tt
  leaves_block given may class id parts type other room h (one ∷ leaves) reads l k from to = (
    record { from = leaf_reads given may class id parts type room one reads l from.0; to = leaf_stores given Both storage_class.FUNCTION h [] other room one refl k to.0 },
    leaves_block given may class id parts type other room h leaves reads l k from.1 to.1,
  )

  -- ---- in values

  pub leaf_of_value : (given : List ℕ) (type room v : ℕ) (one : Leaf) → room < most_indexes → IsOf whole main local_size rank f given type v → GivesLeaf whole main local_size rank f type room one → IsPartOf whole main local_size rank f given v one.path one.shape None
  leaf_of_value given type room v one few is h = record {
    type = type;
    part = h.part;
    typed = is.typed;
    known = is.known;
    within = h.within;
    few = let short = h.few in let z : length one.path ≤ most_indexes = omega (arith, short, few) in z;
    of = h.of;
    is = h.sized;
  }

  pub enters_block : (given : List ℕ) (may : May) (class id : ℕ) (parts : List Part) (type other room v : ℕ) (leaves : List Leaf) → may.stores ≡ true → IsWithin whole main local_size rank f given may class id parts type room → IsOf whole main local_size rank f given other v
      → AllByRecursion (HasLeaf whole main local_size rank f class may type room) leaves → AllByRecursion (GivesLeaf whole main local_size rank f other room) leaves → EnterBlock whole main local_size rank f given class id parts v leaves
  enters_block given may class id parts type other room v [] stores l is to from = tt
  enters_block given may class id parts type other room v (one ∷ leaves) stores l is to from = (
    record { from = leaf_of_value given other room v one (let few = l.few in let z : room < most_indexes = omega (arith, few) in z) is from.0; to = leaf_stores given may class id parts type room one stores l to.0 },
    enters_block given may class id parts type other room v leaves stores l is to.1 from.1,
  )
