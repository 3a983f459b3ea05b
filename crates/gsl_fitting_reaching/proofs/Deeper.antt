-- One part more of what an expression leads to.
use Rattle.std.proofs.Common.{◌≡◌, ℕ, ◌+◌, ◌<◌, Bool, true, false, cond, ◌||◌, ◌&&◌, not, List, [], ◌∷◌, ◌++◌, length, map, Option, Some, None, refl, sym, ap, ◌∙◌, subst, suc, append_assoc, append-nil, arith}
use Rattle.std.specs.Prelude.{◌==◌}
use Rattle.std.specs.List.{list_any}
use Rattle.std.proofs.lemmas.Bool.{and_from, and_parts, not_from_false, not-true, true≢false}
use Rattle.std.proofs.lemmas.List.{length-append}
use Rattle.gsl_instr.specs.declared.enumerant.decoration.TheConstants as decoration
use Rattle.gsl_instr.specs.declared.enumerant.storage_class.TheConstants as storage_class
use Rattle.gsl_tree.specs.Shapes.{Shape}
use Rattle.gsl_words.specs.declared.module.Module.{Module}
use Rattle.gsl_valid.specs.Kinds.{kind, shape_of}
use Rattle.gsl_valid.specs.LimitRules.{most_indexes}
use Rattle.gsl_valid.specs.MemoryRules.{is_base, is_stored, marks}
use Rattle.gsl_valid.specs.OperandRules.{part_of_at, part_within}
use Rattle.gsl_valid.specs.Types.{defined_as}
use Rattle.gsl_spv.specs.Sections.{Sections}
use Rattle.gsl_lower_places.specs.Reached.{part_of}
use Rattle.gsl_lower_places.specs.Reading.{number_in}
use Rattle.gsl_lower_places.specs.declared.reached.Base.{Base}
use Rattle.gsl_lower_places.specs.declared.reached.Base.TheVariants.{Value, Variable}
use Rattle.gsl_lower_places.specs.declared.reached.Part.{Part}
use Rattle.gsl_lower_places.specs.declared.reached.Picked.{Picked}
use Rattle.gsl_lower_places.specs.declared.reached.Reached.{Reached}
use Rattle.gsl_fitting.specs.Fits.{Frame}
use Rattle.gsl_fitting_types.specs.Making.{AreSorted, made}
use Rattle.gsl_fitting_places.specs.Leading.{IsIndex, is_buffered, is_marked, led, led_by, marked_by, may_change, told_number}
use Rattle.gsl_fitting_places.proofs.Ways.{all_more, led_on, marked_on, no_chain}
use Rattle.gsl_fitting_reaching.specs.Reached.{IsIn, IsInside, IsReached, IsThere, IsWithin, LeadsTo, May, Parts, Spot, Stands, asked_base, asked_part, asked_parts, part_spot}

-- ---- what waits

asked_more : (whole : Sections) (parts : List Part) (part : Part) → asked_parts whole (parts ++ part ∷ []) ≡ asked_parts whole parts ++ asked_part whole part
asked_more whole [] part = append-nil (asked_part whole part)
asked_more whole (first ∷ parts) part = ap (λ l. asked_part whole first ++ l) (asked_more whole parts part) ∙ sym (append_assoc (asked_part whole first) (asked_parts whole parts) (asked_part whole part))

asked_deeper : (whole : Sections) (base : Base) (parts : List Part) (part : Part) → asked_base whole base ++ asked_parts whole (parts ++ part ∷ []) ≡ (asked_base whole base ++ asked_parts whole parts) ++ asked_part whole part
asked_deeper whole base parts part = ap (λ l. asked_base whole base ++ l) (asked_more whole parts part) ∙ sym (append_assoc (asked_base whole base) (asked_parts whole parts) (asked_part whole part))

-- ---- marks

or_none : (b : Bool) → b ≡ false → (b || false) ≡ false
or_none b e = ap (λ b. b || false) e

ends_clear : (m : Module) (kind : ℕ) (o : Option ℕ) → marked_by m kind o [] ≡ false
ends_clear m kind None = refl
ends_clear m kind (Some type) = refl

module _ (m : Module) (kind id pointee type : ℕ) (part : Part) (clear : marks m kind (told_number part) (shape_of (defined_as m type)) ≡ false) where
  one_clear : marked_by m kind (Some type) (part ∷ []) ≡ false
  one_clear = ap (λ b. b || marked_by m kind (led_by m type part) []) clear ∙ ends_clear m kind (led_by m type part)

  deeper_clear : (parts : List Part) → led m (Some pointee) parts ≡ Some type → is_marked m kind id pointee parts ≡ false → is_marked m kind id pointee (parts ++ part ∷ []) ≡ false
  deeper_clear [] leads e = marked_on m kind pointee type [] (part ∷ []) leads ∙ one_clear
  deeper_clear (first ∷ parts) leads e =
      marked_on m kind pointee type (first ∷ parts) (part ∷ []) leads ∙ ap (λ b. marked_by m kind (Some pointee) (first ∷ parts) || b) one_clear ∙ or_none (marked_by m kind (Some pointee) (first ∷ parts)) e

deeper_changes : (m : Module) (class id pointee type : ℕ) (parts : List Part) (part : Part) → is_base (kind (defined_as m id)) ≡ true → led m (Some pointee) parts ≡ Some type → marks m decoration.NON_WRITABLE (told_number part) (shape_of (defined_as m type)) ≡ false → may_change m class id pointee parts ≡ true
    → may_change m class id pointee (parts ++ part ∷ []) ≡ true
deeper_changes m class id pointee type parts part base leads clear may = by (class == storage_class.UNIFORM || class == storage_class.STORAGE_BUFFER) may
  where
    there : List ℕ
    there = storage_class.OUTPUT ∷ storage_class.PRIVATE ∷ storage_class.FUNCTION ∷ []

    buffered : (parts : List Part) → is_buffered m id parts ≡ true → is_buffered m id (parts ++ part ∷ []) ≡ true
    buffered [] h = absurd (true≢false (sym h ∙ ap (is_stored m) (no_chain (defined_as m id) base)))
    buffered (first ∷ parts) h = h

    by : (b : Bool) → cond b (is_buffered m id parts && not (is_marked m decoration.NON_WRITABLE id pointee parts)) (list_any (λ c. c == class) there) ≡ true
        → cond b (is_buffered m id (parts ++ part ∷ []) && not (is_marked m decoration.NON_WRITABLE id pointee (parts ++ part ∷ []))) (list_any (λ c. c == class) there) ≡ true
    by true h =
        let both = and_parts (is_buffered m id parts) (not (is_marked m decoration.NON_WRITABLE id pointee parts)) h in
        and_from _ _ (buffered parts both.0) (not_from_false _ (deeper_clear m decoration.NON_WRITABLE id pointee type part clear parts leads (not-true _ both.1)))
    by false h = h

-- ---- parts of values

within_on : (m : Module) (o : Option ℕ) (type : ℕ) (parts : List Part) (part : Part) → part_within m o (map number_in parts) ≡ Some type → part_within m o (map number_in (parts ++ part ∷ [])) ≡ part_within m (part_of_at m (number_in part) (shape_of (defined_as m type))) []
within_on m (Some first) type [] part e = ap (λ o. part_within m o (number_in part ∷ [])) e
within_on m (Some first) type (one ∷ parts) part e = within_on m (part_of_at m (number_in one) (shape_of (defined_as m first))) type parts part e
within_on m None type parts part e = absurd cc

module _ (whole : Sections) (main : ℕ) (local_size : List ℕ) (rank : ℕ → ℕ) (f : Frame) (sorted : AreSorted whole) where
  abbrev m : Module
  m = made whole main local_size rank f

  abbrev Index : List ℕ → Part → Type 0
  Index given part = IsIndex whole main local_size rank f given part

  more_room : (parts : List Part) (part : Part) (room : ℕ) → length parts + suc room < most_indexes → length (parts ++ part ∷ []) + room < most_indexes
  more_room parts part room few = let e = length-append parts (part ∷ []) in omega (arith, few, e)

  within_deeper : (given : List ℕ) (may : May) (class id : ℕ) (parts : List Part) (part : Part) (type other room : ℕ) → IsWithin whole main local_size rank f given may class id parts type (suc room) → Index given part → Parts whole main local_size rank f (Some class) may type part other
      → IsWithin whole main local_size rank f given may class id (parts ++ part ∷ []) other room
  within_deeper given may class id parts part type other room l index p = record {
    pointee = l.pointee;
    leads = record {
      pointer = l.leads.pointer;
      indexes = all_more (Index given) parts part l.leads.indexes index;
      leads = led_on m l.pointee type parts (part ∷ []) l.leads.leads ∙ ap (λ o. led m o []) p.0;
    };
    known = l.known;
    base = l.base;
    classed = l.classed;
    few = more_room parts part room l.few;
    readable = λ reads. deeper_clear m decoration.NON_READABLE id l.pointee type part (p.1 reads) parts l.leads.leads (l.readable reads);
    changes = λ stores. deeper_changes m class id l.pointee type parts part l.base l.leads.leads (p.2 stores) (l.changes stores);
  }

  inside_deeper : (given : List ℕ) (may : May) (id of_whole : ℕ) (parts : List Part) (part : Part) (type other room : ℕ) → IsInside whole main local_size rank f given id of_whole parts type (suc room) → Index given part → Parts whole main local_size rank f None may type part other
      → IsInside whole main local_size rank f given id of_whole (parts ++ part ∷ []) other room
  inside_deeper given may id of_whole parts part type other room l index p = record {
    typed = l.typed;
    known = l.known;
    indexes = all_more (Index given) parts part l.indexes index;
    within = within_on m (Some of_whole) type parts part l.within ∙ ap (λ o. part_within m o []) p;
    few = more_room parts part room l.few;
  }

  leads_deeper : (given : List ℕ) (home : Option ℕ) (may : May) (base : Base) (parts : List Part) (part : Part) (type other room : ℕ) → IsIn home base → LeadsTo whole main local_size rank f given may base parts type (suc room) → Index given part → Parts whole main local_size rank f home may type part other
      → LeadsTo whole main local_size rank f given may base (parts ++ part ∷ []) other room
  leads_deeper given (Some class) may (Variable id own) parts part type other room there l index p =
      within_deeper given may own id parts part type other room l index (subst (λ c. Parts whole main local_size rank f (Some c) may type part other) (sym there) p)
  leads_deeper given (Some class) may (Value id of_whole) parts part type other room there l index p = absurd there
  leads_deeper given None may (Variable id own) parts part type other room there l index p = absurd there
  leads_deeper given None may (Value id of_whole) parts part type other room there l index p = inside_deeper given may id of_whole parts part type other room l index p

  pub there_whole : (given : List ℕ) (home : Option ℕ) (may : May) (shape : Option Shape) (type : ℕ) (picked : Option Picked) → picked ≡ None → Stands whole main local_size rank f home shape type → IsThere whole main local_size rank f given home may shape type picked
  there_whole given home may None type picked none stands = none
  there_whole given home may (Some shape) type picked none stands =
      subst (IsThere whole main local_size rank f given home may (Some shape) type) (sym none) (record { of = stands.1; is = stands.0; takes = λ stores. tt })

  -- from an array or a struct to a part of it
  pub part_reached : (given : List ℕ) (spot : Spot) (shape : Option Shape) (other room : ℕ) (part : Part) (r : Reached) → spot.shape ≡ None → spot.room ≡ suc room → IsReached whole main local_size rank f given spot r → Index given part → Parts whole main local_size rank f spot.home spot.may spot.type part other
      → Stands whole main local_size rank f spot.home shape other → IsReached whole main local_size rank f given (part_spot whole spot part shape other room) (part_of r part)
  part_reached given spot shape other room part r none more is index p stands = record {
    at_home = is.at_home;
    leads = leads_deeper given spot.home spot.may r.base r.path part spot.type other room is.at_home (subst (LeadsTo whole main local_size rank f given spot.may r.base r.path spot.type) more is.leads) index p;
    is = there_whole given spot.home spot.may shape other r.picked whole_there stands;
    asked = asked_deeper whole r.base r.path part ∙ ap (λ l. l ++ asked_part whole part) is.asked;
    chosen = is.chosen;
  }
    where
      whole_there : r.picked ≡ None
      whole_there = subst (λ o. IsThere whole main local_size rank f given spot.home spot.may o spot.type r.picked) none is.is
