-- Trails in later states, and with one part more.
use Rattle.std.proofs.Common.{ℕ, Bool, List, [], ◌∷◌, ◌++◌, Option, Some, None}
use Rattle.std.specs.List.{AllByRecursion}
use Rattle.gsl_base.specs.declared.input.Input.{Input}
use Rattle.gsl_words.specs.declared.module.Module.{Module}
use Rattle.gsl_values.specs.declared.value.Value.{Value}
use Rattle.gsl_tree.specs.Around.{Around}
use Rattle.gsl_tree.specs.declared.program.Program.{Program}
use Rattle.gsl_meaning.specs.State as shader
use Rattle.gsl_machine.specs.State.{Ids, State}
use Rattle.gsl_spv.specs.Sections.{Sections}
use Rattle.gsl_lower_law.specs.Values.{Stands}
use Rattle.gsl_lower_places.specs.declared.reached.Base.{Base}
use Rattle.gsl_lower_places.specs.declared.reached.Part.{Part}
use Rattle.gsl_lower_places.specs.declared.reached.Part.TheVariants.{Fixed, By}
use Rattle.gsl_lower_places.specs.declared.reached.Picked.{Picked}
use Rattle.gsl_lower_places.specs.declared.reached.Reached.{Reached}
use Rattle.gsl_lower_law_places.specs.Components.{Chooses}
use Rattle.gsl_lower_law_places.specs.Leading.{NumberEach, Numbers}
use Rattle.gsl_lower_holders.specs.Flow.{Flow}
use Rattle.gsl_lower_follows.specs.Frames.{Frame, HeldAs, Waits}
use Rattle.gsl_lower_follows.specs.Giving.{After, Grown}
use Rattle.gsl_lower_follows.proofs.Holding.{held_after, waits_after}
use Rattle.gsl_lower_reaching.specs.Reaching.{At, Begins, ChoosesBy, IsBlockTrail, IsFixed, IsOwnTrail, IsTrail, NumberBy, NumberEachBy, PicksBy, Start}
use Rattle.gsl_lower_reaching.specs.Reaching.Begins.{variable, value, holder}
use Rattle.gsl_lower_reaching.specs.Reaching.IsTrail.{own, in_block}
use Rattle.gsl_lower_reaching.specs.Trails.{Chosen, Trail}

-- ---- what ids are of numbers

module _ (one other : At) (so : (id : ℕ) (v : Value) → one id v → other id v) where
  pub number_so : (part : Part) (word : ℕ) → NumberBy one part word → NumberBy other part word
  number_so (Fixed number) word is = is
  number_so (By s id) word is = so id _ is

  pub numbers_so : (parts : List Part) (words : List ℕ) → NumberEachBy one parts words → NumberEachBy other parts words
  numbers_so [] [] each = tt
  numbers_so [] (word ∷ words) each = each
  numbers_so (part ∷ parts) [] each = each
  numbers_so (part ∷ parts) (word ∷ words) each = (number_so part word each.0, numbers_so parts words each.1)

  pub chooses_so : (part : Option Part) (word : Option ℕ) → ChoosesBy one part word → ChoosesBy other part word
  chooses_so None None chooses = tt
  chooses_so None (Some word) chooses = chooses
  chooses_so (Some part) None chooses = chooses
  chooses_so (Some part) (Some word) chooses = number_so part word chooses

  pub picks_so : (p : Option Picked) (c : Option Chosen) → PicksBy one p c → PicksBy other p c
  picks_so None None picks = tt
  picks_so None (Some c) picks = picks
  picks_so (Some p) None picks = picks
  picks_so (Some p) (Some c) (shape, positions, chooses) = (shape, positions, chooses_so p.by c.word chooses)

-- one part more
pub numbers_longer : (at : At) (parts : List Part) (words : List ℕ) (part : Part) (word : ℕ) → NumberEachBy at parts words → NumberBy at part word → NumberEachBy at (parts ++ part ∷ []) (words ++ word ∷ [])
numbers_longer at [] [] part word each is = (is, tt)
numbers_longer at [] (w ∷ words) part word each is = absurd each
numbers_longer at (p ∷ parts) [] part word each is = absurd each
numbers_longer at (p ∷ parts) (w ∷ words) part word each is = (each.0, numbers_longer at parts words part word each.1 is)

pub fixed_longer : (parts : List Part) (number : ℕ) → AllByRecursion IsFixed parts → AllByRecursion IsFixed (parts ++ Fixed number ∷ [])
fixed_longer [] number all = (tt, tt)
fixed_longer (part ∷ parts) number all = (all.0, fixed_longer parts number all.1)

-- ids that stand for words are those of numbers
module _ (ids : Ids) where
  pub numbers_stand : (parts : List Part) (words : List ℕ) → NumberEachBy (λ id v. Stands ids id v) parts words → NumberEach ids parts words
  numbers_stand [] [] each = tt
  numbers_stand [] (word ∷ words) each = each
  numbers_stand (part ∷ parts) [] each = each
  numbers_stand (Fixed number ∷ parts) (word ∷ words) each = (each.0, numbers_stand parts words each.1)
  numbers_stand (By s id ∷ parts) (word ∷ words) each = (each.0, numbers_stand parts words each.1)

  pub number_stands : (part : Part) (word : ℕ) → NumberBy (λ id v. Stands ids id v) part word → Numbers ids part word
  number_stands (Fixed number) word is = is
  number_stands (By s id) word is = is

  pub chooses_stand : (part : Option Part) (word : Option ℕ) → ChoosesBy (λ id v. Stands ids id v) part word → Chooses ids part word
  chooses_stand None None chooses = tt
  chooses_stand None (Some word) chooses = chooses
  chooses_stand (Some part) None chooses = chooses
  chooses_stand (Some part) (Some word) chooses = number_stands part word chooses

-- ---- where trails begin

module _ (m : Module) (input : Input) (whole : Sections) (f : Frame m input whole) (p : Program) (around : Around) where
  pub begins_so : (one other : At) (few more : ℕ) (state last : State) (loose : Start) (base : Base) (parts : List Part) (l : Trail) → ((id : ℕ) (v : Value) → one id v → other id v)
      → ((id : ℕ) (v : Value) → Waits m input whole f few id v state → Waits m input whole f more id v last)
      → Begins m input whole f p around one few state loose base parts l → Begins m input whole f p around other more last loose base parts l
  begins_so one other few more state last loose base parts l so waits (variable x) = variable (record { name = x.name; id = x.id; class = x.class; number = x.number; is = x.is; marked = x.marked; outside = x.outside; begins = x.begins; none = x.none; seat = x.seat; points = x.points; typed = x.typed })
  begins_so one other few more state last loose base parts l so waits (value x) = value (record { id = x.id; type_id = x.type_id; value = x.value; is = x.is; marked = x.marked; fixed = x.fixed; begins = x.begins; none = x.none; stands = so x.id _ x.stands; typed = x.typed; has = x.has })
  begins_so one other few more state last loose base parts l so waits (holder x) = holder (record { id = x.id; value = x.value; is = x.is; begins = x.begins; waits = waits x.id _ x.waits; typed = x.typed })

  -- a trail is one in a later state
  pub own_after : (waits : Bool) (loose : Start) (b later : Flow) (state last : State) (s : shader.State) (r : Reached) (l : Trail) → Grown b later → After m input whole f p around waits b state later s last → IsOwnTrail m input whole f p around waits loose b state r l
      → IsOwnTrail m input whole f p around waits loose later last r l
  own_after waits loose b later state last s r l grown after is = record {
    begins = begins_so (λ id v. HeldAs m input whole f waits id v b state) (λ id v. HeldAs m input whole f waits id v later last) b.place.used later.place.used state last loose r.base r.path l so
        (λ id v w. waits_after m input whole f p around waits b later state last s id v grown after w) is.begins;
    numbers = numbers_so (λ id v. HeldAs m input whole f waits id v b state) (λ id v. HeldAs m input whole f waits id v later last) so r.path l.words is.numbers;
    picks = picks_so (λ id v. HeldAs m input whole f waits id v b state) (λ id v. HeldAs m input whole f waits id v later last) so r.picked l.picks is.picks;
  }
    where
      so : (id : ℕ) (v : Value) → HeldAs m input whole f waits id v b state → HeldAs m input whole f waits id v later last
      so id v held = held_after m input whole f p around waits b later state last s id v grown after held

  pub block_after : (waits : Bool) (loose : Start) (b later : Flow) (state last : State) (s : shader.State) (r : Reached) (l : Trail) → Grown b later → After m input whole f p around waits b state later s last → IsBlockTrail m input whole f p around waits loose b state r l
      → IsBlockTrail m input whole f p around waits loose later last r l
  block_after waits loose b later state last s r l grown after is = record {
    begins = is.begins;
    numbers = numbers_so (λ id v. HeldAs m input whole f waits id v b state) (λ id v. HeldAs m input whole f waits id v later last) so r.path (l.front ++ l.words) is.numbers;
    picks = picks_so (λ id v. HeldAs m input whole f waits id v b state) (λ id v. HeldAs m input whole f waits id v later last) so r.picked l.picks is.picks;
  }
    where
      so : (id : ℕ) (v : Value) → HeldAs m input whole f waits id v b state → HeldAs m input whole f waits id v later last
      so id v held = held_after m input whole f p around waits b later state last s id v grown after held

  pub trail_after : (waits : Bool) (loose : Start) (b later : Flow) (state last : State) (s : shader.State) (r : Reached) (l : Trail) → Grown b later → After m input whole f p around waits b state later s last → IsTrail m input whole f p around waits loose b state r l
      → IsTrail m input whole f p around waits loose later last r l
  trail_after waits loose b later state last s r l grown after (own is) = own (own_after waits loose b later state last s r l grown after is)
  trail_after waits loose b later state last s r l grown after (in_block is) = in_block (block_after waits loose b later state last s r l grown after is)
