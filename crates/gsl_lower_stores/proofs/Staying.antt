-- Places that may be written stay where they are while ids stand for the same.
use Rattle.std.proofs.Common.{◌≡◌, subst, false, ◌++◌}
use Rattle.gsl_base.specs.declared.input.Input.{Input}
use Rattle.gsl_words.specs.declared.module.Module.{Module}
use Rattle.gsl_tree.specs.Around.{Around}
use Rattle.gsl_tree.specs.WellTyped.{is_push}
use Rattle.gsl_tree.specs.declared.program.Program.{Program}
use Rattle.gsl_machine.specs.State.{State}
use Rattle.gsl_spv.specs.Sections.{Sections}
use Rattle.gsl_lower_places.specs.declared.reached.Reached.{Reached}
use Rattle.gsl_lower_law.specs.Values.{Keeps}
use Rattle.gsl_lower_holders.specs.Flow.{Flow}
use Rattle.gsl_lower_follows.specs.Frames.{Frame, HeldAs}
use Rattle.gsl_lower_law_spread.specs.OfReaching.{IsBlockTrail, IsTrail, Start}
use Rattle.gsl_lower_law_spread.specs.OfReaching.{variable}
use Rattle.gsl_lower_law_spread.specs.OfReaching.{own, in_block}
use Rattle.gsl_lower_law_spread.specs.OfReaching.{MayStore, Trail}
use Rattle.gsl_lower_law_spread.proofs.OfReaching.{numbers_so, picks_so}
use Rattle.gsl_lower_law_renewed.proofs.OfWrites.{at_variable}

module _ (m : Module) (input : Input) (sections : Sections) (f : Frame m input sections) (p : Program) (around : Around) where
  -- what may be written in a block is in none of push constants
  pub not_pushed : (loose : Start) (b : Flow) (state : State) (r : Reached) (l : Trail) (x : IsBlockTrail m input sections f p around false loose b state r l) → MayStore p.blocks l.root → is_push x.begins.block.kind ≡ false
  not_pushed loose b state r l x may = (subst (MayStore p.blocks) x.begins.begins may) x.begins.block x.begins.knows.known

  pub trail_still : (loose : Start) (b later : Flow) (state last : State) (to : Reached) (l : Trail) → MayStore p.blocks l.root → Keeps state.ids last.ids → IsTrail m input sections f p around false loose b state to l → IsTrail m input sections f p around false loose later last to l
  trail_still loose b later state last to l may keeps (own x) = own (record {
    begins = variable (at_variable m input sections f p around b state loose to l x may);
    numbers = numbers_so (λ id v. HeldAs m input sections f false id v b state) (λ id v. HeldAs m input sections f false id v later last) (λ id v stands. keeps.same id _ stands) to.path l.words x.numbers;
    picks = picks_so (λ id v. HeldAs m input sections f false id v b state) (λ id v. HeldAs m input sections f false id v later last) (λ id v stands. keeps.same id _ stands) to.picked l.picks x.picks;
  })
  trail_still loose b later state last to l may keeps (in_block x) = in_block (record {
    begins = x.begins;
    numbers = numbers_so (λ id v. HeldAs m input sections f false id v b state) (λ id v. HeldAs m input sections f false id v later last) (λ id v stands. keeps.same id _ stands) to.path (l.front ++ l.words) x.numbers;
    picks = picks_so (λ id v. HeldAs m input sections f false id v b state) (λ id v. HeldAs m input sections f false id v later last) (λ id v stands. keeps.same id _ stands) to.picked l.picks x.picks;
  })
