-- The module of a program asks of an input what the program asks.
use Rattle.std.proofs.Common.{◌≡◌, refl, sym, ap, ap₂, ◌∙◌, subst, inl, inr, ◌⊎◌, ℕ, suc, ◌+◌, Bool, true, false, List, [], ◌∷◌, ◌++◌, slice_get, Option, Some, None, if◌then◌else◌, unwrap_or, append-nil}
use Rattle.std.specs.Prelude.{◌==◌, filter_map}
use Rattle.std.specs.List.{AllByRecursion, cons_option}
use Rattle.std.proofs.lemmas.Bool.{cond-false, cond-true, or_parts}
use Rattle.gsl_base.specs.declared.input.Input.{Input}
use Rattle.gsl_instr.specs.declared.enumerant.decoration.TheConstants as decoration
use Rattle.gsl_instr.specs.declared.enumerant.storage_class.TheConstants as storage_class
use Rattle.gsl_types.specs.Conversions.{components}
use Rattle.gsl_words.specs.declared.module.Module.{Module}
use Rattle.gsl_words.specs.declared.target.Target.{Target}
use Rattle.gsl_words.specs.declared.target.Target.TheVariants.{V10, V13}
use Rattle.gsl_tree.specs.Laying.{layout_of}
use Rattle.gsl_tree.specs.WellTyped.{IsProgram, is_push}
use Rattle.gsl_tree.specs.declared.program.Program.{Program}
use Rattle.gsl_tree.specs.declared.unit.Block.{Block}
use Rattle.gsl_tree.specs.declared.unit.BlockKind.{BlockKind}
use Rattle.gsl_tree.specs.declared.unit.BlockKind.TheVariants.{Uniform, Buffer, Push}
use Rattle.gsl_tree.specs.declared.unit.Interface.{Interface}
use Rattle.gsl_valid.specs.DecorationRules.{pointee}
use Rattle.gsl_valid.specs.Decorations.{number_on}
use Rattle.gsl_valid.specs.Instruction.{read}
use Rattle.gsl_valid.specs.Kinds.{Variable, variable_is}
use Rattle.gsl_valid.specs.Placed.{Code}
use Rattle.gsl_valid.specs.Types.{defined_as, is_block_class, outside_of}
use Rattle.gsl_valid.specs.Valid.{Valid}
use Rattle.gsl_machine.specs.Fits.{Bound, Place, bound_of, need_of, place_at, place_of, push_of}
use Rattle.gsl_machine.specs.Interfaces.{all_variables, block_variables, holds_block, holds_value, value_variables}
use Rattle.gsl_sound_code.proofs.Looks.{Kept, kept}
use Rattle.gsl_sound_ids.proofs.Globals.{Among, among_all}
use Rattle.gsl_spv.specs.Finished.{module_of}
use Rattle.gsl_spv.specs.Sections.{empty}
use Rattle.gsl_lower_holders.specs.Flow.{Flow, Gives}
use Rattle.gsl_lower_types.specs.Blocks.{class_of}
use Rattle.gsl_lower_flow.specs.Programs.{lowered, program_needs}
use Rattle.gsl_owed.specs.Places.{model}
use Rattle.gsl_fits_law.specs.Asking.{AsksAlike, bound_in, place_in, push_in}
use Rattle.gsl_fits_law.proofs.Fits.{fit_alike}
use Rattle.gsl_machine.specs.Fits as machine_fits
use Rattle.gsl_meaning.specs.Fits as meaning_fits
use Rattle.gsl_lower_law_bound.specs.Bound.{IsBound}
use Rattle.gsl_lower_law_bound.specs.OfLawOutside.{HaveOutside}
use Rattle.gsl_lower_law_bound.proofs.Layouts.{block_laid, one_block}
use Rattle.gsl_lower_law_bound.proofs.Standing.{blocks_bound}
use Rattle.gsl_lower_law_outputs.specs.Outputs.{DeclaresNone, chosen_among, chosen_if}
use Rattle.gsl_lower_law_outputs.proofs.OfLawInputs.{decorations_said, input_counted, no_location, number_found, sized, stand}
use Rattle.gsl_lower_law_outputs.proofs.Front.{outside_chosen}
use Rattle.gsl_lower_law_outputs.proofs.Functions.{none_behind}
use Rattle.gsl_lower_law_outputs.proofs.Outputs.{filter_both}
use Rattle.gsl_lower_law_outputs.proofs.Outs.{From, from_all, from_here, from_next}
use Rattle.gsl_lower_law_asking.specs.Asked.{is_asked}
use Rattle.gsl_lower_law_asking.proofs.Entered.{stage_is}
use Rattle.gsl_lower_law_asking.proofs.Needs.{need_laid}
use Rattle.gsl_lower_law_asking.proofs.Put.{AreBlocks, AreInputs, IsMarked, PutsAsked, asked_put, marked_later}

-- ---- what is picked of variables

abbrev and_then : {A B : Type 0} → Option A → (A → Option B) → Option B
and_then None f = None
and_then (Some a) f = f a

module _ {B : Type 0} where
  -- what is picked of some of them, by a test of each
  picked_of : (part : Variable → Option Variable) (f : Variable → Option B) (vs : List Variable) → filter_map f (filter_map part vs) ≡ filter_map (λ v. and_then (part v) f) vs
  picked_of part f [] = refl
  picked_of part f (v ∷ vs) = by (part v) (picked_of part f vs)
    where
      by : (o : Option Variable) → filter_map f (filter_map part vs) ≡ filter_map (λ u. and_then (part u) f) vs → filter_map f (cons_option o (filter_map part vs)) ≡ cons_option (and_then o f) (filter_map (λ u. and_then (part u) f) vs)
      by None later = later
      by (Some u) later = ap (cons_option (f u)) later

  -- nothing is picked of those that are not asked for
  of_asked : (g : Variable → Option B) → ((v : Variable) → is_asked v.class ≡ false → g v ≡ None) → (code : Code) → filter_map g (filter_map (λ i. variable_is (read i)) code) ≡ filter_map g (chosen_among is_asked code)
  of_asked g none [] = refl
  of_asked g none (i ∷ code) = by (variable_is (read i)) (of_asked g none code)
    where
      rest : List Variable
      rest = filter_map (λ j. variable_is (read j)) code

      by_class : (v : Variable) (b : Bool) → is_asked v.class ≡ b → filter_map g rest ≡ filter_map g (chosen_among is_asked code) → cons_option (g v) (filter_map g rest) ≡ filter_map g (cons_option (if b then Some v else None) (chosen_among is_asked code))
      by_class v true is later = ap (cons_option (g v)) later
      by_class v false is later = ap (λ o. cons_option o (filter_map g rest)) (none v is) ∙ later

      by : (o : Option Variable) → filter_map g rest ≡ filter_map g (chosen_among is_asked code) → filter_map g (cons_option o rest) ≡ filter_map g (cons_option (chosen_if is_asked o) (chosen_among is_asked code))
      by None later = later
      by (Some v) later = by_class v (is_asked v.class) refl later

  -- nothing is picked of some
  picks_none : (g : Variable → Option B) (vs : List Variable) → AllByRecursion (λ v. g v ≡ None) vs → filter_map g vs ≡ []
  picks_none g [] all = refl
  picks_none g (v ∷ vs) all = ap (λ o. cons_option o (filter_map g vs)) all.0 ∙ picks_none g vs all.1

-- ---- those that are chosen are among all

among_chosen : (code : Code) (v : Variable) → Among v (chosen_among is_asked code) → Among v (filter_map (λ i. variable_is (read i)) code)
among_chosen [] v among = absurd among
among_chosen (i ∷ code) v among = by (variable_is (read i)) among (among_chosen code v)
  where
    rest : List Variable
    rest = filter_map (λ j. variable_is (read j)) code

    by_class : (u : Variable) (b : Bool) → Among v (cons_option (if b then Some u else None) (chosen_among is_asked code)) → (Among v (chosen_among is_asked code) → Among v rest) → (u ≡ v) ⊎ Among v rest
    by_class u true (inl same) later = inl same
    by_class u true (inr more) later = inr (later more)
    by_class u false more later = inr (later more)

    by : (o : Option Variable) → Among v (cons_option (chosen_if is_asked o) (chosen_among is_asked code)) → (Among v (chosen_among is_asked code) → Among v rest) → Among v (cons_option o rest)
    by None among later = later among
    by (Some u) among later = by_class u (is_asked u.class) among later

among_left : (v : Variable) (xs ys : List Variable) → Among v xs → Among v (xs ++ ys)
among_left v [] ys among = absurd among
among_left v (x ∷ xs) ys (inl same) = inl same
among_left v (x ∷ xs) ys (inr more) = inr (among_left v xs ys more)

among_right : (v : Variable) (xs ys : List Variable) → Among v ys → Among v (xs ++ ys)
among_right v [] ys among = among
among_right v (x ∷ xs) ys among = inr (among_right v xs ys among)

-- ---- classes

block_class : (target : Target) (kind : BlockKind) → is_block_class (class_of target kind) ≡ true
block_class target Uniform = refl
block_class target Push = refl
block_class V10 Buffer = refl
block_class V13 Buffer = refl

push_class : (target : Target) (kind : BlockKind) → (class_of target kind == storage_class.PUSH_CONSTANT) ≡ is_push kind
push_class target Uniform = refl
push_class target Push = refl
push_class V10 Buffer = refl
push_class V13 Buffer = refl

-- nothing is placed of a block
abbrev nothing : Block → Option Place
nothing b = None

no_input : Input
no_input = record { buffers = []; push = None; ins = []; group = []; local = []; groups = []; vertex = 0; instance = 0; choices = [] }

module _ (target : Target) (p : Program) (main : ℕ) (flow : Flow) (program : IsProgram p) (valid : Valid (module_of flow.sections main p.local_size)) (h : HaveOutside target p main flow) (declares_none : DeclaresNone is_asked h.first flow.sections) where
  abbrev m : Module
  m = module_of flow.sections main p.local_size

  abbrev keeps : Kept m
  keeps = kept m valid

  puts : PutsAsked target p (empty p.stage target) h.place h.first
  puts = asked_put target p (program_needs p) h.place (empty p.stage target) h.first h.outside

  abbrev all_asked : List Variable
  all_asked = puts.blocks ++ (puts.inputs ++ puts.stages)

  outside_is : chosen_among is_asked (outside_of m) ≡ all_asked
  outside_is = outside_chosen is_asked target p main flow h all_asked puts.puts declares_none

  -- a variable that was put is the one that its id stands for
  own : (v : Variable) → Among v all_asked → variable_is (defined_as m v.id) ≡ Some v
  own v among = among_all m keeps v (among_chosen (outside_of m) v (subst (Among v) (sym outside_is) among))

  -- ---- what is picked

  module _ {B : Type 0} (g : Variable → Option B) (none : (v : Variable) → is_asked v.class ≡ false → g v ≡ None) where
    of_parts : filter_map g (all_variables m) ≡ filter_map g puts.blocks ++ (filter_map g puts.inputs ++ filter_map g puts.stages)
    of_parts =
        of_asked g none (outside_of m) ∙ ap (filter_map g) outside_is ∙ filter_both g puts.blocks (puts.inputs ++ puts.stages) ∙ ap (λ l. filter_map g puts.blocks ++ l) (filter_both g puts.inputs puts.stages)

  -- ---- blocks

  -- what is known of the variable of a block
  record OfBlock (b : Block) (v : Variable) : Type 0 where
    class : v.class ≡ class_of target b.kind
    needs : need_of m v ≡ b.need
    set : is_push b.kind ≡ false → number_on m decoration.DESCRIPTOR_SET v.id ≡ Some b.set
    binding : is_push b.kind ≡ false → number_on m decoration.BINDING v.id ≡ Some b.binding

  of_block : (number : ℕ) (b : Block) (v : Variable) → slice_get p.blocks number ≡ Some b → slice_get h.place.blocks number ≡ Some v.id → v.class ≡ class_of target b.kind → Among v all_asked → OfBlock b v
  of_block number b v at named class among =
      let x = blocks_bound target p main flow program valid h number b at in
      let same = the_id x.0 v.id (sym x.1 ∙ named) in
      let bound : IsBound m p.structs b v.id = subst (IsBound m p.structs b) same x.2 in
      let variable = the_same bound.variable v (sym bound.is ∙ own v among) in
      record {
        class = class;
        needs = ap (λ (u : Variable). need_of m u) (sym variable) ∙ need_laid m keeps (layout_of p.structs b) (pointee m bound.variable.type) (block_laid p program number b at) bound.lie ∙ sym (one_block p program number b at).laid.need;
        set = bound.set;
        binding = bound.binding;
      }
    where
      the_id : (a b : ℕ) → Some a ≡ Some b → a ≡ b
      the_id a b e = cc

      the_same : (u w : Variable) → Some u ≡ Some w → u ≡ w
      the_same u w e = cc

  -- of each block's variable what is picked is what the block says, and so of all of them
  each_block : {B : Type 0} (g : Variable → Option B) (f : Block → Option B) → ((b : Block) (v : Variable) → OfBlock b v → g v ≡ f b) → (blocks : List Block) (ids : List ℕ) (vs : List Variable) (number : ℕ) → From p.blocks number blocks → From h.place.blocks number ids → ((v : Variable) → Among v vs → Among v all_asked)
      → AreBlocks target blocks ids vs → filter_map g vs ≡ filter_map f blocks
  each_block g f same [] [] [] number declared named among AreBlocks.no_block = refl
  each_block g f same [] [] (v ∷ vs) number declared named among are = elim are [ ]
  each_block g f same [] (id ∷ ids) vs number declared named among are = elim are [ ]
  each_block g f same (b ∷ blocks) [] vs number declared named among are = elim are [ ]
  each_block g f same (b ∷ blocks) (id ∷ ids) [] number declared named among are = elim are [ ]
  each_block g f same (b ∷ blocks) (id ∷ ids) (v ∷ vs) number declared named among (AreBlocks.block u is class more) =
      let here = of_block number b v (from_here p.blocks number b blocks declared) (from_here h.place.blocks number id ids named ∙ ap Some (sym is)) class (among v (inl refl)) in
      ap (λ o. cons_option o (filter_map g vs)) (same b v here) ∙ ap (cons_option (f b)) (each_block g f same blocks ids vs (suc number) (from_next p.blocks number b blocks declared) (from_next h.place.blocks number id ids named) (λ w there. among w (inr there)) more)

  all_blocks : {B : Type 0} (g : Variable → Option B) (f : Block → Option B) → ((b : Block) (v : Variable) → OfBlock b v → g v ≡ f b) → filter_map g puts.blocks ≡ filter_map f p.blocks
  all_blocks g f same = each_block g f same p.blocks h.place.blocks puts.blocks 0 (from_all p.blocks) (from_all h.place.blocks) (λ v there. among_left v puts.blocks (puts.inputs ++ puts.stages) there) puts.are_blocks

  -- ---- inputs

  -- inputs are of the class of inputs
  are_inputs : (interfaces : List Interface) (ids : List ℕ) (vs : List Variable) → AreInputs interfaces ids vs → AllByRecursion (λ (v : Variable). v.class ≡ storage_class.INPUT) vs
  are_inputs [] [] [] AreInputs.no_more = tt
  are_inputs [] [] (v ∷ vs) are = elim are [ ]
  are_inputs [] (id ∷ ids) vs are = elim are [ ]
  are_inputs (i ∷ interfaces) [] vs are = elim are [ ]
  are_inputs (i ∷ interfaces) (id ∷ ids) vs (AreInputs.output is more) = are_inputs interfaces ids vs more
  are_inputs (i ∷ interfaces) (id ∷ ids) (v ∷ vs) (AreInputs.input u is named class more) = (class, are_inputs interfaces ids vs more)

  marked_inputs : (vs : List Variable) (decorations : Code) → AllByRecursion (IsMarked decorations) vs → AllByRecursion (λ (v : Variable). v.class ≡ storage_class.INPUT) vs
  marked_inputs [] decorations all = tt
  marked_inputs (v ∷ vs) decorations all = (all.0.0, marked_inputs vs decorations all.1)

  all_so : {P Q : Variable → Type 0} (vs : List Variable) → ((v : Variable) → P v → Q v) → AllByRecursion P vs → AllByRecursion Q vs
  all_so [] f all = tt
  all_so (v ∷ vs) f all = (f v all.0, all_so vs f all.1)

  -- nothing is asked of blocks of those
  no_blocks : {B : Type 0} (g : Variable → Option B) → ((v : Variable) → v.class ≡ storage_class.INPUT → g v ≡ None) → filter_map g puts.inputs ++ filter_map g puts.stages ≡ []
  no_blocks g none =
      ap₂ (λ a b. a ++ b)
      (picks_none g puts.inputs (all_so puts.inputs none (are_inputs p.interfaces h.place.interfaces puts.inputs puts.are_inputs)))
      (picks_none g puts.stages (all_so puts.stages none (marked_inputs puts.stages h.first.decorations puts.are_marked)))

  -- ---- the blocks of the module are those of the program

  not_block : (v : Variable) → is_asked v.class ≡ false → is_block_class v.class ≡ false
  not_block v is = (or_parts (is_block_class v.class) (v.class == storage_class.INPUT) is).0

  unheld : {B : Type 0} (f : Variable → Option B) (v : Variable) → is_block_class v.class ≡ false → and_then (holds_block v) f ≡ None
  unheld f v is = ap (λ o. and_then o f) (cond-false (is_block_class v.class) (Some v) None is)

  held : {B : Type 0} (f : Variable → Option B) (b : Block) (v : Variable) → v.class ≡ class_of target b.kind → and_then (holds_block v) f ≡ f v
  held f b v is = ap (λ o. and_then o f) (cond-true (is_block_class v.class) (Some v) None (ap is_block_class is ∙ block_class target b.kind))

  of_blocks : {B : Type 0} (g : Variable → Option B) (f : Block → Option B) → ((b : Block) (v : Variable) → OfBlock b v → g v ≡ f b) → filter_map g (block_variables m) ≡ filter_map f p.blocks
  of_blocks g f same =
      picked_of holds_block g (all_variables m) ∙ of_parts (λ v. and_then (holds_block v) g) (λ v is. unheld g v (not_block v is))
      ∙ ap₂ (λ a b. a ++ b) (all_blocks (λ v. and_then (holds_block v) g) f (λ b v is. held g b v is.class ∙ same b v is)) (no_blocks (λ v. and_then (holds_block v) g) (λ v is. unheld g v (ap is_block_class is)))
      ∙ append-nil (filter_map f p.blocks)

  bound_same : (b : Block) (v : Variable) → OfBlock b v → bound_of m v ≡ bound_in b
  bound_same b v is = by (is_push b.kind) refl
    where
      class : (v.class == storage_class.PUSH_CONSTANT) ≡ is_push b.kind
      class = ap (λ c. c == storage_class.PUSH_CONSTANT) is.class ∙ push_class target b.kind

      there : Option Bound
      there = Some (record { set = b.set; binding = b.binding; need = b.need })

      by : (push : Bool) → is_push b.kind ≡ push → bound_of m v ≡ (if is_push b.kind then None else there)
      by true e = cond-true (v.class == storage_class.PUSH_CONSTANT) None _ (class ∙ e) ∙ sym (cond-true (is_push b.kind) None there e)
      by false e =
          cond-false (v.class == storage_class.PUSH_CONSTANT) None _ (class ∙ e)
          ∙ ap (λ o. Some (record { set = unwrap_or o 0; binding = unwrap_or (number_on m decoration.BINDING v.id) 0; need = need_of m v })) (is.set e)
          ∙ ap (λ o. Some (record { set = b.set; binding = unwrap_or o 0; need = need_of m v })) (is.binding e)
          ∙ ap (λ n. Some (record { set = b.set; binding = b.binding; need = n })) is.needs ∙ sym (cond-false (is_push b.kind) None there e)

  push_same : (b : Block) (v : Variable) → OfBlock b v → push_of m v ≡ push_in b
  push_same b v is = ap (λ c. if c then Some (need_of m v) else None) (ap (λ c. c == storage_class.PUSH_CONSTANT) is.class ∙ push_class target b.kind) ∙ ap (λ n. if is_push b.kind then Some n else None) is.needs

  -- ---- its inputs are those of the program

  abbrev placed : Variable → Option Place
  placed v = and_then (holds_value v) (place_of m)

  unplaced : (v : Variable) → (v.class == storage_class.INPUT) ≡ false → placed v ≡ None
  unplaced v is = by (is_block_class v.class)
    where
      by : (b : Bool) → and_then (if b then None else Some v) (place_of m) ≡ None
      by true = refl
      by false = cond-false (v.class == storage_class.INPUT) (place_at m v (number_on m decoration.LOCATION v.id)) None is

  of_input : (v : Variable) → v.class ≡ storage_class.INPUT → placed v ≡ place_at m v (number_on m decoration.LOCATION v.id)
  of_input v is =
      ap (λ o. and_then o (place_of m)) (cond-false (is_block_class v.class) None (Some v) (ap is_block_class is))
      ∙ cond-true (v.class == storage_class.INPUT) (place_at m v (number_on m decoration.LOCATION v.id)) None (ap (λ c. c == storage_class.INPUT) is)

  input_same : (number : ℕ) (i : Interface) (v : Variable) → slice_get p.interfaces number ≡ Some i → i.output ≡ false → slice_get h.place.interfaces number ≡ Some v.id → v.class ≡ storage_class.INPUT → Among v all_asked → placed v ≡ place_in i
  input_same number i v at is named class among =
      let s = (stand target p main flow program valid h no_input).interfaces.each number i at in
      let same = the_id s.0 v.id (sym s.1 ∙ named) in
      let location = ap (number_on m decoration.LOCATION) (sym same) ∙ number_found m keeps s.0 decoration.LOCATION i.location (decorations_said target p main flow program valid h no_input _ s.2.marked) in
      of_input v class ∙ ap (place_at m v) location
      ∙ ap (λ n. Some (record { location = i.location; count = n })) (input_counted target p main flow program valid h no_input number i v at is named (own v among))
      ∙ sym (cond-false i.output None (Some (record { location = i.location; count = components i.ty })) is)
    where
      the_id : (a b : ℕ) → Some a ≡ Some b → a ≡ b
      the_id a b e = cc

  each_input : (interfaces : List Interface) (ids : List ℕ) (vs : List Variable) (number : ℕ) → From p.interfaces number interfaces → From h.place.interfaces number ids → ((v : Variable) → Among v vs → Among v all_asked) → AreInputs interfaces ids vs → filter_map placed vs ≡ filter_map place_in interfaces
  each_input [] [] [] number declared named among AreInputs.no_more = refl
  each_input [] [] (v ∷ vs) number declared named among are = elim are [ ]
  each_input [] (id ∷ ids) vs number declared named among are = elim are [ ]
  each_input (i ∷ interfaces) [] vs number declared named among are = elim are [ ]
  each_input (i ∷ interfaces) (id ∷ ids) vs number declared named among (AreInputs.output is more) =
      each_input interfaces ids vs (suc number) (from_next p.interfaces number i interfaces declared) (from_next h.place.interfaces number id ids named) among more
      ∙ ap (λ o. cons_option o (filter_map place_in interfaces)) (sym (cond-true i.output None (Some (record { location = i.location; count = components i.ty })) is))
  each_input (i ∷ interfaces) (id ∷ ids) (v ∷ vs) number declared named among (AreInputs.input u is same class more) =
      ap (λ o. cons_option o (filter_map placed vs)) (input_same number i v (from_here p.interfaces number i interfaces declared) is (from_here h.place.interfaces number id ids named ∙ ap Some (sym same)) class (among v (inl refl)))
      ∙ ap (cons_option (place_in i)) (each_input interfaces ids vs (suc number) (from_next p.interfaces number i interfaces declared) (from_next h.place.interfaces number id ids named) (λ w there. among w (inr there)) more)

  -- a built-in variable has no location
  stage_unplaced : (vs : List Variable) → AllByRecursion (IsMarked flow.sections.decorations) vs → ((v : Variable) → Among v vs → Among v all_asked) → AllByRecursion (λ v. placed v ≡ None) vs
  stage_unplaced [] all among = tt
  stage_unplaced (v ∷ vs) all among = (
    of_input v all.0.0 ∙ ap (place_at m v) (no_location m keeps v all.0.1.0 (own v (among v (inl refl))) all.0.0 (decorations_said target p main flow program valid h no_input _ all.0.1.1)),
    stage_unplaced vs all.1 (λ w there. among w (inr there)),
  )

  stages_none : filter_map placed puts.stages ≡ []
  stages_none =
      picks_none placed puts.stages
      (stage_unplaced puts.stages (subst (λ l. AllByRecursion (IsMarked l) puts.stages) (sym h.extends.decorations.is) (marked_later h.first.decorations h.extends.decorations.more puts.stages puts.are_marked)) (λ v there. among_right v puts.blocks (puts.inputs ++ puts.stages) (among_right v puts.inputs puts.stages there)))

  blocks_none : filter_map placed puts.blocks ≡ []
  blocks_none = all_blocks placed nothing (λ b v is. unplaced v (ap (λ c. c == storage_class.INPUT) is.class ∙ not_input target b.kind)) ∙ picked_nothing p.blocks
    where
      not_input : (t : Target) (kind : BlockKind) → (class_of t kind == storage_class.INPUT) ≡ false
      not_input t Uniform = refl
      not_input t Push = refl
      not_input V10 Buffer = refl
      not_input V13 Buffer = refl

      picked_nothing : (bs : List Block) → filter_map nothing bs ≡ []
      picked_nothing [] = refl
      picked_nothing (b ∷ bs) = picked_nothing bs

  places_same : filter_map (place_of m) (value_variables m) ≡ filter_map place_in p.interfaces
  places_same =
      picked_of holds_value (place_of m) (all_variables m) ∙ of_parts placed (λ v is. unplaced v (or_parts (is_block_class v.class) (v.class == storage_class.INPUT) is).1)
      ∙ ap₂ (λ a b. a ++ b) blocks_none
      (ap₂ (λ a b. a ++ b) (each_input p.interfaces h.place.interfaces puts.inputs 0 (from_all p.interfaces) (from_all h.place.interfaces) (λ v there. among_right v puts.blocks (puts.inputs ++ puts.stages) (among_left v puts.inputs puts.stages there)) puts.are_inputs) stages_none
      ∙ append-nil (filter_map place_in p.interfaces))

  pub asks_alike : AsksAlike m p
  asks_alike = record {
    bounds = of_blocks (bound_of m) bound_in bound_same;
    pushes = of_blocks (push_of m) push_in push_same;
    places = places_same;
    stage = stage_is flow.sections main p.local_size valid ∙ ap model (h.extends.stage ∙ h.outer.extends.stage);
    size = λ compute. sized target p main flow program valid h no_input;
  }

-- ---- the module that a program is lowered to

pub lowered_asks : (target : Target) (p : Program) (main : ℕ) (flow : Flow) → IsProgram p → lowered target p (empty p.stage target) ≡ Gives main flow → Valid (module_of flow.sections main p.local_size) → HaveOutside target p main flow → AsksAlike (module_of flow.sections main p.local_size) p
lowered_asks target p main flow program is valid h = asks_alike target p main flow program valid h (none_behind is_asked refl target p main flow is h)

pub lowered_fits : (target : Target) (p : Program) (main : ℕ) (flow : Flow) → IsProgram p → lowered target p (empty p.stage target) ≡ Gives main flow → Valid (module_of flow.sections main p.local_size) → HaveOutside target p main flow → (input : Input) → machine_fits.fits (module_of flow.sections main p.local_size) input ≡ meaning_fits.fits p input
lowered_fits target p main flow program is valid h = fit_alike (module_of flow.sections main p.local_size) p program (lowered_asks target p main flow program is valid h)
