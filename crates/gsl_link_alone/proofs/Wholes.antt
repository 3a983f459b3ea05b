-- What a program makes as one unit is the program.
use Rattle.std.proofs.Common.{◌≡◌, refl, sym, ap, ◌∙◌, subst, ℕ, inl, inr, List, [], ◌∷◌, ◌++◌, map, length, append-nil}
use Rattle.std.specs.Prelude.{filter}
use Rattle.std.specs.List.{position_or_len}
use Rattle.gsl_base.specs.declared.stage.Stage.{Stage}
use Rattle.gsl_base.specs.declared.stage.Stage.TheVariants.{Vertex, Fragment, Compute}
use Rattle.gsl_types.specs.declared.ty.Direction.{Direction}
use Rattle.gsl_types.specs.declared.ty.Ty.{Ty}
use Rattle.gsl_tree.specs.declared.program.Program.{Program}
use Rattle.gsl_tree.specs.WellTyped.{program_lists, IsFunction, IsInterface, IsLocalSize, IsProgram, IsPrototype, IsResult, IsVariableType}
use Rattle.gsl_link_units.specs.Agreement.{same_function}
use Rattle.gsl_link_units.specs.Declarations.{Side, sides_of, retyped_global, retyped_block, retyped_interface, retyped_prototype}
use Rattle.gsl_link_units.specs.Firsts.{firsts}
use Rattle.gsl_link_units.specs.Structs.{with_structs}
use Rattle.gsl_link_units.specs.Types.{retyped}
use Rattle.gsl_link_whole.specs.Numbers.{Numbering, Sited, all_globals, block_number, declared_blocks, head_number, in_order, interface_number, joined_blocks, joined_heads, joined_interfaces, numbering, same_block, same_interface, sited_from, stands}
use Rattle.gsl_link_whole.specs.Renumbering.{renumbered_function, renumbered_global}
use Rattle.gsl_link_whole.specs.Whole.{is_main, joined_functions, joined_globals, local_size, whole, whole_by}
use Rattle.gsl_link.specs.Joined.{as_unit, sizes_of}
use Rattle.gsl_link_law.proofs.Agreed.{function_itself, name_itself}
use Rattle.gsl_link_law.proofs.Members.{In, all_in, get_at}
use Rattle.gsl_link_alone.specs.Alone.{InRow, IsIdentity, StandsOnce}
use Rattle.gsl_link_alone.proofs.Rows.{row_mapped}
use Rattle.gsl_link_alone.proofs.Sited.{each_stands, globals_row, map_sited}
use Rattle.gsl_link_alone.proofs.Sorted.{order_stays}
use Rattle.gsl_link_alone.proofs.Structs.{joined_alone}
use Rattle.gsl_link_alone.proofs.Trees as trees
use Rattle.gsl_link_alone.proofs.Types.{block_stays, global_stays, interface_stays, prototype_stays, sound_stays, void_stays}
use Rattle.gsl_link_alone.proofs.Unlike.{filter_all, firsts_stay, map_stays, place_of, unlike_again}

size_alone : (stage : Stage) (size : List ℕ) → IsLocalSize stage size → local_size stage (sizes_of stage size ++ []) ≡ size
size_alone Vertex size is = sym is
size_alone Fragment size is = sym is
size_alone Compute size is = refl

module _ (p : Program) (is : IsProgram p) (once : StandsOnce p) where
  abbrev numbers : List ℕ
  numbers = (with_structs [] [] p.structs).1

  structs_alone : ((with_structs [] [] p.structs).0 ≡ p.structs) × InRow numbers (length p.structs)
  structs_alone = joined_alone p.structs is.typed.structs (unlike_again _ p.structs once.structs)

  row : InRow numbers (length p.structs)
  row = structs_alone.1

  -- ---- its declarations

  -- the program as one unit, by its own numbers
  abbrev pub side : Side
  side = record { structs = (with_structs [] [] p.structs).1; unit = as_unit p }

  globals_same : map (retyped_global numbers) p.globals ≡ p.globals
  globals_same = map_stays (retyped_global numbers) p.globals (λ g at. let place = get_at g p.globals at in global_stays numbers (length p.structs) row g (is.typed.globals place.0 g place.1).type.known)

  blocks_same : map (retyped_block numbers) p.blocks ≡ p.blocks
  blocks_same = map_stays (retyped_block numbers) p.blocks (λ block at.
      let place = get_at block p.blocks at in
      block_stays numbers (length p.structs) row block (λ m there. let spot = get_at m block.members there in trees.block_sound (program_lists p) is.typed place.0 block place.1 spot.0 m spot.1))

  interfaces_same : map (retyped_interface numbers) p.interfaces ≡ p.interfaces
  interfaces_same = map_stays (retyped_interface numbers) p.interfaces (λ i at. interface_stays numbers (length p.structs) row i (all_in (IsInterface p.stage p.structs) p.interfaces is.typed.interfaces i at).known)

  result_same : (t : Ty) → IsResult p.structs t → retyped numbers t ≡ t
  result_same t (inl void) = void_stays numbers (length p.structs) row t void
  result_same t (inr variable) = sound_stays numbers (length p.structs) row t variable.known

  heads_same : map (retyped_prototype numbers) p.prototypes ≡ p.prototypes
  heads_same = map_stays (retyped_prototype numbers) p.prototypes (λ head at.
      let fine = all_in (IsPrototype p.structs) p.prototypes is.typed.prototypes head at in
      prototype_stays numbers (length p.structs) row head (result_same head.result fine.result)
      (λ param there. (all_in (λ (q : Direction × Ty). IsVariableType p.structs q.1) head.params fine.params param there).known))

  pub side_is : sides_of (as_unit p ∷ []) ≡ record { structs = (with_structs [] [] p.structs).1; unit = as_unit p } ∷ []
  side_is = λ i. record {
    structs = numbers;
    unit = record {
      structs = p.structs;
      globals = globals_same i;
      blocks = blocks_same i;
      interfaces = interfaces_same i;
      prototypes = heads_same i;
      functions = p.functions;
      local_sizes = sizes_of p.stage p.local_size;
    };
  } ∷ []

  -- ---- each once

  abbrev sides : List Side
  sides = side ∷ []

  pub declared_alone : declared_blocks (side ∷ []) ≡ p.blocks
  declared_alone = ap (firsts same_block) (append-nil p.blocks) ∙ firsts_stay same_block p.blocks (unlike_again same_block p.blocks once.blocks)

  blocks_alone : joined_blocks sides ≡ p.blocks
  blocks_alone = ap in_order declared_alone ∙ order_stays p.blocks is.sorted

  interfaces_alone : joined_interfaces sides ≡ p.interfaces
  interfaces_alone = ap (firsts same_interface) (append-nil p.interfaces) ∙ firsts_stay same_interface p.interfaces (unlike_again same_interface p.interfaces once.interfaces)

  heads_alone : joined_heads sides ≡ p.prototypes
  heads_alone = ap (firsts same_function) (append-nil p.prototypes) ∙ firsts_stay same_function p.prototypes (unlike_again same_function p.prototypes once.heads)

  -- ---- its numbers

  abbrev pub own : Numbering
  own = numbering (side ∷ []) 0 side

  -- each number is its own new number
  pub identity : IsIdentity own (program_lists p)
  identity = record {
    structs = row;
    globals = globals_row side (unlike_again _ p.globals once.globals);
    blocks = row_mapped (block_number sides) p.blocks (λ k block at. ap (position_or_len (same_block block)) blocks_alone ∙ place_of same_block (λ b. name_itself b.name b.name refl) p.blocks (unlike_again same_block p.blocks once.blocks) k block at);
    interfaces = row_mapped (interface_number sides) p.interfaces (λ k i at.
        ap (position_or_len (same_interface i)) interfaces_alone ∙ place_of same_interface (λ b. name_itself b.name b.name refl) p.interfaces (unlike_again same_interface p.interfaces once.interfaces) k i at);
    heads = row_mapped (head_number sides) p.prototypes (λ k head at.
        ap (position_or_len (same_function head)) heads_alone ∙ place_of same_function function_itself p.prototypes (unlike_again same_function p.prototypes once.heads) k head at);
  }

  pub functions_own : map (renumbered_function own) p.functions ≡ p.functions
  functions_own = map_stays (renumbered_function own) p.functions (λ f at. trees.function_stays (program_lists p) is.typed own identity f (all_in (IsFunction (program_lists p)) p.functions is.typed.functions f at))

  pub globals_own : map (renumbered_global own) p.globals ≡ p.globals
  globals_own = map_stays (renumbered_global own) p.globals (λ g at. let place = get_at g p.globals at in trees.global_stays (program_lists p) is.typed own identity place.0 g (is.typed.globals place.0 g place.1))

  functions_alone : joined_functions sides ≡ p.functions
  functions_alone = append-nil (map (renumbered_function own) p.functions) ∙ functions_own

  globals_alone : joined_globals sides ≡ p.globals
  globals_alone =
      let all = sited_from 0 0 p.globals in
      let unlike = unlike_again _ p.globals once.globals in
      let test = stands (all_globals sides) in
      let new = λ (a : Sited). renumbered_global own a.global in
      append-nil (map new (filter test all)) ∙ ap (map new) (filter_all test all (λ a at. each_stands side unlike a (subst (In a) (sym (append-nil all)) at)))
      ∙ map_sited (renumbered_global own) 0 0 p.globals ∙ globals_own

  -- ---- together

  main_alone : position_or_len (is_main (joined_heads sides)) (joined_functions sides) ≡ p.main
  main_alone = ap (λ heads. position_or_len (is_main heads) (joined_functions sides)) heads_alone ∙ ap (position_or_len (is_main p.prototypes)) functions_alone ∙ sym once.main

  whole_own : whole_by p.stage (as_unit p ∷ []) sides ≡ p
  whole_own = λ i. record {
    stage = p.stage;
    structs = structs_alone.0 i;
    globals = globals_alone i;
    blocks = blocks_alone i;
    interfaces = interfaces_alone i;
    prototypes = heads_alone i;
    functions = functions_alone i;
    main = main_alone i;
    local_size = size_alone p.stage p.local_size is.size i;
  }

  pub whole_alone : whole p.stage (as_unit p ∷ []) ≡ p
  whole_alone = ap (whole_by p.stage (as_unit p ∷ [])) side_is ∙ whole_own
