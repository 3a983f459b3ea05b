-- The pass over decorations finds what V7 finds.
use Rattle.std.proofs.Common.{◌≡◌, ℕ, Bool, true, false, ◌&&◌, ◌||◌, not, [], ◌∷◌, length, take, Option, Some, None, refl, ap, ◌∙◌}
use Rattle.std.specs.Prelude.{◌==◌, if◌then◌else◌}
use Rattle.std.specs.List.{list_any}
use Rattle.std.specs.Option.{option_map_or}
use Rattle.gsl_words.specs.declared.module.Instr.{Instr}
use Rattle.gsl_words.specs.declared.module.Module.{Module}
use Rattle.gsl_instr.specs.declared.enumerant.storage_class.TheConstants as storage_class
use Rattle.gsl_instr.specs.declared.enumerant.decoration.TheConstants as decoration
use Rattle.gsl_valid.specs.Instruction.{read}
use Rattle.gsl_valid.specs.Kinds.{Variable, Decoration, variable_is, decoration_of}
use Rattle.gsl_valid.specs.Placed.{Code, placed, header_size}
use Rattle.gsl_valid.specs.Types.{variable_of}
use Rattle.gsl_valid.specs.Where.{where_at, in_function_after}
use Rattle.gsl_valid.specs.Decorations.{stands_on, has, number_on}
use Rattle.gsl_valid.specs.DecorationRules.{may_stand, has_literals, differ, pointee, is_bound_to, variable_decorated, decorated, decorations}
use Rattle.gsl_ids.specs.Pass.{first_failed}
use Rattle.gsl_ids.proofs.Passes.{same_place}
use Rattle.gsl_ids.proofs.Stands.{Stands, at_start, one_on}
use Rattle.gsl_valid_blocks.specs.declared.decoration.DecorationTest.{DecorationTest}
use Rattle.gsl_valid_blocks.specs.Decorated.{decoration_at, variable_at, decorated_at}
use Rattle.gsl_decorations.proofs.Fronts.{any_before}

abbrev pub passes : DecorationTest → ℕ → Instr → Bool
passes s at i = decorated_at s.variables.now at s.inside i

abbrev pub behind : DecorationTest → ℕ → Instr → DecorationTest
behind s at i = record { variables = s.variables; inside = in_function_after s.inside (read i) }

module _ (m : Module) where
  record Tells (before code : Code) (s : DecorationTest) : Type 0 where
    same : s.variables.now ≡ m
    stands : Stands m before code
    inside : s.inside ≡ (where_at m before).inside

  -- what a variable needs, where it is known of the variables before whether one has its binding and one is a push constant
  abbrev needs : ℕ → ℕ → ℕ → Bool → Bool → Bool
  needs type r class bound pushed =
      if class == storage_class.UNIFORM
      then differ (has m decoration.BLOCK (pointee m type)) (has m decoration.BUFFER_BLOCK (pointee m type)) && (has m decoration.DESCRIPTOR_SET r && has m decoration.BINDING r && not bound)
      else if class == storage_class.STORAGE_BUFFER
      then has m decoration.BLOCK (pointee m type) && (has m decoration.DESCRIPTOR_SET r && has m decoration.BINDING r && not bound)
      else if class == storage_class.PUSH_CONSTANT
      then has m decoration.BLOCK (pointee m type) && not pushed
      else if class == storage_class.INPUT || class == storage_class.OUTPUT
      then differ (has m decoration.LOCATION r) (has m decoration.BUILT_IN r)
      else true

  by_decoration : (before code : Code) (d : Option Decoration) → Stands m before code → decoration_at m (take (length before) m.instrs) d ≡ decoration_at m before d
  by_decoration before code None s = refl
  by_decoration before code (Some d) s =
      ap (λ b. may_stand m d.kind d.place && has_literals d.kind d.literals && not b) (any_before (λ i. option_map_or (stands_on d.place d.kind) (decoration_of (read i)) false) m before code s)

  by_variable : (before code : Code) (v : Option Variable) → Stands m before code →
      variable_at m (take (length before) m.instrs) (where_at m before).inside v ≡ variable_decorated m before v
  by_variable before code None s = refl
  by_variable before code (Some v) s =
      let bound = any_before (λ i. is_bound_to m (number_on m decoration.DESCRIPTOR_SET v.id) (number_on m decoration.BINDING v.id) (read i)) m before code s in
      let pushed = any_before (λ i. variable_of storage_class.PUSH_CONSTANT (read i)) m before code s in
      ap (λ b. (where_at m before).inside || needs v.type v.id v.class b (list_any (λ i. variable_of storage_class.PUSH_CONSTANT (read i)) (take (length before) m.instrs))) bound
      ∙ ap (λ b. (where_at m before).inside || needs v.type v.id v.class (list_any (λ i. is_bound_to m (number_on m decoration.DESCRIPTOR_SET v.id) (number_on m decoration.BINDING v.id) (read i)) before) b) pushed

  agrees : (before code : Code) (s : DecorationTest) (i : Instr) → Tells before (i ∷ code) s → passes s (length before) i ≡ decorated m before i
  agrees before code s i t =
      ap (λ n. decorated_at n (length before) s.inside i) t.same
      ∙ ap (λ b. decorated_at m (length before) b i) t.inside
      ∙ ap (λ b. b && variable_at m (take (length before) m.instrs) (where_at m before).inside (variable_is (read i))) (by_decoration before (i ∷ code) (decoration_of (read i)) t.stands)
      ∙ ap (λ b. decoration_at m before (decoration_of (read i)) && b) (by_variable before (i ∷ code) (variable_is (read i)) t.stands)

  goes_on : (before code : Code) (s : DecorationTest) (i : Instr) → Tells before (i ∷ code) s → decorated m before i ≡ true → Tells (i ∷ before) code (behind s (length before) i)
  goes_on before code s i t passed =
      record { same = t.same; stands = one_on m before code i t.stands; inside = ap (λ b. in_function_after b (read i)) t.inside }

  pub finds : (s : DecorationTest) → s.variables.now ≡ m → s.inside ≡ false → first_failed passes behind s 0 (placed m) ≡ decorations m
  finds s same inside =
      same_place passes behind (decorated m) Tells agrees goes_on [] s 0 header_size m.instrs refl
      (record { same = same; stands = at_start m; inside = inside })
