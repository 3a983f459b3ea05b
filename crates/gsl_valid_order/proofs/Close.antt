-- The pass over uses finds what V13 finds.
use Rattle.std.proofs.Common.{◌≡◌, ℕ, zero, suc, ◌+◌, ◌≤◌, Bool, true, false, true≢false, cond, not, ◌&&◌, ◌||◌, [], ◌∷◌, ◌++◌, length, drop, Option, Some, None, refl, ap, sym, subst, ◌∙◌, if◌then◌else◌, arith}
use Rattle.std.specs.Prelude.{nat_lt, nat_le, nat_eq}
use Rattle.std.specs.List.{AllByRecursion}
use Rattle.std.proofs.lemmas.Bool.{and_parts, or_left, or_right, not-true, lt-ltb, le-ltb, eqb-true}
use Rattle.std.proofs.lemmas.List.{drop_all, length_push}
use Rattle.gsl_words.specs.declared.module.Instr.{Instr}
use Rattle.gsl_words.specs.declared.module.Module.{Module}
use Rattle.gsl_words.specs.Instructions.{IsInTable}
use Rattle.gsl_valid.specs.Instruction.{read}
use Rattle.gsl_valid.specs.Ids.{result, is_id, defines, defined, needs, mentions}
use Rattle.gsl_valid.specs.IdsDefinedOnce.{defines_once, is_new, ids_defined_once}
use Rattle.gsl_valid.specs.LocalityRules.{of_block, of_function, is_near, uses_near, locality}
use Rattle.gsl_valid.specs.Placed.{Code, placed, header_size}
use Rattle.gsl_valid.specs.Search.{Passes, passed}
use Rattle.gsl_valid.specs.Types.{defined_as}
use Rattle.gsl_valid.specs.Where.{where_at, in_function_after, bounds_block, bounds_function}
use Rattle.gsl_valid.proofs.Searching.{passed_append, each_passes}
use Rattle.gsl_ids.specs.Pass.{first_failed}
use Rattle.gsl_ids.specs.Table.{is_defined_from}
use Rattle.gsl_ids.specs.Uses.{all_used}
use Rattle.gsl_ids.proofs.Bodies.{Since, since_next, as_long, since_defined}
use Rattle.gsl_ids.proofs.Defining.{both, used_is}
use Rattle.gsl_ids.proofs.Numbers.{same_all, in_front, turned, or_false, passed_length}
use Rattle.gsl_ids.proofs.Passes.{same_place}
use Rattle.gsl_ids.proofs.Stands.{Stands, at_start, one_on}
use Rattle.gsl_valid_order.specs.declared.near.NearTest.{NearTest}
use Rattle.gsl_valid_order.specs.Nearby.{near_by}

abbrev pub passes : NearTest → ℕ → Instr → Bool
passes s at i = all_used (near_by s.definitions.now s.inside s.body s.block at) (near_by s.definitions.now s.inside s.body s.block at) i

abbrev pub behind : NearTest → ℕ → Instr → NearTest
behind s at i =
    record {
      definitions = s.definitions;
      inside = in_function_after s.inside (read i);
      body = if bounds_function (read i) then at + 1 else s.body;
      block = if bounds_block (read i) then at + 1 else s.block;
    }

module _ (m : Module) (once : ids_defined_once m ≡ None) where
  -- What the pass keeps.
  record Tells (before code : Code) (s : NearTest) : Type 0 where
    same : s.definitions.now ≡ m
    stands : Stands m before code
    fits : AllByRecursion IsInTable code
    inside : s.inside ≡ (where_at m before).inside
    body : Since s.body stands.front (where_at m before).body
    block : Since s.block stands.front (where_at m before).block

  near_same : (before code : Code) (s : NearTest) → Tells before code s → (id : ℕ) → near_by m s.inside s.body s.block (length before) id ≡ is_near m before id
  near_same before code s t id =
      let d = defined_as m id in
      ap (λ b. cond (of_block d) b (not (of_function d) || not s.inside || is_defined_from m s.body (length before) id)) (since_defined m once before code t.stands s.block _ id t.block)
      ∙ ap (λ b. cond (of_block d) (defined (where_at m before).block id) (not (of_function d) || not b || is_defined_from m s.body (length before) id)) t.inside
      ∙ ap (λ b. cond (of_block d) (defined (where_at m before).block id) (not (of_function d) || not (where_at m before).inside || b)) (since_defined m once before code t.stands s.body _ id t.body)

  agrees : (before code : Code) (s : NearTest) (i : Instr) → Tells before (i ∷ code) s → passes s (length before) i ≡ uses_near m before i
  agrees before code s i t =
      let near = near_by m s.inside s.body s.block (length before) in
      ap (λ n. all_used (near_by n s.inside s.body s.block (length before)) (near_by n s.inside s.body s.block (length before)) i) t.same
      ∙ used_is near near i t.fits.0
      ∙ both (same_all near (is_near m before) (near_same before (i ∷ code) s t) (needs (read i))) (same_all near (is_near m before) (near_same before (i ∷ code) s t) (mentions (read i)))

  goes_on : (before code : Code) (s : NearTest) (i : Instr) → Tells before (i ∷ code) s → uses_near m before i ≡ true → Tells (i ∷ before) code (behind s (length before) i)
  goes_on before code s i t passed =
      let at = as_long m once before (i ∷ code) t.stands in
      record {
        same = t.same;
        stands = one_on m before code i t.stands;
        fits = t.fits.1;
        inside = ap (λ b. in_function_after b (read i)) t.inside;
        body = since_next s.body (length before) t.stands.front (where_at m before).body i (bounds_function (read i)) at t.body;
        block = since_next s.block (length before) t.stands.front (where_at m before).block i (bounds_block (read i)) at t.block;
      }

  pub finds : (s : NearTest) → s.definitions.now ≡ m → s.inside ≡ false → s.body ≡ 0 → s.block ≡ 0 → AllByRecursion IsInTable m.instrs →
      first_failed passes behind s 0 (placed m) ≡ locality m
  finds s same inside body block fits =
      same_place passes behind (uses_near m) Tells agrees goes_on [] s 0 header_size m.instrs refl
      (record {
        same = same;
        stands = at_start m;
        fits = fits;
        inside = inside;
        body = record { low = omega (arith, body); is = ap (λ n. passed [] (drop n [])) (sym body) };
        block = record { low = omega (arith, block); is = ap (λ n. passed [] (drop n [])) (sym block) };
      })
