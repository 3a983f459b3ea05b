-- Types are no higher, and have no more members, than they may (V18).
use Rattle.std.proofs.Common.{◌≡◌, ℕ, ◌+◌, Bool, true, false, cond, ◌&&◌, ◌||◌, List, [], ◌∷◌, ◌++◌, length, map, Option, Some, None, refl, sym, ap, ◌∙◌}
use Rattle.std.specs.Prelude.{nat_le}
use Rattle.std.specs.List.{list_all}
use Rattle.std.proofs.lemmas.Bool.{and_from, and_parts, true≢false}
use Rattle.gsl_words.specs.declared.module.Instr.{Instr}
use Rattle.gsl_words.specs.declared.module.Module.{Module}
use Rattle.gsl_instr.specs.declared.instruction.Instruction.{Instruction}
use Rattle.gsl_instr.specs.declared.instruction.Instruction.TheVariants as instruction
use Rattle.gsl_valid.specs.Ids.{defined, defines, needs}
use Rattle.gsl_valid.specs.Instruction.{passes_if, read}
use Rattle.gsl_valid.specs.Kinds.{kind}
use Rattle.gsl_valid.specs.LimitRules.{is_low, is_within, most_height, most_members, within_limits}
use Rattle.gsl_valid.specs.Placed.{Code}
use Rattle.gsl_valid.specs.Types.{height, highest, parts_of}
use Rattle.gsl_fitting_sections.specs.Sections.{declares}
use Rattle.gsl_fitting_sections.proofs.Outside.{Closed, Lies, precedes}
use Rattle.gsl_fitting_sections.proofs.Outside.Lies.{headed, named, marked, declared}
use Rattle.gsl_fitting_sections.proofs.Plain.{heads_precedes}

-- the parts of a type are among what its declaration uses
pub parts_used : (p : ℕ → Bool) (d : Option Instruction) → list_all p (needs d) ≡ true → list_all p (parts_of d) ≡ true
parts_used p None h = refl
parts_used p (Some instruction.Kill) h = refl
parts_used p (Some (instruction.TypeArray result element length)) h = and_from _ _ (and_parts (p element) _ h).0 refl
parts_used p (Some (instruction.TypeRuntimeArray result element)) h = h
parts_used p (Some (instruction.TypeStruct result members)) h = h
parts_used p (Some _) h = refl

map_same : (p : ℕ → Bool) (f g : ℕ → ℕ) (ids : List ℕ) → ((id : ℕ) → p id ≡ true → f id ≡ g id) → list_all p ids ≡ true → map f ids ≡ map g ids
map_same p f g [] same all = refl
map_same p f g (id ∷ ids) same all =
    let parts = and_parts (p id) (list_all p ids) all in ap (λ n. n ∷ map f ids) (same id parts.0) ∙ ap (λ ns. g id ∷ ns) (map_same p f g ids same parts.1)

-- The height of a type hangs on what is declared with it alone.
height_same : (earlier base : Code) → Closed earlier → (id : ℕ) → defined earlier id ≡ true → height (earlier ++ base) id ≡ height earlier id
height_same [] base closed id h = absurd (true≢false (sym h))
height_same (i ∷ earlier) base closed id h =
    by_case (defines i id) (ap (λ ns. 1 + highest ns) (map_same (defined earlier) (height (earlier ++ base)) (height earlier) (parts_of (read i)) (height_same earlier base closed.1) (parts_used (defined earlier) (read i) closed.0)))
    (height_same earlier base closed.1 id) h
  where
    by_case : (b : Bool) {x y u v : ℕ} {c : Bool} → x ≡ y → (c ≡ true → u ≡ v) → (b || c) ≡ true → cond b x u ≡ cond b y v
    by_case true here later h = here
    by_case false here later h = later h

low_same : (earlier base : Code) (ids : List ℕ) → Closed earlier → list_all (defined earlier) ids ≡ true → is_low (earlier ++ base) ids ≡ is_low earlier ids
low_same earlier base ids closed all = ap (λ ns. nat_le (1 + highest ns) most_height) (map_same (defined earlier) (height (earlier ++ base)) (height earlier) ids (height_same earlier base closed) all)

limits_behind : (m : Module) (earlier base : Code) (d : Option Instruction) → Closed earlier → declares (kind d) ≡ true → list_all (defined earlier) (needs d) ≡ true → passes_if (is_within m earlier) d ≡ true → passes_if (is_within m (earlier ++ base)) d ≡ true
limits_behind m earlier base None closed is uses h = refl
limits_behind m earlier base (Some (instruction.TypeArray result element count)) closed is uses h = low_same earlier base (element ∷ []) closed (and_from _ _ (and_parts (defined earlier element) _ uses).0 refl) ∙ h
limits_behind m earlier base (Some (instruction.TypeRuntimeArray result element)) closed is uses h = low_same earlier base (element ∷ []) closed uses ∙ h
limits_behind m earlier base (Some (instruction.TypeStruct result members)) closed is uses h = ap (λ b. nat_le (length members) most_members && b) (low_same earlier base members closed uses) ∙ h
limits_behind m earlier base (Some (instruction.Function type result control function_type)) closed is uses h = absurd (true≢false (sym is))
limits_behind m earlier base (Some _) closed is uses h = h

precedes_limits : (m : Module) (before : Code) (d : Option Instruction) → precedes (kind d) ≡ true → passes_if (is_within m before) d ≡ true
precedes_limits m before None h = refl
precedes_limits m before (Some instruction.Kill) h = refl
precedes_limits m before (Some _) h = cc

module _ (m : Module) where
  pub limits_pass : (before : Code) (i : Instr) → Lies m before i → within_limits m before i ≡ true
  limits_pass before i (headed p) = precedes_limits m before (read i) (heads_precedes (kind (read i)) p.is)
  limits_pass before i (named p) = precedes_limits m before (read i) (ap precedes p.name.is)
  limits_pass before i (marked p) = precedes_limits m before (read i) (ap precedes p.mark.is)
  limits_pass before i (declared p) =
      ap (λ c. passes_if (is_within m c) (read i)) p.is ∙ limits_behind m p.earlier p.base (read i) p.closed p.declaration.is p.declaration.uses p.declaration.limits
