-- Where what an instruction gives stands, and where code stands.
use Rattle.std.proofs.Common.{◌≡◌, refl, sym, ap, ◌∙◌, subst, ℕ, zero, suc, ◌+◌, ◌<◌, true, false, List, [], ◌∷◌, length, drop, take, Some, inl, inr, arith}
use Rattle.std.specs.List.{AllByRecursion}
use Rattle.std.specs.Prelude.{◌==◌}
use Rattle.std.proofs.lemmas.Bool.{and_parts, cases_Bool, cond-false, cond-true, or_left, or_right, true≢false}
use Rattle.gsl_instr.specs.declared.op.TheConstants as op
use Rattle.gsl_words.specs.declared.module.Instr.{Instr}
use Rattle.gsl_words.specs.declared.module.Module.{Module}
use Rattle.gsl_valid.specs.CallRules.{is_last}
use Rattle.gsl_valid.specs.FunctionRules.{gives, may_stand_here, outside}
use Rattle.gsl_valid.specs.Ids.{defined, defines, result}
use Rattle.gsl_valid.specs.Instruction.{read}
use Rattle.gsl_valid.specs.Kinds.{Kind, Begins, kind}
use Rattle.gsl_valid.specs.Placed.{Code, Placed}
use Rattle.gsl_valid.specs.Search.{passed}
use Rattle.gsl_valid.specs.Types.{begins, defined_as}
use Rattle.gsl_valid.specs.Where.{where_at}
use Rattle.gsl_kinds.specs.Runtimes.{front}
use Rattle.gsl_positions.specs.Positions.{behind, left, place_of}
use Rattle.gsl_positions.proofs.Standing.{below, left_is}
use Rattle.gsl_sound_code.specs.Rules.{KeepAll, Keeps}
use Rattle.gsl_sound_code.specs.Spots.{Spot}
use Rattle.gsl_sound_code.proofs.Looks.{Kept}
use Rattle.gsl_sound_code.proofs.Opcodes.{reads_end}
use Rattle.gsl_sound_code.proofs.Walks.{walk}
use Rattle.gsl_sound_values.proofs.Unfolded.{later_not, passed_whole, result_defines}
use Rattle.gsl_frames.specs.Frames.{place, place_in, taken_in}
use Rattle.gsl_frames.specs.Taken.{in_front}
use Rattle.gsl_shown.proofs.Bounds.{StaysIn}

-- ---- instructions by numbers

pub instr_there : (code : Code) (at : ℕ) → at < length code → (i : Instr) × (drop at code ≡ i ∷ drop (at + 1) code)
instr_there [] at within = absurd (omega (arith, within))
instr_there (i ∷ code) zero within = (i, refl)
instr_there (i ∷ code) (suc at) within =
    let later = instr_there code at (omega (arith, within)) in
    let next : suc (at + 1) ≡ suc at + 1 = omega arith in
    (later.0, later.1 ∙ ap (λ n. later.0 ∷ drop n (i ∷ code)) next)

-- An instruction of a number keeps the rules behind those in front of it.
pub keep_from : (m : Module) (before code : Code) (at : ℕ) (i : Instr) (rest : Code) → KeepAll m before code → drop at code ≡ i ∷ rest → Keeps m (passed before (take at code)) i rest × KeepAll m (i ∷ passed before (take at code)) rest
keep_from m before [] zero i rest keep is = absurd (cc)
keep_from m before [] (suc at) i rest keep is = absurd (cc)
keep_from m before (j ∷ code) zero i rest keep is =
    let same : j ≡ i = cc in
    let later : code ≡ rest = cc in
    subst (λ c. Keeps m before i c × KeepAll m (i ∷ before) c) later (subst (λ k. Keeps m before k code × KeepAll m (k ∷ before) code) same keep)
keep_from m before (j ∷ code) (suc at) i rest keep is = keep_from m (j ∷ before) code at i rest keep.1 is

-- ---- places

place_stays : (m : Module) (before code : Code) (id : ℕ) → KeepAll m before code → defined before id ≡ true → place_in m (passed before code) id ≡ place_in m before id
place_stays m before [] id keep is = refl
place_stays m before (i ∷ code) id keep is = place_stays m (i ∷ before) code id keep.1 (or_right (defines i id) _ is) ∙ cond-false (defines i id) _ _ (later_not m before i code id keep.0 is)

-- what an instruction gives stands behind what is taken in front of it
pub place_given : (m : Module) (kept : Kept m) (at id : ℕ) (i : Instr) (rest : Code) → drop at m.instrs ≡ i ∷ rest → result (read i) ≡ Some id → place m id ≡ in_front (kind (read i)) (taken_in m (front m at))
place_given m kept at id i rest here gives =
    let keep = keep_from m [] m.instrs at i rest kept.all here in
    let defines_it = result_defines i id gives in
    ap (λ c. place_in m c id) (sym (passed_whole m (i ∷ front m at) rest keep.1))
    ∙ place_stays m (i ∷ front m at) rest id keep.1 (or_left _ _ defines_it)
    ∙ cond-true (defines i id) _ _ defines_it

-- ---- what is left

-- The next instruction, by its number, and what is left behind it.
pub record StandsAt (m : Module) (at : ℕ) (p : Placed) (more : List Placed) : Type 0 where
  pub here : drop at m.instrs ≡ p.instr ∷ drop (at + 1) m.instrs
  pub within : at < length m.instrs
  pub behind_it : more ≡ left m (at + 1)

pub stands_at : (m : Module) (at : ℕ) (p : Placed) (more : List Placed) → left m at ≡ p ∷ more → is_last (kind (read p.instr)) ≡ false → StandsAt m at p more
stands_at m at p more is goes_on =
    let within = below m at (let size : length (left m at) ≡ suc (length more) = ap length is in omega (arith, size)) in
    let it = instr_there m.instrs at within in
    let both : p ∷ more ≡ record { at = place_of m at; instr = it.0 } ∷ behind m at it.0.op = sym is ∙ left_is m at it.0 it.1 in
    let first : p ≡ record { at = place_of m at; instr = it.0 } = cc in
    let later : more ≡ behind m at it.0.op = cc in
    let same : p.instr ≡ it.0 = ap (λ (q : Placed). q.instr) first in
    let open_end : (it.0.op == op.FUNCTION_END) ≡ false = elim (cases_Bool (it.0.op == op.FUNCTION_END)) [
      | inl ends ↦ absurd (true≢false (sym (ap (λ d. is_last (kind d)) (reads_end it.0 ends)) ∙ ap (λ (i : Instr). is_last (kind (read i))) (sym same) ∙ goes_on))
      | inr goes ↦ goes
    ] in
    record { here = it.1 ∙ ap (λ i. i ∷ drop (at + 1) m.instrs) (sym same); within = within; behind_it = later ∙ cond-false (it.0.op == op.FUNCTION_END) [] (left m (at + 1)) open_end }

-- within a function no other begins
pub stays_in : (m : Module) (kept : Kept m) (body : List Placed) (returned : ℕ) (before : Code) (rest : List Placed) → Spot m body returned before rest → AllByRecursion StaysIn rest
stays_in m kept body returned before rest spot = walk m kept body returned StaysIn (λ before p code keeps started. by_kind before p code keeps started (kind (read p.instr)) refl) before rest spot
  where
    by_kind : (before : Code) (p : Placed) (code : Code) → Keeps m before p.instr code → outside (where_at m before).standing ≡ false → (k : Kind) → kind (read p.instr) ≡ k → begins k ≡ false
    by_kind before p code keeps started (Begins type id function_type) is =
        absurd (true≢false (sym (and_parts (outside (where_at m before).standing) (gives type (defined_as m function_type)) (ap (may_stand_here m _ (where_at m before).standing) (sym is) ∙ keeps.shape)).0 ∙ started))
    by_kind before p code keeps started _ is = refl
