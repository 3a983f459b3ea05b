use Rattle.std.proofs.Common.{◌≡◌, refl, sym, ap, ◌∙◌, subst, ◌+◌, ◌<◌, ◌≤◌, ◌^◌, length, arith}
use Rattle.gsl_words.specs.declared.module.Module.{Module}
use Rattle.gsl_ids.specs.Table.{number_of}
use Rattle.gsl_machine.specs.Functions.{from_first_label}
use Rattle.gsl_leaves.specs.Table.{told}
use Rattle.gsl_frames.specs.declared.taken.Taken.{Taken}
use Rattle.gsl_frames.specs.Frames.{frame, told_taken}
use Rattle.gsl_positions.specs.Positions.{left}
use Rattle.gsl_step.specs.declared.machine.Machine.{Machine}
use Rattle.gsl_step_values.proofs.Two.{told_low}
use Rattle.gsl_step_entering.specs.Begun.{PutsAllInitial}
use Rattle.gsl_step_entering.specs.Entered.{base_of, begin_at, given_slots}
use Rattle.gsl_step_entering.specs.Passed.{PassesAll, with_slots}
use Rattle.gsl_step_entering.proofs.calling.enter.Goals as goal

pub returns : goal.returns
returns c fits =
    let m = c.args.operands.now in
    let now = c.args.machine.now in
    let body_now = c.args.machine.now.standing.body in
    let few = fits.variables.few in
    let same = c.definitions-definitions.ensures ∙ c.leaves.ensures ∙ c.frames-frames.ensures in
    let taken : c.frame_at-taken.result ≡ told_taken (frame m (left m now.standing.body)) =
    subst (λ (n : Module). length n.instrs < 2 ^ 32 → c.frame_at-taken.result ≡ told_taken (frame n (left n now.standing.body))) c.frames-frames.ensures c.frame_at-taken.ensures few in
    let low = fits.base in
    let low_words = fits.begin in
    let most_is = ap (λ (t : Taken). t.most) taken ∙ told_low (frame m (left m now.standing.body)).most (omega (arith, low)) in
    let words_is = ap (λ (t : Taken). t.variables) taken ∙ told_low (frame m (left m now.standing.body)).variables (omega (arith, low_words)) in
    let base : c.saturating_add-base.result ≡ base_of m now = (let e = c.saturating_add-base.ensures in omega (arith, e, most_is, low)) in
    let begin : c.saturating_add-begin.result ≡ begin_at m now = (let e = c.saturating_add-begin.ensures in omega (arith, e, words_is, low_words)) in
    let body : c.number-body.result ≡ number_of m c.args.function = c.number-body.ensures ∙ ap (λ n. number_of n c.args.function) same in
    let passed = (subst (λ n. PassesAll m c.args.arguments.now n now c.put_arguments.new.machine) base c.put_arguments.ensures) fits.pass in
    let puts : PutsAllInitial m (given_slots m now c.args.arguments.now) (number_of m c.args.function) (begin_at m now) now.words c.put_variables.new.words =
    subst (λ n. PutsAllInitial m (given_slots m now c.args.arguments.now) n (begin_at m now) now.words c.put_variables.new.words) body
    (subst (λ n. PutsAllInitial m (given_slots m now c.args.arguments.now) c.number-body.result n now.words c.put_variables.new.words) begin
    (subst (λ (x : Machine). PutsAllInitial m x.slots c.number-body.result c.saturating_add-begin.result x.words c.put_variables.new.words) passed c.put_variables.ensures)) in
    let first = subst (λ (n : Module). length n.instrs < 2 ^ 32 → from_first_label (left n c.number-body.result) ≡ left n c.first_at-first.result) same c.first_at-first.ensures few in
    record {
      first = ap (λ n. from_first_label (left m n)) (sym body) ∙ first;
      standing = ap (λ n. record { at = c.first_at-first.result; body = n; slots = c.saturating_add-base.result; variables = c.saturating_add-begin.result }) body
          ∙ ap (λ n. record { at = c.first_at-first.result; body = number_of m c.args.function; slots = n; variables = c.saturating_add-begin.result }) base
          ∙ ap (λ n. record { at = c.first_at-first.result; body = number_of m c.args.function; slots = base_of m now; variables = n }) begin;
      callers = ap (λ (x : Machine). x.callers) passed;
      slots = ap (λ (x : Machine). x.slots) passed;
      words = puts fits.variables;
      buffers = ap (λ (x : Machine). x.buffers) passed;
      left = ap (λ (x : Machine). x.choices) passed;
    }
