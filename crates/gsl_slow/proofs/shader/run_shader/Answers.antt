use Rattle.std.proofs.Common.{sym, ap, ◌∙◌, get_or, set}
use Rattle.std.specs.Prelude.{position, Vec}
use Rattle.std.specs.declared.alloc.Global.{Global}
use Rattle.gsl_base.specs.declared.input.Buffer.{Buffer}
use Rattle.gsl_cmd.specs.Buffers.{is_at}
use Rattle.gsl_slow.proofs.Places.{slow_shader_is, has_place}
use Rattle.gsl_slow.proofs.shader.run_shader.Goals as goal
use Rattle.gsl_slow.proofs.shader.run_shader.Goals.{in-Some+in_ok-run_in, in_default}

pub returns : goal.returns
returns c =
    elim c.match-place_of.branch [
      | in-Some+in_ok-run_in w ↦
          slow_shader_is c.args.program.now c.args.input w.in-Some.place c.len.result w.index_mut.result.now w.run_in.new.buffer c.from_vec.result c.new.result
          (ap (position (is_at 0 0)) (sym (c.deref.ensures.value ∙ c.into_vec-buffers.ensures)) ∙ sym w.in-Some.ensures)
          (w.index_mut.ensures.value ∙ ap (λ items. get_or items w.in-Some.place w.index_mut.result.now) c.into_vec-buffers.ensures)
          w.in_ok-run_in.ensures
          (c.from_vec.ensures ∙ ap (λ (v : Vec Buffer Global). v.items) w.buffers-is
          ∙ ap (λ items. set items w.in-Some.place w.run_in.new.buffer) c.into_vec-buffers.ensures)
          c.new.ensures
          c.len.ensures
      | in_default w ↦
          absurd (has_place c.args.program.now c.args.input c.requires.fits
          (ap (position (is_at 0 0)) (sym (c.deref.ensures.value ∙ c.into_vec-buffers.ensures)) ∙ sym w.in_default.ensures))
    ]
