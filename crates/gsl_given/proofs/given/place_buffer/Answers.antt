use Rattle.gsl_given.proofs.Placing.{put_there}
use Rattle.gsl_given.proofs.given.place_buffer.Goals as goal

pub returns : goal.returns
returns c =
    put_there c.args.buffer c.args.buffers c.as_slice.result.now c.into_vec-items.result.items c.insert.new.self.items _ c.buffer_place-index.result
    c.as_slice.ensures c.buffer_place-index.ensures.value c.into_vec-items.ensures c.in_ok-insert.ensures.items c.from_vec.ensures
