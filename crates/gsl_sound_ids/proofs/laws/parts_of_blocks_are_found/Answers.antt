use Rattle.gsl_sound_code.proofs.Looks.{kept}
use Rattle.gsl_sound_ids.proofs.Laid.{part_stands}
use Rattle.gsl_sound_ids.proofs.laws.parts_of_blocks_are_found.Goals as goal

pub returns : goal.returns
returns c m variable offset type index size valid stands below =
    let p = part_stands m (kept m valid) variable offset type index size stands below in (p.offset, p.pointee, p.is, p.stands)
