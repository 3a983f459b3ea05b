use Rattle.std.proofs.Common.{◌-◌, arith}
use Rattle.gsl_step_values.proofs.Picked.{picked_first, picked_second}
use Rattle.gsl_step_values.proofs.shuffling.picked.Goals as goal

pub returns-then-position-first : goal.returns-then-position-first
returns-then-position-first c room_a room_b =
    picked_first c.args.slots.now c.args.first.place c.args.first.count c.args.second.place c.args.second.count c.args.position c.word_at.result c.saturating_add.result room_a (omega (arith, c.if-position-first.true, c.from-position.ensures))
    (omega (arith, c.saturating_add.ensures, c.if-position-first.true, c.from-position.ensures, room_a, c.len-room.ensures, c.len-room.type_inv)) c.word_at.ensures

pub returns-then-behind-second : goal.returns-then-behind-second
returns-then-behind-second c room_a room_b =
    picked_second c.args.slots.now c.args.first.place c.args.first.count c.args.second.place c.args.second.count c.args.position (c.from-position.result - c.args.first.count) c.word_at-then-behind-second.result c.saturating_add-then-behind-second.result room_a room_b
    (omega (arith, c.if-position-first.false, c.from-position.ensures)) (omega (arith, c.if-behind-second.true))
    (omega (arith, c.saturating_add-then-behind-second.ensures, c.if-behind-second.true, room_b, c.len-room.ensures, c.len-room.type_inv)) c.word_at-then-behind-second.ensures
