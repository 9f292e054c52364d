use Rattle.std.proofs.Common.{◌≤◌, length, arith}
use Rattle.mesh_input.proofs.ReadLemmas.{front-more, file-ended}
use Rattle.mesh_input.proofs.file.feed_next.Goals as goal

pub returns-in-Ok-clause-more : goal.returns-in-Ok-clause-more
returns-in-Ok-clause-more g c =
    let within : c.in_ok-count.count ≤ length c.read_piece.new.into = omega (arith, c.in_ok-count.ensures.within) in
    front-more (g.D.Depot.seen c.args.depot.now).inputs c.args.name.now c.args.reader.now c.feed.new.self c.args.from c.args.piece.now c.read_piece.new.into
    c.in_ok-count.count within c.in_ok-count.ensures.piece c.in-Ok.ensures.ok

pub returns-in-Ok-clause-last : goal.returns-in-Ok-clause-last
returns-in-Ok-clause-last g c none room front =
    file-ended (g.D.Depot.seen c.args.depot.now).inputs c.args.name.now c.args.reader.now c.feed.new.self c.args.from 1048576 c.args.piece.now c.read_piece.new.into
    c.in_ok-count.count none room c.requires.place c.in_ok-count.ensures.piece c.in-Ok.ensures.ok front
