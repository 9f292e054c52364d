use Rattle.cycle_stores.proofs.Kept.{kept_no_more}
use Rattle.cycle_stores.proofs.keeping.keep_place_no_more.Goals as goal

pub returns : goal.returns
returns c = kept_no_more c.args.kept.now c.restart_epoch.new.self c.release.new.self c.args.at c.release.result
    c.requires c.restart_epoch.ensures c.release.ensures.key c.release.ensures.released c.release.ensures.absent
