use Rattle.std.proofs.Common.{◌≡◌, ◌<◌, ◌-◌, true, length, ◌∙◌, ap, arith}
use Rattle.mesh_outside.specs.Gained.{finished}
use Rattle.mesh_outside.proofs.Lasts.{set-last}
use Rattle.mesh_outside.proofs.written.Written.finish.Goals as goal

pub returns : goal.returns
returns c =
    let some : 0 < length c.self.inside.files.items = rw c.self.view_is c.requires in
    let place : c.len-last.result - 1 ≡ length c.self.inside.files.items - 1 = omega arith in
    set-last (λ last. record last { whole = true }) c.self.inside.files.items (c.len-last.result - 1) c.index_mut.result.now some place c.index_mut.ensures.value
    ∙ ap finished c.self.view_is
