use Rattle.std.proofs.Common.{◌≡◌, ◌<◌, ◌-◌, ◌++◌, length, ◌∙◌, ap, arith}
use Rattle.mesh_outside.specs.Gained.{appended}
use Rattle.mesh_outside.proofs.Lasts.{set-last}
use Rattle.mesh_outside.proofs.written.Written.append.Goals as goal

pub returns-clause-ok : goal.returns-clause-ok
returns-clause-ok c =
    let some : 0 < length c.self.inside.files.items = rw c.self.view_is c.requires in
    let place : c.len-last.result - 1 ≡ length c.self.inside.files.items - 1 = omega arith in
    rw c.in_ok-extend.ensures.ok
    (set-last (λ last. record last { bytes = last.bytes ++ c.args.bytes.now }) c.self.inside.files.items (c.len-last.result - 1) c.index_mut.result.now some place c.index_mut.ensures.value
    ∙ ap (appended c.args.bytes.now) c.self.view_is)
