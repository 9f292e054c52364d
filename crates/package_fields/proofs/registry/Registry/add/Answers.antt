use Rattle.std.proofs.Common.{rules, arith, ◌≡◌, ◌++◌, ◌∷◌, []}
use Rattle.std.proofs.lemmas.Grind.{common_steps}
use Rattle.package_fields.proofs.Sound.{IsSound-after}
use Rattle.package_fields.proofs.registry.Registry.add.Goals as goal

pub invariant_of-self-2 : goal.invariant_of-self-2
invariant_of-self-2 c =
    let names : c.push.new.self.items ≡ c.self.inside.packages.items ++ c.args.declared.name ∷ [] = grind (arith, common_steps) in
    let fields : c.append.new.self.items ≡ c.self.inside.fields.items ++ c.args.declared.fields = grind (arith, common_steps) in
    IsSound-after c.self.inside.packages.items _ c.self.inside.fields.items _ c.args.declared c.self.invariant (search rules) names fields
