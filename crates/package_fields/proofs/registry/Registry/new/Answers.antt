use Rattle.package_fields.proofs.Sound.{IsSound-empty}
use Rattle.package_fields.proofs.registry.Registry.new.Goals as goal

pub invariant_of-result : goal.invariant_of-result
invariant_of-result c = rw (c.new.ensures.items, c.new-2.ensures.items) IsSound-empty
