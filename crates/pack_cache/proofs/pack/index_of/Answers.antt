use Rattle.std.proofs.Common.{subst, sym, Option, ℕ}
use Rattle.pack_cache.specs.Packs.{IsIndex}
use Rattle.pack_cache.proofs.Places.{index_is}
use Rattle.pack_cache.proofs.pack.index_of.Goals as goal

pub returns-in-Err : goal.returns-in-Err
returns-in-Err c = subst (λ (answer : Option ℕ). IsIndex c.args.places.now c.args.at answer) (sym c.first_index_of.ensures) (index_is c.args.places.now c.args.at)
