-- What changes of places keep of a shelf.
use Rattle.std.specs.Prelude.{◌≡◌, ◌≤◌, ◌+◌, length}
use Rattle.alloc_epochs.specs.Shelf.{Shelved}

-- the same blocks and fields, and one change at most
pub record KeepsShape (old new : Shelved) : Type 0 where
  pub first : new.first ≡ old.first
  pub fields : new.fields ≡ old.fields
  pub blocks : length new.keys ≡ length old.keys
  pub epoch : new.epoch ≤ old.epoch + 1
