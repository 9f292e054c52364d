-- Which packs are noted.
use Rattle.std.specs.Prelude.{◌≡◌, ◌≢◌, ◌⊎◌, ℕ, ◌<◌, Option, None, Some, List, cond, length, nat_eq, slice_index_or, slice_set}
use Rattle.sparse_pool.specs.declared.place.PackKind.{PackKind}
use Rattle.sparse_pool.specs.declared.place.PackKind.TheVariants.{All, Ghost, Flux}
use Rattle.pack_cache.specs.declared.pack.Pack.{Pack}

-- the packs that are noted of a partition, one of a kind at most
pub record Noted : Type 0 where
  pub all : Option Pack
  pub ghost_zones : Option Pack
  pub fluxes : Option Pack

-- the pack that is noted of a kind
abbrev pub of_kind : Noted → PackKind → Option Pack
of_kind n All = n.all
of_kind n Ghost = n.ghost_zones
of_kind n Flux = n.fluxes

-- the same with another pack, or none, of a kind
abbrev pub with_kind : Noted → PackKind → Option Pack → Noted
with_kind n All pack = record n { all = pack }
with_kind n Ghost pack = record n { ghost_zones = pack }
with_kind n Flux pack = record n { fluxes = pack }

-- a partition of which no pack is noted
abbrev pub none_noted : Noted
none_noted = record { all = None; ghost_zones = None; fluxes = None }

-- the packs of a partition
abbrev pub of_partition : List Noted → ℕ → Noted
of_partition notes p = slice_index_or notes p none_noted

-- a pack where it has this epoch, and nothing where it has another
abbrev pub at_epoch : ℕ → Option Pack → Option Pack
at_epoch epoch None = None
at_epoch epoch (Some pack) = cond (nat_eq pack.epoch epoch) (Some pack) None

-- the pack that is noted under a partition, a kind and an epoch
abbrev pub noted_under : List Noted → ℕ → PackKind → ℕ → Option Pack
noted_under notes p kind epoch = at_epoch epoch (of_kind (of_partition notes p) kind)

-- a pack takes the place of the one under its partition and kind
abbrev pub with_note : List Noted → Pack → List Noted
with_note notes pack = slice_set notes pack.partition (with_kind (of_partition notes pack.partition) pack.kind (Some pack))

-- the packs of a partition that have this epoch
abbrev pub fresh : ℕ → Noted → Noted
fresh epoch n = record { all = at_epoch epoch n.all; ghost_zones = at_epoch epoch n.ghost_zones; fluxes = at_epoch epoch n.fluxes }

-- those of a partition that have another epoch are dropped
abbrev pub without_stale : List Noted → ℕ → ℕ → List Noted
without_stale notes p epoch = slice_set notes p (fresh epoch (of_partition notes p))

-- A pack that is noted is found under its partition, kind and epoch and under no other epoch; what is
-- noted under another partition or kind stays. Of a partition whose stale packs are dropped those of the
-- epoch stay and no other is found; other partitions stay as they are.
pub record NotesLaw (notes : List Noted) : Type 0 where
  pub found : (pack : Pack) → pack.partition < length notes → noted_under (with_note notes pack) pack.partition pack.kind pack.epoch ≡ Some pack
  pub replaced : (pack : Pack) (epoch : ℕ) → pack.partition < length notes → epoch ≢ pack.epoch → noted_under (with_note notes pack) pack.partition pack.kind epoch ≡ None
  pub others_stay : (pack : Pack) (p : ℕ) (kind : PackKind) (epoch : ℕ) → pack.partition < length notes → (p ≢ pack.partition) ⊎ (kind ≢ pack.kind)
      → noted_under (with_note notes pack) p kind epoch ≡ noted_under notes p kind epoch
  pub fresh_stay : (p : ℕ) (kind : PackKind) (epoch : ℕ) → p < length notes → noted_under (without_stale notes p epoch) p kind epoch ≡ noted_under notes p kind epoch
  pub stale_go : (p : ℕ) (kind : PackKind) (epoch other : ℕ) → p < length notes → other ≢ epoch → noted_under (without_stale notes p epoch) p kind other ≡ None
  pub elsewhere : (p q : ℕ) (kind : PackKind) (epoch other : ℕ) → q ≢ p → noted_under (without_stale notes p epoch) q kind other ≡ noted_under notes q kind other
