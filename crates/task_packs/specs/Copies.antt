-- The places of a pack.
use Rattle.std.specs.Prelude.{List}
use Rattle.sparse_pool.specs.declared.place.Place.{Place}
use Rattle.pack_cache.specs.declared.pack.Pack.{Pack}

abbrev pub places_of : Pack → List Place
places_of pack = pack.places
