use Rattle.flux_regions.proofs.Regions as regions
use Rattle.flux_regions.proofs.laws.flux_region_law.Goals as goal

pub returns : goal.returns
returns c = regions.flux_parts_are_regions
