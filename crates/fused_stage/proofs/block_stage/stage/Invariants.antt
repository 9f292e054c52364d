use Rattle.upwind_fluxes.specs.declared.donor.Donor.TheVariants.{Below, Above}
use Rattle.fused_stage.specs.Stage.{flux_by}
use Rattle.fused_stage.proofs.Axes.{StagedBelow}
use Rattle.fused_stage.proofs.block_stage.stage.Given as goal

abbrev pub invariant-loop-axis : goal.invariant-loop-axis
invariant-loop-axis l = StagedBelow l.layout l.axis (flux_by l.layout l.rates l.closed l.cells Below) (flux_by l.layout l.rates l.closed l.cells Above) l.cells l.initial.into l.into
