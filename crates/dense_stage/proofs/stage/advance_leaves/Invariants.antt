use Rattle.dense_stage.proofs.stage.advance_leaves.Given as goal

abbrev pub ghost-stage_each : goal.ghost-stage_each
ghost-stage_each g a = g.x

abbrev pub ghost-own_fluxes : goal.ghost-own_fluxes
ghost-own_fluxes g a = g.x.lists

abbrev pub ghost-correct : goal.ghost-correct
ghost-correct g a = g.x

abbrev pub ghost-domain_flows : goal.ghost-domain_flows
ghost-domain_flows g a = g.x

abbrev pub ghost-stage_leaves : goal.ghost-stage_leaves
ghost-stage_leaves g a = g.x
