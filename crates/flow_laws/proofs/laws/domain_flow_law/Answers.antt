use Rattle.flow_laws.proofs.Flows as flows
use Rattle.flow_laws.proofs.laws.domain_flow_law.Goals as goal

pub returns : goal.returns
returns c = flows.domain_flows
