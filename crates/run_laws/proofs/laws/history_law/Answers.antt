use Rattle.run_laws.proofs.CycleTotals.{cycles_balance}
use Rattle.run_laws.proofs.RunRows.{history_balances}
use Rattle.run_laws.proofs.laws.history_law.Goals as goal

pub returns-clause-cycles : goal.returns-clause-cycles
returns-clause-cycles c = cycles_balance

pub returns-clause-rows : goal.returns-clause-rows
returns-clause-rows c = history_balances
