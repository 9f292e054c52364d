use Rattle.masked_cycles.proofs.Wishes.{tags_follow, wishes_agree}
use Rattle.masked_cycles.proofs.laws.wish_law.Goals as goal

pub returns-clause-wishes : goal.returns-clause-wishes
returns-clause-wishes c = wishes_agree

pub returns-clause-tags : goal.returns-clause-tags
returns-clause-tags c = tags_follow
