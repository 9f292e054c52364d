use Rattle.generated_decks.proofs.Reader.{accepted}
use Rattle.generated_decks.proofs.accepted.generated_decks_are_accepted.Goals as goal

pub returns : goal.returns
returns c seed small large = accepted seed large
