use Rattle.journal_texts.proofs.TextsApart.{texts_tell_events}
use Rattle.journal_texts.proofs.journal.text_law.Goals as goal

pub returns : goal.returns
returns c = texts_tell_events
