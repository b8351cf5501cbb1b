use Rattle.history_laws.proofs.Journals.{legal_sound, machine_sound, guarded_sound}
use Rattle.history_laws.proofs.laws.legal_journals_are_sound.Goals as goal

pub returns : goal.returns
returns c = record { legal = legal_sound; alone = machine_sound; guarded = guarded_sound }
