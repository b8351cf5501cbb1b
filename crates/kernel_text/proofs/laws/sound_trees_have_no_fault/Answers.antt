use Rattle.kernel_text.proofs.ReturningWhole.{sound_is_faultless}
use Rattle.kernel_text.proofs.laws.sound_trees_have_no_fault.Goals as goal

pub returns : goal.returns
returns c = record { faultless = sound_is_faultless }
