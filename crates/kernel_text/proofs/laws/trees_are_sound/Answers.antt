use Rattle.kernel_text.proofs.WalkingWhole.{faultless_is_sound}
use Rattle.kernel_text.proofs.laws.trees_are_sound.Goals as goal

pub returns : goal.returns
returns c = record { sound = faultless_is_sound }
