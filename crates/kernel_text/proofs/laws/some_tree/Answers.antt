use Rattle.kernel_text.proofs.GivenWhole.{faultless_spells}
use Rattle.kernel_text.proofs.laws.some_tree.Goals as goal

pub returns : goal.returns
returns c = record { tree = faultless_spells }
