use Rattle.kernel_text.proofs.OnceWhole.{spelled_once}
use Rattle.kernel_text.proofs.laws.one_tree.Goals as goal

pub returns : goal.returns
returns c = record { same = spelled_once }
