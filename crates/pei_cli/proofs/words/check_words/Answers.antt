use Rattle.std.proofs.Common.{◌≡◌, List, ℕ, subst}
use Rattle.pei_cli.specs.Words.{machine_as}
use Rattle.pei_cli.specs.Commands.{machine_word}
use Rattle.pei_cli.proofs.AskedWords.{asked_check}
use Rattle.pei_cli.proofs.words.check_words.Goals as goal

pub returns-clause-some : goal.returns-clause-some
returns-clause-some c =
    asked_check c.args.words.now c.machine-item.result c.machine_named.result c.in-len3.len_at_least c.in-len3.len_below c.machine-item.is
    (subst (λ (w : List ℕ). machine_word w ≡ machine_as w c.machine_named.result) c.as_str.ensures c.machine_named.ensures.named)
