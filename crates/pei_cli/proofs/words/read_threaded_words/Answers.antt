use Rattle.std.proofs.Common.{ap, ◌∙◌}
use Rattle.pei_cli.specs.Jobs.{threaded_of}
use Rattle.pei_cli.proofs.AskedWords.{no_threads}
use Rattle.pei_cli.proofs.words.read_threaded_words.Goals as goal

pub returns-in_default : goal.returns-in_default
returns-in_default c =
    ap threaded_of c.in_ok-verb.ensures.cases.0
    ∙ no_threads c.in_ok-verb.verb.now c.in_ok-verb.rest.now (λ e. c.in_default.not-run (c.as_str.ensures ∙ e))
