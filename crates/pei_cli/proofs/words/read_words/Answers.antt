use Rattle.std.proofs.Common.{ap, ◌∙◌}
use Rattle.pei_cli.specs.Jobs.{asked_of}
use Rattle.pei_cli.proofs.AskedWords.{other_verb}
use Rattle.pei_cli.proofs.words.read_words.Goals as goal

pub returns-in_default : goal.returns-in_default
returns-in_default c =
    ap asked_of c.in_ok-verb.ensures.cases.0
    ∙ other_verb c.in_ok-verb.verb.now c.in_ok-verb.rest.now (λ e. c.in_default.not-asm (c.as_str.ensures ∙ e)) (λ e. c.in_default.not-sched (c.as_str.ensures ∙ e)) (λ e. c.in_default.not-check (c.as_str.ensures ∙ e)) (λ e. c.in_default.not-gen (c.as_str.ensures ∙ e)) (λ e. c.in_default.not-kernel (c.as_str.ensures ∙ e)) (λ e. c.in_default.not-ksched (c.as_str.ensures ∙ e))
