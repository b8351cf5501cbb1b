use Rattle.std.proofs.Common.{◌≡◌, ◌∙◌, ◌-◌, ◌≤◌, ℕ, List, Some, drop, length, option_map, ap, subst, sym, refl, arith, length-drop}
use Rattle.std.proofs.lemmas.List.{take_all}
use Rattle.pei_cli.specs.Words.{machine_as, output_as}
use Rattle.pei_cli.specs.Commands.{ScheduledRun, Sched, KernelSched, machine_word, output_words, schedule_word, turns_word}
use Rattle.pei_cli.specs.Jobs.{Asked, Job, Runs, RunsKernel, policy_of_word}
use Rattle.pei_cli.proofs.AskedWords.{Asks, asked_run}
use Rattle.pei_cli.proofs.words.sched_words.Goals as goal

pub returns-clause-some : goal.returns-clause-some
returns-clause-some c =
    let words : List (List ℕ) = c.args.words.now
    in let counts : turns_word c.turns-item.result ≡ Some c.in_ok-turns.turns = ap turns_word (sym c.as_str.ensures) ∙ (sym c.decimal_up_to.ensures ∙ c.in_ok-turns.was)
    in let seeds : option_map policy_of_word (schedule_word c.seed-item.result) ≡ Some c.in_ok-policy.policy =
    ap (λ w. option_map policy_of_word (schedule_word w)) (sym c.as_str-2.ensures) ∙ (sym c.policy.ensures ∙ c.in_ok-policy.was)
    in let within : length (drop 4 words) ≤ length words - 4 = omega (arith, length-drop 4 words)
    in let written : output_words (drop 4 words) ≡ Some (output_as c.in_ok-output.output) =
    ap output_words (sym (take_all (length words - 4) (drop 4 words) within)) ∙ (sym c.output_named.ensures ∙ ap (option_map output_as) c.in_ok-output.was)
    in let named : machine_word c.machine-item.result ≡ machine_as c.machine-item.result c.machine_named.result =
    subst (λ (w : List ℕ). machine_word w ≡ machine_as w c.machine_named.result) c.as_str-3.ensures c.machine_named.ensures.named
    in let asked = λ (run : ScheduledRun) (asks : Job → Asked) (same : Asks run asks).
    asked_run run asks same words c.machine-item.result c.seed-item.result c.turns-item.result (drop 4 words) c.machine_named.result c.in_ok-policy.policy c.in_ok-turns.turns c.in_ok-output.output
    c.in-len4-up.len_at_least c.machine-item.is c.seed-item.is c.turns-item.is refl seeds counts named written
    in (asked Sched Runs (λ p m s n o. refl), asked KernelSched RunsKernel (λ p m s n o. refl))
