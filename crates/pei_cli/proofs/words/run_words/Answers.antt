use Rattle.std.proofs.Common.{◌≡◌, ◌∙◌, ◌-◌, ◌≤◌, ℕ, List, Some, drop, length, option_map, ap, subst, sym, refl, arith, length-drop}
use Rattle.std.proofs.lemmas.List.{take_all}
use Rattle.pei_cli.specs.Words.{machine_as, output_as}
use Rattle.pei_cli.specs.Commands.{machine_word, output_words}
use Rattle.pei_cli.proofs.AskedWords.{asked_threads}
use Rattle.pei_cli.proofs.words.run_words.Goals as goal

pub returns-clause-some : goal.returns-clause-some
returns-clause-some c =
    let words : List (List ℕ) = c.args.words.now
    in let within : length (drop 2 words) ≤ length words - 2 = omega (arith, length-drop 2 words)
    in let written : output_words (drop 2 words) ≡ Some (output_as c.in_ok-output.output) =
    ap output_words (sym (take_all (length words - 2) (drop 2 words) within)) ∙ (sym c.output_named.ensures ∙ ap (option_map output_as) c.in_ok-output.was)
    in asked_threads words c.machine-item.result (drop 2 words) c.machine_named.result c.in_ok-output.output
    c.in-len2-up.len_at_least c.machine-item.is refl
    (subst (λ (w : List ℕ). machine_word w ≡ machine_as w c.machine_named.result) c.as_str.ensures c.machine_named.ensures.named) written
