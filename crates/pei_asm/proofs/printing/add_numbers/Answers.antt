use Rattle.std.proofs.Common.{◌++◌, codes, decimal, flat_map, string_bytes, append_assoc, sym, ◌∙◌, ap}
use Rattle.std.proofs.lemmas.Result.{MatchResult-weaker}
use Rattle.pei_asm.proofs.AddingOn.{listed_numbers}
use Rattle.pei_asm.proofs.printing.add_numbers.Goals as goal

pub returns : goal.returns
returns c =
    let before = string_bytes c.args.text.now
    in let more = flat_map (λ n. codes ", " ++ decimal n) c.args.more.now
    in record {
      text =
          MatchResult-weaker c.add_more_numbers.result c.add_more_numbers.ensures.text
          (λ ok now. now ∙ ap (λ xs. xs ++ more) c.in_ok-add_number.ensures ∙ append_assoc before (decimal c.args.first) more ∙ ap (λ xs. before ++ xs) (sym (listed_numbers c.args.first c.args.more.now)))
          (λ error none. none);
      numbers = MatchResult-weaker c.add_more_numbers.result c.add_more_numbers.ensures.text (λ ok now. c.add_more_numbers.ensures.numbers) (λ error none. none);
    }
