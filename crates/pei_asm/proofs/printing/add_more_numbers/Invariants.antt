use Rattle.std.proofs.Common.{◌≡◌, ◌++◌, codes, decimal, drop, flat_map, string_bytes}
use Rattle.pei_asm.proofs.printing.add_more_numbers.Given as goal

abbrev pub invariant-loop-n : goal.invariant-loop-n
invariant-loop-n l = string_bytes l.text ++ flat_map (λ n. codes ", " ++ decimal n) (drop l.n-index l.numbers) ≡ string_bytes l.fn.text ++ flat_map (λ n. codes ", " ++ decimal n) l.numbers
