use Rattle.std.proofs.Common.{◌≡◌, ◌+◌, ◌*◌, ◌++◌, map, drop}
use Rattle.kernel_text.specs.Sound.{words_in}
use Rattle.kernel_text.specs.Views.{declaration_of}
use Rattle.kernel_lang.specs.Layout.{sums_from}
use Rattle.kernel_lang.proofs.declarations.push_sums.Given as goal

-- the declarations that are left have the words and the sums that are left
abbrev pub invariant-loop-d : goal.invariant-loop-d
invariant-loop-d l =
    (l.addr + 8 * words_in (map declaration_of (drop l.d-index l.decls)) ≡ 8 * words_in (map declaration_of l.decls))
    × (record l.program { asks = l.program.asks ++ sums_from l.addr (map declaration_of (drop l.d-index l.decls)) } ≡ record l.fn.program { asks = l.fn.program.asks ++ sums_from 0 (map declaration_of l.decls) })
