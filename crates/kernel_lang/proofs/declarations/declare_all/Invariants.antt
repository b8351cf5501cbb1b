use Rattle.std.proofs.Common.{◌≡◌, ◌+◌, ◌*◌, ◌++◌, map, drop}
use Rattle.kernel_text.specs.Sound.{names_in, words_in}
use Rattle.kernel_text.specs.Views.{declaration_of}
use Rattle.kernel_lang.specs.Homes.{homes_from}
use Rattle.kernel_lang.proofs.declarations.declare_all.Given as goal

-- the declarations that are left have the words, the names and the homes that are left
abbrev pub invariant-loop-d : goal.invariant-loop-d
invariant-loop-d l =
    (l.base + 8 * words_in (map declaration_of (drop l.d-index l.decls)) ≡ 8 * words_in (map declaration_of l.decls))
    × (map (λ e. e.0) l.names.homes ++ names_in (map declaration_of (drop l.d-index l.decls)) ≡ names_in (map declaration_of l.decls))
    × (record l.names { homes = l.names.homes ++ homes_from l.base (map declaration_of (drop l.d-index l.decls)) } ≡ record l.fn.names { homes = homes_from 0 (map declaration_of l.decls) })
