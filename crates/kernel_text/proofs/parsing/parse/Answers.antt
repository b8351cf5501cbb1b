use Rattle.std.proofs.Common.{None, sym, ap, ◌∙◌}
use Rattle.kernel_text.specs.Readings.{a_kernel}
use Rattle.kernel_text.specs.Views.{kernel_of}
use Rattle.kernel_text.specs.Built.{tokens_in, continues}
use Rattle.kernel_text.proofs.Whole.{spells, never_misfits, token_second}
use Rattle.kernel_text.proofs.WalkingWhole.{faultless_is_sound}
use Rattle.kernel_text.proofs.parsing.parse.Goals as goal

pub returns-in-Ok-clause-ok : goal.returns-in-Ok-clause-ok
returns-in-Ok-clause-ok c =
    spells c.args.text.now c.in_ok-tokens.tokens.items.items (kernel_of c.in-Ok.tree) c.in_ok-tokens.ensures.tokens (ap tokens_in (sym c.as_slice.ensures.value) ∙ c.in-Ok.ensures.spelled) c.in-Ok.ensures.grammar

pub returns-in-Ok-clause-sound : goal.returns-in-Ok-clause-sound
returns-in-Ok-clause-sound c =
    faultless_is_sound c.args.text.now (kernel_of c.in-Ok.tree)
    (token_second c.args.text.now c.in_ok-tokens.tokens.items.items c.in_ok-tokens.tokens.end None c.in_ok-tokens.ensures.tokens c.in_ok-tokens.ensures.end c.in_ok-tokens.ensures.sound c.in_ok-check.ensures.ok)
    (spells c.args.text.now c.in_ok-tokens.tokens.items.items (kernel_of c.in-Ok.tree) c.in_ok-tokens.ensures.tokens (ap tokens_in (sym c.as_slice.ensures.value) ∙ c.in-Ok.ensures.spelled) c.in-Ok.ensures.grammar)

-- tokens without a fault have a tree
pub unreachable-requires : goal.unreachable-requires
unreachable-requires c =
    never_misfits c.in_ok-tokens.tokens.end c.in_ok-tokens.tokens.items.items c.in_ok-check.ensures.ok
    (ap (λ xs. continues (tokens_in xs) a_kernel) (sym c.as_slice.ensures.value) ∙ c.in-Err-Misfit.ensures.sticks c.in-Err-Misfit.field-0-is)
