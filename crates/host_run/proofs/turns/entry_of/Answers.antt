use Rattle.std.proofs.Common.{◌≡◌, ◌<◌, ◌∙◌, ap, sym, subst}
use Rattle.pei_types.specs.Blocks.{fold_of}
use Rattle.pei_types.proofs.Groups.{entry_below}
use Rattle.pei_types.proofs.Logarithms.{log_within}
use Rattle.host_run.proofs.turns.entry_of.Goals as goal

pub fold-requires-clause-some : goal.fold-requires-clause-some
fold-requires-clause-some c =
    rw c.entry_bits.ensures (log_within c.args.spec.now.directory c.args.spec.now.directory_in_limits.1 c.args.spec.now.directory_in_limits.0.0 c.args.spec.now.directory_in_limits.0.1).0

pub fold-requires-clause-most : goal.fold-requires-clause-most
fold-requires-clause-most c =
    rw c.entry_bits.ensures (log_within c.args.spec.now.directory c.args.spec.now.directory_in_limits.1 c.args.spec.now.directory_in_limits.0.0 c.args.spec.now.directory_in_limits.0.1).1

pub returns-clause-entry : goal.returns-clause-entry
returns-clause-entry c = c.fold.ensures ∙ ap (fold_of c.args.block.0) c.entry_bits.ensures

pub returns-clause-below : goal.returns-clause-below
returns-clause-below c =
    subst (λ n. n < c.args.spec.now.directory) (sym (c.fold.ensures ∙ ap (fold_of c.args.block.0) c.entry_bits.ensures)) (entry_below c.args.spec.now c.args.block)
