use Rattle.std.proofs.Common.{◌≡◌, arith, rules}
use Rattle.pei_loader.proofs.EntriesFound.{refused_at, none_refused}
use Rattle.pei_loader.proofs.entries.set_entries.Goals as goal

pub returns-in_default-clause-refused : goal.returns-in_default-clause-refused
returns-in_default-clause-refused c =
    refused_at c.args.program.now c.args.spec.now c.args.image.now.words c.loop-core.image c.loop-core.core c.loop-core.invariant (search rules) (search rules)

pub returns-clause-entered : goal.returns-clause-entered
returns-clause-entered c =
    let all : c.loop-core.core ≡ c.args.spec.now.cores = omega arith in
    none_refused c.args.program.now c.args.spec.now c.args.image.now.words c.loop-core.image c.loop-core.core all c.loop-core.invariant
