use Rattle.std.proofs.Common.{◌∙◌, ap}
use Rattle.std.specs.Prelude.{is_some}
use Rattle.pei_asm.specs.Stored.{stored}
use Rattle.pei_asm.proofs.Placing.{placed_where_defined}
use Rattle.pei_asm.proofs.lines.Lines.defines.Goals as goal

pub returns : goal.returns
returns c = c.is_some.ensures ∙ ap is_some (c.place.ensures ∙ c.requires.labels c.args.label.now) ∙ placed_where_defined (stored c.args.self.now) c.args.label.now
