use Rattle.std.proofs.Common.{◌∙◌, ap}
use Rattle.kernel_text.specs.Known.{kind_of}
use Rattle.kernel_text.proofs.Lookups.{kind_by_bytes}
use Rattle.kernel_text.proofs.names.DeclaredNames.kind.Goals as goal

pub returns : goal.returns
returns c =
    c.copied.ensures ∙ c.get.ensures.value ∙ kind_by_bytes c.args.name.now c.self.inside.kinds.entries ∙ ap (λ declared. kind_of declared c.args.name.now) c.self.view_is
